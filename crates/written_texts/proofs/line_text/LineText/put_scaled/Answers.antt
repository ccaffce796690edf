use Rattle.std.proofs.Common.{◌≤◌, ap, arith, to_z-of_z, unsigned_abs}
use Rattle.written_texts.proofs.Points.{places-before, zeros-before}
use Rattle.written_texts.proofs.line_text.LineText.put_scaled.Goals as goal

pub returns-then-e-lt0-clause-short : goal.returns-then-e-lt0-clause-short
returns-then-e-lt0-clause-short g c =
    let few : c.unsigned_abs-places.result ≤ 38 = omega (arith, c.requires.few, c.unsigned_abs-places.ensures.value, ap unsigned_abs (to_z-of_z c.ranges.e)) in
    places-before c.unsigned_abs-places.result c.args.number c.args.self.now _ few (omega (arith, c.ranges.number.fits)) c.put_places.ensures

pub returns-else-e-lt0-clause-short : goal.returns-else-e-lt0-clause-short
returns-else-e-lt0-clause-short g c =
    let few : c.unsigned_abs-places.result ≤ 20 = omega (arith, c.requires.few, c.unsigned_abs-places.ensures.value, ap unsigned_abs (to_z-of_z c.ranges.e)) in
    zeros-before c.unsigned_abs-places.result c.args.number c.args.self.now _ few (omega (arith, c.ranges.number.fits)) c.put_zeros.ensures
