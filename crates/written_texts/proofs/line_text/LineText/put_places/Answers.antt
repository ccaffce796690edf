use Rattle.std.proofs.Common.{◌≡◌, ◌∙◌, ◌+◌, ◌-◌, ◌/◌, ◌<◌, ◌^◌, suc, ◌++◌, length, ap, sym, arith}
use Rattle.std.proofs.lemmas.Fmt.{decimal_nonempty, length-decimal-le}
use Rattle.std.specs.Fmt.{decimal}
use Rattle.exact_numbers.specs.Written.{padded, with_point}
use Rattle.written_texts.proofs.Points.{one-place, no-place}
use Rattle.written_texts.proofs.line_text.LineText.put_places.Goals as goal

pub loop-preserved : goal.loop-preserved
loop-preserved g c =
    let left = c.loop.left in
    let small : left < 10 ^ 64 = omega (arith, c.loop.auto.left-fits) in
    let k = c.args.places - (c.loop.counter + 1) in
    let next : c.args.places - c.loop.counter ≡ suc k = omega (arith, c.loop-test.true) in
    record {
      rest = ap (λ text. with_point k (padded k (decimal (left / 10))) ++ text) c.put_byte.ensures
          ∙ one-place k left c.loop.self _ small (ap (λ k. with_point k (padded k (decimal left)) ++ c.loop.self) (sym next) ∙ c.loop.invariant.rest);
      size = omega (arith, ap length c.put_byte.ensures, c.loop.invariant.size);
    }

pub put_number-requires : goal.put_number-requires
put_number-requires g c =
    let small : c.loop.left < 2 ^ 64 = omega (arith, c.loop.auto.left-fits) in
    omega (
      arith,
      c.requires.places,
      c.requires.room,
      c.loop.auto.counter-end,
      ap length c.put_byte-2.ensures,
      c.loop.invariant.size,
      length-decimal-le 20 c.loop.left (omega arith) (omega arith) small,
    )

pub returns : goal.returns
returns g c =
    let left = c.loop.left in
    let small : left < 2 ^ 64 = omega (arith, c.loop.auto.left-fits) in
    let none : c.args.places - c.loop.counter ≡ 0 = omega (arith, c.loop-test.false) in
    c.put_number.ensures ∙ ap (λ text. decimal left ++ text) c.put_byte-2.ensures
    ∙ sym (no-place (decimal left) c.loop.self (decimal_nonempty left small))
    ∙ ap (λ k. with_point k (padded k (decimal left)) ++ c.loop.self) (sym none) ∙ c.loop.invariant.rest
