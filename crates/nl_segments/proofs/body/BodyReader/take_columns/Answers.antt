use Rattle.std.proofs.Common.{refl, subst, sym}
use Rattle.nl_lines.specs.declared.awaited.Awaited.TheVariants.{ColumnCount}
use Rattle.nl_segments.specs.Held.{body_of}
use Rattle.nl_segments.specs.InsideTermRuns.{TakesLines}
use Rattle.nl_segments.proofs.LineFronts.{awaits_lines}
use Rattle.nl_segments.proofs.body.BodyReader.take_columns.Goals as goal

pub returns : goal.returns
returns c =
    let b = body_of c.args.self.now in
    let front = c.give_columns-front.result in
    let awaits = awaits_lines ColumnCount c.left.result b c.in-Some.current refl c.in-Some.is c.requires.awaited c.requires.held c.left.ensures in
    subst (TakesLines b c.args.piece.now c.args.number front)
    (λ i. record b { columns = c.give_columns-front.new.columns.items; current = sym (rw c.in-Some.is at c.count_lines.ensures) i })
    (c.give_columns-front.ensures.takes b c.in-Some.current c.args.number (record { columns_are = refl; awaits = awaits }))
