use Rattle.std.proofs.Common.{sym}
use Rattle.mps_words.specs.InsideFronts.{IsPairText}
use Rattle.mps_reader.specs.InsideLines.{IsBoundText}
use Rattle.mps_reader.proofs.FrontLines.{some_more, with_number}
use Rattle.mps_reader.proofs.front_bounds.first_bound.Goals as goal

pub returns-then-needs_number : goal.returns-then-needs_number
returns-then-needs_number c =
    some_more c.first_pair.result (λ b. IsPairText c.args.text.now b.name.now b.value b.rest.now) (λ b. IsBoundText c.args.kind c.args.text.now b.name.now b.value b.rest.now)
    (λ b p. with_number c.args.kind c.args.text.now b.name.now b.value b.rest.now (sym c.if-needs_number.ensures) p) c.first_pair.ensures
