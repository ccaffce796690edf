use Rattle.std.proofs.Common.{◌≡◌, ◌∙◌, ◌+◌, ◌-◌, sym, ap, refl, arith, Some}
use Rattle.linear_program.specs.Lines.{line_value}
use Rattle.linear_fold.proofs.Folding.{form_within, slot_at}
use Rattle.linear_fold.proofs.fold.defined_part.Goals as goal

pub returns-clause-part : goal.returns-clause-part
returns-clause-part c i known are =
    let k = c.args.index - c.args.variables in
    let slot = slot_at c.args.slots.now k c.index-slots-index.result c.requires.given.below c.index-slots-index.is ∙ c.in-Some.is in
    let same : c.args.variables + (c.args.index - c.args.variables) ≡ c.args.index = (let h = c.requires.given.from in omega arith) in (
      refl,
      λ at. ap (known at) (sym same) ∙ are k c.in-Some.form slot at ∙ ap (λ l. Some (line_value c.args.variables l at)) (sym c.in_ok-copy-in-Some.ensures.line),
    )

pub returns-clause-within : goal.returns-clause-within
returns-clause-within c =
    form_within c.args.variables c.in_ok-copy-in-Some.copy c.in-Some.form c.in_ok-copy-in-Some.ensures.line c.in_ok-copy-in-Some.ensures.closed
    (c.requires.slots (c.args.index - c.args.variables) c.in-Some.form
    (slot_at c.args.slots.now (c.args.index - c.args.variables) c.index-slots-index.result c.requires.given.below
    c.index-slots-index.is ∙ c.in-Some.is))
