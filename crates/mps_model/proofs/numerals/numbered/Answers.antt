use Rattle.std.proofs.Common.{◌∙◌, sym}
use Rattle.mps_model.proofs.NumeralLemmas.{glued, index_of, none_empty, none_other, none_plain, none_below}
use Rattle.mps_model.proofs.numerals.numbered.Goals as goal

pub returns-in_default : goal.returns-in_default
returns-in_default c = none_empty c.args.letter c.args.count c.args.text.now c.in_default.len_below

pub returns-then-first-letter : goal.returns-then-first-letter
returns-then-first-letter c = none_other c.args.letter c.args.count c.args.text.now c.if-first-letter.true

pub returns-in-Some : goal.returns-in-Some
returns-in-Some c =
    sym (index_of c.args.letter c.args.count c.in-Some.number c.args.text.now c.requires c.if-number-count.true
    (glued c.args.letter _ c.args.text.now c.in-len1-up.len_at_least c.if-first-letter.false (c.in-Some.ensures.1 ∙ c.after_first.ensures)))

pub returns-in_default-plain_number : goal.returns-in_default-plain_number
returns-in_default-plain_number c = none_below c.args.letter c.args.count c.in-Some.number c.args.text.now c.requires
    c.in-Some.ensures.0 c.if-number-count.false (c.in-Some.ensures.1 ∙ c.after_first.ensures)

pub returns-in_default-plain_number-2 : goal.returns-in_default-plain_number-2
returns-in_default-plain_number-2 c = none_plain c.args.letter c.args.count c.args.text.now c.requires (λ k h e. c.in_default-plain_number.ensures k h (e ∙ sym c.after_first.ensures))
