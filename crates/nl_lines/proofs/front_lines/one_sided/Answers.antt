use Rattle.std.proofs.Common.{◌∷◌, [], Some, None, subst, sym}
use Rattle.nl_lines.specs.IntervalRows.{IsIntervalRow}
use Rattle.nl_lines.proofs.IntervalRows.{fixed_row, lower_row, upper_row}
use Rattle.nl_lines.proofs.front_lines.one_sided.Goals as goal

pub returns-in-49 : goal.returns-in-49
returns-in-49 c = λ word is.
    subst (λ k. IsIntervalRow ((k ∷ []) ∷ word ∷ []) (record { lo = None; hi = Some c.args.value })) (sym c.in-49.is) (upper_row word c.args.value is)

pub returns-in-50 : goal.returns-in-50
returns-in-50 c = λ word is.
    subst (λ k. IsIntervalRow ((k ∷ []) ∷ word ∷ []) (record { lo = Some c.args.value; hi = None })) (sym c.in-50.is) (lower_row word c.args.value is)

pub returns-in-52 : goal.returns-in-52
returns-in-52 c = λ word is.
    subst (λ k. IsIntervalRow ((k ∷ []) ∷ word ∷ []) (record { lo = Some c.args.value; hi = Some c.args.value })) (sym c.in-52.is) (fixed_row word c.args.value is)
