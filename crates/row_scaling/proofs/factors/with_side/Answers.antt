use Rattle.std.proofs.Common.{rules, ◌≡◌, ◌≤◌, ◌^◌, ◌++◌, ◌∙◌, sym, ap, subst, pos, unsigned_abs, to_z, of_z, MatchOption}
use Rattle.std.specs.Int.{w128}
use Rattle.exact_numbers.specs.Values.{frac_value}
use Rattle.scaled_program.specs.Factor.{cofactor_of, least_factor}
use Rattle.exact_numbers.specs.Fits.{least_multiple}
use Rattle.row_scaling.specs.Fitting.{frac_side, listed}
use Rattle.row_scaling.proofs.NumberLemmas.{one_more}
use Rattle.row_scaling.proofs.factors.with_side.Goals as goal

pub returns-in-Some : goal.returns-in-Some
returns-in-Some c = λ xs e.
    let back : to_z w128 (of_z w128 c.args.factor) ≡ c.args.factor = search rules in
    let x = frac_value c.in-Some.number in
    let same = ap (λ z. least_multiple (unsigned_abs z) (cofactor_of x.bottom)) (back ∙ e) ∙ one_more xs x ∙ ap (λ o. least_factor (xs ++ listed (frac_side o))) (sym c.in-Some.is) in
    subst (λ n. MatchOption c.with_number.result (2 ^ 127 ≤ n) (λ k. k ≡ pos n)) same c.with_number.ensures
