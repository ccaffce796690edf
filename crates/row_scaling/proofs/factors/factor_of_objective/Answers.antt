use Rattle.std.proofs.Common.{rules, ◌≡◌, ◌≤◌, ◌^◌, ◌∷◌, [], ◌∙◌, ap, subst, pos, to_z, of_z}
use Rattle.std.specs.Int.{w128}
use Rattle.exact_numbers.specs.Values.{frac_value}
use Rattle.linear_program.specs.Forms.{form_line, form_terms}
use Rattle.row_scaling.specs.Fitting.{coefficients_in}
use Rattle.row_scaling.proofs.NumberLemmas.{first_number, fewer_wide, factor_positive}
use Rattle.row_scaling.proofs.factors.factor_of_objective.Goals as goal

pub returns-in_default : goal.returns-in_default
returns-in_default c =
    let x = (form_line c.args.objective.now).constant in
    fewer_wide (x ∷ []) (coefficients_in (form_terms c.args.objective.now)) (subst (λ n. 2 ^ 127 ≤ n) (first_number (frac_value c.constant.result) x c.constant.ensures) c.in_default.ensures)

pub with_terms-requires : goal.with_terms-requires
with_terms-requires c =
    let back : to_z w128 (of_z w128 c.in-Some.constant) ≡ c.in-Some.constant = search rules in
    factor_positive _ ((form_line c.args.objective.now).constant ∷ []) (back ∙ c.in-Some.ensures ∙ ap pos (first_number (frac_value c.constant.result) _ c.constant.ensures))

pub returns : goal.returns
returns c =
    let back : to_z w128 (of_z w128 c.in-Some.constant) ≡ c.in-Some.constant = search rules in
    c.with_terms.ensures.factor ((form_line c.args.objective.now).constant ∷ []) (back ∙ c.in-Some.ensures ∙ ap pos (first_number (frac_value c.constant.result) _ c.constant.ensures))
