use Rattle.std.proofs.Common.{◌∙◌, ℕ, pos, sym, ap, refl, subst, length, IfErr}
use Rattle.text_base.specs.Stopped.{IfFault}
use Rattle.exact_numbers.specs.Rational.{one_ℚ}
use Rattle.scaled_program.specs.Fits.{RowFits}
use Rattle.linear_program.specs.Coefs.{AreBelow}
use Rattle.linear_program.specs.Forms.{form_terms}
use Rattle.row_scaling.specs.Factored.{IsFactored, factor_for, row_for}
use Rattle.row_scaling.proofs.FitLemmas.{times_length}
use Rattle.row_scaling.proofs.NumberLemmas.{plain_terms}
use Rattle.row_scaling.proofs.PlainRows.{plain_factored, plain_row}
use Rattle.row_scaling.proofs.scaled_rows.move_row.Goals as goal

pub new-requires : goal.new-requires
new-requires c =
    plain_row 0 0 c.args.body c.args.side c.terms-terms.ensures.ascending c.requires c.in-Ok.terms c.in-Ok.ensures
    (sym c.constant.ensures ∙ c.in-Some.ensures.0) c.in-Some.sides.side c.in-Some.ensures.1 c.in-Some.sides.range
    c.in-Some.ensures.2

pub returns-in_ok-row-in-Ok-clause-scaled : goal.returns-in_ok-row-in-Ok-clause-scaled
returns-in_ok-row-in-Ok-clause-scaled c n i below =
    subst (λ w. IsFactored n i (row_for i c.args.body c.args.side) (record { factor = pos 1; row = w })) (sym c.in_ok-row-in-Ok.ensures)
    (plain_factored n i c.args.body c.args.side c.terms-terms.ensures.ascending c.requires c.in-Ok.terms c.in-Ok.ensures
    (sym c.constant.ensures ∙ c.in-Some.ensures.0) c.in-Some.sides.side c.in-Some.ensures.1 c.in-Some.sides.range
    c.in-Some.ensures.2 c.one-one.result c.one-one.ensures below)

pub returns-in_ok-row-in-Ok-clause-few : goal.returns-in_ok-row-in-Ok-clause-few
returns-in_ok-row-in-Ok-clause-few c =
    ap (λ v. length v.terms) c.in_ok-row-in-Ok.ensures ∙ times_length one_ℚ (form_terms c.args.body) c.in-Ok.terms (plain_terms one_ℚ refl c.in-Ok.terms (form_terms c.args.body) c.in-Ok.ensures)

pub returns-in-Err-clause-wide : goal.returns-in-Err-clause-wide
returns-in-Err-clause-wide c =
    subst (λ f. (n i : ℕ) → AreBelow n (form_terms f) → IfErr c.scale_row-in-Err.result
    (λ stop. IfFault stop (λ x. ¬ RowFits n (row_for i f c.args.side) (factor_for n (row_for i f c.args.side)))))
    c.in-Err.ensures c.scale_row-in-Err.ensures.wide
