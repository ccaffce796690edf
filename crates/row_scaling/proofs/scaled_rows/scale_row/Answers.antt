use Rattle.std.proofs.Common.{rules, ◌≡◌, ◌++◌, ◌∙◌, sym, ap, subst, length, to_z, of_z}
use Rattle.std.specs.Int.{w128}
use Rattle.exact_numbers.specs.Rational.{whole}
use Rattle.exact_numbers.specs.Values.{frac_value}
use Rattle.linear_program.specs.Forms.{form_terms}
use Rattle.row_scaling.specs.Factored.{IsFactored, row_for}
use Rattle.row_scaling.specs.Fitting.{coefficients_in, frac_side, listed, less_side, LessFits}
use Rattle.scaled_program.specs.Fits.{IfSide}
use Rattle.row_scaling.specs.Rows.{RowValue, IsScaledRow, side_value}
use Rattle.row_scaling.proofs.NumberLemmas.{factor_positive}
use Rattle.row_scaling.proofs.FitLemmas.{multiplier_some, is_scaled, factored, fault_map, no_factor_fits, no_scaled_fit, no_terms_fit, times_length}
use Rattle.row_scaling.proofs.scaled_rows.scale_row.Goals as goal

pub returns-in_default-factor_of_row-clause-wide : goal.returns-in_default-factor_of_row-clause-wide
returns-in_default-factor_of_row-clause-wide c = λ n i below.
    let s = c.in-Ok.ensures in
    let con = c.constant.ensures in
    no_factor_fits n i c.args.body.now c.args.side c.in_default-factor_of_row.ensures.ascending below (frac_side c.in-Ok.less.lo) (frac_side c.in-Ok.less.hi)
    (s.2 ∙ ap (λ x. less_side x (side_value c.args.side.lo)) con) (s.3 ∙ ap (λ x. less_side x (side_value c.args.side.hi)) con) c.in_default-factor_of_row.ensures.factor

pub whole-multiplier-requires : goal.whole-multiplier-requires
whole-multiplier-requires c =
    let back : to_z w128 (of_z w128 c.in-Some.factor) ≡ c.in-Some.factor = search rules in
    factor_positive _ (coefficients_in (form_terms c.args.body.now) ++ listed (frac_side c.in-Ok.less.lo) ++ listed (frac_side c.in-Ok.less.hi)) (back ∙ c.in-Some.ensures.factor)

pub returns-in_default-scaled_sides-clause-wide : goal.returns-in_default-scaled_sides-clause-wide
returns-in_default-scaled_sides-clause-wide c = λ n i below.
    let back : to_z w128 (of_z w128 c.in-Some.factor) ≡ c.in-Some.factor = search rules in
    let s = c.in-Ok.ensures in
    let con = c.constant.ensures in
    no_scaled_fit n i c.args.body.now c.args.side c.in-Some.ensures.ascending below (frac_side c.in-Ok.less.lo) (frac_side c.in-Ok.less.hi)
    (s.2 ∙ ap (λ x. less_side x (side_value c.args.side.lo)) con) (s.3 ∙ ap (λ x. less_side x (side_value c.args.side.hi)) con)
    (frac_value c.whole-multiplier.result) (c.whole-multiplier.ensures ∙ ap whole (back ∙ c.in-Some.ensures.factor)) c.in_default-scaled_sides.ensures

pub new-requires : goal.new-requires
new-requires c =
    let back : to_z w128 (of_z w128 c.in-Some.factor) ≡ c.in-Some.factor = search rules in
    let s = c.in-Ok.ensures in
    let p = c.in-Ok-scaled_sides.ensures in
    let xs = coefficients_in (form_terms c.args.body.now) ++ listed (frac_side c.in-Ok.less.lo) ++ listed (frac_side c.in-Ok.less.hi) in
    is_scaled (frac_value c.whole-multiplier.result) (frac_value c.constant.result) (side_value c.args.side.lo)
    (side_value c.args.side.hi) (frac_side c.in-Ok.less.lo) (frac_side c.in-Ok.less.hi) c.args.body.now
    _ c.in-Ok-scaled_sides.sides.side c.in-Ok-scaled_sides.sides.range s.2 s.3
    (multiplier_some _ xs (c.whole-multiplier.ensures ∙ ap whole (back ∙ c.in-Some.ensures.factor)))
    c.in-Some.ensures.ascending c.requires c.in-Ok-scaled_terms.ensures.scaled p.1 p.2 p.3

pub returns-in-Err-clause-wide : goal.returns-in-Err-clause-wide
returns-in-Err-clause-wide c = λ n i below.
    let back : to_z w128 (of_z w128 c.in-Some.factor) ≡ c.in-Some.factor = search rules in
    let s = c.in-Ok.ensures in
    let con = c.constant.ensures in
    fault_map c.in-Err.stop
    (no_terms_fit n i c.args.body.now c.args.side c.in-Some.ensures.ascending below (frac_side c.in-Ok.less.lo) (frac_side c.in-Ok.less.hi)
    (s.2 ∙ ap (λ x. less_side x (side_value c.args.side.lo)) con) (s.3 ∙ ap (λ x. less_side x (side_value c.args.side.hi)) con)
    (frac_value c.whole-multiplier.result) (c.whole-multiplier.ensures ∙ ap whole (back ∙ c.in-Some.ensures.factor)))
    c.in-Err.ensures.wide

pub returns-clause-scaled : goal.returns-clause-scaled
returns-clause-scaled c = λ n i below.
    let back : to_z w128 (of_z w128 c.in-Some.factor) ≡ c.in-Some.factor = search rules in
    let s = c.in-Ok.ensures in
    let con = c.constant.ensures in
    let p = c.in-Ok-scaled_sides.ensures in
    let b = c.args.body.now in
    let v : RowValue = record { terms = c.in-Ok-scaled_terms.terms; side = c.in-Ok-scaled_sides.sides.side; range = c.in-Ok-scaled_sides.sides.range } in
    let xs = coefficients_in (form_terms b) ++ listed (frac_side c.in-Ok.less.lo) ++ listed (frac_side c.in-Ok.less.hi) in
    let scaled : IsScaledRow v = is_scaled (frac_value c.whole-multiplier.result) (frac_value c.constant.result)
    (side_value c.args.side.lo) (side_value c.args.side.hi) (frac_side c.in-Ok.less.lo) (frac_side c.in-Ok.less.hi) b
    _ c.in-Ok-scaled_sides.sides.side c.in-Ok-scaled_sides.sides.range s.2 s.3
    (multiplier_some _ xs (c.whole-multiplier.ensures ∙ ap whole (back ∙ c.in-Some.ensures.factor)))
    c.in-Some.ensures.ascending c.requires c.in-Ok-scaled_terms.ensures.scaled p.1 p.2 p.3 in
    subst (λ w. IsFactored n i (row_for i b c.args.side) (record { factor = to_z w128 (of_z w128 c.in-Some.factor); row = w })) (sym c.in_ok-row.ensures)
    (factored n i b c.args.side c.in-Some.ensures.ascending below (frac_side c.in-Ok.less.lo) (frac_side c.in-Ok.less.hi)
    (s.2 ∙ ap (λ x. less_side x (side_value c.args.side.lo)) con) (s.3 ∙ ap (λ x. less_side x (side_value c.args.side.hi)) con)
    (frac_value c.whole-multiplier.result) (c.whole-multiplier.ensures ∙ ap whole (back ∙ c.in-Some.ensures.factor))
    _ c.whole-multiplier.result v (λ t. frac_value c.whole-multiplier.result) (back ∙ c.in-Some.ensures.factor)
    (subst (λ x. IfSide (LessFits x) (side_value c.args.side.lo)) con s.0) (subst (λ x. IfSide (LessFits x) (side_value c.args.side.hi)) con s.1) p.0 scaled
    c.in-Ok-scaled_terms.ensures.scaled p.1 p.2)

pub returns-clause-few : goal.returns-clause-few
returns-clause-few c = ap (λ v. length v.terms) c.in_ok-row.ensures ∙ times_length _ (form_terms c.args.body.now) _ c.in-Ok-scaled_terms.ensures.scaled
