use Rattle.std.proofs.Common.{◌≡◌, ◌∙◌, sym, ap, subst}
use Rattle.linear_program.specs.Decimals.{AreDecimals}
use Rattle.exact_numbers.specs.Values.{frac_value, dec_value}
use Rattle.mps_model.specs.Mps.{objective_row, rhs_at}
use Rattle.mps_program.specs.Program.{values_of}
use Rattle.mps_program.specs.Terms.{has_wide_term}
use Rattle.mps_program.proofs.FormLemmas.{objective_wide_side, objective_is, objective_form_is}
use Rattle.mps_program.proofs.TermLemmas.{row_decimals}
use Rattle.mps_program.proofs.forms.objective_of.Goals as goal
use Rattle.mps_program.proofs.forms.objective_of.Goals.{After-of_dec}

value_is : (c : After-of_dec) → dec_value c.right_side-right.result ≡ rhs_at (values_of c.args.mps.now) (objective_row c.args.mps.now.rows)
value_is c = c.right_side-right.ensures ∙ ap (rhs_at (values_of c.args.mps.now)) c.requires.place

pub returns-in_default : goal.returns-in_default
returns-in_default c =
    let d = (goal.at.returns-in_default c).After-of_dec in
    objective_wide_side c.args.mps.now c.args.place c.right_side-right.result c.requires.place (value_is d) c.in_default.ensures

pub returns-then-has_wide_term : goal.returns-then-has_wide_term
returns-then-has_wide_term c =
    let d = (goal.at.returns-then-has_wide_term c).After-of_dec in
    objective_is c.args.mps.now c.args.place c.right_side-right.result c.requires.place (value_is d) c.args.own.now
    c.has_wide_term.result c.requires.own c.has_wide_term.ensures c.in-Some.ensures.0 ∙ c.if-has_wide_term.true

pub in_fractions-requires : goal.in_fractions-requires
in_fractions-requires c =
    let own = c.requires.own in
    subst (AreDecimals 0) (sym own) (row_decimals c.args.mps.now c.requires.valid.part.columns.entries c.args.place
    (ap has_wide_term (sym own) ∙ sym c.has_wide_term.ensures ∙ c.if-has_wide_term.false))

pub returns : goal.returns
returns c =
    let d = (goal.at.returns c).After-of_dec in
    let own = c.requires.own in (
      objective_is c.args.mps.now c.args.place c.right_side-right.result c.requires.place (value_is d) c.args.own.now
          c.has_wide_term.result own c.has_wide_term.ensures c.in-Some.ensures.0 ∙ c.if-has_wide_term.false,
      objective_form_is c.args.mps.now c.args.place c.right_side-right.result c.requires.place (value_is d)
          c.in_ok-form.form (frac_value c.neg.result) (frac_value c.in-Some.side) c.args.own.now own c.in-Some.ensures.1
          c.neg.ensures (record { line = c.in_ok-form.ensures.line; terms = c.in_ok-form.ensures.terms }),
    )
