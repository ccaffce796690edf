use Rattle.std.proofs.Common.{◌≡◌, ◌∙◌, ap, sym, subst}
use Rattle.exact_numbers.specs.Values.{frac_value}
use Rattle.nl_model.specs.Expressions.{linear_terms}
use Rattle.linear_program.specs.Lines.{Line, constant_line}
use Rattle.linear_program.specs.Coefs.{coef_in}
use Rattle.linear_program.specs.Decimals.{AreDecimals, fraction_terms}
use Rattle.linear_program.specs.Forms.{form_line}
use Rattle.linear_fold.specs.declared.entries.Held.TheVariants.{Number}
use Rattle.linear_fold.specs.InsideFolds.{ComesToTerms}
use Rattle.linear_fold.specs.InsideHeld.{held_entry}
use Rattle.linear_fold.proofs.HeldLemmas.{number_line}
use Rattle.linear_fold.proofs.ascending.form_of_ascending.Goals as goal

pub of_terms-requires : goal.of_terms-requires
of_terms-requires g c = subst (AreDecimals 0) (sym c.in_ok-list-in-Number.ensures) c.in-Number.ensures.held.decimals

pub returns-in_ok-list-in-Number-clause-entry : goal.returns-in_ok-list-in-Number-clause-entry
returns-in_ok-list-in-Number-clause-entry g c =
    let form = c.args.number.now in
    let same : constant_line (frac_value c.constant.result) ≡ form_line form = ap constant_line c.constant.ensures ∙ sym (number_line form c.requires.number) in
    let h = subst (λ a. ComesToTerms a c.args.first (linear_terms c.args.terms.now) (held_entry c.args.terms.now (Number c.in-Number.constant))) same c.in-Number.ensures.held.entry in (
      h.0,
      c.of_terms.ensures.line ∙ ap (λ ts. let l : Line = record { constant = frac_value c.in-Number.constant; coef = coef_in (fraction_terms ts) } in l) c.in_ok-list-in-Number.ensures ∙ h.1,
    )
