use Rattle.std.proofs.Common.{◌∙◌, ap, subst, subst₂, sym}
use Rattle.exact_numbers.specs.Values.{frac_value}
use Rattle.linear_program.specs.Lines.{Line}
use Rattle.linear_program.specs.Forms.{AddsScaled, IsWithin, form_line, is_kept_open, kept_constant, kept_places, kept_terms, parts_line}
use Rattle.linear_program.proofs.PlaceTerms.{lines_after, open_line}
use Rattle.linear_program.proofs.form.Form.add_scaled.Goals as goal

pub add_scaled-requires : goal.add_scaled-requires
add_scaled-requires g c = subst (λ n. IsWithin n c.args.other.now) (ap kept_places c.in-Open.is) (c.requires (ap is_kept_open c.in-Open.is))

pub returns-in-Open-clause-sums : goal.returns-in-Open-clause-sums
returns-in-Open-clause-sums g c =
    subst₂ (λ (a b : Line). AddsScaled a (frac_value c.args.k) (form_line c.args.other.now) b c.add_scaled.result)
    (sym (ap (λ q. parts_line (frac_value (kept_constant q)) (kept_terms q)) c.in-Open.is ∙ open_line c.in-Open.sum)) (sym (open_line c.add_scaled.new.self)) c.add_scaled.ensures.sums

pub returns-in-Open-clause-zero : goal.returns-in-Open-clause-zero
returns-in-Open-clause-zero g c = lines_after c.add_scaled.new.self c.add_scaled.result _ c.add_scaled.ensures.zero
