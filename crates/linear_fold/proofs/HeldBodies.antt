-- One body more, which may be held.
use Rattle.std.proofs.Common.{◌≡◌, ℕ, ◌+◌, ◌<◌, ◌≤◌, ◌∙◌, sym, ap, ap₂, subst, arith, Bool, false, List, [], ◌∷◌, ◌++◌, length, get_or}
use Rattle.nl_model.specs.declared.at.Owner.TheVariants.{Con, Obj}
use Rattle.nl_model.specs.File.{File}
use Rattle.nl_model.specs.Rules.{IsFile}
use Rattle.linear_program.specs.declared.form.Form.{Form}
use Rattle.linear_program.specs.Forms.{form_terms}
use Rattle.nl_model.specs.FoldFaults.{most_coefficients}
use Rattle.linear_fold.specs.declared.bodies.Bodies.{Bodies}
use Rattle.linear_fold.specs.InsideHeldBodies.{AreStillDecimals, HasBodies, IsBodyOf, IsStillDecimal, bodies_in, body_at, completed, completed_form}
use Rattle.linear_fold.specs.InsideOwnerFolds.{AreBodiesOf, AreFormsOf, IsFormOf, coefficients_of}
use Rattle.linear_fold.proofs.BodyLemmas.{one_more_body, one_more_count}
use Rattle.linear_fold.proofs.CompletionLemmas.{completed_length, completed_push, still_push}

module _ (f : File) (file : IsFile f) (i : ℕ) (within : i < f.counts.n_con) (hs hs2 : List Bool) (bs bs2 : List Form)
    (held : Bool) (form : Form) (n : length bs ≡ i) (m : length hs ≡ i) (e : hs2 ≡ hs ++ held ∷ [])
    (g : bs2 ≡ bs ++ form ∷ []) where
  rows : i < length f.terms
  rows = subst (λ k. i < k) (sym file.terms.rows) within

  all_more : completed hs2 f.terms bs2 ≡ completed hs f.terms bs ++ body_at f i held form ∷ []
  all_more =
      ap₂ (λ xs ys. completed xs f.terms ys) e g
      ∙ completed_push hs f.terms bs held form (omega (arith, n, m)) (omega (arith, n, rows))
      ∙ ap (λ k. completed hs f.terms bs ++ completed_form held (get_or f.terms k []) form ∷ []) n

  old_length : length (completed hs f.terms bs) ≡ i
  old_length = completed_length hs f.terms bs (omega (arith, n, m)) (omega (arith, n, rows)) ∙ n

  pub bodies_more : AreBodiesOf f 0 (completed hs f.terms bs) → IsBodyOf f i held form → AreBodiesOf f 0 (completed hs2 f.terms bs2)
  bodies_more all one =
      subst (AreBodiesOf f 0) (sym all_more)
      (one_more_body f 0 (completed hs f.terms bs) (body_at f i held form) all
      (let place : i ≡ 0 + length (completed hs f.terms bs) = omega (arith, old_length) in subst (λ k. IsFormOf f (Con k) (body_at f i held form)) place one.form_is))

  pub still_more : AreStillDecimals hs f.terms → IsBodyOf f i held form → AreStillDecimals hs2 f.terms
  still_more all one =
      subst (λ xs. AreStillDecimals xs f.terms) (sym e)
      (still_push hs f.terms held (omega (arith, m, rows)) all (subst (λ k. IsStillDecimal held (get_or f.terms k [])) (sym m) one.decimals))

  pub same_more : (hold : Bool) → (hold ≡ false → completed hs f.terms bs ≡ bs) → (hold ≡ false → held ≡ false) → hold ≡ false → completed hs2 f.terms bs2 ≡ bs2
  same_more hold all one none =
      all_more ∙ ap (λ xs. xs ++ body_at f i held form ∷ []) (all none) ∙ ap (λ h. bs ++ body_at f i h form ∷ []) (one none) ∙ sym g

  pub count_more : coefficients_of (completed hs2 f.terms bs2) ≡ coefficients_of (completed hs f.terms bs) + length (form_terms (body_at f i held form))
  count_more = ap coefficients_of all_more ∙ one_more_count (completed hs f.terms bs) (body_at f i held form)

pub forms_are : (f : File) → IsFile f → (k : ℕ) (hold : Bool) (v : Bodies) (form : Form) → HasBodies f hold v
    → IsFormOf f (Obj k) form → coefficients_of (bodies_in f v) + length (form_terms form) ≤ most_coefficients
    → AreFormsOf f k (bodies_in f v) form
forms_are f file k hold v form b o few =
    record {
      bodies_are = b.bodies_are;
      count = completed_length v.held.items f.terms v.forms.items (omega (arith, b.number, b.marks)) (omega (arith, b.number, file.terms.rows)) ∙ b.number;
      objective_is = o;
      few = few;
    }
