-- The forms of bodies that are held, with their terms.
use Rattle.std.proofs.Common.{◌≡◌, ℕ, zero, suc, ◌+◌, ◌<◌, ◌≤◌, ◌∙◌, sym, ap, ap₂, refl, subst, arith, Bool, false, List, [], ◌∷◌, ◌++◌, append_assoc, drop, length, length-append, get_or, slice_set}
use Rattle.std.proofs.lemmas.List.{drop-drop}
use Rattle.exact_numbers.specs.declared.frac.Frac.{Frac}
use Rattle.exact_numbers.specs.Values.{frac_value}
use Rattle.linear_program.specs.declared.form.Form.{Form}
use Rattle.linear_program.specs.declared.form.Kept.{Kept}
use Rattle.linear_program.specs.declared.form.Kept.TheVariants.{Closed, Open}
use Rattle.linear_program.specs.Coefs.{Term}
use Rattle.linear_program.specs.Decimals.{DecimalTerm}
use Rattle.linear_program.specs.Forms.{form_terms, is_kept_open, is_open, kept_constant, kept_terms}
use Rattle.linear_program.proofs.DecimalLemmas.{same_frac}
use Rattle.linear_fold.specs.InsideHeldBodies.{AreStillDecimals, IsStillDecimal, completed, completed_form}

-- a closed form by its constant and its terms
closed_kept : (q : Kept) (k : Frac) (ts : List Term) → is_kept_open q ≡ false → kept_terms q ≡ ts → frac_value (kept_constant q) ≡ frac_value k → q ≡ Closed ts k
closed_kept (Closed us c) k ts o e f = ap₂ Closed e (same_frac c k f)
closed_kept (Open s) k ts o e f = absurd cc

pub closed_is : (r : Form) (k : Frac) (ts : List Term) → is_open r ≡ false → form_terms r ≡ ts → frac_value (kept_constant r.kept) ≡ frac_value k → r ≡ record { kept = Closed ts k }
closed_is r k ts o e f = let same = closed_kept r.kept k ts o e f in λ i. record { kept = same i }

-- ---- one body more
pub completed_push : (hs : List Bool) (tss : List (List DecimalTerm)) (bs : List Form) (h : Bool) (b : Form)
    → length hs ≡ length bs → length bs < length tss → completed (hs ++ h ∷ []) tss (bs ++ b ∷ [])
    ≡ completed hs tss bs ++ completed_form h (get_or tss (length bs) []) b ∷ []
completed_push [] [] bs h b n l = absurd (omega (arith, l))
completed_push [] (ts ∷ tss) [] h b n l = refl
completed_push [] (ts ∷ tss) (x ∷ bs) h b n l = absurd (omega (arith, n))
completed_push (g ∷ hs) [] bs h b n l = absurd (omega (arith, l))
completed_push (g ∷ hs) (ts ∷ tss) [] h b n l = absurd (omega (arith, n))
completed_push (g ∷ hs) (ts ∷ tss) (x ∷ bs) h b n l = ap (λ xs. completed_form g ts x ∷ xs) (completed_push hs tss bs h b (omega (arith, n)) (omega (arith, l)))

pub still_push : (hs : List Bool) (tss : List (List DecimalTerm)) (h : Bool) → length hs < length tss
    → AreStillDecimals hs tss → IsStillDecimal h (get_or tss (length hs) []) → AreStillDecimals (hs ++ h ∷ []) tss
still_push [] [] h l a s = absurd (omega (arith, l))
still_push [] (ts ∷ tss) h l a s = (s, tt)
still_push (g ∷ hs) [] h l a s = absurd (omega (arith, l))
still_push (g ∷ hs) (ts ∷ tss) h l a s = (a.0, still_push hs tss h (omega (arith, l)) a.1 s)

pub completed_length : (hs : List Bool) (tss : List (List DecimalTerm)) (bs : List Form) → length hs ≡ length bs → length bs ≤ length tss → length (completed hs tss bs) ≡ length bs
completed_length [] tss [] n m = refl
completed_length [] tss (b ∷ bs) n m = absurd (omega (arith, n))
completed_length (h ∷ hs) [] [] n m = absurd (omega (arith, n))
completed_length (h ∷ hs) [] (b ∷ bs) n m = absurd (omega (arith, m))
completed_length (h ∷ hs) (ts ∷ tss) [] n m = absurd (omega (arith, n))
completed_length (h ∷ hs) (ts ∷ tss) (b ∷ bs) n m = ap suc (completed_length hs tss bs (omega (arith, n)) (omega (arith, m)))

-- ---- body after body
-- those before a place have their terms
pub record AreCompleting (hs : List Bool) (tss : List (List DecimalTerm)) (bs now : List Form) (place : ℕ) : Type 0 where
  pub done : List Form
  pub count : length done ≡ place
  pub split : now ≡ done ++ drop place bs
  pub all : done ++ completed (drop place hs) (drop place tss) (drop place bs) ≡ completed hs tss bs
  pub still : AreStillDecimals (drop place hs) (drop place tss)

pub set_behind : (done : List Form) (b : Form) (rest : List Form) (x : Form) → slice_set (done ++ b ∷ rest) (length done) x ≡ (done ++ x ∷ []) ++ rest
set_behind [] b rest x = refl
set_behind (d ∷ done) b rest x = ap (λ xs. d ∷ xs) (set_behind done b rest x)

pub get_behind : (done : List Form) (b : Form) (rest : List Form) (d : Form) → get_or (done ++ b ∷ rest) (length done) d ≡ b
get_behind [] b rest d = refl
get_behind (x ∷ done) b rest d = get_behind done b rest d

module _ (hs : List Bool) (tss : List (List DecimalTerm)) (bs now : List Form) (place : ℕ) (c : AreCompleting hs tss bs now place)
    (h : Bool) (ts : List DecimalTerm) (b : Form) (hs2 : List Bool) (tss2 : List (List DecimalTerm)) (bs2 : List Form)
    (hs_at : drop place hs ≡ h ∷ hs2) (tss_at : drop place tss ≡ ts ∷ tss2) (bs_at : drop place bs ≡ b ∷ bs2) where
  here : now ≡ c.done ++ b ∷ bs2
  here = c.split ∙ ap (λ xs. c.done ++ xs) bs_at

  pub still_here : IsStillDecimal h ts
  still_here = (subst (λ xs. AreStillDecimals xs (ts ∷ tss2)) hs_at (subst (AreStillDecimals (drop place hs)) tss_at c.still)).0

  pub rest_of : {A : Type 0} (xs : List A) (x : A) (ys : List A) → drop place xs ≡ x ∷ ys → ys ≡ drop (place + 1) xs
  rest_of xs x ys e = ap (drop 1) (sym e) ∙ drop-drop 1 place xs

  pub one_completed : (new : List Form) (d : Form) → new ≡ slice_set now place (completed_form h ts (get_or now place d)) → AreCompleting hs tss bs new (place + 1)
  one_completed new d e =
      let at : get_or now place d ≡ b = ap₂ (λ xs i. get_or xs i d) here (sym c.count) ∙ get_behind c.done b bs2 d in
      let x = completed_form h ts b in
      record {
        done = c.done ++ x ∷ [];
        count = length-append c.done (x ∷ []) ∙ omega (arith, c.count);
        split =
            e ∙ ap (λ y. slice_set now place (completed_form h ts y)) at
            ∙ ap₂ (λ xs i. slice_set xs i x) here (sym c.count) ∙ set_behind c.done b bs2 x
            ∙ ap (λ ys. (c.done ++ x ∷ []) ++ ys) (rest_of bs b bs2 bs_at);
        all =
            append_assoc c.done (x ∷ []) (completed (drop (place + 1) hs) (drop (place + 1) tss) (drop (place + 1) bs))
            ∙ (λ i. c.done ++ x ∷ completed (sym (rest_of hs h hs2 hs_at) i) (sym (rest_of tss ts tss2 tss_at) i) (sym (rest_of bs b bs2 bs_at) i))
            ∙ (λ i. c.done ++ completed (sym hs_at i) (sym tss_at i) (sym bs_at i))
            ∙ c.all;
        still =
            (λ (rest : AreStillDecimals hs2 tss2). subst (λ xs. AreStillDecimals xs (drop (place + 1) tss)) (rest_of hs h hs2 hs_at) (subst (AreStillDecimals hs2) (rest_of tss ts tss2 tss_at) rest))
            (subst (λ xs. AreStillDecimals xs (ts ∷ tss2)) hs_at (subst (AreStillDecimals (drop place hs)) tss_at c.still)).1;
      }

pub set_length : (xs : List Form) (i : ℕ) (x : Form) → length (slice_set xs i x) ≡ length xs
set_length [] i x = refl
set_length (y ∷ xs) zero x = refl
set_length (y ∷ xs) (suc i) x = ap suc (set_length xs i x)
