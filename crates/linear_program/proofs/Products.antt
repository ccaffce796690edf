-- A form times a number.
use Rattle.std.proofs.Common.{◌≡◌, ◌≢◌, ℕ, suc, ◌<◌, ◌≤◌, ⊎_elim, inl, inr, ◌∙◌, sym, ap, refl, subst, arith, true, false, Err, List, [], ◌∷◌, ◌++◌, append-nil, append_assoc}
use Rattle.std.proofs.lemmas.Bool.{and_from, and_parts, cases_eq, cases_lt, false_from_ne_true}
use Rattle.exact_numbers.specs.declared.frac.Frac.{Frac}
use Rattle.exact_numbers.specs.Values.{frac_value}
use Rattle.exact_numbers.specs.Fits.{fits}
use Rattle.exact_numbers.specs.Rational.{ℚ, zero_ℚ, ◌*ℚ◌}
use Rattle.exact_numbers.proofs.RationalLaws.{*ℚ_cancel, *ℚ_zero, zero-*ℚ}
use Rattle.linear_program.specs.Lines.{line_scaled, products_fit, Line}
use Rattle.linear_program.specs.Coefs.{Term, value_or_zero, coef_in, AreAscending, AreProducts, HasWideProduct}
use Rattle.text_base.specs.declared.stop.Stop.{Stop}
use Rattle.text_base.specs.declared.stop.Stop.TheVariants.{Fault, Memory}
use Rattle.text_base.specs.Stopped.{IfFault}
use Rattle.linear_program.specs.declared.too_wide.Wide.{Wide}
use Rattle.linear_program.specs.Forms.{IsZeroFrom, Multiplies}
use Rattle.linear_program.proofs.CoefLemmas.{found_same, found_apart}
use Rattle.exact_numbers.proofs.Zeros.{fits_zero}
use Rattle.linear_program.proofs.Scaled.{same_line, all_below-intro, all_below-false}

pub product_coef : (k : ℚ) (ts ps : List Term) (j : ℕ) → AreProducts k ts ps → (coef_in ps j ≡ k *ℚ coef_in ts j) × (fits (k *ℚ coef_in ts j) ≡ true)
product_coef k [] [] j a = (sym (*ℚ_zero k), ap fits (*ℚ_zero k) ∙ fits_zero)
product_coef k [] (p ∷ ps) j a = absurd a
product_coef k (t ∷ ts) [] j a = absurd a
product_coef k (t ∷ ts) (p ∷ ps) j a =
    ⊎_elim
    (λ (e : j ≡ t.0).
    let here : coef_in (t ∷ ts) j ≡ frac_value t.1 = ap value_or_zero (found_same t ts j e) in (
      ap value_or_zero (found_same p ps j (e ∙ sym a.0)) ∙ a.2 ∙ ap (λ x. k *ℚ x) (sym here),
      ap (λ x. fits (k *ℚ x)) here ∙ a.1,
    ))
    (λ (n : j ≢ t.0).
    let other : coef_in (t ∷ ts) j ≡ coef_in ts j = ap value_or_zero (found_apart t ts j n) in
    let rest = product_coef k ts ps j a.3 in (
      ap value_or_zero (found_apart p ps j (λ e. n (e ∙ a.0))) ∙ rest.0 ∙ ap (λ x. k *ℚ x) (sym other),
      ap (λ x. fits (k *ℚ x)) other ∙ rest.1,
    ))
    (cases_eq j t.0)

not_zero_product : (k x : ℚ) → k ≢ zero_ℚ → x ≢ zero_ℚ → k *ℚ x ≢ zero_ℚ
not_zero_product k x live n z = live (*ℚ_cancel k zero_ℚ x n (z ∙ sym (zero-*ℚ x)))

pub products_ascend : (n : ℕ) (k : ℚ) (ts ps : List Term) → k ≢ zero_ℚ → AreProducts k ts ps → AreAscending n ts → AreAscending n ps
products_ascend n k [] [] live a up = tt
products_ascend n k [] (p ∷ ps) live a up = absurd a
products_ascend n k (t ∷ ts) [] live a up = absurd a
products_ascend n k (t ∷ ts) (p ∷ ps) live a up = (
  subst (λ v. n ≤ v) (sym a.0) up.0,
  λ z. not_zero_product k (frac_value t.1) live up.1 (sym a.2 ∙ z),
  subst (λ v. AreAscending (suc v) ps) (sym a.0) (products_ascend (suc t.0) k ts ps live a.3 up.2),
)

-- a product of a list that does not fit is that of a coefficient
wide_coef : (n : ℕ) (k : ℚ) (ts : List Term) → AreAscending n ts → HasWideProduct k ts → (j : ℕ) × (n ≤ j) × (fits (k *ℚ coef_in ts j) ≡ false) × (coef_in ts j ≢ zero_ℚ)
wide_coef n k [] up w = absurd w
wide_coef n k (t ∷ ts) up w =
    let here : coef_in (t ∷ ts) t.0 ≡ frac_value t.1 = ap value_or_zero (found_same t ts t.0 refl) in
    ⊎_elim
    (λ (e : fits (k *ℚ frac_value t.1) ≡ false). (t.0, up.0, ap (λ x. fits (k *ℚ x)) here ∙ e, λ z. up.1 (sym here ∙ z)))
    (λ (later : HasWideProduct k ts).
    let r = wide_coef (suc t.0) k ts up.2 later in
    let from = r.1 in
    let first = up.0 in
    let other : coef_in (t ∷ ts) r.0 ≡ coef_in ts r.0 = ap value_or_zero (found_apart t ts r.0 (λ e. omega arith)) in
    (r.0, omega arith, ap (λ x. fits (k *ℚ x)) other ∙ r.2, λ z. r.3 (sym other ∙ z)))
    w

module _ (a : Line) (k : ℚ) (ts : List Term) (is : (j : ℕ) → a.coef j ≡ coef_in ts j) where
  pub products_are : (c : ℚ) (ps : List Term) → fits (k *ℚ a.constant) ≡ true → c ≡ k *ℚ a.constant
      → AreProducts k ts ps → ((n : ℕ) → products_fit n k a ≡ true)
      × ((record { constant = c; coef = coef_in ps }) ≡ line_scaled k a)
  products_are c ps fine e p = (
    λ n. and_from _ _ fine (all_below-intro (λ j. fits (k *ℚ a.coef j)) n (λ j h. ap (λ x. fits (k *ℚ x)) (is j) ∙ (product_coef k ts ps j p).1)),
    same_line (record { constant = c; coef = coef_in ps }) (line_scaled k a) e (λ j. (product_coef k ts ps j p).0 ∙ ap (λ x. k *ℚ x) (sym (is j))),
  )

  pub products_wide : AreAscending 0 ts → HasWideProduct k ts → (n : ℕ) → IsZeroFrom n a → products_fit n k a ≡ false
  products_wide up w n z =
      let r = wide_coef 0 k ts up w in
      let below : r.0 < n = ⊎_elim (λ (l : r.0 < n). l) (λ (g : n ≤ r.0). absurd (r.3 (sym (is r.0) ∙ z r.0 g))) (cases_lt r.0 n) in
      let part = all_below-false (λ j. fits (k *ℚ a.coef j)) n r.0 below (ap (λ x. fits (k *ℚ x)) (is r.0) ∙ r.2) in
      false_from_ne_true _ (λ y. let both = and_parts _ _ y in (let clash : true ≡ false = sym both.1 ∙ part in cc))

  pub constant_wide : fits (k *ℚ a.constant) ≡ false → (n : ℕ) → IsZeroFrom n a → products_fit n k a ≡ false
  constant_wide e n z = false_from_ne_true _ (λ y. let both = and_parts _ _ y in (let clash : true ≡ false = sym both.0 ∙ e in cc))

  pub stop_multiplies : AreAscending 0 ts → (s : Stop Wide) → IfFault s (λ w. HasWideProduct k ts) → Multiplies a k (Err s)
  stop_multiplies up (Fault w) h = products_wide up h
  stop_multiplies up Memory h = tt

-- ---- the loop
module _ (k : ℚ) (all left rest : List Term) (t : Term) (at : left ≡ t ∷ rest) where
  pub one_product : (out now : List Term) (p : Frac) → now ≡ out ++ (t.0, p) ∷ [] → fits (k *ℚ frac_value t.1) ≡ true
      → frac_value p ≡ k *ℚ frac_value t.1 → ((ps : List Term) → AreProducts k left ps → AreProducts k all (out ++ ps))
      → (ps : List Term) → AreProducts k rest ps → AreProducts k all (now ++ ps)
  one_product out now p e fine is made ps a =
      subst (AreProducts k all) (sym (append_assoc out ((t.0, p) ∷ []) ps) ∙ ap (λ xs. xs ++ ps) (sym e))
      (made ((t.0, p) ∷ ps) (subst (λ xs. AreProducts k xs ((t.0, p) ∷ ps)) (sym at) (refl, fine, is, a)))

  pub one_wide : fits (k *ℚ frac_value t.1) ≡ false → HasWideProduct k left
  one_wide e = subst (HasWideProduct k) (sym at) (inl e)

  pub later_wide : HasWideProduct k rest → HasWideProduct k left
  later_wide w = subst (HasWideProduct k) (sym at) (inr w)

pub all_products : (k : ℚ) (all left out : List Term) → left ≡ [] → ((ps : List Term) → AreProducts k left ps → AreProducts k all (out ++ ps)) → AreProducts k all out
all_products k all left out none made = subst (AreProducts k all) (append-nil out) (made [] (subst (λ xs. AreProducts k xs []) (sym none) tt))
