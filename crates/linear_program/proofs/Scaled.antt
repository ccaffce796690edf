-- The steps over the terms of a form come to the sum with its multiple.
use Rattle.std.proofs.Common.{◌≡◌, ◌≢◌, ℕ, zero, suc, ◌+◌, ◌<◌, ◌≤◌, ◌∙◌, sym, ap, ap₂, refl, subst, arith, Bool, true, false, ◌&&◌, Some, None, Result, Ok, Err, List, [], ◌∷◌, length, ⊎_elim}
use Rattle.std.proofs.lemmas.Bool.{cases_eq, cases_lt, and_from, and_parts, false_from_ne_true}
use Rattle.text_base.specs.declared.stop.Stop.{Stop}
use Rattle.text_base.specs.declared.stop.Stop.TheVariants.{Fault, Memory}
use Rattle.exact_numbers.specs.declared.frac.Frac.{Frac}
use Rattle.exact_numbers.specs.Values.{frac_value}
use Rattle.exact_numbers.specs.Fits.{fits, sum_fits}
use Rattle.exact_numbers.specs.Rational.{ℚ, whole, zero_ℚ, ◌+ℚ◌, ◌*ℚ◌}
use Rattle.exact_numbers.proofs.RationalLaws.{*ℚ_one, *ℚ_zero, +ℚ_zero}
use Rattle.linear_program.specs.Lines.{line_sum, line_scaled, line_with, Line, all_below, is_zero, is_constant}
use Rattle.linear_program.proofs.LineLemmas.{same-eqb, apart-eqb, all_below-true, is_zero-true}
use Rattle.linear_program.specs.declared.too_wide.Wide.{Wide}
use Rattle.linear_program.specs.Coefs.{Term, found, value_or_zero, coef_in, AreAscending, AreBelow}
use Rattle.linear_program.specs.Forms.{IsZeroFrom, ScaledSumFits, stepped, step_fits, adds_fit, with_scaled, SumsUp, AddsScaled}
use Rattle.linear_program.proofs.CoefLemmas.{found_same, found_apart, found_before}
use Rattle.exact_numbers.proofs.Zeros.{sum_fits_zero, fits_zero}

-- lines with one constant and the same coefficients are one line
pub same_line : (a b : Line) → a.constant ≡ b.constant → ((j : ℕ) → a.coef j ≡ b.coef j) → a ≡ b
same_line a b e f = λ i. record { constant = e i; coef = λ j. f j i }

-- no variable has two terms
abbrev AreApart : List Term → Type 0
AreApart [] = Unit {0}
AreApart (t ∷ ts) = (found ts t.0 ≡ None) × AreApart ts

ascending_apart : (n : ℕ) (ts : List Term) → AreAscending n ts → AreApart ts
ascending_apart n [] a = tt
ascending_apart n (t ∷ ts) a = (found_before (suc t.0) ts t.0 a.2 (omega arith), ascending_apart (suc t.0) ts a.2)

stepped_same : (a : Line) (k : ℚ) (t : Term) (j : ℕ) → j ≡ t.0 → (stepped a k t).coef j ≡ a.coef j +ℚ k *ℚ frac_value t.1
stepped_same a k t j e = subst (λ i. (stepped a k t).coef i ≡ a.coef i +ℚ k *ℚ frac_value t.1) (sym e)
    (ap (λ x. a.coef t.0 +ℚ x) (ap (λ x. k *ℚ frac_value t.1 *ℚ x) (same-eqb t.0) ∙ *ℚ_one (k *ℚ frac_value t.1)))

stepped_apart : (a : Line) (k : ℚ) (t : Term) (j : ℕ) → j ≢ t.0 → (stepped a k t).coef j ≡ a.coef j
stepped_apart a k t j n = ap (λ x. a.coef j +ℚ x) (ap (λ x. k *ℚ frac_value t.1 *ℚ x) (apart-eqb j t.0 n) ∙ *ℚ_zero (k *ℚ frac_value t.1)) ∙ +ℚ_zero (a.coef j)

-- one coefficient fits where the steps do
one_fits : (a : Line) (k : ℚ) (ts : List Term) (j : ℕ) → fits (a.coef j) ≡ true → adds_fit a k ts ≡ true → (fits (k *ℚ coef_in ts j) ≡ true) × (sum_fits (a.coef j) (k *ℚ coef_in ts j) ≡ true)
one_fits a k [] j small e =
    (ap fits (*ℚ_zero k) ∙ fits_zero, ap (sum_fits (a.coef j)) (*ℚ_zero k) ∙ sum_fits_zero (a.coef j) small)
one_fits a k (t ∷ ts) j small e =
    let both = and_parts _ _ e in
    let here = and_parts _ _ both.0 in
    ⊎_elim
    (λ (same : j ≡ t.0).
    let f : coef_in (t ∷ ts) j ≡ frac_value t.1 = ap value_or_zero (found_same t ts j same) in
    (ap (λ x. fits (k *ℚ x)) f ∙ here.0, ap₂ (λ x y. sum_fits x (k *ℚ y)) (ap a.coef same) f ∙ here.1))
    (λ (apart : j ≢ t.0).
    let f : coef_in (t ∷ ts) j ≡ coef_in ts j = ap value_or_zero (found_apart t ts j apart) in
    let s = stepped_apart a k t j apart in
    let r = one_fits (stepped a k t) k ts j (ap fits s ∙ small) both.1 in
    (ap (λ x. fits (k *ℚ x)) f ∙ r.0, ap₂ (λ x y. sum_fits x (k *ℚ y)) (sym s) f ∙ r.1))
    (cases_eq j t.0)

-- and the steps fit where each coefficient of a term does
steps_fit : (a : Line) (k : ℚ) (ts : List Term) → AreApart ts
    → ((j : ℕ) (f : Frac) → found ts j ≡ Some f → (fits (k *ℚ frac_value f) ≡ true)
    × (sum_fits (a.coef j) (k *ℚ frac_value f) ≡ true)) → adds_fit a k ts ≡ true
steps_fit a k [] apart h = refl
steps_fit a k (t ∷ ts) apart h =
    let here = h t.0 t.1 (found_same t ts t.0 refl) in
    and_from _ _ (and_from _ _ here.0 here.1)
    (steps_fit (stepped a k t) k ts apart.1
    (λ j f is.
    let other : j ≢ t.0 = λ e. (let clash : None ≡ Some f = sym apart.0 ∙ ap (found ts) (sym e) ∙ is in cc) in
    let r = h j f (found_apart t ts j other ∙ is) in
    (r.0, ap (λ x. sum_fits x (k *ℚ frac_value f)) (stepped_apart a k t j other) ∙ r.1)))

coef_of_steps : (a : Line) (k : ℚ) (ts : List Term) → AreApart ts → (j : ℕ) → (with_scaled a k ts).coef j ≡ a.coef j +ℚ k *ℚ coef_in ts j
coef_of_steps a k [] apart j = sym (ap (λ x. a.coef j +ℚ x) (*ℚ_zero k) ∙ +ℚ_zero (a.coef j))
coef_of_steps a k (t ∷ ts) apart j =
    coef_of_steps (stepped a k t) k ts apart.1 j ∙
    ⊎_elim
    (λ (same : j ≡ t.0).
    ap₂ (λ x y. x +ℚ k *ℚ y) (stepped_same a k t j same) (ap value_or_zero (ap (found ts) same ∙ apart.0))
    ∙ ap (λ x. a.coef j +ℚ k *ℚ frac_value t.1 +ℚ x) (*ℚ_zero k) ∙ +ℚ_zero (a.coef j +ℚ k *ℚ frac_value t.1)
    ∙ ap (λ x. a.coef j +ℚ k *ℚ x) (sym (ap value_or_zero (found_same t ts j same))))
    (λ (other : j ≢ t.0). ap₂ (λ x y. x +ℚ k *ℚ y) (stepped_apart a k t j other) (sym (ap value_or_zero (found_apart t ts j other))))
    (cases_eq j t.0)

constant_of_steps : (a : Line) (k : ℚ) (ts : List Term) → (with_scaled a k ts).constant ≡ a.constant
constant_of_steps a k [] = refl
constant_of_steps a k (t ∷ ts) = constant_of_steps (stepped a k t) k ts

-- ---- a multiple of a form
module _ (a b : Line) (sum k : ℚ) (ts : List Term) (small : (j : ℕ) → fits (a.coef j) ≡ true) (ascending : AreAscending 0 ts) (is : (j : ℕ) → b.coef j ≡ coef_in ts j) where
  scaled_done : fits (k *ℚ b.constant) ≡ true → sum_fits a.constant (k *ℚ b.constant) ≡ true
      → sum ≡ a.constant +ℚ k *ℚ b.constant → (l : Line) → (adds_fit (record { constant = sum; coef = a.coef }) k ts
      ≡ true) × (l ≡ with_scaled (record { constant = sum; coef = a.coef }) k ts)
      → ScaledSumFits a k b × (l ≡ line_sum a (line_scaled k b))
  scaled_done p s e l h = (
    record {
      product = p;
      sum = s;
      products = λ j. ap (λ x. fits (k *ℚ x)) (is j) ∙ (one_fits (record { constant = sum; coef = a.coef }) k ts j (small j) h.0).0;
      sums = λ j. ap (λ x. sum_fits (a.coef j) (k *ℚ x)) (is j) ∙ (one_fits (record { constant = sum; coef = a.coef }) k ts j (small j) h.0).1;
    },
    h.1 ∙ same_line _ _ (constant_of_steps (record { constant = sum; coef = a.coef }) k ts ∙ e)
        (λ j. coef_of_steps (record { constant = sum; coef = a.coef }) k ts (ascending_apart 0 ts ascending) j
        ∙ ap (λ x. a.coef j +ℚ k *ℚ x) (sym (is j))),
  )

  scaled_wide : adds_fit (record { constant = sum; coef = a.coef }) k ts ≡ false → ScaledSumFits a k b → ⊥
  scaled_wide e h =
      let good : adds_fit (record { constant = sum; coef = a.coef }) k ts ≡ true = steps_fit (record { constant = sum; coef = a.coef }) k ts (ascending_apart 0 ts ascending)
      (λ j f found_is.
      let same : b.coef j ≡ frac_value f = is j ∙ ap value_or_zero found_is in
      (ap (λ x. fits (k *ℚ x)) (sym same) ∙ h.products j, ap (λ x. sum_fits (a.coef j) (k *ℚ x)) (sym same) ∙ h.sums j)) in
      let clash : true ≡ false = sym good ∙ e in
      cc

  pub scaled_parts : fits (k *ℚ b.constant) ≡ true → sum_fits a.constant (k *ℚ b.constant) ≡ true
      → sum ≡ a.constant +ℚ k *ℚ b.constant → (l : Line) (r : Result (Unit {0}) (Stop Wide))
      → SumsUp (record { constant = sum; coef = a.coef }) k ts l r → AddsScaled a k b l r
  scaled_parts p s e l (Ok u) h = scaled_done p s e l h
  scaled_parts p s e l (Err (Fault w)) h = scaled_wide h
  scaled_parts p s e l (Err Memory) h = tt

-- ---- a form after one term
pub term_added : (a new : Line) (k : ℚ) (t : Term) (scaled : ℚ) → scaled ≡ k *ℚ frac_value t.1
    → fits (k *ℚ frac_value t.1) ≡ true → new.constant ≡ a.constant
    → (sum_fits (a.coef t.0) scaled ≡ true) × ((i : ℕ) → new.coef i ≡ (line_with a t.0 scaled).coef i)
    → (step_fits a k t ≡ true) × (new ≡ stepped a k t)
term_added a new k t scaled is small constant h = (
  and_from _ _ small (ap (sum_fits (a.coef t.0)) (sym is) ∙ h.0),
  same_line _ _ constant (λ i. h.1 i ∙ ap (λ x. (line_with a t.0 x).coef i) is),
)

-- and the terms that are left
pub steps_left : (a new : Line) (k : ℚ) (t : Term) (rest left : List Term) → left ≡ t ∷ rest
    → (step_fits a k t ≡ true) × (new ≡ stepped a k t) → (adds_fit new k rest ≡ adds_fit a k left)
    × (with_scaled new k rest ≡ with_scaled a k left)
steps_left a new k t rest left at h = (
  ap (λ l. adds_fit l k rest) h.1 ∙ ap (λ b. b && adds_fit (stepped a k t) k rest) (sym h.0) ∙ ap (adds_fit a k) (sym at),
  ap (λ l. with_scaled l k rest) h.1 ∙ ap (with_scaled a k) (sym at),
)

-- ---- a form of n variables
pub terms_below : (n low : ℕ) (ts : List Term) → AreAscending low ts → ((j : ℕ) → n ≤ j → coef_in ts j ≡ zero_ℚ) → AreBelow n ts
terms_below n low [] a z = tt
terms_below n low (t ∷ ts) a z = (
  ⊎_elim (λ (l : t.0 < n). l) (λ (g : n ≤ t.0). absurd (a.1 (sym (ap value_or_zero (found_same t ts t.0 refl)) ∙ z t.0 g))) (cases_lt t.0 n),
  terms_below n (suc t.0) ts a.2 (λ j g.
      ⊎_elim (λ (e : j ≡ t.0). ap value_or_zero (found_before (suc t.0) ts j a.2 (omega arith))) (λ (m : j ≢ t.0). sym (ap value_or_zero (found_apart t ts j m)) ∙ z j g) (cases_eq j t.0)),
)

-- ---- constant forms
pub all_below-intro : (p : ℕ → Bool) (n : ℕ) → ((j : ℕ) → j < n → p j ≡ true) → all_below p n ≡ true
all_below-intro p zero h = refl
all_below-intro p (suc n) h = and_from _ _ (all_below-intro p n (λ j l. h j (omega arith))) (h n (omega arith))

pub all_below-false : (p : ℕ → Bool) (n j : ℕ) → j < n → p j ≡ false → all_below p n ≡ false
all_below-false p n j h e = false_from_ne_true _ (λ t. (let clash : true ≡ false = sym (all_below-true p n t j h) ∙ e in cc))

abbrev pub is_nil : List Term → Bool
is_nil [] = true
is_nil (t ∷ ts) = false

is_zero_zero : is_zero zero_ℚ ≡ true
unfolding whole
is_zero_zero = refl

pub constant_test : (c : ℚ) (ts : List Term) → AreAscending 0 ts → (n : ℕ)
    → IsZeroFrom n (record { constant = c; coef = coef_in ts })
    → is_nil ts ≡ is_constant n (record { constant = c; coef = coef_in ts })
constant_test c [] a n z = sym (all_below-intro (λ j. is_zero zero_ℚ) n (λ j h. is_zero_zero))
constant_test c (t ∷ ts) a n z =
    let there : coef_in (t ∷ ts) t.0 ≡ frac_value t.1 = ap value_or_zero (found_same t ts t.0 refl) in
    ⊎_elim
    (λ (l : t.0 < n). sym (all_below-false (λ j. is_zero (coef_in (t ∷ ts) j)) n t.0 l (ap is_zero there ∙ false_from_ne_true _ (λ y. a.1 (is_zero-true (frac_value t.1) y)))))
    (λ (g : n ≤ t.0). absurd (a.1 (sym there ∙ z t.0 g)))
    (cases_lt t.0 n)

-- how many terms a form of n variables has
pub few_terms : (n low : ℕ) (ts : List Term) → AreAscending low ts → ((j : ℕ) → n ≤ j → coef_in ts j ≡ zero_ℚ) → low ≤ n → low + length ts ≤ n
few_terms n low [] a z h = omega arith
few_terms n low (t ∷ ts) a z h =
    let first = a.0 in
    let below : t.0 < n = ⊎_elim (λ (l : t.0 < n). l) (λ (g : n ≤ t.0). absurd (a.1 (sym (ap value_or_zero (found_same t ts t.0 refl)) ∙ z t.0 g))) (cases_lt t.0 n) in
    let rest = few_terms n (suc t.0) ts a.2 (λ j g. sym (ap value_or_zero (found_apart t ts j (λ e. omega arith))) ∙ z j g) below in
    omega arith
