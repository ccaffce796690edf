-- Sums and multiples of lines, and the line that a function of points has.
use Rattle.std.proofs.Common.{◌≡◌, ◌≢◌, ℕ, zero, suc, ◌<◌, ⊎_elim, ◌≤◌, ◌∙◌, sym, ap, ap₂, refl, arith, Bool, true, false, Option, Some, ◌==◌}
use Rattle.exact_numbers.specs.Functions.{or_zero}
use Rattle.exact_numbers.specs.Rational.{ℚ, zero_ℚ, one_ℚ, ◌+ℚ◌, ◌-ℚ◌, ◌*ℚ◌, neg_ℚ}
use Rattle.std.proofs.lemmas.Bool.{cases_lt, eq-eqb, eqb-true, and_parts}
use Rattle.exact_numbers.specs.Sums.{sum_below}
use Rattle.exact_numbers.proofs.RationalLaws.{+ℚ_assoc, +ℚ_zero, *ℚ-+ℚ, +ℚ-*ℚ, *ℚ_assoc, *ℚ_zero, zero-*ℚ, *ℚ_one, neg-*ℚ, neg-+ℚ, -ℚ_lem, +ℚ-neg}
use Rattle.exact_numbers.proofs.Adding.{+ℚ_swap, sum_below_same, sum_below-+ℚ, sum_below-*ℚ, sum_below-neg, sum_below_all_zero, sum_below_one}
pub use Rattle.exact_numbers.proofs.Tests.{is_zero-true, is_zero-false}
use Rattle.exact_numbers.proofs.Ring.{ring, v, ◌⊕◌, ◌⊖◌}
use Rattle.linear_program.specs.Lines.{origin, unit_point, one_if, Line, line_value, line_by, all_below, is_zero}
use Rattle.linear_program.specs.Lines.{is_constant, are_constant, constants_of, line_values, line_sum, line_scaled}
use Rattle.linear_program.specs.Lines.{line_neg, line_with, Point}
use Rattle.std.proofs.Common.{List, [], ◌∷◌}

-- ---- tests
pub all_below-true : (p : ℕ → Bool) (n : ℕ) → all_below p n ≡ true → (j : ℕ) → j < n → p j ≡ true
all_below-true p zero e j h = absurd (omega arith)
all_below-true p (suc n) e j h =
    let both = and_parts (all_below p n) (p n) e in
    ⊎_elim (λ (l : j < n). all_below-true p n both.0 j l) (λ (g : n ≤ j). let same : n ≡ j = omega arith in ap p (sym same) ∙ both.1) (cases_lt j n)

pub same-eqb : (j : ℕ) → one_if (j == j) ≡ one_ℚ
same-eqb j = ap one_if (eq-eqb j j refl)

not_same : (i j : ℕ) (b : Bool) → i ≢ j → i == j ≡ b → i == j ≡ false
not_same i j true n e = absurd (n (eqb-true i j e))
not_same i j false n e = e

pub apart-eqb : (i j : ℕ) → i ≢ j → one_if (i == j) ≡ zero_ℚ
apart-eqb i j n = ap one_if (not_same i j (i == j) n refl)

-- ---- the values of sums and multiples
module _ (n : ℕ) (at : Point) where
  pub line_value-sum : (a b : Line) → line_value n (line_sum a b) at ≡ line_value n a at +ℚ line_value n b at
  line_value-sum a b =
      ap (λ s. a.constant +ℚ b.constant +ℚ s)
      (sum_below_same (λ j. (a.coef j +ℚ b.coef j) *ℚ at j) (λ j. a.coef j *ℚ at j +ℚ b.coef j *ℚ at j) n (λ j h. +ℚ-*ℚ (a.coef j) (b.coef j) (at j))
      ∙ sum_below-+ℚ (λ j. a.coef j *ℚ at j) (λ j. b.coef j *ℚ at j) n)
      ∙ +ℚ_swap a.constant b.constant _ _

  pub line_value-scaled : (k : ℚ) (a : Line) → line_value n (line_scaled k a) at ≡ k *ℚ line_value n a at
  line_value-scaled k a =
      ap (λ s. k *ℚ a.constant +ℚ s)
      (sum_below_same (λ j. k *ℚ a.coef j *ℚ at j) (λ j. k *ℚ (a.coef j *ℚ at j)) n (λ j h. *ℚ_assoc k (a.coef j) (at j))
      ∙ sum_below-*ℚ k (λ j. a.coef j *ℚ at j) n)
      ∙ sym (*ℚ-+ℚ k a.constant _)

  pub line_value-neg : (a : Line) → line_value n (line_neg a) at ≡ neg_ℚ (line_value n a at)
  line_value-neg a =
      ap (λ s. neg_ℚ a.constant +ℚ s)
      (sum_below_same (λ j. neg_ℚ (a.coef j) *ℚ at j) (λ j. neg_ℚ (a.coef j *ℚ at j)) n (λ j h. neg-*ℚ (a.coef j) (at j))
      ∙ sum_below-neg (λ j. a.coef j *ℚ at j) n)
      ∙ sym (neg-+ℚ a.constant _)

  pub line_value-constant : (a : Line) → is_constant n a ≡ true → line_value n a at ≡ a.constant
  line_value-constant a e =
      ap (λ s. a.constant +ℚ s)
      (sum_below_all_zero (λ j. a.coef j *ℚ at j) n (λ j h. ap (λ c. c *ℚ at j) (is_zero-true (a.coef j) (all_below-true (λ i. is_zero (a.coef i)) n e j h)) ∙ zero-*ℚ (at j)))
      ∙ +ℚ_zero a.constant

  pub line_values-constant : (ls : List Line) → are_constant n ls ≡ true → line_values n at ls ≡ constants_of ls
  line_values-constant [] e = refl
  line_values-constant (l ∷ ls) e =
      let both = and_parts (is_constant n l) (are_constant n ls) e in
      ap₂ ◌∷◌ (line_value-constant l both.0) (line_values-constant ls both.1)

  -- one part of a sum alone
  one_part : (k : ℚ) (j : ℕ) → j < n → sum_below (λ i. k *ℚ one_if (i == j) *ℚ at i) n ≡ k *ℚ at j
  one_part k j h =
      sum_below_one (λ i. k *ℚ one_if (i == j) *ℚ at i) n j h
      (λ i l apart. ap (λ c. k *ℚ c *ℚ at i) (apart-eqb i j apart) ∙ ap (λ c. c *ℚ at i) (*ℚ_zero k) ∙ zero-*ℚ (at i))
      ∙ ap (λ c. k *ℚ c *ℚ at j) (same-eqb j) ∙ ap (λ c. c *ℚ at j) (*ℚ_one k)

  pub line_value-with : (a : Line) (j : ℕ) (k : ℚ) → j < n → line_value n (line_with a j k) at ≡ line_value n a at +ℚ k *ℚ at j
  line_value-with a j k h =
      ap (λ s. a.constant +ℚ s)
      (sum_below_same (λ i. (a.coef i +ℚ k *ℚ one_if (i == j)) *ℚ at i) (λ i. a.coef i *ℚ at i +ℚ k *ℚ one_if (i == j) *ℚ at i) n (λ i l. +ℚ-*ℚ (a.coef i) (k *ℚ one_if (i == j)) (at i))
      ∙ sum_below-+ℚ (λ i. a.coef i *ℚ at i) (λ i. k *ℚ one_if (i == j) *ℚ at i) n
      ∙ ap (λ s. sum_below (λ i. a.coef i *ℚ at i) n +ℚ s) (one_part k j h))
      ∙ sym (+ℚ_assoc a.constant _ _)

-- ---- the line of a function
module _ (n : ℕ) (l : Line) where
  at_origin : line_value n l origin ≡ l.constant
  at_origin = ap (λ s. l.constant +ℚ s) (sum_below_all_zero (λ j. l.coef j *ℚ origin j) n (λ j h. *ℚ_zero (l.coef j))) ∙ +ℚ_zero l.constant

  at_unit : (j : ℕ) → j < n → line_value n l (unit_point j) ≡ l.constant +ℚ l.coef j
  at_unit j h =
      ap (λ s. l.constant +ℚ s)
      (sum_below_one (λ i. l.coef i *ℚ unit_point j i) n j h (λ i g apart. ap (λ c. l.coef i *ℚ c) (apart-eqb i j apart) ∙ *ℚ_zero (l.coef i))
      ∙ ap (λ c. l.coef j *ℚ c) (same-eqb j) ∙ *ℚ_one (l.coef j))

less_first : (x y : ℚ) → (x +ℚ y) -ℚ x ≡ y
less_first x y = ring (x ∷ y ∷ []) ((v 0 ⊕ v 1) ⊖ v 0) (v 1) refl

-- a function whose values are those of a line has that line, by its values
module _ (n : ℕ) (f : Point → Option ℚ) (l : Line) (h : (at : Point) → f at ≡ Some (line_value n l at)) where
  pub same_constant : (line_by f).constant ≡ l.constant
  same_constant = ap or_zero (h origin) ∙ at_origin n l

  pub same_coef : (j : ℕ) → j < n → (line_by f).coef j ≡ l.coef j
  same_coef j p = ap₂ (λ a b. or_zero a -ℚ or_zero b) (h (unit_point j)) (h origin) ∙ ap₂ (λ a b. a -ℚ b) (at_unit n l j p) (at_origin n l) ∙ less_first l.constant (l.coef j)

  pub line_by_lem : (at : Point) → f at ≡ Some (line_value n (line_by f) at)
  line_by_lem at =
      h at ∙ ap Some (sym (ap₂ ◌+ℚ◌ same_constant (sum_below_same (λ j. (line_by f).coef j *ℚ at j) (λ j. l.coef j *ℚ at j) n (λ j p. ap (λ c. c *ℚ at j) (same_coef j p)))))

  -- beyond n there is no coefficient
  pub no_coef : (j : ℕ) → n ≤ j → (line_by f).coef j ≡ zero_ℚ
  no_coef j g =
      ap₂ (λ a b. or_zero a -ℚ or_zero b) (h (unit_point j)) (h origin)
      ∙ ap₂ (λ a b. a -ℚ b)
      (ap (λ s. l.constant +ℚ s) (sum_below_all_zero (λ i. l.coef i *ℚ unit_point j i) n (λ i k. ap (λ c. l.coef i *ℚ c) (apart-eqb i j (omega arith)) ∙ *ℚ_zero (l.coef i))) ∙ +ℚ_zero l.constant)
      (at_origin n l)
      ∙ -ℚ_lem l.constant l.constant ∙ +ℚ-neg l.constant
