-- What it says that a checked step has a value.
use Rattle.std.proofs.Common.{below_more, ◌≡◌, ℕ, zero, suc, ◌<◌, ◌∙◌, sym, ap, subst, refl, arith, Bool, true, false, Option, Some, None, pos, ◌*ℤ◌, int_le}
use Rattle.std.specs.Prelude.{if◌then◌else◌, option_and_then}
use Rattle.std.specs.Int.Signed.{le_z_yes}
use Rattle.std.proofs.lemmas.Int.{by_lt_z}
use Rattle.std.proofs.lemmas.Bool.{and_parts}
use Rattle.std.proofs.Math.Dec.{T}
use Rattle.exact_numbers.specs.Rational.{ℚ, ◌+ℚ◌, ◌*ℚ◌, ◌-ℚ◌, neg_ℚ, ◌≤ℚ◌, ◌<ℚ◌}
use Rattle.exact_numbers.specs.Fits.{fits, sum_fits}
use Rattle.exact_numbers.specs.Sums.{sum_below}
use Rattle.exact_numbers.proofs.Tests.{option_or-none}
use Rattle.exact_numbers.proofs.RationalLaws.{+ℚ_zero, +ℚ_assoc, ≤ℚ_antisymm}
use Rattle.certificates.specs.Checked.{fitting, fitting_sum, fitting_difference, fitting_product, plus_product, less_product, run, is_at_most, is_same}
use Rattle.certificates.specs.Verdict.{first_fault}

pub if_some : {T : Type 0} (b : Bool) (x y : T) → (if b then Some x else None) ≡ Some y → (b ≡ true) × (x ≡ y)
if_some true x y h = (refl, cc)
if_some false x y h = absurd (cc)

pub if_none : {T : Type 0} (b : Bool) (x : T) → (if b then None else Some x) ≡ None → b ≡ true
if_none true x h = refl
if_none false x h = absurd (cc)

pub and_then_some : {T U : Type 0} (f : T → Option U) (o : Option T) (y : U) → option_and_then f o ≡ Some y → (x : T) × (o ≡ Some x) × (f x ≡ Some y)
and_then_some f None y h = absurd (cc)
and_then_some f (Some x) y h = (x, refl, h)

pub no_fault : {V : Type 0} (fault : ℕ → Option V) (n : ℕ) → first_fault fault n ≡ None → (i : ℕ) → i < n → fault i ≡ None
unfolding first_fault
no_fault fault zero h i l = absurd (omega arith)
no_fault fault (suc n) h i l =
    let both = option_or-none (first_fault fault n) (fault n) h in
    below_more (λ k. fault k ≡ None) n (no_fault fault n both.0) both.1 i (omega (arith, l))

pub fitting_some : (x r : ℚ) → fitting x ≡ Some r → x ≡ r
fitting_some x r h = (if_some (fits x) x r h).1

pub plus_product_some : (s a v r : ℚ) → plus_product s a v ≡ Some r → r ≡ s +ℚ a *ℚ v
unfolding plus_product
plus_product_some s a v r h =
    let w = and_then_some (λ p. fitting_sum s p) (fitting_product a v) r h in
    let product : a *ℚ v ≡ w.0 = fitting_some (a *ℚ v) w.0 w.1 in
    sym (if_some (sum_fits s w.0) (s +ℚ w.0) r w.2).1 ∙ ap (λ z. s +ℚ z) (sym product)

pub difference_some : (x y r : ℚ) → fitting_difference x y ≡ Some r → r ≡ x -ℚ y
difference_some x y r h = sym (if_some (sum_fits x (neg_ℚ y)) (x -ℚ y) r h).1

pub less_product_some : (s a v r : ℚ) → less_product s a v ≡ Some r → r ≡ s -ℚ a *ℚ v
unfolding less_product
less_product_some s a v r h =
    let w = and_then_some (λ p. fitting_difference s p) (fitting_product a v) r h in
    let product : a *ℚ v ≡ w.0 = fitting_some (a *ℚ v) w.0 w.1 in
    difference_some s w.0 r w.2 ∙ ap (λ z. s -ℚ z) (sym product)

-- what each step of a run keeps, its value keeps to the sum of the steps
pub run_by : (R : ℚ → ℚ → Type 0) → ((x : ℚ) → R x x) → ((x y z : ℚ) → R x y → R y z → R x z)
    → ((x y k : ℚ) → R x y → R (x +ℚ k) (y +ℚ k)) → (step : ℚ → ℕ → Option ℚ) (f : ℕ → ℚ) (start : ℚ) (n : ℕ) (r : ℚ)
    → ((s t : ℚ) (k : ℕ) → k < n → step s k ≡ Some t → R t (s +ℚ f k)) → run step start n ≡ Some r → R r (start +ℚ sum_below f n)
unfolding run sum_below
run_by R same trans more step f start zero r each h = let e : start ≡ r = cc in subst (R r) (sym e ∙ sym (+ℚ_zero start)) (same r)
run_by R same trans more step f start (suc n) r each h =
    let w = and_then_some (λ s. step s n) (run step start n) r h in
    let before = run_by R same trans more step f start n w.0 (λ s t k l e. each s t k (omega arith) e) w.1 in
    trans r (w.0 +ℚ f n) _ (each w.0 r n (omega arith) w.2) (subst (R (w.0 +ℚ f n)) (+ℚ_assoc start (sum_below f n) (f n)) (more w.0 (start +ℚ sum_below f n) (f n) before))

pub run_some : (step : ℚ → ℕ → Option ℚ) (f : ℕ → ℚ) (start : ℚ) (n : ℕ) (r : ℚ)
    → ((s t : ℚ) (k : ℕ) → k < n → step s k ≡ Some t → t ≡ s +ℚ f k) → run step start n ≡ Some r
    → r ≡ start +ℚ sum_below f n
run_some = run_by (λ x y. x ≡ y) (λ x. refl) (λ x y z p q. p ∙ q) (λ x y k e. ap (λ z. z +ℚ k) e)

pub at_most_yes : (x y : ℚ) → is_at_most x y ≡ true → x ≤ℚ y
unfolding is_at_most
at_most_yes x y h = record { crosswise = le_z_yes (subst T (sym h) tt) }

pub at_most_no : (x y : ℚ) → is_at_most x y ≡ false → y <ℚ x
unfolding is_at_most
at_most_no x y h = record { crosswise = by_lt_z _ _ (λ l. l) (λ m. absurd (subst T h m.le)) }

pub at_most_of : (x y : ℚ) → x ≤ℚ y → is_at_most x y ≡ true
unfolding is_at_most
at_most_of x y h = true_of (int_le (x.top *ℤ pos y.bottom) (y.top *ℤ pos x.bottom)) h.crosswise.le
  where
    true_of : (b : Bool) → T b → b ≡ true
    true_of true t = refl
    true_of false t = absurd t

pub same_yes : (x y : ℚ) → is_same x y ≡ true → x ≡ y
unfolding is_same
same_yes x y h = let both = and_parts (is_at_most x y) (is_at_most y x) h in ≤ℚ_antisymm x y (at_most_yes x y both.0) (at_most_yes y x both.1)
