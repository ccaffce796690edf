-- A cost and the bound that it needs: its fault and its part.
use Rattle.std.proofs.Common.{◌≡◌, ◌≢◌, ℕ, ◌∙◌, sym, ap, ap₂, refl, subst, Bool, true, false, ◌||◌, ℤ, pos, negsuc, int_lt, Option, Some, None, IfSome}
use mathlib.Core.Bool.{beq}
use Rattle.std.specs.Prelude.{if◌then◌else◌, option_and_then, is_some}
use Rattle.std.specs.Option.{option_map}
use Rattle.exact_numbers.specs.Fits.{fits, sum_fits}
use Rattle.exact_numbers.specs.Functions.{is_zero}
use Rattle.exact_numbers.specs.Rational.{ℚ, whole, zero_ℚ, ◌+ℚ◌, ◌-ℚ◌, ◌*ℚ◌, neg_ℚ}
use Rattle.exact_numbers.proofs.RationalLaws.{+ℚ_zero, *ℚ_zero, -ℚ_lem, neg-neg, neg-*ℚ, top_zero, not-is_zero}
use Rattle.linear_program.specs.Linear.{Interval}
use Rattle.certificates.specs.Checked.{fitting, fitting_difference, fitting_sum, less_product, plus_product}
use Rattle.certificates.specs.Verdict.{bound_side_missing, cost_check, cost_part_of, needed_side}
use Rattle.exact_numbers.proofs.Bridge.{frac_fits_lem}
use Rattle.exact_numbers.proofs.Zeros.{fits_zero, sum_fits_zero}
use Rattle.exact_numbers.specs.declared.dec.Dec.{Dec}
use Rattle.exact_numbers.specs.Values.{frac_value}
use Rattle.exact_checks.specs.declared.short_fraction.ShortFraction.{ShortFraction}
use Rattle.exact_checks.specs.declared.sums.RunningSum.{RunningSum}
use Rattle.exact_checks.specs.declared.sums.RunningSum.TheVariants.{Untouched, Short, Exact, TooWide}
use Rattle.exact_checks.specs.Sums.{IsNeeded, less_part, short_value, sum_value}
use Rattle.exact_checks.specs.Terms.{side_value}
use Rattle.exact_checks.proofs.ShortLemmas.{IsShort, less_is, not_negative, short_fits, short_over}
use Rattle.linear_program.proofs.FracLemmas.{fits_neg}

-- ---- the sign
pub zero_not_negative : (d : ℚ) → zero_ℚ ≡ d → false ≡ int_lt d.top (pos 0)
zero_not_negative d e = ap (λ z. int_lt z (pos 0)) (sym (top_zero d (sym e)))

not_below : (k : ℕ) → true ≡ int_lt (pos k) (pos 0) → ⊥
not_below k e = (let both = e ∙ not_negative k in cc)

pub needs_lower : (max negative : Bool) (t : ℤ) (i : Interval) → beq max negative ≡ true → negative ≡ int_lt t (pos 0) → i.lower ≡ needed_side max t i
needs_lower false false (pos k) i e h = refl
needs_lower true true (negsuc k) i e h = refl
needs_lower true true (pos k) i e h = absurd (not_below k h)
needs_lower max negative t i e h = absurd (cc)

pub needs_upper : (max negative : Bool) (t : ℤ) (i : Interval) → beq max negative ≡ false → negative ≡ int_lt t (pos 0) → i.upper ≡ needed_side max t i
needs_upper false true (negsuc k) i e h = refl
needs_upper false true (pos k) i e h = absurd (not_below k h)
needs_upper true false (pos k) i e h = refl
needs_upper max negative t i e h = absurd (cc)

-- ---- differences
pub short_is_short : (l : ShortFraction) → IsShort (short_value l)
short_is_short l = short_over l.num l.den l.size l.small

pub less_found : (r : Option ShortFraction) (s w f p : ShortFraction) (old weight : Option ℚ) (a : ℚ)
    → old ≡ Some (short_value s) → weight ≡ Some (short_value w) → short_value f ≡ a
    → short_value p ≡ short_value w *ℚ short_value f → IfSome r (λ l. short_value l ≡ short_value s -ℚ short_value p)
    → IfSome r (λ l. Some (short_value l) ≡ less_part weight a old)
less_found None s w f p old weight a x y z q h = tt
less_found (Some l) s w f p old weight a x y z q h =
    ap Some h
    ∙ sym (less_is (short_value s) (short_value w) a (short_value p) (short_is_short s) (short_is_short p) (q ∙ ap (λ v. short_value w *ℚ v) z))
    ∙ sym (ap₂ (λ v o. less_part v a o) y x)

-- the value of a sum fits
sum_fits_own : (x : RunningSum) (s : ℚ) → sum_value x ≡ Some s → fits s ≡ true
sum_fits_own Untouched s e = subst (λ v. fits v ≡ true) (let same : zero_ℚ ≡ s = cc in same) fits_zero
sum_fits_own (Short l) s e = subst (λ v. fits v ≡ true) (let same : short_value l ≡ s = cc in same) (short_fits (short_value l) (short_is_short l))
sum_fits_own (Exact f) s e = subst (λ v. fits v ≡ true) (let same : frac_value f ≡ s = cc in same) (frac_fits_lem f)
sum_fits_own TooWide s e = absurd (cc)

-- ---- parts
plus_is_less : (s d v : ℚ) → less_product s (neg_ℚ d) v ≡ plus_product s d v
unfolding less_product plus_product
plus_is_less s d v =
    ap (λ p. option_and_then (λ x. fitting_difference s x) (if fits p then Some p else None)) (neg-*ℚ d v)
    ∙ ap (λ b. option_and_then (λ x. fitting_difference s x) (if b then Some (neg_ℚ (d *ℚ v)) else None)) (fits_neg (d *ℚ v))
    ∙ by (fits (d *ℚ v)) (d *ℚ v)
  where
    by : (b : Bool) (p : ℚ) → option_and_then (λ x. fitting_difference s x) (if b then Some (neg_ℚ p) else None) ≡ option_and_then (λ x. fitting_sum s x) (if b then Some p else None)
    by true p = ap₂ (λ x y. if sum_fits s x then Some y else None) (neg-neg p) (-ℚ_lem s (neg_ℚ p) ∙ ap (λ x. s +ℚ x) (neg-neg p))
    by false p = refl

-- the sum with a product, in short parts
pub short_plus : (r : Option ShortFraction) (s f v n p : ShortFraction) → short_value n ≡ neg_ℚ (short_value f)
    → short_value p ≡ short_value n *ℚ short_value v → IfSome r (λ l. short_value l ≡ short_value s -ℚ short_value p)
    → IfSome r (λ l. plus_product (short_value s) (short_value f) (short_value v) ≡ Some (short_value l))
short_plus None s f v n p x y h = tt
short_plus (Some l) s f v n p x y h =
    sym (plus_is_less (short_value s) (short_value f) (short_value v))
    ∙ less_is (short_value s) (neg_ℚ (short_value f)) (short_value v) (short_value p) (short_is_short s) (short_is_short p) (y ∙ ap (λ a. a *ℚ short_value v) x)
    ∙ ap Some (sym h)

not_equal : (d : ℚ) → Some d ≢ Some zero_ℚ → d ≢ zero_ℚ
not_equal d n e = n (ap Some e)

-- the part of a cost that is not 0
part_of : (max : Bool) (i : Interval) (s d : ℚ) (o : Option ℚ) → Some d ≢ Some zero_ℚ
    → o ≡ option_and_then fitting (needed_side max d.top i) → cost_part_of max i s d
    ≡ option_and_then (λ x. plus_product s d x) o
part_of max i s d o n e =
    ap (λ b. if b then Some s else option_and_then (λ x. plus_product s d x) (option_and_then fitting (needed_side max d.top i))) (not-is_zero d (not_equal d n))
    ∙ sym (ap (option_and_then (λ x. plus_product s d x)) e)

pub part_added : (max : Bool) (i : Interval) (cost old : Option ℚ) (side : Option Dec) (v : ℚ) → cost ≢ Some zero_ℚ → IsNeeded max i cost side → Some v ≡ option_and_then fitting (side_value side)
    → less_part (option_map neg_ℚ cost) v old ≡ option_and_then (λ s. option_and_then (cost_part_of max i s) cost) old
part_added max i (Some d) (Some s) side v n h e = plus_is_less s d v ∙ sym (part_of max i s d (Some v) n (e ∙ ap (option_and_then fitting) (h d refl)))
part_added max i cost old side v n h e = refl

pub part_missing : (max : Bool) (i : Interval) (cost old : Option ℚ) (side : Option Dec) → cost ≢ Some zero_ℚ → IsNeeded max i cost side → None ≡ option_and_then fitting (side_value side)
    → None ≡ option_and_then (λ s. option_and_then (cost_part_of max i s) cost) old
part_missing max i cost None side n h e = refl
part_missing max i None (Some s) side n h e = refl
part_missing max i (Some d) (Some s) side n h e = sym (part_of max i s d None n (e ∙ ap (option_and_then fitting) (h d refl)))

-- a side of 0 adds nothing
pub plus_zero : (s d : ℚ) → fits s ≡ true → plus_product s d zero_ℚ ≡ Some s
unfolding plus_product
plus_zero s d f =
    ap (λ p. option_and_then (λ x. fitting_sum s x) (if fits p then Some p else None)) (*ℚ_zero d)
    ∙ ap (λ b. option_and_then (λ x. fitting_sum s x) (if b then Some zero_ℚ else None)) fits_zero
    ∙ ap₂ (λ b x. if b then Some x else None) (sum_fits_zero s f) (+ℚ_zero s)

pub no_part_of_side : (max : Bool) (i : Interval) (s d v : ℚ) → fits s ≡ true → v ≡ zero_ℚ → Some v ≡ needed_side max d.top i → cost_part_of max i s d ≡ Some s
no_part_of_side max i s d v f z e =
    ap (λ o. if is_zero d then Some s else option_and_then (λ x. plus_product s d x) (option_and_then fitting o)) (sym e ∙ ap Some z)
    ∙ ap (λ b. if is_zero d then Some s else option_and_then (λ x. plus_product s d x) (if b then Some zero_ℚ else None)) fits_zero
    ∙ ap (λ o. if is_zero d then Some s else o) (plus_zero s d f)
    ∙ either (is_zero d)
  where
    either : (b : Bool) → (if b then Some s else Some s) ≡ Some s
    either true = refl
    either false = refl

pub no_part_of_zero : (max : Bool) (i : Interval) (s d : ℚ) → Some d ≡ Some zero_ℚ → cost_part_of max i s d ≡ Some s
unfolding whole
no_part_of_zero max i s d e = ap (option_and_then (cost_part_of max i s)) e

-- ---- faults
pub value_there : (s : RunningSum) → s ≢ TooWide → (d : ℚ) × (sum_value s ≡ Some d)
value_there Untouched n = (zero_ℚ, refl)
value_there (Short l) n = (short_value l, refl)
value_there (Exact f) n = (frac_value f, refl)
value_there TooWide n = absurd (n refl)

or_true : (b : Bool) → b || true ≡ true
or_true true = refl
or_true false = refl

pub no_fault_of_side : (max : Bool) (i : Interval) (j : ℕ) (o : Option ℚ) (d v : ℚ) → o ≡ Some d → Some v ≡ needed_side max d.top i → None ≡ cost_check max i j o
no_fault_of_side max i j o d v e h =
    sym
    (ap (cost_check max i j) e
    ∙ ap (λ n. if is_zero d || is_some n then None else Some (bound_side_missing j)) (sym h)
    ∙ ap (λ b. if b then None else Some (bound_side_missing j)) (or_true (is_zero d)))

pub fault_of_side : (max : Bool) (i : Interval) (j : ℕ) (o : Option ℚ) (d : ℚ) → o ≡ Some d → o ≢ Some zero_ℚ → None ≡ needed_side max d.top i → Some (bound_side_missing j) ≡ cost_check max i j o
fault_of_side max i j o d e n h =
    sym
    (ap (cost_check max i j) e
    ∙ ap (λ x. if is_zero d || is_some x then None else Some (bound_side_missing j)) (sym h)
    ∙ ap (λ b. if b || false then None else Some (bound_side_missing j)) (not-is_zero d (λ z. n (e ∙ ap Some z))))

-- what has no fault has a value
value_without_fault : (max : Bool) (i : Interval) (j : ℕ) (o : Option ℚ) → None ≡ cost_check max i j o → (d : ℚ) × (o ≡ Some d)
value_without_fault max i j None h = absurd (cc)
value_without_fault max i j (Some d) h = (d, refl)

-- a sum to which nothing is added
pub part_unchanged : (max : Bool) (i : Interval) (j : ℕ) (sum : RunningSum) (cost : Option ℚ)
    → None ≡ cost_check max i j cost → ((s d : ℚ) → fits s ≡ true → cost ≡ Some d → cost_part_of max i s d ≡ Some s)
    → sum_value sum ≡ option_and_then (λ s. option_and_then (cost_part_of max i s) cost) (sum_value sum)
part_unchanged max i j sum cost none h = let v = value_without_fault max i j cost none in by (sum_value sum) refl v.0 v.1
  where
    by : (o : Option ℚ) → sum_value sum ≡ o → (d : ℚ) → cost ≡ Some d → o ≡ option_and_then (λ s. option_and_then (cost_part_of max i s) cost) o
    by None e d c = refl
    by (Some s) e d c = sym (ap (option_and_then (cost_part_of max i s)) c ∙ h s d (sum_fits_own sum s e) c)

pub ruleset needs = (needs_lower, needs_upper)
