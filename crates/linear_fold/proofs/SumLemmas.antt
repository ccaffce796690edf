-- Sums of parts: the order of two, their signs, and running sums over the end of a stack.
use Rattle.std.proofs.Common.{◌≡◌, ◌≢◌, ℕ, zero, suc, ◌+◌, ◌*◌, ◌-◌, ◌<◌, ◌≤◌, ◌/◌, ◌==◌, ◌∙◌, sym, ap, ap₂, refl}
use Rattle.std.proofs.Common.{subst, subst₂, arith, Bool, get_or, true, false, if◌then◌else◌, ◌&&◌, ℤ, pos, negsuc}
use Rattle.std.proofs.Common.{◌+ℤ◌, ◌*ℤ◌, neg_ℤ, unsigned_abs, Result, Ok, Err, Some, List, [], ◌∷◌, ◌++◌, map, length}
use Rattle.std.proofs.Common.{reverse, take, length-append, ⊎_elim}
use Rattle.std.proofs.lemmas.List.{reverse-append, take-take, take_all}
use Rattle.std.proofs.Math.Bool.{and-true}
use Rattle.std.proofs.Math.Seq.{take-append_seam}
use Rattle.std.proofs.Math.Nat.{mul-le-mul_left}
use lib.IntN.{+ℤ_comm, neg_ℤ-+ℤ}
use Rattle.std.proofs.lemmas.Bool.{and_from, cases_lt}
use Rattle.text_base.specs.declared.stop.Stop.{Stop}
use Rattle.text_base.specs.declared.stop.Stop.TheVariants.{Fault as Stopped, Memory}
use Rattle.exact_numbers.proofs.Coprime.{same_lcm}
use Rattle.exact_numbers.proofs.Zeros.{fits_zero}
use Rattle.exact_numbers.specs.Fits.{fits, is_small, least_multiple, parts_fit, sum_fits, sum_over_multiple}
use Rattle.exact_numbers.specs.LowestLemmas.{lcm_is}
use Rattle.exact_numbers.specs.Rational.{ℚ, whole, neg_ℚ, one_ℚ, zero_ℚ, ◌+ℚ◌, ◌*ℚ◌}
use Rattle.exact_numbers.proofs.RationalLaws.{*ℚ-neg, +ℚ_comm, +ℚ_zero, neg-*ℚ, neg-+ℚ, neg-neg, neg_zero, zero-*ℚ, zero-+ℚ, neg_size, neg_parts}
use Rattle.exact_numbers.proofs.IntegerLaws.{neg-*ℤ}
use Rattle.linear_program.specs.Lines.{Line, constant_line, one_if, all_below, is_constant, is_zero, products_fit, line_neg, line_scaled, line_sum, running_line, running_sums_fit, sums_fit}
use Rattle.nl_model.specs.Faults.{too_wide_unless}
use Rattle.code_tables.specs.declared.class.OpClass.TheVariants.{Difference, Negation, Product, List as SumOfAll}
use Rattle.linear_program.specs.declared.too_wide.Wide.{Wide}
use Rattle.linear_program.specs.Coefs.{AddsAt}
use Rattle.linear_program.specs.Forms.{AddsScaled, Multiplies, IsZeroFrom, ScaledSumFits}
use Rattle.linear_program.proofs.Scaled.{all_below-intro, same_line}
use Rattle.linear_fold.specs.declared.operate.Outcome.{Outcome}
use Rattle.linear_fold.specs.declared.operate.Outcome.TheVariants.{Linear as Made, Refused}
use Rattle.linear_fold.specs.declared.parts.PartialForm.{PartialForm}
use Rattle.linear_fold.specs.declared.parts.PartialForm.TheVariants.{Number}
use Rattle.exact_numbers.specs.declared.frac.Frac.{Frac}
use Rattle.exact_numbers.specs.Values.{frac_value}
use Rattle.exact_numbers.proofs.Values.{same_parts}
use Rattle.linear_fold.specs.InsideOperates.{AreOperands, ComesTo, IsLeft, IsOperand, IsSameSum, IsSound, IsUnit, Operates, SumsTo, multiple_line, part_line}
use Rattle.linear_fold.proofs.Operators.{FitsLine, adds_multiple, stops_multiple, added, fault_first, first_of_all, line_fits, neg_fits, number_constant, part_fits, scaled_by_minus, scaled_by_one}

-- ---- the order of two numbers
swap_tests : (a b c d : Bool) → (a && b && c && d) ≡ (a && c && b && d)
swap_tests true true c d = ap (λ x. x && d) (sym (and-true c))
swap_tests true false true d = refl
swap_tests true false false d = refl
swap_tests false b c d = refl

least_multiple_swap : (a b : ℕ) → least_multiple a b ≡ least_multiple b a
least_multiple_swap a b =
    let h = lcm_is b a in
    same_lcm a b (least_multiple a b) (least_multiple b a) (lcm_is a b) (h.1, h.0, λ k p q. h.2 k q p)

parts_swap : (m : ℕ) (p q : ℤ) → parts_fit m p q ≡ parts_fit m q p
parts_swap m p q =
    swap_tests (is_small m) (is_small (unsigned_abs p)) (is_small (unsigned_abs q)) (is_small (unsigned_abs (p +ℤ q)))
    ∙ ap (λ z. is_small m && is_small (unsigned_abs q) && is_small (unsigned_abs p) && is_small (unsigned_abs z)) (+ℤ_comm p q)

pub sum_fits_swap : (x y : ℚ) → sum_fits x y ≡ sum_fits y x
sum_fits_swap x y =
    ap (λ m. sum_over_multiple m x y) (least_multiple_swap x.bottom y.bottom)
    ∙ parts_swap (least_multiple y.bottom x.bottom) (x.top *ℤ pos (least_multiple y.bottom x.bottom / x.bottom)) (y.top *ℤ pos (least_multiple y.bottom x.bottom / y.bottom))

-- ---- their signs
parts_neg : (m : ℕ) (p q : ℤ) → parts_fit m (neg_ℤ p) (neg_ℤ q) ≡ parts_fit m p q
parts_neg m p q =
    ap₂ (λ a b. is_small m && is_small a && is_small b && is_small (unsigned_abs (neg_ℤ p +ℤ neg_ℤ q))) (neg_size p) (neg_size q)
    ∙ ap (λ a. is_small m && is_small (unsigned_abs p) && is_small (unsigned_abs q) && is_small a) (ap unsigned_abs (sym (neg_ℤ-+ℤ p q)) ∙ neg_size (p +ℤ q))

sum_fits_neg : (x y : ℚ) → sum_fits (neg_ℚ x) (neg_ℚ y) ≡ sum_fits x y
sum_fits_neg x y =
    let a = neg_parts x in
    let b = neg_parts y in
    let m = least_multiple x.bottom y.bottom in
    ap₂ (λ c d. parts_fit (least_multiple c d) ((neg_ℚ x).top *ℤ pos (least_multiple c d / c)) ((neg_ℚ y).top *ℤ pos (least_multiple c d / d))) a.1 b.1
    ∙ ap₂ (λ p q. parts_fit m (p *ℤ pos (m / x.bottom)) (q *ℤ pos (m / y.bottom))) a.0 b.0
    ∙ ap₂ (parts_fit m) (neg-*ℤ x.top (pos (m / x.bottom))) (neg-*ℤ y.top (pos (m / y.bottom)))
    ∙ parts_neg m (x.top *ℤ pos (m / x.bottom)) (y.top *ℤ pos (m / y.bottom))

pub sum_fits_turned : (x y : ℚ) → sum_fits (neg_ℚ x) y ≡ sum_fits x (neg_ℚ y)
sum_fits_turned x y = ap (sum_fits (neg_ℚ x)) (sym (neg-neg y)) ∙ sum_fits_neg x (neg_ℚ y)

-- ---- lines
all_below_same : (p q : ℕ → Bool) (n : ℕ) → ((j : ℕ) → p j ≡ q j) → all_below p n ≡ all_below q n
all_below_same p q zero e = refl
all_below_same p q (suc n) e = ap₂ ◌&&◌ (all_below_same p q n e) (e n)

pub same_swapped : (n : ℕ) (a b : Line) → IsSameSum n a b b a
same_swapped n a b =
    record {
      fit = ap₂ ◌&&◌ (sum_fits_swap a.constant b.constant) (all_below_same (λ j. sum_fits (a.coef j) (b.coef j)) (λ j. sum_fits (b.coef j) (a.coef j)) n (λ j. sum_fits_swap (a.coef j) (b.coef j)));
      line = same_line _ _ (+ℚ_comm a.constant b.constant) (λ j. +ℚ_comm (a.coef j) (b.coef j));
    }

-- the opposite of a with b: the opposite of a less b
pub turned_fit : (n : ℕ) (a b : Line) → sums_fit n a (line_neg b) ≡ sums_fit n (line_neg a) b
turned_fit n a b =
    ap₂ ◌&&◌ (sym (sum_fits_turned a.constant b.constant)) (all_below_same (λ j. sum_fits (a.coef j) (neg_ℚ (b.coef j)))
    (λ j. sum_fits (neg_ℚ (a.coef j)) (b.coef j)) n (λ j. sym (sum_fits_turned (a.coef j) (b.coef j))))

pub turned_line : (a b : Line) → line_neg (line_sum a (line_neg b)) ≡ line_sum (line_neg a) b
turned_line a b = same_line _ _ (one a.constant b.constant) (λ j. one (a.coef j) (b.coef j))
  where
    one : (x y : ℚ) → neg_ℚ (x +ℚ neg_ℚ y) ≡ neg_ℚ x +ℚ y
    one x y = neg-+ℚ x (neg_ℚ y) ∙ ap (λ z. neg_ℚ x +ℚ z) (neg-neg y)

pub turned_sum : (n : ℕ) (a b new : Line) (r : Result (Unit {0}) (Stop Wide))
    → SumsTo (sums_fit n a (line_neg b)) (line_sum a (line_neg b)) new r
    → SumsTo (sums_fit n (line_neg a) b) (line_sum (line_neg a) b) (line_neg new) r
turned_sum n a b new (Ok u) h = (sym (turned_fit n a b) ∙ h.0, ap line_neg h.1 ∙ turned_line a b)
turned_sum n a b new (Err (Stopped w)) h = sym (turned_fit n a b) ∙ h
turned_sum n a b new (Err Memory) h = tt

zero_turned : (x : ℚ) → is_zero x ≡ is_zero (neg_ℚ x)
zero_turned x = sym (ap (λ z. unsigned_abs z == 0) (neg_parts x).0 ∙ ap (λ z. z == 0) (neg_size x.top))

pub neg_constant : (n : ℕ) (a : Line) → is_constant n a ≡ is_constant n (line_neg a)
neg_constant n a = all_below_same (λ j. is_zero (a.coef j)) (λ j. is_zero (neg_ℚ (a.coef j))) n (λ j. zero_turned (a.coef j))

pub line_neg_neg : (a : Line) → line_neg (line_neg a) ≡ a
line_neg_neg a = same_line _ _ (neg-neg a.constant) (λ j. neg-neg (a.coef j))

-- ---- k times the opposite
times_opposite : (k m x : ℚ) → m ≡ neg_ℚ k → m *ℚ x ≡ k *ℚ neg_ℚ x
times_opposite k m x e = ap (λ z. z *ℚ x) e ∙ neg-*ℚ k x ∙ sym (*ℚ-neg k x)

fits_turned : (a b : Line) (k m : ℚ) → m ≡ neg_ℚ k → ScaledSumFits a m b → ScaledSumFits a k (line_neg b)
fits_turned a b k m e h =
    record {
      product = subst (λ z. fits z ≡ true) (times_opposite k m b.constant e) h.product;
      sum = subst (λ z. sum_fits a.constant z ≡ true) (times_opposite k m b.constant e) h.sum;
      products = λ j. subst (λ z. fits z ≡ true) (times_opposite k m (b.coef j) e) (h.products j);
      sums = λ j. subst (λ z. sum_fits (a.coef j) z ≡ true) (times_opposite k m (b.coef j) e) (h.sums j);
    }

fits_turned_back : (a b : Line) (k m : ℚ) → m ≡ neg_ℚ k → ScaledSumFits a k (line_neg b) → ScaledSumFits a m b
fits_turned_back a b k m e h =
    record {
      product = subst (λ z. fits z ≡ true) (sym (times_opposite k m b.constant e)) h.product;
      sum = subst (λ z. sum_fits a.constant z ≡ true) (sym (times_opposite k m b.constant e)) h.sum;
      products = λ j. subst (λ z. fits z ≡ true) (sym (times_opposite k m (b.coef j) e)) (h.products j);
      sums = λ j. subst (λ z. sum_fits (a.coef j) z ≡ true) (sym (times_opposite k m (b.coef j) e)) (h.sums j);
    }

pub scaled_opposite : (k m : ℚ) (b : Line) → m ≡ neg_ℚ k → line_scaled m b ≡ line_scaled k (line_neg b)
scaled_opposite k m b e = same_line _ _ (times_opposite k m b.constant e) (λ j. times_opposite k m (b.coef j) e)

pub opposite_comes : (n : ℕ) (k m : ℚ) (a : Line) (o : Outcome) → m ≡ neg_ℚ k
    → ComesTo n (products_fit n m a) (line_scaled m a) o → ComesTo n (products_fit n k (line_neg a))
    (line_scaled k (line_neg a)) o
opposite_comes n k m a o e h =
    let fit : products_fit n m a ≡ products_fit n k (line_neg a) =
    ap₂ (λ x b. fits x && b) (times_opposite k m a.constant e)
    (all_below_same (λ j. fits (m *ℚ a.coef j)) (λ j. fits (k *ℚ neg_ℚ (a.coef j))) n
    (λ j. ap fits (times_opposite k m (a.coef j) e))) in
    subst₂ (λ (b : Bool) (l : Line). ComesTo n b l o) fit (scaled_opposite k m a e) h

-- 0 times a line
pub zero_comes : (n : ℕ) (k : ℚ) (a : Line) → k ≡ zero_ℚ → (products_fit n k a ≡ true) × (constant_line k ≡ line_scaled k a)
zero_comes n k a e = (
  and_from _ _ (fit a.constant) (all_below-intro (λ j. fits (k *ℚ a.coef j)) n (λ j h. fit (a.coef j))),
  same_line _ _ (e ∙ sym (none a.constant)) (λ j. sym (none (a.coef j))),
)
  where
    none : (x : ℚ) → k *ℚ x ≡ zero_ℚ
    none x = ap (λ z. z *ℚ x) e ∙ zero-*ℚ x

    fit : (x : ℚ) → fits (k *ℚ x) ≡ true
    fit x = ap fits (none x) ∙ fits_zero

pub adds_opposite : (a b new : Line) (k m : ℚ) (r : Result (Unit {0}) (Stop Wide)) → m ≡ neg_ℚ k → AddsScaled a m b new r → AddsScaled a k (line_neg b) new r
adds_opposite a b new k m (Ok u) e h = (fits_turned a b k m e h.0, h.1 ∙ ap (line_sum a) (scaled_opposite k m b e))
adds_opposite a b new k m (Err (Stopped w)) e h = λ s. h (fits_turned_back a b k m e s)
adds_opposite a b new k m (Err Memory) e h = tt

pub neg_zero_from : (n : ℕ) (a : Line) → IsZeroFrom n (line_neg a) → IsZeroFrom n a
neg_zero_from n a p j h = sym (neg-neg (a.coef j)) ∙ ap neg_ℚ (p j h) ∙ neg_zero

-- ---- the opposite of a form
minus_fits : (n : ℕ) (k x : ℚ) (a : Line) → k ≡ neg_ℚ x → x ≡ one_ℚ → FitsLine a → products_fit n k a ≡ true
minus_fits n k x a e one small = line_fits n k a (subst FitsLine (sym (scaled_by_minus k x a e one)) (neg_fits a small))

pub minus_never : (n : ℕ) (k x : ℚ) (a : Line) (s : Stop Wide) (w : Wide) → k ≡ neg_ℚ x → x ≡ one_ℚ → FitsLine a → IsZeroFrom n a → s ≡ Stopped w → Multiplies a k (Err s) → ⊥
minus_never n k x a s w e one small z is h =
    let wide = subst (λ t. Multiplies a k (Err t)) is h in
    let clash : true ≡ false = sym (minus_fits n k x a e one small) ∙ wide n z in
    cc

pub minus_some : (k x : ℚ) → k ≡ neg_ℚ x → x ≡ one_ℚ → k ≢ zero_ℚ
unfolding whole
minus_some k x e one z =
    let none : one_ℚ ≡ zero_ℚ = sym one ∙ sym (neg-neg x) ∙ ap neg_ℚ (sym e ∙ z) ∙ neg_zero in
    let clash : unsigned_abs one_ℚ.top ≡ unsigned_abs zero_ℚ.top = ap (λ q. unsigned_abs q.top) none in
    absurd (omega (arith, clash))

-- ---- opposite leaves
pub neg_number : (x y : ℚ) → y ≡ neg_ℚ x → constant_line y ≡ line_neg (constant_line x)
neg_number x y e = same_line _ _ e (λ j. sym neg_zero)

pub neg_multiple : (j : ℕ) (x y : ℚ) → y ≡ neg_ℚ x → multiple_line j y ≡ line_neg (multiple_line j x)
neg_multiple j x y e = same_line _ _ (sym neg_zero) (λ i. ap (λ z. zero_ℚ +ℚ z *ℚ one_if (i == j)) e ∙ one (one_if (i == j)))
  where
    one : (z : ℚ) → zero_ℚ +ℚ neg_ℚ x *ℚ z ≡ neg_ℚ (zero_ℚ +ℚ x *ℚ z)
    one z = zero-+ℚ (neg_ℚ x *ℚ z) ∙ neg-*ℚ x z ∙ ap neg_ℚ (sym (zero-+ℚ (x *ℚ z)))

-- ---- k times a multiple
pub multiple_added : (a : Line) (k x : ℚ) (j : ℕ) → FitsLine a
    → (new : Line) (m : ℚ) (r : Result (Unit {0}) (Stop Wide)) → fits (k *ℚ x) ≡ true → m ≡ k *ℚ x
    → new.constant ≡ a.constant → AddsAt a.coef j m new.coef r → AddsScaled a k (multiple_line j x) new r
multiple_added a k x j small new m (Ok u) fit is c h = adds_multiple a k x j small new m fit is c h
multiple_added a k x j small new m (Err s) fit is c h = stops_multiple a k x j small new new m s is h

-- ---- one part onto another
pub onto_form : (n : ℕ) (a b new : Line) (k : ℚ) (r : Result (Unit {0}) (Stop Wide)) → k ≡ one_ℚ → FitsLine b
    → IsZeroFrom n a → IsZeroFrom n b → AddsScaled a k b new r → SumsTo (sums_fit n a b) (line_sum a b) new r
onto_form n a b new k r one fb za zb h = added a b k b (scaled_by_one k b one) fb n za zb new r h

pub onto_opposite : (n : ℕ) (a b new : Line) (k x : ℚ) (r : Result (Unit {0}) (Stop Wide)) → k ≡ neg_ℚ x → x ≡ one_ℚ
    → FitsLine b → IsZeroFrom n (line_neg a) → IsZeroFrom n b → AddsScaled a k b new r
    → SumsTo (sums_fit n (line_neg a) b) (line_sum (line_neg a) b) (line_neg new) r
onto_opposite n a b new k x r e one fb za zb h = turned_sum n a b new r (added a b k (line_neg b) (scaled_by_minus k x b e one) (neg_fits b fb) n (neg_zero_from n a za) zb new r h)

pub same_operand : (n : ℕ) (p q : PartialForm) → IsOperand n p → part_line q ≡ part_line p → IsSound n q → IsOperand n q
same_operand n p q w e sound = record { sound = sound; zero_from = λ j g. ap (λ l. l.coef j) e ∙ w.zero_from j g }

sum_zero : (n : ℕ) (a b : Line) → IsZeroFrom n a → IsZeroFrom n b → IsZeroFrom n (line_sum a b)
sum_zero n a b p q j h = ap₂ ◌+ℚ◌ (p j h) (q j h) ∙ +ℚ_zero zero_ℚ

-- ---- stacks
pub left_none : {A : Type 0} (xs : List A) → xs ≡ take (length xs) xs
left_none xs = sym (take_all (length xs) xs (omega arith))

pub popped_front : {A : Type 0} (old new : List A) (x : A) → old ≡ new ++ x ∷ [] → new ≡ take (length new) old
popped_front old new x e = sym (take-append_seam new (x ∷ [])) ∙ ap (take (length new)) (sym e)

pub popped_length : {A : Type 0} (old new : List A) (x : A) → old ≡ new ++ x ∷ [] → length old ≡ length new + 1
popped_length old new x e = ap length e ∙ length-append new (x ∷ [])

pub front_of_front : {A : Type 0} (old mid new : List A) → mid ≡ take (length mid) old → new ≡ take (length new) mid → length new ≤ length mid → new ≡ take (length new) old
front_of_front old mid new e f h = f ∙ ap (take (length new)) e ∙ take-take (length new) (length mid) old h

pub left_more : (k : ℕ) (old mid new : List PartialForm) (x : PartialForm) → IsLeft k old mid → mid ≡ new ++ x ∷ [] → IsLeft (k + 1) old new
left_more k old mid new x l e =
    let one = popped_length mid new x e in
    record {
      front = front_of_front old mid new l.front (popped_front mid new x e) (omega (arith, one));
      few = omega (arith, l.few, one);
    }

pub left_at_most : (k m : ℕ) (old new : List PartialForm) → k ≤ m → IsLeft k old new → IsLeft m old new
left_at_most k m old new h l = record { front = l.front; few = omega (arith, l.few, h) }

pub left_shorter : (k : ℕ) (old new : List PartialForm) → IsLeft k old new → length new ≤ length old
left_shorter k old new l =
    ⊎_elim
    (λ (h : length old < length new). let same : length new ≡ length old = ap length (l.front ∙ take_all (length new) old (omega arith)) in omega arith)
    (λ (h : length new ≤ length old). h)
    (cases_lt (length old) (length new))

pub none_left : (old : List PartialForm) → IsLeft 0 old old
none_left old = record { front = left_none old; few = omega arith }

-- the first of so many operands is the last of the stack
pub next_taken : {A : Type 0} (m k : ℕ) (old new : List A) (x : A) → m ≡ suc k → old ≡ new ++ x ∷ [] → take m (reverse old) ≡ x ∷ take k (reverse new)
next_taken m k old new x s e = ap (λ i. take i (reverse old)) s ∙ ap (take (suc k)) (ap reverse e ∙ reverse-append new (x ∷ []))

pub no_operand : {A : Type 0} (k : ℕ) (xs : List A) → k ≡ 0 → take k xs ≡ []
no_operand k xs e = ap (λ i. take i xs) e

pub two_taken : {A : Type 0} (old mid new : List A) (x y : A) → old ≡ mid ++ x ∷ [] → mid ≡ new ++ y ∷ [] → take 2 (reverse old) ≡ x ∷ y ∷ []
two_taken old mid new x y e f = next_taken 2 1 old mid x refl e ∙ ap (λ ys. x ∷ ys) (next_taken 1 0 mid new y refl f)

-- ---- running sums over the operands that are left
pub record Adding (n : ℕ) (total : Line) (left all : List PartialForm) (first : Line) : Type 0 where
  pub line : running_line total (map part_line left) ≡ running_line first (map part_line all)
  pub fit : running_sums_fit n total (map part_line left) ≡ running_sums_fit n first (map part_line all)
  pub zero_from : IsZeroFrom n total
  pub within : AreOperands n left

pub adding_init : (n : ℕ) (total : Line) (all : List PartialForm) → IsZeroFrom n total → AreOperands n all → Adding n total all all total
adding_init n total all z w = record { line = refl; fit = refl; zero_from = z; within = w }

module _ (n : ℕ) (total first : Line) (x : PartialForm) (left rest all : List PartialForm) (is : left ≡ x ∷ rest) (a : Adding n total left all first) where
  opened : Adding n total (x ∷ rest) all first
  opened = subst (λ l. Adding n total l all first) is a

  pub next_operand : IsOperand n x
  next_operand = opened.within.0

  pub adding_more : (new : Line) → (sums_fit n total (part_line x) ≡ true) × (new ≡ line_sum total (part_line x)) → Adding n new rest all first
  adding_more new s =
      let o = opened in
      record {
        line = ap (λ c. running_line c (map part_line rest)) s.1 ∙ o.line;
        fit = ap (λ c. running_sums_fit n c (map part_line rest)) s.1 ∙ ap (λ b. b && running_sums_fit n (line_sum total (part_line x)) (map part_line rest)) (sym s.0) ∙ o.fit;
        zero_from = λ j g. ap (λ c. c.coef j) s.1 ∙ sum_zero n total (part_line x) o.zero_from o.within.0.zero_from j g;
        within = o.within.1;
      }

  pub adding_stop : (new other : Line) (stop : Stop Wide) → SumsTo (sums_fit n total (part_line x))
      (line_sum total (part_line x)) new (Err stop) → SumsTo (running_sums_fit n first (map part_line all))
      (running_line first (map part_line all)) other (Err stop)
  adding_stop new other (Stopped w) h = sym opened.fit ∙ ap (λ b. b && running_sums_fit n (line_sum total (part_line x)) (map part_line rest)) h
  adding_stop new other Memory h = tt

pub adding_end : (n : ℕ) (total first : Line) (left all : List PartialForm) → left ≡ [] → Adding n total left all first
    → (running_sums_fit n first (map part_line all) ≡ true) × (total ≡ running_line first (map part_line all))
adding_end n total first left all is a =
    let o : Adding n total [] all first = subst (λ l. Adding n total l all first) is a in
    (sym o.fit, o.line)

-- ---- outcomes
pub sum_of_all_comes : (n : ℕ) (x : PartialForm) (rest ps : List PartialForm) (o : Outcome) → ps ≡ x ∷ rest
    → ComesTo n (running_sums_fit n (part_line x) (map part_line rest)) (running_line (part_line x) (map part_line rest))
    o → Operates n SumOfAll (map part_line ps) o
sum_of_all_comes n x rest ps (Made g) e h =
    subst (λ qs. Operates n SumOfAll (map part_line qs) (Made g)) (sym e) (ap too_wide_unless h.0, h.1, h.2)
sum_of_all_comes n x rest ps (Refused r) e h =
    subst (λ qs. Operates n SumOfAll (map part_line qs) (Refused r)) (sym e) (ap too_wide_unless h.0 ∙ ap Some (sym h.1))

pub difference_comes : (n : ℕ) (a b : Line) (o : Outcome) → ComesTo n (sums_fit n a (line_neg b)) (line_sum a (line_neg b)) o → Operates n Difference (a ∷ b ∷ []) o
difference_comes n a b (Made f) h = (ap too_wide_unless h.0, h.1, h.2)
difference_comes n a b (Refused r) h = ap too_wide_unless h.0 ∙ ap Some (sym h.1)

-- the opposite of the last of a stack
pub negation_comes : (n : ℕ) (old new : List PartialForm) (x p : PartialForm) → old ≡ new ++ x ∷ []
    → part_line p ≡ line_neg (part_line x) → ((m : ℕ) → IsSound m x → IsSound m p) → AreOperands n (take 1 (reverse old))
    → Operates n Negation (map part_line (take 1 (reverse old))) (Made p)
negation_comes n old new x p e line sound w =
    let one = next_taken 1 0 old new x refl e in
    subst (λ ps. Operates n Negation (map part_line ps) (Made p)) (sym one) (refl, line, sound n (subst (AreOperands n) one w).0.sound)

pub operand_opposite : (n : ℕ) (p q : PartialForm) → IsOperand n p → part_line q ≡ line_neg (part_line p) → ((m : ℕ) → IsSound m p → IsSound m q) → IsOperand n q
operand_opposite n p q w line sound =
    record { sound = sound n w.sound; zero_from = λ j g. ap (λ l. l.coef j) line ∙ ap neg_ℚ (w.zero_from j g) ∙ neg_zero }

-- a difference is a sum with the opposite
pub difference_of : (n : ℕ) (ps : List PartialForm) (a b q : PartialForm) (o : Outcome) → ps ≡ a ∷ b ∷ []
    → part_line q ≡ line_neg (part_line b) → ComesTo n (sums_fit n (part_line a) (part_line q))
    (line_sum (part_line a) (part_line q)) o → Operates n Difference (map part_line ps) o
difference_of n ps a b q o e line h =
    subst (λ rs. Operates n Difference (map part_line rs) o) (sym e)
    (difference_comes n (part_line a) (part_line b) o (subst (λ l. ComesTo n (sums_fit n (part_line a) l) (line_sum (part_line a) l) o) line h))

-- ---- products by 1 and -1
chosen : {X : Type 0} (t : Bool) (x y : X) → t ≡ true → (if t then x else y) ≡ x
chosen true x y e = refl
chosen false x y e = cc

pub minus_line : (minus : Bool) (a b : Line) → minus ≡ true → b ≡ line_neg a → b ≡ (if minus then line_neg a else a)
minus_line true a b t e = e
minus_line false a b t e = cc

pub plus_line : (minus : Bool) (a : Line) → minus ≡ false → a ≡ (if minus then line_neg a else a)
plus_line true a t = cc
plus_line false a t = refl

unit_times : (minus : Bool) (b : Line) → line_scaled (if minus then neg_ℚ one_ℚ else one_ℚ) b ≡ (if minus then line_neg b else b)
unit_times true b = scaled_by_minus (neg_ℚ one_ℚ) one_ℚ b refl refl
unit_times false b = scaled_by_one one_ℚ b refl

one_value : (x : ℚ) → x.top ≡ pos 1 → x.bottom ≡ 1 → x ≡ one_ℚ
unfolding whole
one_value x t b = same_parts x one_ℚ t b

minus_value : (x : ℚ) → x.top ≡ negsuc 0 → x.bottom ≡ 1 → x ≡ neg_ℚ one_ℚ
unfolding whole
minus_value x t b = same_parts x (neg_ℚ one_ℚ) (t ∙ sym (neg_parts one_ℚ).0) (b ∙ sym (neg_parts one_ℚ).1)

-- the last of a list is the first of the operands
module _ (ps : List PartialForm) (p : PartialForm) (k : Frac) (some : 0 < length ps) (at : p ≡ get_or ps (length ps - 1) p) (is : p ≡ Number k) (whole_number : (frac_value k).bottom ≡ 1) where
  unit_first : (minus : Bool) → frac_value k ≡ (if minus then neg_ℚ one_ℚ else one_ℚ) → IsUnit minus (reverse ps)
  unit_first minus v = subst (IsUnit minus) (sym (first_of_all ps p some at)) (ap part_line is ∙ ap constant_line v)

  pub unit_plus : (frac_value k).top ≡ pos 1 → IsUnit false (reverse ps)
  unit_plus t = unit_first false (one_value (frac_value k) t whole_number)

  pub unit_minus : (frac_value k).top ≡ negsuc 0 → IsUnit true (reverse ps)
  unit_minus t = unit_first true (minus_value (frac_value k) t whole_number)

-- a product of two operands, the first of which is 1 or -1
pub unit_product : (n : ℕ) (ps : List PartialForm) (minus : Bool) (a b r : PartialForm) → ps ≡ a ∷ b ∷ []
    → IsUnit minus ps → part_line r ≡ (if minus then line_neg (part_line b) else part_line b)
    → (IsSound n b → IsSound n r) → AreOperands n ps → Operates n Product (map part_line ps) (Made r)
unit_product n ps minus a b r e unit line sound within =
    let k : ℚ = if minus then neg_ℚ one_ℚ else one_ℚ in
    let scaled : line_scaled k (part_line b) ≡ part_line r = unit_times minus (part_line b) ∙ sym line in
    let fit : products_fit n k (part_line b) ≡ true = line_fits n k (part_line b) (subst FitsLine (sym scaled) (part_fits r)) in
    let test : is_constant n (constant_line k) ≡ true = sym (number_constant n k) in
    let is : part_line a ≡ constant_line k = subst (IsUnit minus) e unit in
    subst (λ rs. Operates n Product (map part_line rs) (Made r)) (sym e)
    (subst (λ l. Operates n Product (l ∷ part_line b ∷ []) (Made r)) (sym is)
    (fault_first _ _ _ test ∙ ap too_wide_unless fit, sym scaled ∙ sym (chosen _ _ _ test), sound (subst (AreOperands n) e within).1.0.sound))

-- ---- steps
pub steps_more : (w i from old new : ℕ) → old ≤ from + 2 * w * i → new ≤ old + 2 * w → new ≤ from + 2 * w * (i + 1)
steps_more w i from old new a b =
    let e : 2 * w * (i + 1) ≡ 2 * w * i + 2 * w = omega arith in
    omega arith

pub steps_within : (w i k from new : ℕ) → i ≤ k → new ≤ from + 2 * w * i → new ≤ from + 2 * w * k
steps_within w i k from new h a =
    let most : 2 * w * i ≤ 2 * w * k = mul-le-mul_left (2 * w) h in
    omega arith
