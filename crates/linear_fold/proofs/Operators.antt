-- The parts of a tree, and what the operators on them come to.
use Rattle.std.proofs.Common.{◌≡◌, ◌≢◌, ℕ, ◌+◌, ◌-◌, ◌<◌, ◌≤◌, ◌==◌, ◌∙◌, sym, ap, ap₂, refl, subst, Bool, true, false}
use Rattle.std.proofs.Common.{◌&&◌, Result, Ok, Err, List, [], ◌∷◌, ◌++◌, take, drop, reverse, length, get_or}
use Rattle.std.proofs.Common.{length-drop, arith, ⊎_elim, ◌*◌, subst₂, Option, Some, IfOk, map, if◌then◌else◌}
use Rattle.std.proofs.Math.Bool.{and-false, and-true}
use Rattle.std.proofs.lemmas.Bool.{cases_eq, eq-eqb, and_from, and_parts, false_from_ne_true, cases_lt}
use Rattle.std.proofs.lemmas.List.{length-reverse, reverse-append, take_all, take_more, take-append-drop}
use Rattle.std.proofs.Math.Seq.{take-append_seam, drop-append_seam}
use Rattle.text_base.specs.declared.stop.Stop.{Stop}
use Rattle.text_base.specs.declared.stop.Stop.TheVariants.{Fault as Stopped, Memory, Fault}
use Rattle.exact_numbers.specs.declared.frac.Frac.{Frac}
use Rattle.exact_numbers.specs.Values.{frac_value}
use Rattle.exact_numbers.proofs.Bridge.{frac_fits_lem}
use Rattle.exact_numbers.specs.Fits.{fits, sum_fits}
use Rattle.exact_numbers.specs.Rational.{ℚ, zero_ℚ, ◌+ℚ◌, ◌*ℚ◌, one_ℚ, neg_ℚ, inverse_of}
use Rattle.exact_numbers.proofs.RationalLaws.{*ℚ_one, *ℚ_zero, +ℚ_zero, zero-+ℚ, one-*ℚ, neg-*ℚ, zero-is_zero}
use Rattle.linear_program.specs.Lines.{constant_line, line_scaled, line_sum, products_fit, Line, is_zero, is_constant, one_if, line_neg, sums_fit, all_below}
use Rattle.linear_program.proofs.LineLemmas.{all_below-true, apart-eqb}
use Rattle.linear_program.specs.declared.form.Form.{Form}
use Rattle.linear_fold.specs.declared.parts.PartialForm.{PartialForm}
use Rattle.linear_fold.specs.declared.parts.PartialForm.TheVariants.{Number, Variable, Linear, Opposite, Broken}
use Rattle.linear_program.specs.declared.too_wide.Wide.{Wide}
use Rattle.linear_program.specs.Coefs.{AddsAt, coef_in, value_or_zero, AreAscending}
use Rattle.linear_program.specs.Forms.{form_line, AddsScaled, IsWithin, IsZeroFrom, ScaledSumFits, kept_constant, form_terms}
use Rattle.linear_fold.specs.InsideOperates.{AreOperands, AreUnbroken, IsOperand, IsSound, IsUnbroken, multiple_line, part_line, zero_line, SumsTo, ComesTo, Operates}
use Rattle.linear_program.proofs.CoefLemmas.{adds_at, found_apart, found_same}
use Rattle.exact_numbers.proofs.Zeros.{fits_zero, sum_fits_zero, zero_sum_fits}
use Rattle.linear_program.proofs.FracLemmas.{coef_fits, fits_neg}
use Rattle.linear_program.proofs.Scaled.{all_below-false, all_below-intro, same_line, few_terms}
use Rattle.std.proofs.Math.Nat.{mul-le-mul_left}
use Rattle.code_tables.specs.declared.class.OpClass.{OpClass}
use Rattle.code_tables.specs.declared.class.OpClass.TheVariants.{Quotient}
use Rattle.nl_model.specs.declared.fault.Reason.{Reason}
use Rattle.nl_model.specs.declared.fault.Reason.TheVariants.{DivideByZero}
use Rattle.nl_model.specs.Faults.{too_wide_unless, operator_fault}
use Rattle.linear_fold.specs.declared.operate.Outcome.{Outcome}
use Rattle.linear_fold.specs.declared.operate.Outcome.TheVariants.{Linear as Made, Refused}

pub record FitsLine (l : Line) : Type 0 where
  pub constant : fits l.constant ≡ true
  pub coefs : (j : ℕ) → fits (l.coef j) ≡ true

pub form_fits : (f : Form) → FitsLine (form_line f)
form_fits f = record { constant = frac_fits_lem (kept_constant f.kept); coefs = coef_fits (form_terms f) }

-- ---- the coefficients of a multiple
pub multiple_at : (i j : ℕ) (k : ℚ) → i ≡ j → (multiple_line j k).coef i ≡ k
multiple_at i j k e = zero-+ℚ (k *ℚ one_if (i == j)) ∙ ap (λ b. k *ℚ one_if b) (eq-eqb i j e) ∙ *ℚ_one k

pub multiple_apart : (i j : ℕ) (k : ℚ) → i ≢ j → (multiple_line j k).coef i ≡ zero_ℚ
multiple_apart i j k n = zero-+ℚ (k *ℚ one_if (i == j)) ∙ ap (λ x. k *ℚ x) (apart-eqb i j n) ∙ *ℚ_zero k

-- what holds of k and of 0 holds of each coefficient
each_of : (P : ℚ → Type 0) (j : ℕ) (k : ℚ) → P k → P zero_ℚ → (i : ℕ) → P ((multiple_line j k).coef i)
each_of P j k a b i = ⊎_elim (λ (e : i ≡ j). subst P (sym (multiple_at i j k e)) a) (λ (n : i ≢ j). subst P (sym (multiple_apart i j k n)) b) (cases_eq i j)

pub multiple_zero_from : (n j : ℕ) (k : ℚ) → j < n → IsZeroFrom n (multiple_line j k)
multiple_zero_from n j k l i g = multiple_apart i j k (omega arith)

-- the line of 0 times a variable is that of 0
pub multiple_of_zero : (j : ℕ) (k c : ℚ) → k ≡ zero_ℚ → c ≡ zero_ℚ → constant_line c ≡ multiple_line j k
multiple_of_zero j k c e f = same_line (constant_line c) (multiple_line j k) f (λ i. sym (each_of (λ x. x ≡ zero_ℚ) j k e refl i))

-- one term alone
pub multiple_term : (k : Frac) (j : ℕ) (c : ℚ) → c ≡ zero_ℚ → (record { constant = c; coef = coef_in ((j, k) ∷ []) }) ≡ multiple_line j (frac_value k)
multiple_term k j c e =
    same_line (record { constant = c; coef = coef_in ((j, k) ∷ []) }) (multiple_line j (frac_value k)) e
    (adds_at (λ i. zero_ℚ) (coef_in ((j, k) ∷ [])) j (frac_value k)
    (ap value_or_zero (found_same (j, k) [] j refl) ∙ sym (zero-+ℚ (frac_value k)))
    (λ i n. ap value_or_zero (found_apart (j, k) [] i n)))

-- ---- k times a number, and k times a multiple
module _ (n : ℕ) (k x : ℚ) where
  pub number_fits : products_fit n k (constant_line x) ≡ fits (k *ℚ x)
  number_fits = ap (λ b. fits (k *ℚ x) && b) (all_below-intro (λ j. fits (k *ℚ zero_ℚ)) n (λ j l. ap fits (*ℚ_zero k) ∙ fits_zero)) ∙ and-true (fits (k *ℚ x))

  pub number_scaled : (y : ℚ) → y ≡ k *ℚ x → constant_line y ≡ line_scaled k (constant_line x)
  number_scaled y e = same_line (constant_line y) (line_scaled k (constant_line x)) e (λ j. sym (*ℚ_zero k))

  each_fits : (j : ℕ) → fits (k *ℚ x) ≡ true → (i : ℕ) → fits (k *ℚ (multiple_line j x).coef i) ≡ true
  each_fits j e i = each_of (λ y. fits (k *ℚ y) ≡ true) j x e (ap fits (*ℚ_zero k) ∙ fits_zero) i

  pub multiple_fits : (j : ℕ) → j < n → products_fit n k (multiple_line j x) ≡ fits (k *ℚ x)
  multiple_fits j l = by (fits (k *ℚ x)) refl
    where
      by : (b : Bool) → fits (k *ℚ x) ≡ b → products_fit n k (multiple_line j x) ≡ b
      by true e = and_from _ _ (ap fits (*ℚ_zero k) ∙ fits_zero) (all_below-intro (λ i. fits (k *ℚ (multiple_line j x).coef i)) n (λ i p. each_fits j e i))
      by false e =
          ap (λ b. fits (k *ℚ zero_ℚ) && b) (all_below-false (λ i. fits (k *ℚ (multiple_line j x).coef i)) n j l (ap (λ y. fits (k *ℚ y)) (multiple_at j j x refl) ∙ e))
          ∙ and-false (fits (k *ℚ zero_ℚ))

  pub multiple_scaled : (j : ℕ) (y : ℚ) → y ≡ k *ℚ x → multiple_line j y ≡ line_scaled k (multiple_line j x)
  multiple_scaled j y e =
      same_line (multiple_line j y) (line_scaled k (multiple_line j x)) (sym (*ℚ_zero k))
      (λ i. ⊎_elim (λ (s : i ≡ j). multiple_at i j y s ∙ e ∙ ap (λ z. k *ℚ z) (sym (multiple_at i j x s)))
      (λ (a : i ≢ j). multiple_apart i j y a ∙ sym (*ℚ_zero k) ∙ ap (λ z. k *ℚ z) (sym (multiple_apart i j x a)))
      (cases_eq i j))

-- ---- k times a multiple is added to a line
module _ (a : Line) (k x : ℚ) (j : ℕ) (small : FitsLine a) where
  pub wide_multiple : fits (k *ℚ x) ≡ false → ¬ ScaledSumFits a k (multiple_line j x)
  wide_multiple e s = (let clash : true ≡ false = sym (s.products j) ∙ ap (λ y. fits (k *ℚ y)) (multiple_at j j x refl) ∙ e in cc)

  multiple_stop : (m : ℚ) (w : Wide) → m ≡ k *ℚ x → sum_fits (a.coef j) m ≡ false → ¬ ScaledSumFits a k (multiple_line j x)
  multiple_stop m w is h =
      λ s. (let clash : true ≡ false = sym (s.sums j) ∙ ap (λ q. sum_fits (a.coef j) (k *ℚ q)) (multiple_at j j x refl) ∙ ap (sum_fits (a.coef j)) (sym is) ∙ h in cc)

  pub adds_multiple : (new : Line) (m : ℚ) → fits (k *ℚ x) ≡ true → m ≡ k *ℚ x → new.constant ≡ a.constant → AddsAt a.coef j m new.coef (Ok tt) → AddsScaled a k (multiple_line j x) new (Ok tt)
  adds_multiple new m fit is c h =
      let none : k *ℚ zero_ℚ ≡ zero_ℚ = *ℚ_zero k in
      let start : sum_fits a.constant (k *ℚ zero_ℚ) ≡ true = ap (sum_fits a.constant) none ∙ sum_fits_zero a.constant small.constant in (
        record {
          product = ap fits none ∙ fits_zero;
          sum = start;
          products = each_fits 0 k x j fit;
          sums = λ i.
              ⊎_elim
              (λ (s : i ≡ j). ap₂ (λ p q. sum_fits (a.coef p) (k *ℚ q)) s (multiple_at i j x s) ∙ ap (sum_fits (a.coef j)) (sym is) ∙ h.0)
              (λ (d : i ≢ j). ap (λ q. sum_fits (a.coef i) (k *ℚ q)) (multiple_apart i j x d) ∙ ap (sum_fits (a.coef i)) none ∙ sum_fits_zero (a.coef i) (small.coefs i))
              (cases_eq i j);
        },
        same_line new (line_sum a (line_scaled k (multiple_line j x))) (c ∙ sym (ap (λ z. a.constant +ℚ z) none ∙ +ℚ_zero a.constant))
            (λ i. h.1 i ∙ ap (λ z. a.coef i +ℚ z) (sym (zero-+ℚ (m *ℚ one_if (i == j))) ∙ ap (λ l. l.coef i) (multiple_scaled 0 k x j m is))),
      )

  pub stops_multiple : (new other : Line) (m : ℚ) (s : Stop Wide) → m ≡ k *ℚ x → AddsAt a.coef j m new.coef (Err s) → AddsScaled a k (multiple_line j x) other (Err s)
  stops_multiple new other m (Stopped w) is h = multiple_stop m w is h
  stops_multiple new other m Memory is h = tt

-- ---- tests
pub number_constant : (n : ℕ) (x : ℚ) → true ≡ is_constant n (constant_line x)
number_constant n x = sym (all_below-intro (λ j. is_zero zero_ℚ) n (λ j l. zero-is_zero zero_ℚ refl))

pub multiple_constant : (n j : ℕ) (x : ℚ) → j < n → is_zero x ≡ is_constant n (multiple_line j x)
multiple_constant n j x l = by (is_zero x) refl
  where
    by : (b : Bool) → is_zero x ≡ b → b ≡ is_constant n (multiple_line j x)
    by true e = sym (all_below-intro (λ i. is_zero ((multiple_line j x).coef i)) n (λ i p. each_of (λ y. is_zero y ≡ true) j x e (zero-is_zero zero_ℚ refl) i))
    by false e = sym (all_below-false (λ i. is_zero ((multiple_line j x).coef i)) n j l (ap is_zero (multiple_at j j x refl) ∙ e))

-- ---- operands
pub sound_unbroken : (n : ℕ) (p : PartialForm) → IsSound n p → IsUnbroken p
sound_unbroken n (Broken x) h = h
sound_unbroken n p h = tt

pub unbroken_of : (n : ℕ) (ps : List PartialForm) → AreOperands n ps → AreUnbroken ps
unbroken_of n [] w = tt
unbroken_of n (p ∷ ps) w = (sound_unbroken n p w.0.sound, unbroken_of n ps w.1)

pub neg_fits : (l : Line) → FitsLine l → FitsLine (line_neg l)
neg_fits l h = record { constant = fits_neg l.constant ∙ h.constant; coefs = λ j. fits_neg (l.coef j) ∙ h.coefs j }

pub part_fits : (p : PartialForm) → FitsLine (part_line p)
part_fits (Number k) = record { constant = frac_fits_lem k; coefs = λ j. fits_zero }
part_fits (Variable j k) = record { constant = fits_zero; coefs = each_of (λ x. fits x ≡ true) j (frac_value k) (frac_fits_lem k) fits_zero }
part_fits (Linear f) = form_fits f
part_fits (Opposite f) = neg_fits (form_line f) (form_fits f)
part_fits (Broken x) = record { constant = fits_zero; coefs = λ j. fits_zero }

-- ---- the operands lie at the end of the stack, the first of them last
module _ {A : Type 0} where
  pub one_more : (xs : List A) (i : ℕ) (x : A) → i < length xs → x ≡ get_or xs i x → reverse (take (i + 1) xs) ≡ x ∷ reverse (take i xs)
  one_more xs i x within e =
      ap reverse (take_more xs i x within ∙ ap (λ y. take i xs ++ y ∷ []) (sym e)) ∙ reverse-append (take i xs) (x ∷ [])

  pub last_first : (xs : List A) (p : ℕ) (x : A) → 0 < p → p ≤ length xs → x ≡ get_or xs (p - 1) x → reverse (take p xs) ≡ x ∷ reverse (take (p - 1) xs)
  last_first xs p x some within e =
      let one : p - 1 + 1 ≡ p = omega arith in
      ap (λ k. reverse (take k xs)) (sym one) ∙ one_more xs (p - 1) x (omega arith) e

  pub first_of_all : (xs : List A) (x : A) → 0 < length xs → x ≡ get_or xs (length xs - 1) x → reverse xs ≡ x ∷ reverse (take (length xs - 1) xs)
  first_of_all xs x some e = ap reverse (sym (take_all (length xs) xs (omega arith))) ∙ last_first xs (length xs) x some (omega arith) e

  pub take_none : (xs : List A) (i : ℕ) → i ≡ 0 → take i xs ≡ []
  take_none xs i e = ap (λ k. take k xs) e

  halves : (xs : List A) (r : ℕ) → reverse xs ≡ reverse (drop r xs) ++ reverse (take r xs)
  halves xs r = ap reverse (sym (take-append-drop r xs)) ∙ reverse-append (take r xs) (drop r xs)

  back_size : (xs : List A) (r k : ℕ) → k + r ≡ length xs → length (reverse (drop r xs)) ≡ k
  back_size xs r k e = length-reverse (drop r xs) ∙ length-drop r xs ∙ omega arith

  pub back_is : (xs : List A) (r k : ℕ) → k + r ≡ length xs → reverse (drop r xs) ≡ take k (reverse xs)
  back_is xs r k e =
      sym (ap (take k) (halves xs r) ∙ ap (λ i. take i (reverse (drop r xs) ++ reverse (take r xs))) (sym (back_size xs r k e)) ∙ take-append_seam (reverse (drop r xs)) (reverse (take r xs)))

  pub front_is : (xs : List A) (r k : ℕ) → k + r ≡ length xs → reverse (take r xs) ≡ drop k (reverse xs)
  front_is xs r k e =
      sym (ap (drop k) (halves xs r) ∙ ap (λ i. drop i (reverse (drop r xs) ++ reverse (take r xs))) (sym (back_size xs r k e)) ∙ drop-append_seam (reverse (drop r xs)) (reverse (take r xs)))

-- ---- a form of n variables has few terms
pub few_of_form : (n : ℕ) (f : Form) → IsWithin n f → AreAscending 0 (form_terms f) → length (form_terms f) ≤ n
few_of_form n f w a = let r = few_terms n 0 (form_terms f) a w (omega arith) in omega arith

-- ---- multiples by 1 and -1
pub scaled_by_one : (k : ℚ) (b : Line) → k ≡ one_ℚ → line_scaled k b ≡ b
scaled_by_one k b e = same_line _ _ (ap (λ x. x *ℚ b.constant) e ∙ one-*ℚ b.constant) (λ j. ap (λ x. x *ℚ b.coef j) e ∙ one-*ℚ (b.coef j))

pub scaled_by_minus : (k x : ℚ) (b : Line) → k ≡ neg_ℚ x → x ≡ one_ℚ → line_scaled k b ≡ line_neg b
scaled_by_minus k x b e f =
    let m : k ≡ neg_ℚ one_ℚ = e ∙ ap neg_ℚ f in
    same_line _ _ (turned m b.constant) (λ j. turned m (b.coef j))
  where
    turned : k ≡ neg_ℚ one_ℚ → (y : ℚ) → k *ℚ y ≡ neg_ℚ y
    turned m y = ap (λ w. w *ℚ y) m ∙ neg-*ℚ one_ℚ y ∙ ap neg_ℚ (one-*ℚ y)

pub zero_line_sum : (a : Line) → line_sum zero_line a ≡ a
zero_line_sum a = same_line _ _ (zero-+ℚ a.constant) (λ j. zero-+ℚ (a.coef j))

-- a test that holds below n, and from n on, holds everywhere
each_below : (p : ℕ → Bool) (n : ℕ) → all_below p n ≡ true → ((j : ℕ) → n ≤ j → p j ≡ true) → (j : ℕ) → p j ≡ true
each_below p n h above j = ⊎_elim (λ (l : j < n). all_below-true p n h j l) (λ (g : n ≤ j). above j g) (cases_lt j n)

-- ---- sums
module _ (a b : Line) (k : ℚ) (kb : Line) (is : line_scaled k b ≡ kb) (small : FitsLine kb) (n : ℕ) (za : IsZeroFrom n a) (zb : IsZeroFrom n b) where
  sum_ok : (l : Line) → ScaledSumFits a k b × (l ≡ line_sum a (line_scaled k b)) → (sums_fit n a kb ≡ true) × (l ≡ line_sum a kb)
  sum_ok l h =
      (ap (sums_fit n a) (sym is) ∙ and_from _ _ h.0.sum (all_below-intro (λ j. sum_fits (a.coef j) (k *ℚ b.coef j)) n (λ j p. h.0.sums j)), h.1 ∙ ap (line_sum a) is)

  sum_wide : ¬ (ScaledSumFits a k b) → sums_fit n a kb ≡ false
  sum_wide wide =
      false_from_ne_true _ (λ t.
      let both = and_parts _ _ (ap (sums_fit n a) is ∙ t) in
      let parts : FitsLine (line_scaled k b) = subst FitsLine (sym is) small in
      wide (record {
        product = parts.constant;
        sum = both.0;
        products = parts.coefs;
        sums = each_below (λ i. sum_fits (a.coef i) (k *ℚ b.coef i)) n both.1
            (λ j g. ap₂ (λ x y. sum_fits x (k *ℚ y)) (za j g) (zb j g) ∙ ap (sum_fits zero_ℚ) (*ℚ_zero k)
            ∙ sum_fits_zero zero_ℚ fits_zero);
      }))

  pub added : (new : Line) (r : Result (Unit {0}) (Stop Wide)) → AddsScaled a k b new r → SumsTo (sums_fit n a kb) (line_sum a kb) new r
  added new (Ok u) h = sum_ok new h
  added new (Err (Fault w)) h = sum_wide h
  added new (Err Memory) h = tt

-- ---- multiples
module _ (z : Line) (empty : z ≡ zero_line) (a : Line) (k : ℚ) (n : ℕ) (za : IsZeroFrom n a) where
  scaled_ok : (l : Line) → ScaledSumFits z k a × (l ≡ line_sum z (line_scaled k a)) → (products_fit n k a ≡ true) × (l ≡ line_scaled k a)
  scaled_ok l h = (
    and_from _ _ h.0.product (all_below-intro (λ j. fits (k *ℚ a.coef j)) n (λ j p. h.0.products j)),
    h.1 ∙ ap (λ y. line_sum y (line_scaled k a)) empty ∙ zero_line_sum (line_scaled k a),
  )

  scaled_wide : ¬ (ScaledSumFits z k a) → products_fit n k a ≡ false
  scaled_wide wide =
      false_from_ne_true _ (λ t.
      let both = and_parts _ _ t in
      let each = each_below (λ i. fits (k *ℚ a.coef i)) n both.1 (λ j g. ap (λ x. fits (k *ℚ x)) (za j g) ∙ ap fits (*ℚ_zero k) ∙ fits_zero) in
      wide (subst (λ y. ScaledSumFits y k a) (sym empty)
      (record {
        product = both.0;
        sum = zero_sum_fits (k *ℚ a.constant) both.0;
        products = each;
        sums = λ j. zero_sum_fits (k *ℚ a.coef j) (each j);
      })))

  pub multiplied : (new : Line) (r : Result (Unit {0}) (Stop Wide)) → AddsScaled z k a new r → SumsTo (products_fit n k a) (line_scaled k a) new r
  multiplied new (Ok u) h = scaled_ok new h
  multiplied new (Err (Fault w)) h = scaled_wide h
  multiplied new (Err Memory) h = tt

-- ---- operators
pub if_ok : {T E : Type 0} (r : Result T E) (P Q : T → Type 0) → ((x : T) → P x → Q x) → IfOk r P → IfOk r Q
if_ok (Ok x) P Q f h = f x h
if_ok (Err e) P Q f h = h

pub fault_first : (p : Bool) (x y : Option Reason) → p ≡ true → (if p then x else y) ≡ x
fault_first true x y e = refl
fault_first false x y e = cc

pub fault_second : (p : Bool) (x y : Option Reason) → p ≡ false → (if p then x else y) ≡ y
fault_second true x y e = cc
fault_second false x y e = refl

pub quotient_zero : (n : ℕ) (a b : Line) → is_constant n b ≡ true → is_zero b.constant ≡ true → operator_fault n Quotient (a ∷ b ∷ []) ≡ Some DivideByZero
quotient_zero n a b t z = fault_first _ _ _ t ∙ fault_first _ _ _ z

pub quotient_comes : (n : ℕ) (a b : Line) (o : Outcome) (k : ℚ) → k ≡ inverse_of b.constant → is_constant n b ≡ true
    → is_zero b.constant ≡ false → ComesTo n (products_fit n k a) (line_scaled k a) o → Operates n Quotient (a ∷ b ∷ []) o
quotient_comes n a b (Made f) k is t z h = (
  fault_first _ _ _ t ∙ fault_second _ _ _ z ∙ ap too_wide_unless (ap (λ x. products_fit n x a) (sym is) ∙ h.0),
  h.1 ∙ ap (λ x. line_scaled x a) is,
  h.2,
)
quotient_comes n a b (Refused r) k is t z h = fault_first _ _ _ t ∙ fault_second _ _ _ z ∙ ap too_wide_unless (ap (λ x. products_fit n x a) (sym is) ∙ h.0) ∙ ap Some (sym h.1)

pub line_fits : (n : ℕ) (k : ℚ) (a : Line) → FitsLine (line_scaled k a) → products_fit n k a ≡ true
line_fits n k a h = and_from _ _ h.constant (all_below-intro (λ j. fits (k *ℚ a.coef j)) n (λ j p. h.coefs j))

pub copy_fits : (n : ℕ) (k : ℚ) (a : Line) → k ≡ one_ℚ → FitsLine a → products_fit n k a ≡ true
copy_fits n k a e small = line_fits n k a (subst FitsLine (sym (scaled_by_one k a e)) small)

pub few_steps : (w k from to : ℕ) → 1 ≤ k → to ≤ from + w → to ≤ from + w * k
few_steps w k from to some h =
    let least : w * 1 ≤ w * k = mul-le-mul_left w some in
    omega arith

-- ---- two operands, the first of them last
pub pair_of : (ps : List PartialForm) (a b : PartialForm) → length ps ≡ 2 → a ≡ get_or ps 1 a → b ≡ get_or ps 0 b → reverse ps ≡ a ∷ b ∷ []
pair_of (x ∷ y ∷ []) a b two e f = ap₂ (λ p q. p ∷ q ∷ []) (sym e) (sym f)
pair_of ps a b two e f = absurd (omega arith)

pub single_of : (ps : List PartialForm) (a : PartialForm) → length ps ≡ 1 → a ≡ get_or ps 0 a → reverse ps ≡ a ∷ []
single_of (x ∷ []) a one e = ap (λ p. p ∷ []) (sym e)
single_of ps a one e = absurd (omega arith)

pub first_within : (n : ℕ) (ps : List PartialForm) (a b : PartialForm) → ps ≡ a ∷ b ∷ [] → AreOperands n ps → IsOperand n a
first_within n ps a b e w = (subst (AreOperands n) e w).0

pub second_within : (n : ℕ) (ps : List PartialForm) (a b : PartialForm) → ps ≡ a ∷ b ∷ [] → AreOperands n ps → IsOperand n b
second_within n ps a b e w = (subst (AreOperands n) e w).1.0

pub one_within : (n : ℕ) (ps : List PartialForm) (a : PartialForm) → ps ≡ a ∷ [] → AreOperands n ps → IsOperand n a
one_within n ps a e w = (subst (AreOperands n) e w).0

pub operand_unbroken : (n : ℕ) (p : PartialForm) → IsOperand n p → IsUnbroken p
operand_unbroken n p w = sound_unbroken n p w.sound

pub as_operands : (n : ℕ) (c d : OpClass) (ps qs : List PartialForm) (o : Outcome) → c ≡ d → ps ≡ qs → Operates n d (map part_line qs) o → Operates n c (map part_line ps) o
as_operands n c d ps qs o e f h = subst₂ (λ k rs. Operates n k (map part_line rs) o) (sym e) (sym f) h
