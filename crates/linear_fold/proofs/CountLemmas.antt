-- How many coefficients a line has.
use Rattle.std.proofs.Common.{◌≡◌, ◌≢◌, ℕ, zero, suc, ◌+◌, ◌<◌, ◌∙◌, sym, ap, ap₂, refl, arith, ⊎_elim, if◌then◌else◌, List, [], ◌∷◌, length}
use Rattle.std.proofs.lemmas.Bool.{cases_eq, false_from_ne_true}
use Rattle.exact_numbers.specs.Values.{frac_value}
use Rattle.exact_numbers.specs.Rational.{ℚ, zero_ℚ}
use Rattle.exact_numbers.proofs.RationalLaws.{zero-is_zero}
use Rattle.linear_program.specs.Lines.{Line, is_zero}
use Rattle.linear_program.proofs.LineLemmas.{is_zero-true}
use Rattle.nl_model.specs.FoldFaults.{coefficient_count}
use Rattle.linear_program.specs.declared.form.Form.{Form}
use Rattle.linear_program.specs.Coefs.{Term, AreAscending, AreBelow, coef_in, value_or_zero}
use Rattle.linear_program.specs.Forms.{IsWithin, form_line, form_terms, kept_constant}
use Rattle.linear_program.specs.Programs.{IsFormOver}
use Rattle.linear_program.proofs.CoefLemmas.{found_apart, found_before, found_same}
use Rattle.linear_program.proofs.Scaled.{terms_below}

abbrev one_where : ℚ → ℕ
one_where x = if is_zero x then 0 else 1

zero_is_none : (x : ℚ) → x ≡ zero_ℚ → one_where x ≡ 0
zero_is_none x e = ap (λ b. if b then 0 else 1) (zero-is_zero x e)

other_is_one : (x : ℚ) → x ≢ zero_ℚ → one_where x ≡ 1
other_is_one x n = ap (λ b. if b then 0 else 1) (false_from_ne_true (is_zero x) (λ e. n (is_zero-true x e)))

pub count_zero : (n : ℕ) (l : Line) → ((j : ℕ) → j < n → l.coef j ≡ zero_ℚ) → coefficient_count n l ≡ 0
count_zero zero l h = refl
count_zero (suc n) l h =
    let before = count_zero n l (λ j k. h j (omega arith)) in
    let here = zero_is_none (l.coef n) (h n (omega arith)) in
    ap₂ (λ a b. a + b) before here

pub count_same : (n : ℕ) (l m : Line) → ((j : ℕ) → j < n → l.coef j ≡ m.coef j) → coefficient_count n l ≡ coefficient_count n m
count_same zero l m h = refl
count_same (suc n) l m h = ap₂ (λ a b. a + b) (count_same n l m (λ j k. h j (omega arith))) (ap one_where (h n (omega arith)))

-- one more coefficient
count_more : (n : ℕ) (l m : Line) (k : ℕ) → k < n → l.coef k ≢ zero_ℚ → m.coef k ≡ zero_ℚ → ((j : ℕ) → j ≢ k → l.coef j ≡ m.coef j) → coefficient_count n l ≡ suc (coefficient_count n m)
count_more zero l m k below some none others = absurd (omega arith)
count_more (suc n) l m k below some none others =
    ⊎_elim
    (λ (e : k ≡ n).
    let before = count_same n l m (λ j p. others j (λ f. omega arith)) in
    let here : one_where (l.coef n) ≡ 1 = other_is_one (l.coef n) (λ z. some (ap l.coef e ∙ z)) in
    let there : one_where (m.coef n) ≡ 0 = zero_is_none (m.coef n) (ap m.coef (sym e) ∙ none) in
    summed before here there)
    (λ (other : k ≢ n).
    let before = count_more n l m k (omega arith) some none others in
    more before (ap one_where (others n (λ e. other (sym e)))))
    (cases_eq k n)
  where
    summed : {a b c d : ℕ} → a ≡ b → c ≡ 1 → d ≡ 0 → a + c ≡ suc (b + d)
    summed p q r = omega arith

    more : {a b c d : ℕ} → a ≡ suc b → c ≡ d → a + c ≡ suc (b + d)
    more p q = omega arith

abbrev pub line_of_terms : ℚ → List Term → Line
line_of_terms c ts = record { constant = c; coef = coef_in ts }

pub list_count : (n : ℕ) (c : ℚ) (low : ℕ) (ts : List Term) → AreAscending low ts → AreBelow n ts → coefficient_count n (line_of_terms c ts) ≡ length ts
list_count n c low [] a b = count_zero n (line_of_terms c []) (λ j h. refl)
list_count n c low (t ∷ ts) a b =
    let there : coef_in (t ∷ ts) t.0 ≡ frac_value t.1 = ap value_or_zero (found_same t ts t.0 refl) in
    count_more n (line_of_terms c (t ∷ ts)) (line_of_terms c ts) t.0 b.0 (λ z. a.1 (sym there ∙ z))
    (ap value_or_zero (found_before (suc t.0) ts t.0 a.2 (omega arith)))
    (λ j e. ap value_or_zero (found_apart t ts j e))
    ∙ ap suc (list_count n c (suc t.0) ts a.2 b.1)

-- ---- forms
pub over_of : (n : ℕ) (f : Form) → IsWithin n f → AreAscending 0 (form_terms f) → IsFormOver n f
over_of n f w a = terms_below n 0 (form_terms f) a w

pub form_count_is : (n : ℕ) (f : Form) → IsWithin n f → AreAscending 0 (form_terms f) → coefficient_count n (form_line f) ≡ length (form_terms f)
form_count_is n f w a = list_count n (frac_value (kept_constant f.kept)) 0 (form_terms f) a (over_of n f w a)
