-- Terms in another order, of which no two have one variable.
use Rattle.std.proofs.Common.{◌≡◌, ◌≢◌, ℕ, suc, zero, ◌+◌, ◌<◌, ◌≤◌, ◌∙◌, sym, ap, refl, subst, arith, true, false}
use Rattle.std.proofs.Common.{◌==◌, Bool, cond, None, List, [], ◌∷◌, length, drop, All, get_or, set, sum_by, ⊎_elim}
use Rattle.std.specs.Option.{option_or}
use Rattle.std.specs.List.Sorted.{IsPermutation}
use Rattle.std.proofs.lemmas.Bool.{and_from, cases_eq, eq-eqb, eqb-true}
use Rattle.std.proofs.lemmas.List.{length-set, get_or-set_same, get_or-set_other}
use Rattle.std.proofs.lemmas.List.Edits.{swap_is}
use Rattle.std.proofs.lemmas.List.Elements.{All-cons, All-head, All-tail}
use Rattle.std.proofs.lemmas.List.Sorted.{All-permutation, IsPermutation-keeps, sum_by-IsPermutation}
use Rattle.std.proofs.lemmas.List.Sums.{sum_by-cons}
use Rattle.exact_numbers.specs.Values.{dec_value}
use Rattle.exact_numbers.proofs.Zeros.{zero_frac_fits}
use Rattle.exact_numbers.specs.Fits.{fits, sum_fits}
use Rattle.exact_numbers.specs.Rational.{ℚ, zero_ℚ, ◌+ℚ◌, ◌*ℚ◌}
use Rattle.exact_numbers.specs.Sums.{sum_over}
use Rattle.exact_numbers.proofs.Adding.{sum_over_nil, sum_over_cons}
use Rattle.exact_numbers.proofs.RationalLaws.{+ℚ_assoc, +ℚ_cancel, +ℚ_zero, *ℚ_zero}
use Rattle.exact_numbers.proofs.Ring.{ring, v, ◌⊕◌}
use Rattle.linear_program.specs.Lines.{Line, line_with, one_if}
use Rattle.linear_program.proofs.LineLemmas.{apart-eqb}
use Rattle.nl_model.specs.Faults.{fault_at, line_with_terms, terms_fault, too_wide_unless}
use Rattle.nl_model.specs.Expressions.{linear_terms}
use Rattle.linear_program.specs.Decimals.{DecimalTerm, frac_of}
use Rattle.linear_program.proofs.DecimalLemmas.{frac_of-value}
use Rattle.linear_program.proofs.Scaled.{same_line}
use Rattle.linear_fold.specs.declared.entries.Entry.{Entry}
use Rattle.linear_fold.specs.declared.entries.Entry.TheVariants.{Linear, Broken}
use Rattle.linear_fold.specs.InsideFolds.{ComesToTerms}
use Rattle.linear_fold.specs.InsideLinearTerms.{AreStrictlyAscending}

-- ---- sums in another order
module _ {A : Type 0} (f : A → ℚ) where
  sum_over-set : (xs : List A) (i : ℕ) (y d : A) → i < length xs → sum_over f (set xs i y) +ℚ f (get_or xs i d) ≡ sum_over f xs +ℚ f y
  sum_over-set [] i y d lt = absurd (omega (arith, lt))
  sum_over-set (x ∷ xs) zero y d lt =
      ap (λ s. s +ℚ f x) (sum_over_cons f y xs) ∙ turned (f y) (sum_over f xs) (f x) ∙ ap (λ s. s +ℚ f y) (sym (sum_over_cons f x xs))
    where
      turned : (p q r : ℚ) → (p +ℚ q) +ℚ r ≡ (r +ℚ q) +ℚ p
      turned p q r = ring (p ∷ q ∷ r ∷ []) ((v 0 ⊕ v 1) ⊕ v 2) ((v 2 ⊕ v 1) ⊕ v 0) refl
  sum_over-set (x ∷ xs) (suc i) y d lt =
      ap (λ s. s +ℚ f (get_or xs i d)) (sum_over_cons f x (set xs i y)) ∙ +ℚ_assoc (f x) _ _ ∙ ap (λ s. f x +ℚ s) (sum_over-set xs i y d (omega (arith, lt)))
      ∙ sym (+ℚ_assoc (f x) _ _) ∙ ap (λ s. s +ℚ f y) (sym (sum_over_cons f x xs))

  head_of : (l : List A) → 0 < length l → A
  head_of [] lt = absurd (omega (arith, lt))
  head_of (x ∷ l) lt = x

  sum_over-IsPermutation : (xs ys : List A) → IsPermutation xs ys → sum_over f ys ≡ sum_over f xs
  sum_over-IsPermutation xs ys = IsPermutation-keeps xs (λ l. sum_over f l ≡ sum_over f xs) refl (λ l i j p q h.
      let d : A = head_of l (omega (arith, p)) in
      let w : List A = set l i (get_or l j d) in
      let long = length-set l i (get_or l j d) in
      let there : get_or w j d ≡ get_or l j d = ⊎_elim (λ e. ap (λ n. get_or w n d) e ∙ get_or-set_same l i (get_or l j d) d p) (λ n. get_or-set_other l i j (get_or l j d) d n) (cases_eq j i) in
      let first = sum_over-set l i (get_or l j d) d p in
      let second = sum_over-set w j (get_or l i d) d (omega (arith, long, q)) in
      ap (sum_over f) (sym (swap_is l i j d p q)) ∙ +ℚ_cancel _ _ (f (get_or l j d)) (ap (λ v. sum_over f (set w j (get_or l i d)) +ℚ f v) (sym there) ∙ second ∙ first) ∙ h) ys

-- ---- their line
abbrev part : ℕ → DecimalTerm → ℚ
part j t = dec_value t.1 *ℚ one_if (j == t.0)

terms_coef : (a : Line) (ts : List DecimalTerm) (j : ℕ) → (line_with_terms a (linear_terms ts)).coef j ≡ a.coef j +ℚ sum_over (part j) ts
terms_coef a [] j = sym (ap (λ s. a.coef j +ℚ s) (sum_over_nil (part j)) ∙ +ℚ_zero (a.coef j))
terms_coef a (t ∷ ts) j =
    terms_coef (line_with a t.0 (dec_value t.1)) ts j ∙ +ℚ_assoc (a.coef j) (part j t) (sum_over (part j) ts)
    ∙ ap (λ s. a.coef j +ℚ s) (sym (sum_over_cons (part j) t ts))

terms_constant : (a : Line) (ts : List DecimalTerm) → (line_with_terms a (linear_terms ts)).constant ≡ a.constant
terms_constant a [] = refl
terms_constant a (t ∷ ts) = terms_constant (line_with a t.0 (dec_value t.1)) ts

same_terms : (a : Line) (ts ordered : List DecimalTerm) → IsPermutation ts ordered → line_with_terms a (linear_terms ordered) ≡ line_with_terms a (linear_terms ts)
same_terms a ts ordered moved =
    same_line _ _ (terms_constant a ordered ∙ sym (terms_constant a ts))
    (λ j. terms_coef a ordered j ∙ ap (λ s. a.coef j +ℚ s) (sum_over-IsPermutation (part j) ts ordered moved) ∙ sym (terms_coef a ts j))

-- ---- their faults
-- how often a variable stands in terms
abbrev once : ℕ → DecimalTerm → ℕ
once j t = cond (j == t.0) 1 0

abbrev times : ℕ → List DecimalTerm → ℕ
times j ts = sum_by (once j) ts

times_here : (t : DecimalTerm) (ts : List DecimalTerm) → times t.0 (t ∷ ts) ≡ 1 + times t.0 ts
times_here t ts = sum_by-cons (once t.0) t ts ∙ ap (λ b. cond b 1 0 + times t.0 ts) (eq-eqb t.0 t.0 refl)

times_less : (j : ℕ) (t : DecimalTerm) (ts : List DecimalTerm) → times j ts ≤ times j (t ∷ ts)
times_less j t ts = omega (arith, sum_by-cons (once j) t ts)

apart_test : (i j : ℕ) → i ≢ j → i == j ≡ false
apart_test i j n = by (i == j) refl
  where
    by : (b : Bool) → i == j ≡ b → i == j ≡ false
    by true e = absurd (n (eqb-true i j e))
    by false e = e

times_apart : (j : ℕ) (t : DecimalTerm) (ts : List DecimalTerm) → j ≢ t.0 → times j (t ∷ ts) ≡ times j ts
times_apart j t ts n =
    let none : once j t ≡ 0 = ap (λ b. cond b 1 0) (apart_test j t.0 n) in
    omega (arith, none, sum_by-cons (once j) t ts)

-- terms that ascend from n on: each variable once at most, none below n
ascending_once : (n j : ℕ) (ts : List DecimalTerm) → AreStrictlyAscending n (linear_terms ts) → (times j ts ≤ 1) × (j < n → times j ts ≡ 0)
ascending_once n j [] a = (omega arith, λ l. refl)
ascending_once n j (t ∷ ts) a =
    let rest = ascending_once (suc t.0) j ts a.2 in
    ⊎_elim
    (λ (e : j ≡ t.0). let here : times j (t ∷ ts) ≡ 1 + times j ts = subst (λ i. times i (t ∷ ts) ≡ 1 + times i ts) (sym e) (times_here t ts) in
    let none = rest.1 (omega (arith, e)) in (omega (arith, here, none), λ l. absurd (omega (arith, e, a.0))))
    (λ (apart : j ≢ t.0). let past = times_apart j t ts apart in (omega (arith, past, rest.0), λ l. past ∙ rest.1 (omega (arith, l, a.0))))
    (cases_eq j t.0)

abbrev Fits : DecimalTerm → Type 0
Fits t = fits (dec_value t.1) ≡ true

-- no term has a fault where no variable stands twice
no_fault : (a : Line) (i : ℕ) (ts : List DecimalTerm) → All Fits ts → ((j : ℕ) → times j ts ≤ 1) → ((j : ℕ) → 1 ≤ times j ts → a.coef j ≡ zero_ℚ) → terms_fault a i (linear_terms ts) ≡ None
no_fault a i [] fit few new = refl
no_fault a i (t ∷ ts) fit few new =
    let x = dec_value t.1 in
    let fine : fits x ≡ true = All-head Fits t ts fit in
    let here = times_here t ts in
    let first : a.coef t.0 ≡ zero_ℚ = new t.0 (omega (arith, here)) in
    let sum_fine : sum_fits (a.coef t.0) x ≡ true = ap (λ c. sum_fits c x) first ∙ ap (sum_fits zero_ℚ) (sym (frac_of-value t.1 fine)) ∙ zero_frac_fits (frac_of t.1) in
    let rest : terms_fault (line_with a t.0 x) (i + 1) (linear_terms ts) ≡ None = no_fault (line_with a t.0 x) (i + 1) ts (All-tail Fits t ts fit)
    (λ j. omega (arith, few j, times_less j t ts))
    (λ j some. ⊎_elim
    (λ (e : j ≡ t.0). absurd (omega (arith, few t.0, here, subst (λ k. 1 ≤ times k ts) e some)))
    (λ (apart : j ≢ t.0). ap (λ c. a.coef j +ℚ x *ℚ c) (apart-eqb j t.0 apart) ∙ ap (λ c. a.coef j +ℚ c) (*ℚ_zero x) ∙ +ℚ_zero (a.coef j) ∙ new j (omega (arith, times_less j t ts, some)))
    (cases_eq j t.0)) in
    ap (λ b. option_or (fault_at i (too_wide_unless b)) (terms_fault (line_with a t.0 x) (i + 1) (linear_terms ts))) (and_from _ _ fine sum_fine) ∙ rest

-- ---- what terms come to in order
pub kept_more : (ts : List DecimalTerm) (i : ℕ) (t : DecimalTerm) (all : Type 0) → drop i ts ≡ t ∷ drop (i + 1) ts
    → fits (dec_value t.1) ≡ true → (All Fits (drop i ts) → all) → All Fits (drop (i + 1) ts) → all
kept_more ts i t all at fine h rest = h (subst (All Fits) (sym at) (All-cons Fits t (drop (i + 1) ts) fine rest))

pub in_order : (a : Line) (i : ℕ) (ts ordered : List DecimalTerm) (e : Entry) → All Fits ts → IsPermutation ts ordered
    → AreStrictlyAscending 0 (linear_terms ordered) → ((j : ℕ) → a.coef j ≡ zero_ℚ)
    → ComesToTerms a i (linear_terms ordered) e → ComesToTerms a i (linear_terms ts) e
in_order a i ts ordered (Linear form) fit moved up new h = (
  no_fault a i ts fit (λ j. omega (arith, sum_by-IsPermutation (once j) ts ordered moved, (ascending_once 0 j ordered up).0)) (λ j some. new j),
  h.1 ∙ same_terms a ts ordered moved,
)
in_order a i ts ordered (Broken x) fit moved up new h =
    absurd (let none = no_fault a i ordered (All-permutation Fits ts ordered moved fit) (λ j. (ascending_once 0 j ordered up).0) (λ j some. new j) in cc)
