-- Numbers of pairs, written one by one.
use Rattle.std.proofs.Common.{◌≡◌, ℕ, zero, suc, ◌+◌, ◌<◌, ◌≤◌, ◌==◌, ◌∙◌, sym, ap, subst, refl, arith, true, List, []}
use Rattle.std.proofs.Common.{◌∷◌, length, drop, map, get_or, set, ⊎_elim, length-set, get_or-set_same}
use Rattle.std.proofs.Common.{get_or-set_other}
use Rattle.std.specs.Prelude.{if◌then◌else◌, slice_get, option_map, Some, None}
use Rattle.std.proofs.lemmas.Bool.{cases_eq, eq-eqb, ne_eqb}
use Rattle.std.proofs.lemmas.List.{drop_all, length-map, same_lists}
use Rattle.std.proofs.lemmas.Option.{get_or_from_slice_get, slice_get-map, slice_get_cases}
use Rattle.exact_numbers.specs.Fits.{fits}
use Rattle.exact_numbers.specs.Rational.{ℚ, zero_ℚ}
use Rattle.exact_numbers.specs.declared.frac.Frac.{Frac}
use Rattle.exact_numbers.specs.Values.{frac_value}
use Rattle.linear_program.specs.Elements.{elements_from}
use Rattle.linear_program.proofs.Elements.{elements_at, elements_length}
use Rattle.certificates.specs.Certificates.{AreNumbers}
use Rattle.linear_program.specs.Numbers.{Pair, number_of, spread, number_value}
use Rattle.linear_program.proofs.ListLemmas.{rest_of}
use Rattle.exact_checks.specs.Leaves.{AreIndices}
use Rattle.certificate_judge.specs.InsidePoints.{fractions_of}

-- ---- numbers of a program
pub number_at : (from n : ℕ) (ps : List Pair) (k : ℕ) (p : Pair) → AreNumbers from n ps → k < length ps → p ≡ get_or ps k p → (p.0 < n) × (fits (number_value p.1) ≡ true)
unfolding AreNumbers
number_at from n [] k p h l is = absurd (omega arith)
number_at from n (q ∷ ps) zero p h l is = (subst (λ (x : Pair). x.0 < n) (sym is) h.1, subst (λ (x : Pair). fits (number_value x.1) ≡ true) (sym is) h.2)
number_at from n (q ∷ ps) (suc k) p h l is = number_at (suc q.0) n ps k p h.3 (omega arith) is

pub indices_of : (from n : ℕ) (ps : List Pair) → AreNumbers from n ps → AreIndices from n ps
unfolding AreNumbers AreIndices
indices_of from n [] h = tt
indices_of from n (p ∷ ps) h = (h.0, h.1, indices_of (suc p.0) n ps h.3)

-- ---- with the pairs that are still to come, each index comes to its number
pub record AreLeft (n : ℕ) (ps : List Pair) (numbers : List Frac) (k : ℕ) : Type 0 where
  pub count : length numbers ≡ n
  pub values : (i : ℕ) (d : Frac) → i < n → number_of (drop k ps) i (frac_value (get_or numbers i d)) ≡ number_of ps i zero_ℚ

pub none_yet : (n : ℕ) (ps : List Pair) (numbers : List Frac) → length numbers ≡ n → ((i : ℕ) (d : Frac) → i < n → frac_value (get_or numbers i d) ≡ zero_ℚ) → AreLeft n ps numbers 0
none_yet n ps numbers count zeros = record { count = count; values = λ i d l. ap (number_of ps i) (zeros i d l) }

module _ (n : ℕ) (ps : List Pair) (numbers : List Frac) (k : ℕ) (p : Pair) (a : AreLeft n ps numbers k) (h : k < length ps) (is : p ≡ get_or ps k p) (fine : AreNumbers 0 n ps) where
  pub place_fits : p.0 < length numbers
  place_fits = subst (λ m. p.0 < m) (sym a.count) (number_at 0 n ps k p fine h is).0

  module _ (f : Frac) (value : frac_value f ≡ number_value p.1) where
    step : (i : ℕ) (x : ℚ) → number_of (p ∷ drop (k + 1) ps) i x ≡ number_of (drop (k + 1) ps) i (if p.0 == i then number_value p.1 else x)
    unfolding number_of
    step i x = refl

    chosen : (i : ℕ) (d : Frac) → frac_value (get_or (set numbers p.0 f) i d) ≡ (if p.0 == i then number_value p.1 else frac_value (get_or numbers i d))
    chosen i d =
        ⊎_elim
        (λ (same : p.0 ≡ i).
        subst (λ j. frac_value (get_or (set numbers p.0 f) j d) ≡ (if p.0 == j then number_value p.1 else frac_value (get_or numbers j d))) same
        (ap frac_value (get_or-set_same numbers p.0 f d place_fits) ∙ value ∙ sym (ap (λ b. if b then number_value p.1 else frac_value (get_or numbers p.0 d)) (eq-eqb p.0 p.0 refl))))
        (λ (other : p.0 ≡ i → ⊥).
        ap frac_value (get_or-set_other numbers p.0 i f d (λ x. other (sym x))) ∙ sym (ap (λ b. if b then number_value p.1 else frac_value (get_or numbers i d)) (ne_eqb p.0 i other)))
        (cases_eq p.0 i)

    pub one_written : AreLeft n ps (set numbers p.0 f) (k + 1)
    one_written =
        record {
          count = length-set numbers p.0 f ∙ a.count;
          values = λ i d l.
              ap (number_of (drop (k + 1) ps) i) (chosen i d)
              ∙ sym (step i (frac_value (get_or numbers i d)))
              ∙ ap (λ qs. number_of qs i (frac_value (get_or numbers i d))) (sym (rest_of ps k p h is))
              ∙ a.values i d l;
        }

pub all_written : (n : ℕ) (ps : List Pair) (numbers : List Frac) (k : ℕ) → AreLeft n ps numbers k → length ps ≤ k → fractions_of numbers ≡ spread n ps
unfolding spread number_of
all_written n ps numbers k a h =
    same_lists (fractions_of numbers) (elements_from (λ i. number_of ps i zero_ℚ) 0 n)
    (length-map numbers frac_value ∙ a.count ∙ sym (elements_length (λ i. number_of ps i zero_ℚ) 0 n))
    (λ i d l.
    let within : i < length numbers = subst (λ m. i < m) (length-map numbers frac_value) l in
    let below : i < n = subst (λ m. i < m) a.count within in
    let same : 0 + i ≡ i = omega arith in
    by i d within below
    ∙ sym (elements_at (λ i. number_of ps i zero_ℚ) 0 n i d below ∙ ap (λ j. number_of ps j zero_ℚ) same))
  where
    by : (i : ℕ) (d : ℚ) → i < length numbers → i < n → get_or (map frac_value numbers) i d ≡ number_of ps i zero_ℚ
    by i d l b =
        ⊎_elim
        (λ (s : (x : Frac) × (i < length numbers) × (slice_get numbers i ≡ Some x) × (get_or numbers i x ≡ x)).
        get_or_from_slice_get (map frac_value numbers) i (frac_value s.0) d (slice_get-map frac_value numbers i ∙ ap (option_map frac_value) s.2)
        ∙ sym (ap frac_value s.3)
        ∙ ap (λ qs. number_of qs i (frac_value (get_or numbers i s.0))) (sym (drop_all k ps h))
        ∙ a.values i s.0 b)
        (λ (s : (length numbers ≤ i) × (slice_get numbers i ≡ None)). absurd (omega (arith, s.0)))
        (slice_get_cases numbers i).1

pub ruleset writes = (none_yet, number_at, place_fits)
