-- The touched places, in order, become the terms of a form.
use Rattle.std.proofs.Common.{◌≡◌, ◌≢◌, ℕ, zero, suc, ◌+◌, ◌<◌, ◌≤◌, ◌⊎◌, inl, inr, ◌∙◌, sym, ap, refl, subst, arith, ⊎_elim, None, Some, List, [], ◌∷◌, ◌++◌, length, get_or, slice_set}
use Rattle.std.specs.List.{Contains}
use Rattle.std.specs.List.Sorted.{IsNonDecreasingBy, IsPermutation}
use Rattle.std.proofs.lemmas.Bool.{cases_eq}
use Rattle.std.proofs.lemmas.List.{length-set}
use Rattle.std.proofs.lemmas.List.Sorted.{Contains-permutation, IsPermutation-sym}
use Rattle.exact_numbers.specs.declared.frac.Frac.{Frac}
use Rattle.exact_numbers.specs.Values.{frac_value}
use Rattle.exact_numbers.specs.Rational.{zero_ℚ}
use Rattle.linear_program.specs.Coefs.{Term, found, value_or_zero, coef_in, AreAscending, AreBelow}
use Rattle.linear_program.specs.Places.{place_in, AreZeros, AreMarked}
use Rattle.linear_program.proofs.CoefLemmas.{found_same, found_apart, ascending_append, below_append, below_from}
use Rattle.linear_program.proofs.PlaceLemmas.{zero_or_not, place_set_same, place_set_other}

-- a coefficient was moved from its place to the terms, or is still there
abbrev IsMoved : List Frac → List Frac → List Term → ℕ → Type 0
IsMoved start ps out q = ((place_in ps q ≡ zero_ℚ) × (coef_in out q ≡ place_in start q)) ⊎ ((found out q ≡ None) × (place_in ps q ≡ place_in start q))

-- the touched places before the i-th are done
pub record Closing (start ps : List Frac) (out : List Term) (touched : List ℕ) (i : ℕ) : Type 0 where
  pub moved : (q : ℕ) → IsMoved start ps out q
  pub ascending : AreAscending 0 out
  pub below : (k : ℕ) → i ≤ k → k < length touched → AreBelow (suc (get_or touched k 0)) out
  pub marked : (q : ℕ) → place_in ps q ≢ zero_ℚ → (k : ℕ) × (i ≤ k) × (k < length touched) × (get_or touched k 0 ≡ q)
  pub count : length ps ≡ length start

pub closing_init : (start : List Frac) (touched : List ℕ) (out : List Term) → out ≡ [] → ((q : ℕ) → place_in start q ≢ zero_ℚ → Contains touched q) → Closing start start out touched 0
closing_init start touched out e among =
    subst (λ o. Closing start start o touched 0) (sym e)
    (record {
      moved = λ q. inr (refl, refl);
      ascending = tt;
      below = λ k h l. tt;
      marked = λ q n. let c = among q n in (c.0, omega arith, c.1, get_or_default touched c.0 0 q c.1 ∙ c.2);
      count = refl;
    })
  where
    get_or_default : (xs : List ℕ) (k d f : ℕ) → k < length xs → get_or xs k d ≡ get_or xs k f
    get_or_default [] k d f h = absurd (omega arith)
    get_or_default (x ∷ xs) zero d f h = refl
    get_or_default (x ∷ xs) (suc k) d f h = get_or_default xs k d f (omega arith)

pub found_other : (out : List Term) (t : Term) (q : ℕ) → q ≢ t.0 → found (out ++ t ∷ []) q ≡ found out q
found_other [] t q n = found_apart t [] q n
found_other (x ∷ out) t q n =
    ⊎_elim (λ (e : q ≡ x.0). found_same x (out ++ t ∷ []) q e ∙ sym (found_same x out q e))
    (λ (m : q ≢ x.0). found_apart x (out ++ t ∷ []) q m ∙ found_other out t q n ∙ sym (found_apart x out q m)) (cases_eq q x.0)

pub found_last : (out : List Term) (t : Term) → found out t.0 ≡ None → found (out ++ t ∷ []) t.0 ≡ Some t.1
found_last [] t e = found_same t [] t.0 refl
found_last (x ∷ out) t e =
    ⊎_elim (λ (s : t.0 ≡ x.0). absurd (let clash : Some x.1 ≡ None = sym (found_same x out t.0 s) ∙ e in cc))
    (λ (m : t.0 ≢ x.0). found_apart x (out ++ t ∷ []) t.0 m ∙ found_last out t (sym (found_apart x out t.0 m) ∙ e)) (cases_eq t.0 x.0)

-- what does not stand among terms up to j is below j
below_strict : (j : ℕ) (out : List Term) → AreBelow (suc j) out → found out j ≡ None → AreBelow j out
below_strict j [] b e = tt
below_strict j (x ∷ out) b e =
    let first = b.0 in
    ⊎_elim (λ (s : j ≡ x.0). absurd (let clash : Some x.1 ≡ None = sym (found_same x out j s) ∙ e in cc))
    (λ (m : j ≢ x.0). (omega arith, below_strict j out b.1 (sym (found_apart x out j m) ∙ e))) (cases_eq j x.0)

module _ (start ps : List Frac) (out : List Term) (touched : List ℕ) (i j : ℕ) (value zero_frac : Frac)
    (more : i < length touched) (is : j ≡ get_or touched i 0) (at : place_in ps j ≡ frac_value value)
    (rising : IsNonDecreasingBy (λ x. x) touched) (c : Closing start ps out touched i) where
  -- a place that holds 0 is passed
  pub closing_pass : frac_value value ≡ zero_ℚ → Closing start ps out touched (i + 1)
  closing_pass z =
      record {
        moved = c.moved;
        ascending = c.ascending;
        below = λ k h l. c.below k (omega arith) l;
        marked = λ q n.
            let r = c.marked q n in
            let apart : r.0 ≢ i = λ e. n (ap (place_in ps) (sym r.3 ∙ ap (λ k. get_or touched k 0) e ∙ sym is) ∙ at ∙ z) in
            let from = r.1 in
            (r.0, omega arith, r.2, r.3);
        count = c.count;
      }

  pub closing_more : frac_value value ≢ zero_ℚ → frac_value zero_frac ≡ zero_ℚ → j < length ps → Closing start (slice_set ps j zero_frac) (out ++ (j, value) ∷ []) touched (i + 1)
  closing_more live z within =
      let none : (found out j ≡ None) × (place_in ps j ≡ place_in start j) =
      ⊎_elim (λ (l : (place_in ps j ≡ zero_ℚ) × (coef_in out j ≡ place_in start j)). absurd (live (sym at ∙ l.0)))
      (λ (r : (found out j ≡ None) × (place_in ps j ≡ place_in start j)). r) (c.moved j) in
      let up : AreBelow (suc j) out = subst (λ k. AreBelow (suc k) out) (sym is) (c.below i (omega arith) more) in
      let gone : place_in (slice_set ps j zero_frac) j ≡ zero_ℚ = place_set_same ps j zero_frac within ∙ z in
      record {
        moved = λ q.
            ⊎_elim
            (λ (e : q ≡ j). inl (
              ap (place_in (slice_set ps j zero_frac)) e ∙ gone,
              ap (coef_in (out ++ (j, value) ∷ [])) e ∙ ap value_or_zero (found_last out (j, value) none.0) ∙ sym at
                  ∙ none.1 ∙ ap (place_in start) (sym e),
            ))
            (λ (n : q ≢ j).
            let same = place_set_other ps j zero_frac q n in
            let other = found_other out (j, value) q n in
            ⊎_elim (λ (l : (place_in ps q ≡ zero_ℚ) × (coef_in out q ≡ place_in start q)). inl
            (same ∙ l.0, ap value_or_zero other ∙ l.1))
            (λ (r : (found out q ≡ None) × (place_in ps q ≡ place_in start q)). inr (other ∙ r.0, same ∙ r.1))
            (c.moved q))
            (cases_eq q j);
        ascending = ascending_append 0 j out ((j, value) ∷ []) (omega arith) c.ascending (below_strict j out up none.0) (omega arith, live, tt);
        below = λ k h l.
            let ordered : j ≤ get_or touched k 0 = subst (λ x. x ≤ get_or touched k 0) (sym is) (rising i k 0 (omega arith) l) in
            below_append (suc (get_or touched k 0)) out ((j, value) ∷ []) (below_from (suc j) (suc (get_or touched k 0)) out (omega arith) up) (omega arith, tt);
        marked = λ q n.
            let apart : q ≢ j = λ e. n (ap (place_in (slice_set ps j zero_frac)) e ∙ gone) in
            let r = c.marked q (λ w. n (place_set_other ps j zero_frac q apart ∙ w)) in
            let later : r.0 ≢ i = λ e. apart (sym r.3 ∙ ap (λ k. get_or touched k 0) e ∙ sym is) in
            let from = r.1 in
            (r.0, omega arith, r.2, r.3);
        count = length-set ps j zero_frac ∙ c.count;
      }

pub closing_end : (start ps : List Frac) (out : List Term) (touched : List ℕ) (i : ℕ) → length touched ≤ i
    → Closing start ps out touched i → ((q : ℕ) → place_in ps q ≢ zero_ℚ → ⊥)
    × ((q : ℕ) → (place_in ps q ≡ zero_ℚ) → coef_in out q ≡ place_in start q)
closing_end start ps out touched i done c = (
  λ q n. (let r = c.marked q n in let a = r.1 in let b = r.2 in omega arith),
  λ q z. ⊎_elim (λ (l : (place_in ps q ≡ zero_ℚ) × (coef_in out q ≡ place_in start q)). l.1)
      (λ (r : (found out q ≡ None) × (place_in ps q ≡ place_in start q)). ap value_or_zero r.0 ∙ sym z ∙ r.1) (c.moved q),
)

get_or_of : (xs : List ℕ) (k d f : ℕ) → k < length xs → get_or xs k d ≡ get_or xs k f
get_or_of [] k d f h = absurd (omega arith)
get_or_of (x ∷ xs) zero d f h = refl
get_or_of (x ∷ xs) (suc k) d f h = get_or_of xs k d f (omega arith)

-- each of the touched places in order is there
pub touched_place : (start : List Frac) (touched ordered : List ℕ) (i : ℕ) → AreMarked start touched → IsPermutation touched ordered → i < length ordered → get_or ordered i 0 < length start
touched_place start touched ordered i m moved h =
    m.there (get_or ordered i 0) (Contains-permutation ordered touched (get_or ordered i 0) (IsPermutation-sym touched ordered moved) (i, h, get_or_of ordered i (get_or ordered i 0) 0 h))

pub closing_begin : (start ps : List Frac) (touched ordered seen : List ℕ) (out : List Term) → ps ≡ start → out ≡ []
    → seen ≡ ordered → AreMarked ps touched → IsPermutation touched ordered → Closing start ps out seen 0
closing_begin start ps touched ordered seen out view empty e m moved =
    subst (λ p. Closing start p out seen 0) (sym view)
    (closing_init start seen out empty
    (λ q n. subst (λ l. Contains l q) (sym e) (Contains-permutation touched ordered q moved (m.among q (λ z. n (ap (λ l. place_in l q) (sym view) ∙ z))))))

pub closed_zeros : (start ps : List Frac) (out : List Term) (touched : List ℕ) (i : ℕ) → length touched ≤ i → Closing start ps out touched i → AreZeros ps
closed_zeros start ps out touched i done c j = zero_or_not (place_in ps j) ((closing_end start ps out touched i done c).0 j)

pub closed_coefs : (start ps : List Frac) (out : List Term) (touched : List ℕ) (i : ℕ) → length touched ≤ i → Closing start ps out touched i → (j : ℕ) → coef_in out j ≡ place_in start j
closed_coefs start ps out touched i done c j = (closing_end start ps out touched i done c).1 j (closed_zeros start ps out touched i done c j)
