-- Places after a write, and their marks.
use Rattle.std.proofs.Common.{◌≡◌, ◌≢◌, ℕ, zero, suc, ◌<◌, ◌^◌, ◌∙◌, sym, ap, refl, subst, arith, ⊎_elim, Bool, true, false, ◌==◌, List, [], ◌∷◌, ◌++◌, length, get_or, slice_set}
use Rattle.std.specs.List.{Contains}
use Rattle.std.proofs.lemmas.Bool.{cases_eq}
use Rattle.std.proofs.lemmas.List.{length-set}
use Rattle.std.proofs.lemmas.List.Elements.{Contains-append_left, Contains-append_right, Contains-append_cases}
use Rattle.exact_numbers.specs.declared.frac.Frac.{Frac}
use Rattle.exact_numbers.specs.Values.{frac_value}
use Rattle.exact_numbers.specs.Rational.{ℚ, zero_ℚ, ◌+ℚ◌, ◌*ℚ◌}
use Rattle.linear_program.specs.Lines.{is_zero, one_if}
use Rattle.linear_program.proofs.LineLemmas.{is_zero-true, is_zero-false}
use Rattle.linear_program.specs.Places.{place_in, AreZeros, AreMarked}
use Rattle.linear_program.proofs.CoefLemmas.{adds_at}

pub place_at : (ps : List Frac) (i : ℕ) (x : Frac) → i < length ps → x ≡ get_or ps i x → place_in ps i ≡ frac_value x
place_at [] i x h e = absurd (omega arith)
place_at (p ∷ ps) zero x h e = ap frac_value (sym e)
place_at (p ∷ ps) (suc i) x h e = place_at ps i x (omega arith) e

pub place_set_same : (ps : List Frac) (i : ℕ) (x : Frac) → i < length ps → place_in (slice_set ps i x) i ≡ frac_value x
place_set_same [] i x h = absurd (omega arith)
place_set_same (p ∷ ps) zero x h = refl
place_set_same (p ∷ ps) (suc i) x h = place_set_same ps i x (omega arith)

pub place_set_other : (ps : List Frac) (i : ℕ) (x : Frac) (j : ℕ) → j ≢ i → place_in (slice_set ps i x) j ≡ place_in ps j
place_set_other [] i x j n = refl
place_set_other (p ∷ ps) zero x zero n = absurd (n refl)
place_set_other (p ∷ ps) zero x (suc j) n = refl
place_set_other (p ∷ ps) (suc i) x zero n = refl
place_set_other (p ∷ ps) (suc i) x (suc j) n = place_set_other ps i x j (λ e. n (ap suc e))

pub one_only : (i j : ℕ) → Contains (i ∷ []) j → j ≡ i
one_only i j c = let within = c.1 in let k : c.0 ≡ 0 = omega arith in sym c.2 ∙ ap (λ q. get_or (i ∷ []) q j) k

module _ (ps : List Frac) (i : ℕ) (x : Frac) (within : i < length ps) where
  pub kept_marks : (touched : List ℕ) → AreMarked ps touched → place_in ps i ≢ zero_ℚ → AreMarked (slice_set ps i x) touched
  kept_marks touched m live =
      record {
        among = λ j n. ⊎_elim (λ (e : j ≡ i). subst (Contains touched) (sym e) (m.among i live)) (λ (apart : j ≢ i). m.among j (λ z. n (place_set_other ps i x j apart ∙ z))) (cases_eq j i);
        there = λ j c. (let h = m.there j c in omega (arith, length-set ps i x));
        few = (let h = m.few in omega (arith, length-set ps i x));
      }

  pub new_mark : (touched : List ℕ) → AreMarked ps touched → AreMarked (slice_set ps i x) (touched ++ i ∷ [])
  new_mark touched m =
      record {
        among = λ j n.
            ⊎_elim (λ (e : j ≡ i). subst (Contains (touched ++ i ∷ [])) (sym e) (Contains-append_right touched (i ∷ []) i (0, omega arith, refl)))
            (λ (apart : j ≢ i). Contains-append_left touched (i ∷ []) j (m.among j (λ z. n (place_set_other ps i x j apart ∙ z)))) (cases_eq j i);
        there = λ j c. (let h = ⊎_elim (m.there j) (λ (o : Contains (i ∷ []) j). subst (λ q. q < length ps)
            (sym (one_only i j o)) within) (Contains-append_cases touched (i ∷ []) j c) in
            omega (arith, length-set ps i x));
        few = (let h = m.few in omega (arith, length-set ps i x));
      }

  -- a touched place is set to 0
  pub one_less : (touched rest : List ℕ) → touched ≡ rest ++ i ∷ [] → frac_value x ≡ zero_ℚ → AreMarked ps touched → AreMarked (slice_set ps i x) rest
  one_less touched rest e z m =
      record {
        among = λ j n.
            let apart : j ≢ i = λ same. n (ap (place_in (slice_set ps i x)) same ∙ place_set_same ps i x within ∙ z) in
            ⊎_elim (λ (c : Contains rest j). c) (λ (o : Contains (i ∷ []) j). absurd (apart (one_only i j o)))
            (Contains-append_cases rest (i ∷ []) j (subst (λ l. Contains l j) e (m.among j (λ w. n (place_set_other ps i x j apart ∙ w)))));
        there = λ j c. (let h = m.there j (subst (λ l. Contains l j) (sym e) (Contains-append_left rest (i ∷ []) j c)) in omega (arith, length-set ps i x));
        few = (let h = m.few in omega (arith, length-set ps i x));
      }

pub touched_within : (ps : List Frac) (touched rest : List ℕ) (i : ℕ) → touched ≡ rest ++ i ∷ [] → AreMarked ps touched → i < length ps
touched_within ps touched rest i e m = m.there i (subst (λ l. Contains l i) (sym e) (Contains-append_right rest (i ∷ []) i (0, omega arith, refl)))

pub zero_or_not : (x : ℚ) → (x ≢ zero_ℚ → ⊥) → x ≡ zero_ℚ
zero_or_not x n = by (is_zero x) refl
  where
    by : (b : Bool) → is_zero x ≡ b → x ≡ zero_ℚ
    by true e = is_zero-true x e
    by false e = absurd (n (is_zero-false x e))

-- what holds nothing that is touched holds zeros
pub untouched : (ps : List Frac) (touched : List ℕ) → touched ≡ [] → AreMarked ps touched → AreZeros ps
untouched ps touched e m j = zero_or_not (place_in ps j) (λ n. let c = subst (λ l. Contains l j) e (m.among j n) in (let within = c.1 in omega arith))

pub no_marks : (ps : List Frac) (touched : List ℕ) → length ps < 2 ^ 32 → touched ≡ [] → AreZeros ps → AreMarked ps touched
no_marks ps touched h e z =
    record {
      among = λ j n. absurd (n (z j));
      there = λ j c. let d = subst (λ l. Contains l j) e c in (let within = d.1 in omega arith);
      few = h;
    }

module _ (ps now : List Frac) (view : ps ≡ now) (i : ℕ) (x : Frac) (within : i < length now) (is : x ≡ get_or ps i x) where
  inside : i < length ps
  inside = subst (λ l. i < length l) (sym view) within

  pub seen_place : place_in now i ≡ frac_value x
  seen_place = ap (λ l. place_in l i) (sym view) ∙ place_at ps i x inside is

  pub seen_write : (s : Frac) (k : ℚ) → frac_value s ≡ frac_value x +ℚ k → (j : ℕ) → place_in (slice_set ps i s) j ≡ place_in now j +ℚ k *ℚ one_if (j == i)
  seen_write s k e =
      adds_at (place_in now) (place_in (slice_set ps i s)) i k
      (place_set_same ps i s inside ∙ e ∙ ap (λ y. y +ℚ k) (sym seen_place))
      (λ j n. place_set_other ps i s j n ∙ ap (λ l. place_in l j) view)
