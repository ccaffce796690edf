-- The coefficients that lists of terms give.
use Rattle.std.proofs.Common.{◌≡◌, ◌≢◌, ℕ, zero, suc, ◌<◌, ◌≤◌, ◌∙◌, sym, ap, ap₂, refl, subst, arith, ⊎_elim, Bool, true, false, ◌==◌, if◌then◌else◌, Some, None, List, [], ◌∷◌, ◌++◌, length, get_or}
use Rattle.std.proofs.lemmas.Bool.{cases_eq, eq-eqb, ne_eqb}
use Rattle.exact_numbers.specs.declared.frac.Frac.{Frac}
use Rattle.exact_numbers.specs.Values.{frac_value}
use Rattle.exact_numbers.specs.Rational.{ℚ, zero_ℚ, ◌+ℚ◌, ◌*ℚ◌}
use Rattle.exact_numbers.proofs.RationalLaws.{+ℚ_zero, *ℚ_zero, *ℚ_one}
use Rattle.linear_program.specs.Lines.{one_if}
use Rattle.linear_program.proofs.LineLemmas.{same-eqb, apart-eqb}
use Rattle.linear_program.specs.Coefs.{Term, found, AreAscending, AreBelow}

pub found_same : (t : Term) (ts : List Term) (j : ℕ) → j ≡ t.0 → found (t ∷ ts) j ≡ Some t.1
found_same t ts j e = ap (λ b. if b then Some t.1 else found ts j) (eq-eqb j t.0 e)

pub found_apart : (t : Term) (ts : List Term) (j : ℕ) → j ≢ t.0 → found (t ∷ ts) j ≡ found ts j
found_apart t ts j n = ap (λ b. if b then Some t.1 else found ts j) (ne_eqb j t.0 n)

-- nothing stands below the first, and nothing from the bound on
pub found_before : (n : ℕ) (ts : List Term) (j : ℕ) → AreAscending n ts → j < n → found ts j ≡ None
found_before n [] j a h = refl
found_before n (t ∷ ts) j a h =
    let first = a.0 in
    found_apart t ts j (λ e. omega arith) ∙ found_before (suc t.0) ts j a.2 (omega arith)

pub found_beyond : (n : ℕ) (ts : List Term) (j : ℕ) → AreBelow n ts → n ≤ j → found ts j ≡ None
found_beyond n [] j b h = refl
found_beyond n (t ∷ ts) j b h =
    let first = b.0 in
    found_apart t ts j (λ e. omega arith) ∙ found_beyond n ts j b.1 h

-- what is added at one place
pub adds_at : (old new : ℕ → ℚ) (j : ℕ) (k : ℚ) → new j ≡ old j +ℚ k → ((i : ℕ) → i ≢ j → new i ≡ old i) → (i : ℕ) → new i ≡ old i +ℚ k *ℚ one_if (i == j)
adds_at old new j k same others i =
    ⊎_elim
    (λ (e : i ≡ j). ap new e ∙ same ∙ ap₂ (λ x y. x +ℚ y) (ap old (sym e)) (sym (ap (λ q. k *ℚ one_if (i == q)) (sym e) ∙ ap (λ x. k *ℚ x) (same-eqb i) ∙ *ℚ_one k)))
    (λ (n : i ≢ j). others i n ∙ sym (ap (λ x. old i +ℚ x) (ap (λ x. k *ℚ x) (apart-eqb i j n) ∙ *ℚ_zero k) ∙ +ℚ_zero (old i)))
    (cases_eq i j)

-- ---- order
pub ascending_from : (n m : ℕ) (ts : List Term) → n ≤ m → AreAscending m ts → AreAscending n ts
ascending_from n m [] h a = tt
ascending_from n m (t ∷ ts) h a = let first = a.0 in (omega arith, a.1, a.2)

pub ascending_append : (n v : ℕ) (pre rs : List Term) → n ≤ v → AreAscending n pre → AreBelow v pre → AreAscending v rs → AreAscending n (pre ++ rs)
ascending_append n v [] rs h a b c = ascending_from n v rs h c
ascending_append n v (t ∷ pre) rs h a b c = let first = b.0 in (a.0, a.1, ascending_append (suc t.0) v pre rs (omega arith) a.2 b.1 c)

pub below_append : (n : ℕ) (xs ys : List Term) → AreBelow n xs → AreBelow n ys → AreBelow n (xs ++ ys)
below_append n [] ys a b = b
below_append n (x ∷ xs) ys a b = (a.0, below_append n xs ys a.1 b)

pub below_from : (n m : ℕ) (ts : List Term) → n ≤ m → AreBelow n ts → AreBelow m ts
below_from n m [] h b = tt
below_from n m (t ∷ ts) h b = let first = b.0 in (omega arith, below_from n m ts h b.1)

pub nothing_added : (old : ℕ → ℚ) (j : ℕ) (k : ℚ) → k ≡ zero_ℚ → (i : ℕ) → old i ≡ old i +ℚ k *ℚ one_if (i == j)
nothing_added old j k e i = adds_at old old j k (sym (ap (λ x. old j +ℚ x) e ∙ +ℚ_zero (old j))) (λ q n. refl) i

pub not_zero : (r : Bool) (x : ℚ) → (x ≡ zero_ℚ → r ≡ true) → r ≡ false → x ≢ zero_ℚ
not_zero r x f e z = (let clash : true ≡ false = sym (f z) ∙ e in cc)

-- one more term that comes last
pub ascending_last : (ts : List Term) (v : ℕ) (f : Frac) → AreAscending 0 ts → AreBelow v ts → frac_value f ≢ zero_ℚ → AreAscending 0 (ts ++ (v, f) ∷ [])
ascending_last ts v f a b n = ascending_append 0 v ts ((v, f) ∷ []) (omega arith) a b (omega arith, n, tt)

-- what is ascending lies between the bound and the last term
module _ (t : Term) where
  ascending_at : (n : ℕ) (ts : List Term) (k : ℕ) → AreAscending n ts → k < length ts → t ≡ get_or ts k t → n ≤ t.0
  ascending_at n [] k a h e = absurd (omega arith)
  ascending_at n (s ∷ ts) zero a h e = subst (λ (q : Term). n ≤ q.0) (sym e) a.0
  ascending_at n (s ∷ ts) (suc k) a h e = let first = a.0 in (let rest = ascending_at (suc s.0) ts k a.2 (omega arith) e in omega arith)

  pub below_last : (v n : ℕ) (ts : List Term) (k : ℕ) → AreAscending n ts → suc k ≡ length ts → t ≡ get_or ts k t → t.0 < v → AreBelow v ts
  below_last v n [] k a h e less = tt
  below_last v n (s ∷ []) zero a h e less = (subst (λ (q : Term). q.0 < v) e less, tt)
  below_last v n (s ∷ r ∷ ts) zero a h e less = absurd (omega arith)
  below_last v n (s ∷ ts) (suc k) a h e less = (
    let later = ascending_at (suc s.0) ts k a.2 (omega arith) e in omega arith,
    below_last v (suc s.0) ts k a.2 (omega arith) e less,
  )

  pub last_below : (v : ℕ) (ts : List Term) (k : ℕ) → AreBelow v ts → k < length ts → t ≡ get_or ts k t → t.0 < v
  last_below v [] k b h e = absurd (omega arith)
  last_below v (s ∷ ts) zero b h e = subst (λ (q : Term). q.0 < v) (sym e) b.0
  last_below v (s ∷ ts) (suc k) b h e = last_below v ts k b.1 (omega arith) e
