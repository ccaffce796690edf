-- Lists by place, and the first place that passes a test.
use Rattle.std.proofs.Common.{◌≡◌, ℕ, zero, suc, ◌+◌, ◌<◌, ◌≤◌, ◌∙◌, sym, ap, ap₂, refl, arith, Bool, true, false, cond, List, [], ◌∷◌, ◌++◌, length, get_or, Some, ⊎_elim, add-one}
use Rattle.std.proofs.lemmas.Bool.{cases_lt}
use Rattle.std.proofs.lemmas.List.{length-append, get_or_append_left, get_or-append-add}
use Rattle.mps_program.specs.Places.{places, first, listed}
use Rattle.mps_program.proofs.PlaceLemmas.{one_where, places_more}

module _ {A : Type 0} (f : ℕ → A) where
  pub listed_more : (n : ℕ) → listed f (n + 1) ≡ listed f n ++ f n ∷ []
  unfolding listed
  listed_more n = ap (listed f) (add-one n)

  pub listed_push : (n : ℕ) (xs : List A) (x : A) → xs ≡ listed f n → x ≡ f n → xs ++ x ∷ [] ≡ listed f (n + 1)
  listed_push n xs x h e = ap₂ (λ ys y. ys ++ y ∷ []) h e ∙ sym (listed_more n)

  pub listed_length : (n : ℕ) → length (listed f n) ≡ n
  unfolding listed
  listed_length zero = refl
  listed_length (suc n) = omega (arith, listed_length n, length-append (listed f n) (f n ∷ []))

  pub listed_at : (n i : ℕ) (d : A) → i < n → get_or (listed f n) i d ≡ f i
  unfolding listed
  listed_at zero i d lt = absurd (omega arith)
  listed_at (suc n) i d lt =
      ⊎_elim
      (λ (below : i < n). get_or_append_left (listed f n) (f n ∷ []) d i (omega (arith, listed_length n, below)) ∙ listed_at n i d below)
      (λ (above : n ≤ i). let same : i ≡ length (listed f n) + 0 = omega (arith, listed_length n, above, lt) in
      ap (λ k. get_or (listed f n ++ f n ∷ []) k d) same ∙ get_or-append-add (listed f n) (f n ∷ []) 0 d ∙ ap f (omega (arith, listed_length n, above, lt)))
      (cases_lt i n)

module _ (test : ℕ → Bool) where
  pub none_more : (i : ℕ) → places test i ≡ [] → test i ≡ false → places test (i + 1) ≡ []
  none_more i h e = places_more test i ∙ ap₂ (λ xs b. xs ++ one_where b i) h e

  first_left : (xs ys : List ℕ) (i : ℕ) → first xs ≡ Some i → first (xs ++ ys) ≡ Some i
  first_left [] ys i e = let r = e in cc
  first_left (x ∷ xs) ys i e = e

  pub first_here : (n i : ℕ) → i < n → places test i ≡ [] → test i ≡ true → first (places test n) ≡ Some i
  unfolding places
  first_here zero i lt h e = absurd (omega arith)
  first_here (suc n) i lt h e =
      ⊎_elim
      (λ (below : i < n). first_left (places test n) (one_where (test n) n) i (first_here n i below h e))
      (λ (above : n ≤ i). let same : n ≡ i = omega (arith, above, lt) in
      ap₂ (λ xs b. first (xs ++ one_where b n)) (ap (places test) same ∙ h) (ap test same ∙ e) ∙ ap Some same)
      (cases_lt i n)

  pub places_same : (other : ℕ → Bool) (n : ℕ) → ((j : ℕ) → j < n → test j ≡ other j) → places test n ≡ places other n
  unfolding places
  places_same other zero h = refl
  places_same other (suc n) h = ap₂ (λ xs b. xs ++ one_where b n) (places_same other n (λ j lt. h j (omega arith))) (h n (omega arith))

  -- ---- the number of places below one
  abbrev pub before : ℕ → ℕ
  before i = length (places test i)

  pub before_more : (i : ℕ) → before (i + 1) ≡ before i + cond (test i) 1 0
  before_more i = ap length (places_more test i) ∙ length-append (places test i) (one_where (test i) i) ∙ ap (λ n. before i + n) (one_length (test i))
    where
      one_length : (b : Bool) → length (one_where b i) ≡ cond b 1 0
      one_length true = refl
      one_length false = refl

  before_suc : (i : ℕ) → before (suc i) ≡ before i + cond (test i) 1 0
  before_suc i = ap before (sym (add-one i)) ∙ before_more i

  before_le : (i n : ℕ) → i ≤ n → before i ≤ before n
  before_le i zero le = let same : i ≡ 0 = omega arith in omega (arith, ap before same)
  before_le i (suc n) le =
      ⊎_elim
      (λ (below : i < suc n). omega (arith, before_le i n (omega arith), before_suc n))
      (λ (above : suc n ≤ i). let same : i ≡ suc n = omega (arith, above, le) in omega (arith, ap before same))
      (cases_lt i (suc n))

  pub before_small : (n : ℕ) → before n ≤ n
  unfolding places
  before_small zero = omega arith
  before_small (suc n) = omega (arith, before_small n, before_suc n, one_small (test n))
    where
      one_small : (b : Bool) → cond b 1 0 ≤ 1
      one_small true = omega arith
      one_small false = omega arith

  before_next : (i : ℕ) → test i ≡ true → before (suc i) ≡ suc (before i)
  before_next i e = before_suc i ∙ ap (λ b. before i + cond b 1 0) e ∙ omega arith

  -- a place that passes comes before the end
  pub before_end : (n i : ℕ) → i < n → test i ≡ true → before i < before n
  before_end n i lt e = omega (arith, before_next i e, before_le (suc i) n (omega (arith, lt)))

  -- and stands where it is counted
  pub place_at : (n i : ℕ) → i < n → test i ≡ true → get_or (places test n) (before i) 0 ≡ i
  unfolding places
  place_at zero i lt e = absurd (omega arith)
  place_at (suc n) i lt e =
      ⊎_elim
      (λ (below : i < n). get_or_append_left (places test n) (one_where (test n) n) 0 (before i) (before_end n i below e) ∙ place_at n i below e)
      (λ (above : n ≤ i). let same : n ≡ i = omega (arith, above, lt) in
      ap (λ k. get_or (places test n ++ one_where (test n) n) k 0) (ap before (sym same) ∙ omega arith)
      ∙ get_or-append-add (places test n) (one_where (test n) n) 0 0
      ∙ ap (λ b. get_or (one_where b n) 0 0) (ap test same ∙ e) ∙ same)
      (cases_lt i n)

  -- each place is counted where it stands
  pub before_at : (n c : ℕ) → c < before n → before (get_or (places test n) c 0) ≡ c
  unfolding places
  before_at zero c lt = absurd (omega arith)
  before_at (suc n) c lt =
      ⊎_elim
      (λ (below : c < before n). ap before (get_or_append_left (places test n) (one_where (test n) n) 0 c below) ∙ before_at n c below)
      (λ (above : before n ≤ c). last (test n) refl above)
      (cases_lt c (before n))
    where
      last : (b : Bool) → test n ≡ b → before n ≤ c → before (get_or (places test n ++ one_where (test n) n) c 0) ≡ c
      last true e above =
          let same : c ≡ before n + 0 = omega (arith, above, lt, before_next n e) in
          ap before (ap (λ k. get_or (places test n ++ one_where (test n) n) k 0) same
          ∙ get_or-append-add (places test n) (one_where (test n) n) 0 0 ∙ ap (λ b. get_or (one_where b n) 0 0) e)
          ∙ omega (arith, same)
      last false e above = absurd (omega (arith, above, lt, before_suc n, ap (λ b. cond {A = ℕ} b 1 0) e))
