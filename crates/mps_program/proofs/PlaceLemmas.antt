-- Places that pass a test, and their parting by two tests.
use Rattle.std.proofs.Common.{◌≡◌, ℕ, zero, suc, ◌+◌, ◌<◌, ◌∙◌, sym, ap, ap₂, refl, subst, arith, Bool, true, false}
use Rattle.std.proofs.Common.{not, ◌&&◌, List, [], ◌∷◌, ◌++◌, length, All, None, if◌then◌else◌, ⊎_elim, add-one, ◌≤◌}
use Rattle.std.proofs.lemmas.List.{length-append, get_or_append_left, get_or-append-add}
use Rattle.std.proofs.lemmas.List.Elements.{All-append}
use Rattle.exact_numbers.specs.Rational.{ℚ, zero_ℚ, ◌+ℚ◌}
use Rattle.exact_numbers.specs.Sums.{sum_over, sum_below}
use Rattle.exact_numbers.proofs.RationalLaws.{+ℚ_zero, zero-+ℚ}
use Rattle.exact_numbers.proofs.Adding.{+ℚ_swap, sum_over-append}
use Rattle.mps_program.specs.Places.{places, first}
use Rattle.std.proofs.lemmas.Bool.{cases_Bool, cases_lt}

abbrev pub one_where : Bool → ℕ → List ℕ
one_where b n = if b then n ∷ [] else []

pub not_both_ways : (b : Bool) → b ≡ true → b ≡ false → ⊥
not_both_ways b p q = cc

module _ (P : ℕ → Type 0) where
  pub All_left : (xs ys : List ℕ) → All P (xs ++ ys) → All P xs
  All_left xs ys h k d lt = subst P (get_or_append_left xs ys d k lt) (h k d (omega (arith, length-append xs ys)))

  pub All_right : (xs ys : List ℕ) → All P (xs ++ ys) → All P ys
  All_right xs ys h k d lt = subst P (get_or-append-add xs ys k d) (h (length xs + k) d (omega (arith, length-append xs ys)))

  All_one : (b : Bool) (n : ℕ) → (b ≡ true → P n) → All P (one_where b n)
  All_one true n h zero d lt = h refl
  All_one true n h (suc k) d lt = absurd (omega arith)
  All_one false n h k d lt = absurd (omega arith)

  one_All : (b : Bool) (n : ℕ) → b ≡ true → All P (one_where b n) → P n
  one_All true n e h = h 0 0 (omega arith)
  one_All false n e h = absurd (not_both_ways false e refl)

  module _ (test : ℕ → Bool) where
    -- what holds of each number that passes holds of the places
    pub all_places : (n : ℕ) → ((j : ℕ) → j < n → test j ≡ true → P j) → All P (places test n)
    unfolding places
    all_places zero h = λ k d lt. absurd (omega arith)
    all_places (suc n) h = All-append P (places test n) (one_where (test n) n) (all_places n (λ j lt e. h j (omega arith) e)) (All_one (test n) n (λ e. h n (omega arith) e))

    pub at_places : (n : ℕ) → All P (places test n) → (j : ℕ) → j < n → test j ≡ true → P j
    unfolding places
    at_places zero h j lt e = absurd (omega arith)
    at_places (suc n) h j lt e =
        ⊎_elim
        (λ (below : j < n). at_places n (All_left (places test n) (one_where (test n) n) h) j below e)
        (λ (above : n ≤ j). let same : j ≡ n = omega (arith, above, lt) in
        subst P (sym same) (one_All (test n) n (subst (λ k. test k ≡ true) same e)
        (All_right (places test n) (one_where (test n) n) h)))
        (cases_lt j n)

none_first : (xs : List ℕ) → first xs ≡ None → All (λ j. ⊥) xs
none_first [] e = λ k d lt. absurd (omega arith)
none_first (x ∷ xs) e = let r = e in cc

-- without a first place none passes
pub none_passes : (test : ℕ → Bool) (n : ℕ) → first (places test n) ≡ None → (j : ℕ) → j < n → test j ≡ false
none_passes test n e j lt =
    ⊎_elim
    (λ (t : test j ≡ true). absurd (at_places (λ j. ⊥) test n (none_first (places test n) e) j lt t))
    (λ (f : test j ≡ false). f)
    (cases_Bool (test j))

-- ---- a whole that is parted by two tests
one_of_three : (a b : Bool) (n : ℕ) → length (one_where (not a) n) + (length (one_where (a && b) n) + length (one_where (a && not b) n)) ≡ 1
one_of_three true true n = refl
one_of_three true false n = refl
one_of_three false b n = refl

module _ (g : ℕ → ℚ) where
  one : (n : ℕ) → sum_over g (n ∷ []) ≡ g n
  unfolding sum_over
  one n = +ℚ_zero (g n)

  nothing : sum_over g [] ≡ zero_ℚ
  unfolding sum_over
  nothing = refl

  sum_of_three : (a b : Bool) (n : ℕ) → sum_over g (one_where (not a) n) +ℚ (sum_over g (one_where (a && b) n) +ℚ sum_over g (one_where (a && not b) n)) ≡ g n
  sum_of_three true true n = ap₂ ◌+ℚ◌ nothing (ap₂ ◌+ℚ◌ (one n) nothing ∙ +ℚ_zero (g n)) ∙ zero-+ℚ (g n)
  sum_of_three true false n = ap₂ ◌+ℚ◌ nothing (ap₂ ◌+ℚ◌ nothing (one n) ∙ zero-+ℚ (g n)) ∙ zero-+ℚ (g n)
  sum_of_three false b n = ap₂ ◌+ℚ◌ (one n) (ap₂ ◌+ℚ◌ nothing nothing ∙ +ℚ_zero zero_ℚ) ∙ +ℚ_zero (g n)

swap_three : (a b c d e f : ℚ) → (a +ℚ b) +ℚ ((c +ℚ d) +ℚ (e +ℚ f)) ≡ (a +ℚ (c +ℚ e)) +ℚ (b +ℚ (d +ℚ f))
swap_three a b c d e f = ap (λ v. (a +ℚ b) +ℚ v) (+ℚ_swap c d e f) ∙ +ℚ_swap a b (c +ℚ e) (d +ℚ f)

module _ (w z : ℕ → Bool) where
  abbrev pub first_part : ℕ → List ℕ
  first_part n = places (λ j. not (w j)) n

  abbrev pub second_part : ℕ → List ℕ
  second_part n = places (λ j. w j && z j) n

  abbrev pub third_part : ℕ → List ℕ
  third_part n = places (λ j. w j && not (z j)) n

  pub parts_length : (n : ℕ) → length (first_part n) + (length (second_part n) + length (third_part n)) ≡ n
  unfolding places
  parts_length zero = refl
  parts_length (suc n) =
      omega (
        arith,
        parts_length n,
        one_of_three (w n) (z n) n,
        length-append (first_part n) (one_where (not (w n)) n),
        length-append (second_part n) (one_where (w n && z n) n),
        length-append (third_part n) (one_where (w n && not (z n)) n),
      )

  pub parts_sum : (g : ℕ → ℚ) (n : ℕ) → sum_over g (first_part n) +ℚ (sum_over g (second_part n) +ℚ sum_over g (third_part n)) ≡ sum_below g n
  unfolding places sum_over sum_below
  parts_sum g zero = ap (λ v. zero_ℚ +ℚ v) (+ℚ_zero zero_ℚ) ∙ +ℚ_zero zero_ℚ
  parts_sum g (suc n) =
      ap₂ ◌+ℚ◌ (sum_over-append g (first_part n) (one_where (not (w n)) n))
      (ap₂ ◌+ℚ◌ (sum_over-append g (second_part n) (one_where (w n && z n) n))
      (sum_over-append g (third_part n) (one_where (w n && not (z n)) n)))
      ∙ swap_three (sum_over g (first_part n)) (sum_over g (one_where (not (w n)) n)) (sum_over g (second_part n))
      (sum_over g (one_where (w n && z n) n)) (sum_over g (third_part n))
      (sum_over g (one_where (w n && not (z n)) n))
      ∙ ap₂ ◌+ℚ◌ (parts_sum g n) (sum_of_three g (w n) (z n) n)

  abbrev pub parted : ℕ → List ℕ
  parted n = first_part n ++ (second_part n ++ third_part n)

  pub parted_length : (n : ℕ) → length (parted n) ≡ n
  parted_length n = omega (arith, parts_length n, length-append (first_part n) (second_part n ++ third_part n), length-append (second_part n) (third_part n))

  pub parted_sum : (g : ℕ → ℚ) (n : ℕ) → sum_over g (parted n) ≡ sum_below g n
  parted_sum g n =
      sum_over-append g (first_part n) (second_part n ++ third_part n)
      ∙ ap (λ v. sum_over g (first_part n) +ℚ v) (sum_over-append g (second_part n) (third_part n))
      ∙ parts_sum g n

  pub all_parted : (P : ℕ → Type 0) (n : ℕ) → ((j : ℕ) → j < n → P j) → All P (parted n)
  all_parted P n h =
      All-append P (first_part n) (second_part n ++ third_part n) (all_places P (λ j. not (w j)) n (λ j lt e. h j lt))
      (All-append P (second_part n) (third_part n) (all_places P (λ j. w j && z j) n (λ j lt e. h j lt)) (all_places P (λ j. w j && not (z j)) n (λ j lt e. h j lt)))

  pub parted_all : (P : ℕ → Type 0) (n : ℕ) → All P (parted n) → (j : ℕ) → j < n → P j
  parted_all P n h j lt =
      let rest = All_right P (first_part n) (second_part n ++ third_part n) h in
      by_cases (w j) (z j) refl refl rest
    where
      by_cases : (a b : Bool) → w j ≡ a → z j ≡ b → All P (second_part n ++ third_part n) → P j
      by_cases false b p q rest = at_places P (λ j. not (w j)) n (All_left P (first_part n) (second_part n ++ third_part n) h) j lt (ap not p)
      by_cases true true p q rest = at_places P (λ j. w j && z j) n (All_left P (second_part n) (third_part n) rest) j lt (ap₂ ◌&&◌ p q)
      by_cases true false p q rest = at_places P (λ j. w j && not (z j)) n (All_right P (second_part n) (third_part n) rest) j lt (ap₂ (λ a b. a && not b) p q)

-- with one number more
pub places_more : (test : ℕ → Bool) (n : ℕ) → places test (n + 1) ≡ places test n ++ one_where (test n) n
unfolding places
places_more test n = ap (places test) (add-one n)
