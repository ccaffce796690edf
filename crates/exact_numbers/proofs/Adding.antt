-- Sums over lists and over indices.
use Rattle.std.proofs.Common.{◌≡◌, ◌≢◌, ℕ, zero, suc, ◌<◌, ◌≤◌, ◌∙◌, sym, ap, ap₂, refl, arith, ⊎_elim, List, [], ◌∷◌, ◌++◌, map, All}
use Rattle.exact_numbers.specs.Rational.{ℚ, zero_ℚ, ◌+ℚ◌, ◌*ℚ◌, neg_ℚ, ◌≤ℚ◌}
use Rattle.std.proofs.lemmas.Bool.{cases_lt}
use Rattle.std.proofs.lemmas.List.Elements.{All-head, All-tail}
use Rattle.exact_numbers.specs.Sums.{sum_over, sum_below}
use Rattle.exact_numbers.proofs.RationalLaws.{+ℚ_comm, +ℚ_assoc, +ℚ_zero, zero-+ℚ, *ℚ-+ℚ, *ℚ_zero, neg-+ℚ, neg_zero, ≤ℚ_refl, +ℚ-≤ℚ_both}

-- two sums of two, added the other way
pub +ℚ_swap : (a b c d : ℚ) → (a +ℚ b) +ℚ (c +ℚ d) ≡ (a +ℚ c) +ℚ (b +ℚ d)
+ℚ_swap a b c d =
    +ℚ_assoc a b (c +ℚ d)
    ∙ ap (λ v. a +ℚ v) (sym (+ℚ_assoc b c d) ∙ ap (λ v. v +ℚ d) (+ℚ_comm b c) ∙ +ℚ_assoc c b d)
    ∙ sym (+ℚ_assoc a c (b +ℚ d))

-- ---- over the elements of a list
module _ {A : Type 0} where
  pub sum_over_nil : (f : A → ℚ) → sum_over f [] ≡ zero_ℚ
  unfolding sum_over
  sum_over_nil f = refl

  pub sum_over_cons : (f : A → ℚ) (x : A) (xs : List A) → sum_over f (x ∷ xs) ≡ f x +ℚ sum_over f xs
  unfolding sum_over
  sum_over_cons f x xs = refl

  pub sum_over-append : (f : A → ℚ) (xs ys : List A) → sum_over f (xs ++ ys) ≡ sum_over f xs +ℚ sum_over f ys
  unfolding sum_over
  sum_over-append f [] ys = sym (zero-+ℚ (sum_over f ys))
  sum_over-append f (x ∷ xs) ys = ap (λ v. f x +ℚ v) (sum_over-append f xs ys) ∙ sym (+ℚ_assoc (f x) (sum_over f xs) (sum_over f ys))

  pub sum_over_same : (f g : A → ℚ) (xs : List A) → ((x : A) → f x ≡ g x) → sum_over f xs ≡ sum_over g xs
  unfolding sum_over
  sum_over_same f g [] e = refl
  sum_over_same f g (x ∷ xs) e = ap₂ ◌+ℚ◌ (e x) (sum_over_same f g xs e)

  pub sum_over-+ℚ : (f g : A → ℚ) (xs : List A) → sum_over (λ x. f x +ℚ g x) xs ≡ sum_over f xs +ℚ sum_over g xs
  unfolding sum_over
  sum_over-+ℚ f g [] = sym (+ℚ_zero zero_ℚ)
  sum_over-+ℚ f g (x ∷ xs) = ap (λ v. f x +ℚ g x +ℚ v) (sum_over-+ℚ f g xs) ∙ +ℚ_swap (f x) (g x) (sum_over f xs) (sum_over g xs)

  pub sum_over-*ℚ : (k : ℚ) (f : A → ℚ) (xs : List A) → sum_over (λ x. k *ℚ f x) xs ≡ k *ℚ sum_over f xs
  unfolding sum_over
  sum_over-*ℚ k f [] = sym (*ℚ_zero k)
  sum_over-*ℚ k f (x ∷ xs) = ap (λ v. k *ℚ f x +ℚ v) (sum_over-*ℚ k f xs) ∙ sym (*ℚ-+ℚ k (f x) (sum_over f xs))

  pub sum_over-zero : (xs : List A) → sum_over (λ x. zero_ℚ) xs ≡ zero_ℚ
  unfolding sum_over
  sum_over-zero [] = refl
  sum_over-zero (x ∷ xs) = zero-+ℚ _ ∙ sum_over-zero xs

  pub sum_over_le : (f g : A → ℚ) (xs : List A) → All (λ x. f x ≤ℚ g x) xs → sum_over f xs ≤ℚ sum_over g xs
  unfolding sum_over
  sum_over_le f g [] h = ≤ℚ_refl zero_ℚ
  sum_over_le f g (x ∷ xs) h = +ℚ-≤ℚ_both (f x) (g x) (sum_over f xs) (sum_over g xs) (All-head (λ y. f y ≤ℚ g y) x xs h) (sum_over_le f g xs (All-tail (λ y. f y ≤ℚ g y) x xs h))

pub sum_over-map : {A B : Type 0} (f : B → ℚ) (g : A → B) (xs : List A) → sum_over f (map g xs) ≡ sum_over (λ x. f (g x)) xs
unfolding sum_over
sum_over-map f g [] = refl
sum_over-map f g (x ∷ xs) = ap (λ v. f (g x) +ℚ v) (sum_over-map f g xs)

-- the order of two sums does not matter
pub sum_over_swap : {A B : Type 0} (f : A → B → ℚ) (xs : List A) (ys : List B) → sum_over (λ x. sum_over (λ y. f x y) ys) xs ≡ sum_over (λ y. sum_over (λ x. f x y) xs) ys
unfolding sum_over
sum_over_swap f [] ys = sym (sum_over-zero ys)
sum_over_swap f (x ∷ xs) ys = ap (λ v. sum_over (λ y. f x y) ys +ℚ v) (sum_over_swap f xs ys) ∙ sym (sum_over-+ℚ (λ y. f x y) (λ y. sum_over (λ z. f z y) xs) ys)

-- ---- over the numbers below n

pub sum_below_suc : (f : ℕ → ℚ) (n : ℕ) → sum_below f (suc n) ≡ sum_below f n +ℚ f n
unfolding sum_below
sum_below_suc f n = refl

pub sum_below_same : (f g : ℕ → ℚ) (n : ℕ) → ((j : ℕ) → j < n → f j ≡ g j) → sum_below f n ≡ sum_below g n
unfolding sum_below
sum_below_same f g zero e = refl
sum_below_same f g (suc n) e = ap₂ ◌+ℚ◌ (sum_below_same f g n (λ j h. e j (omega arith))) (e n (omega arith))

pub sum_below-+ℚ : (f g : ℕ → ℚ) (n : ℕ) → sum_below (λ j. f j +ℚ g j) n ≡ sum_below f n +ℚ sum_below g n
unfolding sum_below
sum_below-+ℚ f g zero = sym (+ℚ_zero zero_ℚ)
sum_below-+ℚ f g (suc n) = ap (λ v. v +ℚ (f n +ℚ g n)) (sum_below-+ℚ f g n) ∙ +ℚ_swap (sum_below f n) (sum_below g n) (f n) (g n)

pub sum_below-*ℚ : (k : ℚ) (f : ℕ → ℚ) (n : ℕ) → sum_below (λ j. k *ℚ f j) n ≡ k *ℚ sum_below f n
unfolding sum_below
sum_below-*ℚ k f zero = sym (*ℚ_zero k)
sum_below-*ℚ k f (suc n) = ap (λ v. v +ℚ k *ℚ f n) (sum_below-*ℚ k f n) ∙ sym (*ℚ-+ℚ k (sum_below f n) (f n))

pub sum_below-neg : (f : ℕ → ℚ) (n : ℕ) → sum_below (λ j. neg_ℚ (f j)) n ≡ neg_ℚ (sum_below f n)
unfolding sum_below
sum_below-neg f zero = sym neg_zero
sum_below-neg f (suc n) = ap (λ v. v +ℚ neg_ℚ (f n)) (sum_below-neg f n) ∙ sym (neg-+ℚ (sum_below f n) (f n))

pub sum_below_all_zero : (f : ℕ → ℚ) (n : ℕ) → ((j : ℕ) → j < n → f j ≡ zero_ℚ) → sum_below f n ≡ zero_ℚ
unfolding sum_below
sum_below_all_zero f zero e = refl
sum_below_all_zero f (suc n) e = ap₂ ◌+ℚ◌ (sum_below_all_zero f n (λ j h. e j (omega arith))) (e n (omega arith)) ∙ +ℚ_zero zero_ℚ

-- a sum of which one part alone is not 0
pub sum_below_one : (f : ℕ → ℚ) (n i : ℕ) → i < n → ((j : ℕ) → j < n → j ≢ i → f j ≡ zero_ℚ) → sum_below f n ≡ f i
unfolding sum_below
sum_below_one f zero i h e = absurd (omega arith)
sum_below_one f (suc n) i h e =
    ⊎_elim
    (λ (l : i < n). ap₂ ◌+ℚ◌ (sum_below_one f n i l (λ j k a. e j (omega arith) a)) (e n (omega arith) (omega arith)) ∙ +ℚ_zero (f i))
    (λ (g : n ≤ i). let same : n ≡ i = omega arith in ap (λ v. v +ℚ f n) (sum_below_all_zero f n (λ j k. e j (omega arith) (omega arith))) ∙ zero-+ℚ (f n) ∙ ap f same)
    (cases_lt i n)

pub sum_below_swap_below : (f : ℕ → ℕ → ℚ) (m n : ℕ) → sum_below (λ i. sum_below (f i) n) m ≡ sum_below (λ j. sum_below (λ i. f i j) m) n
unfolding sum_below
sum_below_swap_below f zero n = sym (sum_below_all_zero (λ j. zero_ℚ) n (λ j h. refl))
sum_below_swap_below f (suc m) n = ap (λ v. v +ℚ sum_below (f m) n) (sum_below_swap_below f m n) ∙ sym (sum_below-+ℚ (λ j. sum_below (λ i. f i j) m) (f m) n)
