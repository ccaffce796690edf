-- Lists of the first elements of a sequence.
use Rattle.std.proofs.Common.{◌≡◌, ℕ, zero, suc, ◌+◌, ◌-◌, ◌<◌, ◌∙◌, sym, ap, refl, subst, arith, length, get_or, All}
use Rattle.linear_program.specs.Elements.{elements_from}

module _ {A : Type 0} (g : ℕ → A) where
  pub elements_length : (i n : ℕ) → length (elements_from g i n) ≡ n
  unfolding elements_from
  elements_length i zero = refl
  elements_length i (suc n) = omega (arith, elements_length (suc i) n)

  pub elements_at : (i n j : ℕ) (d : A) → j < n → get_or (elements_from g i n) j d ≡ g (i + j)
  unfolding elements_from
  elements_at i zero j d h = absurd (omega arith)
  elements_at i (suc n) zero d h = ap g (omega arith)
  elements_at i (suc n) (suc j) d h = elements_at (suc i) n j d (omega arith) ∙ ap g (omega arith)

  -- a property of the first n elements is one of the list
  pub all_elements : (P : A → Type 0) (n : ℕ) → ((j : ℕ) → j < n → P (g j)) → All P (elements_from g 0 n)
  all_elements P n h k d lt =
      let below : k < n = subst (λ m. k < m) (elements_length 0 n) lt in
      subst P (sym (elements_at 0 n k d below ∙ ap g (omega arith))) (h k below)

  pub elements_all : (P : A → Type 0) (n : ℕ) → All P (elements_from g 0 n) → (j : ℕ) → j < n → P (g j)
  elements_all P n h j lt =
      subst P (elements_at 0 n j (g 0) lt ∙ ap g (omega arith)) (h j (g 0) (subst (λ m. j < m) (sym (elements_length 0 n)) lt))
