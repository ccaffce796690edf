-- A row times a whole number above 0 holds at the same points.
use Rattle.std.proofs.Common.{◌≡◌, ◌≢◌, ℕ, suc, ◌<◌, ◌∙◌, sym, ap, subst, refl, arith, true, false, cond, List, [], ◌∷◌, Option, Some, None, pos, ⊎_elim, ◌↔◌, All}
use Rattle.std.specs.Prelude.{is_some, ◌||◌}
use Rattle.std.proofs.lemmas.Int.{ints}
use Rattle.std.proofs.lemmas.List.Elements.{All-nil, All-cons, All-head, All-tail}
use Rattle.exact_numbers.specs.Rational.{ℚ, zero_ℚ, whole, ◌+ℚ◌, ◌-ℚ◌, ◌*ℚ◌, neg_ℚ, ◌≤ℚ◌}
use Rattle.exact_numbers.proofs.RationalLaws.{+ℚ_comm, +ℚ_assoc, +ℚ_zero, +ℚ-neg, -ℚ_lem, +ℚ-≤ℚ, *ℚ_assoc, *ℚ_comm, *ℚ-≤ℚ, le_or_lt, ≤ℚ_antisymm, ≤ℚ_of_<ℚ, ≤ℚ_of_same, *ℚ_cancel, whole-≤ℚ, same_whole}
use Rattle.exact_numbers.proofs.Adding.{sum_below_same, sum_below-*ℚ}
use Rattle.linear_program.specs.Linear.{AreOrdered, Row, RowHolds, form_value, linear_part, value_at, has_side}
use Rattle.linear_program.proofs.Sides.{AtLeast, AtMost}
use Rattle.scaled_program.specs.Program.{ScaledRow, scaled_side, scaled_row, exported_rows}
use Rattle.scaled_program.specs.Meaning.{ScaledHolds}
use Rattle.scaled_program.proofs.Sides.{there_and_back}

pub linear_scaled : (k : ℚ) (c : ℕ → ℚ) (n : ℕ) (xs : List ℚ) → linear_part (λ j. k *ℚ c j) n xs ≡ k *ℚ linear_part c n xs
unfolding linear_part
linear_scaled k c n xs =
    sum_below_same (λ j. k *ℚ c j *ℚ value_at xs j) (λ j. k *ℚ (c j *ℚ value_at xs j)) n (λ j h. *ℚ_assoc k (c j) (value_at xs j))
    ∙ sum_below-*ℚ k (λ j. c j *ℚ value_at xs j) n

-- c + v - c = v
less_again : (c v : ℚ) → c +ℚ v +ℚ neg_ℚ c ≡ v
less_again c v = ap (λ t. t +ℚ neg_ℚ c) (+ℚ_comm c v) ∙ +ℚ_assoc v c (neg_ℚ c) ∙ ap (λ t. v +ℚ t) (+ℚ-neg c) ∙ +ℚ_zero v

module _ (k : ℚ) (above : zero_ℚ ≤ℚ k) (some : k ≢ zero_ℚ) where
  pub times_le : (x y : ℚ) → (x ≤ℚ y) ↔ ((k *ℚ x) ≤ℚ (k *ℚ y))
  times_le x y = (there x y, back)
    where
      there : (x y : ℚ) → x ≤ℚ y → (k *ℚ x) ≤ℚ (k *ℚ y)
      there x y h = subst (λ v. v ≤ℚ (k *ℚ y)) (*ℚ_comm x k) (subst (λ v. (x *ℚ k) ≤ℚ v) (*ℚ_comm y k) (*ℚ-≤ℚ x y k above h))

      back : (k *ℚ x) ≤ℚ (k *ℚ y) → x ≤ℚ y
      back h =
          ⊎_elim
          (λ l. l)
          (λ g.
          let other = there y x (≤ℚ_of_<ℚ y x g) in
          ≤ℚ_of_same x y (*ℚ_cancel x y k some (*ℚ_comm x k ∙ ≤ℚ_antisymm (k *ℚ x) (k *ℚ y) h other ∙ *ℚ_comm k y)))
          (le_or_lt x y)

  lower_same : (c v : ℚ) (s : Option ℚ) → AtLeast (scaled_side k c s) (k *ℚ v) ↔ AtLeast s (c +ℚ v)
  lower_same c v None = (λ h. h, λ h. h)
  lower_same c v (Some s) =
      (λ h. subst (λ t. t ≤ℚ (c +ℚ v)) (there_and_back c s) (left ((times_le (s -ℚ c) v).1 h)), λ h. (times_le (s -ℚ c) v).0 (right h))
    where
      left : (s -ℚ c) ≤ℚ v → (c +ℚ (s -ℚ c)) ≤ℚ (c +ℚ v)
      left h = subst (λ t. t ≤ℚ (c +ℚ v)) (+ℚ_comm (s -ℚ c) c) (subst (λ t. (s -ℚ c +ℚ c) ≤ℚ t) (+ℚ_comm v c) (+ℚ-≤ℚ (s -ℚ c) v c h))

      right : s ≤ℚ (c +ℚ v) → (s -ℚ c) ≤ℚ v
      right h = subst (λ t. t ≤ℚ v) (sym (-ℚ_lem s c)) (subst (λ t. (s +ℚ neg_ℚ c) ≤ℚ t) (less_again c v) (+ℚ-≤ℚ s (c +ℚ v) (neg_ℚ c) h))

  upper_same : (c v : ℚ) (s : Option ℚ) → AtMost (scaled_side k c s) (k *ℚ v) ↔ AtMost s (c +ℚ v)
  upper_same c v None = (λ h. h, λ h. h)
  upper_same c v (Some s) =
      (λ h. subst (λ t. (c +ℚ v) ≤ℚ t) (there_and_back c s) (left ((times_le v (s -ℚ c)).1 h)), λ h. (times_le v (s -ℚ c)).0 (right h))
    where
      left : v ≤ℚ (s -ℚ c) → (c +ℚ v) ≤ℚ (c +ℚ (s -ℚ c))
      left h = subst (λ t. t ≤ℚ (c +ℚ (s -ℚ c))) (+ℚ_comm v c) (subst (λ t. (v +ℚ c) ≤ℚ t) (+ℚ_comm (s -ℚ c) c) (+ℚ-≤ℚ v (s -ℚ c) c h))

      right : (c +ℚ v) ≤ℚ s → v ≤ℚ (s -ℚ c)
      right h = subst (λ t. v ≤ℚ t) (sym (-ℚ_lem s c)) (subst (λ t. t ≤ℚ (s +ℚ neg_ℚ c)) (less_again c v) (+ℚ-≤ℚ (c +ℚ v) s (neg_ℚ c) h))

factor_above : (k : ℕ) → 0 < k → zero_ℚ ≤ℚ whole (pos k)
factor_above k h = (whole-≤ℚ (pos 0) (pos k)).1 (omega (arith, ints))

factor_some : (k : ℕ) → 0 < k → whole (pos k) ≢ zero_ℚ
factor_some k h e = let same = same_whole (pos k) (pos 0) e in omega (arith, ints, same)

-- one row
pub row_same : (k n : ℕ) (xs : List ℚ) (r : Row) → 0 < k → ScaledHolds n xs (scaled_row k r) ↔ RowHolds n xs r
row_same k n xs r h =
    let q = whole (pos k) in
    let e = linear_scaled q r.body.coefficient n xs in
    let v = linear_part r.body.coefficient n xs in
    let lower = lower_same q (factor_above k h) (factor_some k h) r.body.constant v r.side.lower in
    let upper = upper_same q (factor_above k h) (factor_some k h) r.body.constant v r.side.upper in (
      λ s. record {
        above = lower.0 (subst (λ t. AtLeast (scaled_side q r.body.constant r.side.lower) t) e s.above);
        below = upper.0 (subst (λ t. AtMost (scaled_side q r.body.constant r.side.upper) t) e s.below);
      },
      λ s. record {
        above = subst (λ t. AtLeast (scaled_side q r.body.constant r.side.lower) t) (sym e)
            (lower.1 s.above);
        below = subst (λ t. AtMost (scaled_side q r.body.constant r.side.upper) t) (sym e)
            (upper.1 s.below);
      },
    )

-- a row without sides holds everywhere
no_sides : (l u : Option ℚ) (v : ℚ) → (is_some l || is_some u) ≡ false → AtLeast l v × AtMost u v
no_sides None None v e = (tt, tt)
no_sides None (Some u) v e = cc
no_sides (Some l) u v e = cc

-- all rows
pub exported_same : (factor : ℕ → ℕ) (n : ℕ) (xs : List ℚ) (i : ℕ) (rows : List Row) → ((k : ℕ) → 0 < factor k) →
    All (ScaledHolds n xs) (exported_rows factor i rows) ↔ All (RowHolds n xs) rows
unfolding exported_rows
exported_same factor n xs i [] h = (λ s. All-nil (RowHolds n xs), λ s. All-nil (ScaledHolds n xs))
exported_same factor n xs i (r ∷ rs) h =
    let ih = exported_same factor n xs (suc i) rs h in
    elim (has_side r.side) as (λ b. has_side r.side ≡ b →
    All (ScaledHolds n xs) (cond b (scaled_row (factor i) r ∷ exported_rows factor (suc i) rs) (exported_rows factor (suc i) rs)) ↔ All (RowHolds n xs) (r ∷ rs)) [
      | true ↦ λ e. (
        λ s. All-cons (RowHolds n xs) r rs ((row_same (factor i) n xs r (h i)).0
            (All-head (ScaledHolds n xs) (scaled_row (factor i) r) (exported_rows factor (suc i) rs) s))
            (ih.0 (All-tail (ScaledHolds n xs) (scaled_row (factor i) r) (exported_rows factor (suc i) rs) s)),
        λ s. All-cons (ScaledHolds n xs) (scaled_row (factor i) r) (exported_rows factor (suc i) rs)
            ((row_same (factor i) n xs r (h i)).1 (All-head (RowHolds n xs) r rs s))
            (ih.1 (All-tail (RowHolds n xs) r rs s)),
      )
      | false ↦ λ e.
          let free = no_sides r.side.lower r.side.upper (form_value r.body n xs) e in (
            λ s. All-cons (RowHolds n xs) r rs (record { above = free.0; below = free.1 }) (ih.0 s),
            λ s. ih.1 (All-tail (RowHolds n xs) r rs s),
          )
    ]
    refl

-- scaled sides stay in order
scaled_ordered : (k : ℚ) (c : ℚ) (l u : Option ℚ) → zero_ℚ ≤ℚ k → k ≢ zero_ℚ → AreOrdered l u → AreOrdered (scaled_side k c l) (scaled_side k c u)
scaled_ordered k c None u a s h = tt
scaled_ordered k c (Some l) None a s h = tt
scaled_ordered k c (Some l) (Some u) a s h =
    (times_le k a s (l -ℚ c) (u -ℚ c)).0 (subst (λ t. t ≤ℚ (u -ℚ c)) (sym (-ℚ_lem l c)) (subst (λ t. (l +ℚ neg_ℚ c) ≤ℚ t) (sym (-ℚ_lem u c)) (+ℚ-≤ℚ l u (neg_ℚ c) h)))

abbrev pub RowIsOrdered : Row → Type 0
RowIsOrdered r = AreOrdered r.side.lower r.side.upper

abbrev pub ScaledIsOrdered : ScaledRow → Type 0
ScaledIsOrdered r = AreOrdered r.side.lower r.side.upper

pub scaled_row_ordered : (k : ℕ) (r : Row) → 0 < k → RowIsOrdered r → ScaledIsOrdered (scaled_row k r)
scaled_row_ordered k r h o = scaled_ordered (whole (pos k)) r.body.constant r.side.lower r.side.upper (factor_above k h) (factor_some k h) o

pub exported_ordered : (factor : ℕ → ℕ) (i : ℕ) (rows : List Row) → ((k : ℕ) → 0 < factor k) → All RowIsOrdered rows → All ScaledIsOrdered (exported_rows factor i rows)
unfolding exported_rows
exported_ordered factor i [] h o = All-nil ScaledIsOrdered
exported_ordered factor i (r ∷ rs) h o =
    let ih = exported_ordered factor (suc i) rs h (All-tail RowIsOrdered r rs o) in
    elim (has_side r.side) as (λ b. All ScaledIsOrdered (cond b (scaled_row (factor i) r ∷ exported_rows factor (suc i) rs) (exported_rows factor (suc i) rs))) [
      | true ↦ All-cons ScaledIsOrdered (scaled_row (factor i) r) (exported_rows factor (suc i) rs) (scaled_row_ordered (factor i) r (h i) (All-head RowIsOrdered r rs o)) ih
      | false ↦ ih
    ]
