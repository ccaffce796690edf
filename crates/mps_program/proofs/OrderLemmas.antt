-- No lower side is above its upper side.
use Rattle.std.proofs.Common.{◌≡◌, ℕ, ◌<◌, length, map, All, get_or, sym, subst, refl, arith, ⊎_elim, Bool, false, cond, pos, ◌*ℤ◌, ◌<ℤ◌, Option, Some, None}
use Rattle.std.proofs.lemmas.Int.{ints}
use Rattle.std.proofs.lemmas.List.Elements.{All-map}
use Rattle.std.specs.Cmp.{int_ranks}
use Rattle.std.specs.Option.{option_map}
use Rattle.std.specs.Ordering.{MatchOrdering, is_gt}
use Rattle.std.specs.declared.cmp.Ordering.{Ordering}
use Rattle.std.specs.declared.cmp.Ordering.TheVariants.{Less, Equal, Greater}
use Rattle.exact_numbers.specs.Rational.{ℚ, zero_ℚ, ◌+ℚ◌, neg_ℚ, ◌≤ℚ◌, ◌<ℚ◌}
use Rattle.exact_numbers.proofs.RationalLaws.{≤ℚ_refl, ≤ℚ_by, ≤ℚ_of_<ℚ, le_or_lt, not_both, +ℚ-≤ℚ, +ℚ_comm, zero-+ℚ, -ℚ_lem}
use Rattle.linear_program.specs.Linear.{Interval}
use Rattle.exact_numbers.specs.declared.dec.Dec.{Dec}
use Rattle.exact_numbers.specs.Values.{dec_value, order_of}
use Rattle.linear_program.specs.Intervals.{interval_of, AreOrdered, IsOrdered}
use Rattle.linear_program.specs.declared.interval.Interval.{Interval as Sides}
use Rattle.mps_model.specs.declared.kinds.RowKind.{RowKind}
use Rattle.mps_model.specs.declared.kinds.RowKind.TheVariants.{N, L, G, E}
use Rattle.mps_model.specs.Mps.{Mps, with_values, no_mps_row, at_row, rhs_at, row_sides, row_interval, column_interval, is_negative, size_of}
use Rattle.mps_program.specs.Decimals.{sides_from}
use Rattle.mps_program.specs.Faults.{both_sides, is_row_wide, is_column_empty, first_wide}
use Rattle.mps_program.specs.Program.{values_of, is_constraint, constraints}
use Rattle.mps_program.proofs.MinusLemmas.{neg_above, neg_below}
use Rattle.mps_program.proofs.PlaceLemmas.{all_places, none_passes}
use Rattle.mps_program.proofs.ReachLemmas.{negative_in, negative_out}
use Rattle.mps_program.proofs.SideLemmas.{sides_back, row_fits, rhs_fits, column_fits}

abbrev pub IsRising : Option ℚ → Option ℚ → Type 0
IsRising None u = Unit {0}
IsRising (Some l) None = Unit {0}
IsRising (Some l) (Some u) = l ≤ℚ u

ordered_by : (s : Sides) → IsRising (interval_of s).lower (interval_of s).upper → IsOrdered s
ordered_by s = by s.lo s.hi
  where
    by : (l u : Option Dec) → IsRising (option_map dec_value l) (option_map dec_value u) → AreOrdered l u
    by None u h = tt
    by (Some l) None h = tt
    by (Some l) (Some u) h = h

-- ---- rows
size_above : (r : ℚ) → zero_ℚ ≤ℚ size_of r
size_above r =
    ⊎_elim
    (λ (above : zero_ℚ ≤ℚ r). subst (λ b. zero_ℚ ≤ℚ cond b (neg_ℚ r) r) (sym (not_below above)) above)
    (λ (below : r <ℚ zero_ℚ). subst (λ b. zero_ℚ ≤ℚ cond b (neg_ℚ r) r) (sym (negative_in r below)) (neg_above r (≤ℚ_of_<ℚ r zero_ℚ below)))
    (le_or_lt zero_ℚ r)
  where
    not_below : zero_ℚ ≤ℚ r → is_negative r ≡ false
    not_below above = negative_out r (λ (below : r <ℚ zero_ℚ). not_both zero_ℚ r above below)

raised : (b s : ℚ) → zero_ℚ ≤ℚ s → b ≤ℚ (b +ℚ s)
raised b s h = ≤ℚ_by b (b +ℚ s) s h refl

lowered : (b s : ℚ) → s ≤ℚ zero_ℚ → (b +ℚ s) ≤ℚ b
lowered b s h = subst (λ x. x ≤ℚ b) (+ℚ_comm s b) (subst (λ y. (s +ℚ b) ≤ℚ y) (zero-+ℚ b) (+ℚ-≤ℚ s zero_ℚ b h))

pub row_rising : (kind : RowKind) (b : ℚ) (range : Option ℚ) → IsRising (row_sides kind b range).lower (row_sides kind b range).upper
row_rising N b range = tt
row_rising L b None = tt
row_rising L b (Some r) = subst (λ x. x ≤ℚ b) (sym (-ℚ_lem b (size_of r))) (lowered b (neg_ℚ (size_of r)) (neg_below (size_of r) (size_above r)))
row_rising G b None = tt
row_rising G b (Some r) = raised b (size_of r) (size_above r)
row_rising E b None = ≤ℚ_refl b
row_rising E b (Some r) =
    ⊎_elim
    (λ (above : zero_ℚ ≤ℚ r). subst Rises (sym (negative_out r (λ (below : r <ℚ zero_ℚ). not_both zero_ℚ r above below))) (raised b r above))
    (λ (below : r <ℚ zero_ℚ). subst Rises (sym (negative_in r below)) (lowered b r (≤ℚ_of_<ℚ r zero_ℚ below)))
    (le_or_lt zero_ℚ r)
  where
    Rises : Bool → Type 0
    Rises n = IsRising (cond {A = Interval} n (record { lower = Some (b +ℚ r); upper = Some b })
        (record { lower = Some b; upper = Some (b +ℚ r) })).lower
        (cond {A = Interval} n (record { lower = Some (b +ℚ r); upper = Some b })
        (record { lower = Some b; upper = Some (b +ℚ r) })).upper

pub row_ordered : (m : Mps Dec) (i : ℕ) → is_row_wide m i ≡ false → IsOrdered (sides_from (row_interval (values_of m) i))
unfolding with_values
row_ordered m i clean =
    let kind = (get_or m.rows i no_mps_row).kind in
    let b = rhs_at (values_of m) i in
    let range = at_row i (values_of m).ranges in
    ordered_by (sides_from (row_sides kind b range)) (subst (λ (s : Interval). IsRising s.lower s.upper)
    (sym (sides_back (row_sides kind b range) (row_fits kind b range (rhs_fits i m.rhs) clean)))
    (row_rising kind b range))

-- ---- columns
column_rising : (l u : Option ℚ) → both_sides is_gt l u ≡ false → IsRising l u
column_rising None u e = tt
column_rising (Some l) None e = tt
column_rising (Some l) (Some u) e = by (order_of l u) (int_ranks (l.top *ℤ pos u.bottom) (u.top *ℤ pos l.bottom)) e
  where
    by : (o : Ordering) → MatchOrdering o ((l.top *ℤ pos u.bottom) <ℤ (u.top *ℤ pos l.bottom))
        ((l.top *ℤ pos u.bottom) ≡ (u.top *ℤ pos l.bottom)) ((u.top *ℤ pos l.bottom) <ℤ (l.top *ℤ pos u.bottom))
        → is_gt o ≡ false → l ≤ℚ u
    by Less h f = record { crosswise = omega (arith, ints, h) }
    by Equal h f = record { crosswise = omega (arith, ints, h) }
    by Greater h f = let r = f in cc

pub column_ordered : (m : Mps Dec) (j : ℕ) → is_column_empty m j ≡ false → IsOrdered (sides_from (column_interval (values_of m) j))
unfolding with_values
column_ordered m j clean =
    let s = column_interval (values_of m) j in
    ordered_by (sides_from s) (subst (λ (t : Interval). IsRising t.lower t.upper) (sym (sides_back s (column_fits j m.bounds))) (column_rising s.lower s.upper clean))

-- ---- all constraints, where no range is out of reach
module _ (m : Mps Dec) (narrow : first_wide m ≡ None) where
  not_wide : (i : ℕ) → i < length m.rows → is_row_wide m i ≡ false
  not_wide i lt = none_passes (is_row_wide m) (length m.rows) narrow i lt

  pub row_back : (i : ℕ) → i < length m.rows → interval_of (sides_from (row_interval (values_of m) i)) ≡ row_interval (values_of m) i
  unfolding with_values
  row_back i lt = sides_back (row_interval (values_of m) i) (row_fits (get_or m.rows i no_mps_row).kind (rhs_at (values_of m) i) (at_row i (values_of m).ranges) (rhs_fits i m.rhs) (not_wide i lt))

  pub rows_ordered : All IsOrdered (map (λ i. sides_from (row_interval (values_of m) i)) (constraints m.rows))
  unfolding constraints
  rows_ordered =
      All-map IsOrdered (λ i. sides_from (row_interval (values_of m) i)) (constraints m.rows)
      (all_places (λ i. IsOrdered (sides_from (row_interval (values_of m) i))) (is_constraint m.rows) (length m.rows) (λ i lt e. row_ordered m i (not_wide i lt)))
