-- Each binary variable of an imported file is within 0 and 1.
use Rattle.std.proofs.Common.{◌≡◌, ◌∙◌, ℕ, ◌+◌, ◌-◌, ◌<◌, ◌≤◌, Bool, true, false, not, ◌&&◌, List, [], ◌∷◌, ◌++◌}
use Rattle.std.proofs.Common.{length, get_or, refl, sym, subst, arith, Option, Some, None, if◌then◌else◌, pos, ap, ap₂}
use Rattle.std.proofs.Common.{ℤ, ◌*ℤ◌, ◌<ℤ◌}
use Rattle.std.specs.Prelude.{nat_lt, sum_by}
use Rattle.std.specs.List.{AllByRecursion}
use Rattle.std.specs.Option.{option_map}
use Rattle.std.specs.Ordering.{MatchOrdering, int_cmp, is_ge, is_le, is_lt}
use Rattle.std.specs.declared.cmp.Ordering.{Ordering}
use Rattle.std.specs.declared.cmp.Ordering.TheVariants.{Less, Equal, Greater}
use Rattle.std.specs.Cmp.{int_ranks}
use Rattle.std.proofs.lemmas.Int.{ints}
use Rattle.std.proofs.lemmas.Bool.{ltb-true, ltb-false, and_parts}
use Rattle.std.proofs.lemmas.List.{get_or-map, get_or_append_left, get_or-append_right}
use Rattle.std.proofs.lemmas.List.Sums.{sum_by-cons}
use Rattle.exact_numbers.specs.declared.dec.Dec.{Dec}
use Rattle.exact_numbers.specs.Values.{dec_value, order_of}
use Rattle.exact_numbers.specs.Rational.{ℚ, zero_ℚ, one_ℚ, whole}
use Rattle.linear_program.specs.Linear.{Interval}
use Rattle.linear_program.specs.Intervals.{interval_of}
use Rattle.linear_program.specs.declared.interval.Interval.{Interval as Sides}
use Rattle.linear_program.specs.declared.kind.Kind.{Kind}
use Rattle.linear_program.specs.declared.kind.Kind.TheVariants.{Continuous, Binary, Integer}
use Rattle.nl_model.specs.declared.kinds.Run.{Run}
use Rattle.nl_model.specs.InsideKinds.{run_of, kind_among}
use Rattle.nl_model.specs.Kinds.{variable_kind}
use Rattle.nl_model.proofs.KindRuns.{variable_kind_by_runs}
use Rattle.nl_lines.specs.Tests.{is_binary, is_within_unit}
use Rattle.mps_model.specs.Mps.{Mps, column_interval, with_values}
use Rattle.mps_program.specs.Decimals.{sides_from}
use Rattle.mps_import.specs.Import.{import_counts, import_of}
use Rattle.mps_program.specs.Kinds.{are_zero_to_one, is_whole, is_zero_to_one}
use Rattle.mps_import.specs.Variables.{order_of_columns}
use Rattle.mps_program.specs.Program.{values_of}
use Rattle.mps_import.proofs.MeaningLemmas.{order_length}
use Rattle.mps_program.proofs.PlaceLemmas.{all_places, first_part, not_both_ways, parts_length, second_part, third_part}
use Rattle.mps_program.proofs.SideLemmas.{column_fits, sides_back}

-- ---- the places of binary variables

abbrev total : List Run → ℕ
total gs = sum_by (λ (g : Run). g.size) gs

-- they follow runs of other kinds
binary_place : (gs : List Run) (b i j : ℕ) → AllByRecursion (λ (g : Run). is_binary g.kind ≡ false) gs
    → is_binary (kind_among (gs ++ run_of b Binary ∷ run_of i Integer ∷ []) j) ≡ true
    → (total gs ≤ j) × (j < total gs + b)
binary_place [] b i j others e = by (nat_lt j b) refl e
  where
    last : (c : Bool) → is_binary (if c then Integer else Continuous) ≡ false
    last true = refl
    last false = refl

    by : (c : Bool) → nat_lt j b ≡ c → is_binary (if c then Binary else kind_among (run_of i Integer ∷ []) (j - b)) ≡ true → (0 ≤ j) × (j < 0 + b)
    by true h e = let below = ltb-true j b h in (omega arith, omega (arith, below))
    by false h e = absurd (not_both_ways (is_binary (kind_among (run_of i Integer ∷ []) (j - b))) e (last (nat_lt (j - b) i)))
binary_place (g ∷ gs) b i j others e = by (nat_lt j g.size) refl (binary_place gs b i (j - g.size) others.1) e
  where
    Later : Type 0
    Later = is_binary (kind_among (gs ++ run_of b Binary ∷ run_of i Integer ∷ []) (j - g.size)) ≡ true → (total gs ≤ j - g.size) × (j - g.size < total gs + b)

    by : (c : Bool) → nat_lt j g.size ≡ c → Later → is_binary
        (if c then g.kind else kind_among (gs ++ run_of b Binary ∷ run_of i Integer ∷ []) (j - g.size)) ≡ true
        → (total (g ∷ gs) ≤ j) × (j < total (g ∷ gs) + b)
    by true h later e = absurd (not_both_ways (is_binary g.kind) e others.0)
    by false h later e =
        let above = ltb-false j g.size h in
        let rest = later e in
        let sum = sum_by-cons (λ (g : Run). g.size) g gs in
        (omega (arith, above, rest.0, sum), omega (arith, above, rest.1, sum))

module _ (m : Mps Dec) (j : ℕ) where
  abbrev column : ℕ
  column = get_or (order_of_columns m) j 0

  -- the column of a binary variable has both sides, from 0 to 1
  unit_column : is_binary (variable_kind (import_counts m) j) ≡ true → is_zero_to_one m column ≡ true
  unfolding import_counts order_of_columns
  unit_column e =
      let n = length m.columns in
      let w = is_whole m in
      let z = is_zero_to_one m in
      let firsts = first_part w z n in
      let seconds = second_part w z n in
      let thirds = third_part w z n in
      let b = length seconds in
      let i = length thirds in
      let c = n - 0 - b - i in
      let none : Kind → Run = run_of 0 in
      let before : List Run = none Continuous ∷ none Integer ∷ none Continuous ∷ none Integer ∷ none Continuous ∷ none Integer ∷ run_of c Continuous ∷ [] in
      let place = binary_place before b i j (refl, (refl, (refl, (refl, (refl, (refl, (refl, tt))))))) (sym (ap is_binary (variable_kind_by_runs (import_counts m) j)) ∙ e) in
      let size = parts_length w z n in
      let from : length firsts ≤ j = omega (arith, place.0, size) in
      let below : j - length firsts < length seconds = omega (arith, place.0, place.1, size) in
      let here = get_or-append_right firsts (seconds ++ thirds) (length firsts) j 0 refl from ∙ get_or_append_left seconds thirds 0 (j - length firsts) below in
      subst (λ k. z k ≡ true) (sym here) (and_parts (w (get_or seconds (j - length firsts) 0))
      (z (get_or seconds (j - length firsts) 0)) (all_places (λ k. w k && z k ≡ true) (λ k. w k && z k) n
      (λ k h e. e) (j - length firsts) 0 below)).1

-- ---- its sides

at_least : (l : ℚ) → is_ge (order_of l zero_ℚ) ≡ true → not (is_lt (order_of l (whole (pos 0)))) ≡ true
at_least l e = by (order_of l zero_ℚ) e
  where
    by : (o : Ordering) → is_ge o ≡ true → not (is_lt o) ≡ true
    by Less e = e
    by Equal e = e
    by Greater e = e

-- at most 1, where the two orders are those of two cross products
turned : (x y : ℤ) → is_le (int_cmp x y) ≡ true → not (is_lt (int_cmp y x)) ≡ true
turned x y e = by (int_cmp x y) (int_cmp y x) (int_ranks x y) (int_ranks y x) e
  where
    by : (o p : Ordering) → MatchOrdering o (x <ℤ y) (x ≡ y) (y <ℤ x) → MatchOrdering p (y <ℤ x) (y ≡ x) (x <ℤ y) → is_le o ≡ true → not (is_lt p) ≡ true
    by Less Less h k e = absurd (omega (arith, ints, h, k))
    by Equal Less h k e = absurd (omega (arith, ints, h, k))
    by Greater Less h k e = absurd (let r = e in cc)
    by o Equal h k e = refl
    by o Greater h k e = refl

within_unit : (s : Sides) → are_zero_to_one (interval_of s).lower (interval_of s).upper ≡ true → is_within_unit s ≡ true
within_unit s e = by s.lo s.hi e
  where
    by : (lo hi : Option Dec) → are_zero_to_one (option_map dec_value lo) (option_map dec_value hi) ≡ true → is_within_unit (record { lo = lo; hi = hi }) ≡ true
    by None hi e = absurd (let r = e in cc)
    by (Some lo) None e = absurd (let r = e in cc)
    by (Some lo) (Some hi) e =
        let both = and_parts (is_ge (order_of (dec_value lo) zero_ℚ)) (is_le (order_of (dec_value hi) one_ℚ)) e in
        let low = at_least (dec_value lo) both.0 in
        let high = turned ((dec_value hi).top *ℤ pos one_ℚ.bottom) (one_ℚ.top *ℤ pos (dec_value hi).bottom) both.1 in
        ap₂ ◌&&◌ low high

pub binary_within : (m : Mps Dec) (j : ℕ) (i : Sides) → j < (import_of m).counts.n_var
    → is_binary (variable_kind (import_of m).counts j) ≡ true → is_within_unit (get_or (import_of m).bounds j i) ≡ true
unfolding import_of with_values import_counts
binary_within m j i lt e =
    let k = get_or (order_of_columns m) j 0 in
    let s = column_interval (values_of m) k in
    let side : get_or (import_of m).bounds j i ≡ sides_from s = get_or-map (λ k. sides_from (column_interval (values_of m) k)) (order_of_columns m) j 0 i (omega (arith, lt, order_length m)) in
    let unit : is_zero_to_one m k ≡ true = unit_column m j e in
    subst (λ x. is_within_unit x ≡ true) (sym side) (within_unit (sides_from s) (subst (λ (x : Interval). are_zero_to_one x.lower x.upper ≡ true) (sym (sides_back s (column_fits k m.bounds))) unit))
