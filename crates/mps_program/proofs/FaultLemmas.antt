-- Which fault a program has.
use Rattle.std.proofs.Common.{◌≡◌, ℕ, ◌≤◌, ◌^◌, ◌∙◌, sym, ap, ap₂, subst, Bool, true, false, nat_lt, ◌||◌, if◌then◌else◌, List, length, get_or, Option, Some, None, Result, Ok, Err, IfErr, IsErrAnd}
use Rattle.std.proofs.lemmas.Bool.{ltb-false, or_parts}
use Rattle.std.specs.Option.{option_map, option_or}
use Rattle.std.specs.Ordering.{is_gt}
use Rattle.text_base.specs.Stopped.{IfFault}
use Rattle.text_base.specs.declared.stop.Stop.{Stop}
use Rattle.text_base.specs.declared.stop.Stop.TheVariants.{Fault, Memory}
use Rattle.linear_program.specs.Linear.{Interval}
use Rattle.exact_numbers.specs.declared.dec.Dec.{Dec}
use Rattle.linear_program.specs.Intervals.{interval_of, no_sides}
use Rattle.linear_program.specs.declared.interval.Interval.{Interval as Sides}
use Rattle.mps_model.specs.Mps.{Mps, with_values, column_interval, objective_row}
use Rattle.mps_model.specs.Valid.{entry_count}
use Rattle.mps_program.specs.declared.mps_fault.MpsFault.{MpsFault}
use Rattle.mps_program.specs.declared.mps_fault.MpsFault.TheVariants.{EmptyInterval, TooWide, TooLarge}
use Rattle.mps_program.specs.Faults.{is_too_large, is_column_empty, both_sides, first_wide, first_empty, first_wide_body, is_objective_wide, wide_objective, mps_fault}
use Rattle.mps_program.specs.Decimals.{sides_from}
use Rattle.mps_program.specs.Places.{places, first, listed}
use Rattle.mps_program.specs.Program.{values_of, constraints}
use Rattle.mps_program.proofs.FirstLemmas.{listed_at, listed_length, places_same}
use Rattle.mps_program.proofs.SideLemmas.{sides_back, column_fits}

-- ---- the first fault
module _ (m : Mps Dec) where
  abbrev numbers : Option ℕ
  numbers = option_or (first_wide_body m) (wide_objective m)

  pub large_fault : is_too_large m ≡ true → mps_fault m ≡ Some TooLarge
  unfolding mps_fault
  large_fault e = ap (λ b. if b then Some TooLarge else option_or (option_map TooWide (first_wide m)) (option_or (option_map EmptyInterval (first_empty m)) (option_map TooWide numbers))) e

  module _ (large : is_too_large m ≡ false) where
    pub wide_fault : (f : MpsFault) → option_map TooWide (first_wide m) ≡ Some f → mps_fault m ≡ Some f
    unfolding mps_fault
    wide_fault f h = ap₂ (λ b w. if b then Some TooLarge else option_or w (option_or (option_map EmptyInterval (first_empty m)) (option_map TooWide numbers))) large h

    module _ (wide : first_wide m ≡ None) where
      pub empty_fault : (j : ℕ) → first_empty m ≡ Some j → mps_fault m ≡ Some (EmptyInterval j)
      unfolding mps_fault
      empty_fault j h = λ p. if large p then Some TooLarge else option_or (option_map TooWide (wide p)) (option_or (option_map EmptyInterval (h p)) (option_map TooWide numbers))

      module _ (empty : first_empty m ≡ None) where
        pub numbers_fault : mps_fault m ≡ option_map TooWide numbers
        unfolding mps_fault
        numbers_fault = λ p. if large p then Some TooLarge else option_or (option_map TooWide (wide p)) (option_or (option_map EmptyInterval (empty p)) (option_map TooWide numbers))

        pub no_fault : first_wide_body m ≡ None → is_objective_wide m ≡ false → mps_fault m ≡ None
        no_fault body objective = numbers_fault ∙ ap₂ (λ o b. option_map TooWide (option_or o (if b then Some (objective_row m.rows) else None))) body objective

-- a stop tells the first fault, where what it tells is that
pub stopped : {A : Type 0} (P Q : MpsFault → Type 0) (r : Result A (Stop MpsFault)) (stop : Stop MpsFault)
    → ((f : MpsFault) → P f → Q f) → IfFault stop P → IsErrAnd r (λ y. y ≡ stop) → IfErr r (λ s. IfFault s Q)
stopped P Q (Ok x) stop h g i = tt
stopped P Q (Err y) stop h g i = subst (λ s. IfFault s Q) (sym i) (through stop g)
  where
    through : (s : Stop MpsFault) → IfFault s P → IfFault s Q
    through (Fault f) g = h f g
    through Memory g = tt

-- the first column whose sides cross is the first empty one
pub empty_is : (m : Mps Dec) (sides : List Sides) → sides ≡ listed (λ j. sides_from (column_interval (values_of m) j))
    (length m.columns) → first (places (λ j. both_sides is_gt (interval_of (get_or sides j no_sides)).lower
    (interval_of (get_or sides j no_sides)).upper) (length sides)) ≡ first_empty m
unfolding with_values
empty_is m sides are =
    let f : ℕ → Sides = λ j. sides_from (column_interval (values_of m) j) in
    let test : ℕ → Bool = λ j. both_sides is_gt (interval_of (get_or sides j no_sides)).lower (interval_of (get_or sides j no_sides)).upper in
    let size : length sides ≡ length m.columns = ap length are ∙ listed_length f (length m.columns) in
    ap (λ n. first (places test n)) size
    ∙ ap first (places_same test (is_column_empty m) (length m.columns)
    (λ j lt. ap (λ (s : Interval). both_sides is_gt s.lower s.upper)
    (ap interval_of (ap (λ ss. get_or ss j no_sides) are ∙ listed_at f (length m.columns) j no_sides lt)
    ∙ sides_back (column_interval (values_of m) j) (column_fits j m.bounds))))

-- ---- the size
pub large_is : (m : Mps Dec) (r c e : ℕ) (b : Bool) → r ≡ length (constraints m.rows) → c ≡ length m.columns
    → e ≡ entry_count m.columns → b ≡ (nat_lt (2 ^ 20) r || nat_lt (2 ^ 20) c || nat_lt (2 ^ 23) e) → b ≡ is_too_large m
unfolding is_too_large
large_is m r c e b p q s h = h ∙ (λ i. nat_lt (2 ^ 20) (p i) || nat_lt (2 ^ 20) (q i) || nat_lt (2 ^ 23) (s i))

pub record IsSmall (m : Mps Dec) : Type 0 where
  pub rows : length (constraints m.rows) ≤ 2 ^ 20
  pub columns : length m.columns ≤ 2 ^ 20
  pub entries : entry_count m.columns ≤ 2 ^ 23

pub is_small : (m : Mps Dec) → is_too_large m ≡ false → IsSmall m
unfolding is_too_large
is_small m e =
    let outer = or_parts (nat_lt (2 ^ 20) (length (constraints m.rows)) || nat_lt (2 ^ 20) (length m.columns)) (nat_lt (2 ^ 23) (entry_count m.columns)) e in
    let inner = or_parts (nat_lt (2 ^ 20) (length (constraints m.rows))) (nat_lt (2 ^ 20) (length m.columns)) outer.0 in
    record {
      rows = ltb-false (2 ^ 20) (length (constraints m.rows)) inner.0;
      columns = ltb-false (2 ^ 20) (length m.columns) inner.1;
      entries = ltb-false (2 ^ 23) (entry_count m.columns) outer.1;
    }
