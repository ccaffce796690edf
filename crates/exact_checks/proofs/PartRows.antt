-- The rows of a part, and loops over the numbers of a leaf.
use Rattle.std.proofs.Common.{◌≡◌, ℕ, zero, suc, ◌+◌, ◌<◌, ◌≤◌, ◌⊎◌, inl, inr, ◌∙◌, sym, ap, ap₂, subst, refl, ⊎_elim}
use Rattle.std.proofs.Common.{List, [], ◌∷◌, ◌++◌, length, length-append, drop, get_or, Bool, true, false, Option, Some}
use Rattle.std.proofs.Common.{None}
use Rattle.std.specs.Prelude.{if◌then◌else◌, option_and_then, slice_get}
use Rattle.std.specs.Option.{option_or}
use Rattle.std.proofs.lemmas.List.{drop_all}
use Rattle.exact_numbers.specs.Fits.{fits}
use Rattle.exact_numbers.specs.Functions.{is_zero}
use Rattle.exact_numbers.specs.Rational.{ℚ, whole, zero_ℚ}
use Rattle.linear_program.specs.Linear.{Form, Linear, row_at, row_count, value_at}
use Rattle.certificates.specs.Checked.{fitting, less_product, run}
use Rattle.certificates.specs.Points.{Numbers}
use Rattle.certificates.specs.Verdict.{Fault as Cause, first_fault, has_needed, reduced_cost, row_part, row_part_of, row_side_missing, side_fault}
use Rattle.exact_numbers.specs.Values.{frac_value}
use Rattle.exact_numbers.proofs.Zeros.{fits_zero}
use Rattle.linear_program.specs.Intervals.{interval_of}
use Rattle.linear_program.specs.Coefs.{coef_in}
use Rattle.linear_program.specs.Numbers.{Pair, spread, number_value}
use Rattle.linear_program.proofs.ListLemmas.{rest_of}
use Rattle.exact_checks.specs.declared.program.Program.{Program}
use Rattle.exact_checks.specs.declared.costs.Costs.{Costs}
use Rattle.exact_checks.specs.declared.form.Row.{Row}
use Rattle.exact_checks.specs.Built.{AreWithin}
use Rattle.exact_checks.specs.Leaves.{AreIndices, HasRows, cost_act, lessened, run_pairs}
use Rattle.exact_checks.specs.Sums.{AreKept, cost_count, cost_in}
use Rattle.exact_checks.specs.Terms.{AreTerms}
use Rattle.exact_checks.proofs.InRange.{less_nothing, less_product_fits}
use Rattle.exact_checks.proofs.Paired.{IsStillAtZero, all_first, all_paired, first_in, pair_within, pairs_next, run_pairs_none, spread_at}

-- ---- rows
append_cases : {X : Type 0} (xs ys : List X) (i : ℕ) (x : X) → slice_get (xs ++ ys) i ≡ Some x → (slice_get xs i ≡ Some x) ⊎ ((j : ℕ) × (slice_get ys j ≡ Some x))
append_cases [] ys i x h = inr (i, h)
append_cases (z ∷ xs) ys zero x h = inl h
append_cases (z ∷ xs) ys (suc i) x h = append_cases xs ys i x h

pub terms_of_row : (c : Program) (planes : List Row) (i : ℕ) (r : Row) → AreWithin (length c.lower.items) planes
    → slice_get (c.rows.items ++ planes) i ≡ Some r → AreTerms 0 (length c.lower.items) r.body.terms
terms_of_row c planes i r fine at =
    ⊎_elim
    (λ (a : slice_get c.rows.items i ≡ Some r). c.sound.rows_terms i r a)
    (λ (b : (j : ℕ) × (slice_get planes j ≡ Some r)). fine b.0 r b.1)
    (append_cases c.rows.items planes i r at)

-- ---- steps by the number of a row
abbrev pub side_act : Linear → ℕ → ℚ → Option Cause
side_act f i v = if has_needed f.maximise v (row_at f i).side then None else Some (row_side_missing i)

side_still : (f : Linear) (i : ℕ) → side_act f i zero_ℚ ≡ None
unfolding whole
side_still f i = refl

abbrev pub row_act : Linear → ℚ → ℕ → ℚ → Option ℚ
row_act f s i v = row_part_of f.maximise (row_at f i).side (row_at f i).body.constant s v

row_still : (f : Linear) → IsStillAtZero (row_act f) (λ s. Unit {0})
unfolding whole
row_still f = record { still = λ s i g. refl; kept = λ s r i v g e. tt }

cost_still : (f : Linear) (j : ℕ) → IsStillAtZero (cost_act f j) (λ s. fits s ≡ true)
cost_still f j =
    record {
      still = λ s i g. still_by ((row_at f i).body.coefficient j) s g (is_zero ((row_at f i).body.coefficient j));
      kept = λ s r i v g e. kept_by ((row_at f i).body.coefficient j) s r v g (is_zero ((row_at f i).body.coefficient j)) (fits v) e;
    }
  where
    still_by : (a s : ℚ) → fits s ≡ true → (b : Bool) → (if b then Some s else option_and_then (λ w. less_product s w a) (fitting zero_ℚ)) ≡ Some s
    still_by a s g true = refl
    still_by a s g false = ap (λ t. option_and_then (λ w. less_product s w a) (if t then Some zero_ℚ else None)) fits_zero ∙ less_nothing s a g

    kept_by : (a s r v : ℚ) → fits s ≡ true → (b t : Bool) → (if b then Some s else option_and_then (λ w. less_product s w a) (if t then Some v else None)) ≡ Some r → fits r ≡ true
    kept_by a s r v g true t e = subst (λ x. fits x ≡ true) (let same : s ≡ r = cc in same) g
    kept_by a s r v g false true e = less_product_fits s v a r g e
    kept_by a s r v g false false e = absurd (cc)

-- ---- a program over such rows
module _ (c : Program) (planes : List Row) (f : Linear) (held : HasRows c planes f) where
  rows_counted : length c.rows.items + length planes ≡ row_count f
  rows_counted = sym (length-append c.rows.items planes) ∙ sym held.rows

  module _ (ps : List Pair) (ok : AreIndices 0 (length c.rows.items + length planes) ps) where
    fine_of : AreIndices 0 (row_count f) ps
    fine_of = subst (λ n. AreIndices 0 n ps) rows_counted ok

    abbrev pub numbers : Numbers
    numbers = value_at (spread (row_count f) ps)

    pub sides_paired : first_fault (side_fault f numbers) (row_count f) ≡ first_in (side_act f) ps
    sides_paired = all_first (side_act f) (side_still f) numbers (row_count f) ps fine_of (λ i l. spread_at (row_count f) ps i l)

    pub total_paired : (s : ℚ) → run (row_part f numbers) s (row_count f) ≡ run_pairs (row_act f) (Some s) ps
    total_paired s = all_paired (row_act f) (λ r. Unit {0}) (row_still f) numbers s (row_count f) ps fine_of (λ i l. spread_at (row_count f) ps i l) tt

    pub cost_paired : (j : ℕ) → fits (f.objective.coefficient j) ≡ true → reduced_cost f numbers j ≡ run_pairs (cost_act f j) (Some (f.objective.coefficient j)) ps
    unfolding reduced_cost
    cost_paired j fit = all_paired (cost_act f j) (λ s. fits s ≡ true) (cost_still f j) numbers (f.objective.coefficient j) (row_count f) ps fine_of (λ i l. spread_at (row_count f) ps i l) fit

  -- ---- one row
  module _ (i : ℕ) (r : Row) (at : slice_get (c.rows.items ++ planes) i ≡ Some r) where
    pub side_tested : (max b : Bool) (v : ℚ) → f.maximise ≡ max → b ≡ has_needed max v (interval_of r.side) → side_act f i v ≡ (if b then None else Some (row_side_missing i))
    side_tested max b v sense e =
        ap (λ t. if t then None else Some (row_side_missing i))
        (ap (has_needed f.maximise v) (held.row i r at).side ∙ ap (λ m. has_needed m v (interval_of r.side)) sense ∙ sym e)

    pub row_summed : (max : Bool) (s v : ℚ) (o : Option ℚ) → f.maximise ≡ max → o ≡ row_part_of max (interval_of r.side) (frac_value r.body.constant) s v → row_act f s i v ≡ o
    row_summed max s v o sense e =
        ap₂ (λ t (b : Form). row_part_of f.maximise t b.constant s v) (held.row i r at).side (held.row i r at).body
        ∙ ap (λ m. row_part_of m (interval_of r.side) (frac_value r.body.constant) s v) sense
        ∙ sym e

    pub cost_lessened : (v : ℚ) (w : Option ℚ) (j : ℕ) (o : Option ℚ) → w ≡ fitting v → option_and_then (λ s. cost_act f j s i v) o ≡ option_and_then (lessened w (coef_in r.body.terms j)) o
    cost_lessened v w j o e =
        ap (λ (b : Form). option_and_then (lessened (fitting v) (b.coefficient j)) o) (held.row i r at).body
        ∙ ap (λ x. option_and_then (lessened x (coef_in r.body.terms j)) o) (sym e)

-- ---- the loop over the sides
pub record OnSides (c : Program) (planes : List Row) (max : Bool) (ps : List Pair) (k : ℕ) : Type 0 where
  from : ℕ
  fine : AreIndices from (length c.rows.items + length planes) (drop k ps)
  rest : (f : Linear) → HasRows c planes f → f.maximise ≡ max → first_fault (side_fault f (value_at (spread (row_count f) ps))) (row_count f) ≡ first_in (side_act f) (drop k ps)

module _ (c : Program) (planes : List Row) (max : Bool) (ps : List Pair) where
  pub sides_begin : AreIndices 0 (length c.rows.items + length planes) ps → OnSides c planes max ps 0
  sides_begin ok = record { from = 0; fine = ok; rest = λ f held sense. sides_paired c planes f held ps ok }

  module _ (k : ℕ) (on : OnSides c planes max ps k) where
    pub sides_end : length ps ≤ k → (f : Linear) → HasRows c planes f → f.maximise ≡ max → None ≡ first_fault (side_fault f (value_at (spread (row_count f) ps))) (row_count f)
    sides_end l f held sense = sym (on.rest f held sense ∙ ap (first_in (side_act f)) (drop_all k ps l))

    module _ (p : Pair) (l : k < length ps) (is : p ≡ get_or ps k p) where
      pub sides_within : p.0 < length c.rows.items + length planes
      sides_within = pair_within (length c.rows.items + length planes) ps k on.from on.fine p l is

      module _ (r : Row) (at : slice_get (c.rows.items ++ planes) p.0 ≡ Some r) (b : Bool) (e : b ≡ has_needed max (number_value p.1) (interval_of r.side)) where
        side_first : (f : Linear) → HasRows c planes f → f.maximise ≡ max
            → first_fault (side_fault f (value_at (spread (row_count f) ps))) (row_count f)
            ≡ option_or (if b then None else Some (row_side_missing p.0)) (first_in (side_act f) (drop (k + 1) ps))
        side_first f held sense =
            on.rest f held sense
            ∙ ap (first_in (side_act f)) (rest_of ps k p l is)
            ∙ ap (λ o. option_or o (first_in (side_act f) (drop (k + 1) ps))) (side_tested c planes f held p.0 r at max b (number_value p.1) sense e)

        pub sides_stop : b ≡ false → (f : Linear) → HasRows c planes f → f.maximise ≡ max → Some (row_side_missing p.0) ≡ first_fault (side_fault f (value_at (spread (row_count f) ps))) (row_count f)
        sides_stop no_side f held sense = sym (side_first f held sense ∙ ap (λ t. option_or (if t then None else Some (row_side_missing p.0)) (first_in (side_act f) (drop (k + 1) ps))) no_side)

        pub sides_go_on : b ≡ true → OnSides c planes max ps (k + 1)
        sides_go_on has_side =
            record {
              from = suc p.0;
              fine = pairs_next (length c.rows.items + length planes) ps k on.from on.fine p l is;
              rest = λ f held sense. side_first f held sense ∙ ap (λ t. option_or (if t then None else Some (row_side_missing p.0)) (first_in (side_act f) (drop (k + 1) ps))) has_side;
            }

-- ---- the loop over the parts of the rows
pub record OnTotal (c : Program) (planes : List Row) (max : Bool) (start : ℚ) (ps : List Pair) (k : ℕ) (s : ℚ) : Type 0 where
  from : ℕ
  fine : AreIndices from (length c.rows.items + length planes) (drop k ps)
  rest : (f : Linear) → HasRows c planes f → f.maximise ≡ max → run (row_part f (value_at (spread (row_count f) ps))) start (row_count f) ≡ run_pairs (row_act f) (Some s) (drop k ps)

module _ (c : Program) (planes : List Row) (max : Bool) (start : ℚ) (ps : List Pair) where
  abbrev RowsTotal : Linear → Option ℚ
  RowsTotal f = run (row_part f (value_at (spread (row_count f) ps))) start (row_count f)

  pub rows_begin : AreIndices 0 (length c.rows.items + length planes) ps → OnTotal c planes max start ps 0 start
  rows_begin ok = record { from = 0; fine = ok; rest = λ f held sense. total_paired c planes f held ps ok start }

  module _ (k : ℕ) (s : ℚ) (on : OnTotal c planes max start ps k s) where
    pub rows_end : length ps ≤ k → (f : Linear) → HasRows c planes f → f.maximise ≡ max → Some s ≡ run (row_part f (value_at (spread (row_count f) ps))) start (row_count f)
    rows_end l f held sense = sym (on.rest f held sense ∙ ap (run_pairs (row_act f) (Some s)) (drop_all k ps l))

    module _ (p : Pair) (l : k < length ps) (is : p ≡ get_or ps k p) where
      pub rows_within : p.0 < length c.rows.items + length planes
      rows_within = pair_within (length c.rows.items + length planes) ps k on.from on.fine p l is

      module _ (r : Row) (at : slice_get (c.rows.items ++ planes) p.0 ≡ Some r) (o : Option ℚ) (e : o ≡ row_part_of max (interval_of r.side) (frac_value r.body.constant) s (number_value p.1)) where
        row_first : (f : Linear) → HasRows c planes f → f.maximise ≡ max → RowsTotal f ≡ run_pairs (row_act f) o (drop (k + 1) ps)
        row_first f held sense =
            on.rest f held sense
            ∙ ap (run_pairs (row_act f) (Some s)) (rest_of ps k p l is)
            ∙ ap (λ x. run_pairs (row_act f) x (drop (k + 1) ps)) (row_summed c planes f held p.0 r at max s (number_value p.1) o sense e)

        pub rows_stop : o ≡ None → (f : Linear) → HasRows c planes f → f.maximise ≡ max → None ≡ run (row_part f (value_at (spread (row_count f) ps))) start (row_count f)
        rows_stop none f held sense = sym (row_first f held sense ∙ ap (λ x. run_pairs (row_act f) x (drop (k + 1) ps)) none ∙ run_pairs_none (row_act f) (drop (k + 1) ps))

        pub rows_go_on : (t : ℚ) → o ≡ Some t → OnTotal c planes max start ps (k + 1) t
        rows_go_on t some =
            record {
              from = suc p.0;
              fine = pairs_next (length c.rows.items + length planes) ps k on.from on.fine p l is;
              rest = λ f held sense. row_first f held sense ∙ ap (λ x. run_pairs (row_act f) x (drop (k + 1) ps)) some;
            }

-- ---- the loop over the costs
pub record OnTaken (c : Program) (planes : List Row) (ps : List Pair) (old now : Costs) (k : ℕ) : Type 0 where
  pub kept : AreKept now
  pub count : cost_count now ≡ cost_count old
  from : ℕ
  fine : AreIndices from (length c.rows.items + length planes) (drop k ps)
  rest : (f : Linear) → HasRows c planes f → (j : ℕ) → run_pairs (cost_act f j) (cost_in now j) (drop k ps) ≡ run_pairs (cost_act f j) (cost_in old j) ps

pub taken_begins : (c : Program) (planes : List Row) (ps : List Pair) (old : Costs) → AreKept old → AreIndices 0 (length c.rows.items + length planes) ps → OnTaken c planes ps old old 0
taken_begins c planes ps old kept ok = record { kept = kept; count = refl; from = 0; fine = ok; rest = λ f held j. refl }

module _ (c : Program) (planes : List Row) (ps : List Pair) (old now : Costs) (k : ℕ) (on : OnTaken c planes ps old now k) where
  pub taken_ends : length ps ≤ k → (f : Linear) → HasRows c planes f → (j : ℕ) → cost_in now j ≡ run_pairs (cost_act f j) (cost_in old j) ps
  taken_ends l f held j = sym (ap (run_pairs (cost_act f j) (cost_in now j)) (drop_all k ps l)) ∙ on.rest f held j

  module _ (p : Pair) (l : k < length ps) (is : p ≡ get_or ps k p) where
    pub taken_within : p.0 < length c.rows.items + length planes
    taken_within = pair_within (length c.rows.items + length planes) ps k on.from on.fine p l is

    pub taken_goes_on : (r : Row) → slice_get (c.rows.items ++ planes) p.0 ≡ Some r → (w : Option ℚ) → w ≡ fitting (number_value p.1) → (next : Costs) → AreKept next → cost_count next ≡ cost_count now
        → ((j : ℕ) → cost_in next j ≡ option_and_then (lessened w (coef_in r.body.terms j)) (cost_in now j))
        → OnTaken c planes ps old next (k + 1)
    taken_goes_on r at w e next fits size h =
        record {
          kept = fits;
          count = size ∙ on.count;
          from = suc p.0;
          fine = pairs_next (length c.rows.items + length planes) ps k on.from on.fine p l is;
          rest = λ f held j.
              ap (λ o. run_pairs (cost_act f j) o (drop (k + 1) ps)) (h j ∙ sym (cost_lessened c planes f held p.0 r at (number_value p.1) w j (cost_in now j) e))
              ∙ sym (ap (run_pairs (cost_act f j) (cost_in now j)) (rest_of ps k p l is))
              ∙ on.rest f held j;
        }
