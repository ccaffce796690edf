-- The rows and columns of a program at an index.
use Rattle.std.proofs.Common.{◌≡◌, ℕ, ◌+◌, ◌<◌, ◌≤◌, ⊎_elim, ◌∙◌, sym, ap, ap₂, subst, refl, arith, List, length, get_or, Option, Some, None, Bool}
use Rattle.std.specs.Prelude.{slice_get, if◌then◌else◌, option_and_then, zero, suc}
use Rattle.std.specs.Global.{Vec}
use Rattle.std.specs.Option.{option_map_or}
use Rattle.std.proofs.lemmas.Bool.{cases_lt}
use Rattle.std.proofs.lemmas.List.{get_or_past}
use Rattle.std.proofs.lemmas.Option.{slice_get-get_or, slice_get_past, slice_get_within}
use Rattle.exact_numbers.specs.Rational.{ℚ}
use Rattle.linear_program.specs.Linear.{Form, Interval, Row as LinearRow, Variable, Linear, unbounded, variable_at, variable_count, no_variable}
use Rattle.certificates.specs.Checked.{fitting, less_product, run}
use Rattle.certificates.specs.Points.{Numbers, Box, bounds_of}
use Rattle.linear_program.specs.Linear.{zero_form, no_row, row_count, row_at}
use Rattle.certificates.specs.Verdict.{has_needed, row_side_missing, side_fault, cost_step, reduced_cost, cost_check}
use Rattle.certificates.specs.Verdict.{cost_fault, row_part_of, row_part, cost_part_of, cost_part, Fault as Cause}
use Rattle.certificates.specs.Verdict.{bound_broken, row_check, row_fault, bound_fault, run_form, is_inside}
use Rattle.exact_numbers.specs.Functions.{is_zero}
use Rattle.exact_numbers.specs.declared.dec.Dec.{Dec}
use Rattle.exact_numbers.specs.declared.frac.Frac.{Frac}
use Rattle.exact_numbers.specs.Values.{dec_value, frac_value}
use Rattle.linear_program.specs.Elements.{elements_from}
use Rattle.linear_program.specs.Intervals.{interval_of, is_whole_kind}
use Rattle.linear_program.proofs.Elements.{elements_at, elements_length}
use Rattle.linear_program.specs.declared.kind.Kind.TheVariants.{Continuous}
use Rattle.linear_program.specs.Coefs.{Term, coef_in}
use Rattle.exact_checks.specs.declared.form.Row.{Row}
use Rattle.exact_checks.specs.declared.columns.Columns.{Columns}
use Rattle.exact_checks.specs.declared.program.Program.{Program}
use Rattle.exact_checks.specs.declared.verdict.Goal.{Goal}
use Rattle.exact_checks.specs.declared.verdict.Goal.TheVariants.{Objective, Zero}
use Rattle.exact_checks.specs.InsideCosts.{column_step, column_cost}
use Rattle.exact_checks.specs.Programs.{form_of, body_in, side_in, side_listed, bounds_in, program_row, program_variable, program_value, program_of, asked, goal_form, goal_cost}
use Rattle.exact_checks.specs.Terms.{AreTerms, side_value, values_of}
use Rattle.exact_checks.proofs.Points.{point_of, point_at, count_of_values}

abbrev constant_part : Form → ℚ
constant_part b = b.constant

-- ---- counts
pub rows_counted : (c : Program) → row_count (program_value c) ≡ length c.rows.items
unfolding program_value
rows_counted c = elements_length (program_row c.rows.items) 0 (length c.rows.items)

pub variables_counted : (c : Program) → variable_count (program_value c) ≡ length c.lower.items
unfolding program_value
variables_counted c = elements_length (program_variable c.lower.items c.upper.items c.kinds.items) 0 (length c.lower.items)

-- ---- elements
element_at : {A : Type 0} (g : ℕ → A) (n i : ℕ) (d : A) → i < n → get_or (elements_from g 0 n) i d ≡ g i
element_at g n i d l = let same : 0 + i ≡ i = omega arith in elements_at g 0 n i d l ∙ ap g same

-- an element that a loop goes over
pub item_at : {X : Type 0} (xs items : List X) (i : ℕ) (x : X) → items ≡ xs → i < length items → x ≡ get_or items i x → slice_get xs i ≡ Some x
item_at xs items i x same l is = subst (λ ys. slice_get ys i ≡ Some x) same (slice_get-get_or items i x l ∙ ap Some (sym is))

body_listed : (rows : List Row) (i : ℕ) (r : Row) → slice_get rows i ≡ Some r → body_in rows i ≡ form_of r.body
unfolding body_in
body_listed rows i r h = ap (λ o. option_map_or (λ (r : Row). form_of r.body) o zero_form) h

side_of_row : (rows : List Row) (i : ℕ) (r : Row) → slice_get rows i ≡ Some r → side_in rows i ≡ interval_of r.side
unfolding side_in
side_of_row rows i r h = ap (λ o. option_map_or (λ (r : Row). interval_of r.side) o unbounded) h

module _ (c : Program) (i : ℕ) (r : Row) (at : slice_get c.rows.items i ≡ Some r) where
  row_here : get_or (program_value c).rows i no_row ≡ program_row c.rows.items i
  unfolding program_value
  row_here = element_at (program_row c.rows.items) (length c.rows.items) i no_row (slice_get_within c.rows.items i r at)

  pub body_here : (row_at (program_value c) i).body ≡ form_of r.body
  body_here = ap (λ (x : LinearRow). x.body) row_here ∙ body_listed c.rows.items i r at

  pub side_here : (row_at (program_value c) i).side ≡ interval_of r.side
  side_here = ap (λ (x : LinearRow). x.side) row_here ∙ side_of_row c.rows.items i r at

pub bound_here : (c : Program) (j : ℕ) → j < length c.lower.items → bounds_of (program_value c) j ≡ bounds_in c.lower.items c.upper.items j
unfolding program_value
bound_here c j l = ap (λ (x : Variable). x.bound) (element_at (program_variable c.lower.items c.upper.items c.kinds.items) (length c.lower.items) j no_variable l)

pub whole_here : (c : Program) (j : ℕ) → j < length c.lower.items → is_whole_kind (get_or c.kinds.items j Continuous) ≡ (variable_at (program_value c) j).whole
unfolding program_value
whole_here c j l = sym (ap (λ (x : Variable). x.whole) (element_at (program_variable c.lower.items c.upper.items c.kinds.items) (length c.lower.items) j no_variable l))

past_bound : (c : Program) (j : ℕ) → length c.lower.items ≤ j → bounds_in c.lower.items c.upper.items j ≡ bounds_of (program_value c) j
unfolding program_value side_listed
past_bound c j l =
    ap₂ (λ a b. record { lower = option_map_or side_value a None; upper = option_map_or side_value b None })
    (slice_get_past c.lower.items j l)
    (slice_get_past c.upper.items j (subst (λ n. n ≤ j) (sym c.uppers) l))
    ∙ ap (λ (x : Variable). x.bound) (sym (get_or_past (program_value c).variables j no_variable (subst (λ n. n ≤ j) (sym (variables_counted c)) l)))

-- the bounds of the program are the lists' own, also past the last variable
pub own_bounds : (c : Program) → bounds_in c.lower.items c.upper.items ≡ bounds_of (program_value c)
own_bounds c = λ q j. by j q
  where
    by : (j : ℕ) → bounds_in c.lower.items c.upper.items j ≡ bounds_of (program_value c) j
    by j = ⊎_elim (λ (l : j < length c.lower.items). sym (bound_here c j l)) (past_bound c j) (cases_lt j (length c.lower.items))

pub side_at_index : (xs : List (Option Dec)) (j : ℕ) (o : Option Dec) → slice_get xs j ≡ Some o → side_listed xs j ≡ side_value o
unfolding side_listed
side_at_index xs j o h = ap (λ v. option_map_or side_value v None) h

-- the bounds that are read from two lists
pub side_read : (xs : List (Option Dec)) (j : ℕ) (o : Option Dec) → j < length xs → o ≡ get_or xs j o → side_value o ≡ side_listed xs j
side_read xs j o l e = sym (side_at_index xs j o (slice_get-get_or xs j o l ∙ ap Some (sym e)))

pub bounds_read : (lo hi : List (Option Dec)) (j : ℕ) (a b : Option Dec) → j < length lo → a ≡ get_or lo j a
    → j < length hi → b ≡ get_or hi j b → interval_of (record { lo = a; hi = b }) ≡ bounds_in lo hi j
bounds_read lo hi j a b l e k f = ap₂ (λ v w. record { lower = v; upper = w }) (side_read lo j a l e) (side_read hi j b k f)

-- ---- the rows at a point
module _ (c : Program) (xs : List Dec) (len : length xs ≡ length c.lower.items) (i : ℕ) (r : Row) (at : slice_get c.rows.items i ≡ Some r) where
  pub row_terms : AreTerms 0 (length xs) r.body.terms
  row_terms = subst (λ n. AreTerms 0 n r.body.terms) (sym len) (c.sound.rows_terms i r at)

  pub row_fault_is : (o : Option ℚ) (f : Option Cause) → o ≡ run_form (length xs) (form_of r.body) (point_of xs)
      → f ≡ row_check i (interval_of r.side) o → f ≡ row_fault (program_value c) (point_of xs) i
  unfolding row_fault
  row_fault_is o f e h =
      h
      ∙ ap₂ (row_check i) (sym (side_here c i r at))
      (e ∙ ap₂ (λ n b. run_form n b (point_of xs)) (len ∙ sym (variables_counted c)) (sym (body_here c i r at)))

module _ (c : Program) (xs : List Dec) (len : length xs ≡ length c.lower.items) (j : ℕ) (d : Dec) (l : j < length xs) (is : d ≡ get_or xs j d) where
  pub bound_fault_is : (i : Interval) (b : Bool) → i ≡ bounds_in c.lower.items c.upper.items j
      → b ≡ is_inside (dec_value d) i → (if b then None else Some (bound_broken j))
      ≡ bound_fault (program_value c) (point_of xs) j
  unfolding bound_fault
  bound_fault_is i b h e =
      ap (λ t. if t then None else Some (bound_broken j))
      (e ∙ ap₂ is_inside (sym (point_at xs j d l is)) (h ∙ sym (bound_here c j (subst (λ n. j < n) len l))))

-- ---- the duals
module _ (c : Program) (goal : Goal) (max : Bool) (same_sense : max ≡ (asked goal (program_value c)).maximise)
    (ys : List Dec) (i : ℕ) (r : Row) (at : slice_get c.rows.items i ≡ Some r) (d : Dec) (l : i < length ys)
    (is : d ≡ get_or ys i d) where
  pub side_fault_is : (b : Bool) → b ≡ has_needed max (dec_value d) (interval_of r.side) → (if b then None else Some (row_side_missing i)) ≡ side_fault (asked goal (program_value c)) (point_of ys) i
  side_fault_is b e =
      ap (λ t. if t then None else Some (row_side_missing i))
      (e ∙ ap (λ m. has_needed m (dec_value d) (interval_of r.side)) same_sense ∙ ap₂ (has_needed (asked goal (program_value c)).maximise) (sym (point_at ys i d l is)) (sym (side_here c i r at)))

  -- the part of a row in the bound
  pub row_part_is : (s : ℚ) (o : Option ℚ) → o ≡ row_part_of max (interval_of r.side) (frac_value r.body.constant) s (dec_value d) → o ≡ row_part (asked goal (program_value c)) (point_of ys) s i
  row_part_is s o e =
      e
      ∙ ap (λ m. row_part_of m (interval_of r.side) (frac_value r.body.constant) s (dec_value d)) same_sense
      ∙ ap (λ v. row_part_of (asked goal (program_value c)).maximise (interval_of r.side) (frac_value r.body.constant) s v) (sym (point_at ys i d l is))
      ∙ ap₂ (λ t b. row_part_of (asked goal (program_value c)).maximise t (constant_part b) s (point_of ys i)) (sym (side_here c i r at)) (sym (body_here c i r at))

-- runs whose steps agree
and_then_alike : (f g : ℚ → Option ℚ) (o : Option ℚ) → ((s : ℚ) → f s ≡ g s) → option_and_then f o ≡ option_and_then g o
and_then_alike f g None h = refl
and_then_alike f g (Some s) h = h s

run_same : (f g : ℚ → ℕ → Option ℚ) (start : ℚ) (n : ℕ) → ((s : ℚ) (i : ℕ) → i < n → f s i ≡ g s i) → run f start n ≡ run g start n
unfolding run
run_same f g start zero h = refl
run_same f g start (suc n) h = and_then_alike (λ s. f s n) (λ s. g s n) (run f start n) (λ s. h s n (omega arith))
    ∙ ap (option_and_then (λ s. g s n)) (run_same f g start n (λ s i l. h s i (omega arith)))

-- the coefficient of a variable in the goal
cost_is : (c : Columns) (goal : Goal) (j : ℕ) (v : Frac) → slice_get c.costs.items j ≡ Some v → goal_cost goal v ≡ (goal_form goal (form_of c.program.objective)).coefficient j
cost_is c Objective j v at = c.transposed.priced j v at
cost_is c Zero j v at = refl

body_within : (c : Program) (i : ℕ) → i < length c.rows.items → (row_at (program_value c) i).body ≡ body_in c.rows.items i
unfolding program_value
body_within c i l = ap (λ (x : LinearRow). x.body) (element_at (program_row c.rows.items) (length c.rows.items) i no_row l)

-- a column's coefficient in a row of the program
coefficient_is : (c : Columns) (i j : ℕ) (k : Vec Term) → slice_get c.columns.items j ≡ Some k → i < length c.program.rows.items → coef_in k.items i ≡ (row_at (program_of c) i).body.coefficient j
coefficient_is c i j k at l = c.transposed.same i j k at ∙ ap (λ (b : Form). b.coefficient j) (sym (body_within c.program i l))

module _ (c : Columns) (goal : Goal) (ys : List Dec) (len : length ys ≡ length c.program.rows.items) (j : ℕ) (k : Vec Term) (at : slice_get c.columns.items j ≡ Some k) where
  pub column_terms : AreTerms 0 (length ys) k.items
  column_terms = subst (λ n. AreTerms 0 n k.items) (sym len) (c.transposed.columns_terms j k at)

  module _ (v : Frac) (priced : slice_get c.costs.items j ≡ Some v) (start : ℚ) (starts : start ≡ goal_cost goal v) where
    cost_start : start ≡ (asked goal (program_of c)).objective.coefficient j
    unfolding program_value
    cost_start = starts ∙ cost_is c goal j v priced

    pub column_cost_is : column_cost start k.items (values_of ys) ≡ reduced_cost (asked goal (program_of c)) (point_of ys) j
    unfolding column_cost reduced_cost
    column_cost_is =
        run_same (column_step k.items (values_of ys)) (cost_step (asked goal (program_of c)) (point_of ys) j) start (length (values_of ys))
        (λ s i l. ap (λ a. if is_zero a then Some s else option_and_then (λ v. less_product s v a)
        (fitting (point_of ys i))) (coefficient_is c i j k at (subst (λ n. i < n) (count_of_values ys ∙ len) l)))
        ∙ ap₂ (λ a n. run (cost_step (asked goal (program_of c)) (point_of ys) j) a n) cost_start (count_of_values ys ∙ len ∙ sym (rows_counted c.program))

-- ---- the bounds against the reduced costs
module _ (f : Linear) (box : Box) (y : Numbers) (j : ℕ) (max : Bool) (sense : max ≡ f.maximise) (i : Interval) (bounds : i ≡ box j) where
  pub cost_fault_is : (o : Option ℚ) (g : Option Cause) → o ≡ reduced_cost f y j → g ≡ cost_check max i j o → g ≡ cost_fault f box y j
  unfolding cost_fault
  cost_fault_is o g e h = h ∙ ap₂ (λ m t. cost_check m t j o) sense bounds ∙ ap (cost_check f.maximise (box j) j) e

  pub cost_part_none : (s : ℚ) → None ≡ reduced_cost f y j → None ≡ cost_part f box y s j
  cost_part_none s e = ap (option_and_then (cost_part_of f.maximise (box j) s)) e

  pub cost_part_is : (s d : ℚ) (o : Option ℚ) → Some d ≡ reduced_cost f y j → o ≡ cost_part_of max i s d → o ≡ cost_part f box y s j
  cost_part_is s d o e h = h ∙ ap₂ (λ m t. cost_part_of m t s d) sense bounds ∙ ap (option_and_then (cost_part_of f.maximise (box j) s)) e

pub ruleset counts = (rows_counted, variables_counted)

pub ruleset column_costs = (column_cost_is, column_terms, item_at)

pub ruleset row_faults = (item_at, row_terms, row_fault_is, rows_counted)

pub ruleset cost_parts = (cost_part_none, cost_part_is, variables_counted)
