-- The written body of a file that can be written is taken, section by section, and says the file.
use Rattle.std.proofs.Common.{◌≡◌, ℕ, suc, ◌+◌, ◌^◌, ◌<◌, ◌≤◌, true, false, ℤ, ◌<ℤ◌, ◌≤ℤ◌, int_cmp, Ordering, Less}
use Rattle.std.proofs.Common.{Equal, Greater, List, [], ◌∷◌, length, get_or, All, refl, sym, ap, subst, arith, Option}
use Rattle.std.proofs.Common.{Some, None, ◌*◌, map, replicate, sum_by}
use Rattle.std.specs.Prelude.{IfSome}
use Rattle.std.specs.Cmp.{int_ranks}
use Rattle.std.specs.List.{AllByRecursion, slice_get}
use Rattle.std.specs.Ordering.{MatchOrdering, is_lt}
use Rattle.std.proofs.lemmas.Int.{ints}
use Rattle.std.proofs.lemmas.List.Elements.{All-get_or, recursion_from_All}
use Rattle.std.proofs.lemmas.Option.{slice_get_within, get_or_from_slice_get}
use Rattle.exact_numbers.specs.declared.dec.Dec.{Dec}
use Rattle.nl_model.specs.Trees.{Tree, tree_size}
use Rattle.nl_model.specs.declared.header_counts.Counts.{Counts}
use Rattle.linear_program.specs.declared.interval.Interval.{Interval}
use Rattle.nl_model.specs.File.{Term, File}
use Rattle.nl_model.specs.declared.objective.Objective.{Objective}
use Rattle.nl_model.specs.HeaderRules.{defined_count}
use Rattle.nl_model.specs.Kinds.{variable_kind}
use Rattle.nl_model.specs.Rules.{AreTermsBelow, IsTreeKnown, IsSuffix, most_terms, term_count}
use Rattle.linear_program.specs.Intervals.{AreOrdered, IsOrdered}
use Rattle.nl_lines.specs.Tests.{is_empty, is_binary, is_within_unit, all_column_counts}
use Rattle.round_trips.specs.Writable.{HasNodes, IsWritableSuffix, IsWritable}
use Rattle.round_trips.proofs.TreesTaken.{all_below, IsPlainDefinition, IsTreeReady, definitions_reached, body_size, objective_size, bodies_reached, objectives_reached, IsSized}
use Rattle.round_trips.proofs.LineSections.{AreUnits, sides_reached, bounds_reached, counts_of_columns, columns_reached, then_columns, columns_then}
use Rattle.round_trips.proofs.PairPieces.{IsTermBelow}
use Rattle.round_trips.proofs.PairSections.{suffixes_reached, true_or_none, duals_reached, primals_reached, rows_reached, terms_section, slopes_section}
use Rattle.nl_model.specs.Draft.{Draft, empty_draft}
use Rattle.nl_lines.specs.declared.awaited.Awaited.TheVariants.{Nothing}
use Rattle.nl_lines.specs.declared.head.Head.TheVariants.{Body, Definition as DefinitionHead}
use Rattle.nl_lines.specs.Pieces.{Piece, awaited_of, last_piece}
use Rattle.nl_lines.specs.Saying.{draft_of}
use Rattle.nl_writer.specs.Written.{body_lines}
use Rattle.round_trips.specs.InsideStandings.{rank, IsStanding}
use Rattle.round_trips.specs.InsideTaking.{IsTaken}
use Rattle.nl_model.proofs.Headers.{counts_of_header}
use Rattle.round_trips.proofs.StandingMore.{not_repeated, ranks_up, standing_up, same_standing, standing_as, reaches_then}
use Rattle.round_trips.proofs.NodesTaken.{definitions_in_range}

-- ---- lists

-- what holds of each holds of the i-th
at_all : {X : Type 0} (P : X → Type 0) (xs : List X) (i : ℕ) (x : X) → All P xs → slice_get xs i ≡ Some x → P x
at_all P xs i x h at = subst P (get_or_from_slice_get xs i x x at) (All-get_or P xs i x (slice_get_within xs i x at) h)

-- ---- intervals

less_not : (x y : ℤ) → y ≤ℤ x → is_lt (int_cmp x y) ≡ false
less_not x y le = by (int_cmp x y) refl (int_ranks x y)
  where
    by : (o : Ordering) → int_cmp x y ≡ o → MatchOrdering o (x <ℤ y) (x ≡ y) (y <ℤ x) → is_lt (int_cmp x y) ≡ false
    by Less e h = absurd (omega (arith, ints))
    by Equal e h = ap is_lt e
    by Greater e h = ap is_lt e

not_empty : (lo hi : Option Dec) → AreOrdered lo hi → is_empty (record { lo = lo; hi = hi }) ≡ false
not_empty None hi h = refl
not_empty (Some l) None h = refl
not_empty (Some l) (Some u) h = less_not _ _ h.crosswise

pub all_ordered : (intervals : List Interval) → All IsOrdered intervals → AllByRecursion (λ i. is_empty i ≡ false) intervals
all_ordered intervals h = recursion_from_All (λ i. is_empty i ≡ false) intervals (λ k i lt. not_empty (get_or intervals k i).lo (get_or intervals k i).hi (h k i lt))

units_from : (c : Counts) (j : ℕ) (intervals : List Interval)
    → ((k : ℕ) (i : Interval) → k < length intervals → is_binary (variable_kind c (j + k)) ≡ true
    → is_within_unit (get_or intervals k i) ≡ true) → AreUnits c j intervals
units_from c j [] h = tt
units_from c j (i ∷ intervals) h =
    let is_at : ℕ → Type 0 = λ k. is_binary (variable_kind c k) ≡ true in (
      true_or_none (is_binary (variable_kind c j)) (is_within_unit i) (λ b. h 0 i (omega arith) (subst is_at (omega arith) b)),
      units_from c (j + 1) intervals (λ k d lt b. h (suc k) d (omega (arith, lt)) (subst is_at (omega arith) b)),
    )

-- ---- the file

pub bodies_ready : (f : File) → IsWritable f → (i : ℕ) (t : Tree) → slice_get f.bodies i ≡ Some (Some t) → IsTreeReady f.counts f.definitions t
bodies_ready f w i t at =
    let known = IsTreeKnown f.counts.n_var f.definitions in
    record { nodes = at_all (λ b. IfSome b HasNodes) f.bodies i (Some t) w.limits.trees.bodies at; known = at_all (λ b. IfSome b known) f.bodies i (Some t) w.file.bodies.known at }

pub objectives_ready : (f : File) → IsWritable f → (k : ℕ) (x : Objective) → slice_get f.objectives k ≡ Some x → IsTreeReady f.counts f.definitions x.tree
objectives_ready f w k x at =
    let known = IsTreeKnown f.counts.n_var f.definitions in
    record { nodes = at_all (λ o. HasNodes o.tree) f.objectives k x w.limits.trees.objectives at; known = at_all (λ o. known o.tree) f.objectives k x w.file.objectives.known at }

pub all_units : (f : File) → IsWritable f → AreUnits f.counts 0 f.bounds
all_units f w = units_from f.counts 0 f.bounds (λ j i lt b. w.limits.binary j i (omega (arith, lt, w.file.bound_count)) (subst (λ k. is_binary (variable_kind f.counts k) ≡ true) (omega arith) b))

pub rows_below : (n : ℕ) (rows : List (List Term)) → All (AreTermsBelow n) rows → (k : ℕ) (ts : List Term) → slice_get rows k ≡ Some ts → AllByRecursion (IsTermBelow n) ts
rows_below n rows below k ts at = all_below n ts (at_all (AreTermsBelow n) rows k ts below at)

-- ---- the start

at_start : (o : List ℤ) (c : Counts) → IsStanding o c [] (empty_draft o c) (rank (DefinitionHead 0 0 0)) 0 0 0 0
unfolding draft_of last_piece
at_start o c = record { done = refl; said = refl; ranks = tt; terms_are = refl; values_are = refl; nodes_are = refl; suffixes_are = refl }

-- ---- the body

-- the draft of a whole file
abbrev pub whole_draft : File → Draft
whole_draft f = record {
  options = f.options;
  counts = f.counts;
  bodies = f.bodies;
  objectives = map Some f.objectives;
  definitions = f.definitions;
  terms = f.terms;
  slopes = f.slopes;
  sides = f.sides;
  bounds = f.bounds;
  dual_guesses = f.dual_guesses;
  primal_guesses = f.primal_guesses;
  suffixes = f.suffixes;
}

-- the body is taken, and its pieces say the file
pub record BodySays (f : File) : Type 0 where
  pub pieces : List Piece
  pub taken : IsTaken f.options f.counts [] 11 (body_lines f) pieces
  pub done : awaited_of f.counts pieces ≡ Nothing
  pub said : draft_of f.options f.counts pieces ≡ whole_draft f
  pub columns : all_column_counts pieces ≡ counts_of_columns f.counts.n_var f.terms

-- sums of the first parts
parts : (a b c m : ℕ) → a + b + c ≤ m → (0 + a ≤ m) × (0 + a + b ≤ m) × (0 + a + b + c ≤ m) × (b ≤ m)
parts a b c m h = (omega arith, omega arith, omega arith, omega arith)

later : (i j k : ℕ) → i ≡ j → j ≤ 2 ^ 20 → (k * 2 ^ 32 + i) ≤ ((k + 1) * 2 ^ 32 + 0)
later i j k e h = omega arith

to_bodies : rank (DefinitionHead 0 0 0) ≤ rank (Body 0)
to_bodies = omega arith

pub body_says : (f : File) → IsWritable f → BodySays f
body_says f w =
    let o = f.options in
    let c = f.counts in
    let file = w.file in
    let k = counts_of_header o c file.ruled in
    let n_obj : c.n_obj ≤ 2 ^ 20 = omega (arith, k.objectives) in
    let terms = parts (sum_by (λ x. length x.terms) f.definitions) (term_count f.terms) (term_count f.slopes) most_terms w.limits.few_terms in
    let nodes = parts (sum_by (λ x. tree_size x.tree) f.definitions) (sum_by body_size f.bodies) (sum_by objective_size f.objectives) (2 ^ 22) w.limits.few_nodes in
    let z : IsSized c f.definitions = record { counts = k; range = definitions_in_range c.n_var (defined_count c) [] f.definitions file.definitions } in
    let no_slopes : Draft = record (whole_draft f) { slopes = replicate c.n_obj [] } in
    let r1 = suffixes_reached {n = 11} {values = 0} {suffixes = 0} [] f.suffixes refl refl (λ kind count name. refl) k
    (recursion_from_All (λ s. IsWritableSuffix s × IsSuffix c s) f.suffixes (λ i s lt. (w.limits.suffixes i s lt, file.suffixes.each i s lt))) file.suffixes.apart
    (omega (arith, w.limits.few_values)) (omega (arith, w.limits.few_suffixes)) (at_start o c) in
    let r2 = reaches_then r1 (λ b s. definitions_reached [] f.definitions (record { counts = k; range = tt }) refl refl
    (λ i j usage name. not_repeated b (DefinitionHead i j usage) name
    (ranks_up b (rank (DefinitionHead 0 0 0)) (rank (DefinitionHead i j usage)) s.ranks (omega arith)))
    file.definitions (recursion_from_All IsPlainDefinition f.definitions
    (λ i d lt. record { usage = w.limits.usages i d lt; nodes = w.limits.trees.definitions i d lt })) terms.0
    nodes.0 (standing_up s to_bodies)) in
    let r3 = reaches_then r2 (λ b. bodies_reached f.bodies z refl file.bodies.count (bodies_ready f w) terms.0 nodes.1 (ap (λ n. replicate n None) (sym file.bodies.count))) in
    let r4 = reaches_then r3 (λ b s. objectives_reached f.objectives z refl file.objectives.count (objectives_ready f w) terms.0 nodes.2 (ap (λ n. replicate n None) (sym file.objectives.count))
    (standing_up s (later (length f.bodies) c.n_con 2 file.bodies.count k.constraints))) in
    let r5 = reaches_then r4 (λ b s. duals_reached f.dual_guesses k.constraints (all_below c.n_con f.dual_guesses file.dual_guesses.below) file.dual_guesses.apart w.limits.dual_guesses terms.0 refl
    (standing_up s (later (length f.objectives) c.n_obj 3 file.objectives.count n_obj))) in
    let r6 = reaches_then r5 (λ b. primals_reached f.primal_guesses k.variables
    (all_below c.n_var f.primal_guesses file.primal_guesses.below) file.primal_guesses.apart w.limits.primal_guesses
    terms.0 refl) in
    let r7 = reaches_then r6 (λ b. sides_reached f.sides file.side_count (all_ordered f.sides file.sides) refl) in
    let r8 = reaches_then r7 (λ b. bounds_reached f.bounds file.bound_count (all_ordered f.bounds file.bounds) (all_units f w) refl) in
    let r9 = then_columns r8 (λ b. columns_reached c.n_var f.terms k.variables refl terms.3) in
    let r10 = columns_then r9 (λ b s. rows_reached f.terms (terms_section c no_slopes (length f.terms) k.constraints
    file.terms.rows) k.variables (rows_below c.n_var f.terms file.terms.terms_below) terms.1 nodes.2
    (same_standing s (ap (λ n. record no_slopes { terms = replicate n [] }) (sym file.terms.rows)) refl refl refl refl)) in
    let r11 = columns_then r10 (λ b s. rows_reached f.slopes
    (slopes_section c (whole_draft f) (length f.slopes) n_obj file.terms.costs) k.variables
    (rows_below c.n_var f.slopes file.terms.slopes_below) terms.2 nodes.2
    (standing_as s (later (length f.terms) c.n_con 9 file.terms.rows k.constraints) (ap (λ n. record (whole_draft f) { slopes = replicate n [] }) (sym file.terms.costs)) refl refl refl refl)) in
    record { pieces = r11.after; taken = r11.taken; done = r11.stands.done; said = r11.stands.said; columns = r11.columns }
