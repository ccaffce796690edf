-- The laws of written instances.
use Rattle.std.proofs.Common.{◌≡◌, ℕ, zero, suc, ◌+◌, ◌-◌, ◌%◌, ◌<◌, ◌≤◌, ◌^◌, ◌==◌, Bool, true, false, List, [], ◌∷◌, length, map, pos, inl, inr, ◌⊎◌, refl, arith, ap, ◌∙◌}
use Rattle.std.specs.Prelude.{IfSome, nat_lt, if◌then◌else◌, sum_by}
use Rattle.std.specs.List.{AllByRecursion, range_with_len}
use Rattle.std.specs.Option.{option_map_or}
use Rattle.std.proofs.lemmas.Bool.{ltb-true}
use Rattle.std.proofs.lemmas.List.Elements.{All-cons, All-nil}
use Rattle.std.proofs.lemmas.List.FromFn.{length-map-range_with_len}
use Rattle.std.proofs.lemmas.List.Sums.{sum_by-cons}
use Rattle.nl_model.specs.Trees.{number, defined, tree_size}
use Rattle.nl_model.specs.declared.node.Node.TheVariants.{Num, Defined}
use Rattle.nl_model.specs.File.{Term}
use Rattle.nl_model.specs.declared.definition.Def.{Def as Definition}
use Rattle.nl_model.specs.declared.objective.Objective.{Objective}
use Rattle.nl_model.specs.declared.kinds.Run.{Run}
use Rattle.nl_model.specs.InsideKinds.{kind_among, runs}
use Rattle.nl_model.specs.Kinds.{variable_kind}
use Rattle.nl_model.proofs.KindRuns.{variable_kind_by_runs}
use Rattle.nl_model.specs.Nodes.{a_number, a_defined}
use Rattle.nl_writer.specs.Written.{nl_text}
use Rattle.round_trips.specs.Writable.{AreTreesWritable, HasNodes, IsText, IsWithinLimits, IsWritable, IsWritableSuffix, linear_count, node_count}
use Rattle.round_trips.proofs.Room.{writable_by}
use Rattle.round_trips.proofs.WholeLaw.{written_is_read}
use Rattle.nl_lines.specs.Tests.{is_binary}
use Rattle.bridge_tool.specs.Instance.{each, zero_dec, counts_of, definition_of, body_of, slope_of, goal_of, instance}
use Rattle.bridge_tool.proofs.InstanceFiles.{all_each, is_file, term_total}

-- ---- trees

zero_nodes : HasNodes (number (pos 0) (pos 0))
zero_nodes = record { nodes = Num zero_dec ∷ []; prefix = a_number zero_dec }

defined_nodes : (i : ℕ) → HasNodes (defined i)
defined_nodes i = record { nodes = Defined i ∷ []; prefix = a_defined i }

chained_nodes : (i : ℕ) (b : Bool) → HasNodes (if b then number (pos 0) (pos 0) else defined i)
chained_nodes i true = zero_nodes
chained_nodes i false = defined_nodes i

trees_written : (seed n : ℕ) → AreTreesWritable (instance seed n)
unfolding instance
trees_written seed n = record {
  definitions = all_each (λ d. HasNodes d.tree) (definition_of seed n) n (λ k lt. chained_nodes (n + k - 1) (k % 8 == 0));
  bodies = all_each (λ b. IfSome b HasNodes) (body_of n) n (λ k lt. defined_nodes (n + k));
  objectives = All-cons (λ (o : Objective). HasNodes o.tree) goal_of [] zero_nodes (All-nil (λ (o : Objective). HasNodes o.tree));
}

-- ---- how many

-- a sum of ones
ones : {X : Type 0} (size : X → ℕ) (f : ℕ → X) (a m : ℕ) → ((k : ℕ) → size (f k) ≡ 1) → sum_by size (map f (range_with_len a m)) ≡ m
ones size f a zero one = refl
ones size f a (suc m) one = omega (arith, sum_by-cons size (f a) (map f (range_with_len (a + 1) m)), one a, ones size f (a + 1) m one)

chained_size : (i : ℕ) (b : Bool) → tree_size (if b then number (pos 0) (pos 0) else defined i) ≡ 1
chained_size i true = refl
chained_size i false = refl

terms_few : (seed n : ℕ) → n ≤ 20000 → linear_count (instance seed n) ≤ 2 ^ 22
unfolding instance
terms_few seed n le =
    let slopes : length (each n (slope_of seed)) ≡ n = length-map-range_with_len (slope_of seed) 0 n in
    let definitions = ones (λ (d : Definition). length d.terms) (definition_of seed n) 0 n (λ k. refl) in
    omega (arith, slopes, definitions, term_total seed n, sum_by-cons (length {A = Term}) (each n (slope_of seed)) [], le)

nodes_few : (seed n : ℕ) → n ≤ 20000 → node_count (instance seed n) ≤ 2 ^ 22
unfolding instance
nodes_few seed n le =
    let definitions = ones (λ (d : Definition). tree_size d.tree) (definition_of seed n) 0 n (λ k. chained_size (n + k - 1) (k % 8 == 0)) in
    let bodies = ones (λ b. option_map_or tree_size b 0) (body_of n) 0 n (λ k. refl) in
    omega (arith, definitions, bodies, sum_by-cons (λ (o : Objective). tree_size o.tree) goal_of [], le)

-- ---- no variable is binary

-- another kind, or no variables
abbrev IsNotBinary : Run → Type 0
IsNotBinary g = (is_binary g.kind ≡ false) ⊎ (g.size ≡ 0)

none_among : (gs : List Run) (j : ℕ) → AllByRecursion IsNotBinary gs → is_binary (kind_among gs j) ≡ false
none_among [] j all = refl
none_among (g ∷ gs) j all = by (nat_lt j g.size) refl all.0 (none_among gs (j - g.size) all.1)
  where
    by : (b : Bool) → nat_lt j g.size ≡ b → IsNotBinary g → is_binary (kind_among gs (j - g.size)) ≡ false → is_binary (if b then g.kind else kind_among gs (j - g.size)) ≡ false
    by true e (inl other) more = other
    by true e (inr none) more = absurd (let below = ltb-true j g.size e in omega (arith, below, none))
    by false e h more = more

never_binary : (n j : ℕ) → is_binary (variable_kind (counts_of n) j) ≡ false
never_binary n j = ap is_binary (variable_kind_by_runs (counts_of n) j)
    ∙ none_among (runs (counts_of n)) j (
      inl refl,
      (
        inl refl,
        (inl refl, (inl refl, (inl refl, (inl refl, (inl refl, (inr refl, (inl refl, tt))))))),
      ),
    )

-- ---- the laws

limits : (seed n : ℕ) → n ≤ 20000 → IsWithinLimits (instance seed n)
unfolding instance
limits seed n le = record {
  options = refl;
  trees = trees_written seed n;
  usages = all_each (λ (d : Definition). d.usage < 2 ^ 31) (definition_of seed n) n (λ k lt. omega arith);
  dual_guesses = omega arith;
  primal_guesses = omega arith;
  suffixes = All-nil IsWritableSuffix;
  few_suffixes = omega arith;
  few_values = omega arith;
  few_terms = terms_few seed n le;
  few_nodes = nodes_few seed n le;
  binary = λ j i lt h. absurd (let other = never_binary n j in cc);
}

pub writable : (seed n : ℕ) → n ≤ 20000 → IsWritable (instance seed n)
writable seed n le = writable_by (instance seed n) (is_file seed n le) (limits seed n le)

pub said : (seed n : ℕ) → n ≤ 20000 → IsText (instance seed n) (nl_text (instance seed n))
said seed n le = written_is_read (instance seed n) (writable seed n le)
