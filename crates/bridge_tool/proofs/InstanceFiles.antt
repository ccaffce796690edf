-- An instance keeps the rules of values.
use Rattle.std.proofs.Common.{◌≡◌, ◌∙◌, ℕ, zero, suc, ◌+◌, ◌-◌, ◌%◌, ◌<◌, ◌≤◌, ◌==◌, Bool, true, false, pos, [], ◌∷◌, ◌++◌, length, map, All, refl, sym, ap, subst, arith, append-nil}
use Rattle.std.specs.Prelude.{IfSome, if◌then◌else◌}
use Rattle.std.specs.List.{range_with_len}
use Rattle.std.proofs.lemmas.List.Elements.{All-nil, All-cons}
use Rattle.std.proofs.lemmas.List.FromFn.{length-map-range_with_len, map-range_with_len_more}
use Rattle.nl_model.specs.Trees.{number, defined}
use Rattle.nl_model.specs.declared.objective.Objective.{Objective}
use Rattle.nl_model.specs.Nodes.{IsTreeFormed}
use Rattle.nl_model.specs.Rules.{AreBodies, AreDefinitions, AreGuesses, AreObjectives, AreTerms, AreTermsBelow, IsDefinition, IsFile, IsSuffix, IsTreeKnown, IsTreeWithin, most_terms, term_count}
use Rattle.linear_program.specs.Intervals.{IsOrdered}
use Rattle.bridge_tool.specs.Draws.{drawn_row}
use Rattle.bridge_tool.specs.Instance.{each, whole_dec, counts_of, chained, definition_of, body_of, terms_of, side_of, bound_of, slope_of, goal_of, instance}
use Rattle.bridge_tool.specs.InsideMaking.{drafted}
use Rattle.bridge_tool.proofs.Drafting.{can_add}
use Rattle.bridge_tool.proofs.NumberLemmas.{is_headed}
use Rattle.bridge_tool.proofs.RowLemmas.{is_one, not_defined, terms_so_far}
use Rattle.bridge_tool.proofs.InstanceNumbers.{above_zero}
use Rattle.round_trips.proofs.Files.{one}

-- what holds of each number below the limit holds of m of them from a on
all_from : {A : Type 0} (P : A → Type 0) (f : ℕ → A) (limit a m : ℕ) → a + m ≤ limit → ((k : ℕ) → k < limit → P (f k)) → All P (map f (range_with_len a m))
all_from P f limit a zero le h = All-nil P
all_from P f limit a (suc m) le h = All-cons P (f a) (map f (range_with_len (a + 1) m)) (h a (omega (arith, le))) (all_from P f limit (a + 1) m (omega (arith, le)) h)

pub all_each : {A : Type 0} (P : A → Type 0) (f : ℕ → A) (n : ℕ) → ((k : ℕ) → k < n → P (f k)) → All P (each n f)
all_each P f n h = all_from P f n 0 n (omega arith) h

-- ---- definitions

formed : (i : ℕ) (b : Bool) → IsTreeFormed (if b then number (pos 0) (pos 0) else defined i)
formed i true = tt
formed i false = tt

chain_known : (seed n k : ℕ) → k < n → n ≤ 20000 → IsTreeWithin n (each k (definition_of seed n)) (chained n k)
unfolding drafted
chain_known seed n k lt le = (can_add seed n k lt le).chain

definition_known : (seed n k : ℕ) → k < n → n ≤ 20000 → IsDefinition n n (each k (definition_of seed n)) (definition_of seed n k)
definition_known seed n k lt le = record {
  from = omega arith;
  below = omega (arith, lt);
  fresh = not_defined seed n 0 k (n + k) (omega arith);
  terms = one (λ t. t.0 < n) (k, whole_dec (drawn_row seed k).defining) lt;
  few = omega arith;
  tree = record { formed = formed (n + k - 1) (k % 8 == 0); within = chain_known seed n k lt le };
}

definitions_from : (seed n a m : ℕ) → a + m ≤ n → n ≤ 20000 → AreDefinitions n n (each a (definition_of seed n)) (map (definition_of seed n) (range_with_len a m))
definitions_from seed n a zero le few = tt
definitions_from seed n a (suc m) le few =
    let more : each (a + 1) (definition_of seed n) ≡ each a (definition_of seed n) ++ definition_of seed n a ∷ [] = map-range_with_len_more (definition_of seed n) 0 a a (omega arith) in (
      definition_known seed n a (omega (arith, le)) few,
      subst (λ known. AreDefinitions n n known (map (definition_of seed n) (range_with_len (a + 1) m))) more (definitions_from seed n (a + 1) m (omega (arith, le)) few),
    )

definitions_known : (seed n : ℕ) → n ≤ 20000 → AreDefinitions n (n + 0 + 0 + 0 + 0) [] (each n (definition_of seed n))
definitions_known seed n le =
    let all : n ≡ n + 0 + 0 + 0 + 0 = omega arith in
    subst (λ k. AreDefinitions n k [] (each n (definition_of seed n))) all (definitions_from seed n 0 n (omega arith) le)

-- ---- the other parts

bodies_known : (seed n : ℕ) → AreBodies (counts_of n) (each n (definition_of seed n)) (each n (body_of n))
bodies_known seed n = record {
  count = length-map-range_with_len (body_of n) 0 n;
  known = all_each (λ b. IfSome b (IsTreeKnown n (each n (definition_of seed n)))) (body_of n) n
      (λ k lt. record { formed = tt; within = is_one seed n 0 n k (omega arith) (omega (arith, lt)) });
}

goal_known : (seed n : ℕ) → AreObjectives (counts_of n) (each n (definition_of seed n)) (goal_of ∷ [])
goal_known seed n = record {
  count = refl;
  known = one (λ (o : Objective). IsTreeKnown n (each n (definition_of seed n)) o.tree) goal_of (record { formed = tt; within = tt });
}

pub term_total : (seed n : ℕ) → term_count (each n (terms_of seed)) ≡ n
term_total seed n = ap term_count (sym (append-nil (each n (terms_of seed)))) ∙ terms_so_far seed n 0

terms_known : (seed n : ℕ) → n ≤ 20000 → AreTerms (counts_of n) (each n (terms_of seed)) (each n (slope_of seed) ∷ [])
terms_known seed n le =
    let slopes : length (each n (slope_of seed)) ≡ n = length-map-range_with_len (slope_of seed) 0 n in
    record {
      rows = length-map-range_with_len (terms_of seed) 0 n;
      costs = refl;
      terms_below = all_each (AreTermsBelow n) (terms_of seed) n (λ k lt. one (λ t. t.0 < n) (k, whole_dec (drawn_row seed k).linear) lt);
      slopes_below = one (AreTermsBelow n) (each n (slope_of seed)) (all_each (λ t. t.0 < n) (slope_of seed) n (λ k lt. lt));
      few_terms = omega (arith, term_total seed n, le);
      few_slopes = one (λ ts. length ts ≤ most_terms) (each n (slope_of seed)) (omega (arith, slopes, le));
    }

no_guesses : (n : ℕ) → AreGuesses n []
no_guesses n = record { below = All-nil (λ t. t.0 < n); apart = λ i j d lt within. absurd (omega (arith, within)) }

-- ---- the file

pub is_file : (seed n : ℕ) → n ≤ 20000 → IsFile (instance seed n)
unfolding instance
is_file seed n le = record {
  ruled = is_headed n le;
  definitions = definitions_known seed n le;
  bodies = bodies_known seed n;
  objectives = goal_known seed n;
  terms = terms_known seed n le;
  all_terms = term_total seed n;
  side_count = length-map-range_with_len (side_of seed) 0 n;
  sides = all_each IsOrdered (side_of seed) n (λ k lt. tt);
  bound_count = length-map-range_with_len (bound_of seed) 0 n;
  bounds = all_each IsOrdered (bound_of seed) n (λ k lt. above_zero (drawn_row seed k).bound);
  dual_guesses = no_guesses n;
  primal_guesses = no_guesses n;
  suffixes = record { each = All-nil (IsSuffix (counts_of n)); apart = λ i j d lt within. absurd (omega (arith, within)) };
}
