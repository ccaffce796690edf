-- An instance that is being made: what its rows so far give, and when a row more can be added.
use Rattle.std.specs.Prelude.{◌≡◌, ℕ, ◌+◌, ◌-◌, ◌<◌, ◌≤◌, false, pos, [], ◌∷◌, ◌++◌, length, get_or, None, Some, slice_set, replicate}
use Rattle.nl_model.specs.Trees.{defined}
use Rattle.nl_model.specs.Draft.{Draft, is_given}
use Rattle.nl_model.specs.Rules.{IsTreeWithin, is_defined, most_terms, term_count}
use Rattle.bridge_tool.specs.declared.draws.Row.{Row}
use Rattle.bridge_tool.specs.Instance.{each, whole_dec, counts_of, chained, definition_of, body_of, terms_of, side_of, bound_of, slope_of, goal_of}

-- the first k rows of the instance
unfoldable pub drafted : ℕ → ℕ → ℕ → Draft
drafted seed n k =
    record {
      options = pos 1 ∷ pos 1 ∷ pos 0 ∷ [];
      counts = counts_of n;
      bodies = each k (body_of n) ++ replicate (n - k) None;
      objectives = Some goal_of ∷ [];
      definitions = each k (definition_of seed n);
      terms = each k (terms_of seed) ++ replicate (n - k) [];
      slopes = each k (slope_of seed) ∷ [];
      sides = each k (side_of seed);
      bounds = each k (bound_of seed);
      dual_guesses = [];
      primal_guesses = [];
      suffixes = [];
    }

-- what one row adds
abbrev pub with_row : Draft → ℕ → ℕ → Row → Draft
with_row d n k row =
    record d {
      definitions =
          d.definitions
          ++ (record {
            index = n + k;
            terms = (k, whole_dec row.defining) ∷ [];
            usage = 0;
            tree = chained n k;
          }) ∷ [];
      bodies = slice_set d.bodies k (Some (defined (n + k)));
      terms = slice_set d.terms k (get_or d.terms k [] ++ (k, whole_dec row.linear) ∷ []);
      sides = d.sides ++ (record { lo = None; hi = Some (whole_dec row.most) }) ∷ [];
      bounds =
          d.bounds ++ (record { lo = Some (whole_dec 0); hi = Some (whole_dec row.bound) }) ∷ [];
      slopes = slice_set d.slopes 0 (get_or d.slopes 0 [] ++ (k, whole_dec row.slope) ∷ []);
    }

-- row k is the next one
pub record CanAddRow (d : Draft) (n k : ℕ) : Type 0 where
  pub counts : d.counts ≡ counts_of n
  pub within : k < n
  pub small : n ≤ 20000
  pub fresh : is_defined d.definitions (n + k) ≡ false
  pub chain : IsTreeWithin n d.definitions (chained n k)
  pub body : is_given d.bodies k ≡ false
  pub few_terms : term_count d.terms < most_terms
  pub few_slopes : length (get_or d.slopes 0 []) < most_terms
  pub sides : length d.sides ≡ k
  pub bounds : length d.bounds ≡ k
