-- The instance of a seed and a size: a file of n whole variables, n rows over chains of defined
-- variables, and one objective.
use Rattle.std.specs.Prelude.{refl, ℕ, ◌+◌, ◌-◌, ◌%◌, ◌==◌, true, pos, List, [], ◌∷◌, map, Option, None, Some, if◌then◌else◌}
use Rattle.std.specs.List.{range_with_len}
use Rattle.exact_numbers.specs.Rational.{whole}
use Rattle.exact_numbers.specs.declared.dec.Dec.{Dec}
use Rattle.exact_numbers.specs.Numbers.{dec_from}
use Rattle.exact_numbers.specs.SpelledLemmas.{spelled_dec}
use Rattle.nl_model.specs.Trees.{Tree, number, defined}
use Rattle.nl_model.specs.declared.header_counts.Counts.{Counts}
use Rattle.linear_program.specs.declared.interval.Interval.{Interval}
use Rattle.nl_model.specs.File.{Term, File}
use Rattle.nl_model.specs.declared.objective.Objective.{Objective}
use Rattle.nl_model.specs.declared.definition.Def.{Def as Definition}
use Rattle.bridge_tool.specs.Draws.{drawn_row}

-- of the numbers below n, in order
abbrev pub each : {A : Type 0} → ℕ → (ℕ → A) → List A
each n f = map f (range_with_len 0 n)

-- ---- numbers

abbrev pub zero_dec : Dec
zero_dec = record { m = pos 0; e = pos 0; spelled = spelled_dec (pos 0) (pos 0) refl }

abbrev pub or_zero : Option Dec → Dec
or_zero None = zero_dec
or_zero (Some d) = d

-- the Dec of a whole number
unfoldable pub whole_dec : ℕ → Dec
whole_dec n = or_zero (dec_from (whole (pos n)))

-- ---- parts

-- n variables, all whole, n constraints and one objective; n terms of each; n defined variables
abbrev pub counts_of : ℕ → Counts
counts_of n =
    record {
      n_var = n;
      n_con = n;
      n_obj = 1;
      n_ranges = 0;
      n_eqns = 0;
      n_lcon = 0;
      nlc = 0;
      nlo = 0;
      nlnc = 0;
      lnc = 0;
      nlvc = 0;
      nlvo = 0;
      nlvb = 0;
      nwv = 0;
      nfunc = 0;
      arith = 0;
      flags = 1;
      nbv = 0;
      niv = n;
      nlvbi = 0;
      nlvci = 0;
      nlvoi = 0;
      nzc = n;
      nzo = n;
      row_name_len = 0;
      col_name_len = 0;
      comb = n;
      comc = 0;
      como = 0;
      comc1 = 0;
      como1 = 0;
    }

-- chains of eight defined variables: each uses the one before it, but for the first of a chain
abbrev pub chained : ℕ → ℕ → Tree
chained n k = if k % 8 == 0 then number (pos 0) (pos 0) else defined (n + k - 1)

-- defined variable n + k: variable k with its number, and what the chain says
abbrev pub definition_of : ℕ → ℕ → ℕ → Definition
definition_of seed n k =
    record {
      index = n + k;
      terms = (k, whole_dec (drawn_row seed k).defining) ∷ [];
      usage = 0;
      tree = chained n k;
    }

-- the body of constraint k
abbrev pub body_of : ℕ → ℕ → Option Tree
body_of n k = Some (defined (n + k))

-- its linear term
abbrev pub terms_of : ℕ → ℕ → List Term
terms_of seed k = (k, whole_dec (drawn_row seed k).linear) ∷ []

-- its side
abbrev pub side_of : ℕ → ℕ → Interval
side_of seed k = record { lo = None; hi = Some (whole_dec (drawn_row seed k).most) }

-- the sides of variable k
abbrev pub bound_of : ℕ → ℕ → Interval
bound_of seed k = record { lo = Some (whole_dec 0); hi = Some (whole_dec (drawn_row seed k).bound) }

-- its term in the objective
abbrev pub slope_of : ℕ → ℕ → Term
slope_of seed k = (k, whole_dec (drawn_row seed k).slope)

-- the objective's sense and tree
abbrev pub goal_of : Objective
goal_of = record { maximise = true; tree = number (pos 0) (pos 0) }

-- ---- the file

unfoldable pub instance : ℕ → ℕ → File
instance seed n =
    record {
      options = pos 1 ∷ pos 1 ∷ pos 0 ∷ [];
      counts = counts_of n;
      bodies = each n (body_of n);
      objectives = goal_of ∷ [];
      definitions = each n (definition_of seed n);
      terms = each n (terms_of seed);
      slopes = each n (slope_of seed) ∷ [];
      sides = each n (side_of seed);
      bounds = each n (bound_of seed);
      dual_guesses = [];
      primal_guesses = [];
      suffixes = [];
    }
