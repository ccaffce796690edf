-- What an .nl file says (Gay 2005, "Writing .nl Files").
use Rattle.std.specs.Prelude.{ℕ, ℤ, List, Option}
use Rattle.exact_numbers.specs.declared.dec.Dec.{Dec}
use Rattle.nl_model.specs.Trees.{Tree}
use Rattle.nl_model.specs.declared.header_counts.Counts.{Counts}
use Rattle.nl_model.specs.declared.definition.Def.{Def as Definition}
use Rattle.linear_program.specs.declared.interval.Interval.{Interval as Sides}
use Rattle.nl_model.specs.declared.objective.Objective.{Objective}
use Rattle.nl_model.specs.declared.suffix.Suffix.{Suffix}

-- an index and a value
abbrev pub Term : Type 0
Term = ℕ × Dec

-- the parts of a file; bodies, terms and sides by constraint, objectives and slopes (their linear
-- terms) by objective, bounds by variable, the others in file order; guesses and suffixes mean
-- nothing here
pub record File : Type 0 where
  pub options : List ℤ
  pub counts : Counts
  pub bodies : List (Option Tree)
  pub objectives : List Objective
  pub definitions : List Definition
  pub terms : List (List Term)
  pub slopes : List (List Term)
  pub sides : List Sides
  pub bounds : List Sides
  pub dual_guesses : List Term
  pub primal_guesses : List Term
  pub suffixes : List Suffix
