-- A file that is being built.
use Rattle.std.specs.Prelude.{◌≡◌, ℕ, ℤ, ◌≤◌, IsTrue, List, [], ◌∷◌, length, All, Bool, Option, Some, None, IfSome, is_some, option_and_then, slice_get, replicate}
use Rattle.nl_model.specs.Trees.{Tree}
use Rattle.nl_model.specs.declared.header_counts.Counts.{Counts}
use Rattle.linear_program.specs.declared.interval.Interval.{Interval}
use Rattle.nl_model.specs.File.{Term, File}
use Rattle.nl_model.specs.declared.objective.Objective.{Objective}
use Rattle.nl_model.specs.declared.definition.Def.{Def as Definition}
use Rattle.nl_model.specs.declared.suffix.Suffix.{Suffix}
use Rattle.nl_model.specs.HeaderRules.{is_header, defined_count}
use Rattle.nl_model.specs.Rules.{IsTreeKnown, AreDefinitions, AreBodies, AreTerms, AreGuesses, AreSuffixes}
use Rattle.linear_program.specs.Intervals.{IsOrdered}

-- as a file, with a place for each objective
pub record Draft : Type 0 where
  pub options : List ℤ
  pub counts : Counts
  pub bodies : List (Option Tree)
  pub objectives : List (Option Objective)
  pub definitions : List Definition
  pub terms : List (List Term)
  pub slopes : List (List Term)
  pub sides : List Interval
  pub bounds : List Interval
  pub dual_guesses : List Term
  pub primal_guesses : List Term
  pub suffixes : List Suffix

-- a header alone
abbrev pub empty_draft : List ℤ → Counts → Draft
empty_draft options c =
    record {
      options = options;
      counts = c;
      bodies = replicate c.n_con None;
      objectives = replicate c.n_obj None;
      definitions = [];
      terms = replicate c.n_con [];
      slopes = replicate c.n_obj [];
      sides = [];
      bounds = [];
      dual_guesses = [];
      primal_guesses = [];
      suffixes = [];
    }

-- whether something stands at place i
abbrev pub is_given : {A : Type 0} → List (Option A) → ℕ → Bool
is_given places i = is_some (option_and_then (λ x. x) (slice_get places i))

-- those that were those_given
abbrev pub those_given : List (Option Objective) → List Objective
those_given [] = []
those_given (None ∷ os) = those_given os
those_given (Some o ∷ os) = o ∷ those_given os

-- the file of a draft
abbrev pub file_of : Draft → File
file_of d =
    record {
      options = d.options;
      counts = d.counts;
      bodies = d.bodies;
      objectives = those_given d.objectives;
      definitions = d.definitions;
      terms = d.terms;
      slopes = d.slopes;
      sides = d.sides;
      bounds = d.bounds;
      dual_guesses = d.dual_guesses;
      primal_guesses = d.primal_guesses;
      suffixes = d.suffixes;
    }

-- a place for each objective
pub record ArePlaces (c : Counts) (ds : List Definition)
    (os : List (Option Objective)) : Type 0 where
  pub count : length os ≡ c.n_obj
  pub known : All (λ o. IfSome o (λ x. IsTreeKnown c.n_var ds x.tree)) os

-- what holds of each draft
pub record IsDraft (d : Draft) : Type 0 where
  pub ruled : IsTrue (is_header d.options d.counts)
  pub definitions : AreDefinitions d.counts.n_var (defined_count d.counts) [] d.definitions
  pub bodies : AreBodies d.counts d.definitions d.bodies
  pub objectives : ArePlaces d.counts d.definitions d.objectives
  pub terms : AreTerms d.counts d.terms d.slopes
  pub side_count : length d.sides ≤ d.counts.n_con
  pub sides : All IsOrdered d.sides
  pub bound_count : length d.bounds ≤ d.counts.n_var
  pub bounds : All IsOrdered d.bounds
  pub dual_guesses : AreGuesses d.counts.n_con d.dual_guesses
  pub primal_guesses : AreGuesses d.counts.n_var d.primal_guesses
  pub suffixes : AreSuffixes d.counts d.suffixes
