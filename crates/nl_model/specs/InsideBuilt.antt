-- What the fields of a builder and of a file say.
use Rattle.std.specs.Prelude.{◌≡◌, ℕ, ◌+◌, ◌<◌, Bool, false, IsSome, List, length, get_or, All}
use Rattle.nl_model.specs.declared.builder.NlBuilder.TheInside.{Inside as BuilderFields}
use Rattle.nl_model.specs.declared.file.NlFile.TheInside.{Inside as FileFields}
use Rattle.nl_model.specs.File.{File}
use Rattle.nl_model.specs.HeaderRules.{defined_count}
use Rattle.nl_model.specs.Rules.{is_defined, term_count, IsFile}
use Rattle.nl_model.specs.Draft.{Draft, IsDraft, those_given}

abbrev pub draft_of : BuilderFields → Draft
draft_of b =
    record {
      options = b.header.options;
      counts = b.header.counts;
      bodies = b.bodies.items;
      objectives = b.objectives.items;
      definitions = b.definitions.items;
      terms = b.terms.items;
      slopes = b.slopes.items;
      sides = b.sides.items;
      bounds = b.bounds.items;
      dual_guesses = b.dual_guesses;
      primal_guesses = b.primal_guesses;
      suffixes = b.suffixes.items;
    }

-- a draft with a mark for each defined variable that was those_given, and the number of terms
pub record IsKept (d : Draft) (marks : List Bool) (count : ℕ) : Type 0 where
  pub draft : IsDraft d
  pub mark_count : length marks ≡ defined_count d.counts
  pub marked : (i : ℕ) → i < defined_count d.counts → get_or marks i false
      ≡ is_defined d.definitions (d.counts.n_var + i)
  pub counted : count ≡ term_count d.terms

abbrev pub IsBuilt : BuilderFields → Type 0
IsBuilt b = IsKept (draft_of b) b.defined.items b.term_count

abbrev pub read_file : FileFields → File
read_file f =
    record {
      options = f.header.options;
      counts = f.header.counts;
      bodies = f.bodies.items;
      objectives = those_given f.objectives.items;
      definitions = f.definitions.items;
      terms = f.terms.items;
      slopes = f.slopes.items;
      sides = f.sides.items;
      bounds = f.bounds.items;
      dual_guesses = f.dual_guesses;
      primal_guesses = f.primal_guesses;
      suffixes = f.suffixes.items;
    }

-- a file whose objectives were all those_given
pub record IsWhole (f : FileFields) : Type 0 where
  pub file : IsFile (read_file f)
  pub all_given : All IsSome f.objectives.items
