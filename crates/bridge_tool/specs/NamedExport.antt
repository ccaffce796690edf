-- The command export with names: the program of a file, whose rows and columns have the names of
-- two lists, which are the second and the third file; and that names change nothing of what it
-- means.
use Rattle.std.specs.Prelude.{◌≡◌, ℕ, ◌+◌, ◌≤◌, false, List}
use Rattle.std.specs.declared.option.Option.{Option}
use Rattle.exact_numbers.specs.Values.{value_text}
use Rattle.nl_model.specs.LinearFile.{linear_of}
use Rattle.mps_model.specs.Text.{mps_text_by}
use Rattle.name_files.specs.Renamed.{HaveOneMeaning, named}
use Rattle.nl_segments.specs.Grammar.{NlValue}
use Rattle.nl_segments.specs.Reader.{IsNl}
use Rattle.scaled_program.specs.Fits.{IsScaledProgramOf}
use Rattle.scaled_program.specs.Program.{ScaledProgram}
use Rattle.scaled_program.specs.ExportedProgram.{mps_of}
use Rattle.text_base.specs.Desk.{Texts}
use Rattle.bridge_tool.specs.Export.{MeansTheFile}
use Rattle.command_parts.specs.NameLists.{after_lists}
use Rattle.command_core.specs.Outcome.{DoneOrRefused, Outcome}
use Rattle.command_core.specs.Promise.{Promise}
use Rattle.command_parts.specs.Refusal.{HasTextRefusal}
use Rattle.command_core.specs.SeveralFiles.{after_file, desk_promise, ends}
use Rattle.command_parts.specs.Stages.{CanBeExported, CannotBeExported, fold_steps}

-- a file, the number of its objective, and the names of its rows and columns
pub record Named : Type 0 where
  pub nl : NlValue
  pub objective : ℕ
  pub rows : List (List ℕ)
  pub columns : List (List ℕ)

-- the file folds and scales, and these bytes are the text of its program as MPS with these names
pub record IsNamedExport (n : Named) (bytes : List ℕ) : Type 0 where
  pub program : ScaledProgram
  pub staged : CanBeExported n.nl n.objective
  pub exports : IsScaledProgramOf (linear_of n.nl.file n.objective) program
  pub written : bytes ≡ mps_text_by value_text (named (mps_of program) n.rows n.columns)

-- what a file with names comes to
abbrev pub NamedComesTo : Named → Outcome → Type 0
NamedComesTo n = DoneOrRefused (IsNamedExport n) (CannotBeExported n.nl n.objective)

-- the program with names means what the file means, as the program without them does
pub record IsNamedMeant (n : Named) (bytes : List ℕ) (e : IsNamedExport n bytes) : Type 0 where
  pub file : MeansTheFile n.nl.file n.objective (named (mps_of e.program) n.rows n.columns)
  pub same : HaveOneMeaning (named (mps_of e.program) n.rows n.columns) (mps_of e.program)

abbrev pub AreNamedMeant : Named → Type 0
AreNamedMeant n = (bytes : List ℕ) (e : IsNamedExport n bytes) → IsNamedMeant n bytes e

-- ---- the promise

-- what is left once the file and the list of rows were read
abbrev pub named_end : Texts → (columns : List ℕ) → Named → Promise
named_end texts columns n =
    ends texts columns (NamedComesTo n) (λ old new. new ≤ old + fold_steps n.nl n.objective)
    (AreNamedMeant n)

abbrev pub named_told : (file : List ℕ) (objective : ℕ) (rows columns : List ℕ) → Texts → Promise
named_told file objective rows columns texts =
    after_file IsNl HasTextRefusal texts file (λ nl.
    after_lists nl.file 2 texts rows columns (λ r c.
    named_end texts columns (record { nl = nl; objective = objective; rows = r; columns = c })))

abbrev pub named_promise : Option Texts → (file : List ℕ) (objective : ℕ) (rows columns : List ℕ)
    → Promise
named_promise texts file objective rows columns =
    desk_promise false (named_told file objective rows columns) texts
