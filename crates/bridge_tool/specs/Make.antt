-- The command make: the summary of the exported program of the instance of a seed and a size.
use Rattle.std.specs.Prelude.{◌≡◌, ◌≢◌, ◌⊎◌, ◌&&◌, Bool, ℕ, ◌+◌, ◌≤◌, List, ◌++◌, nat_le, length, codes}
use Rattle.std.specs.Fmt.{decimal}
use Rattle.std.specs.List.{count_by, sum_by}
use Rattle.exact_numbers.specs.Rational.{ℚ}
use Rattle.linear_program.specs.Linear.{Linear}
use Rattle.scaled_program.specs.Program.{is_exported}
use Rattle.scaled_program.specs.ExportedProgram.{mps_of}
use Rattle.nl_model.specs.LinearFile.{linear_of}
use Rattle.bridge_tool.specs.Instance.{instance}
use Rattle.linear_fold.specs.FoldedFaults.{step_bound}
use Rattle.round_trips.specs.Writable.{IsText}
use Rattle.exact_numbers.specs.Values.{value_text}
use Rattle.mps_model.specs.Mps.{Mps, Entry, Column}
use Rattle.mps_model.specs.Text.{mps_text_by}
use Rattle.nl_model.specs.File.{File}
use Rattle.nl_segments.specs.Grammar.{NlValue}
use Rattle.nl_segments.specs.Reader.{IsNl}
use Rattle.nl_writer.specs.Written.{nl_text}
use Rattle.text_base.specs.Desk.{Meaning}
use Rattle.bridge_tool.specs.Export.{IsExported}
use Rattle.command_core.specs.Outcome.{DoneOrRefused, Outcome, Refused}
use Rattle.command_core.specs.Promise.{Promise}
use Rattle.command_parts.specs.Refusal.{HasTextRefusal}
use Rattle.command_parts.specs.Stages.{CannotBeExported}

-- the written text of the instance
abbrev pub made_text : ℕ → ℕ → List ℕ
made_text seed size = nl_text (instance seed size)

-- ---- the summary

-- how many rows are exported
abbrev pub exported_count : Linear → ℕ
exported_count l = count_by is_exported l.rows

-- the entry is one of the first r rows after the objective, which are the exported rows of the file
abbrev pub is_coefficient : {V : Type 0} → ℕ → Entry V → Bool
is_coefficient r e = nat_le 1 e.row && nat_le e.row r

-- how many of them a column has
abbrev pub of_column : {V : Type 0} → ℕ → Column V → ℕ
of_column r c = count_by (is_coefficient r) c.entries

-- how many coefficients the exported rows have in the program, r being their number
abbrev pub coefficient_count : {V : Type 0} → ℕ → Mps V → ℕ
coefficient_count r m = sum_by (of_column r) m.columns

-- `variables 1 rows 1 terms 1 bytes 168`
abbrev pub summary_line : ℕ → ℕ → ℕ → ℕ → List ℕ
summary_line variables rows terms bytes =
    codes "variables " ++ decimal variables ++ codes " rows " ++ decimal rows ++ codes " terms "
    ++ decimal terms ++ codes " bytes " ++ decimal bytes ++ codes "\n"

-- the variables of a file, its exported rows, their coefficients, and the bytes of its exported
-- program
abbrev pub summary_of : File → Mps ℚ → List ℕ → List ℕ
summary_of f m text =
    summary_line f.counts.n_var (exported_count (linear_of f 0))
    (coefficient_count (exported_count (linear_of f 0)) m) (length text)

-- the file is exported with objective 0, and these bytes are the summary of that
pub record IsMade (nl : NlValue) (bytes : List ℕ) : Type 0 where
  pub mps : List ℕ
  pub exported : IsExported nl 0 mps
  pub summary : bytes ≡ summary_of nl.file (mps_of exported.program) mps

-- what a file comes to
abbrev pub MakesAs : NlValue → Outcome → Type 0
MakesAs nl = DoneOrRefused (IsMade nl) (CannotBeExported nl 0)

-- the same of a program with so many variables and exported rows
abbrev pub IsSummedUp : ℕ → ℕ → Mps ℚ → List ℕ → Type 0
IsSummedUp variables rows m bytes = bytes
    ≡ summary_line variables rows (coefficient_count rows m) (length (mps_text_by value_text m))

-- ---- the promise

-- the written text says the instance, and what is summed up is the instance
pub record IsInstanceSummedUp (seed size : ℕ) : Type 0 where
  pub said : IsText (instance seed size) (made_text seed size)
  pub summed : (nl : NlValue) → IsNl (made_text seed size) nl → nl.file ≡ instance seed size

-- No text is started: the written text of the instance is read. Steps are counted for its fold, up
-- to its bound.
abbrev pub make_promise : ℕ → ℕ → Promise
make_promise seed size = record {
  comes = λ outcome.
      ((line : List ℕ) × (HasTextRefusal (made_text seed size) line × (outcome ≡ Refused line)))
      ⊎ ((nl : NlValue) × (IsNl (made_text seed size) nl × MakesAs nl outcome));
  last = λ text. ⊥;
  counts = λ old new. new ≤ old + step_bound (instance seed size);
  means = λ bytes. IsInstanceSummedUp seed size;
  denies = Unit {0};
}

-- the input is as it was, and no input call failed
pub record LeavesInput (old new : Meaning) (status : ℕ) : Type 0 where
  pub left : new.left ≡ old.left
  pub faults : new.input_faults ≡ old.input_faults
  pub known : status ≢ 4
