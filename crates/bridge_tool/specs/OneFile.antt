-- Commands of one file: an .nl text, an MPS text or a .sol text in the one written form of what it
-- says, and an MPS program as the .nl text of a file that means the same.
use Rattle.std.specs.Prelude.{◌≡◌, ℕ, ◌≤◌, ◌^◌, true, false, List, length}
use Rattle.std.specs.declared.option.Option.{Option}
use Rattle.text_base.specs.Desk.{Texts}
use Rattle.exact_numbers.specs.declared.dec.Dec.{Dec}
use Rattle.mps_model.specs.Mps.{Mps as Program}
use Rattle.mps_reader.specs.Reader.{IsMpsText}
use Rattle.mps_reader.specs.Written.{mps_text}
use Rattle.round_trips.specs.Writable.{IsText}
use Rattle.nl_segments.specs.Grammar.{NlValue}
use Rattle.nl_segments.specs.Reader.{IsNl}
use Rattle.nl_writer.specs.Written.{nl_text}
use Rattle.sol_files.specs.Reader.{IsSol}
use Rattle.sol_files.specs.Sol.{Sol as SolValue}
use Rattle.sol_files.specs.Written.{sol_text}
use Rattle.command_core.specs.Outcome.{Done, Outcome}
use Rattle.command_core.specs.Promise.{Promise}
use Rattle.command_parts.specs.Refusal.{HasTextRefusal, IsMpsRefused, IsSolRefused}
use Rattle.command_core.specs.SeveralFiles.{after_file, desk_promise, ends}
use Rattle.bridge_tool.specs.Import.{MeansTheProgram, import_outcome}
use Rattle.bridge_tool.specs.Verify.{IsTextIn, IsTextRefused}
use Rattle.bridge_tool.specs.declared.verify_mps.Layout.{Layout}
use Rattle.bridge_tool.specs.declared.one_file.OneFile.{OneFile}
use Rattle.bridge_tool.specs.declared.one_file.OneFile.TheVariants.{Import, Mps, Nl, Sol}

-- what is written is an MPS text that says the same program
abbrev pub IsMpsMeant : Program Dec → Type 0
IsMpsMeant m = length (mps_text m) ≤ 2 ^ 31 → IsMpsText (mps_text m) m

-- what is written says the same value, so that it is written again unchanged
abbrev pub IsSolMeant : SolValue → Type 0
IsSolMeant sol = length (sol_text sol) ≤ 2 ^ 31 → IsSol (sol_text sol) sol

-- ---- rows

-- what a command reads, why it refuses a text, what the value comes to, and what is then true
pub record CommandRow : Type 1 where
  pub Value : Type 0
  pub reads : List ℕ → Value → Type 0
  pub refuses : List ℕ → List ℕ → Type 0
  pub outcome : Value → Outcome
  pub means : Value → Type 0

-- What is written says the same file, so that it is written again unchanged and exported as the
-- same.
abbrev pub nl_row : CommandRow
nl_row = record {
  Value = NlValue;
  reads = IsNl;
  refuses = HasTextRefusal;
  outcome = λ nl. Done true (nl_text nl.file);
  means = λ nl. IsText nl.file (nl_text nl.file);
}

abbrev pub mps_row : Layout → CommandRow
mps_row layout = record {
  Value = Program Dec;
  reads = IsTextIn layout;
  refuses = IsTextRefused layout;
  outcome = λ m. Done true (mps_text m);
  means = IsMpsMeant;
}

abbrev pub sol_row : CommandRow
sol_row = record {
  Value = SolValue;
  reads = IsSol;
  refuses = IsSolRefused 1;
  outcome = λ sol. Done true (sol_text sol);
  means = IsSolMeant;
}

abbrev pub import_row : CommandRow
import_row = record {
  Value = Program Dec;
  reads = IsMpsText;
  refuses = IsMpsRefused;
  outcome = import_outcome;
  means = MeansTheProgram;
}

abbrev pub row_of : OneFile → CommandRow
row_of Nl = nl_row
row_of (Mps layout) = mps_row layout
row_of Sol = sol_row
row_of Import = import_row

-- ---- the promise

-- no steps are counted
abbrev pub row_told : CommandRow → List ℕ → Texts → Promise
row_told row file texts =
    after_file row.reads row.refuses texts file (λ value.
    ends texts file (λ outcome. outcome ≡ row.outcome value) (λ old new. new ≡ old)
    (row.means value))

abbrev pub row_promise : Option Texts → CommandRow → List ℕ → Promise
row_promise texts row file = desk_promise false (row_told row file) texts
