-- Lists of names as files of a command: which of them a file's rows and columns take, and why a
-- list is refused.
use Rattle.std.specs.Prelude.{ℕ, ◌+◌, List}
use Rattle.text_base.specs.Desk.{Texts}
use Rattle.text_base.specs.Reading.{HasFault, IsRead}
use Rattle.name_files.specs.Names.{Counts, SaysNames, name_rules}
use Rattle.nl_model.specs.File.{File}
use Rattle.name_files.specs.Reasons.{name_reason_text}
use Rattle.command_core.specs.Told.{fault_line}
use Rattle.command_core.specs.Promise.{Promise}
use Rattle.command_core.specs.SeveralFiles.{after_file}
use Rattle.command_core.specs.Told.{TellsFault}

-- a name for each constraint, and then none or one for each objective
abbrev pub row_counts : File → Counts
row_counts f = record { used = f.counts.n_con; further = f.counts.n_obj }

-- a name for each variable
abbrev pub column_counts : File → Counts
column_counts f = record { used = f.counts.n_var; further = 0 }

-- the text is a list of so many names, and these are used
abbrev pub AreListed : Counts → List ℕ → List (List ℕ) → Type 0
AreListed counts text names = IsRead (name_rules counts) (SaysNames counts) text names

-- the text has a first fault as a list of so many names, which this line tells of this file
abbrev pub IsListRefused : Counts → (file : ℕ) → List ℕ → List ℕ → Type 0
IsListRefused counts file text =
    TellsFault (HasFault (name_rules counts) text) (fault_line name_reason_text file)

-- Both lists of names of a file are read, that of rows first, and lead to what is next. They are
-- this file of the command and the one after it.
abbrev pub after_lists : File → ℕ → Texts → (rows columns : List ℕ)
    → (next : List (List ℕ) → List (List ℕ) → Promise) → Promise
after_lists f number texts rows columns next =
    after_file (AreListed (row_counts f)) (IsListRefused (row_counts f) number) texts rows (λ r.
    after_file (AreListed (column_counts f)) (IsListRefused (column_counts f) (number + 1)) texts
    columns (λ c. next r c))
