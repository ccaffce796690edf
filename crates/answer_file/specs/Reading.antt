-- What reading an answer for a file answers, and what a reader of one stands for.
use Rattle.std.specs.Prelude.{◌≡◌, ℕ, List, Option, Result}
use Rattle.text_base.specs.declared.stop.Stop.{Stop}
use Rattle.text_base.specs.declared.fault.TextFault.{TextFault}
use Rattle.text_base.specs.Lines.{LinesState}
use Rattle.text_base.specs.Reading.{Stands, Reads, IsRead}
use Rattle.answer_file.specs.declared.fault.AnswerReason.{AnswerReason}
use Rattle.answer_file.specs.Names.{Setting}
use Rattle.answer_file.specs.Grammar.{Standing, AnswerValue, standing, answer_rules, SaysAnswer}

-- the text has no fault as an answer, and says this
abbrev pub IsAnswer : Setting → List ℕ → AnswerValue → Type 0
IsAnswer s text answer = IsRead (answer_rules s) (SaysAnswer s) text answer

-- the text is an answer, which says this, or has this first fault
abbrev pub ReadsAnswer : Setting → List ℕ → Result AnswerValue (Stop (TextFault AnswerReason))
    → Type 0
ReadsAnswer s text result = Reads (answer_rules s) (SaysAnswer s) text result

-- what an answer is judged by, and what was read of it
pub record Progress : Type 0 where
  pub setting : Setting
  pub standing : Standing

-- where a reader is: what was read, the lines of the bytes so far, and why it stopped
pub record Reading : Type 0 where
  pub progress : Progress
  pub lines : LinesState
  pub stopped : Option (Stop (TextFault AnswerReason))

-- the reader was made for this setting, and was fed this text
pub record IsFed (s : Setting) (r : Reading) (text : List ℕ) : Type 0 where
  pub same : r.progress.setting ≡ s
  pub stands : Stands r.stopped (answer_rules r.progress.setting) (λ lines. r.progress.standing
      ≡ standing r.progress.setting lines) r.lines text
