-- The command return: the .sol file of an answer for an .nl file, and that its duals mean what the
-- answer says. The answer is the second file; all other faults are told as of the first.
use Rattle.std.specs.Prelude.{◌≡◌, ◌⊎◌, ℕ, ◌+◌, ◌≤◌, false, List, Result}
use Rattle.text_base.specs.declared.stop.Stop.{Stop}
use Rattle.std.specs.declared.option.Option.{Option}
use Rattle.text_base.specs.Desk.{Texts}
use Rattle.nl_segments.specs.Grammar.{NlValue}
use Rattle.nl_segments.specs.Reader.{IsNl}
use Rattle.sol_files.specs.Sol.{Sol}
use Rattle.sol_files.specs.Written.{sol_text}
use Rattle.answer_file.specs.Grammar.{AnswerValue}
use Rattle.answer_file.specs.Names.{Setting, named_setting, setting_of}
use Rattle.answer_file.specs.Reading.{IsAnswer}
use Rattle.dual_return.specs.Return.{HasReturnFault, IsReturn, MeanTheProgram}
use Rattle.command_parts.specs.AnswerTold.{return_line}
use Rattle.command_core.specs.InsideRefusal.{Gives}
use Rattle.command_core.specs.declared.refused.Refusal.{Refusal}
use Rattle.command_parts.specs.NameLists.{after_lists}
use Rattle.command_core.specs.Outcome.{DoneOrRefused, Outcome}
use Rattle.command_core.specs.Promise.{Promise}
use Rattle.command_parts.specs.Refusal.{HasTextRefusal, IsAnswerRefused}
use Rattle.command_core.specs.SeveralFiles.{after_file, desk_promise, ends}
use Rattle.command_parts.specs.Stages.{CanBeExported, CannotBeExported, fold_steps}
use Rattle.command_core.specs.Told.{TellsFault}

-- ---- what both values come to

-- the answer is returned as a .sol file, the written text of which is these bytes
pub record IsReturned (nl : NlValue) (a : AnswerValue) (bytes : List ℕ) : Type 0 where
  pub staged : CanBeExported nl a.objective
  pub sol : Sol
  pub returned : IsReturn nl.file a sol
  pub written : bytes ≡ sol_text sol

-- it scales, and a dual is too wide
pub record HasWideDual (nl : NlValue) (a : AnswerValue) (line : List ℕ) : Type 0 where
  pub staged : CanBeExported nl a.objective
  pub first : TellsFault (HasReturnFault nl.file a) return_line line

abbrev pub IsReturnRefused : NlValue → AnswerValue → List ℕ → Type 0
IsReturnRefused nl a line = CannotBeExported nl a.objective line ⊎ HasWideDual nl a line

-- what an answer for a file comes to
abbrev pub ReturnsAs : NlValue → AnswerValue → Outcome → Type 0
ReturnsAs nl a = DoneOrRefused (IsReturned nl a) (IsReturnRefused nl a)

-- what making the .sol value answers
abbrev pub Makes : NlValue → AnswerValue → Result Sol (Stop Refusal) → Type 0
Makes nl a =
    Gives (λ sol. CanBeExported nl a.objective × IsReturn nl.file a sol) (IsReturnRefused nl a)

-- The duals that are written mean at every point what the answer says of the exported program.
abbrev pub IsReturnMeant : NlValue → AnswerValue → Type 0
IsReturnMeant nl a = (bytes : List ℕ) (r : IsReturned nl a bytes)
    → MeanTheProgram nl.file a r.sol.duals

-- ---- the promise

-- the answer of this setting is read, and returned for the file
abbrev pub after_answer : Setting → NlValue → Texts → List ℕ → Promise
after_answer s file texts answer =
    after_file (IsAnswer s) (IsAnswerRefused s) texts answer (λ a.
    ends texts answer (ReturnsAs file a) (λ old new. new ≤ old + fold_steps file a.objective)
    (IsReturnMeant file a))

abbrev pub return_told : List ℕ → List ℕ → Texts → Promise
return_told nl answer texts =
    after_file IsNl HasTextRefusal texts nl (λ file.
    after_answer (setting_of file.file) file texts answer)

abbrev pub return_promise : Option Texts → List ℕ → List ℕ → Promise
return_promise texts nl answer = desk_promise false (return_told nl answer) texts

-- ---- with names

-- the lists are the third and the fourth file, and are read before the answer
abbrev pub named_return_told : (nl answer rows columns : List ℕ) → Texts → Promise
named_return_told nl answer rows columns texts =
    after_file IsNl HasTextRefusal texts nl (λ file.
    after_lists file.file 3 texts rows columns (λ r c.
    after_answer (named_setting file.file r c) file texts answer))

abbrev pub named_return_promise : Option Texts → (nl answer rows columns : List ℕ) → Promise
named_return_promise texts nl answer rows columns =
    desk_promise false (named_return_told nl answer rows columns) texts
