-- A line of a text, and its end.
use Rattle.std.proofs.Common.{◌≡◌, ◌∙◌, ℕ, ◌+◌, List, [], ◌∷◌, ◌++◌, length, Result, Ok, Err, sym, ap}
use Rattle.std.specs.Prelude.{OnOk}
use Rattle.text_base.specs.Judged.{Takes}
use Rattle.text_base.specs.declared.stop.Stop.{Stop}
use Rattle.text_base.specs.declared.stop.Stop.TheVariants.{Fault, Memory}
use Rattle.answer_file.specs.declared.fault.AnswerReason.{AnswerReason}
use Rattle.answer_file.specs.Names.{Setting}
use Rattle.answer_file.specs.Grammar.{Standing, standing, line_tests}
use Rattle.answer_file.specs.Reading.{Progress}
use Rattle.answer_file.specs.Steps.{after}
use Rattle.answer_file.proofs.StandingLemmas.{standing_more}

took-more : (s : Setting) (old new : Standing) (line : List ℕ) (number : ℕ) (r : Result (Unit {0}) (Stop AnswerReason)) → Takes (line_tests s old line) (after s old line) r new
    → OnOk r ((lines : List (List ℕ)) → number ≡ length lines + 1 → old ≡ standing s lines → new ≡ standing s (lines ++ line ∷ []))
took-more s old new line number (Ok u) h = λ lines at e. h.1 ∙ ap (λ (st : Standing). after s st line) e ∙ sym (standing_more s lines line)
took-more s old new line number (Err (Fault reason)) h = tt
took-more s old new line number (Err Memory) h = tt

-- the same for a whole reader
pub held-more : (s : Setting) (old new : Standing) (held : Progress) (line : List ℕ) (number : ℕ)
    (r : Result (Unit {0}) (Stop AnswerReason)) → record { setting = s; standing = old } ≡ held
    → Takes (line_tests s old line) (after s old line) r new
    → OnOk r ((lines : List (List ℕ)) → number ≡ length lines + 1 → held.standing ≡ standing held.setting lines → new ≡ standing s (lines ++ line ∷ []))
held-more s old new held line number r same h = rw (← same) (took-more s old new line number r h)
