-- What an answer for a file comes to: one outcome, and what the duals mean.
use Rattle.std.proofs.Common.{[], ◌≡◌, ◌∙◌, inl, inr, ◌⊎◌, ℕ, ℤ, ◌+◌, ◌≤◌, List, Bool, true, false, None, is_some, refl, sym, ap, subst}
use Rattle.std.specs.List.{list_any}
use Rattle.text_base.specs.Desk.{Texts}
use Rattle.exact_numbers.specs.declared.dec.Dec.{Dec}
use Rattle.nl_model.specs.FoldFaults.{fold_fault}
use Rattle.linear_program.specs.Programs.{LinearValue, linear_value}
use Rattle.nl_model.specs.declared.header_counts.Counts.{Counts}
use Rattle.nl_model.specs.Rules.{IsFile}
use Rattle.nl_segments.specs.Grammar.{NlValue}
use Rattle.row_scaling.specs.Scaled.{ScaledValue}
use Rattle.row_scaling.specs.Scaling.{IsScaledOf}
use Rattle.sol_files.specs.Sol.{Sol}
use Rattle.sol_files.specs.Written.{sol_text}
use Rattle.answer_file.specs.Grammar.{AnswerValue}
use Rattle.answer_file.specs.Names.{Setting, named_setting, setting_of}
use Rattle.answer_file.specs.Reading.{IsAnswer}
use Rattle.dual_return.specs.Return.{AreDualsIf, HasReturnFault, IsAnswered, IsAnswerFor, IsReturn, MeanTheProgram}
use Rattle.dual_return.specs.declared.fault.ReturnFault.{ReturnFault}
use Rattle.dual_return.proofs.LawOfReturn.{duals_mean}
use Rattle.dual_return.proofs.OneReturn.{one-return}
use Rattle.command_parts.specs.AnswerTold.{return_line}
use Rattle.command_core.specs.Promise.{Promise}
use Rattle.command_parts.specs.Refusal.{IsAnswerRefused}
use Rattle.bridge_tool.specs.Return.{IsReturnMeant, IsReturned, IsReturnRefused, ReturnsAs, after_answer}
use Rattle.command_parts.specs.Stages.{HasFolded, HasScaled, CanBeExported, CannotBeExported, fold_steps}
use Rattle.command_core.proofs.SeveralFiles.{IsEither, IsLast, IsSound, NoVerdict, either_last, last_sound}
use Rattle.command_parts.proofs.ExportStages.{folded_at, one_reason, staged, staged_or_not, staged_so}
use Rattle.command_parts.proofs.TextsRead.{answer_read}

-- ---- the second file

-- ---- what both come to

module _ (nl : NlValue) (a : AnswerValue) where
  one_bytes : (x y : List ℕ) → IsReturned nl a x → IsReturned nl a y → x ≡ y
  one_bytes x y h k = h.written ∙ ap sol_text ((one-return nl.file a).one_sol h.sol k.sol h.returned k.returned) ∙ sym k.written

  apart : (bytes line : List ℕ) → IsReturned nl a bytes → IsReturnRefused nl a line → ⊥
  apart bytes line h (inl k) = staged_or_not nl a.objective h.staged line k
  apart bytes line h (inr k) = (one-return nl.file a).not_both h.sol k.first.fault h.returned k.first.first

  one_line : (x y : List ℕ) → IsReturnRefused nl a x → IsReturnRefused nl a y → x ≡ y
  one_line x y (inl h) (inl k) = one_reason nl a.objective x y h k
  one_line x y (inl h) (inr k) = absurd (staged_or_not nl a.objective k.staged x h)
  one_line x y (inr h) (inl k) = absurd (staged_or_not nl a.objective h.staged y k)
  one_line x y (inr h) (inr k) = h.first.told ∙ ap return_line ((one-return nl.file a).one_fault h.first.fault k.first.fault h.first.first k.first.first) ∙ sym k.first.told

  by_return : CanBeExported nl a.objective → ((s : Sol) × IsReturn nl.file a s) ⊎
      ((fault : ReturnFault) × HasReturnFault nl.file a fault)
      → ((bytes : List ℕ) × IsReturned nl a bytes) ⊎ ((line : List ℕ) × IsReturnRefused nl a line)
  by_return is (inl s) = inl (sol_text s.0, record { staged = is; sol = s.0; returned = s.1; written = refl })
  by_return is (inr w) = inr (return_line w.0, inr (record { staged = is; first = record { fault = w.0; first = w.1; told = refl } }))

  by_stages : CanBeExported nl a.objective ⊎ ((line : List ℕ) × CannotBeExported nl a.objective line) → ((bytes : List ℕ) × IsReturned nl a bytes) ⊎ ((line : List ℕ) × IsReturnRefused nl a line)
  by_stages (inl is) = by_return is (one-return nl.file a).some
  by_stages (inr why) = inr (why.0, inl why.1)

  return_either : IsEither (IsReturned nl a) (IsReturnRefused nl a)
  return_either = record { accepted = one_bytes; refused = one_line; either = by_stages (staged nl a.objective); apart = apart }

-- ---- what the code answers

module _ (nl : NlValue) (a : AnswerValue) (n : ℕ) (same : n ≡ a.objective) where
  pub staged_by : (l : LinearValue) (s : ScaledValue) → HasFolded nl n l → HasScaled (linear_value l) s → CanBeExported nl a.objective
  staged_by l s folds scales = staged_so nl a.objective l (folded_at nl n a.objective l same folds) s scales

  -- the answer is one for the file, and its program is scaled so
  pub answered : (counts : Counts) (options : List ℤ) (l : LinearValue) (s : ScaledValue) → counts ≡ nl.file.counts
      → options ≡ nl.file.options → IsAnswerFor nl.file a → HasFolded nl n l → HasScaled (linear_value l) s
      → IsAnswered counts options s a nl.file
  answered counts options l s head first made folds scales =
      record { counts_are = head; options_are = first; answer = made; scaled = subst (λ f. IsScaledOf f s) (folded_at nl n a.objective l same folds).linear scales.scaled }

-- the duals mean what the law of return says; where there are none, of each that is there
mean_if : (nl : NlValue) (a : AnswerValue) (b : Bool) (duals : List Dec) → IsFile nl.file → fold_fault nl.file a.objective ≡ None → AreDualsIf b nl.file a duals → MeanTheProgram nl.file a duals
mean_if nl a true duals file folded are = duals_mean nl.file a duals file folded are
mean_if nl a false duals file folded are =
    let none : MeanTheProgram nl.file a [] = record { plain = λ i d w xs is. absurd cc; tied = λ i d w xs z count is. absurd cc } in
    subst (λ (ds : List Dec). MeanTheProgram nl.file a ds) (sym are) none

pub return_meant : (nl : NlValue) (a : AnswerValue) → IsFile nl.file → IsReturnMeant nl a
return_meant nl a file = λ bytes r. mean_if nl a (list_any is_some a.rows) r.sol.duals file r.staged.folded r.returned.duals

-- ---- the command

pub answer_last : (s : Setting) (nl : NlValue) → IsLast false (IsAnswer s) (IsAnswerRefused s) (λ a. ReturnsAs nl a) (λ a old new. new ≤ old + fold_steps nl a.objective)
answer_last s nl = either_last (answer_read s) (IsReturned nl) (IsReturnRefused nl) (λ a. fold_steps nl a.objective) (return_either nl)

pub return_last : (nl : NlValue) → IsLast false (IsAnswer (setting_of nl.file)) (IsAnswerRefused (setting_of nl.file)) (λ a. ReturnsAs nl a) (λ a old new. new ≤ old + fold_steps nl a.objective)
return_last nl = answer_last (setting_of nl.file) nl

-- ---- with names

module _ (answer : List ℕ) (nl : NlValue) (texts : Texts) (r c : List (List ℕ)) where
  -- what is left once both lists were read
  abbrev pub after_names : Promise
  after_names = after_answer (named_setting nl.file r c) nl texts answer

  pub names_sound : IsSound after_names
  names_sound = last_sound (answer_last (named_setting nl.file r c) nl) (λ a bytes. IsReturnMeant nl a) NoVerdict answer texts
