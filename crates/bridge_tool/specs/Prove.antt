-- The command prove: what a proof by branches shows of an .nl text.
use Rattle.std.specs.Prelude.{◌≡◌, ℕ, ◌+◌, ◌≤◌, false, true, List, is_none}
use Rattle.std.specs.declared.option.Option.{Option}
use Rattle.std.specs.declared.option.Option.TheVariants.{None, Some}
use Rattle.linear_program.specs.Linear.{row_count}
use Rattle.certificates.specs.Branch.{LeafFault, proof_fault}
use Rattle.certificates.specs.LeafSays.{IsLeafDenied}
use Rattle.text_base.specs.Desk.{Texts}
use Rattle.nl_model.specs.LinearFile.{linear_of}
use Rattle.linear_fold.specs.FoldedFaults.{first_fold_fault}
use Rattle.linear_fold.specs.declared.fold_fault.FoldFault.{FoldFault}
use Rattle.nl_segments.specs.Grammar.{NlValue}
use Rattle.nl_segments.specs.Reader.{IsNl}
use Rattle.certificates.specs.declared.proof.Claim.{Claim}
use Rattle.certificates.specs.declared.proof.Claim.TheVariants.{Value, Infeasible}
use Rattle.certificates.specs.ProofSays.{IsProvedTrueOf}
use Rattle.problems.specs.FileProblem.{problem_of}
use Rattle.certificates.specs.Proofs.{ProofValue, claim_value, tree_over}
use Rattle.certificates.specs.ProofReading.{tree_in}
use Rattle.branch_proof.specs.Reader.{IsProofText}
use Rattle.problems.specs.NlSetting.{setting_of}
use Rattle.command_parts.specs.NlTold.{fold_line}
use Rattle.command_core.specs.Outcome.{Outcome, Refused, Done}
use Rattle.command_core.specs.Promise.{Promise}
use Rattle.command_parts.specs.ProofTold.{leaf_line}
use Rattle.command_parts.specs.Refusal.{HasTextRefusal, IsProofRefused}
use Rattle.command_core.specs.SeveralFiles.{after_file, desk_promise, judges_last}
use Rattle.command_parts.specs.Stages.{fold_steps}

-- ---- what the values of both files come to

-- the number of the objective of a claim; 0 where it is of none
abbrev pub claimed_objective : Claim → ℕ
claimed_objective (Value k d) = k
claimed_objective Infeasible = 0

-- the first leaf that does not close in the linear program of the file
abbrev pub open_leaf : NlValue → ProofValue → Option LeafFault
open_leaf nl p =
    let f = linear_of nl.file (claimed_objective p.claim) in
    proof_fault f (claim_value p.claim) (tree_over (row_count f) (tree_in p))

abbrev pub by_leaf : Option LeafFault → Outcome
by_leaf fault = Done (is_none fault) (leaf_line fault)

abbrev pub by_fold : NlValue → ProofValue → Option FoldFault → Outcome
by_fold nl p (Some fault) = Refused (fold_line nl.places fault)
by_fold nl p None = by_leaf (open_leaf nl p)

-- A file that does not fold with the objective of the claim is refused. Else the verdict on the
-- proof is written.
abbrev pub prove_outcome : NlValue → ProofValue → Outcome
prove_outcome nl p = by_fold nl p (first_fold_fault nl.file (claimed_objective p.claim))

-- What a yes means: the stated value is at least as good as the objective at each feasible point of
-- the file, whole variables whole; or each point breaks a constraint or a bound.
abbrev pub IsProvedOf : NlValue → ProofValue → Type 0
IsProvedOf nl p = IsProvedTrueOf (problem_of nl.file (claimed_objective p.claim)) p.claim

-- what a no means: what the line tells of a leaf is so
pub record IsLeftOpen (nl : NlValue) (p : ProofValue) : Type 0 where
  pub fault : LeafFault
  pub line : prove_outcome nl p ≡ Done false (leaf_line (Some fault))
  pub denies : let k = claimed_objective p.claim in let f = linear_of nl.file k in
      IsLeafDenied (problem_of nl.file k) f (tree_over (row_count f) (tree_in p)) fault

-- ---- the promise

abbrev pub prove_told : List ℕ → List ℕ → Texts → Promise
prove_told nl proof texts =
    after_file IsNl HasTextRefusal texts nl (λ file.
    after_file (IsProofText (setting_of file.file)) (IsProofRefused (setting_of file.file) 2) texts
    proof (λ p.
    judges_last (texts proof) (λ outcome. outcome ≡ prove_outcome file p)
    (λ old new. new ≤ old + fold_steps file (claimed_objective p.claim))
    (λ bytes. IsProvedOf file p) (IsLeftOpen file p)))

abbrev pub prove_promise : Option Texts → List ℕ → List ℕ → Promise
prove_promise texts nl proof = desk_promise true (prove_told nl proof) texts
