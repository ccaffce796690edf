-- A line more, and what is read for a reader's setting.
use Rattle.std.proofs.Common.{◌≡◌, ◌∙◌, ℕ, ◌+◌, List, [], ◌∷◌, ◌++◌, length, Result, Ok, Err, sym, ap}
use Rattle.std.specs.Prelude.{OnOk}
use Rattle.text_base.specs.Judged.{Takes}
use Rattle.text_base.specs.declared.stop.Stop.TheVariants.{Fault, Memory}
use Rattle.text_base.specs.declared.stop.Stop.{Stop}
use Rattle.branch_proof.specs.declared.fault.ProofReason.{ProofReason}
use Rattle.certificate_text.specs.TextRows.{rows_in}
use Rattle.branch_proof.specs.Standing.{ProofStanding, proof_standing}
use Rattle.branch_proof.specs.Steps.{ReadSoFar, moved, with_line}
use Rattle.branch_proof.proofs.Steps.{line_push}
use Rattle.branch_proof.specs.Tests.{ProofTests}

-- a line that is taken goes on from the lines before it
pub took_more : (tests : ProofTests) (old new : ReadSoFar) (line : List ℕ) (number : ℕ) (r : Result (Unit {0}) (Stop ProofReason)) → Takes tests (moved old (with_line old.standing line)) r new
    → OnOk r ((lines : List (List ℕ)) → number ≡ length lines + 1 → old.standing ≡ proof_standing (rows_in lines) → new.standing ≡ proof_standing (rows_in (lines ++ line ∷ [])))
took_more tests old new line number (Ok u) h = λ lines at e. ap (λ (read : ReadSoFar). read.standing) h.1 ∙ ap (λ (st : ProofStanding). with_line st line) e ∙ sym (line_push lines line)
took_more tests old new line number (Err (Fault reason)) h = tt
took_more tests old new line number (Err Memory) h = tt
