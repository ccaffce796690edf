-- What is read of a proof, and how a row more changes it: for the contracts of the reader's own
-- functions. That it is what the rows come to is proved.
use Rattle.std.specs.Prelude.{ℕ, ◌==◌, true, List, ◌++◌, length, Option, option_to_list, if◌then◌else◌}
use Rattle.std.specs.Option.{option_or}
use Rattle.text_base.specs.Words.{row_of}
use Rattle.certificates.specs.declared.proof.Claim.{Claim}
use Rattle.certificates.specs.declared.proof.ProofNode.{ProofNode}
use Rattle.certificates.specs.Proofs.{Pair}
use Rattle.branch_proof.specs.Rows.{claim_in, proof_node_in, proof_pair_in}
use Rattle.certificate_text.specs.TextRows.{TextRow}
use Rattle.certificates.specs.Setting.{Setting}
use Rattle.branch_proof.specs.Standing.{ProofStanding}

-- what it is judged by, and what was read of it
pub record ReadSoFar : Type 0 where
  pub setting : Setting
  pub standing : ProofStanding

abbrev pub moved : ReadSoFar → ProofStanding → ReadSoFar
moved read st = record read { standing = st }

abbrev pub with_claim : ProofStanding → Option Claim → ProofStanding
with_claim st c = record st { claim = c }

abbrev pub with_node : ProofStanding → Option ProofNode → ProofStanding
with_node st n = record st { nodes = st.nodes ++ option_to_list n }

abbrev pub with_pair : ProofStanding → Option Pair → ProofStanding
with_pair st p = record st { pairs = st.pairs ++ option_to_list p }

abbrev pub with_row : ProofStanding → TextRow → ProofStanding
with_row st words = record {
  begun = true;
  claim = option_or st.claim (claim_in words);
  nodes = st.nodes ++ option_to_list (proof_node_in words);
  pairs = st.pairs ++ option_to_list (proof_pair_in words);
}

abbrev pub with_line : ProofStanding → List ℕ → ProofStanding
with_line st line = if length (row_of line) == 0 then st else with_row st (row_of line)
