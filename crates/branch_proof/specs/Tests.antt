-- The tests of a line, in their order: the first that holds gives the reason.
use Rattle.std.specs.Prelude.{ℕ, ◌^◌, ◌==◌, Bool, true, false, not, nat_le, nat_lt, List, [], ◌∷◌, length, get_or, Option, Some, is_none, codes, if◌then◌else◌}
use Rattle.std.specs.Option.{option_map_or}
use Rattle.text_base.specs.Words.{row_of}
use Rattle.linear_program.specs.declared.kind.Kind.{Kind}
use Rattle.linear_program.specs.declared.kind.Kind.TheVariants.{Continuous}
use Rattle.linear_program.specs.Intervals.{is_whole_kind}
use Rattle.certificates.specs.declared.proof.ProofNode.{ProofNode}
use Rattle.certificates.specs.declared.proof.ProofNode.TheVariants.{Split}
use Rattle.certificates.specs.Proofs.{Pair}
use Rattle.branch_proof.specs.declared.fault.ProofReason.{ProofReason}
use Rattle.branch_proof.specs.declared.fault.ProofReason.TheVariants.{BadFirst, BadLine, BadNumber, IndexOut, NotWhole, RepeatedIndex, Short, Extra, TooLarge}
use Rattle.certificates.specs.Setting.{Setting}
use Rattle.branch_proof.specs.Rows.{claim_in, is_claim_row, is_node_row, proof_node_in, proof_pair_in}
use Rattle.certificate_text.specs.TextRows.{TextRow, is_first_row}
use Rattle.branch_proof.specs.Standing.{ProofStanding, has_pair, is_whole_proof, last_pairs, pairs_left, subtrees_left}

abbrev pub ProofTests : Type 0
ProofTests = List (Bool × ProofReason)

-- ---- the first row, and the claim

unfoldable pub first_tests : TextRow → ProofTests
first_tests words = (not (is_first_row (codes "proof") words), BadFirst) ∷ []

unfoldable pub claim_tests : TextRow → ProofTests
claim_tests words =
    (not (is_claim_row words), BadLine) ∷ (is_none (claim_in words), BadNumber) ∷ []

-- ---- nodes: at most 65,536

abbrev pub is_split_out : List Kind → Option ProofNode → Bool
is_split_out kinds (Some (Split j t)) = nat_le (length kinds) j
is_split_out kinds other = false

abbrev pub is_split_continuous : List Kind → Option ProofNode → Bool
is_split_continuous kinds (Some (Split j t)) = not (is_whole_kind (get_or kinds j Continuous))
is_split_continuous kinds other = false

unfoldable pub proof_node_tests : Setting → ProofStanding → TextRow → ProofTests
proof_node_tests s st words =
    (not (is_node_row st.claim words), BadLine)
    ∷ (is_none (proof_node_in words), BadNumber)
    ∷ (is_split_out s.kinds (proof_node_in words), IndexOut)
    ∷ (is_split_continuous s.kinds (proof_node_in words), NotWhole)
    ∷ (nat_le (2 ^ 16) (length st.nodes), TooLarge) ∷ []

-- ---- pairs: at most 2^22 in all

abbrev pub is_pair_out : ℕ → Option Pair → Bool
is_pair_out rows pair = option_map_or (λ p. nat_le rows p.0) pair false

abbrev pub is_repeated_pair : List Pair → Option Pair → Bool
is_repeated_pair own pair = option_map_or (λ p. has_pair own p.0) pair false

unfoldable pub proof_pair_tests : Setting → ProofStanding → TextRow → ProofTests
proof_pair_tests s st words =
    (not (length words == 2), BadLine)
    ∷ (is_none (proof_pair_in words), BadNumber)
    ∷ (is_pair_out s.rows (proof_pair_in words), IndexOut)
    ∷ (is_repeated_pair (last_pairs st.nodes st.pairs) (proof_pair_in words), RepeatedIndex)
    ∷ (nat_le (2 ^ 22) (length st.pairs), TooLarge) ∷ []

-- ---- all rows: by what is awaited

unfoldable pub proof_row_tests : Setting → ProofStanding → TextRow → ProofTests
proof_row_tests s st words =
    if not st.begun then first_tests words
    else if is_none st.claim then claim_tests words
    else if nat_lt 0 (pairs_left st) then proof_pair_tests s st words
    else if nat_lt 0 (subtrees_left st) then proof_node_tests s st words
    else (true, Extra) ∷ []

unfoldable pub proof_line_tests : Setting → ProofStanding → List ℕ → ProofTests
proof_line_tests s st line =
    if length (row_of line) == 0 then [] else proof_row_tests s st (row_of line)

-- the end of the text
unfoldable pub proof_end_tests : ProofStanding → ProofTests
proof_end_tests st = (not st.begun, BadFirst) ∷ (not (is_whole_proof st), Short) ∷ []
