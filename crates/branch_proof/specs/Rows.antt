-- The rows of a proof text (own format), and what their words say. After `proof 1` come the claim,
-- `value K V` or `infeasible`, and one tree in prefix order: `split J T`, followed by the part
-- "variable J at most T" and the part "at least T + 1"; or a leaf `duals N` or `weights N`,
-- followed by N rows `I VALUE`, the number of constraint I.
use Rattle.std.specs.Prelude.{ℕ, ℤ, Bool, true, false, not, ◌&&◌, ◌||◌, Option, Some, None, codes, if◌then◌else◌}
use Rattle.exact_numbers.specs.Fits.{fits}
use Rattle.text_base.specs.Words.{word_at}
use Rattle.exact_numbers.specs.Numbers.{dec_of, signed_of, whole_of}
use Rattle.exact_numbers.specs.Values.{dec_value}
use Rattle.exact_numbers.specs.declared.dec.Dec.{Dec}
use Rattle.certificates.specs.declared.proof.Claim.{Claim}
use Rattle.certificates.specs.declared.proof.Claim.TheVariants.{Value, Infeasible}
use Rattle.certificates.specs.declared.proof.ProofNode.{ProofNode}
use Rattle.certificates.specs.declared.proof.ProofNode.TheVariants.{Split, Duals, Weights}
use Rattle.certificates.specs.Proofs.{Pair}
use Rattle.certificate_text.specs.TextRows.{TextRow, is_row}

-- ---- the first word

abbrev pub is_claim_row : TextRow → Bool
is_claim_row words = is_row (codes "infeasible") 1 words || is_row (codes "value") 3 words

-- the claim is that there is no relaxed point
abbrev pub is_alone : Option Claim → Bool
is_alone (Some Infeasible) = true
is_alone claim = false

-- a row of a node under this claim: under `infeasible` it is `weights`
abbrev pub is_node_row : Option Claim → TextRow → Bool
is_node_row claim words =
    is_row (codes "weights") 2 words
    || (not (is_alone claim) && (is_row (codes "duals") 2 words || is_row (codes "split") 3 words))

-- ---- what they say, whatever stands before them

abbrev pub value_claim : Option ℕ → Option Dec → Option Claim
value_claim (Some k) (Some v) = if fits (dec_value v) then Some (Value k v) else None
value_claim k v = None

-- `value K V`, where V is a fraction too, or `infeasible`
unfoldable pub claim_in : TextRow → Option Claim
claim_in words =
    if is_row (codes "infeasible") 1 words then Some Infeasible
    else if is_row (codes "value") 3 words
    then value_claim (whole_of (word_at words 1)) (dec_of (word_at words 2))
    else None

abbrev pub split_node : Option ℕ → Option ℤ → Option ProofNode
split_node (Some j) (Some t) = Some (Split j t)
split_node j t = None

abbrev pub leaf_in : (ℕ → ProofNode) → Option ℕ → Option ProofNode
leaf_in node None = None
leaf_in node (Some n) = Some (node n)

-- `split J T`, `duals N` or `weights N`
unfoldable pub proof_node_in : TextRow → Option ProofNode
proof_node_in words =
    if is_row (codes "split") 3 words
    then split_node (whole_of (word_at words 1)) (signed_of (word_at words 2))
    else if is_row (codes "duals") 2 words then leaf_in Duals (whole_of (word_at words 1))
    else if is_row (codes "weights") 2 words then leaf_in Weights (whole_of (word_at words 1))
    else None

abbrev pub pair_of : Option ℕ → Option Dec → Option Pair
pair_of (Some i) (Some v) = Some (i, v)
pair_of i v = None

-- `I VALUE`
unfoldable pub proof_pair_in : TextRow → Option Pair
proof_pair_in words = pair_of (whole_of (word_at words 0)) (dec_of (word_at words 1))
