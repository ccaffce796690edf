use Rattle.std.proofs.Common.{not, sym, ap}
use Rattle.branch_proof.proofs.RowLemmas.{at_claim, at_first, at_node, at_pair}
use Rattle.certificate_text.proofs.TestLemmas.{none_left, some_left}
use Rattle.branch_proof.proofs.grammar.ProofGrammar.take_row.Goals as goal

pub returns-then-not-has_begun-clause-row : goal.returns-then-not-has_begun-clause-row
returns-then-not-has_begun-clause-row c = at_first _ _ _ _ (sym c.if-not-has_begun.ensures) c.take_first.ensures.row

pub returns-then-not-has_claim-clause-row : goal.returns-then-not-has_claim-clause-row
returns-then-not-has_claim-clause-row c = at_claim _ _ _ _ (sym c.if-not-has_begun.ensures) (ap not (sym c.if-not-has_claim.ensures)) c.take_claim.ensures.row

pub returns-then-pairs_left-gt0-clause-row : goal.returns-then-pairs_left-gt0-clause-row
returns-then-pairs_left-gt0-clause-row c =
    at_pair _ _ _ _ (sym c.if-not-has_begun.ensures) (ap not (sym c.if-not-has_claim.ensures)) (some_left _ _ c.pairs_left.ensures c.if-pairs_left-gt0.true) c.take_pair.ensures.row

pub returns-then-subtrees_left-gt0-clause-row : goal.returns-then-subtrees_left-gt0-clause-row
returns-then-subtrees_left-gt0-clause-row c =
    at_node _ _ _ _ (sym c.if-not-has_begun.ensures) (ap not (sym c.if-not-has_claim.ensures)) (none_left _ _ c.pairs_left.ensures c.if-pairs_left-gt0.false)
    (some_left _ _ c.subtrees_left.ensures c.if-subtrees_left-gt0.true) c.take_node.ensures.row
