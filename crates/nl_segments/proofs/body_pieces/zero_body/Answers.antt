use Rattle.std.proofs.Common.{◌≡◌, ◌∙◌, ◌++◌, ◌∷◌, [], ap, arith, subst, sym}
use Rattle.text_base.specs.Words.{row_of, without_comment}
use Rattle.nl_model.specs.Nodes.{AreNodesOf, awaited, tree_of}
use Rattle.nl_segments.proofs.body_pieces.zero_body.Goals as goal

pub push-requires-clause-formed : goal.push-requires-clause-formed
push-requires-clause-formed c = (rw c.in-Whole.is at c.in-Ok.ensures (row_of (without_comment c.in-Some.ensures.line)) c.in-Some.ensures.row).1.read.1

pub returns : goal.returns
returns c =
    let same : c.push.new.self ≡ c.in-Whole.node ∷ [] = c.in-Ok-push.ensures.ok ∙ ap (λ ns. ns ++ c.in-Whole.node ∷ []) c.new-nodes.ensures in
    let none : awaited c.push.new.self ≡ 0 = omega (arith, c.wants.ensures, c.if-wants-gt0.false) in (
      c.in-Body.is,
      record {
        leaf = c.in-Some.first.leaf;
        node = c.in-Whole.node;
        first = c.in-Some.ensures;
        read = λ words p. rw c.in-Whole.is at c.in-Ok.ensures words p;
        whole = ap awaited (sym same) ∙ none;
        is = c.finish.ensures.tree ∙ ap tree_of same;
        nodes = subst (AreNodesOf c.finish.result) same c.finish.ensures.nodes;
      },
    )
