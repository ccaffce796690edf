use Rattle.std.proofs.Common.{◌+◌, ◌<◌, ◌^◌, arith, drop, subst, sym}
use Rattle.std.specs.Prelude.{All, Ok}
use Rattle.nl_lines.specs.NodeRows.{IsNodeKnown}
use Rattle.std.proofs.lemmas.List.{length-drop}
use Rattle.text_base.specs.Judged.{Decides}
use Rattle.nl_lines.specs.FirstRows.{IsFirstRow}
use Rattle.nl_lines.specs.Leaves.{IsLeafRow}
use Rattle.nl_model.specs.Nodes.{awaited}
use Rattle.nl_segments.specs.InsideNodeRuns.{with_nodes}
use Rattle.nl_segments.specs.InsideTermRuns.{TakesLines}
use Rattle.nl_segments.specs.InsideTreeSteps.{IsNextRow, counted_node_tests}
use Rattle.nl_segments.proofs.NodeRuns.{IsReadAfter, can_node, few_read, known_first, known_next, no_node, node_taken}
use Rattle.nl_segments.proofs.body_leaves.give_nodes.Goals.{In-Whole}
use Rattle.nl_segments.proofs.body_leaves.give_nodes.Goals as goal

pub lines-init : goal.lines-init
lines-init c = record {
  few = omega arith;
  known = known_first c.args.builder.now c.args.nodes.now c.args.before c.requires;
  within = omega arith;
  takes = λ b cur number is. no_node c.args.builder.now c.args.nodes.now c.args.before b cur number c.args.piece.now is;
}

-- ---- the next line, which is a node

some : (c : In-Whole) → 0 < awaited c.lines.nodes
some c = omega (arith, c.wants.ensures, c.lines-test.true)

read : (c : In-Whole) → IsReadAfter c.args.builder.now (c.args.before + c.lines.front.lines) c.in-Some.line.leaf c.in-Whole.node
read c =
    let d = c.args.builder.now in
    let count = c.args.before + c.lines.front.lines in
    λ words p. subst (λ r. Decides (counted_node_tests d.counts d count words) (IsNextRow d.counts count words) (Ok r)) c.in-Whole.is (c.in-Ok.ensures words p)

first : (c : In-Whole) → IsFirstRow (drop c.lines.front.len c.args.piece.now) c.in-Some.line.len (λ words. IsLeafRow words c.in-Some.line.leaf)
first c = subst (λ bytes. IsFirstRow bytes c.in-Some.line.len (λ words. IsLeafRow words c.in-Some.line.leaf)) c.split_at.ensures.back c.in-Some.ensures

few : (c : In-Whole) → c.args.before + c.lines.front.lines < 2 ^ 22
few c = few_read c.args.builder.now (c.args.before + c.lines.front.lines) (drop c.lines.front.len c.args.piece.now) c.in-Some.line.len c.in-Some.line.leaf c.in-Whole.node (first c) (read c)

pub push-requires-clause-few : goal.push-requires-clause-few
push-requires-clause-few c =
    let d = (goal.at.push-requires-clause-few c).In-Whole in
    let h = c.requires in
    (can_node c.args.builder.now c.args.nodes.now c.lines.nodes c.in-Whole.node c.args.before c.args.piece.now
    c.lines.front c.in-Some.line.len c.in-Some.line.leaf h (some d) (c.lines.invariant.takes h.body h.current 1 h.is)
    (first d) (read d)).few

pub push-requires-clause-formed : goal.push-requires-clause-formed
push-requires-clause-formed c =
    let d = (goal.at.push-requires-clause-formed c).In-Whole in
    let h = c.requires in
    (can_node c.args.builder.now c.args.nodes.now c.lines.nodes c.in-Whole.node c.args.before c.args.piece.now
    c.lines.front c.in-Some.line.len c.in-Some.line.leaf h (some d) (c.lines.invariant.takes h.body h.current 1 h.is)
    (first d) (read d)).formed

pub lines-smaller : goal.lines-smaller
lines-smaller c = omega (arith, few (goal.at.lines-smaller c).In-Whole)

pub lines-preserved : goal.lines-preserved
lines-preserved c =
    let w = (goal.at.lines-preserved c).In-Whole in
    let d = c.args.builder.now in
    let h = c.requires in
    let leaf = c.in-Some.line.leaf in
    record {
      few = omega (arith, few w);
      known = subst (λ ns. All (IsNodeKnown d.counts.n_var d.definitions) ns) (sym c.in-Ok-push.ensures.ok)
          (known_next d c.args.nodes.now c.lines.nodes c.in-Whole.node c.args.before c.args.piece.now c.lines.front
          c.in-Some.line.len leaf h (some w) (c.lines.invariant.takes h.body h.current 1 h.is) (first w) (read w));
      within = omega (arith, c.lines.invariant.within, (first w).first.within, length-drop c.lines.front.len c.args.piece.now);
      takes = λ b cur number is.
          subst (λ ns. TakesLines b c.args.piece.now number
          (record { len = c.lines.front.len + c.in-Some.line.len; lines = c.lines.front.lines + 1 })
          (with_nodes b cur ns number (c.lines.front.lines + 1))) (sym c.in-Ok-push.ensures.ok)
          (node_taken d c.args.nodes.now c.lines.nodes c.in-Whole.node c.args.before b cur number c.args.piece.now
          c.lines.front c.in-Some.line.len leaf is (some w) (c.lines.invariant.takes b cur number is) (first w)
          (read w));
    }
