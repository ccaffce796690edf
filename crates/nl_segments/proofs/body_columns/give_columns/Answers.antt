use Rattle.std.proofs.Common.{arith, drop, subst}
use Rattle.std.proofs.lemmas.List.{length-drop}
use Rattle.nl_lines.specs.FirstRows.{IsFirstRow}
use Rattle.nl_lines.specs.WholeRows.{IsWholeRow}
use Rattle.nl_segments.proofs.LineFronts.{column_taken, no_column}
use Rattle.nl_segments.proofs.body_columns.give_columns.Goals as goal

pub lines-init : goal.lines-init
lines-init c = record {
  few = omega arith;
  within = omega arith;
  takes = λ b cur number is. no_column c.args.columns.now.items c.args.left b cur number c.args.piece.now is;
}

pub lines-preserved : goal.lines-preserved
lines-preserved c =
    let k = c.in-Some.line.number in
    let first : IsFirstRow (drop c.lines.front.len c.args.piece.now) c.in-Some.line.len (λ words. IsWholeRow words k) =
    subst (λ bytes. IsFirstRow bytes c.in-Some.line.len (λ words. IsWholeRow words k)) c.split_at.ensures.back c.in-Some.ensures in
    record {
      few = omega (arith, c.lines-test.true);
      within = omega (arith, c.lines.invariant.within, first.first.within, length-drop c.lines.front.len c.args.piece.now);
      takes = λ b cur number is.
          column_taken c.args.columns.now.items c.lines.columns.items c.push.new.self.items c.args.left b cur number c.args.piece.now c.lines.front c.in-Some.line.len k is c.lines-test.true
          (c.lines.invariant.takes b cur number is) first c.in-Ok.ensures.items;
    }
