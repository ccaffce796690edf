use Rattle.std.proofs.Common.{arith, sym, rules}
use Rattle.text_base.proofs.CutLines.{LineAt, line-at}
use Rattle.text_base.proofs.text_lines.line_at.Goals as goal

pub slice_bounds-result-count : goal.slice_bounds-result-count
slice_bounds-result-count c =
    let line : LineAt 0 c.args.bytes.now c.args.ends.now c.args.i = line-at _ _ _ _ c.requires.cut c.requires.within in
    search (rules, line.ordered, c.start_of-start.ensures)

pub slice_bounds-result-start : goal.slice_bounds-result-start
slice_bounds-result-start c =
    let line : LineAt 0 c.args.bytes.now c.args.ends.now c.args.i = line-at _ _ _ _ c.requires.cut c.requires.within in
    omega (arith, line.ordered, line.within, c.start_of-start.ensures)

pub slice_bounds-result-end : goal.slice_bounds-result-end
slice_bounds-result-end c =
    let line : LineAt 0 c.args.bytes.now c.args.ends.now c.args.i = line-at _ _ _ _ c.requires.cut c.requires.within in
    omega (arith, line.ordered, line.within, c.start_of-start.ensures)

pub returns : goal.returns
returns c =
    let line : LineAt 0 c.args.bytes.now c.args.ends.now c.args.i = line-at _ _ _ _ c.requires.cut c.requires.within in
    rw (c.start_of-start.ensures) (sym line.line)
