use Rattle.std.proofs.Common.{◌∙◌, ◌-◌, ap, arith, drop, reverse}
use Rattle.linear_fold.proofs.Operators.{back_is}
use Rattle.linear_fold.proofs.parts.operands_of.Goals as goal

pub returns-clause-operands : goal.returns-clause-operands
returns-clause-operands c =
    ap reverse (c.split_at.ensures.back ∙ ap (drop (c.len.result - c.args.count)) c.deref.ensures.value)
    ∙ back_is c.args.stack.now.items (c.len.result - c.args.count) c.args.count (let h = c.requires in let k = c.args.stack.now.ok.0 in let l = c.len.ensures in omega arith)
