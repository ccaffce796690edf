use Rattle.std.proofs.Common.{◌<◌, length, ap, rules, arith}
use Rattle.text_base.proofs.CutLines.{length-cut_at}
use Rattle.text_base.proofs.text_lines.TextLines.get.Goals as goal

pub line_at-requires-clause-within : goal.line_at-requires-clause-within
line_at-requires-clause-within c =
    let len : c.args.i < length c.self.inside.ends.items = omega (arith, c.requires, ap length c.self.view_is, length-cut_at 0 c.self.inside.bytes.items c.self.inside.ends.items) in
    search rules
