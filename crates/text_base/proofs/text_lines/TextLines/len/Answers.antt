use Rattle.std.proofs.Common.{◌≡◌, ◌∙◌, length, sym, ap, rules}
use Rattle.text_base.proofs.CutLines.{length-cut_at}
use Rattle.text_base.proofs.text_lines.TextLines.len.Goals as goal

pub returns : goal.returns
returns c =
    let len : c.len.result ≡ length c.self.inside.ends.items = search rules in
    len ∙ sym (length-cut_at 0 c.self.inside.bytes.items c.self.inside.ends.items) ∙ ap length c.self.view_is
