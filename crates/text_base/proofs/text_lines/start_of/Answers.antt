use Rattle.std.proofs.Common.{◌≡◌, ◌<◌, ◌-◌, suc, length, sym, ap, ◌∙◌, arith}
use Rattle.text_base.specs.InsideTextLines.{start_at}
use Rattle.text_base.proofs.CutLines.{start-next}
use Rattle.text_base.proofs.text_lines.start_of.Goals as goal

pub returns-else-i-eq0 : goal.returns-else-i-eq0
returns-else-i-eq0 c =
    let next : suc (c.args.i - 1) ≡ c.args.i = omega arith in
    let within : c.args.i - 1 < length c.args.ends.now = omega (arith, c.requires) in
    sym (start-next 0 c.args.ends.now (c.args.i - 1) within) ∙ ap (λ k. start_at 0 c.args.ends.now k) next
