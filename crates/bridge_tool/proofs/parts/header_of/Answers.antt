use Rattle.std.proofs.Common.{◌≡◌, true, pos, [], ◌∷◌, arith}
use Rattle.nl_model.specs.HeaderRules.{is_header}
use Rattle.bridge_tool.specs.Instance.{counts_of}
use Rattle.bridge_tool.proofs.NumberLemmas.{is_headed}
use Rattle.bridge_tool.proofs.parts.header_of.Goals as goal

pub unreachable-requires : goal.unreachable-requires
unreachable-requires c =
    let fine : is_header (pos 1 ∷ pos 1 ∷ pos 0 ∷ []) (counts_of c.args.size) ≡ true = is_headed c.args.size c.requires in
    grind (arith, fine, c.in-None.ensures, c.counts_of.ensures, c.push.ensures, c.push-2.ensures, c.push-3.ensures, c.new-options.ensures)
