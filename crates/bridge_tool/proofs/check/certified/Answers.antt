use Rattle.std.proofs.Common.{◌∙◌, length, sym, ap}
use Rattle.linear_program.specs.Linear.{row_count, variable_count}
use Rattle.nl_segments.specs.Reader.{value_of}
use Rattle.bridge_tool.proofs.Verdicts.{all_duals, all_primals}
use Rattle.bridge_tool.proofs.check.certified.Goals as goal

pub told_verdict-requires-clause-numbers : goal.told_verdict-requires-clause-numbers
told_verdict-requires-clause-numbers g c =
    ap length (c.items.ensures ∙ c.primals-x.ensures.value) ∙ all_primals (value_of c.args.read) c.args.sol.now c.requires.fits c.args.objective c.primals-x.ensures.given
    ∙ ap variable_count (sym c.in_ok-linear.ensures.folds.linear)

pub told_verdict-requires-clause-duals : goal.told_verdict-requires-clause-duals
told_verdict-requires-clause-duals g c =
    ap length (c.items-2.ensures ∙ c.duals-y.ensures.value) ∙ all_duals (value_of c.args.read) c.args.sol.now c.requires.fits c.args.objective c.duals-y.ensures.given
    ∙ ap row_count (sym c.in_ok-linear.ensures.folds.linear)
