use Rattle.std.proofs.Common.{rules, ◌≡◌, negsuc, pos}
use Rattle.exact_numbers.specs.Values.{frac_value}
use Rattle.linear_fold.proofs.SumLemmas.{unit_minus, unit_plus}
use Rattle.linear_fold.proofs.parts.unit_of.Goals as goal

pub returns-then-num-eq1 : goal.returns-then-num-eq1
returns-then-num-eq1 c =
    let bottom : (frac_value c.in-Number.number).bottom ≡ 1 = search rules in
    let top : (frac_value c.in-Number.number).top ≡ pos 1 = search rules in
    unit_plus c.args.operands.now c.index-operands-operands.result c.in-Number.number c.requires c.index-operands-operands.is c.in-Number.is bottom top

pub returns-then-num : goal.returns-then-num
returns-then-num c =
    let bottom : (frac_value c.in-Number.number).bottom ≡ 1 = search rules in
    let top : (frac_value c.in-Number.number).top ≡ negsuc 0 = search rules in
    unit_minus c.args.operands.now c.index-operands-operands.result c.in-Number.number c.requires c.index-operands-operands.is c.in-Number.is bottom top
