use Rattle.std.proofs.Common.{ap, arith, length}
use Rattle.linear_program.specs.declared.kind.Kind.TheVariants.{Binary, Integer}
use Rattle.mps_import.proofs.PartLemmas.{kind_few}
use Rattle.mps_import.proofs.variables.in_kinds.Goals as goal

pub overflow_cast-result : goal.overflow_cast-result
overflow_cast-result c = omega (arith, c.len.ensures, ap length c.in_ok-binary.ensures, kind_few Binary c.args.kinds.now, c.requires)

pub overflow_cast-result-2 : goal.overflow_cast-result-2
overflow_cast-result-2 c = omega (arith, c.len-2.ensures, ap length c.in_ok-integer.ensures, kind_few Integer c.args.kinds.now, c.requires)
