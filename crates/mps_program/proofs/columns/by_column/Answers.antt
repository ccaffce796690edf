use Rattle.std.proofs.Common.{arith}
use Rattle.mps_program.proofs.PartLemmas.{bound_within}
use Rattle.mps_program.proofs.columns.by_column.Goals as goal

pub record-requires : goal.record-requires
record-requires c = omega (arith, bound_within c.args.bounds.now c.bounds.bound-index c.args.count c.bound-item.result (omega arith) c.bound-item.is c.requires, c.bounds.invariant.count)
