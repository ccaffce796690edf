use Rattle.std.proofs.Common.{[], refl, arith}
use Rattle.sol_files.proofs.ShortWords.{row-line}
use Rattle.sol_files.proofs.builder.SolBuilder.release.Goals as goal

pub say-requires : goal.say-requires
say-requires c = record { one = (row-line [] (omega arith) tt).one; other = refl }
