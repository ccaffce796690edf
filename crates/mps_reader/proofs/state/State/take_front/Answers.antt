use Rattle.std.proofs.Common.{refl}
use Rattle.mps_reader.proofs.FrontLines.{none_taken}
use Rattle.mps_reader.proofs.state.State.take_front.Goals as goal

pub returns-in_default-clause-lines : goal.returns-in_default-clause-lines
returns-in_default-clause-lines c = none_taken c.args.self.now c.args.self.now c.args.piece.now refl
