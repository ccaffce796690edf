use Rattle.std.proofs.Common.{rules, arith}
use Rattle.command_tests.proofs.Fronts.{front_bound, front_bytes, front_some}
use Rattle.command_tests.proofs.short_desk.ShortDeskDesk.tell.Goals as goal

pub returns-clause-bound : goal.returns-clause-bound
returns-clause-bound c = front_bound c.tell.result _ c.args.piece.now c.front.result.now c.front.ensures c.tell.ensures.bound

pub returns-clause-some : goal.returns-clause-some
returns-clause-some c = front_some c.tell.result _ c.args.piece.now c.front.result.now c.front.ensures (λ has. search (rules, arith)) c.tell.ensures.some

pub returns-clause-bytes : goal.returns-clause-bytes
returns-clause-bytes c = front_bytes c.tell.result _ c.args.piece.now c.front.result.now _ _ c.front.ensures c.tell.ensures.bound c.tell.ensures.bytes
