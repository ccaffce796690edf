use Rattle.std.proofs.Common.{arith, rules}
use Rattle.command_core.proofs.Known.{Appends-piece, OnlyOutput-then, part_of_pieces}
use Rattle.command_core.proofs.transfer.write_pieces.Goals as goal

pub loop-piece-preserved : goal.loop-piece-preserved
loop-piece-preserved g c = record {
  bytes = Appends-piece _ _ _ c.args.pieces.now c.loop-piece.piece-index c.piece-item.result _ (omega arith)
      c.piece-item.is c.deref.ensures.value c.loop-piece.invariant.bytes c.in_ok-write_all.ensures.bytes;
  count = search rules;
  rest = OnlyOutput-then _ _ _ c.loop-piece.invariant.rest c.in_ok-write_all.ensures.rest;
}

pub returns-in_err-write_all-clause-bytes : goal.returns-in_err-write_all-clause-bytes
returns-in_err-write_all-clause-bytes g c =
    let part = part_of_pieces _ _ _ c.args.pieces.now c.loop-piece.piece-index c.piece-item.result _ (omega arith)
    c.piece-item.is c.deref.ensures.value c.loop-piece.invariant.bytes c.in_err-write_all.ensures.bytes in
    search rules
