use Rattle.std.proofs.Common.{take, ◌≡◌}
use Rattle.std.specs.List.{flat_map}
use Rattle.std.specs.Io.KnownBytes.{Appends}
use Rattle.text_base.specs.Desk.{OnlyOutput}
use Rattle.command_core.proofs.transfer.write_pieces.Given as goal

abbrev pub invariant-loop-piece : goal.invariant-loop-piece
invariant-loop-piece g l = record {
  bytes : Appends (g.D.Desk.meaning l.initial.desk).written (g.D.Desk.meaning l.desk).written (flat_map (λ p. p.items) (take l.piece-index l.pieces));
  count : (g.D.Desk.meaning l.desk).output_faults ≡ (g.D.Desk.meaning l.initial.desk).output_faults;
  rest : OnlyOutput (g.D.Desk.meaning l.initial.desk) (g.D.Desk.meaning l.desk);
}
