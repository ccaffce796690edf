use Rattle.std.proofs.Common.{◌∙◌, sym}
use Rattle.nl_segments.specs.Held.{body_of}
use Rattle.nl_segments.proofs.NodeFronts.{operand_can, operand_first}
use Rattle.nl_segments.proofs.body.BodyReader.take_operand_line.Goals as goal

pub take_next_row-taken-requires : goal.take_next_row-taken-requires
take_next_row-taken-requires c =
    let q = c.in-Some-pending.pending in
    operand_can (body_of c.args.self.now) c.args.piece.now c.in-Some.first.len c.in-Some.first.number c.args.number c.in-Some-current.current q
    (record {
      here = c.in-Some-current.is;
      awaiting = c.requires.awaited;
      pending =
          sym c.pending.ensures.opcode ∙ c.in-Some-pending.is;
      waits = c.pending.ensures.waits;
      held =
          c.requires.held;
    }) c.in-Some.ensures (sym c.is_operand_count.ensures ∙ c.if-not-is_operand_count.false)

pub returns : goal.returns
returns c =
    let q = c.in-Some-pending.pending in
    operand_first (body_of c.args.self.now) c.args.piece.now c.args.number c.in-Some.first.len c.in-Some.first.number
    c.in-Some-current.current q c.take_next_row-taken.new.builder c.take_next_row-taken.new.current
    c.take_next_row-taken.new.places
    (record {
      here = c.in-Some-current.is;
      awaiting = c.requires.awaited;
      pending =
          sym c.pending.ensures.opcode ∙ c.in-Some-pending.is;
      waits = c.pending.ensures.waits;
      held =
          c.requires.held;
    }) c.in-Some.ensures (sym c.is_operand_count.ensures ∙ c.if-not-is_operand_count.false)
    (c.take_next_row-taken.ensures.places c.if-not-taken.false) (c.take_next_row-taken.ensures.settled c.if-not-taken.false)
