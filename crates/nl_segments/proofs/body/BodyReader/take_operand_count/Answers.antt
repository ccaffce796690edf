use Rattle.std.proofs.Common.{◌∙◌, sym, refl}
use Rattle.text_base.specs.Words.{texts}
use Rattle.nl_model.specs.declared.node.Node.TheVariants.{Op}
use Rattle.nl_lines.specs.declared.awaited.Awaited.TheVariants.{OperandCount}
use Rattle.nl_lines.specs.declared.node_row.NodeRow.TheVariants.{Whole}
use Rattle.nl_segments.specs.Held.{body_of}
use Rattle.nl_segments.proofs.PairLines.{awaiting}
use Rattle.nl_segments.proofs.NodeSteps.{count_read, operands_judged, can_take, row_taken}
use Rattle.nl_segments.proofs.body.BodyReader.take_operand_count.Goals as goal

pub returns-in-Err : goal.returns-in-Err
returns-in-Err c s h =
    let a = awaiting (body_of c.args.self.now) OperandCount c.requires.awaited in
    operands_judged s (body_of c.args.self.now) a.cur (texts c.args.words.now) h a.is a.awaits_it c.requires.row ∙ c.in-Err.ensures

pub take_row-requires : goal.take_row-requires
take_row-requires c =
    let b = body_of c.args.self.now in
    let q = c.in-Some-pending.pending in
    let read = count_read b (texts c.args.words.now) c.args.line c.in-Some.current q c.in-Ok.count c.in-Some.is
    c.requires.awaited c.requires.row (sym c.pending.ensures.opcode ∙ c.in-Some-pending.is) c.pending.ensures.waits
    c.requires.held c.in-Ok.ensures.0 c.in-Ok.ensures.1 in
    can_take b (texts c.args.words.now) c.args.line q.line c.in-Some.current (Whole (Op q.opcode c.in-Ok.count)) c.requires.held read

pub returns : goal.returns
returns c =
    let b = body_of c.args.self.now in
    let q = c.in-Some-pending.pending in
    let read = count_read b (texts c.args.words.now) c.args.line c.in-Some.current q c.in-Ok.count c.in-Some.is
    c.requires.awaited c.requires.row (sym c.pending.ensures.opcode ∙ c.in-Some-pending.is) c.pending.ensures.waits
    c.requires.held c.in-Ok.ensures.0 c.in-Ok.ensures.1 in
    row_taken b (texts c.args.words.now) c.args.line q.line c.in-Some.current (Whole (Op q.opcode c.in-Ok.count)) 1
    c.take_row.new.builder c.take_row.new.current c.take_row.new.places read refl c.in_ok-take_row.ensures.places
    c.in_ok-take_row.ensures.settled
