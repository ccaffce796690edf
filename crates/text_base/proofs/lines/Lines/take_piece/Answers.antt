use Rattle.std.proofs.Common.{ap, sym, subst, ◌∙◌, ◌≡◌, ◌+◌, ◌≤◌, ◌^◌, arith, false, vec_len, vec_capacity}
use Rattle.std.proofs.lemmas.Grind.{common_steps}
use Rattle.std.proofs.lemmas.List.{length-take}
use Rattle.text_base.specs.Cut.{HasNoEnd}
use Rattle.text_base.specs.InsideLinesFields.{IsLines}
use Rattle.text_base.specs.declared.lines.Lines.TheInside.{Inside}
use Rattle.text_base.proofs.WalkSteps.{no_end_front, no_end_none}
use Rattle.text_base.proofs.lines.Lines.take_piece.Goals as goal
use Rattle.text_base.proofs.lines.Lines.take_piece.Goals.{In-Ok, then-self, else-self, then-ends, else-ends}
use Rattle.text_base.proofs.lines.Lines.take_piece.Goals.{else-count-input_room-via-then-count-input_room+else-front-line_room}
use Rattle.text_base.proofs.lines.Lines.take_piece.Goals.{else-count-input_room-via-else-count-input_room}

-- the line that has grown, where no more is known than that it goes on
grown : (c : In-Ok) → (c.if-self.self-inside.ended ≡ false) × (c.if-self.self-inside.count + vec_len c.extend_from_slice.new.self ≤ c.if-self.self-inside.total + c.front_len-front.result)
    × (vec_len c.extend_from_slice.new.self ≤ 65536) × HasNoEnd c.extend_from_slice.new.self.items
    × (65536 ≤ vec_capacity c.extend_from_slice.new.self) × (c.if-self.self-inside.total + c.if-ends.count ≤ 2 ^ 31)
grown c =
    let before : IsLines c.if-self.self-inside = elim c.if-self.branch [
      | then-self w ↦ subst IsLines (sym w.self-inside-is) (record {
        line = omega (arith, w.clear.ensures.len);
        no_end = no_end_none _ w.clear.ensures.items;
        room = omega (arith, w.clear.ensures.capacity, c.self.invariant.room);
        total = c.self.invariant.total;
        count = omega (arith, w.clear.ensures.len, (rw w.if-self.true at c.self.invariant.count));
      })
      | else-self w ↦ subst IsLines (sym w.self-inside-is) c.self.invariant
    ] in
    let going : c.if-self.self-inside.ended ≡ false = elim c.if-self.branch [
      | then-self w ↦ ap (λ (d : Inside). d.ended) w.self-inside-is
      | else-self w ↦ ap (λ (d : Inside). d.ended) w.self-inside-is ∙ w.if-self.false
    ] in
    let behind : c.if-self.self-inside.count + vec_len c.if-self.self-inside.line ≤ c.if-self.self-inside.total = rw going at before.count in
    let fits : c.if-self.self-inside.total + c.if-ends.count ≤ 2 ^ 31 = elim c.else-count-input_room.branch [
      | else-count-input_room-via-then-count-input_room+else-front-line_room w ↦ omega (arith, w.if-front-line_room.false, c.if-front-line_room-2.false)
      | else-count-input_room-via-else-count-input_room w ↦ omega (arith, before.total, w.if-count-input_room.false)
    ] in
    let size = length-take c.front_len-front.result c.args.piece.now in (
      going,
      omega (arith, c.in-Ok.ensures.len, size, behind),
      omega (arith, c.in-Ok.ensures.len, before.line, c.if-front-line_room-2.false, size),
      no_end_front c.if-self.self-inside.line.items c.args.piece.now c.extend_from_slice.new.self.items c.front_len-front.result c.in-Ok.ensures.items c.front_len-front.ensures before.no_end,
      omega (arith, c.in-Ok.ensures.capacity, before.room),
      fits,
    )

pub invariant_of-self-then-not-ends : goal.invariant_of-self-then-not-ends
invariant_of-self-then-not-ends c =
    let w = grown (goal.at.invariant_of-self-then-not-ends c).In-Ok in
    let bytes : c.front_len-front.result + 0 ≡ c.if-ends.count = elim c.if-ends.branch [
      | then-ends w ↦ omega (arith, w.count-is, w.if-ends.true, c.if-not-ends.true)
      | else-ends w ↦ omega (arith, w.count-is, w.if-ends.false, c.if-not-ends.true)
    ] in
    record { line = w.2; no_end = w.3; room = w.4; total = w.5; count = rw w.0 (omega (arith, w.1, bytes)) }

pub invariant_of-self-2 : goal.invariant_of-self-2
invariant_of-self-2 c =
    let w = grown (goal.at.invariant_of-self-2 c).In-Ok in
    let bytes : c.front_len-front.result + 1 ≡ c.if-ends.count = elim c.if-ends.branch [
      | then-ends w ↦ omega (arith, w.count-is, w.if-ends.true, c.if-not-ends.false)
      | else-ends w ↦ omega (arith, w.count-is, w.if-ends.false, c.if-not-ends.false)
    ] in
    record { line = w.2; no_end = w.3; room = w.4; total = w.5; count = omega (arith, w.1, bytes) }

pub returns-then-front-line_room : goal.returns-then-front-line_room
returns-then-front-line_room c = grind (arith, common_steps)

pub slice_bounds-extend_from_slice-end : goal.slice_bounds-extend_from_slice-end
slice_bounds-extend_from_slice-end c = grind (arith, common_steps)

pub unreachable-requires : goal.unreachable-requires
unreachable-requires c = grind (arith, common_steps)

pub returns-then-not-ends : goal.returns-then-not-ends
returns-then-not-ends c = grind (arith, common_steps)

pub returns : goal.returns
returns c = grind (arith, common_steps)
