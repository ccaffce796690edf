use Rattle.std.proofs.Common.{◌≡◌, ◌∙◌, ap, arith, sym, subst, None, [], ◌∷◌}
use Rattle.text_base.specs.Judged.{first_reason}
use Rattle.text_base.proofs.FrontLemmas.{front_few}
use Rattle.nl_segments.specs.Held.{body_of}
use Rattle.nl_segments.specs.InsideHeadSteps.{held_head_tests}
use Rattle.nl_segments.specs.InsidePieces.{with_given_head}
use Rattle.nl_segments.specs.InsideTermRuns.{TakesLines}
use Rattle.nl_segments.proofs.HeadFronts.{head_first, may_begin}
use Rattle.nl_segments.proofs.StandingLemmas.{goes_on, none_taken}
use Rattle.nl_segments.proofs.body.BodyReader.take_head_line.Goals as goal

pub begin_piece-requires-clause-may : goal.begin_piece-requires-clause-may
begin_piece-requires-clause-may c =
    let b = body_of c.args.self.now in
    let h = c.in-Some.first.head in
    let fine : first_reason (held_head_tests b.draft.counts b.seen b.draft.suffixes b.suffixes [] h) ≡ None =
    ap (λ name. first_reason (held_head_tests b.draft.counts b.seen b.draft.suffixes b.suffixes name h)) (sym c.as_slice-name.ensures) ∙ c.in-Ok.ensures.0 in
    may_begin b c.is_some-is_open.result c.args.piece.now c.args.number c.in-Some.first.len h c.in-Some.ensures c.is_some-is_open.ensures c.if-is_open.false fine c.requires.held

pub begin_piece-requires-clause-few : goal.begin_piece-requires-clause-few
begin_piece-requires-clause-few c =
    let first = c.in-Some.ensures.first in
    let few = front_few c.args.piece.now (record { len = c.in-Some.first.len; lines = 1 }) (c.in-Some.ensures.line ∷ []) first in
    omega (arith, c.requires.few, few, first.within, c.split_at.ensures.back_len)

pub returns-in_default-begin_piece : goal.returns-in_default-begin_piece
returns-in_default-begin_piece c =
    let b = body_of c.args.self.now in
    subst (TakesLines b c.args.piece.now c.args.number (record { len = 0; lines = 0 })) (sym c.in_default-begin_piece.ensures) (none_taken b c.args.piece.now c.args.number)

pub overflow_add-result-2 : goal.overflow_add-result-2
overflow_add-result-2 c =
    let first = c.in-Some.ensures.first in
    let behind = c.in-Some-begin_piece.ensures in
    let few = front_few c.split_at.result.1.now c.in-Some-begin_piece.behind behind.lines behind.is in
    record { fits = omega (arith, c.requires.few, few, first.within, behind.is.within, c.split_at.ensures.back_len) }

pub returns : goal.returns
returns c =
    let b = body_of c.args.self.now in
    let h = c.in-Some.first.head in
    let fine : first_reason (held_head_tests b.draft.counts b.seen b.draft.suffixes b.suffixes [] h) ≡ None =
    ap (λ name. first_reason (held_head_tests b.draft.counts b.seen b.draft.suffixes b.suffixes name h)) (sym c.as_slice-name.ensures) ∙ c.in-Ok.ensures.0 in
    goes_on b (with_given_head b h c.args.number) (body_of c.begin_piece.new.self) c.args.piece.now
    c.split_at.result.1.now c.args.number (record { len = c.in-Some.first.len; lines = 1 })
    c.in-Some-begin_piece.behind
    (head_first b c.is_some-is_open.result c.args.piece.now c.args.number c.in-Some.first.len h c.in-Some.ensures
    c.is_some-is_open.ensures c.if-is_open.false fine) c.split_at.ensures.back c.in-Some-begin_piece.ensures
