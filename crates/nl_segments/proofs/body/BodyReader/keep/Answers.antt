use Rattle.std.proofs.Common.{◌∙◌, refl, ap}
use Rattle.nl_segments.specs.Held.{body_of}
use Rattle.nl_segments.specs.InsidePairSteps.{one_more, with_closed, with_kept}
use Rattle.nl_segments.proofs.PairPiece.{can_keep, kept, piece_of}
use Rattle.nl_segments.proofs.body.BodyReader.keep.Goals as goal

pub give_pair-requires : goal.give_pair-requires
give_pair-requires c = (can_keep _ c.args.head c.args.pair c.args.line (piece_of (body_of c.args.self.now) c.args.head c.requires.awaited c.requires.head) c.requires.good c.requires.held).give

pub add_term-requires : goal.add_term-requires
add_term-requires c =
    let can = can_keep _ c.args.head c.args.pair c.args.line (piece_of (body_of c.args.self.now) c.args.head c.requires.awaited c.requires.head) c.requires.good c.requires.held in
    record { owner = can.owner; begun = can.begun }

pub close_line-requires-clause-can : goal.close_line-requires-clause-can
close_line-requires-clause-can c =
    (can_keep _ c.args.head c.args.pair c.args.line (piece_of (body_of c.args.self.now) c.args.head c.requires.awaited
    c.requires.head) c.requires.good c.requires.held).close _ c.in_ok-give_pair.ensures.ok

pub mark-requires : goal.mark-requires
mark-requires c = (can_keep _ c.args.head c.args.pair c.args.line (piece_of (body_of c.args.self.now) c.args.head c.requires.awaited c.requires.head) c.requires.good c.requires.held).room

pub count_use-requires : goal.count_use-requires
count_use-requires c = (can_keep _ c.args.head c.args.pair c.args.line (piece_of (body_of c.args.self.now) c.args.head c.requires.awaited c.requires.head) c.requires.good c.requires.held).use_of

pub returns : goal.returns
returns c =
    let b = body_of c.args.self.now in
    let p = piece_of b c.args.head c.requires.awaited c.requires.head in
    kept b _ c.args.head c.args.pair c.args.line p
    (record {
      draft = (rw p.current at c.in_ok-close_line.ensures.builder) ∙ ap (λ d. with_closed d b.name (with_kept p.cur c.args.pair)) c.in_ok-give_pair.ensures.ok;
      current = rw p.current at c.in_ok-close_line.ensures.current;
      name = rw p.current at c.in_ok-close_line.ensures.name;
      marks = c.mark.ensures;
      linear = c.count.ensures ∙ ap (λ x. one_more x b.linear) c.is_linear.ensures;
      values = c.count-2.ensures ∙ ap (λ x. one_more x b.values) c.is_suffix.ensures;
      uses = c.count_use.ensures;
      places = c.in_ok-add_term.ensures;
      columns = refl;
      seen = refl;
      nodes = refl;
      suffixes = refl;
    })
