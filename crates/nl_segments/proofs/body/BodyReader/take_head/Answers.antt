use Rattle.std.proofs.Common.{◌∙◌, sym, ap, subst, Some}
use Rattle.text_base.specs.Names.{IsName}
use Rattle.text_base.specs.Words.{texts}
use Rattle.nl_model.specs.Draft.{Draft}
use Rattle.nl_lines.specs.Heads.{name_in}
use Rattle.nl_segments.specs.InsideHeadSteps.{has_come_suffix, begun_current, begun_name, begun_draft}
use Rattle.nl_segments.specs.Held.{body_of}
use Rattle.nl_segments.proofs.HeadLaw.{suffix_named, fresh_suffix, head_refused, head_step, marks_there, new_of, place_there}
use Rattle.nl_segments.proofs.body.BodyReader.take_head.Goals as goal

pub returns-in-Err : goal.returns-in-Err
returns-in-Err c = head_refused (body_of c.args.self.now) c.is_some-is_open.result (texts c.args.words.now) (Some c.in-Err.reason) c.is_some-is_open.ensures c.requires.row c.in-Err.ensures

pub add-requires : goal.add-requires
add-requires c =
    let b = body_of c.args.self.now in
    marks_there b c.in-Ok.head c.requires.held (new_of b c.is_some-is_open.result (texts c.args.words.now) c.in-Ok.head c.is_some-is_open.ensures c.in-Ok.ensures.1 c.in-Ok.ensures.0).range

pub begun_count-self-requires : goal.begun_count-self-requires
begun_count-self-requires c = (new_of (body_of c.args.self.now) c.is_some-is_open.result (texts c.args.words.now) c.in-Ok.head c.is_some-is_open.ensures c.in-Ok.ensures.1 c.in-Ok.ensures.0).few

pub begun_name-requires : goal.begun_name-requires
begun_name-requires c = λ e. subst IsName (sym c.word_at-name.ensures) (suffix_named c.args.self.now.builder.counts (texts c.args.words.now) c.in-Ok.head c.in-Ok.ensures.1 e)

pub begin-requires : goal.begin-requires
begin-requires c =
    let b = body_of c.args.self.now in
    place_there b c.in-Ok.head c.requires.held (new_of b c.is_some-is_open.result (texts c.args.words.now) c.in-Ok.head c.is_some-is_open.ensures c.in-Ok.ensures.1 c.in-Ok.ensures.0).range

pub make_room-requires : goal.make_room-requires
make_room-requires c = (new_of (body_of c.args.self.now) c.is_some-is_open.result (texts c.args.words.now) c.in-Ok.head c.is_some-is_open.ensures c.in-Ok.ensures.1 c.in-Ok.ensures.0).range

pub give_empty_suffix-requires-clause-fresh : goal.give_empty_suffix-requires-clause-fresh
give_empty_suffix-requires-clause-fresh c =
    let b = body_of c.args.self.now in
    let new = new_of b c.is_some-is_open.result (texts c.args.words.now) c.in-Ok.head c.is_some-is_open.ensures c.in-Ok.ensures.1 c.in-Ok.ensures.0 in
    ap (λ (d : Draft). has_come_suffix d.suffixes c.in-Ok.head c.word_at-name.result.now) c.in_ok-make_room.ensures
    ∙ ap (has_come_suffix b.draft.suffixes c.in-Ok.head) c.word_at-name.ensures ∙ fresh_suffix b.seen b.draft.suffixes c.in-Ok.head (name_in (texts c.args.words.now)) new.fresh

pub returns : goal.returns
returns c =
    let b = body_of c.args.self.now in
    head_step b _ c.is_some-is_open.result (texts c.args.words.now) c.args.line c.in-Ok.head c.is_some-is_open.ensures c.requires.row c.in-Ok.ensures.1 c.in-Ok.ensures.0
    (λ i. record {
      draft = (c.in_ok-give_empty_suffix.ensures ∙ ap (λ d. begun_draft d c.in-Ok.head c.word_at-name.result.now)
          c.in_ok-make_room.ensures ∙ ap (begun_draft b.draft c.in-Ok.head) c.word_at-name.ensures) i;
      current = (c.begun_current.ensures ∙ ap (λ k. begun_current k c.in-Ok.head c.args.line) (c.counts.ensures.value ∙ c.header.ensures.counts)) i;
      name = (c.in_ok-self.ensures ∙ ap (begun_name c.in-Ok.head) c.word_at-name.ensures) i;
      marks = c.clear.ensures i;
      seen = c.add.ensures i;
      nodes = b.nodes;
      linear = b.linear;
      values = b.values;
      suffixes = c.begun_count-self.ensures i;
      columns = b.columns;
      uses = b.uses;
      places = c.in_ok-begin.ensures.ok i;
    })
