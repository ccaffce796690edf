use Rattle.std.proofs.Common.{rules, ◌∙◌, ◌≤◌, ◌<◌, length, take}
use Rattle.std.proofs.lemmas.List.{length-take-le}
use Rattle.command_core.proofs.Known.{fed_nothing, fed_further, fed_to_limit, fed_to_end, OnlyInput-same, OnlyInput-then}
use Rattle.command_core.proofs.transfer.feed_rest.Goals as goal

pub reading-init : goal.reading-init
reading-init g c = record {
  within = search rules;
  feeds = fed_nothing _ _;
  count = search rules;
  rest = OnlyInput-same _;
  setting = search rules;
}

pub returns-then-count-eq0-clause-text : goal.returns-then-count-eq0-clause-text
returns-then-count-eq0-clause-text g c =
    let within : c.min-most.result ≤ length c.read_piece.new.room = search rules in
    let some : 0 < length (take c.min-most.result c.read_piece.new.room) = rw length-take-le (search rules) in
    fed_to_end _ _ _ _ _ _ _ _ _ c.reading.invariant.feeds c.in_ok-count.ensures.bytes.0 c.in_ok-count.ensures.bytes.1 c.if-count-eq0.true some (search rules)

pub reading-preserved : goal.reading-preserved
reading-preserved g c = record {
  within = search rules;
  feeds = fed_further _ _ _ _ _ _ _ _ _ _ _ c.reading.invariant.feeds c.in_ok-count.ensures.bytes.0 c.in_ok-count.ensures.bound (search rules) (search rules) c.feed.ensures.stands;
  count = search rules;
  rest = OnlyInput-then _ _ _ c.reading.invariant.rest c.in_ok-count.ensures.rest;
  setting = c.feed.ensures.setting ∙ c.reading.invariant.setting;
}

pub returns-clause-text : goal.returns-clause-text
returns-clause-text g c = fed_to_limit _ _ _ _ _ _ c.reading.invariant.feeds (search rules)
