use Rattle.std.proofs.Common.{◌∙◌, ◌<◌, ap, arith, drop, subst}
use Rattle.std.proofs.lemmas.Bool.Decides.{nat_tests}
use Rattle.std.proofs.lemmas.List.{length-drop}
use Rattle.nl_lines.specs.FirstPairs.{IsFirstPair}
use Rattle.nl_segments.proofs.StandingLemmas.{can_term, none_counted, still_below, term_taken}
use Rattle.nl_segments.proofs.body_terms.give_terms.Goals as goal

pub lines-init : goal.lines-init
lines-init c = record {
  limit = ap (λ k. k.n_var) (c.counts.ensures.value ∙ c.header.ensures.counts);
  few = omega arith;
  within = omega arith;
  takes = λ b cur number is. none_counted b cur c.args.head c.args.most number c.args.builder.now c.args.uses.now.items c.args.piece.now is;
}

pub give_pair-requires : goal.give_pair-requires
give_pair-requires c =
    let h = c.requires in
    let first : IsFirstPair (drop c.lines.front.len c.args.piece.now) c.in-Some.line = subst (λ bytes. IsFirstPair bytes c.in-Some.line) c.split_at.ensures.back c.in-Some.ensures in
    let below : c.in-Some.line.index < c.lines.builder.counts.n_var = grind (arith, nat_tests, c.if-line-limit.false, c.lines.invariant.limit) in
    (can_term c.args.builder.now c.lines.builder c.args.uses.now.items c.lines.uses.items c.args.head c.args.most c.args.piece.now c.lines.front c.in-Some.line h c.lines-test.true
    (c.lines.invariant.takes h.body h.current 1 h.is) first below).give

pub count_use-requires : goal.count_use-requires
count_use-requires c =
    let h = c.requires in
    let first : IsFirstPair (drop c.lines.front.len c.args.piece.now) c.in-Some.line = subst (λ bytes. IsFirstPair bytes c.in-Some.line) c.split_at.ensures.back c.in-Some.ensures in
    let below : c.in-Some.line.index < c.lines.builder.counts.n_var = grind (arith, nat_tests, c.if-line-limit.false, c.lines.invariant.limit) in
    (can_term c.args.builder.now c.lines.builder c.args.uses.now.items c.lines.uses.items c.args.head c.args.most c.args.piece.now c.lines.front c.in-Some.line h c.lines-test.true
    (c.lines.invariant.takes h.body h.current 1 h.is) first below).use_of

pub lines-preserved : goal.lines-preserved
lines-preserved c =
    let first : IsFirstPair (drop c.lines.front.len c.args.piece.now) c.in-Some.line = subst (λ bytes. IsFirstPair bytes c.in-Some.line) c.split_at.ensures.back c.in-Some.ensures in
    let below : c.in-Some.line.index < c.lines.builder.counts.n_var = grind (arith, nat_tests, c.if-line-limit.false, c.lines.invariant.limit) in
    record {
      limit = still_below c.lines.builder c.give_pair.new.builder c.args.head (c.in-Some.line.index, c.in-Some.line.value) _ c.lines.invariant.limit c.in-Ok.ensures.ok;
      few = omega (arith, c.lines-test.true);
      within = omega (arith, c.lines.invariant.within, first.first.within, length-drop c.lines.front.len c.args.piece.now);
      takes = λ b cur number is.
          term_taken b cur c.args.head c.args.most number c.lines.builder c.give_pair.new.builder c.lines.uses.items
          c.count_use.new.uses.items c.args.piece.now c.lines.front c.in-Some.line is.awaits c.lines-test.true
          (c.lines.invariant.takes b cur number is) first below c.in-Ok.ensures.ok c.count_use.ensures;
    }
