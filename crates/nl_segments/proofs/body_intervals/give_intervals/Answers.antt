use Rattle.std.proofs.Common.{◌≡◌, ◌∙◌, ◌-◌, not, ◌&&◌, false, ap, arith, drop, refl, subst, sym, ℕ}
use Rattle.std.proofs.lemmas.List.{length-drop}
use Rattle.nl_model.specs.Kinds.{variable_kind}
use Rattle.nl_lines.specs.FirstRows.{IsFirstRow}
use Rattle.nl_lines.specs.IntervalRows.{IsIntervalRow}
use Rattle.nl_lines.specs.Tests.{is_binary}
use Rattle.nl_lines.proofs.IntervalRows.{is_refused}
use Rattle.nl_segments.proofs.LineFronts.{has_room, interval_taken, no_interval, same_counts}
use Rattle.nl_segments.proofs.body_intervals.give_intervals.Goals as goal

pub lines-init : goal.lines-init
lines-init c = record {
  counts = refl;
  limit = ap (λ k. k.n_var) (c.counts-counts.ensures.value ∙ c.header.ensures.counts);
  binary = λ j. ap (λ k. is_binary (variable_kind k j)) (sym (c.counts-counts.ensures.value ∙ c.header.ensures.counts)) ∙ c.of-binaries.ensures j;
  few = omega arith;
  within = omega arith;
  takes = λ b cur number is. no_interval c.args.builder.now c.args.of_constraint c.args.left b cur number c.args.piece.now is;
}

pub add_interval-requires-clause-room : goal.add_interval-requires-clause-room
add_interval-requires-clause-room c =
    let h = c.requires in
    has_room c.args.builder.now c.lines.builder c.args.of_constraint c.args.left c.args.piece.now c.lines.front h c.lines-test.true (c.lines.invariant.takes h.body h.current 1 h.is)

pub lines-preserved : goal.lines-preserved
lines-preserved c =
    let i = c.in-Some.line.interval in
    let k = c.lines.builder.counts in
    let first : IsFirstRow (drop c.lines.front.len c.args.piece.now) c.in-Some.line.len (λ words. IsIntervalRow words i) =
    subst (λ bytes. IsFirstRow bytes c.in-Some.line.len (λ words. IsIntervalRow words i)) c.split_at.ensures.back c.in-Some.ensures in
    let unit : c.has_next-unit.result ≡ (not c.args.of_constraint && is_binary (variable_kind k (k.n_var - (c.args.left - c.lines.front.lines)))) =
    c.has_next-unit.ensures
    ∙ ap (λ b. not c.args.of_constraint && b)
    (sym (c.lines.invariant.binary _) ∙ ap (λ x. is_binary (variable_kind x (c.counts-counts.result.now.n_var - (c.args.left - c.lines.front.lines)))) (sym c.lines.invariant.counts)
    ∙ ap (λ (n : ℕ). is_binary (variable_kind k (n - (c.args.left - c.lines.front.lines)))) (c.lines.invariant.limit ∙ ap (λ x. x.n_var) (sym c.lines.invariant.counts))) in
    let fine : is_refused i (not c.args.of_constraint && is_binary (variable_kind k (k.n_var - (c.args.left - c.lines.front.lines)))) ≡ false =
    ap (is_refused i) (sym unit) ∙ sym c.is_refused_interval.ensures ∙ c.if-is_refused_interval.false in
    record {
      counts = ap (λ d. d.counts) c.in-Ok.ensures.ok ∙ same_counts c.lines.builder c.args.of_constraint i ∙ c.lines.invariant.counts;
      limit = c.lines.invariant.limit;
      binary = c.lines.invariant.binary;
      few = omega (arith, c.lines-test.true);
      within = omega (arith, c.lines.invariant.within, first.first.within, length-drop c.lines.front.len c.args.piece.now);
      takes = λ b cur number is.
          interval_taken c.args.builder.now c.lines.builder c.add_interval.new.builder c.args.of_constraint c.args.left
          b cur number c.args.piece.now c.lines.front c.in-Some.line.len i is c.lines-test.true
          (c.lines.invariant.takes b cur number is) first fine c.in-Ok.ensures.ok;
    }
