use Rattle.std.proofs.Common.{◌∙◌, ◌<◌, sym, subst}
use Rattle.nl_lines.proofs.PairJudging.{read_fault, read_repeated, read_full, read_fine}
use Rattle.nl_lines.proofs.judging.read_next_pair.Goals as goal

pub returns-in-Err : goal.returns-in-Err
returns-in-Err c = read_fault c.args.counts.now c.args.head c.args.marks.now c.args.full _ _ _ c.index_limit.ensures c.wants_whole.ensures _ c.in-Err.ensures

pub returns-then-is_repeated : goal.returns-then-is_repeated
returns-then-is_repeated c =
    read_repeated c.args.counts.now c.args.head c.args.marks.now c.args.full _ _ _ c.index_limit.ensures
    c.wants_whole.ensures c.in-Ok.pair c.in-Ok.ensures.0 c.in-Ok.ensures.1.0
    (sym c.is_repeated.ensures ∙ c.if-is_repeated.true)

pub returns-then-full : goal.returns-then-full
returns-then-full c =
    read_full c.args.counts.now c.args.head c.args.marks.now c.args.full _ _ _ c.index_limit.ensures
    c.wants_whole.ensures c.in-Ok.pair c.in-Ok.ensures.0 c.in-Ok.ensures.1.0
    (sym c.is_repeated.ensures ∙ c.if-is_repeated.false) c.if-full.true

pub returns : goal.returns
returns c =
    let fresh = sym c.is_repeated.ensures ∙ c.if-is_repeated.false in (
      read_fine c.args.counts.now c.args.head c.args.marks.now c.args.full _ _ _ c.index_limit.ensures c.wants_whole.ensures c.in-Ok.pair c.in-Ok.ensures.0 c.in-Ok.ensures.1.0 fresh c.if-full.false,
      record {
        says = c.in-Ok.ensures.1.0;
        below = subst (λ limit. c.in-Ok.pair.0 < limit) c.index_limit.ensures c.in-Ok.ensures.1.1;
        fresh = fresh;
        room = c.if-full.false;
      },
    )
