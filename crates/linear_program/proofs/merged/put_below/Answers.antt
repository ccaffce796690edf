use Rattle.std.proofs.Common.{◌≡◌, ◌∙◌, [], ◌∷◌, ◌+◌, drop, subst, sym, arith}
use Rattle.linear_program.specs.Coefs.{AreAscending, AreBelow}
use Rattle.linear_program.proofs.CoefLemmas.{below_append}
use Rattle.linear_program.proofs.Merging.{left_from, one_pushed, rest_ascends, term_drop}
use Rattle.linear_program.proofs.merged.put_below.Goals as goal

pub returns-then-term-variable-clause-left : goal.returns-then-term-variable-clause-left
returns-then-term-variable-clause-left c =
    let list = c.args.list.now in
    let i = c.loop-at.at in
    let t = c.at-term.result in
    let at : drop i list ≡ t ∷ drop (i + 1) list = term_drop list i t (let h = c.loop-at-test.true in let l = c.len-at-end.ensures.count in omega arith) c.at-term.ensures in
    left_from c.args.variable 0 t (drop i list) (drop (i + 1) list) at (let h = c.if-term-variable.true in omega arith)
    (rest_ascends 0 c.loop-at.done.items (drop i list) (subst (AreAscending 0) (sym c.loop-at.invariant.same) c.requires.ascending))

pub loop-at-preserved : goal.loop-at-preserved
loop-at-preserved c =
    let list = c.args.list.now in
    let i = c.loop-at.at in
    let t = c.at-term.result in
    let v = c.args.variable in
    let done = c.loop-at.done.items in
    let at : drop i list ≡ t ∷ drop (i + 1) list = term_drop list i t (let h = c.loop-at-test.true in let l = c.len-at-end.ensures.count in omega arith) c.at-term.ensures in
    record {
      same = one_pushed done c.push.new.self.items (drop i list) (drop (i + 1) list) t c.in_ok-push.ensures.items at ∙ c.loop-at.invariant.same;
      below = subst (AreBelow v) (sym c.in_ok-push.ensures.items) (below_append v done (t ∷ []) c.loop-at.invariant.below (let h = c.if-term-variable.false in omega arith, tt));
    }
