use Rattle.std.proofs.Common.{◌≡◌, ◌∙◌, ◌∷◌, ◌+◌, drop, arith}
use Rattle.linear_program.proofs.Merging.{one_pushed, term_drop}
use Rattle.linear_program.proofs.merged.put_rest.Goals as goal

pub loop-at-preserved : goal.loop-at-preserved
loop-at-preserved c =
    let list = c.args.list.now in
    let i = c.loop-at.at in
    let t = c.at-term.result in
    let at : drop i list ≡ t ∷ drop (i + 1) list = term_drop list i t (let h = c.loop-at-test.true in let l = c.len-at-end.ensures.count in omega arith) c.at-term.ensures in
    one_pushed c.loop-at.done.items c.push.new.self.items (drop i list) (drop (i + 1) list) t c.in_ok-push.ensures.items at ∙ c.loop-at.invariant
