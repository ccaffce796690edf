use Rattle.std.proofs.Common.{◌≡◌, ◌∙◌, ◌+◌, ◌∷◌, arith, drop, sym}
use Rattle.linear_program.proofs.Merging.{nothing_there, term_drop}
use Rattle.linear_program.proofs.merged.coefficient_at.Goals as goal

pub returns-else-term-variable-clause-value : goal.returns-else-term-variable-clause-value
returns-else-term-variable-clause-value c =
    let list = c.args.list.now in
    let i = c.args.at in
    let t = c.at-term.result in
    let at : drop i list ≡ t ∷ drop (i + 1) list = term_drop list i t (let h = c.if-at-len.false in let l = c.len.ensures.count in omega arith) c.at-term.ensures in
    c.zero-else-term-variable.ensures ∙ sym (nothing_there c.args.variable t (drop i list) (drop (i + 1) list) at c.requires.left (λ e. (let h = c.if-term-variable.false in omega (arith, e))))
