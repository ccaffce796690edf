use Rattle.std.proofs.Common.{◌≤◌, ◌+◌, ap, arith, length, subst, suc}
use Rattle.linear_program.specs.Coefs.{AreAscending}
use Rattle.linear_program.specs.Forms.{terms_left}
use Rattle.linear_program.proofs.CoefLemmas.{ascending_from}
use Rattle.linear_program.proofs.form.count_of.Goals as goal

pub overflow_add-count : goal.overflow_add-count
overflow_add-count c =
    let here = subst (AreAscending c.loop-term.count) c.in-Some.ensures.steps c.loop-term.invariant.2 in
    let least : c.loop-term.count ≤ c.in-Some.term.0 = here.0 in
    let v = c.variable_of-variable.ensures.value in
    let s = c.variable_of-variable.ensures.small in
    omega arith

pub loop-term-preserved : goal.loop-term-preserved
loop-term-preserved c =
    let i = c.loop-term.invariant in
    let n = c.loop-term.count in
    let at = c.in-Some.ensures.steps in
    let here = subst (AreAscending n) at i.2 in
    let least : n ≤ c.in-Some.term.0 = here.0 in
    let v = c.variable_of-variable.ensures.value in
    let s = c.variable_of-variable.ensures.small in (
      tt,
      tt,
      ascending_from (n + 1) (suc c.in-Some.term.0) (terms_left c.next.new.self) (omega arith) here.2,
      omega arith,
      let h = i.4 in let l = ap length at in omega arith,
    )
