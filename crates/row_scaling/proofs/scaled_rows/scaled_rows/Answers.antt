use Rattle.std.proofs.Common.{◌≡◌, ◌<◌, ap, arith, length}
use Rattle.linear_program.specs.Programs.{linear_value}
use Rattle.row_scaling.proofs.LinearLemmas.{all_rows, before_fit, one_row_more, row_fault}
use Rattle.row_scaling.proofs.scaled_rows.scaled_rows.Goals as goal

pub returns-in-Err-clause-wide : goal.returns-in-Err-clause-wide
returns-in-Err-clause-wide c =
    row_fault (linear_value c.args.linear.now) c.loop-con.con c.in-Err.stop (before_fit c.args.linear.now c.loop-con.rows.items c.loop-con.con c.loop-con.invariant) c.in-Err.ensures.wide

pub loop-con-preserved : goal.loop-con-preserved
loop-con-preserved c =
    let count = ap length c.bodies-bodies.ensures.bodies in
    let less : c.loop-con.con < length c.args.linear.now.bodies = omega (arith, c.loop-con-test.true, count) in
    one_row_more c.args.linear.now c.loop-con.rows.items c.push.new.self.items c.loop-con.con c.in-Ok.row
    c.loop-con.invariant less c.in_ok-push.ensures.items c.in-Ok.ensures.scaled c.in-Ok.ensures.few

pub returns-clause-scaled : goal.returns-clause-scaled
returns-clause-scaled c =
    let count = ap length c.bodies-bodies.ensures.bodies in
    let end : c.loop-con.con ≡ length c.args.linear.now.bodies = omega (arith, c.loop-con-test.false, c.loop-con.auto.con-end, count) in
    all_rows c.args.linear.now c.loop-con.rows.items c.loop-con.con c.bodies-bodies.ensures.folded c.loop-con.invariant end
