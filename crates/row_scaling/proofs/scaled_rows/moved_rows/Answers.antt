use Rattle.std.proofs.Common.{◌≡◌, ◌<◌, ◌∙◌, ◌∷◌, ap, sym, arith, length, drop}
use Rattle.std.specs.Vec.Iter.{into_iter_items}
use Rattle.linear_program.specs.Programs.{linear_value}
use Rattle.linear_program.proofs.ListLemmas.{others_left}
use Rattle.row_scaling.proofs.LinearLemmas.{before_fit, row_fault}
use Rattle.row_scaling.proofs.MovedRows.{all_moved, row_moved, row_there}
use Rattle.row_scaling.proofs.scaled_rows.moved_rows.Goals as goal

pub returns-in-Err-clause-wide : goal.returns-in-Err-clause-wide
returns-in-Err-clause-wide c l h =
    let i = c.loop-con.con in
    let bodies = c.args.bodies.items in
    let left : drop i bodies ≡ c.in-Some.body ∷ into_iter_items c.next.new.self = sym c.loop-con.invariant.1 ∙ c.in-Some.ensures.cases.0 in
    let within : i < length bodies = omega (arith, c.loop-con-test.true, c.requires.count) in
    row_fault (linear_value l) i c.in-Err.stop (before_fit l c.loop-con.rows.items i (c.loop-con.invariant.0 l h))
    (c.in-Err.ensures.wide l (row_there l bodies c.args.sides.now h i c.in-Some.body _ c.index-sides-con.result left within c.index-sides-con.is))

pub loop-con-preserved : goal.loop-con-preserved
loop-con-preserved c =
    let i = c.loop-con.con in
    let bodies = c.args.bodies.items in
    let steps = c.in-Some.ensures.cases in
    let left : drop i bodies ≡ c.in-Some.body ∷ into_iter_items c.next.new.self = sym c.loop-con.invariant.1 ∙ steps.0 in
    let within : i < length bodies = omega (arith, c.loop-con-test.true, c.requires.count) in (
      λ l h. row_moved l bodies c.args.sides.now h i c.in-Some.body _ c.index-sides-con.result left within
          c.index-sides-con.is c.loop-con.rows.items c.push.new.self.items c.in-Ok.row (c.loop-con.invariant.0 l h)
          c.in_ok-push.ensures.items
          (c.in-Ok.ensures.scaled l (row_there l bodies c.args.sides.now h i c.in-Some.body _ c.index-sides-con.result left within c.index-sides-con.is)) c.in-Ok.ensures.few,
      others_left bodies i c.in-Some.body _ left,
      omega (arith, c.loop-con.invariant.2, ap length steps.0, steps.1),
    )

pub returns-clause-scaled : goal.returns-clause-scaled
returns-clause-scaled c l h =
    all_moved l c.args.bodies.items c.args.sides.now c.loop-con.rows.items c.loop-con.con h (c.loop-con.invariant.0 l h)
    (omega (arith, c.loop-con-test.false, c.loop-con.auto.con-end, c.requires.count))
