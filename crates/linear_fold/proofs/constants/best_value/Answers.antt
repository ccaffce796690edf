use Rattle.std.proofs.Common.{◌-◌, ap, arith, length, reverse, subst, sym, take}
use Rattle.exact_numbers.specs.Values.{frac_value}
use Rattle.linear_fold.proofs.ConstantLemmas.{Choosing, best_found, choosing_init, choosing_more, unbroken_first, unbroken_here, first_varies}
use Rattle.std.proofs.lemmas.List.{take_all}
use Rattle.linear_fold.proofs.Operators.{first_of_all, last_first, take_none}
use Rattle.linear_fold.proofs.constants.best_value.Goals as goal

pub constant-requires : goal.constant-requires
constant-requires c = unbroken_first c.index-operands-last.result
    (reverse (take (length c.args.operands.now - 1) c.args.operands.now)) (reverse c.args.operands.now)
    (first_of_all c.args.operands.now c.index-operands-last.result c.requires.some c.index-operands-last.is)
    c.requires.unbroken

pub returns-in_default : goal.returns-in_default
returns-in_default c n z =
    first_varies n c.index-operands-last.result (reverse (take (length c.args.operands.now - 1) c.args.operands.now))
    (reverse c.args.operands.now) (first_of_all c.args.operands.now c.index-operands-last.result c.requires.some
    c.index-operands-last.is) z
    (λ m y. sym (c.in_default.ensures.test m y))

pub loop-place-init : goal.loop-place-init
loop-place-init c =
    subst (λ ps. Choosing c.args.least (frac_value c.in-Some.best) (frac_value c.in-Some.best) (reverse ps)
    (reverse c.args.operands.now)) (sym (take_all (length c.args.operands.now) c.args.operands.now (omega arith)))
    (choosing_init c.args.least _ (reverse c.args.operands.now) c.requires.unbroken)

pub constant-requires-in-loop-place : goal.constant-requires-in-loop-place
constant-requires-in-loop-place c =
    unbroken_here c.args.least (frac_value c.in-Some.best) (frac_value c.loop-place.best) c.index-operands-place.result
    (reverse (take c.loop-place.place c.args.operands.now))
    (reverse (take (c.loop-place.place - 1) c.args.operands.now)) (reverse c.args.operands.now)
    (last_first c.args.operands.now c.loop-place.place c.index-operands-place.result c.loop-place-test.true c.loop-place.auto.place c.index-operands-place.is) c.loop-place.invariant

pub loop-place-preserved : goal.loop-place-preserved
loop-place-preserved c =
    choosing_more c.args.least (frac_value c.in-Some.best) (frac_value c.loop-place.best)
    (frac_value c.better-best.result) c.index-operands-place.result
    (reverse (take c.loop-place.place c.args.operands.now))
    (reverse (take (c.loop-place.place - 1) c.args.operands.now)) (reverse c.args.operands.now)
    (last_first c.args.operands.now c.loop-place.place c.index-operands-place.result c.loop-place-test.true c.loop-place.auto.place c.index-operands-place.is) c.loop-place.invariant
    (frac_value c.in-Some-constant.value) c.in-Some-constant.ensures.value (λ m y. sym (c.in-Some-constant.ensures.test m y)) c.better-best.ensures

pub returns : goal.returns
returns c =
    best_found c.args.least (frac_value c.in-Some.best) c.loop-place.best c.index-operands-last.result
    (reverse (take c.loop-place.place c.args.operands.now))
    (reverse (take (length c.args.operands.now - 1) c.args.operands.now)) (reverse c.args.operands.now)
    (ap reverse (take_none c.args.operands.now c.loop-place.place (let h = c.loop-place-test.false in omega arith)))
    (first_of_all c.args.operands.now c.index-operands-last.result c.requires.some c.index-operands-last.is) c.in-Some.ensures.value c.loop-place.invariant
