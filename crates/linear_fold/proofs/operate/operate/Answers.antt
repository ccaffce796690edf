use Rattle.std.proofs.Common.{◌≡◌, ◌∙◌, ap, reverse, sym, subst, take}
use Rattle.nl_model.specs.Trees.{Takes, rule_of}
use Rattle.linear_fold.specs.InsideOperates.{AreOperands, AreUnbroken}
use Rattle.linear_fold.proofs.Operators.{as_operands, first_within, one_within, second_within, unbroken_of}
use Rattle.linear_fold.proofs.operate.operate.Goals as goal

pub returns-in-Negation-clause-outcome : goal.returns-in-Negation-clause-outcome
returns-in-Negation-clause-outcome g c =
    let one : c.args.count ≡ 1 = subst (λ k. Takes (rule_of k) c.args.count) c.in-Negation.is c.requires.rule in
    as_operands c.args.variables c.args.class _ (take c.args.count (reverse c.args.stack.now.items))
    (take 1 (reverse c.args.stack.now.items)) c.negated.result c.in-Negation.is
    (ap (λ k. take k (reverse c.args.stack.now.items)) one)
    (c.negated.ensures.outcome c.args.variables (subst (λ k. AreOperands c.args.variables (take k (reverse c.args.stack.now.items))) one c.requires.within))

pub returns-in-Power-clause-outcome : goal.returns-in-Power-clause-outcome
returns-in-Power-clause-outcome g c =
    let is = sym c.operands_of-in-Power.ensures.operands ∙ c.two_of-in-Power.ensures in
    as_operands c.args.variables c.args.class _ (take c.args.count (reverse c.args.stack.now.items)) _ c.power.result
    c.in-Power.is is (c.power.ensures c.args.variables (first_within c.args.variables
    (take c.args.count (reverse c.args.stack.now.items)) _ _ is c.requires.within)
    (second_within c.args.variables (take c.args.count (reverse c.args.stack.now.items)) _ _ is c.requires.within))

pub best-requires-clause-unbroken : goal.best-requires-clause-unbroken
best-requires-clause-unbroken g c = subst AreUnbroken (sym c.operands_of-in-Least.ensures.operands)
    (unbroken_of c.args.variables (take c.args.count (reverse c.args.stack.now.items)) c.requires.within)

pub returns-in-Least-clause-outcome : goal.returns-in-Least-clause-outcome
returns-in-Least-clause-outcome g c =
    as_operands c.args.variables c.args.class _ (take c.args.count (reverse c.args.stack.now.items))
    (reverse c.operands_of-in-Least.result.now) c.best.result c.in-Least.is
    (sym c.operands_of-in-Least.ensures.operands) (c.best.ensures c.args.variables
    (subst (AreOperands c.args.variables) (sym c.operands_of-in-Least.ensures.operands) c.requires.within))

pub best-requires-in-Greatest-clause-unbroken : goal.best-requires-in-Greatest-clause-unbroken
best-requires-in-Greatest-clause-unbroken g c = subst AreUnbroken (sym c.operands_of-in-Greatest.ensures.operands)
    (unbroken_of c.args.variables (take c.args.count (reverse c.args.stack.now.items)) c.requires.within)

pub returns-in-Greatest-clause-outcome : goal.returns-in-Greatest-clause-outcome
returns-in-Greatest-clause-outcome g c =
    as_operands c.args.variables c.args.class _ (take c.args.count (reverse c.args.stack.now.items))
    (reverse c.operands_of-in-Greatest.result.now) c.best-in-Greatest.result c.in-Greatest.is
    (sym c.operands_of-in-Greatest.ensures.operands) (c.best-in-Greatest.ensures c.args.variables
    (subst (AreOperands c.args.variables) (sym c.operands_of-in-Greatest.ensures.operands) c.requires.within))

pub returns-in-Floor-clause-outcome : goal.returns-in-Floor-clause-outcome
returns-in-Floor-clause-outcome g c =
    let is = sym c.operands_of-in-Floor.ensures.operands ∙ c.one_of.ensures in
    as_operands c.args.variables c.args.class _ (take c.args.count (reverse c.args.stack.now.items)) _ c.floor.result
    c.in-Floor.is is (c.floor.ensures c.args.variables (one_within c.args.variables
    (take c.args.count (reverse c.args.stack.now.items)) _ is c.requires.within))

pub returns-in-Ceiling-clause-outcome : goal.returns-in-Ceiling-clause-outcome
returns-in-Ceiling-clause-outcome g c =
    let is = sym c.operands_of-in-Ceiling.ensures.operands ∙ c.one_of-in-Ceiling.ensures in
    as_operands c.args.variables c.args.class _ (take c.args.count (reverse c.args.stack.now.items)) _ c.ceiling.result
    c.in-Ceiling.is is (c.ceiling.ensures c.args.variables
    (one_within c.args.variables (take c.args.count (reverse c.args.stack.now.items)) _ is c.requires.within))

pub returns-in-Absolute-clause-outcome : goal.returns-in-Absolute-clause-outcome
returns-in-Absolute-clause-outcome g c =
    let is = sym c.operands_of-in-Absolute.ensures.operands ∙ c.one_of-in-Absolute.ensures in
    as_operands c.args.variables c.args.class _ (take c.args.count (reverse c.args.stack.now.items)) _ c.absolute.result
    c.in-Absolute.is is (c.absolute.ensures c.args.variables
    (one_within c.args.variables (take c.args.count (reverse c.args.stack.now.items)) _ is c.requires.within))

pub returns-in-Some-clause-outcome : goal.returns-in-Some-clause-outcome
returns-in-Some-clause-outcome g c =
    let two : c.args.count ≡ 2 = subst (λ k. Takes (rule_of k) c.args.count) c.in-Product.is c.requires.rule in
    as_operands c.args.variables c.args.class _ (take c.args.count (reverse c.args.stack.now.items))
    (take 2 (reverse c.args.stack.now.items)) c.by_unit.result c.in-Product.is
    (ap (λ k. take k (reverse c.args.stack.now.items)) two)
    (c.by_unit.ensures.outcome c.args.variables (subst (λ k. AreOperands c.args.variables (take k (reverse c.args.stack.now.items))) two c.requires.within))
