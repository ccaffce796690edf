use Rattle.std.proofs.Common.{◌≡◌, ◌∙◌, ◌+◌, ◌*◌, None, ap, arith, length, reverse, subst, sym, take}
use Rattle.nl_model.specs.Trees.{Takes, rule_of}
use Rattle.linear_fold.specs.declared.operate.Outcome.{Outcome}
use Rattle.linear_fold.specs.InsideFolds.{first_broken}
use Rattle.linear_fold.specs.InsideOperates.{AreOperands, Operates, lines_of_parts}
use Rattle.linear_fold.proofs.Folding.{all_operands, from_start, operand_within, operator_broken, operator_folded, operator_within, faulty_operands}
use Rattle.linear_fold.proofs.StackLemmas.{taken_length}
use Rattle.linear_fold.proofs.fold.operation_part.Goals as goal
use Rattle.linear_fold.proofs.fold.operation_part.Goals.{After-operate}

-- no operand has a fault
sound : (g : _) (c : After-operate g) → (first_broken (take c.args.count (reverse c.args.stack.now.items)) ≡ None)
    × Takes (rule_of c.args.class) (length (take c.args.count (reverse c.args.stack.now.items)))
    × AreOperands c.args.variables (take c.args.count (reverse c.args.stack.now.items))
sound g c =
    let operands = take c.args.count (reverse c.args.stack.now.items) in
    let clean : first_broken operands ≡ None = ap first_broken (sym c.operands_of.ensures.operands) ∙ sym c.first_fault.ensures ∙ c.in_default.is in (
      clean,
      subst (Takes (rule_of c.args.class)) (sym (taken_length c.args.count c.args.stack.now.items (let h = c.requires.count in let k = c.args.stack.now.ok.0 in omega arith))) c.requires.rule,
      all_operands c.args.variables operands c.requires.within clean,
    )

pub returns-in-Some-clause-part : goal.returns-in-Some-clause-part
returns-in-Some-clause-part g c known ts operands = faulty_operands known c.args.variables c.args.place c.args.class ts
    (take c.args.count (reverse c.args.stack.now.items)) operands c.in-Some.fault
    (ap first_broken (sym c.operands_of.ensures.operands) ∙ sym c.first_fault.ensures ∙ c.in-Some.is)

pub returns-in-Some-clause-below : goal.returns-in-Some-clause-below
returns-in-Some-clause-below g c = from_start c.args.steps.now (2 * (c.args.variables + 1) * c.args.count)

pub operate-requires-clause-within : goal.operate-requires-clause-within
operate-requires-clause-within g c =
    all_operands c.args.variables (take c.args.count (reverse c.args.stack.now.items)) c.requires.within
    (ap first_broken (sym c.operands_of.ensures.operands) ∙ sym c.first_fault.ensures ∙ c.in_default.is)

pub returns-in-Ok-Linear-clause-part : goal.returns-in-Ok-Linear-clause-part
returns-in-Ok-Linear-clause-part g c known ts operands =
    let ps = take c.args.count (reverse c.args.stack.now.items) in
    let s = sound g (goal.at.returns-in-Ok-Linear-clause-part g c).After-operate in
    let got = subst (λ (o : Outcome). Operates c.args.variables c.args.class (lines_of_parts ps) o) c.in-Ok-Linear.field-0-is c.in-Ok-Linear.ensures.outcome in
    operator_folded known c.args.variables c.args.place c.args.class ts ps s.0 s.1 s.2 operands c.in-Ok-Linear.part got.0 got.1 got.2

pub returns-in-Ok-Linear-clause-within : goal.returns-in-Ok-Linear-clause-within
returns-in-Ok-Linear-clause-within g c =
    let ps = take c.args.count (reverse c.args.stack.now.items) in
    let s = sound g (goal.at.returns-in-Ok-Linear-clause-within g c).After-operate in
    let got = subst (λ (o : Outcome). Operates c.args.variables c.args.class (lines_of_parts ps) o) c.in-Ok-Linear.field-0-is c.in-Ok-Linear.ensures.outcome in
    operand_within c.args.variables c.in-Ok-Linear.part (operator_within c.args.variables c.args.class ps c.in-Ok-Linear.part s.1 s.2 got.1 got.2)

pub returns-in-Ok-Refused-clause-part : goal.returns-in-Ok-Refused-clause-part
returns-in-Ok-Refused-clause-part g c known ts operands =
    let ps = take c.args.count (reverse c.args.stack.now.items) in
    let s = sound g (goal.at.returns-in-Ok-Refused-clause-part g c).After-operate in
    let got = subst (λ (o : Outcome). Operates c.args.variables c.args.class (lines_of_parts ps) o) c.in-Ok-Refused.field-0-is c.in-Ok-Refused.ensures.outcome in
    operator_broken known c.args.variables c.args.place c.args.class ts ps s.0 s.1 s.2 operands c.in-Ok-Refused.reason got
