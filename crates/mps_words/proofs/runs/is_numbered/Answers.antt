use Rattle.std.proofs.Common.{◌∙◌, sym, arith}
use Rattle.mps_words.proofs.NumberRuns.{digit_same, digit_other, last_same, last_other}
use Rattle.mps_words.proofs.runs.is_numbered.Goals as goal

pub returns-then-front-left : goal.returns-then-front-left
returns-then-front-left c =
    sym (digit_other c.digits.front c.args.prefix c.digits.left c.digits-test.true (omega (arith, c.digits.auto.left-fits)) c.if-front-left.true) ∙ c.digits.invariant.same

pub digits-preserved : goal.digits-preserved
digits-preserved c = record {
  same = digit_same c.digits.front c.args.prefix c.digits.left c.digits-test.true (omega (arith, c.digits.auto.left-fits)) c.if-front-left.false ∙ c.digits.invariant.same;
}

pub returns-then-front-left-2 : goal.returns-then-front-left-2
returns-then-front-left-2 c =
    last_same c.digits.front c.args.prefix c.digits.left c.digits-test.false c.if-front-left-2.true ∙ c.digits.invariant.same

pub returns-else-front-left-2 : goal.returns-else-front-left-2
returns-else-front-left-2 c =
    last_other c.digits.front c.args.prefix c.digits.left c.digits-test.false c.if-front-left-2.false ∙ c.digits.invariant.same
