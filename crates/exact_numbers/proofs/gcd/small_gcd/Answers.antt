use Rattle.std.proofs.Math.Nat.{pos_of_dvd_of_pos}
use Rattle.std.proofs.Common.{inl, inr}
use Rattle.std.proofs.lemmas.Nat.Gcd.{IsGcd-from_zero, IsGcd-from_mod}
use Rattle.exact_numbers.proofs.ShortSums.{one_gcd}
use Rattle.exact_numbers.proofs.gcd.small_gcd.Goals as goal
use Rattle.exact_numbers.proofs.gcd.small_gcd.Goals.{then-a-eq1-via-then-a-eq1, then-a-eq1-via-else-a-eq1+then-b-eq1}

pub loop-y-preserved : goal.loop-y-preserved
loop-y-preserved c g h = c.loop-y.invariant g (IsGcd-from_mod _ _ g h)

pub returns-then-a-eq1-clause-greatest : goal.returns-then-a-eq1-clause-greatest
returns-then-a-eq1-clause-greatest c = one_gcd c.args.a c.args.b
    (elim c.then-a-eq1.branch [
      | then-a-eq1-via-then-a-eq1 w ↦ inl w.if-a-eq1.true
      | then-a-eq1-via-else-a-eq1+then-b-eq1 w
          ↦ inr w.if-b-eq1.true
    ])

pub returns-then-y-eq0-clause-greatest : goal.returns-then-y-eq0-clause-greatest
returns-then-y-eq0-clause-greatest c = c.loop-y.invariant _ (IsGcd-from_zero _ _ c.if-y-eq0.true)

pub returns-then-y-eq0-clause-above : goal.returns-then-y-eq0-clause-above
returns-then-y-eq0-clause-above c some = pos_of_dvd_of_pos (c.loop-y.invariant _ (IsGcd-from_zero _ _ c.if-y-eq0.true)).1 some

pub returns-clause-greatest : goal.returns-clause-greatest
returns-clause-greatest c = c.loop-y.invariant _ (IsGcd-from_mod _ _ _ c.few_gcd.ensures.greatest)
