use Rattle.std.proofs.Math.Nat.{pos_of_dvd_of_pos}
use Rattle.std.proofs.Common.{arith}
use Rattle.std.proofs.lemmas.Nat.Gcd.{IsGcd-from_zero, IsGcd-from_mod}
use Rattle.exact_numbers.proofs.gcd.few_gcd.Goals as goal

pub loop-y-preserved : goal.loop-y-preserved
loop-y-preserved c g h = c.loop-y.invariant g (IsGcd-from_mod _ _ g h)

pub returns : goal.returns
returns c =
    let is = c.loop-y.invariant _ (IsGcd-from_zero _ _ (omega arith)) in
    record { greatest = is; above = λ some. pos_of_dvd_of_pos is.0 some }
