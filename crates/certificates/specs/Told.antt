-- What is told of a claim whose certificate holds.
use Rattle.std.specs.Prelude.{Option, option_map}
use Rattle.exact_numbers.specs.Rational.{ℚ}
use Rattle.certificates.specs.ToldMeaning.{Told, optimal, within, bound, feasible, infeasible, unbounded, without_value}
use Rattle.linear_program.specs.Numbers.{number_value}
use Rattle.certificates.specs.declared.certificate.Claim.{Claim}
use Rattle.certificates.specs.declared.certificate.Claim.TheVariants.{Optimal, Within, Bound, Feasible, Infeasible, Unbounded}

-- o is the value that its verdict has
abbrev pub told_claim : Claim → Option ℚ → Option Told
told_claim (Optimal k) o = option_map optimal o
told_claim (Within k b) o = option_map (within (number_value b)) o
told_claim (Bound k v) o = option_map bound o
told_claim (Feasible k) o = option_map feasible o
told_claim Infeasible o = without_value infeasible o
told_claim (Unbounded k) o = without_value unbounded o
