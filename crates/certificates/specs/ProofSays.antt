-- What a proof by branches says of a problem.
use Rattle.std.specs.Prelude.{List}
use Rattle.exact_numbers.specs.Rational.{ℚ}
use Rattle.certificates.specs.Problem.{Problem, IsBound, IsBroken}
use Rattle.exact_numbers.specs.Values.{dec_value}
use Rattle.certificates.specs.declared.proof.Claim.{Claim}
use Rattle.certificates.specs.declared.proof.Claim.TheVariants.{Value, Infeasible}

-- what its claim says; that of no feasible point says it of the points without their whole
-- variables, too
abbrev pub IsProvedTrueOf : Problem → Claim → Type 0
IsProvedTrueOf p (Value n d) = IsBound p (dec_value d)
IsProvedTrueOf p Infeasible = (xs : List ℚ) → IsBroken p xs
