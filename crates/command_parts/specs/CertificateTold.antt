-- The lines of verdicts on certificates.
use Rattle.std.specs.Prelude.{◌≡◌, ℕ, Bool, true, false, nat_lt, if◌then◌else◌, List, [], ◌++◌, codes}
use Rattle.std.specs.Option.{option_map_or}
use Rattle.std.specs.Fmt.{decimal}
use Rattle.exact_numbers.specs.Fits.{fits}
use Rattle.certificates.specs.Certificate.{ClaimOutcome, holds, fails}
use Rattle.certificates.specs.ToldMeaning.{Told, optimal, within, bound, feasible, infeasible, unbounded}
use Rattle.linear_program.specs.Numbers.{number_value}
use Rattle.certificates.specs.Certificates.{claim_objective}
use Rattle.certificates.specs.Told.{told_claim}
use Rattle.certificates.specs.declared.certificate.Claim.{Claim}
use Rattle.certificates.specs.declared.certificate.Claim.TheVariants.{Optimal, Within, Bound, Feasible, Infeasible, Unbounded}
use Rattle.certificate_judge.specs.Reasons.{failed_text}
use Rattle.command_core.specs.Told.{number_text}

-- what is said where a claim holds
abbrev pub told_text : Told → List ℕ
told_text (optimal v) = codes "optimal " ++ number_text v
told_text (within b v) = codes "within " ++ number_text b ++ codes " " ++ number_text v
told_text (bound v) = codes "bound " ++ number_text v
told_text (feasible v) = codes "feasible " ++ number_text v
told_text infeasible = codes "infeasible"
told_text unbounded = codes "unbounded"

-- the objective that it is said of; that of number 0 is not named
abbrev pub objective_text : ℕ → List ℕ
objective_text k = if nat_lt 0 k then codes " of objective " ++ decimal k else []

-- the line where the claim holds
abbrev pub told_line : Claim → Told → List ℕ
told_line claim told = told_text told ++ objective_text (claim_objective claim) ++ codes "\n"

abbrev pub outcome_text : Claim → ClaimOutcome → List ℕ
outcome_text claim (holds value) = option_map_or told_text (told_claim claim value) []
    ++ objective_text (claim_objective claim)
outcome_text claim (fails cause) = failed_text cause

-- the line of a verdict on a certificate for this claim
abbrev pub outcome_line : Claim → ClaimOutcome → List ℕ
outcome_line claim outcome = outcome_text claim outcome ++ codes "\n"

abbrev pub is_held : ClaimOutcome → Bool
is_held (holds value) = true
is_held (fails cause) = false

-- the bound of a claim that is written fits
abbrev pub HasFittingBound : Claim → Type 0
HasFittingBound (Within k b) = fits (number_value b) ≡ true
HasFittingBound (Optimal k) = Unit {0}
HasFittingBound (Bound k v) = Unit {0}
HasFittingBound (Feasible k) = Unit {0}
HasFittingBound Infeasible = Unit {0}
HasFittingBound (Unbounded k) = Unit {0}
