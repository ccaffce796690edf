use Rattle.std.proofs.Common.{◌∙◌, ap₂, refl}
use Rattle.exact_numbers.specs.Rational.{zero_ℚ, one_ℚ, ◌+ℚ◌, ◌*ℚ◌}
use Rattle.exact_numbers.specs.Sums.{sum_over}
use Rattle.exact_numbers.proofs.RationalLaws.{*ℚ_one, +ℚ_zero, zero-+ℚ}
use Rattle.linear_program.specs.Elements.{elements_from}
use Rattle.mps_model.specs.Mps.{at_row, has_whole_record, objective_row, part_of_row}
use Rattle.mps_program.specs.Places.{places}
use Rattle.mps_program.specs.Program.{constraints, linear_of}
use Rattle.mps_program.proofs.laws.program_of_two_columns.Goals as goal

pub returns-clause-sides : goal.returns-clause-sides
unfolding linear_of constraints places at_row
returns-clause-sides c = λ p q r s t b d u. refl

pub returns-clause-names : goal.returns-clause-names
unfolding linear_of constraints places
returns-clause-names c = λ p q r s t b d u. refl

pub returns-clause-whole : goal.returns-clause-whole
unfolding linear_of elements_from has_whole_record
returns-clause-whole c = λ p q r s t b d u. refl

pub returns-clause-constant : goal.returns-clause-constant
unfolding linear_of objective_row at_row
returns-clause-constant c = λ p q r s t b d u. refl

pub returns-clause-coefficient : goal.returns-clause-coefficient
unfolding linear_of constraints places part_of_row sum_over
returns-clause-coefficient c = λ p q r s t b d u.
    zero-+ℚ (s *ℚ one_ℚ +ℚ (zero_ℚ +ℚ zero_ℚ)) ∙ ap₂ ◌+ℚ◌ (*ℚ_one s) (+ℚ_zero zero_ℚ) ∙ +ℚ_zero s
