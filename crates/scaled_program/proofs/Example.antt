use Rattle.std.proofs.Common.{◌≡◌, refl}
use Rattle.std.specs.Fmt.{digits}
use Rattle.mps_model.specs.Text.{mps_lines, mps_text_by, column_lines}
use Rattle.scaled_program.specs.Example.{spelled, knapsack, knapsack_text}

pub knapsack_is_written : mps_text_by spelled knapsack ≡ knapsack_text
unfolding digits mps_lines column_lines knapsack knapsack_text
knapsack_is_written = refl
