use Rattle.scaled_program.proofs.Example.{knapsack_is_written}
use Rattle.scaled_program.proofs.exported_laws.example.Goals as goal

pub returns : goal.returns
returns c = knapsack_is_written
