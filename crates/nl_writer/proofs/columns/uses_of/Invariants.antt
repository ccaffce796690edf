use Rattle.std.proofs.Common.{◌≡◌, ℕ, ◌<◌, length, get_or, take}
use Rattle.nl_model.specs.UseCounts.{use_count}
use Rattle.nl_writer.proofs.columns.uses_of.Given as goal

abbrev pub invariant-loop-con : goal.invariant-loop-con
invariant-loop-con l = record { count : length l.uses.items ≡ l.file.counts.n_var; counted : (j : ℕ) → j < l.file.counts.n_var → get_or l.uses.items j 0 ≡ use_count (take l.con l.file.terms) j }
