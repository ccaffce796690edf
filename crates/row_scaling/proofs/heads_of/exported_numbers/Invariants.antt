use Rattle.std.proofs.Common.{◌≡◌, ◌++◌, ℕ, List, map}
use Rattle.row_scaling.proofs.ColumnLemmas.{left}
use Rattle.row_scaling.proofs.heads_of.exported_numbers.Given as goal

abbrev pub invariant-loop-i : goal.invariant-loop-i
invariant-loop-i l = (name : ℕ → List ℕ) → map name l.numbers.items ++ map (λ r. r.name) (left name l.rows l.i) ≡ map (λ r. r.name) (left name l.rows 0)
