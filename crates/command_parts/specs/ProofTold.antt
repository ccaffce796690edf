-- The lines of verdicts on proofs.
use Rattle.std.specs.Prelude.{ℕ, List, ◌++◌, codes, Option, Some, None}
use Rattle.certificates.specs.Branch.{LeafFault}
use Rattle.certificate_judge.specs.Reasons.{leaf_fault_text}

-- the line of a verdict: the first leaf that does not close, or none
abbrev pub leaf_line : Option LeafFault → List ℕ
leaf_line None = codes "proved\n"
leaf_line (Some fault) = leaf_fault_text fault ++ codes "\n"
