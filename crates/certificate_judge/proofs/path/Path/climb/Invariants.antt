use Rattle.std.proofs.Common.{◌≡◌, ℕ, List, length}
use Rattle.certificates.specs.Parts.{Part}
use Rattle.certificate_judge.specs.InsidePaths.{IsAt, IsPath, Turn, next_turns}
use Rattle.certificate_judge.proofs.path.Path.climb.Given as goal

abbrev pub invariant-loop-left : goal.invariant-loop-left
invariant-loop-left l = record {
  path : (n : ℕ) → IsPath n l.fn.self → IsPath n l.self;
  at : (base : Part) (turns : List Turn) → IsAt base turns l.fn.self → (now : List Turn) × IsAt base now l.self × (next_turns now ≡ next_turns turns);
}

abbrev pub decreases-loop-left : goal.decreases-loop-left
decreases-loop-left l = length l.self.steps.items
