use Rattle.std.proofs.Common.{◌≡◌, All, drop, true}
use Rattle.exact_numbers.specs.Values.{dec_value}
use Rattle.exact_numbers.specs.Fits.{fits}
use Rattle.linear_fold.proofs.ascending.are_kept.Given as goal

abbrev pub invariant-loop-factor : goal.invariant-loop-factor
invariant-loop-factor l = All (λ t. fits (dec_value t.1) ≡ true) (drop l.factor-index l.terms) → All (λ t. fits (dec_value t.1) ≡ true) l.terms
