-- Lists of linear terms: which ascend, and which add nothing.
use Rattle.std.specs.Prelude.{◌≡◌, ◌≢◌, ℕ, suc, ◌≤◌, List, [], ◌∷◌}
use Rattle.exact_numbers.specs.Rational.{zero_ℚ}
use Rattle.nl_model.specs.Trees.{LinearTerm}

-- ascending by variable, the first being at least n, and no factor is 0
abbrev pub AreStrictlyAscending : ℕ → List LinearTerm → Type 0
AreStrictlyAscending n [] = Unit {0}
AreStrictlyAscending n (t ∷ ts) =
    (n ≤ t.variable) × (t.factor ≢ zero_ℚ) × AreStrictlyAscending (suc t.variable) ts

-- each factor is 0
abbrev pub AreZeroTerms : List LinearTerm → Type 0
AreZeroTerms [] = Unit {0}
AreZeroTerms (t ∷ ts) = (t.factor ≡ zero_ℚ) × AreZeroTerms ts
