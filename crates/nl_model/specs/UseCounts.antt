-- How often each variable is used by the terms of constraints.
use Rattle.std.specs.Prelude.{ℕ, ◌==◌, nat_le, List, length, filter, sum_by}
use Rattle.nl_model.specs.File.{Term}

-- how many of these terms have variable j
abbrev pub uses_in : List Term → ℕ → ℕ
uses_in terms j = length (filter (λ t. t.0 == j) terms)

-- how many terms of constraints have variable j
abbrev pub use_count : List (List Term) → ℕ → ℕ
use_count rows j = sum_by (λ terms. uses_in terms j) rows

-- how many terms of constraints have a variable up to j
abbrev pub terms_up_to : List (List Term) → ℕ → ℕ
terms_up_to rows j = sum_by (λ terms. length (filter (λ t. nat_le t.0 j) terms)) rows
