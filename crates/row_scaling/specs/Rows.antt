-- Scaled rows as data, and their values.
use Rattle.std.specs.Prelude.{◌≡◌, ◌≢◌, ℕ, suc, ◌<◌, ◌≤◌, IsTrue, List, [], ◌∷◌, Option, Box, All}
use Rattle.std.specs.Global.{Global}
use Rattle.std.specs.Option.{option_map}
use Rattle.linear_program.specs.Intervals.{is_sided}
use Rattle.exact_numbers.specs.Rational.{ℚ, zero_ℚ}
use Rattle.scaled_program.specs.Program.{range_of}
use Rattle.exact_numbers.specs.declared.dec.Dec.{Dec}
use Rattle.exact_numbers.specs.Values.{dec_value}
pub use Rattle.linear_program.specs.Decimals.{DecimalTerm as TermOf}
use Rattle.linear_program.specs.declared.interval.Interval.{Interval}

-- the variables rise, the first being at least n, and no coefficient is 0
abbrev pub IsSparse : ℕ → List TermOf → Type 0
IsSparse n [] = Unit {0}
IsSparse n (t ∷ ts) = (n ≤ t.0) × (dec_value t.1 ≢ zero_ℚ) × IsSparse (suc t.0) ts

-- every variable is one of the first n
abbrev pub IsBelow : ℕ → List TermOf → Type 0
IsBelow n ts = All (λ t. t.0 < n) ts

-- the value of a side
abbrev pub side_value : Option Dec → Option ℚ
side_value s = option_map dec_value s

-- a number that may be missing, out of its box
abbrev pub unboxed : Option (Box Dec Global) → Option Dec
unboxed number = option_map (λ b. b.value) number

-- a row times its factor: its coefficients, its sides less the constant, and their difference where
-- both are there and differ
pub record RowValue : Type 0 where
  pub terms : List TermOf
  pub side : Interval
  pub range : Option Dec

-- what holds of every scaled row
pub record IsScaledRow (r : RowValue) : Type 0 where
  pub sparse : IsSparse 0 r.terms
  pub sided : IsTrue (is_sided r.side)
  pub range : side_value r.range ≡ range_of (side_value r.side.lo) (side_value r.side.hi)
