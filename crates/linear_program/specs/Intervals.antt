-- Sides and kinds as data: what they mean, and which sides are in order.
use Rattle.std.specs.Prelude.{Bool, false, Option, Some, None, true}
use Rattle.exact_numbers.specs.Rational.{◌≤ℚ◌}
use Rattle.exact_numbers.specs.Values.{dec_value}
use Rattle.exact_numbers.specs.declared.dec.Dec.{Dec}
use Rattle.linear_program.specs.declared.interval.Interval.{Interval as Sides}
use Rattle.std.specs.Option.{option_map}
use Rattle.linear_program.specs.Linear.{Interval, has_side}
use Rattle.linear_program.specs.declared.kind.Kind.{Kind}
use Rattle.linear_program.specs.declared.kind.Kind.TheVariants.{Continuous, Binary, Integer}

-- the lower side is not above the upper, where both are there
abbrev pub AreOrdered : Option Dec → Option Dec → Type 0
AreOrdered None u = Unit {0}
AreOrdered (Some l) None = Unit {0}
AreOrdered (Some l) (Some u) = dec_value l ≤ℚ dec_value u

abbrev pub IsOrdered : Sides → Type 0
IsOrdered i = AreOrdered i.lo i.hi

-- the sides as numbers
abbrev pub interval_of : Sides → Interval
interval_of s = record { lower = option_map dec_value s.lo; upper = option_map dec_value s.hi }

-- one of the sides is there
abbrev pub is_sided : Sides → Bool
is_sided s = has_side (interval_of s)

abbrev pub no_sides : Sides
no_sides = record { lo = None; hi = None }

-- a binary variable is whole too
abbrev pub is_whole_kind : Kind → Bool
is_whole_kind Continuous = false
is_whole_kind Binary = true
is_whole_kind Integer = true
