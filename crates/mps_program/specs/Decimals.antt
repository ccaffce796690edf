-- The decimal sides of an interval.
use Rattle.std.specs.Prelude.{option_and_then}
use Rattle.linear_program.specs.Linear.{Interval}
use Rattle.exact_numbers.specs.Numbers.{dec_from}
use Rattle.linear_program.specs.declared.interval.Interval.{Interval as Sides}

-- the sides that are those of an interval; nothing asks for those of one whose sides are no
-- decimals
abbrev pub sides_from : Interval → Sides
sides_from s =
    record { lo = option_and_then dec_from s.lower; hi = option_and_then dec_from s.upper }
