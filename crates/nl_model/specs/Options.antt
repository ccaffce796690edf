-- The options of the first header line (Gay 2005, "Writing .nl Files"), which a .sol file repeats.
use Rattle.std.specs.Prelude.{pos, Bool, List, ◌∷◌, ℤ}
use Rattle.std.specs.Ordering.{int_eq}

-- the second of the options is 3: it announces a line that is refused
abbrev pub has_second_three : List ℤ → Bool
has_second_three (first ∷ second ∷ rest) = int_eq second (pos 3)
has_second_three _ = Bool.false
