-- The numbers that are drawn for an instance (a linear congruential generator with the constants of
-- Numerical Recipes; the ranges are this project's own).
use Rattle.std.specs.Prelude.{ℕ, zero, suc, ◌+◌, ◌*◌, ◌/◌, ◌%◌, ◌^◌}
use Rattle.bridge_tool.specs.declared.draws.Row.{Row}

-- one draw takes the state to this one
abbrev pub next_state : ℕ → ℕ
next_state s = (s * 1664525 + 1013904223) % 2 ^ 32

-- the state after i draws; it begins as the seed
unfoldable pub state_after : ℕ → ℕ → ℕ
state_after seed zero = seed
state_after seed (suc i) = next_state (state_after seed i)

-- what a draw of a number below m gives, by the state after it: the high bits
abbrev pub drawn : ℕ → ℕ → ℕ
drawn s m = s / 65536 % m

-- the numbers of row k, which are drawn one after the other, five for each row
unfoldable pub drawn_row : ℕ → ℕ → Row
drawn_row seed k =
    record {
      defining = 1 + drawn (state_after seed (5 * k + 1)) 9;
      linear = 1 + drawn (state_after seed (5 * k + 2)) 9;
      most = 10 + drawn (state_after seed (5 * k + 3)) 90;
      bound = 1 + drawn (state_after seed (5 * k + 4)) 9;
      slope = 1 + drawn (state_after seed (5 * k + 5)) 99;
    }
