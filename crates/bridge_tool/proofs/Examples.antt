-- Examples, by computation.
use Rattle.std.proofs.Common.{◌≡◌, refl}
use Rattle.bridge_tool.specs.Draws.{drawn_row, state_after}
use Rattle.bridge_tool.specs.declared.draws.Row.{Row}

-- the first row of the seed 1: 17 times its variable is at most 26
first_row : ◌≡◌ {A = Row} (drawn_row 1 0) (record { defining = 8; linear = 9; most = 26; bound = 8; slope = 46 })
unfolding drawn_row state_after
first_row = refl
