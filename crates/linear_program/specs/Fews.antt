-- Lists that keep one element in place.
use Rattle.std.specs.Prelude.{List, [], ◌∷◌}
use Rattle.linear_program.specs.declared.few.Few.{Few}
use Rattle.linear_program.specs.declared.few.Place.{Place}
use Rattle.linear_program.specs.declared.few.Place.TheVariants.{Alone, Listed}

abbrev pub place_items : {T : Type 0} → Place T → List T
place_items (Alone x) = x ∷ []
place_items (Listed v) = v.items

-- the elements
abbrev pub few_items : {T : Type 0} → Few T → List T
few_items few = place_items few.place
