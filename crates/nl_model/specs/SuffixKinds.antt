-- What the kind of a suffix says: the low two bits which objects have it, the bit of value 4 which
-- values they have (Gay 2005, "Writing .nl Files", segment S).
use Rattle.std.specs.Prelude.{ℕ, ◌%◌, ◌/◌, ◌==◌, Bool, if◌then◌else◌}
use Rattle.nl_model.specs.declared.suffix_kinds.Objects.{Objects}
use Rattle.nl_model.specs.declared.suffix_kinds.Objects.TheVariants.{Variables, Constraints, Objectives, Problem}

-- whether a suffix of this kind is for the objectives
abbrev pub is_for_objectives : ℕ → Bool
is_for_objectives kind = kind % 4 == 2

-- the objects that a suffix of this kind is for
abbrev pub objects_of : ℕ → Objects
objects_of kind =
    if kind % 4 == 0 then Variables else
    if kind % 4 == 1 then Constraints else
    if is_for_objectives kind then Objectives else
    Problem

-- whether two kinds are for the same objects
abbrev pub has_same_objects : ℕ → ℕ → Bool
has_same_objects kind other = kind % 4 == other % 4

-- how many they are: all variables, all constraints, all objectives, or the one problem
abbrev pub count_among : ℕ → ℕ → ℕ → Objects → ℕ
count_among n_var n_con n_obj Variables = n_var
count_among n_var n_con n_obj Constraints = n_con
count_among n_var n_con n_obj Objectives = n_obj
count_among n_var n_con n_obj Problem = 1

abbrev pub object_limit : ℕ → ℕ → ℕ → ℕ → ℕ
object_limit n_var n_con n_obj kind = count_among n_var n_con n_obj (objects_of kind)

-- each value is whole unless the bit of value 4 is there
abbrev pub wants_whole : ℕ → Bool
wants_whole kind = (kind / 4) % 2 == 0
