-- The places of a kind of variable.
use Rattle.std.specs.Prelude.{ℕ, Bool, false, List, length, get_or}
use Rattle.linear_program.specs.declared.kind.Kind.{Kind}
use Rattle.linear_program.specs.declared.kind.Kind.TheVariants.{Continuous, Binary, Integer}
use Rattle.mps_program.specs.Places.{places}

-- whether a kind is this one
abbrev pub is_kind : Kind → Kind → Bool
is_kind Continuous Continuous = Bool.true
is_kind Continuous Binary = false
is_kind Continuous Integer = false
is_kind Binary Continuous = false
is_kind Binary Binary = Bool.true
is_kind Binary Integer = false
is_kind Integer Continuous = false
is_kind Integer Binary = false
is_kind Integer Integer = Bool.true

-- the places of a kind
abbrev pub of_kind : Kind → List Kind → List ℕ
of_kind kind kinds = places (λ j. is_kind kind (get_or kinds j Continuous)) (length kinds)
