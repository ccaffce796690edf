-- What a head, a node and a term more do to the lines of places.
use Rattle.std.specs.Prelude.{ℕ, ◌-◌, ◌<◌, Bool, false, [], ◌∷◌, ◌++◌, length, get_or, Some}
use Rattle.std.specs.Option.{option_or}
use Rattle.nl_lines.specs.declared.head.Head.{Head}
use Rattle.nl_lines.specs.declared.head.Head.TheVariants.{Body, Objective, Definition, Terms, Slopes}
use Rattle.nl_lines.specs.Saying.{OwnerLines, PlaceLines, changed, no_lines}
use Rattle.nl_lines.specs.InsideLineRuns.{follows}
pub use Rattle.nl_lines.specs.Owners.{more_node_run, more_term_run}

-- a head in this line
abbrev pub with_begun : PlaceLines → ℕ → Head → PlaceLines
with_begun l line (Body i) =
    record l {
      constraints = changed (λ o. record o { head = Some line; nodes = [] })
          l.constraints i;
    }
with_begun l line (Objective k m) =
    record l {
      objectives = changed (λ o. record o { head = Some line; nodes = [] })
          l.objectives k;
    }
with_begun l line (Definition i j u) =
    record l {
      definitions = l.definitions
          ++ record { head = Some line; nodes = []; terms = [] } ∷ [];
    }
with_begun l line (Terms i n) =
    record l {
      constraints = changed
          (λ o. record o { head = option_or o.head (Some line); terms = [] }) l.constraints i;
    }
with_begun l line (Slopes k n) =
    record l { objectives = changed (λ o. record o { terms = [] }) l.objectives k }
with_begun l line head = l

abbrev pub more_nodes : ℕ → OwnerLines → OwnerLines
more_nodes line o = record o { nodes = o.nodes ++ line ∷ [] }

abbrev pub more_terms : ℕ → OwnerLines → OwnerLines
more_terms line o = record o { terms = o.terms ++ line ∷ [] }

-- a node of the last piece, which has this head
abbrev pub with_node_line : PlaceLines → ℕ → Head → PlaceLines
with_node_line l line (Body i) =
    record l { constraints = changed (more_nodes line) l.constraints i }
with_node_line l line (Objective k m) =
    record l { objectives = changed (more_nodes line) l.objectives k }
with_node_line l line (Definition i j u) =
    record l { definitions = changed (more_nodes line) l.definitions (length l.definitions - 1) }
with_node_line l line head = l

-- a term of the last piece, which has this head
abbrev pub with_term_line : PlaceLines → ℕ → Head → PlaceLines
with_term_line l line (Definition i j u) =
    record l { definitions = changed (more_terms line) l.definitions (length l.definitions - 1) }
with_term_line l line (Terms i n) =
    record l { constraints = changed (more_terms line) l.constraints i }
with_term_line l line (Slopes k n) =
    record l { objectives = changed (more_terms line) l.objectives k }
with_term_line l line head = l

-- so many terms of the last piece, which has this head, in lines that follow one another
abbrev pub with_term_run : PlaceLines → ℕ → ℕ → Head → PlaceLines
with_term_run l first n (Terms i k) =
    record l { constraints = changed (more_term_run first n) l.constraints i }
with_term_run l first n (Slopes k j) =
    record l { objectives = changed (more_term_run first n) l.objectives k }
with_term_run l first n head = l

-- so many nodes of the last piece, which has this head, in lines that follow one another
abbrev pub with_node_run : PlaceLines → ℕ → ℕ → Head → PlaceLines
with_node_run l first n (Body i) =
    record l { constraints = changed (more_node_run first n) l.constraints i }
with_node_run l first n (Objective k m) =
    record l { objectives = changed (more_node_run first n) l.objectives k }
with_node_run l first n head = l

-- a line follows those of the terms of the last piece, which are not kept
abbrev pub terms_follow : PlaceLines → Head → ℕ → Bool
terms_follow l (Terms i k) line = follows (get_or l.constraints i no_lines).terms line
terms_follow l (Slopes k j) line = follows (get_or l.objectives k no_lines).terms line
terms_follow l head line = false

-- a line follows those of the nodes of the last piece, which is of a constraint or an objective
abbrev pub nodes_follow : PlaceLines → Head → ℕ → Bool
nodes_follow l (Body i) line = follows (get_or l.constraints i no_lines).nodes line
nodes_follow l (Objective k m) line = follows (get_or l.objectives k no_lines).nodes line
nodes_follow l head line = false

-- the owner of a head has a place
abbrev pub HasOwner : PlaceLines → Head → Type 0
HasOwner l (Body i) = i < length l.constraints
HasOwner l (Objective k m) = k < length l.objectives
HasOwner l (Terms i n) = i < length l.constraints
HasOwner l (Slopes k n) = k < length l.objectives
HasOwner l head = Unit {0}

-- a defined variable was begun
abbrev pub HasBegun : PlaceLines → Head → Type 0
HasBegun l (Definition i j u) = 0 < length l.definitions
HasBegun l head = Unit {0}
