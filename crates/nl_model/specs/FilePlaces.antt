-- The places that a file has: its nodes, its terms, and the heads of what has either.
use Rattle.std.specs.Prelude.{ℕ, ◌<◌, ◌==◌, not, Bool, ◌||◌, IsTrue, List, [], length, get_or, slice_get, Option, is_some, option_map, option_and_then}
use Rattle.std.specs.Option.{option_map_or}
use Rattle.nl_model.specs.Trees.{Tree, tree_size}
use Rattle.nl_model.specs.declared.at.At.{At}
use Rattle.nl_model.specs.declared.at.At.TheVariants.{Node, Term as TermOf, Head}
use Rattle.nl_model.specs.declared.at.Owner.{Owner}
use Rattle.nl_model.specs.declared.at.Owner.TheVariants.{Def, Con, Obj}
use Rattle.nl_model.specs.File.{Term, File}

-- the expression of an owner, where one was given
abbrev pub tree_at : File → Owner → Option Tree
tree_at f (Def i) = option_map (λ d. d.tree) (slice_get f.definitions i)
tree_at f (Con i) = option_and_then (λ t. t) (slice_get f.bodies i)
tree_at f (Obj k) = option_map (λ o. o.tree) (slice_get f.objectives k)

-- the terms of an owner
abbrev pub terms_at : File → Owner → List Term
terms_at f (Def i) = option_map_or (λ d. d.terms) (slice_get f.definitions i) []
terms_at f (Con i) = get_or f.terms i []
terms_at f (Obj k) = get_or f.slopes k []

abbrev pub node_count : File → Owner → ℕ
node_count f o = option_map_or tree_size (tree_at f o) 0

-- an owner that has an expression or terms has a head
abbrev pub has_head : File → Owner → Bool
has_head f o = is_some (tree_at f o) || not (length (terms_at f o) == 0)

-- the file has this place
abbrev pub HasPlace : File → At → Type 0
HasPlace f (Node o i) = i < node_count f o
HasPlace f (TermOf o i) = i < length (terms_at f o)
HasPlace f (Head o) = IsTrue (has_head f o)
