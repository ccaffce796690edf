-- The expressions of an .nl file (Gay 2005, "Writing .nl Files"): trees with their linear terms.
use Rattle.std.specs.Prelude.{ℕ, pos, Bool, false, List, [], map, get_or, Option, None, unwrap_or}
use Rattle.exact_numbers.specs.Values.{dec_value}
use Rattle.nl_model.specs.Trees.{Tree, number, LinearTerm, Expression, Definition}
use Rattle.nl_model.specs.File.{Term, File}
use Rattle.nl_model.specs.declared.objective.Objective.{Objective}
use Rattle.nl_model.specs.declared.definition.Def.{Def as FileDefinition}

-- variables and their factors
abbrev pub linear_terms : List Term → List LinearTerm
linear_terms ts = map (λ t. record { variable = t.0; factor = dec_value t.1 }) ts

-- a tree with its linear terms
abbrev pub expression_of : Tree → List Term → Expression
expression_of t ts = record { tree = t; terms = linear_terms ts }

abbrev pub definition_of : FileDefinition → Definition
definition_of d = record { index = d.index; expression = expression_of d.tree d.terms }

-- the defined variables, in file order
abbrev pub definitions_of : File → List Definition
definitions_of f = map definition_of f.definitions

abbrev pub tree_or_zero : Option Tree → Tree
tree_or_zero t = unwrap_or t (number (pos 0) (pos 0))

-- body i: its expression (segment C of the text), 0 where none was given, and its linear terms
-- (segment J)
abbrev pub body_of : File → ℕ → Expression
body_of f i = expression_of (tree_or_zero (get_or f.bodies i None)) (get_or f.terms i [])

-- a file without objectives minimises 0
abbrev pub objective_at : File → ℕ → Objective
objective_at f k = get_or f.objectives k (record { maximise = false; tree = tree_or_zero None })

-- objective k: the O expression and the G terms
abbrev pub objective_of : File → ℕ → Expression
objective_of f k = expression_of (objective_at f k).tree (get_or f.slopes k [])

abbrev pub maximises : File → ℕ → Bool
maximises f k = (objective_at f k).maximise
