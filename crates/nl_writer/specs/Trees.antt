-- Expressions in prefix form, a node a line (Gay 2005, "Writing .nl Files", expressions).
use Rattle.std.specs.Prelude.{ℕ, List, [], ◌∷◌, ◌++◌, Option, Some, None, Bool, true, false, if◌then◌else◌, codes}
use Rattle.std.specs.Fmt.{decimal}
use Rattle.code_tables.specs.Opcodes.{operands_of}
use Rattle.code_tables.specs.declared.class.Operands.{Operands}
use Rattle.code_tables.specs.declared.class.Operands.TheVariants.{One, Two, Counted}
use Rattle.exact_numbers.specs.Written.{dec_text}
use Rattle.nl_model.specs.Trees.{Tree, number, variable, defined, operator, Trees, none, more, count_of}
use Rattle.nl_model.specs.Nodes.{opcode_of}
use Rattle.nl_model.specs.declared.node.Node.{Node}
use Rattle.nl_model.specs.declared.node.Node.TheVariants.{Num, Var, Defined, Op}
use Rattle.exact_numbers.specs.Values.{text_of}
use Rattle.text_base.specs.WordLines.{WordLine}

-- the number of operands stands on the next line
abbrev pub is_counted : Option Operands → Bool
is_counted None = false
is_counted (Some One) = false
is_counted (Some Two) = false
is_counted (Some Counted) = true

-- an opcode with k operands, which follow
abbrev pub operator_lines : ℕ → ℕ → List WordLine
operator_lines opcode k =
    if is_counted (operands_of opcode)
    then (((codes "o" ++ decimal opcode) ∷ []) ∷ (decimal k ∷ []) ∷ [])
    else (((codes "o" ++ decimal opcode) ∷ []) ∷ [])

-- the lines of a tree: a number, a variable by its index, or an opcode and after it its operands
abbrev mutual
  pub tree_lines : Tree → List WordLine
  tree_lines (number m e) = ((codes "n" ++ dec_text m e) ∷ []) ∷ []
  tree_lines (variable j) = ((codes "v" ++ decimal j) ∷ []) ∷ []
  tree_lines (defined i) = ((codes "v" ++ decimal i) ∷ []) ∷ []
  tree_lines (operator c ts) = operator_lines (opcode_of c) (count_of ts) ++ trees_lines ts

  pub trees_lines : Trees → List WordLine
  trees_lines none = []
  trees_lines (more t ts) = tree_lines t ++ trees_lines ts

-- the lines of one node
abbrev pub node_lines : Node → List WordLine
node_lines (Num d) = ((codes "n" ++ text_of d) ∷ []) ∷ []
node_lines (Var j) = ((codes "v" ++ decimal j) ∷ []) ∷ []
node_lines (Defined i) = ((codes "v" ++ decimal i) ∷ []) ∷ []
node_lines (Op opcode k) = operator_lines opcode k
