-- What a row of an expression is read as.
use Rattle.std.specs.Prelude.{◌≡◌, ℕ, ◌<◌, IsTrue, List, Option, Some, None}
use Rattle.code_tables.specs.Opcodes.{operands_of}
use Rattle.code_tables.specs.declared.class.Operands.TheVariants.{Counted as OnNextLine}
use Rattle.nl_model.specs.declared.node.Node.{Node}
use Rattle.nl_model.specs.declared.node.Node.TheVariants.{Num, Var, Defined, Op}
use Rattle.nl_model.specs.declared.definition.Def.{Def as Definition}
use Rattle.nl_model.specs.Nodes.{IsNode}
use Rattle.nl_model.specs.Rules.{is_defined}
use Rattle.nl_lines.specs.declared.node_row.NodeRow.{NodeRow}
use Rattle.nl_lines.specs.declared.node_row.NodeRow.TheVariants.{Whole, Counted}

-- a node alone, or an opcode whose number of operands is on the next row
abbrev pub IsRow : Option Node → Option ℕ → NodeRow → Type 0
IsRow node opcode (Whole n) = (node ≡ Some n) × (opcode ≡ None)
IsRow node opcode (Counted o) = (node ≡ None) × (opcode ≡ Some o)

-- an operator has as many operands as its class wants, or awaits their number
abbrev pub IsFormedRow : NodeRow → Type 0
IsFormedRow (Whole n) = IsNode n
IsFormedRow (Counted o) = operands_of o ≡ Some OnNextLine

abbrev pub IsReadAs : Option Node → Option ℕ → NodeRow → Type 0
IsReadAs node opcode row = IsRow node opcode row × IsFormedRow row

-- a node uses variables below n, and defined variables that are there
abbrev pub IsNodeKnown : ℕ → List Definition → Node → Type 0
IsNodeKnown n ds (Num d) = Unit {0}
IsNodeKnown n ds (Var j) = j < n
IsNodeKnown n ds (Defined i) = IsTrue (is_defined ds i)
IsNodeKnown n ds (Op o k) = Unit {0}
