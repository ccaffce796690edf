-- What a reader holds of the piece that was begun last.
use Rattle.std.specs.Prelude.{◌≡◌, ℕ, ◌-◌, ◌<◌, ◌==◌, nat_lt, List, [], ◌∷◌, ◌++◌, length, Option, Some, None, if◌then◌else◌}
use Rattle.code_tables.specs.Opcodes.{operands_of}
use Rattle.code_tables.specs.declared.class.Operands.TheVariants.{Counted as OnNextLine}
use Rattle.nl_model.specs.declared.header_counts.Counts.{Counts}
use Rattle.nl_model.specs.declared.node.Node.{Node}
use Rattle.nl_model.specs.File.{Term}
use Rattle.nl_model.specs.Nodes.{awaited}
use Rattle.nl_lines.specs.declared.awaited.Awaited.{Awaited}
use Rattle.nl_lines.specs.declared.awaited.Awaited.TheVariants.{Nothing, Node as NodeLine, OperandCount}
use Rattle.nl_lines.specs.declared.head.Head.{Head}
use Rattle.nl_lines.specs.declared.node_row.NodeRow.{NodeRow}
use Rattle.nl_lines.specs.declared.node_row.NodeRow.TheVariants.{Whole, Counted}
use Rattle.nl_lines.specs.declared.pending.Pending.{Pending}
use Rattle.nl_lines.specs.Nodes.{only_nodes}
use Rattle.nl_lines.specs.Pieces.{Piece, line_kind, line_count, has_tree, piece_nodes, piece_pending}

-- its head and the line of it, how many lines before an expression are still awaited, the pairs
-- that were kept, the nodes so far, and the opcode that awaits its number of operands
pub record Current : Type 0 where
  pub head : Head
  pub line : ℕ
  pub left : ℕ
  pub pairs : List Term
  pub nodes : List Node
  pub pending : Option Pending

abbrev pub new_current : Head → ℕ → ℕ → Current
new_current head line left =
    record { head = head; line = line; left = left; pairs = []; nodes = []; pending = None }

abbrev pub nodes_await : List Node → Option Pending → Awaited
nodes_await nodes (Some p) = OperandCount
nodes_await nodes None = if awaited nodes == 0 then Nothing else NodeLine

-- the line that is awaited
abbrev pub current_awaits : Current → Awaited
current_awaits c =
    if nat_lt 0 c.left then line_kind c.head else
    if has_tree c.head then nodes_await c.nodes c.pending else Nothing

-- a node is awaited while an opcode awaits its number of operands
abbrev pub IsPending : List Node → Pending → Type 0
IsPending nodes p = (operands_of p.opcode ≡ Some OnNextLine) × (0 < awaited nodes)

-- ---- a row more

abbrev pub less_line : Current → Current
less_line c = record c { left = c.left - 1 }

abbrev pub less_lines : Current → ℕ → Current
less_lines c n = record c { left = c.left - n }

abbrev pub with_pair : Current → Term → Current
with_pair c t = record c { left = c.left - 1; pairs = c.pairs ++ t ∷ [] }

-- a row of the expression, whose node or opcode stands in this line
abbrev pub with_node_row : Current → ℕ → NodeRow → Current
with_node_row c line (Whole n) = record c { nodes = c.nodes ++ n ∷ []; pending = None }
with_node_row c line (Counted o) = record c { pending = Some (record { opcode = o; line = line }) }

-- what is held of the piece p
pub record IsCurrent (counts : Counts) (p : Piece) (c : Current) : Type 0 where
  pub head : c.head ≡ p.head
  pub line : c.line ≡ p.line
  pub left : c.left ≡ line_count counts p.head - length p.rows
  pub nodes : c.nodes ≡ only_nodes (piece_nodes counts p)
  pub pending : c.pending ≡ piece_pending p
