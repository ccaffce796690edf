-- Expressions in prefix form, a node a row (Gay 2005, "Writing .nl Files", expressions).
use Rattle.std.specs.Prelude.{ℕ, ◌==◌, ◌||◌, nat_lt, List, [], ◌∷◌, drop, map, Option, Some, None, option_map, option_and_then, unwrap_or, if◌then◌else◌}
use Rattle.std.specs.List.{cons_option}
use Rattle.code_tables.specs.Opcodes.{operands_of}
use Rattle.code_tables.specs.declared.class.Operands.{Operands}
use Rattle.code_tables.specs.declared.class.Operands.TheVariants.{One, Two, Counted}
use Rattle.nl_model.specs.declared.node.Node.{Node}
use Rattle.nl_model.specs.declared.node.Node.TheVariants.{Num, Var, Defined, Op}
pub use Rattle.nl_lines.specs.declared.pending.Pending.{Pending}
use Rattle.exact_numbers.specs.Rational.{whole}
use Rattle.exact_numbers.specs.declared.dec.Dec.{Dec}
use Rattle.exact_numbers.specs.Numbers.{signed_of, dec_from, dec_of}
use Rattle.nl_lines.specs.Rows.{NumberedRow, row_words}
use Rattle.text_base.specs.Words.{word_at}
use Rattle.nl_lines.specs.Heads.{letter_of, own_number, number_at}

-- a node, and the line where it stands
pub record Placed : Type 0 where
  pub node : Node
  pub line : ℕ

-- what follows the letter of a node
abbrev pub leaf_text : List (List ℕ) → List ℕ
leaf_text words = drop 1 (word_at words 0)

-- an index below n is a variable, and another one a defined variable
abbrev pub variable_node : ℕ → ℕ → Node
variable_node n i = if nat_lt i n then Var i else Defined i

-- an opcode with a fixed number of operands
abbrev pub fixed_node : ℕ → Option Operands → Option Node
fixed_node o (Some One) = Some (Op o 1)
fixed_node o (Some Two) = Some (Op o 2)
fixed_node o _ = None

-- an opcode whose number of operands is on the next line
abbrev pub counted_opcode : ℕ → Option Operands → Option ℕ
counted_opcode o (Some Counted) = Some o
counted_opcode o _ = None

-- the Dec that a signed whole number is
unfoldable pub dec_of_signed : List ℕ → Option Dec
dec_of_signed text = option_and_then (λ z. dec_from (whole z)) (signed_of text)

-- the node that a row alone is, in a file of n variables: `n` and a decimal text, `s` or `l` and a
-- signed whole number, `v` and an index, or `o` and an opcode
unfoldable pub node_in : ℕ → List (List ℕ) → Option Node
node_in n words =
    let letter = letter_of words in
    if letter == 110 then option_map Num (dec_of (leaf_text words)) else
    if (letter == 115) || (letter == 108) then option_map Num (dec_of_signed (leaf_text words)) else
    if letter == 118 then option_map (variable_node n) (own_number words) else
    if letter == 111
    then option_and_then (λ o. fixed_node o (operands_of o)) (own_number words)
    else None

unfoldable pub opcode_in : List (List ℕ) → Option ℕ
opcode_in words =
    if letter_of words == 111
    then option_and_then (λ o. counted_opcode o (operands_of o)) (own_number words)
    else None

-- an opcode awaits its number of operands
abbrev pub pending_in : NumberedRow → Option Pending
pending_in row =
    option_map (λ o. record { opcode = o; line = row.line }) (opcode_in (row_words row))

abbrev pub placed_in : ℕ → NumberedRow → Option Placed
placed_in n row =
    option_map (λ node. record { node = node; line = row.line }) (node_in n (row_words row))

-- a pending opcode with the number of operands that a row says stands at the opcode's line
abbrev pub with_operands : Pending → NumberedRow → Placed
with_operands p row =
    record { node = Op p.opcode (unwrap_or (number_at (row_words row) 0) 0); line = p.line }

-- the nodes of rows, before which an opcode may be pending
unfoldable pub nodes_from : ℕ → Option Pending → List NumberedRow → List Placed
nodes_from n pending [] = []
nodes_from n None (row ∷ rows) = cons_option (placed_in n row) (nodes_from n (pending_in row) rows)
nodes_from n (Some p) (row ∷ rows) = with_operands p row ∷ nodes_from n None rows

-- the opcode that is pending after rows
unfoldable pub pending_from : Option Pending → List NumberedRow → Option Pending
pending_from pending [] = pending
pending_from None (row ∷ rows) = pending_from (pending_in row) rows
pending_from (Some p) (row ∷ rows) = pending_from None rows

-- the nodes of the rows of one expression
abbrev pub nodes_of : ℕ → List NumberedRow → List Placed
nodes_of n rows = nodes_from n None rows

abbrev pub only_nodes : List Placed → List Node
only_nodes placed = map (λ p. p.node) placed
