-- The opcodes of .nl expressions (Gay 2005, "Writing .nl Files"). Every other opcode is refused.
use Rattle.std.specs.Prelude.{ℕ, ◌==◌, List, [], ◌∷◌, Option, find, option_map, unwrap_or}
use Rattle.code_tables.specs.declared.class.OpClass.{OpClass}
use Rattle.code_tables.specs.declared.class.OpClass.TheVariants.{Sum, Difference, Product, Quotient, Negation, List as ListOf, Power, Least, Greatest, Floor, Ceiling, Absolute, Refused}
use Rattle.code_tables.specs.declared.class.Operands.{Operands}
use Rattle.code_tables.specs.declared.class.Operands.TheVariants.{One, Two, Counted}
use Rattle.code_tables.specs.declared.class.OpcodeRow.{OpcodeRow}

abbrev pub opcode_row : ℕ → OpClass → Operands → OpcodeRow
opcode_row opcode class operands = record { opcode = opcode; class = class; operands = operands }

-- opcode, class, operands
abbrev pub opcodes : List OpcodeRow
opcodes =
    opcode_row 0 Sum Two
    ∷ opcode_row 1 Difference Two
    ∷ opcode_row 2 Product Two
    ∷ opcode_row 3 Quotient Two
    ∷ opcode_row 5 Power Two
    ∷ opcode_row 11 Least Counted
    ∷ opcode_row 12 Greatest Counted
    ∷ opcode_row 13 Floor One
    ∷ opcode_row 14 Ceiling One
    ∷ opcode_row 15 Absolute One
    ∷ opcode_row 16 Negation One
    ∷ opcode_row 54 ListOf Counted
    ∷ []

-- the row of an opcode
abbrev pub table_row : ℕ → Option OpcodeRow
table_row opcode = find (λ r. r.opcode == opcode) opcodes

unfoldable pub class_of : ℕ → OpClass
class_of opcode = unwrap_or (option_map (λ r. r.class) (table_row opcode)) Refused

-- none for a refused opcode
unfoldable pub operands_of : ℕ → Option Operands
operands_of opcode = option_map (λ r. r.operands) (table_row opcode)
