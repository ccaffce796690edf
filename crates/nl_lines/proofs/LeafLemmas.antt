-- A line that is a letter and a number alone: its one word, and how that is judged.
use Rattle.std.proofs.Common.{◌≡◌, ◌∙◌, ℕ, false, List, refl, Option, Some, None, Result, Ok, Err}
use Rattle.std.specs.Prelude.{option_map, option_and_then}
use Rattle.code_tables.specs.Opcodes.{operands_of}
use Rattle.exact_numbers.specs.declared.dec.Dec.{Dec}
use Rattle.exact_numbers.specs.Numbers.{dec_of}
use Rattle.nl_model.specs.declared.header_counts.Counts.{Counts}
use Rattle.nl_model.specs.declared.node.Node.TheVariants.{Num}
use Rattle.nl_model.specs.Draft.{Draft}
use Rattle.text_base.specs.Judged.{Decides, first_reason}
use Rattle.nl_lines.specs.declared.fault.NlReason.{NlReason}
use Rattle.nl_lines.specs.declared.leaf.Leaf.{Leaf}
use Rattle.nl_lines.specs.declared.leaf.Leaf.TheVariants.{Number, Variable, Opcode}
use Rattle.nl_lines.specs.declared.node_row.NodeRow.{NodeRow}
use Rattle.nl_lines.specs.Heads.{is_head, own_number}
use Rattle.nl_lines.specs.Leaves.{IsLeafRow, IsWordOf}
use Rattle.nl_lines.specs.NodeRows.{IsReadAs}
use Rattle.nl_lines.specs.Nodes.{counted_opcode, fixed_node, leaf_text, node_in, opcode_in, variable_node}
use Rattle.nl_lines.specs.Tests.{Tests, node_form_tests, number_tests, opcode_tests, variable_tests}
use Rattle.nl_lines.proofs.PairRows.{whole_digits}

-- ---- the words of such a line

-- ---- such a row is no head

pub leaf_plain : (words : List (List ℕ)) (leaf : Leaf) → IsLeafRow words leaf → is_head words ≡ false
leaf_plain words (Number d) p = rw p.0.first refl
leaf_plain words (Variable i) p = rw p.0.first refl
leaf_plain words (Opcode o) p = rw p.0.first refl

-- ---- judging

-- two lists of tests that give the same reason, and what is said of a value by both
decides_as : {V : Type 0} (tests others : Tests) (says other : V → Type 0) (r : Result V NlReason)
    → first_reason tests ≡ first_reason others → ((v : V) → other v → says v) → Decides others other r
    → Decides tests says r
decides_as tests others says other (Ok v) same more d = (same ∙ d.0, more v d.1)
decides_as tests others says other (Err reason) same more d = same ∙ d

number_judged : (c : Counts) (d : Draft) (words : List (List ℕ)) (x : Option Dec) → IsWordOf 110 words
    → dec_of (leaf_text words) ≡ x → first_reason (node_form_tests c d words) ≡ first_reason (number_tests x)
unfolding node_form_tests
number_judged c d words x w e = rw (w.one, w.first, e) refl

variable_judged : (c : Counts) (d : Draft) (words : List (List ℕ)) (i : ℕ) → IsWordOf 118 words
    → own_number words ≡ Some i → first_reason (node_form_tests c d words) ≡ first_reason (variable_tests c d (Some i))
unfolding node_form_tests
variable_judged c d words i w e = rw (w.one, w.first, whole_digits (leaf_text words) i e, e) refl

opcode_judged : (c : Counts) (d : Draft) (words : List (List ℕ)) (o : ℕ) → IsWordOf 111 words
    → own_number words ≡ Some o → first_reason (node_form_tests c d words) ≡ first_reason (opcode_tests (Some o))
unfolding node_form_tests
opcode_judged c d words o w e = rw (w.one, w.first, whole_digits (leaf_text words) o e, e) refl

number_read : (n : ℕ) (words : List (List ℕ)) (x : Dec) (row : NodeRow) → IsLeafRow words (Number x) → IsReadAs (option_map Num (Some x)) None row → IsReadAs (node_in n words) (opcode_in words) row
unfolding node_in opcode_in
number_read n words x row p is = rw (p.0.first, p.1) is

variable_read : (n : ℕ) (words : List (List ℕ)) (i : ℕ) (row : NodeRow) → IsLeafRow words (Variable i)
    → IsReadAs (option_map (variable_node n) (Some i)) None row → IsReadAs (node_in n words) (opcode_in words) row
unfolding node_in opcode_in
variable_read n words i row p is = rw (p.0.first, p.1) is

opcode_read : (n : ℕ) (words : List (List ℕ)) (o : ℕ) (row : NodeRow) → IsLeafRow words (Opcode o)
    → IsReadAs (option_and_then (λ o. fixed_node o (operands_of o)) (Some o)) (option_and_then (λ o. counted_opcode o (operands_of o)) (Some o)) row → IsReadAs (node_in n words) (opcode_in words) row
unfolding node_in opcode_in
opcode_read n words o row p is = rw (p.0.first, p.1) is

abbrev Read : Counts → List (List ℕ) → NodeRow → Type 0
Read c words row = IsReadAs (node_in c.n_var words) (opcode_in words) row

abbrev ReadNumber : Dec → NodeRow → Type 0
ReadNumber x row = IsReadAs (option_map Num (Some x)) None row

abbrev ReadVariable : ℕ → ℕ → NodeRow → Type 0
ReadVariable n i row = IsReadAs (option_map (variable_node n) (Some i)) None row

abbrev ReadOpcode : ℕ → NodeRow → Type 0
ReadOpcode o row = IsReadAs (option_and_then (λ o. fixed_node o (operands_of o)) (Some o)) (option_and_then (λ o. counted_opcode o (operands_of o)) (Some o)) row

pub number_decided : (c : Counts) (d : Draft) (words : List (List ℕ)) (x : Dec) (r : Result NodeRow NlReason)
    → IsLeafRow words (Number x) → Decides (number_tests (Some x)) (ReadNumber x) r
    → Decides (node_form_tests c d words) (Read c words) r
number_decided c d words x r p is =
    decides_as (node_form_tests c d words) (number_tests (Some x)) (Read c words) (ReadNumber x) r (number_judged c d words (Some x) p.0 p.1) (λ row. number_read c.n_var words x row p) is

pub variable_decided : (c : Counts) (d : Draft) (words : List (List ℕ)) (i : ℕ) (r : Result NodeRow NlReason)
    → IsLeafRow words (Variable i) → Decides (variable_tests c d (Some i)) (ReadVariable c.n_var i) r
    → Decides (node_form_tests c d words) (Read c words) r
variable_decided c d words i r p is =
    decides_as (node_form_tests c d words) (variable_tests c d (Some i)) (Read c words) (ReadVariable c.n_var i) r (variable_judged c d words i p.0 p.1) (λ row. variable_read c.n_var words i row p) is

pub opcode_decided : (c : Counts) (d : Draft) (words : List (List ℕ)) (o : ℕ) (r : Result NodeRow NlReason)
    → IsLeafRow words (Opcode o) → Decides (opcode_tests (Some o)) (ReadOpcode o) r
    → Decides (node_form_tests c d words) (Read c words) r
opcode_decided c d words o r p is =
    decides_as (node_form_tests c d words) (opcode_tests (Some o)) (Read c words) (ReadOpcode o) r (opcode_judged c d words o p.0 p.1) (λ row. opcode_read c.n_var words o row p) is
