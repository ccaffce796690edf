-- Rows of expressions: their tests, and what is known of their nodes.
use Rattle.std.proofs.Common.{◌≡◌, ◌∙◌, ℕ, ◌+◌, ◌<◌, ◌≤◌, ◌^◌, ◌==◌, Bool, true, false, not, ◌||◌, List, [], ◌∷◌, refl, sym, ap, subst, arith, nat_lt, nat_le, Option, Some, None}
use Rattle.std.specs.Prelude.{if◌then◌else◌, option_map, option_and_then, unwrap_or, codes}
use Rattle.std.proofs.lemmas.Bool.{eqb-true, le-leb, leb-true, ltb-true, ltb-false, not-false}
use Rattle.text_base.specs.Judged.{first_reason}
use Rattle.text_base.proofs.FirstReasons.{none_head}
use Rattle.code_tables.specs.Opcodes.{operands_of}
use Rattle.code_tables.specs.declared.class.Operands.{Operands}
use Rattle.code_tables.specs.declared.class.Operands.TheVariants.{One, Two, Counted as OnNextLine}
use Rattle.exact_numbers.specs.declared.dec.Dec.{Dec}
use Rattle.nl_model.specs.declared.header_counts.Counts.{Counts}
use Rattle.nl_model.specs.declared.node.Node.{Node}
use Rattle.nl_model.specs.declared.node.Node.TheVariants.{Num}
use Rattle.nl_model.specs.Draft.{Draft}
use Rattle.nl_model.specs.declared.definition.Def.{Def as Definition}
use Rattle.nl_model.specs.HeaderRules.{defined_count}
use Rattle.nl_model.specs.Nodes.{IsNode}
use Rattle.nl_model.specs.Rules.{is_defined}
use Rattle.nl_lines.specs.declared.fault.NlReason.TheVariants.{TooLarge, IndexOut, Undefined, BadLine, RefusedLeaf}
use Rattle.nl_lines.specs.Heads.{is_among, letter_of, own_number}
use Rattle.nl_lines.specs.NodeRows.{IsNodeKnown}
use Rattle.nl_lines.specs.Nodes.{counted_opcode, fixed_node, variable_node, node_in, opcode_in, leaf_text, dec_of_signed}
use Rattle.exact_numbers.specs.Numbers.{dec_of}
use Rattle.nl_lines.specs.Tests.{is_node_form, is_undefined, leaf_tests, node_form_tests, number_tests, opcode_tests, variable_tests}
use Rattle.nl_lines.proofs.OpcodeLemmas.{one_fits, two_fit}

-- ---- the number of nodes

pub too_large : (n : ℕ) → 2 ^ 22 ≤ n → first_reason ((nat_le (2 ^ 22) n, TooLarge) ∷ []) ≡ Some TooLarge
too_large n le = rw (le-leb (2 ^ 22) n le) refl

pub not_large : (n : ℕ) → n < 2 ^ 22 → first_reason ((nat_le (2 ^ 22) n, TooLarge) ∷ []) ≡ None
not_large n lt = by (nat_le (2 ^ 22) n) refl
  where
    by : (b : Bool) → nat_le (2 ^ 22) n ≡ b → first_reason ((nat_le (2 ^ 22) n, TooLarge) ∷ []) ≡ None
    by true e = absurd (let le = leb-true (2 ^ 22) n e in omega (arith, lt))
    by false e = rw e refl

-- ---- nodes use what is there

number_known : (n : ℕ) (ds : List Definition) (o : Option Dec) (node : Node) → option_map Num o ≡ Some node → IsNodeKnown n ds node
number_known n ds None node e = absurd cc
number_known n ds (Some d) node e = subst (IsNodeKnown n ds) (ap (λ o. unwrap_or o node) e) tt

operation_known : (n : ℕ) (ds : List Definition) (o : ℕ) (k : Option Operands) (node : Node) → fixed_node o k ≡ Some node → IsNodeKnown n ds node
operation_known n ds o None node e = absurd cc
operation_known n ds o (Some One) node e = subst (IsNodeKnown n ds) (ap (λ o. unwrap_or o node) e) tt
operation_known n ds o (Some Two) node e = subst (IsNodeKnown n ds) (ap (λ o. unwrap_or o node) e) tt
operation_known n ds o (Some OnNextLine) node e = absurd cc

opcode_known : (n : ℕ) (ds : List Definition) (o : Option ℕ) (node : Node) → option_and_then (λ o. fixed_node o (operands_of o)) o ≡ Some node → IsNodeKnown n ds node
opcode_known n ds None node e = absurd cc
opcode_known n ds (Some o) node e = operation_known n ds o (operands_of o) node e

index_known : (c : Counts) (d : Draft) (i : ℕ) → is_undefined c d i ≡ false → IsNodeKnown c.n_var d.definitions (variable_node c.n_var i)
index_known c d i h = by (nat_lt i c.n_var) refl
  where
    by : (b : Bool) → nat_lt i c.n_var ≡ b → IsNodeKnown c.n_var d.definitions (variable_node c.n_var i)
    by true e = rw e (ltb-true i c.n_var e)
    by false e =
        let above = le-leb c.n_var i (ltb-false i c.n_var e) in
        rw e (not-false (is_defined d.definitions i) (rw above at h))

variable_known : (c : Counts) (d : Draft) (o : Option ℕ) (node : Node)
    → option_map (variable_node c.n_var) o ≡ Some node → first_reason (variable_tests c d o) ≡ None
    → IsNodeKnown c.n_var d.definitions node
variable_known c d None node e t = absurd cc
variable_known c d (Some i) node e t =
    subst (IsNodeKnown c.n_var d.definitions) (ap (λ o. unwrap_or o node) e) (index_known c d i (by (nat_lt i (c.n_var + defined_count c)) (is_undefined c d i) refl t))
  where
    by : (b u : Bool) → is_undefined c d i ≡ u → (if not b then Some IndexOut else (if u then Some Undefined else None)) ≡ None → is_undefined c d i ≡ false
    by b false e t = e
    by true true e t = absurd cc
    by false true e t = absurd cc

-- the node by what its letter is
abbrev leaf : Counts → List (List ℕ) → Bool → Bool → Bool → Bool → Option Node
leaf c words n s v o =
    if n then option_map Num (dec_of (leaf_text words)) else
    if s then option_map Num (dec_of_signed (leaf_text words)) else
    if v then option_map (variable_node c.n_var) (own_number words) else
    if o then option_and_then (λ o. fixed_node o (operands_of o)) (own_number words) else None

leaf_known : (c : Counts) (d : Draft) (words : List (List ℕ)) (node : Node) → node_in c.n_var words ≡ Some node → first_reason (leaf_tests c d words) ≡ None → IsNodeKnown c.n_var d.definitions node
unfolding node_in
leaf_known c d words node e t =
    by (letter_of words == 110) ((letter_of words == 115) || (letter_of words == 108)) (letter_of words == 118) (letter_of words == 111) e t
  where
    by : (n s v o : Bool) → leaf c words n s v o ≡ Some node
        → first_reason (if n then number_tests (dec_of (leaf_text words)) else
        (if v then variable_tests c d (own_number words) else
        (if o then opcode_tests (own_number words) else number_tests (dec_of_signed (leaf_text words))))) ≡ None
        → IsNodeKnown c.n_var d.definitions node
    by true s v o e t = number_known c.n_var d.definitions (dec_of (leaf_text words)) node e
    by false true v o e t = number_known c.n_var d.definitions (dec_of_signed (leaf_text words)) node e
    by false false true o e t = variable_known c d (own_number words) node e t
    by false false false true e t = opcode_known c.n_var d.definitions (own_number words) node e
    by false false false false e t = absurd cc

pub node_known : (c : Counts) (d : Draft) (words : List (List ℕ)) (node : Node) → node_in c.n_var words ≡ Some node
    → first_reason (node_form_tests c d words) ≡ None → IsNodeKnown c.n_var d.definitions node
unfolding node_form_tests
node_known c d words node e t =
    leaf_known c d words node e
    (none_head (not (is_node_form words)) BadLine (leaf_tests c d words)
    (none_head (is_among (codes "fh") (letter_of words)) RefusedLeaf ((not (is_node_form words), BadLine) ∷ leaf_tests c d words) t).1).1

-- ---- rows are nodes

number_formed : (o : Option Dec) (node : Node) → option_map Num o ≡ Some node → IsNode node
number_formed None node e = absurd cc
number_formed (Some d) node e = subst IsNode (ap (λ o. unwrap_or o node) e) tt

variable_formed : (n : ℕ) (o : Option ℕ) (node : Node) → option_map (variable_node n) o ≡ Some node → IsNode node
variable_formed n None node e = absurd cc
variable_formed n (Some i) node e = subst IsNode (ap (λ o. unwrap_or o node) e) (by (nat_lt i n) refl)
  where
    by : (b : Bool) → nat_lt i n ≡ b → IsNode (variable_node n i)
    by true q = rw q tt
    by false q = rw q tt

operation_formed : (o : ℕ) (k : Option Operands) (node : Node) → operands_of o ≡ k → fixed_node o k ≡ Some node → IsNode node
operation_formed o None node is e = absurd cc
operation_formed o (Some One) node is e = subst IsNode (ap (λ o. unwrap_or o node) e) (one_fits o One is refl)
operation_formed o (Some Two) node is e = subst IsNode (ap (λ o. unwrap_or o node) e) (two_fit o Two is refl)
operation_formed o (Some OnNextLine) node is e = absurd cc

opcode_formed : (o : Option ℕ) (node : Node) → option_and_then (λ o. fixed_node o (operands_of o)) o ≡ Some node → IsNode node
opcode_formed None node e = absurd cc
opcode_formed (Some o) node e = operation_formed o (operands_of o) node refl e

-- a node that a row alone is has as many operands as its class wants
pub node_formed : (c : Counts) (words : List (List ℕ)) (node : Node) → node_in c.n_var words ≡ Some node → IsNode node
unfolding node_in
node_formed c words node e = by (letter_of words == 110) ((letter_of words == 115) || (letter_of words == 108)) (letter_of words == 118) (letter_of words == 111) e
  where
    by : (n s v o : Bool) → leaf c words n s v o ≡ Some node → IsNode node
    by true s v o e = number_formed (dec_of (leaf_text words)) node e
    by false true v o e = number_formed (dec_of_signed (leaf_text words)) node e
    by false false true o e = variable_formed c.n_var (own_number words) node e
    by false false false true e = opcode_formed (own_number words) node e
    by false false false false e = absurd cc

-- an opcode that awaits its number of operands
pub record IsCounted (n : ℕ) (words : List (List ℕ)) (opcode : ℕ) : Type 0 where
  pub operands : operands_of opcode ≡ Some OnNextLine
  pub none : node_in n words ≡ None

pub opcode_counted : (n : ℕ) (words : List (List ℕ)) (opcode : ℕ) → opcode_in words ≡ Some opcode → IsCounted n words opcode
unfolding node_in opcode_in
opcode_counted n words opcode e = by (letter_of words == 111) (own_number words) refl refl
  where
    with_operands : (m : ℕ) (k : Option Operands) → operands_of m ≡ k → letter_of words ≡ 111 → own_number words ≡ Some m → counted_opcode m k ≡ Some opcode → IsCounted n words opcode
    with_operands m None q l w f = absurd cc
    with_operands m (Some One) q l w f = absurd cc
    with_operands m (Some Two) q l w f = absurd cc
    with_operands m (Some OnNextLine) q l w f =
        let same : m ≡ opcode = ap (λ o. unwrap_or o m) f in
        record { operands = ap operands_of (sym same) ∙ q; none = rw (l, w, q) refl }

    by : (b : Bool) (o : Option ℕ) → (letter_of words == 111) ≡ b → own_number words ≡ o → IsCounted n words opcode
    by false o q w = absurd (let none : None ≡ Some opcode = rw q at e in cc)
    by true None q w = absurd (let none : None ≡ Some opcode = rw (q, w) at e in cc)
    by true (Some m) q w = with_operands m (operands_of m) refl (eqb-true (letter_of words) 111 q) w (rw (q, w) at e)
