-- Lines that are written one after the other.
use Rattle.std.proofs.Common.{◌≡◌, ℕ, ◌+◌, ◌<◌, ◌∙◌, refl, sym, ap, ap₂, subst, List, ◌∷◌, ◌++◌, length, drop, append_assoc, add-one, drop-cons, Some}
use Rattle.std.specs.Prelude.{ℤ, Bool, Option, None, unwrap_or}
use Rattle.std.specs.Option.{option_map}
use Rattle.std.proofs.lemmas.Grind.{flat_map-append}
use Rattle.nl_model.specs.declared.header_counts.Counts.{Counts}
use Rattle.nl_model.specs.declared.objective.Objective.{Objective}
use Rattle.std.proofs.lemmas.Option.{slice_get_within, get_or_from_slice_get}
use Rattle.std.specs.List.{flat_map, slice_get}
use Rattle.code_tables.specs.Opcodes.{class_of}
use Rattle.code_tables.specs.declared.class.OpClass.TheVariants.{Refused}
use Rattle.nl_model.specs.Trees.{Tree, Trees, count_of, Takes, rule_of}
use Rattle.nl_model.specs.declared.node.Node.{Node}
use Rattle.nl_model.specs.Nodes.{IsPrefix, a_number, a_variable, a_defined, an_operation, ArePrefixes, no_tree, one_more}
use Rattle.nl_model.proofs.Opcodes.{opcode_of-known}
use Rattle.text_base.specs.WordLines.{WordLine, line_text, lines_text}
use Rattle.written_texts.proofs.Writing.{lines_after, rest_written}
use Rattle.nl_writer.specs.Trees.{operator_lines, tree_lines, trees_lines, node_lines}
use Rattle.nl_writer.specs.Written.{by_number, options_line, size_lines, part_lines, header_lines}

-- the piece of the next number is written
pub piece_written : {A : Type 0} (piece : ℕ → A → List WordLine) (xs : List A) (i : ℕ) (x : A) (out0 out1 total : List ℕ) → slice_get xs i ≡ Some x →
    out0 ++ lines_text (by_number piece i (drop i xs)) ≡ total → out1 ≡ out0 ++ lines_text (piece i x) →
    out1 ++ lines_text (by_number piece (i + 1) (drop (i + 1) xs)) ≡ total
piece_written piece xs i x out0 out1 total at start now =
    let inside : i < length xs = slice_get_within xs i x at in
    let split : drop i xs ≡ x ∷ drop (i + 1) xs =
    drop-cons xs i x inside ∙ ap₂ (λ y k. y ∷ drop k xs) (get_or_from_slice_get xs i x x at) (sym (add-one i)) in
    rest_written out0 out1 total (piece i x) (by_number piece (i + 1) (drop (i + 1) xs)) (ap (λ ys. out0 ++ lines_text (by_number piece i ys)) (sym split) ∙ start) now

pub header_written : (o options : List ℤ) (k m c : Counts) (out0 out1 out2 out3 : List ℕ) → o ≡ options → k ≡ c → m ≡ c →
    out1 ≡ out0 ++ line_text (options_line o) → out2 ≡ out1 ++ lines_text (size_lines k) → out3 ≡ out2 ++ lines_text (part_lines m) →
    out3 ≡ out0 ++ lines_text (header_lines options c)
header_written o options k m c out0 out1 out2 out3 e f g p q r =
    let first : out1 ≡ out0 ++ line_text (options_line options) = p ∙ ap (λ y. out0 ++ line_text (options_line y)) e in
    let sizes : out2 ≡ out1 ++ lines_text (size_lines c) = q ∙ ap (λ y. out1 ++ lines_text (size_lines y)) f in
    let parts : out3 ≡ out2 ++ lines_text (part_lines c) = r ∙ ap (λ y. out2 ++ lines_text (part_lines y)) g in
    let two : out3 ≡ out1 ++ lines_text (size_lines c ++ part_lines c) = lines_after out1 out2 out3 (size_lines c) (part_lines c) sizes parts in
    two ∙ ap (λ y. y ++ lines_text (size_lines c ++ part_lines c)) first ∙ append_assoc out0 (line_text (options_line options)) (lines_text (size_lines c ++ part_lines c))

pub objective_of : (o : Option Objective) (m : Bool) (t : Tree) → option_map (λ o. o.maximise) o ≡ Some m → option_map (λ o. o.tree) o ≡ Some t → o ≡ Some (record { maximise = m; tree = t })
objective_of None m t e f = absurd cc
objective_of (Some x) m t e f = ap₂ (λ a b. Some (record { maximise = a; tree = b })) (ap (λ o. unwrap_or o m) e) (ap (λ o. unwrap_or o t) f)

-- ---- the lines of a tree are those of its nodes

pub known : (o k : ℕ) → Takes (rule_of (class_of o)) k → class_of o ≡ Refused → ⊥
known o k h e = subst (λ c. Takes (rule_of c) k) e h

mutual
  prefix_lines : {t : Tree} {ns : List Node} → IsPrefix t ns → flat_map node_lines ns ≡ tree_lines t
  prefix_lines (a_number d) = refl
  prefix_lines (a_variable j) = refl
  prefix_lines (a_defined i) = refl
  prefix_lines (an_operation o ts ns k h) =
      ap₂ (λ c ls. operator_lines c (count_of ts) ++ ls) (sym (opcode_of-known o (known o (count_of ts) k))) (prefixes_lines h)

  prefixes_lines : {ts : Trees} {ns : List Node} → ArePrefixes ts ns → flat_map node_lines ns ≡ trees_lines ts
  prefixes_lines no_tree = refl
  prefixes_lines (one_more t ns ts ms h k) = flat_map-append node_lines ns ms ∙ ap₂ ◌++◌ (prefix_lines h) (prefixes_lines k)

pub node_lines-prefix : (t : Tree) (ns : List Node) → IsPrefix t ns → flat_map node_lines ns ≡ tree_lines t
node_lines-prefix t ns h = prefix_lines h
