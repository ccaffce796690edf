-- What a row of an expression does to what is held, and what a whole expression adds to the file.
use Rattle.std.specs.Prelude.{◌≡◌, ℕ, ◌+◌, ◌<◌, ◌≤◌, ◌^◌, true, false, List, [], ◌∷◌, ◌++◌, length, slice_set, Option, Some, None, nat_le, All}
use Rattle.nl_model.specs.Trees.{Tree}
use Rattle.nl_model.specs.declared.header_counts.Counts.{Counts}
use Rattle.nl_model.specs.Draft.{Draft, is_given}
use Rattle.nl_model.specs.File.{Term}
use Rattle.nl_model.specs.HeaderRules.{defined_count}
use Rattle.nl_model.specs.Nodes.{awaited, tree_of}
use Rattle.nl_model.specs.Rules.{AreTermsBelow, IsTreeWithin, is_defined, most_terms}
use Rattle.nl_lines.specs.declared.awaited.Awaited.TheVariants.{Nothing}
use Rattle.nl_lines.specs.declared.fault.NlReason.TheVariants.{TooLarge}
use Rattle.nl_lines.specs.declared.head.Head.{Head}
use Rattle.nl_lines.specs.declared.head.Head.TheVariants.{Body, Objective, Definition}
use Rattle.nl_lines.specs.declared.node_row.NodeRow.{NodeRow}
use Rattle.nl_lines.specs.declared.node_row.NodeRow.TheVariants.{Whole, Counted}
use Rattle.nl_segments.specs.Current.{Current, current_awaits, with_node_row}
use Rattle.nl_lines.specs.NodeRows.{IsNodeKnown, IsFormedRow, IsReadAs}
use Rattle.nl_lines.specs.Nodes.{node_in, opcode_in}
use Rattle.nl_lines.specs.Pieces.{has_tree, is_nothing}
use Rattle.nl_segments.specs.InsidePlaceSteps.{HasBegun, HasOwner, with_node_line}
use Rattle.nl_lines.specs.Saying.{PlaceLines}
use Rattle.nl_lines.specs.Tests.{Tests, node_form_tests}

-- a draft with the expression of a piece of this head, after these terms
abbrev pub with_tree : Draft → Head → List Term → Tree → Draft
with_tree d (Body i) terms tree = record d { bodies = slice_set d.bodies i (Some tree) }
with_tree d (Objective k maximise) terms tree =
    record d {
      objectives = slice_set d.objectives k
          (Some (record { maximise = maximise; tree = tree }));
    }
with_tree d (Definition i j usage) terms tree =
    record d {
      definitions = d.definitions
          ++ record { index = i; terms = terms; usage = usage; tree = tree } ∷ [];
    }
with_tree d head terms tree = d

-- the index is that of a defined variable that was not given, and its terms are right
pub record IsFreshDefinition (d : Draft) (i : ℕ) (ts : List Term) : Type 0 where
  pub from : d.counts.n_var ≤ i
  pub below : i < d.counts.n_var + defined_count d.counts
  pub fresh : is_defined d.definitions i ≡ false
  pub terms : AreTermsBelow d.counts.n_var ts
  pub few : length ts ≤ most_terms

-- the index is there, and was not given
abbrev pub IsFresh : Draft → Head → List Term → Type 0
IsFresh d (Body i) terms = (i < d.counts.n_con) × (is_given d.bodies i ≡ false)
IsFresh d (Objective k maximise) terms = (k < d.counts.n_obj) × (is_given d.objectives k ≡ false)
IsFresh d (Definition i j usage) terms = IsFreshDefinition d i terms
IsFresh d head terms = Unit {0}

-- the draft may take this expression
pub record MayTake (d : Draft) (head : Head) (terms : List Term) (tree : Tree) : Type 0 where
  pub fresh : IsFresh d head terms
  pub within : IsTreeWithin d.counts.n_var d.definitions tree

-- the last piece is kept where it is not complete; else its expression is in the draft
abbrev pub IsSettled : Draft → Current → Option Current → Draft → Type 0
IsSettled old cur (Some kept) new =
    (is_nothing (current_awaits cur) ≡ false) × (kept ≡ cur) × (new ≡ old)
IsSettled old cur None new = (is_nothing (current_awaits cur) ≡ true)
    × (new ≡ with_tree old cur.head cur.pairs (tree_of cur.nodes))

-- the draft may take the expression of a piece, where that is complete
pub record CanSettle (d : Draft) (cur : Current) : Type 0 where
  pub tree : has_tree cur.head ≡ true
  pub fresh : current_awaits cur ≡ Nothing → IsFresh d cur.head cur.pairs
  pub known : All (IsNodeKnown d.counts.n_var d.definitions) cur.nodes

-- a piece may take a row of its expression, whose node or opcode stands in this line
pub record CanTakeRow (d : Draft) (l : PlaceLines) (cur : Current) (row : NodeRow)
    (line : ℕ) : Type 0 where
  pub wanted : 0 < awaited cur.nodes
  pub few : length cur.nodes < 2 ^ 22
  pub formed : IsFormedRow row
  pub owner : HasOwner l cur.head
  pub begun : HasBegun l cur.head
  pub tree : has_tree cur.head ≡ true
  pub fresh : current_awaits (with_node_row cur line row) ≡ Nothing → IsFresh d cur.head cur.pairs
  pub known : All (IsNodeKnown d.counts.n_var d.definitions) (with_node_row cur line row).nodes

-- a row that is a node adds one, in its line
abbrev pub row_count : NodeRow → ℕ
row_count (Whole n) = 1
row_count (Counted o) = 0

abbrev pub with_row_line : PlaceLines → ℕ → Head → NodeRow → PlaceLines
with_row_line l line head (Whole n) = with_node_line l line head
with_row_line l line head (Counted o) = l

-- what a row is read as, where one more node has room
pub record IsNextRow (c : Counts) (nodes : ℕ) (words : List (List ℕ)) (row : NodeRow) : Type 0 where
  pub read : IsReadAs (node_in c.n_var words) (opcode_in words) row
  pub few : nodes < 2 ^ 22

-- what is wrong with a node, after so many nodes
abbrev pub counted_node_tests : Counts → Draft → ℕ → List (List ℕ) → Tests
counted_node_tests c d nodes words =
    node_form_tests c d words ++ (nat_le (2 ^ 22) nodes, TooLarge) ∷ []
