-- A head, and the line behind it where that is all of its piece, which are taken at once.
use Rattle.std.specs.Prelude.{◌≡◌, ◌<◌, ◌+◌, ℕ, List, ◌∷◌, [], length, replicate, false, true, Option, Some, None, Ok}
use Rattle.text_base.specs.Judged.{Decides}
use Rattle.text_base.specs.declared.grammar.Front.{Front}
use Rattle.nl_model.specs.Trees.{Tree}
use Rattle.nl_model.specs.declared.node.Node.{Node}
use Rattle.nl_model.specs.Draft.{Draft}
use Rattle.nl_model.specs.Nodes.{AreNodesOf, awaited, tree_of}
use Rattle.nl_model.specs.Rules.{most_terms}
use Rattle.nl_lines.specs.declared.head.Head.{Head}
use Rattle.nl_lines.specs.declared.leaf.Leaf.{Leaf}
use Rattle.nl_lines.specs.declared.node_row.NodeRow.TheVariants.{Whole}
use Rattle.nl_lines.specs.declared.pair_line.FirstPair.{FirstPair}
use Rattle.nl_lines.specs.FirstPairs.{IsFirstPair}
use Rattle.nl_lines.specs.FirstRows.{IsFirstRow}
use Rattle.nl_lines.specs.Heads.{is_in_range}
use Rattle.nl_lines.specs.Leaves.{IsLeafRow}
use Rattle.nl_lines.specs.Pieces.{keeps_pairs}
use Rattle.nl_lines.specs.SeenSegments.{IsSeenIn, with_segment}
use Rattle.nl_segments.specs.Held.{Body, HoldsSome}
use Rattle.nl_segments.specs.InsideHeadSteps.{begun_current}
use Rattle.nl_segments.specs.InsidePlaceSteps.{HasOwner, with_begun}
use Rattle.nl_segments.specs.InsideTermRuns.{TakesLines}
use Rattle.nl_segments.specs.InsideTreeSteps.{IsNextRow, counted_node_tests}

-- ---- a head

-- with a head in this line among those that came
abbrev pub with_head_passed : Body → Head → ℕ → Body
with_head_passed b h line =
    record b {
      name = None;
      marks = replicate (length b.marks) false;
      seen = with_segment b.seen h;
      places = with_begun b.places line h;
    }

-- with such a head, after which nothing is kept
abbrev pub with_given_head : Body → Head → ℕ → Body
with_given_head b h line =
    record (with_head_passed b h line) { current = begun_current b.draft.counts h line }

-- such a head may come in this line: no piece is open, and nothing is wrong with it
pub record MayBegin (b : Body) (h : Head) (line : ℕ) : Type 0 where
  pub closed : b.current ≡ None
  pub given : keeps_pairs h ≡ false
  pub range : is_in_range b.draft.counts h ≡ true
  pub owner : HasOwner b.places h
  pub seen : IsSeenIn b.seen h
  pub held : HoldsSome (with_given_head b h line)

-- its piece is begun, and so many lines behind it that a text begins with are taken; or all stays
abbrev pub Begins : Body → Head → List ℕ → ℕ → Option Front → Body → Type 0
Begins old h text line (Some front) new =
    TakesLines (with_given_head old h line) text (line + 1) front new
Begins old h text line None new = new ≡ old

-- ---- what follows it

-- an expression of one leaf, the line of which a text begins with, and has so many bytes
pub record IsLeafTree (d : Draft) (before : ℕ) (text : List ℕ) (len : ℕ)
    (tree : Tree) : Type 0 where
  pub leaf : Leaf
  pub node : Node
  pub first : IsFirstRow text len (λ words. IsLeafRow words leaf)
  pub read : (words : List (List ℕ)) → IsLeafRow words leaf
      → Decides (counted_node_tests d.counts d before words) (IsNextRow d.counts before words)
      (Ok (Whole node))
  pub whole : awaited (node ∷ []) ≡ 0
  pub is : tree ≡ tree_of (node ∷ [])
  pub nodes : AreNodesOf tree (node ∷ [])

-- the term of the line that a text begins with, and there is room for one more
pub record IsNextTerm (b : Body) (text : List ℕ) (p : FirstPair) : Type 0 where
  pub first : IsFirstPair text p
  pub below : p.index < b.draft.counts.n_var
  pub few : b.linear < most_terms
