-- A row with a node, which is kept: what is read of it, and that nothing is wrong with it.
use Rattle.std.specs.Prelude.{◌≡◌, ℕ, false, List, None}
use Rattle.text_base.specs.Judged.{first_reason}
use Rattle.nl_lines.specs.declared.node_row.NodeRow.{NodeRow}
use Rattle.nl_lines.specs.Heads.{is_head}
use Rattle.nl_segments.specs.InsideTreeSteps.{IsNextRow, counted_node_tests}
use Rattle.nl_segments.specs.Held.{Body}

-- a row of an expression, with which nothing is wrong, is read as this
pub record IsGoodNode (b : Body) (r : NodeRow) (words : List (List ℕ)) : Type 0 where
  pub plain : is_head words ≡ false
  pub fine : first_reason (counted_node_tests b.draft.counts b.draft b.nodes words) ≡ None
  pub read : IsNextRow b.draft.counts b.nodes words r

-- there are such words
abbrev pub HasGoodNode : Body → NodeRow → Type 0
HasGoodNode b r = (words : List (List ℕ)) × IsGoodNode b r words
