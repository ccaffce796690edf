-- Nodes of an expression, a line each, that are taken at once.
use Rattle.std.specs.Prelude.{◌≡◌, ℕ, ◌+◌, false, List, Some, None, if◌then◌else◌}
use Rattle.nl_model.specs.declared.node.Node.{Node}
use Rattle.nl_model.specs.Draft.{Draft}
use Rattle.nl_model.specs.Nodes.{tree_of}
use Rattle.nl_lines.specs.declared.awaited.Awaited.TheVariants.{Node as NodeLine}
use Rattle.nl_lines.specs.Pieces.{is_nothing, keeps_pairs}
use Rattle.nl_segments.specs.Current.{Current, current_awaits}
use Rattle.nl_segments.specs.Held.{Body, HoldsSome}
use Rattle.nl_segments.specs.InsideLineSteps.{unless_complete}
use Rattle.nl_segments.specs.InsidePlaceSteps.{with_node_run}
use Rattle.nl_segments.specs.InsideTreeSteps.{with_tree}

-- the expression of a piece that is complete is in the draft
abbrev pub settled_draft : Draft → Current → Draft
settled_draft d c =
    if is_nothing (current_awaits c) then with_tree d c.head c.pairs (tree_of c.nodes) else d

abbrev pub only_nodes_of : Current → List Node → Current
only_nodes_of cur nodes = record cur { nodes = nodes; pending = None }

-- with these nodes of the last piece, so many of them new, whose lines are from this one on
abbrev pub with_nodes : Body → Current → List Node → ℕ → ℕ → Body
with_nodes b cur nodes first n =
    let next = only_nodes_of cur nodes in
    record b {
      draft = settled_draft b.draft next;
      current = unless_complete next;
      nodes = b.nodes + n;
      places = with_node_run b.places first n cur.head;
    }

-- a reader of the body that has this file and so many nodes awaits a node after these of its piece
pub record AwaitsNodes (d : Draft) (nodes : List Node) (before : ℕ) (b : Body)
    (cur : Current) : Type 0 where
  pub draft : b.draft ≡ d
  pub current : b.current ≡ Some cur
  pub same_nodes : cur.nodes ≡ nodes
  pub count : b.nodes ≡ before
  pub awaits : current_awaits cur ≡ NodeLine
  pub given : keeps_pairs cur.head ≡ false

-- there is one, which holds something
pub record HasNodes (d : Draft) (nodes : List Node) (before : ℕ) : Type 0 where
  pub body : Body
  pub current : Current
  pub is : AwaitsNodes d nodes before body current
  pub held : HoldsSome body
