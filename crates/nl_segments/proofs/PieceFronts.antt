-- A head, and the line behind it where that is all of its piece, that are taken at once.
use Rattle.std.proofs.Common.{◌≡◌, ◌∙◌, ℕ, ◌+◌, ◌<◌, ◌^◌, true, List, [], ◌∷◌, get_or, slice_set, refl, sym, ap, arith, subst, Option, Some, None}
use Rattle.nl_model.specs.Trees.{Tree}
use Rattle.nl_model.specs.Draft.{Draft}
use Rattle.nl_lines.specs.declared.awaited.Awaited.TheVariants.{Node as NodeLine}
use Rattle.nl_lines.specs.declared.head.Head.{Head}
use Rattle.nl_lines.specs.declared.head.Head.TheVariants.{Body as BodyHead, Terms}
use Rattle.nl_lines.specs.declared.node_row.NodeRow.TheVariants.{Whole}
use Rattle.nl_lines.specs.declared.pair_line.FirstPair.{FirstPair}
use Rattle.nl_lines.specs.Saying.{PlaceLines, no_lines}
use Rattle.nl_lines.proofs.DraftLemmas.{get_set}
use Rattle.nl_segments.specs.Current.{Current, new_current}
use Rattle.nl_segments.specs.Held.{Body, IsAwaiting}
use Rattle.nl_segments.specs.InsideHeadSteps.{begun_current}
use Rattle.nl_segments.specs.InsidePieces.{IsLeafTree, IsNextTerm, MayBegin, with_given_head, with_head_passed}
use Rattle.nl_segments.specs.InsidePairSteps.{with_given, with_use}
use Rattle.nl_segments.specs.InsidePlaceSteps.{HasOwner, nodes_follow, with_begun, with_node_run, with_term_run}
use Rattle.nl_segments.specs.InsideTermRuns.{IsBodyOf, TakesLines, with_counted, with_parts}
use Rattle.nl_segments.specs.InsideTreeSteps.{CanTakeRow, MayTake}
use Rattle.nl_segments.proofs.NodeFronts.{leaf_can, leaf_few, leaf_first}
use Rattle.nl_segments.proofs.PairLines.{has_owner}
use Rattle.nl_segments.proofs.PairPiece.{CanTake}
use Rattle.nl_segments.proofs.StandingLemmas.{can_term, none_counted, none_taken, term_taken}
use Rattle.nl_segments.proofs.TreeLaw.{tree_within}

-- ---- the head alone

-- what is held after it
pub with_passed : (b passed : Body) (draft : Draft) (h : Head) (line : ℕ) (cur : Option Current) → draft ≡ b.draft
    → passed ≡ with_head_passed (record b { draft = draft }) h line → cur ≡ begun_current draft.counts h line
    → record passed { current = cur } ≡ with_given_head b h line
with_passed b passed draft h line cur d p c =
    ap (λ (x : Body). record x { current = cur }) p ∙ (λ i. record (with_head_passed b h line) { draft = d i; current = (c ∙ ap (λ (x : Draft). begun_current x.counts h line) d) i })

pub head_alone : (b new : Body) (h : Head) (line : ℕ) (text : List ℕ) → new ≡ with_given_head b h line → TakesLines (with_given_head b h line) text (line + 1) (record { len = 0; lines = 0 }) new
head_alone b new h line text e = subst (TakesLines (with_given_head b h line) text (line + 1) (record { len = 0; lines = 0 })) (sym e) (none_taken (with_given_head b h line) text (line + 1))

-- ---- an expression of one leaf

module _ (b : Body) (h : Head) (con line : ℕ) (text : List ℕ) (len : ℕ) (tree : Tree) (e : (h ≡ BodyHead con) × IsLeafTree b.draft b.nodes text len tree) (may_begin : MayBegin b h line) where
  pub may : MayBegin b (BodyHead con) line
  may = subst (λ x. MayBegin b x line) e.0 may_begin

  awaits_node : IsAwaiting NodeLine (with_given_head b (BodyHead con) line)
  awaits_node = refl

  pub can_take_leaf : CanTakeRow b.draft (with_begun b.places line (BodyHead con)) (new_current (BodyHead con) line 0) (Whole e.1.node) (line + 1)
  can_take_leaf = leaf_can (with_given_head b (BodyHead con) line) text len e.1.leaf (Whole e.1.node) (line + 1) awaits_node may.held e.1.first e.1.read

  pub may_take_leaf : MayTake b.draft (BodyHead con) [] tree
  may_take_leaf =
      record {
        fresh = can_take_leaf.fresh (rw e.1.whole refl);
        within = tree_within b.draft.counts.n_var b.draft.definitions tree (e.1.node ∷ []) e.1.nodes.prefix can_take_leaf.known;
      }

  pub leaf_there : HasOwner (with_begun b.places line (BodyHead con)) (BodyHead con)
  leaf_there = has_owner may.held.0 (with_given_head b (BodyHead con) line) (new_current (BodyHead con) line 0) (BodyHead con) may.held.1 refl refl

  pub few_nodes : b.nodes < 2 ^ 22
  few_nodes = leaf_few (with_given_head b (BodyHead con) line) text len e.1.leaf (Whole e.1.node) e.1.first e.1.read

  pub leaf_taken : (passed : Body) (draft : Draft) (places : PlaceLines)
      → draft ≡ record b.draft { bodies = slice_set b.draft.bodies con (Some tree) }
      → passed ≡ with_head_passed (record b { draft = draft }) (BodyHead con) line
      → places ≡ with_node_run passed.places (line + 1) 1 (BodyHead con)
      → TakesLines (with_given_head b h line) text (line + 1) (record { len = len; lines = 1 }) (record passed { nodes = passed.nodes + 1; places = places })
  leaf_taken passed draft places given p lines =
      let run = with_node_run (with_begun b.places line (BodyHead con)) (line + 1) 1 (BodyHead con) in
      let same : record (with_given_head b (BodyHead con) line) { draft = draft; current = None; nodes = b.nodes + 1; places = run } ≡ record passed { nodes = passed.nodes + 1; places = places } =
      sym (ap (λ (x : Body). record x { nodes = x.nodes + 1; places = places }) p
      ∙ (λ i. record (with_given_head b (BodyHead con) line) {
        draft = draft;
        current = may.closed i;
        nodes = b.nodes + 1;
        places =
            (lines ∙ ap (λ (x : Body). with_node_run x.places (line + 1) 1 (BodyHead con)) p) i;
      })) in
      subst (λ x. TakesLines (with_given_head b x line) text (line + 1) (record { len = len; lines = 1 }) (record passed { nodes = passed.nodes + 1; places = places })) (sym e.0)
      (subst (TakesLines (with_given_head b (BodyHead con) line) text (line + 1) (record { len = len; lines = 1 })) same
      (leaf_first (with_given_head b (BodyHead con) line) text (line + 1) len e.1.leaf (Whole e.1.node) 1 draft None run awaits_node e.1.first e.1.read refl refl
      (rw e.1.whole refl, given ∙ ap (λ (x : Tree). record b.draft { bodies = slice_set b.draft.bodies con (Some x) }) e.1.is)))

-- ---- one term of a constraint

module _ (b : Body) (con line : ℕ) (text : List ℕ) (p : FirstPair) (may_begin : MayBegin b (Terms con 1) line) (next : IsNextTerm b text p) where
  abbrev Begun : Body
  Begun = with_given_head b (Terms con 1) line

  abbrev piece : Current
  piece = new_current (Terms con 1) line 1

  begun : IsBodyOf b.draft b.uses (Terms con 1) 1 Begun piece
  begun =
      record {
        draft = refl;
        uses_are = refl;
        awaits = record { current = refl; same_head = refl; linear = refl; given = refl; some = omega arith; left = omega arith; few = let few = next.few in omega arith };
      }

  no_term : (number : ℕ) → TakesLines Begun text number (record { len = 0; lines = 0 }) (with_counted (with_parts Begun b.draft b.uses) piece number 0)
  no_term number = none_counted Begun piece (Terms con 1) 1 number b.draft b.uses text begun

  pub can_take_term : CanTake (with_counted (with_parts Begun b.draft b.uses) piece 1 0) (Terms con 1) (p.index, p.value)
  can_take_term =
      can_term b.draft b.draft b.uses b.uses (Terms con 1) 1 text (record { len = 0; lines = 0 }) p
      (record { body = Begun; current = piece; is = begun; held = may_begin.held }) (omega arith) (no_term 1) next.first next.below

  pub term_taken_at_once : (passed : Body) (draft : Draft) (uses : List ℕ) (places : PlaceLines)
      → draft ≡ with_given b.draft (Terms con 1) (p.index, p.value) → uses ≡ with_use (Terms con 1) b.uses p.index
      → passed ≡ with_head_passed (record b { draft = draft; uses = uses; linear = b.linear + 1 }) (Terms con 1) line → places ≡ with_term_run passed.places (line + 1) 1 (Terms con 1)
      → TakesLines Begun text (line + 1) (record { len = p.len; lines = 1 }) (record passed { places = places })
  term_taken_at_once passed draft uses places given used e lines =
      let same : with_counted (with_parts Begun draft uses) piece (line + 1) 1 ≡ record passed { places = places } =
      sym (ap (λ (x : Body). record x { places = places }) e
      ∙ (λ i. record (with_counted (with_parts Begun draft uses) piece (line + 1) 1) {
        current = may_begin.closed i;
        places = (lines
            ∙ ap (λ (x : Body). with_term_run x.places (line + 1) 1 (Terms con 1)) e) i;
      })) in
      let none : 0 + p.len ≡ p.len = omega arith in
      subst (TakesLines Begun text (line + 1) (record { len = p.len; lines = 1 })) same
      (subst (λ (len : ℕ). TakesLines Begun text (line + 1) (record { len = len; lines = 1 }) (with_counted (with_parts Begun draft uses) piece (line + 1) 1)) none
      (term_taken Begun piece (Terms con 1) 1 (line + 1) b.draft draft b.uses uses text (record { len = 0; lines = 0 })
      p begun.awaits (omega arith) (no_term (line + 1)) next.first next.below given used))

-- ---- the lines of what is begun

pub nodes_begin : (l : PlaceLines) (con line next : ℕ) → HasOwner l (BodyHead con) → nodes_follow (with_begun l line (BodyHead con)) (BodyHead con) next ≡ true
nodes_begin l con line next there =
    let o = get_or l.constraints con no_lines in
    let begun = get_set l.constraints con (record o { head = Some line; nodes = [] }) no_lines there in
    rw begun refl
