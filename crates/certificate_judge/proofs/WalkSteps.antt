-- The steps of the walk over the nodes of a tree.
use Rattle.std.proofs.Common.{◌≡◌, ℕ, suc, ◌+◌, ◌<◌, ◌≤◌, ◌∙◌, sym, ap, ap₂, subst, refl, arith, List, [], ◌∷◌, ◌++◌, length, length-append, take, drop, get_or, drop-cons, add-one, Option, None, ℤ}
use Rattle.std.specs.Option.{option_map}
use Rattle.std.proofs.lemmas.List.{drop_all, take_at, drop_at}
use Rattle.exact_numbers.specs.Rational.{ℚ, IsWhole}
use Rattle.linear_program.specs.Linear.{Linear, row_count, variable_count}
use Rattle.certificates.specs.Branch.{LeafFault, proof_fault, branch_fault}
use Rattle.certificates.specs.Parts.{Part, whole_part}
use Rattle.certificates.specs.declared.certificate.CertificateNode.{CertificateNode}
use Rattle.certificates.specs.declared.certificate.CertificateNode.TheVariants.{Split, Plane, Lemma, Duals, Weights}
use Rattle.linear_program.specs.declared.number.Number.{Number}
use Rattle.certificates.specs.Certificates.{CertificateTree, IsTreeOver, duals, lemma, nodes_of, plane, split, tree_over, weights, announced_pairs}
use Rattle.linear_program.specs.Numbers.{Pair, number_value}
use Rattle.exact_checks.specs.declared.verdict.Goal.{Goal}
use Rattle.exact_checks.specs.declared.verdict.Goal.TheVariants.{Objective, Zero}
use Rattle.certificate_judge.specs.Outcomes.{leaf_fault_of}
use Rattle.certificate_judge.specs.InsidePaths.{Turn, part_under}
use Rattle.certificate_judge.specs.Walks.{IsWalkable, IsWritten, bound_in, leaf_check, leaf_node}
use Rattle.certificate_judge.specs.declared.outcome.LeafFault.{LeafFault as Fault}
use Rattle.certificate_judge.proofs.Walking.{AtLeaf, AtLemma, AtPlane, AtSplit, OnWalk, at_leaf, at_lemma, at_plane, at_split, leaf_fault_here, on_begins, on_ends}
use Rattle.certificate_judge.proofs.Written.{indices_of}
use Rattle.std.proofs.lemmas.List.Elements.{All-weaker}

-- ---- pairs at the front
module _ (own later rest : List Pair) (n : ℕ) (split : rest ≡ own ++ later) (count : length own ≡ n) where
  pub front_there : n ≤ length rest
  front_there = subst (λ ps. n ≤ length ps) (sym split) (omega (arith, length-append own later, count))

  pub front_is : take n rest ≡ own
  front_is = ap (take n) split ∙ take_at own later n count

  pub back_is : drop n rest ≡ later
  back_is = ap (drop n) split ∙ drop_at own later n count

-- ---- what the walk asks of a tree
pub walkable : (on_whole : ℕ → Type 0) (n m : ℕ) (tree : CertificateTree) → ((j : ℕ) → on_whole j → j < n) → IsTreeOver on_whole n m tree → IsWalkable n m tree
unfolding IsTreeOver IsWalkable
walkable on_whole n m (split j t a b) there h = (there j h.0, h.1, walkable on_whole n m a there h.2, walkable on_whole n m b there h.3)
walkable on_whole n m (plane ps t a b) there h = (
  All-weaker (λ (p : Pair). on_whole p.0 × IsWhole (number_value p.1))
      (λ (p : Pair). IsWhole (number_value p.1)) (λ p w. w.1) ps h.0,
  h.1,
  h.3,
  walkable on_whole n (suc m) a there h.4,
  walkable on_whole n (suc m) b there h.5,
)
walkable on_whole n m (lemma ps t a b) there h = (h.0, h.2, walkable on_whole n m a there h.3, walkable on_whole n (suc m) b there h.4)
walkable on_whole n m (duals ps) there h = indices_of 0 m ps h
walkable on_whole n m (weights ps) there h = indices_of 0 m ps h

-- ---- a walk begins
pub walk_begins : (f : Linear) (v : ℚ) (tree : CertificateTree) (nodes : List CertificateNode) (pairs : List Pair)
    → IsWritten f tree nodes pairs → OnWalk (variable_count f) (whole_part f v)
    (proof_fault f v (tree_over (row_count f) tree)) nodes pairs [] 0
unfolding proof_fault
walk_begins f v tree nodes pairs h =
    subst (λ ns. OnWalk (variable_count f) (whole_part f v) (branch_fault (whole_part f v) 0 (tree_over (row_count f) tree)) ns pairs [] 0) h.nodes_are
    (subst (λ ps. OnWalk (variable_count f) (whole_part f v) (branch_fault (whole_part f v) 0 (tree_over (row_count f) tree)) (nodes_of tree) ps [] 0) h.pairs_are
    (on_begins (variable_count f) (whole_part f v) tree h.fine))

module _ (n : ℕ) (base : Part) (answer : Option LeafFault) (nodes : List CertificateNode) (i k : ℕ) (rest : List Pair) (turns : List Turn) (on : OnWalk n base answer (drop i nodes) rest turns k) where
  pub walk_ends : length nodes ≤ i → answer ≡ None
  walk_ends l = on_ends n base answer rest turns k (subst (λ ns. OnWalk n base answer ns rest turns k) (drop_all i nodes l) on)

  module _ (d : CertificateNode) (within : i < length nodes) (item : d ≡ get_or nodes i d) where
    here : (node : CertificateNode) → d ≡ node → OnWalk n base answer (node ∷ drop (i + 1) nodes) rest turns k
    here node is =
        subst (λ ns. OnWalk n base answer ns rest turns k)
        (drop-cons nodes i d within ∙ ap₂ (λ x m. x ∷ drop m nodes) (sym item ∙ is) (sym (add-one i))) on

    pub walk_split : (j : ℕ) (t : ℤ) → d ≡ Split j t → AtSplit n base answer rest turns k j t (drop (i + 1) nodes)
    walk_split j t is = at_split n base answer rest turns k j t (drop (i + 1) nodes) (here (Split j t) is)

    pub walk_plane : (count : ℕ) (t : ℤ) → d ≡ Plane count t → AtPlane n base answer rest turns k count t (drop (i + 1) nodes)
    walk_plane count t is = at_plane n base answer rest turns k count t (drop (i + 1) nodes) (here (Plane count t) is)

    pub walk_lemma : (count : ℕ) (t : Number) → d ≡ Lemma count t → AtLemma n base answer rest turns k count t (drop (i + 1) nodes)
    walk_lemma count t is = at_lemma n base answer rest turns k count t (drop (i + 1) nodes) (here (Lemma count t) is)

    pub walk_leaf : (goal : Goal) (count : ℕ) → d ≡ leaf_node goal count → AtLeaf n base answer rest turns k goal count (drop (i + 1) nodes)
    walk_leaf goal count is = at_leaf n base answer rest turns k goal count (drop (i + 1) nodes) (here (leaf_node goal count) is)

    -- the pairs of a node that is no split are there
    pub walk_count : ((j : ℕ) (t : ℤ) → d ≡ Split j t → ⊥) → announced_pairs d ≤ length rest
    walk_count no_split = by d refl
      where
        by : (x : CertificateNode) → d ≡ x → announced_pairs x ≤ length rest
        by (Split j t) e = absurd (no_split j t e)
        by (Plane m t) e = let a = walk_plane m t e in front_there a.own a.later rest m a.split_pairs a.count_is
        by (Lemma m t) e = let a = walk_lemma m t e in front_there a.own a.later rest m a.split_pairs a.count_is
        by (Duals m) e = let a = walk_leaf Objective m e in front_there a.own a.later rest m a.split_pairs a.count_is
        by (Weights m) e = let a = walk_leaf Zero m e in front_there a.own a.later rest m a.split_pairs a.count_is

-- ---- the test of a leaf, in code's words
pub leaf_test : (n : ℕ) (base : Part) (answer : Option LeafFault) (pairs : List Pair) (turns : List Turn) (k : ℕ)
    (goal : Goal) (own : List Pair) → leaf_fault_here n base answer pairs turns k goal own
    ≡ leaf_check goal (part_under base turns) k (bound_in (part_under base turns) goal own)
unfolding branch_fault tree_over
leaf_test n base answer pairs turns k Objective own = refl
leaf_test n base answer pairs turns k Zero own = refl

-- the test that the code made is that of the leaf
pub leaf_tested : (n : ℕ) (base : Part) (answer : Option LeafFault) (pairs : List Pair) (turns : List Turn) (k : ℕ) (goal : Goal) (own own_here : List Pair) (o : Option Fault) → own_here ≡ own
    → option_map (leaf_fault_of k) o ≡ leaf_check goal (part_under base turns) k (bound_in (part_under base turns) goal own_here)
    → leaf_fault_here n base answer pairs turns k goal own ≡ option_map (leaf_fault_of k) o
leaf_tested n base answer pairs turns k goal own own_here o same e =
    leaf_test n base answer pairs turns k goal own
    ∙ ap (λ ps. leaf_check goal (part_under base turns) k (bound_in (part_under base turns) goal ps)) (sym same)
    ∙ sym e
