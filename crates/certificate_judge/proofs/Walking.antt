-- A walk over the leaves of a written tree, with the subtrees that are still to come.
use Rattle.std.proofs.Common.{◌≡◌, ℕ, suc, ◌+◌, ◌<◌, ◌∙◌, sym, ap, ap₂, subst, refl, List, [], ◌∷◌, ◌++◌, length, append-nil, append_assoc, Option, Some, None, ℤ, add_assoc, All, true}
use Rattle.std.specs.Option.{option_or}
use Rattle.exact_numbers.specs.Fits.{fits}
use Rattle.exact_numbers.specs.Rational.{IsWhole}
use Rattle.linear_program.specs.Linear.{row_count}
use Rattle.certificates.specs.Branch.{LeafFault, BranchTree, leaves, split as split_tree, branch_fault}
use Rattle.certificates.specs.Parts.{Cut, Part, bound, form_of as plane_form, first_part, second_part, lemma as lemma_cut, plane as plane_cut, sum_of}
use Rattle.certificates.proofs.Parts.{rows_added}
use Rattle.certificates.specs.declared.certificate.CertificateNode.{CertificateNode}
use Rattle.certificates.specs.declared.certificate.CertificateNode.TheVariants.{Split, Plane, Lemma}
use Rattle.linear_program.specs.declared.number.Number.{Number}
use Rattle.certificates.specs.Certificates.{AreNumbers, CertificateTree, IsCutNumber, duals, lemma, nodes_of, number_form, pairs_of, plane, split, tree_over, weights, whole_form}
use Rattle.linear_program.specs.Numbers.{Pair, number_value}
use Rattle.exact_checks.specs.Leaves.{AreIndices}
use Rattle.exact_checks.specs.declared.verdict.Goal.{Goal}
use Rattle.exact_checks.specs.declared.verdict.Goal.TheVariants.{Objective, Zero}
use Rattle.certificate_judge.specs.InsidePaths.{Turn, to_first, to_second, next_turns, part_under}
use Rattle.certificate_judge.specs.Walks.{IsWalkable, leaf_node}
use Rattle.exact_numbers.proofs.OptionLemmas.{or_assoc, or_none}

-- how many leaves a tree has
leaf_count : CertificateTree → ℕ
leaf_count (split j t a b) = leaf_count a + leaf_count b
leaf_count (plane ps t a b) = leaf_count a + leaf_count b
leaf_count (lemma ps t a b) = leaf_count a + leaf_count b
leaf_count (duals ps) = 1
leaf_count (weights ps) = 1

leaf_count_over : (m : ℕ) (tree : CertificateTree) → leaves (tree_over m tree) ≡ leaf_count tree
unfolding leaves tree_over leaf_count
leaf_count_over m (split j t a b) = ap₂ (λ x y. x + y) (leaf_count_over m a) (leaf_count_over m b)
leaf_count_over m (plane ps t a b) = ap₂ (λ x y. x + y) (leaf_count_over (suc m) a) (leaf_count_over (suc m) b)
leaf_count_over m (lemma ps t a b) = ap₂ (λ x y. x + y) (leaf_count_over m a) (leaf_count_over (suc m) b)
leaf_count_over m tree = refl

-- in the parts of a plane, and where a lemma goes on, there is one row more
abbrev pub rows_in : Part → ℕ
rows_in p = row_count p.program

-- ---- the parts that are still to come
abbrev parts_left : Part → List Turn → List Part
parts_left base [] = []
parts_left base (to_first cut ∷ turns) = second_part cut (part_under base turns) ∷ parts_left base turns
parts_left base (to_second cut ∷ turns) = parts_left base turns

data Next (base : Part) (turns : List Turn) : Type 0 where
  nothing_next : parts_left base turns ≡ [] → Next base turns
  more_next : parts_left base turns ≡ part_under base (next_turns turns) ∷ parts_left base (next_turns turns) → Next base turns

next_of : (base : Part) (turns : List Turn) → Next base turns
next_of base [] = nothing_next refl
next_of base (to_first cut ∷ turns) = more_next refl
next_of base (to_second cut ∷ turns) = elim (next_of base turns) [ nothing_next e ↦ nothing_next e | more_next e ↦ more_next e ]

-- either nothing is left, or what is left is under these turns
data Placed (base : Part) (turns : List Turn) (parts : List Part) : Type 0 where
  over : parts ≡ [] → Placed base turns parts
  under : parts ≡ part_under base turns ∷ parts_left base turns → Placed base turns parts

cut_place : (base : Part) (turns : List Turn) (p : Part) (parts : List Part) (cut : Cut) → Placed base turns (p ∷ parts)
    → Placed base (to_first cut ∷ turns) (first_part cut p ∷ second_part cut p ∷ parts)
cut_place base turns p parts cut (over e) = absurd (cc)
cut_place base turns p parts cut (under e) =
    let first : p ≡ part_under base turns = cc in
    let more : parts ≡ parts_left base turns = cc in
    under (ap₂ (λ q r. first_part cut q ∷ second_part cut q ∷ r) first more)

next_place : (base : Part) (turns : List Turn) (p : Part) (parts : List Part) → Placed base turns (p ∷ parts) → Placed base (next_turns turns) parts
next_place base turns p parts (over e) = absurd (cc)
next_place base turns p parts (under e) =
    let more : parts ≡ parts_left base turns = cc in
    elim (next_of base turns) [ nothing_next n ↦ over (more ∙ n) | more_next m ↦ under (more ∙ m) ]

part_is : (base : Part) (turns : List Turn) (p : Part) (parts : List Part) → Placed base turns (p ∷ parts) → p ≡ part_under base turns
part_is base turns p parts (over e) = absurd (cc)
part_is base turns p parts (under e) = cc

-- ---- the subtrees that are still to come
abbrev Todo : Type 0
Todo = Part × CertificateTree

nodes_in : List Todo → List CertificateNode
nodes_in [] = []
nodes_in (todo ∷ rest) = nodes_of todo.1 ++ nodes_in rest

pairs_in : List Todo → List Pair
pairs_in [] = []
pairs_in (todo ∷ rest) = pairs_of todo.1 ++ pairs_in rest

parts_in : List Todo → List Part
parts_in [] = []
parts_in (todo ∷ rest) = todo.0 ∷ parts_in rest

module _ (n : ℕ) (base : Part) where
  -- all of them are trees of the program
  AreTrees : List Todo → Type 0
  AreTrees [] = Unit {0}
  AreTrees (todo ∷ rest) = IsWalkable n (rows_in todo.0) todo.1 × AreTrees rest

  -- the first leaf of these that does not close, counted from k
  faults_left : ℕ → List Todo → Option LeafFault
  faults_left k [] = None
  faults_left k (todo ∷ rest) = option_or (branch_fault todo.0 k (tree_over (rows_in todo.0) todo.1)) (faults_left (k + leaf_count todo.1) rest)

  -- a cut is its two parts, whose trees are over x and y rows
  walk_cuts : (k : ℕ) (p : Part) (tree : CertificateTree) (cut : Cut) (x y : ℕ) (a b : CertificateTree) (rest : List Todo)
      → tree_over (rows_in p) tree ≡ split_tree cut (tree_over x a) (tree_over y b)
      → leaf_count tree ≡ leaf_count a + leaf_count b
      → x ≡ rows_in (first_part cut p)
      → y ≡ rows_in (second_part cut p)
      → faults_left k ((p, tree) ∷ rest) ≡ faults_left k ((first_part cut p, a) ∷ (second_part cut p, b) ∷ rest)
  unfolding faults_left branch_fault
  walk_cuts k p tree cut x y a b rest is count first_rows second_rows =
      let first : ℕ → Option LeafFault = λ m. branch_fault (first_part cut p) k (tree_over m a) in
      let second : ℕ → ℕ → Option LeafFault = λ j m. branch_fault (second_part cut p) j (tree_over m b) in
      ap₂ (λ t c. option_or (branch_fault p k t) (faults_left (k + c) rest)) is count
      ∙ or_assoc (first x) (second (k + leaves (tree_over x a)) y) (faults_left (k + (leaf_count a + leaf_count b)) rest)
      ∙ ap₂ (λ j l. option_or (first x) (option_or (second (k + l) y) (faults_left j rest))) (sym (add_assoc k (leaf_count a) (leaf_count b))) (leaf_count_over x a)
      ∙ ap₂ (λ u w. option_or (first u) (option_or (second (k + leaf_count a) w) (faults_left (k + leaf_count a + leaf_count b) rest))) first_rows second_rows

  -- where a walk stands: the answer is that of the subtrees left, and their nodes and pairs are
  -- those left
  pub record OnWalk (answer : Option LeafFault) (nodes : List CertificateNode) (pairs : List Pair) (turns : List Turn) (k : ℕ) : Type 0 where
    todos : List Todo
    rest : answer ≡ faults_left k todos
    nodes_are : nodes ≡ nodes_in todos
    pairs_are : pairs ≡ pairs_in todos
    trees : AreTrees todos
    place : Placed base turns (parts_in todos)

  pub on_begins : (tree : CertificateTree) → IsWalkable n (rows_in base) tree → OnWalk (branch_fault base 0 (tree_over (rows_in base) tree)) (nodes_of tree) (pairs_of tree) [] 0
  unfolding nodes_in pairs_in parts_in AreTrees faults_left
  on_begins tree fine =
      record {
        todos = (base, tree) ∷ [];
        rest = sym (or_none (branch_fault base 0 (tree_over (rows_in base) tree)));
        nodes_are = sym (append-nil (nodes_of tree));
        pairs_are = sym (append-nil (pairs_of tree));
        trees = (fine, tt);
        place = under refl;
      }

  module _ (answer : Option LeafFault) (pairs : List Pair) (turns : List Turn) (k : ℕ) where
    pub on_ends : OnWalk answer [] pairs turns k → answer ≡ None
    unfolding faults_left nodes_in nodes_of
    on_ends on = by on.todos on.rest on.nodes_are
      where
        by : (todos : List Todo) → answer ≡ faults_left k todos → [] ≡ nodes_in todos → answer ≡ None
        by [] rest fine = rest
        by ((p, split j t a b) ∷ more) rest fine = absurd (cc)
        by ((p, plane ps t a b) ∷ more) rest fine = absurd (cc)
        by ((p, lemma ps t a b) ∷ more) rest fine = absurd (cc)
        by ((p, duals ps) ∷ more) rest fine = absurd (cc)
        by ((p, weights ps) ∷ more) rest fine = absurd (cc)

    -- ---- splits
    pub record AtSplit (j : ℕ) (t : ℤ) (nodes : List CertificateNode) : Type 0 where
      pub variable : j < n
      pub number : IsCutNumber t
      pub on : OnWalk answer nodes pairs (to_first (bound j t) ∷ turns) k

    pub at_split : (j : ℕ) (t : ℤ) (nodes : List CertificateNode) → OnWalk answer (Split j t ∷ nodes) pairs turns k → AtSplit j t nodes
    unfolding nodes_in nodes_of pairs_in pairs_of parts_in AreTrees IsWalkable tree_over leaf_count
    at_split j t nodes on = by on.todos on.rest on.nodes_are on.pairs_are on.trees on.place
      where
        cut_rest : (p : Part) (a b : CertificateTree) (more : List Todo)
            → faults_left k ((p, split j t a b) ∷ more) ≡ faults_left k
            ((first_part (bound j t) p, a) ∷ (second_part (bound j t) p, b) ∷ more)
        cut_rest p a b more = walk_cuts k p (split j t a b) (bound j t) (rows_in p) (rows_in p) a b more refl refl refl refl

        by : (todos : List Todo) → answer ≡ faults_left k todos → Split j t ∷ nodes ≡ nodes_in todos → pairs ≡ pairs_in todos → AreTrees todos → Placed base turns (parts_in todos) → AtSplit j t nodes
        by ((p, split i s a b) ∷ more) rest fine ps trees place =
            let one : i ≡ j = cc in
            let two : s ≡ t = cc in
            let left : nodes ≡ (nodes_of a ++ nodes_of b) ++ nodes_in more = cc in
            record {
              variable = subst (λ x. x < n) one trees.0.0;
              number = subst IsCutNumber two trees.0.1;
              on = record {
                todos = (first_part (bound j t) p, a) ∷ (second_part (bound j t) p, b) ∷ more;
                rest = rest ∙ ap₂ (λ x y. faults_left k ((p, split x y a b) ∷ more)) one two ∙ cut_rest p a b more;
                nodes_are = left ∙ append_assoc (nodes_of a) (nodes_of b) (nodes_in more);
                pairs_are = ps ∙ append_assoc (pairs_of a) (pairs_of b) (pairs_in more);
                trees = (trees.0.2, (trees.0.3, trees.1));
                place = cut_place base turns p (parts_in more) (bound j t) place;
              };
            }
        by todos rest fine ps trees place = absurd (cc)

    -- ---- planes
    pub record AtPlane (count : ℕ) (t : ℤ) (nodes : List CertificateNode) : Type 0 where
      pub own : List Pair
      pub later : List Pair
      pub count_is : length own ≡ count
      pub split_pairs : pairs ≡ own ++ later
      pub wholes : All (λ (p : Pair). IsWhole (number_value p.1)) own
      pub numbers : AreNumbers 0 n own
      pub number : IsCutNumber t
      pub on : OnWalk answer nodes later (to_first (plane_cut (whole_form own) t) ∷ turns) k

    pub at_plane : (count : ℕ) (t : ℤ) (nodes : List CertificateNode) → OnWalk answer (Plane count t ∷ nodes) pairs turns k → AtPlane count t nodes
    unfolding nodes_in nodes_of pairs_in pairs_of parts_in AreTrees IsWalkable tree_over leaf_count
    at_plane count t nodes on = by on.todos on.rest on.nodes_are on.pairs_are on.trees on.place
      where
        rows_first : (p : Part) (qs : List Pair) → suc (rows_in p) ≡ rows_in (first_part (plane_cut (whole_form qs) t) p)
        rows_first p qs = sym (rows_added p.program (plane_form (whole_form qs)) _)

        rows_second : (p : Part) (qs : List Pair) → suc (rows_in p) ≡ rows_in (second_part (plane_cut (whole_form qs) t) p)
        rows_second p qs = sym (rows_added p.program (plane_form (whole_form qs)) _)

        cut_rest : (p : Part) (qs : List Pair) (a b : CertificateTree) (more : List Todo)
            → faults_left k ((p, plane qs t a b) ∷ more) ≡ faults_left k
            ((first_part (plane_cut (whole_form qs) t) p, a) ∷ (second_part (plane_cut (whole_form qs) t) p, b) ∷ more)
        cut_rest p qs a b more = walk_cuts k p (plane qs t a b) (plane_cut (whole_form qs) t) (suc (rows_in p)) (suc (rows_in p)) a b more refl refl (rows_first p qs) (rows_second p qs)

        by : (todos : List Todo) → answer ≡ faults_left k todos → Plane count t ∷ nodes ≡ nodes_in todos
            → pairs ≡ pairs_in todos → AreTrees todos → Placed base turns (parts_in todos) → AtPlane count t nodes
        by ((p, plane qs s a b) ∷ more) rest fine ps trees place =
            let one : length qs ≡ count = cc in
            let two : s ≡ t = cc in
            let left : nodes ≡ (nodes_of a ++ nodes_of b) ++ nodes_in more = cc in
            record {
              own = qs;
              later = pairs_of a ++ (pairs_of b ++ pairs_in more);
              count_is = one;
              split_pairs = ps ∙ append_assoc qs (pairs_of a ++ pairs_of b) (pairs_in more) ∙ ap (λ x. qs ++ x) (append_assoc (pairs_of a) (pairs_of b) (pairs_in more));
              wholes = trees.0.0;
              numbers = trees.0.1;
              number = subst IsCutNumber two trees.0.2;
              on = record {
                todos = (first_part (plane_cut (whole_form qs) t) p, a) ∷ (second_part (plane_cut (whole_form qs) t) p, b) ∷ more;
                rest = rest ∙ ap (λ y. faults_left k ((p, plane qs y a b) ∷ more)) two ∙ cut_rest p qs a b more;
                nodes_are = left ∙ append_assoc (nodes_of a) (nodes_of b) (nodes_in more);
                pairs_are = refl;
                trees = (subst (λ m. IsWalkable n m a) (rows_first p qs) trees.0.3, (subst (λ m. IsWalkable n m b) (rows_second p qs) trees.0.4, trees.1));
                place = cut_place base turns p (parts_in more) (plane_cut (whole_form qs) t) place;
              };
            }
        by todos rest fine ps trees place = absurd (cc)

    -- ---- lemmas
    pub record AtLemma (count : ℕ) (t : Number) (nodes : List CertificateNode) : Type 0 where
      pub own : List Pair
      pub later : List Pair
      pub count_is : length own ≡ count
      pub split_pairs : pairs ≡ own ++ later
      pub numbers : AreNumbers 0 n own
      pub number : fits (number_value t) ≡ true
      pub on : OnWalk answer nodes later (to_first (lemma_cut (number_form own) (number_value t)) ∷ turns) k

    pub at_lemma : (count : ℕ) (t : Number) (nodes : List CertificateNode) → OnWalk answer (Lemma count t ∷ nodes) pairs turns k → AtLemma count t nodes
    unfolding nodes_in nodes_of pairs_in pairs_of parts_in AreTrees IsWalkable tree_over leaf_count
    at_lemma count t nodes on = by on.todos on.rest on.nodes_are on.pairs_are on.trees on.place
      where
        rows_second : (p : Part) (qs : List Pair) → suc (rows_in p) ≡ rows_in (second_part (lemma_cut (number_form qs) (number_value t)) p)
        rows_second p qs = sym (rows_added p.program (sum_of (number_form qs)) _)

        cut_rest : (p : Part) (qs : List Pair) (a b : CertificateTree) (more : List Todo)
            → faults_left k ((p, lemma qs t a b) ∷ more) ≡ faults_left k
            ((first_part (lemma_cut (number_form qs) (number_value t)) p, a)
            ∷ (second_part (lemma_cut (number_form qs) (number_value t)) p, b) ∷ more)
        cut_rest p qs a b more = walk_cuts k p (lemma qs t a b) (lemma_cut (number_form qs) (number_value t)) (rows_in p) (suc (rows_in p)) a b more refl refl refl (rows_second p qs)

        by : (todos : List Todo) → answer ≡ faults_left k todos → Lemma count t ∷ nodes ≡ nodes_in todos
            → pairs ≡ pairs_in todos → AreTrees todos → Placed base turns (parts_in todos) → AtLemma count t nodes
        by ((p, lemma qs s a b) ∷ more) rest fine ps trees place =
            let one : length qs ≡ count = cc in
            let two : s ≡ t = cc in
            let left : nodes ≡ (nodes_of a ++ nodes_of b) ++ nodes_in more = cc in
            record {
              own = qs;
              later = pairs_of a ++ (pairs_of b ++ pairs_in more);
              count_is = one;
              split_pairs = ps ∙ append_assoc qs (pairs_of a ++ pairs_of b) (pairs_in more) ∙ ap (λ x. qs ++ x) (append_assoc (pairs_of a) (pairs_of b) (pairs_in more));
              numbers = trees.0.0;
              number = subst (λ x. fits (number_value x) ≡ true) two trees.0.1;
              on = record {
                todos = (first_part (lemma_cut (number_form qs) (number_value t)) p, a) ∷ (second_part (lemma_cut (number_form qs) (number_value t)) p, b) ∷ more;
                rest = rest ∙ ap (λ y. faults_left k ((p, lemma qs y a b) ∷ more)) two ∙ cut_rest p qs a b more;
                nodes_are = left ∙ append_assoc (nodes_of a) (nodes_of b) (nodes_in more);
                pairs_are = refl;
                trees = (trees.0.2, (subst (λ m. IsWalkable n m b) (rows_second p qs) trees.0.3, trees.1));
                place = cut_place base turns p (parts_in more) (lemma_cut (number_form qs) (number_value t)) place;
              };
            }
        by todos rest fine ps trees place = absurd (cc)

    -- ---- leaves
    abbrev leaf_over : ℕ → Goal → List Pair → BranchTree
    leaf_over m Objective ps = tree_over m (duals ps)
    leaf_over m Zero ps = tree_over m (weights ps)

    abbrev pub leaf_fault_here : Goal → List Pair → Option LeafFault
    leaf_fault_here goal own = branch_fault (part_under base turns) k (leaf_over (rows_in (part_under base turns)) goal own)

    pub record AtLeaf (goal : Goal) (count : ℕ) (nodes : List CertificateNode) : Type 0 where
      pub own : List Pair
      pub later : List Pair
      pub count_is : length own ≡ count
      pub split_pairs : pairs ≡ own ++ later
      pub numbers : AreIndices 0 (rows_in (part_under base turns)) own
      pub stops : (g : LeafFault) → leaf_fault_here goal own ≡ Some g → answer ≡ Some g
      pub goes_on : leaf_fault_here goal own ≡ None → OnWalk answer nodes later (next_turns turns) (k + 1)

    pub at_leaf : (goal : Goal) (count : ℕ) (nodes : List CertificateNode) → OnWalk answer (leaf_node goal count ∷ nodes) pairs turns k → AtLeaf goal count nodes
    unfolding nodes_in nodes_of pairs_in pairs_of parts_in AreTrees IsWalkable faults_left tree_over leaf_count
    at_leaf goal count nodes on = by goal on.todos on.rest on.nodes_are on.pairs_are on.trees on.place
      where
        here : (g : Goal) (p : Part) (qs : List Pair) (more : List Todo) → length qs ≡ count → nodes ≡ nodes_in more
            → pairs ≡ qs ++ pairs_in more → AreIndices 0 (rows_in p) qs → AreTrees more
            → Placed base turns (p ∷ parts_in more)
            → answer ≡ option_or (branch_fault p k (leaf_over (rows_in p) g qs)) (faults_left (k + 1) more) → AtLeaf g count nodes
        here g p qs more counted left ps numbers trees place rest =
            let is = part_is base turns p (parts_in more) place in
            let answer_here = rest ∙ ap (λ q. option_or (branch_fault q k (leaf_over (rows_in q) g qs)) (faults_left (k + 1) more)) is in
            record {
              own = qs;
              later = pairs_in more;
              count_is = counted;
              split_pairs = ps;
              numbers = subst (λ q. AreIndices 0 (rows_in q) qs) is numbers;
              stops = λ f fails. answer_here ∙ ap (λ o. option_or o (faults_left (k + 1) more)) fails;
              goes_on = λ closes. record {
                todos = more;
                rest = answer_here ∙ ap (λ o. option_or o (faults_left (k + 1) more)) closes;
                nodes_are = left;
                pairs_are = refl;
                trees = trees;
                place = next_place base turns p (parts_in more) place;
              };
            }

        by : (g : Goal) (todos : List Todo) → answer ≡ faults_left k todos → leaf_node g count ∷ nodes ≡ nodes_in todos
            → pairs ≡ pairs_in todos → AreTrees todos → Placed base turns (parts_in todos) → AtLeaf g count nodes
        by Objective ((p, duals qs) ∷ more) rest fine ps trees place = here Objective p qs more (cc) (cc) ps trees.0 trees.1 place rest
        by Zero ((p, weights qs) ∷ more) rest fine ps trees place = here Zero p qs more (cc) (cc) ps trees.0 trees.1 place rest
        by g todos rest fine ps trees place = absurd (cc)
