-- The nodes and pairs of a proof become those of a tree of a certificate, whatever trees are still to come.
use Rattle.std.proofs.Common.{◌≡◌, ℕ, ◌+◌, ◌<◌, ◌≤◌, ◌∙◌, sym, ap, ap₂, subst, refl, arith, List, [], ◌∷◌, ◌++◌, length}
use Rattle.std.proofs.Common.{length-append, take, drop, drop-cons, get_or, add-one, append-nil, append_assoc, ℤ, All}
use Rattle.std.specs.Prelude.{flat_map}
use Rattle.std.proofs.lemmas.List.{drop_all, length-take-le, take_at, drop_at}
use Rattle.exact_numbers.specs.Rational.{zero_ℚ}
use Rattle.linear_program.specs.Linear.{Linear, row_count, variable_count}
use Rattle.certificates.specs.Branch.{split as split_tree, duals as duals_leaf, weights as weights_leaf}
use Rattle.certificates.specs.Parts.{bound}
use Rattle.linear_program.specs.Elements.{elements_from}
use Rattle.certificates.specs.Certificates.{CertificateTree, IsCutNumber, split as written_split}
use Rattle.certificates.specs.Certificates.{duals as written_duals, weights as written_weights}
use Rattle.certificates.specs.Certificates.{nodes_of as written_nodes_of, pairs_of as written_pairs_of}
use Rattle.certificates.specs.Certificates.{tree_over as written_over}
use Rattle.linear_program.specs.Numbers.{Pair as WrittenPair, number_of as written_number, spread as written_spread}
use Rattle.certificates.specs.declared.certificate.CertificateNode.{CertificateNode}
use Rattle.certificates.specs.declared.certificate.CertificateNode.TheVariants.{Split as SplitAt}
use Rattle.exact_checks.specs.Leaves.{AreIndices}
use Rattle.certificate_judge.specs.Walks.{IsWalkable}
use Rattle.certificates.specs.declared.proof.ProofNode.{ProofNode}
use Rattle.certificates.specs.declared.proof.ProofNode.TheVariants.{Split, Duals, Weights}
use Rattle.branch_proof.specs.InsideConverted.{HasCutNumber, IsTreeFor, node_with}
use Rattle.certificates.specs.Proofs.{announced_pairs, IsProofOf, IsTreeOf, Pair, ProofTree, ProofValue, split, duals, weights, nodes_of, number_of, pairs_of, spread, tree_over}
use Rattle.branch_proof.specs.InsideNumbers.{AreAdded}

none_taken : {A : Type 0} (xs : List A) → length xs ≤ 0 → xs ≡ []
none_taken [] h = refl
none_taken (x ∷ xs) h = absurd (omega arith)

-- the numbers of rows are those of pairs in order
spread_in_order : (m : ℕ) (ps : List Pair) (qs : List WrittenPair) → ((i : ℕ) → written_number qs i zero_ℚ ≡ number_of ps i zero_ℚ) → written_spread m qs ≡ spread m ps
unfolding spread written_spread
spread_in_order m ps qs h = ap (λ f. elements_from f 0 m) (λ q i. h i q)

module _ (f : Linear) where
  -- a tree of a certificate over the program, which is there the same tree
  record IsSame (tree : ProofTree) (w : CertificateTree) : Type 0 where
    walkable : IsWalkable (variable_count f) (row_count f) w
    same : written_over (row_count f) w ≡ tree_over (row_count f) tree

  AreSame : List ProofTree → List CertificateTree → Type 0
  AreSame [] [] = Unit {0}
  AreSame (tree ∷ more) (w ∷ ws) = IsSame tree w × AreSame more ws
  AreSame more ws = ⊥

  AreTrees : List ProofTree → Type 0
  AreTrees [] = Unit {0}
  AreTrees (tree ∷ more) = IsTreeOf f tree × AreTrees more

  same_split : (j : ℕ) (t : ℤ) (a b : ProofTree) (v w : CertificateTree) → j < variable_count f → IsCutNumber t → IsSame a v → IsSame b w → IsSame (split j t a b) (written_split j t v w)
  unfolding IsWalkable written_over tree_over
  same_split j t a b v w within number low high = record { walkable = (within, number, low.walkable, high.walkable); same = ap₂ (λ x y. split_tree (bound j t) x y) low.same high.same }

  module _ (ps : List Pair) (qs : List WrittenPair) (fine : AreIndices 0 (row_count f) qs) (same : written_spread (row_count f) qs ≡ spread (row_count f) ps) where
    same_duals : IsSame (duals ps) (written_duals qs)
    unfolding IsWalkable written_over tree_over
    same_duals = record { walkable = fine; same = ap (λ ys. duals_leaf ys) same }

    same_weights : IsSame (weights ps) (written_weights qs)
    unfolding IsWalkable written_over tree_over
    same_weights = record { walkable = fine; same = ap (λ ys. weights_leaf ys) same }

  -- ---- what was written, with the same trees for those still to come, is the whole tree
  record IsWhole (all : ProofTree) (nodes : List CertificateNode) (pairs : List WrittenPair) : Type 0 where
    written : CertificateTree
    nodes_are : written_nodes_of written ≡ nodes
    pairs_are : written_pairs_of written ≡ pairs
    same : IsSame all written

  pub record OnWrite (all : ProofTree) (nodes : List ProofNode) (pairs : List Pair) (done : List CertificateNode) (given : List WrittenPair) : Type 0 where
    more : List ProofTree
    nodes_are : nodes ≡ flat_map nodes_of more
    pairs_are : pairs ≡ flat_map pairs_of more
    trees : AreTrees more
    whole : (ws : List CertificateTree) → AreSame more ws → IsWhole all (done ++ flat_map written_nodes_of ws) (given ++ flat_map written_pairs_of ws)

  pub write_begins : (tree : ProofTree) → IsTreeOf f tree → OnWrite tree (nodes_of tree) (pairs_of tree) [] []
  unfolding AreTrees AreSame
  write_begins tree fine =
      record {
        more = tree ∷ [];
        nodes_are = sym (append-nil (nodes_of tree));
        pairs_are = sym (append-nil (pairs_of tree));
        trees = (fine, tt);
        whole = whole_of;
      }
    where
      whole_of : (ws : List CertificateTree) → AreSame (tree ∷ []) ws → IsWhole tree ([] ++ flat_map written_nodes_of ws) ([] ++ flat_map written_pairs_of ws)
      whole_of [] h = absurd h
      whole_of (w ∷ []) h = record { written = w; nodes_are = sym (append-nil (written_nodes_of w)); pairs_are = sym (append-nil (written_pairs_of w)); same = h.0 }
      whole_of (w ∷ v ∷ ws) h = absurd h.1

  module _ (all : ProofTree) (pairs : List Pair) (done : List CertificateNode) (given : List WrittenPair) where
    pub write_ends : OnWrite all [] pairs done given → IsTreeFor f all done given
    unfolding nodes_of AreSame
    write_ends on = by on.more on.nodes_are on.whole
      where
        ended : IsWhole all (done ++ []) (given ++ []) → IsTreeFor f all done given
        ended w =
            record {
              written = w.written;
              is_written = record { nodes_are = w.nodes_are ∙ append-nil done; pairs_are = w.pairs_are ∙ append-nil given; fine = w.same.walkable };
              same = w.same.same;
            }

        by : (more : List ProofTree) → [] ≡ flat_map nodes_of more
            → ((ws : List CertificateTree) → AreSame more ws → IsWhole all (done ++ flat_map written_nodes_of ws)
            (given ++ flat_map written_pairs_of ws)) → IsTreeFor f all done given
        by [] none whole = ended (whole [] tt)
        by (split j t a b ∷ more) none whole = absurd (cc)
        by (duals ps ∷ more) none whole = absurd (cc)
        by (weights ps ∷ more) none whole = absurd (cc)

    -- ---- one node more
    -- what there is to know of the node at which the writing stands, before it and after it
    pub record AtNode (node : ProofNode) (nodes : List ProofNode) : Type 0 where
      pub enough : announced_pairs node ≤ length pairs
      pub within : All (λ (p : Pair). p.0 < row_count f) (take (announced_pairs node) pairs)
      pub goes_on : (own : List WrittenPair) → AreIndices 0 (row_count f) own
          → ((i : ℕ) → written_number own i zero_ℚ ≡ number_of (take (announced_pairs node) pairs) i zero_ℚ)
          → length own ≤ announced_pairs node → HasCutNumber (node_with node (length own))
          → OnWrite all nodes (drop (announced_pairs node) pairs) (done ++ node_with node (length own) ∷ []) (given ++ own)

    module _ (more : List ProofTree) (trees : AreTrees more) where
      at_split : (j : ℕ) (t : ℤ) (a b : ProofTree) (nodes : List ProofNode)
          → nodes ≡ (nodes_of a ++ nodes_of b) ++ flat_map nodes_of more
          → pairs ≡ (pairs_of a ++ pairs_of b) ++ flat_map pairs_of more → IsTreeOf f (split j t a b)
          → ((ws : List CertificateTree) → AreSame (split j t a b ∷ more) ws → IsWhole all (done ++ flat_map written_nodes_of ws) (given ++ flat_map written_pairs_of ws)) → AtNode (Split j t) nodes
      unfolding IsTreeOf AreTrees AreSame written_nodes_of written_pairs_of
      at_split j t a b nodes left ps fine whole =
          record {
            enough = omega arith;
            within = λ i p l. absurd (omega arith);
            goes_on = λ own indices numbers short number.
                record {
                  more = a ∷ b ∷ more;
                  nodes_are = left ∙ append_assoc (nodes_of a) (nodes_of b) (flat_map nodes_of more);
                  pairs_are = ps ∙ append_assoc (pairs_of a) (pairs_of b) (flat_map pairs_of more);
                  trees = (fine.2, (fine.3, trees));
                  whole = next own (none_taken own short) number;
                };
          }
        where
          next : (own : List WrittenPair) → own ≡ [] → IsCutNumber t → (ws : List CertificateTree)
              → AreSame (a ∷ b ∷ more) ws → IsWhole all ((done ++ SplitAt j t ∷ []) ++ flat_map written_nodes_of ws)
              ((given ++ own) ++ flat_map written_pairs_of ws)
          next own none number [] h = absurd h
          next own none number (v ∷ []) h = absurd h.1
          next own none number (v ∷ w ∷ ws) h =
              let is = whole (written_split j t v w ∷ ws) (same_split j t a b v w fine.0 number h.0 h.1.0, h.1.1) in
              record {
                written = is.written;
                nodes_are =
                    is.nodes_are
                    ∙ ap (λ ns. done ++ SplitAt j t ∷ ns) (append_assoc (written_nodes_of v) (written_nodes_of w) (flat_map written_nodes_of ws))
                    ∙ sym (append_assoc done (SplitAt j t ∷ []) (written_nodes_of v ++ (written_nodes_of w ++ flat_map written_nodes_of ws)));
                pairs_are =
                    is.pairs_are
                    ∙ ap (λ qs. given ++ qs) (append_assoc (written_pairs_of v) (written_pairs_of w) (flat_map written_pairs_of ws))
                    ∙ ap (λ qs. qs ++ (written_pairs_of v ++ (written_pairs_of w ++ flat_map written_pairs_of ws))) (sym (ap (λ qs. given ++ qs) none ∙ append-nil given));
                same = is.same;
              }

      module _ (ps : List Pair) (nodes : List ProofNode) (left : nodes ≡ flat_map nodes_of more) (are : pairs ≡ ps ++ flat_map pairs_of more) (fine : All (λ (p : Pair). p.0 < row_count f) ps) where
        own_pairs : take (length ps) pairs ≡ ps
        own_pairs = ap (take (length ps)) are ∙ take_at ps (flat_map pairs_of more) (length ps) refl

        later_pairs : drop (length ps) pairs ≡ flat_map pairs_of more
        later_pairs = ap (drop (length ps)) are ∙ drop_at ps (flat_map pairs_of more) (length ps) refl

        enough_pairs : length ps ≤ length pairs
        enough_pairs = let sum = ap length are ∙ length-append ps (flat_map pairs_of more) in omega (arith, sum)

        -- a leaf with these pairs of its own comes next
        at_leaf : (tree : ProofTree) (node : ProofNode) (leaf : List WrittenPair → CertificateTree) → announced_pairs node ≡ length ps
            → ((own : List WrittenPair) → written_nodes_of (leaf own) ≡ node_with node (length own) ∷ []) → ((own : List WrittenPair) → written_pairs_of (leaf own) ≡ own)
            → ((own : List WrittenPair) → AreIndices 0 (row_count f) own → written_spread (row_count f) own ≡ spread (row_count f) ps → IsSame tree (leaf own))
            → ((ws : List CertificateTree) → AreSame (tree ∷ more) ws → IsWhole all (done ++ flat_map written_nodes_of ws) (given ++ flat_map written_pairs_of ws)) → AtNode node nodes
        unfolding AreSame
        at_leaf tree node leaf count one two same whole =
            let front = ap (λ n. take n pairs) count ∙ own_pairs in
            record {
              enough = omega (arith, count, enough_pairs);
              within = subst (All (λ (p : Pair). p.0 < row_count f)) (sym front) fine;
              goes_on = λ own indices numbers short number.
                  record {
                    more = more;
                    nodes_are = left;
                    pairs_are = ap (λ n. drop n pairs) count ∙ later_pairs;
                    trees = trees;
                    whole = λ ws h.
                        let is = whole (leaf own ∷ ws) (same own indices (spread_in_order (row_count f) ps own (λ i. numbers i ∙ ap (λ qs. number_of qs i zero_ℚ) front)), h) in
                        record {
                          written = is.written;
                          nodes_are = is.nodes_are ∙ ap (λ ns. done ++ (ns ++ flat_map written_nodes_of ws)) (one own)
                              ∙ sym (append_assoc done (node_with node (length own) ∷ []) (flat_map written_nodes_of ws));
                          pairs_are = is.pairs_are ∙ ap (λ qs. given ++ (qs ++ flat_map written_pairs_of ws)) (two own) ∙ sym (append_assoc given own (flat_map written_pairs_of ws));
                          same = is.same;
                        };
                  };
            }

    pub at_node : (node : ProofNode) (nodes : List ProofNode) → OnWrite all (node ∷ nodes) pairs done given → AtNode node nodes
    unfolding nodes_of pairs_of AreTrees IsTreeOf written_nodes_of written_pairs_of
    at_node node nodes on = by on.more on.nodes_are on.pairs_are on.trees on.whole
      where
        by : (more : List ProofTree) → node ∷ nodes ≡ flat_map nodes_of more → pairs ≡ flat_map pairs_of more
            → AreTrees more → ((ws : List CertificateTree) → AreSame more ws
            → IsWhole all (done ++ flat_map written_nodes_of ws) (given ++ flat_map written_pairs_of ws))
            → AtNode node nodes
        by [] ns ps trees whole = absurd (cc)
        by (split j t a b ∷ more) ns ps trees whole =
            let is : node ≡ Split j t = cc in
            let left : nodes ≡ (nodes_of a ++ nodes_of b) ++ flat_map nodes_of more = cc in
            subst (λ n. AtNode n nodes) (sym is) (at_split more trees.1 j t a b nodes left ps trees.0 whole)
        by (duals qs ∷ more) ns ps trees whole =
            let is : node ≡ Duals (length qs) = cc in
            let left : nodes ≡ flat_map nodes_of more = cc in
            subst (λ n. AtNode n nodes) (sym is) (at_leaf more trees.1 qs nodes left ps trees.0 (duals qs) (Duals (length qs)) written_duals refl (λ own. refl) (λ own. refl) (same_duals qs) whole)
        by (weights qs ∷ more) ns ps trees whole =
            let is : node ≡ Weights (length qs) = cc in
            let left : nodes ≡ flat_map nodes_of more = cc in
            subst (λ n. AtNode n nodes) (sym is) (at_leaf more trees.1 qs nodes left ps trees.0 (weights qs)
            (Weights (length qs)) written_weights refl (λ own. refl) (λ own. refl) (same_weights qs) whole)

-- ---- the node at index k, once its pairs are put in order
module _ (f : Linear) (all : ProofTree) (nodes : List ProofNode) (k : ℕ) (pairs : List Pair)
    (done : List CertificateNode) (given : List WrittenPair) (on : OnWrite f all (drop k nodes) pairs done given)
    (none : ProofNode) (within : k < length nodes) where
  abbrev node : ProofNode
  node = get_or nodes k none

  next : drop k nodes ≡ node ∷ drop (k + 1) nodes
  next = drop-cons nodes k none within ∙ ap (λ n. node ∷ drop n nodes) (sym (add-one k))

  pub here : AtNode f all pairs done given node (drop (k + 1) nodes)
  here = at_node f all pairs done given node (drop (k + 1) nodes) (subst (λ ns. OnWrite f all ns pairs done given) next on)

  module _ (n : ℕ) (many : n ≡ announced_pairs node) (own later : List Pair) (front : own ≡ take n pairs) (back : later ≡ drop n pairs) where
    front_here : own ≡ take (announced_pairs node) pairs
    front_here = front ∙ ap (λ m. take m pairs) many

    pub own_rows : (m : ℕ) → row_count f ≡ m → All (λ (p : Pair). p.0 < m) own
    own_rows m rows = subst (λ m. All (λ (p : Pair). p.0 < m) own) rows (subst (All (λ (p : Pair). p.0 < row_count f)) (sym front_here) here.within)

    module _ (added : List WrittenPair) (m : ℕ) (rows : row_count f ≡ m)
        (a : AreAdded m (λ i. number_of own i zero_ℚ) given added) (count : ℕ)
        (total : length added ≡ length given + count) (few : count ≤ length own) where
      counted : length a.own ≡ count
      counted = let sum = ap length a.more ∙ length-append given a.own in omega (arith, sum, total)

      short : length a.own ≤ announced_pairs node
      short =
          let taken = ap length front_here ∙ length-take-le (announced_pairs node) pairs here.enough in
          omega (arith, counted, few, taken)

      pub node_added : (x : CertificateNode) → x ≡ node_with node count → HasCutNumber x → (now : List CertificateNode) → now ≡ done ++ x ∷ [] → OnWrite f all (drop (k + 1) nodes) later now added
      node_added x is number now pushed =
          let x_is : x ≡ node_with node (length a.own) = is ∙ ap (node_with node) (sym counted) in
          let on = here.goes_on a.own (subst (λ m. AreIndices 0 m a.own) (sym rows) a.indices)
          (λ i. a.numbers i ∙ ap (λ ps. number_of ps i zero_ℚ) front_here) short (subst HasCutNumber x_is number) in
          subst (λ ns. OnWrite f all (drop (k + 1) nodes) later ns added) (sym (pushed ∙ ap (λ y. done ++ y ∷ []) x_is))
          (subst (λ ps. OnWrite f all (drop (k + 1) nodes) later (done ++ node_with node (length a.own) ∷ []) ps) (sym a.more)
          (subst (λ ps. OnWrite f all (drop (k + 1) nodes) ps (done ++ node_with node (length a.own) ∷ []) (given ++ a.own)) (sym (back ∙ ap (λ m. drop m pairs) many)) on))

  pub one_counted : (now : List CertificateNode) (x : CertificateNode) → now ≡ done ++ x ∷ []
      → length done + length (drop k nodes) ≡ length nodes → length now + length (drop (k + 1) nodes) ≡ length nodes
  one_counted now x pushed counted = let one = ap length pushed ∙ length-append done (x ∷ []) in let less = ap length next in omega (arith, counted, one, less)

-- ---- before the first node, and after the last
module _ (f : Linear) where
  pub whole_begins : (p : ProofValue) (h : IsProofOf f p) (pairs : List Pair) (done : List CertificateNode)
      (given : List WrittenPair) → pairs ≡ p.pairs → done ≡ [] → given ≡ [] → OnWrite f h.tree p.nodes pairs done given
  whole_begins p h pairs done given are none_done none_given =
      subst (λ ns. OnWrite f h.tree ns pairs done given) h.nodes
      (subst (λ ps. OnWrite f h.tree (nodes_of h.tree) ps done given) (h.pairs ∙ sym are)
      (subst (λ ns. OnWrite f h.tree (nodes_of h.tree) (pairs_of h.tree) ns given) (sym none_done)
      (subst (λ qs. OnWrite f h.tree (nodes_of h.tree) (pairs_of h.tree) [] qs) (sym none_given) (write_begins f h.tree h.fine))))

  pub whole_ends : (all : ProofTree) (nodes : List ProofNode) (k : ℕ) (pairs : List Pair) (done : List CertificateNode)
      (given : List WrittenPair) → OnWrite f all (drop k nodes) pairs done given → length nodes ≤ k
      → IsTreeFor f all done given
  whole_ends all nodes k pairs done given on past = write_ends f all pairs done given (subst (λ ns. OnWrite f all ns pairs done given) (drop_all k nodes past) on)
