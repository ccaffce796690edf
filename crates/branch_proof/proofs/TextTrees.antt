-- A text without faults is a proof: its rows give one tree. The walk goes over the pieces that are
-- left, and gives the subtrees and pairs that were awaited before them.
use Rattle.std.proofs.Common.{◌≡◌, ◌∙◌, ℕ, suc, ◌+◌, ◌-◌, ◌<◌, ◌≤◌, ◌^◌, ◌==◌, ℤ, true, List, [], ◌∷◌, ◌++◌, length}
use Rattle.std.proofs.Common.{Some, All, refl, sym, ap, ap₂, subst, arith, append-nil, append_assoc, length-append}
use Rattle.std.specs.Prelude.{count_by, flat_map, slice_get, sum_by}
use Rattle.std.specs.List.{filter_map}
use Rattle.std.proofs.lemmas.Bool.{and_parts, eqb-true}
use Rattle.std.proofs.lemmas.List.Elements.{All-cons}
use Rattle.exact_numbers.specs.Fits.{fits}
use Rattle.text_base.specs.Reading.{lines_of}
use Rattle.certificates.specs.declared.proof.Claim.{Claim}
use Rattle.certificates.specs.declared.proof.Claim.TheVariants.{Value, Infeasible}
use Rattle.certificates.specs.declared.proof.ProofNode.{ProofNode}
use Rattle.certificates.specs.declared.proof.ProofNode.TheVariants.{Split, Duals, Weights}
use Rattle.certificates.specs.Proofs.{IsAlone, Pair, ProofTree, ProofValue, split, duals, weights, claim_value, nodes_of, pairs_of, announced_pairs}
use Rattle.branch_proof.specs.Reader.{IsProofText}
use Rattle.branch_proof.specs.Rows.{claim_in, proof_node_in, proof_pair_in}
use Rattle.certificate_text.specs.TextRows.{TextRow, rows_in}
use Rattle.certificates.specs.Setting.{IsProofFor, IsTreeFor, Setting}
use Rattle.branch_proof.specs.Standing.{IsSaid, ProofStanding, is_leaf, is_split, pairs_left, proof_standing, subtrees_left}
use Rattle.branch_proof.specs.InsideReader.{AreAwaited}
use Rattle.branch_proof.proofs.Counted.{node_awaited, none_awaited, pair_awaited}
use Rattle.branch_proof.proofs.Runs.{FitsNode, IsRun, MayStand, Piece, Runs, as_claim, as_node, as_pair, begun_only, claim_row, node_row, pair_row, text_runs}
use Rattle.std.proofs.lemmas.List.{nil_from_length}

-- ---- what the pieces that are left give

AreTrees : Setting → Claim → List ProofTree → Type 0
AreTrees s c [] = Unit {0}
AreTrees s c (tree ∷ trees) = IsTreeFor s tree × IsAlone c tree × AreTrees s c trees

-- after the claim c
abbrev claimed : Claim → List ProofNode → List Pair → ProofStanding
claimed c nodes pairs = record { begun = true; claim = Some c; nodes = nodes; pairs = pairs }

-- they come
record Grows (s : Setting) (c : Claim) (nodes : List ProofNode) (subtrees left : ℕ) (ps : List Piece) : Type 0 where
  own : List Pair
  trees : List ProofTree
  own_count : length own ≡ left
  tree_count : length trees ≡ subtrees
  within : All (λ (p : Pair). p.0 < s.rows) own
  fine : AreTrees s c trees
  nodes_are : filter_map as_node ps ≡ flat_map nodes_of trees
  pairs_are : filter_map as_pair ps ≡ own ++ flat_map pairs_of trees
  few_nodes : length nodes + length (filter_map as_node ps) ≤ 2 ^ 16
  no_claim : filter_map as_claim ps ≡ []

-- these pieces go on from every standing after the claim
abbrev GoOn : Setting → Claim → List Piece → Type 0
GoOn s c ps = (nodes : List ProofNode) (pairs : List Pair) (subtrees left : ℕ) → AreAwaited nodes pairs subtrees left
    → length nodes ≤ 2 ^ 16 → IsRun s (claimed c nodes pairs) ps → Grows s c nodes subtrees left ps

-- the counts that are awaited, by the tests
none_left : (n m k : ℕ) → n + m ≡ k → k - m ≡ 0 → n ≡ 0
none_left n m k e z = omega (arith, e, z)

some_left : (n m k : ℕ) → n + m ≡ k → 0 < k - m → 0 < n
some_left n m k e z = omega (arith, e, z)

end_grows : (s : Setting) (c : Claim) → GoOn s c []
unfolding IsRun AreTrees
end_grows s c nodes pairs subtrees left h few run =
    let st = claimed c nodes pairs in
    let whole = and_parts (pairs_left st == 0) (subtrees_left st == 0) run in
    record {
      own = [];
      trees = [];
      own_count = sym (none_left left (length pairs) (sum_by announced_pairs nodes) h.left_are (eqb-true (pairs_left st) 0 whole.0));
      tree_count = sym (none_left subtrees (count_by is_leaf nodes) (1 + count_by is_split nodes) h.subtrees_are (eqb-true (subtrees_left st) 0 whole.1));
      within = λ k d lt. absurd (omega (arith, lt));
      fine = tt;
      nodes_are = refl;
      pairs_are = refl;
      few_nodes = omega (arith, few);
      no_claim = refl;
    }

-- ---- a pair

pair_first : (s : Setting) (c : Claim) (p : Pair) (ps : List Piece) (nodes : List ProofNode) (subtrees left : ℕ)
    → 0 < left → p.0 < s.rows → Grows s c nodes subtrees (left - 1) ps → Grows s c nodes subtrees left (pair_row p ∷ ps)
pair_first s c p ps nodes subtrees left some below g =
    record {
      own = p ∷ g.own;
      trees = g.trees;
      own_count = (let n = g.own_count in omega (arith, n, some));
      tree_count = g.tree_count;
      within = All-cons (λ (q : Pair). q.0 < s.rows) p g.own below g.within;
      fine = g.fine;
      nodes_are = g.nodes_are;
      pairs_are = ap (λ l. p ∷ l) g.pairs_are;
      few_nodes = g.few_nodes;
      no_claim = g.no_claim;
    }

pair_grows : (s : Setting) (c : Claim) (p : Pair) (ps : List Piece) → GoOn s c ps → GoOn s c (pair_row p ∷ ps)
unfolding IsRun
pair_grows s c p ps next nodes pairs subtrees left h few run =
    let some = some_left left (length pairs) (sum_by announced_pairs nodes) h.left_are run.0.1 in
    pair_first s c p ps nodes subtrees left some run.0.2 (next nodes (pairs ++ p ∷ []) subtrees (left - 1) (pair_awaited nodes pairs subtrees left (left - 1) p h (omega (arith, some))) few run.1)

-- ---- a node

split_alone : (c : Claim) (j : ℕ) (t : ℤ) (low high : ProofTree) → MayStand (Some c) (Split j t) → IsAlone c (split j t low high)
split_alone (Value k d) j t low high h = tt
split_alone Infeasible j t low high h = absurd cc

duals_alone : (c : Claim) (n : ℕ) (ps : List Pair) → MayStand (Some c) (Duals n) → IsAlone c (duals ps)
duals_alone (Value k d) n ps h = tt
duals_alone Infeasible n ps h = absurd cc

weights_alone : (c : Claim) (ps : List Pair) → IsAlone c (weights ps)
weights_alone (Value k d) ps = tt
weights_alone Infeasible ps = tt

longer : (nodes : List ProofNode) (node : ProofNode) → length nodes < 2 ^ 16 → length (nodes ++ node ∷ []) ≤ 2 ^ 16
longer nodes node lt = omega (arith, length-append nodes (node ∷ []), lt)

-- a leaf takes the pairs that come first
leaf_grows : (s : Setting) (c : Claim) (nodes : List ProofNode) (subtrees n : ℕ) (node : ProofNode) (ps : List Piece) → 0 < subtrees
    → (tree : List Pair → ProofTree) → ((own : List Pair) → length own ≡ n → nodes_of (tree own) ≡ node ∷ []) → ((own : List Pair) → pairs_of (tree own) ≡ own)
    → ((own : List Pair) → All (λ (p : Pair). p.0 < s.rows) own → IsTreeFor s (tree own)) → ((own : List Pair) → IsAlone c (tree own))
    → Grows s c (nodes ++ node ∷ []) (subtrees - 1) n ps → Grows s c nodes subtrees 0 (node_row node ∷ ps)
unfolding AreTrees
leaf_grows s c nodes subtrees n node ps some tree its_nodes its_pairs its_tree its_alone g =
    record {
      own = [];
      trees = tree g.own ∷ g.trees;
      own_count = refl;
      tree_count = (let m = g.tree_count in omega (arith, m, some));
      within = λ k d lt. absurd (omega (arith, lt));
      fine = (its_tree g.own g.within, its_alone g.own, g.fine);
      nodes_are = ap (λ l. node ∷ l) g.nodes_are ∙ ap (λ l. l ++ flat_map nodes_of g.trees) (sym (its_nodes g.own g.own_count));
      pairs_are = g.pairs_are ∙ ap (λ l. l ++ flat_map pairs_of g.trees) (sym (its_pairs g.own));
      few_nodes = (let few = g.few_nodes in omega (arith, few, length-append nodes (node ∷ [])));
      no_claim = g.no_claim;
    }

-- a split joins the first two subtrees that come
split_grows : (s : Setting) (c : Claim) (nodes : List ProofNode) (subtrees : ℕ) (j : ℕ) (t : ℤ) (ps : List Piece) → 0 < subtrees → FitsNode s (Split j t) → MayStand (Some c) (Split j t)
    → (g : Grows s c (nodes ++ Split j t ∷ []) (suc subtrees) 0 ps) → (trees : List ProofTree) → g.trees ≡ trees → Grows s c nodes subtrees 0 (node_row (Split j t) ∷ ps)
unfolding AreTrees nodes_of pairs_of IsTreeFor
split_grows s c nodes subtrees j t ps some fit may g [] e = absurd (let n = g.tree_count in let m = ap (λ (l : List ProofTree). length l) e in omega (arith, n, m))
split_grows s c nodes subtrees j t ps some fit may g (low ∷ []) e = absurd (let n = g.tree_count in let m = ap (λ (l : List ProofTree). length l) e in omega (arith, n, m, some))
split_grows s c nodes subtrees j t ps some fit may g (low ∷ high ∷ rest) e =
    let fine : AreTrees s c (low ∷ high ∷ rest) = subst (AreTrees s c) e g.fine in
    let none : g.own ≡ [] = nil_from_length g.own g.own_count in
    record {
      own = [];
      trees = split j t low high ∷ rest;
      own_count = refl;
      tree_count = (let n = g.tree_count in let m = ap (λ (l : List ProofTree). length l) e in omega (arith, n, m));
      within = λ k d lt. absurd (omega (arith, lt));
      fine = ((fit, fine.0, fine.2.0), split_alone c j t low high may, fine.2.2);
      nodes_are = ap (λ l. Split j t ∷ l) (g.nodes_are ∙ ap (flat_map nodes_of) e ∙ sym (append_assoc (nodes_of low) (nodes_of high) (flat_map nodes_of rest)));
      pairs_are = g.pairs_are ∙ ap₂ (λ own ts. own ++ flat_map pairs_of ts) none e ∙ sym (append_assoc (pairs_of low) (pairs_of high) (flat_map pairs_of rest));
      few_nodes = (let few = g.few_nodes in omega (arith, few, length-append nodes (Split j t ∷ [])));
      no_claim = g.no_claim;
    }

node_by : (s : Setting) (c : Claim) (n : ProofNode) (ps : List Piece) → GoOn s c ps
    → (nodes : List ProofNode) (pairs : List Pair) (subtrees left : ℕ) → AreAwaited nodes pairs subtrees left → left ≡ 0
    → 0 < subtrees
    → length nodes < 2 ^ 16 → FitsNode s n → MayStand (Some c) n → IsRun s (claimed c (nodes ++ n ∷ []) pairs) ps → Grows s c nodes subtrees 0 (node_row n ∷ ps)
unfolding nodes_of pairs_of IsTreeFor
node_by s c (Split j t) ps next nodes pairs subtrees left h none some few fit may run =
    let g = next (nodes ++ Split j t ∷ []) pairs (suc subtrees) 0 (node_awaited nodes pairs subtrees left (suc subtrees) (Split j t) h none (omega arith)) (longer nodes (Split j t) few) run in
    split_grows s c nodes subtrees j t ps some fit may g g.trees refl
node_by s c (Duals n) ps next nodes pairs subtrees left h none some few fit may run =
    let g = next (nodes ++ Duals n ∷ []) pairs (subtrees - 1) n (node_awaited nodes pairs subtrees left (subtrees - 1) (Duals n) h none (omega (arith, some))) (longer nodes (Duals n) few) run in
    leaf_grows s c nodes subtrees n (Duals n) ps some (λ own. duals own) (λ own e. ap (λ m. Duals m ∷ []) e) (λ own. refl) (λ own h. h) (λ own. duals_alone c n own may) g
node_by s c (Weights n) ps next nodes pairs subtrees left h none some few fit may run =
    let g = next (nodes ++ Weights n ∷ []) pairs (subtrees - 1) n (node_awaited nodes pairs subtrees left (subtrees - 1) (Weights n) h none (omega (arith, some))) (longer nodes (Weights n) few) run in
    leaf_grows s c nodes subtrees n (Weights n) ps some (λ own. weights own) (λ own e. ap (λ m. Weights m ∷ []) e) (λ own. refl) (λ own h. h) (λ own. weights_alone c own) g

node_grows : (s : Setting) (c : Claim) (n : ProofNode) (ps : List Piece) → GoOn s c ps → GoOn s c (node_row n ∷ ps)
unfolding IsRun
node_grows s c n ps next nodes pairs subtrees left h few run =
    let none = none_left left (length pairs) (sum_by announced_pairs nodes) h.left_are run.0.1 in
    let some = some_left subtrees (count_by is_leaf nodes) (1 + count_by is_split nodes) h.subtrees_are run.0.2 in
    subst (λ k. Grows s c nodes subtrees k (node_row n ∷ ps)) (sym none) (node_by s c n ps next nodes pairs subtrees left h none some run.0.3 run.0.4 run.0.5 run.1)

grows : (s : Setting) (c : Claim) (ps : List Piece) → GoOn s c ps
unfolding IsRun
grows s c [] = end_grows s c
grows s c (claim_row d ∷ ps) = λ nodes pairs subtrees left h few run. absurd (let there = run.0.0 in cc)
grows s c (node_row n ∷ ps) = node_grows s c n ps (grows s c ps)
grows s c (pair_row p ∷ ps) = pair_grows s c p ps (grows s c ps)

-- ---- the claim

tree_ends : (s : Setting) (c : Claim) (rows : List TextRow) (ps : List Piece) (p : ProofValue)
    → fits (claim_value c) ≡ true → filter_map claim_in rows ≡ c ∷ filter_map as_claim ps
    → filter_map proof_node_in rows ≡ filter_map as_node ps
    → filter_map proof_pair_in rows ≡ filter_map as_pair ps → (g : Grows s c [] 1 0 ps) → (trees : List ProofTree) → g.trees ≡ trees → IsSaid (proof_standing rows) p → IsProofFor s p
unfolding AreTrees
tree_ends s c rows ps p fit claims nodes pairs g [] e said = absurd (let n = g.tree_count in let m = ap (λ (l : List ProofTree). length l) e in omega (arith, n, m))
tree_ends s c rows ps p fit claims nodes pairs g (tree ∷ other ∷ rest) e said = absurd (let n = g.tree_count in let m = ap (λ (l : List ProofTree). length l) e in omega (arith, n, m))
tree_ends s c rows ps p fit claims nodes pairs g (tree ∷ []) e said =
    let fine : AreTrees s c (tree ∷ []) = subst (AreTrees s c) e g.fine in
    let same : c ≡ p.claim = (let a = ap (λ cs. slice_get cs 0) claims in let b = said.claim in cc) in
    let none : g.own ≡ [] = nil_from_length g.own g.own_count in
    record {
      tree = tree;
      nodes = sym (said.nodes ∙ nodes ∙ g.nodes_are ∙ ap (flat_map nodes_of) e ∙ append-nil (nodes_of tree));
      pairs = sym (said.pairs ∙ pairs ∙ g.pairs_are ∙ ap₂ (λ own ts. own ++ flat_map pairs_of ts) none e ∙ append-nil (pairs_of tree));
      fine = fine.0;
      alone = subst (λ (d : Claim). IsAlone d tree) same fine.1;
      value = subst (λ (d : Claim). fits (claim_value d) ≡ true) same fit;
      few = (let few = g.few_nodes in let are = ap length (said.nodes ∙ nodes) in omega (arith, few, are));
    }

runs_end : (s : Setting) (rows : List TextRow) (p : ProofValue) (r : Runs s begun_only rows) (ps : List Piece) → r.pieces ≡ ps → IsSaid (proof_standing rows) p → IsProofFor s p
unfolding IsRun
runs_end s rows p r [] e said = absurd (let run = subst (IsRun s begun_only) e r.run in cc)
runs_end s rows p r (claim_row c ∷ ps) e said =
    let run = subst (IsRun s begun_only) e r.run in
    let g = grows s c ps [] [] 1 0 none_awaited (omega arith) run.1 in
    tree_ends s c rows ps p run.0.1 (r.claims ∙ ap (filter_map as_claim) e) (r.nodes ∙ ap (filter_map as_node) e) (r.pairs ∙ ap (filter_map as_pair) e) g g.trees refl said
runs_end s rows p r (q ∷ ps) e said = absurd (let there = (subst (IsRun s begun_only) e r.run).0.0 in cc)

pub text_is_proof : (s : Setting) (text : List ℕ) (p : ProofValue) → IsProofText s text p → IsProofFor s p
text_is_proof s text p h = (let runs = text_runs s text h.clean in runs_end s (rows_in (lines_of text)) p runs runs.pieces refl h.said)
