-- Each node, term and head of a file has its line, where all pieces are complete.
use Rattle.std.proofs.Common.{◌≡◌, ◌∙◌, ℕ, zero, suc, ◌+◌, ◌<◌, ◌≤◌, Bool, true, false, not, ◌&&◌, ◌||◌, ◌==◌, List, []}
use Rattle.std.proofs.Common.{◌∷◌, ◌++◌, length, drop, get_or, slice_set, refl, sym, arith, Option, Some, None, is_some}
use Rattle.std.specs.Prelude.{All, IfSome, IsSome, IsSomeAnd, slice_get}
use Rattle.std.specs.Option.{option_map_or}
use Rattle.std.proofs.lemmas.List.{get_or-set_other, length-set}
use Rattle.std.proofs.lemmas.Grind.{get_or-set_at}
use Rattle.std.proofs.lemmas.Bool.{eqb-true, eqb-false}
use Rattle.std.proofs.lemmas.Option.{slice_get-get_or}
use Rattle.nl_model.specs.Trees.{Tree, tree_size, trees_size, first_trees}
use Rattle.nl_model.specs.declared.node.Node.{Node}
use Rattle.nl_model.specs.declared.node.Node.TheVariants.{Num, Var, Defined, Op}
use Rattle.nl_model.specs.Nodes.{tree_of, trees_of}
use Rattle.nl_model.specs.File.{Term}
use Rattle.nl_model.specs.declared.definition.Def.{Def as Definition}
use Rattle.nl_lines.specs.Saying.{OwnerLines, no_lines, changed}

-- ---- nodes

sizes : List Tree → ℕ
sizes [] = 0
sizes (t ∷ ts) = tree_size t + sizes ts

operands_size : (k : ℕ) (ts : List Tree) → trees_size (first_trees k ts) + sizes (drop k ts) ≤ sizes ts
unfolding sizes
operands_size zero ts = omega arith
operands_size (suc k) [] = omega arith
operands_size (suc k) (t ∷ ts) = let more = operands_size k ts in omega arith

nodes_size : (ns : List Node) → sizes (trees_of ns) ≤ length ns
unfolding sizes
nodes_size [] = omega arith
nodes_size (Num d ∷ ns) = let more = nodes_size ns in omega arith
nodes_size (Var j ∷ ns) = let more = nodes_size ns in omega arith
nodes_size (Defined i ∷ ns) = let more = nodes_size ns in omega arith
nodes_size (Op o k ∷ ns) = let more = nodes_size ns in let here = operands_size k (trees_of ns) in omega arith

-- a tree has no more nodes than it was read from
pub tree_nodes : (n : Node) (ns : List Node) → tree_size (tree_of (n ∷ ns)) ≤ length (n ∷ ns)
unfolding sizes
tree_nodes (Num d) ns = omega arith
tree_nodes (Var j) ns = omega arith
tree_nodes (Defined i) ns = omega arith
tree_nodes (Op o k) ns = let all = nodes_size (Op o k ∷ ns) in omega arith

-- ---- one owner

-- each of its lines is such a one
pub record AreLines (P : ℕ → Type 0) (o : OwnerLines) : Type 0 where
  pub head : IfSome o.head P
  pub nodes : All P o.nodes
  pub terms : All P o.terms

-- it has as many lines as nodes and terms, and a line of its head where it has one
pub record IsLined (P : ℕ → Type 0) (both : Bool) (tree : Option Tree) (ts : List Term) (o : OwnerLines) : Type 0 where
  pub nodes : option_map_or tree_size tree 0 ≤ length o.nodes
  pub terms : length ts ≤ length o.terms
  pub head : (is_some tree || (both && not (length ts == 0))) ≡ true → IsSome o.head
  pub lines : AreLines P o

-- ---- owners by index

pub record AllLined (P : ℕ → Type 0) (both : Bool) {A : Type 0} (tree : Option A → Option Tree) (xs : List (Option A)) (rows : List (List Term)) (os : List OwnerLines) : Type 0 where
  pub trees : length xs ≡ length os
  pub rows_count : length rows ≡ length os
  pub each : (j : ℕ) → IsLined P both (tree (get_or xs j None)) (get_or rows j []) (get_or os j no_lines)

pub with_tree_at : {A : Type 0} (P : ℕ → Type 0) (both : Bool) (tree : Option A → Option Tree) (xs : List (Option A))
    (rows : List (List Term)) (os : List OwnerLines) (i : ℕ) (x : Option A) (f : OwnerLines → OwnerLines) → i < length os
    → ((ts : List Term) (o : OwnerLines) → IsLined P both (tree (get_or xs i None)) ts o → IsLined P both (tree x) ts (f o))
    → AllLined P both tree xs rows os → AllLined P both tree (slice_set xs i x) rows (changed f os i)
with_tree_at P both tree xs rows os i x f lt step h =
    record {
      trees = length-set xs i x ∙ h.trees ∙ sym (length-set os i (f (get_or os i no_lines)));
      rows_count = h.rows_count ∙ sym (length-set os i (f (get_or os i no_lines)));
      each = λ j. by j (j == i) refl;
    }
  where
    by : (j : ℕ) (t : Bool) → (j == i) ≡ t → IsLined P both (tree (get_or (slice_set xs i x) j None)) (get_or rows j []) (get_or (changed f os i) j no_lines)
    by j true e =
        let same : j ≡ i = eqb-true j i e in
        let there : i < length xs = omega (arith, h.trees) in
        rw (same, get_or-set_at xs i i x None refl there, get_or-set_at os i i (f (get_or os i no_lines)) no_lines refl lt) (step (get_or rows i []) (get_or os i no_lines) (h.each i))
    by j false e = rw (get_or-set_other xs i j x None (eqb-false j i e), get_or-set_other os i j (f (get_or os i no_lines)) no_lines (eqb-false j i e)) (h.each j)

pub with_row_at : {A : Type 0} (P : ℕ → Type 0) (both : Bool) (tree : Option A → Option Tree) (xs : List (Option A))
    (rows : List (List Term)) (os : List OwnerLines) (i : ℕ) (ts : List Term) (f : OwnerLines → OwnerLines)
    → i < length os
    → ((t : Option Tree) (o : OwnerLines) → IsLined P both t (get_or rows i []) o → IsLined P both t ts (f o))
    → AllLined P both tree xs rows os → AllLined P both tree xs (slice_set rows i ts) (changed f os i)
with_row_at P both tree xs rows os i ts f lt step h =
    record {
      trees = h.trees ∙ sym (length-set os i (f (get_or os i no_lines)));
      rows_count = length-set rows i ts ∙ h.rows_count ∙ sym (length-set os i (f (get_or os i no_lines)));
      each = λ j. by j (j == i) refl;
    }
  where
    by : (j : ℕ) (t : Bool) → (j == i) ≡ t → IsLined P both (tree (get_or xs j None)) (get_or (slice_set rows i ts) j []) (get_or (changed f os i) j no_lines)
    by j true e =
        let same : j ≡ i = eqb-true j i e in
        let there : i < length rows = omega (arith, h.rows_count) in
        rw (same, get_or-set_at rows i i ts [] refl there, get_or-set_at os i i (f (get_or os i no_lines)) no_lines refl lt) (step (tree (get_or xs i None)) (get_or os i no_lines) (h.each i))
    by j false e = rw (get_or-set_other rows i j ts [] (eqb-false j i e), get_or-set_other os i j (f (get_or os i no_lines)) no_lines (eqb-false j i e)) (h.each j)

-- ---- defined variables in order

abbrev pub AreDefs : (ℕ → Type 0) → List Definition → List OwnerLines → Type 0
AreDefs P [] [] = Unit {0}
AreDefs P [] (o ∷ os) = ⊥
AreDefs P (d ∷ ds) [] = ⊥
AreDefs P (d ∷ ds) (o ∷ os) = IsLined P true (Some d.tree) d.terms o × AreDefs P ds os

pub defs_push : (P : ℕ → Type 0) (ds : List Definition) (os : List OwnerLines) (d : Definition) (o : OwnerLines)
    → AreDefs P ds os → IsLined P true (Some d.tree) d.terms o → AreDefs P (ds ++ d ∷ []) (os ++ o ∷ [])
defs_push P [] [] d o h new = (new, tt)
defs_push P [] (p ∷ os) d o h new = absurd h
defs_push P (e ∷ ds) [] d o h new = absurd h
defs_push P (e ∷ ds) (p ∷ os) d o h new = (h.0, defs_push P ds os d o h.1 new)

-- ---- the places of one owner

there : (P : ℕ → Type 0) (xs : List ℕ) (i : ℕ) → All P xs → i < length xs → IsSomeAnd (slice_get xs i) P
there P xs i h lt = rw (slice_get-get_or xs i 0 lt) (h i 0 lt)

pub node_there : (P : ℕ → Type 0) (both : Bool) (tree : Option Tree) (ts : List Term) (o : OwnerLines) (i : ℕ)
    → IsLined P both tree ts o → i < option_map_or tree_size tree 0 → IsSomeAnd (slice_get o.nodes i) P
node_there P both tree ts o i h lt = there P o.nodes i h.lines.nodes (omega (arith, lt, h.nodes))

pub term_there : (P : ℕ → Type 0) (both : Bool) (tree : Option Tree) (ts : List Term) (o : OwnerLines) (i : ℕ) → IsLined P both tree ts o → i < length ts → IsSomeAnd (slice_get o.terms i) P
term_there P both tree ts o i h lt = there P o.terms i h.lines.terms (omega (arith, lt, h.terms))
