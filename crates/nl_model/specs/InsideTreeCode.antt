-- The code of trees, by which proofs tell them apart: a tag, and the codes of the parts.
use Rattle.std.specs.Prelude.{◌≡◌, ℕ}
use Rattle.std.proofs.Common.{ap}
use base.Stored.{Gv, gnil, gnum, gcons, num, Coded, coded_ℤ}
use Rattle.code_tables.specs.contracts.class.OpClass.{the_row as class_row}
use Rattle.nl_model.specs.Trees.{Tree, number, variable, defined, operator, Trees, none, more}

mutual
  pub code_tree : Tree → Gv
  code_tree (number m e) = gcons (gnum 0) (gcons (coded_ℤ.code m) (coded_ℤ.code e))
  code_tree (variable j) = gcons (gnum 1) (gnum j)
  code_tree (defined i) = gcons (gnum 2) (gnum i)
  code_tree (operator c ts) = gcons (gnum 3) (gcons (class_row.coded.code c) (code_trees ts))

  pub code_trees : Trees → Gv
  code_trees none = gnil
  code_trees (more t ts) = gcons (code_tree t) (code_trees ts)

abbrev front : Gv → Gv
front gnil = gnil
front (gnum n) = gnil
front (gcons a b) = a

abbrev back : Gv → Gv
back gnil = gnil
back (gnum n) = gnil
back (gcons a b) = b

abbrev is_pair : Gv → ℕ
is_pair gnil = 0
is_pair (gnum n) = 0
is_pair (gcons a b) = 1

-- the tag tells the kinds of nodes apart
abbrev tag : Gv → ℕ
tag g = num (front g)

mutual
  unfolding code_tree code_trees

  pub inj_tree : (s t : Tree) → code_tree s ≡ code_tree t → s ≡ t
  inj_tree (number m e) (number n f) p =
      λ i. number (coded_ℤ.inj m n (ap (λ g. front (back g)) p) i)
      (coded_ℤ.inj e f (ap (λ g. back (back g)) p) i)
  inj_tree (variable j) (variable k) p = ap (λ g. variable (num (back g))) p
  inj_tree (defined j) (defined k) p = ap (λ g. defined (num (back g))) p
  inj_tree (operator c ss) (operator d ts) p =
      λ i. operator (class_row.coded.inj c d (ap (λ g. front (back g)) p) i)
      (inj_trees ss ts (ap (λ g. back (back g)) p) i)
  inj_tree (number m e) (variable k) p = let q = ap tag p in cc
  inj_tree (number m e) (defined k) p = let q = ap tag p in cc
  inj_tree (number m e) (operator d ts) p = let q = ap tag p in cc
  inj_tree (variable j) (number n f) p = let q = ap tag p in cc
  inj_tree (variable j) (defined k) p = let q = ap tag p in cc
  inj_tree (variable j) (operator d ts) p = let q = ap tag p in cc
  inj_tree (defined j) (number n f) p = let q = ap tag p in cc
  inj_tree (defined j) (variable k) p = let q = ap tag p in cc
  inj_tree (defined j) (operator d ts) p = let q = ap tag p in cc
  inj_tree (operator c ss) (number n f) p = let q = ap tag p in cc
  inj_tree (operator c ss) (variable k) p = let q = ap tag p in cc
  inj_tree (operator c ss) (defined k) p = let q = ap tag p in cc

  pub inj_trees : (ss ts : Trees) → code_trees ss ≡ code_trees ts → ss ≡ ts
  inj_trees none none p = λ i. none
  inj_trees (more s ss) (more t ts) p =
      λ i. more (inj_tree s t (ap front p) i) (inj_trees ss ts (ap back p) i)
  inj_trees none (more t ts) p = let q = ap is_pair p in cc
  inj_trees (more s ss) none p = let q = ap is_pair p in cc

abbrev pub tree_code : Coded Tree
tree_code = record { code = code_tree; inj = inj_tree }
