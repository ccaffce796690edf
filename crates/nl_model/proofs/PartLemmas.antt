-- Each part of a tree without a fault is linear.
use Rattle.std.proofs.Common.{◌≡◌, ⊎_elim, ℕ, zero, suc, ◌+◌, sym, ap, subst, Some, None, List, [], ◌∷◌, slice_get, take}
use Rattle.std.specs.List.{fold}
use Rattle.std.specs.Option.{option_map_or}
use Rattle.nl_model.specs.Faults.{tree_line, line_with_terms, tree_fault, trees_fault, definitions_fault, first_fault}
use Rattle.nl_model.specs.Parts.{IsPart, IsPartOfOne, IsLinearTree}
use Rattle.nl_model.specs.Trees.{Tree, number, variable, defined, operator, Trees, none, more, Known, with_definition}
use Rattle.nl_model.specs.Trees.{Definition, expression_given, known_values, tree_given, tree_size, IsFormed, AreFormed}
use Rattle.nl_model.specs.Trees.{indices_of, AreDefined}
use Rattle.linear_program.specs.Lines.{Point}
use Rattle.exact_numbers.proofs.Tests.{option_or-none}
use Rattle.nl_model.proofs.Linear.{AreLinear, HasValues, tree_linear, expression_linear, more_linear, known_linear}

-- a tree has the values of its line
abbrev HasLine : ℕ → (Point → Known) → Tree → Type 0
HasLine n known t = HasValues n (λ at. tree_given (known at) t at) (tree_line known t)

mutual
  pub part_linear : (n : ℕ) (known : Point → Known) (is : List ℕ) (linear : AreLinear n known is) (i : ℕ) (t : Tree)
      → IsFormed n is t → tree_fault known n i t ≡ None → (u : Tree) → IsPart u t → HasLine n known u
  part_linear n known is linear i (number m e) formed clean u part = subst (HasLine n known) (sym part) (tree_linear n known is linear i (number m e) formed clean)
  part_linear n known is linear i (variable j) formed clean u part = subst (HasLine n known) (sym part) (tree_linear n known is linear i (variable j) formed clean)
  part_linear n known is linear i (defined k) formed clean u part = subst (HasLine n known) (sym part) (tree_linear n known is linear i (defined k) formed clean)
  part_linear n known is linear i (operator c ts) formed clean u part =
      ⊎_elim (λ (same : u ≡ operator c ts). subst (HasLine n known) (sym same) (tree_linear n known is linear i (operator c ts) formed clean))
      (λ (below : IsPartOfOne u ts). operand_part_linear n known is linear (i + 1) ts formed.1 (option_or-none _ _ clean).0 u below) part

  operand_part_linear : (n : ℕ) (known : Point → Known) (is : List ℕ) (linear : AreLinear n known is) (i : ℕ)
      (ts : Trees) → AreFormed n is ts → trees_fault known n i ts ≡ None → (u : Tree) → IsPartOfOne u ts
      → HasLine n known u
  operand_part_linear n known is linear i none formed clean u part = absurd part
  operand_part_linear n known is linear i (more t ts) formed clean u part =
      let free = option_or-none _ _ clean in
      ⊎_elim (λ (first : IsPart u t). part_linear n known is linear i t formed.0 free.0 u first)
      (λ (later : IsPartOfOne u ts). operand_part_linear n known is linear (i + tree_size t) ts formed.1 free.1 u later) part

pub parts_where_clean : (n : ℕ) (ds : List Definition) (t : Tree) → AreDefined n [] ds → IsFormed n (indices_of ds) t → first_fault n ds t ≡ None → (u : Tree) → IsPart u t → IsLinearTree n ds u
parts_where_clean n ds t above formed clean =
    let free = option_or-none _ _ clean in
    part_linear n (known_values ds) (indices_of ds) (known_linear n ds above free.0) 0 t formed free.1

-- each part of a definition's tree, which may use the definitions before it
pub definition_parts : (n : ℕ) (known : Point → Known) (is : List ℕ) → AreLinear n known is → (ds : List Definition)
    → AreDefined n is ds → definitions_fault known n ds ≡ None → (i : ℕ) (d : Definition) → slice_get ds i ≡ Some d
    → (u : Tree) → IsPart u d.expression.tree → HasLine n (fold with_definition known (take i ds)) u
definition_parts n known is linear [] formed clean i d e u part = cc
definition_parts n known is linear (x ∷ ds) formed clean zero d e u part =
    let free = option_or-none _ _ clean in
    let same : x ≡ d = ap (λ o. option_map_or (λ y. y) o x) e in
    part_linear n known is linear 0 x.expression.tree formed.0.tree (option_or-none _ _ free.0).0 u (subst (λ y. IsPart u y.expression.tree) (sym same) part)
definition_parts n known is linear (x ∷ ds) formed clean (suc i) d e u part =
    let free = option_or-none _ _ clean in
    definition_parts n (with_definition known x) (x.index ∷ is)
    (more_linear n known is linear x.index (λ at. expression_given (known at) x.expression at)
    (line_with_terms (tree_line known x.expression.tree) x.expression.terms)
    (expression_linear n known is linear x.expression formed.0 free.0))
    ds formed.1 free.1 i d e u part
