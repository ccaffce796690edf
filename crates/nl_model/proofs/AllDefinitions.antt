-- The tree of a definition with all definitions of a file: those after it change nothing.
use Rattle.std.proofs.Common.{◌≡◌, ℕ, zero, suc, ◌∙◌, sym, ap, ap₂, refl, subst, ⊎_elim, Bool, true, false, ◌==◌}
use Rattle.std.proofs.Common.{if◌then◌else◌, Option, Some, None, List, [], ◌∷◌, ◌++◌, map, take, slice_get, ◌||◌}
use Rattle.std.proofs.Common.{option_and_then, option_map}
use Rattle.std.specs.List.{fold}
use Rattle.std.specs.Option.{option_map_or}
use Rattle.std.proofs.lemmas.Bool.{eqb-true}
use Rattle.std.proofs.lemmas.List.Folds.{list_any-append}
use Rattle.exact_numbers.specs.Rational.{ℚ, ◌+ℚ◌, ◌*ℚ◌}
use Rattle.exact_numbers.specs.Sums.{sum_below}
use Rattle.linear_program.specs.Lines.{line_by, Point}
use Rattle.nl_model.specs.Parts.{IsLinearTree, IsPart, IsPartOfOne}
use Rattle.nl_model.specs.Trees.{Tree, number, variable, defined, operator, Trees, none, more, Known}
use Rattle.nl_model.specs.Trees.{Definition as Meant, applied, rule_of, tree_given, trees_given, expression_given}
use Rattle.nl_model.specs.Trees.{with_definition, tree_value}
use Rattle.nl_model.specs.File.{File}
use Rattle.nl_model.specs.declared.definition.Def.{Def as Definition}
use Rattle.nl_model.specs.HeaderRules.{defined_count}
use Rattle.nl_model.specs.Rules.{is_defined, IsTreeWithin, AreTreesWithin, AreDefinitions, IsFile}
use Rattle.nl_model.specs.Expressions.{definition_of, definitions_of}
use Rattle.nl_model.specs.FoldFaults.{fold_fault}
use Rattle.nl_model.proofs.Folding.{definition_parts_are_linear}
use Rattle.nl_model.proofs.Formed.{file_formed}

-- ---- trees that use only some defined variables
mutual
  same_tree : (n : ℕ) (ds : List Definition) (a b : Known) (at : Point) → ((j : ℕ) → is_defined ds j ≡ true → a j ≡ b j) → (t : Tree) → IsTreeWithin n ds t → tree_given a t at ≡ tree_given b t at
  same_tree n ds a b at same (number m e) w = refl
  same_tree n ds a b at same (variable j) w = refl
  same_tree n ds a b at same (defined i) w = same i w
  same_tree n ds a b at same (operator c ts) w = ap (option_and_then (applied (rule_of c))) (same_trees n ds a b at same ts w)

  same_trees : (n : ℕ) (ds : List Definition) (a b : Known) (at : Point)
      → ((j : ℕ) → is_defined ds j ≡ true → a j ≡ b j) → (ts : Trees) → AreTreesWithin n ds ts
      → trees_given a ts at ≡ trees_given b ts at
  same_trees n ds a b at same none w = refl
  same_trees n ds a b at same (more t ts) w = ap₂ (λ v vs. option_and_then (λ x. option_map (λ xs. x ∷ xs) vs) v) (same_tree n ds a b at same t w.0) (same_trees n ds a b at same ts w.1)

mutual
  part_within : (n : ℕ) (ds : List Definition) (u t : Tree) → IsTreeWithin n ds t → IsPart u t → IsTreeWithin n ds u
  part_within n ds u (number m e) w p = subst (IsTreeWithin n ds) (sym p) w
  part_within n ds u (variable j) w p = subst (IsTreeWithin n ds) (sym p) w
  part_within n ds u (defined i) w p = subst (IsTreeWithin n ds) (sym p) w
  part_within n ds u (operator c ts) w p =
      ⊎_elim (λ (e : u ≡ operator c ts). subst (IsTreeWithin n ds) (sym e) w) (λ (q : IsPartOfOne u ts). part_of_within n ds u ts w q) p

  part_of_within : (n : ℕ) (ds : List Definition) (u : Tree) (ts : Trees) → AreTreesWithin n ds ts → IsPartOfOne u ts → IsTreeWithin n ds u
  part_of_within n ds u none w p = absurd p
  part_of_within n ds u (more t ts) w p =
      ⊎_elim (λ (q : IsPart u t). part_within n ds u t w.0 q) (λ (q : IsPartOfOne u ts). part_of_within n ds u ts w.1 q) p

-- ---- later definitions keep the values of those before
kept_value : (known : Known) (i j : ℕ) (ds : List Definition) (d : Definition) (at : Point)
    → is_defined ds d.index ≡ false → is_defined ds j ≡ true →
    (if j == d.index then expression_given known (definition_of d).expression at else known j) ≡ known j
kept_value known i j ds d at fresh e = by (j == d.index) refl
  where
    by : (b : Bool) → j == d.index ≡ b → (if b then expression_given known (definition_of d).expression at else known j) ≡ known j
    by true same = absurd (let clash : true ≡ false = sym e ∙ ap (is_defined ds) (eqb-true j d.index same) ∙ fresh in cc)
    by false same = refl

later_keep : (n k : ℕ) (before ds : List Definition) → AreDefinitions n k before ds
    → (known : Point → Known) (at : Point) (j : ℕ) → is_defined before j ≡ true
    → fold with_definition known (map definition_of ds) at j ≡ known at j
later_keep n k before [] h known at j e = refl
later_keep n k before (d ∷ ds) h known at j e =
    later_keep n k (before ++ d ∷ []) ds h.1 (with_definition known (definition_of d)) at j
    (list_any-append (λ (x : Definition). x.index == j) before (d ∷ []) ∙ ap (λ b. b || is_defined (d ∷ []) j) e)
    ∙ kept_value (known at) d.index j before d at h.0.fresh e

values_kept : (n k : ℕ) (before ds : List Definition) → AreDefinitions n k before ds
    → (known : Point → Known) (at : Point) (i : ℕ) (d : Meant) → slice_get (map definition_of ds) i ≡ Some d → (u : Tree)
    → IsPart u d.expression.tree → tree_given (fold with_definition known (take i (map definition_of ds)) at) u at
    ≡ tree_given (fold with_definition known (map definition_of ds) at) u at
values_kept n k before [] h known at i d e u p = cc
values_kept n k before (x ∷ ds) h known at zero d e u p =
    let same : definition_of x ≡ d = ap (λ o. option_map_or (λ y. y) o (definition_of x)) e in
    same_tree n before (known at) (fold with_definition known (map definition_of (x ∷ ds)) at) at (λ j f. sym (later_keep n k before (x ∷ ds) h known at j f)) u
    (part_within n before u x.tree h.0.tree.within (subst (λ (y : Meant). IsPart u y.expression.tree) (sym same) p))
values_kept n k before (x ∷ ds) h known at (suc i) d e u p =
    values_kept n k (before ++ x ∷ []) ds h.1 (with_definition known (definition_of x)) at i d e u p

module _ (f : File) (file : IsFile f) (i : ℕ) (d : Meant) (there : slice_get (definitions_of f) i ≡ Some d) (u : Tree) (part : IsPart u d.expression.tree) where
  -- the definitions before it are enough
  pub before_are_enough : (at : Point) → tree_value (take i (definitions_of f)) u at ≡ tree_value (definitions_of f) u at
  before_are_enough at = values_kept f.counts.n_var (defined_count f.counts) [] f.definitions file.definitions (λ x i. None) at i d there u part

  pub all_are_linear : (k : ℕ) → fold_fault f k ≡ None → IsLinearTree f.counts.n_var (definitions_of f) u
  all_are_linear k clean =
      subst (λ (v : Point → Option ℚ). (at : Point) → v at ≡ Some ((line_by v).constant +ℚ sum_below (λ j. (line_by v).coef j *ℚ at j) f.counts.n_var))
      (λ q at. before_are_enough at q)
      (definition_parts_are_linear f k (file_formed f file k) clean i d there u part)
