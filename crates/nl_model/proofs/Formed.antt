-- What holds of each file gives what the laws ask of it: sides are ordered, indices are in range.
use Rattle.std.proofs.Common.{◌≡◌, ℕ, ◌<◌, ◌≤◌, inl, inr, ⊎_elim, ◌∙◌, sym, subst, true, false, ◌==◌, IsTrue, Option, Some, None, IfSome, List, [], ◌∷◌, ◌++◌, map, length, get_or, All}
use Rattle.std.proofs.lemmas.Bool.{cases_lt, eqb-true, or_cases}
use Rattle.std.proofs.lemmas.List.{get_or_past}
use Rattle.std.proofs.lemmas.List.Elements.{All-head, All-tail}
use Rattle.std.proofs.lemmas.List.Folds.{list_any-append}
use Rattle.exact_numbers.specs.declared.dec.Dec.{Dec}
use Rattle.linear_program.specs.Linear.{AreOrdered}
use Rattle.nl_model.specs.Trees.{Tree, number, variable, defined, operator, Trees, none, more, IsOneOf, IsFormed, AreFormed, AreTermsBelow, IsExpressionFormed, indices_after, indices_of, AreDefined}
use Rattle.nl_model.specs.File.{Term, File}
use Rattle.nl_model.specs.declared.objective.Objective.{Objective}
use Rattle.nl_model.specs.declared.definition.Def.{Def as Definition}
use Rattle.nl_model.specs.HeaderRules.{defined_count}
use Rattle.nl_model.specs.Nodes.{IsTreeFormed, AreTreesFormed}
use Rattle.nl_model.specs.Rules.{is_defined, IsTreeWithin, AreTreesWithin, IsTreeKnown, AreTermsBelow as AreBelow, AreDefinitions, IsFile}
use Rattle.linear_program.specs.Intervals.{AreOrdered as AreSidesOrdered, interval_of, no_sides}
use Rattle.nl_model.specs.Expressions.{linear_terms, definition_of, definitions_of, tree_or_zero}
use Rattle.nl_model.specs.LinearFile.{IsFormedFile}

-- each of the definitions has one of the indices
abbrev AreAmong : List Definition → List ℕ → Type 0
AreAmong ds is = (i : ℕ) → IsTrue (is_defined ds i) → IsOneOf i is

-- ---- trees and terms
mutual
  tree_formed : (n : ℕ) (ds : List Definition) (is : List ℕ) → AreAmong ds is → (t : Tree) → IsTreeFormed t → IsTreeWithin n ds t → IsFormed n is t
  tree_formed n ds is among (number m e) h w = tt
  tree_formed n ds is among (variable j) h w = w
  tree_formed n ds is among (defined i) h w = among i w
  tree_formed n ds is among (operator c ts) h w = (h.0, trees_formed n ds is among ts h.1 w)

  trees_formed : (n : ℕ) (ds : List Definition) (is : List ℕ) → AreAmong ds is → (ts : Trees) → AreTreesFormed ts → AreTreesWithin n ds ts → AreFormed n is ts
  trees_formed n ds is among none h w = tt
  trees_formed n ds is among (more t ts) h w = (tree_formed n ds is among t h.0 w.0, trees_formed n ds is among ts h.1 w.1)

terms_formed : (n : ℕ) (ts : List Term) → AreBelow n ts → AreTermsBelow n (linear_terms ts)
terms_formed n [] h = tt
terms_formed n (t ∷ ts) h = (All-head (λ s. s.0 < n) t ts h, terms_formed n ts (All-tail (λ s. s.0 < n) t ts h))

formed_by : (n : ℕ) (ds : List Definition) (is : List ℕ) → AreAmong ds is → (t : Tree) (ts : List Term)
    → IsTreeKnown n ds t → AreBelow n ts → IsExpressionFormed n is (record { tree = t; terms = linear_terms ts })
formed_by n ds is among t ts h below = record { tree = tree_formed n ds is among t h.formed h.within; terms = terms_formed n ts below }

-- ---- definitions
one_more : (ds : List Definition) (is : List ℕ) → AreAmong ds is → (d : Definition) → AreAmong (ds ++ d ∷ []) (d.index ∷ is)
one_more ds is among d i h =
    ⊎_elim (λ (e : is_defined ds i ≡ true). inr (among i e))
    (λ (e : is_defined (d ∷ []) i ≡ true). ⊎_elim (λ (g : d.index == i ≡ true). inl (sym (eqb-true d.index i g)))
    (λ (g : false ≡ true). absurd (let clash : false ≡ true = g in cc)) (or_cases (d.index == i) false e))
    (or_cases (is_defined ds i) (is_defined (d ∷ []) i) (sym (list_any-append (λ x. x.index == i) ds (d ∷ [])) ∙ h))

definitions_formed : (n k : ℕ) (known : List Definition) (is : List ℕ) → AreAmong known is → (ds : List Definition) → AreDefinitions n k known ds → AreDefined n is (map definition_of ds)
definitions_formed n k known is among [] h = tt
definitions_formed n k known is among (d ∷ ds) h = (
  formed_by n known is among d.tree d.terms h.0.tree h.0.terms,
  definitions_formed n k (known ++ d ∷ []) (d.index ∷ is) (one_more known is among d) ds h.1,
)

kept : (ds : List Definition) (is : List ℕ) (i : ℕ) → IsOneOf i is → IsOneOf i (indices_after is (map definition_of ds))
kept [] is i h = h
kept (d ∷ ds) is i h = kept ds (d.index ∷ is) i (inr h)

all_among : (ds : List Definition) (is : List ℕ) → AreAmong ds (indices_after is (map definition_of ds))
all_among [] is i h = absurd (let clash : false ≡ true = h in cc)
all_among (d ∷ ds) is i h =
    ⊎_elim (λ (g : d.index == i ≡ true). kept ds (d.index ∷ is) i (inl (sym (eqb-true d.index i g))))
    (λ (g : is_defined ds i ≡ true). all_among ds (d.index ∷ is) i g) (or_cases (d.index == i) (is_defined ds i) h)

-- ---- bodies and objectives

body_formed : (n : ℕ) (ds : List Definition) (is : List ℕ) → AreAmong ds is → (b : Option Tree) → IfSome b (IsTreeKnown n ds) → IsFormed n is (tree_or_zero b)
body_formed n ds is among None h = tt
body_formed n ds is among (Some t) h = tree_formed n ds is among t h.formed h.within

-- the terms of a row, none past the last
terms_at : (n : ℕ) (rows : List (List Term)) → All (AreBelow n) rows → (i : ℕ) → AreTermsBelow n (linear_terms (get_or rows i []))
terms_at n rows h i =
    ⊎_elim (λ (l : i < length rows). terms_formed n (get_or rows i []) (h i [] l))
    (λ (g : length rows ≤ i). subst (λ ts. AreTermsBelow n (linear_terms ts)) (sym (get_or_past rows i [] g)) tt) (cases_lt i (length rows))

abbrev no_objective : Objective
no_objective = record { maximise = false; tree = tree_or_zero None }

objective_formed : (n : ℕ) (ds : List Definition) (is : List ℕ) → AreAmong ds is → (os : List Objective)
    → All (λ o. IsTreeKnown n ds o.tree) os → (k : ℕ) → IsFormed n is (get_or os k no_objective).tree
objective_formed n ds is among os h k =
    ⊎_elim (λ (l : k < length os). let r = h k no_objective l in tree_formed n ds is among (get_or os k no_objective).tree r.formed r.within)
    (λ (g : length os ≤ k). subst (λ o. IsFormed n is o.tree) (sym (get_or_past os k no_objective g)) tt) (cases_lt k (length os))

-- ---- sides
sides_ordered : (l u : Option Dec) → AreSidesOrdered l u → AreOrdered (interval_of (record { lo = l; hi = u })).lower (interval_of (record { lo = l; hi = u })).upper
sides_ordered None u h = tt
sides_ordered (Some l) None h = tt
sides_ordered (Some l) (Some u) h = h

pub file_formed : (f : File) → IsFile f → (k : ℕ) → IsFormedFile f k
file_formed f h k =
    let n = f.counts.n_var in
    let is = indices_of (definitions_of f) in
    let among : AreAmong f.definitions is = all_among f.definitions [] in
    record {
      ordered = λ i l. let s = get_or f.sides i no_sides in sides_ordered s.lo s.hi (h.sides i no_sides (subst (λ m. i < m) (sym h.side_count) l));
      definitions = definitions_formed n (defined_count f.counts) [] [] (λ i e. absurd (let clash : false ≡ true = e in cc)) f.definitions h.definitions;
      bodies = λ i l. record {
        tree = body_formed n f.definitions is among (get_or f.bodies i None)
            (h.bodies.known i None (subst (λ m. i < m) (sym h.bodies.count) l));
        terms =
            terms_at n f.terms h.terms.terms_below i;
      };
      objective = record { tree = objective_formed n f.definitions is among f.objectives h.objectives.known k; terms = terms_at n f.slopes h.terms.slopes_below k };
    }
