-- The value of an expression depends only on the variables and the defined variables that it may use.
use Rattle.std.proofs.Common.{◌≡◌, ℕ, ◌<◌, ◌≤◌, ⊎_elim, ◌∙◌, sym, ap, ap₂, refl, arith, Bool, true, false, ◌==◌, if◌then◌else◌, Option, Some, List, [], ◌∷◌, option_and_then, option_map, None}
use Rattle.std.specs.List.{fold}
use Rattle.std.proofs.lemmas.Bool.{eq-eqb}
use Rattle.exact_numbers.specs.Functions.{or_zero}
use Rattle.exact_numbers.specs.Rational.{ℚ, zero_ℚ, ◌+ℚ◌, ◌-ℚ◌, ◌*ℚ◌}
use Rattle.exact_numbers.proofs.RationalLaws.{+ℚ-neg, -ℚ_lem}
use Rattle.exact_numbers.proofs.Adding.{sum_over_nil, sum_over_cons}
use Rattle.nl_model.specs.Faults.{expression_line}
use Rattle.linear_program.specs.Lines.{origin, unit_point, Point}
use Rattle.nl_model.specs.Trees.{Known, Tree, number, variable, defined, operator, Trees, none, more, applied, rule_of}
use Rattle.nl_model.specs.Trees.{tree_given, trees_given, LinearTerm, Expression, Definition, terms_value}
use Rattle.nl_model.specs.Trees.{expression_given, with_definition, known_values, expression_value, IsOneOf, IsFormed}
use Rattle.nl_model.specs.Trees.{AreFormed, AreTermsBelow, IsExpressionFormed, indices_after, indices_of, AreDefined}
use Rattle.linear_program.proofs.LineLemmas.{apart-eqb}

module _ (n : ℕ) (p q : Point) (same : (j : ℕ) → j < n → p j ≡ q j) where
  -- two tables of values agree on the defined variables of `is`
  abbrev Agree : Known → Known → List ℕ → Type 0
  Agree k l is = (i : ℕ) → IsOneOf i is → k i ≡ l i

  mutual
    tree_local : (k l : Known) (is : List ℕ) → Agree k l is → (t : Tree) → IsFormed n is t → tree_given k t p ≡ tree_given l t q
    tree_local k l is agree (number m e) formed = refl
    tree_local k l is agree (variable j) formed = ap Some (same j formed)
    tree_local k l is agree (defined i) formed = agree i formed
    tree_local k l is agree (operator c ts) formed = ap (option_and_then (applied (rule_of c))) (trees_local k l is agree ts formed.1)

    trees_local : (k l : Known) (is : List ℕ) → Agree k l is → (ts : Trees) → AreFormed n is ts → trees_given k ts p ≡ trees_given l ts q
    trees_local k l is agree none formed = refl
    trees_local k l is agree (more t ts) formed = ap₂ (λ v vs. option_and_then (λ x. option_map (λ xs. x ∷ xs) vs) v) (tree_local k l is agree t formed.0) (trees_local k l is agree ts formed.1)

  terms_local : (ts : List LinearTerm) → AreTermsBelow n ts → terms_value ts p ≡ terms_value ts q
  terms_local [] below = sum_over_nil (λ u. u.factor *ℚ p u.variable) ∙ sym (sum_over_nil (λ u. u.factor *ℚ q u.variable))
  terms_local (t ∷ ts) below =
      sum_over_cons (λ u. u.factor *ℚ p u.variable) t ts
      ∙ ap₂ (λ a b. t.factor *ℚ a +ℚ b) (same t.variable below.0) (terms_local ts below.1)
      ∙ sym (sum_over_cons (λ u. u.factor *ℚ q u.variable) t ts)

  expression_local : (k l : Known) (is : List ℕ) → Agree k l is → (x : Expression) → IsExpressionFormed n is x → expression_given k x p ≡ expression_given l x q
  expression_local k l is agree x formed =
      ap₂ (λ v s. option_map (λ w. w +ℚ s) v) (tree_local k l is agree x.tree formed.tree) (terms_local x.terms formed.terms)

  with_local : (k l : Known) (is : List ℕ) → Agree k l is → (i : ℕ) (v w : Option ℚ) → v ≡ w → Agree (λ x. if x == i then v else k x) (λ x. if x == i then w else l x) (i ∷ is)
  with_local k l is agree i v w e m among = by (m == i) refl
    where
      by : (b : Bool) → m == i ≡ b → (if b then v else k m) ≡ (if b then w else l m)
      by true g = e
      by false g = agree m (⊎_elim (λ (h : m ≡ i). absurd (let clash : true ≡ false = sym (eq-eqb m i h) ∙ g in cc)) (λ (r : IsOneOf m is). r) among)

  values_local : (k l : Point → Known) (is : List ℕ) → Agree (k p) (l q) is → (ds : List Definition)
      → AreDefined n is ds → Agree (fold with_definition k ds p) (fold with_definition l ds q) (indices_after is ds)
  values_local k l is agree [] formed = agree
  values_local k l is agree (d ∷ ds) formed =
      values_local (with_definition k d) (with_definition l d) (d.index ∷ is)
      (with_local (k p) (l q) is agree d.index (expression_given (k p) d.expression p) (expression_given (l q) d.expression q) (expression_local (k p) (l q) is agree d.expression formed.0))
      ds formed.1

  -- points that agree on the variables give an expression one value
  pub val_local : (ds : List Definition) → AreDefined n [] ds → (x : Expression) → IsExpressionFormed n (indices_of ds) x → expression_value ds x p ≡ expression_value ds x q
  val_local ds above x formed = expression_local (known_values ds p) (known_values ds q) (indices_of ds) (values_local (λ at i. None) (λ at i. None) [] (λ i among. refl) ds above) x formed

-- no coefficient at or beyond the number of variables
pub no_coefficient_beyond : (n : ℕ) (ds : List Definition) → AreDefined n [] ds → (x : Expression) → IsExpressionFormed n (indices_of ds) x → (j : ℕ) → n ≤ j → (expression_line ds x).coef j ≡ zero_ℚ
no_coefficient_beyond n ds above x formed j g =
    ap (λ v. or_zero v -ℚ or_zero (expression_value ds x origin)) (val_local n (unit_point j) origin (λ i l. apart-eqb i j (omega arith)) ds above x formed)
    ∙ -ℚ_lem (or_zero (expression_value ds x origin)) (or_zero (expression_value ds x origin))
    ∙ +ℚ-neg (or_zero (expression_value ds x origin))
