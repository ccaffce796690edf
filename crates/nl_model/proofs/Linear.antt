-- A tree without a fault is linear: at every point it has the value of its line.
use Rattle.std.proofs.Common.{◌≡◌, ℕ, ◌+◌, ◌<◌, ◌⊎◌, inl, inr, ⊎_elim, ◌∙◌, sym, ap, ap₂, refl, subst, arith, Bool}
use Rattle.std.proofs.Common.{true, false, ◌==◌, Option, Some, None, List, [], ◌∷◌, length, option_and_then, option_map}
use Rattle.std.proofs.Common.{if◌then◌else◌}
use Rattle.std.specs.List.{fold}
use Rattle.std.proofs.lemmas.Bool.{eq-eqb}
use Rattle.code_tables.specs.declared.class.OpClass.{OpClass}
use Rattle.code_tables.specs.declared.class.OpClass.TheVariants.{Sum, Difference, Product, Quotient, Negation, List as SumOfAll, Power, Least, Greatest, Floor, Ceiling, Absolute, Refused}
use Rattle.exact_numbers.specs.Functions.{exponent_of, or_zero, power_of}
use Rattle.exact_numbers.specs.Rational.{ℚ, zero_ℚ, one_ℚ, ◌+ℚ◌, ◌*ℚ◌, inverse_of, quotient_of, decimal_value}
use Rattle.exact_numbers.specs.Sums.{sum_below, sum_of_all}
use Rattle.exact_numbers.proofs.RationalLaws.{+ℚ_assoc, +ℚ_zero, zero-+ℚ, *ℚ_comm, zero-*ℚ, one-*ℚ, -ℚ_lem, quotient_some}
use Rattle.exact_numbers.proofs.Tests.{option_or-none}
use Rattle.exact_numbers.proofs.Adding.{sum_over_nil, sum_over_cons, sum_below_all_zero}
use Rattle.nl_model.specs.declared.fault.Reason.{Reason}
use Rattle.nl_model.specs.declared.fault.Reason.TheVariants.{Nonlinear, DivideByZero}
use Rattle.linear_program.specs.Lines.{Line, line_value, line_values, is_zero, is_constant, are_constant, constants_of, constant_line, running_line, line_sum, line_scaled, line_neg, line_with, Point}
use Rattle.nl_model.specs.Faults.{power_fault, constants_line, operator_line, line_with_terms, operator_fault, fault_at}
use Rattle.nl_model.specs.Faults.{tree_line, trees_lines, tree_fault, trees_fault, expression_fault, definitions_fault}
use Rattle.nl_model.specs.Faults.{first_fault, first_expression_fault, coef, constant_of, expression_line}
use Rattle.nl_model.specs.Trees.{Known, Tree, number, variable, defined, operator, Trees, none, more, applied, rule_of}
use Rattle.nl_model.specs.Trees.{tree_given, trees_given, LinearTerm, Expression, Definition, terms_value}
use Rattle.nl_model.specs.Trees.{expression_given, with_definition, known_values, tree_value, expression_value}
use Rattle.nl_model.specs.Trees.{tree_size, count_of, Takes, IsOneOf, IsFormed, AreFormed, AreTermsBelow}
use Rattle.nl_model.specs.Trees.{IsExpressionFormed, indices_after, indices_of, AreDefined}
use Rattle.linear_program.proofs.LineLemmas.{is_zero-false, line_value-sum, line_value-scaled, line_value-neg, line_value-constant, line_values-constant, line_value-with, line_by_lem}

pub constant_value : (n : ℕ) (k : ℚ) (at : Point) → line_value n (constant_line k) at ≡ k
constant_value n k at = ap (λ s. k +ℚ s) (sum_below_all_zero (λ j. zero_ℚ *ℚ at j) n (λ j h. zero-*ℚ (at j))) ∙ +ℚ_zero k

running_value : (n : ℕ) (at : Point) (a : Line) (ls : List Line) → line_value n a at +ℚ sum_of_all (line_values n at ls) ≡ line_value n (running_line a ls) at
running_value n at a [] = ap (λ s. line_value n a at +ℚ s) (sum_over_nil (λ x. x)) ∙ +ℚ_zero (line_value n a at)
running_value n at a (l ∷ ls) =
    ap (λ s. line_value n a at +ℚ s) (sum_over_cons (λ x. x) (line_value n l at) (line_values n at ls))
    ∙ sym (+ℚ_assoc (line_value n a at) (line_value n l at) (sum_of_all (line_values n at ls)))
    ∙ ap (λ s. s +ℚ sum_of_all (line_values n at ls)) (sym (line_value-sum n at a l))
    ∙ running_value n at (line_sum a l) ls

-- ---- operators
product_sides : (p q : Bool) (r s : Option Reason) → (if p then r else (if q then s else Some Nonlinear)) ≡ None → (p ≡ true) ⊎ (q ≡ true)
product_sides true q r s e = inl refl
product_sides false true r s e = inr refl
product_sides false false r s e = cc

quotient_sides : (p z : Bool) (r : Option Reason) → (if p then (if z then Some DivideByZero else r) else Some Nonlinear) ≡ None → (p ≡ true) × (z ≡ false)
quotient_sides true true r e = cc
quotient_sides true false r e = (refl, refl)
quotient_sides false z r e = cc

-- the operator's line has the operator's values
abbrev HasLine : ℕ → OpClass → List Line → Type 0
HasLine n c ls = (at : Point) → applied (rule_of c) (line_values n at ls) ≡ Some (line_value n (operator_line n c ls) at)

linear_where : (p : Bool) → (if p then None else Some Nonlinear) ≡ None → p ≡ true
linear_where true e = refl
linear_where false e = cc

-- a power without a fault has constant sides and an exponent
power_sides : (p : Bool) (x : ℚ) (k : Option ℕ) → (if p then power_fault x k else Some Nonlinear) ≡ None → (p ≡ true) × (n : ℕ) × (k ≡ Some n)
power_sides true x None e = cc
power_sides true x (Some n) e = (refl, n, refl)
power_sides false x k e = cc

of_constants : (n : ℕ) (c : OpClass) (ls : List Line) → are_constant n ls ≡ true → (v : ℚ)
    → applied (rule_of c) (constants_of ls) ≡ Some v → (at : Point)
    → applied (rule_of c) (line_values n at ls) ≡ Some (line_value n (constants_line c ls) at)
of_constants n c ls e v there at =
    ap (applied (rule_of c)) (line_values-constant n at ls e) ∙ there
    ∙ ap Some (sym (constant_value n (or_zero (applied (rule_of c) (constants_of ls))) at ∙ ap or_zero there))

pub operator_has_line : (n : ℕ) (c : OpClass) (ls : List Line) → Takes (rule_of c) (length ls) → operator_fault n c ls ≡ None → HasLine n c ls
operator_has_line n Sum [] h e = absurd (omega arith)
operator_has_line n Sum (a ∷ []) h e = absurd (omega arith)
operator_has_line n Sum (a ∷ b ∷ []) h e = λ at. ap Some (sym (line_value-sum n at a b))
operator_has_line n Sum (a ∷ b ∷ d ∷ ls) h e = absurd (omega arith)
operator_has_line n Difference [] h e = absurd (omega arith)
operator_has_line n Difference (a ∷ []) h e = absurd (omega arith)
operator_has_line n Difference (a ∷ b ∷ []) h e =
    λ at. ap Some (-ℚ_lem (line_value n a at) (line_value n b at) ∙ ap (λ s. line_value n a at +ℚ s) (sym (line_value-neg n at b)) ∙ sym (line_value-sum n at a (line_neg b)))
operator_has_line n Difference (a ∷ b ∷ d ∷ ls) h e = absurd (omega arith)
operator_has_line n Product [] h e = absurd (omega arith)
operator_has_line n Product (a ∷ []) h e = absurd (omega arith)
operator_has_line n Product (a ∷ b ∷ []) h e = λ at. ap Some (by at (is_constant n a) refl)
  where
    by : (at : Point) (p : Bool) → is_constant n a ≡ p → line_value n a at *ℚ line_value n b at ≡ line_value n (if p then line_scaled a.constant b else line_scaled b.constant a) at
    by at true is = ap (λ s. s *ℚ line_value n b at) (line_value-constant n at a is) ∙ sym (line_value-scaled n at a.constant b)
    by at false is =
        let q : is_constant n b ≡ true = ⊎_elim (λ (t : is_constant n a ≡ true). absurd
        (let clash : true ≡ false = sym t ∙ is in cc)) (λ (t : is_constant n b ≡ true). t)
        (product_sides (is_constant n a) (is_constant n b) _ _ e) in
        ap (λ s. line_value n a at *ℚ s) (line_value-constant n at b q) ∙ *ℚ_comm (line_value n a at) b.constant ∙ sym (line_value-scaled n at b.constant a)
operator_has_line n Product (a ∷ b ∷ d ∷ ls) h e = absurd (omega arith)
operator_has_line n Quotient [] h e = absurd (omega arith)
operator_has_line n Quotient (a ∷ []) h e = absurd (omega arith)
operator_has_line n Quotient (a ∷ b ∷ []) h e =
    let sides = quotient_sides (is_constant n b) (is_zero b.constant) _ e in
    λ at.
    ap (quotient_of (line_value n a at)) (line_value-constant n at b sides.0)
    ∙ quotient_some (line_value n a at) b.constant (is_zero-false b.constant sides.1)
    ∙ ap Some (*ℚ_comm (line_value n a at) (inverse_of b.constant) ∙ sym (line_value-scaled n at (inverse_of b.constant) a))
operator_has_line n Quotient (a ∷ b ∷ d ∷ ls) h e = absurd (omega arith)
operator_has_line n Negation [] h e = absurd (omega arith)
operator_has_line n Negation (a ∷ []) h e = λ at. ap Some (sym (line_value-neg n at a))
operator_has_line n Negation (a ∷ b ∷ ls) h e = absurd (omega arith)
operator_has_line n SumOfAll [] h e = absurd (omega arith)
operator_has_line n SumOfAll (a ∷ ls) h e = λ at. ap Some (sum_over_cons (λ x. x) (line_value n a at) (line_values n at ls) ∙ running_value n at a ls)
operator_has_line n Power [] h e = absurd (omega arith)
operator_has_line n Power (a ∷ []) h e = absurd (omega arith)
operator_has_line n Power (a ∷ b ∷ []) h e =
    let both = power_sides (are_constant n (a ∷ b ∷ [])) a.constant (exponent_of b.constant) e in
    of_constants n Power (a ∷ b ∷ []) both.0 (power_of a.constant both.1) (ap (option_map (power_of a.constant)) both.2)
operator_has_line n Power (a ∷ b ∷ d ∷ ls) h e = absurd (omega arith)
operator_has_line n Least [] h e = absurd (omega arith)
operator_has_line n Least (a ∷ ls) h e = of_constants n Least (a ∷ ls) (linear_where (are_constant n (a ∷ ls)) e) _ refl
operator_has_line n Greatest [] h e = absurd (omega arith)
operator_has_line n Greatest (a ∷ ls) h e = of_constants n Greatest (a ∷ ls) (linear_where (are_constant n (a ∷ ls)) e) _ refl
operator_has_line n Floor [] h e = absurd (omega arith)
operator_has_line n Floor (a ∷ []) h e = of_constants n Floor (a ∷ []) (linear_where (are_constant n (a ∷ [])) e) _ refl
operator_has_line n Floor (a ∷ b ∷ ls) h e = absurd (omega arith)
operator_has_line n Ceiling [] h e = absurd (omega arith)
operator_has_line n Ceiling (a ∷ []) h e = of_constants n Ceiling (a ∷ []) (linear_where (are_constant n (a ∷ [])) e) _ refl
operator_has_line n Ceiling (a ∷ b ∷ ls) h e = absurd (omega arith)
operator_has_line n Absolute [] h e = absurd (omega arith)
operator_has_line n Absolute (a ∷ []) h e = of_constants n Absolute (a ∷ []) (linear_where (are_constant n (a ∷ [])) e) _ refl
operator_has_line n Absolute (a ∷ b ∷ ls) h e = absurd (omega arith)
operator_has_line n Refused ls h e = absurd h

-- ---- trees
fault_at-none : (i : ℕ) (r : Option Reason) → fault_at i r ≡ None → r ≡ None
fault_at-none i None e = refl
fault_at-none i (Some r) e = cc

length-lines : (known : Point → Known) (ts : Trees) → length (trees_lines known ts) ≡ count_of ts
length-lines known none = refl
length-lines known (more t ts) = omega (arith, length-lines known ts)

-- a function of points has the values of a line of n variables
abbrev pub HasValues : ℕ → (Point → Option ℚ) → Line → Type 0
HasValues n f l = (at : Point) → f at ≡ Some (line_value n l at)

-- the defined variables of `is` have the values of lines
abbrev pub AreLinear : ℕ → (Point → Known) → List ℕ → Type 0
AreLinear n known is = (i : ℕ) → IsOneOf i is → (l : Line) × HasValues n (λ at. known at i) l

pub variable_value : (n j : ℕ) (at : Point) → j < n → at j ≡ line_value n (line_with (constant_line zero_ℚ) j one_ℚ) at
variable_value n j at h =
    sym (line_value-with n at (constant_line zero_ℚ) j one_ℚ h ∙ ap₂ ◌+ℚ◌ (constant_value n zero_ℚ at) (one-*ℚ (at j)) ∙ zero-+ℚ (at j))

-- a value and those behind it
pub both_there : (first : Option ℚ) (rest : Option (List ℚ)) (v : ℚ) (vs : List ℚ) → first ≡ Some v → rest ≡ Some vs → option_and_then (λ x. option_map (λ xs. x ∷ xs) rest) first ≡ Some (v ∷ vs)
both_there first rest v vs e f = rw (e, f) refl

mutual
  pub tree_linear : (n : ℕ) (known : Point → Known) (is : List ℕ) (linear : AreLinear n known is) (i : ℕ) (t : Tree)
      → IsFormed n is t → tree_fault known n i t ≡ None → HasValues n (λ at. tree_given (known at) t at)
      (tree_line known t)
  tree_linear n known is linear i (number m e) formed clean =
      line_by_lem n (λ p. tree_given (known p) (number m e) p) (constant_line (decimal_value m e)) (λ p. ap Some (sym (constant_value n (decimal_value m e) p)))
  tree_linear n known is linear i (variable j) formed clean =
      line_by_lem n (λ p. tree_given (known p) (variable j) p) (line_with (constant_line zero_ℚ) j one_ℚ) (λ p. ap Some (variable_value n j p formed))
  tree_linear n known is linear i (defined k) formed clean =
      let r = linear k formed in
      line_by_lem n (λ p. tree_given (known p) (defined k) p) r.0 r.1
  tree_linear n known is linear i (operator c ts) formed clean =
      let free = option_or-none _ _ clean in
      let r = operator_has_line n c (trees_lines known ts) (subst (Takes (rule_of c)) (sym (length-lines known ts)) formed.0) (fault_at-none i _ free.1) in
      line_by_lem n (λ p. tree_given (known p) (operator c ts) p) (operator_line n c (trees_lines known ts))
      (λ p. ap (option_and_then (applied (rule_of c))) (trees_linear n known is linear (i + 1) ts formed.1 free.0 p) ∙ r p)

  pub trees_linear : (n : ℕ) (known : Point → Known) (is : List ℕ) (linear : AreLinear n known is) (i : ℕ) (ts : Trees)
      → AreFormed n is ts → trees_fault known n i ts ≡ None → (at : Point)
      → trees_given (known at) ts at ≡ Some (line_values n at (trees_lines known ts))
  trees_linear n known is linear i none formed clean at = refl
  trees_linear n known is linear i (more t ts) formed clean at =
      let free = option_or-none _ _ clean in
      both_there (tree_given (known at) t at) (trees_given (known at) ts at) _ _
      (tree_linear n known is linear i t formed.0 free.0 at)
      (trees_linear n known is linear (i + tree_size t) ts formed.1 free.1 at)

-- ---- expressions and defined variables
pub terms_line : (n : ℕ) (at : Point) (a : Line) (ts : List LinearTerm) → AreTermsBelow n ts → line_value n a at +ℚ terms_value ts at ≡ line_value n (line_with_terms a ts) at
terms_line n at a [] below = ap (λ s. line_value n a at +ℚ s) (sum_over_nil (λ t. t.factor *ℚ at t.variable)) ∙ +ℚ_zero (line_value n a at)
terms_line n at a (t ∷ ts) below =
    ap (λ s. line_value n a at +ℚ s) (sum_over_cons (λ u. u.factor *ℚ at u.variable) t ts)
    ∙ sym (+ℚ_assoc (line_value n a at) (t.factor *ℚ at t.variable) (terms_value ts at))
    ∙ ap (λ s. s +ℚ terms_value ts at) (sym (line_value-with n at a t.variable t.factor below.0))
    ∙ terms_line n at (line_with a t.variable t.factor) ts below.1

-- an expression whose tree has a line has that line with its terms added
pub terms_added : (n : ℕ) (known : Point → Known) (x : Expression) (l : Line) → AreTermsBelow n x.terms
    → HasValues n (λ at. tree_given (known at) x.tree at) l → HasValues n (λ at. expression_given (known at) x at)
    (line_with_terms l x.terms)
terms_added n known x l below values at =
    ap (option_map (λ v. v +ℚ terms_value x.terms at)) (values at) ∙ ap Some (terms_line n at l x.terms below)

pub expression_linear : (n : ℕ) (known : Point → Known) (is : List ℕ) → AreLinear n known is → (x : Expression)
    → IsExpressionFormed n is x → expression_fault known n x ≡ None
    → HasValues n (λ at. expression_given (known at) x at) (line_with_terms (tree_line known x.tree) x.terms)
expression_linear n known is linear x formed clean =
    let free = option_or-none _ _ clean in
    terms_added n known x (tree_line known x.tree) formed.terms (tree_linear n known is linear 0 x.tree formed.tree free.0)

-- one more definition with a line
pub more_linear : (n : ℕ) (known : Point → Known) (is : List ℕ) → AreLinear n known is
    → (i : ℕ) (f : Point → Option ℚ) (l : Line) → HasValues n f l
    → AreLinear n (λ at x. if x == i then f at else known at x) (i ∷ is)
more_linear n known is linear i f l values k among = by (k == i) refl
  where
    by : (b : Bool) → k == i ≡ b → (m : Line) × HasValues n (λ at. if b then f at else known at k) m
    by true e = (l, values)
    by false e = linear k (⊎_elim (λ (same : k ≡ i). absurd (let clash : true ≡ false = sym (eq-eqb k i same) ∙ e in cc)) (λ (rest : IsOneOf k is). rest) among)

-- what a file's definitions leave: lines
pub definitions_linear : (n : ℕ) (known : Point → Known) (is : List ℕ) → AreLinear n known is → (ds : List Definition)
    → AreDefined n is ds → definitions_fault known n ds ≡ None
    → AreLinear n (fold with_definition known ds) (indices_after is ds)
definitions_linear n known is linear [] formed clean = linear
definitions_linear n known is linear (d ∷ ds) formed clean =
    let free = option_or-none _ _ clean in
    definitions_linear n (with_definition known d) (d.index ∷ is)
    (more_linear n known is linear d.index (λ at. expression_given (known at) d.expression at)
    (line_with_terms (tree_line known d.expression.tree) d.expression.terms)
    (expression_linear n known is linear d.expression formed.0 free.0))
    ds formed.1 free.1

-- where no definition is known
pub none_linear : (n : ℕ) → AreLinear n (λ at i. None) []
none_linear n i among = absurd among

pub known_linear : (n : ℕ) (ds : List Definition) → AreDefined n [] ds → definitions_fault (λ at i. None) n ds ≡ None → AreLinear n (known_values ds) (indices_of ds)
known_linear n ds above clean = definitions_linear n (λ at i. None) [] (none_linear n) ds above clean

-- where there is no first fault, the value at each point is the constant and the sum of the coefficients times the point
pub linear_where_clean : (n : ℕ) (ds : List Definition) (t : Tree) → AreDefined n [] ds → IsFormed n (indices_of ds) t
    → first_fault n ds t ≡ None → (at : Point) → tree_value ds t at
    ≡ Some (constant_of ds t +ℚ sum_below (λ j. coef ds t j *ℚ at j) n)
linear_where_clean n ds t above formed clean =
    let free = option_or-none _ _ clean in
    tree_linear n (known_values ds) (indices_of ds) (known_linear n ds above free.0) 0 t formed free.1

pub expression_linear_where_clean : (n : ℕ) (ds : List Definition) (x : Expression) → AreDefined n [] ds
    → IsExpressionFormed n (indices_of ds) x → first_expression_fault n ds x ≡ None
    → HasValues n (expression_value ds x) (expression_line ds x)
expression_linear_where_clean n ds x above formed clean =
    let free = option_or-none _ _ clean in
    line_by_lem n (expression_value ds x) (line_with_terms (tree_line (known_values ds) x.tree) x.terms)
    (expression_linear n (known_values ds) (indices_of ds) (known_linear n ds above free.0) x formed free.1)
