-- The first fault of folding a tree to a line (own profile).
use Rattle.std.specs.Prelude.{ℕ, ◌+◌, List, [], ◌∷◌, Bool, true, false, ◌&&◌, if◌then◌else◌, Option, Some, None, option_map}
use Rattle.std.specs.Option.{option_or}
use Rattle.code_tables.specs.declared.class.OpClass.{OpClass}
use Rattle.code_tables.specs.declared.class.OpClass.TheVariants.{Sum, Difference, Product, Quotient, Negation, List as SumOfAll, Power}
use Rattle.exact_numbers.specs.Fits.{fits, sum_fits}
use Rattle.exact_numbers.specs.Functions.{exponent_of, or_zero, power_of}
use Rattle.exact_numbers.specs.Rational.{ℚ, inverse_of, decimal_value}
use Rattle.nl_model.specs.declared.fault.Fault.{Fault}
use Rattle.nl_model.specs.declared.fault.Reason.{Reason}
use Rattle.nl_model.specs.declared.fault.Reason.TheVariants.{Nonlinear, DivideByZero, TooWide, RefusedPower}
use Rattle.linear_program.specs.Lines.{Line, line_by, is_zero, is_constant, are_constant, constants_of, Point, line_sum, line_scaled, line_neg, constant_line, running_line, line_with, sums_fit, products_fit, running_sums_fit}
use Rattle.nl_model.specs.Trees.{Tree, number, variable, defined, operator, Trees, none, more, Known, with_definition, LinearTerm, Expression, Definition, applied, rule_of, tree_given, known_values, tree_value, expression_value, tree_size}

abbrev pub too_wide_unless : Bool → Option Reason
too_wide_unless true = None
too_wide_unless false = Some TooWide

-- ---- lines of operators
-- what a class makes of constants alone
abbrev pub constants_line : OpClass → List Line → Line
constants_line c ls = constant_line (or_zero (applied (rule_of c) (constants_of ls)))

-- what an operator makes of lines, where it has no fault; those that the table does not name, of
-- constants
abbrev pub operator_line : ℕ → OpClass → List Line → Line
operator_line n Sum (a ∷ b ∷ []) = line_sum a b
operator_line n Difference (a ∷ b ∷ []) = line_sum a (line_neg b)
operator_line n Product (a ∷ b ∷ []) =
    (if is_constant n a then line_scaled a.constant b else line_scaled b.constant a)
operator_line n Quotient (a ∷ b ∷ []) = line_scaled (inverse_of b.constant) a
operator_line n Negation (a ∷ []) = line_neg a
operator_line n SumOfAll (a ∷ bs) = running_line a bs
operator_line n c ls = constants_line c ls

-- ---- the table of faults
abbrev pub power_fault : ℚ → Option ℕ → Option Reason
power_fault x None = Some RefusedPower
power_fault x (Some k) = too_wide_unless (fits (power_of x k))

-- the fault of an operator whose operands are these lines of n variables; those that the table does
-- not name want constants
abbrev pub operator_fault : ℕ → OpClass → List Line → Option Reason
operator_fault n Sum (a ∷ b ∷ []) = too_wide_unless (sums_fit n a b)
operator_fault n Difference (a ∷ b ∷ []) = too_wide_unless (sums_fit n a (line_neg b))
operator_fault n Product (a ∷ b ∷ []) =
    if is_constant n a then too_wide_unless (products_fit n a.constant b)
    else if is_constant n b then too_wide_unless (products_fit n b.constant a)
    else Some Nonlinear
operator_fault n Quotient (a ∷ b ∷ []) =
    if is_constant n b
    then (if is_zero b.constant
    then Some DivideByZero
    else too_wide_unless (products_fit n (inverse_of b.constant) a))
    else Some Nonlinear
operator_fault n Negation ls = None
operator_fault n SumOfAll (a ∷ bs) = too_wide_unless (running_sums_fit n a bs)
operator_fault n Power (a ∷ b ∷ []) =
    if are_constant n (a ∷ b ∷ [])
    then power_fault a.constant (exponent_of b.constant)
    else Some Nonlinear
operator_fault n c ls = if are_constant n ls then None else Some Nonlinear

abbrev pub fault_at : ℕ → Option Reason → Option Fault
fault_at i r = option_map (λ why. record { place = i; reason = why }) r

-- ---- trees
-- the line of a tree, by its values
abbrev pub tree_line : (Point → Known) → Tree → Line
tree_line known t = line_by (λ at. tree_given (known at) t at)

abbrev pub trees_lines : (Point → Known) → Trees → List Line
trees_lines known none = []
trees_lines known (more t ts) = tree_line known t ∷ trees_lines known ts

-- the first fault of a tree whose first node has the number i: operands before their operator, from
-- left to right
abbrev mutual
  pub tree_fault : (Point → Known) → ℕ → ℕ → Tree → Option Fault
  tree_fault known n i (number m e) = fault_at i (too_wide_unless (fits (decimal_value m e)))
  tree_fault known n i (variable j) = None
  tree_fault known n i (defined k) = None
  tree_fault known n i (operator c ts) =
      option_or (trees_fault known n (i + 1) ts)
      (fault_at i (operator_fault n c (trees_lines known ts)))

  pub trees_fault : (Point → Known) → ℕ → ℕ → Trees → Option Fault
  trees_fault known n i none = None
  trees_fault known n i (more t ts) =
      option_or (tree_fault known n i t) (trees_fault known n (i + tree_size t) ts)

-- ---- linear terms
-- a line with the terms of a list added
abbrev pub line_with_terms : Line → List LinearTerm → Line
line_with_terms a [] = a
line_with_terms a (t ∷ ts) = line_with_terms (line_with a t.variable t.factor) ts

-- the first fault of the linear terms that are added to a line; the first of them has the number i
abbrev pub terms_fault : Line → ℕ → List LinearTerm → Option Fault
terms_fault a i [] = None
terms_fault a i (t ∷ ts) =
    option_or
    (fault_at i (too_wide_unless (fits t.factor && sum_fits (a.coef t.variable) t.factor)))
    (terms_fault (line_with a t.variable t.factor) (i + 1) ts)

-- ---- expressions
-- the first fault of a tree and its linear terms, which are numbered after its nodes
abbrev pub expression_fault : (Point → Known) → ℕ → Expression → Option Fault
expression_fault known n x =
    option_or (tree_fault known n 0 x.tree)
    (terms_fault (tree_line known x.tree) (tree_size x.tree) x.terms)

-- the first fault of the definitions, in file order
abbrev pub definitions_fault : (Point → Known) → ℕ → List Definition → Option Fault
definitions_fault known n [] = None
definitions_fault known n (d ∷ ds) =
    option_or (expression_fault known n d.expression)
    (definitions_fault (with_definition known d) n ds)

-- the first fault of a tree, and of an expression, of a file with these defined variables: the
-- definitions come first
abbrev pub first_fault : ℕ → List Definition → Tree → Option Fault
first_fault n ds t =
    option_or (definitions_fault (λ at i. None) n ds) (tree_fault (known_values ds) n 0 t)

abbrev pub first_expression_fault : ℕ → List Definition → Expression → Option Fault
first_expression_fault n ds x =
    option_or (definitions_fault (λ at i. None) n ds)
    (expression_fault (known_values ds) n x)

-- ---- coefficients
-- the value at the point with 1 at j and 0 elsewhere, less the value at the point 0
abbrev pub coef : List Definition → Tree → ℕ → ℚ
coef ds t j = (line_by (tree_value ds t)).coef j

abbrev pub constant_of : List Definition → Tree → ℚ
constant_of ds t = (line_by (tree_value ds t)).constant

-- the same of an expression
abbrev pub expression_line : List Definition → Expression → Line
expression_line ds x = line_by (expression_value ds x)
