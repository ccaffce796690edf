-- Expression trees and their values (Gay 2005, Writing .nl Files).
use Rattle.std.specs.Prelude.{◌≡◌, ℕ, zero, suc, ◌+◌, ◌<◌, ◌≤◌, ◌⊎◌, ◌==◌, if◌then◌else◌, ℤ, List, [], ◌∷◌, Option, Some, None, option_and_then, option_map}
use Rattle.std.specs.List.{fold}
use Rattle.code_tables.specs.declared.class.OpClass.{OpClass}
use Rattle.code_tables.specs.declared.class.OpClass.TheVariants.{Sum, Difference, Product, Quotient, Negation, List as SumOfAll, Power, Least, Greatest, Floor, Ceiling, Absolute, Refused}
use Rattle.exact_numbers.specs.Functions.{power_of, exponent_of, least_of, greatest_of, floor_of, ceiling_of, absolute_of}
use Rattle.exact_numbers.specs.Rational.{ℚ, ◌+ℚ◌, ◌-ℚ◌, ◌*ℚ◌, neg_ℚ, quotient_of, decimal_value}
use Rattle.exact_numbers.specs.Sums.{sum_of_all, sum_over}
use Rattle.linear_program.specs.Lines.{Point}

-- a tree; `number m e` is m * 10 ^ e
mutual
  pub data Tree : Type 0 where
    number : ℤ → ℤ → Tree
    variable : ℕ → Tree
    defined : ℕ → Tree
    operator : OpClass → Trees → Tree

  pub data Trees : Type 0 where
    none : Trees
    more : Tree → Trees → Trees

-- the first k trees of a list, as operands
abbrev pub first_trees : ℕ → List Tree → Trees
first_trees zero ts = none
first_trees (suc k) [] = none
first_trees (suc k) (t ∷ ts) = more t (first_trees k ts)

abbrev pub count_of : Trees → ℕ
count_of none = 0
count_of (more t ts) = 1 + count_of ts

-- how many nodes it has
abbrev mutual
  pub tree_size : Tree → ℕ
  tree_size (number m e) = 1
  tree_size (variable j) = 1
  tree_size (defined i) = 1
  tree_size (operator c ts) = 1 + trees_size ts

  pub trees_size : Trees → ℕ
  trees_size none = 0
  trees_size (more t ts) = tree_size t + trees_size ts

-- what an operator makes a number of: of one operand, of two, where they have a value, or of one or
-- more; a refused one has no value
pub data Rule : Type 0 where
  one : (ℚ → ℚ) → Rule
  two : (ℚ → ℚ → Option ℚ) → Rule
  some : (ℚ → List ℚ → ℚ) → Rule
  refused : Rule

abbrev pub rule_of : OpClass → Rule
rule_of Sum = two (λ x y. Some (x +ℚ y))
rule_of Difference = two (λ x y. Some (x -ℚ y))
rule_of Product = two (λ x y. Some (x *ℚ y))
rule_of Quotient = two quotient_of
rule_of Negation = one neg_ℚ
rule_of SumOfAll = some (λ x xs. sum_of_all (x ∷ xs))
rule_of Power = two (λ x y. option_map (power_of x) (exponent_of y))
rule_of Least = some least_of
rule_of Greatest = some greatest_of
rule_of Floor = one floor_of
rule_of Ceiling = one ceiling_of
rule_of Absolute = one absolute_of
rule_of Refused = refused

-- the number of operands is right
abbrev pub Takes : Rule → ℕ → Type 0
Takes (one f) k = k ≡ 1
Takes (two f) k = k ≡ 2
Takes (some f) k = 1 ≤ k
Takes refused k = ⊥

-- what a rule makes of values; nothing where their number is wrong
abbrev pub applied : Rule → List ℚ → Option ℚ
applied (one f) (x ∷ []) = Some (f x)
applied (two f) (x ∷ y ∷ []) = f x y
applied (some f) (x ∷ xs) = Some (f x xs)
applied rule xs = None

-- the values of the defined variables, by their index in the file: indices go on from those of the
-- variables
abbrev pub Known : Type 0
Known = ℕ → Option ℚ

-- the value of a tree at a point, given those of the defined variables; of several trees, where
-- each has one
abbrev mutual
  pub tree_given : Known → Tree → Point → Option ℚ
  tree_given known (number m e) at = Some (decimal_value m e)
  tree_given known (variable j) at = Some (at j)
  tree_given known (defined i) at = known i
  tree_given known (operator c ts) at =
      option_and_then (applied (rule_of c)) (trees_given known ts at)

  pub trees_given : Known → Trees → Point → Option (List ℚ)
  trees_given known none at = Some []
  trees_given known (more t ts) at =
      option_and_then (λ v. option_map (λ vs. v ∷ vs) (trees_given known ts at))
      (tree_given known t at)

-- a factor times a variable
pub record LinearTerm : Type 0 where
  pub variable : ℕ
  pub factor : ℚ

abbrev pub terms_value : List LinearTerm → Point → ℚ
terms_value ts at = sum_over (λ t. t.factor *ℚ at t.variable) ts

-- a tree and the linear terms that are added to it
pub record Expression : Type 0 where
  pub tree : Tree
  pub terms : List LinearTerm

abbrev pub expression_given : Known → Expression → Point → Option ℚ
expression_given known x at =
    option_map (λ v. v +ℚ terms_value x.terms at) (tree_given known x.tree at)

-- a defined variable: its index in the file, and what it stands for
pub record Definition : Type 0 where
  pub index : ℕ
  pub expression : Expression

-- what is known with one more definition, which may use what was known
abbrev pub with_definition : (Point → Known) → Definition → Point → Known
with_definition known d at i =
    if i == d.index then expression_given (known at) d.expression at else known at i

-- the values of a file's defined variables, of which each may use the earlier ones
abbrev pub known_values : List Definition → Point → Known
known_values ds = fold with_definition (λ at i. None) ds

-- the value of a tree, and of an expression, of a file with these defined variables
abbrev pub tree_value : List Definition → Tree → Point → Option ℚ
tree_value ds t at = tree_given (known_values ds at) t at

abbrev pub expression_value : List Definition → Expression → Point → Option ℚ
expression_value ds x at = expression_given (known_values ds at) x at

abbrev pub IsOneOf : ℕ → List ℕ → Type 0
IsOneOf k [] = ⊥
IsOneOf k (i ∷ is) = (k ≡ i) ⊎ IsOneOf k is

-- the variables are below n, the defined variables are among `is`, and the operands are as many as
-- the operators want
abbrev mutual
  pub IsFormed : ℕ → List ℕ → Tree → Type 0
  IsFormed n is (number m e) = Unit {0}
  IsFormed n is (variable j) = j < n
  IsFormed n is (defined i) = IsOneOf i is
  IsFormed n is (operator c ts) = Takes (rule_of c) (count_of ts) × AreFormed n is ts

  pub AreFormed : ℕ → List ℕ → Trees → Type 0
  AreFormed n is none = Unit {0}
  AreFormed n is (more t ts) = IsFormed n is t × AreFormed n is ts

abbrev pub AreTermsBelow : ℕ → List LinearTerm → Type 0
AreTermsBelow n [] = Unit {0}
AreTermsBelow n (t ∷ ts) = (t.variable < n) × AreTermsBelow n ts

pub record IsExpressionFormed (n : ℕ) (is : List ℕ) (x : Expression) : Type 0 where
  pub tree : IsFormed n is x.tree
  pub terms : AreTermsBelow n x.terms

-- the indices of a list of definitions before those of `is`, the last first
abbrev pub indices_after : List ℕ → List Definition → List ℕ
indices_after is [] = is
indices_after is (d ∷ ds) = indices_after (d.index ∷ is) ds

abbrev pub indices_of : List Definition → List ℕ
indices_of ds = indices_after [] ds

-- each definition uses only the defined variables of `is` and the earlier ones
abbrev pub AreDefined : ℕ → List ℕ → List Definition → Type 0
AreDefined n is [] = Unit {0}
AreDefined n is (d ∷ ds) = IsExpressionFormed n is d.expression × AreDefined n (d.index ∷ is) ds
