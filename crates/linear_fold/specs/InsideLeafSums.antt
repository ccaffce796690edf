-- Sums of leaves: numbers, and factors times variables.
use Rattle.std.specs.Prelude.{◌≡◌, ◌≢◌, ℕ, suc, ◌+◌, ◌<◌, ◌≤◌, true, List, [], ◌∷◌, ◌++◌, drop, length, Option, Some, None}
use Rattle.std.specs.Option.{option_map_or}
use Rattle.exact_numbers.specs.declared.dec.Dec.{Dec}
use Rattle.exact_numbers.specs.declared.frac.Frac.{Frac}
use Rattle.exact_numbers.specs.Values.{dec_value, frac_value}
use Rattle.exact_numbers.specs.Fits.{fits}
use Rattle.exact_numbers.specs.Rational.{ℚ, zero_ℚ, inverse_of}
use Rattle.linear_program.specs.Lines.{Line, Point, constant_line, running_line, running_sums_fit, sums_fit, line_sum}
use Rattle.nl_model.specs.Faults.{trees_fault, trees_lines}
use Rattle.nl_model.specs.Trees.{Known, Tree, Trees, tree_size}
use Rattle.nl_model.specs.declared.node.Node.{Node}
use Rattle.nl_model.specs.declared.node.Node.TheVariants.{Num, Var, Op}
use Rattle.nl_model.specs.Nodes.{IsTreeFormed, trees_of}
use Rattle.linear_program.specs.Coefs.{AreAscending, AreBelow, Term, value_or_zero}
use Rattle.linear_program.specs.Decimals.{AreDecimals, fraction_terms}
use Rattle.linear_program.specs.Forms.{IsWithin, parts_line}
use Rattle.linear_program.specs.declared.form.Form.{Form}
use Rattle.linear_fold.specs.declared.entries.Entry.TheVariants.{Linear}
use Rattle.linear_fold.specs.declared.leaf_sums.Leaf.{Leaf}
use Rattle.linear_fold.specs.declared.leaf_sums.LeafSum.{LeafSum}
use Rattle.linear_fold.specs.declared.leaf_sums.Multiple.{Multiple}
use Rattle.linear_fold.specs.InsideFolds.{AreLinesOf, IsFolded, IsLined}
use Rattle.linear_fold.specs.InsideOperates.{multiple_line}

-- ---- leaves
-- a number, or a factor times a variable
abbrev pub leaf_line : Option ℕ → ℚ → Line
leaf_line None k = constant_line k
leaf_line (Some j) k = multiple_line j k

-- a variable is one of n
abbrev pub IsVariableOf : ℕ → Option ℕ → Type 0
IsVariableOf n None = Unit {0}
IsVariableOf n (Some j) = j < n

abbrev pub factors_leaf : ℕ → Dec → Leaf
factors_leaf j d = record { variable = Some j; factor = d; size = 3 }

-- the product of a number and a variable, which two nodes are
abbrev pub factors_in : Node → Node → Option Leaf
factors_in (Num d) (Var j) = Some (factors_leaf j d)
factors_in (Var j) (Num d) = Some (factors_leaf j d)
factors_in a b = None

-- a leaf stands at a place: a tree of its size, whose line is its own, where it fits
pub record IsLeafAt (ns : List Node) (place : ℕ) (l : Leaf) : Type 0 where
  pub tree : Tree
  pub trees : trees_of (drop place ns) ≡ tree ∷ trees_of (drop (place + l.size) ns)
  pub size : tree_size tree ≡ l.size
  pub within : place + l.size ≤ length ns
  pub lined : (known : Point → Known) (n i : ℕ) → fits (dec_value l.factor) ≡ true
      → IsVariableOf n l.variable → IsLined known n i tree (leaf_line l.variable (dec_value l.factor))

-- a fraction times a variable stands at a place
pub record IsMultipleAt (ns : List Node) (place : ℕ) (m : Multiple) : Type 0 where
  pub tree : Tree
  pub trees : trees_of (drop place ns) ≡ tree ∷ trees_of (drop (place + m.size) ns)
  pub size : tree_size tree ≡ m.size
  pub within : place + m.size ≤ length ns
  pub lined : (known : Point → Known) (n i : ℕ) → m.variable < n
      → IsLined known n i tree (multiple_line m.variable (frac_value m.factor))

-- a leaf is such a multiple
pub record IsMultipleOf (l : Leaf) (m : Multiple) : Type 0 where
  pub variable : l.variable ≡ Some m.variable
  pub size : m.size ≡ l.size
  pub fine : fits (dec_value l.factor) ≡ true
  pub value : frac_value m.factor ≡ dec_value l.factor

-- a number stands at a place
pub record IsNumberAt (ns : List Node) (place : ℕ) (d : Dec) : Type 0 where
  pub within : place < length ns
  pub first : drop place ns ≡ Num d ∷ drop (place + 1) ns

-- 1 divided by d, which is not 0 and has a fraction
pub record IsInverse (d : Dec) (f : Frac) : Type 0 where
  pub divisor : fits (dec_value d) ≡ true
  pub some : dec_value d ≢ zero_ℚ
  pub value : frac_value f ≡ inverse_of (dec_value d)

-- the quotient of a variable by a number, which two nodes are
abbrev pub IsVariableOver : Node → Node → Multiple → Type 0
IsVariableOver (Var j) (Num d) m =
    IsInverse d m.factor × (m ≡ record { variable = j; factor = m.factor; size = 3 })
IsVariableOver a b m = ⊥

-- nodes begin with the sum of k operands
pub record IsListOf (ns : List Node) (k : ℕ) : Type 0 where
  pub some : 1 ≤ length ns
  pub first : ns ≡ Op 54 k ∷ drop 1 ns

-- ---- sums
-- the line of the leaves so far
abbrev pub leaves_line : LeafSum → Line
leaves_line s = parts_line (value_or_zero s.number) (fraction_terms s.terms)

abbrev pub number_count : Option Frac → ℕ
number_count number = option_map_or (λ f. 1) number 0

-- as many leaves, or more
abbrev pub seen : LeafSum → ℕ
seen s = s.least + number_count s.number

-- terms of the first n variables that are a form's as they stand, each below the least one to come
pub record AreLeaves (n : ℕ) (s : LeafSum) : Type 0 where
  pub decimals : AreDecimals 0 s.terms
  pub below : AreBelow s.least (fraction_terms s.terms)
  pub few : s.least ≤ n

-- no leaf yet
pub record IsNoLeaf (s : LeafSum) : Type 0 where
  pub terms : s.terms ≡ []
  pub number : s.number ≡ None
  pub least : s.least ≡ 0

-- a leaf fits, and is added to those so far
pub record AddsLeaf (n : ℕ) (old : LeafSum) (j : Option ℕ) (d : Dec) (new : LeafSum) : Type 0 where
  pub leaves : AreLeaves n new
  pub fine : fits (dec_value d) ≡ true
  pub inside : IsVariableOf n j
  pub fit : sums_fit n (leaves_line old) (leaf_line j (dec_value d)) ≡ true
  pub line : leaves_line new ≡ line_sum (leaves_line old) (leaf_line j (dec_value d))
  pub more : suc (seen old) ≤ seen new

-- terms of the first n variables
pub record AreTerms (n : ℕ) (ts : List Term) : Type 0 where
  pub ascending : AreAscending 0 ts
  pub below : AreBelow n ts

-- a multiple of one of n variables, not below the least one to come, stands behind terms
pub record Appends (n least : ℕ) (old : List Term) (m : Multiple) (new : List Term) : Type 0 where
  pub up : least ≤ m.variable
  pub inside : m.variable < n
  pub some : frac_value m.factor ≢ zero_ℚ
  pub terms : new ≡ old ++ (m.variable, m.factor) ∷ []

-- trees have no fault, and are lines whose running sum from a on fits and is l; the first node has the
-- number i
pub record SumsUpTo (known : Point → Known) (n i : ℕ) (ts : Trees) (a l : Line) : Type 0 where
  pub clean : trees_fault known n i ts ≡ None
  pub lines : AreLinesOf known n ts (trees_lines known ts)
  pub fit : running_sums_fit n a (trees_lines known ts) ≡ true
  pub sum : running_line a (trees_lines known ts) ≡ l

-- the form of n variables that the tree of nodes comes to
pub record IsFormOf (n : ℕ) (ns : List Node) (form : Form) : Type 0 where
  pub folded : (known : Point → Known) (t : Tree) → IsTreeFormed t → trees_of ns ≡ t ∷ []
      → IsFolded known n 0 t (Linear form)
  pub within : IsWithin n form
