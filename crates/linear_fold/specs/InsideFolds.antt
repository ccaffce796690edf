-- What folding a tree comes to.
use Rattle.std.specs.Prelude.{◌≡◌, ◌≢◌, ℕ, ◌+◌, ◌-◌, ◌<◌, ◌≤◌, List, [], ◌∷◌, length, get_or, Option, Some, None, Result, Ok, Err}
use Rattle.text_base.specs.declared.stop.Stop.{Stop}
use Rattle.text_base.specs.declared.stop.Stop.TheVariants.{Fault as Stopped, Memory}
use Rattle.code_tables.specs.Opcodes.{class_of}
use Rattle.exact_numbers.specs.Rational.{ℚ}
use Rattle.nl_model.specs.declared.fault.Fault.{Fault}
use Rattle.nl_model.specs.Faults.{expression_fault, line_with_terms, terms_fault, tree_fault, trees_fault}
use Rattle.linear_program.specs.Lines.{Line, line_value, Point}
use Rattle.nl_model.specs.Trees.{Known, Tree, number, variable, defined, operator, Trees, none, more, LinearTerm, Expression, Takes, rule_of, expression_given, tree_size, tree_given}
use Rattle.nl_model.specs.declared.node.Node.{Node}
use Rattle.nl_model.specs.declared.node.Node.TheVariants.{Num, Var, Defined, Op}
use Rattle.linear_fold.specs.declared.entries.Entry.{Entry}
use Rattle.linear_fold.specs.declared.entries.Entry.TheVariants.{Linear, Broken}
use Rattle.linear_fold.specs.declared.parts.PartialForm.{PartialForm}
use Rattle.linear_fold.specs.declared.parts.PartialForm.TheVariants.{Number as Constant, Variable as Multiple, Linear as Whole, Opposite, Broken as Faulty}
use Rattle.linear_program.specs.declared.form.Form.{Form}
use Rattle.linear_program.specs.Forms.{IsWithin, form_line}
use Rattle.linear_fold.specs.InsideOperates.{IsOperand, lines_of_parts, part_line}

-- the value of f at each point is that of a line of n variables
abbrev pub HasLine : ℕ → (Point → Option ℚ) → Line → Type 0
HasLine n f l = (at : Point) → f at ≡ Some (line_value n l at)

-- the same of the line of a form
abbrev pub HasLineOf : ℕ → (Point → Option ℚ) → Form → Type 0
HasLineOf n f form = HasLine n f (form_line form)

-- the defined variables that have forms, by their index less n, have their values
abbrev pub AreKnown : ℕ → (Point → Known) → List (Option Form) → Type 0
AreKnown n known slots =
    (k : ℕ) (f : Form) → get_or slots k None ≡ Some f → HasLineOf n (λ at. known at (n + k)) f

-- those forms are of n variables
abbrev pub AreSlotsWithin : ℕ → List (Option Form) → Type 0
AreSlotsWithin n slots = (k : ℕ) (f : Form) → get_or slots k None ≡ Some f → IsWithin n f

-- the defined variable i has a form
pub record IsGiven (n : ℕ) (slots : List (Option Form)) (i : ℕ) : Type 0 where
  pub from : n ≤ i
  pub below : i - n < length slots
  pub there : get_or slots (i - n) None ≢ None

-- the result for a tree whose first node has the number i
abbrev pub IsFolded : (Point → Known) → ℕ → ℕ → Tree → Entry → Type 0
IsFolded known n i t (Linear form) =
    (tree_fault known n i t ≡ None) × HasLineOf n (λ at. tree_given (known at) t at) form
IsFolded known n i t (Broken fault) = tree_fault known n i t ≡ Some fault

-- a tree whose first node has the number i has a line and no fault
abbrev pub IsLined : (Point → Known) → ℕ → ℕ → Tree → Line → Type 0
IsLined known n i t l =
    (tree_fault known n i t ≡ None) × HasLine n (λ at. tree_given (known at) t at) l

-- what a part of a tree comes to
abbrev pub IsPartFolded : (Point → Known) → ℕ → ℕ → Tree → PartialForm → Type 0
IsPartFolded known n i t (Constant k) = IsLined known n i t (part_line (Constant k))
IsPartFolded known n i t (Multiple j k) = IsLined known n i t (part_line (Multiple j k))
IsPartFolded known n i t (Whole f) = IsLined known n i t (form_line f)
IsPartFolded known n i t (Opposite f) = IsLined known n i t (part_line (Opposite f))
IsPartFolded known n i t (Faulty x) = tree_fault known n i t ≡ Some x

abbrev pub ArePartsFolded : (Point → Known) → ℕ → ℕ → List Tree → List PartialForm → Type 0
ArePartsFolded known n i [] [] = Unit {0}
ArePartsFolded known n i [] (p ∷ ps) = ⊥
ArePartsFolded known n i (t ∷ ts) [] = ⊥
ArePartsFolded known n i (t ∷ ts) (p ∷ ps) =
    IsPartFolded known n i t p × ArePartsFolded known n (i + tree_size t) ts ps

-- the result for a tree with its terms
abbrev pub IsExpressionFolded : (Point → Known) → ℕ → Expression → Entry → Type 0
IsExpressionFolded known n x (Linear form) =
    (expression_fault known n x ≡ None) × HasLineOf n (λ at. expression_given (known at) x at) form
IsExpressionFolded known n x (Broken fault) = expression_fault known n x ≡ Some fault

-- the first fault among parts
abbrev pub first_broken : List PartialForm → Option Fault
first_broken [] = None
first_broken (Constant k ∷ ps) = first_broken ps
first_broken (Multiple j k ∷ ps) = first_broken ps
first_broken (Whole f ∷ ps) = first_broken ps
first_broken (Opposite f ∷ ps) = first_broken ps
first_broken (Faulty x ∷ ps) = Some x

-- a fault, or a part of n variables
abbrev pub IsPartWithin : ℕ → PartialForm → Type 0
IsPartWithin n (Constant k) = IsOperand n (Constant k)
IsPartWithin n (Multiple j k) = IsOperand n (Multiple j k)
IsPartWithin n (Whole f) = IsOperand n (Whole f)
IsPartWithin n (Opposite f) = IsOperand n (Opposite f)
IsPartWithin n (Faulty x) = Unit {0}

abbrev pub ArePartsWithin : ℕ → List PartialForm → Type 0
ArePartsWithin n [] = Unit {0}
ArePartsWithin n (p ∷ ps) = IsPartWithin n p × ArePartsWithin n ps

-- a form of a line
abbrev pub ComesToLine : Line → Entry → Type 0
ComesToLine l (Linear f) = form_line f ≡ l
ComesToLine l (Broken x) = ⊥

-- a whole tree's part as a form, or its fault
abbrev pub IsEntryOf : PartialForm → Entry → Type 0
IsEntryOf (Constant k) e = ComesToLine (part_line (Constant k)) e
IsEntryOf (Multiple j k) e = ComesToLine (part_line (Multiple j k)) e
IsEntryOf (Whole f) e = e ≡ Linear f
IsEntryOf (Opposite f) e = ComesToLine (part_line (Opposite f)) e
IsEntryOf (Faulty x) e = e ≡ Broken x

-- the form of an entry is of n variables
abbrev pub IsEntryWithin : ℕ → Entry → Type 0
IsEntryWithin n (Linear form) = IsWithin n form
IsEntryWithin n (Broken fault) = Unit {0}

-- lines for trees, one each
abbrev pub AreLinesOf : (Point → Known) → ℕ → Trees → List Line → Type 0
AreLinesOf known n none [] = Unit {0}
AreLinesOf known n none (l ∷ ls) = ⊥
AreLinesOf known n (more t ts) [] = ⊥
AreLinesOf known n (more t ts) (l ∷ ls) =
    HasLine n (λ at. tree_given (known at) t at) l × AreLinesOf known n ts ls

-- operands have the first fault of their trees, or their lines; the first node has the number i
pub record AreOperandsOf (known : Point → Known) (n i : ℕ) (ts : Trees) (ps : List PartialForm) : Type 0
  where
    pub fault : first_broken ps ≡ trees_fault known n i ts
    pub lines : first_broken ps ≡ None → AreLinesOf known n ts (lines_of_parts ps)

-- a variable is one of n, a defined variable has a form, and an operator finds its operands among
-- so many parts
abbrev pub NodeFinds : ℕ → List (Option Form) → ℕ → Node → Type 0
NodeFinds n slots room (Num d) = Unit {0}
NodeFinds n slots room (Var j) = j < n
NodeFinds n slots room (Defined i) = IsGiven n slots i
NodeFinds n slots room (Op o k) = Takes (rule_of (class_of o)) k × (k ≤ room)

-- the same of a node without its operands
abbrev pub IsNodeWithin : ℕ → List (Option Form) → Node → Type 0
IsNodeWithin n slots (Num d) = Unit {0}
IsNodeWithin n slots (Var j) = j < n
IsNodeWithin n slots (Defined i) = IsGiven n slots i
IsNodeWithin n slots (Op o k) = Unit {0}

abbrev pub AreNodesWithin : ℕ → List (Option Form) → List Node → Type 0
AreNodesWithin n slots [] = Unit {0}
AreNodesWithin n slots (x ∷ xs) = IsNodeWithin n slots x × AreNodesWithin n slots xs

-- a tree uses only the first n variables, and defined variables that have forms
abbrev mutual
  pub IsTreeGiven : ℕ → List (Option Form) → Tree → Type 0
  IsTreeGiven n slots (number m e) = Unit {0}
  IsTreeGiven n slots (variable j) = j < n
  IsTreeGiven n slots (defined i) = IsGiven n slots i
  IsTreeGiven n slots (operator c ts) = AreTreesGiven n slots ts

  pub AreTreesGiven : ℕ → List (Option Form) → Trees → Type 0
  AreTreesGiven n slots none = Unit {0}
  AreTreesGiven n slots (more t ts) = IsTreeGiven n slots t × AreTreesGiven n slots ts

-- terms are added to a line, the first of which has the number i; or the first fault among them
abbrev pub AddsTerms : Line → ℕ → List LinearTerm → Line → Result (Unit {0}) (Stop Fault) → Type 0
AddsTerms a i ts new (Ok u) = (terms_fault a i ts ≡ None) × (new ≡ line_with_terms a ts)
AddsTerms a i ts new (Err (Stopped fault)) = terms_fault a i ts ≡ Some fault
AddsTerms a i ts new (Err Memory) = Unit {0}

-- the form of a line with terms, or the first fault among them
abbrev pub ComesToTerms : Line → ℕ → List LinearTerm → Entry → Type 0
ComesToTerms a i ts (Linear form) =
    (terms_fault a i ts ≡ None) × (form_line form ≡ line_with_terms a ts)
ComesToTerms a i ts (Broken fault) = terms_fault a i ts ≡ Some fault
