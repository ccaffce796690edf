-- The parts of a tree, and what an operator makes of them.
use Rattle.std.specs.Prelude.{◌≡◌, ℕ, ◌+◌, ◌<◌, ◌≤◌, IfSome, length, take, Bool, true, false, List, [], ◌∷◌, map, Option, Some, None, Result, Ok, Err, if◌then◌else◌}
use Rattle.text_base.specs.declared.stop.Stop.{Stop}
use Rattle.text_base.specs.declared.stop.Stop.TheVariants.{Fault, Memory}
use Rattle.code_tables.specs.declared.class.OpClass.{OpClass}
use Rattle.code_tables.specs.declared.class.OpClass.TheVariants.{Least, Greatest}
use Rattle.exact_numbers.specs.Functions.{lesser_of, greater_of}
use Rattle.exact_numbers.specs.Rational.{ℚ, neg_ℚ, one_ℚ, zero_ℚ}
use Rattle.nl_model.specs.declared.fault.Fault.{Fault as NodeFault}
use Rattle.nl_model.specs.declared.fault.Reason.TheVariants.{TooWide}
use Rattle.linear_program.specs.Lines.{constant_line, line_neg, line_sum, line_with, Line, are_constant, constants_of, sums_fit}
use Rattle.nl_model.specs.Faults.{operator_fault, operator_line}
use Rattle.nl_model.specs.Trees.{applied, rule_of}
use Rattle.exact_numbers.specs.declared.frac.Frac.{Frac}
use Rattle.exact_numbers.specs.Values.{frac_value}
use Rattle.linear_program.specs.declared.form.Form.{Form}
use Rattle.linear_program.specs.declared.sum.Sum.{Sum}
use Rattle.linear_fold.specs.declared.parts.PartialForm.{PartialForm}
use Rattle.linear_fold.specs.declared.parts.PartialForm.TheVariants.{Number, Variable, Linear as Whole, Opposite, Broken}
use Rattle.linear_fold.specs.declared.operate.Outcome.{Outcome}
use Rattle.linear_fold.specs.declared.operate.Outcome.TheVariants.{Linear, Refused}
use Rattle.linear_program.specs.declared.too_wide.Wide.{Wide}
use Rattle.linear_program.specs.Forms.{form_line, is_open, pad_places, sum_line, IsZeroFrom}

abbrev pub zero_line : Line
zero_line = constant_line zero_ℚ

-- a sum that is 0
abbrev pub IsBlank : Sum → Type 0
IsBlank s = sum_line s ≡ zero_line

-- a pad of n places, where it is there
abbrev pub IsPad : ℕ → Option ℕ → Type 0
IsPad n pad = IfSome pad (λ p. p ≡ n)

-- a form that lies on no pad, or on one of n places
abbrev pub HasPlaces : ℕ → Form → Type 0
HasPlaces n f = is_open f ≡ true → pad_places f ≡ n

-- k times variable j
abbrev pub multiple_line : ℕ → ℚ → Line
multiple_line j k = line_with zero_line j k

-- the line of a part; a fault has none
abbrev pub part_line : PartialForm → Line
part_line (Number k) = constant_line (frac_value k)
part_line (Variable j k) = multiple_line j (frac_value k)
part_line (Whole f) = form_line f
part_line (Opposite f) = line_neg (form_line f)
part_line (Broken x) = zero_line

abbrev pub lines_of_parts : List PartialForm → List Line
lines_of_parts ps = map part_line ps

-- its fault, where it has one
abbrev pub fault_of_part : PartialForm → Option NodeFault
fault_of_part (Broken x) = Some x
fault_of_part p = None

-- no fault
abbrev pub IsUnbroken : PartialForm → Type 0
IsUnbroken (Number k) = Unit {0}
IsUnbroken (Variable j k) = Unit {0}
IsUnbroken (Whole f) = Unit {0}
IsUnbroken (Opposite f) = Unit {0}
IsUnbroken (Broken x) = ⊥

abbrev pub AreUnbroken : List PartialForm → Type 0
AreUnbroken [] = Unit {0}
AreUnbroken (p ∷ ps) = IsUnbroken p × AreUnbroken ps

-- the first of parts is 1, or -1
abbrev pub IsUnit : Bool → List PartialForm → Type 0
IsUnit minus [] = ⊥
IsUnit minus (p ∷ ps) = part_line p ≡ constant_line (if minus then neg_ℚ one_ℚ else one_ℚ)

-- a form, or the opposite of one
abbrev pub IsForm : PartialForm → Type 0
IsForm (Number k) = ⊥
IsForm (Variable j k) = ⊥
IsForm (Whole f) = Unit {0}
IsForm (Opposite f) = Unit {0}
IsForm (Broken x) = ⊥

-- whether it lies on a pad
abbrev pub is_open_part : PartialForm → Bool
is_open_part (Number k) = false
is_open_part (Variable j k) = false
is_open_part (Whole f) = is_open f
is_open_part (Opposite f) = is_open f
is_open_part (Broken x) = false

-- if so, on one of n places
abbrev pub IsPlaced : ℕ → PartialForm → Type 0
IsPlaced n (Number k) = Unit {0}
IsPlaced n (Variable j k) = Unit {0}
IsPlaced n (Whole f) = HasPlaces n f
IsPlaced n (Opposite f) = HasPlaces n f
IsPlaced n (Broken x) = Unit {0}

-- no fault; a variable is one of the first n, and a pad has n places
abbrev pub IsSound : ℕ → PartialForm → Type 0
IsSound n (Number k) = Unit {0}
IsSound n (Variable j k) = j < n
IsSound n (Whole f) = HasPlaces n f
IsSound n (Opposite f) = HasPlaces n f
IsSound n (Broken x) = ⊥

-- the same value or fault: q may stand for p
pub record IsSamePart (p q : PartialForm) : Type 0 where
  pub line : part_line q ≡ part_line p
  pub fault : fault_of_part q ≡ fault_of_part p
  pub sound : (n : ℕ) → IsSound n p → IsSound n q

abbrev pub AreSameParts : List PartialForm → List PartialForm → Type 0
AreSameParts [] [] = Unit {0}
AreSameParts [] (q ∷ qs) = ⊥
AreSameParts (p ∷ ps) [] = ⊥
AreSameParts (p ∷ ps) (q ∷ qs) = IsSamePart p q × AreSameParts ps qs

-- what is left of a stack, from whose end at most k parts were taken
pub record IsLeft (k : ℕ) (old new : List PartialForm) : Type 0 where
  pub front : new ≡ take (length new) old
  pub few : length old ≤ length new + k

-- such a part without coefficients from n on
pub record IsOperand (n : ℕ) (p : PartialForm) : Type 0 where
  pub sound : IsSound n p
  pub zero_from : IsZeroFrom n (part_line p)

abbrev pub AreOperands : ℕ → List PartialForm → Type 0
AreOperands n [] = Unit {0}
AreOperands n (p ∷ ps) = IsOperand n p × AreOperands n ps

-- what a class makes of the constants of constant parts; none where one is not constant
abbrev pub IsValueOf : ℕ → OpClass → List PartialForm → Option Frac → Type 0
IsValueOf n c ps None = are_constant n (lines_of_parts ps) ≡ false
IsValueOf n c ps (Some v) =
    (are_constant n (lines_of_parts ps) ≡ true)
    × (applied (rule_of c) (constants_of (lines_of_parts ps)) ≡ Some (frac_value v))

-- the least, or the greatest
abbrev pub best_class : Bool → OpClass
best_class least = if least then Least else Greatest

abbrev pub better_of : Bool → ℚ → ℚ → ℚ
better_of least x y = if least then lesser_of x y else greater_of x y

-- a sum that fits exactly where a test says so
abbrev pub SumsTo : Bool → Line → Line → Result (Unit {0}) (Stop Wide) → Type 0
SumsTo fit sum new (Ok u) = (fit ≡ true) × (new ≡ sum)
SumsTo fit sum new (Err (Fault w)) = fit ≡ false
SumsTo fit sum new (Err Memory) = Unit {0}

-- a sum of two lines of n variables, and whether it fits, are those of two others
pub record IsSameSum (n : ℕ) (a b c d : Line) : Type 0 where
  pub fit : sums_fit n a b ≡ sums_fit n c d
  pub line : line_sum a b ≡ line_sum c d

-- a part of n variables with a line, or too wide, by a test whether it fits
abbrev pub ComesTo : ℕ → Bool → Line → Outcome → Type 0
ComesTo n fit sum (Linear p) = (fit ≡ true) × (part_line p ≡ sum) × IsSound n p
ComesTo n fit sum (Refused r) = (fit ≡ false) × (r ≡ TooWide)

-- an operator over lines of n variables comes to its line or its fault
abbrev pub Operates : ℕ → OpClass → List Line → Outcome → Type 0
Operates n c ls (Linear p) =
    (operator_fault n c ls ≡ None) × (part_line p ≡ operator_line n c ls) × IsSound n p
Operates n c ls (Refused r) = operator_fault n c ls ≡ Some r
