-- What the entries of a fold come to, and stacks with the top at the end.
use Rattle.std.proofs.Common.{◌≡◌, ℕ, zero, suc, ◌+◌, ◌<◌, ◌≤◌, ◌∙◌, sym, ap, ap₂, refl, subst, Bool, true, false, None}
use Rattle.std.proofs.Common.{Some, Option, List, [], ◌∷◌, length, ⊎_elim, arith, option_and_then, if◌then◌else◌}
use Rattle.std.proofs.Common.{get_or, ◌-◌, ◌*◌, subst₂, ◌++◌, reverse, take, drop, length-drop, drop-cons}
use Rattle.std.specs.Option.{option_or}
use Rattle.std.proofs.lemmas.Bool.{cases_lt}
use Rattle.std.proofs.lemmas.List.{get_or_default, length-map, reverse-append, length-reverse}
use Rattle.code_tables.specs.declared.class.OpClass.{OpClass}
use Rattle.code_tables.specs.declared.class.OpClass.TheVariants.{Sum, Difference, Product, Quotient, Negation, List as SumOfAll, Power, Least, Greatest, Floor, Ceiling, Absolute, Refused}
use Rattle.exact_numbers.specs.declared.frac.Frac.{Frac}
use Rattle.exact_numbers.specs.Values.{frac_value}
use Rattle.exact_numbers.specs.Rational.{ℚ, zero_ℚ, one_ℚ, ◌+ℚ◌, ◌*ℚ◌, neg_ℚ, inverse_of}
use Rattle.exact_numbers.proofs.RationalLaws.{*ℚ_zero, +ℚ_zero, neg_zero}
use Rattle.nl_model.specs.declared.fault.Fault.{Fault}
use Rattle.nl_model.specs.declared.fault.Reason.{Reason}
use Rattle.linear_program.specs.Lines.{Line, line_values, line_value, line_by, is_constant, line_with, line_sum, line_scaled, line_neg, running_line, constant_line, Point}
use Rattle.nl_model.specs.Faults.{operator_fault, operator_line, fault_at, trees_lines, tree_fault, trees_fault}
use Rattle.nl_model.specs.Trees.{Known, Tree, operator, Trees, none, more, applied, rule_of, tree_given, trees_given, Takes, tree_size, trees_size, first_trees}
use Rattle.linear_program.proofs.LineLemmas.{same_constant, same_coef, no_coef}
use Rattle.nl_model.proofs.Linear.{both_there, constant_value, variable_value, operator_has_line}
use Rattle.linear_fold.specs.declared.entries.Entry.{Entry}
use Rattle.linear_fold.specs.declared.entries.Entry.TheVariants.{Linear as Whole, Broken as Faulty}
use Rattle.linear_program.specs.declared.form.Form.{Form}
use Rattle.linear_fold.specs.declared.parts.PartialForm.{PartialForm}
use Rattle.linear_fold.specs.declared.parts.PartialForm.TheVariants.{Number, Variable, Linear, Broken}
use Rattle.linear_program.specs.Forms.{form_line, is_open, IsWithin, IsZeroFrom}
use Rattle.linear_fold.specs.InsideOperates.{IsOperand, IsSound, AreOperands, lines_of_parts, part_line}
use Rattle.linear_fold.specs.InsideFolds.{HasLine, HasLineOf, IsLined, AreLinesOf, AreOperandsOf, ArePartsWithin}
use Rattle.linear_fold.specs.InsideFolds.{ComesToLine, IsEntryOf, IsEntryWithin, IsFolded, IsPartFolded, IsPartWithin}
use Rattle.linear_fold.specs.InsideFolds.{first_broken, AreNodesWithin, ArePartsFolded, IsNodeWithin, NodeFinds}
use Rattle.linear_fold.proofs.Operators.{multiple_zero_from}
use Rattle.linear_program.proofs.Scaled.{same_line}
use Rattle.std.proofs.Math.Nat.{mul-le-mul_left}
use Rattle.code_tables.specs.Opcodes.{class_of}
use Rattle.nl_model.specs.declared.node.Node.{Node}
use Rattle.nl_model.specs.declared.node.Node.TheVariants.{Num, Var, Defined, Op}
use Rattle.nl_model.specs.Nodes.{AreNodesFormed, trees_of, with_node}

-- a function of points that has the values of a line
pub same_values : (n : ℕ) (f : Point → Option ℚ) (a l : Line) → a ≡ l → HasLine n f l → HasLine n f a
same_values n f a l e h at = h at ∙ ap (λ m. Some (line_value n m at)) (sym e)

pub constant_lined : (n : ℕ) (k : ℚ) (at : Point) → Some k ≡ Some (line_value n (constant_line k) at)
constant_lined n k at = ap Some (sym (constant_value n k at))

pub variable_lined : (n j : ℕ) → j < n → (at : Point) → Some (at j) ≡ Some (line_value n (line_with (constant_line zero_ℚ) j one_ℚ) at)
variable_lined n j h at = ap Some (variable_value n j at h)

pub constant_within : (n : ℕ) (f : Form) (k : ℚ) → form_line f ≡ constant_line k → IsWithin n f
constant_within n f k e j h = ap (λ l. l.coef j) e

pub number_within : (n : ℕ) (k : Frac) → IsPartWithin n (Number k)
number_within n k = record { sound = tt; zero_from = λ j h. refl }

pub multiple_within : (n j : ℕ) (k : Frac) → j < n → IsPartWithin n (Variable j k)
multiple_within n j k l = record { sound = l; zero_from = multiple_zero_from n j (frac_value k) l }

pub form_within : (n : ℕ) (a b : Form) → form_line a ≡ form_line b → is_open a ≡ false → IsWithin n b → IsPartWithin n (Linear a)
form_within n a b e c w = record { sound = λ o. (let clash : true ≡ false = sym o ∙ c in cc); zero_from = λ j g. ap (λ m. m.coef j) e ∙ w j g }

-- a line of a tree's values is the tree's line
pub is_line_by : (n : ℕ) (f : Point → Option ℚ) (l : Line) → IsZeroFrom n l → HasLine n f l → l ≡ line_by f
is_line_by n f l w h =
    same_line _ _ (sym (same_constant n f l h))
    (λ j. ⊎_elim
    (λ (p : j < n). sym (same_coef n f l h j p))
    (λ (g : n ≤ j). w j g ∙ sym (no_coef n f l h j g))
    (cases_lt j n))

pub is_line_of : (n : ℕ) (f : Point → Option ℚ) (a : Form) → IsWithin n a → HasLineOf n f a → form_line a ≡ line_by f
is_line_of n f a w h = is_line_by n f (form_line a) w h

-- ---- no coefficient from n on
abbrev AreZeroLines : ℕ → List Line → Type 0
AreZeroLines n [] = Unit {0}
AreZeroLines n (l ∷ ls) = IsZeroFrom n l × AreZeroLines n ls

module _ (known : Point → Known) (n : ℕ) where
  lines_are : (ts : Trees) (ls : List Line) → AreZeroLines n ls → AreLinesOf known n ts ls → ls ≡ trees_lines known ts
  lines_are none [] w h = refl
  lines_are (more t ts) (l ∷ ls) w h = ap₂ ◌∷◌ (is_line_by n (λ at. tree_given (known at) t at) l w.0 h.0) (lines_are ts ls w.1 h.1)
  lines_are ts ls w h = absurd h

  pub values_are : (ts : Trees) (ls : List Line) → AreLinesOf known n ts ls → (at : Point) → trees_given (known at) ts at ≡ Some (line_values n at ls)
  values_are none [] h at = refl
  values_are (more t ts) (l ∷ ls) h at = both_there (tree_given (known at) t at) (trees_given (known at) ts at) _ _ (h.0 at) (values_are ts ls h.1 at)
  values_are ts ls h at = absurd h

lines_zero : (n : ℕ) (ps : List PartialForm) → AreOperands n ps → AreZeroLines n (lines_of_parts ps)
lines_zero n [] w = tt
lines_zero n (p ∷ ps) w = (w.0.zero_from, lines_zero n ps w.1)

sum_zero : (n : ℕ) (a b : Line) → IsZeroFrom n a → IsZeroFrom n b → IsZeroFrom n (line_sum a b)
sum_zero n a b p q j h = ap₂ ◌+ℚ◌ (p j h) (q j h) ∙ +ℚ_zero zero_ℚ

neg_zero_from : (n : ℕ) (a : Line) → IsZeroFrom n a → IsZeroFrom n (line_neg a)
neg_zero_from n a p j h = ap neg_ℚ (p j h) ∙ neg_zero

scaled_zero : (n : ℕ) (k : ℚ) (a : Line) → IsZeroFrom n a → IsZeroFrom n (line_scaled k a)
scaled_zero n k a p j h = ap (λ x. k *ℚ x) (p j h) ∙ *ℚ_zero k

running_zero : (n : ℕ) (a : Line) (ls : List Line) → IsZeroFrom n a → AreZeroLines n ls → IsZeroFrom n (running_line a ls)
running_zero n a [] p q = p
running_zero n a (l ∷ ls) p q = running_zero n (line_sum a l) ls (sum_zero n a l p q.0) q.1

chosen_zero : (n : ℕ) (b : Bool) (x y : Line) → IsZeroFrom n x → IsZeroFrom n y → IsZeroFrom n (if b then x else y)
chosen_zero n true x y p q = p
chosen_zero n false x y p q = q

pub operator_zero : (n : ℕ) (c : OpClass) (ls : List Line) → Takes (rule_of c) (length ls) → AreZeroLines n ls → IsZeroFrom n (operator_line n c ls)
operator_zero n Sum (a ∷ b ∷ []) h z = sum_zero n a b z.0 z.1.0
operator_zero n Difference (a ∷ b ∷ []) h z = sum_zero n a (line_neg b) z.0 (neg_zero_from n b z.1.0)
operator_zero n Product (a ∷ b ∷ []) h z = chosen_zero n (is_constant n a) _ _ (scaled_zero n a.constant b z.1.0) (scaled_zero n b.constant a z.0)
operator_zero n Quotient (a ∷ b ∷ []) h z = scaled_zero n (inverse_of b.constant) a z.0
operator_zero n Negation (a ∷ []) h z = neg_zero_from n a z.0
operator_zero n SumOfAll (a ∷ ls) h z = running_zero n a ls z.0 z.1
operator_zero n Power ls h z = λ j g. refl
operator_zero n Least ls h z = λ j g. refl
operator_zero n Greatest ls h z = λ j g. refl
operator_zero n Floor ls h z = λ j g. refl
operator_zero n Ceiling ls h z = λ j g. refl
operator_zero n Absolute ls h z = λ j g. refl
operator_zero n Refused ls h z = absurd h
operator_zero n c ls h z = absurd (omega arith)

-- ---- an operator
pub operator_within : (n : ℕ) (c : OpClass) (ps : List PartialForm) (p : PartialForm) → Takes (rule_of c) (length ps)
    → AreOperands n ps → part_line p ≡ operator_line n c (lines_of_parts ps) → IsSound n p → IsOperand n p
operator_within n c ps p count w e sound =
    record {
      sound = sound;
      zero_from = λ j g. ap (λ l. l.coef j) e ∙ operator_zero n c (lines_of_parts ps) (subst (Takes (rule_of c)) (sym (length-map ps part_line)) count) (lines_zero n ps w) j g;
    }

module _ (known : Point → Known) (n i : ℕ) (c : OpClass) (ts : Trees) (ps : List PartialForm)
    (whole_one : first_broken ps ≡ None) (count : Takes (rule_of c) (length ps)) (within : AreOperands n ps)
    (operands : AreOperandsOf known n (i + 1) ts ps) where
  fault_here : (r : Option Reason) → operator_fault n c (lines_of_parts ps) ≡ r → tree_fault known n i (operator c ts) ≡ fault_at i r
  fault_here r h =
      ap₂ option_or (sym operands.fault ∙ whole_one) (ap (λ ls. fault_at i (operator_fault n c ls))
      (sym (lines_are known n ts (lines_of_parts ps) (lines_zero n ps within) (operands.lines whole_one)))
      ∙ ap (fault_at i) h)

  operator_lined : (l : Line) → operator_fault n c (lines_of_parts ps) ≡ None → l ≡ operator_line n c (lines_of_parts ps) → IsLined known n i (operator c ts) l
  operator_lined l clean line =
      let lines = operands.lines whole_one in
      let many : Takes (rule_of c) (length (lines_of_parts ps)) = subst (Takes (rule_of c)) (sym (length-map ps part_line)) count in (
        fault_here None clean,
        same_values n _ l _ line
            (λ at.
            ap (option_and_then (applied (rule_of c))) (values_are known n ts (lines_of_parts ps) lines at)
            ∙ operator_has_line n c (lines_of_parts ps) many clean at),
      )

  pub operator_broken : (x : Reason) → operator_fault n c (lines_of_parts ps) ≡ Some x → tree_fault known n i (operator c ts) ≡ Some (record { place = i; reason = x })
  operator_broken x h = fault_here (Some x) h

  pub operator_folded : (p : PartialForm) → operator_fault n c (lines_of_parts ps) ≡ None → part_line p ≡ operator_line n c (lines_of_parts ps) → IsSound n p → IsPartFolded known n i (operator c ts) p
  operator_folded (Broken x) clean line sound = absurd sound
  operator_folded p clean line sound = operator_lined (part_line p) clean line

pub faulty_operands : (known : Point → Known) (n i : ℕ) (c : OpClass) (ts : Trees) (ps : List PartialForm)
    → AreOperandsOf known n (i + 1) ts ps → (x : Fault) → first_broken ps ≡ Some x
    → tree_fault known n i (operator c ts) ≡ Some x
faulty_operands known n i c ts ps operands x e = ap (λ o. option_or o (fault_at i (operator_fault n c (trees_lines known ts)))) (sym operands.fault ∙ e)

pub operand_within : (n : ℕ) (p : PartialForm) → IsOperand n p → IsPartWithin n p
operand_within n (Broken x) w = tt
operand_within n p w = w

-- where no operand has a fault
pub all_operands : (n : ℕ) (ps : List PartialForm) → ArePartsWithin n ps → first_broken ps ≡ None → AreOperands n ps
all_operands n [] w e = tt
all_operands n (Broken x ∷ ps) w e = cc
all_operands n (p ∷ ps) w e = (w.0, all_operands n ps w.1 e)

-- ---- the whole tree
module _ (known : Point → Known) (n : ℕ) (t : Tree) where
  entry_lined : (l : Line) (e : Entry) → IsLined known n 0 t l → ComesToLine l e → IsFolded known n 0 t e
  entry_lined l (Whole f) h is = (h.0, same_values n _ (form_line f) l is h.1)
  entry_lined l (Faulty x) h is = absurd is

  pub entry_folded : (p : PartialForm) (e : Entry) → IsEntryOf p e → IsPartFolded known n 0 t p → IsFolded known n 0 t e
  entry_folded (Linear f) e is h = subst (IsFolded known n 0 t) (sym is) h
  entry_folded (Broken x) e is h = subst (IsFolded known n 0 t) (sym is) h
  entry_folded p e is h = entry_lined (part_line p) e h is

entry_of_line : (n : ℕ) (l : Line) (e : Entry) → IsZeroFrom n l → ComesToLine l e → IsEntryWithin n e
entry_of_line n l (Whole f) z is = λ j g. ap (λ m. m.coef j) is ∙ z j g
entry_of_line n l (Faulty x) z is = absurd is

pub entry_is_within : (n : ℕ) (p : PartialForm) (e : Entry) → IsEntryOf p e → IsPartWithin n p → IsEntryWithin n e
entry_is_within n (Linear f) e is w = subst (IsEntryWithin n) (sym is) w.zero_from
entry_is_within n (Broken x) e is w = subst (IsEntryWithin n) (sym is) tt
entry_is_within n p e is w = entry_of_line n (part_line p) e w.zero_from is

pub slot_at : (slots : List (Option Form)) (k : ℕ) (x : Option Form) → k < length slots → x ≡ get_or slots k x → get_or slots k None ≡ x
slot_at slots k x h e = get_or_default slots k None x h ∙ sym e

pub top_first : {A : Type 0} (stack new : List A) (x : A) → stack ≡ new ++ x ∷ [] → reverse stack ≡ x ∷ reverse new
top_first stack new x e = ap reverse e ∙ reverse-append new (x ∷ [])

-- ---- the operands of an operator
module _ (known : Point → Known) (n : ℕ) where
  clean_first : (i k : ℕ) (t : Tree) (l : Line) (ts : List Tree) (ps : List PartialForm) → IsLined known n i t l
      → AreOperandsOf known n (i + tree_size t) (first_trees k ts) ps
      → (first_broken ps ≡ trees_fault known n i (first_trees (suc k) (t ∷ ts)))
      × (first_broken ps ≡ None → AreLinesOf known n (first_trees (suc k) (t ∷ ts)) (l ∷ lines_of_parts ps))
  clean_first i k t l ts ps f r = (
    r.fault ∙ ap (λ o. option_or o (trees_fault known n (i + tree_size t) (first_trees k ts))) (sym f.0),
    λ e. (f.1, r.lines e),
  )

  pub operands_are : (i k : ℕ) (ts : List Tree) (ps : List PartialForm) → k ≤ length ps → ArePartsFolded known n i ts ps → AreOperandsOf known n i (first_trees k ts) (take k ps)
  operands_are i zero ts ps h f = record { fault = refl; lines = λ e. tt }
  operands_are i (suc k) ts [] h f = absurd (omega arith)
  operands_are i (suc k) [] (p ∷ ps) h f = absurd f
  operands_are i (suc k) (t ∷ ts) (Broken x ∷ ps) h f =
      record {
        fault = ap (λ o. option_or o (trees_fault known n (i + tree_size t) (first_trees k ts))) (sym f.0);
        lines = λ e. cc;
      }
  operands_are i (suc k) (t ∷ ts) (p ∷ ps) h f =
      let r = clean_first i k t (part_line p) ts (take k ps) f.0 (operands_are (i + tree_size t) k ts ps (omega arith) f.1) in
      record { fault = r.0; lines = r.1 }

  pub rest_are : (i k : ℕ) (ts : List Tree) (ps : List PartialForm) → k ≤ length ps → ArePartsFolded known n i ts ps
      → ArePartsFolded known n (i + trees_size (first_trees k ts)) (drop k ts) (drop k ps)
  rest_are i zero ts ps h f = subst (λ j. ArePartsFolded known n j ts ps) (omega arith) f
  rest_are i (suc k) ts [] h f = absurd (omega arith)
  rest_are i (suc k) [] (p ∷ ps) h f = absurd f
  rest_are i (suc k) (t ∷ ts) (p ∷ ps) h f =
      subst (λ j. ArePartsFolded known n j (drop k ts) (drop k ps)) (omega arith) (rest_are (i + tree_size t) k ts ps (omega arith) f.1)

-- an operator's part in place of its operands'
pub operator_step : (known : Point → Known) (n place : ℕ) (o : ℕ) (k : ℕ) (trees : List Tree)
    (ps rest operands : List PartialForm) (p : PartialForm) → k ≤ length ps → operands ≡ take k ps → rest ≡ drop k ps
    → ((ts : Trees) → AreOperandsOf known n (place + 1) ts operands
    → IsPartFolded known n place (operator (class_of o) ts) p) → ArePartsFolded known n (place + 1) trees ps
    → ArePartsFolded known n place (with_node (Op o k) trees) (p ∷ rest)
operator_step known n place o k trees ps rest operands p room are is_rest h folded =
    let ts = first_trees k trees in (
      h ts (subst (AreOperandsOf known n (place + 1) ts) (sym are) (operands_are known n (place + 1) k trees ps room folded)),
      subst₂ (λ j qs. ArePartsFolded known n j (drop k trees) qs) (omega arith) (sym is_rest) (rest_are known n (place + 1) k trees ps room folded),
    )

pub operator_size : (o : ℕ) (k : ℕ) (trees : List Tree) (stack new : List PartialForm) → k ≤ length stack
    → length trees ≡ length stack → reverse new ≡ drop k (reverse stack)
    → length (with_node (Op o k) trees) ≡ 1 + length new
operator_size o k trees stack new room same rest =
    let fewer : length (reverse new) ≡ length (drop k (reverse stack)) = ap length rest in
    omega (arith, fewer, length-reverse new, length-reverse stack, length-drop k (reverse stack), length-drop k trees)

-- ---- nodes from the last
pub node_at : (nodes : List Node) (place : ℕ) (x : Node) → 0 < place → place ≤ length nodes → x ≡ get_or nodes (place - 1) x → drop (place - 1) nodes ≡ x ∷ drop place nodes
node_at nodes place x some within e =
    let one : suc (place - 1) ≡ place = omega arith in
    drop-cons nodes (place - 1) x (omega arith) ∙ ap₂ (λ y k. y ∷ drop k nodes) (sym e) one

formed_drop : (p : ℕ) (ns : List Node) → AreNodesFormed ns → AreNodesFormed (drop p ns)
formed_drop zero ns h = h
formed_drop (suc p) [] h = h
formed_drop (suc p) (Op o k ∷ ns) h = formed_drop p ns h.2
formed_drop (suc p) (x ∷ ns) h = formed_drop p ns h

module _ (n : ℕ) (slots : List (Option Form)) where
  within_drop : (p : ℕ) (ns : List Node) → AreNodesWithin n slots ns → AreNodesWithin n slots (drop p ns)
  within_drop zero ns h = h
  within_drop (suc p) [] h = h
  within_drop (suc p) (x ∷ ns) h = within_drop p ns h.1

  finds_head : (x : Node) (ns : List Node) → AreNodesFormed (x ∷ ns) → IsNodeWithin n slots x → NodeFinds n slots (length (trees_of ns)) x
  finds_head (Num d) ns f h = tt
  finds_head (Var j) ns f h = h
  finds_head (Defined i) ns f h = h
  finds_head (Op o k) ns f h = (f.0, f.1)

  pub finds_at : (nodes rest : List Node) (p : ℕ) (x : Node) → AreNodesFormed nodes → AreNodesWithin n slots nodes → drop p nodes ≡ x ∷ rest → NodeFinds n slots (length (trees_of rest)) x
  finds_at nodes rest p x f h e = finds_head x rest (subst AreNodesFormed e (formed_drop p nodes f)) (subst (AreNodesWithin n slots) e (within_drop p nodes h)).0

pub top_folded : (known : Point → Known) (n place : ℕ) (nodes : List Node) (tree : Tree) (stack new : List PartialForm)
    (p : PartialForm) → place ≡ 0 → trees_of nodes ≡ tree ∷ []
    → ArePartsFolded known n place (trees_of (drop place nodes)) (reverse stack) → stack ≡ new ++ p ∷ []
    → IsPartFolded known n 0 tree p
top_folded known n place nodes tree stack new p is one folded top =
    let a : ArePartsFolded known n 0 (trees_of nodes) (reverse stack) = subst (λ q. ArePartsFolded known n q (trees_of (drop q nodes)) (reverse stack)) is folded in
    let b : ArePartsFolded known n 0 (tree ∷ []) (p ∷ reverse new) = subst₂ (ArePartsFolded known n 0) one (top_first stack new p top) a in
    b.0

-- ---- parts within n variables
pub within_take : (n k : ℕ) (ps : List PartialForm) → ArePartsWithin n ps → ArePartsWithin n (take k ps)
within_take n zero ps a = tt
within_take n (suc k) [] a = tt
within_take n (suc k) (p ∷ ps) a = (a.0, within_take n k ps a.1)

pub within_parts_drop : (n k : ℕ) (ps : List PartialForm) → ArePartsWithin n ps → ArePartsWithin n (drop k ps)
within_parts_drop n zero ps a = a
within_parts_drop n (suc k) [] a = tt
within_parts_drop n (suc k) (p ∷ ps) a = within_parts_drop n k ps a.1

-- ---- steps
-- an operator takes at most so many operands off the stack, and at most so many steps for each
pub entry_steps : (w from to k new old : ℕ) → to ≤ from + 2 * w * k → new + k ≤ old → to + 2 * w * new ≤ from + 2 * w * old
entry_steps w from to k new old a b =
    let most : 2 * w * (new + k) ≤ 2 * w * old = mul-le-mul_left (2 * w) b in
    let split : 2 * w * (new + k) ≡ 2 * w * new + 2 * w * k = omega arith in
    omega arith

-- one node more, of those before place p
pub tree_steps : (w total p start from to old new : ℕ) → 0 < p → p ≤ total
    → from + 2 * w * old ≤ start + 2 * w * (total - p) → to + 2 * w * new ≤ from + 2 * w * old
    → to + 2 * w * (new + 1) ≤ start + 2 * w * (total - (p - 1))
tree_steps w total p start from to old new some within a b =
    let one : total - (p - 1) ≡ total - p + 1 = omega arith in
    subst (λ k. to + 2 * w * (new + 1) ≤ start + 2 * w * k) (sym one)
    (let e : 2 * w * (total - p + 1) ≡ 2 * w * (total - p) + 2 * w = omega arith in
    let f : 2 * w * (new + 1) ≡ 2 * w * new + 2 * w = omega arith in
    omega arith)

pub some_node : (nodes : List Node) → length (trees_of nodes) ≡ 1 → 0 < length nodes
some_node [] e = absurd (omega arith)
some_node (x ∷ ns) e = omega arith

pub no_step : (w start nodes : ℕ) → 0 < nodes → start + w ≤ start + 2 * w * nodes
no_step w start nodes some =
    let most : 2 * w * 1 ≤ 2 * w * nodes = mul-le-mul_left (2 * w) some in
    omega arith

-- the steps where a node is the last that is read, and those at the end, where one more form is made
pub stopped_steps : (w total p start from to old : ℕ) → 0 < p → p ≤ total → from + 2 * w * old ≤ start + 2 * w * (total - p) → to ≤ from + 2 * w * old → to + w ≤ start + 2 * w * total
stopped_steps w total p start from to old some within a b =
    let fewer : 2 * w * (total - p + 1) ≤ 2 * w * total = mul-le-mul_left (2 * w) (omega arith) in
    let split : 2 * w * (total - p + 1) ≡ 2 * w * (total - p) + 2 * w = omega arith in
    omega arith

pub last_steps : (w total p start from to old : ℕ) → 0 < old → from + 2 * w * old ≤ start + 2 * w * (total - p) → to ≤ from + w → to + w ≤ start + 2 * w * total
last_steps w total p start from to old some a b =
    let least : 2 * w * 1 ≤ 2 * w * old = mul-le-mul_left (2 * w) some in
    let most : 2 * w * (total - p) ≤ 2 * w * total = mul-le-mul_left (2 * w) (omega arith) in
    omega arith

-- no step, where there is room for some
pub from_start : (from m : ℕ) → from ≤ from + m
from_start from m = omega arith
