-- Leaves, and what sums of them come to.
use Rattle.std.proofs.Common.{◌≡◌, ◌≢◌, ℕ, suc, ◌+◌, ◌*◌, ◌<◌, ◌≤◌, ◌∙◌, sym, ap, ap₂, refl, subst, subst₂, ◌==◌, arith}
use Rattle.std.proofs.Common.{⊎_elim, Bool, true, false, ◌&&◌, Some, None, Option, List, [], ◌∷◌, ◌++◌, drop, length}
use Rattle.std.proofs.Common.{get_or, unwrap_or, option_and_then, IfSome, if◌then◌else◌}
use Rattle.std.specs.Option.{option_or}
use Rattle.std.proofs.lemmas.Bool.{and_from, and_parts, cases_eq}
use Rattle.std.proofs.lemmas.List.{drop_more, map-append}
use Rattle.code_tables.specs.declared.class.OpClass.TheVariants.{Product, Quotient, List as SumOfAll}
use Rattle.code_tables.specs.Opcodes.{class_of}
use Rattle.exact_numbers.specs.declared.dec.Dec.{Dec}
use Rattle.exact_numbers.specs.declared.frac.Frac.{Frac}
use Rattle.exact_numbers.specs.Values.{dec_value, frac_value}
use Rattle.exact_numbers.proofs.Bridge.{frac_fits_lem}
use Rattle.exact_numbers.proofs.Zeros.{fits_zero, sum_fits_zero, zero_sum_fits}
use Rattle.exact_numbers.specs.Fits.{fits, sum_fits}
use Rattle.exact_numbers.specs.Functions.{is_zero}
use Rattle.exact_numbers.specs.Rational.{ℚ, whole, zero_ℚ, one_ℚ, ◌+ℚ◌, ◌*ℚ◌, inverse_of}
use Rattle.exact_numbers.proofs.RationalLaws.{one-*ℚ, zero-+ℚ, +ℚ_zero, *ℚ_comm, *ℚ_one}
use Rattle.exact_numbers.proofs.Values.{own_value, same_value}
use Rattle.linear_program.specs.Lines.{Line, Point, constant_line, is_constant, line_scaled, line_sum, line_value, one_if, products_fit, running_line, running_sums_fit, sums_fit}
use Rattle.nl_model.specs.Faults.{fault_at, operator_fault, operator_line, too_wide_unless, trees_fault, trees_lines, tree_line}
use Rattle.nl_model.specs.Trees.{Known, Tree, Trees, number, variable, operator, none, more, first_trees, count_of, tree_size, tree_given, Takes, applied, rule_of}
use Rattle.nl_model.proofs.Linear.{operator_has_line}
use Rattle.nl_model.specs.declared.node.Node.{Node}
use Rattle.nl_model.specs.declared.node.Node.TheVariants.{Num, Var, Defined, Op}
use Rattle.nl_model.specs.Nodes.{IsTreeFormed, first_of_trees, trees_of, with_node}
use Rattle.linear_program.specs.declared.form.Form.{Form}
use Rattle.linear_program.specs.Coefs.{AreAscending, AreBelow, Term, coef_in, value_or_zero}
use Rattle.linear_program.specs.Decimals.{AreDecimals, DecimalTerm, frac_of, frac_where, fraction_term, fraction_terms}
use Rattle.linear_program.specs.Forms.{IsZeroFrom, form_line, parts_line}
use Rattle.linear_program.proofs.Closing.{found_last, found_other}
use Rattle.linear_program.proofs.CoefLemmas.{adds_at, ascending_append, below_append, below_from, found_beyond}
use Rattle.linear_program.proofs.DecimalLemmas.{frac_of-value}
use Rattle.linear_program.proofs.FracLemmas.{coef_fits, fits_or_zero, nonzero_test}
use Rattle.linear_program.proofs.Scaled.{all_below-intro, same_line}
use Rattle.linear_fold.specs.declared.entries.Entry.TheVariants.{Linear as Whole}
use Rattle.linear_fold.specs.declared.leaf_sums.Leaf.{Leaf}
use Rattle.linear_fold.specs.declared.leaf_sums.LeafSum.{LeafSum}
use Rattle.linear_fold.specs.declared.leaf_sums.Multiple.{Multiple}
use Rattle.linear_fold.specs.declared.operate.Outcome.TheVariants.{Linear as Made}
use Rattle.linear_fold.specs.declared.parts.PartialForm.{PartialForm}
use Rattle.linear_fold.specs.declared.parts.PartialForm.TheVariants.{Number, Variable}
use Rattle.linear_fold.specs.InsideFolds.{AreOperandsOf, IsFolded, IsLined}
use Rattle.linear_fold.specs.InsideLeafSums.{AddsLeaf, Appends, AreLeaves, AreTerms, IsFormOf, IsInverse, IsLeafAt}
use Rattle.linear_fold.specs.InsideLeafSums.{IsListOf, IsMultipleAt, IsMultipleOf, IsNumberAt, IsVariableOf}
use Rattle.linear_fold.specs.InsideLeafSums.{IsVariableOver, SumsUpTo, factors_in, factors_leaf, leaf_line, leaves_line}
use Rattle.linear_fold.specs.InsideLeafSums.{number_count}
use Rattle.linear_fold.specs.InsideOperates.{AreOperands, Operates, lines_of_parts, multiple_line, zero_line}
use Rattle.linear_fold.proofs.Folding.{constant_lined, is_line_by, multiple_within, number_within, operands_are, operator_folded, same_values, values_are, variable_lined}
use Rattle.linear_fold.proofs.Operators.{fault_first, fault_second, few_steps, multiple_apart, multiple_at}
use Rattle.linear_fold.proofs.Operators.{multiple_constant, multiple_fits, multiple_scaled, multiple_zero_from}
use Rattle.linear_fold.proofs.Operators.{number_constant, quotient_comes, zero_line_sum}

-- ---- 1 as a fraction
fits_one : fits one_ℚ ≡ true
unfolding whole
fits_one = refl

one_is_some : is_zero one_ℚ ≡ false
unfolding whole
one_is_some = refl

one_frac : Frac
one_frac = frac_where one_ℚ true fits_one

one_value : frac_value one_frac ≡ one_ℚ
unfolding one_frac whole
one_value = same_value (own_value (frac_value (frac_where one_ℚ true fits_one))) (own_value one_ℚ) refl

-- ---- leaves
number_lined : (known : Point → Known) (n i : ℕ) (d : Dec) → fits (dec_value d) ≡ true → IsLined known n i (number d.m d.e) (constant_line (dec_value d))
number_lined known n i d fit = (ap (λ b. fault_at i (too_wide_unless b)) fit, constant_lined n (dec_value d))

multiple_lined : (known : Point → Known) (n i j : ℕ) (k : ℚ) → k ≡ one_ℚ → j < n → IsLined known n i (variable j) (multiple_line j k)
multiple_lined known n i j k one low = (refl, λ at. variable_lined n j low at ∙ ap (λ x. Some (line_value n (multiple_line j x) at)) (sym one))

chosen_first : (p : Bool) (x y : Line) → p ≡ true → (if p then x else y) ≡ x
chosen_first true x y e = refl
chosen_first false x y e = cc

chosen_second : (p : Bool) (x y : Line) → p ≡ false → (if p then x else y) ≡ y
chosen_second true x y e = cc
chosen_second false x y e = refl

-- a number times a variable, in either order
module _ (known : Point → Known) (n i j : ℕ) (d : Dec) (fit : fits (dec_value d) ≡ true) (low : j < n) where
  abbrev k : Frac
  k = frac_of d

  value : frac_value (frac_of d) ≡ dec_value d
  value = frac_of-value d fit

  number_here : (p : ℕ) → IsLined known n p (number d.m d.e) (constant_line (frac_value (frac_of d)))
  number_here p = subst (λ x. IsLined known n p (number d.m d.e) (constant_line x)) (sym value) (number_lined known n p d fit)

  variable_here : (p : ℕ) → IsLined known n p (variable j) (multiple_line j (frac_value one_frac))
  variable_here p = multiple_lined known n p j (frac_value one_frac) one_value low

  fine : products_fit n (frac_value (frac_of d)) (multiple_line j (frac_value one_frac)) ≡ true
  fine = multiple_fits n (frac_value (frac_of d)) (frac_value one_frac) j low ∙ ap fits (ap₂ (λ x y. x *ℚ y) value one_value ∙ *ℚ_one (dec_value d)) ∙ fit

  product_line : multiple_line j (frac_value (frac_of d)) ≡ line_scaled (frac_value (frac_of d)) (multiple_line j (frac_value one_frac))
  product_line = multiple_scaled n (frac_value (frac_of d)) (frac_value one_frac) j (frac_value (frac_of d)) (sym (ap (λ y. frac_value (frac_of d) *ℚ y) one_value ∙ *ℚ_one (frac_value (frac_of d))))

  constant_here : is_constant n (constant_line (frac_value (frac_of d))) ≡ true
  constant_here = sym (number_constant n (frac_value (frac_of d)))

  some_here : is_constant n (multiple_line j (frac_value one_frac)) ≡ false
  some_here = sym (multiple_constant n j (frac_value one_frac) low) ∙ ap is_zero one_value ∙ one_is_some

  abbrev number_first : List PartialForm
  number_first = Number (frac_of d) ∷ Variable j one_frac ∷ []

  abbrev number_last : List PartialForm
  number_last = Variable j one_frac ∷ Number (frac_of d) ∷ []

  abbrev first_trees_here : Trees
  first_trees_here = more (number d.m d.e) (more (variable j) none)

  abbrev last_trees_here : Trees
  last_trees_here = more (variable j) (more (number d.m d.e) none)

  product_first : IsLined known n i (operator Product first_trees_here) (multiple_line j (dec_value d))
  product_first =
      let operands : AreOperandsOf known n (i + 1) first_trees_here number_first =
      operands_are known n (i + 1) 2 (number d.m d.e ∷ variable j ∷ []) number_first (omega arith)
      (number_here (i + 1), (variable_here (i + 1 + 1), tt)) in
      let within : AreOperands n number_first = (number_within n (frac_of d), (multiple_within n j one_frac low, tt)) in
      let clean : operator_fault n Product (lines_of_parts number_first) ≡ None = fault_first _ _ _ constant_here ∙ ap too_wide_unless fine in
      let line : multiple_line j (frac_value (frac_of d)) ≡ operator_line n Product (lines_of_parts number_first) = product_line ∙ sym (chosen_first _ _ _ constant_here) in
      subst (λ x. IsLined known n i (operator Product first_trees_here) (multiple_line j x)) value
      (operator_folded known n i Product first_trees_here number_first refl refl within operands (Variable j (frac_of d)) clean line low)

  product_last : IsLined known n i (operator Product last_trees_here) (multiple_line j (dec_value d))
  product_last =
      let operands : AreOperandsOf known n (i + 1) last_trees_here number_last =
      operands_are known n (i + 1) 2 (variable j ∷ number d.m d.e ∷ []) number_last (omega arith)
      (variable_here (i + 1), (number_here (i + 1 + 1), tt)) in
      let within : AreOperands n number_last = (multiple_within n j one_frac low, (number_within n (frac_of d), tt)) in
      let clean : operator_fault n Product (lines_of_parts number_last) ≡ None = fault_second _ _ _ some_here ∙ fault_first _ _ _ constant_here ∙ ap too_wide_unless fine in
      let line : multiple_line j (frac_value (frac_of d)) ≡ operator_line n Product (lines_of_parts number_last) = product_line ∙ sym (chosen_second _ _ _ some_here) in
      subst (λ x. IsLined known n i (operator Product last_trees_here) (multiple_line j x)) value
      (operator_folded known n i Product last_trees_here number_last refl refl within operands (Variable j (frac_of d)) clean line low)

-- ---- leaves at a place
node_here : (ns : List Node) (p : ℕ) (x : Node) → p < length ns → x ≡ get_or ns p x → drop p ns ≡ x ∷ drop (p + 1) ns
node_here ns p x h e = drop_more ns p x h ∙ ap (λ y. y ∷ drop (p + 1) ns) (sym e)

pub quotient_head : (ns : List Node) (p : ℕ) (x : Node) → p < length ns → x ≡ get_or ns p x → x ≡ Op 3 2 → drop p ns ≡ Op 3 2 ∷ drop (p + 1) ns
quotient_head ns p x h e is = node_here ns p x h e ∙ ap (λ y. y ∷ drop (p + 1) ns) is

pub number_stands : (ns : List Node) (p : ℕ) (x : Node) (d : Dec) → p < length ns → x ≡ get_or ns p x → x ≡ Num d → IsNumberAt ns p d
number_stands ns p x d h e is = record { within = h; first = node_here ns p x h e ∙ ap (λ y. y ∷ drop (p + 1) ns) is }

pub number_leaf : (ns : List Node) (p : ℕ) (x : Node) (d : Dec) → p < length ns → x ≡ get_or ns p x → x ≡ Num d → IsLeafAt ns p (record { variable = None; factor = d; size = 1 })
number_leaf ns p x d h e is =
    record {
      tree = number d.m d.e;
      trees = ap trees_of (node_here ns p x h e ∙ ap (λ y. y ∷ drop (p + 1) ns) is);
      size = refl;
      within = omega arith;
      lined = λ known n i fit low. number_lined known n i d fit;
    }

pub variable_leaf : (ns : List Node) (p : ℕ) (x : Node) (j : ℕ) (d : Dec) → dec_value d ≡ one_ℚ → p < length ns
    → x ≡ get_or ns p x → x ≡ Var j → IsLeafAt ns p (record { variable = Some j; factor = d; size = 1 })
variable_leaf ns p x j d one h e is =
    record {
      tree = variable j;
      trees = ap trees_of (node_here ns p x h e ∙ ap (λ y. y ∷ drop (p + 1) ns) is);
      size = refl;
      within = omega arith;
      lined = λ known n i fit low. multiple_lined known n i j (dec_value d) one low;
    }

product_class : class_of 2 ≡ Product
unfolding class_of
product_class = refl

module _ (ns : List Node) (p : ℕ) (within : p + 3 ≤ length ns) where
  factors_at : (a b : Node) (l : Leaf) → drop p ns ≡ Op 2 2 ∷ a ∷ b ∷ drop (p + 3) ns → factors_in a b ≡ Some l → IsLeafAt ns p l
  factors_at (Num d) (Var j) l here e =
      subst (IsLeafAt ns p) (ap (λ o. unwrap_or o (factors_leaf j d)) e)
      (record {
        tree = operator (class_of 2) (more (number d.m d.e) (more (variable j) none));
        trees = ap trees_of here;
        size = refl;
        within = within;
        lined = λ known n i fit low. subst (λ c. IsLined known n i
            (operator c (more (number d.m d.e) (more (variable j) none))) (multiple_line j (dec_value d)))
            (sym product_class) (product_first known n i j d fit low);
      })
  factors_at (Var j) (Num d) l here e =
      subst (IsLeafAt ns p) (ap (λ o. unwrap_or o (factors_leaf j d)) e)
      (record {
        tree = operator (class_of 2) (more (variable j) (more (number d.m d.e) none));
        trees = ap trees_of here;
        size = refl;
        within = within;
        lined = λ known n i fit low. subst (λ c. IsLined known n i
            (operator c (more (variable j) (more (number d.m d.e) none))) (multiple_line j (dec_value d)))
            (sym product_class) (product_last known n i j d fit low);
      })
  factors_at (Num d) (Num e) l here h = cc
  factors_at (Num d) (Defined i) l here h = cc
  factors_at (Num d) (Op o k) l here h = cc
  factors_at (Var j) (Var i) l here h = cc
  factors_at (Var j) (Defined i) l here h = cc
  factors_at (Var j) (Op o k) l here h = cc
  factors_at (Defined i) b l here h = cc
  factors_at (Op o k) b l here h = cc

  pub product_leaf : (x a b : Node) (o k : ℕ) (l : Leaf) → x ≡ get_or ns p x → x ≡ Op o k → o ≡ 2 → k ≡ 2
      → a ≡ get_or ns (p + 1) a → b ≡ get_or ns (p + 2) b → factors_in a b ≡ Some l → IsLeafAt ns p l
  product_leaf x a b o k l at is two pair first second e =
      let head : x ≡ Op 2 2 = is ∙ ap₂ (λ m q. Op m q) two pair in
      let m : p + 1 + 1 ≡ p + 2 = omega arith in
      let q : p + 2 + 1 ≡ p + 3 = omega arith in
      let third : drop (p + 2) ns ≡ b ∷ drop (p + 3) ns = node_here ns (p + 2) b (omega arith) second ∙ ap (λ s. b ∷ drop s ns) q in
      let next : drop (p + 1) ns ≡ a ∷ drop (p + 2) ns = node_here ns (p + 1) a (omega arith) first ∙ ap (λ s. a ∷ drop s ns) m in
      factors_at a b l (node_here ns p x (omega arith) at ∙ ap₂ (λ y t. y ∷ t) head (next ∙ ap (λ t. a ∷ t) third)) e

-- ---- multiples
pub multiple_here : (ns : List Node) (p : ℕ) (l : Leaf) (m : Multiple) → IsLeafAt ns p l → IsMultipleOf l m → IsMultipleAt ns p m
multiple_here ns p l m at is =
    let same : p + l.size ≡ p + m.size = ap (λ s. p + s) (sym is.size) in
    record {
      tree = at.tree;
      trees = at.trees ∙ ap (λ q. at.tree ∷ trees_of (drop q ns)) same;
      size = at.size ∙ sym is.size;
      within = (let w = at.within in let s = is.size in omega arith);
      lined = λ known n i low.
          subst₂ (λ v k. IsLined known n i at.tree (leaf_line v k)) is.variable (sym is.value)
          (at.lined known n i is.fine (subst (IsVariableOf n) (sym is.variable) low));
    }

-- a fraction times a variable divided by a number
module _ (known : Point → Known) (n i : ℕ) (t : Tree) (m : Multiple) (d : Dec) (g f : Frac) (is : IsInverse d g)
    (value : frac_value f ≡ frac_value m.factor *ℚ frac_value g) (low : m.variable < n)
    (lined : (p : ℕ) → IsLined known n p t (multiple_line m.variable (frac_value m.factor))) where
  quotient_value : frac_value f ≡ inverse_of (frac_value (frac_of d)) *ℚ frac_value m.factor
  quotient_value = value ∙ *ℚ_comm (frac_value m.factor) (frac_value g) ∙ ap (λ x. x *ℚ frac_value m.factor) (is.value ∙ ap inverse_of (sym (frac_of-value d is.divisor)))

  quotient_lined : IsLined known n i (operator Quotient (more t (more (number d.m d.e) none))) (multiple_line m.variable (frac_value f))
  quotient_lined =
      let j = m.variable in
      let x = frac_value m.factor in
      let y = frac_value (frac_of d) in
      let ps : List PartialForm = Variable j m.factor ∷ Number (frac_of d) ∷ [] in
      let ts : Trees = more t (more (number d.m d.e) none) in
      let second : IsLined known n (i + 1 + tree_size t) (number d.m d.e) (constant_line y) =
      subst (λ z. IsLined known n (i + 1 + tree_size t) (number d.m d.e) (constant_line z))
      (sym (frac_of-value d is.divisor)) (number_lined known n (i + 1 + tree_size t) d is.divisor) in
      let operands : AreOperandsOf known n (i + 1) ts ps = operands_are known n (i + 1) 2 (t ∷ number d.m d.e ∷ []) ps (omega arith) (lined (i + 1), (second, tt)) in
      let within : AreOperands n ps = (multiple_within n j m.factor low, (number_within n (frac_of d), tt)) in
      let some : is_zero y ≡ false = nonzero_test y false (λ z. absurd (is.some (sym (frac_of-value d is.divisor) ∙ z))) refl in
      let fine : products_fit n (inverse_of y) (multiple_line j x) ≡ true = multiple_fits n (inverse_of y) x j low ∙ ap fits (sym quotient_value) ∙ frac_fits_lem f in
      let comes : Operates n Quotient (lines_of_parts ps) (Made (Variable j f)) =
      quotient_comes n (multiple_line j x) (constant_line y) (Made (Variable j f)) (inverse_of y) refl (sym (number_constant n y)) some
      (fine, multiple_scaled n (inverse_of y) x j (frac_value f) quotient_value, low) in
      operator_folded known n i Quotient ts ps refl refl within operands (Variable j f) comes.0 comes.1 low

quotient_class : class_of 3 ≡ Quotient
unfolding class_of
quotient_class = refl

-- the quotient of a multiple at the next place
pub quotient_multiple : (ns : List Node) (p : ℕ) (m : Multiple) (d : Dec) (g f : Frac)
    → drop p ns ≡ Op 3 2 ∷ drop (p + 1) ns → IsMultipleAt ns (p + 1) m → IsNumberAt ns (p + 1 + m.size) d → IsInverse d g
    → frac_value f ≡ frac_value m.factor *ℚ frac_value g → IsMultipleAt ns p
    (record { variable = m.variable; factor = f; size = m.size + 2 })
quotient_multiple ns p m d g f here at last is value =
    let t = at.tree in
    let end : p + 1 + m.size + 1 ≡ p + (m.size + 2) = omega arith in
    let rest : trees_of (drop (p + 1 + m.size) ns) ≡ number d.m d.e ∷ trees_of (drop (p + (m.size + 2)) ns) = ap trees_of last.first ∙ ap (λ q. number d.m d.e ∷ trees_of (drop q ns)) end in
    record {
      tree = operator (class_of 3) (more t (more (number d.m d.e) none));
      trees = ap trees_of here ∙ ap (with_node (Op 3 2)) (at.trees ∙ ap (λ ts. t ∷ ts) rest);
      size = (let s = at.size in omega arith);
      within = (let w = last.within in omega arith);
      lined = λ known n i low.
          subst (λ c. IsLined known n i (operator c (more t (more (number d.m d.e) none))) (multiple_line m.variable (frac_value f))) (sym quotient_class)
          (quotient_lined known n i t m d g f is value low (λ q. at.lined known n q low));
    }

-- the quotient of a variable by a number, which are the next two nodes
pub variable_quotient_is : (ns : List Node) (p : ℕ) (a b : Node) (m : Multiple) → p + 3 ≤ length ns
    → drop p ns ≡ Op 3 2 ∷ drop (p + 1) ns → a ≡ get_or ns (p + 1) a → b ≡ get_or ns (p + 2) b → IsVariableOver a b m
    → IsMultipleAt ns p m
variable_quotient_is ns p (Var j) (Num d) m within here first second is =
    let dividend : Multiple = record { variable = j; factor = one_frac; size = 1 } in
    let end : p + 2 ≡ p + 1 + 1 = omega arith in
    let at : IsMultipleAt ns (p + 1) dividend =
    record {
      tree = variable j;
      trees = ap trees_of (node_here ns (p + 1) (Var j) (omega arith) first);
      size = refl;
      within = omega arith;
      lined = λ known n i low. multiple_lined known n i j (frac_value one_frac) one_value low;
    } in
    let last : IsNumberAt ns (p + 1 + 1) d = subst (λ q. IsNumberAt ns q d) end (number_stands ns (p + 2) (Num d) d (omega arith) second refl) in
    subst (IsMultipleAt ns p) (sym is.1)
    (quotient_multiple ns p dividend d m.factor m.factor here at last is.0 (sym (ap (λ x. x *ℚ frac_value m.factor) one_value ∙ one-*ℚ (frac_value m.factor))))
variable_quotient_is ns p (Var j) b m within here first second is = absurd is
variable_quotient_is ns p a b m within here first second is = absurd is

pub list_at : (ns : List Node) (x : Node) (o k : ℕ) → 0 < length ns → x ≡ get_or ns 0 x → x ≡ Op o k → o ≡ 54 → IsListOf ns k
list_at ns x o k some at is list = record { some = omega arith; first = node_here ns 0 x some at ∙ ap (λ y. y ∷ drop 1 ns) (is ∙ ap (λ m. Op m k) list) }

-- ---- one leaf more
decimals_more : (n v : ℕ) (ds : List DecimalTerm) (d : DecimalTerm) → n ≤ v → AreDecimals n ds
    → AreBelow v (fraction_terms ds) → v ≤ d.0 → dec_value d.1 ≢ zero_ℚ → fits (dec_value d.1) ≡ true
    → AreDecimals n (ds ++ d ∷ [])
decimals_more n v [] d low a b up live fit = (omega arith, live, fit, tt)
decimals_more n v (x ∷ ds) d low a b up live fit = (a.0, a.1, a.2, decimals_more (suc x.0) v ds d b.0 a.3 b.1 up live fit)

one_fraction : (ds : List DecimalTerm) (d : DecimalTerm) → fraction_terms (ds ++ d ∷ []) ≡ fraction_terms ds ++ (d.0, frac_of d.1) ∷ []
one_fraction ds d = map-append fraction_term ds (d ∷ [])

-- a term behind those before it
module _ (ts : List Term) (least j : ℕ) (f : Frac) (below : AreBelow least ts) (up : least ≤ j) where
  free : coef_in ts j ≡ zero_ℚ
  free = ap value_or_zero (found_beyond least ts j below up)

  coef_fine : (i : ℕ) → sum_fits (coef_in ts i) ((multiple_line j (frac_value f)).coef i) ≡ true
  coef_fine i =
      ⊎_elim
      (λ (e : i ≡ j). ap₂ sum_fits (ap (coef_in ts) e ∙ free) (multiple_at i j (frac_value f) e) ∙ zero_sum_fits (frac_value f) (frac_fits_lem f))
      (λ (apart : i ≢ j). ap (sum_fits (coef_in ts i)) (multiple_apart i j (frac_value f) apart) ∙ sum_fits_zero (coef_in ts i) (coef_fits ts i))
      (cases_eq i j)

  term_fits : (n : ℕ) (c : ℚ) → fits c ≡ true → sums_fit n (parts_line c ts) (multiple_line j (frac_value f)) ≡ true
  term_fits n c fine = and_from _ _ (sum_fits_zero c fine) (all_below-intro (λ i. sum_fits (coef_in ts i) ((multiple_line j (frac_value f)).coef i)) n (λ i p. coef_fine i))

  term_line : (c : ℚ) → parts_line c (ts ++ (j, f) ∷ []) ≡ line_sum (parts_line c ts) (multiple_line j (frac_value f))
  term_line c =
      same_line (parts_line c (ts ++ (j, f) ∷ [])) (line_sum (parts_line c ts) (multiple_line j (frac_value f))) (sym (+ℚ_zero c))
      (λ i.
      adds_at (coef_in ts) (coef_in (ts ++ (j, f) ∷ [])) j (frac_value f)
      (ap value_or_zero (found_last ts (j, f) (found_beyond least ts j below up)) ∙ sym (zero-+ℚ (frac_value f)) ∙ ap (λ x. x +ℚ frac_value f) (sym free))
      (λ q apart. ap value_or_zero (found_other ts (j, f) q apart)) i
      ∙ ap (λ x. coef_in ts i +ℚ x) (sym (zero-+ℚ (frac_value f *ℚ one_if (i == j)))))

  term_below : AreBelow (j + 1) (ts ++ (j, f) ∷ [])
  term_below = below_append (j + 1) ts ((j, f) ∷ []) (below_from least (j + 1) ts (omega arith) below) (omega arith, tt)

module _ (n : ℕ) (old : LeafSum) (held : AreLeaves n old) (j : ℕ) (d : Dec) (up : old.least ≤ j) (low : j < n) (live : dec_value d ≢ zero_ℚ) (fit : fits (dec_value d) ≡ true) where
  pub multiple_added : (new : LeafSum) → new.terms ≡ old.terms ++ (j, d) ∷ [] → new.number ≡ old.number → new.least ≡ j + 1 → AddsLeaf n old (Some j) d new
  multiple_added new terms_are number_is least_is =
      let ts : List Term = fraction_terms old.terms in
      let f : Frac = frac_of d in
      let value : frac_value f ≡ dec_value d = frac_of-value d fit in
      let here : fraction_terms new.terms ≡ ts ++ (j, f) ∷ [] = ap fraction_terms terms_are ∙ one_fraction old.terms (j, d) in
      record {
        leaves =
            record {
              decimals = subst (AreDecimals 0) (sym terms_are) (decimals_more 0 old.least old.terms (j, d) (omega arith) held.decimals held.below up live fit);
              below = subst₂ (λ m xs. AreBelow m xs) (sym least_is) (sym here) (term_below ts old.least j f held.below up);
              few = (let e = least_is in omega arith);
            };
        fine = fit;
        inside = low;
        fit = subst (λ x. sums_fit n (leaves_line old) (multiple_line j x) ≡ true) value (term_fits ts old.least j f held.below up n (value_or_zero old.number) (fits_or_zero old.number));
        line =
            ap₂ (λ o xs. parts_line (value_or_zero o) xs) number_is here
            ∙ term_line ts old.least j f held.below up (value_or_zero old.number)
            ∙ ap (λ x. line_sum (leaves_line old) (multiple_line j x)) value;
        more = (let e = least_is in let f : number_count new.number ≡ number_count old.number = ap number_count number_is in omega arith);
      }

pub number_added : (n : ℕ) (old new : LeafSum) (d : Dec) (f : Frac) → AreLeaves n old → old.number ≡ None
    → fits (dec_value d) ≡ true → frac_value f ≡ dec_value d → new.terms ≡ old.terms → new.number ≡ Some f
    → new.least ≡ old.least → AddsLeaf n old None d new
number_added n old new d f held free fit is terms_are number_is least_is =
    record {
      leaves =
          record {
            decimals = subst (AreDecimals 0) (sym terms_are) held.decimals;
            below = subst₂ (λ m ts. AreBelow m (fraction_terms ts)) (sym least_is) (sym terms_are) held.below;
            few = (let e = least_is in let h = held.few in omega arith);
          };
      fine = fit;
      inside = tt;
      fit =
          and_from _ _ (ap (λ o. sum_fits (value_or_zero o) (dec_value d)) free ∙ zero_sum_fits (dec_value d) fit)
          (all_below-intro (λ i. sum_fits (coef_in (fraction_terms old.terms) i) zero_ℚ) n (λ i p. sum_fits_zero (coef_in (fraction_terms old.terms) i) (coef_fits (fraction_terms old.terms) i)));
      line =
          same_line (leaves_line new) (line_sum (leaves_line old) (constant_line (dec_value d)))
          (ap value_or_zero number_is ∙ is ∙ sym (zero-+ℚ (dec_value d)) ∙ ap (λ o. value_or_zero o +ℚ dec_value d) (sym free))
          (λ i. ap (λ ts. coef_in (fraction_terms ts) i) terms_are ∙ sym (+ℚ_zero (coef_in (fraction_terms old.terms) i)));
      more = (let e = least_is in let g : number_count new.number ≡ 1 = ap number_count number_is in let h : number_count old.number ≡ 0 = ap number_count free in omega arith);
    }

-- ---- sums
leaf_zero_from : (n : ℕ) (j : Option ℕ) (x : ℚ) → IsVariableOf n j → IsZeroFrom n (leaf_line j x)
leaf_zero_from n None x low = λ i g. refl
leaf_zero_from n (Some j) x low = multiple_zero_from n j x low

pub nothing_more : (known : Point → Known) (n i : ℕ) (l : Line) → SumsUpTo known n i none l l
nothing_more known n i l = record { clean = refl; lines = tt; fit = refl; sum = refl }

-- a leaf before trees
one_more : (known : Point → Known) (n i : ℕ) (t : Tree) (ts : Trees) (a b l leaf : Line) → IsLined known n i t leaf
    → IsZeroFrom n leaf → sums_fit n a leaf ≡ true → b ≡ line_sum a leaf → SumsUpTo known n (i + tree_size t) ts b l
    → SumsUpTo known n i (more t ts) a l
one_more known n i t ts a b l leaf lined zero_from fit line rest =
    let same : leaf ≡ tree_line known t = is_line_by n (λ at. tree_given (known at) t at) leaf zero_from lined.1 in
    record {
      clean = ap (λ o. option_or o (trees_fault known n (i + tree_size t) ts)) lined.0 ∙ rest.clean;
      lines = (same_values n (λ at. tree_given (known at) t at) (tree_line known t) leaf (sym same) lined.1, rest.lines);
      fit = subst (λ m. sums_fit n a m && running_sums_fit n (line_sum a m) (trees_lines known ts) ≡ true) same
          (and_from _ _ fit (ap (λ m. running_sums_fit n m (trees_lines known ts)) (sym line) ∙ rest.fit));
      sum = subst (λ m. running_line (line_sum a m) (trees_lines known ts) ≡ l) same (ap (λ m. running_line m (trees_lines known ts)) (sym line) ∙ rest.sum);
    }

-- a sum of trees that begins at 0
pub sum_folded : (known : Point → Known) (n : ℕ) (ts : Trees) (l : Line) (form : Form) → 1 ≤ count_of ts
    → SumsUpTo known n 1 ts zero_line l → form_line form ≡ l → IsFolded known n 0 (operator SumOfAll ts) (Whole form)
sum_folded known n none l form some s is = absurd (omega arith)
sum_folded known n (more t ts) l form some s is =
    let first = tree_line known t in
    let rest = trees_lines known ts in
    let same : line_sum zero_line first ≡ first = zero_line_sum first in
    let clean : operator_fault n SumOfAll (first ∷ rest) ≡ None = ap too_wide_unless (ap (λ m. running_sums_fit n m rest) (sym same) ∙ (and_parts _ _ s.fit).1) in
    let line : form_line form ≡ operator_line n SumOfAll (first ∷ rest) = is ∙ sym s.sum ∙ ap (λ m. running_line m rest) same in (
      ap₂ option_or s.clean (ap (fault_at 0) clean),
      same_values n _ (form_line form) _ line
          (λ at.
          ap (option_and_then (applied (rule_of SumOfAll))) (values_are known n (more t ts) (first ∷ rest) s.lines at)
          ∙ operator_has_line n SumOfAll (first ∷ rest) (omega arith) clean at),
    )

list_class : class_of 54 ≡ SumOfAll
unfolding class_of
list_class = refl

-- the leaf at a place before trees of the nodes after it
pub leaf_more : (known : Point → Known) (n : ℕ) (ns : List Node) (place m count : ℕ) (leaf : Leaf) (old new : LeafSum)
    (l : Line) → IsLeafAt ns place leaf → AddsLeaf n old leaf.variable leaf.factor new → count ≡ suc m
    → SumsUpTo known n (place + leaf.size) (first_trees m (trees_of (drop (place + leaf.size) ns))) (leaves_line new) l
    → SumsUpTo known n place (first_trees count (trees_of (drop place ns))) (leaves_line old) l
leaf_more known n ns place m count leaf old new l at adds e rest =
    let left = trees_of (drop (place + leaf.size) ns) in
    subst₂ (λ k ts. SumsUpTo known n place (first_trees k ts) (leaves_line old) l) (sym e) (sym at.trees)
    (one_more known n place at.tree (first_trees m left) (leaves_line old) (leaves_line new) l
    (leaf_line leaf.variable (dec_value leaf.factor)) (at.lined known n place adds.fine adds.inside)
    (leaf_zero_from n leaf.variable (dec_value leaf.factor) adds.inside) adds.fit adds.line
    (subst (λ s. SumsUpTo known n (place + s) (first_trees m left) (leaves_line new) l) (sym at.size) rest))

-- no leaf is left
pub leaves_end : (known : Point → Known) (n place left : ℕ) (ts : List Tree) (l : Line) → left ≡ 0 → SumsUpTo known n place (first_trees left ts) l l
leaves_end known n place left ts l e = subst (λ k. SumsUpTo known n place (first_trees k ts) l l) (sym e) (nothing_more known n place l)

-- the multiple at a place before trees of the nodes after it
pub multiple_more : (known : Point → Known) (n : ℕ) (ns : List Node) (place least k count : ℕ) (m : Multiple)
    (old new : List Term) (l : Line) → IsMultipleAt ns place m → AreBelow least old → Appends n least old m new
    → count ≡ suc k → SumsUpTo known n (place + m.size) (first_trees k (trees_of (drop (place + m.size) ns)))
    (parts_line zero_ℚ new) l → SumsUpTo known n place (first_trees count (trees_of (drop place ns)))
    (parts_line zero_ℚ old) l
multiple_more known n ns place least k count m old new l at below adds e rest =
    let left = trees_of (drop (place + m.size) ns) in
    subst₂ (λ c ts. SumsUpTo known n place (first_trees c ts) (parts_line zero_ℚ old) l) (sym e) (sym at.trees)
    (one_more known n place at.tree (first_trees k left) (parts_line zero_ℚ old) (parts_line zero_ℚ new) l
    (multiple_line m.variable (frac_value m.factor)) (at.lined known n place adds.inside)
    (multiple_zero_from n m.variable (frac_value m.factor) adds.inside)
    (term_fits old least m.variable m.factor below adds.up n zero_ℚ fits_zero)
    (ap (parts_line zero_ℚ) adds.terms ∙ term_line old least m.variable m.factor below adds.up zero_ℚ)
    (subst (λ s. SumsUpTo known n (place + s) (first_trees k left) (parts_line zero_ℚ new) l) (sym at.size) rest))

pub terms_from : (least n : ℕ) (ts : List Term) → least ≤ n → AreTerms least ts → AreTerms n ts
terms_from least n ts few held = record { ascending = held.ascending; below = below_from least n ts few held.below }

pub terms_more : (n least : ℕ) (m : Multiple) (old new : List Term) → AreTerms least old → Appends n least old m new → AreTerms (m.variable + 1) new
terms_more n least m old new held adds =
    record {
      ascending = subst (AreAscending 0) (sym adds.terms) (ascending_append 0 least old ((m.variable, m.factor) ∷ []) (omega arith) held.ascending held.below (adds.up, adds.some, tt));
      below = subst (AreBelow (m.variable + 1)) (sym adds.terms) (term_below old least m.variable m.factor held.below adds.up);
    }

-- ---- the form
list_folded : (known : Point → Known) (n : ℕ) (ns : List Node) (k : ℕ) (l : Line) (form : Form) (t : Tree)
    → IsTreeFormed t → IsListOf ns k → trees_of ns ≡ t ∷ [] → SumsUpTo known n 1 (first_trees k (trees_of (drop 1 ns)))
    zero_line l → form_line form ≡ l → IsFolded known n 0 t (Whole form)
list_folded known n ns k l form t formed list one s is =
    let ts = first_trees k (trees_of (drop 1 ns)) in
    let same : operator (class_of 54) ts ≡ t = sym (ap (λ xs. first_of_trees (trees_of xs)) list.first) ∙ ap first_of_trees one in
    let some : 1 ≤ count_of ts = subst (λ c. Takes (rule_of c) (count_of ts)) list_class (subst IsTreeFormed (sym same) formed).0 in
    subst (λ u. IsFolded known n 0 u (Whole form)) (ap (λ c. operator c ts) (sym list_class) ∙ same) (sum_folded known n ts l form some s is)

pub form_of_terms : (n least : ℕ) (ns : List Node) (k : ℕ) (c : ℚ) (ts : List Term) (form : Form) → IsListOf ns k
    → least ≤ n → AreBelow least ts → ((known : Point → Known)
    → SumsUpTo known n 1 (first_trees k (trees_of (drop 1 ns))) zero_line (parts_line c ts))
    → form_line form ≡ parts_line c ts → IsFormOf n ns form
form_of_terms n least ns k c ts form list few below sums line =
    record {
      folded = λ known t formed one. list_folded known n ns k (parts_line c ts) form t formed list one (sums known) line;
      within = λ j g. ap (λ l. l.coef j) line ∙ ap value_or_zero (found_beyond least ts j below (omega arith));
    }

pub if_some : {A : Type 0} (o : Option A) (P Q : A → Type 0) → ((x : A) → P x → Q x) → IfSome o P → IfSome o Q
if_some None P Q f h = h
if_some (Some x) P Q f h = f x h

-- ---- steps
pub leaf_bound : (n new from len size : ℕ) → len ≡ size → 0 < len → new ≤ from + (n + 1) → new ≤ from + 2 * (n + 1) * size
leaf_bound n new from len size e some h = subst (λ k. new ≤ from + 2 * (n + 1) * k) e (few_steps (2 * (n + 1)) len from new some (omega arith))

-- those of leaves that were given up, and those of the tree
pub tree_bound : (n new mid from len size : ℕ) → len ≡ size → mid ≤ from + (n + 1) → new + (n + 1) ≤ mid + 2 * (n + 1) * len → new ≤ from + 2 * (n + 1) * size
tree_bound n new mid from len size e h k = subst (λ s. new ≤ from + 2 * (n + 1) * s) e (omega arith)

pub some_holds : {A : Type 0} (o : Option A) (x : A) (P : A → Type 0) → o ≡ Some x → IfSome o P → P x
some_holds o x P e h = subst (λ p. IfSome p P) e h
