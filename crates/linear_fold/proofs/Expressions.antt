-- Terms that ascend, and trees with their terms.
use Rattle.std.proofs.Common.{◌≡◌, ◌≢◌, ℕ, suc, ◌+◌, ◌<◌, ◌≤◌, ◌∙◌, sym, ap, refl, subst, arith, true, false, ◌&&◌}
use Rattle.std.proofs.Common.{Some, None, List, [], ◌∷◌, ◌++◌, drop, length, zero, ◌*◌, ap₂, Option, Ok, Err}
use Rattle.std.proofs.Common.{length-append, get_or, pos}
use Rattle.std.specs.Option.{option_or}
use Rattle.std.proofs.lemmas.Bool.{and_from}
use Rattle.exact_numbers.specs.declared.frac.Frac.{Frac}
use Rattle.exact_numbers.specs.Values.{frac_value}
use Rattle.exact_numbers.specs.Fits.{fits, sum_fits}
use Rattle.exact_numbers.specs.Rational.{ℚ, zero_ℚ, ◌+ℚ◌, one_ℚ, ◌*ℚ◌}
use Rattle.exact_numbers.proofs.RationalLaws.{zero-+ℚ, *ℚ_zero, +ℚ_zero}
use Rattle.nl_model.specs.declared.fault.Fault.{Fault}
use Rattle.nl_model.specs.Faults.{fault_at, too_wide_unless, line_with_terms, terms_fault, tree_fault}
use Rattle.linear_program.specs.Lines.{line_with, Line, line_value, constant_line, products_fit, Point}
use Rattle.nl_model.specs.Trees.{LinearTerm, Known, Tree, Trees, AreTermsBelow, tree_size, trees_size, tree_given, number}
use Rattle.nl_model.specs.File.{Term as FileTerm}
use Rattle.nl_model.specs.Expressions.{linear_terms}
use Rattle.linear_program.specs.Coefs.{Term, found, value_or_zero, coef_in, AreAscending, AreBelow}
use Rattle.linear_fold.specs.InsideLinearTerms.{AreStrictlyAscending, AreZeroTerms}
use Rattle.linear_program.proofs.Closing.{found_last, found_other}
use Rattle.linear_program.proofs.CoefLemmas.{adds_at, ascending_append, below_append, below_from, found_beyond, nothing_added}
use Rattle.exact_numbers.proofs.Zeros.{fits_zero, sum_fits_zero, zero_frac_fits}
use Rattle.linear_program.proofs.Scaled.{same_line}
use Rattle.linear_program.specs.Decimals.{DecimalTerm, AreDecimals}
use Rattle.linear_program.proofs.DecimalLemmas.{AllFit}
use Rattle.std.proofs.lemmas.List.{drop_more}
use Rattle.std.proofs.lemmas.List.Elements.{All-head, All-tail}
use Rattle.text_base.specs.declared.stop.Stop.{Stop}
use Rattle.text_base.specs.declared.stop.Stop.TheVariants.{Fault as Stopped}
use Rattle.exact_numbers.proofs.Bridge.{zero_decimal}
use Rattle.nl_model.proofs.Linear.{terms_added}
use Rattle.linear_program.proofs.LineLemmas.{apart-eqb}
use Rattle.nl_model.specs.declared.node.Node.{Node}
use Rattle.nl_model.specs.Nodes.{IsPrefix, a_number, a_variable, a_defined, an_operation, ArePrefixes, no_tree, one_more}
use Rattle.nl_model.specs.Rules.{AreTermsBelow as AreFileTermsBelow}
use Rattle.linear_fold.specs.declared.entries.Entry.{Entry}
use Rattle.linear_fold.specs.declared.entries.Entry.TheVariants.{Linear, Broken}
use Rattle.linear_program.specs.declared.form.Form.{Form}
use Rattle.linear_program.specs.declared.too_wide.Wide.{Wide}
use Rattle.linear_program.specs.Forms.{form_line, AddsScaled, IsWithin, IsZeroFrom}
use Rattle.linear_fold.specs.InsideOperates.{zero_line}
use Rattle.linear_fold.specs.InsideFolds.{AreNodesWithin, AreTreesGiven, ComesToTerms, HasLineOf, IsEntryWithin, IsExpressionFolded, IsFolded, IsTreeGiven}
use Rattle.linear_fold.proofs.Folding.{constant_lined, is_line_of, same_values}
use Rattle.linear_fold.proofs.Operators.{FitsLine, copy_fits, multiplied, scaled_by_one}

-- ---- the list
abbrev pub list_line : ℚ → List Term → Line
list_line k ps = record { constant = k; coef = coef_in ps }

-- terms were listed; the first of those that are left has the number j
pub record IsListed (a : Line) (i : ℕ) (ts : List LinearTerm) (k : ℚ) (out : List Term) (j : ℕ) (rest : List LinearTerm) : Type 0 where
  pub fault : terms_fault (list_line k out) j rest ≡ terms_fault a i ts
  pub line : line_with_terms (list_line k out) rest ≡ line_with_terms a ts
  pub ascending : AreAscending 0 out
  pub bound : ℕ
  pub below : AreBelow bound out
  pub above : AreStrictlyAscending bound rest

pub none_listed : (i : ℕ) (ts : List LinearTerm) (k : ℚ) → AreStrictlyAscending 0 ts → IsListed (list_line k []) i ts k [] i ts
none_listed i ts k a = record { fault = refl; line = refl; ascending = tt; bound = 0; below = tt; above = a }

module _ (a : Line) (i : ℕ) (ts : List LinearTerm) (k : ℚ) (out : List Term) (j : ℕ) (t : LinearTerm) (rest : List LinearTerm) (l : IsListed a i ts k out j (t ∷ rest)) where
  lower : AreBelow t.variable out
  lower = below_from l.bound t.variable out l.above.0 l.below

  nothing : found out t.variable ≡ None
  nothing = found_beyond t.variable out t.variable lower (omega arith)

  module _ (f : Frac) (fine : fits t.factor ≡ true) (is : frac_value f ≡ t.factor) where
    -- the sum of a list and of a term behind it is the list with that term
    pub one_more_line : list_line k (out ++ (t.variable, f) ∷ []) ≡ line_with (list_line k out) t.variable t.factor
    one_more_line =
        same_line (list_line k (out ++ (t.variable, f) ∷ [])) (line_with (list_line k out) t.variable t.factor) refl
        (adds_at (coef_in out) (coef_in (out ++ (t.variable, f) ∷ [])) t.variable t.factor
        (ap value_or_zero (found_last out (t.variable, f) nothing) ∙ is ∙ sym (zero-+ℚ t.factor) ∙ ap (λ o. value_or_zero o +ℚ t.factor) (sym nothing))
        (λ q n. ap value_or_zero (found_other out (t.variable, f) q n)))

    sum_fine : sum_fits (coef_in out t.variable) t.factor ≡ true
    sum_fine = ap (λ o. sum_fits (value_or_zero o) t.factor) nothing ∙ ap (sum_fits zero_ℚ) (sym is) ∙ zero_frac_fits f

    pub one_listed : IsListed a i ts k (out ++ (t.variable, f) ∷ []) (j + 1) rest
    one_listed =
        record {
          fault =
              ap (λ m. terms_fault m (j + 1) rest) one_more_line
              ∙ ap (λ b. option_or (fault_at j (too_wide_unless b)) (terms_fault (line_with (list_line k out) t.variable t.factor) (j + 1) rest)) (sym (and_from _ _ fine sum_fine))
              ∙ l.fault;
          line = ap (λ m. line_with_terms m rest) one_more_line ∙ l.line;
          ascending = ascending_append 0 t.variable out ((t.variable, f) ∷ []) (omega arith) l.ascending lower (omega arith, subst (λ x. x ≢ zero_ℚ) (sym is) l.above.1, tt);
          bound = suc t.variable;
          below = below_append (suc t.variable) out ((t.variable, f) ∷ []) (below_from t.variable (suc t.variable) out (omega arith) lower) (omega arith, tt);
          above = l.above.2;
        }

-- ---- terms that add nothing

pub nothing_listed : (a : Line) (i : ℕ) (ts : List LinearTerm) → ((j : ℕ) → fits (a.coef j) ≡ true) → AreZeroTerms ts → (terms_fault a i ts ≡ None) × (a ≡ line_with_terms a ts)
nothing_listed a i [] f z = (refl, refl)
nothing_listed a i (t ∷ ts) f z =
    let same : a ≡ line_with a t.variable t.factor = same_line a (line_with a t.variable t.factor) refl (nothing_added a.coef t.variable t.factor z.0) in
    let rest = nothing_listed a (i + 1) ts f z.1 in
    let fine : fits t.factor && sum_fits (a.coef t.variable) t.factor ≡ true =
    and_from _ _ (ap fits z.0 ∙ fits_zero) (ap (sum_fits (a.coef t.variable)) z.0
    ∙ sum_fits_zero (a.coef t.variable) (f t.variable)) in (
      ap (λ b. option_or (fault_at i (too_wide_unless b)) (terms_fault (line_with a t.variable t.factor) (i + 1) ts)) fine ∙ ap (λ l. terms_fault l (i + 1) ts) (sym same) ∙ rest.0,
      rest.1 ∙ ap (λ l. line_with_terms l ts) same,
    )

pub some_term : (ts : List FileTerm) → (AreZeroTerms (linear_terms ts) → ⊥) → 0 < length ts
some_term [] n = absurd (n tt)
some_term (t ∷ ts) n = omega arith

-- ---- terms of a file as decimals
pub are_decimals : (n : ℕ) (ds : List DecimalTerm) → AreStrictlyAscending n (linear_terms ds) → AllFit ds → AreDecimals n ds
are_decimals n [] a f = tt
are_decimals n (d ∷ ds) a f = (a.0, a.1, f.0, are_decimals (suc d.0) ds a.2 f.1)

-- ---- nodes
mutual
  pub prefix_size : {t : Tree} {ns : List Node} → IsPrefix t ns → length ns ≡ tree_size t
  prefix_size (a_number d) = refl
  prefix_size (a_variable j) = refl
  prefix_size (a_defined i) = refl
  prefix_size (an_operation o ts ns k h) = let r = prefixes_size h in omega arith

  prefixes_size : {ts : Trees} {ns : List Node} → ArePrefixes ts ns → length ns ≡ trees_size ts
  prefixes_size no_tree = refl
  prefixes_size (one_more t ns ts ms h k) = length-append ns ms ∙ ap₂ (λ a b. a + b) (prefix_size h) (prefixes_size k)

pub nodes_append : (n : ℕ) (slots : List (Option Form)) (xs ys : List Node) → AreNodesWithin n slots xs → AreNodesWithin n slots ys → AreNodesWithin n slots (xs ++ ys)
nodes_append n slots [] ys a b = b
nodes_append n slots (x ∷ xs) ys a b = (a.0, nodes_append n slots xs ys a.1 b)

mutual
  pub prefix_within : (n : ℕ) (slots : List (Option Form)) {t : Tree} {ns : List Node} → IsPrefix t ns → IsTreeGiven n slots t → AreNodesWithin n slots ns
  prefix_within n slots (a_number d) g = (tt, tt)
  prefix_within n slots (a_variable j) g = (g, tt)
  prefix_within n slots (a_defined i) g = (g, tt)
  prefix_within n slots (an_operation o ts ns k h) g = (tt, prefixes_within n slots h g)

  prefixes_within : (n : ℕ) (slots : List (Option Form)) {ts : Trees} {ns : List Node} → ArePrefixes ts ns → AreTreesGiven n slots ts → AreNodesWithin n slots ns
  prefixes_within n slots no_tree g = tt
  prefixes_within n slots (one_more t ns ts ms h k) g = nodes_append n slots ns ms (prefix_within n slots h g.0) (prefixes_within n slots k g.1)

-- ---- a form added to a sum that is 0
module _ (z : Line) (empty : z ≡ zero_line) (a : Line) (k : ℚ) (one : k ≡ one_ℚ) (n : ℕ) (za : IsZeroFrom n a) where
  pub put_line : (new : Line) → AddsScaled z k a new (Ok tt) → new ≡ a
  put_line new h = (multiplied z empty a k n za new (Ok tt) h).1 ∙ scaled_by_one k a one

  pub put_fits : (new : Line) (s : Stop Wide) (w : Wide) → s ≡ Stopped w → FitsLine a → AddsScaled z k a new (Err s) → ⊥
  put_fits new s w is fit h =
      let wide : products_fit n k a ≡ false = multiplied z empty a k n za new (Err (Stopped w)) (subst (λ e. AddsScaled z k a new (Err e)) is h) in
      let clash : true ≡ false = sym (copy_fits n k a one fit) ∙ wide in
      cc

-- ---- terms
pub term_at : (ts : List FileTerm) (i : ℕ) (t : FileTerm) → i < length ts → t ≡ get_or ts i t → drop i ts ≡ t ∷ drop (i + 1) ts
term_at ts i t h e = drop_more ts i t h ∙ ap (λ x. x ∷ drop (i + 1) ts) (sym e)

pub terms_formed : (n : ℕ) (ts : List FileTerm) → AreFileTermsBelow n ts → AreTermsBelow n (linear_terms ts)
terms_formed n [] h = tt
terms_formed n (t ∷ ts) h = (All-head (λ s. s.0 < n) t ts h, terms_formed n ts (All-tail (λ s. s.0 < n) t ts h))

-- a line with terms of the first n variables has no coefficient from n on
pub terms_zero : (n : ℕ) (a : Line) (ts : List LinearTerm) → IsZeroFrom n a → AreTermsBelow n ts → IsZeroFrom n (line_with_terms a ts)
terms_zero n a [] z b = z
terms_zero n a (t ∷ ts) z b =
    terms_zero n (line_with a t.variable t.factor) ts
    (λ j g. let low = b.0 in ap₂ (λ x y. x +ℚ t.factor *ℚ y) (z j g) (apart-eqb j t.variable (λ e. omega arith)) ∙ ap (λ x. zero_ℚ +ℚ x) (*ℚ_zero t.factor) ∙ +ℚ_zero zero_ℚ) b.1

-- ---- a tree with its terms
module _ (known : Point → Known) (n : ℕ) (tree : Tree) (form : Form) (folded : (tree_fault known n 0 tree ≡ None) × HasLineOf n (λ at. tree_given (known at) tree at) form) where
  pub no_terms : (ts : List FileTerm) → ts ≡ [] → IsExpressionFolded known n (record { tree = tree; terms = linear_terms ts }) (Linear form)
  no_terms ts e =
      subst (λ us. IsExpressionFolded known n (record { tree = tree; terms = linear_terms us }) (Linear form)) (sym e)
      (ap (λ f. option_or f None) folded.0, terms_added n known (record { tree = tree; terms = [] }) (form_line form) tt folded.1)

  pub some_terms : (ts : List LinearTerm) (first : ℕ) (e : Entry) → IsWithin n form → tree_size tree ≡ first
      → AreTermsBelow n ts → ComesToTerms (form_line form) first ts e
      → IsExpressionFolded known n (record { tree = tree; terms = ts }) e
  some_terms ts first (Linear g) within size below h =
      let line = is_line_of n (λ at. tree_given (known at) tree at) form within folded.1 in (
        ap₂ option_or folded.0 (ap₂ (λ l i. terms_fault l i ts) (sym line) size ∙ h.0),
        λ at. terms_added n known (record { tree = tree; terms = ts }) (form_line form) below folded.1 at ∙ ap (λ l. Some (line_value n l at)) (sym h.1),
      )
  some_terms ts first (Broken f) within size below h =
      let line = is_line_of n (λ at. tree_given (known at) tree at) form within folded.1 in
      ap₂ option_or folded.0 (ap₂ (λ l i. terms_fault l i ts) (sym line) size ∙ h)

pub entry_within : (n : ℕ) (a : Line) (i : ℕ) (ts : List LinearTerm) (e : Entry) → IsZeroFrom n a → AreTermsBelow n ts → ComesToTerms a i ts e → IsEntryWithin n e
entry_within n a i ts (Linear g) z b h = λ j k. ap (λ l. l.coef j) h.1 ∙ terms_zero n a ts z b j k
entry_within n a i ts (Broken f) z b h = tt

-- the missing tree is the number 0
pub zero_folded : (known : Point → Known) (n : ℕ) (f : Form) → form_line f ≡ constant_line zero_ℚ → IsFolded known n 0 (number (pos 0) (pos 0)) (Linear f)
zero_folded known n f e =
    let zero_is = zero_decimal (pos 0) in (
      ap (λ b. fault_at 0 (too_wide_unless b)) (ap fits zero_is ∙ fits_zero),
      same_values n _ (form_line f) (constant_line zero_ℚ) e (λ at. ap Some zero_is ∙ constant_lined n zero_ℚ at),
    )

-- ---- steps

pub sum_bound : (n new from len : ℕ) → 0 < len → new ≤ from + (n + 1) + len → new ≤ from + 2 * (n + 1) * len
sum_bound n new from zero some h = absurd (omega arith)
sum_bound n new from (suc k) some h = omega arith

-- a term that was added
first_none : (o rest : Option Fault) → option_or o None ≡ None → option_or o rest ≡ rest
first_none None rest e = refl
first_none (Some x) rest e = cc

pub fault_past : (a new : Line) (i : ℕ) (t : LinearTerm) (ts : List LinearTerm)
    → (terms_fault a i (t ∷ []) ≡ None) × (new ≡ line_with_terms a (t ∷ []))
    → terms_fault a i (t ∷ ts) ≡ terms_fault new (i + 1) ts
fault_past a new i t ts h =
    first_none (fault_at i (too_wide_unless (fits t.factor && sum_fits (a.coef t.variable) t.factor))) (terms_fault (line_with a t.variable t.factor) (i + 1) ts) h.0
    ∙ ap (λ m. terms_fault m (i + 1) ts) (sym h.1)

-- the steps of a tree, and then of its terms
pub both_steps : (w a b from mid to : ℕ) → mid ≤ from + 2 * w * a → to ≤ mid + 2 * w * b → to ≤ from + 2 * w * (a + b)
both_steps w a b from mid to h k =
    let split : 2 * w * (a + b) ≡ 2 * w * a + 2 * w * b = omega arith in
    omega arith
