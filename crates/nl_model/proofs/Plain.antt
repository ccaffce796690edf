-- Files whose trees are numbers are linear.
use Rattle.std.proofs.Common.{◌≡◌, ℕ, ◌∙◌, sym, ap, ap₂, refl, Bool, true, false, ◌==◌, nat_eq, cond, Some, List, [], ◌∷◌}
use Rattle.exact_numbers.specs.Values.{dec_value}
use Rattle.exact_numbers.specs.Functions.{or_zero}
use Rattle.exact_numbers.specs.Rational.{ℚ, zero_ℚ, ◌+ℚ◌, ◌*ℚ◌, ◌-ℚ◌, decimal_value}
use Rattle.exact_numbers.specs.Sums.{sum_over}
use Rattle.exact_numbers.proofs.RationalLaws.{*ℚ_zero, *ℚ_one, +ℚ_zero}
use Rattle.exact_numbers.proofs.Adding.{sum_over-map, sum_over_same, sum_over-zero}
use Rattle.exact_numbers.proofs.Ring.{ring, v, ◌⊕◌, ◌⊖◌}
use Rattle.linear_program.specs.Linear.{value_at, linear_part, form_value}
use Rattle.nl_model.specs.Faults.{expression_line, line_with_terms}
use Rattle.linear_program.specs.Lines.{constant_line, Line, line_value, origin, unit_point, one_if, Point, form_of_line}
use Rattle.nl_model.specs.Trees.{Tree, number, variable, defined, operator, Expression, Definition, known_values, tree_value, expression_value, AreTermsBelow, LinearTerm}
use Rattle.linear_program.proofs.LineLemmas.{line_by_lem}
use Rattle.nl_model.proofs.Linear.{HasValues, constant_value, terms_added}
use Rattle.nl_model.specs.File.{Term, File}
use Rattle.nl_model.specs.Expressions.{linear_terms, definitions_of, body_of, objective_of}
use Rattle.nl_model.specs.LinearFile.{HasLines, IsFormedFile, IsNumber, number_value, IsPlain}
use Rattle.linear_program.specs.Decimals.{coefficient_of}

-- a tree that is one number has its value everywhere
number_val : (ds : List Definition) (t : Tree) → IsNumber t → (at : Point) → tree_value ds t at ≡ Some (number_value t)
number_val ds (number m e) h at = refl
number_val ds (variable j) h at = absurd h
number_val ds (defined i) h at = absurd h
number_val ds (operator c ts) h at = absurd h

number_line : (n : ℕ) (ds : List Definition) (t : Tree) → IsNumber t → HasValues n (tree_value ds t) (constant_line (number_value t))
number_line n ds t h at = number_val ds t h at ∙ ap Some (sym (constant_value n (number_value t) at))

-- an expression whose tree is one number has the values of its line
pub plain_line : (n : ℕ) (ds : List Definition) (x : Expression) → IsNumber x.tree → AreTermsBelow n x.terms → HasValues n (expression_value ds x) (expression_line ds x)
plain_line n ds x h below =
    line_by_lem n (expression_value ds x) (line_with_terms (constant_line (number_value x.tree)) x.terms)
    (terms_added n (known_values ds) x (constant_line (number_value x.tree)) below (number_line n ds x.tree h))

-- its value: the number and its terms
plain_value : (ds : List Definition) (t : Tree) (ts : List Term) → IsNumber t → (at : Point)
    → expression_value ds (record { tree = t; terms = linear_terms ts }) at
    ≡ Some (number_value t +ℚ sum_over (λ s. dec_value s.1 *ℚ at s.0) ts)
plain_value ds (number m e) ts h at = ap (λ s. Some (decimal_value m e +ℚ s))
    (sum_over-map (λ (u : LinearTerm). u.factor *ℚ at u.variable)
    (λ (t : Term). record { variable = t.0; factor = dec_value t.1 }) ts)
plain_value ds (variable j) ts h at = absurd h
plain_value ds (defined i) ts h at = absurd h
plain_value ds (operator c us) ts h at = absurd h

at_origin : (ts : List Term) → sum_over (λ s. dec_value s.1 *ℚ origin s.0) ts ≡ zero_ℚ
at_origin ts = sum_over_same (λ s. dec_value s.1 *ℚ origin s.0) (λ s. zero_ℚ) ts (λ s. *ℚ_zero (dec_value s.1)) ∙ sum_over-zero ts

one_or_none : (b : Bool) (x : ℚ) → x *ℚ one_if b ≡ cond b x zero_ℚ
one_or_none true x = *ℚ_one x
one_or_none false x = *ℚ_zero x

at_unit : (ts : List Term) (j : ℕ) → sum_over (λ s. dec_value s.1 *ℚ unit_point j s.0) ts ≡ coefficient_of ts j
unfolding coefficient_of
at_unit ts j = sum_over_same (λ s. dec_value s.1 *ℚ unit_point j s.0) (λ s. cond (nat_eq s.0 j) (dec_value s.1) zero_ℚ) ts (λ s. one_or_none (s.0 == j) (dec_value s.1))

less_first : (x y : ℚ) → (x +ℚ y) -ℚ x ≡ y
less_first x y = ring (x ∷ y ∷ []) ((v 0 ⊕ v 1) ⊖ v 0) (v 1) refl

pub plain_constant : (ds : List Definition) (t : Tree) (ts : List Term) → IsNumber t → (expression_line ds (record { tree = t; terms = linear_terms ts })).constant ≡ number_value t
plain_constant ds t ts h = ap or_zero (plain_value ds t ts h origin) ∙ ap (λ s. number_value t +ℚ s) (at_origin ts) ∙ +ℚ_zero (number_value t)

pub plain_coefficient : (ds : List Definition) (t : Tree) (ts : List Term) → IsNumber t → (j : ℕ) → (expression_line ds (record { tree = t; terms = linear_terms ts })).coef j ≡ coefficient_of ts j
plain_coefficient ds t ts h j =
    ap₂ (λ a b. or_zero a -ℚ b) (plain_value ds t ts h (unit_point j)) (plain_constant ds t ts h)
    ∙ ap (λ s. (number_value t +ℚ s) -ℚ number_value t) (at_unit ts j)
    ∙ less_first (number_value t) (coefficient_of ts j)

-- a line's value is its form's
pub form_value_lem : (n : ℕ) (l : Line) (xs : List ℚ) → line_value n l (value_at xs) ≡ form_value (form_of_line l) n xs
unfolding linear_part
form_value_lem n l xs = refl

pub plain_has_lines : (f : File) (k : ℕ) → IsFormedFile f k → IsPlain f k → HasLines f k
plain_has_lines f k formed plain =
    record {
      bodies = λ i h xs. plain_line f.counts.n_var (definitions_of f) (body_of f i) (plain.bodies i h)
          (formed.bodies i h).terms (value_at xs) ∙ ap Some (form_value_lem f.counts.n_var
          (expression_line (definitions_of f) (body_of f i)) xs);
      objective = λ xs. plain_line f.counts.n_var (definitions_of f) (objective_of f k) plain.objective
          formed.objective.terms (value_at xs) ∙ ap Some (form_value_lem f.counts.n_var
          (expression_line (definitions_of f) (objective_of f k)) xs);
    }
