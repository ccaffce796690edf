-- The parts of a linear program, as they are put together.
use Rattle.std.specs.Prelude.{◌≡◌, ℕ, suc, ◌<◌, nat_eq, cond, List, [], ◌∷◌, ◌++◌, length, get_or, slice_get, Some}
use Rattle.std.specs.Global.{Vec}
use Rattle.exact_numbers.specs.declared.frac.Frac.{Frac}
use Rattle.exact_numbers.specs.Values.{frac_value}
use Rattle.linear_program.specs.declared.interval.Interval.{Interval}
use Rattle.linear_program.specs.Coefs.{Term, coef_in}
use Rattle.linear_program.specs.Forms.{form_line, form_terms}
use Rattle.linear_program.specs.declared.form.Form.{Form}
use Rattle.exact_checks.specs.declared.form.Body.{Body}
use Rattle.exact_checks.specs.declared.form.Row.{Row}
use Rattle.exact_checks.specs.Terms.{AreTerms}

-- a body holds the constant and the coefficients of a form
pub record IsCopy (form : Form) (b : Body) : Type 0 where
  pub constant : frac_value b.constant ≡ (form_line form).constant
  pub terms : b.terms ≡ form_terms form

-- rows for bodies and their sides, in order
abbrev pub AreRowsOf : List Form → List Interval → List Row → Type 0
AreRowsOf [] sides [] = Unit {0}
AreRowsOf [] sides (r ∷ rs) = ⊥
AreRowsOf (b ∷ bs) sides [] = ⊥
AreRowsOf (b ∷ bs) [] (r ∷ rs) = ⊥
AreRowsOf (b ∷ bs) (s ∷ ss) (r ∷ rs) = IsCopy b r.body × (r.side ≡ s) × AreRowsOf bs ss rs

-- each row has ascending terms of the first n variables
abbrev pub AreWithin : ℕ → List Row → Type 0
AreWithin n rows = (i : ℕ) (r : Row) → slice_get rows i ≡ Some r → AreTerms 0 n r.body.terms

-- the terms of column j in row i, each with the row's number
unfoldable pub terms_in : ℕ → ℕ → List Term → List Term
terms_in j i [] = []
terms_in j i (t ∷ ts) = cond (nat_eq t.0 j) ((i, t.1) ∷ terms_in j i ts) (terms_in j i ts)

-- column j of rows, of which the first is row i
abbrev pub column_from : ℕ → ℕ → List Row → List Term
column_from j i [] = []
column_from j i (r ∷ rs) = terms_in j i r.body.terms ++ column_from j (suc i) rs

-- the terms of row i are added to their columns
pub record IsAdded (i : ℕ) (old now : List (Vec Term)) (row : List Term) : Type 0 where
  pub count : length now ≡ length old
  pub added : (j : ℕ) (d : Vec Term) → j < length old
      → (get_or now j d).items ≡ (get_or old j d).items ++ terms_in j i row

-- the n columns of rows
pub record AreColumnsOf (n : ℕ) (rows : List Row) (columns : List (Vec Term)) : Type 0 where
  pub count : length columns ≡ n
  pub terms : (j : ℕ) (d : Vec Term) → j < n → (get_or columns j d).items ≡ column_from j 0 rows

-- the n coefficients of terms
pub record AreCostsOf (n : ℕ) (ts : List Term) (costs : List Frac) : Type 0 where
  pub count : length costs ≡ n
  pub values : (j : ℕ) (v : Frac) → slice_get costs j ≡ Some v → frac_value v ≡ coef_in ts j
