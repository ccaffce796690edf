-- The forms of rows, and the linear program that they are of.
use Rattle.std.proofs.Common.{◌≡◌, ℕ, suc, ◌+◌, ◌<◌, ◌≤◌, ◌∙◌, sym, ap, ap₂, refl, subst, subst₂, arith, Bool, true}
use Rattle.std.proofs.Common.{false, not, ◌&&◌, ◌||◌, Some, append-nil, List, [], ◌∷◌, ◌++◌, length, get_or, map, All}
use Rattle.std.proofs.lemmas.List.{length-map, get_or_default}
use Rattle.exact_numbers.specs.Fits.{fits}
use Rattle.std.proofs.lemmas.List.Elements.{All-nil, All-cons, All-head, All-tail}
use Rattle.std.proofs.lemmas.List.Sums.{sum_by-cons}
use Rattle.std.specs.List.{sum_by}
use Rattle.exact_numbers.specs.Rational.{ℚ, zero_ℚ, neg_ℚ}
use Rattle.exact_numbers.specs.declared.dec.Dec.{Dec}
use Rattle.exact_numbers.specs.Values.{dec_value}
use Rattle.linear_program.specs.Linear.{Row}
use Rattle.linear_program.specs.Lines.{Line, form_of_line}
use Rattle.linear_program.specs.Coefs.{AreAscending, coef_in}
use Rattle.linear_program.specs.Decimals.{DecimalTerm, fraction_term}
use Rattle.linear_program.specs.Forms.{form_terms}
use Rattle.linear_program.specs.Intervals.{interval_of}
use Rattle.linear_program.specs.Programs.{IsFormOver, form_of, rows_from}
use Rattle.linear_program.specs.declared.form.Form.{Form}
use Rattle.linear_program.specs.declared.interval.Interval.{Interval as Sides}
use Rattle.linear_program.proofs.DecimalLemmas.{fractions_ascend}
use Rattle.linear_program.proofs.Scaled.{terms_below}
use Rattle.mps_model.specs.declared.kinds.RowKind.{RowKind}
use Rattle.mps_model.specs.Mps.{Mps, MpsRow, no_mps_row, with_values, column_with, row_interval, objective_row, rhs_at}
use Rattle.mps_program.specs.Places.{places, listed}
use Rattle.mps_program.specs.Faults.{is_body_wide, first_wide_body, is_objective_wide}
use Rattle.mps_program.proofs.FirstLemmas.{listed_at, listed_length, none_more, first_here}
use Rattle.mps_program.proofs.PlaceLemmas.{one_where, places_more}
use Rattle.mps_program.specs.Program.{values_of, is_bounded_kind, is_constraint, constraints, coefficient_at, linear_row, linear_rows}
use Rattle.mps_program.specs.Terms.{row_terms, has_wide_term}
use Rattle.mps_program.specs.Decimals.{sides_from}
use Rattle.mps_program.specs.InsideForms.{IsFormOf, AreBodiesOf, AreTermsFrom}
use Rattle.mps_program.proofs.LawLemmas.{past_columns}
use Rattle.mps_program.proofs.TermLemmas.{AreApart, row_decimals, row_coefs}
use Rattle.linear_program.specs.Parts.{AreLater, ArePart}
use Rattle.linear_program.proofs.BucketLemmas.{part_later}

-- ---- one form
module _ (m : Mps Dec) (apart : AreApart (length m.rows) m.columns) (i : ℕ) (fit : has_wide_term (row_terms m i) ≡ false) (k : ℚ) (f : Form) (is : IsFormOf k (row_terms m i) f) where
  coef_lem : (j : ℕ) → coef_in (form_terms f) j ≡ coefficient_at (values_of m) i j
  coef_lem j = ap (λ (l : Line). l.coef j) is.line ∙ row_coefs m apart i fit j

  pub form_lem : form_of f ≡ record { constant = k; coefficient = coefficient_at (values_of m) i }
  form_lem = ap form_of_line is.line ∙ (λ p. record { constant = k; coefficient = λ j. row_coefs m apart i fit j p })

  ascending : AreAscending 0 (form_terms f)
  ascending = subst (AreAscending 0) (sym is.terms) (fractions_ascend 0 (row_terms m i) (row_decimals m apart i fit))

  pub form_over : (n : ℕ) → n ≡ length m.columns → IsFormOver n f
  unfolding with_values
  form_over n e = terms_below n 0 (form_terms f) ascending (λ j h. coef_lem j ∙ past_columns (values_of m) i j (omega (arith, h, e, length-map m.columns (column_with dec_value))))

  pub form_size : length (form_terms f) ≡ length (row_terms m i)
  form_size = ap length is.terms ∙ length-map (row_terms m i) fraction_term

-- ---- the bodies
pub body_more : (t : ℕ → List DecimalTerm) (i : ℕ) (is : List ℕ) (fs : List Form) (f : Form) → AreBodiesOf t is fs → IsFormOf zero_ℚ (t i) f → AreBodiesOf t (is ++ i ∷ []) (fs ++ f ∷ [])
body_more t i [] [] f all one = (one, tt)
body_more t i [] (g ∷ fs) f all one = absurd all
body_more t i (k ∷ is) [] f all one = absurd all
body_more t i (k ∷ is) (g ∷ fs) f all one = (all.0, body_more t i is fs f all.1 one)

pub body_count : (t : ℕ → List DecimalTerm) (is : List ℕ) (fs : List Form) → AreBodiesOf t is fs → length fs ≡ length is
body_count t [] [] all = refl
body_count t [] (g ∷ fs) all = absurd all
body_count t (k ∷ is) [] all = absurd all
body_count t (k ∷ is) (g ∷ fs) all = ap suc (body_count t is fs all.1)

module _ (m : Mps Dec) (apart : AreApart (length m.rows) m.columns) where
  abbrev Fits : ℕ → Type 0
  Fits i = has_wide_term (row_terms m i) ≡ false

  abbrev side_of : ℕ → Sides
  side_of i = sides_from (row_interval (values_of m) i)

  abbrev IsBack : ℕ → Type 0
  IsBack i = interval_of (side_of i) ≡ row_interval (values_of m) i

  pub rows_lem : (k : ℕ) (is : List ℕ) (fs : List Form) → AreBodiesOf (row_terms m) is fs → All Fits is → All IsBack is → rows_from k fs (map side_of is) ≡ linear_rows (values_of m) k is
  rows_lem k [] [] all fit back = refl
  rows_lem k [] (f ∷ fs) all fit back = absurd all
  rows_lem k (i ∷ is) [] all fit back = absurd all
  rows_lem k (i ∷ is) (f ∷ fs) all fit back =
      ap₂ (λ (r : Row) rs. r ∷ rs)
      (λ p. record { name = (linear_row (values_of m) k i).name; body = form_lem m apart i (All-head Fits i is fit) zero_ℚ f all.0 p; side = All-head IsBack i is back p })
      (rows_lem (suc k) is fs all.1 (All-tail Fits i is fit) (All-tail IsBack i is back))

  pub bodies_over : (n : ℕ) → n ≡ length m.columns → (is : List ℕ) (fs : List Form) → AreBodiesOf (row_terms m) is fs → All Fits is → All (IsFormOver n) fs
  bodies_over n e [] [] all fit = All-nil (IsFormOver n)
  bodies_over n e [] (f ∷ fs) all fit = absurd all
  bodies_over n e (i ∷ is) [] all fit = absurd all
  bodies_over n e (i ∷ is) (f ∷ fs) all fit = All-cons (IsFormOver n) f fs (form_over m apart i (All-head Fits i is fit) zero_ℚ f all.0 n e) (bodies_over n e is fs all.1 (All-tail Fits i is fit))

  pub bodies_size : (is : List ℕ) (fs : List Form) → AreBodiesOf (row_terms m) is fs → All Fits is → sum_by (λ (f : Form). length (form_terms f)) fs ≡ sum_by (λ i. length (row_terms m i)) is
  bodies_size [] [] all fit = refl
  bodies_size [] (f ∷ fs) all fit = absurd all
  bodies_size (i ∷ is) [] all fit = absurd all
  bodies_size (i ∷ is) (f ∷ fs) all fit =
      sum_by-cons (λ (f : Form). length (form_terms f)) f fs
      ∙ ap₂ (λ a b. a + b) (form_size m apart i (All-head Fits i is fit) zero_ℚ f all.0) (bodies_size is fs all.1 (All-tail Fits i is fit))
      ∙ sym (sum_by-cons (λ i. length (row_terms m i)) i is)

-- ---- what is read of a row
module _ (m : Mps Dec) (ts : List (List DecimalTerm)) (are : ts ≡ listed (row_terms m) (length m.rows)) where
  pub terms_count : length ts ≡ length m.rows
  terms_count = ap length are ∙ listed_length (row_terms m) (length m.rows)

  -- a part of them, while the rows from row i on are left
  pub part_terms : (i n : ℕ) (now part : List (List DecimalTerm)) → i + n ≤ length m.rows → AreLater i ts now → ArePart (λ us. us) i n now part → AreTermsFrom (row_terms m) i part
  part_terms i n now part within later part_is =
      let own = part_later (λ us. us) i n ts now part later (omega (arith, within, terms_count)) part_is in
      record {
        each = λ k lt.
            let inside : k < n = omega (arith, lt, own.count) in
            own.terms k [] inside ∙ ap (λ us. get_or us (i + k) []) are ∙ listed_at (row_terms m) (length m.rows) (i + k) [] (omega (arith, inside, within));
      }

pub row_test : (rows read : List MpsRow) (i : ℕ) (row : MpsRow) (kind : RowKind) (b : Bool) → i < length read
    → read ≡ rows → row ≡ get_or read i row → kind ≡ row.kind → b ≡ is_bounded_kind kind → b ≡ is_constraint rows i
row_test rows read i row kind b lt e is k h = h ∙ ap is_bounded_kind (k ∙ ap (λ (r : MpsRow). r.kind) (is ∙ get_or_default read i row no_mps_row lt)) ∙ ap (λ rs. is_constraint rs i) e

-- the loop over the rows, with one row more
module _ (m : Mps Dec) (i next : ℕ) (step : i + 1 ≡ next) (fs new : List Form) (before : AreBodiesOf (row_terms m) (places (is_constraint m.rows) i) fs) (none : places (is_body_wide m) i ≡ []) where
  abbrev IsNext : ℕ → Type 0
  IsNext n = AreBodiesOf (row_terms m) (places (is_constraint m.rows) n) new × (places (is_body_wide m) n ≡ [])

  pub next_body : (f : Form) (k : ℚ) (own : List DecimalTerm) (b w : Bool) → b ≡ is_constraint m.rows i → b ≡ true
      → own ≡ row_terms m i → w ≡ has_wide_term own → w ≡ false → k ≡ zero_ℚ → IsFormOf k own f → new ≡ fs ++ f ∷ []
      → IsNext next
  next_body f k own b w t yes_here o h e z form n =
      let here : is_constraint m.rows i ≡ true = sym t ∙ yes_here in
      let fit : has_wide_term (row_terms m i) ≡ false = ap has_wide_term (sym o) ∙ sym h ∙ e in
      subst IsNext step (
        subst₂ (λ is gs. AreBodiesOf (row_terms m) is gs) (ap (λ b. places (is_constraint m.rows) i ++ one_where b i) (sym here) ∙ sym (places_more (is_constraint m.rows) i)) (sym n)
            (body_more (row_terms m) i (places (is_constraint m.rows) i) fs f before (subst₂ (λ c us. IsFormOf c us f) z o form)),
        none_more (is_body_wide m) i none (ap₂ ◌&&◌ here fit),
      )

  pub next_other : (b : Bool) → b ≡ is_constraint m.rows i → b ≡ false → new ≡ fs → IsNext next
  next_other b t no_here n =
      let here : is_constraint m.rows i ≡ false = sym t ∙ no_here in
      subst IsNext step (
        subst₂ (λ is gs. AreBodiesOf (row_terms m) is gs) (sym (append-nil (places (is_constraint m.rows) i))
            ∙ ap (λ b. places (is_constraint m.rows) i ++ one_where b i) (sym here)
            ∙ sym (places_more (is_constraint m.rows) i)) (sym n) before,
        none_more (is_body_wide m) i none (ap (λ b. b && has_wide_term (row_terms m i)) here),
      )

pub first_body : (m : Mps Dec) (i : ℕ) (own : List DecimalTerm) (b w : Bool) → i < length m.rows
    → places (is_body_wide m) i ≡ [] → b ≡ is_constraint m.rows i → b ≡ true → own ≡ row_terms m i → w ≡ has_wide_term own
    → w ≡ true → first_wide_body m ≡ Some i
first_body m i own b w lt none t here o h wide = first_here (is_body_wide m) (length m.rows) i lt none (ap₂ ◌&&◌ (sym t ∙ here) (ap has_wide_term (sym o) ∙ sym h ∙ wide))

pub bodies_end : (m : Mps Dec) (i : ℕ) (fs : List Form) → i ≡ length m.rows → AreBodiesOf (row_terms m) (places (is_constraint m.rows) i) fs → AreBodiesOf (row_terms m) (constraints m.rows) fs
unfolding constraints
bodies_end m i fs e h = subst (λ n. AreBodiesOf (row_terms m) (places (is_constraint m.rows) n) fs) e h

-- ---- the objective
module _ (m : Mps Dec) (place : ℕ) (rhs : Dec) (at : place ≡ objective_row m.rows) (value : dec_value rhs ≡ rhs_at (values_of m) (objective_row m.rows)) where
  pub objective_wide_side : fits (dec_value rhs) ≡ false → is_objective_wide m ≡ true
  objective_wide_side e = ap (λ b. not b || has_wide_term (row_terms m (objective_row m.rows))) (ap fits (sym value) ∙ e)

  module _ (own : List DecimalTerm) (w : Bool) (o : own ≡ row_terms m place) (h : w ≡ has_wide_term own) (side : fits (dec_value rhs) ≡ true) where
    pub objective_is : is_objective_wide m ≡ w
    objective_is =
        ap (λ b. not b || has_wide_term (row_terms m (objective_row m.rows))) (ap fits (sym value) ∙ side)
        ∙ ap (λ p. has_wide_term (row_terms m p)) (sym at) ∙ ap has_wide_term (sym o) ∙ sym h

  pub objective_form_is : (f : Form) (k s : ℚ) (own : List DecimalTerm) → own ≡ row_terms m place → s ≡ dec_value rhs
      → k ≡ neg_ℚ s → IsFormOf k own f → IsFormOf (neg_ℚ (rhs_at (values_of m) (objective_row m.rows)))
      (row_terms m (objective_row m.rows)) f
  objective_form_is f k s own o e n form = subst₂ (λ c us. IsFormOf c us f) (n ∙ ap neg_ℚ (e ∙ value)) (o ∙ ap (row_terms m) at) form
