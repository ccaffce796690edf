-- A file folds and scales, which can be decided, or one line tells why not; and the program of what was scaled.
use Rattle.std.proofs.Common.{[], ◌≡◌, inl, inr, ◌⊎◌, ℕ, zero, suc, ◌<◌, ◌≤◌, ◌^◌, pos, Bool, true, false, List, ◌∷◌, length, Option, Some, None, refl, sym, ap, subst, arith, ◌∙◌}
use Rattle.std.specs.Prelude.{All, IsTrue, option_map}
use Rattle.std.proofs.lemmas.Bool.{cases_lt, cases_order}
use Rattle.std.proofs.lemmas.List.{get_or_past}
use Rattle.std.proofs.lemmas.List.Elements.{All-nil, All-cons, All-head, All-tail}
use Rattle.exact_numbers.specs.Fits.{fits, sum_fits}
use Rattle.exact_numbers.specs.Rational.{ℚ, neg_ℚ, whole, ◌-ℚ◌, ◌*ℚ◌}
use Rattle.linear_program.specs.Linear.{Row, Linear, variable_count, no_row, row_at}
use Rattle.exact_numbers.specs.Values.{FitsDec, fits_dec}
use Rattle.exact_numbers.proofs.Spelling.{fits_dec_in, fits_dec_out}
use Rattle.scaled_program.specs.Fits.{ScaledFits, SideFits, RangeFits, IfSide, IfBoth, RowFits, ExportFits}
use Rattle.scaled_program.specs.Fits.{IsRowTooWide, IsDecimal, ObjectiveFits, factor_of_row, factor_of_objective}
use Rattle.scaled_program.specs.Fits.{IsScaledProgramOf}
use Rattle.scaled_program.specs.Factor.{coefficients_below, objective_numbers}
use Rattle.scaled_program.specs.Program.{ScaledProgram, scaled_by, scaled_and_tied, nonzero, scaled_side, is_exported}
use Rattle.row_scaling.specs.Scaling.{HasNoScaleFault, HasScaleFault}
use Rattle.row_scaling.specs.declared.scale_fault.ScaleFault.{ScaleFault}
use Rattle.row_scaling.specs.declared.scale_fault.ScaleFault.TheVariants.{RowTooWide, ObjectiveTooWide}
use Rattle.std.proofs.lemmas.Option.{same_Some}
use Rattle.nl_model.specs.FoldFaults.{fold_fault, FoldFault as FileFault}
use Rattle.nl_model.specs.LinearFile.{linear_of}
use Rattle.linear_fold.specs.FoldedFaults.{first_fold_fault, named_fault}
use Rattle.linear_program.specs.Programs.{LinearValue, linear_value}
use Rattle.linear_fold.specs.declared.fold_fault.FoldFault.{FoldFault}
use Rattle.nl_model.specs.File.{File}
use Rattle.nl_segments.specs.Grammar.{NlValue}
use Rattle.row_scaling.specs.Exported.{scaled_as}
use Rattle.row_scaling.specs.Scaled.{ScaledValue}
use Rattle.command_parts.specs.NlTold.{fold_line, scale_line}
use Rattle.command_parts.specs.Stages.{HasFolded, HasScaled, CanBeExported, CannotBeExported}

-- P holds, or not
abbrev pub IsDecided : Type 0 → Type 0
IsDecided P = P ⊎ (P → ⊥)

by_same : (P Q : Type 0) → (P → Q) → (Q → P) → IsDecided P → IsDecided Q
by_same P Q f g (inl p) = inl (f p)
by_same P Q f g (inr n) = inr (λ q. n (g q))

both : (P Q : Type 0) → IsDecided P → IsDecided Q → IsDecided (P × Q)
both P Q (inl p) (inl q) = inl (p, q)
both P Q (inl p) (inr n) = inr (λ h. n h.1)
both P Q (inr n) d = inr (λ h. n h.0)

untrue : IsTrue false → ⊥
untrue h = absurd cc

is_true : (b : Bool) → IsDecided (IsTrue b)
is_true true = inl refl
is_true false = inr untrue

below : (m n : ℕ) → IsDecided (m < n)
below m n = elim (cases_lt m n) [ inl lt ↦ inl lt | inr ge ↦ inr (λ lt. absurd (omega (arith, lt, ge))) ]

fits_dec_by : (x : ℚ) (b : Bool) → fits_dec x ≡ b → IsDecided (FitsDec x)
fits_dec_by x true e = inl (fits_dec_out x e)
fits_dec_by x false e = inr (λ h. let is : fits_dec x ≡ true = fits_dec_in x h in absurd cc)

dec : (x : ℚ) → IsDecided (FitsDec x)
dec x = fits_dec_by x (fits_dec x) refl

all : (P : ℚ → Type 0) → ((x : ℚ) → IsDecided (P x)) → (xs : List ℚ) → IsDecided (All P xs)
all P d [] = inl (All-nil P)
all P d (x ∷ xs) = by_same (P x × All P xs) (All P (x ∷ xs)) (λ h. All-cons P x xs h.0 h.1) (λ h. (All-head P x xs h, All-tail P x xs h)) (both (P x) (All P xs) (d x) (all P d xs))

scaled_fits : (k : ℕ) (x : ℚ) → IsDecided (ScaledFits k x)
scaled_fits k x =
    by_same (IsTrue (fits (whole (pos k) *ℚ x)) × FitsDec (whole (pos k) *ℚ x)) (ScaledFits k x) (λ h. record { frac = h.0; dec = h.1 }) (λ h. (h.frac, h.dec))
    (both _ _ (is_true (fits (whole (pos k) *ℚ x))) (dec (whole (pos k) *ℚ x)))

side_fits : (k : ℕ) (constant s : ℚ) → IsDecided (SideFits k constant s)
side_fits k constant s =
    by_same (IsTrue (fits s) × (IsTrue (sum_fits s (neg_ℚ constant)) × ScaledFits k (s -ℚ constant)))
    (SideFits k constant s) (λ h. record { side = h.0; less = h.1.0; scaled = h.1.1 })
    (λ h. (h.side, (h.less, h.scaled)))
    (both _ _ (is_true (fits s)) (both _ _ (is_true (sum_fits s (neg_ℚ constant))) (scaled_fits k (s -ℚ constant))))

range_fits : (l u : ℚ) → IsDecided (RangeFits l u)
range_fits l u =
    by_same (IsTrue (sum_fits u (neg_ℚ l)) × FitsDec (u -ℚ l)) (RangeFits l u) (λ h. record { difference = h.0; dec = h.1 }) (λ h. (h.difference, h.dec))
    (both _ _ (is_true (sum_fits u (neg_ℚ l))) (dec (u -ℚ l)))

if_side : (P : ℚ → Type 0) → ((x : ℚ) → IsDecided (P x)) → (o : Option ℚ) → IsDecided (IfSide P o)
if_side P d None = inl tt
if_side P d (Some s) = d s

if_both : (P : ℚ → ℚ → Type 0) → ((x y : ℚ) → IsDecided (P x y)) → (l u : Option ℚ) → IsDecided (IfBoth P l u)
if_both P d None u = inl tt
if_both P d (Some l) None = inl tt
if_both P d (Some l) (Some u) = if_side (λ r. P l u) (λ r. d l u) (nonzero (u -ℚ l))

row_fits : (n : ℕ) (r : Row) (k : ℕ) → IsDecided (RowFits n r k)
row_fits n r k =
    by_same ((k < 2 ^ 127) × (All (ScaledFits k) (coefficients_below r.body.coefficient n)
    × (IfSide (SideFits k r.body.constant) r.side.lower
    × (IfSide (SideFits k r.body.constant) r.side.upper
    × IfBoth RangeFits (scaled_side (whole (pos k)) r.body.constant r.side.lower)
    (scaled_side (whole (pos k)) r.body.constant r.side.upper))))) (RowFits n r k)
    (λ h. record { factor = h.0; coefficients = h.1.0; lower = h.1.1.0; upper = h.1.1.1.0; range = h.1.1.1.1 })
    (λ h. (h.factor, (h.coefficients, (h.lower, (h.upper, h.range)))))
    (both _ _ (below k (2 ^ 127)) (both _ _ (all (ScaledFits k) (scaled_fits k)
    (coefficients_below r.body.coefficient n)) (both _ _
    (if_side (SideFits k r.body.constant) (side_fits k r.body.constant) r.side.lower)
    (both _ _ (if_side (SideFits k r.body.constant) (side_fits k r.body.constant) r.side.upper)
    (if_both RangeFits range_fits (scaled_side (whole (pos k)) r.body.constant r.side.lower) (scaled_side (whole (pos k)) r.body.constant r.side.upper))))))

where_exported : (b : Bool) (P : Type 0) → IsDecided P → IsDecided (IsTrue b → P)
where_exported true P (inl p) = inl (λ t. p)
where_exported true P (inr n) = inr (λ h. n (h refl))
where_exported false P d = inl (λ h. absurd (untrue h))

export_fits : (f : Linear) (i : ℕ) → IsDecided (ExportFits f i)
export_fits f i = where_exported (is_exported (row_at f i)) (RowFits (variable_count f) (row_at f i) (factor_of_row f i)) (row_fits (variable_count f) (row_at f i) (factor_of_row f i))

-- ---- rows

one_more : (P : ℕ → Type 0) (n : ℕ) → ((i : ℕ) → i < n → P i) → P n → (i : ℕ) → i < suc n → P i
one_more P n earlier last i lt = elim (cases_order i n) [ inl e ↦ subst P (sym e) last | inr o ↦ elim o [ inl less ↦ earlier i less | inr more ↦ absurd (omega (arith, lt, more)) ] ]

-- the first rows fit, or one of them is the first that is too wide
rows_below : (f : Linear) (n : ℕ) → ((i : ℕ) → i < n → ExportFits f i) ⊎ ((i : ℕ) × IsRowTooWide f i)
rows_below f zero = inl (λ i lt. absurd (omega (arith, lt)))
rows_below f (suc n) = elim (rows_below f n) [
  | inr wide ↦ inr wide
  | inl earlier ↦ elim (export_fits f n) [
    | inl fit ↦ inl (one_more (ExportFits f) n earlier fit)
    | inr no_fit ↦ inr (n, record { before = earlier; wide = no_fit })
  ]
]

-- a row past the last is not exported
past : (f : Linear) (i : ℕ) → length f.rows ≤ i → ExportFits f i
past f i le = λ h. absurd (untrue (subst (λ (r : Row). IsTrue (is_exported r)) (get_or_past f.rows i no_row le) h))

every_row : (f : Linear) → ((i : ℕ) → i < length f.rows → ExportFits f i) → (i : ℕ) → ExportFits f i
every_row f h i = elim (cases_lt i (length f.rows)) [ inl lt ↦ h i lt | inr le ↦ past f i le ]

-- ---- the objective

pub decimal_decided : (f : Linear) → IsDecided (IsDecimal f)
decimal_decided f = all FitsDec dec (objective_numbers (variable_count f) f.objective)

objective_fits : (f : Linear) → IsDecided (ObjectiveFits f)
objective_fits f =
    by_same ((factor_of_objective f < 2 ^ 127) × All (ScaledFits (factor_of_objective f))
    (objective_numbers (variable_count f) f.objective)) (ObjectiveFits f)
    (λ h. record { factor = h.0; parts = h.1 }) (λ h. (h.factor, h.parts))
    (both _ _ (below (factor_of_objective f) (2 ^ 127)) (all (ScaledFits (factor_of_objective f)) (scaled_fits (factor_of_objective f)) (objective_numbers (variable_count f) f.objective)))

by_fits : (f : Linear) → ((i : ℕ) → ExportFits f i) → IsDecided (IsDecimal f) → IsDecided (ObjectiveFits f) → HasNoScaleFault f ⊎ ((fault : ScaleFault) × HasScaleFault f fault)
by_fits f rows (inl d) o = inl (record { rows = rows; objective = inl d })
by_fits f rows (inr n) (inl o) = inl (record { rows = rows; objective = inr o })
by_fits f rows (inr n) (inr o) = inr (ObjectiveTooWide, record { rows = rows; tied = n; wide = o })

-- a linear program scales, or has a first fault
pub scaling_decided : (f : Linear) → HasNoScaleFault f ⊎ ((fault : ScaleFault) × HasScaleFault f fault)
scaling_decided f = elim (rows_below f (length f.rows)) [
  | inl rows ↦ by_fits f (every_row f rows) (decimal_decided f) (objective_fits f)
  | inr wide ↦ inr (RowTooWide wide.0, wide.1)
]

-- not both, and the fault is one
pub scales_without_fault : (f : Linear) (fault : ScaleFault) → HasNoScaleFault f → HasScaleFault f fault → ⊥
scales_without_fault f (RowTooWide i) fine h = h.wide (fine.rows i)
scales_without_fault f ObjectiveTooWide fine h = elim fine.objective [ inl d ↦ h.tied d | inr o ↦ h.wide o ]

pub one_scale_fault : (f : Linear) (a b : ScaleFault) → HasScaleFault f a → HasScaleFault f b → a ≡ b
one_scale_fault f (RowTooWide i) (RowTooWide j) h k = elim (cases_order i j) [
  | inl e ↦ ap RowTooWide e
  | inr o ↦ elim o [ inl less ↦ absurd (h.wide (k.before i less)) | inr more ↦ absurd (k.wide (h.before j more)) ]
]
one_scale_fault f (RowTooWide i) ObjectiveTooWide h k = absurd (h.wide (k.rows i))
one_scale_fault f ObjectiveTooWide (RowTooWide j) h k = absurd (k.wide (h.rows j))
one_scale_fault f ObjectiveTooWide ObjectiveTooWide h k = refl

-- ---- the fold

named : (f : File) (o : Option FileFault) (fault : FoldFault) → o ≡ None → option_map (named_fault f) o ≡ Some fault → ⊥
named f None fault e is = absurd cc
named f (Some x) fault e is = absurd cc

folds_without_fault : (f : File) (k : ℕ) (fault : FoldFault) → fold_fault f k ≡ None → first_fold_fault f k ≡ Some fault → ⊥
folds_without_fault f k fault e is = named f (fold_fault f k) fault e is

-- ---- both stages

module _ (nl : NlValue) (k : ℕ) where
  abbrev f : Linear
  f = linear_of nl.file k

  pub staged_or_not : CanBeExported nl k → (line : List ℕ) → CannotBeExported nl k line → ⊥
  staged_or_not s line (inl h) = folds_without_fault nl.file k h.fault s.folded h.first
  staged_or_not s line (inr h) = scales_without_fault f h.first.fault s.scaled h.first.first

  pub one_reason : (x y : List ℕ) → CannotBeExported nl k x → CannotBeExported nl k y → x ≡ y
  one_reason x y (inl h) (inl j) = h.told ∙ ap (fold_line nl.places) (same_Some h.fault j.fault (sym h.first ∙ j.first)) ∙ sym j.told
  one_reason x y (inl h) (inr j) = absurd (folds_without_fault nl.file k h.fault j.folded h.first)
  one_reason x y (inr h) (inl j) = absurd (folds_without_fault nl.file k j.fault h.folded j.first)
  one_reason x y (inr h) (inr j) = h.first.told ∙ ap (scale_line k) (one_scale_fault f h.first.fault j.first.fault h.first.first j.first.first) ∙ sym j.first.told

  by_scaling : fold_fault nl.file k ≡ None → HasNoScaleFault f ⊎ ((fault : ScaleFault) × HasScaleFault f fault) → CanBeExported nl k ⊎ ((line : List ℕ) × CannotBeExported nl k line)
  by_scaling folded (inl fine) = inl (record { folded = folded; scaled = fine })
  by_scaling folded (inr wide) = inr (scale_line k wide.0, inr (record { folded = folded; first = record { fault = wide.0; first = wide.1; told = refl } }))

  by_fold : (o : Option FileFault) → fold_fault nl.file k ≡ o → CanBeExported nl k ⊎ ((line : List ℕ) × CannotBeExported nl k line)
  by_fold None e = by_scaling e (scaling_decided f)
  by_fold (Some fault) e = inr (fold_line nl.places (named_fault nl.file fault), inl (record { fault = named_fault nl.file fault; first = ap (option_map (named_fault nl.file)) e; told = refl }))

  pub staged : CanBeExported nl k ⊎ ((line : List ℕ) × CannotBeExported nl k line)
  staged = by_fold (fold_fault nl.file k) refl

-- ---- programs

-- there is one scaled program of a linear program
pub by_decimal : (f : Linear) (p q : ScaledProgram) → IsScaledProgramOf f p → IsScaledProgramOf f q → IsDecided (IsDecimal f) → p ≡ q
by_decimal f p q h k (inl d) = h.plain d ∙ sym (k.plain d)
by_decimal f p q h k (inr d) = h.tied d ∙ sym (k.tied d)

pub one_program : (f : Linear) (p q : ScaledProgram) → IsScaledProgramOf f p → IsScaledProgramOf f q → p ≡ q
one_program f p q h k = by_decimal f p q h k (decimal_decided f)

by_objective : (f : Linear) → IsDecided (IsDecimal f) → (p : ScaledProgram) × IsScaledProgramOf f p
by_objective f (inl d) = (scaled_by f (factor_of_row f), record { plain = λ p. refl; tied = λ n. absurd (n d) })
by_objective f (inr n) = (scaled_and_tied f (factor_of_row f) (factor_of_objective f), record { plain = λ d. absurd (n d); tied = λ p. refl })

pub a_program : (f : Linear) → (p : ScaledProgram) × IsScaledProgramOf f p
a_program f = by_objective f (decimal_decided f)

-- ---- what the stages answer

-- with an objective that is the same
pub folded_at : (nl : NlValue) (n k : ℕ) (l : LinearValue) → n ≡ k → HasFolded nl n l → HasFolded nl k l
folded_at nl n k l same folds = subst (λ (m : ℕ). HasFolded nl m l) same folds

module _ (nl : NlValue) (k : ℕ) (l : LinearValue) (folds : HasFolded nl k l) where
  module _ (s : ScaledValue) (scales : HasScaled (linear_value l) s) where
    scaled_so : HasScaled (linear_of nl.file k) s
    scaled_so = subst (λ (g : Linear). HasScaled g s) folds.linear scales

    pub staged_so : CanBeExported nl k
    staged_so = record { folded = folds.fine; scaled = scaled_so.fine }

    -- what was scaled is the program that is exported
    pub exports_so : IsScaledProgramOf (linear_of nl.file k) (scaled_as s)
    exports_so = scaled_so.scaled.program
