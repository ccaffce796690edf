-- What is exported is read as what was exported.
use Rattle.std.proofs.Common.{◌≡◌, ◌∙◌, inl, inr, ◌⊎◌, ℕ, ◌<◌, length, Bool, true, false, List, [], ◌∷◌, ◌++◌, map, refl, sym, ap, subst, arith}
use Rattle.std.specs.Prelude.{All}
use Rattle.std.proofs.lemmas.List.{length-map, get_or-map}
use Rattle.std.proofs.lemmas.List.Elements.{All-nil, All-cons, All-head, All-tail, All-push}
use Rattle.exact_numbers.specs.Rational.{ℚ}
use Rattle.linear_program.specs.Linear.{Linear, variable_count}
use Rattle.exact_numbers.specs.declared.dec.Dec.{Dec}
use Rattle.exact_numbers.specs.Values.{dec_value, value_text, FitsDec, fits_dec, text_of}
use Rattle.exact_numbers.proofs.Spelling.{fits_dec_in, fits_dec_out, value_text-decimal}
use Rattle.scaled_program.specs.Fits.{IsDecimal, factor_of_row, factor_of_objective}
use Rattle.scaled_program.specs.ExportedProgram.{IsProgramOf, program, tied_program}
use Rattle.scaled_program.specs.Factor.{objective_numbers}
use Rattle.scaled_program.specs.Program.{exported_rows, scaled_row, tie, z_form, z_variable}
use Rattle.mps_model.specs.Mps.{Column, Mps, column_with, with_values}
use Rattle.mps_model.specs.Text.{mps_text_by}
use Rattle.mps_model.specs.Valid.{IsMps}
use Rattle.mps_model.proofs.Texts.{text_by_values}
use Rattle.mps_reader.specs.Reader.{IsMpsText}
use Rattle.mps_reader.specs.Written.{HasShortNames, mps_text}
use Rattle.mps_reader.proofs.RoomLemmas.{room}
use Rattle.mps_reader.proofs.RoundTrip.{written_again}
use Rattle.round_trips.specs.Exportable.{IsNamedByNumber}
use Rattle.round_trips.specs.ReadAs.{IsReadAs}
use Rattle.round_trips.proofs.Names.{IsShort, ShortRow, ShortVariable, ShortScaled, ShortColumn, rows_short, variables_short, rows_exported, short_program}

-- ---- whether the objective is decimal

fits : (x : ℚ) → FitsDec x ⊎ (FitsDec x → ⊥)
fits x = by (fits_dec x) refl
  where
    by : (b : Bool) → fits_dec x ≡ b → FitsDec x ⊎ (FitsDec x → ⊥)
    by true e = inl (fits_dec_out x e)
    by false e = inr (λ h. absurd (let yes = fits_dec_in x h in cc))

all_fit : (xs : List ℚ) → All FitsDec xs ⊎ (All FitsDec xs → ⊥)
all_fit [] = inl (All-nil FitsDec)
all_fit (x ∷ xs) = by (fits x) (all_fit xs)
  where
    by : (FitsDec x ⊎ (FitsDec x → ⊥)) → (All FitsDec xs ⊎ (All FitsDec xs → ⊥)) → All FitsDec (x ∷ xs) ⊎ (All FitsDec (x ∷ xs) → ⊥)
    by (inl h) (inl rest) = inl (All-cons FitsDec x xs h rest)
    by (inl h) (inr rest) = inr (λ all. rest (All-tail FitsDec x xs all))
    by (inr h) rest = inr (λ all. h (All-head FitsDec x xs all))

pub is_decimal : (l : Linear) → IsDecimal l ⊎ (IsDecimal l → ⊥)
is_decimal l = all_fit (objective_numbers (variable_count l) l.objective)

-- ---- names

plain_short : (f : Linear) (factor : ℕ → ℕ) → All ShortRow f.rows → All ShortVariable f.variables → IsShort (program f factor)
plain_short f factor rows vs = short_program (exported_rows factor 0 f.rows) f.objective f.variables f.maximise (rows_exported factor 0 f.rows rows) vs

tied_short : (f : Linear) (factor : ℕ → ℕ) (g : ℕ) → All ShortRow f.rows → All ShortVariable f.variables → IsShort (tied_program f factor g)
tied_short f factor g rows vs =
    let n = variable_count f in
    let exported = exported_rows factor 0 f.rows in
    let last = scaled_row g (tie n f.objective) in
    short_program (exported ++ last ∷ []) (z_form n) (f.variables ++ z_variable ∷ []) f.maximise
    (All-push ShortScaled exported last (rows_exported factor 0 f.rows rows) (omega arith)) (All-push ShortVariable f.variables z_variable vs (omega arith))

columns_named : (cs : List (Column Dec)) → All (ShortColumn ℚ) (map (column_with dec_value) cs) → All (ShortColumn Dec) cs
columns_named cs h i d lt = let inside : i < length (map (column_with dec_value) cs) = omega (arith, lt, length-map cs (column_with dec_value)) in
    subst (ShortColumn ℚ) (get_or-map (column_with dec_value) cs i d (column_with dec_value d) lt) (h i (column_with dec_value d) inside)

of_values : (m : Mps Dec) → IsShort (with_values dec_value m) → HasShortNames m
unfolding with_values
of_values m h = record { rows = h.rows; columns = columns_named m.columns h.columns }

by_objective : (l : Linear) (m : Mps Dec) → All ShortRow l.rows → All ShortVariable l.variables → IsProgramOf l m → (IsDecimal l ⊎ (IsDecimal l → ⊥)) → HasShortNames m
by_objective l m rows vs is (inl d) = of_values m (subst IsShort (sym (is.plain d)) (plain_short l (factor_of_row l) rows vs))
by_objective l m rows vs is (inr n) = of_values m (subst IsShort (sym (is.tied n)) (tied_short l (factor_of_row l) (factor_of_objective l) rows vs))

pub short_names : (l : Linear) (m : Mps Dec) → IsNamedByNumber l → IsProgramOf l m → HasShortNames m
short_names l m named is = by_objective l m (rows_short l named) (variables_short l named) is (all_fit (objective_numbers (variable_count l) l.objective))

-- ---- reading

same_texts : (λ d. value_text (dec_value d)) ≡ text_of
same_texts = λ i. λ d. value_text-decimal d.m d.e d.spelled i

pub text_of_values : (m : Mps Dec) → mps_text m ≡ mps_text_by value_text (with_values dec_value m)
text_of_values m = ap (λ t. mps_text_by t m) (sym same_texts) ∙ sym (text_by_values value_text dec_value m)

pub read_back : (l : Linear) (m : Mps Dec) → IsNamedByNumber l → IsProgramOf l m → IsMps dec_value m → IsReadAs (mps_text_by value_text (with_values dec_value m)) (with_values dec_value m)
read_back l m named is valid = record {
  program = m;
  says = subst (λ (t : List ℕ). IsMpsText t m) (text_of_values m) (written_again m (record { valid = valid; room = room m valid (short_names l m named is) }));
  values = refl;
}
