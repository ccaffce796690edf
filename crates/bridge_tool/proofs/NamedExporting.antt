-- What a file with two lists of names comes to: one outcome, what its program means, and that its text is read back.
use Rattle.std.proofs.Common.{[], ◌≡◌, ◌∙◌, inl, inr, ◌⊎◌, ◌↔◌, ℕ, ◌+◌, ◌≤◌, List, false, refl, sym, ap, arith, ◌^◌, ◌∷◌, ◌++◌, length, map, Some, subst, All}
use Rattle.exact_numbers.specs.Rational.{ℚ}
use Rattle.exact_numbers.specs.Values.{value_text, dec_value}
use Rattle.nl_model.specs.LinearFile.{linear_of, linear_row, linear_variable}
use Rattle.linear_program.specs.Programs.{LinearValue, linear_value}
use Rattle.mps_model.specs.Mps.{Mps, Column, column_with, with_values}
use Rattle.mps_model.specs.Text.{mps_text_by}
use Rattle.name_files.specs.Renamed.{named, HasExportedNames, HaveOneMeaning, IsExportedName, IsNamedLinear, IsNumbered, new_name}
use Rattle.nl_segments.specs.Grammar.{NlValue}
use Rattle.row_scaling.specs.Exported.{scaled_as}
use Rattle.row_scaling.specs.Scaled.{ScaledValue}
use Rattle.text_base.specs.Desk.{Texts}
use Rattle.bridge_tool.specs.Export.{IsExported, IsSameProgram, IsTiedProgram, MeansTheFile}
use Rattle.command_parts.specs.NameLists.{AreListed, IsListRefused, column_counts, row_counts}
use Rattle.bridge_tool.specs.NamedExport.{AreNamedMeant, IsNamedExport, Named, NamedComesTo, named_end}
use Rattle.bridge_tool.specs.InsideExport.{IsNamedTextOf}
use Rattle.command_core.specs.Promise.{Promise}
use Rattle.command_parts.specs.Stages.{HasFolded, HasScaled, CannotBeExported, fold_steps}
use Rattle.command_parts.proofs.NameLists.{list_read, listed_count}
use Rattle.command_core.proofs.SeveralFiles.{IsEither, IsLast, IsSound, either_last, one_of_both, sound_end}
use Rattle.command_parts.proofs.ExportStages.{a_program, exports_so, one_program, staged_so, decimal_decided}
use Rattle.bridge_tool.proofs.Exporting.{staged_either, file_program, text_file}
use Rattle.linear_program.specs.Linear.{Linear, Row, Variable}
use Rattle.linear_program.specs.Names.{row_name, variable_name}
use Rattle.text_base.specs.Reading.{last_of, lines_of}
use Rattle.exact_numbers.specs.declared.dec.Dec.{Dec}
use Rattle.round_trips.specs.ReadAs.{IsReadAs}
use Rattle.scaled_program.specs.Fits.{IsDecimal, IsScaledProgramOf, factor_of_row, factor_of_objective}
use Rattle.scaled_program.specs.Program.{ScaledProgram}
use Rattle.scaled_program.specs.ExportedProgram.{mps_of}
use Rattle.linear_program.specs.Elements.{elements_from}
use Rattle.linear_program.proofs.Elements.{all_elements, elements_length}
use Rattle.mps_model.specs.Valid.{IsMps}
use Rattle.mps_reader.specs.Reader.{IsMpsText}
use Rattle.mps_reader.specs.Written.{mps_text}
use Rattle.mps_reader.proofs.RoundTrip.{written_again}
use Rattle.mps_model.specs.Names.{AreNames}
use Rattle.name_files.proofs.ExportedNames.{plain_names, tied_names}
use Rattle.name_files.proofs.ListedNames.{listed_names}
use Rattle.name_files.proofs.MeaningLemmas.{same_meaning, valued}
use Rattle.name_files.proofs.ValidLemmas.{program_named}
use Rattle.nl_model.specs.File.{File}
use Rattle.nl_model.specs.Rules.{IsFile}
use Rattle.nl_model.proofs.Headers.{counts_of_header}
use Rattle.nl_segments.specs.Reader.{IsNl}
use Rattle.exact_numbers.proofs.Fitting.{picked}
use Rattle.round_trips.proofs.Picked.{values_back, whole_picked}
use Rattle.round_trips.proofs.ReadBack.{program_whole}
use Rattle.bridge_tool.proofs.FileLimits.{file_exportable, file_rows, file_variables}
use Rattle.round_trips.proofs.Reading.{text_of_values}

-- ---- what a file with names comes to

module _ (n : Named) where
  one_bytes : (x y : List ℕ) → IsNamedExport n x → IsNamedExport n y → x ≡ y
  one_bytes x y h k =
      h.written ∙ ap (λ p. mps_text_by value_text (named (mps_of p) n.rows n.columns)) (one_program (linear_of n.nl.file n.objective) h.program k.program h.exports k.exports) ∙ sym k.written

  named_either : IsEither (IsNamedExport n) (CannotBeExported n.nl n.objective)
  named_either = staged_either n.nl n.objective (IsNamedExport n) one_bytes (λ bytes h. h.staged) (λ is.
      let p = a_program (linear_of n.nl.file n.objective) in
      (mps_text_by value_text (named (mps_of p.0) n.rows n.columns), record { program = p.0; staged = is; exports = p.1; written = refl }))

  -- it was folded, scaled and written with its names
  pub written_so : (l : LinearValue) (s : ScaledValue) (bytes : List ℕ) → HasFolded n.nl n.objective l
      → HasScaled (linear_value l) s → IsNamedTextOf bytes (mps_of (scaled_as s)) n.rows n.columns → IsNamedExport n bytes
  written_so l s bytes folds scales t =
      record { program = scaled_as s; staged = staged_so n.nl n.objective l folds s scales; exports = exports_so n.nl n.objective l folds s scales; written = t.text }

-- ---- the command

abbrev pub of_lists : ℕ → NlValue → List (List ℕ) → List (List ℕ) → Named
of_lists objective nl r c = record { nl = nl; objective = objective; rows = r; columns = c }

pub named_last : (objective : ℕ) (nl : NlValue) (r : List (List ℕ))
    → IsLast false (AreListed (column_counts nl.file)) (IsListRefused (column_counts nl.file) 3)
    (λ c. NamedComesTo (of_lists objective nl r c)) (λ c old new. new ≤ old + fold_steps nl objective)
named_last objective nl r =
    either_last (list_read (column_counts nl.file) 3) (λ c. IsNamedExport (of_lists objective nl r c))
    (λ c. CannotBeExported nl objective) (λ c. fold_steps nl objective)
    (λ c. named_either (of_lists objective nl r c))

module _ (objective : ℕ) (columns : List ℕ) (nl : NlValue) (texts : Texts) (r c : List (List ℕ)) where
  -- what is left once both lists were read
  abbrev pub after_names : Promise
  after_names = named_end texts columns (of_lists objective nl r c)

  pub names_sound : IsSound after_names
  names_sound = let n = of_lists objective nl r c in sound_end (texts columns) (NamedComesTo n)
      (λ old new. new ≤ old + fold_steps nl objective) (λ bytes. AreNamedMeant n) (Unit {0})
      (one_of_both (IsNamedExport n) (CannotBeExported nl objective) (named_either n)) (λ m. omega arith)

-- ---- with names and without them

-- a file is exported with names exactly where it is exported without them
pub same_verdict : (n : Named) → ((bytes : List ℕ) × IsExported n.nl n.objective bytes) ↔ ((bytes : List ℕ) × IsNamedExport n bytes)
same_verdict n = (
  λ h. let e = h.1 in (mps_text_by value_text (named (mps_of e.program) n.rows n.columns), record { program = e.program; staged = e.staged; exports = e.exports; written = refl }),
  λ h. let e = h.1 in (mps_text_by value_text (mps_of e.program), record { program = e.program; staged = e.staged; exports = e.exports; written = refl }),
)

-- ---- names of a file's program

pub linear_named : (f : File) (k : ℕ) → IsFile f → IsNamedLinear (linear_of f k)
unfolding linear_of
linear_named f k file =
    let counts = counts_of_header f.options f.counts file.ruled in
    let rows : length (elements_from (linear_row f) 0 f.counts.n_con) ≡ f.counts.n_con = elements_length (linear_row f) 0 f.counts.n_con in
    let variables : length (elements_from (linear_variable f) 0 f.counts.n_var) ≡ f.counts.n_var = elements_length (linear_variable f) 0 f.counts.n_var in
    record {
      few_rows = omega (arith, rows, counts.constraints);
      few_variables = omega (arith, variables, counts.variables);
      rows = all_elements (linear_row f) (λ (r : Row). IsNumbered row_name (length (elements_from (linear_row f) 0 f.counts.n_con)) r.name) f.counts.n_con
          (λ i lt. record { number = i; below = omega (arith, lt, rows); same = refl });
      variables = all_elements (linear_variable f) (λ (v : Variable). IsNumbered variable_name (length (elements_from (linear_variable f) 0 f.counts.n_var)) v.name) f.counts.n_var
          (λ j lt. record { number = j; below = omega (arith, lt, variables); same = refl });
    }

by_objective : (l : Linear) (p : ScaledProgram) → IsNamedLinear l → IsScaledProgramOf l p → (IsDecimal l ⊎ (IsDecimal l → ⊥)) → HasExportedNames (length l.rows) (length l.variables) (mps_of p)
by_objective l p is exports (inl d) = subst (λ q. HasExportedNames (length l.rows) (length l.variables) (mps_of q)) (sym (exports.plain d)) (plain_names l (factor_of_row l) is)
by_objective l p is exports (inr n) = subst (λ q. HasExportedNames (length l.rows) (length l.variables) (mps_of q)) (sym (exports.tied n)) (tied_names l (factor_of_row l) is (factor_of_objective l))

-- what a file is exported as has names by number
pub export_named : (f : File) (k : ℕ) (p : ScaledProgram) (rows columns : ℕ) → IsFile f
    → IsScaledProgramOf (linear_of f k) p → rows ≡ f.counts.n_con → columns ≡ f.counts.n_var
    → HasExportedNames rows columns (mps_of p)
export_named f k p rows columns file exports r c =
    let l = linear_of f k in
    let names = by_objective l p (linear_named f k file) exports (decimal_decided l) in
    let same_rows : length l.rows ≡ rows = file_rows f k ∙ sym r in
    let same_columns : length l.variables ≡ columns = file_variables f k ∙ sym c in
    subst (λ (n : ℕ). HasExportedNames rows n (mps_of p)) same_columns (subst (λ (n : ℕ). HasExportedNames n (length l.variables) (mps_of p)) same_rows names)

column_names : (columns : List (Column Dec)) → map (λ (c : Column ℚ). c.name) (map (column_with dec_value) columns) ≡ map (λ (c : Column Dec). c.name) columns
column_names [] = refl
column_names (c ∷ columns) = ap (λ (names : List (List ℕ)). c.name ∷ names) (column_names columns)

-- the names of a program are those of its values
pub decimal_names : (n k : ℕ) (m : Mps Dec) → HasExportedNames n k (with_values dec_value m) → HasExportedNames n k m
unfolding with_values
decimal_names n k m h = record {
  rows = h.rows;
  columns = record { few = h.columns.few; each = subst (All (IsExportedName variable_name k)) (column_names m.columns) h.columns.each };
}

-- ---- what a program with other names means

same_program : (f : File) (k : ℕ) (m p : Mps ℚ) → HaveOneMeaning m p → IsSameProgram f k p → IsSameProgram f k m
same_program f k m p same h = record {
  points = λ xs. let own = same.points xs in let file = h.points xs in (λ q. file.0 (own.0 q), λ q. own.1 (file.1 q));
  objective = λ xs. h.objective xs ∙ ap Some (sym (same.objective xs));
  sense = same.sense ∙ h.sense;
}

tied_program_so : (f : File) (k : ℕ) (m p : Mps ℚ) → HaveOneMeaning m p → IsTiedProgram f k p → IsTiedProgram f k m
tied_program_so f k m p same h = record {
  points = λ xs z size. let own = same.points (xs ++ z ∷ []) in let file = h.points xs z size in (λ q. file.0 (own.0 q), λ q. own.1 (file.1 q));
  objective = λ xs z size. same.objective (xs ++ z ∷ []) ∙ h.objective xs z size;
  sense = same.sense ∙ h.sense;
}

pub carried : (f : File) (k : ℕ) (m p : Mps ℚ) → HaveOneMeaning m p → MeansTheFile f k p → MeansTheFile f k m
carried f k m p same h = record {
  plain = λ d. same_program f k m p same (h.plain d);
  tied = λ n. tied_program_so f k m p same (h.tied n);
}

values_named : (m : Mps Dec) (rows columns : List (List ℕ)) → with_values dec_value (named m rows columns) ≡ named (with_values dec_value m) rows columns
values_named m rows columns = valued (new_name row_name rows) (new_name variable_name columns) m

pub one_meaning : (bytes : List ℕ) (p : Mps ℚ) (rows columns : List (List ℕ)) → IsNamedTextOf bytes p rows columns → HaveOneMeaning (named p rows columns) p
one_meaning bytes p rows columns t =
    let same : HaveOneMeaning (with_values dec_value (named t.decimal rows columns)) (with_values dec_value t.decimal) =
    same_meaning (new_name row_name rows) (new_name variable_name columns) t.decimal in
    let of_values : HaveOneMeaning (named (with_values dec_value t.decimal) rows columns) (with_values dec_value t.decimal) =
    subst (λ (q : Mps ℚ). HaveOneMeaning q (with_values dec_value t.decimal)) (values_named t.decimal rows columns) same in
    subst (λ (q : Mps ℚ). HaveOneMeaning (named q rows columns) q) t.values of_values

-- ---- reading back

-- the values of the decimal program with these names
named_values : (bytes : List ℕ) (p : Mps ℚ) (rows columns : List (List ℕ)) → (t : IsNamedTextOf bytes p rows columns) → with_values dec_value (named t.decimal rows columns) ≡ named p rows columns
named_values bytes p rows columns t = values_named t.decimal rows columns ∙ ap (λ (q : Mps ℚ). named q rows columns) t.values

pub named_back : (bytes : List ℕ) (p : Mps ℚ) (rows columns : List (List ℕ)) → IsNamedTextOf bytes p rows columns → length bytes ≤ 2 ^ 31 → IsReadAs bytes (named p rows columns)
named_back bytes p rows columns t fits =
    let m = named t.decimal rows columns in
    let values = named_values bytes p rows columns t in
    let same : mps_text m ≡ bytes = text_of_values m ∙ ap (mps_text_by value_text) values ∙ sym t.text in
    record {
      program = m;
      says = subst (λ (b : List ℕ). IsMpsText b m) same (written_again m (record { valid = t.valid; room = subst (λ (b : List ℕ). length b ≤ 2 ^ 31) (sym same) fits }));
      values = values;
    }

-- ---- what is written with names

-- the text is that of a decimal program that was given these names
pub named_text : (bytes : List ℕ) (p : Mps ℚ) (m given : Mps Dec) (rows columns : List (List ℕ)) → with_values dec_value m ≡ p → given ≡ named m rows columns → IsMps dec_value given
    → bytes ≡ mps_text_by value_text (with_values dec_value given) → IsNamedTextOf bytes p rows columns
named_text bytes p m given rows columns values is valid text = record {
  decimal = m;
  valid = subst (IsMps dec_value) is valid;
  values = values;
  text = text ∙ ap (λ (q : Mps Dec). mps_text_by value_text (with_values dec_value q)) is ∙ ap (mps_text_by value_text) (values_named m rows columns ∙ ap (λ (q : Mps ℚ). named q rows columns) values);
}

-- what was folded, scaled and written with names means what it should
pub named_meant : (n : Named) (p : ScaledProgram) (out : List ℕ) → IsFile n.nl.file
    → IsScaledProgramOf (linear_of n.nl.file n.objective) p → IsNamedTextOf out (mps_of p) n.rows n.columns
    → AreNamedMeant n
named_meant n p out file exports t = λ bytes e.
    let f = n.nl.file in
    let k = n.objective in
    let same : p ≡ e.program = one_program (linear_of f k) p e.program exports e.exports in
    let own : IsNamedTextOf out (mps_of e.program) n.rows n.columns = subst (λ q. IsNamedTextOf out (mps_of q) n.rows n.columns) same t in
    let meaning = one_meaning out (mps_of e.program) n.rows n.columns own in
    record {
      file = carried f k (named (mps_of e.program) n.rows n.columns) (mps_of e.program) meaning (file_program f k e.program file e.staged.folded e.exports);
      same = meaning;
    }

-- what is exported with listed names is read as the program with these names
pub named_export_back : (text rows columns : List ℕ) (n : Named) → IsNl text n.nl → AreListed (row_counts n.nl.file) rows n.rows → AreListed (column_counts n.nl.file) columns n.columns
    → (bytes : List ℕ) (e : IsNamedExport n bytes) → length bytes ≤ 2 ^ 31 → IsReadAs bytes (named (mps_of e.program) n.rows n.columns)
named_export_back text rows columns n read of_rows of_columns bytes e fits =
    let f = n.nl.file in
    let k = n.objective in
    let p = mps_of e.program in
    let file = text_file text n.nl read in
    let counts = counts_of_header f.options f.counts file.ruled in
    let whole = program_whole (linear_of f k) (file_exportable f k file e.staged.folded) e.staged.scaled.rows e.program e.staged.scaled.objective e.exports in
    let m : Mps Dec = with_values picked p in
    let values : with_values dec_value m ≡ p = values_back p whole.decimal in
    let row_names : AreNames n.rows = subst AreNames (sym of_rows.said) (listed_names (row_counts f) (lines_of rows) (last_of rows) (omega (arith, counts.constraints)) of_rows.clean) in
    let column_names : AreNames n.columns = subst AreNames (sym of_columns.said)
    (listed_names (column_counts f) (lines_of columns) (last_of columns) (omega (arith, counts.variables))
    of_columns.clean) in
    let exported = export_named f k e.program (length n.rows) (length n.columns) file e.exports
    (listed_count (row_counts f) rows n.rows of_rows) (listed_count (column_counts f) columns n.columns of_columns) in
    let own = decimal_names (length n.rows) (length n.columns) m (subst (HasExportedNames (length n.rows) (length n.columns)) (sym values) exported) in
    let valid = program_named m n.rows n.columns row_names column_names own (whole_picked p whole.valid whole.decimal) in
    named_back bytes p n.rows n.columns (record { decimal = m; valid = valid; values = values; text = e.written }) fits
