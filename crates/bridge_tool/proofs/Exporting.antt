-- A file that folds and scales is exported as one text, which means what the file means.
use Rattle.std.proofs.Common.{◌≡◌, inl, inr, ℕ, ◌<◌, ◌≤◌, false, List, Some, None, refl, sym, ap, subst, ◌∙◌, ◌+◌}
use Rattle.linear_program.specs.Linear.{variable_count, objective_value as program_objective, row_at as exported_row}
use Rattle.exact_numbers.specs.Values.{value_text}
use Rattle.scaled_program.specs.Fits.{factor_of_row, factor_of_objective, IsScaledProgramOf}
use Rattle.scaled_program.specs.Factor.{objective_numbers, row_numbers}
use Rattle.scaled_program.specs.Program.{ScaledProgram}
use Rattle.scaled_program.specs.ExportedProgram.{mps_of, program, tied_program}
use Rattle.std.proofs.lemmas.Option.{same_Some}
use Rattle.nl_model.specs.FoldFaults.{fold_fault}
use Rattle.nl_model.specs.LinearFile.{linear_of, HasLines, IsFormedFile}
use Rattle.linear_program.specs.Programs.{LinearValue, linear_value}
use Rattle.nl_model.specs.File.{File}
use Rattle.nl_segments.specs.Grammar.{NlValue, said}
use Rattle.row_scaling.specs.Exported.{scaled_as}
use Rattle.row_scaling.specs.Scaled.{ScaledValue}
use Rattle.command_parts.specs.Stages.{HasFolded, HasScaled, CanBeExported, CannotBeExported, fold_steps}
use Rattle.mps_model.specs.Text.{mps_text_by}
use Rattle.nl_segments.specs.Reader.{IsNl}
use Rattle.bridge_tool.specs.Export.{ExportsAs, IsExported, IsExportMeant, IsSameProgram, IsTiedProgram, MeansTheFile}
use Rattle.command_parts.specs.Refusal.{HasTextRefusal}
use Rattle.command_core.proofs.SeveralFiles.{IsEither, IsLast, either_last}
use Rattle.round_trips.specs.ReadAs.{IsReadAs}
use Rattle.round_trips.proofs.ReadBack.{exported_back}
use Rattle.bridge_tool.proofs.FileLimits.{file_exportable}
use Rattle.scaled_program.proofs.Export.{same_points, same_objective, same_sense, tied_points, tied_objective, tied_sense}
use Rattle.scaled_program.proofs.Factor.{factor_above}
use Rattle.nl_model.proofs.Files.{count_lem, same_feasible, same_objective as same_value, same_sense as sense_of, linear_lem}
use Rattle.nl_model.proofs.Folding.{clean_has_lines}
use Rattle.nl_model.proofs.Formed.{file_formed}
use Rattle.nl_model.specs.Rules.{IsFile}
use Rattle.round_trips.proofs.Rewriting.{writable}
use Rattle.command_parts.proofs.TextsRead.{nl_read}
use Rattle.command_parts.proofs.ExportStages.{staged_or_not, one_reason, staged, one_program, a_program, staged_so, exports_so}

-- ---- what a file comes to

module _ (nl : NlValue) (k : ℕ) where
  pub one_text : (a b : List ℕ) → IsExported nl k a → IsExported nl k b → a ≡ b
  one_text a b h j = h.written ∙ ap (λ p. mps_text_by value_text (mps_of p)) (one_program (linear_of nl.file k) h.program j.program h.exports j.exports) ∙ sym j.written

  -- what is accepted needs both stages and no more
  pub staged_either : (accepts : List ℕ → Type 0) → ((a b : List ℕ) → accepts a → accepts b → a ≡ b)
      → ((bytes : List ℕ) → accepts bytes → CanBeExported nl k) → (CanBeExported nl k → (bytes : List ℕ) × accepts bytes)
      → IsEither accepts (CannotBeExported nl k)
  staged_either accepts one needs gives = record {
    accepted = one;
    refused = one_reason nl k;
    either = elim (staged nl k) [ inl s ↦ inl (gives s) | inr why ↦ inr why ];
    apart = λ bytes line h. staged_or_not nl k (needs bytes h) line;
  }

  pub an_export : CanBeExported nl k → (bytes : List ℕ) × IsExported nl k bytes
  an_export s = let m = a_program (linear_of nl.file k) in (mps_text_by value_text (mps_of m.0), record { program = m.0; staged = s; exports = m.1; written = refl })

pub export_last : (k : ℕ) → IsLast false IsNl HasTextRefusal (λ nl. ExportsAs nl k) (λ nl old new. new ≤ old + fold_steps nl k)
export_last k = either_last nl_read (λ nl. IsExported nl k) (λ nl. CannotBeExported nl k) (λ nl. fold_steps nl k)
    (λ nl. staged_either nl k (IsExported nl k) (one_text nl k) (λ bytes e. e.staged) (an_export nl k))

-- what was folded, scaled and written
pub exported_so : (nl : NlValue) (k : ℕ) (l : LinearValue) (s : ScaledValue) (bytes : List ℕ) → HasFolded nl k l
    → HasScaled (linear_value l) s → bytes ≡ mps_text_by value_text (mps_of (scaled_as s)) → IsExported nl k bytes
exported_so nl k l s bytes folds scales written = record { program = scaled_as s; staged = staged_so nl k l folds s scales; exports = exports_so nl k l folds s scales; written = written }

row_factors : (f : File) (k i : ℕ) → 0 < factor_of_row (linear_of f k) i
row_factors f k i = factor_above (row_numbers (variable_count (linear_of f k)) (exported_row (linear_of f k) i))

same_program : (f : File) (k : ℕ) → IsFormedFile f k → HasLines f k → IsSameProgram f k (program (linear_of f k) (factor_of_row (linear_of f k)))
same_program f k formed lines =
    record {
      points = λ xs.
          let exported = same_points (linear_of f k) (factor_of_row (linear_of f k)) xs (linear_lem f k formed) (row_factors f k) in
          let linear = same_feasible f k lines xs in
          (λ p. linear.1 (exported.0 p), λ q. exported.1 (linear.0 q));
      objective = λ xs. same_value f k lines xs ∙ ap Some (sym (same_objective (linear_of f k) (factor_of_row (linear_of f k)) xs));
      sense = same_sense (linear_of f k) (factor_of_row (linear_of f k)) ∙ sense_of f k;
    }

tied_to_it : (f : File) (k : ℕ) → IsFormedFile f k → HasLines f k → IsTiedProgram f k (tied_program (linear_of f k) (factor_of_row (linear_of f k)) (factor_of_objective (linear_of f k)))
tied_to_it f k formed lines =
    let rows = factor_of_row (linear_of f k) in
    let own = factor_of_objective (linear_of f k) in
    let above = factor_above (objective_numbers (variable_count (linear_of f k)) (linear_of f k).objective) in
    record {
      points = λ xs z size.
          let exported = tied_points (linear_of f k) rows own xs z (linear_lem f k formed) (row_factors f k) above (size ∙ sym (count_lem f k)) in
          let linear = same_feasible f k lines xs in
          let value = same_value f k lines xs in (
            λ p. let q = exported.0 p in (linear.1 q.0, value ∙ ap Some (sym q.1)),
            λ q. exported.1 (linear.0 q.0, same_Some z (program_objective (linear_of f k) xs) (sym q.1 ∙ value)),
          );
      objective = λ xs z size. tied_objective (linear_of f k) rows own xs z (size ∙ sym (count_lem f k));
      sense = tied_sense (linear_of f k) rows own ∙ sense_of f k;
    }

means : (f : File) (k : ℕ) (p : ScaledProgram) → IsFormedFile f k → HasLines f k → IsScaledProgramOf (linear_of f k) p → MeansTheFile f k (mps_of p)
means f k p formed lines exports =
    record {
      plain = λ d. subst (λ q. IsSameProgram f k (mps_of q)) (sym (exports.plain d)) (same_program f k formed lines);
      tied = λ n. subst (λ q. IsTiedProgram f k (mps_of q)) (sym (exports.tied n)) (tied_to_it f k formed lines);
    }

-- the program of a file that folds means what the file means
pub file_program : (f : File) (k : ℕ) (p : ScaledProgram) → IsFile f → fold_fault f k ≡ None → IsScaledProgramOf (linear_of f k) p → MeansTheFile f k (mps_of p)
file_program f k p file folded exports =
    let formed = file_formed f file k in
    means f k p formed (clean_has_lines f k formed folded) exports

-- a text says a file
pub text_file : (text : List ℕ) (value : NlValue) → IsNl text value → IsFile value.file
text_file text value read = (writable text value read).file

-- what is exported means the same as its file
pub exports_mean : (nl : NlValue) (k : ℕ) (bytes : List ℕ) (e : IsExported nl k bytes) → IsFile nl.file → MeansTheFile nl.file k (mps_of e.program)
exports_mean nl k bytes e file = file_program nl.file k e.program file e.staged.folded e.exports

pub export_meant : (nl : NlValue) (k : ℕ) → IsFile nl.file → IsExportMeant nl k
export_meant nl k file = λ bytes e. exports_mean nl k bytes e file

-- and is read as the program
pub exports_back : (text : List ℕ) (nl : NlValue) → IsNl text nl → (k : ℕ) (bytes : List ℕ) (e : IsExported nl k bytes) → IsReadAs bytes (mps_of e.program)
exports_back text nl said k bytes e =
    let read = exported_back (linear_of nl.file k) (file_exportable nl.file k (text_file text nl said) e.staged.folded) e.staged.scaled.rows e.program e.staged.scaled.objective e.exports in
    subst (λ (b : List ℕ). IsReadAs b (mps_of e.program)) (sym e.written) read
