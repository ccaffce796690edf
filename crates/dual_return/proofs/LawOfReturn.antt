-- The law of return, for the bodies of the file.
use Rattle.std.proofs.Common.{◌≡◌, ◌∙◌, ℕ, ◌<◌, List, [], length, get_or, IsTrue, Some, None, sym, ap, subst, arith}
use Rattle.std.specs.Prelude.{slice_get}
use Rattle.std.proofs.lemmas.Option.{slice_get_within}
use Rattle.exact_numbers.specs.Rational.{ℚ, whole, ◌*ℚ◌, ◌-ℚ◌}
use Rattle.linear_program.specs.Linear.{Row, form_value, no_row, row_at, variable_count}
use Rattle.exact_numbers.specs.declared.dec.Dec.{Dec}
use Rattle.exact_numbers.specs.Values.{dec_value}
use Rattle.scaled_program.specs.Fits.{factor_of_row, factor_of_objective}
use Rattle.scaled_program.specs.Program.{is_exported}
use Rattle.scaled_program.specs.Return.{dual_of}
use Rattle.scaled_program.proofs.ExportedReturn.{law_of_return, law_of_return_tied}
use Rattle.nl_model.specs.File.{File}
use Rattle.nl_model.specs.Rules.{IsFile}
use Rattle.nl_model.specs.FoldFaults.{fold_fault}
use Rattle.nl_model.specs.LinearFile.{HasLines, body_form, linear_of, linear_row}
use Rattle.nl_model.specs.Meaning.{body_value}
use Rattle.linear_program.proofs.Elements.{elements_at, elements_length}
use Rattle.nl_model.proofs.Files.{count_lem, linear_lem}
use Rattle.nl_model.proofs.Folding.{clean_has_lines}
use Rattle.nl_model.proofs.Formed.{file_formed}
use Rattle.answer_file.specs.Grammar.{AnswerValue}
use Rattle.dual_return.specs.Return.{AreDuals, IsDualTimes, MeanTheProgram, linear_for, sign_of}

rows_count : (f : File) (k : ℕ) → length (linear_of f k).rows ≡ f.counts.n_con
unfolding linear_of
rows_count f k = elements_length (linear_row f) 0 f.counts.n_con

row_is : (f : File) (k i : ℕ) → i < f.counts.n_con → row_at (linear_of f k) i ≡ linear_row f i
unfolding linear_of
row_is f k i h = elements_at (linear_row f) 0 f.counts.n_con i no_row h ∙ ap (linear_row f) (omega arith)

-- the value of a body is that of its row in the linear program
body_is : (f : File) (k i : ℕ) (xs : List ℚ) → HasLines f k → i < f.counts.n_con
    → body_value f i xs ≡ Some (form_value (row_at (linear_of f k) i).body (variable_count (linear_of f k)) xs)
body_is f k i xs lines h =
    lines.bodies i h xs
    ∙ ap (λ (n : ℕ). Some (form_value (body_form f i) n xs)) (sym (count_lem f k))
    ∙ ap (λ (r : Row). Some (form_value r.body (variable_count (linear_of f k)) xs)) (sym (row_is f k i h))

module _ (f : File) (a : AnswerValue) (duals : List Dec) (file : IsFile f) (folds : fold_fault f a.objective ≡ None) (all : AreDuals f a duals) where
  lines : HasLines f a.objective
  lines = clean_has_lines f a.objective (file_formed f file a.objective) folds

  within : (i : ℕ) (d : Dec) → slice_get duals i ≡ Some d → i < f.counts.n_con
  within i d at = subst (λ (n : ℕ). i < n) all.count (slice_get_within duals i d at)

  times : (i : ℕ) (d w : Dec) (xs : List ℚ) (x : ℚ) → slice_get duals i ≡ Some d → IsTrue (is_exported (row_at (linear_for f a) i)) → get_or a.rows i None ≡ Some w
      → dual_of (whole (sign_of f a)) (dec_value w) (factor_of_row (linear_for f a) i)
      *ℚ (form_value (row_at (linear_for f a) i).body (variable_count (linear_for f a)) xs
      -ℚ form_value (row_at (linear_for f a) i).body (variable_count (linear_for f a)) []) ≡ x
      → IsDualTimes (dec_value d) (body_value f i xs) (body_value f i []) x
  times i d w xs x at e given law =
      let v = form_value (row_at (linear_for f a) i).body (variable_count (linear_for f a)) in
      let body = λ (ys : List ℚ). body_is f a.objective i ys lines (within i d at) in
      let same : dec_value d *ℚ (v xs -ℚ v []) ≡ x = ap (λ (q : ℚ). q *ℚ (v xs -ℚ v [])) ((all.each i d at).exported e w given) ∙ law in
      rw (body xs, body []) same

  in_program : (i : ℕ) (d : Dec) → slice_get duals i ≡ Some d → i < length (linear_for f a).rows
  in_program i d at = subst (λ (n : ℕ). i < n) (sym (rows_count f a.objective)) (within i d at)

  pub duals_mean : MeanTheProgram f a duals
  duals_mean = record {
    plain = λ i d w xs at e given. times i d w xs _ at e given (law_of_return (linear_for f a) (factor_of_row (linear_for f a)) (whole (sign_of f a)) (dec_value w) i xs (in_program i d at) e);
    tied = λ i d w xs z count at e given. times i d w xs _ at e given
        (law_of_return_tied (linear_for f a) (factor_of_row (linear_for f a)) (factor_of_objective (linear_for f a))
        (whole (sign_of f a)) (dec_value w) i xs z (linear_lem f a.objective (file_formed f file a.objective))
        (count ∙ sym (count_lem f a.objective)) (in_program i d at) e);
  }
