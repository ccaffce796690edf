-- The setting of a file is that of its linear program, whichever objective is chosen.
use Rattle.std.proofs.Common.{◌≡◌, ◌∙◌, ℕ, ◌+◌, ◌<◌, length, sym, ap, subst, arith}
use Rattle.linear_program.specs.Linear.{Variable}
use Rattle.linear_program.proofs.Elements.{elements_at, elements_length}
use Rattle.linear_program.specs.Intervals.{is_whole_kind}
use Rattle.linear_program.specs.declared.kind.Kind.TheVariants.{Continuous}
use Rattle.nl_model.specs.File.{File}
use Rattle.nl_model.specs.Kinds.{variable_kind}
use Rattle.nl_model.specs.LinearFile.{linear_of}
use Rattle.nl_model.proofs.Files.{count_lem, variable_lem}
use Rattle.certificates.specs.Setting.{IsSettingOf}
use Rattle.problems.specs.NlSetting.{setting_of}
use Rattle.problems.proofs.Files.{rows_counted}

pub kinds_counted : (f : File) → length (setting_of f).kinds ≡ f.counts.n_var
kinds_counted f = elements_length (variable_kind f.counts) 0 f.counts.n_var

pub file_setting : (f : File) (k : ℕ) → IsSettingOf (linear_of f k) (setting_of f)
file_setting f k = record {
  rows = sym (rows_counted f k);
  variables = kinds_counted f ∙ sym (count_lem f k);
  whole = λ j h.
      let there : j < f.counts.n_var = subst (λ n. j < n) (kinds_counted f) h in
      let here : 0 + j ≡ j = omega arith in
      ap is_whole_kind (elements_at (variable_kind f.counts) 0 f.counts.n_var j Continuous there)
      ∙ ap (λ i. is_whole_kind (variable_kind f.counts i)) here
      ∙ sym (ap (λ (v : Variable). v.whole) (variable_lem f k j there));
}
