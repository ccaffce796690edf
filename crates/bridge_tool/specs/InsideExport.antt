-- What the functions of the command export hand on: texts that were written.
use Rattle.std.specs.Prelude.{◌≡◌, ℕ, List}
use Rattle.exact_numbers.specs.Rational.{ℚ}
use Rattle.exact_numbers.specs.Values.{value_text, dec_value}
use Rattle.exact_numbers.specs.declared.dec.Dec.{Dec}
use Rattle.mps_model.specs.Mps.{Mps, with_values}
use Rattle.mps_model.specs.Text.{mps_text_by}
use Rattle.mps_model.specs.Valid.{IsMps}
use Rattle.name_files.specs.Renamed.{named}

-- The bytes are the written text of a program with these names. Its values are those of a decimal
-- program, which is whole with these names too.
pub record IsNamedTextOf (bytes : List ℕ) (program : Mps ℚ)
    (rows columns : List (List ℕ)) : Type 0 where
  pub decimal : Mps Dec
  pub valid : IsMps dec_value (named decimal rows columns)
  pub values : with_values dec_value decimal ≡ program
  pub text : bytes ≡ mps_text_by value_text (named program rows columns)
