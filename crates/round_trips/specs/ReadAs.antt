-- What the text of an exported program is read as.
use Rattle.std.specs.Prelude.{◌≡◌, ℕ, List}
use Rattle.exact_numbers.specs.Rational.{ℚ}
use Rattle.exact_numbers.specs.declared.dec.Dec.{Dec}
use Rattle.exact_numbers.specs.Values.{dec_value}
use Rattle.mps_model.specs.Mps.{Mps, with_values}
use Rattle.mps_reader.specs.Reader.{IsMpsText}

-- the text says a decimal program, and its numbers have these values
pub record IsReadAs (text : List ℕ) (m : Mps ℚ) : Type 0 where
  pub program : Mps Dec
  pub says : IsMpsText text program
  pub values : with_values dec_value program ≡ m
