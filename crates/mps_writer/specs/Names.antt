-- The bytes of a name in a line.
use Rattle.std.specs.Prelude.{ℕ, List, ◌∷◌}
use Rattle.std.specs.Fmt.{decimal}
use Rattle.mps_writer.specs.declared.names.MpsName.{MpsName}
use Rattle.mps_writer.specs.declared.names.MpsName.TheVariants.{Word, Numbered}

-- a word as it stands, or a letter and the digits of a number
abbrev pub name_bytes : MpsName → List ℕ
name_bytes (Word word) = word.now
name_bytes (Numbered letter number) = letter ∷ decimal number
