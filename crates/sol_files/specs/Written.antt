-- The one written text of a .sol file, as bytes, and which values have one that can be read.
use Rattle.std.specs.Prelude.{◌≡◌, ℕ, ◌<◌, ◌≤◌, ◌^◌, ℤ, Bool, true, false, not, ◌&&◌, ◌||◌, nat_lt, List, [], ◌∷◌, ◌++◌, length, map, Option, Some, None, IfSome, codes}
use Rattle.std.specs.List.{flat_map, sum_by, AllByRecursion}
use Rattle.std.specs.Fmt.{decimal, signed_decimal}
use Rattle.exact_numbers.specs.declared.dec.Dec.{Dec}
use Rattle.text_base.specs.Names.{is_name}
use Rattle.exact_numbers.specs.Numbers.{has_31_bits, is_whole}
use Rattle.nl_model.specs.Options.{has_second_three}
use Rattle.sol_files.specs.declared.suffix.SolSuffix.{SolSuffix}
use Rattle.sol_files.specs.Sol.{Sol}
use Rattle.sol_files.specs.Built.{AreGiven}
use Rattle.text_base.specs.Cut.{IsTextLine, ended_lines}
use Rattle.text_base.specs.WordLines.{spaced}
use Rattle.exact_numbers.specs.Values.{text_of}
use Rattle.sol_files.specs.Parts.{is_options}
use Rattle.sol_files.specs.Tests.{has_index}
use Rattle.nl_model.specs.SuffixKinds.{object_limit, wants_whole}

-- ---- the text

abbrev pub head_line : SolSuffix → List ℕ
head_line s =
    spaced (codes "suffix" ∷ decimal s.kind ∷ decimal (length s.values) ∷ decimal s.name_len
    ∷ decimal s.table_len ∷ decimal (length s.table) ∷ [])

abbrev pub value_line : ℕ × Dec → List ℕ
value_line t = spaced (decimal t.0 ∷ text_of t.1 ∷ [])

abbrev pub suffix_lines : SolSuffix → List (List ℕ)
suffix_lines s = head_line s ∷ s.name ∷ (s.table ++ map value_line s.values)

abbrev pub objno_lines : Option (ℤ × ℤ) → List (List ℕ)
objno_lines None = []
objno_lines (Some t) = spaced (codes "objno" ∷ signed_decimal t.0 ∷ signed_decimal t.1 ∷ []) ∷ []

-- the numbers of constraints, duals, variables and primals
abbrev pub size_lines : Sol → List (List ℕ)
size_lines s = decimal s.n_con ∷ decimal (length s.duals) ∷ decimal s.n_var
    ∷ decimal (length s.primals) ∷ []

-- the lines after the message
abbrev pub body_text_lines : Sol → List (List ℕ)
body_text_lines s =
    (([] ∷ codes "Options" ∷ decimal (length s.options) ∷ []) ++ map signed_decimal s.options)
    ++ size_lines s ++ map text_of s.duals ++ map text_of s.primals ++ objno_lines s.objno
    ++ flat_map suffix_lines s.suffixes

unfoldable pub sol_lines : Sol → List (List ℕ)
sol_lines s = s.message ++ body_text_lines s

unfoldable pub sol_text : Sol → List ℕ
sol_text s = ended_lines (sol_lines s)

-- ---- which values can be read again

-- indices are below the limit and come once, after these
unfoldable pub are_values : ℕ → Bool → List (ℕ × Dec) → List (ℕ × Dec) → Bool
are_values limit whole_only before [] = true
are_values limit whole_only before (t ∷ ts) =
    (nat_lt t.0 limit && not (has_index before t.0)) && (not whole_only || is_whole t.1)
    && are_values limit whole_only (before ++ t ∷ []) ts

-- a line of a text that is not `Options`
pub record IsSaidLine (line : List ℕ) : Type 0 where
  pub line_of_text : IsTextLine line
  pub other : is_options line ≡ false

pub record IsWritableSuffix (n_var n_con : ℕ) (s : SolSuffix) : Type 0 where
  pub kind : s.kind < 256
  pub name : is_name s.name ≡ true
  pub name_len : s.name_len < 2 ^ 31
  pub table_len : s.table_len < 2 ^ 31
  pub table : AllByRecursion IsTextLine s.table
  pub values : are_values (object_limit n_var n_con 256 s.kind) (wants_whole s.kind) [] s.values
      ≡ true

abbrev pub IsSignedPair : ℤ × ℤ → Type 0
IsSignedPair t = (has_31_bits t.0 ≡ true) × (has_31_bits t.1 ≡ true)

-- the rules of values, and the limits of their parts and lines
pub record KeepsRules (s : Sol) : Type 0 where
  pub message : AllByRecursion IsSaidLine s.message
  pub message_room : length s.message ≤ 65536
  pub options : AllByRecursion (λ z. has_31_bits z ≡ true) s.options
  pub option_room : length s.options ≤ 9
  pub second : has_second_three s.options ≡ false
  pub n_con : s.n_con ≤ 2 ^ 20
  pub n_var : s.n_var ≤ 2 ^ 20
  pub given : AreGiven s
  pub objno : IfSome s.objno IsSignedPair
  pub suffixes : AllByRecursion (IsWritableSuffix s.n_var s.n_con) s.suffixes
  pub suffix_room : length s.suffixes ≤ 1024
  pub table_room : sum_by (λ x. length x.table) s.suffixes ≤ 65536
  pub value_room : sum_by (λ x. length x.values) s.suffixes ≤ 2 ^ 22

-- and the limit of the text that is written
pub record IsWritable (s : Sol) : Type 0 where
  pub rules : KeepsRules s
  pub text : length (sol_text s) ≤ 2 ^ 31
