-- Short names as numbers.
use Rattle.std.specs.Prelude.{◌≡◌, ◌≢◌, Bool, true, false, ◌&&◌, zero, suc, ℕ, ◌+◌, ◌*◌, ◌/◌, ◌%◌, ◌<◌, ◌≤◌, ◌^◌, nat_le, nat_lt, List, [], ◌∷◌, ◌++◌, length, map, get_or, fold, All, AllPairs, if◌then◌else◌, Option, Some, None}
use Rattle.text_base.specs.Names.{IsName, is_name}
use Rattle.text_base.specs.Names.{place_of}
use Rattle.std.specs.Str.{bytes_eq}
use Rattle.mps_model.specs.Valid.{marker_word}

-- a number with one more digit of base 256
abbrev pub with_byte : ℕ → ℕ → ℕ
with_byte code byte = code * 256 + byte

-- the bytes as digits of base 256: other bytes have another number where the first is not 0
abbrev pub bytes_code : List ℕ → ℕ
bytes_code bytes = fold with_byte 0 bytes

-- one to sixteen bytes, the first of them not 0
abbrev pub is_short : List ℕ → Bool
is_short name = nat_lt 0 (get_or name 0 0) && nat_le (length name) 16

-- that of a short name; 0 of others
unfoldable pub code_of : List ℕ → ℕ
code_of name = if is_short name then bytes_code name else 0

-- the digits of a number of base 256, the last n at most
unfoldable pub last_bytes : ℕ → ℕ → List ℕ
last_bytes zero code = []
last_bytes (suc n) code =
    if nat_le code 0 then [] else last_bytes n (code / 256) ++ code % 256 ∷ []

-- the short name of this code
unfoldable pub name_of : ℕ → List ℕ
name_of code = last_bytes 16 code

-- each is a byte
abbrev pub AreBytes : List ℕ → Type 0
AreBytes name = All (λ b. b < 256) name

-- names that differ, at most as many as there may be, and their codes
pub record HaveCodes (names : List (List ℕ)) (codes : List ℕ) : Type 0 where
  pub few : length names ≤ 2 ^ 21
  pub bytes : All AreBytes names
  pub named : All (λ n. is_name n ≡ true) names
  pub apart : AllPairs (λ m n. m ≢ n) names
  pub coded : codes ≡ map code_of names

-- no codes, or first that of a long name
abbrev pub NoneOrLong : List ℕ → Type 0
NoneOrLong codes = get_or codes 0 0 ≡ 0

-- the names: those of the set where there is one, else those that have the codes
abbrev pub kept_names : Option (List (List ℕ)) → List ℕ → List (List ℕ)
kept_names (Some names) codes = names
kept_names None codes = map name_of codes

-- a text begins with a short name of this code, this byte, and what follows
pub record IsShort (text : List ℕ) (end code : ℕ) (rest : List ℕ) : Type 0 where
  pub name : List ℕ
  pub parts : text ≡ name ++ end ∷ rest
  pub short : is_short name ≡ true
  pub own : code ≡ code_of name

-- a text begins with the name at a place, which is not the word of a marker line, this byte, and
-- what follows
pub record IsFound (names : List (List ℕ)) (text : List ℕ) (end place : ℕ) (rest : List ℕ)
    : Type 0 where
  pub name : List ℕ
  pub parts : text ≡ name ++ end ∷ rest
  pub is_name : IsName name
  pub other : bytes_eq name marker_word ≡ false
  pub at : place_of names name ≡ Some place
