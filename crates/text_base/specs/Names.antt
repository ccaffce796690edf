-- What a name is: own profile.
use Rattle.std.specs.Prelude.{◌≡◌, ◌<◌, ◌≤◌, ℕ, Bool, true, not, ◌&&◌, ◌==◌, nat_le, List, length, Option}
use Rattle.std.specs.List.{list_all, position}
use Rattle.std.specs.Str.{bytes_eq}

-- no control byte and no space: no byte below 33
abbrev pub has_name_bytes : List ℕ → Bool
has_name_bytes text = list_all (λ b. nat_le 33 b) text

-- 1 to 255 bytes, none of them below 33
pub record IsName (text : List ℕ) : Type 0 where
  pub some : 0 < length text
  pub most : length text ≤ 255
  pub each : has_name_bytes text ≡ true

-- the test whether a text is a name
abbrev pub is_name : List ℕ → Bool
is_name text = (not (length text == 0) && nat_le (length text) 255) && has_name_bytes text

-- the place of the first of these names that is this one
abbrev pub place_of : List (List ℕ) → List ℕ → Option ℕ
place_of names name = position (bytes_eq name) names
