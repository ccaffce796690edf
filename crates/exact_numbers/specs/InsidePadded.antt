-- A room of 96 bytes, of which the first are used and all others are 0.
use Rattle.std.specs.Prelude.{◌≡◌, ℕ, ◌-◌, ◌≤◌, List, ◌++◌, length, take, drop, replicate}
use Rattle.std.proofs.Common.{◌∙◌, sym, ap, arith}
use Rattle.std.proofs.lemmas.List.{length-take-le, take-append-drop}

-- the first `len` bytes are used
pub record IsPadded (bytes : List ℕ) (len : ℕ) : Type 0 where
  pub room : length bytes ≡ 96
  pub within : len ≤ 96
  pub unused : drop len bytes ≡ replicate (96 - len) 0

-- the room in which a text is used
abbrev pub room_of : List ℕ → List ℕ
room_of text = text ++ replicate (96 - length text) 0

pub length_back : (bytes : List ℕ) (len : ℕ) → IsPadded bytes len → length (take len bytes) ≡ len
length_back bytes len h = length-take-le len bytes (omega (arith, h.room, h.within))

pub room_back : (bytes : List ℕ) (len : ℕ) → IsPadded bytes len → room_of (take len bytes) ≡ bytes
room_back bytes len h =
    ap (λ n. take len bytes ++ replicate (96 - n) 0) (length_back bytes len h)
    ∙ ap (λ rest. take len bytes ++ rest) (sym h.unused) ∙ take-append-drop len bytes
