-- What a desk in memory stands for, and what each of its calls does to that.
use Rattle.std.specs.Prelude.{◌+◌, ◌-◌, ◌^◌, ℕ, min, Bool, not, ◌&&◌, ◌||◌, ◌==◌, List, [], ◌∷◌, ◌++◌, length, take, drop, if◌then◌else◌, nat_lt, is_some, unwrap_or}
use Rattle.std.specs.List.{list_any}
use Rattle.std.specs.Str.{bytes_eq}
use Rattle.std.specs.declared.option.Option.{Option}
use Rattle.std.specs.declared.option.Option.TheVariants.{None, Some}
use Rattle.text_base.specs.Desk.{Meaning}

pub record MemoryState : Type 0 where
  -- each text with its name
  pub texts : List (List ℕ × List ℕ)
  -- what is left of the current text
  pub left : List ℕ
  pub written : List ℕ
  pub told : List ℕ
  -- how many bytes may be written, and how many told
  pub room : ℕ
  pub input_faults : ℕ
  pub output_faults : ℕ
  pub message_faults : ℕ
  -- the number of the next call, and the numbers of those that fail
  pub calls : ℕ
  pub failing : List ℕ
  -- the limits of the next reads
  pub cuts : List ℕ

-- the text of that name
abbrev pub text_named : List (List ℕ × List ℕ) → List ℕ → Option (List ℕ)
text_named [] name = None
text_named (entry ∷ entries) name =
    if bytes_eq entry.0 name then Some entry.1 else text_named entries name

-- the texts with this one, in place of an older one of that name
abbrev pub with_text : List (List ℕ × List ℕ) → List ℕ → List ℕ → List (List ℕ × List ℕ)
with_text [] name text = (name, text) ∷ []
with_text (entry ∷ entries) name text =
    if bytes_eq entry.0 name then (entry.0, text) ∷ entries else entry ∷ with_text entries name text

abbrev pub meaning_of : MemoryState → Meaning
meaning_of s = record {
  texts = Some (text_named s.texts);
  left = Some s.left;
  written = Some s.written;
  told = Some s.told;
  input_faults = s.input_faults;
  output_faults = s.output_faults;
  message_faults = s.message_faults;
}

-- one more, up to the last value
abbrev pub next_count : ℕ → ℕ
next_count n = min (n + 1) (2 ^ 64 - 1)

-- the next call is to fail
abbrev pub is_failing : MemoryState → Bool
is_failing s = list_any (λ n. n == s.calls) s.failing

-- a start succeeds
abbrev pub start_succeeds : MemoryState → List ℕ → Bool
start_succeeds s name = not (is_failing s) && is_some (text_named s.texts name)

abbrev pub started : MemoryState → List ℕ → MemoryState
started s name =
    if is_failing s
    then record s {
      calls = next_count s.calls;
      left = [];
      input_faults = next_count s.input_faults;
    }
    else record s { calls = next_count s.calls; left = unwrap_or (text_named s.texts name) [] }

-- so many, but no more than the first limit
abbrev pub limited : List ℕ → ℕ → ℕ
limited [] n = n
limited (cut ∷ cuts) n = min n cut

-- how many bytes a read into so much room gives
abbrev pub read_len : MemoryState → ℕ → ℕ
read_len s most = limited s.cuts (min most (length s.left))

abbrev pub read_done : MemoryState → ℕ → MemoryState
read_done s most =
    if is_failing s
    then record s { calls = next_count s.calls; input_faults = next_count s.input_faults }
    else record s {
      calls = next_count s.calls;
      left = drop (read_len s most) s.left;
      cuts = drop 1 s.cuts;
    }

-- a piece finds room for a byte, or has none
abbrev pub has_room : ℕ → List ℕ → List ℕ → Bool
has_room room bytes piece = (length piece == 0) || nat_lt (length bytes) room

-- what of the piece fits
abbrev pub fitting : ℕ → List ℕ → List ℕ → List ℕ
fitting room bytes piece = take (room - length bytes) piece

abbrev pub write_succeeds : MemoryState → List ℕ → Bool
write_succeeds s piece = not (is_failing s) && has_room s.room s.written piece

abbrev pub write_done : MemoryState → List ℕ → MemoryState
write_done s piece =
    if write_succeeds s piece
    then record s {
      calls = next_count s.calls;
      written = s.written ++ fitting s.room s.written piece;
    }
    else record s { calls = next_count s.calls; output_faults = next_count s.output_faults }

abbrev pub tell_succeeds : MemoryState → List ℕ → Bool
tell_succeeds s piece = not (is_failing s) && has_room s.room s.told piece

abbrev pub tell_done : MemoryState → List ℕ → MemoryState
tell_done s piece =
    if tell_succeeds s piece
    then record s { calls = next_count s.calls; told = s.told ++ fitting s.room s.told piece }
    else record s { calls = next_count s.calls; message_faults = next_count s.message_faults }

-- a new desk
abbrev pub empty_state : ℕ → MemoryState
empty_state room = record {
  texts = [];
  left = [];
  written = [];
  told = [];
  room = room;
  input_faults = 0;
  output_faults = 0;
  message_faults = 0;
  calls = 0;
  failing = [];
  cuts = [];
}

-- a text was stored; then there is no current text
abbrev pub put_done : MemoryState → List ℕ → List ℕ → MemoryState
put_done s name text = record s { texts = with_text s.texts name text; left = [] }
