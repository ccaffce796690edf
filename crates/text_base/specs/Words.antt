-- The words of a line, and its comment.
use Rattle.std.specs.Prelude.{take, ◌==◌, ◌<◌, ℕ, Bool, true, ◌&&◌, ◌||◌, List, [], ◌∷◌, if◌then◌else◌, map, slice_index_or}
use Rattle.std.specs.Borrow.{Bor}
use Rattle.std.specs.List.{AllByRecursion}
use Rattle.std.specs.Str.{bytes_eq}
use Rattle.text_base.specs.declared.runs.Words.{Words}

-- a space or a tab
abbrev pub is_blank : ℕ → Bool
is_blank b = (b == 32) || (b == 9)

-- each byte stands above `#`, and so is neither that nor a blank
abbrev pub IsUnmarked : List ℕ → Type 0
IsUnmarked word = AllByRecursion (λ b. 35 < b) word

-- the byte goes onto the first word, or begins one
abbrev pub onto_word : ℕ → Bool → List (List ℕ) → List (List ℕ)
onto_word b begins [] = (b ∷ []) ∷ []
onto_word b begins (word ∷ words) = if begins then (b ∷ []) ∷ word ∷ words else (b ∷ word) ∷ words

-- the next byte, if there is one, is a blank
abbrev pub ends_word : List ℕ → Bool
ends_word [] = true
ends_word (b ∷ bytes) = is_blank b

-- the words of a line: the longest runs of bytes that are no blanks
abbrev pub words_of : List ℕ → List (List ℕ)
words_of [] = []
words_of (b ∷ bytes) =
    if is_blank b then words_of bytes else onto_word b (ends_word bytes) (words_of bytes)

-- what words that are lent stand for
abbrev pub texts : List (Bor (List ℕ)) → List (List ℕ)
texts words = map (λ w. w.now) words

-- the words that an iterator has left
abbrev pub words_left : Words → List (List ℕ)
words_left words = words_of words.rest.now

-- The words of a line by which it is judged where no form has twelve words: all of them, where they
-- are at most twelve, and else the first twelve, which are too many as well.
abbrev pub row_of : List ℕ → List (List ℕ)
row_of line = take 12 (words_of line)

-- the word at a place, counted from 0; past the last word, the empty one
abbrev pub word_at : List (List ℕ) → ℕ → List ℕ
word_at words i = slice_index_or words i []

-- the first word is this one
abbrev pub begins : List (List ℕ) → List ℕ → Bool
begins words keyword = bytes_eq (word_at words 0) keyword

-- without the blanks at the front
abbrev pub without_blanks : List ℕ → List ℕ
without_blanks [] = []
without_blanks (b ∷ bytes) = if is_blank b then without_blanks bytes else b ∷ bytes

-- the bytes up to a comment: a `#` begins one where it may begin, at the front or after a blank
abbrev pub up_to_comment : Bool → List ℕ → List ℕ
up_to_comment may_begin [] = []
up_to_comment may_begin (b ∷ bytes) =
    if may_begin && (b == 35) then [] else b ∷ up_to_comment (is_blank b) bytes

-- the line without its comment, which begins at a `#` that is the first byte or follows a blank
abbrev pub without_comment : List ℕ → List ℕ
without_comment line = up_to_comment true line
