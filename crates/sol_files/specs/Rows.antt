-- Words of lines, and what they say.
use Rattle.std.specs.Prelude.{ℕ, ℤ, List, Option, Some, None, unwrap_or, option_map, option_and_then, if◌then◌else◌, codes}
use Rattle.text_base.specs.Words.{word_at, begins}
use Rattle.exact_numbers.specs.declared.dec.Dec.{Dec}
use Rattle.exact_numbers.specs.Numbers.{dec_of, signed_of, whole_of}

-- the words of a line
abbrev pub Row : Type 0
Row = List (List ℕ)

-- the whole number that a word is; 0 where it is none
abbrev pub number_in : Row → ℕ → ℕ
number_in words i = unwrap_or (whole_of (word_at words i)) 0

-- a signed whole number alone
abbrev pub option_in : Row → Option ℤ
option_in words = signed_of (word_at words 0)

-- a value alone
abbrev pub value_in : Row → Option Dec
value_in words = dec_of (word_at words 0)

abbrev pub both : Option ℤ → Option ℤ → Option (ℤ × ℤ)
both (Some a) (Some b) = Some (a, b)
both (Some a) None = None
both None b = None

-- `objno number code`
abbrev pub objno_in : Row → Option (ℤ × ℤ)
objno_in words =
    if begins words (codes "objno")
    then both (signed_of (word_at words 1)) (signed_of (word_at words 2))
    else None

-- how many values and table lines a line `suffix kind values namelen tablen tablelines` announces
abbrev pub value_size : Row → ℕ
value_size head = number_in head 2

abbrev pub table_size : Row → ℕ
table_size head = number_in head 5

-- `index value`
unfoldable pub pair_in : Row → Option (ℕ × Dec)
pair_in words =
    option_and_then (λ i. option_map (λ d. (i, d)) (dec_of (word_at words 1)))
    (whole_of (word_at words 0))
