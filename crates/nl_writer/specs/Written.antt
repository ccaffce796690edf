-- The written text of an .nl file: the ten lines of its header, and then its pieces, each a head
-- and the lines that follow it (Gay 2005, "Writing .nl Files"). The order of the pieces is this
-- project's own.
use Rattle.std.specs.Prelude.{ℕ, zero, suc, ◌+◌, ◌&&◌, ℤ, Bool, true, false, List, [], ◌∷◌, ◌++◌, length, map, Option, Some, None, if◌then◌else◌, codes}
use Rattle.std.specs.List.{flat_map}
use Rattle.std.specs.Fmt.{decimal, signed_decimal}
use Rattle.std.specs.Ordering.{int_eq}
use Rattle.exact_numbers.specs.declared.dec.Dec.{Dec}
use Rattle.nl_model.specs.Trees.{Tree}
use Rattle.nl_model.specs.declared.header_counts.Counts.{Counts}
use Rattle.linear_program.specs.declared.interval.Interval.{Interval}
use Rattle.nl_model.specs.File.{Term, File}
use Rattle.nl_model.specs.declared.objective.Objective.{Objective}
use Rattle.nl_model.specs.declared.definition.Def.{Def as Definition}
use Rattle.nl_model.specs.declared.suffix.Suffix.{Suffix}
use Rattle.nl_model.specs.UseCounts.{terms_up_to}
use Rattle.exact_numbers.specs.Values.{text_of}
use Rattle.text_base.specs.WordLines.{WordLine, unless_empty, lines_text}
use Rattle.nl_writer.specs.Trees.{tree_lines}

-- ---- The header.

abbrev pub numbers : List ℕ → WordLine
numbers ns = map decimal ns

-- `g` and the number of options, and the options
abbrev pub options_line : List ℤ → WordLine
options_line options = (codes "g" ++ decimal (length options)) ∷ map signed_decimal options

-- lines 2 to 6: sizes, of which the second line has those up to the number of equations,
-- and the nonlinear and network parts
abbrev pub size_lines : Counts → List WordLine
size_lines c =
    numbers (c.n_var ∷ c.n_con ∷ c.n_obj ∷ c.n_ranges ∷ c.n_eqns ∷ [])
    ∷ numbers (c.nlc ∷ c.nlo ∷ [])
    ∷ numbers (c.nlnc ∷ c.lnc ∷ [])
    ∷ numbers (c.nlvc ∷ c.nlvo ∷ c.nlvb ∷ [])
    ∷ numbers (c.nwv ∷ c.nfunc ∷ c.arith ∷ c.flags ∷ [])
    ∷ []

-- lines 7 to 10: whole variables, terms, lengths of names, and defined variables
abbrev pub part_lines : Counts → List WordLine
part_lines c =
    numbers (c.nbv ∷ c.niv ∷ c.nlvbi ∷ c.nlvci ∷ c.nlvoi ∷ [])
    ∷ numbers (c.nzc ∷ c.nzo ∷ [])
    ∷ numbers (c.row_name_len ∷ c.col_name_len ∷ [])
    ∷ numbers (c.comb ∷ c.comc ∷ c.como ∷ c.comc1 ∷ c.como1 ∷ [])
    ∷ []

abbrev pub header_lines : List ℤ → Counts → List WordLine
header_lines options c = options_line options ∷ (size_lines c ++ part_lines c)

-- ---- Pieces.

-- a letter, directly followed by a number
abbrev pub lettered : List ℕ → ℕ → List ℕ
lettered letter n = letter ++ decimal n

-- an index and a value
abbrev pub term_line : Term → WordLine
term_line t = decimal t.0 ∷ text_of t.1 ∷ []

abbrev pub term_lines : List Term → List WordLine
term_lines terms = map term_line terms

-- the pieces of a list by number, of which the first has the number i
abbrev pub by_number : {A : Type 0} → (ℕ → A → List WordLine) → ℕ → List A → List WordLine
by_number piece i [] = []
by_number piece i (x ∷ xs) = piece i x ++ by_number piece (i + 1) xs

-- `S0 2 name`
abbrev pub suffix_piece : Suffix → List WordLine
suffix_piece s =
    (lettered (codes "S") s.kind ∷ decimal (length s.values) ∷ s.name ∷ []) ∷ term_lines s.values

-- `V4 1 0`: the linear terms stand before the expression
abbrev pub definition_piece : Definition → List WordLine
definition_piece d =
    (lettered (codes "V") d.index ∷ decimal (length d.terms) ∷ decimal d.usage ∷ [])
    ∷ (term_lines d.terms ++ tree_lines d.tree)

-- `C0`, where a body was given
abbrev pub body_piece : ℕ → Option Tree → List WordLine
body_piece i None = []
body_piece i (Some t) = (lettered (codes "C") i ∷ []) ∷ tree_lines t

-- 0 minimised, 1 maximised
abbrev pub sense_word : Bool → List ℕ
sense_word false = codes "0"
sense_word true = codes "1"

-- `O0 1`
abbrev pub objective_piece : ℕ → Objective → List WordLine
objective_piece k o =
    (lettered (codes "O") k ∷ sense_word o.maximise ∷ []) ∷ tree_lines o.tree

-- `d1` and `x1`, where there is a guess
abbrev pub guess_piece : List ℕ → List Term → List WordLine
guess_piece letter guesses =
    unless_empty guesses ((lettered letter (length guesses) ∷ []) ∷ term_lines guesses)

-- the same number: each has one spelling
abbrev pub is_same : Dec → Dec → Bool
is_same a b = int_eq a.m b.m && int_eq a.e b.e

-- `3`, `1 hi`, `2 lo`, `4 value` or `0 lo hi`
abbrev pub sides_line : Option Dec → Option Dec → WordLine
sides_line None None = codes "3" ∷ []
sides_line None (Some hi) = codes "1" ∷ text_of hi ∷ []
sides_line (Some lo) None = codes "2" ∷ text_of lo ∷ []
sides_line (Some lo) (Some hi) =
    if is_same lo hi
    then (codes "4" ∷ text_of lo ∷ [])
    else (codes "0" ∷ text_of lo ∷ text_of hi ∷ [])

abbrev pub interval_line : Interval → WordLine
interval_line i = sides_line i.lo i.hi

-- `r` and `b`, where there is a constraint or a variable
abbrev pub interval_piece : List ℕ → List Interval → List WordLine
interval_piece letter intervals =
    unless_empty intervals ((letter ∷ []) ∷ map interval_line intervals)

-- the counts of n variables from j on
abbrev pub column_lines : List (List Term) → ℕ → ℕ → List WordLine
column_lines rows j zero = []
column_lines rows j (suc n) = (decimal (terms_up_to rows j) ∷ []) ∷ column_lines rows (j + 1) n

-- `k1`, where there is a variable: a line for each variable but the last
abbrev pub column_piece : ℕ → List (List Term) → List WordLine
column_piece zero rows = []
column_piece (suc n) rows = (lettered (codes "k") n ∷ []) ∷ column_lines rows 0 n

-- `J0 3` and `G0 3`, where there is a term
abbrev pub term_piece : List ℕ → ℕ → List Term → List WordLine
term_piece letter i terms =
    unless_empty terms ((lettered letter i ∷ decimal (length terms) ∷ []) ∷ term_lines terms)

-- ---- The whole.

-- the lines of the pieces of a file
abbrev pub body_lines : File → List WordLine
body_lines f =
    flat_map suffix_piece f.suffixes
    ++ flat_map definition_piece f.definitions
    ++ by_number body_piece 0 f.bodies
    ++ by_number objective_piece 0 f.objectives
    ++ guess_piece (codes "d") f.dual_guesses
    ++ guess_piece (codes "x") f.primal_guesses
    ++ interval_piece (codes "r") f.sides
    ++ interval_piece (codes "b") f.bounds
    ++ column_piece f.counts.n_var f.terms
    ++ by_number (term_piece (codes "J")) 0 f.terms
    ++ by_number (term_piece (codes "G")) 0 f.slopes

abbrev pub nl_lines : File → List WordLine
nl_lines f = header_lines f.options f.counts ++ body_lines f

-- the one written text of a file
abbrev pub nl_text : File → List ℕ
nl_text f = lines_text (nl_lines f)
