-- Examples, by computation: lines and their free forms.
use Rattle.std.proofs.Common.{◌≡◌, ℕ, List, [], ◌∷◌, ◌++◌, map, refl}
use Rattle.std.specs.Prelude.{codes}
use Rattle.fixed_mps.specs.Fields.{free, is_misplaced, columns_text}

-- ---- a text of fixed columns

example : List (List ℕ)
example =
    codes "NAME          TESTFIX" ∷
    codes "ROWS" ∷
    codes " N  COST" ∷
    codes " L  LIM1" ∷
    codes "COLUMNS" ∷
    codes "    M1        'MARKER'                 'INTORG'" ∷
    codes "    X         COST               1.0   LIM1               2.0" ∷
    codes "    M2        'MARKER'                 'INTEND'" ∷
    codes "    Y         COST              -3.0" ∷
    codes "RHS" ∷
    codes "              LIM1               7.0" ∷
    codes "BOUNDS" ∷
    codes " FR           Y                  0.0" ∷
    codes "ENDATA" ∷ []

example_free : List (List ℕ)
example_free =
    codes "NAME          TESTFIX" ∷
    codes "ROWS" ∷
    codes " N COST" ∷
    codes " L LIM1" ∷
    codes "COLUMNS" ∷
    codes " M1 'MARKER' 'INTORG'" ∷
    codes " X COST 1.0 LIM1 2.0" ∷
    codes " M2 'MARKER' 'INTEND'" ∷
    codes " Y COST -3.0" ∷
    codes "RHS" ∷
    codes " LIM1 7.0" ∷
    codes "BOUNDS" ∷
    codes " FR Y" ∷
    codes "ENDATA" ∷ []

is_free_form : map free example ≡ example_free
unfolding free columns_text is_misplaced example example_free
is_free_form = refl

-- ---- lines that do not keep to the fields

misplaced : List (List ℕ)
misplaced =
    codes "    X         COST               1.0  LIM1                2.0" ∷
    codes "    X        COST                1.0" ∷
    codes "    X Y       COST               1.0" ∷
    codes " L x LIM1" ∷ []

are_refused : map free misplaced ≡ codes " FR" ∷ codes " FR" ∷ codes " FR" ∷ codes " FR" ∷ []
unfolding free columns_text is_misplaced misplaced
are_refused = refl

-- a tab
has_tab : free (codes " N" ++ 9 ∷ codes "COST") ≡ codes " FR"
unfolding free columns_text is_misplaced
has_tab = refl

-- ---- lines that stay

others : List (List ℕ)
others =
    codes "" ∷
    codes "   " ∷
    codes "* a comment, as long as it may be, with words in any column of the line" ∷
    codes "ENDATA of a section line with words in any column of the line" ∷ []

are_same : map free others ≡ others
unfolding free others
are_same = refl

-- ---- the ends of lines

-- nothing counts after column 61
is_cut : free (codes "    X         COST               1.0   LIM1               2.0 x") ≡ codes " X COST 1.0 LIM1 2.0"
unfolding free columns_text is_misplaced
is_cut = refl

-- a CR is a byte of its word
keeps_cr : free (codes "    X         COST               1.0   LIM1               2." ++ 13 ∷ codes "0") ≡ codes " X COST 1.0 LIM1 2." ++ 13 ∷ []
unfolding free columns_text is_misplaced
keeps_cr = refl

-- of one word, wherever it stands
one_word : free (codes "             MAXIMIZE") ≡ codes " MAXIMIZE"
unfolding free columns_text is_misplaced
one_word = refl
