-- The terms of a row: its entries that are not 0, by ascending column.
use Rattle.std.specs.Prelude.{ℕ, suc, nat_eq, Bool, false, not, ◌&&◌, ◌||◌, if◌then◌else◌, pos, List, [], ◌∷◌, ◌++◌, Option, Some, None}
use Rattle.std.specs.List.{filter_map}
use Rattle.std.specs.Ordering.{int_eq}
use Rattle.exact_numbers.specs.Fits.{fits}
use Rattle.exact_numbers.specs.Values.{dec_value}
use Rattle.exact_numbers.specs.declared.dec.Dec.{Dec}
use Rattle.linear_program.specs.Decimals.{DecimalTerm}
use Rattle.mps_model.specs.Mps.{Entry, Column, Mps}

abbrev pub is_zero_dec : Dec → Bool
is_zero_dec d = int_eq d.m (pos 0)

-- the term of column j for an entry in row i that is not 0
abbrev pub term_of : ℕ → ℕ → Entry Dec → Option DecimalTerm
term_of i j e = if nat_eq e.row i && not (is_zero_dec e.value) then Some (j, e.value) else None

-- the terms of row i from columns, of which the first is column j
unfoldable pub terms_from : ℕ → ℕ → List (Column Dec) → List DecimalTerm
terms_from i j [] = []
terms_from i j (c ∷ cs) = filter_map (term_of i j) c.entries ++ terms_from i (suc j) cs

-- the terms of row i
unfoldable pub row_terms : Mps Dec → ℕ → List DecimalTerm
row_terms m i = terms_from i 0 m.columns

-- a coefficient has no fraction
abbrev pub has_wide_term : List DecimalTerm → Bool
has_wide_term [] = false
has_wide_term (t ∷ ts) = not (fits (dec_value t.1)) || has_wide_term ts
