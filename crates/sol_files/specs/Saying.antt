-- What the parts of a .sol text say.
use Rattle.std.specs.Prelude.{ℕ, ◌+◌, List, [], ◌∷◌, take, drop, slice_get, Option, Some, None}
use Rattle.std.specs.List.{filter_map}
use Rattle.exact_numbers.specs.declared.dec.Dec.{Dec}
use Rattle.text_base.specs.Words.{row_of, word_at}
use Rattle.sol_files.specs.declared.suffix.SolSuffix.{SolSuffix}
use Rattle.sol_files.specs.Sol.{Sol}
use Rattle.sol_files.specs.Rows.{Row, number_in, option_in, value_in, objno_in, value_size, table_size, pair_in}
use Rattle.sol_files.specs.Parts.{option_count, constraint_count, dual_count, variable_count, primal_count, Piece, Body}

-- ---- rows of numbers

abbrev pub option_rows : List Row → List Row
option_rows rows = take (option_count rows) (drop 1 rows)

abbrev pub dual_rows : List Row → List Row
dual_rows rows = take (dual_count rows) (drop (option_count rows + 5) rows)

abbrev pub primal_rows : List Row → List Row
primal_rows rows = take (primal_count rows) (drop (option_count rows + 5 + dual_count rows) rows)

abbrev pub rows_past : List Row → List Row
rows_past rows = drop (option_count rows + 5 + dual_count rows + primal_count rows) rows

-- ---- suffixes

-- the values among the lines after the name
abbrev pub values_in : ℕ → ℕ → List (List ℕ) → List (ℕ × Dec)
values_in tables values lines =
    filter_map (λ line. pair_in (row_of line)) (take values (drop tables lines))

-- a suffix of this first line, with its name line and the lines after it, as far as they came
abbrev pub suffix_by : Row → List (List ℕ) → Option SolSuffix
suffix_by head [] = None
suffix_by head (name ∷ lines) =
    Some (record {
      kind = number_in head 1;
      name = word_at (row_of name) 0;
      name_len = number_in head 3;
      table_len = number_in head 4;
      table = take (table_size head) lines;
      values = values_in (table_size head) (value_size head) lines;
    })

abbrev pub suffix_of : Piece → Option SolSuffix
suffix_of p = suffix_by p.head p.lines

-- ---- the whole

unfoldable pub sol_of : List (List ℕ) → Body → Sol
sol_of message b =
    record {
      message = message;
      options = filter_map option_in (option_rows b.rows);
      n_con = constraint_count b.rows;
      duals = filter_map value_in (dual_rows b.rows);
      n_var = variable_count b.rows;
      primals = filter_map value_in (primal_rows b.rows);
      objno = slice_get (filter_map objno_in (rows_past b.rows)) 0;
      suffixes = filter_map suffix_of b.pieces;
    }
