-- What a reader of header lines holds, and what it answers to the next line.
use Rattle.std.specs.Prelude.{◌≡◌, ℕ, ◌+◌, ◌<◌, ◌==◌, not, ◌&&◌, ℤ, false, List, [], ◌∷◌, ◌++◌, length, map, take, slice_index, slice_index_or, Option, Some, None, Result, Ok, Err}
use Rattle.code_tables.specs.declared.field.FieldRow.{FieldRow}
use Rattle.code_tables.specs.Header.{header_rows}
use Rattle.text_base.specs.Judged.{first_reason}
use Rattle.nl_model.specs.declared.header_counts.Counts.{Counts}
use Rattle.nl_model.specs.declared.header.Header.{Header}
use Rattle.nl_model.specs.HeaderWords.{header_options, header_counts}
use Rattle.nl_model.specs.HeaderRules.{are_definitions_within, is_header}
use Rattle.nl_header.specs.declared.fault.HeadFault.{HeadFault}
use Rattle.nl_header.specs.declared.fault.HeadFault.TheVariants.{TooLarge}
use Rattle.nl_header.specs.Head.{header_number, number_after, options_in, counts_in, header_line_fault}

-- how many lines were taken, their options, the number of each row of the table, and the fault that
-- was met
pub record Taken : Type 0 where
  pub lines : ℕ
  pub options : List ℤ
  pub numbers : List ℕ
  pub fault : Option HeadFault

-- the numbers of the rows of the table
unfoldable pub numbers_in : List (List (List ℕ)) → List ℕ
numbers_in lines = map (λ r. header_number lines r.line r.place) header_rows

-- no line has a fault, each judged from the lines before it
pub record AreClean (lines : List (List (List ℕ))) : Type 0 where
  pub clean : (i : ℕ) → i < length lines
      → header_line_fault (take i lines) (slice_index_or lines i []) ≡ None

-- the reader took these lines, which have no fault
pub record IsReading (s : Taken) (lines : List (List (List ℕ))) : Type 0 where
  pub count : s.lines ≡ length lines
  pub options : s.options ≡ options_in lines
  pub numbers : s.numbers ≡ numbers_in lines
  pub going : s.fault ≡ None
  pub clean : AreClean lines

-- the header that ten lines say
pub record SaysHeader (lines : List (List (List ℕ))) (header : Header) : Type 0 where
  pub count : length lines ≡ 10
  pub options : header_options header ≡ options_in lines
  pub counts : header_counts header ≡ counts_in lines

-- a line without a fault that is not the last
pub record GoesOn (before : List (List (List ℕ))) (words : List (List ℕ))
    (after : Taken) : Type 0 where
  pub clean : header_line_fault before words ≡ None
  pub reading : IsReading after (before ++ words ∷ [])

-- the last line, without a fault
pub record Ends (before : List (List (List ℕ))) (words : List (List ℕ)) (header : Header)
    (after : Taken) : Type 0 where
  pub clean : header_line_fault before words ≡ None
  pub says : SaysHeader (before ++ words ∷ []) header
  pub count : after.lines ≡ 10

-- what is answered to a line with these words that comes after the lines before, and where the
-- reader is then
abbrev pub Takes : List (List (List ℕ)) → List (List ℕ) → Result (Option Header) HeadFault
    → Taken → Type 0
Takes before words (Ok None) after = GoesOn before words after
Takes before words (Ok (Some header)) after = Ends before words header after
Takes before words (Err fault) after = header_line_fault before words ≡ Some fault

-- how many lines were taken, before and after
abbrev pub HasCounted : ℕ → Result (Option Header) HeadFault → ℕ → Type 0
HasCounted before (Ok None) after = (after ≡ before + 1) × (after < 10)
HasCounted before (Ok (Some header)) after = (before ≡ 9) × (after ≡ 10)
HasCounted before (Err fault) after = after ≡ before

-- ---- One step.

-- the numbers of rows after a line with these words
unfoldable pub put_in : List FieldRow → ℕ → List (List ℕ) → List ℕ → List ℕ
put_in [] line words numbers = []
put_in (r ∷ rows) line words [] = []
put_in (r ∷ rows) line words (n ∷ numbers) =
    number_after r line words n ∷ put_in rows line words numbers

-- the counts of the numbers of the rows
unfoldable pub counts_from : List ℕ → Counts
counts_from numbers =
    record {
      n_var = slice_index numbers 1;
      n_con = slice_index numbers 2;
      n_obj = slice_index numbers 3;
      n_ranges = slice_index numbers 4;
      n_eqns = slice_index numbers 5;
      n_lcon = slice_index numbers 6;
      nlc = slice_index numbers 7;
      nlo = slice_index numbers 8;
      nlnc = slice_index numbers 9;
      lnc = slice_index numbers 10;
      nlvc = slice_index numbers 11;
      nlvo = slice_index numbers 12;
      nlvb = slice_index numbers 13;
      nwv = slice_index numbers 14;
      nfunc = slice_index numbers 15;
      arith = slice_index numbers 16;
      flags = slice_index numbers 17;
      nbv = slice_index numbers 18;
      niv = slice_index numbers 19;
      nlvbi = slice_index numbers 20;
      nlvci = slice_index numbers 21;
      nlvoi = slice_index numbers 22;
      nzc = slice_index numbers 23;
      nzo = slice_index numbers 24;
      row_name_len = slice_index numbers 25;
      col_name_len = slice_index numbers 26;
      comb = slice_index numbers 27;
      comc = slice_index numbers 28;
      como = slice_index numbers 29;
      comc1 = slice_index numbers 30;
      como1 = slice_index numbers 31;
    }

-- the rule of the last line alone
unfoldable pub last_rule : ℕ → Counts → Option HeadFault
last_rule line counts =
    first_reason ((line == 10 && not (are_definitions_within counts), TooLarge) ∷ [])

-- how a line of numbers ends where only the rule of the last line can be broken
abbrev pub Closes : Taken → Counts → Result (Option Header) HeadFault → Taken → Type 0
Closes old counts (Ok None) new =
    (old.lines + 1 < 10) × (new ≡ record old { lines = old.lines + 1 })
Closes old counts (Ok (Some header)) new =
    (old.lines ≡ 9) × (header_options header ≡ old.options) × (header_counts header ≡ counts)
    × (new.lines ≡ 10)
Closes old counts (Err fault) new =
    (old.lines ≡ 9) × (fault ≡ TooLarge) × (is_header old.options counts ≡ false)
    × (new.lines ≡ old.lines)
