-- What one line without a fault does to what a reader holds.
use Rattle.std.specs.Prelude.{ℕ, ◌+◌, ◌-◌, ◌==◌, Bool, false, nat_lt, List, [], ◌∷◌, ◌++◌, length, Option, Some, None, if◌then◌else◌, codes}
use Rattle.std.specs.List.{cons_option, fold}
use Rattle.exact_numbers.specs.declared.dec.Dec.{Dec}
use Rattle.text_base.specs.Words.{row_of, word_at, begins}
use Rattle.sol_files.specs.declared.awaited.Awaited.{Awaited}
use Rattle.sol_files.specs.declared.awaited.Awaited.TheVariants.{Message, OptionCount, Options, Constraints, DualCount, Variables, PrimalCount, Duals, Primals, Tail, Name, Table, Values}
use Rattle.sol_files.specs.declared.awaited.SuffixHead.{SuffixHead}
use Rattle.sol_files.specs.declared.suffix.SolSuffix.{SolSuffix}
use Rattle.sol_files.specs.Rows.{Row, number_in, option_in, value_in, objno_in, pair_in}
use Rattle.sol_files.specs.Parts.{is_options, change_last}
use Rattle.sol_files.specs.Progress.{Progress, start}
use Rattle.sol_files.specs.Built.{with_table_line}

abbrev pub listed : {A : Type 0} → Option A → List A
listed o = cons_option o []

abbrev pub or_else : {A : Type 0} → Option A → Option A → Option A
or_else None o = o
or_else (Some x) o = Some x

-- ---- what is awaited next

-- so many options are left
abbrev pub options_await : ℕ → Awaited
options_await left = if nat_lt 0 left then Options left else Constraints

-- so many duals and primals are left
abbrev pub values_await : ℕ → ℕ → Awaited
values_await duals primals = if nat_lt 0 duals then Duals duals else
    if nat_lt 0 primals then Primals primals else Tail

-- so many lines of a table and so many values are left
abbrev pub rest_awaits : ℕ → ℕ → Awaited
rest_awaits tables values = if nat_lt 0 tables then Table tables values else
    if nat_lt 0 values then Values values else Tail

-- ---- the message

abbrev pub held_lines : Bool → List (List ℕ)
held_lines is_held_back = if is_held_back then ([] ∷ []) else []

-- an empty line is held back
abbrev pub lines_with : List (List ℕ) → List ℕ → List (List ℕ)
lines_with lines line = if length line == 0 then lines else lines ++ line ∷ []

abbrev pub after_message : Progress → List ℕ → Progress
after_message s line =
    if is_options line then record s { awaited = OptionCount; is_held_back = false }
    else record s {
      is_held_back = length line == 0;
      sol = record s.sol { message = lines_with (s.sol.message ++ held_lines s.is_held_back) line };
    }

-- ---- rows of numbers

abbrev pub after_option_count : Progress → Row → Progress
after_option_count s words = record s { awaited = options_await (number_in words 0) }

abbrev pub after_option : Progress → ℕ → Row → Progress
after_option s left words =
    record s {
      awaited = options_await (left - 1);
      sol = record s.sol { options = s.sol.options ++ listed (option_in words) };
    }

abbrev pub after_constraints : Progress → Row → Progress
after_constraints s words =
    record s { awaited = DualCount; sol = record s.sol { n_con = number_in words 0 } }

abbrev pub after_dual_count : Progress → Row → Progress
after_dual_count s words = record s { awaited = Variables; dual_count = number_in words 0 }

abbrev pub after_variables : Progress → Row → Progress
after_variables s words =
    record s { awaited = PrimalCount; sol = record s.sol { n_var = number_in words 0 } }

abbrev pub after_primal_count : Progress → Row → Progress
after_primal_count s words =
    record s {
      awaited = values_await s.dual_count (number_in words 0);
      primal_count = number_in words 0;
    }

abbrev pub after_dual : Progress → ℕ → Row → Progress
after_dual s left words =
    record s {
      awaited = values_await (left - 1) s.primal_count;
      sol = record s.sol { duals = s.sol.duals ++ listed (value_in words) };
    }

abbrev pub after_primal : Progress → ℕ → Row → Progress
after_primal s left words =
    record s {
      awaited = values_await 0 (left - 1);
      sol = record s.sol { primals = s.sol.primals ++ listed (value_in words) };
    }

-- ---- suffixes

abbrev pub after_objno : Progress → Row → Progress
after_objno s words =
    record s { sol = record s.sol { objno = or_else s.sol.objno (objno_in words) } }

-- `suffix kind values namelen tablen tablelines`
abbrev pub head_in : Row → SuffixHead
head_in words =
    record {
      kind = number_in words 1;
      value_count = number_in words 2;
      name_len = number_in words 3;
      table_len = number_in words 4;
      table_lines = number_in words 5;
    }

abbrev pub after_suffix_head : Progress → Row → Progress
after_suffix_head s words =
    record s {
      awaited = Name (head_in words);
      suffix_count = s.suffix_count + 1;
      table_count = s.table_count + (head_in words).table_lines;
    }

-- any other row that may come there
abbrev pub after_tail : Progress → Row → Progress
after_tail s words =
    if begins words (codes "suffix") then after_suffix_head s words else
    if s.suffix_count == 0 then after_objno s words else s

-- a suffix of this name without lines
abbrev pub named_suffix : SuffixHead → List ℕ → SolSuffix
named_suffix head name =
    record {
      kind = head.kind;
      name = name;
      name_len = head.name_len;
      table_len = head.table_len;
      table = [];
      values = [];
    }

abbrev pub after_name : Progress → SuffixHead → Row → Progress
after_name s head words =
    record s {
      awaited = rest_awaits head.table_lines head.value_count;
      sol = record s.sol { suffixes = s.sol.suffixes ++ named_suffix head (word_at words 0) ∷ [] };
    }

abbrev pub after_table : Progress → ℕ → ℕ → List ℕ → Progress
after_table s tables values line =
    record s {
      awaited = rest_awaits (tables - 1) values;
      sol = record s.sol { suffixes = change_last (with_table_line line) s.sol.suffixes };
    }

-- with what a row says more in the last suffix
abbrev pub with_values : List (ℕ × Dec) → SolSuffix → SolSuffix
with_values pairs s = record s { values = s.values ++ pairs }

abbrev pub after_value : Progress → ℕ → Row → Progress
after_value s left words =
    record s {
      awaited = rest_awaits 0 (left - 1);
      sol = record s.sol {
        suffixes = change_last (with_values (listed (pair_in words))) s.sol.suffixes;
      };
      value_count = s.value_count + length (listed (pair_in words));
    }

-- ---- any line

unfoldable pub after_row : Awaited → Progress → Row → Progress
after_row Message s words = s
after_row OptionCount s words = after_option_count s words
after_row (Options left) s words = after_option s left words
after_row Constraints s words = after_constraints s words
after_row DualCount s words = after_dual_count s words
after_row Variables s words = after_variables s words
after_row PrimalCount s words = after_primal_count s words
after_row (Duals left) s words = after_dual s left words
after_row (Primals left) s words = after_primal s left words
after_row Tail s words = after_tail s words
after_row (Name head) s words = s
after_row (Table tables values) s words = s
after_row (Values left) s words = after_value s left words

abbrev pub after_row_line : Awaited → Progress → Row → Progress
after_row_line a s words = if length words == 0 then s else after_row a s words

unfoldable pub after_at : Awaited → Progress → List ℕ → Progress
after_at Message s line = after_message s line
after_at (Name head) s line = after_name s head (row_of line)
after_at (Table tables values) s line = after_table s tables values line
after_at a s line = after_row_line a s (row_of line)

abbrev pub after : Progress → List ℕ → Progress
after s line = after_at s.awaited s line

-- what a reader holds after these lines
unfoldable pub read : List (List ℕ) → Progress
read lines = fold after start lines
