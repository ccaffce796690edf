-- A value that was read keeps the rules of values.
use Rattle.std.proofs.Common.{◌≡◌, ◌∙◌, ℕ, Bool, true, false, cond, List, [], ◌∷◌, ◌++◌, length, None, refl, sym, ap, subst, arith, ◌==◌}
use Rattle.std.proofs.lemmas.Bool.{not-false}
use Rattle.std.specs.List.{AllByRecursion}
use Rattle.text_base.specs.Cut.{IsTextLine}
use Rattle.text_base.specs.Judged.{first_reason}
use Rattle.text_base.specs.Reading.{lines_of, last_of}
use Rattle.text_base.specs.Words.{row_of}
use Rattle.text_base.proofs.AllLemmas.{all_here}
use Rattle.text_base.proofs.FirstReasons.{none_each}
use Rattle.text_base.proofs.JudgedLemmas.{clean_keeps}
use Rattle.text_base.proofs.LineLemmas.{lines_of-lines}
use Rattle.text_base.proofs.ReadingLemmas.{text_ends}
use Rattle.sol_files.specs.declared.awaited.Awaited.{Awaited}
use Rattle.sol_files.specs.declared.awaited.Awaited.TheVariants.{Message, OptionCount, Options, Constraints, DualCount, Variables, PrimalCount, Duals, Primals, Tail, Name, Table, Values}
use Rattle.sol_files.specs.Sol.{Sol}
use Rattle.sol_files.specs.Rows.{Row}
use Rattle.sol_files.specs.Parts.{is_tail}
use Rattle.sol_files.specs.Standing.{Standing, standing}
use Rattle.sol_files.specs.Progress.{Progress, kind_of, seen, start}
use Rattle.sol_files.specs.Tests.{line_tests, line_tests_at, row_tests, row_line_tests, end_tests}
use Rattle.sol_files.specs.Steps.{after_at, after_row, after_row_line, read}
use Rattle.sol_files.specs.Grammar.{sol_rules}
use Rattle.sol_files.specs.Reader.{IsSol}
use Rattle.sol_files.specs.Written.{KeepsRules}
use Rattle.sol_files.proofs.StandingLemmas.{standing-read, read-more, read-none, tail_is}
use Rattle.sol_files.proofs.Kept.{KeptAt, KeepsAt, Keeps}
use Rattle.sol_files.proofs.KeptRows.{kept_count, kept_option, kept_constraints, kept_dual_count, kept_variables, kept_primal_count, kept_dual, kept_primal}
use Rattle.sol_files.proofs.KeptTail.{kept_message, kept_tail, kept_name, kept_table, kept_value}

-- ---- a line more

row_kept : (a : Awaited) (s : Progress) (words : Row) → s.awaited ≡ a → KeepsAt a s → first_reason (row_tests (kind_of a) (seen s) words) ≡ None → Keeps (after_row a s words)
unfolding after_row
row_kept OptionCount s words is h f = kept_count s words h f
row_kept (Options left) s words is h f = kept_option s left words h f
row_kept Constraints s words is h f = kept_constraints s words h f
row_kept DualCount s words is h f = kept_dual_count s words h f
row_kept Variables s words is h f = kept_variables s words h f
row_kept PrimalCount s words is h f = kept_primal_count s words h f
row_kept (Duals left) s words is h f = kept_dual s left words h f
row_kept (Primals left) s words is h f = kept_primal s left words h f
row_kept Tail s words is h f = kept_tail s words is h f
row_kept (Values left) s words is h f = kept_value s left words h f
row_kept a s words is h f = subst (λ x. KeepsAt x s) (sym is) h

row_line_kept : (a : Awaited) (s : Progress) (words : Row) → s.awaited ≡ a → KeepsAt a s → first_reason (row_line_tests (kind_of a) (seen s) words) ≡ None → Keeps (after_row_line a s words)
row_line_kept a s words is h f = by (length words == 0) f
  where
    by : (b : Bool) → first_reason (cond b [] (row_tests (kind_of a) (seen s) words)) ≡ None → Keeps (cond b s (after_row a s words))
    by true g = subst (λ x. KeepsAt x s) (sym is) h
    by false g = row_kept a s words is h g

line_kept : (a : Awaited) (s : Progress) (line : List ℕ) → IsTextLine line → s.awaited ≡ a → KeepsAt a s → first_reason (line_tests_at (kind_of a) (seen s) line) ≡ None → Keeps (after_at a s line)
unfolding line_tests_at after_at
line_kept Message s line text is h f = kept_message s line text is h f
line_kept (Name head) s line text is h f = kept_name s head (row_of line) h f
line_kept (Table tables values) s line text is h f = kept_table s tables values line text h
line_kept a s line text is h f = row_line_kept a s (row_of line) is h f

-- ---- all lines

none_kept : Keeps (read [])
unfolding KeptAt
none_kept = subst Keeps (sym read-none) first
  where
    first : Keeps start
    first = record {
      said = record { each = tt; room = omega arith; count = omega arith };
      options = record { each = tt; second = refl; room = omega arith };
      n_con = omega arith;
      n_var = omega arith;
      objno = tt;
      rest = (record { duals = refl; primals = refl }, record { none = refl; begun = refl; tables = refl; values = refl });
    }

one_more : (before : List (List ℕ)) (line : List ℕ) → IsTextLine line → first_reason (line_tests (standing before) line) ≡ None → Keeps (read before) → Keeps (read (before ++ line ∷ []))
one_more before line one fine kept =
    subst Keeps (sym (read-more before line))
    (line_kept (read before).awaited (read before) line one refl kept (ap (λ (x : Standing). first_reason (line_tests x line)) (sym (standing-read before)) ∙ fine))

rules_kept : (s : Progress) → KeepsAt Tail s → KeepsRules s.sol
unfolding KeptAt
rules_kept s h =
    let given = h.rest.0 in
    let old = h.rest.1 in
    record {
      message = h.said.each;
      message_room = h.said.room;
      options = h.options.each;
      option_room = omega (arith, h.options.room);
      second = h.options.second;
      n_con = h.n_con;
      n_var = h.n_var;
      given = record { duals = given.duals_given; primals = given.primals_given };
      objno = h.objno;
      suffixes = old.each;
      suffix_room = omega (arith, old.begun, old.begun_room);
      table_room = omega (arith, old.tables, old.table_room);
      value_room = omega (arith, old.values, old.value_room);
    }

pub read_keeps : (text : List ℕ) (sol : Sol) → IsSol text sol → KeepsRules sol
read_keeps text sol h =
    let lines = lines_of text in
    let s = read lines in
    let kept : Keeps s =
    clean_keeps sol_rules (λ ls. Keeps (read ls)) (last_of text) lines
    (λ before rest line is fine. one_more before line (all_here IsTextLine before rest line (subst (AllByRecursion IsTextLine) (sym is) (lines_of-lines text))) fine) none_kept h.clean in
    let tests = none_each (end_tests (seen s)) (ap (λ (x : Standing). first_reason (end_tests x)) (sym (standing-read lines)) ∙ text_ends sol_rules text h.clean) in
    let tail = tail_is s.awaited (not-false (is_tail (kind_of s.awaited)) tests.1.1.0) in
    subst KeepsRules (sym (h.said ∙ ap (λ (x : Standing). x.sol) (standing-read lines))) (rules_kept s (subst (λ a. KeepsAt a s) tail kept))
