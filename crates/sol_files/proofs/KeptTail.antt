-- What is kept by lines of the message, and by those after the values.
use Rattle.std.proofs.Common.{◌≡◌, ◌∙◌, ℕ, suc, ◌+◌, ◌-◌, ◌<◌, ◌≤◌, ◌^◌, ℤ, Bool, true, false, not, ◌&&◌, ◌||◌, cond}
use Rattle.std.proofs.Common.{List, [], ◌∷◌, ◌++◌, length, Option, Some, None, refl, sym, ap, subst, arith, ◌==◌}
use Rattle.std.proofs.Common.{nat_lt, append_assoc}
use Rattle.std.specs.Prelude.{IfSome, is_none, is_some, unwrap_or, codes}
use Rattle.std.specs.Option.{option_map_or}
use Rattle.std.proofs.lemmas.Slice.Eq.{bytes_eq-Decides}
use Rattle.std.specs.Str.Parse.{digits_value}
use Rattle.std.specs.List.{AllByRecursion, sum_by}
use Rattle.std.proofs.lemmas.Bool.{and_from, and_parts, ltb-true, leb-true, leb-false, eqb-false, not-false, or_parts}
use Rattle.std.proofs.lemmas.List.{length_push, length-append, append-nil}
use Rattle.std.proofs.lemmas.List.Sums.{sum_by-cons, sum_by_push}
use Rattle.exact_numbers.specs.declared.dec.Dec.{Dec}
use Rattle.exact_numbers.specs.Numbers.{are_digits, dec_of, is_whole, signed_of, whole_of}
use Rattle.exact_numbers.proofs.NumberLemmas.{signed_of-fits}
use Rattle.nl_model.specs.SuffixKinds.{object_limit, wants_whole}
use Rattle.text_base.specs.Cut.{IsTextLine}
use Rattle.text_base.specs.Judged.{first_reason}
use Rattle.text_base.proofs.FirstReasons.{none_each}
use Rattle.text_base.specs.Names.{is_name}
use Rattle.text_base.specs.Words.{word_at, begins}
use Rattle.sol_files.specs.declared.fault.Refusal.TheVariants.{Here, Late as IsLate}
use Rattle.sol_files.specs.declared.fault.SolReason.TheVariants.{Extra, TooLarge}
use Rattle.sol_files.specs.declared.awaited.Awaited.TheVariants.{Message, Tail, Name, Table, Values}
use Rattle.sol_files.specs.declared.awaited.SuffixHead.{SuffixHead}
use Rattle.sol_files.specs.declared.suffix.SolSuffix.{SolSuffix}
use Rattle.sol_files.specs.Rows.{Row, number_in, both, objno_in, pair_in}
use Rattle.sol_files.specs.Parts.{is_options, change_last, last_of}
use Rattle.sol_files.specs.Standing.{message_count}
use Rattle.sol_files.specs.Progress.{Progress, kind_of, seen}
use Rattle.sol_files.specs.Built.{with_table_line}
use Rattle.sol_files.specs.Tests.{row_tests, tail_tests, message_tests, name_tests, is_below, objno_tests, suffix_tests}
use Rattle.sol_files.specs.Tests.{has_table_room, are_head_numbers, has_index, index_limit, last_kind, last_values}
use Rattle.sol_files.specs.Tests.{value_tests}
use Rattle.sol_files.specs.Steps.{after_message, after_row, after_name, after_table, after_objno, after_suffix_head, held_lines, lines_with, listed, or_else, named_suffix, rest_awaits, with_values}
use Rattle.sol_files.specs.Written.{IsSaidLine, IsSignedPair, IsWritableSuffix, are_values}
use Rattle.sol_files.proofs.ShortWords.{row-line}
use Rattle.sol_files.proofs.Kept.{Speaks, HasOptions, Late, KeptAt, KeepsAt, Keeps}
use Rattle.sol_files.proofs.KeptRows.{IsThere, fine_next, is_there}
use Rattle.sol_files.proofs.JudgingLemmas.{is_number}
use Rattle.sol_files.proofs.LastLemmas.{length_changed}
use Rattle.text_base.proofs.AllLemmas.{all_push}

-- ---- the message

empty_said : IsSaidLine []
empty_said = record { line_of_text = row-line [] (omega arith) tt; other = refl }

all_held : (message : List (List ℕ)) (b : Bool) → AllByRecursion IsSaidLine message → AllByRecursion IsSaidLine (message ++ held_lines b)
all_held message true all = all_push IsSaidLine message [] all empty_said
all_held message false all = subst (AllByRecursion IsSaidLine) (sym (append-nil message)) all

held_count : (message : List (List ℕ)) (b : Bool) → length (message ++ held_lines b) ≡ length message + cond b 1 0
held_count message true = length-append message ([] ∷ [])
held_count message false = length-append message []

both_false : (a b : Bool) → (a && b) ≡ false → b ≡ true → a ≡ false
both_false true b e f = absurd cc
both_false false b e f = refl

-- a line more, where the message has room for it
speaks_more : (message : List (List ℕ)) (held : Bool) (line : List ℕ) → Speaks message held → IsSaidLine line
    → length message + cond held 1 0 < 65537 → (((length message + cond held 1 0) == 65536) && not (length line == 0))
    ≡ false
    → Speaks (lines_with (message ++ held_lines held) line) (length line == 0)
speaks_more message held line h one room test = by (length line == 0) refl
  where
    all : AllByRecursion IsSaidLine (message ++ held_lines held)
    all = all_held message held h.each

    by : (b : Bool) → (length line == 0) ≡ b → Speaks (lines_with (message ++ held_lines held) line) (length line == 0)
    by true e = rw e (record { each = all; room = omega (arith, room, held_count message held); count = omega (arith, room, held_count message held) })
    by false e =
        let less = eqb-false (length message + cond held 1 0) 65536 (both_false _ (not (length line == 0)) test (rw e refl)) in
        let more = length_push (message ++ held_lines held) line in
        rw e (record {
          each = all_push IsSaidLine (message ++ held_lines held) line all one;
          room = omega (arith, room, less, more, held_count message held);
          count = omega (arith, room, less, more, held_count message held);
        })

pub kept_message : (s : Progress) (line : List ℕ) → IsTextLine line → s.awaited ≡ Message → KeepsAt Message s → first_reason (message_tests (seen s) line) ≡ None → Keeps (after_message s line)
unfolding KeptAt
kept_message s line text is h f = by (is_options line) refl
  where
    by : (b : Bool) → is_options line ≡ b → Keeps (after_message s line)
    by true e =
        let room = h.said.room in
        rw e (record {
          said = record { each = h.said.each; room = room; count = omega (arith, room) };
          options =
              h.options;
          n_con = h.n_con;
          n_var = h.n_var;
          objno = h.objno;
          rest =
              (record { duals = h.rest.0.duals; primals = h.rest.0.primals }, h.rest.1);
        })
    by false e =
        let tests : first_reason (((true && (message_count (seen s) == 65537)) && true, IsLate)
        ∷ (((message_count (seen s) == 65536) && true) && not (length line == 0), Here TooLarge) ∷ []) ≡ None =
        rw (is, e) at f in
        let one = fine_next ((true && (message_count (seen s) == 65537)) && true) IsLate _ tests in
        let two = fine_next (((message_count (seen s) == 65536) && true) && not (length line == 0)) (Here TooLarge) None one.1 in
        let count = h.said.count in
        let less = eqb-false (message_count (seen s)) 65537 (both_false (message_count (seen s) == 65537) true one.0 refl) in
        let said = speaks_more s.sol.message s.is_held_back line h.said (record { line_of_text = text; other = e })
        (omega (arith, count, less)) (with_true (message_count (seen s) == 65536) (not (length line == 0)) two.0) in
        let kept : KeepsAt Message (record s {
          is_held_back = length line == 0;
          sol =
              record s.sol { message = lines_with (s.sol.message ++ held_lines s.is_held_back) line };
        }) =
        record {
          said = said;
          options = h.options;
          n_con = h.n_con;
          n_var = h.n_var;
          objno = h.objno;
          rest =
              (record { duals = h.rest.0.duals; primals = h.rest.0.primals }, h.rest.1);
        } in
        rw e (subst (λ a. KeepsAt a (record s { is_held_back = length line == 0; sol = record s.sol { message = lines_with (s.sol.message ++ held_lines s.is_held_back) line } })) (sym is) kept)
      where
        with_true : (a b : Bool) → ((a && true) && b) ≡ false → (a && b) ≡ false
        with_true true b q = q
        with_true false b q = refl

-- ---- the number of the objective

objno_fits : (words : Row) → is_none (signed_of (word_at words 1)) ≡ false
    → is_none (signed_of (word_at words 2)) ≡ false → IfSome (both (signed_of (word_at words 1))
    (signed_of (word_at words 2))) IsSignedPair
objno_fits words e f =
    let number = is_there (signed_of (word_at words 1)) e in
    let code = is_there (signed_of (word_at words 2)) f in
    rw (number.is, code.is) (signed_of-fits (word_at words 1) number.value number.is, signed_of-fits (word_at words 2) code.value code.is)

objno_kept : (o n : Option (ℤ × ℤ)) → IfSome o IsSignedPair → IfSome n IsSignedPair → IfSome (or_else o n) IsSignedPair
objno_kept None n old new = new
objno_kept (Some t) n old new = old

objno_in_fits : (words : Row) → begins words (codes "objno") ≡ true → is_none (signed_of (word_at words 1)) ≡ false
    → is_none (signed_of (word_at words 2)) ≡ false → IfSome (objno_in words) IsSignedPair
objno_in_fits words b e f = rw b (objno_fits words e f)

-- ---- the first line of a suffix

number_in_31 : (words : Row) (i : ℕ) → number_in words i < 2 ^ 31
unfolding whole_of
number_in_31 words i = by (are_digits (word_at words i)) (nat_lt (digits_value 10 (word_at words i)) (2 ^ 31)) refl
  where
    by : (a b : Bool) → nat_lt (digits_value 10 (word_at words i)) (2 ^ 31) ≡ b → unwrap_or (cond (a && b) (Some (digits_value 10 (word_at words i))) None) 0 < 2 ^ 31
    by true true e = ltb-true (digits_value 10 (word_at words i)) (2 ^ 31) e
    by true false e = omega arith
    by false b e = omega arith

has_room : (before : ℕ) (o : Option ℕ) → has_table_room before o ≡ true → before + unwrap_or o 0 ≤ 65536
has_room before None e = absurd cc
has_room before (Some n) e = leb-true (before + n) 65536 e

pub kept_head : (s : Progress) (words : Row) → KeepsAt Tail s → first_reason (suffix_tests s.suffix_count s.table_count words) ≡ None → Keeps (after_suffix_head s words)
unfolding KeptAt
kept_head s words h f =
    let all = none_each (suffix_tests s.suffix_count s.table_count words) f in
    let numbers : are_head_numbers words ≡ true = not-false (are_head_numbers words) all.1.1.0 in
    let kind = is_number 256 (whole_of (word_at words 1)) (and_parts _ _ (and_parts _ _ (and_parts _ _ numbers).0).0).0 in
    let room = leb-false 1024 s.suffix_count all.1.1.1.0 in
    let tables = has_room s.table_count (whole_of (word_at words 5)) (not-false (has_table_room s.table_count (whole_of (word_at words 5))) all.1.1.1.1.0) in
    let old = h.rest.1 in
    record {
      said = h.said;
      options = h.options;
      n_con = h.n_con;
      n_var = h.n_var;
      objno = h.objno;
      rest = (
        record { kind = kind; name_len = number_in_31 words 3; table_len = number_in_31 words 4 },
        (
          h.rest.0,
          record {
            each = old.each;
            begun = omega (arith, old.begun);
            begun_room = omega (arith, room);
            tables = omega (arith, old.tables);
            table_room = omega (arith, tables);
            values = old.values;
            value_room = old.value_room;
          },
        ),
      );
    }

kept_objno : (s : Progress) (words : Row) → begins words (codes "objno") ≡ true → KeepsAt Tail s
    → first_reason (objno_tests (is_some s.sol.objno || nat_lt 0 s.suffix_count) words) ≡ None
    → KeepsAt Tail (after_objno s words)
unfolding KeptAt
kept_objno s words b h f =
    let all = none_each (objno_tests (is_some s.sol.objno || nat_lt 0 s.suffix_count) words) f in
    let two = or_parts (is_none (signed_of (word_at words 1))) (is_none (signed_of (word_at words 2))) all.1.1.0 in
    record {
      said = h.said;
      options = h.options;
      n_con = h.n_con;
      n_var = h.n_var;
      objno = objno_kept s.sol.objno (objno_in words) h.objno (objno_in_fits words b two.0 two.1);
      rest = h.rest;
    }

not_both : (words : Row) → begins words (codes "suffix") ≡ true → begins words (codes "objno") ≡ true → ⊥
not_both words e f =
    let same : codes "suffix" ≡ codes "objno" = sym ((bytes_eq-Decides (word_at words 0) (codes "suffix")).0 e) ∙ (bytes_eq-Decides (word_at words 0) (codes "objno")).0 f in
    absurd (let five : 6 ≡ 5 = ap length same in omega (arith, five))

pub kept_tail : (s : Progress) (words : Row) → s.awaited ≡ Tail → KeepsAt Tail s → first_reason (row_tests (kind_of Tail) (seen s) words) ≡ None → Keeps (after_row Tail s words)
unfolding row_tests tail_tests after_row
kept_tail s words is h f = by (begins words (codes "suffix")) (begins words (codes "objno")) refl refl
  where
    stays : (b : Bool) → KeepsAt Tail (after_objno s words) → Keeps (cond b (after_objno s words) s)
    stays true k = subst (λ a. KeepsAt a (after_objno s words)) (sym is) k
    stays false k = subst (λ a. KeepsAt a s) (sym is) h

    by : (a b : Bool) → begins words (codes "suffix") ≡ a → begins words (codes "objno") ≡ b → Keeps (after_row Tail s words)
    by true true e g = absurd (not_both words e g)
    by true false e g =
        let tests : first_reason (suffix_tests s.suffix_count s.table_count words) ≡ None = rw (g, e) at f in
        rw e (kept_head s words h tests)
    by false true e g =
        let tests : first_reason (objno_tests (is_some s.sol.objno || nat_lt 0 s.suffix_count) words) ≡ None = rw g at f in
        rw e (stays (s.suffix_count == 0) (kept_objno s words g h tests))
    by false false e g = absurd (let none : Some (Here Extra) ≡ None = rw (g, e) at f in cc)

-- ---- the rest of a suffix

less_rows : (s : Progress) (rows : ℕ) → Late 0 rows s → Late 0 0 s
less_rows s rows h =
    let old = h.1 in
    (h.0, record { each = old.each; begun = old.begun; begun_room = old.begun_room; tables = omega (arith, old.tables); table_room = old.table_room; values = old.values; value_room = old.value_room })

await_rest : (s : Progress) (t v : ℕ) → Speaks s.sol.message s.is_held_back → HasOptions 0 s.sol.options
    → s.sol.n_con ≤ 2 ^ 20 → s.sol.n_var ≤ 2 ^ 20 → IfSome s.sol.objno IsSignedPair → Late 0 t s
    → KeepsAt (rest_awaits t v) s
unfolding KeptAt
await_rest s t v said options con var objno late = by (nat_lt 0 t) (nat_lt 0 v) refl refl
  where
    by : (a b : Bool) → nat_lt 0 t ≡ a → nat_lt 0 v ≡ b → KeepsAt (rest_awaits t v) s
    by true b e g = rw e (record { said = said; options = options; n_con = con; n_var = var; objno = objno; rest = (ltb-true 0 t e, late) })
    by false true e g = rw (e, g) (record { said = said; options = options; n_con = con; n_var = var; objno = objno; rest = less_rows s t late })
    by false false e g = rw (e, g) (record { said = said; options = options; n_con = con; n_var = var; objno = objno; rest = less_rows s t late })

pub kept_name : (s : Progress) (head : SuffixHead) (words : Row) → KeepsAt (Name head) s → first_reason (name_tests words) ≡ None → Keeps (after_name s head words)
unfolding KeptAt are_values
kept_name s head words h f =
    let all = none_each (name_tests words) f in
    let is = not-false ((length words == 1) && is_name (word_at words 0)) all.0 in
    let x = named_suffix head (word_at words 0) in
    let next = after_name s head words in
    let fits = h.rest.0 in
    let old = h.rest.1.1 in
    await_rest next head.table_lines head.value_count h.said h.options h.n_con h.n_var h.objno (
      h.rest.1.0,
      record {
        each = all_push (IsWritableSuffix s.sol.n_var s.sol.n_con) s.sol.suffixes x old.each
            (record {
              kind = fits.kind;
              name = (and_parts _ _ is).1;
              name_len = fits.name_len;
              table_len = fits.table_len;
              table = tt;
              values = refl;
            });
        begun = omega (arith, old.begun, length_push s.sol.suffixes x);
        begun_room = old.begun_room;
        tables = omega (arith, old.tables, sum_by_push (λ (y : SolSuffix). length y.table) s.sol.suffixes x);
        table_room = old.table_room;
        values = omega (arith, old.values, sum_by_push (λ (y : SolSuffix). length y.values) s.sol.suffixes x);
        value_room = old.value_room;
      },
    )

-- ---- changes of the last suffix

all_changed : {A : Type 0} (P : A → Type 0) (f : A → A) (xs : List A) → ((x : A) → P x → P (f x)) → AllByRecursion P xs → AllByRecursion P (change_last f xs)
unfolding change_last
all_changed P f [] kept all = tt
all_changed P f (x ∷ []) kept all = (kept x all.0, tt)
all_changed P f (x ∷ y ∷ xs) kept all = (all.0, all_changed P f (y ∷ xs) kept all.1)

sum_changed : {A : Type 0} (g : A → ℕ) (f : A → A) (k : ℕ) (xs : List A) → ((x : A) → g (f x) ≤ g x + k) → sum_by g (change_last f xs) ≤ sum_by g xs + k
unfolding change_last
sum_changed g f k [] more = omega arith
sum_changed g f k (x ∷ []) more = omega (arith, more x, sum_by-cons g (f x) [], sum_by-cons g x [])
sum_changed g f k (x ∷ y ∷ xs) more = omega (arith, sum_changed g f k (y ∷ xs) more, sum_by-cons g x (change_last f (y ∷ xs)), sum_by-cons g x (y ∷ xs))

pub kept_table : (s : Progress) (tables values : ℕ) (line : List ℕ) → IsTextLine line → KeepsAt (Table tables values) s → Keeps (after_table s tables values line)
unfolding KeptAt
kept_table s tables values line text h =
    let f = with_table_line line in
    let old = h.rest.1.1 in
    let kept : (x : SolSuffix) → IsWritableSuffix s.sol.n_var s.sol.n_con x → IsWritableSuffix s.sol.n_var s.sol.n_con (f x) =
    λ x w. record { kind = w.kind; name = w.name; name_len = w.name_len; table_len = w.table_len; table = all_push IsTextLine x.table line w.table text; values = w.values } in
    await_rest (after_table s tables values line) (tables - 1) values h.said h.options h.n_con h.n_var h.objno (
      h.rest.1.0,
      record {
        each = all_changed (IsWritableSuffix s.sol.n_var s.sol.n_con) f s.sol.suffixes kept old.each;
        begun = omega (arith, old.begun, length_changed f s.sol.suffixes);
        begun_room = old.begun_room;
        tables = omega (arith, h.rest.0, old.tables, sum_changed (λ (y : SolSuffix). length y.table) f 1 s.sol.suffixes (λ x. omega (arith, length_push x.table line)));
        table_room = old.table_room;
        values = omega (arith, old.values, sum_changed (λ (y : SolSuffix). length y.values) f 0 s.sol.suffixes (λ x. omega arith));
        value_room = old.value_room;
      },
    )

-- ---- a value

pub values_push : (limit : ℕ) (w : Bool) (before xs : List (ℕ × Dec)) (t : ℕ × Dec)
    → are_values limit w before xs ≡ true → nat_lt t.0 limit ≡ true → has_index (before ++ xs) t.0 ≡ false
    → (not w || is_whole t.1) ≡ true → are_values limit w before (xs ++ t ∷ []) ≡ true
unfolding are_values
values_push limit w before [] t all below fresh whole =
    let new : has_index before t.0 ≡ false = ap (λ l. has_index l t.0) (sym (append-nil before)) ∙ fresh in
    rw (below, new, whole) refl
values_push limit w before (x ∷ xs) t all below fresh whole =
    let two = and_parts _ _ all in
    let later : has_index ((before ++ x ∷ []) ++ xs) t.0 ≡ false = ap (λ l. has_index l t.0) (append_assoc before (x ∷ []) xs) ∙ fresh in
    and_from _ _ two.0 (values_push limit w (before ++ x ∷ []) xs t two.1 below later whole)

last_next : {A : Type 0} (x y : A) (xs : List A) → last_of (x ∷ y ∷ xs) ≡ last_of (y ∷ xs)
last_next x y xs = let n : length (x ∷ y ∷ xs) - 1 ≡ suc (length (y ∷ xs) - 1) = omega arith in rw n refl

each_value : (v n : ℕ) (t : ℕ × Dec) (xs : List SolSuffix) → AllByRecursion (IsWritableSuffix v n) xs
    → nat_lt t.0 (object_limit v n 256 (last_kind xs)) ≡ true → has_index (last_values xs) t.0 ≡ false
    → (not (wants_whole (last_kind xs)) || is_whole t.1) ≡ true
    → AllByRecursion (IsWritableSuffix v n) (change_last (with_values (t ∷ [])) xs)
unfolding change_last
each_value v n t [] all below fresh whole = tt
each_value v n t (x ∷ []) all below fresh whole =
    let w = all.0 in (
      record {
        kind = w.kind;
        name = w.name;
        name_len = w.name_len;
        table_len = w.table_len;
        table = w.table;
        values =
            values_push (object_limit v n 256 x.kind) (wants_whole x.kind) [] x.values t w.values below fresh whole;
      },
      tt,
    )
each_value v n t (x ∷ y ∷ xs) all below fresh whole =
    let kind : last_kind (x ∷ y ∷ xs) ≡ last_kind (y ∷ xs) = ap (λ o. option_map_or (λ s. s.kind) o 0) (last_next x y xs) in
    let values : last_values (x ∷ y ∷ xs) ≡ last_values (y ∷ xs) = ap (λ o. option_map_or (λ s. s.values) o []) (last_next x y xs) in
    (all.0, each_value v n t (y ∷ xs) all.1 (rw kind at below) (rw values at fresh) (rw kind at whole))

wide_whole : (w : Bool) (o : Option Dec) (d : Dec) → o ≡ Some d → (is_none o || (w && not (option_map_or is_whole o true))) ≡ false → (not w || is_whole d) ≡ true
wide_whole false o d e f = refl
wide_whole true o d e f =
    let test : not (is_whole d) ≡ false = rw e at f in
    not-false (is_whole d) test

index_there : (limit : ℕ) (o : Option ℕ) → is_below limit o ≡ true → IsThere o
index_there limit None e = absurd cc
index_there limit (Some i) e = record { value = i; is = refl }

pair_there : (words : Row) (i : ℕ) (d : Dec) → whole_of (word_at words 0) ≡ Some i → dec_of (word_at words 1) ≡ Some d → pair_in words ≡ Some (i, d)
unfolding pair_in
pair_there words i d e g = rw (e, g) refl

pub kept_value : (s : Progress) (left : ℕ) (words : Row) → KeepsAt (Values left) s → first_reason (row_tests (kind_of (Values left)) (seen s) words) ≡ None → Keeps (after_row (Values left) s words)
unfolding row_tests after_row KeptAt
kept_value s left words h f =
    let all = none_each (value_tests (seen s) words) f in
    let inside = not-false (is_below (index_limit s.sol) (whole_of (word_at words 0))) all.1.1.0 in
    let index = index_there (index_limit s.sol) (whole_of (word_at words 0)) inside in
    let number = is_there (dec_of (word_at words 1)) (or_parts _ _ all.1.1.1.0).0 in
    let whole = wide_whole (wants_whole (last_kind s.sol.suffixes)) (dec_of (word_at words 1)) number.value number.is all.1.1.1.0 in
    let below : nat_lt index.value (index_limit s.sol) ≡ true = rw index.is at inside in
    let fresh : has_index (last_values s.sol.suffixes) index.value ≡ false = rw index.is at all.1.1.1.1.0 in
    let room = leb-false (2 ^ 22) s.value_count all.1.1.1.1.1.0 in
    let t : ℕ × Dec = (index.value, number.value) in
    let g = with_values (t ∷ []) in
    let old = h.rest.1 in
    let next : Progress = record s { awaited = rest_awaits 0 (left - 1); sol = record s.sol { suffixes = change_last g s.sol.suffixes }; value_count = s.value_count + 1 } in
    subst (λ o. Keeps (record s {
      awaited = rest_awaits 0 (left - 1);
      sol =
          record s.sol { suffixes = change_last (with_values (listed o)) s.sol.suffixes };
      value_count =
          s.value_count + length (listed o);
    })) (sym (pair_there words index.value number.value index.is number.is))
    (await_rest next 0 (left - 1) h.said h.options h.n_con h.n_var h.objno (
      h.rest.0,
      record {
        each = each_value s.sol.n_var s.sol.n_con t s.sol.suffixes old.each below fresh whole;
        begun = omega (arith, old.begun, length_changed g s.sol.suffixes);
        begun_room = old.begun_room;
        tables = omega (arith, old.tables, sum_changed (λ (y : SolSuffix). length y.table) g 0 s.sol.suffixes (λ x. omega arith));
        table_room = old.table_room;
        values = omega (arith, old.values, sum_changed (λ (y : SolSuffix). length y.values) g 1 s.sol.suffixes (λ x. omega (arith, length_push x.values t)));
        value_room = omega (arith, room);
      },
    ))
