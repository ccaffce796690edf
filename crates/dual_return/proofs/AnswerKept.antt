-- What each answer keeps: its numbers are small, its message is lines of a text, none of them
-- `Options`, and its suffixes are within their limits.
use Rattle.std.proofs.Common.{◌≡◌, ◌∙◌, ℕ, suc, ◌<◌, ◌≤◌, Bool, true, false, ◌^◌, nat_le, cond, eqb, List, [], ◌∷◌}
use Rattle.std.proofs.Common.{◌++◌, length, get_or, Option, Some, None, refl, sym, ap, subst, arith, ◌&&◌, ltb, ◌+◌}
use Rattle.std.proofs.Common.{◌/◌, ◌%◌, ◌==◌, not, ◌||◌, nat_lt, is_none, length-append, length-drop}
use Rattle.std.specs.Prelude.{option_map, codes, IfSome, unwrap_or, option_and_then}
use Rattle.std.specs.List.{AllByRecursion}
use Rattle.std.specs.Str.{bytes_eq}
use Rattle.text_base.specs.Judged.{first_reason}
use Rattle.text_base.specs.Reading.{lines_of, last_of}
use Rattle.text_base.specs.Words.{row_of, without_blanks, word_at, is_blank}
use Rattle.exact_numbers.specs.declared.dec.Dec.{Dec}
use Rattle.exact_numbers.specs.Numbers.{dec_of, are_digits, whole_of, is_whole}
use Rattle.answer_file.specs.declared.fault.AnswerReason.TheVariants.{BadLine, TooLarge, BadNumber, UnknownName, Repeated}
use Rattle.answer_file.specs.declared.keyword.Keyword.{Keyword}
use Rattle.answer_file.specs.declared.keyword.Keyword.TheVariants.{Status, Message, Sign, Objno, Col, Row, Suffix}
use Rattle.answer_file.specs.declared.target.Target.{Target}
use Rattle.answer_file.specs.declared.target.Target.TheVariants.{Tied, Place}
use Rattle.answer_file.specs.Names.{Setting, column_target, row_target, object_target, column_name, row_name, tied_column, tied_row, if_exported, only}
use Rattle.answer_file.specs.Entries.{Entry, StatusIs, SignIs, ObjectiveIs, ColumnValue, RowValue, message_in, entry_by}
use Rattle.answer_file.specs.Entries.{entry_in, keyword_of, at_place, suffix_entry, suffix_in, status_in, sign_in}
use Rattle.answer_file.specs.Entries.{objective_in, kind_in, below, SuffixLine, number_below}
use Rattle.answer_file.specs.Grammar.{Standing, standing, first_tests, line_tests, row_tests, tests_by, message_tests}
use Rattle.answer_file.specs.Grammar.{answer_rules, AnswerValue, Tests, differs, is_bad_value, is_full, is_given_in}
use Rattle.answer_file.specs.Grammar.{kind_tests, object_tests, suffix_tests}
use Rattle.answer_file.specs.Steps.{with_entry, with_said, after, new_suffix, with_line, with_suffix_line}
use Rattle.answer_file.specs.Reading.{IsAnswer}
use Rattle.answer_file.proofs.StandingLemmas.{standing_more, standing_none}
use Rattle.sol_files.specs.Built.{IsMessageLine}
use Rattle.text_base.specs.Cut.{IsTextLine}
use Rattle.text_base.proofs.LineLemmas.{lines_of-lines, one_line-blanks, one_line-drop}
use Rattle.std.specs.Option.{option_or}
use Rattle.std.specs.Str.Parse.{digits_value}
use Rattle.std.proofs.lemmas.Bool.{cond_both, ltb-true, eqb-true, leb-false, not-false, and_parts, or_parts, lt-ltb}
use Rattle.text_base.specs.Names.{is_name}
use Rattle.nl_model.specs.declared.suffix.Suffix.{Suffix as FileSuffix}
use Rattle.nl_model.specs.declared.suffix_kinds.Objects.{Objects}
use Rattle.nl_model.specs.declared.suffix_kinds.Objects.TheVariants.{Variables, Constraints, Objectives, Problem}
use Rattle.nl_model.specs.Rules.{is_suffix_of}
use Rattle.nl_model.specs.SuffixKinds.{has_same_objects, object_limit, objects_of, wants_whole, count_among}
use Rattle.mps_model.specs.Names.{index_named}
use Rattle.mps_model.proofs.NumeralLemmas.{position-cons, named_so}
use Rattle.answer_file.specs.Suffixes.{has_place, place_named, suffix_at, suffix_named, value_count}
use Rattle.nl_model.proofs.ObjectLemmas.{same_objects}
use Rattle.answer_file.proofs.TableLemmas.{one_value_more}
use Rattle.sol_files.specs.Written.{IsSaidLine, are_values}
use Rattle.sol_files.proofs.KeptTail.{values_push}
use Rattle.text_base.proofs.AllLemmas.{all_here, all_push}
use Rattle.text_base.proofs.JudgedLemmas.{clean_keeps}
use Rattle.text_base.proofs.FirstReasons.{none_head}

-- ---- values of a suffix

-- ---- suffixes

-- how many places a suffix of this kind has; of the objective one
abbrev pub limit_of : Setting → ℕ → ℕ
limit_of s kind = object_limit s.columns (length s.exported) 1 kind

pub record IsFine (s : Setting) (x : FileSuffix) : Type 0 where
  pub kind : x.kind < 8
  pub name : is_name x.name ≡ true
  pub values : are_values (limit_of s x.kind) (wants_whole x.kind) [] x.values ≡ true

-- a line that fits a suffix of its kind
record IsFineLine (s : Setting) (line : SuffixLine) : Type 0 where
  kind : line.kind < 8
  name : is_name line.name ≡ true
  place : nat_lt line.place (limit_of s line.kind) ≡ true
  fits : (not (wants_whole line.kind) || is_whole line.value) ≡ true

named-cons : (x : FileSuffix) (xs : List FileSuffix) (kind : ℕ) (name : List ℕ) → suffix_named (x ∷ xs) kind name ≡ cond (is_suffix_of kind name x) (Some x) (suffix_named xs kind name)
named-cons x xs kind name =
    ap (suffix_at (x ∷ xs)) (position-cons (is_suffix_of kind name) x xs) ∙ by (is_suffix_of kind name x) (place_named xs kind name)
  where
    by : (b : Bool) (o : Option ℕ) → suffix_at (x ∷ xs) (cond b (Some 0) (option_map suc o)) ≡ cond b (Some x) (suffix_at xs o)
    by true o = refl
    by false None = refl
    by false (Some i) = refl

-- kinds with the same objects and the same bit 4
same_limit : (s : Setting) (a b : ℕ) → has_same_objects a b ≡ true → limit_of s a ≡ limit_of s b
same_limit s a b e = ap (count_among s.columns (length s.exported) 1) (same_objects a b e)

same_wants : (x : FileSuffix) (kind : ℕ) → differs (Some x) kind ≡ false → wants_whole x.kind ≡ wants_whole kind
same_wants x kind e = ap (λ k. k == 0) (eqb-true ((x.kind / 4) % 2) ((kind / 4) % 2) (not-false _ e))

one_fine : (s : Setting) (x : FileSuffix) (line : SuffixLine) → IsFine s x → IsFineLine s line
    → is_suffix_of line.kind line.name x ≡ true → differs (Some x) line.kind ≡ false
    → has_place x.values line.place ≡ false → IsFine s (with_line x line)
one_fine s x line h l same alike fresh =
    let objects = (and_parts (has_same_objects x.kind line.kind) (bytes_eq x.name line.name) same).0 in
    let limit = same_limit s x.kind line.kind objects in
    let wants = same_wants x line.kind alike in
    record {
      kind = h.kind;
      name = h.name;
      values = values_push (limit_of s x.kind) (wants_whole x.kind) [] x.values (line.place, line.value) h.values
          (ap (nat_lt line.place) limit ∙ l.place) fresh (ap (λ b. not b || is_whole line.value) wants ∙ l.fits);
    }

no-values : (limit : ℕ) (w : Bool) → are_values limit w [] [] ≡ true
unfolding are_values
no-values limit w = refl

new_fine : (s : Setting) (line : SuffixLine) → IsFineLine s line → IsFine s (new_suffix line)
new_fine s line l = record {
  kind = l.kind;
  name = l.name;
  values = values_push (limit_of s line.kind) (wants_whole line.kind) [] [] (line.place, line.value) (no-values (limit_of s line.kind) (wants_whole line.kind)) l.place refl l.fits;
}

line_fine : (s : Setting) (xs : List FileSuffix) (line : SuffixLine) → AllByRecursion (IsFine s) xs → IsFineLine s line
    → differs (suffix_named xs line.kind line.name) line.kind ≡ false
    → is_given_in (suffix_named xs line.kind line.name) (Some (Place line.place)) ≡ false
    → AllByRecursion (IsFine s) (with_suffix_line xs line)
line_fine s [] line all l alike fresh = (new_fine s line l, tt)
line_fine s (x ∷ xs) line all l alike fresh =
    by (is_suffix_of line.kind line.name x) refl (line_fine s xs line all.1 l)
    (sym (ap (λ o. differs o line.kind) found) ∙ alike) (sym (ap (λ o. is_given_in o (Some (Place line.place))) found)
    ∙ fresh)
  where
    found : suffix_named (x ∷ xs) line.kind line.name ≡ cond (is_suffix_of line.kind line.name x) (Some x) (suffix_named xs line.kind line.name)
    found = named-cons x xs line.kind line.name

    by : (b : Bool) → is_suffix_of line.kind line.name x ≡ b
        → (differs (suffix_named xs line.kind line.name) line.kind ≡ false
        → is_given_in (suffix_named xs line.kind line.name) (Some (Place line.place)) ≡ false
        → AllByRecursion (IsFine s) (with_suffix_line xs line))
        → differs (cond b (Some x) (suffix_named xs line.kind line.name)) line.kind ≡ false → is_given_in (cond b (Some x) (suffix_named xs line.kind line.name)) (Some (Place line.place)) ≡ false
        → AllByRecursion (IsFine s) (cond b (with_line x line ∷ xs) (x ∷ with_suffix_line xs line))
    by true same later a f = (one_fine s x line all.0 l same a f, all.1)
    by false same later a f = (all.0, later a f)

-- ---- how many suffixes there are

count_more : (xs : List FileSuffix) (line : SuffixLine) → length (with_suffix_line xs line) ≤ length xs + cond (is_none (suffix_named xs line.kind line.name)) 1 0
count_more [] line = omega arith
count_more (x ∷ xs) line = rw (named-cons x xs line.kind line.name) (by (is_suffix_of line.kind line.name x) (count_more xs line))
  where
    by : (b : Bool) → length (with_suffix_line xs line) ≤ length xs + cond (is_none (suffix_named xs line.kind line.name)) 1 0
        → length (cond b (with_line x line ∷ xs) (x ∷ with_suffix_line xs line)) ≤ length (x ∷ xs) + cond (is_none (cond b (Some x) (suffix_named xs line.kind line.name))) 1 0
    by true h = omega arith
    by false h = omega (arith, h)

-- ---- what a line of a suffix says

below_limit : (limit n k : ℕ) → below limit (Some n) ≡ Some k → k < limit
below_limit limit n k e = cond_both (ltb n limit) (Some n) None (λ o. o ≡ Some k → k < limit) (λ f g. let same : n ≡ k = cc in omega (arith, same, ltb-true n limit f)) (λ f g. absurd cc) e

number_small : (limit : ℕ) (word : List ℕ) (n : ℕ) → number_below limit word ≡ Some n → n < limit
number_small limit word n e = by (whole_of word) e
  where
    by : (o : Option ℕ) → below limit o ≡ Some n → n < limit
    by None e = absurd cc
    by (Some m) e = below_limit limit m n e

whole_small : (word : List ℕ) (n : ℕ) → whole_of word ≡ Some n → n < 2 ^ 31
unfolding whole_of
whole_small word n e =
    let value = digits_value 10 word in
    cond_both (are_digits word && ltb value (2 ^ 31)) (Some value) None (λ o. o ≡ Some n → n < 2 ^ 31)
    (λ f g. let same : value ≡ n = cc in subst (λ k. k < 2 ^ 31) same (ltb-true value (2 ^ 31) (and_parts (are_digits word) (ltb value (2 ^ 31)) f).1)) (λ f g. absurd cc) e

is_place : (o : Option ℕ) (i : ℕ) → option_map Place o ≡ Some (Place i) → o ≡ Some i
is_place None i e = absurd cc
is_place (Some j) i e = cc

column_below : (s : Setting) (text : List ℕ) (i : ℕ) → column_target s text ≡ Some (Place i) → i < s.columns
column_below s text i e =
    cond_both (bytes_eq text (tied_column s.naming)) (Some Tied) (option_map Place (index_named (column_name s.naming) s.columns text)) (λ o. o ≡ Some (Place i) → i < s.columns) (λ f g. absurd cc)
    (λ f g. (named_so (column_name s.naming) s.columns i text (is_place (index_named (column_name s.naming) s.columns text) i g)).0) e

exported_is : (exported : List Bool) (j i : ℕ) → if_exported exported j ≡ Some (Place i) → j ≡ i
exported_is exported j i e = cond_both (get_or exported j false) (Some (Place j)) None (λ o. o ≡ Some (Place i) → j ≡ i) (λ f g. cc) (λ f g. absurd cc) e

row_below : (s : Setting) (text : List ℕ) (i : ℕ) → row_target s text ≡ Some (Place i) → i < length s.exported
row_below s text i e = by (bytes_eq text (tied_row s.naming)) e
  where
    found : (o : Option ℕ) → index_named (row_name s.naming) (length s.exported) text ≡ o → option_and_then (if_exported s.exported) o ≡ Some (Place i) → i < length s.exported
    found None f e = absurd cc
    found (Some j) f e =
        let same = exported_is s.exported j i e in
        let low = (named_so (row_name s.naming) (length s.exported) j text f).0 in
        omega (arith, same, low)

    by : (b : Bool) → cond b (Some Tied) (option_and_then (if_exported s.exported) (index_named (row_name s.naming) (length s.exported) text)) ≡ Some (Place i) → i < length s.exported
    by true e = absurd cc
    by false e = found (index_named (row_name s.naming) (length s.exported) text) refl e

only_first : (name text : List ℕ) (i : ℕ) → only name text ≡ Some (Place i) → i < 1
only_first name text i e = cond_both (bytes_eq text name) (Some (Place 0)) None (λ o. o ≡ Some (Place i) → i < 1) (λ f g. let same : 0 ≡ i = cc in omega (arith, same)) (λ f g. absurd cc) e

object_below : (s : Setting) (objects : Objects) (text : List ℕ) (i : ℕ) → object_target s objects text ≡ Some (Place i) → i < count_among s.columns (length s.exported) 1 objects
object_below s Variables text i e = column_below s text i e
object_below s Constraints text i e = row_below s text i e
object_below s Objectives text i e = only_first (codes "obj") text i e
object_below s Problem text i e = only_first (codes "problem") text i e

-- ---- tests that do not hold

-- what the tests of a value of a suffix say of its line
record IsTaken (s : Setting) (suffixes : List FileSuffix) (line : SuffixLine) : Type 0 where
  fine : IsFineLine s line
  alike : differs (suffix_named suffixes line.kind line.name) line.kind ≡ false
  fresh : is_given_in (suffix_named suffixes line.kind line.name) (Some (Place line.place)) ≡ false
  room : is_full suffixes (suffix_named suffixes line.kind line.name) ≡ false

object_taken : (s : Setting) (suffixes : List FileSuffix) (kind : ℕ) (name text : List ℕ) (i : ℕ) (v : Dec) → kind < 8 → is_name name ≡ true → object_target s (objects_of kind) text ≡ Some (Place i)
    → first_reason (object_tests suffixes kind (suffix_named suffixes kind name) (Some (Place i)) (Some v)) ≡ None → IsTaken s suffixes (record { kind = kind; name = name; place = i; value = v })
object_taken s suffixes kind name text i v small named at e =
    let found = suffix_named suffixes kind name in
    let last : Tests = (is_full suffixes found, TooLarge) ∷ [] in
    let given : Tests = (is_given_in found (Some (Place i)), Repeated) ∷ last in
    let number : Tests = (is_bad_value kind (Some v), BadNumber) ∷ given in
    let one = none_head (differs found kind) BadLine ((false, UnknownName) ∷ number) e in
    let two = none_head false UnknownName number one.1 in
    let three = none_head (is_bad_value kind (Some v)) BadNumber given two.1 in
    let four = none_head (is_given_in found (Some (Place i))) Repeated last three.1 in
    let five = none_head (is_full suffixes found) TooLarge [] four.1 in
    record {
      fine = record { kind = small; name = named; place = lt-ltb i (limit_of s kind) (object_below s (objects_of kind) text i at); fits = whole (wants_whole kind) (is_whole v) three.0 };
      alike = one.0;
      fresh = four.0;
      room = five.0;
    }
  where
    whole : (w b : Bool) → (false || (w && not b)) ≡ false → (not w || b) ≡ true
    whole false b e = refl
    whole true true e = refl
    whole true false e = absurd cc

-- ---- what holds of each standing

abbrev pub IsSmall : Option ℕ → Type 0
IsSmall o = IfSome o (λ n. n < 2 ^ 31)

pub record IsSaid (message : List (List ℕ)) : Type 0 where
  pub each : AllByRecursion IsSaidLine message
  pub few : length message ≤ 65536

pub record AreKept (s : Setting) (suffixes : List FileSuffix) : Type 0 where
  pub fine : AllByRecursion (IsFine s) suffixes
  pub few : length suffixes ≤ 1024
  pub few_values : value_count suffixes ≤ 2 ^ 22

pub record IsKept (s : Setting) (n k : Option ℕ) (lines : List (List ℕ)) (xs : List FileSuffix) : Type 0 where
  pub status : IsSmall n
  pub objective : IsSmall k
  pub message : IsSaid lines
  pub suffixes : AreKept s xs

abbrev pub Kept : Setting → Standing → Type 0
Kept s st = IsKept s st.status st.objective st.message st.suffixes

first_small : (a : Option ℕ) (n : ℕ) → IsSmall a → n < 2 ^ 31 → IsSmall (option_or a (Some n))
first_small None n h k = k
first_small (Some m) n h k = h

blanks_length : (line : List ℕ) → length (without_blanks line) ≤ length line
blanks_length [] = omega arith
blanks_length (b ∷ line) = cond_both (is_blank b) (without_blanks line) (b ∷ line) (λ ws. length ws ≤ length (b ∷ line)) (λ e. omega (arith, blanks_length line)) (λ e. omega arith)

message_said : (st : Standing) (line : List ℕ) → IsTextLine line → first_reason (message_tests st (message_in line)) ≡ None → IsSaid st.message → IsSaid (st.message ++ message_in line ∷ [])
unfolding message_tests
message_said st line one e h =
    let tests = none_head (bytes_eq (message_in line) (codes "Options")) BadLine ((nat_le (2 ^ 16) (length st.message), TooLarge) ∷ []) e in
    let room = leb-false (2 ^ 16) (length st.message) (none_head (nat_le (2 ^ 16) (length st.message)) TooLarge [] tests.1).0 in
    let short : length (message_in line) ≤ 65536 = omega (arith, length-drop 8 (without_blanks line), blanks_length line, one.short) in
    record {
      each = all_push IsSaidLine st.message (message_in line) h.each
          (record {
            line_of_text = record {
              one = one_line-drop 8 (without_blanks line) (one_line-blanks line one.one);
              short = short;
            };
            other = tests.0;
          });
      few = omega (arith, room, length-append st.message (message_in line ∷ []));
    }

room_more : (n m : ℕ) (none : Bool) → m ≤ n + cond none 1 0 → n ≤ 1024 → (none && nat_le (2 ^ 10) n) ≡ false → m ≤ 1024
room_more n m true h few e = let less = leb-false (2 ^ 10) n e in omega (arith, h, less)
room_more n m false h few e = omega (arith, h, few)

taken_kept : (s : Setting) (suffixes : List FileSuffix) (line : SuffixLine) → AreKept s suffixes → IsTaken s suffixes line → AreKept s (with_suffix_line suffixes line)
taken_kept s suffixes line h t =
    let none = is_none (suffix_named suffixes line.kind line.name) in
    let room = or_parts (none && nat_le (2 ^ 10) (length suffixes)) (nat_le (2 ^ 22) (value_count suffixes)) t.room in
    record {
      fine = line_fine s suffixes line h.fine t.fine t.alike t.fresh;
      few = room_more (length suffixes) (length (with_suffix_line suffixes line)) none (count_more suffixes line) h.few room.0;
      few_values = omega (arith, leb-false (2 ^ 22) (value_count suffixes) room.1, one_value_more suffixes line);
    }

-- where a line says no entry, nothing changes
said_kept : {A : Type 0} (s : Setting) (st : Standing) (entry : A → Entry) (o : Option A) → Kept s st
    → ((x : A) → o ≡ Some x → Kept s (with_entry st (entry x))) → Kept s (with_said st (option_map entry o))
said_kept s st entry None h step = h
said_kept s st entry (Some x) h step = step x refl

placed_kept : (s : Setting) (st : Standing) (entry : ℕ → Dec → Entry) (target : Option Target) (value : Option Dec)
    → Kept s st → ((i : ℕ) (v : Dec) → target ≡ Some (Place i) → value ≡ Some v → Kept s (with_entry st (entry i v)))
    → Kept s (with_said st (at_place entry target value))
placed_kept s st entry None value h step = h
placed_kept s st entry (Some Tied) value h step = h
placed_kept s st entry (Some (Place i)) None h step = h
placed_kept s st entry (Some (Place i)) (Some v) h step = step i v refl refl

kind_kept : (s : Setting) (st : Standing) (words : List (List ℕ)) (kind : Option ℕ) → kind_in words ≡ kind
    → is_name (word_at words 2) ≡ true → first_reason (kind_tests s st.suffixes words kind) ≡ None → Kept s st
    → Kept s (with_said st (suffix_in s words kind))
kind_kept s st words None same named e h = h
kind_kept s st words (Some kind) same named e h =
    placed_kept s st (suffix_entry kind (word_at words 2)) (object_target s (objects_of kind) (word_at words 3)) (dec_of (word_at words 4)) h (λ i v at is.
    let taken = object_taken s st.suffixes kind (word_at words 2) (word_at words 3) i v (number_small 8 (word_at words 1) kind same) named at (rw (at, is) at e) in
    record {
      status = h.status;
      objective = h.objective;
      message = h.message;
      suffixes =
          taken_kept s st.suffixes (record { kind = kind; name = word_at words 2; place = i; value = v }) h.suffixes taken;
    })

suffix_kept : (s : Setting) (st : Standing) (words : List (List ℕ)) → first_reason (suffix_tests s st.suffixes words) ≡ None → Kept s st → Kept s (with_said st (suffix_in s words (kind_in words)))
unfolding suffix_tests
suffix_kept s st words e h =
    let rest : Tests = kind_tests s st.suffixes words (kind_in words) in
    let form = none_head (not (length words == 5)) BadLine ((not (is_name (word_at words 2)), BadLine) ∷ rest) e in
    let name = none_head (not (is_name (word_at words 2))) BadLine rest form.1 in
    kind_kept s st words (kind_in words) refl (not-false (is_name (word_at words 2)) name.0) name.1 h

entry_kept : (s : Setting) (st : Standing) (line : List ℕ) (words : List (List ℕ)) (k : Option Keyword)
    → IsTextLine line → first_reason (tests_by s st line words k) ≡ None → Kept s st
    → Kept s (with_said st (entry_by s line words k))
entry_kept s st line words None one e h = h
entry_kept s st line words (Some Status) one e h = said_kept s st StatusIs (status_in words) h (λ n is.
    record { status = first_small st.status n h.status (omega (arith, number_small 1000 (word_at words 1) n is)); objective = h.objective; message = h.message; suffixes = h.suffixes })
entry_kept s st line words (Some Message) one e h = record { status = h.status; objective = h.objective; message = message_said st line one e h.message; suffixes = h.suffixes }
entry_kept s st line words (Some Sign) one e h = said_kept s st SignIs (sign_in words) h (λ b is. h)
entry_kept s st line words (Some Objno) one e h = said_kept s st ObjectiveIs (objective_in words) h (λ n is.
    record { status = h.status; objective = first_small st.objective n h.objective (whole_small (word_at words 1) n is); message = h.message; suffixes = h.suffixes })
entry_kept s st line words (Some Col) one e h = placed_kept s st ColumnValue (column_target s (word_at words 1)) (dec_of (word_at words 2)) h (λ i v at is. h)
entry_kept s st line words (Some Row) one e h = placed_kept s st RowValue (row_target s (word_at words 1)) (dec_of (word_at words 2)) h (λ i v at is. h)
entry_kept s st line words (Some Suffix) one e h = suffix_kept s st words e h

chosen_kept : (s : Setting) (st : Standing) (line : List ℕ) (none begun : Bool) → IsTextLine line
    → first_reason (cond none [] (cond begun (row_tests s st line) (first_tests (row_of line)))) ≡ None → Kept s st
    → Kept s (cond none st (cond begun (with_said st (entry_in s line)) (record st { begun = true })))
unfolding row_tests entry_in
chosen_kept s st line true begun one e h = h
chosen_kept s st line false false one e h = h
chosen_kept s st line false true one e h = entry_kept s st line (row_of line) (keyword_of (word_at (row_of line) 0)) one e h

line_kept : (s : Setting) (st : Standing) (line : List ℕ) → IsTextLine line → first_reason (line_tests s st line) ≡ None → Kept s st → Kept s (after s st line)
unfolding line_tests after
line_kept s st line one e h = chosen_kept s st line (eqb (length (row_of line)) 0) st.begun one e h

nothing_kept : (s : Setting) → Kept s (standing s [])
nothing_kept s = subst (Kept s) (sym (standing_none s)) (record {
  status = tt;
  objective = tt;
  message = record { each = tt; few = omega arith };
  suffixes =
      record { fine = tt; few = omega arith; few_values = omega arith };
})

-- ---- all lines

pub answer_kept : (s : Setting) (text : List ℕ) (a : AnswerValue) → IsAnswer s text a → Kept s (standing s (lines_of text))
answer_kept s text a h =
    clean_keeps (answer_rules s) (λ ls. Kept s (standing s ls)) (last_of text) (lines_of text)
    (λ before rest line is fine kept. subst (Kept s) (sym (standing_more s before line))
    (line_kept s (standing s before) line (all_here IsTextLine before rest line (subst (AllByRecursion IsTextLine) (sym is) (lines_of-lines text))) fine kept)) (nothing_kept s) h.clean

pub message-lines : (s : Setting) (text : List ℕ) (a : AnswerValue) → IsAnswer s text a → AllByRecursion IsMessageLine a.message
message-lines s text a h = subst (AllByRecursion IsMessageLine) (sym (ap (λ (v : AnswerValue). v.message) h.said)) (by (standing s (lines_of text)).message (answer_kept s text a h).message.each)
  where
    by : (message : List (List ℕ)) → AllByRecursion IsSaidLine message → AllByRecursion IsMessageLine message
    by [] all = tt
    by (line ∷ message) all = (record { one = all.0.line_of_text.one; other = all.0.other }, by message all.1)

pub status-small : (s : Setting) (text : List ℕ) (a : AnswerValue) → IsAnswer s text a → IfSome a.status (λ n. n < 2 ^ 31)
status-small s text a h = subst IsSmall (sym (ap (λ (v : AnswerValue). v.status) h.said)) (answer_kept s text a h).status

pub objective-small : (s : Setting) (text : List ℕ) (a : AnswerValue) → IsAnswer s text a → a.objective < 2 ^ 31
objective-small s text a h = subst (λ (n : ℕ). n < 2 ^ 31) (sym (ap (λ (v : AnswerValue). v.objective) h.said)) (by (standing s (lines_of text)).objective (answer_kept s text a h).objective)
  where
    by : (o : Option ℕ) → IsSmall o → unwrap_or o 0 < 2 ^ 31
    by None k = omega arith
    by (Some n) k = k
