-- What header lines say, and what is wrong with one, step by step.
use Rattle.std.proofs.Common.{◌≡◌, ◌∙◌, ℕ, ◌+◌, ◌-◌, ◌<◌, ◌≤◌, Bool, true, false, List, [], ◌∷◌, ◌++◌, length, get_or}
use Rattle.std.proofs.Common.{take, Option, Some, None, refl, sym, ap, arith, min, unwrap_or, Bor, ◌==◌, ◌&&◌, ℤ, cond}
use Rattle.std.proofs.Common.{filter_map, set, ◌≢◌, get_or-set_other, get_or-set_same, below_more, suc}
use Rattle.std.proofs.lemmas.List.{get_or_past, length-map, map_more, length-append}
use Rattle.std.proofs.lemmas.List.Elements.{filter_map-append}
use Rattle.std.proofs.lemmas.Bool.{eqb-true, ltb-true, ltb-false}
use Rattle.std.specs.Prelude.{option_to_list, find, option_map, nat_lt}
use Rattle.std.specs.List.{list_all, cons_option}
use Rattle.std.specs.Option.{option_or}
use Rattle.text_base.specs.Words.{texts}
use Rattle.text_base.specs.Judged.{first_reason}
use Rattle.code_tables.specs.declared.field.Field.{Field}
use Rattle.code_tables.specs.declared.field.FieldRow.{FieldRow}
use Rattle.code_tables.specs.Header.{header_rows, field_at, field_in}
use Rattle.nl_header.specs.declared.fault.HeadFault.{HeadFault}
use Rattle.exact_numbers.specs.Numbers.{whole_of, signed_of}
use Rattle.exact_numbers.proofs.NumberLemmas.{first_of_both, second_of_both}
use Rattle.nl_header.specs.Head.{number_in, word_tests, words_fault, number_after, no_field_row}
use Rattle.nl_header.specs.Reading.{put_in}
use Rattle.std.proofs.Math.Nat.{suc_inj}

-- ---- Numbers of a line.

whole_of-empty : whole_of [] ≡ None
unfolding whole_of
whole_of-empty = refl

pub number_in-past : (words : List (Bor (List ℕ))) (i place : ℕ) → i ≡ place - 1 → length words ≤ i → 0 ≡ number_in (texts words) place
number_in-past words i place is past =
    sym (ap (λ w. unwrap_or (whole_of w) 0) (get_or_past (texts words) (place - 1) [] (omega (arith, length-map words (λ w. w.now), is, past))) ∙ ap (λ o. unwrap_or o 0) whole_of-empty)

-- ---- Options.

listed-one : (o : Option ℤ) (w : List ℕ) → o ≡ signed_of w → option_to_list o ≡ filter_map signed_of (w ∷ [])
listed-one o w e = by o ∙ ap (λ p. cons_option p []) e
  where
    by : (p : Option ℤ) → option_to_list p ≡ cons_option p []
    by None = refl
    by (Some z) = refl

pub signed_more : (words : List (Bor (List ℕ))) (i : ℕ) (before after : List ℤ) (o : Option ℤ) (d : Bor (List ℕ))
    → before ≡ filter_map signed_of (texts (take i words)) → i < length words → o ≡ signed_of (get_or words i d).now
    → after ≡ before ++ option_to_list o → after ≡ filter_map signed_of (texts (take (i + 1) words))
signed_more words i before after o d kept lt this added =
    let more : texts (take (i + 1) words) ≡ texts (take i words) ++ (get_or words i d).now ∷ [] = map_more (λ w. w.now) words i d lt in
    added ∙ ap (λ b. b ++ option_to_list o) kept ∙ ap (λ l. filter_map signed_of (texts (take i words)) ++ l) (listed-one o _ this)
    ∙ sym (filter_map-append signed_of (texts (take i words)) ((get_or words i d).now ∷ [])) ∙ ap (filter_map signed_of) (sym more)

short-list : (o : Option ℤ) → length (option_to_list o) ≤ 1
short-list None = omega arith
short-list (Some z) = omega arith

pub signed_room : (i : ℕ) (before after : List ℤ) (o : Option ℤ) → length before ≤ i → after ≡ before ++ option_to_list o → length after ≤ i + 1
signed_room i before after o room added = omega (arith, short-list o, ap length added, length-append before (option_to_list o), room)

-- ---- Faults of words.

-- no field past the last place of a table
find-past : (rows : List FieldRow) (line place : ℕ) → list_all (λ r. nat_lt r.place 7) rows ≡ true → 7 ≤ place → field_in rows line place ≡ None
find-past [] line place small past = refl
find-past (r ∷ rows) line place small past =
    let here : nat_lt r.place 7 ≡ true = first_of_both _ _ small in
    let rest : field_in rows line place ≡ None = find-past rows line place (second_of_both _ _ small) past in
    by (r.line == line) (r.place == place) refl rest (ltb-true _ _ here)
  where
    by : (s t : Bool) → (r.place == place) ≡ t → field_in rows line place ≡ None → r.place < 7
        → option_map (λ q. q.field) (cond (s && t) (Some r) (find (λ q. (q.line == line) && (q.place == place)) rows))
        ≡ None
    by s true e rest lt = absurd (omega (arith, eqb-true r.place place e, lt, past))
    by true false e rest lt = rest
    by false false e rest lt = rest

-- no field stands at place 7 or later
pub header_places : list_all (λ r. nat_lt r.place 7) header_rows ≡ true
unfolding header_rows
header_places = refl

field_at-past : (line place : ℕ) → 7 ≤ place → field_at line place ≡ None
unfolding field_at header_rows
field_at-past line place past = find-past header_rows line place header_places past

pub words_fault-past : (line place : ℕ) (words : List (List ℕ)) → 7 ≤ place → words_fault line place words ≡ words_fault line 7 words
unfolding words_fault
words_fault-past line place [] past = refl
words_fault-past line place (word ∷ words) past =
    let here : first_reason (word_tests (field_at line place) word) ≡ first_reason (word_tests (field_at line 7) word) =
    ap (λ f. first_reason (word_tests f word)) (field_at-past line place past ∙ sym (field_at-past line 7 (omega arith))) in
    let rest : words_fault line (place + 1) words ≡ words_fault line (7 + 1) words =
    words_fault-past line (place + 1) words (omega (arith, past)) ∙ sym (words_fault-past line (7 + 1) words (omega arith)) in
    ap (λ f. option_or f (words_fault line (place + 1) words)) here ∙ ap (option_or (first_reason (word_tests (field_at line 7) word))) rest

words_fault-next : (line place : ℕ) (words : List (List ℕ)) → place ≤ 7 → words_fault line (min (place + 1) 7) words ≡ words_fault line (place + 1) words
words_fault-next line place words small = by (nat_lt place 7) refl
  where
    by : (t : Bool) → nat_lt place 7 ≡ t → words_fault line (min (place + 1) 7) words ≡ words_fault line (place + 1) words
    by true e = let lt : place < 7 = ltb-true _ _ e in let same : min (place + 1) 7 ≡ place + 1 = omega (arith, lt) in ap (λ p. words_fault line p words) same
    by false e = let at : place ≡ 7 = omega (arith, ltb-false _ _ e, small) in let same : min (place + 1) 7 ≡ 7 = omega (arith, at) in
        ap (λ p. words_fault line p words) same ∙ sym (words_fault-past line (place + 1) words (omega (arith, at)))

pub next-some : (place next : ℕ) → next ≡ min (place + 1) 7 → 0 < next
next-some place next e = omega (arith, e)

pub next-small : (place next : ℕ) → next ≡ min (place + 1) 7 → next ≤ 7
next-small place next e = omega (arith, e)

pub words_fault-at : (line place : ℕ) (words rest : List (List ℕ)) (word : List ℕ) (field : Option Field)
    (all : Option HeadFault) (f : HeadFault) → words_fault line place words ≡ all → words ≡ word ∷ rest
    → field ≡ field_at line place → first_reason (word_tests field word) ≡ Some f → all ≡ Some f
unfolding words_fault
words_fault-at line place words rest word field all f same split is here =
    sym same ∙ ap (words_fault line place) split ∙ ap (λ g. option_or (first_reason (word_tests g word))
    (words_fault line (place + 1) rest)) (sym is) ∙ ap (λ g. option_or g (words_fault line (place + 1) rest)) here

pub words_fault-on : (line place next : ℕ) (words rest : List (List ℕ)) (word : List ℕ) (field : Option Field)
    (all : Option HeadFault) → words_fault line place words ≡ all → words ≡ word ∷ rest → field ≡ field_at line place
    → first_reason (word_tests field word) ≡ None → place ≤ 7 → next ≡ min (place + 1) 7
    → words_fault line next rest ≡ all
unfolding words_fault
words_fault-on line place next words rest word field all same split is here small step =
    ap (λ p. words_fault line p rest) step ∙ words_fault-next line place rest small
    ∙ sym (ap (λ g. option_or g (words_fault line (place + 1) rest)) here)
    ∙ sym (ap (λ g. option_or (first_reason (word_tests g word)) (words_fault line (place + 1) rest)) (sym is))
    ∙ sym (ap (words_fault line place) split) ∙ same

pub words_fault-end : (line place : ℕ) (words : List (List ℕ)) (all : Option HeadFault) → words_fault line place words ≡ all → words ≡ [] → all ≡ None
unfolding words_fault
words_fault-end line place words all same none = sym same ∙ ap (words_fault line place) none

-- ---- Numbers that are set one after the other.

pub set-done : (i : ℕ) (numbers old : List ℕ) (v : ℕ) (f : ℕ → ℕ → ℕ) → i < length numbers
    → ((k : ℕ) → k < i → get_or numbers k 0 ≡ f k (get_or old k 0))
    → ((k : ℕ) → i ≤ k → get_or numbers k 0 ≡ get_or old k 0) → v ≡ f i (get_or numbers i 0) → (k : ℕ) → k < i + 1
    → get_or (set numbers i v) k 0 ≡ f k (get_or old k 0)
set-done i numbers old v f lt done rest this =
    below_more _ _
    (λ k h. let ne : k ≢ i = omega arith in rw get_or-set_other (done k h))
    (rw get_or-set_same (this ∙ ap (f i) (rest i (omega arith))))

pub set-rest : (i : ℕ) (numbers old : List ℕ) (v : ℕ) → ((k : ℕ) → i ≤ k → get_or numbers k 0 ≡ get_or old k 0) → (k : ℕ) → i + 1 ≤ k → get_or (set numbers i v) k 0 ≡ get_or old k 0
set-rest i numbers old v rest k past = let ne : k ≢ i = omega arith in rw get_or-set_other (rest k (omega arith))

pub put_in-each : (rows : List FieldRow) (line : ℕ) (words : List (List ℕ)) (old new : List ℕ)
    → length rows ≡ length old → length new ≡ length old → ((k : ℕ) → k < length old
    → get_or new k 0 ≡ number_after (get_or rows k no_field_row) line words (get_or old k 0))
    → new ≡ put_in rows line words old
unfolding put_in
put_in-each [] line words [] [] m n each = refl
put_in-each [] line words [] (v ∷ new) m n each = absurd (omega (arith, n))
put_in-each [] line words (o ∷ old) new m n each = absurd (omega (arith, m))
put_in-each (r ∷ rows) line words [] new m n each = absurd (omega (arith, m))
put_in-each (r ∷ rows) line words (o ∷ old) [] m n each = absurd (omega (arith, n))
put_in-each (r ∷ rows) line words (o ∷ old) (v ∷ new) m n each =
    ap (λ x. x ∷ new) (each 0 (omega arith))
    ∙ ap (λ xs. number_after r line words o ∷ xs)
    (put_in-each rows line words old new (suc_inj m) (suc_inj n) (λ k lt. each (suc k) (omega (arith, lt))))
