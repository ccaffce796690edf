-- Lines at the front of a piece that are taken at once.
use Rattle.std.proofs.Common.{◌≡◌, ◌∙◌, ℕ, ◌+◌, ◌-◌, ◌<◌, ◌≤◌, ◌^◌, ◌&&◌, ◌==◌, not, true, false, inl, inr, List, []}
use Rattle.std.proofs.Common.{◌∷◌, ◌++◌, length, take, drop, get_or, Option, Some, None, Ok, refl, sym, ap, ap₂, subst}
use Rattle.std.proofs.Common.{arith, append_assoc, length-append}
use Rattle.std.specs.Prelude.{All, IfSome, nat_le}
use Rattle.std.proofs.Math.Bool.{and-false}
use Rattle.std.proofs.Math.Seq.{take-append_seam}
use Rattle.std.proofs.lemmas.List.{append-nil, length-map}
use Rattle.std.proofs.lemmas.List.Elements.{All-cons}
use Rattle.std.proofs.lemmas.Bool.Decides.{eqb_tells, nat_tests}
use Rattle.std.specs.Str.{bytes_eq}
use Rattle.text_base.specs.declared.grammar.Front.{Front}
use Rattle.text_base.specs.Cut.{IsTextLine}
use Rattle.text_base.specs.Fronts.{IsFront, TakesFront}
use Rattle.text_base.specs.Judged.{Open, IsClean, first_reason, Takes}
use Rattle.text_base.specs.Names.{IsName}
use Rattle.text_base.specs.Words.{row_of, word_at}
use Rattle.text_base.proofs.FirstReasons.{takes_after}
use Rattle.text_base.proofs.FrontLemmas.{front_joined}
use Rattle.text_base.proofs.JudgedLemmas.{clean_more}
use Rattle.text_base.proofs.NamePlaces.{bytes_self, place_some}
use Rattle.exact_numbers.specs.Numbers.{dec_of}
use Rattle.exact_numbers.specs.declared.dec.Dec.{Dec}
use Rattle.text_base.specs.WordLines.{indented, spaced}
use Rattle.written_texts.proofs.LineLemmas.{text-line}
use Rattle.mps_model.specs.declared.kinds.BoundKind.{BoundKind}
use Rattle.mps_model.specs.Built.{CanAddBound, last_entries}
use Rattle.mps_model.specs.Mps.{Column, Entry, Mps, MpsRow, no_mps_row}
use Rattle.mps_model.specs.Valid.{IsBounded, IsOtherEntry, entry_count, marker_word}
use Rattle.mps_words.specs.declared.keyword.Keyword.{Keyword}
use Rattle.mps_words.specs.declared.keyword.Keyword.TheVariants.{Name, Sense, Rows, Columns, Rhs, Ranges, Bounds, End}
use Rattle.mps_reader.specs.Grammar.{line_tests, mps_rules, standing}
use Rattle.mps_words.specs.InsideFronts.{IsPairText, joined}
use Rattle.mps_reader.specs.InsideLines.{GoesOn, IsAfterHead, IsBoundText, IsColumnBound, IsFreeRow, IsHeadWord, IsKindText, IsNext, IsRowPair, SaysBound, TakesLines, held_after}
use Rattle.mps_reader.specs.InsideHeld.{HasPairs, Held, IsKept, IsSound, MayPair, TakesSoundly, program}
use Rattle.mps_reader.specs.InsideHeldSteps.{if_held_entry, with_bound, with_held_bound_line, with_held_column}
use Rattle.mps_reader.specs.InsideHeldSteps.{with_held_column_line, with_held_entries, with_held_entry, with_held_pairs}
use Rattle.mps_reader.specs.InsideHeldSteps.{with_held_sides, with_set}
use Rattle.mps_reader.specs.InsidePairs.{CanGive}
use Rattle.mps_reader.specs.Saying.{Draft, bound_in, bound_kind_of, bound_value, column_names, entry_in, is_current, last_name, needs_number, place_of, row_names}
use Rattle.mps_words.specs.Sections.{is_data, is_left_out, last_of}
use Rattle.mps_reader.specs.Steps.{after, after_data_in, after_words, set_after}
use Rattle.mps_reader.specs.Tests.{Standing, Tests, bound_tests, column_name_tests, column_tests, data_tests}
use Rattle.mps_reader.specs.Tests.{data_tests_in, entry_line_tests, has_entry, is_bad_set, is_free, is_full}
use Rattle.mps_reader.specs.Tests.{is_refused_row, is_second_set, pair_tests, pairs_so_far, pairs_tests, set_tests}
use Rattle.mps_reader.specs.Tests.{sets_again, side_tests}
use Rattle.mps_reader.proofs.BoundLemmas.{can_add_bound}
use Rattle.mps_words.proofs.CodeLemmas.{name_is}
use Rattle.mps_reader.proofs.DataLemmas.{Done, done_bound, done_columns, done_row, done_sense, done_sides, standing-sides, taken_in}
use Rattle.mps_reader.proofs.GrammarLemmas.{judged, taken_after}
use Rattle.mps_reader.proofs.KeptLemmas.{entry_may}
use Rattle.mps_reader.proofs.LineLemmas.{takes_as}
use Rattle.mps_reader.proofs.LineTexts.{IsPlain, line_data, line_kept, line_row, plain_lines}
use Rattle.mps_reader.proofs.PairLemmas.{one_pair}
use Rattle.mps_reader.proofs.SideLemmas.{column_may, entries_taken}
use Rattle.mps_reader.proofs.StandingLemmas.{standing-more}

-- ---- the line of some words

joined_is : (words : List (List ℕ)) (rest : List ℕ) → 0 < length words → joined words rest ≡ spaced (indented words) ++ rest
joined_is [] rest some = absurd (omega arith)
joined_is (word ∷ []) rest some = refl
joined_is (word ∷ next ∷ words) rest some =
    ap (λ bs. 32 ∷ word ++ bs) (joined_is (next ∷ words) rest (omega arith)) ∙ ap (λ bs. 32 ∷ bs) (sym (append_assoc word (32 ∷ spaced (next ∷ words)) rest))

module _ (k : Keyword) (h g : Held) (text rest : List ℕ) (e : IsNext k h g text rest) where
  abbrev pub line : List ℕ
  line = spaced (indented e.words)

  plain : IsPlain (indented e.words)
  plain = record { some = e.some; few = e.few; words = e.line.each; begins = λ no. absurd cc }

  is_line : IsTextLine line
  is_line = text-line (indented e.words) (plain_lines (indented e.words ∷ []) (plain, tt)).0

  pub parted : text ≡ (line ++ 10 ∷ []) ++ rest
  parted = e.line.parts ∙ joined_is e.words (10 ∷ rest) e.some ∙ sym (append_assoc line (10 ∷ []) rest)

  size : length text ≡ length (line ++ 10 ∷ []) + length rest
  size = omega (arith, ap length parted, length-append (line ++ 10 ∷ []) rest)

  is_front : (len : ℕ) → len ≡ length text - length rest → IsFront text (record { len = len; lines = 1 }) (line ∷ [])
  is_front len is =
      let whole : length (line ++ 10 ∷ []) ≡ len = omega (arith, size, is) in
      let front : take len text ≡ line ++ 10 ∷ [] = ap (take len) parted ∙ ap (λ k. take k ((line ++ 10 ∷ []) ++ rest)) (sym whole) ∙ take-append_seam (line ++ 10 ∷ []) rest in
      record {
        within = omega (arith, whole, size);
        text = front ∙ sym (append-nil (line ++ 10 ∷ []));
        each = (is_line, tt);
        count = refl;
      }

pub next_fits : (k : Keyword) (h g : Held) (text rest : List ℕ) → IsNext k h g text rest → length rest ≤ length text
next_fits k h g text rest e = omega (arith, size k h g text rest e)

-- ---- what it means

done_in : (k : Keyword) (h : Held) (ws : List (List ℕ)) → IsSound h → last_of h.standing.begun ≡ Some k → first_reason (data_tests_in h.standing ws (Some k)) ≡ None → Done k h (held_after k h ws) ws
done_in Name h ws s last none = absurd (cc none)
done_in Sense h ws s last none = done_sense h ws s
done_in Rows h ws s last none = done_row h ws s last
done_in Columns h ws s last none = done_columns h ws s last none
done_in Rhs h ws s last none = done_sides Rhs h ws s last (omega arith) refl (standing-sides Rhs h ws)
done_in Ranges h ws s last none = done_sides Ranges h ws s last (omega arith) refl (standing-sides Ranges h ws)
done_in Bounds h ws s last none = done_bound h ws s last none
done_in End h ws s last none = absurd (cc none)

line_goes : (k : Keyword) (h new : Held) (line : List ℕ) (ws : List (List ℕ)) → is_left_out line ≡ false → is_data line ≡ true → row_of line ≡ ws → last_of h.standing.begun ≡ Some k
    → TakesSoundly (data_tests_in h.standing ws (Some k)) (after_data_in h.standing ws (Some k)) (Ok tt) new → GoesOn h.standing (line ∷ []) new.standing
unfolding data_tests
line_goes k h new line ws some is_data_line row last t =
    let s = h.standing in
    let tests : first_reason (line_tests s (is_data line) (row_of line)) ≡ None =
    ap (λ b. first_reason (line_tests s b (row_of line))) is_data_line
    ∙ ap (λ (w : List (List ℕ)). first_reason (data_tests s w)) row
    ∙ subst (λ o. first_reason (data_tests_in s ws o) ≡ None) (sym last) t.0 in
    let next : after_words s (is_data line) (row_of line) ≡ new.standing =
    ap (λ b. after_words s b (row_of line)) is_data_line ∙ ap (λ (w : List (List ℕ)). after_words s true w) row ∙ ap (after_data_in s ws) last ∙ sym t.1 in
    (judged s line some ∙ tests, sym (taken_after s line some ∙ next))

next_sound : (k : Keyword) (h g new : Held) (text rest : List ℕ) (e : IsNext k h g text rest) → IsSound h → new ≡ g
    → IsKept new → TakesSoundly (data_tests_in h.standing e.words (Some k)) (after_data_in h.standing e.words (Some k))
    (Ok tt) new
next_sound k h g new text rest e s is kept = taken_in k k h (held_after k h e.words) new e.words (Ok tt) refl (e.none, is ∙ e.is) kept (λ none. done_in k h e.words s e.current none)

-- the next line is taken
pub next_taken : (k : Keyword) (h g new : Held) (text rest : List ℕ) (len : ℕ) → IsNext k h g text rest → IsSound h
    → new ≡ g → IsKept new → len ≡ length text - length rest → TakesLines h text (record { len = len; lines = 1 }) new
    × IsSound new
next_taken k h g new text rest len e s is kept size_is =
    let l = line k h g text rest e in
    let p = plain k h g text rest e in
    let t = next_sound k h g new text rest e s is kept in (
      record {
        lines = l ∷ [];
        is = is_front k h g text rest e len size_is;
        goes = line_goes k h new l e.words (line_kept (indented e.words) p) (line_data (indented e.words) p) (line_row (indented e.words) p) e.current t;
      },
      t.2,
    )

-- ---- which entry may come

others : (es : List (Entry Dec)) (row : ℕ) → has_entry es row ≡ false → All (IsOtherEntry row) es
others [] row none = λ k d lt. absurd (omega arith)
others (e ∷ es) row none = elim (eqb_tells e.row row) [
  | inl p ↦ absurd (cc (rw p.0 at none))
  | inr q ↦ All-cons (IsOtherEntry row) e es q.1 (others es row (rw q.0 at none))
]

pub below : (n most : ℕ) → nat_le most n ≡ false → n < most
below n most e = grind (arith, nat_tests, e)

-- it is a row of the program
pub row_there : (h : Held) (name : List ℕ) (row : ℕ) → IsKept h → place_of h.rows name ≡ Some row → row < length (program h).rows
row_there h name row kept at =
    let lt : row < length h.rows = (place_some h.rows name row at).within in
    omega (arith, lt, ap (length {A = List ℕ}) kept.rows, length-map (program h).rows (λ (r : MpsRow). r.name))

not_free : (rows : List MpsRow) (row : ℕ) → is_free (get_or rows row no_mps_row).kind ≡ false → IsBounded rows row
not_free rows row e = λ same. absurd (cc (rw same at e))

none_there : (k : Keyword) (h : Held) (row : ℕ) → MayPair k h → row < length (program h).rows → get_or h.marks row false ≡ false → has_entry (pairs_so_far k (program h)) row ≡ false
none_there k h row may within unmarked = sym ((may.kept.marks k may.current may.pairs).marked row within) ∙ unmarked

can_give : (k : Keyword) (h : Held) (row : ℕ) → MayPair k h → row < length (program h).rows
    → get_or h.marks row false ≡ false → is_full k (program h) ≡ false → is_refused_row k (program h) row ≡ false
    → CanGive k (program h) row
can_give Columns h row may within unmarked full bounded =
    let m : Mps Dec = program h in
    record { some = may.some refl; within = within; few = below (entry_count m.columns) (2 ^ 24) full; new = others (last_entries m.columns) row (none_there Columns h row may within unmarked) }
can_give Rhs h row may within unmarked full bounded = record { within = within; new = others (program h).rhs row (none_there Rhs h row may within unmarked) }
can_give Ranges h row may within unmarked full bounded = record {
  within = within;
  bounded = not_free (program h).rows row bounded;
  new =
      others (program h).ranges row (none_there Ranges h row may within unmarked);
}
can_give k h row may within unmarked full bounded = absurd may.pairs

-- the row of this name may have a pair more, whatever number it is
pub record MayGive (k : Keyword) (m : Mps Dec) (name : List ℕ) (row : ℕ) : Type 0 where
  pub other : bytes_eq name marker_word ≡ false
  pub can : CanGive k m row
  pub fine : (word : List ℕ) (value : Dec) → dec_of word ≡ Some value → first_reason (pair_tests k m name word) ≡ None
  pub entry : (word : List ℕ) (value : Dec) → dec_of word ≡ Some value → entry_in m name word ≡ Some (record { row = row; value = value })

pub may_give : (k : Keyword) (h : Held) (name : List ℕ) (row : ℕ) → MayPair k h → place_of h.rows name ≡ Some row
    → IsFreeRow k h row → bytes_eq name marker_word ≡ false → MayGive k (program h) name row
unfolding pair_tests entry_in
may_give k h name row may at free other =
    let m : Mps Dec = program h in
    let place : place_of (row_names m) name ≡ Some row = ap (λ (ns : List (List ℕ)). place_of ns name) (sym may.kept.rows) ∙ at in
    let within = row_there h name row may.kept at in
    let new = none_there k h row may within free.new in
    record {
      other = other;
      can = can_give k h row may within free.new free.room free.bounded;
      fine = λ word value says. rw (place, free.bounded, says, new, free.room) refl;
      entry = λ word value says. rw (place, says) refl;
    }

pub some_more : {A : Type 0} (o : Option A) (P Q : A → Type 0) → ((x : A) → P x → Q x) → IfSome o P → IfSome o Q
some_more None P Q f h = tt
some_more (Some x) P Q f h = f x h

-- a line of the last column
pub of_column : (h : Held) (columns : List (List ℕ)) (text more rest : List ℕ) → IsKept h → columns ≡ h.columns
    → h.standing.draft.current ≡ true → text ≡ last_name columns ++ more → more ≡ 32 ∷ rest → IsName (last_name columns)
    → IsAfterHead Columns h text rest
of_column h columns text more rest kept held current parts second named =
    let name : List ℕ = last_name columns in
    let same : last_name (column_names (program h)) ≡ name = ap last_name (sym (held ∙ kept.columns)) in
    record {
      name = name;
      parts = parts ∙ ap (λ bs. name ++ bs) second;
      is_name = named;
      head = ap₂ (λ a b. a && b) current (ap (bytes_eq name) same ∙ bytes_self name);
    }

-- a line of the set
pub set_of_sides : (h : Held) (text rest : List ℕ) → IsAfterHead Bounds h text rest → IsAfterHead Rhs h text rest × IsAfterHead Ranges h text rest
set_of_sides h text rest o = (record { name = o.name; parts = o.parts; is_name = o.is_name; head = o.head }, record { name = o.name; parts = o.parts; is_name = o.is_name; head = o.head })

pub may_next : (k : Keyword) (h : Held) (text rest : List ℕ) → IsSound h → last_of h.standing.begun ≡ Some k → HasPairs k → IsAfterHead k h text rest → MayPair k h
may_next Columns h text rest s last pairs o = column_may h h o.name s.kept last o.is_name.some o.head refl
may_next Rhs h text rest s last pairs o = record { kept = s.kept; pairs = tt; current = last; some = λ same. absurd cc }
may_next Ranges h text rest s last pairs o = record { kept = s.kept; pairs = tt; current = last; some = λ same. absurd cc }
may_next k h text rest s last pairs o = absurd pairs

-- ---- the name of a set

good_set : (set : List ℕ) → IsName set → is_bad_set set ≡ false
good_set set named = rw (name_is set named) (and-false (not (length set == 0)))

first_set : (first : Option (List ℕ)) (set : List ℕ) → first ≡ Some set → is_second_set first set ≡ false
first_set first set e = rw (e, bytes_self set) refl

same_set : (h : Held) (set : List ℕ) → h.standing.set ≡ Some set → with_set h set ≡ h
same_set h set e =
    let stays : set_after h.standing.set (Some set) ≡ h.standing.set = ap (λ first. set_after first (Some set)) e ∙ sym e in
    ap (λ (first : Option (List ℕ)). record h { standing = record h.standing { set = first } }) stays

-- ---- the line of a pair

name_fine : (d : Draft) (name : List ℕ) → IsName name → is_current d name ≡ true → first_reason (column_name_tests d name) ≡ None
unfolding column_name_tests
name_fine d name named current = rw (name_is name named, current) refl

abbrev given : Keyword → Held → ℕ → Dec → Held
given k h place value = with_held_entry k h (record { row = place; value = value })

pub pair_taken : (k : Keyword) (h : Held) (row word : List ℕ) (place : ℕ) (value : Dec) → MayGive k (program h) row place → dec_of word ≡ Some value
    → Takes (pairs_tests k (program h) (row ∷ word ∷ [])) (with_held_pairs k h (row ∷ word ∷ [])) (Ok tt) (given k h place value)
pair_taken k h row word place value may says =
    one_pair k h (row ∷ word ∷ []) (Ok tt) (given k h place value) refl (may.fine word value says, ap (if_held_entry k h) (sym (may.entry word value says)))

entry_taken : (h : Held) (name row word : List ℕ) (place : ℕ) (value : Dec) → IsName name → is_current h.standing.draft name ≡ true → MayGive Columns (program h) row place → dec_of word ≡ Some value
    → Takes (column_tests h.standing.draft (name ∷ row ∷ word ∷ [])) (with_held_column_line h (name ∷ row ∷ word ∷ [])) (Ok tt) (given Columns h place value)
unfolding column_tests
entry_taken h name row word place value named current may says =
    let ws : List (List ℕ) = name ∷ row ∷ word ∷ [] in
    let new = given Columns h place value in
    let same : h ≡ with_held_column h name = rw current refl in
    let entries : Takes (entry_line_tests h.standing.draft ws) (with_held_entries h ws) (Ok tt) new =
    entries_taken h h ws (row ∷ word ∷ []) name (Ok tt) new refl refl refl (name_fine h.standing.draft name named current, same) (pair_taken Columns h row word place value may says) in
    rw may.other entries

side_taken : (k : Keyword) (h : Held) (set row word : List ℕ) (place : ℕ) (value : Dec) → IsName set → h.standing.set ≡ Some set → MayGive k (program h) row place → dec_of word ≡ Some value
    → Takes (side_tests k h.standing (set ∷ row ∷ word ∷ [])) (with_held_sides k h (set ∷ row ∷ word ∷ [])) (Ok tt) (given k h place value)
side_taken k h set row word place value named held may says =
    let ps : List (List ℕ) = row ∷ word ∷ [] in
    let ts : Tests = pairs_tests k (program h) ps in
    let new = given k h place value in
    let fine : first_reason (set_tests h.standing.set set) ≡ None = rw (good_set set named, first_set h.standing.set set held) refl in
    takes_after (set_tests h.standing.set set) ts (with_held_sides k h (set ∷ ps)) new (Ok tt) fine
    (takes_as ts ts (with_held_pairs k h ps) (with_held_sides k h (set ∷ ps)) (Ok tt) new refl
    (ap (λ g. with_held_pairs k g ps) (sym (same_set h set held))) (pair_taken k h row word place value may says))

pair_says : (k : Keyword) (h : Held) (head row word : List ℕ) (place : ℕ) (value : Dec) → HasPairs k → IsName head → IsHeadWord k h head → MayGive k (program h) row place → dec_of word ≡ Some value
    → Takes (data_tests_in h.standing (head ∷ row ∷ word ∷ []) (Some k)) (held_after k h (head ∷ row ∷ word ∷ [])) (Ok tt) (given k h place value)
pair_says Columns h head row word place value pairs named is may says = entry_taken h head row word place value named is may says
pair_says Rhs h head row word place value pairs named is may says = side_taken Rhs h head row word place value named is may says
pair_says Ranges h head row word place value pairs named is may says = side_taken Ranges h head row word place value named is may says
pair_says k h head row word place value pairs named is may says = absurd pairs

pub next_is_pair : (k : Keyword) (h : Held) (text line behind rest : List ℕ) (row : ℕ) (value : Dec) → MayPair k h
    → text ≡ 32 ∷ line → IsAfterHead k h line behind → IsRowPair h.rows behind row value rest → IsFreeRow k h row
    → IsNext k h (given k h row value) text rest
next_is_pair k h text line behind rest row value may first o p free =
    let n = p.pair.of_number in
    let give = may_give k h p.name row may p.at free p.other in
    let t = pair_says k h o.name p.name n.word row value may.pairs o.is_name o.head give n.says in
    record {
      words = o.name ∷ p.name ∷ n.word ∷ [];
      some = omega arith;
      few = omega arith;
      line = record {
        parts = first ∙ ap (λ bs. 32 ∷ bs) (o.parts
            ∙ ap (λ bs. o.name ++ 32 ∷ bs) (p.pair.parts ∙ ap (λ bs. p.name ++ 32 ∷ bs) n.parts));
        each =
            (o.is_name, (p.pair.is_name, (n.is_word, tt)));
      };
      current = may.current;
      none = t.0;
      is = t.1;
    }

pub pair_can : (k : Keyword) (h : Held) (behind rest : List ℕ) (row : ℕ) (value : Dec) → MayPair k h → IsRowPair h.rows behind row value rest → IsFreeRow k h row → CanGive k (program h) row
pair_can k h behind rest row value may p free = (may_give k h p.name row may p.at free p.other).can

pub pair_may : (k : Keyword) (h new : Held) (row : ℕ) (value : Dec) → MayPair k h → CanGive k (program h) row → new ≡ given k h row value → IsKept new
pair_may k h new row value may can is = (entry_may k h new (record { row = row; value = value }) may can is).kept

-- ---- the line of a bound

pub with_number : (kind : BoundKind) (text name : List ℕ) (value : Dec) (rest : List ℕ) → needs_number kind ≡ true → IsPairText text name value rest → IsBoundText kind text name value rest
with_number kind text name value rest needs p =
    let n = p.of_number in
    record { words = n.word ∷ []; parts = p.parts ∙ ap (λ bs. name ++ 32 ∷ bs) n.parts; is_name = p.is_name; each = (n.is_word, tt); says = (needs, n.says) }

-- nothing is wrong with the words of a record, and what they say
record SaysRecord (h : Held) (ws : List (List ℕ)) (kind : BoundKind) (j : ℕ) (d : Dec) : Type 0 where
  pub none : first_reason (bound_tests h.standing ws) ≡ None
  pub is : with_bound (with_set h (word_at ws 1)) (record { kind = kind; column = j; value = d }) ≡ with_held_bound_line h ws
  pub value : bound_value kind ws ≡ Some d
  pub few : length ws ≤ 12

record_says : (h : Held) (kind : BoundKind) (kw set name : List ℕ) (more : List (List ℕ)) (j : ℕ) (d : Dec)
    → bound_kind_of kw ≡ Some kind → is_bad_set set ≡ false → is_second_set h.standing.set set ≡ false
    → SaysBound kind more d → place_of (column_names (program h)) name ≡ Some j
    → sets_again (program h).bounds kind j ≡ false → SaysRecord h (kw ∷ set ∷ name ∷ more) kind j d
unfolding bound_tests bound_in
record_says h kind kw set name [] j d is good first says place free =
    record { none = rw (is, says.0, good, first, place, free) refl; is = rw (is, says.0, place, says.1) refl; value = rw says.0 says.1; few = omega arith }
record_says h kind kw set name (word ∷ []) j d is good first says place free =
    record { none = rw (is, says.0, good, first, place, says.1, free) refl; is = rw (is, says.0, place, says.1) refl; value = rw says.0 says.1; few = omega arith }
record_says h kind kw set name (word ∷ other ∷ more) j d is good first says place free = absurd says

module _ (h : Held) (kind : BoundKind) (text behind rest left : List ℕ) (j : ℕ) (d : Dec) (kept : IsKept h) (p : IsColumnBound h.columns kind rest j d left) where
  place : place_of (column_names (program h)) p.name ≡ Some j
  place = ap (λ (ns : List (List ℕ)). place_of ns p.name) (sym kept.columns) ∙ p.at

  pub bound_there : j < length (program h).columns
  bound_there =
      let lt : j < length h.columns = (place_some h.columns p.name j p.at).within in
      omega (arith, lt, ap (length {A = List ℕ}) kept.columns, length-map (program h).columns (λ (c : Column Dec). c.name))

  module _ (kt : IsKindText text kind behind) (st : IsAfterHead Bounds h behind rest) (free : sets_again (program h).bounds kind j ≡ false) where
    abbrev record_words : List (List ℕ)
    record_words = kt.word ∷ st.name ∷ p.name ∷ p.bound.words

    said : SaysRecord h record_words kind j d
    said = record_says h kind kt.word st.name p.name p.bound.words j d kt.says (good_set st.name st.is_name) (first_set h.standing.set st.name st.head) p.bound.says place free

    pub next_is_bound : last_of h.standing.begun ≡ Some Bounds → IsNext Bounds h (with_bound h (record { kind = kind; column = j; value = d })) text left
    next_is_bound last =
        record {
          words = record_words;
          some = omega arith;
          few = said.few;
          line = record {
            parts = kt.parts ∙ ap (λ bs. 32 ∷ kt.word ++ 32 ∷ bs)
                (st.parts ∙ ap (λ bs. st.name ++ 32 ∷ bs) p.bound.parts);
            each =
                (kt.is_word, (st.is_name, (p.bound.is_name, p.bound.each)));
          };
          current = last;
          none = said.none;
          is = ap (λ g. with_bound g (record { kind = kind; column = j; value = d })) (sym (same_set h st.name st.head)) ∙ said.is;
        }

    pub bound_can : CanAddBound (program h) kind j d
    bound_can = can_add_bound (program h) kind record_words p.name j d place said.value free

-- ---- lines after one another

pub none_taken : (h new : Held) (piece : List ℕ) → new.standing ≡ h.standing → TakesLines h piece (record { len = 0; lines = 0 }) new
none_taken h new piece same = record { lines = []; is = record { within = omega arith; text = refl; each = tt; count = refl }; goes = same }

goes_joined : (s m t : Standing) (xs ys : List (List ℕ)) → GoesOn s xs m → GoesOn m ys t → GoesOn s (xs ++ ys) t
goes_joined s m t [] ys g k = subst (λ x. GoesOn x ys t) g k
goes_joined s m t (x ∷ xs) ys g k = (g.0, goes_joined (after s x) m t xs ys g.1 k)

pub goes_on : (old mid new : Held) (piece rest : List ℕ) (f g : Front) → TakesLines old piece f mid
    → rest ≡ drop f.len piece → TakesLines mid rest g new → TakesLines old piece
    (record { len = f.len + g.len; lines = f.lines + g.lines }) new
goes_on old mid new piece rest f g h is k = record {
  lines = h.lines ++ k.lines;
  is = front_joined piece f g h.lines k.lines h.is (subst (λ bs. IsFront bs g k.lines) is k.is);
  goes = goes_joined old.standing mid.standing new.standing h.lines k.lines h.goes k.goes;
}

goes_standing : (before lines : List (List ℕ)) (t : Standing) → GoesOn (standing before) lines t
    → (t ≡ standing (before ++ lines)) × (IsClean mps_rules before Open → IsClean mps_rules (before ++ lines) Open)
goes_standing before [] t g = (g ∙ ap standing (sym (append-nil before)), λ c. subst (λ ls. IsClean mps_rules ls Open) (sym (append-nil before)) c)
goes_standing before (line ∷ lines) t g =
    let more = goes_standing (before ++ line ∷ []) lines t (subst (λ s. GoesOn s lines t) (sym (standing-more before line)) g.1) in
    let whole : (before ++ line ∷ []) ++ lines ≡ before ++ line ∷ lines = append_assoc before (line ∷ []) lines in
    (more.0 ∙ ap standing whole, λ c. subst (λ ls. IsClean mps_rules ls Open) whole (more.1 (clean_more mps_rules before line c g.0)))

pub front_taken : (old new : Held) (piece : List ℕ) (number : ℕ) (front : Front) → TakesLines old piece front new
    → TakesFront mps_rules (λ lines. old.standing ≡ standing lines) (λ lines. new.standing ≡ standing lines) piece number front
front_taken old new piece number front h = record {
  lines = h.lines;
  is = h.is;
  taken = λ before e held. (goes_standing before h.lines new.standing (subst (λ s. GoesOn s h.lines new.standing) held h.goes)).0;
  clean = λ before e held clean. (goes_standing before h.lines new.standing (subst (λ s. GoesOn s h.lines new.standing) held h.goes)).1 clean;
}
