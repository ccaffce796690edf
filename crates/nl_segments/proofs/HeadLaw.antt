-- What is held before any row and with a head more, which segments came, the name in a head, and what is wrong with a head by what is held.
use Rattle.std.proofs.Common.{◌≡◌, ◌∙◌, ℕ, zero, suc, ◌*◌, ◌≤◌, true, false, List, [], ◌∷◌, length, replicate, refl}
use Rattle.std.proofs.Common.{sym, ap, subst, arith, Option, Some, None, nat_lt, ◌==◌, Bool, ◌&&◌, ◌||◌, ◌++◌, ap₂, ◌<◌}
use Rattle.std.proofs.Common.{get_or}
use Rattle.std.specs.Prelude.{ℤ, not, if◌then◌else◌, ◌+◌, nat_le, option_map, option_and_then, IfSome, All, is_some, Ok}
use Rattle.std.proofs.lemmas.List.{length-replicate, get_or-replicate, length-append, length-set}
use Rattle.text_base.specs.Judged.{first_reason}
use Rattle.nl_model.specs.declared.header_counts.Counts.{Counts}
use Rattle.nl_model.specs.Draft.{Draft, empty_draft}
use Rattle.nl_header.specs.Head.{options_in, counts_in}
use Rattle.nl_lines.specs.declared.awaited.Awaited.{Awaited}
use Rattle.nl_lines.specs.declared.awaited.Awaited.TheVariants.{Nothing}
use Rattle.nl_lines.specs.declared.fault.NlReason.TheVariants.{ExtraLine, ShortSegment}
use Rattle.nl_lines.specs.declared.head.Head.{Head}
use Rattle.nl_lines.specs.Heads.{is_head, head_of, name_in, numbered_head, of_two_numbers, counted_head, bare_head}
use Rattle.nl_lines.specs.Heads.{definition_head, of_columns, suffix_head, with_sense, letter_of, own_number, number_at}
use Rattle.nl_lines.specs.Heads.{is_in_range, of_kind}
use Rattle.nl_lines.specs.Pieces.{Piece, last_piece, is_nothing, awaited_of, is_complete, has_tree, line_count, pair_count, with_row}
use Rattle.nl_lines.specs.Saying.{empty_lines, draft_of, place_lines}
use Rattle.nl_lines.specs.SeenSegments.{letters, mark_of, most_indices, no_segments, Segments, with_segment, IsSeenIn}
use Rattle.nl_lines.proofs.SeenLemmas.{mark_few, marked}
use Rattle.nl_lines.specs.Tests.{index_limit, awaited_tests, line_tests, row_tests, is_suffix, is_same_head}
use Rattle.nl_lines.specs.Tests.{is_same_piece, head_form_tests, is_linear, is_repeated, has_index, formed_head_tests}
use Rattle.nl_lines.specs.Tests.{head_tests}
use Rattle.nl_segments.specs.Grammar.{Standing, counts_of, said}
use Rattle.nl_model.specs.UseCounts.{use_count}
use Rattle.nl_segments.specs.Held.{Body, IsHeld, IsHeaderOf, AreSeen, AreSound, only_header, words_refusal, IsSoundPiece, IsOpen, IsLast, IsNodeLeft, HoldsSome, IsRowOf, TakesRow}
use Rattle.nl_segments.specs.InsideTaking.{body_awaits}
use Rattle.nl_segments.proofs.EndLemmas.{last_awaits}
use Rattle.std.specs.List.{list_any}
use Rattle.std.proofs.lemmas.List.Folds.{list_any-append, list_any_at}
use Rattle.text_base.specs.Names.{IsName, is_name}
use Rattle.nl_lines.specs.declared.head.Head.TheVariants.{Body as BodyHead, Objective, Definition, DualGuesses, PrimalGuesses, Sides, Bounds, ColumnCounts, Terms, Slopes, Suffix}
use Rattle.text_base.specs.Words.{word_at}
use Rattle.nl_segments.proofs.HeadBegun.{new_piece, no_pairs, whole_at_once, draft_begun, terms_begun, nodes_begun, pairs_begun, count_begun, columns_begun, always}
use Rattle.std.proofs.lemmas.Bool.{and_parts, not-false, leb-false, cond_both, false_from_ne_true, both_ways}
use Rattle.text_base.proofs.FirstReasons.{none_head, none_first, reason_before, reason_after, none_each, same_reasons}
use Rattle.text_base.proofs.NameTests.{tested_name}
use Rattle.nl_model.specs.declared.suffix.Suffix.{Suffix as SuffixValue}
use Rattle.nl_lines.specs.declared.fault.NlReason.{NlReason}
use Rattle.nl_segments.specs.InsideHeadSteps.{has_come, held_head_tests, formed_tests, new_head_tests, has_come_suffix, begun_current, begun_name, begun_count, begun_draft, with_begun_head}
use Rattle.std.proofs.lemmas.List.Elements.{All-push}
use Rattle.std.proofs.lemmas.List.Quantifiers.{all_pairs_push}
use Rattle.nl_model.specs.Rules.{has_suffix}
use Rattle.nl_lines.specs.Rows.{NumberedRow, row_words}
use Rattle.nl_segments.specs.Current.{Current, new_current}
use Rattle.nl_segments.specs.InsidePlaceSteps.{with_begun, HasOwner}
use Rattle.nl_segments.specs.Steps.{after_body_row}
use Rattle.nl_lines.specs.PairTests.{IsMarked}
use Rattle.nl_lines.proofs.PieceLemmas.{split, last-append, lines-append, take_none}
use Rattle.nl_lines.proofs.DraftLemmas.{draft_counts}
use Rattle.nl_segments.proofs.PairLines.{owner_there, place_begun, front, front-append}
use Rattle.nl_segments.proofs.CurrentLemmas.{begun}
use Rattle.nl_lines.proofs.HeadSuffixes.{suffixes_come}

-- ---- no rows

pub no_piece_sound : (c : Counts) → AreSound c []
no_piece_sound c =
    record {
      each = λ k d lt. absurd (omega (arith, lt));
      apart = λ i j d lt within. absurd (omega (arith, within));
      complete = λ before p e. absurd (omega (arith, ap (length {A = Piece}) e, length-append before (p ∷ [])));
    }

seen_none : (c : Counts) → AreSeen c (no_segments c) []
seen_none c head range =
    let few = mark_few c head range in (
      rw (length-replicate (letters * most_indices c) false) few,
      λ plain. get_or-replicate (letters * most_indices c) (mark_of head) false false few,
    )

no_use : (n j : ℕ) → use_count (replicate n []) j ≡ 0
no_use zero j = refl
no_use (suc n) j = no_use n j

-- what was made for a header
pub record IsMade (o : List ℤ) (c : Counts) (b : Body) : Type 0 where
  pub draft : b.draft ≡ empty_draft o c
  pub current : b.current ≡ None
  pub room : (head : Head) → index_limit c head ≤ length b.marks
  pub seen : b.seen ≡ no_segments c
  pub nodes : b.nodes ≡ 0
  pub linear : b.linear ≡ 0
  pub values : b.values ≡ 0
  pub suffixes : b.suffixes ≡ 0
  pub columns : b.columns ≡ []
  pub uses : b.uses ≡ replicate c.n_var 0
  pub places : b.places ≡ empty_lines c

pub start_held : (rows : List (List (List ℕ))) (o : List ℤ) (c : Counts) (b : Body) → IsHeaderOf rows o c → IsMade o c b → IsHeld (only_header rows) b
unfolding draft_of place_lines last_piece
start_held rows o c b h made =
    let new : IsMade (options_in rows) (counts_in rows) b = subst (λ o. IsMade o (counts_in rows) b) (sym h.same_options) (subst (λ c. IsMade o c b) (sym h.same_counts) made) in
    let c = counts_in rows in
    record {
      body = h.whole;
      sound = no_piece_sound c;
      draft = new.draft;
      counts = ap (λ (d : Draft). d.counts) new.draft;
      last = rw new.current tt;
      marks = tt;
      room = λ head r. new.room head;
      seen = rw new.seen (seen_none c);
      nodes = new.nodes;
      linear = new.linear;
      values = new.values;
      suffixes = new.suffixes;
      columns = new.columns;
      uses = λ j lt. rw (new.uses, ap (λ (d : Draft). d.terms) new.draft) (get_or-replicate c.n_var j 0 0 lt ∙ sym (no_use c.n_con j));
      users = rw new.uses (length-replicate c.n_var 0);
      places = new.places;
      few = rw new.current tt;
      few_terms = rw new.linear (omega arith);
    }

-- ---- the row that is awaited

only_nothing : (a : Awaited) → is_nothing a ≡ true → a ≡ Nothing
only_nothing Nothing e = refl
only_nothing kind e = absurd cc

pub extra_line : (s : Standing) (b : Body) (words : List (List ℕ)) → is_head words ≡ false → body_awaits b.current ≡ Nothing → IsHeld s b → words_refusal s words ≡ Some ExtraLine
unfolding row_tests
extra_line s b words plain e h = rw plain (by (last_piece s.pieces))
  where
    by : (o : Option Piece) → first_reason (line_tests (counts_of s) (said s) s.pieces words o) ≡ Some ExtraLine
    by None = refl
    by (Some p) = ap (λ a. first_reason (awaited_tests (counts_of s) (said s) s.pieces p words a))
        (only_nothing (awaited_of (counts_of s) s.pieces) (last_awaits (counts_of s) b.draft b.name s.pieces
        (last_piece s.pieces) b.current refl h.last ∙ ap is_nothing e))

-- ---- marks

same_name : (head g : Head) (name : List ℕ) (line : ℕ) → is_suffix head ≡ false → list_any (is_same_piece head []) (new_piece g name line ∷ []) ≡ is_same_head head g
same_name head g name line f = by (is_same_head head g) refl
  where
    by : (t : Bool) → is_same_head head g ≡ t → list_any (is_same_piece head []) (new_piece g name line ∷ []) ≡ is_same_head head g
    by true e = rw (e, f) refl
    by false e = rw e refl

pub seen_begun : (c : Counts) (s : Segments) (pieces : List Piece) (g : Head) (name : List ℕ) (line : ℕ) → AreSeen c s pieces → AreSeen c (with_segment s g) (pieces ++ new_piece g name line ∷ [])
seen_begun c s pieces g name line seen head range =
    let before = seen head range in (
      rw (length-set s (mark_of g) true) before.0,
      λ plain. marked s g head before.0
          ∙ ap₂ (λ a b. a || b) (before.1 plain) (sym (same_name head g name line plain))
          ∙ sym (list_any-append (is_same_piece head []) pieces (new_piece g name line ∷ [])),
    )

-- no name is asked but that of a suffix
pub any_name : (head : Head) (name : List ℕ) (pieces : List Piece) → is_suffix head ≡ false → list_any (is_same_piece head []) pieces ≡ list_any (is_same_piece head name) pieces
any_name head name [] f = refl
any_name head name (p ∷ pieces) f = rw f (ap (λ b. (is_same_head head p.head && true) || b) (any_name head name pieces f))

-- ---- names

-- no head of a suffix
abbrev is_plain : Option Head → Bool
is_plain None = true
is_plain (Some h) = not (is_suffix h)

plain_if : (b : Bool) (o p : Option Head) → is_plain o ≡ true → is_plain p ≡ true → is_plain (if b then o else p) ≡ true
plain_if true o p f g = f
plain_if false o p f g = g

plain_map : (make : ℕ → Head) (o : Option ℕ) → ((n : ℕ) → is_plain (Some (make n)) ≡ true) → is_plain (option_map make o) ≡ true
plain_map make None f = refl
plain_map make (Some n) f = f n

plain_then : (make : ℕ → Option Head) (o : Option ℕ) → ((n : ℕ) → is_plain (make n) ≡ true) → is_plain (option_and_then make o) ≡ true
plain_then make None f = refl
plain_then make (Some n) f = f n

suffix_name : (words : List (List ℕ)) (head : Head) → suffix_head words ≡ Some head → is_name (name_in words) ≡ true
suffix_name words head e =
    cond_both (length words == 3 && is_name (name_in words)) (of_two_numbers of_kind words) None
    (λ o. o ≡ Some head → is_name (name_in words) ≡ true) (λ f is. (and_parts (length words == 3) (is_name (name_in words)) f).1) (λ f is. absurd cc) e

named_by : (c : Counts) (words : List (List ℕ)) (head : Head) (b : Bool) → (letter_of words == 83) ≡ b → (if b then suffix_head words else None) ≡ Some head → is_name (name_in words) ≡ true
named_by c words head true f e = suffix_name words head e
named_by c words head false f e = absurd cc

-- ---- the name of a head

other_letter : (b : Bool) (o p : Option Head) (head : Head) → is_plain o ≡ true → is_suffix head ≡ true → (if b then o else p) ≡ Some head → p ≡ Some head
other_letter true o p head f s e = absurd (let wrong : false ≡ true = sym (ap is_plain e ∙ ap not s) ∙ f in cc)
other_letter false o p head f s e = e

plain_numbered : (make : ℕ → Option Head) (words : List (List ℕ)) → ((n : ℕ) → is_plain (make n) ≡ true) → is_plain (numbered_head make words) ≡ true
plain_numbered make words f = plain_if (length words == 1) (option_and_then make (own_number words)) None (plain_then make (own_number words) f) refl

plain_two : (make : ℕ → ℕ → Option Head) (words : List (List ℕ)) → ((i n : ℕ) → is_plain (make i n) ≡ true) → is_plain (of_two_numbers make words) ≡ true
plain_two make words f = plain_then (λ i. option_and_then (make i) (number_at words 1)) (own_number words) (λ i. plain_then (make i) (number_at words 1) (f i))

plain_counted : (make : ℕ → ℕ → Option Head) (words : List (List ℕ)) → ((i n : ℕ) → is_plain (make i n) ≡ true) → is_plain (counted_head make words) ≡ true
plain_counted make words f = plain_if (length words == 2) (of_two_numbers make words) None (plain_two make words f) refl

plain_sense : (words : List (List ℕ)) → is_plain (counted_head with_sense words) ≡ true
plain_sense words = plain_counted with_sense words (λ k n. plain_if (nat_le n 1) (Some (Objective k (n == 1))) None refl refl)

plain_definition : (words : List (List ℕ)) → is_plain (definition_head words) ≡ true
plain_definition words =
    plain_if (length words == 3) _ None
    (plain_two (λ i j. option_map (Definition i j) (number_at words 2)) words (λ i j. plain_map (Definition i j) (number_at words 2) (λ n. refl))) refl

plain_column : (c : Counts) (words : List (List ℕ)) → is_plain (numbered_head (of_columns c) words) ≡ true
plain_column c words = plain_numbered (of_columns c) words (λ n. plain_if (n + 1 == c.n_var) (Some (ColumnCounts n)) None refl refl)

plain_bare : (head : Head) (words : List (List ℕ)) → is_plain (Some head) ≡ true → is_plain (bare_head head words) ≡ true
plain_bare head words f = plain_if (length words == 1 && (length (word_at words 0) == 1)) (Some head) None f refl

pub suffix_named : (c : Counts) (words : List (List ℕ)) (head : Head) → head_of c words ≡ Some head → is_suffix head ≡ true → IsName (name_in words)
unfolding head_of
suffix_named c words head e s =
    let l = letter_of words in
    let e1 = other_letter (l == 67) _ _ head (plain_numbered (λ i. Some (BodyHead i)) words (λ n. refl)) s e in
    let e2 = other_letter (l == 79) _ _ head (plain_sense words) s e1 in
    let e3 = other_letter (l == 86) _ _ head (plain_definition words) s e2 in
    let e4 = other_letter (l == 100) _ _ head (plain_numbered (λ n. Some (DualGuesses n)) words (λ n. refl)) s e3 in
    let e5 = other_letter (l == 120) _ _ head (plain_numbered (λ n. Some (PrimalGuesses n)) words (λ n. refl)) s e4 in
    let e6 = other_letter (l == 114) _ _ head (plain_bare Sides words refl) s e5 in
    let e7 = other_letter (l == 98) _ _ head (plain_bare Bounds words refl) s e6 in
    let e8 = other_letter (l == 107) _ _ head (plain_column c words) s e7 in
    let e9 = other_letter (l == 74) _ _ head (plain_counted (λ i n. Some (Terms i n)) words (λ i n. refl)) s e8 in
    let e10 = other_letter (l == 71) _ _ head (plain_counted (λ k n. Some (Slopes k n)) words (λ i n. refl)) s e9 in
    tested_name (name_in words) (named_by c words head (l == 83) refl e10)

-- ---- the head of words

pub form_fault : (c : Counts) (is_open : Bool) (seen : Segments) (suffixes : List SuffixValue) (count : ℕ) (words : List (List ℕ)) (r : NlReason)
    → is_open ≡ false → first_reason (head_form_tests c words) ≡ Some r → first_reason (new_head_tests c is_open seen suffixes count words) ≡ Some r
form_fault c is_open seen suffixes count words r f e = rw f (reason_before (head_form_tests c words) (formed_tests c seen suffixes count (name_in words) (head_of c words)) r e)

pub form_fine : (c : Counts) (is_open : Bool) (seen : Segments) (suffixes : List SuffixValue) (count : ℕ) (words : List (List ℕ)) (head : Head)
    → is_open ≡ false → first_reason (head_form_tests c words) ≡ None → head_of c words ≡ Some head
    → first_reason (new_head_tests c is_open seen suffixes count words) ≡ first_reason (held_head_tests c seen suffixes count (name_in words) head)
form_fine c is_open seen suffixes count words head f e is =
    rw f (reason_after (head_form_tests c words) (formed_tests c seen suffixes count (name_in words) (head_of c words))
    e ∙ ap (λ o. first_reason (formed_tests c seen suffixes count (name_in words) o)) is)

-- a head that nothing is wrong with
pub record IsNew (c : Counts) (is_open : Bool) (seen : Segments) (suffixes : List SuffixValue) (count : ℕ) (name : List ℕ) (head : Head) : Type 0 where
  pub closed : is_open ≡ false
  pub range : is_in_range c head ≡ true
  pub fresh : has_come seen suffixes head name ≡ false
  pub few : is_suffix head ≡ true → count < 1024

pub is_new : (c : Counts) (is_open : Bool) (seen : Segments) (suffixes : List SuffixValue) (count : ℕ) (words : List (List ℕ)) (head : Head)
    → head_of c words ≡ Some head → first_reason (new_head_tests c is_open seen suffixes count words) ≡ None → IsNew c is_open seen suffixes count (name_in words) head
is_new c is_open seen suffixes count words head is e =
    let first = none_head is_open ShortSegment (head_form_tests c words ++ formed_tests c seen suffixes count (name_in words) (head_of c words)) e in
    let fine = none_first (head_form_tests c words) (formed_tests c seen suffixes count (name_in words) (head_of c words)) first.1 in
    let tests : first_reason (held_head_tests c seen suffixes count (name_in words) head) ≡ None = sym (form_fine c is_open seen suffixes count words head first.0 fine is) ∙ e in
    let none = none_each (held_head_tests c seen suffixes count (name_in words) head) tests in
    record {
      closed = first.0;
      range = not-false (is_in_range c head) none.0;
      fresh = none.1.1.0;
      few = λ is. leb-false 1024 count (rw is at none.1.1.1.0);
    }

-- ---- no piece is open

pub no_piece : (pieces : List Piece) → last_piece pieces ≡ None → pieces ≡ []
unfolding last_piece
no_piece [] e = refl
no_piece (p ∷ []) e = absurd cc
no_piece (p ∷ q ∷ pieces) e = absurd (let wrong = ap (λ ps. length ps) (no_piece (q ∷ pieces) e) in omega (arith, wrong))

-- nothing is awaited: each piece is complete
pub all_complete : (c : Counts) (pieces : List Piece) → AreSound c pieces → is_nothing (awaited_of c pieces) ≡ true → All (λ q. is_complete c q ≡ true) pieces
all_complete c pieces h e = by (last_piece pieces) refl
  where
    by : (o : Option Piece) → last_piece pieces ≡ o → All (λ q. is_complete c q ≡ true) pieces
    by None q = subst (All (λ q. is_complete c q ≡ true)) (sym (no_piece pieces q)) (λ k d lt. absurd (omega (arith, lt)))
    by (Some p) q =
        let parts = split pieces p q in
        subst (All (λ q. is_complete c q ≡ true)) (sym parts.whole)
        (All-push (λ q. is_complete c q ≡ true) parts.before p (h.complete parts.before p parts.whole) (rw q at e))

closed_complete : (s : Standing) (b : Body) → IsHeld s b → b.current ≡ None → All (λ q. is_complete (counts_of s) q ≡ true) s.pieces
closed_complete s b h closed =
    all_complete (counts_of s) s.pieces h.sound
    (last_awaits (counts_of s) b.draft b.name s.pieces (last_piece s.pieces) b.current refl h.last ∙ ap (λ o. is_nothing (body_awaits o)) closed)

-- what came is what is repeated
pub come_repeated : (s : Standing) (b : Body) (head : Head) (name : List ℕ) → IsHeld s b → b.current ≡ None → is_in_range (counts_of s) head ≡ true
    → has_come b.seen b.draft.suffixes head name ≡ is_repeated s.pieces head name
come_repeated s b head name h closed range = by (is_suffix head) refl
  where
    suffix : (g : Head) → is_suffix g ≡ true → has_come b.seen b.draft.suffixes g name ≡ is_repeated s.pieces g name
    suffix (Suffix kind n) e = ap (λ (d : Draft). has_suffix d.suffixes kind name) h.draft ∙ suffixes_come (options_in s.header) (counts_of s) kind n name s.pieces (closed_complete s b h closed)
    suffix head e = absurd cc

    by : (t : Bool) → is_suffix head ≡ t → has_come b.seen b.draft.suffixes head name ≡ is_repeated s.pieces head name
    by true e = suffix head e
    by false e = rw e ((h.seen head range).1 e ∙ any_name head name s.pieces e)

-- ---- what is wrong

same_formed : (s : Standing) (b : Body) (o : Option Head) (name : List ℕ) → IsHeld s b → b.current ≡ None
    → first_reason (formed_head_tests (counts_of s) s.pieces name o) ≡ first_reason (formed_tests (counts_of s) b.seen b.draft.suffixes b.suffixes name o)
same_formed s b None name h closed = refl
same_formed s b (Some head) name h closed = by (is_in_range (counts_of s) head) refl
  where
    by : (t : Bool) → is_in_range (counts_of s) head ≡ t
        → first_reason (formed_head_tests (counts_of s) s.pieces name (Some head)) ≡ first_reason (held_head_tests (counts_of s) b.seen b.draft.suffixes b.suffixes name head)
    by false e = rw e refl
    by true e = rw (come_repeated s b head name h closed e, h.suffixes) refl

-- a piece is open where one is held
awaits_by : (c : Counts) (pieces : List Piece) (d : Draft) (name : Option (List ℕ)) (l : Option Piece)
    (o : Option Current) → last_piece pieces ≡ l → IsLast c d name l o
    → not (is_nothing (awaited_of c pieces)) ≡ is_some o
awaits_by c pieces d name None None e h = rw e refl
awaits_by c pieces d name None (Some cur) e h = absurd h
awaits_by c pieces d name (Some p) None e h = rw e (ap not h)
awaits_by c pieces d name (Some p) (Some cur) e h = rw e (ap not h.incomplete)

head_reasons : (s : Standing) (words : List (List ℕ)) → is_head words ≡ true
    → words_refusal s words ≡ first_reason ((not (is_nothing (awaited_of (counts_of s) s.pieces)), ShortSegment)
    ∷ (head_form_tests (counts_of s) words ++ formed_head_tests (counts_of s) s.pieces (name_in words)
    (head_of (counts_of s) words)))
unfolding row_tests head_tests
head_reasons s words first = rw first refl

same_refusal : (s : Standing) (b : Body) (words : List (List ℕ)) → IsHeld s b → is_head words ≡ true
    → words_refusal s words ≡ first_reason (new_head_tests b.draft.counts (is_some b.current) b.seen b.draft.suffixes b.suffixes words)
same_refusal s b words h first =
    head_reasons s words first
    ∙ rw (awaits_by (counts_of s) s.pieces b.draft b.name (last_piece s.pieces) b.current refl h.last, h.counts) (by b.current refl)
  where
    by : (o : Option Current) → b.current ≡ o
        → first_reason ((is_some b.current, ShortSegment) ∷ (head_form_tests (counts_of s) words ++ formed_head_tests (counts_of s) s.pieces (name_in words) (head_of (counts_of s) words)))
        ≡ first_reason (new_head_tests (counts_of s) (is_some b.current) b.seen b.draft.suffixes b.suffixes words)
    by None e =
        rw e (same_reasons (head_form_tests (counts_of s) words) (head_form_tests (counts_of s) words) (formed_head_tests (counts_of s) s.pieces (name_in words) (head_of (counts_of s) words))
        (formed_tests (counts_of s) b.seen b.draft.suffixes b.suffixes (name_in words) (head_of (counts_of s) words))
        refl (λ none. same_formed s b (head_of (counts_of s) words) (name_in words) h e))
    by (Some cur) e = rw e refl

pub head_refused : (b : Body) (is_open : Bool) (words : List (List ℕ)) (r : Option NlReason)
    → is_open ≡ is_some b.current → is_head words ≡ true → first_reason
    (new_head_tests b.draft.counts is_open b.seen b.draft.suffixes b.suffixes words) ≡ r
    → (s : Standing) → IsHeld s b → words_refusal s words ≡ r
head_refused b is_open words r e first fault s h =
    same_refusal s b words h first ∙ ap (λ o. first_reason (new_head_tests b.draft.counts o b.seen b.draft.suffixes b.suffixes words)) (sym e) ∙ fault

-- ---- the pieces with a head more

none_of : (test : Piece → Bool) (pieces : List Piece) → list_any test pieces ≡ false → All (λ q. test q ≡ false) pieces
none_of test pieces e k d lt = false_from_ne_true (test (get_or pieces k d)) (λ s. let is = list_any_at test pieces k d lt s in both_ways (list_any test pieces) e is)

-- a piece without rows
sound_piece : (c : Counts) (head : Head) (name : List ℕ) (line : ℕ) → is_in_range c head ≡ true → IsSoundPiece c (new_piece head name line)
sound_piece c head name line range =
    let none = no_pairs head name line in
    record {
      range = range;
      below = rw none (λ k d lt. absurd (omega (arith, lt)));
      once = λ t. rw none (λ i j d lt within. absurd (omega (arith, within)));
      pairs = rw (none, take_none (pair_count head)) refl;
    }

pub sound_begun : (c : Counts) (pieces : List Piece) (head : Head) (name : List ℕ) (line : ℕ) → AreSound c pieces
    → All (λ q. is_complete c q ≡ true) pieces → is_in_range c head ≡ true → is_repeated pieces head name ≡ false
    → AreSound c (pieces ++ new_piece head name line ∷ [])
sound_begun c pieces head name line h whole range fresh = record {
  each = All-push (IsSoundPiece c) pieces (new_piece head name line) h.each (sound_piece c head name line range);
  apart = all_pairs_push (λ p q. is_same_piece q.head q.name p ≡ false) pieces (new_piece head name line) h.apart (none_of (is_same_piece head name) pieces fresh);
  complete = λ before p e. subst (λ ps. All (λ q. is_complete c q ≡ true) ps) (sym (front-append pieces (new_piece head name line)) ∙ ap front e ∙ front-append before p) whole;
}

-- ---- the last piece

opened : (c : Counts) (d : Draft) (head : Head) (name : List ℕ) (line : ℕ)
    → is_complete c (new_piece head name line) ≡ false → IsOpen c d (begun_name head name) (new_piece head name line)
    (new_current head line (line_count c head))
opened c d head name line e =
    record {
      incomplete = e;
      current = begun c head name line;
      pairs = λ t. sym (no_pairs head name line);
      known = λ k x lt. absurd (omega (arith, lt));
      named = λ t. ap (λ b. if b then Some name else None) t;
    }

last_begun : (c : Counts) (d : Draft) (pieces : List Piece) (head : Head) (name : List ℕ) (line : ℕ)
    → IsLast c d (begun_name head name) (last_piece (pieces ++ new_piece head name line ∷ [])) (begun_current c head line)
last_begun c d pieces head name line =
    rw (last-append pieces (new_piece head name line))
    (cond_both (has_tree head || nat_lt 0 (line_count c head)) (Some (new_current head line (line_count c head))) None (IsLast c d (begun_name head name) (Some (new_piece head name line)))
    (λ e. opened c d head name line (whole_at_once c head name line ∙ ap not e)) (λ e. whole_at_once c head name line ∙ ap not e))

marks_begun : (c : Counts) (n : ℕ) (pieces : List Piece) (head : Head) (name : List ℕ) (line : ℕ) → IfSome (last_piece (pieces ++ new_piece head name line ∷ [])) (IsMarked c (replicate n false))
marks_begun c n pieces head name line =
    rw (last-append pieces (new_piece head name line)) (λ t i lt. always n i false ∙ sym (ap (λ ts. has_index ts i) (no_pairs head name line)))

node_left : (c : Counts) (head : Head) (line n : ℕ) → IsNodeLeft (begun_current c head line) n
node_left c head line n = cond_both (has_tree head || nat_lt 0 (line_count c head)) (Some (new_current head line (line_count c head))) None (λ o. IsNodeLeft o n) (λ e. tt) (λ e. tt)

-- ---- all

abbrev with_new : Standing → Head → List ℕ → ℕ → Standing
with_new s head name line = record s { pieces = s.pieces ++ new_piece head name line ∷ [] }

held_begun : (s : Standing) (b : Body) (head : Head) (name : List ℕ) (line : ℕ) → IsHeld s b → b.current ≡ None → is_in_range (counts_of s) head ≡ true → is_repeated s.pieces head name ≡ false
    → IsHeld (with_new s head name line) (with_begun_head b head name line)
held_begun s b head name line h closed range fresh =
    let draft : begun_draft b.draft head name ≡ said (with_new s head name line) =
    ap (λ d. begun_draft d head name) h.draft ∙ sym (draft_begun (options_in s.header) (counts_of s) s.pieces head
    name line) in
    record {
      body = h.body;
      sound = sound_begun (counts_of s) s.pieces head name line h.sound (closed_complete s b h closed) range fresh;
      draft = draft;
      counts = ap (λ (d : Draft). d.counts) draft ∙ draft_counts (options_in s.header) (counts_of s) (s.pieces ++ new_piece head name line ∷ []);
      last = subst (λ c. IsLast (counts_of s) (begun_draft b.draft head name) (begun_name head name)
          (last_piece (s.pieces ++ new_piece head name line ∷ [])) (begun_current c head line)) (sym h.counts)
          (last_begun (counts_of s) (begun_draft b.draft head name) s.pieces head name line);
      marks = marks_begun (counts_of s) (length b.marks) s.pieces head name line;
      room = λ k within. subst (λ n. index_limit (counts_of s) k ≤ n) (sym (length-replicate (length b.marks) false)) (h.room k within);
      seen = seen_begun (counts_of s) b.seen s.pieces head name line h.seen;
      nodes = h.nodes ∙ nodes_begun (counts_of s) s.pieces head name line;
      linear = h.linear ∙ pairs_begun is_linear s.pieces head name line;
      values = h.values ∙ pairs_begun is_suffix s.pieces head name line;
      suffixes = ap (begun_count head) h.suffixes ∙ count_begun s.pieces head name line;
      columns = h.columns ∙ columns_begun s.pieces head name line;
      uses = λ j lt. h.uses j lt ∙ ap (λ rows. use_count rows j) (sym (terms_begun b.draft head name));
      users = h.users;
      places = ap (λ l. with_begun l line head) h.places
          ∙ sym (lines-append (counts_of s) s.pieces (new_piece head name line) ∙ place_begun (counts_of s) (place_lines (counts_of s) s.pieces) head name line);
      few = node_left b.draft.counts head line b.nodes;
      few_terms = h.few_terms;
    }

-- a row that is a head begins a piece
after_head : (s : Standing) (row : NumberedRow) (words : List (List ℕ)) (line : ℕ) (head : Head) → IsRowOf row words line → is_head words ≡ true → head_of (counts_of s) words ≡ Some head
    → after_body_row s row ≡ with_new s head (name_in words) line
after_head s row words line head is first e =
    let one : is_head (row_words row) ≡ true = ap is_head is.same_words ∙ first in
    let of : head_of (counts_of s) (row_words row) ≡ Some head = ap (head_of (counts_of s)) is.same_words ∙ e in
    let same : with_row (counts_of s) s.pieces row ≡ s.pieces ++ new_piece head (name_in (row_words row)) row.line ∷ [] = rw (one, of) refl in
    ap (λ ps. record s { pieces = ps }) (same ∙ ap₂ (λ ws n. s.pieces ++ new_piece head (name_in ws) n ∷ []) is.same_words is.same_line)

pub closed_by : (o : Option Current) → is_some o ≡ false → o ≡ None
closed_by None e = refl
closed_by (Some cur) e = absurd cc

-- ---- for the row of a head

-- a head that nothing is wrong with after what is held
abbrev pub IsNewOf : Body → List (List ℕ) → Head → Type 0
IsNewOf b words head = IsNew b.draft.counts (is_some b.current) b.seen b.draft.suffixes b.suffixes (name_in words) head

pub new_of : (b : Body) (is_open : Bool) (words : List (List ℕ)) (head : Head) → is_open ≡ is_some b.current → head_of b.draft.counts words ≡ Some head
    → first_reason (new_head_tests b.draft.counts is_open b.seen b.draft.suffixes b.suffixes words) ≡ None → IsNewOf b words head
new_of b is_open words head e is none =
    is_new b.draft.counts (is_some b.current) b.seen b.draft.suffixes b.suffixes words head is
    (ap (λ o. first_reason (new_head_tests b.draft.counts o b.seen b.draft.suffixes b.suffixes words)) (sym e) ∙ none)

pub marks_there : (b : Body) (head : Head) → HoldsSome b → is_in_range b.draft.counts head ≡ true → IsSeenIn b.seen head
marks_there b head h range = (h.1.seen head (ap (λ c. is_in_range c head) (sym h.1.counts) ∙ range)).0

pub place_there : (b : Body) (head : Head) → HoldsSome b → is_in_range b.draft.counts head ≡ true → HasOwner b.places head
place_there b head h range = rw h.1.places (owner_there (counts_of h.0) h.0.pieces head (ap (λ c. is_in_range c head) (sym h.1.counts) ∙ range))

pub fresh_suffix : (seen : Segments) (suffixes : List SuffixValue) (head : Head) (name : List ℕ) → has_come seen suffixes head name ≡ false → has_come_suffix suffixes head name ≡ false
fresh_suffix seen suffixes (Suffix kind n) name e = e
fresh_suffix seen suffixes head name e = refl

-- a head that nothing is wrong with is taken
pub head_step : (b new : Body) (is_open : Bool) (words : List (List ℕ)) (line : ℕ) (head : Head) → is_open ≡ is_some b.current → is_head words ≡ true → head_of b.draft.counts words ≡ Some head
    → first_reason (new_head_tests b.draft.counts is_open b.seen b.draft.suffixes b.suffixes words) ≡ None → new ≡ with_begun_head b head (name_in words) line → TakesRow b words line (Ok tt) new
head_step b new is_open words line head e first is none same s row of h =
    let wanted = new_of b is_open words head e is none in
    let closed = closed_by b.current wanted.closed in
    let range : is_in_range (counts_of s) head ≡ true = ap (λ c. is_in_range c head) (sym h.counts) ∙ wanted.range in
    let after = after_head s row words line head of first (ap (λ c. head_of c words) (sym h.counts) ∙ is) in (
      head_refused b is_open words None e first none s h,
      subst (IsHeld (after_body_row s row)) (sym same) (subst (λ t. IsHeld t (with_begun_head b head (name_in words) line)) (sym after)
          (held_begun s b head (name_in words) line h closed range (sym (come_repeated s b head (name_in words) h closed range) ∙ wanted.fresh))),
    )
