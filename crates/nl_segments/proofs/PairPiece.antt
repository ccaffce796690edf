-- The last piece with a pair more: its pairs, its marks, what is held of it, and the file and the lines with it; and what is there for a pair that was judged.
use Rattle.std.proofs.Common.{◌≡◌, ◌≢◌, ◌∙◌, ℕ, ◌+◌, ◌<◌, ◌==◌, Bool, true, false, ◌||◌, List, [], ◌∷◌, ◌++◌, length}
use Rattle.std.proofs.Common.{take, refl, sym, ap, subst, arith, Some, get_or, slice_set, All, if◌then◌else◌, map}
use Rattle.std.proofs.Common.{Option, nat_lt, ◌≤◌, ◌&&◌, nat_le, ap₂, None}
use Rattle.std.specs.Prelude.{IsTrue, ℤ, unwrap_or, IfSome, ◌^◌, Ok, IsSomeAnd}
use Rattle.std.proofs.lemmas.Bool.{eqb-true, eqb-false, eq-eqb, ltb-true, leb-false, cond_both, both_ways, or_parts}
use Rattle.std.proofs.lemmas.Grind.{get_or-set_at}
use Rattle.std.proofs.lemmas.List.{length-append, length-set, take_all, get_or-set_other, drop_all, length-replicate, map-append}
use Rattle.std.proofs.lemmas.List.Elements.{All-push}
use Rattle.std.proofs.lemmas.List.Folds.{list_any-append, list_any_at}
use Rattle.std.proofs.lemmas.List.Quantifiers.{all_pairs_push}
use Rattle.nl_model.specs.declared.header_counts.Counts.{Counts}
use Rattle.nl_model.specs.File.{Term}
use Rattle.nl_model.specs.declared.suffix.Suffix.{Suffix as SuffixValue}
use Rattle.nl_model.specs.Rules.{AreTermsBelow, AreIndicesApart, has_suffix, most_terms, object_count, term_count}
use Rattle.nl_lines.specs.declared.awaited.Awaited.TheVariants.{Pair, Nothing, ColumnCount}
use Rattle.nl_lines.specs.declared.head.Head.{Head}
use Rattle.nl_lines.specs.declared.head.Head.TheVariants.{Sides, Bounds, ColumnCounts, Body as BodyHead, Objective, Definition, DualGuesses, PrimalGuesses, Terms, Slopes, Suffix}
use Rattle.nl_lines.specs.Rows.{NumberedRow, row_words}
use Rattle.nl_lines.specs.Pieces.{Piece, line_count, line_kind, pair_count, pair_in, piece_pairs, keeps_pairs, awaited_in, is_complete, has_tree, is_nothing, tree_awaits, tree_rows}
use Rattle.nl_lines.specs.Tests.{has_index, holds_once, index_limit, is_linear, is_suffix, is_same_piece, pair_total}
use Rattle.nl_segments.specs.Current.{Current, IsCurrent, less_line, with_pair, current_awaits}
use Rattle.nl_lines.specs.PairTests.{IsMarked, is_full_at, next_pair_tests}
use Rattle.nl_segments.specs.Held.{IsSoundPiece, Body, HasRow, HoldsSome, IsAwaiting, IsHeld, IsNodeLeft, TakesRow, words_refusal}
use Rattle.nl_segments.specs.InsidePairSteps.{with_kept, with_mark, with_closed, with_given, with_suffix, with_use, CanClose, CanGive, CanUse, one_more}
use Rattle.nl_lines.proofs.RowLemmas.{early_pairs, early_tree}
use Rattle.nl_segments.proofs.CurrentLemmas.{with_line, awaits}
use Rattle.nl_lines.proofs.PieceLemmas.{longer, lines-append, draft-append}
use Rattle.std.specs.List.{list_any}
use Rattle.nl_model.specs.Draft.{Draft, empty_draft}
use Rattle.nl_lines.specs.Nodes.{nodes_from, nodes_of, pending_from}
use Rattle.nl_lines.specs.Saying.{node_lines, draft_of, said_by, with_piece, place_lines, more_lines, term_lines}
use Rattle.nl_segments.specs.InsidePlaceSteps.{with_term_line, HasBegun, HasOwner}
use Rattle.nl_lines.specs.Heads.{is_in_range, is_head}
use Rattle.nl_model.specs.UseCounts.{use_count}
use Rattle.nl_model.proofs.UseLemmas.{use_count-most}
use Rattle.nl_lines.proofs.DraftLemmas.{draft_before, with_dual, with_primal, with_term, with_slope, with_suffix as suffix_said, says_whole, draft_counts}
use Rattle.nl_lines.proofs.FreshLaw.{either, none_before, gave_none}
use Rattle.nl_lines.proofs.PairLaw.{use_more, terms_few, slopes_few}
use Rattle.nl_segments.proofs.PairLines.{place_term, owner_there, at, Opened, opened, awaits_as, last_sound, has_owner, has_begun, judged_by, pairs_longer, awaiting, last_taken, fold_keeps}
use Rattle.nl_header.specs.Head.{options_in}
use Rattle.nl_segments.specs.Grammar.{Standing, counts_of}
use Rattle.nl_lines.proofs.HeadSuffixes.{suffixes_come}
use Rattle.nl_segments.proofs.PairHeld.{early, held_longer, columns_kept, last_closed, left_closed, nodes_early}
use Rattle.text_base.specs.Judged.{first_reason}
use Rattle.nl_lines.specs.declared.fault.NlReason.{NlReason}
use Rattle.nl_segments.specs.InsideLineSteps.{unless_complete}
use Rattle.nl_lines.specs.NodeRows.{IsNodeKnown}
use Rattle.nl_lines.proofs.PairJudging.{same_pair_tests}
use Rattle.nl_segments.specs.InsideKnownPairs.{HasGoodPair, IsGoodPair}
use Rattle.std.proofs.Math.Bool.{or-false, or-true}

-- ---- heads of pairs

pub pair_lines : (c : Counts) (h : Head) → line_kind h ≡ Pair → line_count c h ≡ pair_count h
pair_lines c Sides e = absurd cc
pair_lines c Bounds e = absurd cc
pair_lines c (ColumnCounts n) e = absurd cc
pair_lines c head e = refl

-- ---- indices

pub none_has : (ts : List Term) (i : ℕ) → has_index ts i ≡ false → All (λ s. s.0 ≢ i) ts
none_has ts i e k d lt same = both_ways (has_index ts i) e (list_any_at (λ t. t.0 == i) ts k d lt (eq-eqb _ _ same))

has_more : (ts : List Term) (t : Term) (i : ℕ) → has_index (ts ++ t ∷ []) i ≡ (has_index ts i || (t.0 == i))
has_more ts t i = list_any-append (λ t. t.0 == i) ts (t ∷ []) ∙ ap (λ b. has_index ts i || b) (or-false (t.0 == i))

mark_more : (marks : List Bool) (i k : ℕ) → k < length marks → get_or (slice_set marks k true) i false ≡ (get_or marks i false || (k == i))
mark_more marks i k lt = by (k == i) refl
  where
    by : (t : Bool) → (k == i) ≡ t → get_or (slice_set marks k true) i false ≡ (get_or marks i false || (k == i))
    by true e =
        let same = eqb-true k i e in
        get_or-set_at marks k i true false (sym same) lt ∙ sym (or-true (get_or marks i false)) ∙ ap (λ b. get_or marks i false || b) (sym e)
    by false e =
        get_or-set_other marks k i true false (λ s. eqb-false k i e (sym s)) ∙ sym (or-false (get_or marks i false)) ∙ ap (λ b. get_or marks i false || b) (sym e)

-- ---- the pairs

-- a pair that may come next
pub record IsNextPair (c : Counts) (p : Piece) (row : NumberedRow) (t : Term) : Type 0 where
  pub within : length p.rows < line_count c p.head
  pub same_kind : line_kind p.head ≡ Pair
  pub says : pair_in (row_words row) ≡ Some t
  pub below : t.0 < index_limit c p.head
  pub fresh : IsTrue (holds_once p.head) → has_index (piece_pairs p) t.0 ≡ false

pub few_rows : (c : Counts) (p : Piece) (row : NumberedRow) (t : Term) → IsNextPair c p row t → length p.rows < pair_count p.head
few_rows c p row t n = subst (λ k. length p.rows < k) (pair_lines c p.head n.same_kind) n.within

pub pairs_are : (c : Counts) (p : Piece) (row : NumberedRow) (t : Term) → IsNextPair c p row t → piece_pairs (longer p row) ≡ piece_pairs p ++ t ∷ []
pairs_are c p row t n = early_pairs p row t (few_rows c p row t n) n.says

pub sound_pair : (c : Counts) (p : Piece) (row : NumberedRow) (t : Term) → IsNextPair c p row t → IsSoundPiece c p → IsSoundPiece c (longer p row)
sound_pair c p row t n h =
    let pairs = pairs_are c p row t n in
    let few = few_rows c p row t n in
    let whole : take (pair_count p.head) p.rows ≡ p.rows = take_all (pair_count p.head) p.rows (omega arith) in
    let more : take (pair_count p.head) (p.rows ++ row ∷ []) ≡ p.rows ++ row ∷ [] = take_all (pair_count p.head) (p.rows ++ row ∷ []) (omega (arith, length-append p.rows (row ∷ []))) in
    record {
      range = h.range;
      below = subst (AreTermsBelow (index_limit c p.head)) (sym pairs) (All-push (λ s. s.0 < index_limit c p.head) (piece_pairs p) t h.below n.below);
      once = λ o. subst AreIndicesApart (sym pairs) (all_pairs_push (λ s u. s.0 ≢ u.0) (piece_pairs p) t (h.once o) (none_has (piece_pairs p) t.0 (n.fresh o)));
      pairs = ap length pairs ∙ length-append (piece_pairs p) (t ∷ []) ∙ ap (λ (k : ℕ). k + 1) (h.pairs ∙ ap length whole) ∙ sym (length-append p.rows (row ∷ [])) ∙ ap length (sym more);
    }

-- ---- the marks

pub marks_kept : (head : Head) (marks : List Bool) (i : ℕ) → length (with_mark head marks i) ≡ length marks
marks_kept head marks i = cond_both (holds_once head) (slice_set marks i true) marks (λ m. length m ≡ length marks) (λ e. length-set marks i true) (λ e. refl)

pub marked_pair : (c : Counts) (p : Piece) (row : NumberedRow) (t : Term) (marks : List Bool) → IsNextPair c p row t
    → t.0 < length marks → IsMarked c marks p → IsMarked c (with_mark p.head marks t.0) (longer p row)
marked_pair c p row t marks n room h once i lt =
    ap (λ b. get_or (if b then slice_set marks t.0 true else marks) i false) once
    ∙ mark_more marks i t.0 room
    ∙ ap (λ b. b || (t.0 == i)) (h once i lt)
    ∙ sym (ap (λ ts. has_index ts i) (pairs_are c p row t n) ∙ has_more (piece_pairs p) t i)

-- ---- what is held of the piece

pub kept_fields : (cur : Current) (t : Term) → ((with_kept cur t).head ≡ cur.head) × ((with_kept cur t).pending ≡ cur.pending) × ((with_kept cur t).nodes ≡ cur.nodes)
kept_fields cur t =
    cond_both (keeps_pairs cur.head) (with_pair cur t) (less_line cur)
    (λ (k : Current). (k.head ≡ cur.head) × (k.pending ≡ cur.pending) × (k.nodes ≡ cur.nodes))
    (λ e. (refl, refl, refl)) (λ e. (refl, refl, refl))

pub kept_current : (c : Counts) (p : Piece) (cur : Current) (row : NumberedRow) (t : Term) → IsCurrent c p cur → length p.rows < line_count c p.head → IsCurrent c (longer p row) (with_kept cur t)
kept_current c p cur row t h within =
    let line = with_line c p cur row h within in
    cond_both (keeps_pairs cur.head) (with_pair cur t) (less_line cur) (IsCurrent c (longer p row))
    (λ e. record { head = line.head; line = line.line; left = line.left; nodes = line.nodes; pending = line.pending }) (λ e. line)

pub kept_pairs : (c : Counts) (p : Piece) (cur : Current) (row : NumberedRow) (t : Term) → IsNextPair c p row t → cur.head ≡ p.head → (IsTrue (keeps_pairs p.head) → cur.pairs ≡ piece_pairs p)
    → IsTrue (keeps_pairs p.head) → (with_kept cur t).pairs ≡ piece_pairs (longer p row)
kept_pairs c p cur row t n head h keeps =
    let yes_keeps : keeps_pairs cur.head ≡ true = ap keeps_pairs head ∙ keeps in
    ap (λ b. (if b then with_pair cur t else less_line cur).pairs) yes_keeps ∙ ap (λ ts. ts ++ t ∷ []) (h keeps) ∙ sym (pairs_are c p row t n)

-- ---- a defined variable is not complete by its terms alone

still_open : (c : Counts) (p : Piece) (row : NumberedRow) (i j u : ℕ) → p.head ≡ Definition i j u → length p.rows < j → is_complete c (longer p row) ≡ false
unfolding awaited_in nodes_from pending_from
still_open c p row i j u e few =
    let none : tree_rows (longer p row) ≡ [] = ap (λ h. tree_rows
    (record { head = h; name = p.name; line = p.line; rows = p.rows ++ row ∷ [] })) e
    ∙ drop_all j (p.rows ++ row ∷ []) (omega (arith, length-append p.rows (row ∷ []))) in
    ap (λ h. is_nothing (if nat_lt (length (p.rows ++ row ∷ [])) (line_count c h) then line_kind h else if has_tree h
    then tree_awaits (nodes_of c.n_var (tree_rows (longer p row))) (pending_from None (tree_rows (longer p row)))
    else Nothing)) e
    ∙ by (nat_lt (length (p.rows ++ row ∷ [])) j) (tree_rows (longer p row)) none
  where
    by : (b : Bool) (rows : List NumberedRow) → rows ≡ [] → is_nothing (if b then Pair else tree_awaits (nodes_of c.n_var rows) (pending_from None rows)) ≡ false
    by true rows none = refl
    by false rows none = rw none refl

-- ---- the file

pub not_closed : (d : Draft) (name : Option (List ℕ)) (cur : Current) → is_suffix cur.head ≡ false → with_closed d name cur ≡ d
not_closed d name cur f = cond_both (is_nothing (current_awaits cur)) (with_suffix d name cur cur.head) d (λ x. x ≡ d) (λ e. same cur.head f) (λ e. refl)
  where
    same : (h : Head) → is_suffix h ≡ false → with_suffix d name cur h ≡ d
    same (Suffix k n) f = absurd cc
    same head f = refl

-- what the piece has of the file before it, by its head
pub draft_pair : (o : List ℤ) (c : Counts) (before : List Piece) (p : Piece) (row : NumberedRow) (t : Term) (name : Option (List ℕ)) (cur : Current) → IsNextPair c p row t
    → is_in_range c p.head ≡ true → is_complete c p ≡ false → cur.head ≡ p.head → is_nothing (current_awaits cur) ≡ is_complete c (longer p row)
    → (IsTrue (keeps_pairs p.head) → cur.pairs ≡ piece_pairs (longer p row)) → (IsTrue (is_suffix p.head) → name ≡ Some p.name)
    → length (draft_of o c before).terms ≡ c.n_con → length (draft_of o c before).slopes ≡ c.n_obj
    → with_closed (with_given (draft_of o c (before ++ p ∷ [])) p.head t) name cur ≡ draft_of o c (before ++ longer p row ∷ [])
unfolding is_in_range
draft_pair o c before p row t name cur n range unfinished head closes pairs named rows costs = by p.head refl
  where
    d : Draft
    d = draft_of o c (before ++ p ∷ [])

    few : (h : Head) → p.head ≡ h → length p.rows < pair_count h
    few h e = subst (λ h. length p.rows < pair_count h) e (few_rows c p row t n)

    plain : (h : Head) → p.head ≡ h → is_suffix h ≡ false → is_suffix cur.head ≡ false
    plain h e f = ap is_suffix (head ∙ e) ∙ f

    by : (h : Head) → p.head ≡ h → with_closed (with_given (draft_of o c (before ++ p ∷ [])) p.head t) name cur ≡ draft_of o c (before ++ longer p row ∷ [])
    by (DualGuesses k) e = not_closed _ name cur (plain _ e refl) ∙ ap (λ h. with_given (draft_of o c (before ++ p ∷ [])) h t) e ∙ sym (with_dual o c before p row k t e (few _ e) n.says)
    by (PrimalGuesses k) e = not_closed _ name cur (plain _ e refl) ∙ ap (λ h. with_given (draft_of o c (before ++ p ∷ [])) h t) e ∙ sym (with_primal o c before p row k t e (few _ e) n.says)
    by (Terms i k) e =
        let lt : i < c.n_con = ltb-true _ _ (rw e at range) in
        not_closed _ name cur (plain _ e refl) ∙ ap (λ h. with_given (draft_of o c (before ++ p ∷ [])) h t) e ∙ sym (with_term o c before p row i k t e (few _ e) (omega arith) n.says)
    by (Slopes i k) e =
        let lt : i < c.n_obj = ltb-true _ _ (rw e at range) in
        not_closed _ name cur (plain _ e refl) ∙ ap (λ h. with_given (draft_of o c (before ++ p ∷ [])) h t) e ∙ sym (with_slope o c before p row i k t e (few _ e) (omega arith) n.says)
    by (Definition i j u) e =
        not_closed _ name cur (plain _ e refl) ∙ ap (λ h. with_given (draft_of o c (before ++ p ∷ [])) h t) e
        ∙ draft_before o c before p (rw e refl) unfinished ∙ sym (draft_before o c before (longer p row) (rw e refl) (still_open c p row i j u e (few _ e)))
    by (Suffix kind k) e = whole (is_complete c (longer p row)) refl
      where
        given : with_given (draft_of o c (before ++ p ∷ [])) p.head t ≡ draft_of o c before
        given = ap (λ h. with_given (draft_of o c (before ++ p ∷ [])) h t) e ∙ draft_before o c before p (rw e refl) unfinished

        whole : (b : Bool) → is_complete c (longer p row) ≡ b → with_closed (with_given (draft_of o c (before ++ p ∷ [])) p.head t) name cur ≡ draft_of o c (before ++ longer p row ∷ [])
        whole false f =
            let no_more = closes ∙ f in
            ap (λ b. if b then with_suffix (with_given (draft_of o c (before ++ p ∷ [])) p.head t) name cur cur.head else with_given (draft_of o c (before ++ p ∷ [])) p.head t) no_more
            ∙ given ∙ sym (draft_before o c before (longer p row) (rw e refl) f)
        whole true f =
            let done = closes ∙ f in
            ap (λ b. if b then with_suffix (with_given (draft_of o c (before ++ p ∷ [])) p.head t) name cur cur.head else with_given (draft_of o c (before ++ p ∷ [])) p.head t) done
            ∙ ap (λ x. with_suffix x name cur cur.head) given
            ∙ ap (λ h. with_suffix (draft_of o c before) name cur h) (head ∙ e)
            ∙ (let q = ap (λ (x : Option (List ℕ)). unwrap_or x []) (named (ap is_suffix e)) in
            let ts = pairs (ap keeps_pairs e) in
            λ i. record (draft_of o c before) { suffixes = (draft_of o c before).suffixes ++ record { kind = kind; name = q i; values = ts i } ∷ [] })
            ∙ sym (suffix_said o c before (longer p row) kind k e f)
    by (BodyHead i) e = absurd (let none = few _ e in omega arith)
    by head e = absurd (let none = few _ e in omega arith)

-- ---- a place for each constraint and objective

lengths_by : (d : Draft) (p : Piece) (h : Head) → (length (said_by d p h).terms ≡ length d.terms) × (length (said_by d p h).slopes ≡ length d.slopes)
lengths_by d p (Terms i n) = (length-set d.terms i _, refl)
lengths_by d p (Slopes k n) = (refl, length-set d.slopes k _)
lengths_by d p (BodyHead i) = (either (λ x. length x.terms ≡ length d.terms) d _ p refl refl, either (λ x. length x.slopes ≡ length d.slopes) d _ p refl refl)
lengths_by d p (Objective k m) = (either (λ x. length x.terms ≡ length d.terms) d _ p refl refl, either (λ x. length x.slopes ≡ length d.slopes) d _ p refl refl)
lengths_by d p (Definition i j u) = (either (λ x. length x.terms ≡ length d.terms) d _ p refl refl, either (λ x. length x.slopes ≡ length d.slopes) d _ p refl refl)
lengths_by d p (Suffix k n) = (either (λ x. length x.terms ≡ length d.terms) d _ p refl refl, either (λ x. length x.slopes ≡ length d.slopes) d _ p refl refl)
lengths_by d p head = (refl, refl)

pub draft_lengths : (o : List ℤ) (c : Counts) (pieces : List Piece) → (length (draft_of o c pieces).terms ≡ c.n_con) × (length (draft_of o c pieces).slopes ≡ c.n_obj)
unfolding draft_of
draft_lengths o c pieces = (
  fold_keeps (λ (d : Draft). length d.terms) with_piece (λ d p. (lengths_by d p p.head).0) pieces (empty_draft o c) ∙ length-replicate c.n_con [],
  fold_keeps (λ (d : Draft). length d.slopes) with_piece (λ d p. (lengths_by d p p.head).1) pieces (empty_draft o c) ∙ length-replicate c.n_obj [],
)

-- ---- uses of variables

-- closing a piece changes suffixes alone
pub closed_keeps : {A : Type 0} (f : Draft → A) → ((x : Draft) (ss : List SuffixValue)
    → f (record x { suffixes = ss }) ≡ f x) → (d : Draft) (name : Option (List ℕ)) (cur : Current)
    → f (with_closed d name cur) ≡ f d
closed_keeps f keeps d name cur = cond_both (is_nothing (current_awaits cur)) (with_suffix d name cur cur.head) d (λ x. f x ≡ f d) (λ e. same cur.head) (λ e. refl)
  where
    same : (h : Head) → f (with_suffix d name cur h) ≡ f d
    same (Suffix k n) = keeps d _
    same head = refl

pub uses_pair : (c : Counts) (d : Draft) (head : Head) (t : Term) (uses : List ℕ) (j : ℕ) → length uses ≡ c.n_var → t.0 < index_limit c head → length d.terms ≡ c.n_con → is_in_range c head ≡ true
    → get_or uses j 0 ≡ use_count d.terms j → get_or (with_use head uses t.0) j 0 ≡ use_count (with_given d head t).terms j
unfolding is_in_range
uses_pair c d (Terms i k) t uses j len below rows range h = by (t.0 == j) refl
  where
    more : use_count (slice_set d.terms i (get_or d.terms i [] ++ t ∷ [])) j ≡ (if t.0 == j then use_count d.terms j + 1 else use_count d.terms j)
    more = let lt : i < c.n_con = ltb-true _ _ range in use_more d.terms i j t (omega arith)

    by : (b : Bool) → (t.0 == j) ≡ b → get_or (slice_set uses t.0 (get_or uses t.0 0 + 1)) j 0 ≡ use_count (slice_set d.terms i (get_or d.terms i [] ++ t ∷ [])) j
    by true e =
        let same = eqb-true t.0 j e in
        get_or-set_at uses t.0 j (get_or uses t.0 0 + 1) 0 (sym same) (let lt : t.0 < c.n_var = below in omega arith) ∙ ap (λ (k : ℕ). get_or uses k 0 + 1) same ∙ ap (λ (k : ℕ). k + 1) h
        ∙ sym (more ∙ ap (λ b. if b then use_count d.terms j + 1 else use_count d.terms j) e)
    by false e =
        get_or-set_other uses t.0 j (get_or uses t.0 0 + 1) 0 (λ s. eqb-false t.0 j e (sym s)) ∙ h
        ∙ sym (more ∙ ap (λ b. if b then use_count d.terms j + 1 else use_count d.terms j) e)
uses_pair c d head t uses j len below rows range h = h

pub users_kept : (head : Head) (uses : List ℕ) (j : ℕ) → length (with_use head uses j) ≡ length uses
users_kept (Terms i k) uses j = length-set uses j _
users_kept head uses j = refl

-- ---- lines

pub places_pair : (c : Counts) (before : List Piece) (p : Piece) (row : NumberedRow) (t : Term) → IsNextPair c p row t → is_in_range c p.head ≡ true
    → with_term_line (place_lines c (before ++ p ∷ [])) row.line p.head ≡ place_lines c (before ++ longer p row ∷ [])
places_pair c before p row t n range =
    ap (λ l. with_term_line l row.line p.head) (lines-append c before p)
    ∙ by (is_linear p.head) refl
    ∙ sym (lines-append c before (longer p row))
  where
    nodes_same : node_lines c (longer p row) ≡ node_lines c p
    nodes_same = ap (λ rs. map (λ n. n.line) (nodes_of c.n_var rs)) (early_tree c p row n.within)

    terms_more : term_lines (longer p row) ≡ term_lines p ++ row.line ∷ []
    terms_more =
        let few = few_rows c p row t n in
        let whole : take (pair_count p.head) p.rows ≡ p.rows = take_all (pair_count p.head) p.rows (omega arith) in
        let more : take (pair_count p.head) (p.rows ++ row ∷ []) ≡ p.rows ++ row ∷ [] = take_all (pair_count p.head) (p.rows ++ row ∷ []) (omega (arith, length-append p.rows (row ∷ []))) in
        ap (map (λ r. r.line)) more ∙ map-append (λ r. r.line) p.rows (row ∷ []) ∙ ap (λ rs. map (λ r. r.line) rs ++ row.line ∷ []) (sym whole)

    other : (h : Head) → is_linear h ≡ false → length p.rows < pair_count h → with_term_line (more_lines c (place_lines c before) p h) row.line h ≡ more_lines c (place_lines c before) (longer p row) h
    other (DualGuesses k) f few = refl
    other (PrimalGuesses k) f few = refl
    other (Suffix kind k) f few = refl
    other (Terms i k) f few = absurd cc
    other (Slopes i k) f few = absurd cc
    other (Definition i j u) f few = absurd cc
    other head f few = absurd (omega arith)

    by : (b : Bool) → is_linear p.head ≡ b → with_term_line (more_lines c (place_lines c before) p p.head) row.line p.head ≡ more_lines c (place_lines c before) (longer p row) p.head
    by true e = sym (place_term c (place_lines c before) p row row.line p.head (owner_there c before p.head range) e nodes_same terms_more)
    by false e = other p.head e (few_rows c p row t n)

-- ---- what is known of the piece

-- a pair that was judged, by what is held
pub record IsRead (b : Body) (cur : Current) (words : List (List ℕ)) (t : Term) : Type 0 where
  pub current : b.current ≡ Some cur
  pub awaits : IsAwaiting Pair b
  pub says : pair_in words ≡ Some t
  pub below : t.0 < index_limit b.draft.counts cur.head
  pub fresh : (holds_once cur.head && get_or b.marks t.0 false) ≡ false
  pub free : is_full_at cur.head b.linear b.values ≡ false

pub record IsPairNext (s : Standing) (b : Body) (cur : Current) (row : NumberedRow) (t : Term) : Type 0 where
  pub parts : Opened s b cur
  pub next : IsNextPair (counts_of s) parts.piece row t
  pub held : IsHeld (at s.header (parts.before ++ parts.piece ∷ [])) b
  pub marks : IsMarked (counts_of s) b.marks parts.piece
  pub room : t.0 < length b.marks
  pub range : is_in_range (counts_of s) parts.piece.head ≡ true
  pub left : 0 < cur.left
  pub few : is_linear parts.piece.head ≡ true → b.linear < most_terms

not_full : (h : Head) (l v : ℕ) → is_full_at h l v ≡ false → is_linear h ≡ true → l < most_terms
not_full h l v e linear = leb-false most_terms l (rw linear at (or_parts (is_linear h && nat_le most_terms l) (is_suffix h && nat_le most_terms v) e).0)

pub pair_next : (s : Standing) (b : Body) (cur : Current) (row : NumberedRow) (words : List (List ℕ)) (t : Term) → row_words row ≡ words → IsRead b cur words t → IsHeld s b → IsPairNext s b cur row t
pair_next s b cur row words t same r h =
    let o = opened s b cur r.current h in
    let c = counts_of s in
    let now = o.is_open.current in
    let early = early c o.piece cur Pair now (awaits_as b cur Pair r.current r.awaits) refl in
    let kept = subst (λ t. IsHeld t b) o.whole h in
    let marks : IsMarked c b.marks o.piece = subst (λ q. IfSome q (IsMarked c b.marks)) o.last h.marks in
    let range = (last_sound c o.before o.piece kept.sound).range in
    let below : t.0 < index_limit c o.piece.head = subst (λ k. t.0 < index_limit k o.piece.head) h.counts (subst (λ x. t.0 < index_limit b.draft.counts x) now.head r.below) in
    let mark = get_or b.marks t.0 false in
    let place = h.room o.piece.head range in
    record {
      parts = o;
      next = record {
        within = early.within;
        same_kind = early.same_kind;
        says = ap pair_in same ∙ r.says;
        below = below;
        fresh = λ once. sym (marks once t.0 below) ∙ (sym (ap (λ x. x && mark) once) ∙ sym (ap (λ x. holds_once x && mark) now.head) ∙ r.fresh);
      };
      held = kept;
      marks = marks;
      room = omega arith;
      range = range;
      left = early.left;
      few = λ l. not_full cur.head b.linear b.values r.free (ap is_linear now.head ∙ l);
    }

-- ---- the file may take it

-- such a head with this name did not come before
not_before : (s : Standing) (b : Body) (cur : Current) (row : NumberedRow) (t : Term) (n : IsPairNext s b cur row t)
    (h : Head) → n.parts.piece.head ≡ h → list_any (is_same_piece h n.parts.piece.name) n.parts.before ≡ false
not_before s b cur row t n h e = subst (λ x. list_any (is_same_piece x n.parts.piece.name) n.parts.before ≡ false) e (none_before n.parts.before n.parts.piece n.held.sound.apart)

-- what is counted in the file, at most as much as there are linear pairs, has room for one more
room_in : (s : Standing) (b : Body) (cur : Current) (row : NumberedRow) (t : Term) (n : IsPairNext s b cur row t) (count : Draft → ℕ) → is_linear n.parts.piece.head ≡ true
    → count (draft_of (options_in s.header) (counts_of s) (n.parts.before ++ n.parts.piece ∷ [])) ≤ pair_total is_linear (n.parts.before ++ n.parts.piece ∷ []) → count b.draft < most_terms
room_in s b cur row t n count linear few =
    let same = ap count n.held.draft in
    let total = n.held.linear in
    let lt = n.few linear in
    omega arith

terms_room : (s : Standing) (b : Body) (cur : Current) (row : NumberedRow) (t : Term) (n : IsPairNext s b cur row t) → is_linear n.parts.piece.head ≡ true → term_count b.draft.terms < most_terms
terms_room s b cur row t n linear = room_in s b cur row t n (λ d. term_count d.terms) linear (terms_few (options_in s.header) (counts_of s) (n.parts.before ++ n.parts.piece ∷ []))

-- no guess for this index was given
guesses_apart : (s : Standing) (b : Body) (cur : Current) (row : NumberedRow) (t : Term) (n : IsPairNext s b cur row t)
    (f : Draft → List Term) (h : Head) → n.parts.piece.head ≡ h → holds_once h ≡ true
    → ((d : Draft) (p : Piece) → f (said_by d p h) ≡ f d ++ piece_pairs p) → f (draft_of (options_in s.header) (counts_of s) n.parts.before) ≡ [] → All (λ s. s.0 ≢ t.0) (f b.draft)
guesses_apart s b cur row t n f h e once said none =
    let p = n.parts.piece in
    let o = options_in s.header in
    let c = counts_of s in
    let guesses : f b.draft ≡ piece_pairs p = ap f (n.held.draft ∙ draft-append o c n.parts.before p
    ∙ ap (said_by (draft_of o c n.parts.before) p) e) ∙ said (draft_of o c n.parts.before) p
    ∙ ap (λ ts. ts ++ piece_pairs p) none in
    subst (All (λ s. s.0 ≢ t.0)) (sym guesses) (none_has (piece_pairs p) t.0 (n.next.fresh (ap holds_once e ∙ once)))

can_give_by : (s : Standing) (b : Body) (cur : Current) (row : NumberedRow) (t : Term) (n : IsPairNext s b cur row t) (h : Head) → n.parts.piece.head ≡ h → CanGive b.draft h t
unfolding is_in_range
can_give_by s b cur row t n (DualGuesses k) e =
    let below : t.0 < (counts_of s).n_con = subst (λ x. t.0 < index_limit (counts_of s) x) e n.next.below in
    let count = ap (λ k. k.n_con) n.held.counts in
    let none = gave_none (options_in s.header) (counts_of s) n.parts.before (DualGuesses k) n.parts.piece.name refl (not_before s b cur row t n (DualGuesses k) e) in
    (omega arith, guesses_apart s b cur row t n (λ d. d.dual_guesses) (DualGuesses k) e refl (λ d p. refl) none)
can_give_by s b cur row t n (PrimalGuesses k) e =
    let below : t.0 < (counts_of s).n_var = subst (λ x. t.0 < index_limit (counts_of s) x) e n.next.below in
    let count = ap (λ k. k.n_var) n.held.counts in
    let none = gave_none (options_in s.header) (counts_of s) n.parts.before (PrimalGuesses k) n.parts.piece.name refl (not_before s b cur row t n (PrimalGuesses k) e) in
    (omega arith, guesses_apart s b cur row t n (λ d. d.primal_guesses) (PrimalGuesses k) e refl (λ d p. refl) none)
can_give_by s b cur row t n (Terms i k) e =
    let c = counts_of s in
    let below : t.0 < c.n_var = subst (λ x. t.0 < index_limit c x) e n.next.below in
    let con : i < c.n_con = ltb-true _ _ (subst (λ x. is_in_range c x ≡ true) e n.range) in
    let cons = ap (λ k. k.n_con) n.held.counts in
    let vars = ap (λ k. k.n_var) n.held.counts in
    (omega arith, omega arith, terms_room s b cur row t n (ap is_linear e))
can_give_by s b cur row t n (Slopes i k) e =
    let c = counts_of s in
    let below : t.0 < c.n_var = subst (λ x. t.0 < index_limit c x) e n.next.below in
    let obj : i < c.n_obj = ltb-true _ _ (subst (λ x. is_in_range c x ≡ true) e n.range) in
    let objs = ap (λ k. k.n_obj) n.held.counts in
    let vars = ap (λ k. k.n_var) n.held.counts in
    (omega arith, omega arith, room_in s b cur row t n (λ d. length (get_or d.slopes i [])) (ap is_linear e) (slopes_few (options_in s.header) (counts_of s) (n.parts.before ++ n.parts.piece ∷ []) i))
can_give_by s b cur row t n head e = tt

can_close_by : (s : Standing) (b : Body) (cur : Current) (row : NumberedRow) (t : Term) (n : IsPairNext s b cur row t)
    (h : Head) → n.parts.piece.head ≡ h → CanClose (with_given b.draft h t) b.name (with_kept cur t) h
can_close_by s b cur row t n (Suffix kind k) e =
    let p = n.parts.piece in
    let o = options_in s.header in
    let c = counts_of s in
    let is_open = n.parts.is_open in
    let name = is_open.named (ap is_suffix e) in
    let values = kept_pairs c p cur row t n.next is_open.current.head is_open.pairs (ap keeps_pairs e) in
    let sound = sound_pair c p row t n.next (last_sound c n.parts.before p n.held.sound) in
    let objects : AreTermsBelow (object_count c kind) (piece_pairs (longer p row)) = subst (λ x. AreTermsBelow (index_limit c x) (piece_pairs (longer p row))) e sound.below in
    let before : b.draft ≡ draft_of o c n.parts.before = n.held.draft ∙ draft_before o c n.parts.before p (ap says_whole e) is_open.incomplete in
    let all = n.held.sound.complete n.parts.before p refl in
    let fresh : has_suffix b.draft.suffixes kind p.name ≡ false =
    ap (λ d. has_suffix d.suffixes kind p.name) before ∙ suffixes_come o c kind k p.name n.parts.before all ∙ not_before s b cur row t n (Suffix kind k) e in
    let named : unwrap_or b.name [] ≡ p.name = ap (λ (x : Option (List ℕ)). unwrap_or x []) name in
    λ done. record {
      named = name ∙ ap Some (sym named);
      objects = subst (λ m. AreTermsBelow (object_count m kind) (with_kept cur t).pairs) (sym n.held.counts) (subst (AreTermsBelow (object_count c kind)) (sym values) objects);
      apart = subst AreIndicesApart (sym values) (sound.once (ap holds_once e));
      fresh = ap (has_suffix b.draft.suffixes kind) named ∙ fresh;
    }
can_close_by s b cur row t n head e = tt

-- ---- uses, and owners

can_use_by : (s : Standing) (b : Body) (cur : Current) (row : NumberedRow) (t : Term) (n : IsPairNext s b cur row t) (h : Head) → n.parts.piece.head ≡ h → CanUse h b.uses t.0
can_use_by s b cur row t n (Terms i k) e =
    let c = counts_of s in
    let below : t.0 < c.n_var = subst (λ x. t.0 < index_limit c x) e n.next.below in
    let users = n.held.users in
    let used = n.held.uses t.0 below in
    let few = use_count-most b.draft.terms t.0 in
    let room = terms_room s b cur row t n (ap is_linear e) in
    (omega arith, omega arith)
can_use_by s b cur row t n head e = tt

-- ---- all of it

pub record CanTake (b : Body) (head : Head) (t : Term) : Type 0 where
  pub give : CanGive b.draft head t
  pub owner : HasOwner b.places head
  pub begun : HasBegun b.places head
  pub close : (d : Draft) → d ≡ with_given b.draft head t → IfSome b.current (λ c. CanClose d b.name (with_kept c t) c.head)
  pub room : t.0 < length b.marks
  pub use_of : CanUse head b.uses t.0

pub can_take : (b : Body) (cur : Current) (head : Head) (words : List (List ℕ)) (line : ℕ) (t : Term) → head ≡ cur.head → HasRow words line → HoldsSome b → IsRead b cur words t → CanTake b head t
can_take b cur head words line t same row h r =
    let n = pair_next h.0 b cur row.0 words t row.1.same_words r h.1 in
    let is : n.parts.piece.head ≡ head = sym (same ∙ n.parts.is_open.current.head) in
    let close : (d : Draft) → d ≡ with_given b.draft head t → CanClose d b.name (with_kept cur t) cur.head =
    λ d e. subst (CanClose d b.name (with_kept cur t)) same (subst (λ x. CanClose x b.name (with_kept cur t) head) (sym e) (can_close_by h.0 b cur row.0 t n head is)) in
    record {
      give = can_give_by h.0 b cur row.0 t n head is;
      owner = has_owner h.0 b cur head h.1 r.current same;
      begun = has_begun h.0 b cur head h.1 r.current same;
      close = λ d e. subst (λ o. IfSome o (λ c. CanClose d b.name (with_kept c t) c.head)) (sym r.current) (close d e);
      room = n.room;
      use_of = can_use_by h.0 b cur row.0 t n head is;
    }

-- ---- what a pair changes

pub record IsPairDone (old new : Body) (cur : Current) (head : Head) (t : Term) (line : ℕ) : Type 0 where
  pub draft : new.draft ≡ with_closed (with_given old.draft head t) old.name (with_kept cur t)
  pub current : new.current ≡ unless_complete (with_kept cur t)
  pub name : new.name ≡ (if is_nothing (current_awaits (with_kept cur t)) then None else old.name)
  pub marks : new.marks ≡ with_mark head old.marks t.0
  pub linear : new.linear ≡ one_more (is_linear head) old.linear
  pub values : new.values ≡ one_more (is_suffix head) old.values
  pub uses : new.uses ≡ with_use head old.uses t.0
  pub places : new.places ≡ with_term_line old.places line head
  pub columns : new.columns ≡ old.columns
  pub seen : new.seen ≡ old.seen
  pub nodes : new.nodes ≡ old.nodes
  pub suffixes : new.suffixes ≡ old.suffixes

-- a total with one more
total_more : (counts : Head → Bool) (before : List Piece) (p : Piece) (row : NumberedRow) (c : Counts) (t : Term) (old new : ℕ) → IsNextPair c p row t → old ≡ pair_total counts (before ++ p ∷ [])
    → new ≡ one_more (counts p.head) old → new ≡ pair_total counts (before ++ longer p row ∷ [])
total_more counts before p row c t old new n e is =
    is ∙ ap (one_more (counts p.head)) e
    ∙ sym (pairs_longer counts before p row 1 (ap length (pairs_are c p row t n) ∙ length-append (piece_pairs p) (t ∷ [])))

still_few : (h : Head) (old new : ℕ) → old ≤ most_terms → (is_linear h ≡ true → old < most_terms) → new ≡ one_more (is_linear h) old → new ≤ most_terms
still_few h old new le lt e =
    subst (λ k. k ≤ most_terms) (sym e) (cond_both (is_linear h) (old + 1) old (λ (k : ℕ). k ≤ most_terms) (λ t. let few = lt t in omega arith) (λ t. le))

-- the name stays while the piece is not complete
name_open : (b : Bool) (name new : Option (List ℕ)) → new ≡ (if b then None else name) → b ≡ false → new ≡ name
name_open b name new e f = e ∙ ap (λ x. if x then None else name) f

given_definitions : (d : Draft) (h : Head) (t : Term) → (with_given d h t).definitions ≡ d.definitions
given_definitions d (DualGuesses n) t = refl
given_definitions d head t = refl

-- ---- what is held

uses_done : (s : Standing) (old new : Body) (cur : Current) (row : NumberedRow) (t : Term) (n : IsPairNext s old cur row t) → IsPairDone old new cur n.parts.piece.head t row.line
    → (j : ℕ) → j < (counts_of s).n_var → get_or new.uses j 0 ≡ use_count new.draft.terms j
uses_done s old new cur row t n d j lt =
    let c = counts_of s in
    let p = n.parts.piece in
    let rows : length old.draft.terms ≡ c.n_con = ap (λ x. length x.terms) n.held.draft ∙ (draft_lengths (options_in s.header) c (n.parts.before ++ p ∷ [])).0 in
    ap (λ us. get_or us j 0) d.uses
    ∙ uses_pair c old.draft p.head t old.uses j n.held.users n.next.below rows n.range (n.held.uses j lt)
    ∙ sym (ap (λ x. use_count x j) (ap (λ x. x.terms) d.draft ∙ closed_keeps (λ x. x.terms) (λ x ss. refl) (with_given old.draft p.head t) old.name (with_kept cur t)))

pub pair_held : (s : Standing) (old new : Body) (cur : Current) (head : Head) (row : NumberedRow) (t : Term)
    → (n : IsPairNext s old cur row t) → old.current ≡ Some cur → head ≡ cur.head → IsPairDone old new cur head t row.line
    → IsHeld (at s.header (n.parts.before ++ longer n.parts.piece row ∷ [])) new
pair_held s old new cur head row t n cur_is of done =
    let p = n.parts.piece in
    let before = n.parts.before in
    let c = counts_of s in
    let h = n.held in
    let now = n.parts.is_open in
    let d = subst (λ h. IsPairDone old new cur h t row.line) (of ∙ now.current.head) done in
    let kept = kept_current c p cur row t now.current n.next.within in
    let same = kept_fields cur t in
    let sound = sound_pair c p row t n.next (last_sound c before p h.sound) in
    let lens = draft_lengths (options_in s.header) c before in
    let closes = ap is_nothing (awaits c (longer p row) (with_kept cur t) kept) in
    let pairs = kept_pairs c p cur row t n.next now.current.head now.pairs in
    let draft : new.draft ≡ draft_of (options_in s.header) c (before ++ longer p row ∷ []) =
    d.draft
    ∙ ap (λ x. with_closed (with_given x p.head t) old.name (with_kept cur t)) h.draft
    ∙ draft_pair (options_in s.header) c before p row t old.name (with_kept cur t) n.next n.range now.incomplete kept.head closes pairs now.named lens.0 lens.1 in
    let counts : new.draft.counts ≡ c = ap (λ x. x.counts) draft ∙ draft_counts _ c (before ++ longer p row ∷ []) in
    held_longer s.header before p row old new h
    (record {
      sound = sound;
      draft = draft;
      last = last_closed c new.draft new.name (longer p row) (with_kept cur t) new.current kept d.current (λ f. record {
        incomplete = f;
        current = kept;
        pairs = pairs;
        known = subst (λ ns. All (IsNodeKnown c.n_var new.draft.definitions) ns) (sym same.2)
            (subst (λ ds. All (IsNodeKnown c.n_var ds) cur.nodes)
            (sym (ap (λ x. x.definitions) d.draft ∙ closed_keeps (λ x. x.definitions) (λ x ss. refl)
            (with_given old.draft p.head t) old.name (with_kept cur t) ∙ given_definitions old.draft p.head t))
            now.known);
        named = λ is. name_open _ old.name new.name d.name (closes ∙ f) ∙ now.named is;
      });
      marks = subst (λ m. IsMarked c m (longer p row)) (sym d.marks) (marked_pair c p row t old.marks n.next n.room n.marks);
      room = ap length d.marks ∙ marks_kept p.head old.marks t.0;
      linear = total_more is_linear before p row c t old.linear new.linear n.next h.linear d.linear;
      values = total_more is_suffix before p row c t old.values new.values n.next h.values d.values;
      columns = d.columns ∙ h.columns ∙ sym (columns_kept before p row (λ k. let clash : Pair ≡ ColumnCount = sym n.next.same_kind ∙ k in cc));
      uses = λ j lt. uses_done s old new cur row t n d j lt;
      users = ap length d.uses ∙ users_kept p.head old.uses t.0;
      places = d.places ∙ ap (λ l. with_term_line l row.line p.head) h.places ∙ places_pair c before p row t n.next n.range;
      seen = d.seen;
      nodes = d.nodes ∙ h.nodes ∙ sym (nodes_early c before p row n.next.within);
      suffixes = d.suffixes;
      few = rw d.nodes (left_closed (with_kept cur t) new.current old.nodes d.current
          (subst (λ x. IfSome x (λ q. old.nodes < 2 ^ 22)) (sym same.1)
          (subst (λ x. IsNodeLeft x old.nodes) cur_is h.few)));
      few_terms = still_few p.head old.linear new.linear h.few_terms n.few d.linear;
    })

-- ---- the answers

judged_pair : (s : Standing) (b : Body) (cur : Current) (words : List (List ℕ)) (full : Bool) → b.current ≡ Some cur
    → IsAwaiting Pair b → is_head words ≡ false → full ≡ is_full_at cur.head b.linear b.values → IsHeld s b
    → words_refusal s words ≡ first_reason (next_pair_tests b.draft.counts cur.head b.marks full words)
judged_pair s b cur words full e a plain full_by h =
    let o = opened s b cur e h in
    let c = counts_of s in
    let head = o.is_open.current.head in
    let marks : IsMarked c b.marks o.piece = subst (λ q. IfSome q (IsMarked c b.marks)) o.last h.marks in
    let full_said = full_by ∙ ap (λ x. is_full_at x b.linear b.values) head ∙ ap₂ (is_full_at o.piece.head) h.linear h.values in
    judged_by s b cur words Pair o plain (awaits_as b cur Pair e a)
    ∙ same_pair_tests c s.pieces o.piece words b.marks full marks full_said
    ∙ sym (ap (λ k. first_reason (next_pair_tests k cur.head b.marks full words)) h.counts ∙ ap (λ x. first_reason (next_pair_tests c x b.marks full words)) head)

pub pair_step : (old new : Body) (cur : Current) (head : Head) (words : List (List ℕ)) (line : ℕ) (t : Term)
    (full : Bool) → head ≡ cur.head → is_head words ≡ false → IsRead old cur words t
    → full ≡ is_full_at cur.head old.linear old.values
    → first_reason (next_pair_tests old.draft.counts cur.head old.marks full words) ≡ None → IsPairDone old new cur head t line → TakesRow old words line (Ok tt) new
pair_step old new cur head words line t full of plain r full_by fine d =
    last_taken old new cur words line plain (λ s h. judged_pair s old cur words full r.current r.awaits plain full_by h ∙ fine) (λ s row is h.
    let n = pair_next s old cur row words t is.same_words r h in
    (n.parts, pair_held s old new cur head row t n r.current of (subst (IsPairDone old new cur head t) (sym is.same_line) d)))

-- by the parts that reading took
pub refused_by : (b : Body) (cur : Current) (words : List (List ℕ)) (counts : Counts) (head : Head) (full : Bool)
    (r : NlReason) → b.current ≡ Some cur → IsAwaiting Pair b → is_head words ≡ false → counts ≡ b.draft.counts
    → head ≡ cur.head
    → full ≡ is_full_at head b.linear b.values → first_reason (next_pair_tests counts head b.marks full words) ≡ Some r → (s : Standing) → IsHeld s b → words_refusal s words ≡ Some r
refused_by b cur words counts head full r current awaits plain counts_is head_is full_is fault s h =
    judged_pair s b cur words full current awaits plain (full_is ∙ ap (λ x. is_full_at x b.linear b.values) head_is) h
    ∙ sym (ap (λ k. first_reason (next_pair_tests k head b.marks full words)) counts_is ∙ ap (λ x. first_reason (next_pair_tests b.draft.counts x b.marks full words)) head_is) ∙ fault

-- ---- what is known of the piece

pub record IsPiece (b : Body) (head : Head) : Type 0 where
  pub cur : Current
  pub current : b.current ≡ Some cur
  pub awaits : IsAwaiting Pair b
  pub is : head ≡ cur.head

pub piece_of : (b : Body) (head : Head) → IsAwaiting Pair b → IsSomeAnd b.current (λ c. head ≡ c.head) → IsPiece b head
piece_of b head awaits heads =
    let w = awaiting b Pair awaits in
    record { cur = w.cur; current = w.is; awaits = awaits; is = subst (λ o. IsSomeAnd o (λ c. head ≡ c.head)) w.is heads }

read_of : (b : Body) (head : Head) (t : Term) (words : List (List ℕ)) (p : IsPiece b head) → IsGoodPair b head t words → IsRead b p.cur words t
read_of b head t words p good =
    let pair = good.says in
    record {
      current = p.current;
      awaits = p.awaits;
      says = pair.says;
      below = subst (λ x. t.0 < index_limit b.draft.counts x) p.is pair.below;
      fresh = ap (λ x. holds_once x && get_or b.marks t.0 false) (sym p.is) ∙ pair.fresh;
      free = ap (λ x. is_full_at x b.linear b.values) (sym p.is) ∙ pair.room;
    }

-- ---- keeping

pub can_keep : (b : Body) (head : Head) (t : Term) (line : ℕ) → IsPiece b head → HasGoodPair b head t line → HoldsSome b → CanTake b head t
can_keep b head t line p some held = can_take b p.cur head some.words line t p.is some.exists held (read_of b head t some.words p some.good)

pub kept : (old new : Body) (head : Head) (t : Term) (line : ℕ) (p : IsPiece old head)
    → IsPairDone old new p.cur head t line → (words : List (List ℕ)) → IsGoodPair old head t words
    → TakesRow old words line (Ok tt) new
kept b new head t line p done words good =
    pair_step b new p.cur head words line t (is_full_at head b.linear b.values) p.is good.plain (read_of b head t words p good) (ap (λ h. is_full_at h b.linear b.values) p.is)
    (ap (λ h. first_reason (next_pair_tests b.draft.counts h b.marks (is_full_at head b.linear b.values) words)) (sym p.is) ∙ good.fine) done

-- ---- a pair that was judged

pub room_for : (b : Body) (cur : Current) (counts : Counts) (head : Head) → b.current ≡ Some cur → counts ≡ b.draft.counts → head ≡ cur.head → HoldsSome b → index_limit counts head ≤ length b.marks
room_for b cur counts head e counts_is is held =
    let s = held.0 in
    let o = opened s b cur e held.1 in
    let range = (last_sound (counts_of s) o.before o.piece (subst (λ t. IsHeld t b) o.whole held.1).sound).range in
    subst (λ k. index_limit k head ≤ length b.marks) (sym (counts_is ∙ held.1.counts))
    (subst (λ y. index_limit (counts_of s) y ≤ length b.marks) (sym (is ∙ o.is_open.current.head)) (held.1.room o.piece.head range))
