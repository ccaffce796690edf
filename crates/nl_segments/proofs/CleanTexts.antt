-- What lines without a fault mean, that each place of the file that they say has its line, and that each expression of it is read from a piece.
use Rattle.std.proofs.Common.{◌≡◌, ◌∙◌, ℕ, ◌+◌, ◌<◌, ◌≤◌, Bool, true, false, List, [], ◌∷◌, ◌++◌, length, refl, sym, ap}
use Rattle.std.proofs.Common.{subst, arith, Option, Some, None, All, append_assoc, append-nil, zero, suc, ◌==◌}
use Rattle.std.proofs.Common.{slice_set, get_or, ◌⊎◌, inl, inr}
use Rattle.std.specs.Prelude.{IsSome, IsSomeAnd, Ok, ℤ, slice_get, option_map, unwrap_or}
use Rattle.std.proofs.lemmas.Bool.{not-false, eqb-true, cond_both}
use Rattle.std.proofs.lemmas.List.{length-append}
use Rattle.std.proofs.lemmas.List.Elements.{All-push, All-contains, Contains-append_left, Contains-push}
use Rattle.text_base.specs.Judged.{Last, IsClean}
use Rattle.text_base.specs.Reading.{last_of as last_line, lines_of, Reads}
use Rattle.text_base.specs.Words.{without_comment}
use Rattle.text_base.proofs.FirstReasons.{none_each}
use Rattle.text_base.proofs.JudgedLemmas.{clean_keeps}
use Rattle.text_base.proofs.ReadingLemmas.{text_ends}
use Rattle.nl_header.specs.Head.{options_in}
use Rattle.nl_model.specs.declared.header_counts.Counts.{Counts}
use Rattle.nl_model.specs.FilePlaces.{HasPlace, tree_at}
use Rattle.nl_lines.specs.declared.head.Head.{Head}
use Rattle.nl_segments.specs.declared.nl_read.NlRead.{NlRead}
use Rattle.nl_lines.specs.Rows.{NumberedRow, holds_words, row_words, rows_from}
use Rattle.nl_lines.specs.Heads.{is_head, head_of, name_in}
use Rattle.nl_lines.specs.Pieces.{Piece, extended, is_complete, last_piece, pieces_of, with_row, has_tree, is_nothing, piece_nodes, piece_pairs, piece_pending, tree_awaits}
use Rattle.nl_lines.specs.Saying.{place_line, draft_of, piece_tree, said_by}
use Rattle.nl_lines.specs.Tests.{end_tests}
use Rattle.nl_segments.specs.Grammar.{NlValue, Standing, counts_of, end_refusal, is_in_header, line_refusal, nl_rules, said, SaysFile, standing}
use Rattle.nl_segments.specs.Reader.{HasLines, HasLinesUpTo, IsNl, value_of, BeginsTree, HasPiece, HasPieces}
use Rattle.nl_segments.specs.Steps.{after}
use Rattle.nl_segments.proofs.CleanRows.{AreClean, clean_none, clean_row, IsRunning}
use Rattle.nl_segments.proofs.EndLemmas.{all_given, short_parts}
use Rattle.nl_segments.proofs.HeadBegun.{new_piece, always}
use Rattle.nl_segments.proofs.HeadLaw.{all_complete, no_piece}
use Rattle.nl_segments.proofs.LinesHeld.{AreRowLines, lines_there, body_in, given_in, tree_done}
use Rattle.nl_segments.proofs.PairHeld.{never}
use Rattle.nl_segments.proofs.PairLines.{last_of, other_last}
use Rattle.nl_lines.proofs.PieceLemmas.{split, extended-append, longer, draft-append}
use Rattle.nl_segments.proofs.StandingLemmas.{standing-more}
use Rattle.std.specs.List.{Contains}
use Rattle.nl_model.specs.Trees.{Tree}
use Rattle.nl_model.specs.declared.at.Owner.{Owner}
use Rattle.nl_model.specs.declared.at.Owner.TheVariants.{Con, Def, Obj}
use Rattle.nl_model.specs.Draft.{Draft, file_of}
use Rattle.nl_model.specs.File.{File}
use Rattle.nl_model.specs.declared.definition.Def.{Def as Definition}
use Rattle.nl_model.specs.declared.objective.Objective.{Objective}
use Rattle.nl_model.specs.Nodes.{awaited, IsPrefix}
use Rattle.nl_model.proofs.Prefixes.{prefix_of_run}
use Rattle.nl_lines.specs.declared.head.Head.TheVariants.{Body as BodyHead, Objective as ObjectiveHead, Definition as DefinitionHead, Suffix}
use Rattle.nl_lines.specs.declared.pending.Pending.{Pending}
use Rattle.nl_lines.specs.Nodes.{Placed, only_nodes}
use Rattle.nl_lines.proofs.DraftLemmas.{draft_counts}
use Rattle.nl_lines.proofs.FreshLaw.{either}
use Rattle.nl_lines.specs.declared.awaited.Awaited.TheVariants.{Nothing, Node as NodeLine}

-- ---- the lines of rows

row_lines : (P : ℕ → Type 0) (c : Counts) (pieces : List Piece) (row : NumberedRow) → P row.line → All (AreRowLines P) pieces → All (AreRowLines P) (with_row c pieces row)
unfolding extended
row_lines P c pieces row here h = by (is_head (row_words row)) (head_of c (row_words row)) (last_piece pieces) refl refl refl
  where
    by : (t : Bool) (head : Option Head) (last : Option Piece) → is_head (row_words row) ≡ t → head_of c (row_words row) ≡ head → last_piece pieces ≡ last → All (AreRowLines P) (with_row c pieces row)
    by true None last is e q = rw (is, e) h
    by true (Some head) last is e q =
        rw (is, e) (All-push (AreRowLines P) pieces (new_piece head (name_in (row_words row)) row.line) h (record { line = here; rows = λ k d lt. absurd (omega (arith, lt)) }))
    by false head None is e q = rw is (subst (λ ps. All (AreRowLines P) (extended ps row)) (sym (no_piece pieces q)) (λ k d lt. absurd (omega (arith, lt))))
    by false head (Some p) is e q =
        let parts = split pieces p q in
        let whole = subst (All (AreRowLines P)) parts.whole h in
        let old = last_of (AreRowLines P) parts.before p whole in
        let new : AreRowLines P (longer p row) = record { line = old.line; rows = All-push (λ (r : NumberedRow). P r.line) p.rows row old.rows here } in
        rw is (subst (All (AreRowLines P)) (sym (ap (λ ps. extended ps row) parts.whole ∙ extended-append parts.before p row)) (other_last (AreRowLines P) parts.before p (longer p row) whole new))

-- ---- the lines

-- what lines without a fault mean
record IsCleanStanding (P : ℕ → Type 0) (s : Standing) : Type 0 where
  clean : AreClean (counts_of s) s.pieces
  none : is_in_header s ≡ true → s.pieces ≡ []
  lines : All (AreRowLines P) s.pieces

start : (P : ℕ → Type 0) → IsCleanStanding P (standing [])
unfolding standing rows_from pieces_of
start P = record { clean = clean_none _; none = λ _. refl; lines = λ k d lt. absurd (omega (arith, lt)) }

step : (P : ℕ → Type 0) (s : Standing) (n : ℕ) (line : List ℕ) → P n → IsCleanStanding P s → line_refusal s line ≡ None → IsCleanStanding P (after s n line)
unfolding line_refusal
step P s n line here h fine = by (holds_words line) (is_in_header s) refl refl
  where
    by : (t u : Bool) → holds_words line ≡ t → is_in_header s ≡ u → IsCleanStanding P (after s n line)
    by false u e q = rw e h
    by true true e q = rw (e, q) (record { clean = subst (AreClean _) (sym (h.none q)) (clean_none _); none = λ _. h.none q; lines = h.lines })
    by true false e q =
        let row : NumberedRow = record { line = n; text = without_comment line } in
        rw (e, q) (record {
          clean = clean_row (counts_of s) (said s) s.pieces row h.clean (rw (e, q) at fine);
          none = λ t. absurd (never (sym t ∙ q));
          lines = row_lines P (counts_of s) s.pieces row here h.lines;
        })

-- what each line without a fault keeps holds after all lines
pub all_lines : (K : Standing → Type 0) (lines : List (List ℕ)) (last : Last)
    → ((s : Standing) (n : ℕ) (line : List ℕ) → 0 < n → n ≤ length lines → K s → line_refusal s line ≡ None
    → K (after s n line))
    → K (standing []) → IsClean nl_rules lines last → K (standing lines)
all_lines K lines last each start c =
    clean_keeps nl_rules (λ ls. K (standing ls)) last lines
    (λ before rest line is fine h. subst K (sym (standing-more before line))
    (each (standing before) (length before + 1) line (omega arith)
    (omega (arith, ap length is, length-append before (line ∷ rest))) h fine)) start c

-- ---- the end

-- what a text without a fault means
pub record IsWholeText (P : ℕ → Type 0) (s : Standing) : Type 0 where
  pub clean : AreClean (counts_of s) s.pieces
  pub complete : All (λ q. is_complete (counts_of s) q ≡ true) s.pieces
  pub lines : All (AreRowLines P) s.pieces
  pub objectives : All IsSome (said s).objectives

whole_by : (P : ℕ → Type 0) (s : Standing) → IsCleanStanding P s → end_refusal s ≡ None → IsWholeText P s
unfolding end_refusal end_tests
whole_by P s h e = by (is_in_header s) refl
  where
    by : (t : Bool) → is_in_header s ≡ t → IsWholeText P s
    by true q = absurd (let some = rw q at e in cc)
    by false q =
        let none = none_each (end_tests (counts_of s) (said s) s.pieces) (rw q at e) in
        record {
          clean = h.clean;
          complete = all_complete (counts_of s) s.pieces h.clean.sound (not-false _ none.0);
          lines = h.lines;
          objectives = all_given (said s).objectives (short_parts (said s) none.1.0).0;
        }

pub whole_text : (P : ℕ → Type 0) (text : List ℕ) → ((n : ℕ) → 0 < n → n ≤ length (lines_of text) → P n) → IsClean nl_rules (lines_of text) (last_line text) → IsWholeText P (standing (lines_of text))
whole_text P text each c =
    let lines = lines_of text in
    whole_by P (standing lines) (all_lines (IsCleanStanding P) lines (last_line text) (λ s n line more most h fine. step P s n line (each n more most) h fine) (start P) c) (text_ends nl_rules text c)

-- ---- the laws

abbrev IsLine : ℕ → ℕ → Type 0
IsLine count n = (0 < n) × (n ≤ count)

pub has_lines_up_to : (text : List ℕ) (value : NlValue) → IsNl text value → HasLinesUpTo (length (lines_of text)) value
has_lines_up_to text value h at has =
    let s = standing (lines_of text) in
    let P = IsLine (length (lines_of text)) in
    let w = whole_text P text (λ n more most. (more, most)) h.clean in
    let there = lines_there P (options_in s.header) (counts_of s) s.pieces w.clean.sound w.complete w.lines w.objectives at (subst (λ f. HasPlace f at) h.said.file has) in
    subst (λ l. IsSomeAnd (place_line l at) P) (sym h.said.places) there

some_of : {A : Type 0} (P : A → Type 0) (o : Option A) → IsSomeAnd o P → IsSome o
some_of P None h = absurd h
some_of P (Some x) h = refl

pub has_lines : (text : List ℕ) (r : NlRead) → Reads nl_rules (λ lines r. SaysFile lines (value_of r)) text (Ok r) → HasLines r
has_lines text r h at has = some_of (IsLine (length (lines_of text))) (place_line r.places at) (has_lines_up_to text (value_of r) (record { clean = h.clean; said = h.said }) at has)

-- ---- lists with one more

set_cases : {A : Type 0} (xs : List (Option A)) (i k : ℕ) (x t : A) → get_or (slice_set xs i (Some x)) k None ≡ Some t → ((k ≡ i) × (x ≡ t)) ⊎ (get_or xs k None ≡ Some t)
set_cases [] i k x t e = absurd cc
set_cases (a ∷ xs) zero zero x t e = inl (refl, ap (λ o. unwrap_or o x) e)
set_cases (a ∷ xs) zero (suc k) x t e = inr e
set_cases (a ∷ xs) (suc i) zero x t e = inr e
set_cases (a ∷ xs) (suc i) (suc k) x t e = elim (set_cases xs i k x t e) [ inl new ↦ inl (ap suc new.0, new.1) | inr old ↦ inr old ]

push_cases : {A : Type 0} (xs : List A) (x y : A) (k : ℕ) → slice_get (xs ++ x ∷ []) k ≡ Some y → (slice_get xs k ≡ Some y) ⊎ (x ≡ y)
push_cases [] x y zero e = inr (ap (λ o. unwrap_or o x) e)
push_cases [] x y (suc k) e = absurd cc
push_cases (a ∷ xs) x y zero e = inl e
push_cases (a ∷ xs) x y (suc k) e = push_cases xs x y k e

-- ---- what a draft was given

-- a piece with such a head says this tree
record IsSaid (c : Counts) (pieces : List Piece) (begins : Head → Type 0) (t : Tree) : Type 0 where
  piece : Piece
  among : Contains pieces piece
  head : begins piece.head
  has : has_tree piece.head ≡ true
  tree : t ≡ piece_tree c piece

abbrev IsOf : Owner → Head → Type 0
IsOf owner h = (f : File) → BeginsTree f owner h

abbrev IsOfDefinition : ℕ → ℕ → Head → Type 0
IsOfDefinition i index h = (f : File) → option_map (λ d. d.index) (slice_get f.definitions i) ≡ Some index → BeginsTree f (Def i) h

record AreTold (c : Counts) (pieces : List Piece) (d : Draft) : Type 0 where
  bodies : (i : ℕ) (t : Tree) → get_or d.bodies i None ≡ Some t → IsSaid c pieces (IsOf (Con i)) t
  objectives : (k : ℕ) (o : Objective) → get_or d.objectives k None ≡ Some o → IsSaid c pieces (IsOf (Obj k)) o.tree
  definitions : (i : ℕ) (x : Definition) → slice_get d.definitions i ≡ Some x → IsSaid c pieces (IsOfDefinition i x.index) x.tree

still : (c : Counts) (ps : List Piece) (p : Piece) (begins : Head → Type 0) (t : Tree) → IsSaid c ps begins t → IsSaid c (ps ++ p ∷ []) begins t
still c ps p begins t s = record { piece = s.piece; among = Contains-append_left ps (p ∷ []) s.piece s.among; head = s.head; has = s.has; tree = s.tree }

all_still : (c : Counts) (ps : List Piece) (p : Piece) (d : Draft) → AreTold c ps d → AreTold c (ps ++ p ∷ []) d
all_still c ps p d h =
    record {
      bodies = λ i t e. still c ps p (IsOf (Con i)) t (h.bodies i t e);
      objectives = λ k o e. still c ps p (IsOf (Obj k)) o.tree (h.objectives k o e);
      definitions = λ i x e. still c ps p (IsOfDefinition i x.index) x.tree (h.definitions i x e);
    }

new : (c : Counts) (ps : List Piece) (p : Piece) (begins : Head → Type 0) (h : Head) → p.head ≡ h → begins h → has_tree h ≡ true → IsSaid c (ps ++ p ∷ []) begins (piece_tree c p)
new c ps p begins h e b has = record { piece = p; among = Contains-push ps p; head = subst begins (sym e) b; has = ap has_tree e ∙ has; tree = refl }

told_step : (d : Draft) (ps : List Piece) (p : Piece) (h : Head) → p.head ≡ h → AreTold d.counts ps d → AreTold d.counts (ps ++ p ∷ []) (said_by d p h)
told_step d ps p (BodyHead i) e told =
    let old = all_still d.counts ps p d told in
    either (AreTold d.counts (ps ++ p ∷ [])) d (record d { bodies = slice_set d.bodies i (Some (piece_tree d.counts p)) }) p old
    (record {
      bodies = λ k t is. elim (set_cases d.bodies i k (piece_tree d.counts p) t is) [
        | inl same ↦ subst (IsSaid d.counts (ps ++ p ∷ []) (IsOf (Con k))) same.1 (new d.counts ps p (IsOf (Con k)) (BodyHead i) e (λ f. sym same.0) refl)
        | inr before ↦ old.bodies k t before
      ];
      objectives = old.objectives;
      definitions = old.definitions;
    })
told_step d ps p (ObjectiveHead i m) e told =
    let old = all_still d.counts ps p d told in
    let given : Objective = record { maximise = m; tree = piece_tree d.counts p } in
    either (AreTold d.counts (ps ++ p ∷ [])) d (record d { objectives = slice_set d.objectives i (Some given) }) p old
    (record {
      bodies = old.bodies;
      objectives = λ k o is. elim (set_cases d.objectives i k given o is) [
        | inl same ↦ subst (λ (x : Objective). IsSaid d.counts (ps ++ p ∷ []) (IsOf (Obj k)) x.tree) same.1 (new d.counts ps p (IsOf (Obj k)) (ObjectiveHead i m) e (λ f. sym same.0) refl)
        | inr before ↦ old.objectives k o before
      ];
      definitions = old.definitions;
    })
told_step d ps p (DefinitionHead i j u) e told =
    let old = all_still d.counts ps p d told in
    let given : Definition = record { index = i; terms = piece_pairs p; usage = u; tree = piece_tree d.counts p } in
    either (AreTold d.counts (ps ++ p ∷ [])) d (record d { definitions = d.definitions ++ given ∷ [] }) p old
    (record {
      bodies = old.bodies;
      objectives = old.objectives;
      definitions = λ k x is. elim (push_cases d.definitions given x k is) [
        | inl before ↦ old.definitions k x before
        | inr same ↦ subst (λ (x : Definition). IsSaid d.counts (ps ++ p ∷ []) (IsOfDefinition k x.index) x.tree) same
            (new d.counts ps p (IsOfDefinition k i) (DefinitionHead i j u) e (λ f at. at) refl)
      ];
    })
told_step d ps p (Suffix kind n) e told =
    let old = all_still d.counts ps p d told in
    either (AreTold d.counts (ps ++ p ∷ [])) d _ p old (record { bodies = old.bodies; objectives = old.objectives; definitions = old.definitions })
told_step d ps p head e told = let old = all_still d.counts ps p d told in record { bodies = old.bodies; objectives = old.objectives; definitions = old.definitions }

abbrev Told : List ℤ → Counts → List Piece → Type 0
Told o c ps = AreTold c ps (draft_of o c ps)

none_told : (o : List ℤ) (c : Counts) → Told o c []
unfolding draft_of
none_told o c =
    record {
      bodies = λ i t e. absurd (let none = always {A = Option Tree} c.n_con i None in cc);
      objectives = λ k x e. absurd (let none = always {A = Option Objective} c.n_obj k None in cc);
      definitions = λ i x e. absurd cc;
    }

all_told : (o : List ℤ) (c : Counts) (before rest : List Piece) → Told o c before → Told o c (before ++ rest)
all_told o c before [] h = subst (Told o c) (sym (append-nil before)) h
all_told o c before (p ∷ rest) h =
    let counts = draft_counts o c before in
    let next : AreTold c (before ++ p ∷ []) (said_by (draft_of o c before) p p.head) =
    subst (λ k. AreTold k (before ++ p ∷ []) (said_by (draft_of o c before) p p.head)) counts
    (told_step (draft_of o c before) before p p.head refl (subst (λ k. AreTold k before (draft_of o c before)) (sym counts) h)) in
    subst (Told o c) (append_assoc before (p ∷ []) rest) (all_told o c (before ++ p ∷ []) rest (subst (AreTold c (before ++ p ∷ [])) (sym (draft-append o c before p)) next))

-- ---- the tree of a piece

none_wanted : (ns : List Placed) (q : Option Pending) → is_nothing (tree_awaits ns q) ≡ true → awaited (only_nodes ns) ≡ 0
none_wanted ns (Some q) e = absurd cc
none_wanted ns None e = cond_both (awaited (only_nodes ns) == 0) Nothing NodeLine
    (λ a. is_nothing a ≡ true → awaited (only_nodes ns) ≡ 0) (λ s f. eqb-true (awaited (only_nodes ns)) 0 s)
    (λ s f. absurd cc) e

pub nothing_wanted : (c : Counts) (p : Piece) → has_tree p.head ≡ true → is_complete c p ≡ true → awaited (only_nodes (piece_nodes c p)) ≡ 0
nothing_wanted c p t whole = none_wanted (piece_nodes c p) (piece_pending p) (tree_done c p t whole)

found : (P : ℕ → Type 0) (s : Standing) (f : File) (owner : Owner) (begins : Head → Type 0) (t : Tree) → IsWholeText P s
    → IsSaid (counts_of s) s.pieces begins t → ((h : Head) → begins h → BeginsTree f owner h) → HasPiece s f owner t
found P s f owner begins t w said is =
    let c = counts_of s in
    let whole = All-contains (λ q. is_complete c q ≡ true) s.pieces said.piece w.complete said.among in
    let running = All-contains (IsRunning c) s.pieces said.piece w.clean.running said.among in
    record {
      piece = said.piece;
      among = said.among;
      begins = is said.piece.head said.head;
      nodes = subst (λ x. IsPrefix x (only_nodes (piece_nodes c said.piece))) (sym said.tree)
          (prefix_of_run (only_nodes (piece_nodes c said.piece)) running.run (nothing_wanted c said.piece said.has whole));
    }

pieces_told : (P : ℕ → Type 0) (s : Standing) → IsWholeText P s → AreTold (counts_of s) s.pieces (said s) → HasPieces s (file_of (said s))
pieces_told P s w told (Con i) t e = found P s (file_of (said s)) (Con i) (IsOf (Con i)) t w (told.bodies i t (sym (body_in (said s).bodies i) ∙ e)) (λ h b. b (file_of (said s)))
pieces_told P s w told (Obj k) t e = by (get_or (said s).objectives k None) refl (sym (ap (option_map (λ (o : Objective). o.tree)) (given_in (said s).objectives k w.objectives)) ∙ e)
  where
    by : (o : Option Objective) → get_or (said s).objectives k None ≡ o → option_map (λ (o : Objective). o.tree) (get_or (said s).objectives k None) ≡ Some t → HasPiece s (file_of (said s)) (Obj k) t
    by None q f = absurd (let none : None ≡ Some t = rw q at f in cc)
    by (Some o) q f =
        let same : o.tree ≡ t = ap (λ x. unwrap_or x o.tree) (rw q at f) in
        subst (HasPiece s (file_of (said s)) (Obj k)) same (found P s (file_of (said s)) (Obj k) (IsOf (Obj k)) o.tree w (told.objectives k o q) (λ h b. b (file_of (said s))))
pieces_told P s w told (Def i) t e = by (slice_get (said s).definitions i) refl e
  where
    by : (o : Option Definition) → slice_get (said s).definitions i ≡ o → option_map (λ (d : Definition). d.tree) (slice_get (said s).definitions i) ≡ Some t → HasPiece s (file_of (said s)) (Def i) t
    by None q f = absurd (let none : None ≡ Some t = rw q at f in cc)
    by (Some x) q f =
        let same : x.tree ≡ t = ap (λ o. unwrap_or o x.tree) (rw q at f) in
        subst (HasPiece s (file_of (said s)) (Def i)) same
        (found P s (file_of (said s)) (Def i) (IsOfDefinition i x.index) x.tree w (told.definitions i x q) (λ h b. b (file_of (said s)) (ap (option_map (λ (d : Definition). d.index)) q)))

pub has_pieces : (text : List ℕ) (value : NlValue) → IsNl text value → HasPieces (standing (lines_of text)) value.file
has_pieces text value h owner t e =
    let s = standing (lines_of text) in
    let w = whole_text (λ n. Unit {0}) text (λ n more most. tt) h.clean in
    let told = all_told (options_in s.header) (counts_of s) [] s.pieces (none_told (options_in s.header) (counts_of s)) in
    subst (λ f. HasPiece s f owner t) (sym h.said.file) (pieces_told (λ n. Unit {0}) s w told owner t (subst (λ f. tree_at f owner ≡ Some t) h.said.file e))
