-- Heads and lines that are taken, and lines of one kind one after the other.
use Rattle.std.proofs.Common.{◌≡◌, ◌∙◌, ℕ, ◌+◌, true, false, ℤ, List, [], ◌∷◌, ◌++◌, length, refl, sym, ap, subst}
use Rattle.std.proofs.Common.{arith, Some, None, ◌≤◌, ◌<◌, ◌^◌, map, length-append, append_assoc, append-nil, nat_lt}
use Rattle.std.proofs.Common.{lt_trans, lit<}
use Rattle.std.specs.List.{AllByRecursion}
use Rattle.text_base.specs.Judged.{first_reason}
use Rattle.nl_model.specs.declared.header_counts.Counts.{Counts}
use Rattle.nl_lines.specs.declared.awaited.Awaited.{Awaited}
use Rattle.nl_lines.specs.declared.awaited.Awaited.TheVariants.{Nothing}
use Rattle.nl_lines.specs.declared.head.Head.{Head}
use Rattle.nl_lines.specs.Heads.{is_head, head_of, letter_of, name_in, is_segment_letter, is_refused_letter}
use Rattle.nl_lines.specs.Pieces.{Piece, with_row, awaited_of, awaited_in, last_piece, line_kind, line_count, has_tree, piece_nodes}
use Rattle.nl_lines.specs.Saying.{draft_of}
use Rattle.nl_lines.specs.Tests.{row_tests, head_tests, head_form_tests, formed_head_tests, line_tests, awaited_tests}
use Rattle.nl_lines.proofs.PieceLemmas.{longer, last-append, extended-append}
use Rattle.text_base.specs.WordLines.{WordLine}
use Rattle.written_texts.specs.Words.{IsWritten}
use Rattle.written_texts.proofs.WrittenWords.{word-decimal, word-lettered, written-one, written-two}
use Rattle.nl_writer.specs.Written.{lettered}
use Rattle.std.specs.Fmt.{decimal}
use Rattle.written_texts.proofs.WordLemmas.{row-written}
use Rattle.round_trips.specs.InsideTaking.{row_at, IsTaken, rows_at, taken_line, taken_none}
use Rattle.std.proofs.lemmas.Bool.{lt-ltb, le-ltb}
use Rattle.std.proofs.lemmas.List.{length-map}
use Rattle.nl_lines.specs.Nodes.{nodes_from}

-- ---- lines after lines

pub taken_then : {o : List ℤ} {c : Counts} {before between after : List Piece} {n m : ℕ} {xs ys : List WordLine}
    → IsTaken o c before n xs between → m ≡ n + length xs → IsTaken o c between m ys after
    → IsTaken o c before n (xs ++ ys) after
taken_then {o = o} {c = c} {before = before} {after = after} {ys = ys} taken_none e g = subst (λ k. IsTaken o c before k ys after) (omega (arith, e)) g
taken_then (taken_line w f t) e g = taken_line w f (taken_then t (omega (arith, e)) g)

taken_one : {o : List ℤ} {c : Counts} {before after : List Piece} {n : ℕ} {words : WordLine} → IsWritten words
    → first_reason (row_tests c (draft_of o c before) before words) ≡ None → with_row c before (row_at n words) ≡ after
    → IsTaken o c before n (words ∷ []) after
taken_one {o = o} {c = c} {before = before} {n = n} {words = words} w f e = subst (IsTaken o c before n (words ∷ [])) e (taken_line w f taken_none)

pub taken_written : {o : List ℤ} {c : Counts} {before after : List Piece} {n : ℕ} {lines : List WordLine} → IsTaken o c before n lines after → AllByRecursion IsWritten lines
taken_written taken_none = tt
taken_written (taken_line w f t) = (w, taken_written t)

-- ---- a head

abbrev pub begun_piece : ℕ → WordLine → Head → Piece
begun_piece n words head = record { head = head; name = name_in words; line = n; rows = [] }

abbrev pub IsHeadForm : WordLine → Type 0
IsHeadForm words = (is_head words ≡ true) × (is_segment_letter (letter_of words) ≡ true) × (is_refused_letter (letter_of words) ≡ false)

-- the words are a head that may come after these pieces
pub record IsHeadFine (c : Counts) (before : List Piece) (words : WordLine) (head : Head) : Type 0 where
  pub written : IsWritten words
  pub form : IsHeadForm words
  pub read : head_of c words ≡ Some head
  pub done : awaited_of c before ≡ Nothing
  pub fine : first_reason (formed_head_tests c before (name_in words) (Some head)) ≡ None

-- a letter and a number, and a letter and two numbers
pub number_head : {c : Counts} {before : List Piece} (letter n : ℕ) (head : Head) → 36 ≤ letter → n < 2 ^ 31
    → IsHeadForm (lettered (letter ∷ []) n ∷ []) → head_of c (lettered (letter ∷ []) n ∷ []) ≡ Some head
    → awaited_of c before ≡ Nothing → first_reason (formed_head_tests c before [] (Some head)) ≡ None → IsHeadFine c before (lettered (letter ∷ []) n ∷ []) head
number_head letter n head low small form read done fine =
    record { written = written-one (lettered (letter ∷ []) n) (word-lettered letter n low (lt_trans small (lit< tt))); form = form; read = read; done = done; fine = fine }

pub counted_head : {c : Counts} {before : List Piece} (letter n k : ℕ) (head : Head) → 36 ≤ letter → n < 2 ^ 31
    → k < 2 ^ 31 → IsHeadForm (lettered (letter ∷ []) n ∷ decimal k ∷ [])
    → head_of c (lettered (letter ∷ []) n ∷ decimal k ∷ []) ≡ Some head
    → awaited_of c before ≡ Nothing → first_reason (formed_head_tests c before [] (Some head)) ≡ None → IsHeadFine c before (lettered (letter ∷ []) n ∷ decimal k ∷ []) head
counted_head letter n k head low small few form read done fine = record {
  written = written-two (lettered (letter ∷ []) n) (decimal k) (word-lettered letter n low (lt_trans small (lit< tt))) (word-decimal k (lt_trans few (lit< tt)));
  form = form;
  read = read;
  done = done;
  fine = fine;
}

pub head_taken : {o : List ℤ} {c : Counts} {before : List Piece} {n : ℕ} {words : WordLine} {head : Head}
    → IsHeadFine c before words head → IsTaken o c before n (words ∷ []) (before ++ begun_piece n words head ∷ [])
unfolding row_tests head_tests head_form_tests
head_taken {words = words} h =
    taken_one h.written (rw (h.form.0, h.done, h.form.1, h.form.2, h.read) h.fine) (rw (row-written words h.written, h.form.0, h.read, row-written words h.written) refl)

-- ---- a line

pub awaited-append : (c : Counts) (before : List Piece) (p : Piece) → awaited_of c (before ++ p ∷ []) ≡ awaited_in c p
awaited-append c before p = rw (last-append before p) refl

pub record IsLineFine (o : List ℤ) (c : Counts) (before : List Piece) (p : Piece) (words : WordLine) (a : Awaited) : Type 0 where
  pub written : IsWritten words
  pub is : is_head words ≡ false
  pub awaited : awaited_in c p ≡ a
  pub fine : first_reason (awaited_tests c (draft_of o c (before ++ p ∷ [])) (before ++ p ∷ []) p words a) ≡ None

pub line_taken : (o : List ℤ) (c : Counts) (before : List Piece) (p : Piece) (n : ℕ) (words : WordLine) (a : Awaited)
    → IsLineFine o c before p words a → IsTaken o c (before ++ p ∷ []) n (words ∷ [])
    (before ++ longer p (row_at n words) ∷ [])
unfolding row_tests
line_taken o c before p n words a h =
    let ps = before ++ p ∷ [] in
    let d = draft_of o c ps in
    let tests : first_reason (line_tests c d ps words (last_piece ps)) ≡ None =
    ap (λ q. first_reason (line_tests c d ps words q)) (last-append before p) ∙ ap (λ b. first_reason (awaited_tests c d ps p words b)) (awaited-append c before p ∙ h.awaited) ∙ h.fine in
    taken_one h.written (rw h.is tests) (rw (row-written words h.written, h.is) (extended-append before p (row_at n words)))

-- a piece that awaits lines of this kind, and lacks at least k of them
pub record AwaitsLines (c : Counts) (p : Piece) (a : Awaited) (k : ℕ) : Type 0 where
  pub kind : line_kind p.head ≡ a
  pub lacks : length p.rows + k ≤ line_count c p.head

line_awaited : (c : Counts) (p : Piece) (a : Awaited) (k : ℕ) → AwaitsLines c p a (k + 1) → awaited_in c p ≡ a
unfolding awaited_in
line_awaited c p a k h = rw (lt-ltb (length p.rows) (line_count c p.head) (omega (arith, h.lacks)), h.kind) refl

-- with the rows of these lines, of which the first has the number n
abbrev pub with_lines : Piece → ℕ → List WordLine → Piece
with_lines p n lines = record p { rows = p.rows ++ rows_at n lines }

-- each line may come where it stands
abbrev pub AreLinesFine : {A : Type 0} → (A → WordLine) → (Piece → A → Type 0) → Piece → ℕ → List A → Type 0
AreLinesFine line Fine p n [] = Unit {0}
AreLinesFine line Fine p n (x ∷ xs) = Fine p x × AreLinesFine line Fine (longer p (row_at n (line x))) (n + 1) xs

pub lines_taken : {A : Type 0} (o : List ℤ) (c : Counts) (before : List Piece) (line : A → WordLine) (a : Awaited) (Fine : Piece → A → Type 0)
    → ((p : Piece) (x : A) → Fine p x → awaited_in c p ≡ a → IsLineFine o c before p (line x) a)
    → (p : Piece) (n : ℕ) (xs : List A) → AwaitsLines c p a (length xs) → AreLinesFine line Fine p n xs
    → IsTaken o c (before ++ p ∷ []) n (map line xs) (before ++ with_lines p n (map line xs) ∷ [])
lines_taken o c before line a Fine fine p n [] w h = subst (λ rs. IsTaken o c (before ++ p ∷ []) n [] (before ++ record p { rows = rs } ∷ [])) (sym (append-nil p.rows)) taken_none
lines_taken o c before line a Fine fine p n (x ∷ xs) w h =
    let row = row_at n (line x) in
    let size = length-append p.rows (row ∷ []) in
    let awaited = line_awaited c p a (length xs) (record { kind = w.kind; lacks = omega (arith, w.lacks) }) in
    let one = line_taken o c before p n (line x) a (fine p x h.0 awaited) in
    let more = lines_taken o c before line a Fine fine (longer p row) (n + 1) xs (record { kind = w.kind; lacks = omega (arith, w.lacks, size) }) h.1 in
    let all = taken_then one refl more in
    subst (λ rs. IsTaken o c (before ++ p ∷ []) n (map line (x ∷ xs)) (before ++ record p { rows = rs } ∷ [])) (append_assoc p.rows (row ∷ []) (rows_at (n + 1) (map line xs))) all

-- ---- a piece of such lines alone

rows_size : (n : ℕ) (lines : List WordLine) → length (rows_at n lines) ≡ length lines
rows_size n [] = refl
rows_size n (words ∷ lines) = let more = rows_size (n + 1) lines in omega arith

pub line_rows_size : {A : Type 0} (n : ℕ) (line : A → WordLine) (xs : List A) → length (rows_at n (map line xs)) ≡ length xs
line_rows_size n line xs = rows_size n (map line xs) ∙ length-map xs line

pub lines_done : {A : Type 0} (c : Counts) (n : ℕ) (words : WordLine) (head : Head) (line : A → WordLine) (xs : List A)
    → line_count c head ≡ length xs → has_tree head ≡ false → awaited_in c
    (with_lines (begun_piece n words head) (n + 1) (map line xs)) ≡ Nothing
unfolding awaited_in
lines_done c n words head line xs size alone =
    let rows = rows_at (n + 1) (map line xs) in
    let whole : nat_lt (length rows) (line_count c head) ≡ false = le-ltb (length rows) (line_count c head) (omega (arith, size, line_rows_size (n + 1) line xs)) in
    rw (whole, alone) refl

pub lines_no_nodes : (c : Counts) (n : ℕ) (words : WordLine) (head : Head) (lines : List WordLine)
    → has_tree head ≡ false → length (piece_nodes c (with_lines (begun_piece n words head) (n + 1) lines)) ≡ 0
unfolding nodes_from
lines_no_nodes c n words head lines alone = rw alone refl
