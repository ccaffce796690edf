-- Written pieces of a head and pairs are taken.
use Rattle.std.proofs.Common.{◌^◌, ◌<◌, arith, ◌≡◌, ℕ, ◌≤◌, false, not, ◌&&◌, ℤ, List, [], ◌∷◌, ◌++◌, length, refl}
use Rattle.std.proofs.Common.{Some, None, lt_trans, lit<, ◌∙◌, suc, ◌+◌, Bool, true, ◌||◌, cond, sym, ap, subst, nat_le}
use Rattle.std.proofs.Common.{length-append}
use Rattle.written_texts.specs.Words.{IsWritten}
use Rattle.written_texts.proofs.WrittenWords.{word-decimal, word-text}
use Rattle.nl_model.specs.File.{Term}
use Rattle.nl_writer.specs.Written.{term_line, term_lines}
use Rattle.std.proofs.lemmas.Bool.{lt-ltb}
use Rattle.std.proofs.lemmas.Bool.Decides.{nat_tests}
use Rattle.std.specs.Fmt.{decimal}
use Rattle.text_base.specs.Judged.{first_reason}
use Rattle.nl_model.specs.declared.header_counts.Counts.{Counts}
use Rattle.nl_lines.specs.declared.awaited.Awaited.TheVariants.{Pair}
use Rattle.nl_lines.specs.Heads.{is_head}
use Rattle.nl_lines.specs.Pieces.{Piece, awaited_in, piece_pairs, pair_in, line_kind, line_count, pair_count, has_tree}
use Rattle.nl_lines.specs.Rows.{row_words}
use Rattle.nl_lines.specs.Tests.{index_limit, wants_whole_values, holds_once, has_index, is_full, pair_form_tests, pair_tests, is_linear, is_suffix, pair_total, column_counts}
use Rattle.exact_numbers.specs.Numbers.{is_whole}
use Rattle.exact_numbers.specs.Values.{text_of}
use Rattle.text_base.specs.WordLines.{WordLine}
use Rattle.written_texts.proofs.WordLemmas.{row-written}
use Rattle.round_trips.specs.InsideTaking.{row_at, IsTaken, rows_at}
use Rattle.written_texts.proofs.NumbersRead.{whole_of-decimal, are_digits-decimal, dec_of-text}
use Rattle.round_trips.proofs.TakenLemmas.{IsLineFine, AwaitsLines, with_lines, AreLinesFine, lines_taken, begun_piece, line_rows_size}
use Rattle.std.proofs.lemmas.List.{take_all}
use Rattle.std.specs.List.{AllByRecursion, filter_map}
use Rattle.nl_model.specs.Rules.{most_terms}
use Rattle.nl_lines.specs.declared.head.Head.{Head}
use Rattle.nl_lines.proofs.RowLemmas.{early_pairs}
use Rattle.nl_lines.proofs.PairRows.{digits_plain}
use Rattle.nl_lines.proofs.PieceLemmas.{longer}
use Rattle.nl_segments.proofs.PairLines.{pairs_with}

pub written-term : (t : Term) → t.0 < 10 ^ 64 → IsWritten (term_line t)
written-term t small = record { some = omega arith; few = omega arith; each = (word-decimal t.0 small, (word-text t.1, tt)) }

-- ---- a row of digits is no head

pub decimal_no_head : (n : ℕ) (rest : WordLine) → n < 2 ^ 31 → is_head (decimal n ∷ rest) ≡ false
decimal_no_head n rest small = rw (digits_plain (decimal n) (are_digits-decimal n small)) refl

-- ---- one pair

-- an index that is there, and a value that may stand with it
pub record IsTermFine (c : Counts) (head : Head) (t : Term) : Type 0 where
  pub small : t.0 < 2 ^ 31
  pub below : t.0 < index_limit c head
  pub whole : (wants_whole_values head && not (is_whole t.1)) ≡ false

-- the pair may come next in the piece p, which was begun after these pieces
pub record IsPairFine (c : Counts) (before : List Piece) (p : Piece) (t : Term) : Type 0 where
  pub term : IsTermFine c p.head t
  pub once : (holds_once p.head && has_index (piece_pairs p) t.0) ≡ false
  pub room : is_full (before ++ p ∷ []) p.head ≡ false

pair_fine : (c : Counts) (before : List Piece) (p : Piece) (t : Term) → IsPairFine c before p t → first_reason (pair_tests c (before ++ p ∷ []) p (term_line t)) ≡ None
unfolding pair_tests pair_form_tests
pair_fine c before p t h =
    rw (are_digits-decimal t.0 h.term.small, whole_of-decimal t.0 h.term.small, dec_of-text t.1, lt-ltb t.0 (index_limit c p.head) h.term.below, h.term.whole, h.once, h.room) refl

pub pair_read : (n : ℕ) (t : Term) → t.0 < 2 ^ 31 → pair_in (row_words (row_at n (term_line t))) ≡ Some t
unfolding pair_in
pair_read n t small = rw (row-written (term_line t) (written-term t (lt_trans small (lit< tt))), whole_of-decimal t.0 small, dec_of-text t.1) refl

-- ---- pairs

pair_line : (o : List ℤ) (c : Counts) (before : List Piece) (p : Piece) (t : Term) → IsPairFine c before p t → awaited_in c p ≡ Pair → IsLineFine o c before p (term_line t) Pair
pair_line o c before p t h awaited = record {
  written = written-term t (lt_trans h.term.small (lit< tt));
  is = decimal_no_head t.0 (text_of t.1 ∷ []) h.term.small;
  awaited = awaited;
  fine = pair_fine c before p t h;
}

abbrev pub ArePairsFine : Counts → List Piece → Piece → ℕ → List Term → Type 0
ArePairsFine c before p n terms = AreLinesFine term_line (IsPairFine c before) p n terms

pub pairs_taken : (o : List ℤ) (c : Counts) (before : List Piece) (p : Piece) (n : ℕ) (terms : List Term) → AwaitsLines c p Pair (length terms) → ArePairsFine c before p n terms
    → IsTaken o c (before ++ p ∷ []) n (term_lines terms) (before ++ with_lines p n (term_lines terms) ∷ [])
pairs_taken o c before p n terms a h = lines_taken o c before term_line Pair (IsPairFine c before) (pair_line o c before) p n terms a h

-- ---- totals

-- what one piece adds to a total of pairs
abbrev pub pairs_more : (Head → Bool) → Piece → ℕ
pairs_more counts p = cond (counts p.head) (length (piece_pairs p)) 0

pub all_more : (counts : Head → Bool) (p : Piece) → counts p.head ≡ true → pairs_more counts p ≡ length (piece_pairs p)
all_more counts p e = rw e refl

pub none_more : (counts : Head → Bool) (p : Piece) → counts p.head ≡ false → pairs_more counts p ≡ 0
none_more counts p e = rw e refl

pub uncounted : (counts : Head → Bool) (p : Piece) → counts p.head ≡ false → (total : ℕ) → total + pairs_more counts p ≡ total
uncounted counts p e total = omega (arith, none_more counts p e)

pub pair_total-append : (counts : Head → Bool) (before : List Piece) (p : Piece) → pair_total counts (before ++ p ∷ []) ≡ pair_total counts before + pairs_more counts p
pair_total-append counts before p = pairs_with counts before p

full_none : (l s : Bool) (a b : ℕ) → (l ≡ true → a < most_terms) → (s ≡ true → b < most_terms) → ((l && nat_le most_terms a) || (s && nat_le most_terms b)) ≡ false
full_none true true a b f g = let x = f refl in let y = g refl in grind (arith, nat_tests)
full_none true false a b f g = let x = f refl in grind (arith, nat_tests)
full_none false true a b f g = let y = g refl in grind (arith, nat_tests)
full_none false false a b f g = refl

-- ---- when pairs may follow

-- no index came before in the piece, where each may come once
abbrev pub AreFresh : Bool → List Term → List Term → Type 0
AreFresh once seen [] = Unit {0}
AreFresh once seen (t ∷ terms) = ((once && has_index seen t.0) ≡ false) × AreFresh once (seen ++ t ∷ []) terms

-- the terms may follow in the piece p after these pieces
pub record MayTake (c : Counts) (before : List Piece) (p : Piece) (terms : List Term) : Type 0 where
  pub each : AllByRecursion (IsTermFine c p.head) terms
  pub fresh : AreFresh (holds_once p.head) (piece_pairs p) terms
  pub linear : is_linear p.head ≡ true → pair_total is_linear before + length (piece_pairs p) + length terms ≤ most_terms
  pub values : is_suffix p.head ≡ true → pair_total is_suffix before + length (piece_pairs p) + length terms ≤ most_terms

room_left : (counts : Head → Bool) (before : List Piece) (p : Piece) (k : ℕ) → (counts p.head ≡ true → pair_total counts before + length (piece_pairs p) + suc k ≤ most_terms)
    → counts p.head ≡ true → pair_total counts (before ++ p ∷ []) < most_terms
room_left counts before p k h e = let room = h e in omega (arith, pair_total-append counts before p, all_more counts p e, room)

pub pairs_fine : (c : Counts) (before : List Piece) (p : Piece) (n : ℕ) (terms : List Term)
    → length p.rows + length terms ≤ pair_count p.head → MayTake c before p terms → ArePairsFine c before p n terms
pairs_fine c before p n [] lacks h = tt
pairs_fine c before p n (t ∷ terms) lacks h =
    let row = row_at n (term_line t) in
    let pairs : piece_pairs (longer p row) ≡ piece_pairs p ++ t ∷ [] = early_pairs p row t (omega arith) (pair_read n t h.each.0.small) in
    let size : length (piece_pairs (longer p row)) ≡ length (piece_pairs p) + 1 = ap (length {A = Term}) pairs ∙ length-append (piece_pairs p) (t ∷ []) in
    let now : IsPairFine c before p t = record {
      term = h.each.0;
      once = h.fresh.0;
      room = full_none (is_linear p.head) (is_suffix p.head) (pair_total is_linear (before ++ p ∷ [])) (pair_total is_suffix (before ++ p ∷ []))
          (room_left is_linear before p (length terms) h.linear) (room_left is_suffix before p (length terms) h.values);
    } in
    let later : MayTake c before (longer p row) terms = record {
      each = h.each.1;
      fresh = subst (λ seen. AreFresh (holds_once p.head) seen terms) (sym pairs) h.fresh.1;
      linear = λ e. let room = h.linear e in omega (arith, size, room);
      values = λ e. let room = h.values e in omega (arith, size, room);
    } in
    (now, pairs_fine c before (longer p row) (n + 1) terms (omega (arith, lacks, length-append p.rows (row ∷ []))) later)

-- ---- a piece of pairs alone

-- a head that pairs follow, and nothing else
pub record IsPairHead (c : Counts) (head : Head) : Type 0 where
  pub kind : line_kind head ≡ Pair
  pub count : line_count c head ≡ pair_count head
  pub alone : has_tree head ≡ false
  pub columns : (p : Piece) → column_counts p head ≡ []

-- the piece of a head and the rows of these terms
abbrev pub pair_piece : ℕ → WordLine → Head → List Term → Piece
pair_piece n words head terms = with_lines (begun_piece n words head) (n + 1) (term_lines terms)

-- what its rows say
read_pairs : (n : ℕ) (terms : List Term) → AllByRecursion (λ t. t.0 < 2 ^ 31) terms → filter_map (λ r. pair_in (row_words r)) (rows_at n (term_lines terms)) ≡ terms
read_pairs n [] small = refl
read_pairs n (t ∷ terms) small = rw (pair_read n t small.0) (ap (λ ts. t ∷ ts) (read_pairs (n + 1) terms small.1))

pub pair_piece-pairs : (n : ℕ) (words : WordLine) (head : Head) (terms : List Term) → pair_count head ≡ length terms
    → AllByRecursion (λ t. t.0 < 2 ^ 31) terms → piece_pairs (pair_piece n words head terms) ≡ terms
pair_piece-pairs n words head terms size small =
    let rows = rows_at (n + 1) (term_lines terms) in
    ap (filter_map (λ r. pair_in (row_words r))) (take_all (pair_count head) rows (omega (arith, size, line_rows_size (n + 1) term_line terms)))
    ∙ read_pairs (n + 1) terms small

-- ---- indices below a limit

-- no index must be fresh
pub fresh_none : (seen terms : List Term) → AreFresh false seen terms
fresh_none seen [] = tt
fresh_none seen (t ∷ terms) = (refl, fresh_none (seen ++ t ∷ []) terms)

-- an index below a limit
pub record IsTermBelow (n : ℕ) (t : Term) : Type 0 where
  pub below : t.0 < n

pub each_small : (n : ℕ) (terms : List Term) → n ≤ 2 ^ 20 → AllByRecursion (IsTermBelow n) terms → AllByRecursion (λ t. t.0 < 2 ^ 31) terms
each_small n [] most low = tt
each_small n (t ∷ terms) most low = let lt = low.0.below in (omega arith, each_small n terms most low.1)
