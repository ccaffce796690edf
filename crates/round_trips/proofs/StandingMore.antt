-- What pieces mean for the next one, piece by piece in the written order.
use Rattle.std.proofs.Common.{◌≡◌, ◌∙◌, ℕ, ◌+◌, ◌*◌, ◌^◌, ◌<◌, ◌≤◌, Bool, true, false, cond, ℤ, List, [], ◌∷◌, ◌++◌, length, refl, ap, ap₂, ◌==◌, arith}
use Rattle.std.proofs.lemmas.Bool.{eqb-true, and_parts}
use Rattle.std.proofs.lemmas.List.{append-nil}
use Rattle.std.specs.List.{AllByRecursion}
use Rattle.nl_model.specs.declared.header_counts.Counts.{Counts}
use Rattle.nl_model.specs.Draft.{Draft}
use Rattle.nl_lines.specs.declared.awaited.Awaited.TheVariants.{Nothing}
use Rattle.nl_lines.specs.declared.head.Head.{Head}
use Rattle.nl_lines.specs.Pieces.{Piece, awaited_in, piece_nodes, is_complete}
use Rattle.nl_lines.specs.Saying.{with_piece, if_complete}
use Rattle.nl_lines.specs.Segment.{index_of, segment_of}
use Rattle.nl_lines.specs.Tests.{is_linear, is_suffix, suffix_count, is_same_head, is_repeated, column_counts, all_column_counts}
use Rattle.nl_lines.proofs.PieceLemmas.{draft-append}
use Rattle.nl_lines.proofs.TotalLemmas.{nodes-append}
use Rattle.nl_segments.proofs.PairHeld.{columns-append as columns_more}
use Rattle.nl_segments.proofs.PairLines.{suffixes_with}
use Rattle.text_base.specs.WordLines.{WordLine}
use Rattle.round_trips.specs.InsideStandings.{rank, IsStanding, Reaches}
use Rattle.round_trips.specs.InsideTaking.{IsTaken, taken_none}
use Rattle.text_base.proofs.AllLemmas.{all_append}
use Rattle.round_trips.proofs.TakenLemmas.{awaited-append, taken_then}
use Rattle.round_trips.proofs.PairPieces.{pairs_more, pair_total-append}

-- ---- the written order

same_rank : (a b : Head) → is_same_head a b ≡ true → rank a ≡ rank b
same_rank a b e =
    let same = and_parts ((segment_of a).letter == (segment_of b).letter) _ e in
    ap₂ (λ l i. l * 2 ^ 32 + i) (eqb-true (segment_of a).letter (segment_of b).letter same.0) (eqb-true (index_of (segment_of a).subject) (index_of (segment_of b).subject) same.1)

-- a piece of a later rank was not there before
pub not_repeated : (before : List Piece) (head : Head) (name : List ℕ) → AllByRecursion (λ p. rank p.head < rank head) before → is_repeated before head name ≡ false
not_repeated [] head name low = refl
not_repeated (p ∷ before) head name low = by (is_same_head head p.head) refl (not_repeated before head name low.1)
  where
    by : (b : Bool) → is_same_head head p.head ≡ b → is_repeated before head name ≡ false → is_repeated (p ∷ before) head name ≡ false
    by true e more = absurd (let same = same_rank head p.head e in let less = low.0 in omega arith)
    by false e more = rw e more

-- ---- standings

pub ranks_up : (before : List Piece) (next after : ℕ) → AllByRecursion (λ p. rank p.head < next) before → next ≤ after → AllByRecursion (λ p. rank p.head < after) before
ranks_up [] next after low le = tt
ranks_up (q ∷ before) next after low le = (let less = low.0 in omega arith, ranks_up before next after low.1 le)

abbrev pub suffixes_more : Head → ℕ
suffixes_more head = cond (is_suffix head) 1 0

pub suffix_count-append : (before : List Piece) (p : Piece) → suffix_count (before ++ p ∷ []) ≡ suffix_count before + suffixes_more p.head
suffix_count-append before p = suffixes_with before p

-- a complete piece more
pub standing_more : {o : List ℤ} {c : Counts} {before : List Piece} {d : Draft} {next after linear values nodes suffixes : ℕ} (p : Piece) → IsStanding o c before d next linear values nodes suffixes
    → awaited_in c p ≡ Nothing → next ≤ after → rank p.head < after
    → IsStanding o c (before ++ p ∷ []) (with_piece d p) after (linear + pairs_more is_linear p) (values + pairs_more is_suffix p) (nodes + length (piece_nodes c p)) (suffixes + suffixes_more p.head)
standing_more {o = o} {c = c} {before = before} {next = next} {after = after} p s whole le here = record {
  done = awaited-append c before p ∙ whole;
  said = draft-append o c before p ∙ ap (λ d. with_piece d p) s.said;
  ranks = all_append (λ p. rank p.head < after) before (p ∷ []) (ranks_up before next after s.ranks le) (here, tt);
  terms_are = pair_total-append is_linear before p ∙ ap (λ n. n + pairs_more is_linear p) s.terms_are;
  values_are = pair_total-append is_suffix before p ∙ ap (λ n. n + pairs_more is_suffix p) s.values_are;
  nodes_are = nodes-append c before p ∙ ap (λ n. n + length (piece_nodes c p)) s.nodes_are;
  suffixes_are = suffix_count-append before p ∙ ap (λ n. n + suffixes_more p.head) s.suffixes_are;
}

-- with equal parts, and more said to have come
pub standing_as : {o : List ℤ} {c : Counts} {before : List Piece} {d e : Draft}
    {next after linear values nodes suffixes linear' values' nodes' suffixes' : ℕ}
    → IsStanding o c before d next linear values nodes suffixes
    → next ≤ after → d ≡ e → linear ≡ linear' → values ≡ values' → nodes ≡ nodes' → suffixes ≡ suffixes' → IsStanding o c before e after linear' values' nodes' suffixes'
standing_as {before = before} {next = next} {after = after} s le p q r t u = record {
  done = s.done;
  said = s.said ∙ p;
  ranks = ranks_up before next after s.ranks le;
  terms_are = s.terms_are ∙ q;
  values_are = s.values_are ∙ r;
  nodes_are = s.nodes_are ∙ t;
  suffixes_are = s.suffixes_are ∙ u;
}

pub standing_up : {o : List ℤ} {c : Counts} {before : List Piece} {d : Draft} {next after linear values nodes suffixes : ℕ} → IsStanding o c before d next linear values nodes suffixes → next ≤ after
    → IsStanding o c before d after linear values nodes suffixes
standing_up s le = standing_as s le refl refl refl refl refl

pub same_standing : {o : List ℤ} {c : Counts} {before : List Piece} {d e : Draft}
    {next linear values nodes suffixes linear' values' nodes' suffixes' : ℕ}
    → IsStanding o c before d next linear values nodes suffixes
    → d ≡ e → linear ≡ linear' → values ≡ values' → nodes ≡ nodes' → suffixes ≡ suffixes' → IsStanding o c before e next linear' values' nodes' suffixes'
same_standing s p q r t u = standing_as s (omega arith) p q r t u

-- a piece that is complete says what it means
pub said_whole : (d more : Draft) (p : Piece) → is_complete d.counts p ≡ true → if_complete d p more ≡ more
said_whole d more p e = rw e refl

-- ---- numbers of columns

-- a piece that has none
pub columns-append : (before : List Piece) (p : Piece) → column_counts p p.head ≡ [] → all_column_counts (before ++ p ∷ []) ≡ all_column_counts before
columns-append before p none = columns_more before p ∙ ap (λ ks. all_column_counts before ++ ks) none ∙ append-nil (all_column_counts before)

-- ---- lines that reach a standing

pub same_reach : {o : List ℤ} {c : Counts} {before : List Piece} {n : ℕ} {lines : List WordLine} {d e : Draft}
    {next linear values nodes suffixes linear' values' nodes' suffixes' : ℕ}
    → Reaches o c before n lines d next linear values nodes suffixes
    → d ≡ e → linear ≡ linear' → values ≡ values' → nodes ≡ nodes' → suffixes ≡ suffixes' → Reaches o c before n lines e next linear' values' nodes' suffixes'
same_reach r p q s t u = record { after = r.after; taken = r.taken; stands = same_standing r.stands p q s t u; columns = r.columns }

-- a complete piece more, of which these are the lines
pub record Adds (o : List ℤ) (c : Counts) (before : List Piece) (n : ℕ) (lines : List WordLine) (p : Piece) (d : Draft) (next linear values nodes suffixes : ℕ) : Type 0 where
  pub taken : IsTaken o c before n lines (before ++ p ∷ [])
  pub stands : IsStanding o c (before ++ p ∷ []) d next linear values nodes suffixes

pub piece_added : {o : List ℤ} {c : Counts} {before : List Piece} {n : ℕ} {lines : List WordLine} {d e : Draft}
    {next after linear values nodes suffixes linear' values' nodes' suffixes' : ℕ} (p : Piece)
    → IsTaken o c before n lines (before ++ p ∷ [])
    → awaited_in c p ≡ Nothing → next ≤ after → rank p.head < after → with_piece d p ≡ e
    → linear + pairs_more is_linear p ≡ linear' → values + pairs_more is_suffix p ≡ values'
    → nodes + length (piece_nodes c p) ≡ nodes' → suffixes + suffixes_more p.head ≡ suffixes'
    → IsStanding o c before d next linear values nodes suffixes → Adds o c before n lines p e after linear' values' nodes' suffixes'
piece_added p taken done up above said lin val nod suf s = record { taken = taken; stands = same_standing (standing_more p s done up above) said lin val nod suf }

pub added_reaches : {o : List ℤ} {c : Counts} {before : List Piece} {n : ℕ} {lines : List WordLine} {d : Draft}
    {next linear values nodes suffixes : ℕ} (p : Piece) → column_counts p p.head ≡ []
    → Adds o c before n lines p d next linear values nodes suffixes
    → Reaches o c before n lines d next linear values nodes suffixes
added_reaches {before = before} p none a = record { after = before ++ p ∷ []; columns = columns-append before p none; taken = a.taken; stands = a.stands }

-- no lines
pub reaches_none : {o : List ℤ} {c : Counts} {before : List Piece} {n : ℕ} {d : Draft}
    {next linear values nodes suffixes : ℕ} → IsStanding o c before d next linear values nodes suffixes
    → Reaches o c before n [] d next linear values nodes suffixes
reaches_none {before = before} s = record { after = before; taken = taken_none; columns = refl; stands = s }

-- a piece, and further lines after it
pub added_then : {o : List ℤ} {c : Counts} {before : List Piece} {n : ℕ} {xs ys : List WordLine} {d e : Draft}
    {next after linear values nodes suffixes linear' values' nodes' suffixes' : ℕ} (p : Piece)
    → column_counts p p.head ≡ []
    → Adds o c before n xs p d next linear values nodes suffixes
    → Reaches o c (before ++ p ∷ []) (n + length xs) ys e after linear' values' nodes' suffixes'
    → Reaches o c before n (xs ++ ys) e after linear' values' nodes' suffixes'
added_then {before = before} p none a q = record { after = q.after; taken = taken_then a.taken refl q.taken; stands = q.stands; columns = q.columns ∙ columns-append before p none }

-- lines, and further ones after them
pub reaches_then : {o : List ℤ} {c : Counts} {before : List Piece} {n : ℕ} {xs ys : List WordLine} {d e : Draft}
    {next after linear values nodes suffixes linear' values' nodes' suffixes' : ℕ}
    → Reaches o c before n xs d next linear values nodes suffixes
    → ((b : List Piece) → IsStanding o c b d next linear values nodes suffixes
    → Reaches o c b (n + length xs) ys e after linear' values' nodes' suffixes')
    → Reaches o c before n (xs ++ ys) e after linear' values' nodes' suffixes'
reaches_then r then =
    let q = then r.after r.stands in
    record { after = q.after; taken = taken_then r.taken refl q.taken; stands = q.stands; columns = q.columns ∙ r.columns }
