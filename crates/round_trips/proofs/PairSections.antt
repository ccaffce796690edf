-- Written guesses, the written terms of constraints and of objectives, and written suffixes are taken.
use Rattle.std.proofs.Common.{◌≡◌, ◌≢◌, ◌∙◌, ℕ, suc, ◌+◌, ◌^◌, ◌<◌, ◌≤◌, ◌==◌, Bool, true, false, cond, ℤ, List, []}
use Rattle.std.proofs.Common.{◌∷◌, ◌++◌, length, get_or, refl, sym, ap, ap₂, subst, arith, length-append, append_assoc}
use Rattle.std.proofs.Common.{lt_trans, lit<, ◌-◌, take, replicate, Some, append-nil, sum_by, ◌*◌, not, ◌&&◌, ◌||◌}
use Rattle.std.proofs.Common.{nat_le, All}
use Rattle.std.specs.Prelude.{codes, slice_set, slice_index, AllPairs}
use Rattle.std.specs.List.{AllByRecursion, filter_map, slice_get, flat_map}
use Rattle.std.proofs.lemmas.List.{get_or_at, get_or_append_left, set_at, take_more, take_all, length-take-le}
use Rattle.std.proofs.Math.Seq.{take-nil}
use Rattle.nl_model.specs.declared.header_counts.Counts.{Counts}
use Rattle.nl_model.specs.Draft.{Draft}
use Rattle.nl_model.specs.File.{Term}
use Rattle.nl_model.specs.declared.suffix.Suffix.{Suffix}
use Rattle.nl_model.specs.declared.suffix_kinds.Objects.{Objects}
use Rattle.nl_model.specs.declared.suffix_kinds.Objects.TheVariants.{Variables, Constraints, Objectives, Problem}
use Rattle.nl_model.specs.Rules.{AreIndicesApart, most_terms, term_count, has_suffix, is_suffix_of, IsSuffix, object_count}
use Rattle.nl_lines.specs.declared.awaited.Awaited.TheVariants.{Nothing}
use Rattle.nl_lines.specs.declared.head.Head.{Head}
use Rattle.nl_lines.specs.declared.head.Head.TheVariants.{DualGuesses, PrimalGuesses, Sides, Terms, Slopes, Definition as DefinitionHead, Suffix as SuffixHead}
use Rattle.nl_lines.specs.Heads.{head_of, is_in_range}
use Rattle.nl_lines.specs.Pieces.{Piece, awaited_in, awaited_of, piece_pairs, pair_count, pair_in}
use Rattle.nl_lines.specs.Rows.{row_words}
use Rattle.nl_lines.specs.Saying.{with_piece}
use Rattle.nl_lines.specs.Tests.{index_limit, wants_whole_values, holds_once, has_index, is_linear, is_suffix, is_repeated, is_same_piece, suffix_count}
use Rattle.nl_model.proofs.ObjectLemmas.{same_objects-comm}
use Rattle.text_base.specs.WordLines.{WordLine}
use Rattle.nl_writer.specs.Written.{lettered, term_lines, guess_piece, by_number, term_piece, term_line, suffix_piece}
use Rattle.written_texts.proofs.WrittenWords.{word-lettered, word-decimal, written-three}
use Rattle.round_trips.specs.InsideStandings.{rank, IsStanding, Reaches}
use Rattle.written_texts.proofs.NumbersRead.{whole_of-decimal}
use Rattle.round_trips.proofs.TakenLemmas.{begun_piece, counted_head, head_taken, IsHeadFine, number_head, lines_done, lines_no_nodes, taken_then}
use Rattle.round_trips.proofs.PairPieces.{IsTermBelow, each_small, pairs_more, uncounted, AreFresh, IsTermFine, MayTake, IsPairHead, pair_piece, pair_piece-pairs, pairs_fine, pairs_taken, fresh_none}
use Rattle.round_trips.proofs.StandingMore.{Adds, added_reaches, added_then, not_repeated, suffixes_more, same_standing, standing_as, piece_added, reaches_none, same_reach, reaches_then, said_whole}
use Rattle.std.proofs.lemmas.List.Sums.{sum_by-cons}
use Rattle.std.proofs.lemmas.Option.{slice_get_within, get_or_from_slice_get, slice_get-get_or}
use Rattle.std.proofs.lemmas.Bool.{lt-ltb, eqb-true, false_from_ne_true, lt-leb, and_parts}
use Rattle.std.specs.Fmt.{decimal}
use Rattle.std.proofs.lemmas.List.Folds.{list_any_none, list_any-append}
use Rattle.std.specs.Str.{bytes_eq}
use Rattle.std.proofs.lemmas.Bool.Decides.{nat_tests}
use Rattle.text_base.specs.Names.{is_name}
use Rattle.written_texts.specs.Words.{IsKeptWord}
use Rattle.round_trips.specs.Writable.{IsWritableSuffix}
use Rattle.std.proofs.lemmas.List.Elements.{recursion_from_All}
use Rattle.nl_model.specs.HeaderRules.{AreCounts}
use Rattle.exact_numbers.specs.Numbers.{is_whole}
use Rattle.nl_model.specs.SuffixKinds.{objects_of, wants_whole as kind_wants_whole, count_among as count_of}

-- ---- any piece of pairs

pairs_added : {o : List ℤ} {c : Counts} {before : List Piece} {d e : Draft}
    {n next after linear values nodes suffixes linear' values' suffixes' : ℕ} (words : WordLine) (head : Head)
    (terms : List Term)
    → IsHeadFine c before words head → IsPairHead c head → pair_count head ≡ length terms
    → MayTake c before (begun_piece n words head) terms → AllByRecursion (λ t. t.0 < 2 ^ 31) terms → next ≤ after
    → rank head < after
    → (piece_pairs (pair_piece n words head terms) ≡ terms → awaited_in c (pair_piece n words head terms) ≡ Nothing → with_piece d (pair_piece n words head terms) ≡ e)
    → (length (piece_pairs (pair_piece n words head terms)) ≡ length terms → linear + pairs_more is_linear (pair_piece n words head terms) ≡ linear')
    → (length (piece_pairs (pair_piece n words head terms)) ≡ length terms → values + pairs_more is_suffix (pair_piece n words head terms) ≡ values')
    → suffixes + suffixes_more head ≡ suffixes' → IsStanding o c before d next linear values nodes suffixes
    → Adds o c before n (words ∷ term_lines terms) (pair_piece n words head terms) e after linear' values' nodes suffixes'
pairs_added {o = o} {c = c} {before = before} {n = n} words head terms fine alone size may small up above said lin val suf s =
    let p = pair_piece n words head terms in
    let pairs = pair_piece-pairs n words head terms size small in
    let done = lines_done c n words head term_line terms (alone.count ∙ size) alone.alone in
    let count : length (piece_pairs p) ≡ length terms = ap (length {A = Term}) pairs in
    let p0 = begun_piece n words head in
    let lines = pairs_taken o c before p0 (n + 1) terms (record { kind = alone.kind; lacks = omega (arith, size, alone.count) }) (pairs_fine c before p0 (n + 1) terms (omega (arith, size)) may) in
    piece_added p (taken_then (head_taken fine) refl lines) done up above (said pairs done) (lin count) (val count) (omega (arith, lines_no_nodes c n words head (term_lines terms) alone.alone)) suf s

-- a piece that has just begun has no pairs
pub begun_pairs : (n : ℕ) (words : WordLine) (head : Head) → piece_pairs (begun_piece n words head) ≡ []
begun_pairs n words head = ap (filter_map (λ r. pair_in (row_words r))) (take-nil (pair_count head))

pub no_more : (n : ℕ) (words : WordLine) (head : Head) → length (piece_pairs (begun_piece n words head)) ≡ 0
no_more n words head = ap length (begun_pairs n words head)

-- indices below a limit
pub terms_fine : (c : Counts) (head : Head) (limit : ℕ) (terms : List Term) → index_limit c head ≡ limit
    → wants_whole_values head ≡ false → limit ≤ 2 ^ 20 → AllByRecursion (IsTermBelow limit) terms
    → AllByRecursion (IsTermFine c head) terms
terms_fine c head limit [] is real most low = tt
terms_fine c head limit (t ∷ terms) is real most low =
    let lt = low.0.below in
    (record { small = omega arith; below = omega (arith, is, lt); whole = rw real refl }, terms_fine c head limit terms is real most low.1)

-- indices that stand apart are fresh
no_index : (seen : List Term) (i : ℕ) → ((k : ℕ) (d : Term) → k < length seen → (get_or seen k d).0 ≢ i) → has_index seen i ≡ false
no_index seen i h = list_any_none (λ s. s.0 == i) seen (λ k d lt. false_from_ne_true ((get_or seen k d).0 == i) (λ e. h k d lt (eqb-true (get_or seen k d).0 i e)))

pub fresh_apart : (seen terms : List Term) → AreIndicesApart (seen ++ terms) → AreFresh true seen terms
fresh_apart seen [] h = tt
fresh_apart seen (t ∷ terms) h =
    let all : List Term = seen ++ t ∷ terms in
    let size = length-append seen (t ∷ terms) in
    let apart : (k : ℕ) (d : Term) → k < length seen → (get_or seen k d).0 ≢ t.0 =
    λ k d lt e. h k (length seen) d lt (omega arith) (ap (λ x. x.0) (get_or_append_left seen (t ∷ terms) d k lt) ∙ e ∙ sym (ap (λ x. x.0) (get_or_at seen t terms d (length seen) refl))) in
    (no_index seen t.0 apart, fresh_apart (seen ++ t ∷ []) terms (subst AreIndicesApart (sym (append_assoc seen (t ∷ []) terms)) h))

-- ---- terms that all pairs of a piece are

-- a head of k terms with indices below a limit, each once or not, linear or not
pub record IsTermHead (c : Counts) (head : Head) (k limit : ℕ) (once linear : Bool) : Type 0 where
  pub alone : IsPairHead c head
  pub size : pair_count head ≡ k
  pub limit_is : index_limit c head ≡ limit
  pub any_value : wants_whole_values head ≡ false
  pub once_is : holds_once head ≡ once
  pub linear_is : is_linear head ≡ linear
  pub no_suffix : is_suffix head ≡ false

terms_reached : {o : List ℤ} {c : Counts} {before : List Piece} {d e : Draft}
    {n next after linear values nodes suffixes linear' : ℕ} (limit : ℕ) (once counted : Bool) (words : WordLine)
    (head : Head) (terms : List Term) → IsHeadFine c before words head
    → IsTermHead c head (length terms) limit once counted → limit ≤ 2 ^ 20 → AllByRecursion (IsTermBelow limit) terms
    → AreFresh once [] terms → linear' ≤ most_terms → linear + cond counted (length terms) 0 ≡ linear' → next ≤ after
    → rank head < after
    → (piece_pairs (pair_piece n words head terms) ≡ terms → with_piece d (pair_piece n words head terms) ≡ e)
    → IsStanding o c before d next linear values nodes suffixes
    → Reaches o c before n (words ∷ term_lines terms) e after linear' values nodes suffixes
terms_reached {c = c} {before = before} {n = n} {linear = linear} {values = values} {linear' = linear'} limit once counted words head terms fine g most low fresh room sum up above said s =
    let p = pair_piece n words head terms in
    let may : MayTake c before (begun_piece n words head) terms = record {
      each = terms_fine c head limit terms g.limit_is g.any_value most low;
      fresh = subst (λ b. AreFresh b (piece_pairs (begun_piece n words head)) terms) (sym g.once_is) (subst (λ seen. AreFresh once seen terms) (sym (begun_pairs n words head)) fresh);
      linear = λ e. let all : linear + length terms ≡ linear' = ap (λ b. linear + cond b (length terms) 0) (sym e ∙ g.linear_is) ∙ sum in omega (arith, s.terms_are, room, all, no_more n words head);
      values = λ e. let none = g.no_suffix in absurd cc;
    } in
    added_reaches p (g.alone.columns p)
    (pairs_added words head terms fine g.alone g.size may (each_small limit terms most low) up above (λ pairs done. said pairs)
    (λ e. ap₂ (λ b k. linear + cond b k 0) g.linear_is e ∙ sum) (λ e. uncounted is_suffix p g.no_suffix values) (rw g.no_suffix (omega arith)) s)

-- ---- guesses

dual_head : (c : Counts) (before : List Piece) (count : ℕ) → count < 2 ^ 31 → awaited_of c before ≡ Nothing → AllByRecursion (λ p. rank p.head < rank (DualGuesses count)) before
    → IsHeadFine c before (lettered (codes "d") count ∷ []) (DualGuesses count)
unfolding head_of is_in_range
dual_head c before count few done ranks = number_head 100 count (DualGuesses count) (omega arith) few (refl, refl, refl)
    (rw (whole_of-decimal count few) refl) done (rw (not_repeated before (DualGuesses count) [] ranks) refl)

pub duals_reached : {o : List ℤ} {c : Counts} {before : List Piece} {d : Draft} {n linear values nodes suffixes : ℕ}
    (terms : List Term) → c.n_con ≤ 2 ^ 20 → AllByRecursion (IsTermBelow c.n_con) terms → AreIndicesApart terms
    → length terms < 2 ^ 31 → linear ≤ most_terms → d.dual_guesses ≡ []
    → IsStanding o c before d (rank (DualGuesses 0)) linear values nodes suffixes
    → Reaches o c before n (guess_piece (codes "d") terms) (record d { dual_guesses = terms })
    (rank (PrimalGuesses 0)) linear values nodes suffixes
duals_reached {d = d} [] most low apart few room none s = reaches_none (standing_as s (omega arith) (λ j. record d { dual_guesses = none j }) refl refl refl refl)
duals_reached {c = c} {before = before} {d = d} (t ∷ ts) most low apart few room none s =
    let k : ℕ = length (t ∷ ts) in
    terms_reached c.n_con true false (lettered (codes "d") k ∷ []) (DualGuesses k) (t ∷ ts) (dual_head c before k few s.done s.ranks)
    (record { alone = record { kind = refl; count = refl; alone = refl; columns = λ p. refl }; size = refl; limit_is = refl; any_value = refl; once_is = refl; linear_is = refl; no_suffix = refl })
    most low (fresh_apart [] (t ∷ ts) apart) room (omega arith) (omega arith) (omega arith) (λ pairs. ap₂ (λ xs ys. record d { dual_guesses = xs ++ ys }) none pairs) s

primal_head : (c : Counts) (before : List Piece) (count : ℕ) → count < 2 ^ 31 → awaited_of c before ≡ Nothing → AllByRecursion (λ p. rank p.head < rank (PrimalGuesses count)) before
    → IsHeadFine c before (lettered (codes "x") count ∷ []) (PrimalGuesses count)
unfolding head_of is_in_range
primal_head c before count few done ranks = number_head 120 count (PrimalGuesses count) (omega arith) few
    (refl, refl, refl) (rw (whole_of-decimal count few) refl) done
    (rw (not_repeated before (PrimalGuesses count) [] ranks) refl)

pub primals_reached : {o : List ℤ} {c : Counts} {before : List Piece} {d : Draft} {n linear values nodes suffixes : ℕ}
    (terms : List Term) → c.n_var ≤ 2 ^ 20 → AllByRecursion (IsTermBelow c.n_var) terms → AreIndicesApart terms
    → length terms < 2 ^ 31 → linear ≤ most_terms → d.primal_guesses ≡ []
    → IsStanding o c before d (rank (PrimalGuesses 0)) linear values nodes suffixes
    → Reaches o c before n (guess_piece (codes "x") terms) (record d { primal_guesses = terms }) (rank Sides) linear
    values nodes suffixes
primals_reached {d = d} [] most low apart few room none s = reaches_none (standing_as s (omega arith) (λ j. record d { primal_guesses = none j }) refl refl refl refl)
primals_reached {c = c} {before = before} {d = d} (t ∷ ts) most low apart few room none s =
    let k : ℕ = length (t ∷ ts) in
    terms_reached c.n_var true false (lettered (codes "x") k ∷ []) (PrimalGuesses k) (t ∷ ts) (primal_head c before k few s.done s.ranks)
    (record { alone = record { kind = refl; count = refl; alone = refl; columns = λ p. refl }; size = refl; limit_is = refl; any_value = refl; once_is = refl; linear_is = refl; no_suffix = refl })
    most low (fresh_apart [] (t ∷ ts) apart) room (omega arith) (omega arith) (omega arith) (λ pairs. ap₂ (λ xs ys. record d { primal_guesses = xs ++ ys }) none pairs) s

-- ---- pieces by number

slice_get-at : {A : Type 0} (done rest : List A) (x : A) → slice_get (done ++ x ∷ rest) (length done) ≡ Some x
slice_get-at done rest x = slice_get-get_or (done ++ x ∷ rest) (length done) x (omega (arith, length-append done (x ∷ rest))) ∙ ap Some (get_or_at done x rest x (length done) refl)

-- where each piece leads from the draft of its number to the next one, with so many linear terms and nodes more
pub steps_reached : {A : Type 0} {o : List ℤ} {c : Counts} {values suffixes : ℕ} (piece : ℕ → A → List WordLine) (D : ℕ → Draft) (R : ℕ → ℕ) (terms size : A → ℕ) (xs : List A)
    → ((i : ℕ) (x : A) (before : List Piece) (n linear nodes : ℕ) → slice_get xs i ≡ Some x
    → linear + terms x ≤ most_terms → nodes + size x ≤ 2 ^ 22
    → IsStanding o c before (D i) (R i) linear values nodes suffixes
    → Reaches o c before n (piece i x) (D (i + 1)) (R (i + 1)) (linear + terms x) values (nodes + size x) suffixes)
    → (done rest : List A) (i : ℕ) → xs ≡ done ++ rest → length done ≡ i → (before : List Piece) (n linear nodes : ℕ)
    → linear + sum_by terms rest ≤ most_terms → nodes + sum_by size rest ≤ 2 ^ 22
    → IsStanding o c before (D i) (R i) linear values nodes suffixes
    → Reaches o c before n (by_number piece i rest) (D (length xs)) (R (length xs)) (linear + sum_by terms rest) values (nodes + sum_by size rest) suffixes
steps_reached {o = o} {c = c} {values = values} {suffixes = suffixes} piece D R terms size xs step done [] i e k before n linear nodes few small s =
    let all : i ≡ length xs = sym k ∙ ap length (sym (append-nil done)) ∙ ap length (sym e) in
    reaches_none (same_standing (subst (λ j. IsStanding o c before (D j) (R j) linear values nodes suffixes) all s) refl (omega arith) refl (omega arith) refl)
steps_reached piece D R terms size xs step done (x ∷ rest) i e k before n linear nodes few small s =
    let at : slice_get xs i ≡ Some x = ap₂ (λ ys j. slice_get ys j) e (sym k) ∙ slice_get-at done rest x in
    let more_terms = sum_by-cons terms x rest in
    let more_nodes = sum_by-cons size x rest in
    let one = step i x before n linear nodes at (omega (arith, few, more_terms)) (omega (arith, small, more_nodes)) s in
    let more = λ (b : List Piece). steps_reached piece D R terms size xs step (done ++ x ∷ []) rest (i + 1)
    (e ∙ sym (append_assoc done (x ∷ []) rest)) (omega (arith, length-append done (x ∷ []), k)) b
    (n + length (piece i x)) (linear + terms x) (nodes + size x)
    (omega (arith, few, more_terms)) (omega (arith, small, more_nodes)) in
    same_reach (reaches_then one more) refl (omega (arith, more_terms)) refl (omega (arith, more_nodes)) refl

pub no_sum : {A : Type 0} (xs : List A) → sum_by (λ x. 0) xs ≡ 0
no_sum [] = refl
no_sum {A = A} (x ∷ xs) = omega (arith, no_sum xs, sum_by-cons (λ (y : A). 0) x xs)

-- ---- places that are filled from the front

-- the first i of the list, and then empty places
abbrev pub filled : {A : Type 0} → List A → A → ℕ → List A
filled xs e i = take i xs ++ replicate (length xs - i) e

rest_more : {A : Type 0} (xs : List A) (e : A) (i : ℕ) → i < length xs → replicate (length xs - i) e ≡ e ∷ replicate (length xs - (i + 1)) e
rest_more xs e i lt = ap (λ k. replicate k e) (let k : length xs - i ≡ suc (length xs - (i + 1)) = omega arith in k)

next_filled : {A : Type 0} (xs : List A) (e x : A) (i : ℕ) → slice_get xs i ≡ Some x → take i xs ++ x ∷ replicate (length xs - (i + 1)) e ≡ filled xs e (i + 1)
next_filled xs e x i at =
    let lt = slice_get_within xs i x at in
    let more : take (i + 1) xs ≡ take i xs ++ x ∷ [] = take_more xs i x lt ∙ ap (λ y. take i xs ++ y ∷ []) (get_or_from_slice_get xs i x x at) in
    sym (append_assoc (take i xs) (x ∷ []) (replicate (length xs - (i + 1)) e)) ∙ ap (λ ys. ys ++ replicate (length xs - (i + 1)) e) (sym more)

pub filled-set : {A : Type 0} (xs : List A) (e x : A) (i : ℕ) → slice_get xs i ≡ Some x → slice_set (filled xs e i) i x ≡ filled xs e (i + 1)
filled-set xs e x i at =
    let lt = slice_get_within xs i x at in
    ap (λ ys. slice_set (take i xs ++ ys) i x) (rest_more xs e i lt)
    ∙ set_at (take i xs) e (replicate (length xs - (i + 1)) e) x i (length-take-le i xs (omega arith))
    ∙ next_filled xs e x i at

pub filled-get : {A : Type 0} (xs : List A) (e x : A) (i : ℕ) → slice_get xs i ≡ Some x → get_or (filled xs e i) i e ≡ e
filled-get xs e x i at =
    let lt = slice_get_within xs i x at in
    ap (λ ys. get_or (take i xs ++ ys) i e) (rest_more xs e i lt) ∙ get_or_at (take i xs) e (replicate (length xs - (i + 1)) e) e i (length-take-le i xs (omega arith))

-- an empty place stays
pub filled-same : {A : Type 0} (xs : List A) (e : A) (i : ℕ) → slice_get xs i ≡ Some e → filled xs e i ≡ filled xs e (i + 1)
filled-same xs e i at = ap (λ ys. take i xs ++ ys) (rest_more xs e i (slice_get_within xs i e at)) ∙ next_filled xs e e i at

pub filled-all : {A : Type 0} (xs : List A) (e : A) → filled xs e (length xs) ≡ xs
filled-all xs e = ap₂ (λ ys k. ys ++ replicate k e) (take_all (length xs) xs (omega arith)) (let k : length xs - length xs ≡ 0 = omega arith in k) ∙ append-nil xs

pub filled-none : {A : Type 0} (xs : List A) (e : A) → filled xs e 0 ≡ replicate (length xs) e
filled-none xs e = ap (λ k. replicate k e) (let k : length xs - 0 ≡ length xs = omega arith in k)

-- ---- rows of terms

-- a section of rows of terms: the head of row i with so many terms, its letter, what the rows say, how many there are, and the rank of the first
pub record IsRowSection (c : Counts) (head : ℕ → ℕ → Head) (letter : List ℕ) (put : List (List Term) → Draft) (rows first : ℕ) : Type 0 where
  pub ranks : (i k : ℕ) → rank (head i k) ≡ first + i
  pub terms : (i k : ℕ) → IsTermHead c (head i k) k c.n_var false true
  pub said : (xs : List (List Term)) (i k n : ℕ) (words : WordLine) (ts : List Term)
      → with_piece (put xs) (pair_piece n words (head i k) ts) ≡ put (slice_set xs i (get_or xs i [] ++ piece_pairs (pair_piece n words (head i k) ts)))
  pub fine : (before : List Piece) (i k : ℕ) → i < rows → k < 2 ^ 31 → awaited_of c before ≡ Nothing
      → AllByRecursion (λ p. rank p.head < first + i) before → IsHeadFine c before (lettered letter i ∷ decimal k ∷ [])
      (head i k)

-- a row that has a term
row_reached : {o : List ℤ} {c : Counts} {before : List Piece} {n linear values nodes suffixes : ℕ} {head : ℕ → ℕ → Head}
    {letter : List ℕ} {put : List (List Term) → Draft} {many first : ℕ} (xs : List (List Term)) (i : ℕ) (t : Term)
    (ts : List Term)
    → IsRowSection c head letter put many first → c.n_var ≤ 2 ^ 20 → i < many
    → AllByRecursion (IsTermBelow c.n_var) (t ∷ ts) → linear + length (t ∷ ts) ≤ most_terms
    → IsStanding o c before (put xs) (first + i) linear values nodes suffixes
    → Reaches o c before n (term_piece letter i (t ∷ ts)) (put (slice_set xs i (get_or xs i [] ++ t ∷ ts))) (first + (i + 1)) (linear + length (t ∷ ts)) values nodes suffixes
row_reached {c = c} {before = before} {n = n} {head = head} {letter = letter} {put = put} xs i t ts r vars lt low room s =
    let terms : List Term = t ∷ ts in
    let k : ℕ = length terms in
    let h = head i k in
    let words : WordLine = lettered letter i ∷ decimal k ∷ [] in
    terms_reached c.n_var false true words h terms (r.fine before i k lt (omega arith) s.done s.ranks) (r.terms i k) vars low (fresh_none [] terms) room refl (omega arith) (omega (arith, r.ranks i k))
    (λ pairs. r.said xs i k n words terms ∙ ap (λ ys. put (slice_set xs i (get_or xs i [] ++ ys))) pairs) s

pub rows_reached : {o : List ℤ} {c : Counts} {before : List Piece} {n linear values nodes suffixes : ℕ}
    {head : ℕ → ℕ → Head} {letter : List ℕ} {put : List (List Term) → Draft} {first : ℕ} (rows : List (List Term))
    → IsRowSection c head letter put (length rows) first → c.n_var ≤ 2 ^ 20
    → ((k : ℕ) (ts : List Term) → slice_get rows k ≡ Some ts → AllByRecursion (IsTermBelow c.n_var) ts)
    → linear + term_count rows ≤ most_terms → nodes ≤ 2 ^ 22
    → IsStanding o c before (put (replicate (length rows) [])) (first + 0) linear values nodes suffixes
    → Reaches o c before n (by_number (term_piece letter) 0 rows) (put rows) (first + length rows) (linear + term_count rows) values nodes suffixes
rows_reached {o = o} {c = c} {values = values} {suffixes = suffixes} {letter = letter} {put = put} {first = first} rows r vars low room few s =
    same_reach (steps_reached (term_piece letter) (λ i. put (filled rows [] i)) (λ i. first + i) (length {A = Term})
    (λ ts. 0) rows step [] rows 0 refl refl _ _ _ _ room (omega (arith, few, no_sum rows))
    (same_standing s (ap put (sym (filled-none rows []))) refl refl refl refl))
    (ap put (filled-all rows [])) refl refl (omega (arith, no_sum rows)) refl
  where
    step : (i : ℕ) (x : List Term) (before : List Piece) (n linear nodes : ℕ) → slice_get rows i ≡ Some x
        → linear + length x ≤ most_terms → nodes + 0 ≤ 2 ^ 22
        → IsStanding o c before (put (filled rows [] i)) (first + i) linear values nodes suffixes
        → Reaches o c before n (term_piece letter i x) (put (filled rows [] (i + 1))) (first + (i + 1)) (linear + length x) values (nodes + 0) suffixes
    step i [] before n linear nodes at room few s = reaches_none (standing_as s (omega arith) (ap put (filled-same rows [] i at)) (omega arith) refl (omega arith) refl)
    step i (t ∷ ts) before n linear nodes at room few s =
        let x : List Term = t ∷ ts in
        let place : slice_set (filled rows [] i) i (get_or (filled rows [] i) i [] ++ x) ≡ filled rows [] (i + 1) =
        ap (λ y. slice_set (filled rows [] i) i (y ++ x)) (filled-get rows [] x i at) ∙ filled-set rows [] x i at in
        same_reach (row_reached (filled rows [] i) i t ts r vars (slice_get_within rows i x at) (low i x at) room s) (ap put place) refl refl (omega arith) refl

-- ---- constraints

pub terms_section : (c : Counts) (d : Draft) (rows : ℕ) → c.n_con ≤ 2 ^ 20 → rows ≡ c.n_con → IsRowSection c Terms (codes "J") (λ xs. record d { terms = xs }) rows (9 * 2 ^ 32)
unfolding head_of is_in_range
terms_section c d rows most same = record {
  ranks = λ i k. refl;
  terms = λ i k. record {
    alone = record { kind = refl; count = refl; alone = refl; columns = λ p. refl };
    size = refl;
    limit_is = refl;
    any_value = refl;
    once_is = refl;
    linear_is = refl;
    no_suffix = refl;
  };
  said = λ xs i k n words ts. refl;
  fine = λ before i k lt few done ranks.
      let small : i < 2 ^ 31 = omega (arith, lt, same, most) in
      counted_head 74 i k (Terms i k) (omega arith) small few (refl, refl, refl) (rw (whole_of-decimal i small, whole_of-decimal k few) refl) done
      (rw (lt-ltb i c.n_con (omega (arith, lt, same)), not_repeated before (Terms i k) [] ranks) refl);
}

-- ---- objectives

pub slopes_section : (c : Counts) (d : Draft) (rows : ℕ) → c.n_obj ≤ 2 ^ 20 → rows ≡ c.n_obj → IsRowSection c Slopes (codes "G") (λ xs. record d { slopes = xs }) rows (10 * 2 ^ 32)
unfolding head_of is_in_range
slopes_section c d rows most same = record {
  ranks = λ i k. refl;
  terms = λ i k. record {
    alone = record { kind = refl; count = refl; alone = refl; columns = λ p. refl };
    size = refl;
    limit_is = refl;
    any_value = refl;
    once_is = refl;
    linear_is = refl;
    no_suffix = refl;
  };
  said = λ xs i k n words ts. refl;
  fine = λ before i k lt few done ranks.
      let small : i < 2 ^ 31 = omega (arith, lt, same, most) in
      counted_head 71 i k (Slopes i k) (omega arith) small few (refl, refl, refl) (rw (whole_of-decimal i small, whole_of-decimal k few) refl) done
      (rw (lt-ltb i c.n_obj (omega (arith, lt, same)), not_repeated before (Slopes i k) [] ranks) refl);
}

-- ---- a suffix

abbrev pub suffix_words : Suffix → WordLine
suffix_words s = lettered (codes "S") s.kind ∷ decimal (length s.values) ∷ s.name ∷ []

abbrev pub suffix_head_of : Suffix → Head
suffix_head_of s = SuffixHead s.kind (length s.values)

abbrev pub suffix_at : ℕ → Suffix → Piece
suffix_at n s = pair_piece n (suffix_words s) (suffix_head_of s) s.values

-- a name is a word
name_parts : (name : List ℕ) → is_name name ≡ true → (slice_index name 0 == 35) ≡ false → IsKeptWord name
name_parts name e front =
    let two = and_parts (not (length name == 0) && nat_le (length name) 255) _ e in
    let some = and_parts (not (length name == 0)) (nat_le (length name) 255) two.0 in
    record { is = record { some = not_none (length name) some.0; bytes = two.1 }; front = front }
  where
    not_none : (k : ℕ) → not (k == 0) ≡ true → 0 < k
    not_none k e = grind (arith, nat_tests)

suffix_head_fine : (c : Counts) (before : List Piece) (s : Suffix) → IsWritableSuffix s → awaited_of c before ≡ Nothing
    → is_repeated before (suffix_head_of s) s.name ≡ false → suffix_count before < 1024
    → IsHeadFine c before (suffix_words s) (suffix_head_of s)
unfolding head_of is_in_range
suffix_head_fine c before s w done new few =
    let kind : s.kind < 2 ^ 31 = let k = w.kind in omega arith in
    record {
      written = written-three (lettered (codes "S") s.kind) (decimal (length s.values)) s.name
          (word-lettered 83 s.kind (omega arith) (lt_trans kind (lit< tt)))
          (word-decimal (length s.values) (lt_trans w.count (lit< tt))) (name_parts s.name w.name w.no_comment);
      form = (refl, refl, refl);
      read = rw (w.name, whole_of-decimal s.kind kind, whole_of-decimal (length s.values) w.count, lt-ltb s.kind 256 w.kind) refl;
      done = done;
      fine = rw (w.no_sets, new, lt-leb 1024 (suffix_count before) few) refl;
    }

-- ---- one more suffix

abbrev pub with_suffix : Draft → Suffix → Draft
with_suffix d s = record d { suffixes = d.suffixes ++ s ∷ [] }

pub few_objects : (c : Counts) (kind : ℕ) → AreCounts c → object_count c kind ≤ 2 ^ 20
few_objects c kind k = by (objects_of kind)
  where
    by : (o : Objects) → count_of c.n_var c.n_con c.n_obj o ≤ 2 ^ 20
    by Variables = k.variables
    by Constraints = k.constraints
    by Objectives = omega (arith, k.objectives)
    by Problem = omega arith

pub true_or_none : (a b : Bool) → (a ≡ true → b ≡ true) → (a && not b) ≡ false
true_or_none true b h = rw (h refl) refl
true_or_none false b h = refl

values_fine : (c : Counts) (s : Suffix) → AreCounts c → IsWritableSuffix s → IsSuffix c s → AllByRecursion (IsTermFine c (suffix_head_of s)) s.values
values_fine c s k fits is =
    let few = few_objects c s.kind k in
    recursion_from_All (IsTermFine c (suffix_head_of s)) s.values (λ i t lt.
    let low = is.below i t lt in
    record { small = omega (arith, low, few); below = low; whole = true_or_none (kind_wants_whole s.kind) (is_whole (get_or s.values i t).1) (λ w. fits.whole w i t lt) })

-- a suffix that stands apart from those before it
fresh_suffix : (known xs : List Suffix) (x : Suffix) → AllPairs (λ s t. is_suffix_of t.kind t.name s ≡ false) (known ++ x ∷ xs) → has_suffix known x.kind x.name ≡ false
fresh_suffix known xs x apart =
    let size = length-append known (x ∷ xs) in
    list_any_none (is_suffix_of x.kind x.name) known
    (λ i d lt. ap₂ (λ s t. is_suffix_of t.kind t.name s) (sym (get_or_append_left known (x ∷ xs) d i lt))
    (sym (get_or_at known x xs d (length known) refl)) ∙ apart i (length known) d lt (omega arith))

suffix_more : (o : List ℤ) (c : Counts) (before : List Piece) (d : Draft) (n linear values nodes suffixes : ℕ)
    (x : Suffix) → d.counts ≡ c → is_repeated before (suffix_head_of x) x.name ≡ false → AreCounts c
    → IsWritableSuffix x × IsSuffix c x
    → values + length x.values ≤ most_terms → suffixes < 1024 → IsStanding o c before d (rank (DefinitionHead 0 0 0)) linear values nodes suffixes
    → Adds o c before n (suffix_piece x) (suffix_at n x) (with_suffix d x) (rank (DefinitionHead 0 0 0)) linear (values + length x.values) nodes (suffixes + 1)
suffix_more o c before d n linear values nodes suffixes x counts new k r room few s =
    let words = suffix_words x in
    let head = suffix_head_of x in
    let small : All (λ t. t.0 < 2 ^ 31) x.values = λ i t lt. let low = r.1.below i t lt in let most = few_objects c x.kind k in omega (arith, low, most) in
    let may : MayTake c before (begun_piece n words head) x.values = record {
      each = values_fine c x k r.0 r.1;
      fresh = subst (λ seen. AreFresh true seen x.values) (sym (begun_pairs n words head)) (fresh_apart [] x.values r.1.apart);
      linear = λ e. absurd cc;
      values = λ e. omega (arith, s.values_are, room, no_more n words head);
    } in
    pairs_added words head x.values (suffix_head_fine c before x r.0 s.done new (omega (arith, s.suffixes_are, few))) (record { kind = refl; count = refl; alone = refl; columns = λ p. refl }) refl may
    (recursion_from_All (λ t. t.0 < 2 ^ 31) x.values small) (omega arith) (omega arith)
    (λ pairs done. said_whole d _ (suffix_at n x) (rw (counts, done) refl) ∙ ap (λ ts. with_suffix d (record { kind = x.kind; name = x.name; values = ts })) pairs)
    (λ e. omega arith) (λ e. ap (λ k. values + k) e) refl s

-- ---- all suffixes

suffix_repeated : (before : List Piece) (n kind count : ℕ) (name : List ℕ) (known : List Suffix) (x : Suffix) → is_repeated before (SuffixHead kind count) name ≡ has_suffix known kind name
    → is_repeated (before ++ suffix_at n x ∷ []) (SuffixHead kind count) name ≡ has_suffix (known ++ x ∷ []) kind name
suffix_repeated before n kind count name known x e =
    list_any-append (is_same_piece (SuffixHead kind count) name) before (suffix_at n x ∷ [])
    ∙ ap₂ (λ a b. a || (b && bytes_eq x.name name || false)) e (same_objects-comm kind x.kind)
    ∙ sym (list_any-append (is_suffix_of kind name) known (x ∷ []))

pub suffixes_reached : {o : List ℤ} {c : Counts} {before : List Piece} {d : Draft} {n linear values nodes suffixes : ℕ} (known xs : List Suffix) → d.counts ≡ c → d.suffixes ≡ known
    → ((kind count : ℕ) (name : List ℕ) → is_repeated before (SuffixHead kind count) name ≡ has_suffix known kind name)
    → AreCounts c → AllByRecursion (λ s. IsWritableSuffix s × IsSuffix c s) xs
    → AllPairs (λ s t. is_suffix_of t.kind t.name s ≡ false) (known ++ xs)
    → values + sum_by (λ x. length x.values) xs ≤ most_terms → suffixes + length xs ≤ 1024 → IsStanding o c before d (rank (DefinitionHead 0 0 0)) linear values nodes suffixes
    → Reaches o c before n (flat_map suffix_piece xs) (record d { suffixes = known ++ xs })
    (rank (DefinitionHead 0 0 0)) linear (values + sum_by (λ x. length x.values) xs) nodes (suffixes + length xs)
suffixes_reached {d = d} known [] counts are rep k fits apart room few s =
    reaches_none (same_standing s (λ j. record d { suffixes = (are ∙ sym (append-nil known)) j }) refl (omega arith) refl (omega arith))
suffixes_reached {o = o} {c = c} {before = before} {d = d} {n = n} {linear = linear} {values = values} {nodes = nodes} {suffixes = suffixes} known (x ∷ xs) counts are rep k fits apart room few s =
    let p = suffix_at n x in
    let total = sum_by-cons (λ (x : Suffix). length x.values) x xs in
    let new : is_repeated before (suffix_head_of x) x.name ≡ false = rep x.kind (length x.values) x.name ∙ fresh_suffix known xs x apart in
    let one = suffix_more o c before d n linear values nodes suffixes x counts new k fits.0 (omega (arith, room, total)) (omega (arith, few)) s in
    let more = suffixes_reached {before = before ++ p ∷ []} {n = n + length (suffix_piece x)} (known ++ x ∷ []) xs counts (ap (λ ss. ss ++ x ∷ []) are)
    (λ kind count name. suffix_repeated before n kind count name known x (rep kind count name)) k fits.1
    (subst (AllPairs (λ s t. is_suffix_of t.kind t.name s ≡ false)) (sym (append_assoc known (x ∷ []) xs)) apart)
    (omega (arith, room, total)) (omega (arith, few)) one.stands in
    same_reach (added_then p refl one more) (ap (λ ss. record d { suffixes = ss }) (append_assoc known (x ∷ []) xs)) refl (omega (arith, total)) refl (omega arith)
