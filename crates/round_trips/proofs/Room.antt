-- No written line of a file that keeps the rules of values is too long, and its text has room for what it says.
use Rattle.std.proofs.Common.{◌≡◌, ◌≢◌, ◌∙◌, ℕ, zero, suc, ◌+◌, ◌*◌, ◌^◌, ◌<◌, ◌≤◌, Bool, true, false, cond, not, ◌&&◌}
use Rattle.std.proofs.Common.{◌==◌, ℤ, List, [], ◌∷◌, ◌++◌, length, get_or, map, All, AllPairs, refl, sym, ap, subst}
use Rattle.std.proofs.Common.{arith, Option, Some, None, nat_le, lt_trans, lit<, length-append}
use Rattle.std.specs.Prelude.{IfSome, IsTrue, codes, sum_by}
use Rattle.std.specs.List.{AllByRecursion, list_all, flat_map}
use Rattle.std.specs.Fmt.{decimal, signed_decimal}
use Rattle.std.specs.Option.{option_map_or}
use Rattle.std.proofs.lemmas.Bool.{eqb-true, leb-true, and_parts}
use Rattle.std.proofs.lemmas.Bool.Decides.{Decides-eqb}
use Rattle.std.proofs.lemmas.Grind.{flat_map-append}
use Rattle.std.proofs.lemmas.List.{get_or-map, length-map}
use Rattle.std.proofs.lemmas.List.Elements.{All-contains, All-map, All-tail, All-from_recursion, recursion_from_All}
use Rattle.std.proofs.lemmas.List.Sums.{get_or-le-sum_by, sum_by-cons}
use Rattle.std.proofs.lemmas.Map.Made.{IsDistinct-from_AllPairs}
use Rattle.std.proofs.lemmas.Map.Views.{Contains-from_any}
use Rattle.std.proofs.lemmas.Map.Steps.{length-le_from_distinct_below}
use Rattle.text_base.specs.Names.{is_name, has_name_bytes}
use Rattle.exact_numbers.specs.declared.dec.Dec.{Dec}
use Rattle.exact_numbers.specs.Numbers.{has_31_bits}
use Rattle.code_tables.specs.Opcodes.{operands_of}
use Rattle.nl_model.specs.Trees.{Tree, number, variable, defined, operator, tree_size}
use Rattle.nl_model.specs.declared.header_counts.Counts.{Counts}
use Rattle.linear_program.specs.declared.interval.Interval.{Interval}
use Rattle.nl_model.specs.declared.node.Node.{Node}
use Rattle.nl_model.specs.declared.node.Node.TheVariants.{Num, Var, Defined, Op}
use Rattle.nl_model.specs.File.{Term, File}
use Rattle.nl_model.specs.declared.objective.Objective.{Objective}
use Rattle.nl_model.specs.declared.definition.Def.{Def as Definition}
use Rattle.nl_model.specs.declared.suffix.Suffix.{Suffix}
use Rattle.nl_model.specs.HeaderRules.{is_header, defined_count, AreCounts}
use Rattle.nl_model.specs.Rules.{AreTermsBelow, IsDefinition, AreDefinitions, AreGuesses, AreIndicesApart, IsTreeKnown, IsFile, IsSuffix, object_count, term_count, most_terms}
use Rattle.nl_model.proofs.Headers.{counts_of_header}
use Rattle.nl_model.specs.UseCounts.{terms_up_to}
use Rattle.text_base.specs.WordLines.{WordLine, line_text, lines_text, spaced}
use Rattle.exact_numbers.specs.Values.{text_of}
use Rattle.written_texts.proofs.Lengths.{decimal-length, signed_31-length, text-length}
use Rattle.written_texts.proofs.LineLemmas.{spaced-length}
use Rattle.nl_writer.specs.Trees.{is_counted, tree_lines, node_lines}
use Rattle.nl_writer.specs.Written.{numbers, options_line, header_lines, lettered, term_line, term_lines, by_number}
use Rattle.nl_writer.specs.Written.{suffix_piece, definition_piece, body_piece, sense_word, objective_piece}
use Rattle.nl_writer.specs.Written.{guess_piece, is_same, sides_line, interval_line, interval_piece, column_lines}
use Rattle.nl_writer.specs.Written.{column_piece, term_piece, nl_lines}
use Rattle.nl_writer.proofs.Writing.{node_lines-prefix}
use Rattle.round_trips.specs.Writable.{HasNodes, HasRoom, IsWithinLimits, IsWritable, IsWritableSuffix, linear_count, node_count, value_count}
use Rattle.round_trips.proofs.LineSections.{up_to_most}
use Rattle.round_trips.proofs.TreesTaken.{IsPlainDefinition, IsSized, range_more}
use Rattle.round_trips.proofs.HeaderSaid.{IsSmall, header_ready, header_each}
use Rattle.round_trips.proofs.NodesTaken.{IsNodeFine, opcode_small, definitions_in_range, nodes_fine, nodes-size}
use Rattle.round_trips.proofs.PairSections.{few_objects}
use Rattle.text_base.proofs.AllLemmas.{all_append}

-- ---- lines

abbrev pub IsShort : WordLine → Type 0
IsShort line = length (spaced line) ≤ 65536

-- no line is too long, and the text of the lines has at most so many bytes
pub record Fits (most : ℕ) (lines : List WordLine) : Type 0 where
  pub each : AllByRecursion IsShort lines
  pub size : length (lines_text lines) ≤ most

none_fit : {most : ℕ} → Fits most []
none_fit = record { each = tt; size = omega arith }

more_room : {a b : ℕ} {lines : List WordLine} → Fits a lines → a ≤ b → Fits b lines
more_room h le = record { each = h.each; size = omega (arith, h.size, le) }

-- one line more, of fewer bytes
one_more : {rest all : ℕ} {lines : List WordLine} (most : ℕ) (line : WordLine) → length (spaced line) < most → most ≤ 65537 → Fits rest lines → most + rest ≤ all → Fits all (line ∷ lines)
one_more {lines = lines} most line here short more le = record {
  each = (omega arith, more.each);
  size = omega (arith, more.size, length-append (line_text line) (lines_text lines), length-append (spaced line) (10 ∷ []));
}

one_line : {all : ℕ} (most : ℕ) (line : WordLine) → length (spaced line) < most → most ≤ 65537 → most ≤ all → Fits all (line ∷ [])
one_line most line here short le = one_more {rest = 0} most line here short none_fit (omega arith)

text-append : (xs ys : List WordLine) → length (lines_text (xs ++ ys)) ≡ length (lines_text xs) + length (lines_text ys)
text-append xs ys = ap length (flat_map-append line_text xs ys) ∙ length-append (lines_text xs) (lines_text ys)

both : {a b : ℕ} {xs ys : List WordLine} → Fits a xs → Fits b ys → Fits (a + b) (xs ++ ys)
both {xs = xs} {ys = ys} h k = record { each = all_append IsShort xs ys h.each k.each; size = omega (arith, h.size, k.size, text-append xs ys) }

mapped : {X : Type 0} (most : ℕ) (f : X → WordLine) (xs : List X) → most ≤ 65537 → All (λ x. length (spaced (f x)) < most) xs → Fits (most * length xs) (map f xs)
mapped most f [] short all = none_fit
mapped most f (x ∷ xs) short all = one_more most (f x) (all 0 x (omega arith)) short (mapped most f xs short (All-tail (λ x. length (spaced (f x)) < most) x xs all)) (omega arith)

numbered : {X : Type 0} (w : X → ℕ) (piece : ℕ → X → List WordLine) (i : ℕ) (xs : List X)
    → ((j : ℕ) → j < 2 ^ 20 → All (λ x. Fits (96 * w x) (piece j x)) xs) → i + length xs ≤ 2 ^ 20
    → Fits (96 * sum_by w xs) (by_number piece i xs)
numbered w piece i [] each few = none_fit
numbered w piece i (x ∷ xs) each few =
    more_room (both (each i (omega arith) 0 x (omega arith)) (numbered w piece (i + 1) xs (λ j lt. All-tail (λ x. Fits (96 * w x) (piece j x)) x xs (each j lt)) (omega arith)))
    (omega (arith, sum_by-cons w x xs))

number_brief : (n : ℕ) → n < 2 ^ 32 → length (decimal n) ≤ 10
number_brief n small = decimal-length n (lt_trans small (lit< tt))

-- ---- the header

abbrev IsBrief : List ℕ → Type 0
IsBrief word = length word ≤ 11

brief_line : (words : WordLine) → length words ≤ 12 → AllByRecursion IsBrief words → IsShort words
brief_line words few all = let most = spaced-length 11 words all in omega (arith, few, most)

briefly : (ns : List ℕ) → AllByRecursion (λ n. n < 2 ^ 31) ns → AllByRecursion IsBrief (numbers ns)
briefly [] all = tt
briefly (n ∷ ns) all = (let most = number_brief n (lt_trans all.0 (lit< tt)) in omega (arith, most), briefly ns all.1)

signed_brief : (zs : List ℤ) → AllByRecursion IsSmall zs → AllByRecursion IsBrief (map signed_decimal zs)
signed_brief [] all = tt
signed_brief (z ∷ zs) all = (signed_31-length z all.0, signed_brief zs all.1)

options_short : (os : List ℤ) → length os ≤ 4 → AllByRecursion IsSmall os → IsShort (options_line os)
options_short os few all =
    let count = number_brief (length os) (omega (arith, few)) in
    brief_line (options_line os) (omega (arith, few, length-map os signed_decimal)) (omega (arith, count), signed_brief os all)

short_lines : (lines : List WordLine) → AllByRecursion IsShort lines → Fits (65537 * length lines) lines
short_lines [] all = none_fit
short_lines (line ∷ lines) all = let here : length (spaced line) ≤ 65536 = all.0 in one_more 65537 line (omega (arith, here)) (omega arith) (short_lines lines all.1) (omega arith)

header_fits : (os : List ℤ) (c : Counts) → IsTrue (is_header os c) → list_all has_31_bits os ≡ true → Fits (65537 * 10) (header_lines os c)
header_fits os c h small =
    let ready = header_ready os c h small in
    short_lines (header_lines os c)
    (header_each IsShort os c ready (options_short os ready.few ready.all_small) (λ ns some few all. brief_line (numbers ns) (omega (arith, few, length-map ns decimal)) (briefly ns all)))

-- ---- terms

terms_fit : (n : ℕ) (ts : List Term) → n ≤ 2 ^ 20 → AreTermsBelow n ts → Fits (72 * length ts) (term_lines ts)
terms_fit n ts few below = mapped 72 term_line ts (omega arith) (λ k t lt. short (get_or ts k t) (below k t lt))
  where
    short : (t : Term) → t.0 < n → length (spaced (term_line t)) < 72
    short t low =
        let index = number_brief t.0 (omega (arith, low, few)) in
        let value = text-length t.1 in
        omega (arith, index, value, length-append (decimal t.0) (32 ∷ text_of t.1))

-- the terms of a row, with its head
row_fits : (b n i : ℕ) (ts : List Term) → n ≤ 2 ^ 20 → i < 2 ^ 20 → AreTermsBelow n ts → length ts ≤ most_terms → Fits (96 * length ts) (term_piece (b ∷ []) i ts)
row_fits b n i [] le lt below few = none_fit
row_fits b n i (t ∷ ts) le lt below few =
    let place = number_brief i (omega (arith, lt)) in
    let count = number_brief (length (t ∷ ts)) (omega (arith, few)) in
    one_more 24 ((b ∷ decimal i) ∷ decimal (length (t ∷ ts)) ∷ []) (omega (arith, place, count, length-append (b ∷ decimal i) (32 ∷ decimal (length (t ∷ ts))))) (omega arith)
    (terms_fit n (t ∷ ts) le below) (omega arith)

-- ---- indices that are apart and below n are at most n

few_terms : (n : ℕ) (ts : List Term) → AreTermsBelow n ts → AreIndicesApart ts → length ts ≤ n
few_terms n [] below apart = omega arith
few_terms n (t ∷ ts) below apart =
    let index : Term → ℕ = λ t. t.0 in
    let same = length-map (t ∷ ts) index in
    let different : AllPairs (λ x y. x ≢ y) (map index (t ∷ ts)) = λ i j d lt inside e.
    let in_j : j < length (t ∷ ts) = omega (arith, inside, same) in
    let in_i : i < length (t ∷ ts) = omega (arith, in_j, lt) in
    apart i j t lt in_j (sym (get_or-map index (t ∷ ts) i t d in_i) ∙ e ∙ get_or-map index (t ∷ ts) j t d in_j) in
    let all = length-le_from_distinct_below (map index (t ∷ ts)) n (IsDistinct-from_AllPairs Decides-eqb (map index (t ∷ ts)) different)
    (λ q e. All-contains (λ k. k < n) (map index (t ∷ ts)) q (All-map (λ k. k < n) index (t ∷ ts) below) (Contains-from_any eqb-true q (map index (t ∷ ts)) e)) in
    omega (arith, same, all)

guesses_fit : (b n : ℕ) (ts : List Term) → n ≤ 2 ^ 20 → AreGuesses n ts → Fits (2 ^ 27) (guess_piece (b ∷ []) ts)
guesses_fit b n [] le h = none_fit
guesses_fit b n (t ∷ ts) le h =
    let most = few_terms n (t ∷ ts) h.below h.apart in
    let count = number_brief (length (t ∷ ts)) (omega (arith, most, le)) in
    one_more 12 ((b ∷ decimal (length (t ∷ ts))) ∷ []) (omega (arith, count)) (omega arith) (terms_fit n (t ∷ ts) le h.below) (omega (arith, most, le))

-- ---- expressions

node_fits : (c : Counts) (ds : List Definition) (m : Node) → AreCounts c → IsNodeFine c ds m → Fits 62 (node_lines m)
node_fits c ds (Num d) k h = let value = text-length d in one_line 62 ((codes "n" ++ text_of d) ∷ []) (omega (arith, value)) (omega arith) (omega arith)
node_fits c ds (Var j) k h = let index = number_brief j (omega (arith, h, k.variables)) in one_line 62 ((codes "v" ++ decimal j) ∷ []) (omega (arith, index)) (omega arith) (omega arith)
node_fits c ds (Defined i) k h =
    let index = number_brief i (omega (arith, h.1, k.variables, k.defined)) in one_line 62 ((codes "v" ++ decimal i) ∷ []) (omega (arith, index)) (omega arith) (omega arith)
node_fits c ds (Op o n) k h = by (is_counted (operands_of o))
  where
    opcode : length (spaced ((codes "o" ++ decimal o) ∷ [])) < 20
    opcode = let most = opcode_small o n h.0 in let word = number_brief o (omega (arith, most)) in omega (arith, word)

    count : Fits 20 ((decimal n ∷ []) ∷ [])
    count = let word = number_brief n (omega (arith, h.1)) in one_line 20 (decimal n ∷ []) (omega (arith, word)) (omega arith) (omega arith)

    by : (b : Bool) → Fits 62 (cond b (((codes "o" ++ decimal o) ∷ []) ∷ (decimal n ∷ []) ∷ []) (((codes "o" ++ decimal o) ∷ []) ∷ []))
    by true = one_more 20 ((codes "o" ++ decimal o) ∷ []) opcode (omega arith) count (omega arith)
    by false = one_line 20 ((codes "o" ++ decimal o) ∷ []) opcode (omega arith) (omega arith)

nodes_fit : (c : Counts) (ds : List Definition) (ms : List Node) → AreCounts c → AllByRecursion (IsNodeFine c ds) ms → Fits (62 * length ms) (flat_map node_lines ms)
nodes_fit c ds [] k all = none_fit
nodes_fit c ds (m ∷ ms) k all = more_room (both (node_fits c ds m k all.0) (nodes_fit c ds ms k all.1)) (omega arith)

tree_fits : (c : Counts) (ds : List Definition) (t : Tree) → IsSized c ds → HasNodes t → IsTreeKnown c.n_var ds t → tree_size t ≤ 2 ^ 22 → Fits (62 * tree_size t) (tree_lines t)
tree_fits c ds t k h is few =
    let size = nodes-size t h.nodes h.prefix in
    let fine = nodes_fine t h.nodes h.prefix c ds k.range is.within (omega (arith, size, few)) in
    subst (Fits (62 * tree_size t)) (node_lines-prefix t h.nodes h.prefix) (more_room (nodes_fit c ds h.nodes k.counts fine) (omega (arith, size)))

some_node : (t : Tree) → 1 ≤ tree_size t
some_node (number m e) = omega arith
some_node (variable j) = omega arith
some_node (defined i) = omega arith
some_node (operator c ts) = omega arith

-- a tree with its head
headed : (c : Counts) (ds : List Definition) (t : Tree) (head : WordLine) → IsSized c ds → HasNodes t
    → IsTreeKnown c.n_var ds t → tree_size t ≤ 2 ^ 22 → length (spaced head) < 34
    → Fits (96 * tree_size t) (head ∷ tree_lines t)
headed c ds t head k h is few line = let some = some_node t in one_more 34 head line (omega arith) (tree_fits c ds t k h is few) (omega (arith, some))

body_fits : (c : Counts) (ds : List Definition) (i : ℕ) (b : Option Tree) → IsSized c ds → i < 2 ^ 20
    → IfSome b HasNodes → IfSome b (IsTreeKnown c.n_var ds) → option_map_or tree_size b 0 ≤ 2 ^ 22
    → Fits (96 * option_map_or tree_size b 0) (body_piece i b)
body_fits c ds i None k lt nodes is few = none_fit
body_fits c ds i (Some t) k lt nodes is few = let word = number_brief i (omega (arith, lt)) in headed c ds t (lettered (codes "C") i ∷ []) k nodes is few (omega (arith, word))

sense_word-length : (b : Bool) → length (sense_word b) ≡ 1
sense_word-length true = refl
sense_word-length false = refl

objective_fits : (c : Counts) (ds : List Definition) (i : ℕ) (o : Objective) → IsSized c ds → i < 2 ^ 20
    → HasNodes o.tree → IsTreeKnown c.n_var ds o.tree → tree_size o.tree ≤ 2 ^ 22
    → Fits (96 * tree_size o.tree) (objective_piece i o)
objective_fits c ds i o k lt nodes is few =
    let word = number_brief i (omega (arith, lt)) in
    let sense = sense_word-length o.maximise in
    headed c ds o.tree (lettered (codes "O") i ∷ sense_word o.maximise ∷ []) k nodes is few (omega (arith, word, sense, length-append (lettered (codes "O") i) (32 ∷ sense_word o.maximise)))

-- ---- definitions

definition_fits : (c : Counts) (known : List Definition) (d : Definition) → IsSized c known → IsPlainDefinition d
    → tree_size d.tree ≤ 2 ^ 22 → IsDefinition c.n_var (defined_count c) known d
    → Fits (96 * tree_size d.tree + 72 * length d.terms) (definition_piece d)
definition_fits c known d k h size is =
    let index = number_brief d.index (omega (arith, is.below, k.counts.variables, k.counts.defined)) in
    let count = number_brief (length d.terms) (omega (arith, is.few)) in
    let usage = number_brief d.usage (lt_trans h.usage (lit< tt)) in
    let first = lettered (codes "V") d.index in
    let some = some_node d.tree in
    one_more 34 (first ∷ decimal (length d.terms) ∷ decimal d.usage ∷ [])
    (omega (arith, index, count, usage, length-append first (32 ∷ decimal (length d.terms) ++ 32 ∷ decimal d.usage), length-append (decimal (length d.terms)) (32 ∷ decimal d.usage))) (omega arith)
    (both (terms_fit c.n_var d.terms k.counts.variables is.terms) (tree_fits c known d.tree k h.nodes is.tree size)) (omega (arith, some))

definitions_fit : (c : Counts) (known ds : List Definition) → IsSized c known
    → AreDefinitions c.n_var (defined_count c) known ds → AllByRecursion
    (λ d. IsPlainDefinition d × (tree_size d.tree ≤ 2 ^ 22)) ds
    → Fits (96 * sum_by (λ d. tree_size d.tree) ds + 72 * sum_by (λ d. length d.terms) ds) (flat_map definition_piece ds)
definitions_fit c known [] k are plain = none_fit
definitions_fit c known (d ∷ ds) k are plain =
    let next : IsSized c (known ++ d ∷ []) = record { counts = k.counts; range = range_more c.n_var (defined_count c) known d k.range are.0.from are.0.below } in
    more_room (both (definition_fits c known d k plain.0.0 plain.0.1 are.0)
    (definitions_fit c (known ++ d ∷ []) ds next are.1 plain.1))
    (omega (arith, sum_by-cons (λ d. tree_size d.tree) d ds, sum_by-cons (λ d. length d.terms) d ds))

-- ---- suffixes

name_brief : (name : List ℕ) → is_name name ≡ true → length name ≤ 255
name_brief name e =
    let front = and_parts (not (length name == 0) && nat_le (length name) 255) (has_name_bytes name) e in
    leb-true (length name) 255 (and_parts (not (length name == 0)) (nat_le (length name) 255) front.0).1

suffix_fits : (c : Counts) (s : Suffix) → AreCounts c → IsWritableSuffix s × IsSuffix c s → Fits (340 + 72 * length s.values) (suffix_piece s)
suffix_fits c s k h =
    let kind = number_brief s.kind (omega (arith, h.0.kind)) in
    let count = number_brief (length s.values) (lt_trans h.0.count (lit< tt)) in
    let name = name_brief s.name h.0.name in
    let first = lettered (codes "S") s.kind in
    one_more 340 (first ∷ decimal (length s.values) ∷ s.name ∷ [])
    (omega (arith, kind, count, name, length-append first (32 ∷ decimal (length s.values) ++ 32 ∷ s.name), length-append (decimal (length s.values)) (32 ∷ s.name))) (omega arith)
    (terms_fit (object_count c s.kind) s.values (few_objects c s.kind k) h.1.below) (omega arith)

suffixes_fit : (c : Counts) (ss : List Suffix) → AreCounts c
    → AllByRecursion (λ s. IsWritableSuffix s × IsSuffix c s) ss
    → Fits (340 * length ss + 72 * sum_by (λ s. length s.values) ss) (flat_map suffix_piece ss)
suffixes_fit c [] k h = none_fit
suffixes_fit c (s ∷ ss) k h = more_room (both (suffix_fits c s k h.0) (suffixes_fit c ss k h.1)) (omega (arith, sum_by-cons (λ s. length s.values) s ss))

-- ---- intervals and columns

side_short : (lo hi : Option Dec) → length (spaced (sides_line lo hi)) < 124
side_short None None = omega arith
side_short None (Some hi) = let top = text-length hi in omega (arith, top)
side_short (Some lo) None = let low = text-length lo in omega (arith, low)
side_short (Some lo) (Some hi) = by (is_same lo hi)
  where
    by : (b : Bool) → length (spaced (cond b (codes "4" ∷ text_of lo ∷ []) (codes "0" ∷ text_of lo ∷ text_of hi ∷ []))) < 124
    by true = let low = text-length lo in omega (arith, low)
    by false = let low = text-length lo in let top = text-length hi in omega (arith, low, top, length-append (text_of lo) (32 ∷ text_of hi))

intervals_fit : (b n : ℕ) (is : List Interval) → n ≤ 2 ^ 20 → length is ≡ n → Fits (2 ^ 27) (interval_piece (b ∷ []) is)
intervals_fit b n [] le count = none_fit
intervals_fit b n (i ∷ is) le count =
    one_more 2 ((b ∷ []) ∷ []) (omega arith) (omega arith) (mapped 124 interval_line (i ∷ is) (omega arith)
    (λ k j lt. side_short (get_or (i ∷ is) k j).lo (get_or (i ∷ is) k j).hi)) (omega (arith, le, count))

columns_fit : (rows : List (List Term)) (j n : ℕ) → term_count rows ≤ most_terms → Fits (11 * n) (column_lines rows j n)
columns_fit rows j zero few = none_fit
columns_fit rows j (suc n) few =
    let word = number_brief (terms_up_to rows j) (omega (arith, up_to_most rows j, few)) in
    one_more 11 (decimal (terms_up_to rows j) ∷ []) (omega (arith, word)) (omega arith) (columns_fit rows (j + 1) n few) (omega arith)

column_fits : (n : ℕ) (rows : List (List Term)) → n ≤ 2 ^ 20 → term_count rows ≤ most_terms → Fits (2 ^ 24) (column_piece n rows)
column_fits zero rows le few = none_fit
column_fits (suc n) rows le few =
    let word = number_brief n (omega (arith, le)) in
    one_more 12 (lettered (codes "k") n ∷ []) (omega (arith, word)) (omega arith) (columns_fit rows 0 n few) (omega (arith, le))

-- ---- the file

lines_fit : (f : File) → IsFile f → IsWithinLimits f → Fits (655370 + 340 * length f.suffixes + 72 * value_count f + 96 * node_count f + 96 * linear_count f + 2 ^ 29 + 2 ^ 24) (nl_lines f)
lines_fit f file m =
    let c = f.counts in
    let k = counts_of_header f.options c file.ruled in
    let n = c.n_var in
    let nodes : sum_by (λ d. tree_size d.tree) f.definitions + sum_by (λ b. option_map_or tree_size b 0) f.bodies + sum_by (λ o. tree_size o.tree) f.objectives ≤ 2 ^ 22 = m.few_nodes in
    let trees : IsSized c f.definitions = record { counts = k; range = definitions_in_range n (defined_count c) [] f.definitions file.definitions } in
    let suffixes = suffixes_fit c f.suffixes k (recursion_from_All (λ s. IsWritableSuffix s × IsSuffix c s) f.suffixes (λ i s lt. (m.suffixes i s lt, file.suffixes.each i s lt))) in
    let plain : All (λ d. IsPlainDefinition d × (tree_size d.tree ≤ 2 ^ 22)) f.definitions = λ i d lt.
    let size = get_or-le-sum_by (λ (d : Definition). tree_size d.tree) f.definitions i d lt in
    (record { usage = m.usages i d lt; nodes = m.trees.definitions i d lt }, omega (arith, nodes, size)) in
    let definitions = definitions_fit c [] f.definitions (record { counts = k; range = tt }) file.definitions
    (recursion_from_All (λ d. IsPlainDefinition d × (tree_size d.tree ≤ 2 ^ 22)) f.definitions plain) in
    let bodies = numbered (λ b. option_map_or tree_size b 0) body_piece 0 f.bodies (λ j small i b lt.
    let size = get_or-le-sum_by (λ b. option_map_or tree_size b 0) f.bodies i b lt in
    body_fits c f.definitions j (get_or f.bodies i b) trees small (m.trees.bodies i b lt) (file.bodies.known i b lt) (omega (arith, nodes, size))) (omega (arith, file.bodies.count, k.constraints)) in
    let objectives = numbered (λ (o : Objective). tree_size o.tree) objective_piece 0 f.objectives (λ j small i o lt.
    let size = get_or-le-sum_by (λ (o : Objective). tree_size o.tree) f.objectives i o lt in
    objective_fits c f.definitions j (get_or f.objectives i o) trees small (m.trees.objectives i o lt)
    (file.objectives.known i o lt) (omega (arith, nodes, size)))
    (omega (arith, file.objectives.count, k.objectives)) in
    let duals = guesses_fit 100 c.n_con f.dual_guesses k.constraints file.dual_guesses in
    let primals = guesses_fit 120 n f.primal_guesses k.variables file.primal_guesses in
    let sides = intervals_fit 114 c.n_con f.sides k.constraints file.side_count in
    let bounds = intervals_fit 98 n f.bounds k.variables file.bound_count in
    let columns = column_fits n f.terms k.variables file.terms.few_terms in
    let terms = numbered (length {A = Term}) (term_piece (codes "J")) 0 f.terms (λ j small i ts lt.
    let size = get_or-le-sum_by (length {A = Term}) f.terms i ts lt in
    row_fits 74 n j (get_or f.terms i ts) k.variables small (file.terms.terms_below i ts lt) (omega (arith, size, file.terms.few_terms))) (omega (arith, file.terms.rows, k.constraints)) in
    let slopes = numbered (length {A = Term}) (term_piece (codes "G")) 0 f.slopes
    (λ j small i ts lt. row_fits 71 n j (get_or f.slopes i ts) k.variables small (file.terms.slopes_below i ts lt) (file.terms.few_slopes i ts lt)) (omega (arith, file.terms.costs, k.objectives)) in
    let body = both (both (both (both (both (both (both (both (both (both suffixes definitions) bodies) objectives) duals) primals) sides) bounds) columns) terms) slopes in
    more_room (both (header_fits f.options c file.ruled m.options) body) (omega arith)

has_room : (f : File) → IsFile f → IsWithinLimits f → HasRoom f
has_room f file m =
    let all = lines_fit f file m in
    record { lines = All-from_recursion IsShort (nl_lines f) all.each; text = omega (arith, all.size, m.few_suffixes, m.few_values, m.few_terms, m.few_nodes) }

pub writable_by : (f : File) → IsFile f → IsWithinLimits f → IsWritable f
writable_by f file m = record { file = file; limits = m; room = has_room f file m }
