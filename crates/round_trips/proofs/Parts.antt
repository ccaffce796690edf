-- What complete pieces say, one after the other: options, terms, intervals, guesses, suffixes and expressions.
use Rattle.std.proofs.Common.{◌≡◌, ◌∙◌, ℕ, ◌+◌, ◌<◌, ◌≤◌, true, ℤ, List, [], ◌∷◌, ◌++◌, refl, sym, subst, nat_le}
use Rattle.std.proofs.Common.{nat_lt, slice_set, Some, append_assoc, append-nil, zero, suc, ◌^◌, length, get_or, arith}
use Rattle.std.proofs.Common.{All, length-append, Option, None}
use Rattle.std.proofs.lemmas.Bool.{ltb-true, leb-true, and_parts}
use Rattle.nl_model.specs.declared.header_counts.Counts.{Counts}
use Rattle.nl_model.specs.Draft.{Draft}
use Rattle.nl_model.specs.HeaderRules.{defined_count}
use Rattle.nl_lines.specs.declared.head.Head.{Head}
use Rattle.nl_lines.specs.declared.head.Head.TheVariants.{Body, Objective as ObjectiveHead}
use Rattle.nl_lines.specs.declared.head.Head.TheVariants.{Definition as DefinitionHead, DualGuesses, PrimalGuesses}
use Rattle.nl_lines.specs.declared.head.Head.TheVariants.{Sides, Bounds, ColumnCounts, Terms, Slopes}
use Rattle.nl_lines.specs.declared.head.Head.TheVariants.{Suffix as SuffixHead}
use Rattle.nl_lines.specs.Heads.{is_in_range}
use Rattle.nl_lines.specs.Pieces.{Piece, is_complete, piece_intervals, piece_pairs, line_count, pair_count, has_tree, piece_nodes}
use Rattle.nl_lines.specs.Saying.{draft_of, piece_tree, said_by, with_terms}
use Rattle.nl_lines.proofs.DraftLemmas.{draft_counts}
use Rattle.nl_lines.proofs.PieceLemmas.{draft-append}
use Rattle.round_trips.proofs.Texts.{AreSteps, IsStep, total_up}
use Rattle.std.proofs.Math.ListN.{length-set}
use Rattle.std.specs.Prelude.{sum_by, replicate, IfSome}
use Rattle.std.proofs.lemmas.List.{length-replicate, length-take, length-map}
use Rattle.std.proofs.lemmas.List.Elements.{All-append, All-get_or, All-nil, All-push, All-replicate, All-set}
use Rattle.std.proofs.lemmas.List.Folds.{sum_by-replicate}
use Rattle.std.proofs.lemmas.List.Sums.{sum_by-cons, sum_by_push, sum_by-set}
use Rattle.linear_program.specs.declared.interval.Interval.{Interval}
use Rattle.nl_model.specs.File.{Term}
use Rattle.nl_model.specs.declared.definition.Def.{Def as Definition}
use Rattle.nl_model.specs.declared.suffix.Suffix.{Suffix}
use Rattle.nl_model.specs.declared.objective.Objective.{Objective}
use Rattle.nl_model.specs.Kinds.{variable_kind}
use Rattle.nl_model.specs.Rules.{AreGuesses, AreSuffixes, AreTermsBelow, IsSuffix, most_terms, term_count, IsTreeKnown, IsDefinition, AreDefinitions}
use Rattle.linear_program.specs.Intervals.{IsOrdered}
use Rattle.nl_lines.specs.Tests.{holds_once, index_limit, is_binary, is_linear, is_suffix, is_within_unit, pair_total, suffix_count, node_total}
use Rattle.nl_lines.proofs.FreshLaw.{gave_none}
use Rattle.nl_lines.proofs.HeadSuffixes.{suffixes_come}
use Rattle.nl_lines.proofs.TotalLemmas.{pairs-append, nodes-append}
use Rattle.round_trips.specs.Writable.{IsWritableSuffix, HasNodes}
use Rattle.round_trips.proofs.Heads.{IsGoodSuffix}
use Rattle.round_trips.proofs.Rows.{AreGoodIntervals}
use Rattle.std.specs.Option.{option_map_or}
use Rattle.std.proofs.lemmas.Option.{IfSome_then}
use Rattle.nl_model.specs.Trees.{Tree, tree_size}
use Rattle.nl_model.specs.Nodes.{IsPrefix}
use Rattle.nl_model.proofs.Definitions.{definitions-push, known_more}
use Rattle.nl_model.proofs.Guesses.{suffixes-push}
use Rattle.nl_model.proofs.Prefixes.{prefix_of_run, tree_formed}
use Rattle.nl_lines.specs.Nodes.{Placed, only_nodes}
use Rattle.nl_segments.proofs.CleanTexts.{nothing_wanted}
use Rattle.nl_segments.proofs.PairLines.{suffixes_with}
use Rattle.nl_segments.proofs.TreeLaw.{tree_within}
use Rattle.round_trips.proofs.NodesTaken.{nodes-size}
use Rattle.round_trips.proofs.TreesTaken.{body_size}

-- a piece that is complete
abbrev pub said_whole : Counts → Draft → Piece → Head → Draft
said_whole c d p (Body i) = record d { bodies = slice_set d.bodies i (Some (piece_tree c p)) }
said_whole c d p (ObjectiveHead k maximise) = record d { objectives = slice_set d.objectives k (Some (record { maximise = maximise; tree = piece_tree c p })) }
said_whole c d p (DefinitionHead i j usage) = record d { definitions = d.definitions ++ record { index = i; terms = piece_pairs p; usage = usage; tree = piece_tree c p } ∷ [] }
said_whole c d p (DualGuesses n) = record d { dual_guesses = d.dual_guesses ++ piece_pairs p }
said_whole c d p (PrimalGuesses n) = record d { primal_guesses = d.primal_guesses ++ piece_pairs p }
said_whole c d p Sides = record d { sides = d.sides ++ piece_intervals p }
said_whole c d p Bounds = record d { bounds = d.bounds ++ piece_intervals p }
said_whole c d p (ColumnCounts n) = d
said_whole c d p (Terms i n) = record d { terms = with_terms d.terms i p }
said_whole c d p (Slopes k n) = record d { slopes = with_terms d.slopes k p }
said_whole c d p (SuffixHead kind n) = record d { suffixes = d.suffixes ++ record { kind = kind; name = p.name; values = piece_pairs p } ∷ [] }

said_as : (c : Counts) (d : Draft) (p : Piece) (h : Head) → d.counts ≡ c → is_complete c p ≡ true → said_by d p h ≡ said_whole c d p h
said_as c d p (Body i) e t = rw (e, t) refl
said_as c d p (ObjectiveHead k m) e t = rw (e, t) refl
said_as c d p (DefinitionHead i j u) e t = rw (e, t) refl
said_as c d p (SuffixHead k n) e t = rw (e, t) refl
said_as c d p head e t = refl

draft_more : (o : List ℤ) (c : Counts) (before : List Piece) (p : Piece) → is_complete c p ≡ true → draft_of o c (before ++ p ∷ []) ≡ said_whole c (draft_of o c before) p p.head
draft_more o c before p t = draft-append o c before p ∙ said_as c (draft_of o c before) p p.head (draft_counts o c before) t

-- a piece by its head
abbrev at : Piece → Head → Piece
at p h = record p { head = h }

-- each piece keeps it
abbrev Keeps : List ℤ → Counts → (List Piece → Draft → Type 0) → Type 0
Keeps o c P =
    (before : List Piece) (p : Piece) (h : Head) → IsStep o c before (at p h) → P before (draft_of o c before) → P (before ++ at p h ∷ []) (said_whole c (draft_of o c before) (at p h) h)

-- what each piece keeps holds of all that they say
said_all : (o : List ℤ) (c : Counts) (P : List Piece → Draft → Type 0) → Keeps o c P → (before rest : List Piece)
    → AreSteps o c before rest → P before (draft_of o c before) → P (before ++ rest) (draft_of o c (before ++ rest))
said_all o c P each before [] steps h = subst (λ ps. P ps (draft_of o c ps)) (sym (append-nil before)) h
said_all o c P each before (p ∷ rest) steps h =
    let next : P (before ++ p ∷ []) (draft_of o c (before ++ p ∷ [])) = subst (P (before ++ p ∷ [])) (sym (draft_more o c before p steps.0.complete)) (each before p p.head steps.0 h) in
    subst (λ ps. P ps (draft_of o c ps)) (append_assoc before (p ∷ []) rest) (said_all o c P each (before ++ p ∷ []) rest steps.1 next)

few_pairs : (o : List ℤ) (c : Counts) (before : List Piece) (p : Piece) → IsStep o c before p → length (piece_pairs p) ≤ pair_count p.head
few_pairs o c before p s = omega (arith, s.sound.pairs, length-take (pair_count p.head) p.rows)

-- ---- terms

abbrev pub linear_total : List Definition → List (List Term) → List (List Term) → ℕ
linear_total ds terms slopes = sum_by (λ d. length d.terms) ds + term_count terms + term_count slopes

-- so many rows of terms, of which each has indices below n
pub record AreRowsKept (n many : ℕ) (rows : List (List Term)) : Type 0 where
  pub count : length rows ≡ many
  pub below : All (AreTermsBelow n) rows

pub record AreTermsKept (c : Counts) (pieces : List Piece) (ds : List Definition) (terms slopes : List (List Term)) : Type 0 where
  pub rows : AreRowsKept c.n_var c.n_con terms
  pub costs : AreRowsKept c.n_var c.n_obj slopes
  pub few : linear_total ds terms slopes ≤ pair_total is_linear pieces

-- a row with more terms
record IsRowMore (n many : ℕ) (rows : List (List Term)) (i : ℕ) (p : Piece) : Type 0 where
  kept : AreRowsKept n many (with_terms rows i p)
  total : term_count (with_terms rows i p) ≡ term_count rows + length (piece_pairs p)

row_more : (n many : ℕ) (rows : List (List Term)) (i : ℕ) (p : Piece) → i < many → AreTermsBelow n (piece_pairs p) → AreRowsKept n many rows → IsRowMore n many rows i p
row_more n many rows i p lt new k =
    let old = get_or rows i [] in
    let row = old ++ piece_pairs p in
    let within : i < length rows = omega (arith, lt, k.count) in
    let sum = sum_by-set (length {A = Term}) rows i row [] within in
    record {
      kept = record {
        count = length-set rows i row ∙ k.count;
        below =
            All-set (AreTermsBelow n) rows i row (All-append (λ (t : Term). t.0 < n) old (piece_pairs p)
            (All-get_or (AreTermsBelow n) rows i [] within k.below) new) k.below;
      };
      total = omega (arith, sum, length-append old (piece_pairs p));
    }

abbrev TermsKept : Counts → List Piece → Draft → Type 0
TermsKept c pieces d = AreTermsKept c pieces d.definitions d.terms d.slopes

terms_step : (o : List ℤ) (c : Counts) → Keeps o c (TermsKept c)
unfolding is_in_range
terms_step o c before p (DefinitionHead i j u) s k =
    let q = at p (DefinitionHead i j u) in
    let x : Definition = record { index = i; terms = piece_pairs q; usage = u; tree = piece_tree c q } in
    let sum = sum_by_push (λ (d : Definition). length d.terms) (draft_of o c before).definitions x in
    record { rows = k.rows; costs = k.costs; few = omega (arith, sum, pairs-append is_linear before q refl, k.few) }
terms_step o c before p (Terms i n) s k =
    let q = at p (Terms i n) in
    let row = row_more c.n_var c.n_con (draft_of o c before).terms i q (ltb-true i c.n_con s.sound.range) s.sound.below k.rows in
    record { rows = row.kept; costs = k.costs; few = omega (arith, row.total, pairs-append is_linear before q refl, k.few) }
terms_step o c before p (Slopes i n) s k =
    let q = at p (Slopes i n) in
    let row = row_more c.n_var c.n_obj (draft_of o c before).slopes i q (ltb-true i c.n_obj s.sound.range) s.sound.below k.costs in
    record { rows = k.rows; costs = row.kept; few = omega (arith, row.total, pairs-append is_linear before q refl, k.few) }
terms_step o c before p head s k = record { rows = k.rows; costs = k.costs; few = omega (arith, total_up is_linear before (at p head ∷ []), k.few) }

empty_rows : (n many : ℕ) → AreRowsKept n many (replicate many [])
empty_rows n many = record { count = length-replicate many []; below = All-replicate (AreTermsBelow n) many [] (All-nil (λ t. t.0 < n)) }

-- ---- intervals

-- at most n intervals, in order
pub record AreSides (n : ℕ) (intervals : List Interval) : Type 0 where
  pub most : length intervals ≤ n
  pub ordered : All IsOrdered intervals

pub record AreIntervalsKept (c : Counts) (sides bounds : List Interval) : Type 0 where
  pub sides_are : AreSides c.n_con sides
  pub bounds_are : AreSides c.n_var bounds
  pub units : (j : ℕ) (i : Interval) → j < length bounds → is_binary (variable_kind c j) ≡ true → is_within_unit (get_or bounds j i) ≡ true

abbrev IntervalsKept : Counts → List Piece → Draft → Type 0
IntervalsKept c pieces d = AreIntervalsKept c d.sides d.bounds

-- those of a piece
sides_of : (c : Counts) (p : Piece) → AreGoodIntervals c p → AreSides (line_count c p.head) (piece_intervals p)
sides_of c p g = record { most = omega (arith, g.most, g.count); ordered = g.in_order }

intervals_step : (o : List ℤ) (c : Counts) → Keeps o c (IntervalsKept c)
intervals_step o c before p Sides s k =
    let d = draft_of o c before in
    let none : d.sides ≡ [] = gave_none o c before Sides p.name refl s.fresh in
    subst (λ xs. AreIntervalsKept c (xs ++ piece_intervals p) d.bounds) (sym none) (record { sides_are = sides_of c (at p Sides) (s.good.intervals refl); bounds_are = k.bounds_are; units = k.units })
intervals_step o c before p Bounds s k =
    let d = draft_of o c before in
    let g = s.good.intervals refl in
    let none : d.bounds ≡ [] = gave_none o c before Bounds p.name refl s.fresh in
    subst (λ xs. AreIntervalsKept c d.sides (xs ++ piece_intervals p)) (sym none) (record { sides_are = k.sides_are; bounds_are = sides_of c (at p Bounds) g; units = g.units refl })
intervals_step o c before p head s k = k

-- ---- guesses

pub record AreFewGuesses (n : ℕ) (ts : List Term) : Type 0 where
  pub are : AreGuesses n ts
  pub few : length ts < 2 ^ 31

pub record AreGuessesKept (c : Counts) (duals primals : List Term) : Type 0 where
  pub dual : AreFewGuesses c.n_con duals
  pub primal : AreFewGuesses c.n_var primals

abbrev GuessesKept : Counts → List Piece → Draft → Type 0
GuessesKept c pieces d = AreGuessesKept c d.dual_guesses d.primal_guesses

-- those of a piece
guesses_of : (o : List ℤ) (c : Counts) (before : List Piece) (p : Piece) → IsStep o c before p
    → holds_once p.head ≡ true → pair_count p.head < 2 ^ 31 → AreFewGuesses (index_limit c p.head) (piece_pairs p)
guesses_of o c before p s once few = record { are = record { below = s.sound.below; apart = s.sound.once once }; few = omega (arith, few, few_pairs o c before p s) }

guesses_step : (o : List ℤ) (c : Counts) → Keeps o c (GuessesKept c)
guesses_step o c before p (DualGuesses n) s k =
    let d = draft_of o c before in
    let q = at p (DualGuesses n) in
    let none : d.dual_guesses ≡ [] = gave_none o c before (DualGuesses n) p.name refl s.fresh in
    subst (λ xs. AreGuessesKept c (xs ++ piece_pairs q) d.primal_guesses) (sym none) (record { dual = guesses_of o c before q s refl s.good.head; primal = k.primal })
guesses_step o c before p (PrimalGuesses n) s k =
    let d = draft_of o c before in
    let q = at p (PrimalGuesses n) in
    let none : d.primal_guesses ≡ [] = gave_none o c before (PrimalGuesses n) p.name refl s.fresh in
    subst (λ xs. AreGuessesKept c d.dual_guesses (xs ++ piece_pairs q)) (sym none) (record { dual = k.dual; primal = guesses_of o c before q s refl s.good.head })
guesses_step o c before p head s k = k

no_guess : (n : ℕ) → AreFewGuesses n []
no_guess n = record { are = record { below = All-nil (λ t. t.0 < n); apart = λ i j d lt within. absurd (omega (arith, within)) }; few = omega arith }

-- ---- suffixes

pub record AreSuffixesKept (c : Counts) (pieces : List Piece) (ss : List Suffix) : Type 0 where
  pub suffixes : AreSuffixes c ss
  pub writable : All IsWritableSuffix ss
  pub few : length ss ≤ suffix_count pieces
  pub few_values : sum_by (λ s. length s.values) ss ≤ pair_total is_suffix pieces

abbrev SuffixesKept : Counts → List Piece → Draft → Type 0
SuffixesKept c pieces d = AreSuffixesKept c pieces d.suffixes

suffixes_step : (o : List ℤ) (c : Counts) → Keeps o c (SuffixesKept c)
suffixes_step o c before p (SuffixHead kind n) s k =
    let q = at p (SuffixHead kind n) in
    let ss = (draft_of o c before).suffixes in
    let x : Suffix = record { kind = kind; name = p.name; values = piece_pairs q } in
    let g : IsGoodSuffix kind n p.name = s.good.head in
    let sum = sum_by_push (λ (s : Suffix). length s.values) ss x in
    record {
      suffixes = suffixes-push c ss x (ss ++ x ∷ []) k.suffixes (record { below = s.sound.below; apart = s.sound.once refl }) (suffixes_come o c kind n p.name before s.earlier ∙ s.fresh) refl;
      writable = All-push IsWritableSuffix ss x k.writable (record {
        kind = g.kind_small;
        name = g.is;
        no_comment = g.no_comment;
        no_sets = g.no_sets;
        whole = s.good.whole;
        count = omega (arith, g.count, few_pairs o c before q s);
      });
      few = omega (arith, suffixes_with before q, length-append ss (x ∷ []), k.few);
      few_values = omega (arith, pairs-append is_suffix before q refl, sum, k.few_values);
    }
suffixes_step o c before p head s k =
    let q = at p head in
    record { suffixes = k.suffixes; writable = k.writable; few = omega (arith, suffixes_with before q, k.few); few_values = omega (arith, total_up is_suffix before (q ∷ []), k.few_values) }

-- ---- the tree of a piece

record IsGoodTree (n : ℕ) (ds : List Definition) (size : ℕ) (t : Tree) : Type 0 where
  nodes : HasNodes t
  known : IsTreeKnown n ds t
  few : tree_size t ≡ size

good_tree : (o : List ℤ) (c : Counts) (before : List Piece) (p : Piece) → IsStep o c before p → has_tree p.head ≡ true
    → IsGoodTree c.n_var (draft_of o c before).definitions (length (piece_nodes c p)) (piece_tree c p)
good_tree o c before p s has =
    let ns = only_nodes (piece_nodes c p) in
    let prefix : IsPrefix (piece_tree c p) ns = prefix_of_run ns s.running.run (nothing_wanted c p has s.complete) in
    record {
      nodes = record { nodes = ns; prefix = prefix };
      known = record { formed = tree_formed prefix; within = tree_within c.n_var (draft_of o c before).definitions (piece_tree c p) ns prefix s.good.known };
      few = sym (nodes-size (piece_tree c p) ns prefix) ∙ length-map (piece_nodes c p) (λ (n : Placed). n.node);
    }

-- ---- what is known of them

abbrev pub objective_size : Option Objective → ℕ
objective_size o = option_map_or (λ x. tree_size x.tree) o 0

abbrev pub tree_total : List Definition → List (Option Tree) → List (Option Objective) → ℕ
tree_total ds bodies os = sum_by (λ d. tree_size d.tree) ds + sum_by body_size bodies + sum_by objective_size os

pub record AreDefinitionsKept (c : Counts) (ds : List Definition) : Type 0 where
  pub are : AreDefinitions c.n_var (defined_count c) [] ds
  pub usages : All (λ d. d.usage < 2 ^ 31) ds
  pub nodes : All (λ d. HasNodes d.tree) ds

-- trees at so many places
pub record ArePlacesKept {X : Type 0} (n many : ℕ) (ds : List Definition) (tree : X → Tree) (places : List (Option X)) : Type 0 where
  pub count : length places ≡ many
  pub known : All (λ o. IfSome o (λ x. IsTreeKnown n ds (tree x))) places
  pub nodes : All (λ o. IfSome o (λ x. HasNodes (tree x))) places

pub record AreTreesKept (c : Counts) (pieces : List Piece) (ds : List Definition) (bodies : List (Option Tree)) (os : List (Option Objective)) : Type 0 where
  pub definitions : AreDefinitionsKept c ds
  pub bodies_are : ArePlacesKept c.n_var c.n_con ds (λ t. t) bodies
  pub objectives : ArePlacesKept c.n_var c.n_obj ds (λ x. x.tree) os
  pub few : tree_total ds bodies os ≤ node_total c pieces

set_most : {X : Type 0} (f : X → ℕ) (xs : List X) (i : ℕ) (y : X) → sum_by f (slice_set xs i y) ≤ sum_by f xs + f y
set_most f [] i y = omega arith
set_most f (x ∷ xs) zero y = omega (arith, sum_by-cons f x xs, sum_by-cons f y xs)
set_most f (x ∷ xs) (suc i) y = let more = set_most f xs i y in omega (arith, more, sum_by-cons f x xs, sum_by-cons f x (slice_set xs i y))

place_given : {X : Type 0} (n many : ℕ) (ds : List Definition) (size : ℕ) (tree : X → Tree) (places : List (Option X))
    (i : ℕ) (x : X) → IsGoodTree n ds size (tree x) → ArePlacesKept n many ds tree places
    → ArePlacesKept n many ds tree (slice_set places i (Some x))
place_given n many ds size tree places i x t h = record {
  count = length-set places i (Some x) ∙ h.count;
  known = All-set (λ o. IfSome o (λ x. IsTreeKnown n ds (tree x))) places i (Some x) t.known h.known;
  nodes = All-set (λ o. IfSome o (λ x. HasNodes (tree x))) places i (Some x) t.nodes h.nodes;
}

-- with one more definition
places_more : {X : Type 0} (n many : ℕ) (ds : List Definition) (d : Definition) (tree : X → Tree)
    (places : List (Option X)) → ArePlacesKept n many ds tree places → ArePlacesKept n many (ds ++ d ∷ []) tree places
places_more n many ds d tree places h = record { count = h.count; known = λ i o lt. IfSome_then (get_or places i o) (h.known i o lt) (λ x. known_more n ds d (tree x)); nodes = h.nodes }

no_places : {X : Type 0} (n many : ℕ) (tree : X → Tree) → ArePlacesKept n many [] tree (replicate many None)
no_places n many tree = record {
  count = length-replicate many None;
  known = All-replicate (λ o. IfSome o (λ x. IsTreeKnown n [] (tree x))) many None tt;
  nodes = All-replicate (λ o. IfSome o (λ x. HasNodes (tree x))) many None tt;
}

abbrev TreesKept : Counts → List Piece → Draft → Type 0
TreesKept c pieces d = AreTreesKept c pieces d.definitions d.bodies d.objectives

trees_step : (o : List ℤ) (c : Counts) → Keeps o c (TreesKept c)
unfolding is_in_range
trees_step o c before p (Body i) s k =
    let d = draft_of o c before in
    let q = at p (Body i) in
    let t = good_tree o c before q s refl in
    let most = set_most body_size d.bodies i (Some (piece_tree c q)) in
    record {
      definitions = k.definitions;
      bodies_are = place_given c.n_var c.n_con d.definitions (length (piece_nodes c q)) (λ t. t) d.bodies i (piece_tree c q) t k.bodies_are;
      objectives = k.objectives;
      few = omega (arith, nodes-append c before q, most, t.few, k.few);
    }
trees_step o c before p (ObjectiveHead i m) s k =
    let d = draft_of o c before in
    let q = at p (ObjectiveHead i m) in
    let t = good_tree o c before q s refl in
    let x : Objective = record { maximise = m; tree = piece_tree c q } in
    let most = set_most objective_size d.objectives i (Some x) in
    record {
      definitions = k.definitions;
      bodies_are = k.bodies_are;
      objectives = place_given c.n_var c.n_obj d.definitions (length (piece_nodes c q)) (λ x. x.tree) d.objectives i x t k.objectives;
      few = omega (arith, nodes-append c before q, most, t.few, k.few);
    }
trees_step o c before p (DefinitionHead i j u) s k =
    let d = draft_of o c before in
    let q = at p (DefinitionHead i j u) in
    let t = good_tree o c before q s refl in
    let x : Definition = record { index = i; terms = piece_pairs q; usage = u; tree = piece_tree c q } in
    let within = and_parts (nat_le c.n_var i) (nat_lt i (c.n_var + defined_count c)) s.sound.range in
    let sum = sum_by_push (λ (d : Definition). tree_size d.tree) d.definitions x in
    let few_terms : length (piece_pairs q) ≤ most_terms = omega (arith, s.few, pairs-append is_linear before q refl) in
    let is : IsDefinition c.n_var (defined_count c) d.definitions x = record {
      from = leb-true c.n_var i within.0;
      below = ltb-true i (c.n_var + defined_count c) within.1;
      fresh = gave_none o c before (DefinitionHead i j u) p.name refl s.fresh;
      terms = s.sound.below;
      few = few_terms;
      tree = t.known;
    } in
    record {
      definitions = record {
        are = definitions-push c.n_var (defined_count c) [] d.definitions x k.definitions.are is;
        usages = All-push (λ (d : Definition). d.usage < 2 ^ 31) d.definitions x k.definitions.usages s.good.head;
        nodes = All-push (λ (d : Definition). HasNodes d.tree) d.definitions x k.definitions.nodes t.nodes;
      };
      bodies_are = places_more c.n_var c.n_con d.definitions x (λ t. t) d.bodies k.bodies_are;
      objectives = places_more c.n_var c.n_obj d.definitions x (λ x. x.tree) d.objectives k.objectives;
      few = omega (arith, nodes-append c before q, sum, t.few, k.few);
    }
trees_step o c before p head s k = record { definitions = k.definitions; bodies_are = k.bodies_are; objectives = k.objectives; few = omega (arith, nodes-append c before (at p head), k.few) }

-- ---- all parts of a draft

pub record IsKept (o : List ℤ) (c : Counts) (pieces : List Piece) (d : Draft) : Type 0 where
  pub options : d.options ≡ o
  pub trees : TreesKept c pieces d
  pub terms : TermsKept c pieces d
  pub intervals : IntervalsKept c pieces d
  pub guesses : GuessesKept c pieces d
  pub suffixes : SuffixesKept c pieces d

same_options : (c : Counts) (d : Draft) (p : Piece) (h : Head) → (said_whole c d p h).options ≡ d.options
same_options c d p (Body i) = refl
same_options c d p head = refl

each_piece : (o : List ℤ) (c : Counts) → Keeps o c (IsKept o c)
each_piece o c before p h s k = record {
  options = same_options c (draft_of o c before) (at p h) h ∙ k.options;
  trees = trees_step o c before p h s k.trees;
  terms = terms_step o c before p h s k.terms;
  intervals = intervals_step o c before p h s k.intervals;
  guesses = guesses_step o c before p h s k.guesses;
  suffixes = suffixes_step o c before p h s k.suffixes;
}

no_pieces : (o : List ℤ) (c : Counts) → IsKept o c [] (draft_of o c [])
unfolding draft_of
no_pieces o c =
    let bodies = sum_by-replicate body_size c.n_con None in
    let objectives = sum_by-replicate objective_size c.n_obj None in
    let rows = sum_by-replicate (length {A = Term}) c.n_con [] in
    let costs = sum_by-replicate (length {A = Term}) c.n_obj [] in
    record {
      options = refl;
      trees = record {
        definitions = record { are = tt; usages = All-nil (λ d. d.usage < 2 ^ 31); nodes = All-nil (λ d. HasNodes d.tree) };
        bodies_are = no_places c.n_var c.n_con (λ t. t);
        objectives = no_places c.n_var c.n_obj (λ x. x.tree);
        few = omega (arith, bodies, objectives);
      };
      terms = record { rows = empty_rows c.n_var c.n_con; costs = empty_rows c.n_var c.n_obj; few = omega (arith, rows, costs) };
      intervals = record {
        sides_are = record { most = omega arith; ordered = All-nil IsOrdered };
        bounds_are =
            record { most = omega arith; ordered = All-nil IsOrdered };
        units = λ j i lt. absurd (omega (arith, lt));
      };
      guesses = record { dual = no_guess c.n_con; primal = no_guess c.n_var };
      suffixes = record {
        suffixes = record {
          each = All-nil (IsSuffix c);
          apart =
              λ i j d lt within. absurd (omega (arith, within));
        };
        writable = All-nil IsWritableSuffix;
        few = omega arith;
        few_values = omega arith;
      };
    }

pub all_kept : (o : List ℤ) (c : Counts) (pieces : List Piece) → AreSteps o c [] pieces → IsKept o c pieces (draft_of o c pieces)
all_kept o c pieces steps = said_all o c (IsKept o c) (each_piece o c) [] pieces steps (no_pieces o c)
