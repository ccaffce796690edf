-- What pieces say: a file, and the line of each node, term and head.
use Rattle.std.specs.Prelude.{ℕ, ℤ, List, [], ◌∷◌, ◌++◌, take, map, replicate, get_or, slice_get, slice_set, Option, Some, option_and_then, if◌then◌else◌}
use Rattle.std.specs.Option.{option_or}
use Rattle.std.specs.List.{fold}
use Rattle.exact_numbers.specs.declared.dec.Dec.{Dec}
use Rattle.nl_model.specs.declared.at.At.{At}
use Rattle.nl_model.specs.declared.at.At.TheVariants.{Node, Term, Head as HeadOf}
use Rattle.nl_model.specs.declared.at.Owner.{Owner}
use Rattle.nl_model.specs.declared.at.Owner.TheVariants.{Def, Con, Obj}
use Rattle.nl_model.specs.declared.header_counts.Counts.{Counts}
use Rattle.nl_model.specs.declared.definition.Def.{Def as FileDefinition}
use Rattle.nl_model.specs.declared.objective.Objective.{Objective as FileObjective}
use Rattle.nl_model.specs.declared.suffix.Suffix.{Suffix as FileSuffix}
use Rattle.nl_model.specs.Draft.{Draft, empty_draft}
use Rattle.nl_model.specs.Nodes.{tree_of}
use Rattle.nl_model.specs.Trees.{Tree}
pub use Rattle.nl_lines.specs.Owners.{OwnerLines, no_lines}
use Rattle.nl_lines.specs.declared.head.Head.{Head}
use Rattle.nl_lines.specs.declared.head.Head.TheVariants.{Body, Objective, Definition, DualGuesses, PrimalGuesses, Sides, Bounds, ColumnCounts, Terms, Slopes, Suffix}
use Rattle.nl_lines.specs.Nodes.{only_nodes}
use Rattle.nl_lines.specs.Pieces.{Piece, is_complete, pair_count, piece_nodes, piece_pairs, piece_intervals}

-- ---- The file. Expressions, defined variables and suffixes are said by complete pieces alone,
-- terms and sides by each line.

abbrev pub piece_tree : Counts → Piece → Tree
piece_tree c p = tree_of (only_nodes (piece_nodes c p))

-- a piece that is complete says this more
abbrev pub if_complete : Draft → Piece → Draft → Draft
if_complete d p more = if is_complete d.counts p then more else d

abbrev pub with_terms : List (List (ℕ × Dec)) → ℕ → Piece → List (List (ℕ × Dec))
with_terms rows i p = slice_set rows i (get_or rows i [] ++ piece_pairs p)

-- what a piece says beside the pieces before it
abbrev pub said_by : Draft → Piece → Head → Draft
said_by d p (Body i) =
    if_complete d p (record d { bodies = slice_set d.bodies i (Some (piece_tree d.counts p)) })
said_by d p (Objective k maximise) =
    let objective : FileObjective = record { maximise = maximise; tree = piece_tree d.counts p } in
    if_complete d p (record d { objectives = slice_set d.objectives k (Some objective) })
said_by d p (Definition i j usage) =
    let tree = piece_tree d.counts p in
    let definition : FileDefinition =
    record { index = i; terms = piece_pairs p; usage = usage; tree = tree } in
    if_complete d p (record d { definitions = d.definitions ++ definition ∷ [] })
said_by d p (DualGuesses n) = record d { dual_guesses = d.dual_guesses ++ piece_pairs p }
said_by d p (PrimalGuesses n) = record d { primal_guesses = d.primal_guesses ++ piece_pairs p }
said_by d p Sides = record d { sides = d.sides ++ piece_intervals p }
said_by d p Bounds = record d { bounds = d.bounds ++ piece_intervals p }
said_by d p (ColumnCounts n) = d
said_by d p (Terms i n) = record d { terms = with_terms d.terms i p }
said_by d p (Slopes k n) = record d { slopes = with_terms d.slopes k p }
said_by d p (Suffix kind n) =
    let suffix : FileSuffix = record { kind = kind; name = p.name; values = piece_pairs p } in
    if_complete d p (record d { suffixes = d.suffixes ++ suffix ∷ [] })

abbrev pub with_piece : Draft → Piece → Draft
with_piece d p = said_by d p p.head

-- what a header and pieces say
unfoldable pub draft_of : List ℤ → Counts → List Piece → Draft
draft_of options c pieces = fold with_piece (empty_draft options c) pieces

-- ---- The lines.

-- the lines of defined variables in file order, of constraints and of objectives
pub record PlaceLines : Type 0 where
  pub definitions : List OwnerLines
  pub constraints : List OwnerLines
  pub objectives : List OwnerLines

abbrev pub empty_lines : Counts → PlaceLines
empty_lines c =
    record {
      definitions = [];
      constraints = replicate c.n_con no_lines;
      objectives = replicate c.n_obj no_lines;
    }

abbrev pub node_lines : Counts → Piece → List ℕ
node_lines c p = map (λ n. n.line) (piece_nodes c p)

abbrev pub term_lines : Piece → List ℕ
term_lines p = map (λ r. r.line) (take (pair_count p.head) p.rows)

-- the lines of an owner with those of the piece of its expression, and of the piece of its terms,
-- whose head counts where there is no expression
abbrev pub with_tree_lines : Counts → Piece → OwnerLines → OwnerLines
with_tree_lines c p o = record { head = Some p.line; nodes = node_lines c p; terms = o.terms }

abbrev pub with_term_lines : Piece → OwnerLines → OwnerLines
with_term_lines p o = record o { head = option_or o.head (Some p.line); terms = term_lines p }

abbrev pub changed : (OwnerLines → OwnerLines) → List OwnerLines → ℕ → List OwnerLines
changed change owners i = slice_set owners i (change (get_or owners i no_lines))

-- the same with those of one piece; of an objective the head is that of its expression alone
abbrev pub more_lines : Counts → PlaceLines → Piece → Head → PlaceLines
more_lines c l p (Body i) = record l { constraints = changed (with_tree_lines c p) l.constraints i }
more_lines c l p (Objective k maximise) =
    record l { objectives = changed (with_tree_lines c p) l.objectives k }
more_lines c l p (Definition i j usage) =
    let own = with_term_lines p (with_tree_lines c p no_lines) in
    record l { definitions = l.definitions ++ own ∷ [] }
more_lines c l p (Terms i n) =
    record l { constraints = changed (with_term_lines p) l.constraints i }
more_lines c l p (Slopes k n) =
    record l { objectives = changed (λ o. record o { terms = term_lines p }) l.objectives k }
more_lines c l p head = l

-- the lines that pieces have in a text
unfoldable pub place_lines : Counts → List Piece → PlaceLines
place_lines c pieces = fold (λ l p. more_lines c l p p.head) (empty_lines c) pieces

-- the lines of one owner
abbrev pub owner_lines : PlaceLines → Owner → Option OwnerLines
owner_lines l (Def i) = slice_get l.definitions i
owner_lines l (Con i) = slice_get l.constraints i
owner_lines l (Obj k) = slice_get l.objectives k

-- the line of a place; none of one that the file does not have
unfoldable pub place_line : PlaceLines → At → Option ℕ
place_line l (Node owner i) = option_and_then (λ o. slice_get o.nodes i) (owner_lines l owner)
place_line l (Term owner i) = option_and_then (λ o. slice_get o.terms i) (owner_lines l owner)
place_line l (HeadOf owner) = option_and_then (λ o. o.head) (owner_lines l owner)
