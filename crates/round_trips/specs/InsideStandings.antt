-- What pieces mean for the next one, piece by piece in the written order.
use Rattle.std.specs.Prelude.{◌≡◌, ℕ, ◌+◌, ◌*◌, ◌^◌, ◌<◌, ℤ, List}
use Rattle.std.specs.List.{AllByRecursion}
use Rattle.nl_model.specs.declared.header_counts.Counts.{Counts}
use Rattle.nl_model.specs.Draft.{Draft}
use Rattle.nl_lines.specs.declared.awaited.Awaited.TheVariants.{Nothing}
use Rattle.nl_lines.specs.declared.head.Head.{Head}
use Rattle.nl_lines.specs.Pieces.{Piece, awaited_of}
use Rattle.nl_lines.specs.Saying.{draft_of}
use Rattle.nl_lines.specs.Segment.{index_of, segment_of}
use Rattle.nl_lines.specs.Tests.{is_linear, is_suffix, pair_total, node_total, suffix_count, all_column_counts}
use Rattle.text_base.specs.WordLines.{WordLine}
use Rattle.round_trips.specs.InsideTaking.{IsTaken}

-- sections one after the other, and within some the pieces by their numbers
abbrev pub rank : Head → ℕ
rank head = (segment_of head).letter * 2 ^ 32 + index_of (segment_of head).subject

-- the pieces are complete, say the draft d, stand before what has a rank from `next` on, and hold
-- so many linear terms, values of suffixes, nodes and suffixes
pub record IsStanding (o : List ℤ) (c : Counts) (before : List Piece) (d : Draft)
    (next linear values nodes suffixes : ℕ) : Type 0 where
  pub done : awaited_of c before ≡ Nothing
  pub said : draft_of o c before ≡ d
  pub ranks : AllByRecursion (λ p. rank p.head < next) before
  pub terms_are : pair_total is_linear before ≡ linear
  pub values_are : pair_total is_suffix before ≡ values
  pub nodes_are : node_total c before ≡ nodes
  pub suffixes_are : suffix_count before ≡ suffixes

-- written lines that are taken, none of them a number of columns, and what the pieces mean after
-- them
pub record Reaches (o : List ℤ) (c : Counts) (before : List Piece) (n : ℕ) (lines : List WordLine)
    (d : Draft) (next linear values nodes suffixes : ℕ) : Type 0 where
  pub after : List Piece
  pub taken : IsTaken o c before n lines after
  pub stands : IsStanding o c after d next linear values nodes suffixes
  pub columns : all_column_counts after ≡ all_column_counts before
