-- The tests of the end, of what the reader of the body holds.
use Rattle.std.specs.Prelude.{◌≡◌, ℕ, ◌+◌, ◌==◌, Bool, ◌&&◌, not, List, [], ◌∷◌, get_or, length, All, IsSome}
use Rattle.nl_model.specs.Draft.{Draft}
use Rattle.nl_model.specs.Rules.{term_count}
use Rattle.nl_lines.specs.declared.fault.NlReason.TheVariants.{ShortSegment, Missing, NonzeroCount, ColumnCount as BadColumnCount}
use Rattle.nl_lines.specs.Pieces.{is_nothing}
use Rattle.nl_lines.specs.Tests.{Tests, lacks_part}
use Rattle.nl_segments.specs.Held.{Body}
use Rattle.nl_segments.specs.InsideTaking.{body_awaits}

-- each number is the one before it and the uses of its variable; the first is that of variable j
abbrev pub are_sums : List ℕ → ℕ → ℕ → List ℕ → Bool
are_sums uses j before [] = Bool.true
are_sums uses j before (n ∷ ns) = (n == before + get_or uses j 0) && are_sums uses (j + 1) n ns

abbrev pub body_end_tests : Body → Tests
body_end_tests b =
    (not (is_nothing (body_awaits b.current)), ShortSegment)
    ∷ (lacks_part b.draft, Missing)
    ∷ (not (term_count b.draft.terms == b.draft.counts.nzc), NonzeroCount)
    ∷ (not (are_sums b.uses 0 0 b.columns), BadColumnCount) ∷ []

-- a draft of which nothing is missing
pub record IsReady (d : Draft) : Type 0 where
  pub objectives : All IsSome d.objectives
  pub sides : length d.sides ≡ d.counts.n_con
  pub bounds : length d.bounds ≡ d.counts.n_var
  pub terms : term_count d.terms ≡ d.counts.nzc
