-- A row that is an index and a value alone, and that its pair is kept.
use Rattle.std.specs.Prelude.{◌≡◌, ℕ, false, List, None}
use Rattle.text_base.specs.Judged.{first_reason}
use Rattle.nl_model.specs.File.{Term}
use Rattle.nl_lines.specs.declared.head.Head.{Head}
use Rattle.nl_lines.specs.Heads.{is_head}
use Rattle.nl_lines.specs.PairTests.{SaysFreshPair, is_full_at, next_pair_tests}
use Rattle.nl_segments.specs.Held.{Body, HasRow}

-- a row of the piece of this head, with which nothing is wrong, says this pair
pub record IsGoodPair (b : Body) (head : Head) (t : Term) (words : List (List ℕ)) : Type 0 where
  pub plain : is_head words ≡ false
  pub says : SaysFreshPair b.draft.counts head b.marks (is_full_at head b.linear b.values) words t
  pub fine :
      first_reason (next_pair_tests b.draft.counts head b.marks
      (is_full_at head b.linear b.values) words)
      ≡ None

-- there is such a row in this line
pub record HasGoodPair (b : Body) (head : Head) (t : Term) (line : ℕ) : Type 0 where
  pub words : List (List ℕ)
  pub exists : HasRow words line
  pub good : IsGoodPair b head t words
