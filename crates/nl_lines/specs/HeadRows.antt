-- A row that is a head after which nothing is kept: of no suffix and no defined variable.
use Rattle.std.specs.Prelude.{◌≡◌, ℕ, ◌≤◌, true, false, List, length, Some, None}
use Rattle.text_base.specs.Judged.{first_reason}
use Rattle.nl_model.specs.declared.header_counts.Counts.{Counts}
use Rattle.nl_lines.specs.declared.head.Head.{Head}
use Rattle.nl_lines.specs.Heads.{head_of, is_head}
use Rattle.nl_lines.specs.Pieces.{keeps_pairs}
use Rattle.nl_lines.specs.Tests.{head_form_tests}

-- it has a word or two; whatever the counts, nothing is wrong with its form, and it is this head
pub record IsHeadRow (words : List (List ℕ)) (head : Head) : Type 0 where
  pub is : is_head words ≡ true
  pub form : (c : Counts) → first_reason (head_form_tests c words) ≡ None
  pub says : (c : Counts) → head_of c words ≡ Some head
  pub few : length words ≤ 2
  pub given : keeps_pairs head ≡ false
