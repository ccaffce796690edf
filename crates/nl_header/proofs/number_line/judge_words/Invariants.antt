use Rattle.std.proofs.Common.{◌≡◌, ◌<◌, ◌≤◌}
use Rattle.text_base.specs.Words.{words_of}
use Rattle.nl_header.specs.Head.{words_fault}
use Rattle.nl_header.proofs.number_line.judge_words.Given as goal

abbrev pub invariant-words : goal.invariant-words
invariant-words l =
    (goal.iterator-words).can_next l.rest
    × (goal.iterator-words).is_finite l.rest
    × (0 < l.place)
    × (l.place ≤ 7)
    × (words_fault l.line l.place (words_of l.rest.rest.now) ≡ words_fault l.line 1 (words_of l.text))
