use Rattle.std.proofs.Common.{◌≡◌, ◌++◌, take, drop}
use Rattle.text_base.specs.Words.{without_comment, up_to_comment}
use Rattle.text_base.proofs.CommentLemmas.{may_begin_at}
use Rattle.text_base.proofs.blanks.strip_comment.Given as goal

abbrev pub invariant-bytes : goal.invariant-bytes
invariant-bytes l = without_comment l.line ≡ take l.place l.line ++ up_to_comment (may_begin_at l.line l.place) (drop l.place l.line)
