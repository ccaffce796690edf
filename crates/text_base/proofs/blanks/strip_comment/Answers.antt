use Rattle.std.proofs.Common.{sym, get_or, ◌∙◌}
use Rattle.text_base.proofs.CommentLemmas.{may_begin_at, no_mark, no_place, byte_passed}
use Rattle.text_base.proofs.blanks.strip_comment.Goals as goal
use Rattle.text_base.proofs.blanks.strip_comment.Goals.{else-byte-eq35-via-then-byte-eq35+else-may_begin, else-byte-eq35-via-else-byte-eq35}

pub bytes-preserved : goal.bytes-preserved
bytes-preserved c =
    let line = c.args.line.now in
    let place = c.bytes.place in
    elim c.else-byte-eq35.branch [
      | else-byte-eq35-via-then-byte-eq35+else-may_begin w ↦ byte_passed _ line place c.bytes-test.true
          (no_place (may_begin_at line place) (get_or line place 0) (sym w.may_begin.ensures ∙ w.if-may_begin.false))
          c.bytes.invariant
      | else-byte-eq35-via-else-byte-eq35 w ↦ byte_passed _ line place c.bytes-test.true (no_mark (may_begin_at line place) (get_or line place 0) w.if-byte-eq35.false) c.bytes.invariant
    ]
