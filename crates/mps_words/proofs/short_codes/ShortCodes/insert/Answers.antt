use Rattle.std.proofs.Common.{arith}
use Rattle.mps_words.proofs.CodeLemmas.{narrow_more, wide_more}
use Rattle.mps_words.proofs.short_codes.ShortCodes.insert.Goals as goal

pub returns-then-wide-eq0-clause-more : goal.returns-then-wide-eq0-clause-more
returns-then-wide-eq0-clause-more c =
    narrow_more c.self.inside.narrow.keys c.self.inside.wide.keys c.args.self.now c.insert.new.self.keys c.args.code
    c.self.view_is (omega arith) c.requires c.in_ok-insert.ensures.keys

pub returns-clause-more : goal.returns-clause-more
returns-clause-more c =
    wide_more c.self.inside.narrow.keys c.self.inside.wide.keys c.args.self.now c.insert-2.new.self.keys c.args.code
    c.self.view_is c.requires c.in_ok-insert-2.ensures.keys
