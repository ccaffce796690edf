use Rattle.std.proofs.Common.{◌≡◌, rules, length}
use Rattle.mps_words.proofs.CodeLemmas.{absent_short, pushed_short}
use Rattle.mps_words.proofs.codes.Codes.push.Goals as goal

pub insert-requires : goal.insert-requires
insert-requires c =
    let none : length c.self.inside.behind.items ≡ 0 = search (rules, c.is_empty.ensures, c.if-is_empty.true) in
    absent_short c.self.inside.short c.self.inside.behind.items c.args.self.now c.args.code c.self.view_is none (c.requires c.if-code-gt0.true)

pub returns-then-is_empty-clause-more : goal.returns-then-is_empty-clause-more
returns-then-is_empty-clause-more c =
    let none : length c.self.inside.behind.items ≡ 0 = search (rules, c.is_empty.ensures, c.if-is_empty.true) in
    pushed_short c.self.inside.short c.self.inside.behind.items c.args.self.now c.insert.new.self c.args.code c.self.view_is none c.in_ok-insert.ensures.more
