use Rattle.std.proofs.Common.{◌≡◌, Some, arith, subst, sym}
use Rattle.mps_words.specs.declared.keyword.Keyword.TheVariants.{Columns}
use Rattle.mps_words.specs.Sections.{last_of}
use Rattle.mps_reader.specs.Tests.{Standing}
use Rattle.mps_reader.proofs.FrontAdded.{after_none, none_standing}
use Rattle.mps_reader.proofs.state.State.take_entry_front.Goals as goal

pub take_column_front-requires-clause-current : goal.take_column_front-requires-clause-current
take_column_front-requires-clause-current c =
    let same = none_standing c.args.self.now c.take_pairs_front-front.new.self c.args.text.now
    c.take_pairs_front-front.result c.take_pairs_front-front.ensures.lines (omega (arith, c.if-front-gt0.false)) in
    subst (λ (s : Standing). last_of s.begun ≡ Some Columns) (sym same) c.requires.current

pub returns-clause-lines : goal.returns-clause-lines
returns-clause-lines c =
    after_none c.args.self.now c.take_pairs_front-front.new.self c.take_column_front.new.self c.args.text.now
    c.take_pairs_front-front.result c.take_column_front.result.front c.take_pairs_front-front.ensures.lines
    (omega (arith, c.if-front-gt0.false))
    c.take_column_front.ensures.lines
