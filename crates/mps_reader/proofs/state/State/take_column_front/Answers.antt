use Rattle.std.proofs.Common.{refl, subst, sym}
use Rattle.mps_reader.specs.InsideHeld.{IsKept}
use Rattle.mps_words.specs.declared.keyword.Keyword.TheVariants.{Columns}
use Rattle.mps_reader.proofs.FrontLines.{next_fits, next_taken, none_taken}
use Rattle.mps_reader.proofs.state.State.take_column_front.Goals as goal

pub returns-in_default-clause-lines : goal.returns-in_default-clause-lines
returns-in_default-clause-lines c = none_taken c.args.self.now c.args.self.now c.args.text.now refl

pub returns-in-Err-clause-lines : goal.returns-in-Err-clause-lines
returns-in-Err-clause-lines c = none_taken c.args.self.now c.add_first.new.self c.args.text.now c.in-Err.ensures.err

pub overflow_sub-result : goal.overflow_sub-result
overflow_sub-result c = next_fits Columns c.args.self.now _ c.args.text.now c.in-Some.column.rest.now c.in-Some.ensures.next

pub returns-in-Ok-clause-lines : goal.returns-in-Ok-clause-lines
returns-in-Ok-clause-lines c =
    (next_taken Columns c.args.self.now _ c.add_first.new.self c.args.text.now c.in-Some.column.rest.now _
    c.in-Some.ensures.next c.requires.sound c.in-Ok.ensures.ok
    (subst IsKept (sym c.in-Ok.ensures.ok) c.in-Some.ensures.kept) refl).0

pub returns-in-Ok-clause-sound : goal.returns-in-Ok-clause-sound
returns-in-Ok-clause-sound c = λ whole.
    (next_taken Columns c.args.self.now _ c.add_first.new.self c.args.text.now c.in-Some.column.rest.now _
    c.in-Some.ensures.next c.requires.sound c.in-Ok.ensures.ok
    (subst IsKept (sym c.in-Ok.ensures.ok) c.in-Some.ensures.kept) refl).1

pub add_first-requires-clause-within : goal.add_first-requires-clause-within
add_first-requires-clause-within c = c.in-Some.ensures.within
