use Rattle.std.proofs.Common.{◌<◌, length, refl, reverse, subst}
use Rattle.linear_fold.proofs.StackLemmas.{on_ok, one_closed, part_placed, same_parts, within_at}
use Rattle.linear_fold.proofs.fold.make_way.Goals as goal

pub returns-then-not-is_in_the_way-clause-same : goal.returns-then-not-is_in_the_way-clause-same
returns-then-not-is_in_the_way-clause-same c = same_parts (reverse c.args.stack.now.items)

pub close-requires-clause-part : goal.close-requires-clause-part
close-requires-clause-part c =
    part_placed c.args.variables c.index_mut.result.now
    (within_at c.args.variables c.args.stack.now.items c.args.room.now.open_at c.index_mut.result.now c.requires.parts
    (subst (λ xs. c.args.room.now.open_at < length xs) c.deref.ensures.value (c.is_in_the_way.ensures c.if-not-is_in_the_way.false)) c.index_mut.ensures.value)

pub returns-clause-same : goal.returns-clause-same
returns-clause-same c =
    on_ok c.close.result _ _
    (λ s. one_closed c.args.stack.now.items _ c.args.room.now.open_at c.index_mut.result.now c.close.new.self
    (subst (λ xs. c.args.room.now.open_at < length xs) c.deref.ensures.value (c.is_in_the_way.ensures c.if-not-is_in_the_way.false)) c.index_mut.ensures.value refl s)
    c.close.ensures.same
