use Rattle.std.proofs.Common.{◌≡◌, ◌∙◌, sym, ap, subst, cond, OnOk}
use Rattle.mps_import.specs.InsideUses.{with_term}
use Rattle.mps_import.proofs.terms.add_entry.Goals as goal

pub returns-then-is_zero : goal.returns-then-is_zero
returns-then-is_zero c = sym (ap (λ b. cond b c.args.builder.now (with_term c.args.row_use c.args.variable c.args.value c.args.builder.now)) (sym c.is_zero.ensures ∙ c.if-is_zero.true))

pub add_term-requires-clause-can : goal.add_term-requires-clause-can
add_term-requires-clause-can c = c.requires.can (sym c.is_zero.ensures ∙ c.if-is_zero.false)

pub returns : goal.returns
returns c = subst (λ b. OnOk c.add_term.result (c.add_term.new.builder
    ≡ cond b c.args.builder.now (with_term c.args.row_use c.args.variable c.args.value c.args.builder.now)))
    (sym (sym c.is_zero.ensures ∙ c.if-is_zero.false)) c.add_term.ensures
