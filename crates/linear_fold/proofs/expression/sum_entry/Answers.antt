use Rattle.std.proofs.Common.{subst, arith, length}
use Rattle.nl_model.specs.Expressions.{linear_terms}
use Rattle.linear_fold.specs.InsideFolds.{IsEntryWithin, IsFolded}
use Rattle.linear_program.specs.Forms.{IsWithin, form_line}
use Rattle.linear_fold.proofs.Expressions.{nothing_listed, some_term, entry_within, some_terms, sum_bound, terms_formed}
use Rattle.linear_fold.proofs.Operators.{form_fits, if_ok}
use Rattle.linear_fold.specs.declared.entries.Entry.TheVariants.{Linear}
use Rattle.linear_fold.proofs.expression.sum_entry.Goals as goal

pub returns-then-are_zero-clause-entry : goal.returns-then-are_zero-clause-entry
returns-then-are_zero-clause-entry g c known tree size folded =
    let form = c.in-Linear.form in
    let within : IsWithin c.args.variables form = subst (IsEntryWithin c.args.variables) c.in-Linear.is c.requires.within in
    let zeros = c.are_zero.ensures.0 c.if-are_zero.true in
    let none = nothing_listed (form_line form) c.args.first (linear_terms c.args.terms.now) (form_fits form).coefs zeros in
    some_terms known c.args.variables tree form (subst (IsFolded known c.args.variables 0 tree) c.in-Linear.is folded)
    (linear_terms c.args.terms.now) c.args.first (Linear form) within size
    (terms_formed c.args.variables c.args.terms.now c.requires.below) none

pub returns-else-are_zero-clause-entry : goal.returns-else-are_zero-clause-entry
returns-else-are_zero-clause-entry g c =
    let within = subst (IsEntryWithin c.args.variables) c.in-Linear.is c.requires.within in
    if_ok c.with_terms.result _ _
    (λ e h known tree size folded.
    some_terms known c.args.variables tree c.in-Linear.form
    (subst (IsFolded known c.args.variables 0 tree) c.in-Linear.is folded) (linear_terms c.args.terms.now)
    c.args.first e within size (terms_formed c.args.variables c.args.terms.now c.requires.below) h)
    c.with_terms.ensures.entry

pub returns-else-are_zero-clause-within : goal.returns-else-are_zero-clause-within
returns-else-are_zero-clause-within g c =
    let within : IsWithin c.args.variables c.in-Linear.form = subst (IsEntryWithin c.args.variables) c.in-Linear.is c.requires.within in
    if_ok c.with_terms.result _ _
    (λ e h. entry_within c.args.variables (form_line c.in-Linear.form) c.args.first (linear_terms c.args.terms.now) e within (terms_formed c.args.variables c.args.terms.now c.requires.below) h)
    c.with_terms.ensures.entry

pub returns-else-are_zero-clause-below : goal.returns-else-are_zero-clause-below
returns-else-are_zero-clause-below g c =
    sum_bound c.args.variables c.with_terms.new.steps c.args.steps.now (length c.args.terms.now)
    (some_term c.args.terms.now (λ z. (let clash = c.are_zero.ensures.1 z in let k = c.if-are_zero.false in cc)))
    (let h = c.with_terms.ensures.below in omega arith)
