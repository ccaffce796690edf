use Rattle.std.proofs.Common.{◌≡◌, ◌+◌, ◌<◌, ◌∙◌, ◌∷◌, [], ap, sym, arith, get_or, length, drop}
use Rattle.std.proofs.lemmas.List.{drop_more}
use Rattle.std.specs.Vec.Iter.{into_iter_items}
use Rattle.linear_program.specs.declared.form.Form.{Form}
use Rattle.linear_program.specs.declared.form.Kept.TheVariants.{Closed}
use Rattle.linear_program.specs.Decimals.{zero_frac}
use Rattle.linear_fold.proofs.CompletionLemmas.{one_completed, rest_of, set_length, still_here}
use Rattle.linear_fold.proofs.completing.completed_forms.Goals as goal

any_form : Form
any_form = record { kept = Closed [] zero_frac }

pub loop-place-preserved : goal.loop-place-preserved
loop-place-preserved c =
    let p = c.loop-place.place in
    let hs = c.args.held.now in
    let tss = c.args.terms.items in
    let bs = c.args.forms.items in
    let inv = c.loop-place.invariant in
    let steps = c.in-Some.ensures.cases in
    let h = c.is_held.result in
    let within : p < length hs = omega (arith, c.loop-place-test.true) in
    let some : p < length bs = omega (arith, within, c.requires.marks) in
    let hs_at : drop p hs ≡ h ∷ drop (p + 1) hs = drop_more hs p h within ∙ ap (λ x. x ∷ drop (p + 1) hs) (sym c.is_held.ensures) in
    let tss_at : drop p tss ≡ c.in-Some.list ∷ into_iter_items c.next.new.self = sym inv.1 ∙ steps.0 in
    let bs_at : drop p bs ≡ get_or bs p any_form ∷ drop (p + 1) bs = drop_more bs p any_form some in (
      one_completed hs tss bs c.loop-place.all.items p inv.0 h c.in-Some.list (get_or bs p any_form) (drop (p + 1) hs)
          (into_iter_items c.next.new.self) (drop (p + 1) bs) hs_at tss_at bs_at c.complete.new.forms.items any_form
          (c.complete.ensures any_form),
      rest_of hs tss bs c.loop-place.all.items p inv.0 h c.in-Some.list (get_or bs p any_form) (drop (p + 1) hs)
          (into_iter_items c.next.new.self) (drop (p + 1) bs) hs_at tss_at bs_at tss c.in-Some.list
          (into_iter_items c.next.new.self) tss_at,
      omega (arith, inv.2, ap length steps.0, steps.1),
      ap length (c.complete.ensures any_form) ∙ set_length c.loop-place.all.items p _ ∙ inv.3,
    )

pub complete-requires-clause-decimals : goal.complete-requires-clause-decimals
complete-requires-clause-decimals c =
    let p = c.loop-place.place in
    let hs = c.args.held.now in
    let tss = c.args.terms.items in
    let bs = c.args.forms.items in
    let inv = c.loop-place.invariant in
    let h = c.is_held.result in
    let within : p < length hs = omega (arith, c.loop-place-test.true) in
    let some : p < length bs = omega (arith, within, c.requires.marks) in
    let hs_at : drop p hs ≡ h ∷ drop (p + 1) hs = drop_more hs p h within ∙ ap (λ x. x ∷ drop (p + 1) hs) (sym c.is_held.ensures) in
    let tss_at : drop p tss ≡ c.in-Some.list ∷ into_iter_items c.next.new.self = sym inv.1 ∙ c.in-Some.ensures.cases.0 in
    let bs_at : drop p bs ≡ get_or bs p any_form ∷ drop (p + 1) bs = drop_more bs p any_form some in
    still_here hs tss bs c.loop-place.all.items p inv.0 h c.in-Some.list (get_or bs p any_form) (drop (p + 1) hs) (into_iter_items c.next.new.self) (drop (p + 1) bs) hs_at tss_at bs_at
