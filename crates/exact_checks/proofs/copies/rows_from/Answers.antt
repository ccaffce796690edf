use Rattle.std.proofs.Common.{rules, ◌≡◌, ◌∙◌, ◌+◌, ◌<◌, ap, drop, get_or, length, refl, subst, sym}
use Rattle.std.proofs.lemmas.List.{length_push}
use Rattle.exact_checks.specs.declared.form.Row.{Row}
use Rattle.exact_checks.proofs.Copied.{AreRowsSoFar, next_body, row_copied, row_within, rows_at_end}
use Rattle.exact_checks.proofs.copies.rows_from.Goals as goal

pub loop-form-preserved : goal.loop-form-preserved
loop-form-preserved c =
    let bodies = c.args.bodies.items in
    let sides = c.args.sides.now in
    let rows = c.loop-form.rows.items in
    let i = length rows in
    let side = c.index-sides-len.result in
    let row : Row = record { body = c.in_ok-body.body; side = side } in
    let pushed = c.in_ok-push.ensures.items in
    let next = next_body bodies c.loop-form.form-iterator.rest.items c.next.new.self.rest.items i c.in-Some.form c.loop-form.invariant.left c.in-Some.ensures.steps.0 in
    let one_more : length c.push.new.self.items ≡ i + 1 = ap length pushed ∙ length_push rows row in
    let within : i < length sides = subst (λ n. i < n) (sym c.requires.sides) next.there in
    let at : side ≡ get_or sides i side = c.index-sides-len.is ∙ ap (λ k. get_or sides k side) (c.len-in-loop-form.ensures ∙ c.loop-form.rows.ok.0) in
    record {
      so = subst (AreRowsSoFar bodies sides c.push.new.self.items) (sym one_more)
          (row_copied bodies sides rows c.push.new.self.items i c.in-Some.form side row c.loop-form.invariant.so next.there next.is within at c.in_ok-body.ensures.copy refl pushed);
      within = row_within (length c.args._bounds.now) bodies rows c.push.new.self.items i c.in-Some.form row
          c.loop-form.invariant.within c.requires.within next.there next.is c.in_ok-body.ensures.copy
          c.in_ok-body.ensures.ascending pushed;
      left = next.left ∙ ap (λ k. drop k bodies) (sym one_more);
    }

pub returns-clause-rows : goal.returns-clause-rows
returns-clause-rows c = search (rules, rows_at_end)
