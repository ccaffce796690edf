use Rattle.std.proofs.Common.{◌≡◌, ◌<◌, ◌≤◌, subst, sym, refl, get_or, length}
use Rattle.exact_checks.specs.declared.form.Row.{Row}
use Rattle.exact_checks.proofs.Copied.{row_copied, row_within, rows_copied}
use Rattle.exact_checks.proofs.copies.rows_of.Goals as goal

pub loop-i-preserved : goal.loop-i-preserved
loop-i-preserved c =
    let all = c.bodies-bodies.ensures.bodies in
    let l = subst (λ bs. c.loop-i.i < length bs) all c.loop-i-test.true in
    let is = subst (λ bs. c.index-bodies-i.result ≡ get_or bs c.loop-i.i c.index-bodies-i.result) all c.index-bodies-i.is in
    let m = subst (λ n. c.loop-i.i < n) (sym c.requires.sides) l in
    let at = subst (λ ss. c.index-sides-i.result ≡ get_or ss c.loop-i.i c.index-sides-i.result) c.sides-sides.ensures c.index-sides-i.is in
    let row : Row = record { body = c.in_ok-body.body; side = c.index-sides-i.result } in
    record {
      so = row_copied c.args.linear.now.bodies c.args.linear.now.sides c.loop-i.rows.items c.push.new.self.items
          c.loop-i.i c.index-bodies-i.result c.index-sides-i.result row c.loop-i.invariant.so l is m at
          c.in_ok-body.ensures.copy refl c.in_ok-push.ensures.items;
      within = row_within (length c.args.linear.now.bounds) c.args.linear.now.bodies c.loop-i.rows.items
          c.push.new.self.items c.loop-i.i c.index-bodies-i.result row c.loop-i.invariant.within c.requires.bodies l is
          c.in_ok-body.ensures.copy c.in_ok-body.ensures.ascending c.in_ok-push.ensures.items;
    }

pub returns-clause-rows : goal.returns-clause-rows
returns-clause-rows c =
    rows_copied c.args.linear.now.bodies c.args.linear.now.sides c.loop-i.rows.items c.loop-i.i c.loop-i.invariant.so
    (subst (λ bs. length bs ≤ c.loop-i.i) c.bodies-bodies.ensures.bodies c.loop-i-test.false)
