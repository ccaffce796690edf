use Rattle.std.proofs.Common.{◌+◌, ◌<◌, ◌∙◌, sym, ap, arith, length, subst}
use Rattle.std.specs.Option.{option_map}
use Rattle.linear_program.specs.Decimals.{AreDecimals}
use Rattle.mps_model.specs.Mps.{MpsRow}
use Rattle.mps_program.specs.declared.mps_fault.MpsFault.TheVariants.{TooWide}
use Rattle.mps_program.specs.Terms.{has_wide_term}
use Rattle.mps_program.proofs.FormLemmas.{row_test, next_body, next_other, first_body}
use Rattle.mps_program.proofs.TermLemmas.{row_decimals}
use Rattle.mps_program.proofs.forms.add_bodies.Goals as goal
use Rattle.mps_program.proofs.forms.add_bodies.Goals.{then-is_bounded_kind+else-has_wide_term+in_ok-form+in_ok-push, else-is_bounded_kind}

pub returns-then-has_wide_term-clause-fault : goal.returns-then-has_wide_term-clause-fault
returns-then-has_wide_term-clause-fault c =
    let m = c.args.mps.now in
    let i = c.args.first + c.rows.k in
    let inside : i < length c.rows-rows.result.now = omega (arith, c.requires.within, ap length c.rows-rows.ensures.value) in
    ap (option_map TooWide)
    (first_body m i c.list-own.result.now c.is_bounded_kind.result c.has_wide_term.result (omega (arith, c.requires.within)) c.rows.invariant.none
    (row_test m.rows c.rows-rows.result.now i c.index-rows-i.result c.row.inside.kind c.is_bounded_kind.result inside
    c.rows-rows.ensures.value c.index-rows-i.is (ap (λ (r : MpsRow). r.kind) c.row.view_is) c.is_bounded_kind.ensures)
    c.if-is_bounded_kind.true
    (c.list-own.ensures ∙ c.requires.terms.each c.rows.k (omega arith))
    c.has_wide_term.ensures c.if-has_wide_term.true)

pub in_fractions-requires : goal.in_fractions-requires
in_fractions-requires c =
    let m = c.args.mps.now in
    let own = c.list-own.ensures ∙ c.requires.terms.each c.rows.k (omega arith) in
    subst (AreDecimals 0) (sym own) (row_decimals m c.rows-rows.ensures.valid.part.columns.entries
    (c.args.first + c.rows.k) (ap has_wide_term (sym own) ∙ sym c.has_wide_term.ensures ∙ c.if-has_wide_term.false))

pub rows-preserved : goal.rows-preserved
rows-preserved c =
    let m = c.args.mps.now in
    let i = c.args.first + c.rows.k in
    let inside : i < length c.rows-rows.result.now = omega (arith, c.requires.within, c.rows-test.true, c.len-k-end.ensures, ap length c.rows-rows.ensures.value) in
    let test = row_test m.rows c.rows-rows.result.now i c.index-rows-i.result c.row.inside.kind c.is_bounded_kind.result
    inside c.rows-rows.ensures.value c.index-rows-i.is (ap (λ (r : MpsRow). r.kind) c.row.view_is)
    c.is_bounded_kind.ensures in
    elim c.if-is_bounded_kind.branch [
      | then-is_bounded_kind+else-has_wide_term+in_ok-form+in_ok-push w ↦
          let s = next_body m i (c.args.first + (c.rows.k + 1)) (omega arith) c.rows.bodies.items
          c.if-is_bounded_kind.bodies.items c.rows.invariant.bodies c.rows.invariant.none w.in_ok-form.form _
          w.list-own.result.now c.is_bounded_kind.result w.has_wide_term.result test w.if-is_bounded_kind.true
          (w.list-own.ensures ∙ c.requires.terms.each c.rows.k (omega arith))
          w.has_wide_term.ensures w.if-has_wide_term.false w.zero.ensures
          (record { line = w.in_ok-form.ensures.line; terms = w.in_ok-form.ensures.terms })
          (ap (λ (v : _). v.items) w.bodies-is ∙ w.in_ok-push.ensures.items) in
          record { bodies = s.0; none = s.1 }
      | else-is_bounded_kind w ↦
          let s = next_other m i (c.args.first + (c.rows.k + 1)) (omega arith) c.rows.bodies.items
          c.if-is_bounded_kind.bodies.items c.rows.invariant.bodies c.rows.invariant.none c.is_bounded_kind.result
          test w.if-is_bounded_kind.false (ap (λ (v : _). v.items) w.bodies-is) in
          record { bodies = s.0; none = s.1 }
    ]
