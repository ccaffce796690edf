use Rattle.std.proofs.Common.{◌≡◌, ◌∙◌, ℕ, ◌+◌, ◌<◌, arith, ap, ap₂, get_or, length, sym, subst, take, List}
use Rattle.nl_model.specs.File.{Term}
use Rattle.nl_model.specs.UseCounts.{use_count, uses_in}
use Rattle.nl_model.proofs.UseLemmas.{row_room, use_count-more}
use Rattle.nl_writer.proofs.ColumnSums.{written_back}
use Rattle.nl_writer.proofs.columns.uses_of.Goals as goal

pub count_terms-requires-clause-room : goal.count_terms-requires-clause-room
count_terms-requires-clause-room c = λ j lt.
    let rows = c.args.file.now.terms in
    let con = c.loop-con.con in
    let row = c.terms.result.now in
    let room = row_room rows con j row c.terms.ensures in
    let size : length c.deref_mut.result.now ≡ c.args.file.now.counts.n_var = ap length c.deref_mut.ensures.value ∙ c.loop-con.invariant.count in
    let before : get_or c.deref_mut.result.now j 0 ≡ use_count (take con rows) j =
    ap (λ xs. get_or xs j 0) c.deref_mut.ensures.value ∙ c.loop-con.invariant.counted j (subst (λ n. j < n) size lt) in
    let same : length c.items.result.now ≡ length row = ap length c.items.ensures in
    omega (arith, room, before, same, c.header.ensures.file.terms.few_terms)

pub loop-con-preserved : goal.loop-con-preserved
loop-con-preserved c =
    let rows = c.args.file.now.terms in
    let con = c.loop-con.con in
    let new = c.count_terms.new.uses in
    let n = c.args.file.now.counts.n_var in
    let value = c.deref_mut.ensures.value in
    let size : length c.deref_mut.result.now ≡ n = ap length value ∙ c.loop-con.invariant.count in
    let kept : length new ≡ length c.loop-con.uses.items = omega (arith, ap length value) in
    let back = written_back new c.loop-con.uses.items c.loop-con.uses.len (omega (arith, ap length value, c.deref_mut.ensures.len)) kept in
    let counted : (j : ℕ) → j < n → get_or new j 0 ≡ use_count (take (con + 1) rows) j =
    λ j lt. c.count_terms.ensures j (subst (λ m. j < m) (sym size) lt)
    ∙ ap₂ (λ (x : ℕ) (ts : List Term). x + uses_in ts j) (ap (λ xs. get_or xs j 0) value ∙ c.loop-con.invariant.counted j lt) c.items.ensures
    ∙ sym (use_count-more rows con j c.terms.result.now c.terms.ensures) in
    record {
      count = ap length back ∙ kept ∙ c.loop-con.invariant.count;
      counted = λ j lt. ap (λ xs. get_or xs j 0) back ∙ counted j lt;
    }
