use Rattle.std.proofs.Common.{◌≡◌, ◌∙◌, length, subst}
use Rattle.exact_checks.specs.Built.{AreColumnsOf, AreCostsOf}
use Rattle.exact_checks.proofs.Assembled.{columns_are}
use Rattle.exact_checks.proofs.columns.Columns.by_rows.Goals as goal

pub invariant_of-result : goal.invariant_of-result
invariant_of-result c =
    let p = c.args.program in
    let count : c.len-count.result ≡ length p.lower.items = c.len-count.ensures ∙ p.lower.ok.0 in
    let by_column = subst (λ rs. AreColumnsOf c.len-count.result rs c.in_ok-columns.columns.items) c.deref.ensures.value c.in_ok-columns.ensures in
    let costs = c.in_ok-costs.ensures in
    record {
      width = by_column.count ∙ count;
      costed = costs.count ∙ count;
      transposed = columns_are (length p.lower.items) p.rows.items c.in_ok-columns.columns.items
          c.in_ok-costs.costs.items p.objective p.sound (subst
          (λ n. AreColumnsOf n p.rows.items c.in_ok-columns.columns.items) count by_column)
          (subst (λ n. AreCostsOf n p.objective.terms c.in_ok-costs.costs.items) count costs);
    }
