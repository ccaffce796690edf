use Rattle.std.proofs.Common.{◌≡◌, ◌<◌, ◌∙◌, sym, ap, arith, [], length, get_or}
use Rattle.std.proofs.lemmas.List.{get_or_default}
use Rattle.mps_model.specs.Mps.{column_interval}
use Rattle.mps_program.specs.InsideColumns.{none_set, sets_of, with_sets, sides_value}
use Rattle.mps_program.specs.Kinds.{are_zero_to_one, column_kind, kind_by}
use Rattle.linear_program.specs.Intervals.{interval_of}
use Rattle.mps_program.specs.Decimals.{sides_from}
use Rattle.mps_program.specs.Program.{values_of}
use Rattle.mps_program.proofs.FirstLemmas.{listed_push}
use Rattle.mps_program.proofs.LoopLemmas.{all_set}
use Rattle.mps_program.proofs.PartLemmas.{column_is, kind_is}
use Rattle.mps_program.proofs.columns.sides_and_kinds.Goals as goal

pub columns-preserved : goal.columns-preserved
columns-preserved c =
    let m = c.args.mps.now in
    let j = c.columns.j in
    let s = c.index-set.result.now in
    let inside : j < length m.columns = omega (arith, ap length c.columns-all.ensures.value) in
    let read : s ≡ get_or c.in_ok-records.records.items j none_set = c.index-set.ensures ∙ get_or_default c.in_ok-records.records.items j s none_set (omega (arith, c.in_ok-records.ensures.count)) in
    let sets : (sides_value s, s.whole) ≡ sets_of j m.bounds =
    sym (all_set s j) ∙ ap (λ t. with_sets t j []) read ∙ c.in_ok-records.ensures.sets j (omega arith)
    ∙ ap (sets_of j) c.bounds.ensures.value in
    let column : c.index-all-j.result ≡ get_or m.columns j c.index-all-j.result = c.index-all-j.is ∙ ap (λ cs. get_or cs j c.index-all-j.result) c.columns-all.ensures.value in
    record {
      sides = c.in_ok-push.ensures.items ∙ listed_push (λ j. sides_from (column_interval (values_of m) j)) j
          c.columns.sides.items c.column_sides-side.result c.columns.invariant.sides
          (column_is m j s c.column_sides-side.result sets c.column_sides-side.ensures);
      kinds = c.in_ok-push-2.ensures.items ∙ listed_push (column_kind m) j c.columns.kinds.items c.kind_of-kind.result
          c.columns.invariant.kinds (kind_is m j c.index-all-j.result s c.marked.result c.column_sides-side.result
          c.kind_of-kind.result inside column c.marked.ensures sets c.column_sides-side.ensures
          (c.kind_of-kind.ensures ∙ ap (λ w. kind_by w (are_zero_to_one (interval_of c.column_sides-side.result).lower
          (interval_of c.column_sides-side.result).upper)) c.is_either-whole.ensures));
    }
