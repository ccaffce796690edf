use Rattle.std.proofs.Common.{◌≡◌, ◌<◌, ◌∙◌, ◌∷◌, length, drop, get_or, map, ap, sym, arith}
use Rattle.std.specs.Vec.Iter.{into_iter_items}
use Rattle.linear_program.specs.Intervals.{is_whole_kind}
use Rattle.linear_program.specs.declared.kind.Kind.TheVariants.{Continuous}
use Rattle.linear_program.proofs.ListLemmas.{first_left, others_left}
use Rattle.row_scaling.specs.Parts.{column_count}
use Rattle.row_scaling.specs.InsideColumns.{column_in, entry_value, entries_in_column}
use Rattle.row_scaling.proofs.AddLemmas.{variable_left, column_put, rising_enough}
use Rattle.row_scaling.proofs.program_columns.add_columns.Goals as goal

pub add_column-requires-clause-rising : goal.add_column-requires-clause-rising
add_column-requires-clause-rising c =
    let s = c.args.scaled.now in
    let j = c.loop-j.j in
    let cols = c.args.columns.items in
    let left : drop j cols ≡ c.in-Some.entries ∷ into_iter_items c.next.new.self = sym c.loop-j.invariant.1 ∙ c.in-Some.ensures.cases.0 in
    let terms : map entry_value c.in-Some.entries.items ≡ entries_in_column s j =
    ap (λ v. map entry_value v.items) (first_left cols j c.in-Some.entries _ left)
    ∙ c.requires.columns.terms j c.in-Some.entries (omega (arith, c.program_kinds-kinds.ensures.count)) in
    rising_enough (λ c. c.items) s cols c.args.builder.now c.loop-j.builder j c.in-Some.entries c.loop-j.invariant.0 c.requires.rows terms

pub loop-j-preserved : goal.loop-j-preserved
loop-j-preserved c =
    let s = c.args.scaled.now in
    let j = c.loop-j.j in
    let cols = c.args.columns.items in
    let inside : j < column_count s = omega (arith, c.program_kinds-kinds.ensures.count) in
    let inside_cols : j < length cols = omega (arith, inside, c.requires.columns.count) in
    let steps = c.in-Some.ensures.cases in
    let name : c.in_ok-name.name ≡ column_in (length s.bounds) j = c.in_ok-name.ensures ∙ c.column_name-name.ensures.text ∙ ap (λ n. column_in n j) c.variables-n.ensures.value in
    let left : drop j cols ≡ c.in-Some.entries ∷ into_iter_items c.next.new.self = sym c.loop-j.invariant.1 ∙ steps.0 in
    let first = first_left cols j c.in-Some.entries _ left in
    let terms : map entry_value c.in-Some.entries.items ≡ entries_in_column s j = ap (λ v. map entry_value v.items) first ∙ c.requires.columns.terms j c.in-Some.entries inside in (
      column_put (λ c. c.items) s cols c.loop-j.builder c.add_column.new.builder j c.in-Some.entries c.in_ok-name.name
          c.is_whole.result c.zero.result c.in_ok-add_column.ensures c.variables-n.ensures.scaled c.args.builder.now _
          c.loop-j.invariant.0
          inside_cols first terms c.zero.ensures (variable_left s c.variables-n.ensures.scaled j inside) name name
          (c.is_whole.ensures ∙ ap (λ ks. is_whole_kind (get_or ks j Continuous))
          c.program_kinds-kinds.ensures.value),
      others_left cols j c.in-Some.entries _ left,
      omega (arith, c.loop-j.invariant.2, ap length steps.0, steps.1),
    )
