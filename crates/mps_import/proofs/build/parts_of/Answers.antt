use Rattle.std.proofs.Common.{◌≡◌, ◌<◌, ◌∙◌, sym, ap, subst, arith, false, length, All}
use Rattle.mps_model.specs.Mps.{column_interval, objective_row}
use Rattle.mps_program.specs.Decimals.{sides_from}
use Rattle.mps_import.specs.Faults.{is_too_large}
use Rattle.mps_program.specs.Program.{constraints, values_of}
use Rattle.mps_program.specs.Places.{listed}
use Rattle.mps_import.specs.InsideUses.{rank, use_of}
use Rattle.mps_import.specs.Variables.{order_of_columns}
use Rattle.mps_program.proofs.FirstLemmas.{listed_length}
use Rattle.mps_import.proofs.PartLemmas.{order_is, binary_places, integer_places, all_columns, large_fault, empty_fault, no_fault, large_places, large_terms, not_large}
use Rattle.mps_import.proofs.TermLemmas.{use_count}
use Rattle.mps_import.proofs.FileLemmas.{large_is, rank_all, terms_counted, slopes_counted, wide_stop}
use Rattle.mps_program.proofs.FaultLemmas.{empty_is}
use Rattle.mps_program.specs.Kinds.{column_kind}
use Rattle.mps_import.proofs.build.parts_of.Goals as goal
use Rattle.mps_import.proofs.build.parts_of.Goals.{In-Some}

pub in_kinds-requires : goal.in_kinds-requires
in_kinds-requires c =
    let m = c.args.mps.now in
    let valid = c.rows-all.ensures.valid in
    let kinds = c.deref.ensures.value ∙ c.in_ok-columns.ensures.kinds in
    omega (arith, ap length kinds, listed_length (column_kind m) (length m.columns), valid.part.columns.few)

pub returns-then-is_too_long-clause-fault : goal.returns-then-is_too_long-clause-fault
returns-then-is_too_long-clause-fault c =
    let m = c.args.mps.now in
    let all : c.rows-all.result.now ≡ m.rows = c.rows-all.ensures.value in
    let count : c.in_ok-rows.rows.constraints ≡ length (constraints m.rows) = c.in_ok-rows.ensures.constraints ∙ ap (λ rs. rank rs (length rs)) all ∙ rank_all m in
    let long = large_is m c.in_ok-rows.rows.constraints (length c.columns-width.result.now) c.is_too_long.result count (ap length c.columns-width.ensures.value) c.is_too_long.ensures in
    large_fault m (large_places m (long ∙ c.if-is_too_long.true))

pub count_terms-requires-clause-order : goal.count_terms-requires-clause-order
count_terms-requires-clause-order c =
    let m = c.args.mps.now in
    let kinds = c.deref.ensures.value ∙ c.in_ok-columns.ensures.kinds in
    let order : c.in_ok-variables.variables.columns.items ≡ order_of_columns m = c.in_ok-variables.ensures.columns ∙ order_is m c.deref.result.now kinds in
    subst (All (λ j. j < length m.columns)) (sym (c.deref-2.ensures.value ∙ order)) (all_columns m)

pub count_terms-requires-clause-uses : goal.count_terms-requires-clause-uses
count_terms-requires-clause-uses c =
    let m = c.args.mps.now in
    let all : c.rows-all.result.now ≡ m.rows = c.rows-all.ensures.value in
    let uses : c.in_ok-rows.rows.uses.items ≡ listed (use_of m.rows) (length m.rows) = c.in_ok-rows.ensures.uses ∙ ap (λ rs. listed (use_of rs) (length rs)) all in
    use_count m c.deref-3.result.now (c.deref-3.ensures.value ∙ uses)

pub returns-in_default-clause-fault : goal.returns-in_default-clause-fault
returns-in_default-clause-fault c =
    let m = c.args.mps.now in
    let all : c.rows-all.result.now ≡ m.rows = c.rows-all.ensures.value in
    let valid = c.rows-all.ensures.valid in
    let uses : c.in_ok-rows.rows.uses.items ≡ listed (use_of m.rows) (length m.rows) = c.in_ok-rows.ensures.uses ∙ ap (λ rs. listed (use_of rs) (length rs)) all in
    let kinds = c.deref.ensures.value ∙ c.in_ok-columns.ensures.kinds in
    let order : c.in_ok-variables.variables.columns.items ≡ order_of_columns m = c.in_ok-variables.ensures.columns ∙ order_is m c.deref.result.now kinds in
    let count : c.in_ok-rows.rows.constraints ≡ length (constraints m.rows) = c.in_ok-rows.ensures.constraints ∙ ap (λ rs. rank rs (length rs)) all ∙ rank_all m in
    let long = large_is m c.in_ok-rows.rows.constraints (length c.columns-width.result.now) c.is_too_long.result count (ap length c.columns-width.ensures.value) c.is_too_long.ensures in
    let terms = terms_counted m c.deref-3.result.now c.deref-2.result.now (c.deref-3.ensures.value ∙ uses) (c.deref-2.ensures.value ∙ order) in
    let slopes = slopes_counted m c.deref-3.result.now c.deref-2.result.now (c.deref-3.ensures.value ∙ uses) (c.deref-2.ensures.value ∙ order) valid.complete.objective in
    large_fault m (large_terms m (long ∙ c.if-is_too_long.false) (omega (arith, terms, slopes, c.in_default.ensures)))

-- the program is not too large, where its terms were counted
few : (c : In-Some) → is_too_large c.args.mps.now ≡ false
few c =
    let m = c.args.mps.now in
    let all : c.rows-all.result.now ≡ m.rows = c.rows-all.ensures.value in
    let valid = c.rows-all.ensures.valid in
    let uses : c.in_ok-rows.rows.uses.items ≡ listed (use_of m.rows) (length m.rows) = c.in_ok-rows.ensures.uses ∙ ap (λ rs. listed (use_of rs) (length rs)) all in
    let kinds = c.deref.ensures.value ∙ c.in_ok-columns.ensures.kinds in
    let order : c.in_ok-variables.variables.columns.items ≡ order_of_columns m = c.in_ok-variables.ensures.columns ∙ order_is m c.deref.result.now kinds in
    let count : c.in_ok-rows.rows.constraints ≡ length (constraints m.rows) = c.in_ok-rows.ensures.constraints ∙ ap (λ rs. rank rs (length rs)) all ∙ rank_all m in
    let long = large_is m c.in_ok-rows.rows.constraints (length c.columns-width.result.now) c.is_too_long.result count (ap length c.columns-width.ensures.value) c.is_too_long.ensures in
    let terms = terms_counted m c.deref-3.result.now c.deref-2.result.now (c.deref-3.ensures.value ∙ uses) (c.deref-2.ensures.value ∙ order) in
    let slopes = slopes_counted m c.deref-3.result.now c.deref-2.result.now (c.deref-3.ensures.value ∙ uses) (c.deref-2.ensures.value ∙ order) valid.complete.objective in
    not_large m (long ∙ c.if-is_too_long.false) (omega (arith, terms, slopes, c.in-Some.ensures.0, c.in-Some.ensures.1, c.in-Some.ensures.2))

pub returns-in_err-sides-clause-fault : goal.returns-in_err-sides-clause-fault
returns-in_err-sides-clause-fault c =
    wide_stop c.args.mps.now c.from_residual-in_err-sides.result c.in_err-sides.field-0.0
    (few (goal.at.returns-in_err-sides-clause-fault c).In-Some) c.in_err-sides.ensures.fault
    c.from_residual-in_err-sides.ensures.1

pub first_empty-requires : goal.first_empty-requires
first_empty-requires c =
    let m = c.args.mps.now in
    let valid = c.rows-all.ensures.valid in
    let sides = c.in_ok-columns.ensures.sides in
    omega (arith, ap length (c.deref-4.ensures.value ∙ sides), listed_length (λ j. sides_from (column_interval (values_of m) j)) (length m.columns), valid.part.columns.few)

pub returns-in-Some-first_empty-clause-fault : goal.returns-in-Some-first_empty-clause-fault
returns-in-Some-first_empty-clause-fault c =
    empty_fault c.args.mps.now c.in-Some-first_empty.column
    (few (goal.at.returns-in-Some-first_empty-clause-fault c).In-Some) c.in_ok-sides.ensures.clean
    (sym (empty_is c.args.mps.now c.deref-4.result.now (c.deref-4.ensures.value ∙ c.in_ok-columns.ensures.sides))
    ∙ sym c.first_empty.ensures ∙ c.in-Some-first_empty.is)

pub returns-clause-parts : goal.returns-clause-parts
returns-clause-parts c =
    let m = c.args.mps.now in
    let all : c.rows-all.result.now ≡ m.rows = c.rows-all.ensures.value in
    let valid = c.rows-all.ensures.valid in
    let uses : c.in_ok-rows.rows.uses.items ≡ listed (use_of m.rows) (length m.rows) = c.in_ok-rows.ensures.uses ∙ ap (λ rs. listed (use_of rs) (length rs)) all in
    let kinds = c.deref.ensures.value ∙ c.in_ok-columns.ensures.kinds in
    let sides = c.in_ok-columns.ensures.sides in
    let order : c.in_ok-variables.variables.columns.items ≡ order_of_columns m = c.in_ok-variables.ensures.columns ∙ order_is m c.deref.result.now kinds in
    let terms = terms_counted m c.deref-3.result.now c.deref-2.result.now (c.deref-3.ensures.value ∙ uses) (c.deref-2.ensures.value ∙ order) in
    let slopes = slopes_counted m c.deref-3.result.now c.deref-2.result.now (c.deref-3.ensures.value ∙ uses) (c.deref-2.ensures.value ∙ order) valid.complete.objective in
    record {
      clean = no_fault m (few (goal.at.returns-clause-parts c).In-Some) c.in_ok-sides.ensures.clean
          (sym (empty_is m c.deref-4.result.now (c.deref-4.ensures.value ∙ sides)) ∙ sym c.first_empty.ensures
          ∙ c.in_default-first_empty.is);
      uses = uses;
      objective = c.in_ok-rows.ensures.objective ∙ ap objective_row all;
      sides = c.in_ok-sides.ensures.sides;
      bounds = sides;
      order = order;
      binary = c.in_ok-variables.ensures.binary ∙ ap length (binary_places m c.deref.result.now kinds);
      integer = c.in_ok-variables.ensures.integer ∙ ap length (integer_places m c.deref.result.now kinds);
      terms = c.in-Some.ensures.0 ∙ terms;
      slopes = c.in-Some.ensures.1 ∙ slopes;
    }
