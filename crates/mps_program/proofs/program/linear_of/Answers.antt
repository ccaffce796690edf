use Rattle.std.proofs.Common.{◌≡◌, ◌∙◌, sym, ap, arith, length, Some}
use Rattle.std.specs.Option.{option_map, option_or}
use Rattle.linear_program.specs.Programs.{LinearValue, linear_value}
use Rattle.mps_model.specs.Mps.{column_interval}
use Rattle.mps_program.specs.declared.mps_fault.MpsFault.TheVariants.{TooWide}
use Rattle.mps_program.specs.Faults.{first_wide, first_wide_body, wide_objective, mps_fault}
use Rattle.mps_program.specs.Decimals.{sides_from}
use Rattle.mps_program.specs.Program.{constraints, values_of}
use Rattle.mps_program.specs.Terms.{row_terms}
use Rattle.mps_program.proofs.FormLemmas.{body_count}
use Rattle.mps_program.proofs.FaultLemmas.{is_small, large_fault, wide_fault, empty_fault, numbers_fault, no_fault, stopped, empty_is}
use Rattle.mps_program.proofs.FirstLemmas.{listed_length}
use Rattle.mps_program.proofs.ProgramLemmas.{IsClean, is_linear, is_program}
use Rattle.mps_program.proofs.program.linear_of.Goals as goal
use Rattle.mps_program.proofs.program.linear_of.Goals.{After-maximise}

pub returns-then-is_too_large-clause-fault : goal.returns-then-is_too_large-clause-fault
returns-then-is_too_large-clause-fault c = large_fault c.args.mps.now (sym c.is_too_large.ensures.value ∙ c.if-is_too_large.true)

pub returns-in_err-sides-clause-fault : goal.returns-in_err-sides-clause-fault
returns-in_err-sides-clause-fault c =
    let m = c.args.mps.now in
    stopped (λ f. option_map TooWide (first_wide m) ≡ Some f) (λ f. mps_fault m ≡ Some f) c.from_residual.result c.in_err-sides.field-0.0
    (wide_fault m (sym c.is_too_large.ensures.value ∙ c.if-is_too_large.false))
    c.in_err-sides.ensures.fault c.from_residual.ensures.1

pub first_empty-requires : goal.first_empty-requires
first_empty-requires c =
    let m = c.args.mps.now in
    omega (
      arith,
      ap length (c.deref.ensures.value ∙ c.in_ok-columns.ensures.sides),
      listed_length (λ j. sides_from (column_interval (values_of m) j)) (length m.columns),
      c.is_too_large.ensures.valid.part.columns.few,
    )

pub returns-in-Some-clause-fault : goal.returns-in-Some-clause-fault
returns-in-Some-clause-fault c =
    let m = c.args.mps.now in
    empty_fault m (sym c.is_too_large.ensures.value ∙ c.if-is_too_large.false) c.in_ok-sides.ensures.clean c.in-Some.column
    (sym (empty_is m c.deref.result.now (c.deref.ensures.value ∙ c.in_ok-columns.ensures.sides)) ∙ sym c.first_empty.ensures ∙ c.in-Some.is)

pub returns-in_err-forms-clause-fault : goal.returns-in_err-forms-clause-fault
returns-in_err-forms-clause-fault c =
    let m = c.args.mps.now in
    stopped (λ f. option_map TooWide (option_or (first_wide_body m) (wide_objective m)) ≡ Some f) (λ f. mps_fault m ≡ Some f) c.from_residual-in_err-forms.result c.in_err-forms.field-0.0
    (λ f h.
    numbers_fault m (sym c.is_too_large.ensures.value ∙ c.if-is_too_large.false) c.in_ok-sides.ensures.clean
    (sym (empty_is m c.deref.result.now (c.deref.ensures.value ∙ c.in_ok-columns.ensures.sides)) ∙ sym c.first_empty.ensures ∙ c.in_default.is)
    ∙ h)
    c.in_err-forms.ensures.fault c.from_residual-in_err-forms.ensures.1

-- the program has no fault of those that its linear program rests on
clean : (c : After-maximise) → IsClean c.args.mps.now
clean c =
    record {
      small = is_small c.args.mps.now (sym c.is_too_large.ensures.value ∙ c.if-is_too_large.false);
      wide = c.in_ok-sides.ensures.clean;
      bodies = c.in_ok-forms.ensures.clean;
      objective = c.in_ok-forms.ensures.objective.0;
    }

pub of_parts-requires : goal.of_parts-requires
of_parts-requires c =
    is_linear c.args.mps.now c.is_too_large.ensures.valid.part.columns.entries
    (clean (goal.at.of_parts-requires c).After-maximise) c.in_ok-forms.forms.bodies.items
    c.in_ok-forms.forms.objective c.maximise.result c.in_ok-sides.sides.items c.in_ok-columns.columns.sides.items
    c.in_ok-columns.columns.kinds.items
    c.in_ok-forms.ensures.bodies c.in_ok-forms.ensures.objective.1 c.maximise.ensures c.in_ok-sides.ensures.sides c.in_ok-columns.ensures.sides c.in_ok-columns.ensures.kinds

pub returns-clause-linear : goal.returns-clause-linear
returns-clause-linear c =
    ap linear_value c.of_parts.ensures
    ∙ is_program c.args.mps.now c.is_too_large.ensures.valid.part.columns.entries
    (clean (goal.at.returns-clause-linear c).After-maximise) c.in_ok-forms.forms.bodies.items
    c.in_ok-forms.forms.objective c.maximise.result c.in_ok-sides.sides.items c.in_ok-columns.columns.sides.items
    c.in_ok-columns.columns.kinds.items
    c.in_ok-forms.ensures.bodies c.in_ok-forms.ensures.objective.1 c.maximise.ensures c.in_ok-sides.ensures.sides c.in_ok-columns.ensures.sides c.in_ok-columns.ensures.kinds

pub returns-clause-clean : goal.returns-clause-clean
returns-clause-clean c =
    let m = c.args.mps.now in
    no_fault m (sym c.is_too_large.ensures.value ∙ c.if-is_too_large.false) c.in_ok-sides.ensures.clean
    (sym (empty_is m c.deref.result.now (c.deref.ensures.value ∙ c.in_ok-columns.ensures.sides)) ∙ sym c.first_empty.ensures ∙ c.in_default.is)
    c.in_ok-forms.ensures.clean c.in_ok-forms.ensures.objective.0

pub returns-clause-rows : goal.returns-clause-rows
returns-clause-rows c =
    ap (λ (l : LinearValue). length l.bodies) c.of_parts.ensures ∙ body_count (row_terms c.args.mps.now) (constraints c.args.mps.now.rows) c.in_ok-forms.forms.bodies.items c.in_ok-forms.ensures.bodies

pub returns-clause-kinds : goal.returns-clause-kinds
returns-clause-kinds c = ap (λ (l : LinearValue). l.kinds) c.of_parts.ensures ∙ c.in_ok-columns.ensures.kinds
