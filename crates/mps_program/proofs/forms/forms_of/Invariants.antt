use Rattle.std.proofs.Common.{◌≡◌, ◌<◌, ◌≤◌, ◌-◌, ◌%◌, []}
use Rattle.mps_program.specs.Faults.{is_body_wide}
use Rattle.mps_program.specs.InsideForms.{AreBodiesOf, IsObjectiveOf}
use Rattle.mps_program.specs.Places.{places}
use Rattle.mps_program.specs.Program.{is_constraint}
use Rattle.mps_program.specs.Terms.{row_terms}
use Rattle.linear_program.specs.Parts.{AreLater}
use Rattle.mps_program.proofs.forms.forms_of.Given as goal

abbrev pub invariant-parts : goal.invariant-parts
invariant-parts l = record {
  within : l.done ≤ l.total;
  start : l.done < l.total → l.done % 1024 ≡ 0;
  later : AreLater l.done l.initial.terms l.terms;
  bodies : AreBodiesOf (row_terms l.mps) (places (is_constraint l.mps.rows) l.done) l.bodies.items;
  none : places (is_body_wide l.mps) l.done ≡ [];
  objective : l.place < l.done → IsObjectiveOf l.mps l.objective;
}

abbrev pub decreases-parts : goal.decreases-parts
decreases-parts l = l.total - l.done
