use Rattle.std.proofs.Common.{◌≡◌, ◌+◌, []}
use Rattle.mps_program.specs.Faults.{is_body_wide}
use Rattle.mps_program.specs.InsideForms.{AreBodiesOf}
use Rattle.mps_program.specs.Places.{places}
use Rattle.mps_program.specs.Program.{is_constraint}
use Rattle.mps_program.specs.Terms.{row_terms}
use Rattle.mps_program.proofs.forms.add_bodies.Given as goal

abbrev pub invariant-rows : goal.invariant-rows
invariant-rows l = record {
  bodies : AreBodiesOf (row_terms l.mps) (places (is_constraint l.mps.rows) (l.first + l.k)) l.bodies.items;
  none : places (is_body_wide l.mps) (l.first + l.k) ≡ [];
}
