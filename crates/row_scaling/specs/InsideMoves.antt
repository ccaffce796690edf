-- The rows of a linear program that is let go.
use Rattle.std.specs.Prelude.{◌≡◌, ℕ, ◌<◌, List, length, get_or}
use Rattle.linear_program.specs.declared.form.Form.{Form}
use Rattle.linear_program.specs.declared.interval.Interval.{Interval}
use Rattle.linear_program.specs.Programs.{LinearValue, IsLinear}

-- the body and the sides of constraint i
pub record IsRow (l : LinearValue) (i : ℕ) (body : Form) (side : Interval) : Type 0 where
  pub linear : IsLinear l
  pub below : i < length l.bodies
  pub body_is : body ≡ get_or l.bodies i body
  pub side_is : side ≡ get_or l.sides i side

-- the bodies and the sides of all constraints
pub record HasRows (l : LinearValue) (bodies : List Form) (sides : List Interval) : Type 0 where
  pub linear : IsLinear l
  pub bodies_are : bodies ≡ l.bodies
  pub sides_are : sides ≡ l.sides
