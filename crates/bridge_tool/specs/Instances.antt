-- The written texts of the instances that are made from a seed and a size.
use Rattle.std.specs.Prelude.{ℕ, ◌≤◌}
use Rattle.bridge_tool.specs.Instance.{instance}
use Rattle.nl_writer.specs.Written.{nl_text}
use Rattle.round_trips.specs.Writable.{IsText, IsWritable}

-- an instance of at most 20,000 variables can be written: its lines and its text are short enough,
-- too
abbrev pub InstancesAreWritable : Type 0
InstancesAreWritable = (seed size : ℕ) → size ≤ 20000 → IsWritable (instance seed size)

-- what is written of it is a text that says this instance
abbrev pub InstancesAreSaid : Type 0
InstancesAreSaid =
    (seed size : ℕ) → size ≤ 20000 → IsText (instance seed size) (nl_text (instance seed size))
