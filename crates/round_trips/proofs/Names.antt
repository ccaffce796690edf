-- The names of an exported program have at most eight bytes.
use Rattle.std.proofs.Common.{ℕ, ◌<◌, ◌≤◌, ◌^◌, Bool, List, ◌∷◌, length, map, subst, arith}
use Rattle.std.specs.Prelude.{All}
use Rattle.std.specs.Fmt.{decimal}
use Rattle.std.proofs.lemmas.Fmt.{length-decimal-le}
use Rattle.std.proofs.lemmas.List.Elements.{All-cons, All-map}
use Rattle.exact_numbers.specs.Rational.{ℚ}
use Rattle.linear_program.specs.Linear.{Form, Row, Variable, Linear, no_row, no_variable}
use Rattle.scaled_program.specs.Program.{ScaledProgram, ScaledRow, exported_rows}
use Rattle.scaled_program.specs.ExportedProgram.{mps_row, obj_name, mps_of}
use Rattle.mps_model.specs.Mps.{MpsRow, Column, Mps}
use Rattle.mps_model.specs.declared.kinds.RowKind.TheVariants.{N}
use Rattle.round_trips.specs.Exportable.{IsNamedByNumber}
use Rattle.round_trips.proofs.ProgramNames.{other_default}
use Rattle.round_trips.proofs.ProgramParts.{columns_all, exported_all}

-- ---- of a linear program

abbrev pub ShortRow : Row → Type 0
ShortRow r = length r.name ≤ 8

abbrev pub ShortVariable : Variable → Type 0
ShortVariable v = length v.name ≤ 8

-- a letter and a number
numbered : (letter n : ℕ) → n < 2 ^ 20 → length (letter ∷ decimal n) ≤ 8
numbered letter n lt = omega (arith, length-decimal-le 7 n (omega arith) (omega (arith, lt)) (omega (arith, lt)))

pub rows_short : (l : Linear) → IsNamedByNumber l → All ShortRow l.rows
rows_short l is i d lt = subst (λ (r : Row). ShortRow r) (other_default l.rows i no_row d lt) (rw (is.rows i lt) (numbered 99 i (omega (arith, lt, is.few_rows))))

pub variables_short : (l : Linear) → IsNamedByNumber l → All ShortVariable l.variables
variables_short l is j d lt = subst (λ (v : Variable). ShortVariable v) (other_default l.variables j no_variable d lt) (rw (is.variables j lt) (numbered 120 j (omega (arith, lt, is.few_variables))))

-- ---- of the program

abbrev pub ShortScaled : ScaledRow → Type 0
ShortScaled r = length r.name ≤ 8

abbrev pub ShortColumn : (V : Type 0) → Column V → Type 0
ShortColumn V c = length c.name ≤ 8

pub rows_exported : (factor : ℕ → ℕ) (i : ℕ) (rs : List Row) → All ShortRow rs → All ShortScaled (exported_rows factor i rs)
rows_exported factor i rs h = exported_all ShortScaled factor i rs (λ j k e lt is. h j no_row lt)

-- a scaled program by its parts
abbrev pub scaled_of : List ScaledRow → Form → List Variable → Bool → ScaledProgram
scaled_of rows objective vs maximise = record { rows = rows; objective = objective; variables = vs; maximise = maximise }

-- a program with short names
pub record IsShort (m : Mps ℚ) : Type 0 where
  pub rows : All (λ r. length r.name ≤ 8) m.rows
  pub columns : All (ShortColumn ℚ) m.columns

pub short_program : (rows : List ScaledRow) (objective : Form) (vs : List Variable) (maximise : Bool)
    → All ShortScaled rows → All ShortVariable vs → IsShort (mps_of (scaled_of rows objective vs maximise))
unfolding mps_of
short_program rows objective vs maximise named short_vs = record {
  rows = All-cons (λ (r : MpsRow). length r.name ≤ 8) (record { name = obj_name; kind = N }) (map mps_row rows) (omega arith) (All-map (λ (r : MpsRow). length r.name ≤ 8) mps_row rows named);
  columns = columns_all (ShortColumn ℚ) ShortVariable objective rows 0 vs (λ k v lt short. short) short_vs;
}
