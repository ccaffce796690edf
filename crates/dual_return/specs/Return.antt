-- What an answer is returned as, and which dual is too wide: own profile, but for the sign, which
-- is AMPL's.
use Rattle.std.specs.Prelude.{◌≡◌, ◌⊎◌, ℕ, ◌+◌, ◌<◌, ℤ, pos, negsuc, ◌*ℤ◌, ◌≤ℤ◌, Bool, true, false, ◌&&◌, IsTrue, List, [], ◌∷◌, ◌++◌, length, map, get_or, slice_get, filter_map, Option, Some, None, is_some, IfSome, option_map, if◌then◌else◌}
use Rattle.std.specs.List.{list_any}
use Rattle.exact_numbers.specs.Rational.{ℚ, whole, zero_ℚ, ◌*ℚ◌, ◌-ℚ◌}
use Rattle.exact_numbers.specs.declared.dec.Dec.{Dec}
use Rattle.exact_numbers.specs.Values.{dec_value, IsInReach}
use Rattle.linear_program.specs.Linear.{Linear, row_at}
use Rattle.nl_model.specs.File.{File}
use Rattle.nl_model.specs.declared.header_counts.Counts.{Counts}
use Rattle.nl_model.specs.declared.suffix.Suffix.{Suffix}
use Rattle.nl_model.specs.Expressions.{maximises}
use Rattle.nl_model.specs.LinearFile.{linear_of}
use Rattle.scaled_program.specs.Fits.{factor_of_row, factor_of_objective}
use Rattle.scaled_program.specs.ExportedProgram.{program, tied_program, program_row}
use Rattle.scaled_program.specs.Program.{is_exported}
use Rattle.scaled_program.specs.Return.{dual_of}
use Rattle.nl_model.specs.Meaning.{body_value}
use Rattle.mps_model.specs.Mps.{Mps, row_value}
use Rattle.row_scaling.specs.Scaled.{ScaledValue}
use Rattle.row_scaling.specs.Scaling.{IsScaledOf, factor_at}
use Rattle.answer_file.specs.Grammar.{AnswerValue}
use Rattle.answer_file.specs.Names.{setting_by}
use Rattle.answer_file.specs.Reading.{IsAnswer}
use Rattle.answer_file.specs.declared.naming.Naming.{Naming}
use Rattle.sol_files.specs.Sol.{Sol}
use Rattle.sol_files.specs.declared.suffix.SolSuffix.{SolSuffix}
use Rattle.dual_return.specs.declared.fault.ReturnFault.{ReturnFault}
use Rattle.dual_return.specs.declared.fault.ReturnFault.TheVariants.{DualTooWide}

-- ---- what is given

-- a text says the answer for the file, with some names of its columns and rows
abbrev pub IsAnswerFor : File → AnswerValue → Type 0
IsAnswerFor f a = (naming : Naming) × (text : List ℕ) × IsAnswer (setting_by naming f) text a

-- the linear program of the file with the answer's objective
abbrev pub linear_for : File → AnswerValue → Linear
linear_for f a = linear_of f a.objective

-- ---- duals

-- -1 where the sign is turned, else 1
abbrev pub sign_by : Bool → ℤ
sign_by turned = if turned then negsuc 0 else pos 1

-- it is turned where duals are given as for minimising and the objective is maximised
abbrev pub sign_of : File → AnswerValue → ℤ
sign_of f a = sign_by (a.min_sign && maximises f a.objective)

-- the whole number by which the dual of row i is multiplied
abbrev pub multiplier_of : File → AnswerValue → ℕ → ℤ
multiplier_of f a i = sign_of f a *ℤ pos (factor_of_row (linear_for f a) i)

-- the product of the answer's value and the multiplier is in reach, where row i is exported
abbrev pub Reaches : File → AnswerValue → ℕ → Type 0
Reaches f a i =
    IsTrue (is_exported (row_at (linear_for f a) i)) → (w : Dec) → get_or a.rows i None ≡ Some w
    → IsInReach w (multiplier_of f a i)

-- The dual of an exported row with a value in the answer is that value times the sign and the
-- factor, and is in reach; that of any other row is 0.
pub record IsDualAt (f : File) (a : AnswerValue) (i : ℕ) (d : Dec) : Type 0 where
  pub reach : Reaches f a i
  pub exported : IsTrue (is_exported (row_at (linear_for f a) i))
      → (w : Dec) → get_or a.rows i None ≡ Some w
      → dec_value d
      ≡ dual_of (whole (sign_of f a)) (dec_value w) (factor_of_row (linear_for f a) i)
  pub other : (IsTrue (is_exported (row_at (linear_for f a) i)) → ⊥) ⊎ (get_or a.rows i None ≡ None)
      → dec_value d ≡ zero_ℚ

-- all duals
pub record AreDuals (f : File) (a : AnswerValue) (duals : List Dec) : Type 0 where
  pub count : length duals ≡ f.counts.n_con
  pub each : (i : ℕ) (d : Dec) → slice_get duals i ≡ Some d → IsDualAt f a i d

-- duals are given exactly where the answer has a value of a row
abbrev pub AreDualsIf : Bool → File → AnswerValue → List Dec → Type 0
AreDualsIf true f a duals = AreDuals f a duals
AreDualsIf false f a duals = duals ≡ []

-- ---- all of it

-- the values that are there
abbrev pub given : List (Option Dec) → List Dec
given values = filter_map (λ v. v) values

-- the objective's number and the status, where a status was given
abbrev pub objno_of : AnswerValue → Option (ℤ × ℤ)
objno_of a = option_map (λ n. (pos a.objective, pos n)) a.status

-- the length of the name counts one byte more, and the table is empty
abbrev pub suffix_for : Suffix → SolSuffix
suffix_for s = record {
  kind = s.kind;
  name = s.name;
  name_len = length s.name + 1;
  table_len = 0;
  table = [];
  values = s.values;
}

-- the .sol file of an answer for a file
pub record IsReturn (f : File) (a : AnswerValue) (s : Sol) : Type 0 where
  pub message : s.message ≡ a.message
  pub options : s.options ≡ f.options
  pub constraints : s.n_con ≡ f.counts.n_con
  pub duals : AreDualsIf (list_any is_some a.rows) f a s.duals
  pub variables : s.n_var ≡ f.counts.n_var
  pub primals : s.primals ≡ given a.columns
  pub objno : s.objno ≡ objno_of a
  pub suffixes : s.suffixes ≡ map suffix_for a.suffixes

-- the first exported row whose dual is out of reach
pub record IsTooWideAt (f : File) (a : AnswerValue) (i : ℕ) : Type 0 where
  pub within : i < f.counts.n_con
  pub before : (k : ℕ) → k < i → Reaches f a k
  pub exported : IsTrue (is_exported (row_at (linear_for f a) i))
  pub value : Dec
  pub given_for : get_or a.rows i None ≡ Some value
  pub wide : IsInReach value (multiplier_of f a i) → ⊥

abbrev pub HasReturnFault : File → AnswerValue → ReturnFault → Type 0
HasReturnFault f a (DualTooWide i) = IsTooWideAt f a i

-- a file of these counts and options, which this answers and whose program was scaled so
pub record IsAnswered (counts : Counts) (options : List ℤ) (s : ScaledValue) (a : AnswerValue)
    (f : File) : Type 0 where
  pub counts_are : counts ≡ f.counts
  pub options_are : options ≡ f.options
  pub answer : IsAnswerFor f a
  pub scaled : IsScaledOf (linear_for f a) s

-- Each answer for a file is returned as one .sol file, or has one first dual that is too wide, and
-- never both.
pub record HasOneReturn (f : File) (a : AnswerValue) : Type 0 where
  pub some : ((s : Sol) × IsReturn f a s) ⊎ ((fault : ReturnFault) × HasReturnFault f a fault)
  pub not_both : (s : Sol) (fault : ReturnFault) → IsReturn f a s → HasReturnFault f a fault → ⊥
  pub one_sol : (s t : Sol) → IsReturn f a s → IsReturn f a t → s ≡ t
  pub one_fault : (x y : ReturnFault) → HasReturnFault f a x → HasReturnFault f a y → x ≡ y

-- ---- the law of return

-- the dual d times the change of a body from its value where every variable is 0 is x
abbrev pub IsDualTimes : ℚ → Option ℚ → Option ℚ → ℚ → Type 0
IsDualTimes d None zero x = ⊥
IsDualTimes d (Some v) None x = ⊥
IsDualTimes d (Some v) (Some zero) x = d *ℚ (v -ℚ zero) ≡ x

-- the sign times the value w of row i times the row of this program at a point
abbrev pub answered_change : File → AnswerValue → ℕ → ℚ → Mps ℚ → List ℚ → ℚ
answered_change f a i w m at =
    whole (sign_of f a) *ℚ w *ℚ row_value m at (program_row (linear_for f a) i)

-- At every point, the dual of an exported row times the change of its body is the sign times the
-- answer's value times the row of the program that the file was exported as. Where the program is
-- tied, its point has one number more.
pub record MeanTheProgram (f : File) (a : AnswerValue) (duals : List Dec) : Type 0 where
  pub plain : (i : ℕ) (d w : Dec) (xs : List ℚ) → slice_get duals i ≡ Some d
      → IsTrue (is_exported (row_at (linear_for f a) i)) → get_or a.rows i None ≡ Some w
      → IsDualTimes (dec_value d) (body_value f i xs) (body_value f i [])
      (answered_change f a i (dec_value w)
      (program (linear_for f a) (factor_of_row (linear_for f a))) xs)
  pub tied : (i : ℕ) (d w : Dec) (xs : List ℚ) (z : ℚ) → length xs ≡ f.counts.n_var
      → slice_get duals i ≡ Some d
      → IsTrue (is_exported (row_at (linear_for f a) i)) → get_or a.rows i None ≡ Some w
      → IsDualTimes (dec_value d) (body_value f i xs) (body_value f i [])
      (answered_change f a i (dec_value w)
      (tied_program (linear_for f a) (factor_of_row (linear_for f a))
      (factor_of_objective (linear_for f a))) (xs ++ z ∷ []))

-- ---- one dual

-- the dual of a row: 0 where there is no factor or no value, else the product; none where that is
-- out of reach
abbrev pub DualBy : Option Dec → Option ℤ → ℤ → Option Dec → Type 0
DualBy value None sign (Some d) = dec_value d ≡ zero_ℚ
DualBy value None sign None = ⊥
DualBy None (Some g) sign (Some d) = dec_value d ≡ zero_ℚ
DualBy None (Some g) sign None = ⊥
DualBy (Some w) (Some g) sign (Some d) = IsInReach w (sign *ℤ g)
    × (dec_value d ≡ dec_value w *ℚ whole (sign *ℤ g))
DualBy (Some w) (Some g) sign None = IsInReach w (sign *ℤ g) → ⊥

-- the factors of rows are not below 0
abbrev pub AreFactors : ScaledValue → Type 0
AreFactors s = (i : ℕ) → IfSome (factor_at s i) (λ g. pos 0 ≤ℤ g)
