-- Rows whose terms are handed on as they stand: those of a number, where they ascend.
use Rattle.std.specs.Prelude.{◌≡◌, ℕ, List}
use Rattle.exact_numbers.specs.declared.frac.Frac.{Frac}
use Rattle.exact_numbers.specs.Values.{frac_value}
use Rattle.linear_program.specs.Lines.{Line, Point, constant_line}
use Rattle.nl_model.specs.Trees.{Known, Tree}
use Rattle.nl_model.specs.Rules.{AreTermsBelow}
use Rattle.nl_model.specs.Expressions.{linear_terms}
use Rattle.linear_program.specs.declared.form.Form.{Form}
use Rattle.linear_program.specs.declared.form.Kept.TheVariants.{Closed}
use Rattle.linear_program.specs.Decimals.{AreDecimals, DecimalTerm, fraction_terms}
use Rattle.linear_program.specs.Forms.{form_line}
use Rattle.linear_fold.specs.declared.entries.Entry.{Entry}
use Rattle.linear_fold.specs.declared.entries.Entry.TheVariants.{Linear, Broken as IsBroken}
use Rattle.linear_fold.specs.declared.entries.Held.{Held}
use Rattle.linear_fold.specs.declared.entries.Held.TheVariants.{Number, Broken}
use Rattle.linear_fold.specs.InsideFolds.{ComesToTerms, IsEntryWithin, IsExpressionFolded, IsFolded}

-- the form of a number and of terms
abbrev pub form_with : Frac → List DecimalTerm → Form
form_with k ts = record { kept = Closed (fraction_terms ts) k }

-- what a row comes to with its terms
abbrev pub held_entry : List DecimalTerm → Held → Entry
held_entry ts (Number k) = Linear (form_with k ts)
held_entry ts (Broken x) = IsBroken x

-- the terms are those of a form, unless there is a fault
abbrev pub HasDecimals : List DecimalTerm → Held → Type 0
HasDecimals ts (Number k) = AreDecimals 0 ts
HasDecimals ts (Broken x) = Unit {0}

-- the form of a line with terms, of which the first has the number i, or the first fault
pub record ComesToHeld (a : Line) (i : ℕ) (ts : List DecimalTerm) (h : Held) : Type 0 where
  pub decimals : HasDecimals ts h
  pub entry : ComesToTerms a i (linear_terms ts) (held_entry ts h)

-- a tree is a number
abbrev pub IsNumber : Tree → Frac → Type 0
IsNumber t k =
    (known : Point → Known) (n : ℕ) (form : Form) → form_line form ≡ constant_line (frac_value k)
    → IsFolded known n 0 t (Linear form)

-- what a tree with terms comes to, whatever the number of variables
pub record IsHeld (t : Tree) (ts : List DecimalTerm) (h : Held) : Type 0 where
  pub decimals : HasDecimals ts h
  pub folded : (known : Point → Known) (n : ℕ) → AreTermsBelow n ts
      → IsExpressionFolded known n (record { tree = t; terms = linear_terms ts }) (held_entry ts h)
  pub within : (n : ℕ) → AreTermsBelow n ts → IsEntryWithin n (held_entry ts h)
