-- The bodies of a file, of which some are held: their terms are still to come.
use Rattle.std.specs.Prelude.{◌≡◌, ℕ, Bool, true, false, List, [], ◌∷◌, length}
use Rattle.nl_model.specs.declared.at.Owner.TheVariants.{Con}
use Rattle.nl_model.specs.File.{File}
use Rattle.nl_model.specs.FilePlaces.{terms_at, tree_at}
use Rattle.nl_model.specs.Expressions.{tree_or_zero}
use Rattle.linear_program.specs.declared.form.Form.{Form}
use Rattle.linear_program.specs.Decimals.{AreDecimals, DecimalTerm}
use Rattle.linear_program.specs.Forms.{kept_constant}
use Rattle.linear_fold.specs.declared.entries.Held.{Held}
use Rattle.linear_fold.specs.InsideHeld.{IsHeld, form_with}
use Rattle.linear_fold.specs.declared.bodies.Bodies.{Bodies}
use Rattle.linear_fold.specs.InsideOwnerFolds.{AreBodiesOf, IsFormOf}

-- what the row of constraint i comes to
abbrev pub IsHeldAt : File → ℕ → Held → Type 0
IsHeldAt f i h = IsHeld (tree_or_zero (tree_at f (Con i))) (terms_at f (Con i)) h

-- the form of a body: where it is held, with its terms
abbrev pub completed_form : Bool → List DecimalTerm → Form → Form
completed_form false ts form = form
completed_form true ts form = form_with (kept_constant form.kept) ts

-- terms that are still to come are those of a form
abbrev pub IsStillDecimal : Bool → List DecimalTerm → Type 0
IsStillDecimal false ts = Unit {0}
IsStillDecimal true ts = AreDecimals 0 ts

-- the form of body i with its terms
abbrev pub body_at : File → ℕ → Bool → Form → Form
body_at f i held form = completed_form held (terms_at f (Con i)) form

-- body i has the form, where it is held with its terms
pub record IsBodyOf (f : File) (i : ℕ) (held : Bool) (form : Form) : Type 0 where
  pub form_is : IsFormOf f (Con i) (body_at f i held form)
  pub decimals : IsStillDecimal held (terms_at f (Con i))

-- ---- lists of bodies
-- the forms with their terms, in order
abbrev pub completed : List Bool → List (List DecimalTerm) → List Form → List Form
completed [] tss forms = []
completed (h ∷ hs) [] forms = []
completed (h ∷ hs) (ts ∷ tss) [] = []
completed (h ∷ hs) (ts ∷ tss) (b ∷ forms) = completed_form h ts b ∷ completed hs tss forms

abbrev pub AreStillDecimals : List Bool → List (List DecimalTerm) → Type 0
AreStillDecimals [] tss = Unit {0}
AreStillDecimals (h ∷ hs) [] = Unit {0}
AreStillDecimals (h ∷ hs) (ts ∷ tss) = IsStillDecimal h ts × AreStillDecimals hs tss

-- the forms of bodies with their terms
abbrev pub bodies_in : File → Bodies → List Form
bodies_in f v = completed v.held.items f.terms v.forms.items

-- the bodies of all constraints; none is held where none is to be
pub record HasBodies (f : File) (hold : Bool) (v : Bodies) : Type 0 where
  pub bodies_are : AreBodiesOf f 0 (bodies_in f v)
  pub still : AreStillDecimals v.held.items f.terms
  pub number : length v.forms.items ≡ f.counts.n_con
  pub marks : length v.held.items ≡ f.counts.n_con
  pub as_they_are : hold ≡ false → bodies_in f v ≡ v.forms.items
