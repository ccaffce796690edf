-- The owners of a file, folded one after the other.
use Rattle.std.specs.Prelude.{◌≡◌, ℕ, suc, ◌+◌, ◌-◌, ◌<◌, ◌≤◌, true, false, List, [], ◌∷◌, ◌++◌, length, map, take, get_or, sum_by, Option, Some, None, option_map, Result, Ok, Err}
use Rattle.std.specs.Option.{option_map_or}
use Rattle.text_base.specs.declared.stop.Stop.{Stop}
use Rattle.text_base.specs.declared.stop.Stop.TheVariants.{Fault, Memory}
use Rattle.linear_program.specs.Lines.{Point}
use Rattle.nl_model.specs.Trees.{Known, Tree, Expression, expression_given, known_values, tree_size}
use Rattle.nl_model.specs.declared.at.Owner.{Owner}
use Rattle.nl_model.specs.declared.at.Owner.TheVariants.{Def, Con, Obj}
use Rattle.nl_model.specs.File.{Term, File}
use Rattle.nl_model.specs.declared.definition.Def.{Def as Definition}
use Rattle.nl_model.specs.FilePlaces.{tree_at, terms_at, node_count}
use Rattle.nl_model.specs.HeaderRules.{defined_count}
use Rattle.nl_model.specs.Rules.{is_defined}
use Rattle.nl_model.specs.Expressions.{definition_of, linear_terms, tree_or_zero}
use Rattle.nl_model.specs.FoldFaults.{Owned, most_coefficients, owners_fault}
use Rattle.linear_fold.specs.declared.fold_fault.FoldFault.{FoldFault}
use Rattle.linear_program.specs.declared.form.Form.{Form}
use Rattle.linear_fold.specs.declared.owners.Folder.{Folder}
use Rattle.linear_fold.specs.InsideFolds.{AreKnown, AreSlotsWithin, HasLineOf, IsGiven}
use Rattle.linear_fold.specs.FoldedFaults.{named_fault}
use Rattle.linear_program.specs.Forms.{IsWithin, form_terms}
use Rattle.linear_fold.specs.InsideOperates.{IsPad}
use Rattle.linear_program.specs.Programs.{IsFormOver}

-- the file has the owner
abbrev pub HasOwner : File → Owner → Type 0
HasOwner f (Def i) = i < length f.definitions
HasOwner f (Con i) = i < f.counts.n_con
HasOwner f (Obj k) = k < f.counts.n_obj

-- the definitions that an owner may use
abbrev pub definitions_before : File → Owner → List Definition
definitions_before f (Def i) = take i f.definitions
definitions_before f (Con i) = f.definitions
definitions_before f (Obj k) = f.definitions

-- the values of defined variables
abbrev pub known_by : List Definition → Point → Known
known_by ds = known_values (map definition_of ds)

-- the tree of an owner, 0 where none was given, and its terms
abbrev pub expression_at : File → Owner → Expression
expression_at f o =
    record { tree = tree_or_zero (tree_at f o); terms = linear_terms (terms_at f o) }

abbrev pub owned_at : File → Owner → Owned
owned_at f o =
    record {
      owner = o;
      known = known_by (definitions_before f o);
      expression = expression_at f o;
    }

-- the nodes and the terms of an owner
abbrev pub owner_size : File → Owner → ℕ
owner_size f o = node_count f o + length (terms_at f o)

-- how many places hold a form
abbrev pub form_count : List (Option Form) → ℕ
form_count slots = sum_by (λ s. option_map_or (λ f. 1) s 0) slots

-- the forms of definitions, by their index less the number of variables
pub record AreSlotsOf (f : File) (ds : List Definition) (slots : List (Option Form)) : Type 0 where
  pub within : AreSlotsWithin f.counts.n_var slots
  pub known : AreKnown f.counts.n_var (known_by ds) slots
  pub given : (i : ℕ) → is_defined ds i ≡ true → IsGiven f.counts.n_var slots i
  pub free : (i : ℕ) → is_defined ds i ≡ false → f.counts.n_var ≤ i
      → get_or slots (i - f.counts.n_var) None ≡ None
  pub room : length slots ≡ defined_count f.counts
  pub filled : form_count slots ≡ length ds

-- a folder that holds the forms of definitions, and at most the greatest number of coefficients
pub record HasFolded (f : File) (ds : List Definition) (folder : Folder) : Type 0 where
  pub variables : folder.variables ≡ f.counts.n_var
  pub pad : IsPad f.counts.n_var folder.room.pad
  pub few : folder.count ≤ most_coefficients
  pub slots : AreSlotsOf f ds folder.slots.items

-- the form of an owner has its values, and is one of the variables of the file
pub record IsFormOf (f : File) (o : Owner) (form : Form) : Type 0 where
  pub values : HasLineOf f.counts.n_var
      (λ at. expression_given (known_by (definitions_before f o) at) (expression_at f o) at) form
  pub within : IsWithin f.counts.n_var form
  pub over : IsFormOver f.counts.n_var form

-- the first fault of owners is one of the first of them, whatever follows
abbrev pub HasStopped : File → ℕ → List Owned → Stop FoldFault → Type 0
HasStopped f before os (Fault x) =
    (rest : List Owned)
    → option_map (named_fault f) (owners_fault f.counts.n_var before (os ++ rest)) ≡ Some x
HasStopped f before os Memory = Unit {0}

-- owners are folded in order, before others: none of them has a fault and the coefficients are
-- counted, or the first fault is one of theirs
abbrev pub AreOwnersFolded : {A : Type 0} → File → ℕ → List Owned → ℕ → Result A (Stop FoldFault)
    → Type 0
AreOwnersFolded f before os after (Ok x) =
    (rest : List Owned)
    → owners_fault f.counts.n_var before (os ++ rest) ≡ owners_fault f.counts.n_var after rest
AreOwnersFolded f before os after (Err stop) = HasStopped f before os stop

-- the nodes and the terms of definitions, and of bodies
abbrev pub definitions_size : List Definition → ℕ
definitions_size ds = sum_by (λ d. tree_size d.tree) ds + sum_by (λ d. length d.terms) ds

abbrev pub bodies_size : List (Option Tree) → List (List Term) → ℕ
bodies_size bodies terms = sum_by (λ b. option_map_or tree_size b 0) bodies + sum_by length terms

-- the forms of bodies in order, of which the first is that of constraint i
abbrev pub AreBodiesOf : File → ℕ → List Form → Type 0
AreBodiesOf f i [] = Unit {0}
AreBodiesOf f i (b ∷ bodies) = IsFormOf f (Con i) b × AreBodiesOf f (suc i) bodies

-- the coefficients of forms
abbrev pub coefficients_of : List Form → ℕ
coefficients_of forms = sum_by (λ b. length (form_terms b)) forms

-- the forms of all bodies, and of objective k
pub record AreFormsOf (f : File) (k : ℕ) (bodies : List Form) (objective : Form) : Type 0 where
  pub bodies_are : AreBodiesOf f 0 bodies
  pub count : length bodies ≡ f.counts.n_con
  pub objective_is : IsFormOf f (Obj k) objective
  pub few : coefficients_of bodies + length (form_terms objective) ≤ most_coefficients
