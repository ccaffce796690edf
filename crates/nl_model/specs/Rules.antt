-- What each .nl file keeps: indices in range, orders, and no repeats (Gay 2005, "Writing .nl
-- Files"; the limits are this project's own).
use Rattle.std.specs.Prelude.{◌≡◌, ◌≢◌, ℕ, ◌+◌, ◌^◌, ◌<◌, ◌≤◌, Bool, false, ◌&&◌, ◌==◌, IsTrue, List, [], ◌∷◌, ◌++◌, length, sum_by, All, AllPairs, Option, IfSome}
use Rattle.std.specs.List.{list_any}
use Rattle.std.specs.Str.{bytes_eq}
use Rattle.nl_model.specs.Trees.{Tree, number, variable, defined, operator, Trees, none, more}
use Rattle.nl_model.specs.declared.header_counts.Counts.{Counts}
use Rattle.nl_model.specs.File.{Term, File}
use Rattle.nl_model.specs.declared.objective.Objective.{Objective}
use Rattle.nl_model.specs.declared.definition.Def.{Def as Definition}
use Rattle.nl_model.specs.declared.suffix.Suffix.{Suffix}
use Rattle.nl_model.specs.HeaderRules.{is_header, defined_count}
use Rattle.nl_model.specs.Nodes.{IsTreeFormed}
use Rattle.nl_model.specs.SuffixKinds.{has_same_objects, object_limit}
use Rattle.linear_program.specs.Intervals.{IsOrdered}

-- limits: terms of all constraints together, and terms of one other owner
abbrev pub most_terms : ℕ
most_terms = 2 ^ 22

-- one of the definitions has the index i
abbrev pub is_defined : List Definition → ℕ → Bool
is_defined ds i = list_any (λ d. d.index == i) ds

-- the variables are below n, and each defined variable is one of these
abbrev mutual
  pub IsTreeWithin : ℕ → List Definition → Tree → Type 0
  IsTreeWithin n ds (number m e) = Unit {0}
  IsTreeWithin n ds (variable j) = j < n
  IsTreeWithin n ds (defined i) = IsTrue (is_defined ds i)
  IsTreeWithin n ds (operator c ts) = AreTreesWithin n ds ts

  pub AreTreesWithin : ℕ → List Definition → Trees → Type 0
  AreTreesWithin n ds none = Unit {0}
  AreTreesWithin n ds (more t ts) = IsTreeWithin n ds t × AreTreesWithin n ds ts

pub record IsTreeKnown (n : ℕ) (ds : List Definition) (t : Tree) : Type 0 where
  pub formed : IsTreeFormed t
  pub within : IsTreeWithin n ds t

abbrev pub AreTermsBelow : ℕ → List Term → Type 0
AreTermsBelow n ts = All (λ t. t.0 < n) ts

-- no index stands twice
abbrev pub AreIndicesApart : List Term → Type 0
AreIndicesApart ts = AllPairs (λ s t. s.0 ≢ t.0) ts

-- a definition that may use n variables and the definitions ds, in a file of k defined variables
pub record IsDefinition (n k : ℕ) (ds : List Definition) (x : Definition) : Type 0 where
  pub from : n ≤ x.index
  pub below : x.index < n + k
  pub fresh : is_defined ds x.index ≡ false
  pub terms : AreTermsBelow n x.terms
  pub few : length x.terms ≤ most_terms
  pub tree : IsTreeKnown n ds x.tree

-- each definition uses the known ones and those before it
abbrev pub AreDefinitions : ℕ → ℕ → List Definition → List Definition → Type 0
AreDefinitions n k known [] = Unit {0}
AreDefinitions n k known (d ∷ ds) =
    IsDefinition n k known d × AreDefinitions n k (known ++ d ∷ []) ds

-- a place for each constraint
pub record AreBodies (c : Counts) (ds : List Definition)
    (bodies : List (Option Tree)) : Type 0 where
  pub count : length bodies ≡ c.n_con
  pub known : All (λ b. IfSome b (IsTreeKnown c.n_var ds)) bodies

pub record AreObjectives (c : Counts) (ds : List Definition) (os : List Objective) : Type 0 where
  pub count : length os ≡ c.n_obj
  pub known : All (λ o. IsTreeKnown c.n_var ds o.tree) os

abbrev pub term_count : List (List Term) → ℕ
term_count rows = sum_by length rows

-- terms of each constraint and of each objective
pub record AreTerms (c : Counts) (terms slopes : List (List Term)) : Type 0 where
  pub rows : length terms ≡ c.n_con
  pub costs : length slopes ≡ c.n_obj
  pub terms_below : All (AreTermsBelow c.n_var) terms
  pub slopes_below : All (AreTermsBelow c.n_var) slopes
  pub few_terms : term_count terms ≤ most_terms
  pub few_slopes : All (λ ts. length ts ≤ most_terms) slopes

-- guesses for some of n places
pub record AreGuesses (n : ℕ) (ts : List Term) : Type 0 where
  pub below : AreTermsBelow n ts
  pub apart : AreIndicesApart ts

-- how many objects of a file a suffix of this kind is for
abbrev pub object_count : Counts → ℕ → ℕ
object_count c kind = object_limit c.n_var c.n_con c.n_obj kind

-- the same name for the same objects
abbrev pub is_suffix_of : ℕ → List ℕ → Suffix → Bool
is_suffix_of kind name s = has_same_objects s.kind kind && bytes_eq s.name name

abbrev pub has_suffix : List Suffix → ℕ → List ℕ → Bool
has_suffix ss kind name = list_any (is_suffix_of kind name) ss

pub record IsSuffix (c : Counts) (s : Suffix) : Type 0 where
  pub below : AreTermsBelow (object_count c s.kind) s.values
  pub apart : AreIndicesApart s.values

pub record AreSuffixes (c : Counts) (ss : List Suffix) : Type 0 where
  pub each : All (IsSuffix c) ss
  pub apart : AllPairs (λ s t. is_suffix_of t.kind t.name s ≡ false) ss

-- what holds of each file
pub record IsFile (f : File) : Type 0 where
  pub ruled : IsTrue (is_header f.options f.counts)
  pub definitions : AreDefinitions f.counts.n_var (defined_count f.counts) [] f.definitions
  pub bodies : AreBodies f.counts f.definitions f.bodies
  pub objectives : AreObjectives f.counts f.definitions f.objectives
  pub terms : AreTerms f.counts f.terms f.slopes
  pub all_terms : term_count f.terms ≡ f.counts.nzc
  pub side_count : length f.sides ≡ f.counts.n_con
  pub sides : All IsOrdered f.sides
  pub bound_count : length f.bounds ≡ f.counts.n_var
  pub bounds : All IsOrdered f.bounds
  pub dual_guesses : AreGuesses f.counts.n_con f.dual_guesses
  pub primal_guesses : AreGuesses f.counts.n_var f.primal_guesses
  pub suffixes : AreSuffixes f.counts f.suffixes
