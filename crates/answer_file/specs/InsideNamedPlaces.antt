-- The places of suffixes by name.
use Rattle.std.specs.Prelude.{◌≡◌, ℕ, ◌≤◌, ◌^◌, List, [], ◌∷◌, ◌++◌, length, map, Option, Some, None, if◌then◌else◌}
use Rattle.std.specs.Global.{Vec}
use Rattle.std.specs.Str.{bytes_eq}
use Rattle.nl_model.specs.declared.suffix.Suffix.{Suffix}
use Rattle.nl_model.specs.declared.suffix_kinds.Objects.{Objects}
use Rattle.nl_model.specs.declared.suffix_kinds.Objects.TheVariants.{Variables, Constraints, Objectives, Problem}
use Rattle.nl_model.specs.SuffixKinds.{objects_of}
use Rattle.answer_file.specs.Suffixes.{place_named, value_count}

-- what stands beside the first entry of a name
abbrev pub lookup_name : List (List ℕ × ℕ) → List ℕ → Option ℕ
lookup_name [] name = None
lookup_name (entry ∷ entries) name = if bytes_eq name entry.0 then Some entry.1
    else lookup_name entries name

-- the entries of a map by the bytes of their names
abbrev pub by_name : List (Vec ℕ × ℕ) → List (List ℕ × ℕ)
by_name entries = map (λ e. (e.0.items, e.1)) entries

-- for suffixes of columns, of rows, of objectives and of the problem: their places by name
pub record Places : Type 0 where
  pub columns : List (List ℕ × ℕ)
  pub rows : List (List ℕ × ℕ)
  pub objectives : List (List ℕ × ℕ)
  pub problem : List (List ℕ × ℕ)

abbrev pub no_places : Places
no_places = record { columns = []; rows = []; objectives = []; problem = [] }

-- those of suffixes for such objects
abbrev pub places_by : Places → Objects → List (List ℕ × ℕ)
places_by p Variables = p.columns
places_by p Constraints = p.rows
places_by p Objectives = p.objectives
places_by p Problem = p.problem

abbrev pub places_for : Places → ℕ → List (List ℕ × ℕ)
places_for p kind = places_by p (objects_of kind)

-- one name more among those
abbrev pub with_place_by : Places → Objects → List ℕ → ℕ → Places
with_place_by p Variables name place = record p { columns = p.columns ++ (name, place) ∷ [] }
with_place_by p Constraints name place = record p { rows = p.rows ++ (name, place) ∷ [] }
with_place_by p Objectives name place = record p { objectives = p.objectives ++ (name, place) ∷ [] }
with_place_by p Problem name place = record p { problem = p.problem ++ (name, place) ∷ [] }

abbrev pub with_place : Places → ℕ → List ℕ → ℕ → Places
with_place p kind name place = with_place_by p (objects_of kind) name place

-- what is kept beside suffixes: how many values they have, and where each stands
pub record IsTable (suffixes : List Suffix) (values : ℕ) (places : Places) : Type 0 where
  pub values_are : values ≡ value_count suffixes
  pub few : length suffixes ≤ 2 ^ 10
  pub finds : (kind : ℕ) (name : List ℕ) → lookup_name (places_for places kind) name
      ≡ place_named suffixes kind name
