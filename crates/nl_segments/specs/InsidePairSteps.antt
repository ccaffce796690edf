-- What a pair does to what is held, and by which tests it is judged.
use Rattle.std.specs.Prelude.{◌≡◌, ◌≢◌, ℕ, ◌+◌, ◌<◌, ◌++◌, ◌∷◌, [], Bool, true, false, List, length, Option, Some, unwrap_or, get_or, slice_set, All, if◌then◌else◌}
use Rattle.nl_model.specs.Draft.{Draft}
use Rattle.nl_model.specs.File.{Term}
use Rattle.nl_model.specs.Rules.{AreIndicesApart, AreTermsBelow, has_suffix, most_terms, object_count, term_count}
use Rattle.nl_lines.specs.declared.head.Head.{Head}
use Rattle.nl_lines.specs.declared.head.Head.TheVariants.{DualGuesses, PrimalGuesses, Terms, Slopes, Suffix}
use Rattle.nl_lines.specs.Pieces.{is_nothing, keeps_pairs}
use Rattle.nl_lines.specs.Tests.{holds_once}
use Rattle.nl_segments.specs.Current.{Current, current_awaits, less_line, with_pair}

-- ---- pairs that the file takes at once

abbrev pub with_given : Draft → Head → Term → Draft
with_given d (DualGuesses n) t = record d { dual_guesses = d.dual_guesses ++ t ∷ [] }
with_given d (PrimalGuesses n) t = record d { primal_guesses = d.primal_guesses ++ t ∷ [] }
with_given d (Terms i n) t =
    record d { terms = slice_set d.terms i (get_or d.terms i [] ++ t ∷ []) }
with_given d (Slopes k n) t =
    record d { slopes = slice_set d.slopes k (get_or d.slopes k [] ++ t ∷ []) }
with_given d head t = d

-- the file may take it
abbrev pub CanGive : Draft → Head → Term → Type 0
CanGive d (DualGuesses n) t = (t.0 < d.counts.n_con) × All (λ s. s.0 ≢ t.0) d.dual_guesses
CanGive d (PrimalGuesses n) t = (t.0 < d.counts.n_var) × All (λ s. s.0 ≢ t.0) d.primal_guesses
CanGive d (Terms i n) t =
    (i < d.counts.n_con) × (t.0 < d.counts.n_var) × (term_count d.terms < most_terms)
CanGive d (Slopes k n) t =
    (k < d.counts.n_obj) × (t.0 < d.counts.n_var) × (length (get_or d.slopes k []) < most_terms)
CanGive d head t = Unit {0}

-- ---- pairs that are kept

abbrev pub with_kept : Current → Term → Current
with_kept c t = if keeps_pairs c.head then with_pair c t else less_line c

abbrev pub with_suffix : Draft → Option (List ℕ) → Current → Head → Draft
with_suffix d name c (Suffix kind n) =
    record d {
      suffixes = d.suffixes
          ++ record { kind = kind; name = unwrap_or name []; values = c.pairs } ∷ [];
    }
with_suffix d name c head = d

-- a suffix that is complete is given to the file
abbrev pub with_closed : Draft → Option (List ℕ) → Current → Draft
with_closed d name c = if is_nothing (current_awaits c) then with_suffix d name c c.head else d

pub record CanAddSuffix (d : Draft) (kind : ℕ) (name : Option (List ℕ))
    (values : List Term) : Type 0 where
  pub named : name ≡ Some (unwrap_or name [])
  pub objects : AreTermsBelow (object_count d.counts kind) values
  pub apart : AreIndicesApart values
  pub fresh : has_suffix d.suffixes kind (unwrap_or name []) ≡ false

-- the file may take it
abbrev pub CanClose : Draft → Option (List ℕ) → Current → Head → Type 0
CanClose d name c (Suffix kind n) =
    is_nothing (current_awaits c) ≡ true → CanAddSuffix d kind name c.pairs
CanClose d name c head = Unit {0}

-- ---- what judging the next rows needs

abbrev pub with_mark : Head → List Bool → ℕ → List Bool
with_mark head marks i = if holds_once head then slice_set marks i true else marks

abbrev pub with_use : Head → List ℕ → ℕ → List ℕ
with_use (Terms i n) uses j = slice_set uses j (get_or uses j 0 + 1)
with_use head uses j = uses

-- one more use has room
abbrev pub CanUse : Head → List ℕ → ℕ → Type 0
CanUse (Terms i n) uses j = (j < length uses) × (get_or uses j 0 < most_terms)
CanUse head uses j = Unit {0}

abbrev pub one_more : Bool → ℕ → ℕ
one_more counts n = if counts then n + 1 else n
