-- Terms of a constraint or an objective, a line each, that are taken at once.
use Rattle.std.specs.Prelude.{◌≡◌, ℕ, ◌+◌, ◌<◌, ◌≤◌, true, false, List, [], ◌∷◌, Some, None, if◌then◌else◌}
use Rattle.text_base.specs.Fronts.{IsFront}
use Rattle.text_base.specs.declared.grammar.Front.{Front}
use Rattle.nl_model.specs.Draft.{Draft}
use Rattle.nl_model.specs.Rules.{most_terms}
use Rattle.nl_lines.specs.declared.head.Head.{Head}
use Rattle.nl_lines.specs.Pieces.{is_nothing, keeps_pairs}
use Rattle.nl_lines.specs.Tests.{is_linear}
use Rattle.nl_segments.specs.Current.{Current, current_awaits, less_lines}
use Rattle.nl_segments.specs.Grammar.{Standing, line_refusal}
use Rattle.nl_segments.specs.Held.{Body, HoldsSome, IsHeld}
use Rattle.nl_segments.specs.InsideLineSteps.{unless_complete}
use Rattle.nl_segments.specs.InsidePlaceSteps.{HasOwner, terms_follow, with_term_run}
use Rattle.nl_segments.specs.Steps.{after}

-- ---- lines after one another

-- nothing is wrong with these lines, of which the first has this number, and what they mean is held
abbrev pub GoesOn : Standing → ℕ → List (List ℕ) → Body → Type 0
GoesOn s number [] b = IsHeld s b
GoesOn s number (line ∷ lines) b =
    (line_refusal s line ≡ None) × GoesOn (after s number line) (number + 1) lines b

-- lines at the front of a piece were taken
pub record TakesLines (old : Body) (piece : List ℕ) (number : ℕ) (front : Front)
    (new : Body) : Type 0 where
  pub lines : List (List ℕ)
  pub is : IsFront piece front lines
  pub goes : (s : Standing) → IsHeld s old → GoesOn s number lines new

-- ---- terms

-- the last piece, which has this head, awaits terms, so many at least, and there is room for them
pub record AwaitsTerms (b : Body) (cur : Current) (head : Head) (most : ℕ) : Type 0 where
  pub current : b.current ≡ Some cur
  pub same_head : cur.head ≡ head
  pub linear : is_linear head ≡ true
  pub given : keeps_pairs head ≡ false
  pub some : 0 < most
  pub left : most ≤ cur.left
  pub few : b.linear + most ≤ most_terms

-- terms may be taken at once, from this line on
pub record HasTerms (b : Body) (head : Head) (most line : ℕ) : Type 0 where
  pub current : Current
  pub awaits : AwaitsTerms b current head most
  pub held : HoldsSome b
  pub owner : HasOwner b.places head
  pub next : terms_follow b.places head line ≡ true

-- with another file and other uses of variables
abbrev pub with_parts : Body → Draft → List ℕ → Body
with_parts b d uses = record b { draft = d; uses = uses }

-- and so many lines of terms counted, from this one on
abbrev pub with_counted : Body → Current → ℕ → ℕ → Body
with_counted b cur first n =
    let rest = less_lines cur n in
    record b {
      current = unless_complete rest;
      name = if is_nothing (current_awaits rest) then None else b.name;
      linear = b.linear + n;
      places = with_term_run b.places first n cur.head;
    }

-- a reader of the body that has this file and these uses awaits terms
pub record IsBodyOf (d : Draft) (uses : List ℕ) (head : Head) (most : ℕ) (b : Body)
    (cur : Current) : Type 0 where
  pub draft : b.draft ≡ d
  pub uses_are : b.uses ≡ uses
  pub awaits : AwaitsTerms b cur head most

-- there is one, which holds something
pub record HasBodyOf (d : Draft) (uses : List ℕ) (head : Head) (most : ℕ) : Type 0 where
  pub body : Body
  pub current : Current
  pub is : IsBodyOf d uses head most body current
  pub held : HoldsSome body
