-- The way down to a leaf: the parts of the cuts that were entered, the last one first.
use Rattle.std.specs.Prelude.{◌≡◌, ℕ, ◌<◌, pos, ◌+ℤ◌, List, [], ◌∷◌, ◌++◌, length, reverse, slice_set, Option, None, Some, All}
use Rattle.exact_numbers.specs.Rational.{ℚ, whole, zero_ℚ, neg_ℚ}
use Rattle.linear_program.specs.Linear.{Interval}
use Rattle.certificates.specs.Parts.{Part, Cut, WholeForm, NumberForm, bound, plane, lemma, form_of as plane_form, number_factor, capped, raised, at_most, at_least, first_part, second_part}
use Rattle.exact_numbers.specs.declared.dec.Dec.{Dec}
use Rattle.exact_numbers.specs.Values.{frac_value}
use Rattle.linear_program.specs.Intervals.{interval_of}
use Rattle.linear_program.specs.Coefs.{coef_in}
use Rattle.certificates.specs.Certificates.{IsCutNumber}
use Rattle.exact_checks.specs.Built.{AreWithin}
use Rattle.exact_checks.specs.Terms.{AreTerms}
use Rattle.exact_checks.specs.Lists.{bounds_in, form_of}
use Rattle.exact_checks.specs.declared.form.Row.{Row}
use Rattle.certificate_judge.specs.declared.path.Left.{Left}
use Rattle.certificate_judge.specs.declared.path.Left.TheVariants.{Split, Plane, Shown, Last}
use Rattle.certificate_judge.specs.declared.path.Lemma.{Lemma}
use Rattle.certificate_judge.specs.declared.path.Path.{Path}
use Rattle.certificate_judge.specs.declared.path.Step.{Step}
use Rattle.certificate_judge.specs.declared.path.Step.TheVariants.{AtMost, AtLeast, Under, Showing, Over}

-- to the first part of a cut, or to the second
pub data Turn : Type 0 where
  to_first : Cut → Turn
  to_second : Cut → Turn

abbrev pub part_after : Part → Turn → Part
part_after p (to_first cut) = first_part cut p
part_after p (to_second cut) = second_part cut p

-- the part at the end of these turns
abbrev pub part_under : Part → List Turn → Part
part_under p [] = p
part_under p (turn ∷ turns) = part_after (part_under p turns) turn

-- the turns of the next leaf: up to the last first part, and on to the second
abbrev pub next_turns : List Turn → List Turn
next_turns [] = []
next_turns (to_first cut ∷ turns) = to_second cut ∷ turns
next_turns (to_second cut ∷ turns) = next_turns turns

-- ---- what a path holds
-- the sides of the variables, the rows that were added, and the lemmas in whose proofs it is
pub record Sides : Type 0 where
  pub lo : List (Option Dec)
  pub hi : List (Option Dec)
  pub added : List Row
  pub lemmas : List Lemma

-- the row of a plane with this side
pub record IsPlaneRow (form : WholeForm) (sides : Interval) (r : Row) : Type 0 where
  pub body : form_of r.body ≡ plane_form form
  pub side : interval_of r.side ≡ sides

-- the row of a lemma that was shown: the sum less t is at most 0, since t may be no decimal
pub record IsLemmaRow (form : NumberForm) (t : ℚ) (r : Row) : Type 0 where
  pub body : form_of r.body ≡ record { constant = neg_ℚ t; coefficient = number_factor form }
  pub side : interval_of r.side ≡ at_most zero_ℚ

-- the lemma that this sum is at most t
pub record IsLemma (form : NumberForm) (t : ℚ) (l : Lemma) : Type 0 where
  pub sum : coef_in l.terms ≡ number_factor form
  pub most : frac_value l.most ≡ t

-- the last of a list
abbrev pub last_of : {A : Type 0} → List A → Option A
last_of [] = None
last_of (x ∷ []) = Some x
last_of (x ∷ y ∷ xs) = last_of (y ∷ xs)

-- one row, or one lemma, more
abbrev pub IsMoreRow : Sides → Sides → Row → Type 0
IsMoreRow up down r = down ≡ record up { added = up.added ++ r ∷ [] }

abbrev pub IsMoreLemma : Sides → Sides → Lemma → Type 0
IsMoreLemma up down l = down ≡ record up { lemmas = up.lemmas ++ l ∷ [] }

-- a step leads from sides to these, and back
abbrev pub IsTurn : Turn → Step → Sides → Sides → Type 0
IsTurn (to_first (bound j t)) (AtMost i s before) up down =
    (i ≡ j) × (s ≡ t) × (bounds_in down.lo down.hi ≡ capped (bounds_in up.lo up.hi) j (whole t))
    × (up ≡ record down { hi = slice_set down.hi i before })
IsTurn (to_second (bound j t)) (AtLeast i before) up down =
    (bounds_in down.lo down.hi ≡ raised (bounds_in up.lo up.hi) j (whole (t +ℤ pos 1)))
    × (up ≡ record down { lo = slice_set down.lo i before })
IsTurn (to_first (plane form t)) (Under s) up down =
    (s ≡ t) × ((r : Row) × IsPlaneRow form (at_most (whole t)) r × IsMoreRow up down r)
IsTurn (to_second (plane form t)) Over up down =
    (r : Row) × IsPlaneRow form (at_least (whole (t +ℤ pos 1))) r × IsMoreRow up down r
IsTurn (to_first (lemma form t)) Showing up down =
    (l : Lemma) × IsLemma form t l × IsMoreLemma up down l
IsTurn (to_second (lemma form t)) Over up down =
    (r : Row) × IsLemmaRow form t r × IsMoreRow up down r
IsTurn turn step up down = ⊥

-- steps, the last one first, lead to these sides from those of a part without rows of its own
unfoldable pub IsUnder : Part → List Turn → List Step → Sides → Type 0
IsUnder base [] [] s = (bounds_in s.lo s.hi ≡ base.box) × (s.added ≡ []) × (s.lemmas ≡ [])
IsUnder base (turn ∷ turns) (step ∷ steps) s =
    (up : Sides) × IsTurn turn step up s × IsUnder base turns steps up
IsUnder base turns steps s = ⊥

abbrev pub sides_of : Path → Sides
sides_of p =
    record { lo = p.lo.items; hi = p.hi.items; added = p.added.items; lemmas = p.lemmas.items }

-- a path stands at the end of these turns
abbrev pub IsAt : Part → List Turn → Path → Type 0
IsAt base turns p = IsUnder base turns (reverse p.steps.items) (sides_of p)

-- ---- what holds of each path
-- the variable of a step is there, and its number and the next one fit
abbrev pub IsStepWithin : ℕ → Step → Type 0
IsStepWithin n (AtMost j t before) = (j < n) × IsCutNumber t
IsStepWithin n (AtLeast j before) = j < n
IsStepWithin n (Under t) = IsCutNumber t
IsStepWithin n Showing = Unit {0}
IsStepWithin n Over = Unit {0}

-- a lemma has ascending terms of the first n variables
abbrev pub IsLemmaWithin : ℕ → Lemma → Type 0
IsLemmaWithin n l = AreTerms 0 n l.terms

-- over n variables
pub record IsPath (n : ℕ) (p : Path) : Type 0 where
  pub lowers : length p.lo.items ≡ n
  pub uppers : length p.hi.items ≡ n
  pub steps : All (IsStepWithin n) p.steps.items
  pub added : AreWithin n p.added.items
  pub lemmas : All (IsLemmaWithin n) p.lemmas.items

-- ---- what a step up left
abbrev pub IsLeftWithin : ℕ → Left → Type 0
IsLeftWithin n (Split j t) = (j < n) × IsCutNumber t
IsLeftWithin n (Plane body t) = IsCutNumber t × AreTerms 0 n body.terms
IsLeftWithin n (Shown l) = IsLemmaWithin n l
IsLeftWithin n Last = Unit {0}

abbrev pub HasLeft : Left → Part → List Turn → Path → Type 0
HasLeft (Split j t) base turns p =
    (rest : List Turn) × (turns ≡ to_first (bound j t) ∷ rest) × IsAt base rest p
HasLeft (Plane body t) base turns p =
    (rest : List Turn) × (form : WholeForm) × (turns ≡ to_first (plane form t) ∷ rest)
    × (form_of body ≡ plane_form form) × IsAt base rest p
HasLeft (Shown l) base turns p =
    (rest : List Turn) × (form : NumberForm) × (t : ℚ) × (turns ≡ to_first (lemma form t) ∷ rest)
    × IsLemma form t l × IsAt base rest p
HasLeft Last base turns p =
    (rest : List Turn) × (cut : Cut) × (turns ≡ to_second cut ∷ rest) × IsAt base rest p
