-- Steps down and up a path.
use Rattle.std.proofs.Common.{◌≡◌, ℕ, zero, suc, ◌∙◌, sym, ap, ap₂, subst, refl, arith, ℤ, List, [], ◌∷◌, ◌++◌, length, length-append, reverse, slice_set, All, MatchOption, Option, Some, None}
use Rattle.std.specs.Global.{Vec}
use Rattle.std.specs.Vec.{with_items}
use Rattle.std.proofs.lemmas.List.{reverse-append, with_items_is}
use Rattle.exact_numbers.specs.Rational.{ℚ, whole}
use Rattle.certificates.specs.Parts.{Part, Cut, NumberForm, WholeForm, bound, plane, lemma, at_most}
use Rattle.exact_numbers.specs.declared.dec.Dec.{Dec}
use Rattle.exact_checks.specs.Built.{AreWithin}
use Rattle.exact_checks.specs.Lists.{form_of}
use Rattle.exact_checks.specs.Terms.{AreTerms}
use Rattle.exact_checks.specs.declared.form.Row.{Row}
use Rattle.certificate_judge.specs.InsidePaths.{HasLeft, IsAt, IsLemma, IsLemmaWithin, IsMoreLemma, IsMoreRow, IsPath}
use Rattle.certificate_judge.specs.InsidePaths.{IsPlaneRow, IsStepWithin, IsTurn, IsUnder, Sides, Turn, to_first}
use Rattle.certificate_judge.specs.InsidePaths.{to_second, sides_of}
use Rattle.certificate_judge.specs.declared.path.Left.TheVariants.{Split, Plane, Shown, Last}
use Rattle.certificate_judge.specs.declared.path.Lemma.{Lemma}
use Rattle.certificate_judge.specs.declared.path.Path.{Path}
use Rattle.certificate_judge.specs.declared.path.Step.{Step}
use Rattle.certificate_judge.specs.declared.path.Step.TheVariants.{AtMost, AtLeast, Under, Showing, Over}
use Rattle.exact_checks.proofs.Copied.{within_more}
use Rattle.std.proofs.lemmas.List.Elements.{All-pop, All-push}

-- ---- lists that grow and shrink at the end
pub written : (v : Vec (Option Dec)) (xs : List (Option Dec)) → length xs ≡ length v.items → (with_items v xs).items ≡ xs
written v xs e = with_items_is v xs (e ∙ sym v.ok.0)

snoc_same : {A : Type 0} (xs ys : List A) (x y : A) → xs ++ x ∷ [] ≡ ys ++ y ∷ [] → (xs ≡ ys) × (x ≡ y)
snoc_same [] [] x y e = (refl, let same : x ≡ y = cc in same)
snoc_same [] (b ∷ ys) x y e = absurd (omega (arith, ap length e, length-append ys (y ∷ [])))
snoc_same (a ∷ xs) [] x y e = absurd (omega (arith, ap length e, length-append xs (x ∷ [])))
snoc_same (a ∷ xs) (b ∷ ys) x y e =
    let head : a ≡ b = cc in
    let r = snoc_same xs ys x y (let tail : xs ++ x ∷ [] ≡ ys ++ y ∷ [] = cc in tail) in
    (ap₂ (λ h t. h ∷ t) head r.0, r.1)

pub within_less : (n : ℕ) (rows : List Row) (r : Row) → AreWithin n (rows ++ r ∷ []) → AreWithin n rows
within_less n [] r h i q e = absurd (cc)
within_less n (s ∷ rows) r h zero q e = h 0 q e
within_less n (s ∷ rows) r h (suc i) q e = within_less n rows r (λ k x a. h (suc k) x a) i q e

pub within_last : (n : ℕ) (rows : List Row) (r : Row) → AreWithin n (rows ++ r ∷ []) → AreTerms 0 n r.body.terms
within_last n [] r h = h 0 r refl
within_last n (s ∷ rows) r h = within_last n rows r (λ k x a. h (suc k) x a)

-- ---- paths as such
module _ (n : ℕ) (old new : Path) where
  path_with : IsPath n old → length new.lo.items ≡ length old.lo.items → length new.hi.items ≡ length old.hi.items
      → All (IsStepWithin n) new.steps.items → AreWithin n new.added.items → All (IsLemmaWithin n) new.lemmas.items
      → IsPath n new
  path_with p lo hi steps added lemmas = record { lowers = lo ∙ p.lowers; uppers = hi ∙ p.uppers; steps = steps; added = added; lemmas = lemmas }

  step_more : (s : Step) → IsPath n old → IsStepWithin n s → new.steps.items ≡ old.steps.items ++ s ∷ [] → All (IsStepWithin n) new.steps.items
  step_more s p w steps = subst (All (IsStepWithin n)) (sym steps) (All-push (IsStepWithin n) old.steps.items s p.steps w)

  step_less : (s : Step) → IsPath n old → old.steps.items ≡ new.steps.items ++ s ∷ [] → All (IsStepWithin n) new.steps.items
  step_less s p steps = (All-pop (IsStepWithin n) old.steps.items new.steps.items (Some s) steps p.steps).0

  rows_kept : IsPath n old → new.added.items ≡ old.added.items → AreWithin n new.added.items
  rows_kept p added = subst (AreWithin n) (sym added) p.added

  lemmas_kept : IsPath n old → new.lemmas.items ≡ old.lemmas.items → All (IsLemmaWithin n) new.lemmas.items
  lemmas_kept p lemmas = subst (All (IsLemmaWithin n)) (sym lemmas) p.lemmas

  pub path_down : (s : Step) → IsPath n old → IsStepWithin n s → length new.lo.items ≡ length old.lo.items
      → length new.hi.items ≡ length old.hi.items → new.added.items ≡ old.added.items
      → new.lemmas.items ≡ old.lemmas.items → new.steps.items ≡ old.steps.items ++ s ∷ [] → IsPath n new
  path_down s p w lo hi added lemmas steps = path_with p lo hi (step_more s p w steps) (rows_kept p added) (lemmas_kept p lemmas)

  pub path_row : (s : Step) (r : Row) → IsPath n old → IsStepWithin n s → AreTerms 0 n r.body.terms
      → new.lo.items ≡ old.lo.items → new.hi.items ≡ old.hi.items → new.added.items ≡ old.added.items ++ r ∷ []
      → new.lemmas.items ≡ old.lemmas.items → new.steps.items ≡ old.steps.items ++ s ∷ [] → IsPath n new
  path_row s r p w t lo hi added lemmas steps =
      path_with p (ap length lo) (ap length hi) (step_more s p w steps) (subst (AreWithin n) (sym added) (within_more n old.added.items r p.added t)) (lemmas_kept p lemmas)

  pub path_lemma : (s : Step) (l : Lemma) → IsPath n old → IsStepWithin n s → IsLemmaWithin n l
      → new.lo.items ≡ old.lo.items → new.hi.items ≡ old.hi.items → new.added.items ≡ old.added.items
      → new.lemmas.items ≡ old.lemmas.items ++ l ∷ [] → new.steps.items ≡ old.steps.items ++ s ∷ [] → IsPath n new
  path_lemma s l p w t lo hi added lemmas steps =
      path_with p (ap length lo) (ap length hi) (step_more s p w steps) (rows_kept p added) (subst (All (IsLemmaWithin n)) (sym lemmas) (All-push (IsLemmaWithin n) old.lemmas.items l p.lemmas t))

  pub path_off : (s : Step) (r : Row) → IsPath n old → new.lo.items ≡ old.lo.items → new.hi.items ≡ old.hi.items
      → old.added.items ≡ new.added.items ++ r ∷ [] → new.lemmas.items ≡ old.lemmas.items
      → old.steps.items ≡ new.steps.items ++ s ∷ [] → IsPath n new
  path_off s r p lo hi added lemmas steps =
      path_with p (ap length lo) (ap length hi) (step_less s p steps) (within_less n new.added.items r (subst (AreWithin n) added p.added)) (lemmas_kept p lemmas)

  pub path_shown : (s : Step) (l : Lemma) → IsPath n old → new.lo.items ≡ old.lo.items → new.hi.items ≡ old.hi.items
      → new.added.items ≡ old.added.items → old.lemmas.items ≡ new.lemmas.items ++ l ∷ []
      → old.steps.items ≡ new.steps.items ++ s ∷ [] → IsPath n new
  path_shown s l p lo hi added lemmas steps =
      path_with p (ap length lo) (ap length hi) (step_less s p steps) (rows_kept p added) (All-pop (IsLemmaWithin n) old.lemmas.items new.lemmas.items (Some l) lemmas p.lemmas).0

  pub last_within : (s : Step) → IsPath n old → old.steps.items ≡ new.steps.items ++ s ∷ [] → IsStepWithin n s
  last_within s p steps = (All-pop (IsStepWithin n) old.steps.items new.steps.items (Some s) steps p.steps).1

  pub lemma_within : (l : Lemma) → IsPath n old → old.lemmas.items ≡ new.lemmas.items ++ l ∷ [] → IsLemmaWithin n l
  lemma_within l p lemmas = (All-pop (IsLemmaWithin n) old.lemmas.items new.lemmas.items (Some l) lemmas p.lemmas).1

-- ---- steps down
pub stepped : (base : Part) (turns : List Turn) (turn : Turn) (s : Step) (old new : Path)
    → new.steps.items ≡ old.steps.items ++ s ∷ [] → IsTurn turn s (sides_of old) (sides_of new) → IsAt base turns old
    → IsAt base (turn ∷ turns) new
unfolding IsUnder
stepped base turns turn s old new e is h = subst (λ steps. IsUnder base (turn ∷ turns) steps (sides_of new)) (sym (ap reverse e ∙ reverse-append old.steps.items (s ∷ []))) (sides_of old, is, h)

pub put_back_hi : (up down : Sides) (i : ℕ) (b : Option Dec) → down.lo ≡ up.lo → slice_set down.hi i b ≡ up.hi
    → down.added ≡ up.added → down.lemmas ≡ up.lemmas → up ≡ record down { hi = slice_set down.hi i b }
put_back_hi up down i b lo hi added lemmas k = record { lo = sym lo k; hi = sym hi k; added = sym added k; lemmas = sym lemmas k }

pub put_back_lo : (up down : Sides) (i : ℕ) (b : Option Dec) → slice_set down.lo i b ≡ up.lo → down.hi ≡ up.hi
    → down.added ≡ up.added → down.lemmas ≡ up.lemmas → up ≡ record down { lo = slice_set down.lo i b }
put_back_lo up down i b lo hi added lemmas k = record { lo = sym lo k; hi = sym hi k; added = sym added k; lemmas = sym lemmas k }

pub one_row : (up down : Sides) (r : Row) → down.lo ≡ up.lo → down.hi ≡ up.hi → down.added ≡ up.added ++ r ∷ [] → down.lemmas ≡ up.lemmas → IsMoreRow up down r
one_row up down r lo hi added lemmas k = record { lo = lo k; hi = hi k; added = added k; lemmas = lemmas k }

pub one_lemma : (up down : Sides) (l : Lemma) → down.lo ≡ up.lo → down.hi ≡ up.hi → down.added ≡ up.added → down.lemmas ≡ up.lemmas ++ l ∷ [] → IsMoreLemma up down l
one_lemma up down l lo hi added lemmas k = record { lo = lo k; hi = hi k; added = added k; lemmas = lemmas k }

-- ---- steps up
pub record IsUp (base : Part) (turns : List Turn) (s : Step) (old new : Path) : Type 0 where
  pub turn : Turn
  pub rest : List Turn
  pub same : turns ≡ turn ∷ rest
  pub up : Sides
  pub step : IsTurn turn s up (sides_of old)
  pub under : IsUnder base rest (reverse new.steps.items) up

pub unstepped : (base : Part) (turns : List Turn) (s : Step) (old new : Path) → old.steps.items ≡ new.steps.items ++ s ∷ [] → IsAt base turns old → IsUp base turns s old new
unfolding IsUnder
unstepped base turns s old new e h = by turns (subst (λ steps. IsUnder base turns steps (sides_of old)) (ap reverse e ∙ reverse-append new.steps.items (s ∷ [])) h)
  where
    by : (ts : List Turn) → IsUnder base ts (s ∷ reverse new.steps.items) (sides_of old) → IsUp base ts s old new
    by [] k = absurd k
    by (turn ∷ rest) k = record { turn = turn; rest = rest; same = refl; up = k.0; step = k.1; under = k.2 }

pub no_items : {A : Type 0} (xs : List A) → length xs ≡ 0 → xs ≡ []
no_items [] e = refl
no_items (x ∷ xs) e = absurd (omega arith)

pub match_none : {A : Type 0} (o : Option A) (P : Type 0) (Q : A → Type 0) → o ≡ None → P → MatchOption o P Q
match_none None P Q e p = p
match_none (Some a) P Q e p = absurd (cc)

pub not_started : (base : Part) (turns : List Turn) (old new : Path) → old.steps.items ≡ [] → new.steps.items ≡ []
    → new.lo.items ≡ old.lo.items → new.hi.items ≡ old.hi.items → new.added.items ≡ old.added.items
    → new.lemmas.items ≡ old.lemmas.items → IsAt base turns old → (turns ≡ []) × IsAt base [] new
unfolding IsUnder
not_started base turns old new e none lo hi added lemmas h = by turns (subst (λ steps. IsUnder base turns steps (sides_of old)) (ap reverse e) h)
  where
    same : sides_of old ≡ sides_of new
    same k = record { lo = sym lo k; hi = sym hi k; added = sym added k; lemmas = sym lemmas k }

    by : (ts : List Turn) → IsUnder base ts [] (sides_of old) → (ts ≡ []) × IsAt base [] new
    by [] k = (refl, subst (λ steps. IsUnder base [] steps (sides_of new)) (sym (ap reverse none)) (subst (IsUnder base [] []) same k))
    by (turn ∷ rest) k = absurd k

-- what a step was
pub split_left : (i : ℕ) (t : ℤ) (before : Option Dec) (turn : Turn) (up down : Sides)
    → IsTurn turn (AtMost i t before) up down → (turn ≡ to_first (bound i t))
    × (up ≡ record down { hi = slice_set down.hi i before })
split_left i t before (to_first (bound j s)) up down h = (ap₂ (λ a b. to_first (bound a b)) (sym h.0) (sym h.1), h.3)
split_left i t before (to_second (bound j s)) up down h = absurd h
split_left i t before turn up down h = absurd h

pub last_left : (i : ℕ) (before : Option Dec) (turn : Turn) (up down : Sides) → IsTurn turn (AtLeast i before) up down
    → (cut : Cut) × (turn ≡ to_second cut) × (up ≡ record down { lo = slice_set down.lo i before })
last_left i before (to_second (bound j s)) up down h = (bound j s, refl, h.1)
last_left i before (to_first (bound j s)) up down h = absurd h
last_left i before turn up down h = absurd h

pub under_left : (t : ℤ) (turn : Turn) (up down : Sides) → IsTurn turn (Under t) up down
    → (form : WholeForm) × (turn ≡ to_first (plane form t)) × (r : Row) × IsPlaneRow form (at_most (whole t)) r
    × IsMoreRow up down r
under_left t (to_first (plane form s)) up down h = (form, ap (λ a. to_first (plane form a)) (sym h.0), h.1.0, subst (λ a. IsPlaneRow form (at_most (whole a)) h.1.0) (sym h.0) h.1.1, h.1.2)
under_left t (to_second (bound j s)) up down h = absurd h
under_left t turn up down h = absurd h

pub shown_left : (turn : Turn) (up down : Sides) → IsTurn turn Showing up down
    → (form : NumberForm) × (t : ℚ) × (turn ≡ to_first (lemma form t)) × (l : Lemma) × IsLemma form t l
    × IsMoreLemma up down l
shown_left (to_first (lemma form s)) up down h = (form, s, refl, h.0, h.1, h.2)
shown_left (to_second (bound j s)) up down h = absurd h
shown_left turn up down h = absurd h

pub over_left : (turn : Turn) (up down : Sides) → IsTurn turn Over up down → (cut : Cut) × (turn ≡ to_second cut) × (r : Row) × IsMoreRow up down r
over_left (to_second (plane form s)) up down h = (plane form s, refl, h.0, h.2)
over_left (to_second (lemma form s)) up down h = (lemma form s, refl, h.0, h.2)
over_left (to_first (bound j s)) up down h = absurd h
over_left turn up down h = absurd h

sides_same : (a b : Sides) → a.lo ≡ b.lo → a.hi ≡ b.hi → a.added ≡ b.added → a.lemmas ≡ b.lemmas → a ≡ b
sides_same a b lo hi added lemmas i = record { lo = lo i; hi = hi i; added = added i; lemmas = lemmas i }

-- a row, or a lemma, was taken off
pub row_off : (up : Sides) (old new : Path) (r q : Row) → IsMoreRow up (sides_of old) r → new.lo.items ≡ old.lo.items
    → new.hi.items ≡ old.hi.items → old.added.items ≡ new.added.items ++ q ∷ [] → new.lemmas.items ≡ old.lemmas.items
    → (up ≡ sides_of new) × (r ≡ q)
row_off up old new r q e lo hi added lemmas =
    let same = snoc_same up.added new.added.items r q (sym (ap (λ (s : Sides). s.added) e) ∙ added) in (
      sides_same up (sides_of new) (sym (lo ∙ ap (λ (s : Sides). s.lo) e)) (sym (hi ∙ ap (λ (s : Sides). s.hi) e)) same.0 (sym (lemmas ∙ ap (λ (s : Sides). s.lemmas) e)),
      same.1,
    )

pub lemma_off : (up : Sides) (old new : Path) (l m : Lemma) → IsMoreLemma up (sides_of old) l
    → new.lo.items ≡ old.lo.items → new.hi.items ≡ old.hi.items → new.added.items ≡ old.added.items
    → old.lemmas.items ≡ new.lemmas.items ++ m ∷ [] → (up ≡ sides_of new) × (l ≡ m)
lemma_off up old new l m e lo hi added lemmas =
    let same = snoc_same up.lemmas new.lemmas.items l m (sym (ap (λ (s : Sides). s.lemmas) e) ∙ lemmas) in (
      sides_same up (sides_of new) (sym (lo ∙ ap (λ (s : Sides). s.lo) e)) (sym (hi ∙ ap (λ (s : Sides). s.hi) e)) (sym (added ∙ ap (λ (s : Sides). s.added) e)) same.0,
      same.1,
    )

pub no_row : (up : Sides) (old : Path) (r : Row) → IsMoreRow up (sides_of old) r → length old.added.items ≡ 0 → ⊥
no_row up old r e none = (let some = ap (λ (s : Sides). length s.added) e in omega (arith, length-append up.added (r ∷ []), none, some))

pub no_lemma : (up : Sides) (old : Path) (l : Lemma) → IsMoreLemma up (sides_of old) l → length old.lemmas.items ≡ 0 → ⊥
no_lemma up old l e none = (let some = ap (λ (s : Sides). length s.lemmas) e in omega (arith, length-append up.lemmas (l ∷ []), none, some))

-- ---- what a step up leaves
module _ (base : Part) (turns : List Turn) (old new : Path) where
  pub leaves_split : (i : ℕ) (t z : ℤ) (before : Option Dec)
      → old.steps.items ≡ new.steps.items ++ AtMost i t before ∷ [] → z ≡ t → new.lo.items ≡ old.lo.items
      → new.hi.items ≡ slice_set old.hi.items i before → new.added.items ≡ old.added.items
      → new.lemmas.items ≡ old.lemmas.items → IsAt base turns old → HasLeft (Split i z) base turns new
  leaves_split i t z before steps is lo hi added lemmas h =
      let u = unstepped base turns (AtMost i t before) old new steps h in
      let l = split_left i t before u.turn u.up (sides_of old) u.step in (
        u.rest,
        u.same ∙ ap (λ a. a ∷ u.rest) (l.0 ∙ ap (λ y. to_first (bound i y)) (sym is)),
        subst (IsUnder base u.rest (reverse new.steps.items)) (l.1 ∙ sym (sides_same (sides_of new) (record (sides_of old) { hi = slice_set old.hi.items i before }) lo hi added lemmas)) u.under,
      )

  pub leaves_last : (i : ℕ) (before : Option Dec) → old.steps.items ≡ new.steps.items ++ AtLeast i before ∷ []
      → new.lo.items ≡ slice_set old.lo.items i before → new.hi.items ≡ old.hi.items → new.added.items ≡ old.added.items
      → new.lemmas.items ≡ old.lemmas.items → IsAt base turns old → HasLeft Last base turns new
  leaves_last i before steps lo hi added lemmas h =
      let u = unstepped base turns (AtLeast i before) old new steps h in
      let l = last_left i before u.turn u.up (sides_of old) u.step in (
        u.rest,
        l.0,
        u.same ∙ ap (λ a. a ∷ u.rest) l.1,
        subst (IsUnder base u.rest (reverse new.steps.items)) (l.2 ∙ sym (sides_same (sides_of new) (record (sides_of old) { lo = slice_set old.lo.items i before }) lo hi added lemmas)) u.under,
      )

  pub leaves_plane : (t z : ℤ) (r : Row) → old.steps.items ≡ new.steps.items ++ Under t ∷ [] → z ≡ t
      → new.lo.items ≡ old.lo.items → new.hi.items ≡ old.hi.items → old.added.items ≡ new.added.items ++ r ∷ []
      → new.lemmas.items ≡ old.lemmas.items → IsAt base turns old → HasLeft (Plane r.body z) base turns new
  leaves_plane t z r steps is lo hi added lemmas h =
      let u = unstepped base turns (Under t) old new steps h in
      let l = under_left t u.turn u.up (sides_of old) u.step in
      let off = row_off u.up old new l.2 r l.4 lo hi added lemmas in (
        u.rest,
        l.0,
        u.same ∙ ap (λ a. a ∷ u.rest) (l.1 ∙ ap (λ y. to_first (plane l.0 y)) (sym is)),
        ap (λ (x : Row). form_of x.body) (sym off.1) ∙ l.3.body,
        subst (IsUnder base u.rest (reverse new.steps.items)) off.0 u.under,
      )

  pub leaves_proof : (s : Lemma) → old.steps.items ≡ new.steps.items ++ Showing ∷ [] → new.lo.items ≡ old.lo.items
      → new.hi.items ≡ old.hi.items → new.added.items ≡ old.added.items → old.lemmas.items ≡ new.lemmas.items ++ s ∷ []
      → IsAt base turns old → HasLeft (Shown s) base turns new
  leaves_proof s steps lo hi added lemmas h =
      let u = unstepped base turns Showing old new steps h in
      let l = shown_left u.turn u.up (sides_of old) u.step in
      let off = lemma_off u.up old new l.3 s l.5 lo hi added lemmas in (
        u.rest,
        l.0,
        l.1,
        u.same ∙ ap (λ a. a ∷ u.rest) l.2,
        subst (IsLemma l.0 l.1) off.1 l.4,
        subst (IsUnder base u.rest (reverse new.steps.items)) off.0 u.under,
      )

  pub leaves_over : (r : Row) → old.steps.items ≡ new.steps.items ++ Over ∷ [] → new.lo.items ≡ old.lo.items
      → new.hi.items ≡ old.hi.items → old.added.items ≡ new.added.items ++ r ∷ [] → new.lemmas.items ≡ old.lemmas.items
      → IsAt base turns old → HasLeft Last base turns new
  leaves_over r steps lo hi added lemmas h =
      let u = unstepped base turns Over old new steps h in
      let l = over_left u.turn u.up (sides_of old) u.step in
      let off = row_off u.up old new l.2 r l.3 lo hi added lemmas in (
        u.rest,
        l.0,
        u.same ∙ ap (λ a. a ∷ u.rest) l.1,
        subst (IsUnder base u.rest (reverse new.steps.items)) off.0 u.under,
      )

  pub no_plane_under : (t : ℤ) → old.steps.items ≡ new.steps.items ++ Under t ∷ [] → length old.added.items ≡ 0 → IsAt base turns old → ⊥
  no_plane_under t steps none h =
      let u = unstepped base turns (Under t) old new steps h in
      let l = under_left t u.turn u.up (sides_of old) u.step in
      no_row u.up old l.2 l.4 none

  pub no_lemma_shown : old.steps.items ≡ new.steps.items ++ Showing ∷ [] → length old.lemmas.items ≡ 0 → IsAt base turns old → ⊥
  no_lemma_shown steps none h =
      let u = unstepped base turns Showing old new steps h in
      let l = shown_left u.turn u.up (sides_of old) u.step in
      no_lemma u.up old l.3 l.5 none

  pub no_row_over : old.steps.items ≡ new.steps.items ++ Over ∷ [] → length old.added.items ≡ 0 → IsAt base turns old → ⊥
  no_row_over steps none h =
      let u = unstepped base turns Over old new steps h in
      let l = over_left u.turn u.up (sides_of old) u.step in
      no_row u.up old l.2 l.3 none

pub ruleset downs = (path_down, written)
