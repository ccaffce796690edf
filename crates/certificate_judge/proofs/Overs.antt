-- What a path holds is the part at the end of its turns.
use Rattle.std.proofs.Common.{◌≡◌, ℕ, ◌+◌, ◌<◌, ◌∙◌, sym, ap, subst, refl, List, [], ◌∷◌, ◌++◌, length, length-append, append-nil, append_assoc, get_or, reverse, Option, Some, None, pos, ◌+ℤ◌, true}
use Rattle.std.specs.Prelude.{slice_get}
use Rattle.linear_program.specs.Linear.{Form, Interval, Linear, Row as LinearRow, no_row, row_at, variable_count}
use Rattle.exact_numbers.specs.Rational.{ℚ, whole, zero_ℚ}
use Rattle.certificates.specs.Parts.{NumberForm, Part, WholeForm, added_row, bound, plane, lemma, at_least, at_most}
use Rattle.certificates.specs.Parts.{capped, form_of as plane_form, maximising, raised, sum_of, with_added_row}
use Rattle.certificates.specs.Parts.{whole_part}
use Rattle.exact_numbers.specs.Values.{frac_value}
use Rattle.linear_program.specs.Intervals.{interval_of}
use Rattle.linear_program.specs.Coefs.{coef_in}
use Rattle.exact_checks.specs.Built.{AreWithin}
use Rattle.exact_checks.specs.Leaves.{HasRows, IsRowAt}
use Rattle.exact_checks.specs.Lists.{bounds_in, form_of}
use Rattle.exact_checks.specs.Programs.{program_value}
use Rattle.exact_checks.specs.Terms.{AreTerms}
use Rattle.exact_checks.specs.declared.program.Program.{Program}
use Rattle.exact_checks.specs.declared.form.Row.{Row}
use Rattle.exact_checks.proofs.Rows.{body_here, rows_counted, side_here, variables_counted}
use Rattle.certificate_judge.specs.InsidePaths.{IsAt, IsLemmaRow, IsPath, IsPlaneRow, IsTurn, IsUnder, Sides, Turn, last_of, to_first, to_second, part_under, sides_of}
use Rattle.certificate_judge.specs.declared.path.Lemma.{Lemma}
use Rattle.certificate_judge.specs.declared.path.Path.{Path}
use Rattle.certificate_judge.specs.declared.path.Step.{Step}
use Rattle.certificate_judge.specs.declared.path.Step.TheVariants.{AtMost, AtLeast, Under, Showing, Over}
use Rattle.certificate_judge.proofs.Alike.{AreAlike, alike_self, one_alike, lemma_alike, row_alike}
use Rattle.certificate_judge.proofs.Lasts.{Placed, get_inside, get_last, inside, last, last_more, placed}
use Rattle.certificate_judge.proofs.PathLemmas.{within_last, within_less}

-- ---- one row more
rows_more : (c : Program) (rows : List Row) (f : Linear) (form : Form) (side : Interval) (r : Row) → HasRows c rows f
    → form_of r.body ≡ form → interval_of r.side ≡ side → AreTerms 0 (length c.lower.items) r.body.terms
    → HasRows c (rows ++ r ∷ []) (with_added_row f form side)
rows_more c rows f form side r held body sides terms =
    record {
      rows = length-append f.rows _ ∙ ap (λ n. n + 1) held.rows ∙ sym (length-append (c.rows.items ++ rows) (r ∷ [])) ∙ ap length (append_assoc c.rows.items rows (r ∷ []));
      row = λ i q at. by i q (placed (c.rows.items ++ rows) r i q (subst (λ rs. slice_get rs i ≡ Some q) (sym (append_assoc c.rows.items rows (r ∷ []))) at));
      variables = held.variables;
    }
  where
    by : (i : ℕ) (q : Row) → Placed (c.rows.items ++ rows) r i q → IsRowAt (with_added_row f form side) i q
    by i q (inside l h) =
        let old = held.row i q h in
        let same : row_at (with_added_row f form side) i ≡ row_at f i = get_inside f.rows _ no_row i (subst (λ n. i < n) (sym held.rows) l) in
        record {
          body = ap (λ (x : LinearRow). x.body) same ∙ old.body;
          side = ap (λ (x : LinearRow). x.side) same ∙ old.side;
          terms = old.terms;
        }
    by i q (last l h) =
        let at_end : i ≡ length f.rows = l ∙ sym held.rows in
        let new = ap (λ n. get_or (with_added_row f form side).rows n no_row) at_end ∙ get_last f.rows _ no_row in
        record {
          body = ap (λ (x : LinearRow). x.body) new ∙ sym body ∙ ap (λ (x : Row). form_of x.body) h;
          side = ap (λ (x : LinearRow). x.side) new ∙ sym sides ∙ ap (λ (x : Row). interval_of x.side) h;
          terms = subst (λ (x : Row). AreTerms 0 (variable_count f) x.body.terms) h (subst (λ n. AreTerms 0 n r.body.terms) (sym held.variables) terms);
        }

-- ---- the program alone
objective_same : (c : Program) → (program_value c).objective ≡ form_of c.objective
unfolding program_value
objective_same c = refl

pub maximise_same : (c : Program) → (program_value c).maximise ≡ c.maximise
unfolding program_value
maximise_same c = refl

rows_alone : (c : Program) (rows : List Row) → rows ≡ [] → HasRows c rows (program_value c)
rows_alone c rows none =
    subst (λ rs. HasRows c rs (program_value c)) (sym none)
    (record {
      rows = rows_counted c ∙ ap length (sym (append-nil c.rows.items));
      row = λ i r at. (let own = subst (λ rs. slice_get rs i ≡ Some r) (append-nil c.rows.items) at in
          record {
            body = body_here c i r own;
            side = side_here c i r own;
            terms = subst (λ n. AreTerms 0 n r.body.terms) (sym (variables_counted c)) (c.sound.rows_terms i r own);
          });
      variables = variables_counted c;
    })

-- ---- down the path
-- the rows that are held are those of the program, or do the same
pub record AreHeld (c : Program) (rows : List Row) (f : Linear) : Type 0 where
  pub same : Linear
  pub held : HasRows c rows same
  pub alike : AreAlike same f

-- the goal: that of the program with this value, or that of a lemma
abbrev pub HasGoal : Program → ℚ → Option Lemma → Part → Type 0
HasGoal c v None p =
    (p.program.objective ≡ form_of c.objective) × (p.program.maximise ≡ c.maximise) × (p.value ≡ v)
HasGoal c v (Some l) p =
    (p.program.objective ≡ record { constant = zero_ℚ; coefficient = coef_in l.terms })
    × (p.program.maximise ≡ true) × (p.value ≡ frac_value l.most)

pub record IsPartHeld (c : Program) (v : ℚ) (s : Sides) (p : Part) : Type 0 where
  pub rows : AreHeld c s.added p.program
  pub box : bounds_in s.lo s.hi ≡ p.box
  pub goal : HasGoal c v (last_of s.lemmas) p

-- a goal of a part with other rows or bounds
same_goal : (c : Program) (v : ℚ) (o : Option Lemma) (p q : Part) → q.program.objective ≡ p.program.objective
    → q.program.maximise ≡ p.program.maximise → q.value ≡ p.value → HasGoal c v o p → HasGoal c v o q
same_goal c v None p q a b d h = (a ∙ h.0, b ∙ h.1, d ∙ h.2)
same_goal c v (Some l) p q a b d h = (a ∙ h.0, b ∙ h.1, d ∙ h.2)

module _ (c : Program) (v : ℚ) where
  one_plane_row : (rows : List Row) (f : Linear) (form : WholeForm) (side : Interval) (r : Row) → AreHeld c rows f
      → IsPlaneRow form side r → AreTerms 0 (length c.lower.items) r.body.terms
      → AreHeld c (rows ++ r ∷ []) (with_added_row f (plane_form form) side)
  one_plane_row rows f form side r h is terms =
      record {
        same = with_added_row h.same (plane_form form) side;
        held = rows_more c rows h.same (plane_form form) side r h.held is.body is.side terms;
        alike = one_alike h.same f (plane_form form) (plane_form form) side side h.alike (row_alike (added_row (plane_form form) side));
      }

  -- a program with another goal
  other_goal : {rows : List Row} (p : Part) (form : NumberForm) → AreHeld c rows p.program → AreHeld c rows (maximising p.program (sum_of form))
  other_goal p form h = record { same = h.same; held = h.held; alike = record { rows = h.alike.rows; variables = h.alike.variables; row = h.alike.row } }

  one_lemma_row : (rows : List Row) (f : Linear) (form : NumberForm) (t : ℚ) (r : Row) → AreHeld c rows f
      → IsLemmaRow form t r → AreTerms 0 (length c.lower.items) r.body.terms
      → AreHeld c (rows ++ r ∷ []) (with_added_row f (sum_of form) (at_most t))
  one_lemma_row rows f form t r h is terms =
      record {
        same = with_added_row h.same (form_of r.body) (interval_of r.side);
        held = rows_more c rows h.same (form_of r.body) (interval_of r.side) r h.held refl refl terms;
        alike = one_alike h.same f (form_of r.body) (sum_of form) (interval_of r.side) (at_most t) h.alike (lemma_alike form t r is);
      }

  -- what a turn does to what is held
  turn_held : (turn : Turn) (step : Step) (up down : Sides) (p : Part) → IsTurn turn step up down
      → AreWithin (length c.lower.items) down.added → IsPartHeld c v up p → IsPartHeld c v down (part_under p (turn ∷ []))
  turn_held (to_first (bound j t)) (AtMost i s before) up down p h w k =
      record {
        rows = subst (λ (x : Sides). AreHeld c x.added p.program) h.3 k.rows;
        box = h.2 ∙ ap (λ b. capped b j (whole t)) k.box;
        goal = same_goal c v (last_of down.lemmas) p (part_under p (to_first (bound j t) ∷ [])) refl refl refl (subst (λ (x : Sides). HasGoal c v (last_of x.lemmas) p) h.3 k.goal);
      }
  turn_held (to_second (bound j t)) (AtLeast i before) up down p h w k =
      record {
        rows = subst (λ (x : Sides). AreHeld c x.added p.program) h.1 k.rows;
        box = h.0 ∙ ap (λ b. raised b j (whole (t +ℤ pos 1))) k.box;
        goal = same_goal c v (last_of down.lemmas) p (part_under p (to_second (bound j t) ∷ [])) refl refl refl (subst (λ (x : Sides). HasGoal c v (last_of x.lemmas) p) h.1 k.goal);
      }
  turn_held (to_first (plane form t)) (Under s) up down p h w k =
      let terms = within_last (length c.lower.items) up.added h.1.0 (subst (λ (x : Sides). AreWithin (length c.lower.items) x.added) h.1.2 w) in
      record {
        rows = subst (λ (x : Sides). AreHeld c x.added (with_added_row p.program (plane_form form) (at_most (whole t))))
            (sym h.1.2) (one_plane_row up.added p.program form (at_most (whole t)) h.1.0 k.rows h.1.1 terms);
        box = ap (λ (x : Sides). bounds_in x.lo x.hi) h.1.2 ∙ k.box;
        goal = same_goal c v (last_of down.lemmas) p (part_under p (to_first (plane form t) ∷ [])) refl refl refl (subst (λ (x : Sides). HasGoal c v (last_of x.lemmas) p) (sym h.1.2) k.goal);
      }
  turn_held (to_second (plane form t)) Over up down p h w k =
      let terms = within_last (length c.lower.items) up.added h.0 (subst (λ (x : Sides). AreWithin (length c.lower.items) x.added) h.2 w) in
      record {
        rows = subst (λ (x : Sides). AreHeld c x.added (with_added_row p.program (plane_form form)
            (at_least (whole (t +ℤ pos 1))))) (sym h.2) (one_plane_row up.added p.program form
            (at_least (whole (t +ℤ pos 1))) h.0 k.rows h.1 terms);
        box = ap (λ (x : Sides). bounds_in x.lo x.hi) h.2 ∙ k.box;
        goal = same_goal c v (last_of down.lemmas) p (part_under p (to_second (plane form t) ∷ [])) refl refl refl (subst (λ (x : Sides). HasGoal c v (last_of x.lemmas) p) (sym h.2) k.goal);
      }
  turn_held (to_first (lemma form t)) Showing up down p h w k =
      record {
        rows = subst (λ (x : Sides). AreHeld c x.added (maximising p.program (sum_of form))) (sym h.2) (other_goal p form k.rows);
        box = ap (λ (x : Sides). bounds_in x.lo x.hi) h.2 ∙ k.box;
        goal = subst (λ o. HasGoal c v o (part_under p (to_first (lemma form t) ∷ []))) (sym (last_more up.lemmas h.0) ∙ ap (λ (x : Sides). last_of x.lemmas) (sym h.2))
            (ap (λ (g : ℕ → ℚ). record { constant = zero_ℚ; coefficient = g }) (sym h.1.sum), refl, sym h.1.most);
      }
  turn_held (to_second (lemma form t)) Over up down p h w k =
      let terms = within_last (length c.lower.items) up.added h.0 (subst (λ (x : Sides). AreWithin (length c.lower.items) x.added) h.2 w) in
      record {
        rows = subst (λ (x : Sides). AreHeld c x.added (with_added_row p.program (sum_of form) (at_most t))) (sym h.2) (one_lemma_row up.added p.program form t h.0 k.rows h.1 terms);
        box = ap (λ (x : Sides). bounds_in x.lo x.hi) h.2 ∙ k.box;
        goal = same_goal c v (last_of down.lemmas) p (part_under p (to_second (lemma form t) ∷ [])) refl refl refl (subst (λ (x : Sides). HasGoal c v (last_of x.lemmas) p) (sym h.2) k.goal);
      }
  turn_held turn step up down p h w k = absurd h

  -- the rows above a step
  rows_above : (turn : Turn) (step : Step) (up down : Sides) → IsTurn turn step up down → AreWithin (length c.lower.items) down.added → AreWithin (length c.lower.items) up.added
  rows_above (to_first (bound j t)) (AtMost i s before) up down h w = subst (λ (x : Sides). AreWithin (length c.lower.items) x.added) (sym h.3) w
  rows_above (to_second (bound j t)) (AtLeast i before) up down h w = subst (λ (x : Sides). AreWithin (length c.lower.items) x.added) (sym h.1) w
  rows_above (to_first (plane form t)) (Under s) up down h w = within_less (length c.lower.items) up.added h.1.0 (subst (λ (x : Sides). AreWithin (length c.lower.items) x.added) h.1.2 w)
  rows_above (to_second (plane form t)) Over up down h w = within_less (length c.lower.items) up.added h.0 (subst (λ (x : Sides). AreWithin (length c.lower.items) x.added) h.2 w)
  rows_above (to_first (lemma form t)) Showing up down h w = subst (λ (x : Sides). AreWithin (length c.lower.items) x.added) h.2 w
  rows_above (to_second (lemma form t)) Over up down h w = within_less (length c.lower.items) up.added h.0 (subst (λ (x : Sides). AreWithin (length c.lower.items) x.added) h.2 w)
  rows_above turn step up down h w = absurd h

  under_held : (turns : List Turn) (steps : List Step) (s : Sides)
      → IsUnder (whole_part (program_value c) v) turns steps s → AreWithin (length c.lower.items) s.added
      → IsPartHeld c v s (part_under (whole_part (program_value c) v) turns)
  unfolding IsUnder
  under_held [] [] s h w =
      record {
        rows = record { same = program_value c; held = rows_alone c s.added h.1; alike = alike_self (program_value c) };
        box = h.0;
        goal = subst (λ o. HasGoal c v o (whole_part (program_value c) v)) (ap last_of (sym h.2)) (objective_same c, maximise_same c, refl);
      }
  under_held (turn ∷ turns) (step ∷ steps) s h w = turn_held turn step h.0 s
      (part_under (whole_part (program_value c) v) turns) h.1 w
      (under_held turns steps h.0 h.2 (rows_above turn step h.0 s h.1 w))
  under_held turns steps s h w = absurd h

  pub path_held : (turns : List Turn) (p : Path) → IsAt (whole_part (program_value c) v) turns p
      → IsPath (length c.lower.items) p → IsPartHeld c v (sides_of p) (part_under (whole_part (program_value c) v) turns)
  path_held turns p h k = under_held turns (reverse p.steps.items) (sides_of p) h k.added
