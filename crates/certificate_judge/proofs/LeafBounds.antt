-- The bound and the test of a leaf, where a path stands.
use Rattle.std.proofs.Common.{◌≡◌, ◌∙◌, sym, ap, ap₂, subst, refl, List, length, Bool, true, Option, Some, None}
use Rattle.exact_numbers.specs.Rational.{ℚ, zero_ℚ}
use Rattle.linear_program.specs.Linear.{Form, Linear, row_count}
use Rattle.certificates.specs.Parts.{Part, maximising, whole_part}
use Rattle.certificates.specs.Verdict.{BoundVerdict, dual_bound}
use Rattle.exact_numbers.specs.declared.dec.Dec.{Dec}
use Rattle.exact_numbers.specs.Values.{frac_value}
use Rattle.linear_program.specs.Coefs.{Term, coef_in}
use Rattle.linear_program.specs.Numbers.{Pair, spread}
use Rattle.exact_checks.specs.Leaves.{HasRows, IsOver}
use Rattle.exact_checks.specs.Lists.{bounds_in, form_of}
use Rattle.exact_checks.specs.Programs.{asked, program_value}
use Rattle.exact_checks.specs.declared.program.Program.{Program}
use Rattle.exact_checks.specs.declared.form.Row.{Row}
use Rattle.exact_checks.specs.declared.verdict.Goal.TheVariants.{Objective, Zero}
use Rattle.certificate_judge.specs.InsidePaths.{IsAt, IsPath, Turn, last_of, part_under, sides_of}
use Rattle.certificate_judge.specs.Walks.{bound_in}
use Rattle.certificate_judge.specs.declared.path.Lemma.{Lemma}
use Rattle.certificate_judge.specs.declared.path.Path.{Path}
use Rattle.certificate_judge.proofs.Alike.{AreAlike, same_bound}
use Rattle.certificate_judge.proofs.Overs.{HasGoal, IsPartHeld, path_held, maximise_same}

-- other goals leave the rows alone
goals_alike : (g f : Linear) (o u : Form) (m n : Bool) → AreAlike g f → AreAlike (record g { objective = o; maximise = m }) (record f { objective = u; maximise = n })
goals_alike g f o u m n h = record { rows = h.rows; variables = h.variables; row = h.row }

over_goal : (c : Program) (rows : List Row) (f : Linear) (o : Form) (m : Bool) → HasRows c rows f → o ≡ form_of c.objective → m ≡ c.maximise → IsOver c rows (record f { objective = o; maximise = m })
over_goal c rows f o m h objective maximise =
    record {
      rows = h.rows;
      row = λ i r at. let k = h.row i r at in record { body = k.body; side = k.side; terms = k.terms };
      variables = h.variables;
      objective = objective;
      maximise = maximise;
    }

module _ (c : Program) (v : ℚ) (turns : List Turn) (path : Path) (at : IsAt (whole_part (program_value c) v) turns path) (fine : IsPath (length c.lower.items) path) where
  abbrev here : Part
  here = part_under (whole_part (program_value c) v) turns

  held : IsPartHeld c v (sides_of path) here
  held = path_held c v turns path at fine

  goal_here : (o : Option Lemma) → last_of path.lemmas.items ≡ o → HasGoal c v o here
  goal_here o e = subst (λ x. HasGoal c v x here) e held.goal

  -- ---- the sense and the value of the part
  module _ (l : Lemma) (last : last_of path.lemmas.items ≡ Some l) where
    pub lemma_sense : (part_under (whole_part (program_value c) v) turns).program.maximise ≡ true
    lemma_sense = (goal_here (Some l) last).1

    pub lemma_value : (part_under (whole_part (program_value c) v) turns).value ≡ frac_value l.most
    lemma_value = (goal_here (Some l) last).2

  module _ (last : last_of path.lemmas.items ≡ None) where
    pub own_sense : (part_under (whole_part (program_value c) v) turns).program.maximise ≡ c.maximise
    own_sense = (goal_here None last).1

    pub own_value : (part_under (whole_part (program_value c) v) turns).value ≡ v
    own_value = (goal_here None last).2

  -- ---- the bound
  module _ (rows : List Row) (lo hi : List (Option Dec)) (rows_are : rows ≡ path.added.items) (lo_is : lo ≡ path.lo.items) (hi_is : hi ≡ path.hi.items) (ps : List Pair) (b : BoundVerdict) where
    rows_held : HasRows c rows held.rows.same
    rows_held = subst (λ rs. HasRows c rs held.rows.same) (sym rows_are) held.rows.held

    -- with another goal of the rows that are held
    moved : (g f : Linear) → AreAlike g f → g.objective ≡ f.objective → g.maximise ≡ f.maximise
        → dual_bound g (bounds_in lo hi) (spread (row_count held.rows.same) ps)
        ≡ dual_bound f here.box (spread (row_count here.program) ps)
    moved g f alike objective maximise =
        ap₂ (dual_bound g) (ap₂ bounds_in lo_is hi_is ∙ held.box) (ap (λ n. spread n ps) held.rows.alike.rows)
        ∙ same_bound g f alike objective maximise here.box (spread (row_count here.program) ps)

    pub sum_here : (l : Lemma) → last_of path.lemmas.items ≡ Some l → (ts : List Term) → ts ≡ l.terms
        → ((f : Linear) → HasRows c rows f → b ≡ dual_bound (maximising f (record { constant = zero_ℚ; coefficient = coef_in ts })) (bounds_in lo hi) (spread (row_count f) ps))
        → b ≡ bound_in (part_under (whole_part (program_value c) v) turns) Objective ps
    sum_here l last ts terms q =
        let form : Form = record { constant = zero_ℚ; coefficient = coef_in ts } in
        q held.rows.same rows_held
        ∙ moved (maximising held.rows.same form) here.program (goals_alike held.rows.same here.program form here.program.objective true here.program.maximise held.rows.alike)
        (ap (λ us. record { constant = zero_ℚ; coefficient = coef_in us }) terms ∙ sym (goal_here (Some l) last).0) (sym (goal_here (Some l) last).1)

    pub objective_here : last_of path.lemmas.items ≡ None
        → ((f : Linear) → IsOver c rows f → b ≡ dual_bound (asked Objective f) (bounds_in lo hi) (spread (row_count f) ps))
        → b ≡ bound_in (part_under (whole_part (program_value c) v) turns) Objective ps
    objective_here last q =
        let o = here.program.objective in
        let m = here.program.maximise in
        q (record held.rows.same { objective = o; maximise = m }) (over_goal c rows held.rows.same o m rows_held (goal_here None last).0 (goal_here None last).1)
        ∙ moved (record held.rows.same { objective = o; maximise = m }) here.program (goals_alike held.rows.same here.program o o m m held.rows.alike) refl refl

    pub zero_here : ((f : Linear) → IsOver c rows f → b ≡ dual_bound (asked Zero f) (bounds_in lo hi) (spread (row_count f) ps))
        → b ≡ bound_in (part_under (whole_part (program_value c) v) turns) Zero ps
    zero_here q =
        let o = form_of c.objective in
        let of = record held.rows.same { objective = o; maximise = c.maximise } in
        q of (over_goal c rows held.rows.same o c.maximise rows_held refl refl)
        ∙ moved (asked Zero of) (asked Zero here.program) (goals_alike held.rows.same here.program
        (asked Zero of).objective (asked Zero here.program).objective (asked Zero of).maximise
        (asked Zero here.program).maximise held.rows.alike) refl refl

pub ruleset senses = (own_sense, own_value, maximise_same)
