-- A cut loses no feasible point of its part.
use Rattle.std.proofs.Common.{◌≡◌, ℕ, zero, suc, ◌<◌, ◌⊎◌, inl, inr, ◌∙◌, sym, ap, ap₂, subst, arith, Option, Some, None, ℤ, pos, ◌+ℤ◌, ◌*ℤ◌, IsTrue, nat_eq, List, [], ◌∷◌, All, length-append}
use Rattle.std.specs.Prelude.{◌==◌}
use Rattle.std.proofs.lemmas.Int.{ints, by_lt_z}
use Rattle.std.proofs.lemmas.Bool.{cond_both, eqb-true}
use Rattle.std.proofs.Math.Seq.{get_or-append_seam}
use Rattle.std.proofs.lemmas.List.{get_or_append_left}
use Rattle.std.proofs.lemmas.List.Elements.{All-head, All-tail, All-push}
use Rattle.exact_numbers.specs.Rational.{ℚ, whole, ◌≤ℚ◌, ◌+ℚ◌, ◌*ℚ◌, IsWhole}
use Rattle.exact_numbers.specs.Sums.{sum_below}
use Rattle.exact_numbers.proofs.RationalLaws.{whole_of, whole-≤ℚ, whole-+ℚ, whole-*ℚ, IsWhole-whole, zero-+ℚ, zero-*ℚ}
use Rattle.certificates.specs.Checked.{is_at_most}
use Rattle.linear_program.specs.Linear.{Interval, Form, Linear, IsInside, IsFeasible, RowHolds, value_at, variable_at, variable_count, linear_part, form_value, no_row, row_at, row_count}
use Rattle.linear_program.proofs.Sides.{AtLeast, AtMost}
use Rattle.certificates.specs.Points.{Box, IsRelaxedIn}
use Rattle.certificates.specs.Parts.{Part, Cut, bound, plane, lemma, WholeForm, NumberForm, IsFeasibleIn}
use Rattle.certificates.specs.Parts.{IsWholeVariable, IsCutWhole, factor_of, form_of, least, greatest, capped, raised}
use Rattle.certificates.specs.Parts.{at_most, at_least, sum_of, added_row, with_added_row, first_part, second_part}
use Rattle.certificates.specs.Parts.{whole_part}

-- a whole number is at most t or at least t + 1
whole_parts : (x : ℚ) (t : ℤ) → IsWhole x → (x ≤ℚ whole t) ⊎ (whole (t +ℤ pos 1) ≤ℚ x)
whole_parts x t h =
    let w = whole_of x h in
    let Parts : ℚ → Type 0 = λ a. (a ≤ℚ whole t) ⊎ (whole (t +ℤ pos 1) ≤ℚ a) in
    subst Parts (sym w.1)
    (by_lt_z t w.0
    (λ l. inr ((whole-≤ℚ (t +ℤ pos 1) w.0).1 (omega (arith, ints))))
    (λ m. inl ((whole-≤ℚ w.0 t).1 m)))

inside_capped : (i : Interval) (x t : ℚ) → IsInside i x → x ≤ℚ t → IsInside (record { lower = i.lower; upper = least i.upper t }) x
inside_capped i x t ok h = record { above = ok.above; below = by i.upper ok.below }
  where
    by : (o : Option ℚ) → AtMost o x → AtMost (least o t) x
    by None k = h
    by (Some s) k = cond_both (is_at_most s t) (Some s) (Some t) (λ p. AtMost p x) (λ e. k) (λ e. h)

inside_raised : (i : Interval) (x t : ℚ) → IsInside i x → t ≤ℚ x → IsInside (record { lower = greatest i.lower t; upper = i.upper }) x
inside_raised i x t ok h = record { above = by i.lower ok.above; below = ok.below }
  where
    by : (o : Option ℚ) → AtLeast o x → AtLeast (greatest o t) x
    by None k = h
    by (Some s) k = cond_both (is_at_most s t) (Some t) (Some s) (λ p. AtLeast p x) (λ e. h) (λ e. k)

abbrev InBox : Linear → Box → List ℚ → Type 0
InBox f box xs = (j : ℕ) → j < variable_count f → IsInside (box j) (value_at xs j)

in_capped : (f : Linear) (box : Box) (xs : List ℚ) (j : ℕ) (t : ℚ) → InBox f box xs → value_at xs j ≤ℚ t → InBox f (capped box j t) xs
unfolding capped
in_capped f box xs j t ok h k l =
    cond_both (nat_eq k j) _ (box k) (λ i. IsInside i (value_at xs k)) (λ e. inside_capped (box k) (value_at xs k) t (ok k l) (subst (λ i. value_at xs i ≤ℚ t) (sym (eqb-true k j e)) h)) (λ e. ok k l)

in_raised : (f : Linear) (box : Box) (xs : List ℚ) (j : ℕ) (t : ℚ) → InBox f box xs → t ≤ℚ value_at xs j → InBox f (raised box j t) xs
unfolding raised
in_raised f box xs j t ok h k l =
    cond_both (nat_eq k j) _ (box k) (λ i. IsInside i (value_at xs k)) (λ e. inside_raised (box k) (value_at xs k) t (ok k l) (subst (λ i. t ≤ℚ value_at xs i) (sym (eqb-true k j e)) h)) (λ e. ok k l)

-- ---- whole forms
pub whole_sum : (x y : ℚ) → IsWhole x → IsWhole y → IsWhole (x +ℚ y)
whole_sum x y h k =
    let a = whole_of x h in
    let b = whole_of y k in
    subst IsWhole (sym (ap₂ ◌+ℚ◌ a.1 b.1 ∙ whole-+ℚ a.0 b.0)) (IsWhole-whole (a.0 +ℤ b.0))

pub whole_times : (z : ℤ) (x : ℚ) → IsWhole x → IsWhole (whole z *ℚ x)
whole_times z x h =
    let a = whole_of x h in
    subst IsWhole (sym (ap (λ v. whole z *ℚ v) a.1 ∙ whole-*ℚ z a.0)) (IsWhole-whole (z *ℤ a.0))

whole_sum_below : (f : ℕ → ℚ) (n : ℕ) → ((j : ℕ) → j < n → IsWhole (f j)) → IsWhole (sum_below f n)
unfolding sum_below
whole_sum_below f zero h = IsWhole-whole (pos 0)
whole_sum_below f (suc n) h = whole_sum (sum_below f n) (f n) (whole_sum_below f n (λ j l. h j (omega arith))) (h n (omega arith))

-- a factor times its variable is whole: the factor is 0, or the variable is whole
module _ (f : Linear) (xs : List ℚ) (whole_ones : (j : ℕ) → j < variable_count f → IsTrue (variable_at f j).whole → IsWhole (value_at xs j)) where
  factor_whole : (ps : WholeForm) (j : ℕ) → All (λ (p : ℕ × ℤ). IsWholeVariable f p.0) ps → IsWhole (whole (factor_of ps j) *ℚ value_at xs j)
  factor_whole [] j h = subst IsWhole (sym (zero-*ℚ (value_at xs j))) (IsWhole-whole (pos 0))
  factor_whole (p ∷ ps) j h =
      let own : IsWholeVariable f p.0 = All-head (λ (q : ℕ × ℤ). IsWholeVariable f q.0) p ps h in
      cond_both (j == p.0) p.1 (factor_of ps j) (λ z. IsWhole (whole z *ℚ value_at xs j))
      (λ e. whole_times p.1 (value_at xs j) (subst (λ i. IsWhole (value_at xs i)) (sym (eqb-true j p.0 e)) (whole_ones p.0 own.0 own.1)))
      (λ e. factor_whole ps j (All-tail (λ (q : ℕ × ℤ). IsWholeVariable f q.0) p ps h))

  form_whole : (ps : WholeForm) → All (λ (p : ℕ × ℤ). IsWholeVariable f p.0) ps → IsWhole (form_value (form_of ps) (variable_count f) xs)
  unfolding linear_part
  form_whole ps h =
      subst IsWhole (sym (zero-+ℚ _))
      (whole_sum_below (λ j. whole (factor_of ps j) *ℚ value_at xs j) (variable_count f) (λ j l. factor_whole ps j h))

-- one row more
pub with_row_holds : (f : Linear) (box : Box) (form : Form) (side : Interval) (xs : List ℚ) → IsRelaxedIn f box xs
    → IsInside side (form_value form (variable_count f) xs) → IsRelaxedIn (with_added_row f form side) box xs
with_row_holds f box form side xs ok h =
    record {
      rows = All-push (RowHolds (variable_count f) xs) f.rows (added_row form side) ok.rows h;
      bounds = ok.bounds;
    }

-- the part that has to show a lemma has the same points
pub in_proof : (p : Part) (form : NumberForm) (t : ℚ) (xs : List ℚ) → IsFeasibleIn p xs → IsFeasibleIn (first_part (lemma form t) p) xs
in_proof p form t xs ok = record { relaxed = record { rows = ok.relaxed.rows; bounds = ok.relaxed.bounds }; whole = ok.whole }

-- and where the lemma is true at a point, the part that goes on has that too
pub with_lemma : (p : Part) (form : NumberForm) (t : ℚ) (xs : List ℚ) → IsFeasibleIn p xs → form_value (sum_of form) (variable_count p.program) xs ≤ℚ t → IsFeasibleIn (second_part (lemma form t) p) xs
with_lemma p form t xs ok h = record { relaxed = with_row_holds p.program p.box (sum_of form) (at_most t) xs ok.relaxed (record { above = tt; below = h }); whole = ok.whole }

-- each feasible point of a part is in one of the parts of a cut
pub covered : (p : Part) (cut : Cut) (xs : List ℚ) → IsCutWhole p.program cut → IsFeasibleIn p xs → IsFeasibleIn (first_part cut p) xs ⊎ IsFeasibleIn (second_part cut p) xs
covered p (bound j t) xs fine ok = elim (whole_parts (value_at xs j) t (ok.whole j fine.0 fine.1)) [
  | inl l ↦ inl (record { relaxed = record { rows = ok.relaxed.rows; bounds = in_capped p.program p.box xs j (whole t) ok.relaxed.bounds l }; whole = ok.whole })
  | inr l ↦ inr (record { relaxed = record { rows = ok.relaxed.rows; bounds = in_raised p.program p.box xs j (whole (t +ℤ pos 1)) ok.relaxed.bounds l }; whole = ok.whole })
]
covered p (plane form t) xs fine ok = elim (whole_parts (form_value (form_of form) (variable_count p.program) xs) t (form_whole p.program xs ok.whole form fine)) [
  | inl l ↦ inl (record { relaxed = with_row_holds p.program p.box (form_of form) (at_most (whole t)) xs ok.relaxed (record { above = tt; below = l }); whole = ok.whole })
  | inr l ↦ inr (record { relaxed = with_row_holds p.program p.box (form_of form) (at_least (whole (t +ℤ pos 1))) xs ok.relaxed (record { above = l; below = tt }); whole = ok.whole })
]
covered p (lemma form t) xs fine ok = inl (in_proof p form t xs ok)

-- a feasible point of the program is one of its whole part
pub in_whole : (f : Linear) (v : ℚ) (xs : List ℚ) → IsFeasible f xs → IsFeasibleIn (whole_part f v) xs
in_whole f v xs ok = record { relaxed = record { rows = ok.relaxed.rows; bounds = ok.relaxed.bounds }; whole = ok.whole }

-- ---- the rows of planes and lemmas
pub rows_added : (f : Linear) (form : Form) (side : Interval) → row_count (with_added_row f form side) ≡ suc (row_count f)
rows_added f form side = omega (arith, length-append f.rows (added_row form side ∷ []))

pub added_at : (f : Linear) (form : Form) (side : Interval) → row_at (with_added_row f form side) (row_count f) ≡ added_row form side
added_at f form side = get_or-append_seam f.rows (added_row form side) [] no_row

pub row_before : (f : Linear) (form : Form) (side : Interval) (i : ℕ) → i < row_count f → row_at (with_added_row f form side) i ≡ row_at f i
row_before f form side i l = get_or_append_left f.rows (added_row form side ∷ []) no_row i l
