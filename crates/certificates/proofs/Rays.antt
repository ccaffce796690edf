-- A feasible point and a ray: the objective has no end.
use Rattle.std.proofs.Common.{◌≡◌, ℕ, ◌*◌, ◌<◌, ◌∙◌, sym, ap, subst, subst₂, refl, arith, mul_assoc, Bool, true, false, Option, Some, None, pos, List, [], ◌∷◌, map}
use Rattle.std.specs.Prelude.{if◌then◌else◌}
use Rattle.std.specs.List.{range_with_len}
use Rattle.std.specs.Option.{option_or}
use Rattle.std.proofs.lemmas.Int.{ints}
use Rattle.std.proofs.lemmas.List.FromFn.{get_or-map-range_with_len}
use Rattle.exact_numbers.specs.Rational.{ℚ, whole, zero_ℚ, ◌+ℚ◌, ◌*ℚ◌, neg_ℚ, ◌≤ℚ◌, ◌<ℚ◌, IsWhole}
use Rattle.exact_numbers.specs.Sums.{sum_below}
use Rattle.exact_numbers.proofs.Tests.{option_or-none}
use Rattle.exact_numbers.proofs.RationalLaws.{+ℚ_assoc, +ℚ_zero, zero-+ℚ, zero-*ℚ, *ℚ_comm, +ℚ-≤ℚ, +ℚ-≤ℚ_both, *ℚ-≤ℚ, ≤ℚ_refl, ≤ℚ_trans, ≤ℚ_by, product_above, not_both, neg-neg, neg_zero, whole-≤ℚ}
use Rattle.exact_numbers.proofs.Adding.{sum_below_same, sum_below-+ℚ, sum_below-*ℚ}
use Rattle.exact_numbers.proofs.Ring.{ring, v, ◌⊕◌, ◌⊗◌, opp}
use Rattle.linear_program.specs.Linear.{Interval, Form, Linear, Row, IsInside, IsFeasible, RowHolds, value_at, variable_count, linear_part, form_value, objective_value, no_row, row_at, row_count}
use Rattle.linear_program.proofs.Sides.{AtLeast, AtMost}
use Rattle.certificates.specs.Branch.{is_as_good}
use Rattle.certificates.specs.Points.{IsBetter, bounds_of}
use Rattle.certificates.specs.Ray.{zero_side, recession, IsRay, ray_row_broken, ray_bound_broken, ray_no_better}
use Rattle.certificates.specs.Ray.{without_constant, run_change, ray_row_check, ray_row_fault, ray_bound_fault}
use Rattle.certificates.specs.Ray.{ray_objective_check, ray_fault}
use Rattle.certificates.specs.Solutions.{IsUnbounded}
use Rattle.certificates.specs.Verdict.{first_fault, is_inside}
use Rattle.certificates.proofs.Feasible.{all_rows, inside_yes}
use Rattle.certificates.proofs.Checks.{at_most_no, if_none, no_fault}
use Rattle.certificates.proofs.Multiples.{multiple_whole, common_multiple, common_above, common_is_multiple, lt_by, neg-<ℚ, above_any}
use Rattle.certificates.proofs.Parts.{whole_sum}
use Rattle.certificates.proofs.Weak.{form_some}

-- ---- what the test says
change_some : (n : ℕ) (f : Form) (ds : List ℚ) (c : ℚ) → run_change n f (value_at ds) ≡ Some c → linear_part f.coefficient n ds ≡ c
unfolding run_change
change_some n f ds c h = sym (zero-+ℚ (linear_part f.coefficient n ds)) ∙ form_some n (without_constant f) ds c h

row_inside : (i : ℕ) (s : Interval) (o : Option ℚ) → ray_row_check i s o ≡ None → (c : ℚ) × (o ≡ Some c) × IsInside (recession s) c
row_inside i s None h = absurd (cc)
row_inside i s (Some c) h = (c, refl, inside_yes c (recession s) (if_none (is_inside c (recession s)) (ray_row_broken i) h))

improves : (max : Bool) (o : Option ℚ) → ray_objective_check max o ≡ None → (c : ℚ) × (o ≡ Some c) × IsBetter max c zero_ℚ
improves max None h = absurd (cc)
improves max (Some c) h = (c, refl, by max (passes (is_as_good max zero_ℚ c) h))
  where
    passes : (b : Bool) → (if b then Some ray_no_better else None) ≡ None → b ≡ false
    passes true e = absurd (cc)
    passes false e = refl

    by : (m : Bool) → is_as_good m zero_ℚ c ≡ false → IsBetter m c zero_ℚ
    by true e = at_most_no c zero_ℚ e
    by false e = at_most_no zero_ℚ c e

pub ray_yes : (f : Linear) (ds : List ℚ) → ray_fault f (value_at ds) ≡ None → IsRay f ds
unfolding ray_fault ray_row_fault ray_bound_fault
ray_yes f ds h =
    let n : ℕ = variable_count f in
    let d = value_at ds in
    let first = option_or-none (option_or (first_fault (ray_row_fault f d) (row_count f)) (first_fault (ray_bound_fault f d) n)) (ray_objective_check f.maximise (run_change n f.objective d)) h in
    let both = option_or-none (first_fault (ray_row_fault f d) (row_count f)) (first_fault (ray_bound_fault f d) n) first.0 in
    let best = improves f.maximise (run_change n f.objective d) first.1 in
    record {
      rows = all_rows f (λ (r : Row). IsInside (recession r.side) (linear_part r.body.coefficient n ds)) (λ i l.
          let w = row_inside i (row_at f i).side (run_change n (row_at f i).body d) (no_fault (ray_row_fault f d) (row_count f) both.0 i l) in
          subst (λ z. IsInside (recession (row_at f i).side) z) (sym (change_some n (row_at f i).body ds w.0 w.1)) w.2);
      bounds = λ j l. inside_yes (d j) (recession (bounds_of f j)) (if_none (is_inside (d j) (recession (bounds_of f j))) (ray_bound_broken j) (no_fault (ray_bound_fault f d) n both.1 j l));
      better = subst (λ z. IsBetter f.maximise z zero_ℚ) (sym (change_some n f.objective ds best.0 best.1)) best.2;
    }

-- ---- along the ray
abbrev moved : ℕ → ℚ → List ℚ → List ℚ → List ℚ
moved n m xs ds = map (λ j. value_at xs j +ℚ m *ℚ value_at ds j) (range_with_len 0 n)

module _ (n : ℕ) (m : ℚ) (xs ds : List ℚ) where
  moved_at : (j : ℕ) → j < n → value_at (moved n m xs ds) j ≡ value_at xs j +ℚ m *ℚ value_at ds j
  moved_at j l = get_or-map-range_with_len (λ i. value_at xs i +ℚ m *ℚ value_at ds i) 0 n j j zero_ℚ l (omega arith)

  linear_moved : (c : ℕ → ℚ) → linear_part c n (moved n m xs ds) ≡ linear_part c n xs +ℚ m *ℚ linear_part c n ds
  unfolding linear_part
  linear_moved c =
      sum_below_same _ (λ j. c j *ℚ value_at xs j +ℚ m *ℚ (c j *ℚ value_at ds j)) n
      (λ j l. ap (λ z. c j *ℚ z) (moved_at j l) ∙ ring (c j ∷ value_at xs j ∷ m ∷ value_at ds j ∷ []) (v 0 ⊗ (v 1 ⊕ (v 2 ⊗ v 3))) ((v 0 ⊗ v 1) ⊕ (v 2 ⊗ (v 0 ⊗ v 3))) refl)
      ∙ sum_below-+ℚ (λ j. c j *ℚ value_at xs j) (λ j. m *ℚ (c j *ℚ value_at ds j)) n
      ∙ ap (λ z. sum_below (λ j. c j *ℚ value_at xs j) n +ℚ z) (sum_below-*ℚ m (λ j. c j *ℚ value_at ds j) n)

  form_moved : (f : Form) → form_value f n (moved n m xs ds) ≡ form_value f n xs +ℚ m *ℚ linear_part f.coefficient n ds
  form_moved f = ap (λ z. f.constant +ℚ z) (linear_moved f.coefficient) ∙ sym (+ℚ_assoc f.constant (linear_part f.coefficient n xs) (m *ℚ linear_part f.coefficient n ds))

-- what is inside stays inside
kept : (s : Interval) (x c m : ℚ) → zero_ℚ ≤ℚ m → IsInside s x → IsInside (recession s) c → IsInside s (x +ℚ m *ℚ c)
kept s x c m some ok change = record { above = low s.lower ok.above change.above; below = high s.upper ok.below change.below }
  where
    low : (o : Option ℚ) → AtLeast o x → AtLeast (zero_side o) c → AtLeast o (x +ℚ m *ℚ c)
    low None h k = tt
    low (Some l) h k = ≤ℚ_trans l x _ h (≤ℚ_by x _ (m *ℚ c) (product_above m c some k) refl)

    high : (o : Option ℚ) → AtMost o x → AtMost (zero_side o) c → AtMost o (x +ℚ m *ℚ c)
    high None h k = tt
    high (Some u) h k =
        let less : (m *ℚ c) ≤ℚ zero_ℚ = subst₂ (λ a b. a ≤ℚ b) (*ℚ_comm c m) (zero-*ℚ m) (*ℚ-≤ℚ c zero_ℚ m some k) in
        ≤ℚ_trans _ x u (subst (λ z. (x +ℚ m *ℚ c) ≤ℚ z) (+ℚ_zero x) (+ℚ-≤ℚ_both x x (m *ℚ c) zero_ℚ (≤ℚ_refl x) less)) h

-- far enough along the ray the value is better than any other
far : (max : Bool) (x g v0 : ℚ) (m : ℕ) → 0 < m → IsBetter max g zero_ℚ → (k : ℕ) × IsBetter max (x +ℚ whole (pos (k * m)) *ℚ g) v0
far true x g v0 m some better =
    let w = above_any g (v0 +ℚ neg_ℚ x) m better some in
    let t : ℚ = whole (pos (w.0 * m)) *ℚ g in (
      w.0,
      lt_by v0 (x +ℚ t) (λ h. not_both t (v0 +ℚ neg_ℚ x)
          (subst (λ z. z ≤ℚ (v0 +ℚ neg_ℚ x)) (ring (x ∷ t ∷ []) ((v 0 ⊕ v 1) ⊕ opp (v 0)) (v 1) refl) (+ℚ-≤ℚ (x +ℚ t) v0 (neg_ℚ x) h))
          w.1),
    )
far false x g v0 m some better =
    let positive : zero_ℚ <ℚ neg_ℚ g = neg-<ℚ (neg_ℚ g) zero_ℚ (subst₂ (λ a b. a <ℚ b) (sym (neg-neg g)) (sym neg_zero) better) in
    let w = above_any (neg_ℚ g) (x +ℚ neg_ℚ v0) m positive some in
    let k : ℚ = whole (pos (w.0 * m)) in (
      w.0,
      lt_by (x +ℚ k *ℚ g) v0 (λ h. not_both (k *ℚ neg_ℚ g) (x +ℚ neg_ℚ v0)
          (subst₂ (λ a b. a ≤ℚ b)
          (ring (v0 ∷ k ∷ g ∷ []) (v 0 ⊕ (opp (v 0) ⊕ opp (v 1 ⊗ v 2))) (v 1 ⊗ opp (v 2)) refl)
          (ring (x ∷ k ∷ g ∷ v0 ∷ []) ((v 0 ⊕ (v 1 ⊗ v 2)) ⊕ (opp (v 3) ⊕ opp (v 1 ⊗ v 2))) (v 0 ⊕ opp (v 3)) refl)
          (+ℚ-≤ℚ v0 (x +ℚ k *ℚ g) (neg_ℚ v0 +ℚ neg_ℚ (k *ℚ g)) h))
          w.1),
    )

-- ---- a step along the ray by a common multiple of the denominators is feasible
module _ (f : Linear) (xs ds : List ℚ) (ok : IsFeasible f xs) (ray : IsRay f ds) where
  abbrev n : ℕ
  n = variable_count f

  abbrev size : ℕ
  size = common_multiple (value_at ds) n

  step_feasible : (k : ℕ) → IsFeasible f (moved n (whole (pos (k * size))) xs ds)
  step_feasible k =
      let m : ℚ = whole (pos (k * size)) in
      let some : zero_ℚ ≤ℚ m = (whole-≤ℚ (pos 0) (pos (k * size))).1 (omega (arith, ints)) in
      record {
        relaxed = record {
          rows = all_rows f (RowHolds n (moved n m xs ds)) (λ i l.
              subst (λ z. IsInside (row_at f i).side z) (sym (form_moved n m xs ds (row_at f i).body))
              (kept (row_at f i).side _ _ m some (ok.relaxed.rows i no_row l) (ray.rows i no_row l)));
          bounds = λ j l.
              subst (λ z. IsInside (bounds_of f j) z) (sym (moved_at n m xs ds j l))
              (kept (bounds_of f j) (value_at xs j) (value_at ds j) m some (ok.relaxed.bounds j l) (ray.bounds j l));
        };
        whole = λ j l h.
            subst IsWhole (sym (moved_at n m xs ds j l))
            (whole_sum (value_at xs j) (m *ℚ value_at ds j) (ok.whole j l h)
            (let w = common_is_multiple (value_at ds) n j l in
            subst (λ s. IsWhole (whole (pos s) *ℚ value_at ds j)) (mul_assoc k w.0 (value_at ds j).bottom ∙ ap (λ s. k * s) (sym w.1)) (multiple_whole (k * w.0) (value_at ds j))));
      }

  pub no_end : IsUnbounded f
  no_end limit =
      let w = far f.maximise (objective_value f xs) (linear_part f.objective.coefficient n ds) limit size (common_above (value_at ds) n) ray.better in (
        moved n (whole (pos (w.0 * size))) xs ds,
        step_feasible w.0,
        subst (λ z. IsBetter f.maximise z limit) (sym (form_moved n (whole (pos (w.0 * size))) xs ds f.objective)) w.1,
      )
