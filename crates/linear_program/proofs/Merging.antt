-- Two ascending lists, merged by variable.
use Rattle.std.proofs.Common.{◌≡◌, ◌≢◌, Ok, Err, ℕ, suc, ◌+◌, ◌<◌, ◌≤◌, ⊎_elim, ◌∙◌, sym, ap, ap₂, refl, subst, arith}
use Rattle.std.proofs.Common.{true, false, None, Some, List, [], ◌∷◌, ◌++◌, append_assoc, drop, drop-cons, get_or}
use Rattle.std.proofs.Common.{length}
use Rattle.std.proofs.lemmas.Bool.{cases_eq, cases_lt}
use Rattle.exact_numbers.specs.Rational.{ℚ, zero_ℚ, ◌+ℚ◌, ◌*ℚ◌}
use Rattle.exact_numbers.proofs.RationalLaws.{+ℚ_zero, zero-+ℚ}
use Rattle.exact_numbers.specs.Fits.{fits, sum_fits}
use Rattle.linear_program.specs.Lines.{Line}
use Rattle.text_base.specs.declared.stop.Stop.{Stop}
use Rattle.text_base.specs.declared.stop.Stop.TheVariants.{Fault, Memory}
use Rattle.text_base.specs.Stopped.{IfFault}
use Rattle.linear_program.specs.declared.too_wide.Wide.{Wide}
use Rattle.linear_program.specs.Forms.{AreSummedUp, IsScaledSum, ScaledSumFits, adds_fit, parts_line}
use Rattle.linear_program.proofs.FracLemmas.{coef_fits}
use Rattle.linear_program.proofs.Scaled.{scaled_parts}
use Rattle.linear_program.specs.Coefs.{Term, found, value_or_zero, coef_in, AreAscending, AreBelow, IsAdded}
use Rattle.linear_program.proofs.CoefLemmas.{adds_at, ascending_append, ascending_from, found_same, found_apart, found_before, found_beyond}

found_after : (pre rs : List Term) (j : ℕ) → found pre j ≡ None → found (pre ++ rs) j ≡ found rs j
found_after [] rs j e = refl
found_after (t ∷ pre) rs j e =
    ⊎_elim
    (λ (same : j ≡ t.0). absurd (let clash : Some t.1 ≡ None = sym (found_same t pre j same) ∙ e in cc))
    (λ (apart : j ≢ t.0). found_apart t (pre ++ rs) j apart ∙ found_after pre rs j (sym (found_apart t pre j apart) ∙ e))
    (cases_eq j t.0)

found_within : (pre rs : List Term) (j : ℕ) → found rs j ≡ None → found (pre ++ rs) j ≡ found pre j
found_within [] rs j e = e
found_within (t ∷ pre) rs j e =
    ⊎_elim
    (λ (same : j ≡ t.0). found_same t (pre ++ rs) j same ∙ sym (found_same t pre j same))
    (λ (apart : j ≢ t.0). found_apart t (pre ++ rs) j apart ∙ found_within pre rs j e ∙ sym (found_apart t pre j apart))
    (cases_eq j t.0)

-- of two lists one below and one from a variable on, the coefficients are those of both together
coef_both : (v : ℕ) (pre rs : List Term) → AreBelow v pre → AreAscending v rs → (j : ℕ) → coef_in (pre ++ rs) j ≡ coef_in pre j +ℚ coef_in rs j
coef_both v pre rs b a j =
    ⊎_elim
    (λ (l : j < v).
    let none = found_before v rs j a l in
    ap value_or_zero (found_within pre rs j none) ∙ sym (+ℚ_zero (coef_in pre j)) ∙ ap (λ o. coef_in pre j +ℚ value_or_zero o) (sym none))
    (λ (g : v ≤ j).
    let none = found_beyond v pre j b g in
    ap value_or_zero (found_after pre rs j none) ∙ sym (zero-+ℚ (coef_in rs j)) ∙ ap (λ o. value_or_zero o +ℚ coef_in rs j) (sym none))
    (cases_lt j v)

pub first_ascends : (n : ℕ) (pre rs : List Term) → AreAscending n (pre ++ rs) → AreAscending n pre
first_ascends n [] rs a = tt
first_ascends n (t ∷ pre) rs a = (a.0, a.1, first_ascends (suc t.0) pre rs a.2)

pub rest_ascends : (n : ℕ) (pre rs : List Term) → AreAscending n (pre ++ rs) → AreAscending n rs
rest_ascends n [] rs a = a
rest_ascends n (t ∷ pre) rs a = let first = a.0 in ascending_from n (suc t.0) rs (omega arith) (rest_ascends (suc t.0) pre rs a.2)

-- ---- terms below a variable are put behind those that are done
pub left_from : (v n : ℕ) (t : Term) (left rest : List Term) → left ≡ t ∷ rest → v ≤ t.0 → AreAscending n left → AreAscending v left
left_from v n t left rest at up a =
    let here = subst (AreAscending n) at a in
    subst (AreAscending v) (sym at) (up, here.1, here.2)

-- ---- the coefficient of a variable that is not above the first that is left
module _ (v : ℕ) (t : Term) (left rest : List Term) (at : left ≡ t ∷ rest) (a : AreAscending v left) where
  here : AreAscending v (t ∷ rest)
  here = subst (AreAscending v) at a

  module _ (apart : t.0 ≢ v) where
    pub all_above : AreAscending (suc v) left
    all_above = let first = here.0 in subst (AreAscending (suc v)) (sym at) (omega arith, here.1, here.2)

    pub nothing_there : coef_in left v ≡ zero_ℚ
    nothing_there = ap value_or_zero (found_before (suc v) left v all_above (omega arith))

-- ---- one term
module _ (v : ℕ) (old : ℚ) (all done rest : List Term) (whole : done ++ rest ≡ all) (below : AreBelow v done) (from : AreAscending v rest) (is : old ≡ coef_in rest v) where
  pub old_value : coef_in all v ≡ old
  old_value =
      ap (λ l. coef_in l v) (sym whole) ∙ coef_both v done rest below from v ∙ ap (λ o. value_or_zero o +ℚ coef_in rest v) (found_beyond v done v below (omega arith))
      ∙ zero-+ℚ (coef_in rest v) ∙ sym is

  module _ (k sum : ℚ) (now left : List Term) (under : AreBelow (suc v) now) (above : AreAscending (suc v) left) where
    pub term_merged : sum_fits old k ≡ true → sum ≡ old +ℚ k → coef_in now v ≡ sum
        → ((i : ℕ) → i ≢ v → coef_in now i ≡ coef_in done i) → ((i : ℕ) → i ≢ v → coef_in left i ≡ coef_in rest i)
        → IsAdded all v k (now ++ left)
    term_merged fine e there others beyond = (
      ap (λ x. sum_fits x k) old_value ∙ fine,
      adds_at (coef_in all) (coef_in (now ++ left)) v k
          (coef_both (suc v) now left under above v ∙ ap (λ o. coef_in now v +ℚ value_or_zero o)
          (found_before (suc v) left v above (omega arith)) ∙ +ℚ_zero (coef_in now v) ∙ there ∙ e
          ∙ ap (λ x. x +ℚ k) (sym old_value))
          (λ i n.
          coef_both (suc v) now left under above i ∙ ap₂ (λ x y. x +ℚ y) (others i n) (beyond i n) ∙ sym (coef_both v done rest below from i) ∙ ap (λ l. coef_in l i) whole),
    )

pub still_ascends : (v : ℕ) (now left : List Term) → AreBelow (suc v) now → AreAscending (suc v) left → AreAscending 0 now → AreAscending 0 (now ++ left)
still_ascends v now left under above a = ascending_append 0 (suc v) now left (omega arith) a under above

-- ---- the loops
pub term_drop : (ts : List Term) (i : ℕ) (t : Term) → i < length ts → t ≡ get_or ts i t → drop i ts ≡ t ∷ drop (i + 1) ts
term_drop ts i t h e =
    let next : suc i ≡ i + 1 = omega arith in
    drop-cons ts i t h ∙ ap₂ ◌∷◌ (sym e) (ap (λ k. drop k ts) next)

pub one_pushed : (done now left rest : List Term) (t : Term) → now ≡ done ++ t ∷ [] → left ≡ t ∷ rest → now ++ rest ≡ done ++ left
one_pushed done now left rest t e at = ap (λ xs. xs ++ rest) e ∙ append_assoc done (t ∷ []) rest ∙ ap (λ xs. done ++ xs) (sym at)

-- ---- a constant and a list with k times a form
module _ (c sum k : ℚ) (list ts : List Term) (b : Line) (ascending : AreAscending 0 ts)
    (is : (j : ℕ) → b.coef j ≡ coef_in ts j) (p : fits (k *ℚ b.constant) ≡ true) (s : sum_fits c (k *ℚ b.constant) ≡ true)
    (e : sum ≡ c +ℚ k *ℚ b.constant) where
  pub list_summed : (new : List Term) → AreSummedUp list k ts new → IsScaledSum (parts_line c list) k b (parts_line sum new)
  list_summed new h = scaled_parts (parts_line c list) b sum k ts (coef_fits list) ascending is p s e (parts_line sum new) (Ok tt) (h sum)

  pub list_stopped : (stop : Stop Wide) → IfFault stop (λ w. (q : ℚ) → adds_fit (parts_line q list) k ts ≡ false) → IfFault stop (λ w. ¬ ScaledSumFits (parts_line c list) k b)
  list_stopped (Fault w) h = scaled_parts (parts_line c list) b sum k ts (coef_fits list) ascending is p s e (parts_line sum list) (Err (Fault w)) (h sum)
  list_stopped Memory h = tt
