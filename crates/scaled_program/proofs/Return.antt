-- The law of return: a dual times the change of its row's body is the answer's value times the scaled row.
use Rattle.std.proofs.Common.{◌≡◌, ℕ, zero, suc, ◌+◌, ◌<◌, ◌∙◌, sym, ap, subst, refl, arith, true, false, cond, List, [], ◌∷◌, ◌++◌, length, get_or, pos, IsTrue}
use Rattle.std.proofs.Math.ListN.{get_or-append}
use Rattle.exact_numbers.specs.Rational.{ℚ, zero_ℚ, whole, ◌+ℚ◌, ◌-ℚ◌, ◌*ℚ◌, neg_ℚ}
use Rattle.exact_numbers.proofs.RationalLaws.{+ℚ_comm, +ℚ_assoc, +ℚ_zero, +ℚ-neg, -ℚ_lem, *ℚ_assoc, *ℚ_comm, *ℚ_zero, zero-*ℚ}
use Rattle.exact_numbers.proofs.Adding.{sum_below_all_zero}
use Rattle.linear_program.specs.Linear.{Form, Row, Linear, form_value, linear_part, value_at, variable_count, IsLinear, no_row, row_at}
use Rattle.scaled_program.specs.Meaning.{no_scaled_row, scaled_row_value}
use Rattle.scaled_program.specs.Program.{ScaledRow, exported_rows, is_exported, scaled_and_tied, scaled_by, scaled_row, tie, z_variable}
use Rattle.scaled_program.specs.Return.{place_of, dual_of}
use Rattle.scaled_program.proofs.Scaling.{linear_scaled}
use Rattle.scaled_program.proofs.Meaning.{linear_more, one_more}

-- the scaled row stands at its place
record StandsAt (scaled : List ScaledRow) (p : ℕ) (r : ScaledRow) : Type 0 where
  inside : p < length scaled
  there : get_or scaled p no_scaled_row ≡ r

stands : (factor : ℕ → ℕ) (j : ℕ) (rows : List Row) (i : ℕ) → i < length rows → is_exported (get_or rows i no_row) ≡ true →
    StandsAt (exported_rows factor j rows) (place_of rows i) (scaled_row (factor (j + i)) (get_or rows i no_row))
unfolding exported_rows place_of
stands factor j [] i h e = absurd (omega arith)
stands factor j (r ∷ rs) zero h e =
    subst (λ b. StandsAt (cond b (scaled_row (factor j) r ∷ exported_rows factor (suc j) rs) (exported_rows factor (suc j) rs)) 0 (scaled_row (factor (j + 0)) r)) (sym e)
    (record { inside = omega arith; there = ap (λ k. scaled_row (factor k) r) (omega arith) })
stands factor j (r ∷ rs) (suc i) h e =
    let ih = stands factor (suc j) rs i (omega arith) e in
    let there : get_or (exported_rows factor (suc j) rs) (place_of rs i) no_scaled_row
    ≡ scaled_row (factor (j + suc i)) (get_or rs i no_row) =
    ih.there ∙ ap (λ k. scaled_row (factor k) (get_or rs i no_row)) (omega arith) in
    elim (is_exported r) as (λ b. StandsAt (cond b (scaled_row (factor j) r ∷ exported_rows factor (suc j) rs)
    (exported_rows factor (suc j) rs)) (cond b (suc (place_of rs i)) (place_of rs i))
    (scaled_row (factor (j + suc i)) (get_or rs i no_row)))
    [ true ↦ record { inside = omega (arith, ih.inside); there = there } | false ↦ record { inside = ih.inside; there = there } ]

-- the body less its value at the point 0
pub body_less : (r : Form) (n : ℕ) (xs : List ℚ) → form_value r n xs -ℚ form_value r n [] ≡ linear_part r.coefficient n xs
unfolding linear_part
body_less r n xs =
    let none : linear_part r.coefficient n [] ≡ zero_ℚ = sum_below_all_zero (λ j. r.coefficient j *ℚ value_at [] j) n (λ j h. *ℚ_zero (r.coefficient j)) in
    let v = linear_part r.coefficient n xs in
    ap (λ t. form_value r n xs -ℚ (r.constant +ℚ t)) none
    ∙ ap (λ t. form_value r n xs -ℚ t) (+ℚ_zero r.constant)
    ∙ -ℚ_lem (form_value r n xs) r.constant
    ∙ ap (λ t. t +ℚ neg_ℚ r.constant) (+ℚ_comm r.constant v)
    ∙ +ℚ_assoc v r.constant (neg_ℚ r.constant)
    ∙ ap (λ t. v +ℚ t) (+ℚ-neg r.constant)
    ∙ +ℚ_zero v

-- w (s k) v = (s w) (k v)
regroup : (s w k v : ℚ) → w *ℚ (s *ℚ k) *ℚ v ≡ s *ℚ w *ℚ (k *ℚ v)
regroup s w k v =
    ap (λ t. t *ℚ v) (sym (*ℚ_assoc w s k) ∙ ap (λ t. t *ℚ k) (*ℚ_comm w s))
    ∙ *ℚ_assoc (s *ℚ w) k v

-- an exported row has a place
pub placed : (f : Linear) (factor : ℕ → ℕ) (i : ℕ) → i < length f.rows → IsTrue (is_exported (row_at f i)) → place_of f.rows i < length (scaled_by f factor).rows
placed f factor i h e = (stands factor 0 f.rows i h e).inside

pub placed_tied : (f : Linear) (factor : ℕ → ℕ) (g i : ℕ) → i < length f.rows → IsTrue (is_exported (row_at f i)) → place_of f.rows i < length (scaled_and_tied f factor g).rows
placed_tied f factor g i h e = omega (arith, placed f factor i h e, one_more (exported_rows factor 0 f.rows) (scaled_row g (tie (variable_count f) f.objective)))

pub law_of_return : (f : Linear) (factor : ℕ → ℕ) (s w : ℚ) (i : ℕ) (xs : List ℚ) → i < length f.rows → IsTrue (is_exported (row_at f i)) →
    dual_of s w (factor i) *ℚ (form_value (row_at f i).body (variable_count f) xs -ℚ form_value (row_at f i).body (variable_count f) [])
    ≡ s *ℚ w *ℚ scaled_row_value (scaled_by f factor) xs (place_of f.rows i)
law_of_return f factor s w i xs h e =
    let n = variable_count f in
    let r = row_at f i in
    let k = whole (pos (factor i)) in
    let v = linear_part r.body.coefficient n xs in
    let at = stands factor 0 f.rows i h e in
    let row = ap (λ (t : ScaledRow). linear_part t.coefficient n xs) (at.there ∙ ap (λ t. scaled_row (factor t) r) (omega arith))
    ∙ linear_scaled k r.body.coefficient n xs in
    ap (λ t. dual_of s w (factor i) *ℚ t) (body_less r.body n xs) ∙ regroup s w k v ∙ ap (λ t. s *ℚ w *ℚ t) (sym row)

pub law_of_return_tied : (f : Linear) (factor : ℕ → ℕ) (g : ℕ) (s w : ℚ) (i : ℕ) (xs : List ℚ) (z : ℚ) → IsLinear f
    → length xs ≡ variable_count f → i < length f.rows → IsTrue (is_exported (row_at f i)) →
    dual_of s w (factor i) *ℚ (form_value (row_at f i).body (variable_count f) xs -ℚ form_value (row_at f i).body (variable_count f) [])
    ≡ s *ℚ w *ℚ scaled_row_value (scaled_and_tied f factor g) (xs ++ z ∷ []) (place_of f.rows i)
law_of_return_tied f factor g s w i xs z linear count h e =
    let n = variable_count f in
    let r = row_at f i in
    let k = whole (pos (factor i)) in
    let v = linear_part r.body.coefficient n xs in
    let at = stands factor 0 f.rows i h e in
    let first = exported_rows factor 0 f.rows in
    let t = scaled_row g (tie n f.objective) in
    let row = ap (λ (t : ScaledRow). linear_part t.coefficient (length (f.variables ++ z_variable ∷ [])) (xs ++ z ∷ []))
    (get_or-append first (t ∷ []) no_scaled_row (place_of f.rows i) at.inside ∙ at.there
    ∙ ap (λ t. scaled_row (factor t) r) (omega arith))
    ∙ linear_scaled k r.body.coefficient (length (f.variables ++ z_variable ∷ [])) (xs ++ z ∷ [])
    ∙ ap (λ m. k *ℚ linear_part r.body.coefficient m (xs ++ z ∷ [])) (one_more f.variables z_variable)
    ∙ ap (λ v. k *ℚ v) (linear_more n xs z count r.body.coefficient r.body.coefficient (λ j h. refl)
    ∙ ap (λ c. v +ℚ c *ℚ z) (linear.within i no_row h n (omega arith)) ∙ ap (λ c. v +ℚ c) (zero-*ℚ z) ∙ +ℚ_zero v)
    in
    ap (λ t. dual_of s w (factor i) *ℚ t) (body_less r.body n xs) ∙ regroup s w k v ∙ ap (λ t. s *ℚ w *ℚ t) (sym row)
