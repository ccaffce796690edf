-- Bounds in two lists, of which one is changed.
use Rattle.std.proofs.Common.{◌≡◌, ◌≢◌, ℕ, ◌<◌, ◌∙◌, sym, ap, refl, Bool, true, false, List, length, get_or, set, Option, Some, None, nat_eq}
use Rattle.std.specs.Prelude.{if◌then◌else◌}
use Rattle.std.specs.Option.{option_map_or}
use Rattle.std.proofs.lemmas.Bool.{eqb-true, eq-eqb, cases_lt}
use Rattle.std.proofs.lemmas.Option.{slice_get-get_or, slice_get_past}
use Rattle.std.proofs.Common.{get_or-set_same, get_or-set_other, length-set, ⊎_elim, ◌≤◌, arith}
use Rattle.std.proofs.Math.Path.{fun_ext}
use Rattle.std.proofs.lemmas.List.{set-get_or, set-set}
use Rattle.exact_numbers.specs.Rational.{ℚ}
use Rattle.exact_numbers.specs.declared.dec.Dec.{Dec}
use Rattle.certificates.specs.Parts.{least, greatest, capped, raised}
use Rattle.exact_checks.specs.Lists.{side_listed, bounds_in}
use Rattle.exact_checks.specs.Terms.{side_value}
use Rattle.exact_checks.proofs.Rows.{side_at_index}

side_set_same : (xs : List (Option Dec)) (j : ℕ) (o : Option Dec) → j < length xs → side_listed (set xs j o) j ≡ side_value o
side_set_same xs j o l =
    let within : j < length (set xs j o) = omega (arith, length-set xs j o) in
    side_at_index (set xs j o) j o (slice_get-get_or (set xs j o) j o within ∙ ap Some (get_or-set_same xs j o o l))

side_set_other : (xs : List (Option Dec)) (j k : ℕ) (o : Option Dec) → k ≢ j → side_listed (set xs j o) k ≡ side_listed xs k
unfolding side_listed
side_set_other xs j k o apart =
    ap (λ v. option_map_or side_value v None)
    (⊎_elim
    (λ (l : k < length xs).
    let within : k < length (set xs j o) = omega (arith, length-set xs j o) in
    slice_get-get_or (set xs j o) k o within ∙ ap Some (get_or-set_other xs j k o o apart) ∙ sym (slice_get-get_or xs k o l))
    (λ (g : length xs ≤ k).
    let past : length (set xs j o) ≤ k = omega (arith, length-set xs j o) in
    slice_get_past (set xs j o) k past ∙ sym (slice_get_past xs k g))
    (cases_lt k (length xs)))

module _ (lo hi : List (Option Dec)) (j : ℕ) (t : ℚ) (o v : Option Dec) where
  pub capped_lists : j < length hi → o ≡ get_or hi j o → side_value v ≡ least (side_value o) t → bounds_in lo (set hi j v) ≡ capped (bounds_in lo hi) j t
  unfolding capped
  capped_lists l is e = fun_ext (λ k. by k (nat_eq k j) refl)
    where
      old : side_listed hi j ≡ side_value o
      old = side_at_index hi j o (slice_get-get_or hi j o l ∙ ap Some (sym is))

      at_j : side_listed (set hi j v) j ≡ least (side_listed hi j) t
      at_j = side_set_same hi j v l ∙ e ∙ ap (λ s. least s t) (sym old)

      by : (k : ℕ) (b : Bool) → nat_eq k j ≡ b → bounds_in lo (set hi j v) k ≡ (if b then record { lower = side_listed lo k; upper = least (side_listed hi k) t } else bounds_in lo hi k)
      by k true h =
          let same : k ≡ j = eqb-true k j h in
          ap (λ s. record { lower = side_listed lo k; upper = s }) (ap (side_listed (set hi j v)) same ∙ at_j ∙ ap (λ i. least (side_listed hi i) t) (sym same))
      by k false h = ap (λ s. record { lower = side_listed lo k; upper = s }) (side_set_other hi j k v (λ s. absurd (let e : nat_eq k j ≡ true = eq-eqb k j s in cc)))

  pub raised_lists : j < length lo → o ≡ get_or lo j o → side_value v ≡ greatest (side_value o) t → bounds_in (set lo j v) hi ≡ raised (bounds_in lo hi) j t
  unfolding raised
  raised_lists l is e = fun_ext (λ k. by k (nat_eq k j) refl)
    where
      old : side_listed lo j ≡ side_value o
      old = side_at_index lo j o (slice_get-get_or lo j o l ∙ ap Some (sym is))

      at_j : side_listed (set lo j v) j ≡ greatest (side_listed lo j) t
      at_j = side_set_same lo j v l ∙ e ∙ ap (λ s. greatest s t) (sym old)

      by : (k : ℕ) (b : Bool) → nat_eq k j ≡ b → bounds_in (set lo j v) hi k ≡ (if b then record { lower = greatest (side_listed lo k) t; upper = side_listed hi k } else bounds_in lo hi k)
      by k true h =
          let same : k ≡ j = eqb-true k j h in
          ap (λ s. record { lower = s; upper = side_listed hi k }) (ap (side_listed (set lo j v)) same ∙ at_j ∙ ap (λ i. greatest (side_listed lo i) t) (sym same))
      by k false h = ap (λ s. record { lower = s; upper = side_listed hi k }) (side_set_other lo j k v (λ s. absurd (let e : nat_eq k j ≡ true = eq-eqb k j s in cc)))

-- a side that is put back
pub set_back : (xs : List (Option Dec)) (j : ℕ) (o v : Option Dec) → o ≡ get_or xs j o → set (set xs j v) j o ≡ xs
set_back xs j o v is = set-set xs j v o ∙ ap (set xs j) is ∙ set-get_or xs j o
