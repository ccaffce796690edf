-- The terms of a plane or a lemma, pair by pair.
use Rattle.std.proofs.Common.{◌≡◌, ◌≢◌, ℕ, suc, ◌+◌, ◌<◌, ◌≤◌, ◌∙◌, sym, ap, ap₂, subst, refl, arith, List, [], ◌∷◌, ◌++◌, length, drop, get_or, Bool, true, false, ◌==◌, ⊎_elim, All, None}
use Rattle.std.specs.Prelude.{if◌then◌else◌}
use Rattle.std.proofs.Math.Path.{fun_ext}
use Rattle.std.proofs.lemmas.Bool.{cases_eq, eq-eqb, ne_eqb}
use Rattle.std.proofs.lemmas.List.{drop_all}
use Rattle.exact_numbers.specs.Rational.{ℚ, IsWhole, whole, zero_ℚ}
use Rattle.exact_numbers.proofs.RationalLaws.{whole_of}
use Rattle.certificates.specs.Parts.{factor_of, form_of as plane_form, number_factor as sum_at}
use Rattle.exact_numbers.specs.declared.frac.Frac.{Frac}
use Rattle.exact_numbers.specs.Values.{frac_value}
use Rattle.linear_program.specs.Coefs.{Term, AreAscending, AreBelow, coef_in, found, value_or_zero}
use Rattle.linear_program.proofs.Closing.{found_last, found_other}
use Rattle.linear_program.proofs.CoefLemmas.{ascending_last, below_append, below_from, found_beyond}
use Rattle.certificates.specs.Certificates.{AreNumbers, number_form, whole_form}
use Rattle.linear_program.specs.Numbers.{Pair, number_of, number_value}
use Rattle.linear_program.proofs.ListLemmas.{rest_of}
use Rattle.exact_checks.specs.Lists.{form_of}
use Rattle.exact_checks.specs.Terms.{AreTerms}
use Rattle.exact_checks.specs.declared.form.Body.{Body}
use Rattle.exact_checks.proofs.Copied.{are_terms}
use Rattle.exact_checks.proofs.Paired.{before_number, here_number, other_number}
use Rattle.certificate_judge.proofs.Written.{indices_of, number_at}

-- ---- numbers
whole_is : (x : ℚ) → IsWhole x → x ≡ whole x.top
unfolding whole
whole_is x h = let r = whole_of x h in r.1 ∙ ap whole (sym (ap (λ (y : ℚ). y.top) r.1))

AreWholes : List Pair → Type 0
AreWholes ps = All (λ (p : Pair). IsWhole (number_value p.1)) ps

-- the numbers of a sum are those of its pairs
numbers_are : (from n : ℕ) (ps : List Pair) → AreNumbers from n ps → (j : ℕ) → number_of ps j zero_ℚ ≡ sum_at (number_form ps) j
unfolding AreNumbers number_of
numbers_are from n [] h j = refl
numbers_are from n (p ∷ ps) h j =
    ⊎_elim
    (λ (e : j ≡ p.0).
    ap (λ i. number_of (p ∷ ps) i zero_ℚ) e
    ∙ here_number p ps zero_ℚ
    ∙ before_number (suc p.0) n ps p.0 (number_value p.1) (indices_of (suc p.0) n ps h.3) (omega arith)
    ∙ sym (ap (λ b. if b then number_value p.1 else sum_at (number_form ps) j) (eq-eqb j p.0 e)))
    (λ (e : j ≢ p.0).
    other_number p ps j zero_ℚ (λ x. e (sym x))
    ∙ numbers_are (suc p.0) n ps h.3 j
    ∙ sym (ap (λ b. if b then number_value p.1 else sum_at (number_form ps) j) (ne_eqb j p.0 e)))
    (cases_eq j p.0)

-- whole numbers are their own numerators
whole_by : (p : Pair) (ps : List Pair) (j : ℕ) → IsWhole (number_value p.1)
    → sum_at (number_form ps) j ≡ whole (factor_of (whole_form ps) j) → (b : Bool)
    → (if b then number_value p.1 else sum_at (number_form ps) j)
    ≡ whole (if b then (number_value p.1).top else factor_of (whole_form ps) j)
whole_by p ps j h rest true = whole_is (number_value p.1) h
whole_by p ps j h rest false = rest

wholes_are : (ps : List Pair) → AreWholes ps → (j : ℕ) → sum_at (number_form ps) j ≡ whole (factor_of (whole_form ps) j)
unfolding AreWholes
wholes_are [] w j = refl
wholes_are (p ∷ ps) w j = whole_by p ps j (w 0 p (omega arith)) (wholes_are ps (λ k d l. w (suc k) d (omega arith)) j) (j == p.0)

pub plane_sum : (ps : List Pair) → All (λ (p : Pair). IsWhole (number_value p.1)) ps → (body : Body)
    → frac_value body.constant ≡ zero_ℚ → coef_in body.terms ≡ sum_at (number_form ps)
    → form_of body ≡ plane_form (whole_form ps)
unfolding AreWholes
plane_sum ps w body constant sum =
    ap₂ (λ (a : ℚ) (g : ℕ → ℚ). record { constant = a; coefficient = g }) constant
    (sum ∙ fun_ext (λ j. wholes_are ps w j))

-- ---- the terms so far
pub record AreBuilt (ps : List Pair) (out : List Term) (k : ℕ) : Type 0 where
  from : ℕ
  left : (n : ℕ) → AreNumbers 0 n ps → AreNumbers from n (drop k ps)
  first : AreBelow from out
  pub ascending : AreAscending 0 out
  within : (n : ℕ) → AreNumbers 0 n ps → AreBelow n out
  values : (j : ℕ) → number_of (drop k ps) j (coef_in out j) ≡ sum_at (number_form ps) j

pub nothing_built : (ps : List Pair) (out : List Term) (n : ℕ) → AreNumbers 0 n ps → out ≡ [] → AreBuilt ps out 0
nothing_built ps out n h e =
    subst (λ us. AreBuilt ps us 0) (sym e)
    (record { from = 0; left = λ m fine. fine; first = tt; ascending = tt; within = λ m fine. tt; values = numbers_are 0 n ps h })

module _ (ps : List Pair) (out : List Term) (k : ℕ) (b : AreBuilt ps out k) where
  pub built_sum : length ps ≤ k → coef_in out ≡ sum_at (number_form ps)
  unfolding number_of
  built_sum l = fun_ext (λ j. sym (ap (λ qs. number_of qs j (coef_in out j)) (drop_all k ps l)) ∙ b.values j)

  pub built_terms : (n : ℕ) → AreNumbers 0 n ps → AreTerms 0 n out
  built_terms n fine = are_terms 0 n out b.ascending (b.within n fine)

  module _ (n : ℕ) (fine : AreNumbers 0 n ps) (p : Pair) (l : k < length ps) (is : p ≡ get_or ps k p) where
    left_here : (m : ℕ) → AreNumbers 0 m ps → AreNumbers b.from m (p ∷ drop (k + 1) ps)
    left_here m h = subst (AreNumbers b.from m) (rest_of ps k p l is) (b.left m h)

    past : b.from ≤ p.0
    unfolding AreNumbers
    past = (left_here n fine).0

    left_next : (m : ℕ) → AreNumbers 0 m ps → AreNumbers (suc p.0) m (drop (k + 1) ps)
    unfolding AreNumbers
    left_next m h = (left_here m h).3

    none_here : found out p.0 ≡ None
    none_here = found_beyond b.from out p.0 b.first past

    pub pair_skipped : number_value p.1 ≡ zero_ℚ → AreBuilt ps out (k + 1)
    pair_skipped z =
        record {
          from = suc p.0;
          left = left_next;
          first = below_from b.from (suc p.0) out (let h = past in omega arith) b.first;
          ascending = b.ascending;
          within = b.within;
          values = λ j.
              ⊎_elim
              (λ (e : j ≡ p.0). subst (λ i. number_of (drop (k + 1) ps) i (coef_in out i) ≡ sum_at (number_form ps) i) (sym e)
              (ap (number_of (drop (k + 1) ps) p.0) (ap value_or_zero none_here ∙ sym z)
              ∙ sym (here_number p (drop (k + 1) ps) (coef_in out p.0))
              ∙ ap (λ qs. number_of qs p.0 (coef_in out p.0)) (sym (rest_of ps k p l is)) ∙ b.values p.0))
              (λ (e : j ≢ p.0). sym (other_number p (drop (k + 1) ps) j (coef_in out j) (λ x. e (sym x))) ∙ ap (λ qs. number_of qs j (coef_in out j)) (sym (rest_of ps k p l is)) ∙ b.values j)
              (cases_eq j p.0);
        }

    pub pair_added : (f : Frac) (new : List Term) → frac_value f ≡ number_value p.1 → number_value p.1 ≢ zero_ℚ → new ≡ out ++ (p.0, f) ∷ [] → AreBuilt ps new (k + 1)
    pair_added f new value live e =
        subst (λ us. AreBuilt ps us (k + 1)) (sym e)
        (record {
          from = suc p.0;
          left = left_next;
          first = below_append (suc p.0) out ((p.0, f) ∷ []) (below_from b.from (suc p.0) out (let h = past in omega arith) b.first) (omega arith, tt);
          ascending = ascending_last out p.0 f b.ascending (below_from b.from p.0 out past b.first) (λ z. live (sym value ∙ z));
          within = λ m h. below_append m out ((p.0, f) ∷ []) (b.within m h) ((number_at 0 m ps k p h l is).0, tt);
          values = λ j.
              ⊎_elim
              (λ (a : j ≡ p.0). subst (λ i. number_of (drop (k + 1) ps) i (coef_in (out ++ (p.0, f) ∷ []) i) ≡ sum_at (number_form ps) i) (sym a)
              (ap (number_of (drop (k + 1) ps) p.0) (ap value_or_zero (found_last out (p.0, f) none_here) ∙ value)
              ∙ sym (here_number p (drop (k + 1) ps) (coef_in out p.0))
              ∙ ap (λ qs. number_of qs p.0 (coef_in out p.0)) (sym (rest_of ps k p l is)) ∙ b.values p.0))
              (λ (a : j ≢ p.0).
              ap (λ o. number_of (drop (k + 1) ps) j (value_or_zero o)) (found_other out (p.0, f) j a)
              ∙ sym (other_number p (drop (k + 1) ps) j (coef_in out j) (λ x. a (sym x))) ∙ ap (λ qs. number_of qs j (coef_in out j)) (sym (rest_of ps k p l is)) ∙ b.values j)
              (cases_eq j p.0);
        })
