-- The .sol value of a claim: there is one, all or nothing is given in it, and it can be written.
use Rattle.std.proofs.Common.{◌≡◌, ◌⊎◌, inl, inr, ◌∙◌, ℕ, ◌+◌, ◌<◌, ◌≤◌, ◌^◌, ℤ, pos, Bool, true, false, List, [], ◌∷◌, ◌++◌, length, Option, Some, None, refl, sym, ap, subst, arith}
use Rattle.std.specs.Prelude.{if◌then◌else◌}
use Rattle.std.specs.List.{AllByRecursion, list_all}
use Rattle.std.proofs.lemmas.Bool.{and_parts, both_ways, lt-ltb}
use Rattle.std.proofs.lemmas.List.{length-map}
use Rattle.exact_numbers.specs.Rational.{ℚ, zero_ℚ}
use Rattle.exact_numbers.specs.declared.dec.Dec.{Dec}
use Rattle.exact_numbers.specs.Numbers.{has_31_bits}
use Rattle.exact_numbers.specs.Values.{dec_value}
use Rattle.linear_program.proofs.Elements.{elements_length}
use Rattle.nl_model.specs.Options.{has_second_three}
use Rattle.linear_program.specs.Numbers.{Pair, number_of, spread}
use Rattle.certificates.specs.Certificates.{CertificateTree, Given, claim_objective, duals, lemma, plane, split, weights}
use Rattle.certificates.specs.declared.certificate.Claim.{Claim}
use Rattle.certificates.specs.declared.certificate.Claim.TheVariants.{Optimal, Within, Bound, Feasible, Infeasible, Unbounded}
use Rattle.sol_files.specs.Built.{AreGiven, IsEmptyOrFull, empty_sol}
use Rattle.sol_files.specs.Sol.{Sol}
use Rattle.sol_files.specs.Written.{IsSaidLine, KeepsRules}
use Rattle.exact_checks.specs.Terms.{values_of}
use Rattle.certified_solution.specs.Solution.{HasOneSolution, IsNotDecimal, IsSolutionOf, are_decimal, code_of, dual_values, leaf_values, point_values, where_decimal}
use Rattle.certified_solution.proofs.Decimals.{decimals_for, same_decimals, values_decimal}

-- ---- how many values

spread_length : (n : ℕ) (ps : List Pair) → length (spread n ps) ≡ n
unfolding spread
spread_length n ps = elements_length (λ i. number_of ps i zero_ℚ) 0 n

leaf_count : (m : ℕ) (t : Option CertificateTree) → IsEmptyOrFull m (length (leaf_values m t))
leaf_count m None = inl refl
leaf_count m (Some (split j t below above)) = inl refl
leaf_count m (Some (plane ps t below above)) = inl refl
leaf_count m (Some (lemma ps t shown rest)) = inl refl
leaf_count m (Some (duals ps)) = inr (spread_length m ps)
leaf_count m (Some (weights ps)) = inl refl

where_count : (m : ℕ) (ys : List ℚ) → IsEmptyOrFull m (length ys) → IsEmptyOrFull m (length (where_decimal ys))
where_count m ys h = by (are_decimal ys)
  where
    by : (b : Bool) → IsEmptyOrFull m (length (if b then ys else []))
    by true = h
    by false = inl refl

point_count : (n : ℕ) (claim : Claim) (g : Given) → IsEmptyOrFull n (length (point_values n claim g))
point_count n (Optimal k) g = inr (spread_length n g.point)
point_count n (Within k b) g = inr (spread_length n g.point)
point_count n (Bound k v) g = inl refl
point_count n (Feasible k) g = inr (spread_length n g.point)
point_count n Infeasible g = inl refl
point_count n (Unbounded k) g = inr (spread_length n g.point)

counted : (n : ℕ) (ds : List Dec) (xs : List ℚ) → values_of ds ≡ xs → IsEmptyOrFull n (length xs) → IsEmptyOrFull n (length ds)
counted n ds xs e h = subst (IsEmptyOrFull n) (sym (ap length e) ∙ length-map ds dec_value) h

module _ (options : List ℤ) (m n : ℕ) (line : List ℕ) (claim : Claim) (g : Given) where
  given_all : (s : Sol) → IsSolutionOf options m n line claim g s → AreGiven s
  given_all s h = record {
    duals = subst (λ k. IsEmptyOrFull k (length s.duals)) (sym h.constraints) (counted m s.duals (dual_values m g.tree) h.duals_are (where_count m (leaf_values m g.tree) (leaf_count m g.tree)));
    primals = subst (λ k. IsEmptyOrFull k (length s.primals)) (sym h.variables) (counted n s.primals (point_values n claim g) h.primals (point_count n claim g));
  }

  -- ---- how it is built
  pub built : (objective code : ℕ) (ds xs : List Dec) (s0 s1 s2 s3 s4 : Sol) → s0 ≡ empty_sol options m n
      → s1 ≡ record s0 { message = s0.message ++ line ∷ [] } → s2 ≡ record s1 { duals = s1.duals ++ ds }
      → s3 ≡ record s2 { primals = s2.primals ++ xs } → s4 ≡ record s3 { objno = Some (pos objective, pos code) }
      → objective ≡ claim_objective claim → code ≡ code_of claim → values_of ds ≡ dual_values m g.tree → values_of xs ≡ point_values n claim g → IsSolutionOf options m n line claim g s4
  built objective code ds xs s0 s1 s2 s3 s4 e0 e1 e2 e3 e4 number status rows columns =
      rw (e4, e3, e2, e1, e0, number, status) (record { message = refl; options_are = refl; constraints = refl; duals_are = rows; variables = refl; primals = columns; objno = refl; suffixes = refl })

  pub built_given : (s : Sol) → IsSolutionOf options m n line claim g s → AreGiven s
  built_given = given_all

  -- ---- there is one
  one : (s t : Sol) → IsSolutionOf options m n line claim g s → IsSolutionOf options m n line claim g t → s ≡ t
  one s t x y =
      let ds = same_decimals s.duals t.duals (x.duals_are ∙ sym y.duals_are) in
      let xs = same_decimals s.primals t.primals (x.primals ∙ sym y.primals) in
      λ i. record {
        message = (x.message ∙ sym y.message) i;
        options = (x.options_are ∙ sym y.options_are) i;
        n_con = (x.constraints ∙ sym y.constraints) i;
        duals = ds i;
        n_var = (x.variables ∙ sym y.variables) i;
        primals = xs i;
        objno = (x.objno ∙ sym y.objno) i;
        suffixes = (x.suffixes ∙ sym y.suffixes) i;
      }

  not_both : (s : Sol) → IsSolutionOf options m n line claim g s → IsNotDecimal n claim g → ⊥
  not_both s h wide = both_ways (are_decimal (point_values n claim g)) wide (ap are_decimal (sym h.primals) ∙ values_decimal s.primals)

  where_fits : (ys : List ℚ) → are_decimal (where_decimal ys) ≡ true
  where_fits ys = by (are_decimal ys) refl
    where
      by : (b : Bool) → are_decimal ys ≡ b → are_decimal (if b then ys else []) ≡ true
      by true e = e
      by false e = refl

  some : ((s : Sol) × IsSolutionOf options m n line claim g s) ⊎ IsNotDecimal n claim g
  some = by (are_decimal (point_values n claim g)) refl
    where
      by : (b : Bool) → are_decimal (point_values n claim g) ≡ b → ((s : Sol) × IsSolutionOf options m n line claim g s) ⊎ IsNotDecimal n claim g
      by false e = inr e
      by true e =
          let xs = decimals_for (point_values n claim g) e in
          let ds = decimals_for (dual_values m g.tree) (where_fits (leaf_values m g.tree)) in
          inl (
            record {
              message = line ∷ [];
              options = options;
              n_con = m;
              duals = ds.0;
              n_var = n;
              primals = xs.0;
              objno = Some (pos (claim_objective claim), pos (code_of claim));
              suffixes = [];
            },
            record { message = refl; options_are = refl; constraints = refl; duals_are = ds.1; variables = refl; primals = xs.1; objno = refl; suffixes = refl },
          )

  pub one_solution : HasOneSolution options m n line claim g
  one_solution = record { some = some; not_both = not_both; one = one }

  -- ---- it can be written
  bits : (zs : List ℤ) → list_all has_31_bits zs ≡ true → AllByRecursion (λ z. has_31_bits z ≡ true) zs
  bits [] e = tt
  bits (z ∷ zs) e = let parts = and_parts (has_31_bits z) (list_all has_31_bits zs) e in (parts.0, bits zs parts.1)

  small_code : (k : Claim) → has_31_bits (pos (code_of k)) ≡ true
  small_code (Optimal k) = refl
  small_code (Within k b) = refl
  small_code (Bound k v) = refl
  small_code (Feasible k) = refl
  small_code Infeasible = refl
  small_code (Unbounded k) = refl

  pub keeps_rules : (s : Sol) → IsSolutionOf options m n line claim g s → IsSaidLine line
      → list_all has_31_bits options ≡ true → length options ≤ 9 → has_second_three options ≡ false → m ≤ 2 ^ 20
      → n ≤ 2 ^ 20 → claim_objective claim < 2 ^ 31 → KeepsRules s
  keeps_rules s h said fit few second rows columns objective = record {
    message = rw h.message (said, tt);
    message_room = rw h.message (omega arith);
    options = rw h.options_are (bits options fit);
    option_room = rw h.options_are few;
    second = rw h.options_are second;
    n_con = rw h.constraints rows;
    n_var = rw h.variables columns;
    given = given_all s h;
    objno = rw h.objno (lt-ltb (claim_objective claim) (2 ^ 31) objective, small_code claim);
    suffixes = rw h.suffixes tt;
    suffix_room = rw h.suffixes (omega arith);
    table_room = rw h.suffixes (omega arith);
    value_room = rw h.suffixes (omega arith);
  }
