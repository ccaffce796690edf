-- Terms that are kept as decimals, and the fractions that they are.
use Rattle.std.specs.Prelude.{◌≡◌, ◌≢◌, refl, ℕ, suc, ◌≤◌, pos, Bool, true, false, List, [], ◌∷◌, map, nat_eq, cond}
use Rattle.std.proofs.Common.{arith}
use Rattle.exact_numbers.specs.declared.dec.Dec.{Dec}
use Rattle.exact_numbers.specs.declared.frac.Frac.{Frac}
use Rattle.exact_numbers.specs.SpelledLemmas.{fitted}
use Rattle.exact_numbers.specs.Values.{dec_value}
use Rattle.exact_numbers.specs.Fits.{fits}
use Rattle.exact_numbers.specs.LowestLemmas.{one_above, one_coprime}
use Rattle.exact_numbers.specs.Rational.{ℚ, zero_ℚ}
use Rattle.linear_program.specs.Coefs.{Term}
use Rattle.exact_numbers.specs.Sums.{sum_over}

-- a variable and its coefficient as a decimal
abbrev pub DecimalTerm : Type 0
DecimalTerm = ℕ × Dec

abbrev pub zero_frac : Frac
zero_frac =
    record {
      num = pos 0;
      den = 1;
      spelled =
          record {
            size = omega arith;
            above = one_above;
            small = omega arith;
            reduced = one_coprime 0;
          };
    }

-- the fraction of a number, by the answer of the test; any other number has 0 here
abbrev pub frac_where : (x : ℚ) (fit : Bool) → fits x ≡ fit → Frac
frac_where x true h = record { num = x.top; den = x.bottom; spelled = fitted x h }
frac_where x false h = zero_frac

-- the fraction of a decimal
unfoldable pub frac_of : Dec → Frac
frac_of d = frac_where (dec_value d) (fits (dec_value d)) refl

-- terms with fractions in place of decimals
abbrev pub fraction_term : DecimalTerm → Term
fraction_term d = (d.0, frac_of d.1)

abbrev pub fraction_terms : List DecimalTerm → List Term
fraction_terms ds = map fraction_term ds

-- ascending by variable, the first being at least n, no coefficient is 0, and each has a fraction
abbrev pub AreDecimals : ℕ → List DecimalTerm → Type 0
AreDecimals n [] = Unit {0}
AreDecimals n (d ∷ ds) =
    (n ≤ d.0) × (dec_value d.1 ≢ zero_ℚ) × (fits (dec_value d.1) ≡ true)
    × AreDecimals (suc d.0) ds

-- the sum of the values that terms give to variable j
unfoldable pub coefficient_of : List DecimalTerm → ℕ → ℚ
coefficient_of ts j = sum_over (λ t. cond (nat_eq t.0 j) (dec_value t.1) zero_ℚ) ts
