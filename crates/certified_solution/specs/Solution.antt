-- The .sol value of a claim whose certificate holds: the values are those that the certificate
-- gives (codes: own profile, of AMPL's ranges).
use Rattle.std.specs.Prelude.{◌≡◌, ◌⊎◌, ℕ, length, ℤ, pos, Bool, true, false, List, [], ◌∷◌, if◌then◌else◌, MatchOption, Option, Some, None}
use Rattle.std.specs.List.{list_all}
use Rattle.exact_numbers.specs.Rational.{ℚ}
use Rattle.exact_numbers.specs.declared.dec.Dec.{Dec}
use Rattle.exact_numbers.specs.Values.{fits_dec}
use Rattle.exact_checks.specs.Terms.{values_of}
use Rattle.linear_program.specs.Numbers.{spread}
use Rattle.certificates.specs.Certificates.{CertificateTree, CertificateValue, Given, claim_objective, split, plane, lemma, duals, weights}
use Rattle.certificates.specs.Setting.{Setting, IsCertificateFor}
use Rattle.certificates.specs.declared.certificate.Claim.{Claim}
use Rattle.certificates.specs.declared.certificate.Claim.TheVariants.{Optimal, Within, Bound, Feasible, Infeasible, Unbounded}
use Rattle.sol_files.specs.Sol.{Sol}

-- ---- decimals

-- each number has a decimal
abbrev pub are_decimal : List ℚ → Bool
are_decimal xs = list_all fits_dec xs

-- the decimals of these numbers; none where a number has none
abbrev pub AreDecimalsOf : Option (List Dec) → List ℚ → Type 0
AreDecimalsOf result xs =
    MatchOption result (are_decimal xs ≡ false)
    (λ ds. (are_decimal xs ≡ true) × (values_of ds ≡ xs))

-- ---- what a certificate gives, over m constraints and n variables

-- the values of its point; none where the claim has no point
abbrev pub point_values : ℕ → Claim → Given → List ℚ
point_values n (Optimal k) g = spread n g.point
point_values n (Within k b) g = spread n g.point
point_values n (Bound k v) g = []
point_values n (Feasible k) g = spread n g.point
point_values n Infeasible g = []
point_values n (Unbounded k) g = spread n g.point

-- the duals of a tree that is one leaf of duals; none of any other
abbrev pub leaf_values : ℕ → Option CertificateTree → List ℚ
leaf_values m None = []
leaf_values m (Some (split j t below above)) = []
leaf_values m (Some (plane ps t below above)) = []
leaf_values m (Some (lemma ps t shown rest)) = []
leaf_values m (Some (duals ps)) = spread m ps
leaf_values m (Some (weights ps)) = []

-- they are written where each has a decimal
abbrev pub where_decimal : List ℚ → List ℚ
where_decimal ys = if are_decimal ys then ys else []

abbrev pub dual_values : ℕ → Option CertificateTree → List ℚ
dual_values m tree = where_decimal (leaf_values m tree)

-- ---- the .sol value

-- the solver's code: solved; a limit, with a point; infeasible; unbounded; a limit, without a point
abbrev pub code_of : Claim → ℕ
code_of (Optimal k) = 0
code_of (Within k b) = 100
code_of (Bound k v) = 450
code_of (Feasible k) = 100
code_of Infeasible = 200
code_of (Unbounded k) = 300

-- of a file with these options and counts, and with this line as its message
pub record IsSolutionOf (options : List ℤ) (m n : ℕ) (line : List ℕ) (claim : Claim) (g : Given)
    (s : Sol) : Type 0 where
  pub message : s.message ≡ line ∷ []
  pub options_are : s.options ≡ options
  pub constraints : s.n_con ≡ m
  pub duals_are : values_of s.duals ≡ dual_values m g.tree
  pub variables : s.n_var ≡ n
  pub primals : values_of s.primals ≡ point_values n claim g
  pub objno : s.objno ≡ Some (pos (claim_objective claim), pos (code_of claim))
  pub suffixes : s.suffixes ≡ []

-- a value of the point has no decimal
abbrev pub IsNotDecimal : ℕ → Claim → Given → Type 0
IsNotDecimal n claim g = are_decimal (point_values n claim g) ≡ false

-- the certificate is one over so many constraints and variables
abbrev pub IsCertificateBy : ℕ → ℕ → CertificateValue → Type 0
IsCertificateBy m n c = (s : Setting) × (s.rows ≡ m) × (length s.kinds ≡ n) × IsCertificateFor s c

-- Each claim with its parts has one .sol value, or a value of its point has no decimal.
pub record HasOneSolution (options : List ℤ) (m n : ℕ) (line : List ℕ) (claim : Claim)
    (g : Given) : Type 0 where
  pub some : ((s : Sol) × IsSolutionOf options m n line claim g s) ⊎ IsNotDecimal n claim g
  pub not_both : (s : Sol) → IsSolutionOf options m n line claim g s → IsNotDecimal n claim g → ⊥
  pub one : (s t : Sol) → IsSolutionOf options m n line claim g s
      → IsSolutionOf options m n line claim g t → s ≡ t
