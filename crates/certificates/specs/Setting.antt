-- What certificates and proofs by branches are judged by, and what they are for it.
use Rattle.std.specs.Prelude.{◌≡◌, ℕ, ◌<◌, ◌≤◌, ◌^◌, List, length, get_or, IsTrue, true, All}
use Rattle.exact_numbers.specs.Fits.{fits}
use Rattle.linear_program.specs.Linear.{Linear, row_count, variable_at, variable_count}
use Rattle.linear_program.specs.Intervals.{is_whole_kind}
use Rattle.linear_program.specs.Programs.{LinearValue}
use Rattle.linear_program.specs.declared.kind.Kind.{Kind}
use Rattle.linear_program.specs.declared.kind.Kind.TheVariants.{Continuous}
use Rattle.certificates.specs.Certificates.{CertificateValue, IsCertificateOver}
use Rattle.certificates.specs.Proofs.{IsAlone, Pair, ProofTree, ProofValue, split, duals, weights, nodes_of, pairs_of, claim_value}

-- the number of rows, and the kinds of the variables
pub record Setting : Type 0 where
  pub rows : ℕ
  pub kinds : List Kind

-- variable j is there, and is binary or integer
abbrev pub IsWholeFor : Setting → ℕ → Type 0
IsWholeFor s j = (j < length s.kinds) × IsTrue (is_whole_kind (get_or s.kinds j Continuous))

-- ---- certificates

abbrev pub IsCertificateFor : Setting → CertificateValue → Type 0
IsCertificateFor s c = IsCertificateOver (IsWholeFor s) (length s.kinds) s.rows c

-- ---- proofs by branches

-- each split is on a whole variable, and each pair is of a row
unfoldable pub IsTreeFor : Setting → ProofTree → Type 0
IsTreeFor s (split j t low high) = IsWholeFor s j × IsTreeFor s low × IsTreeFor s high
IsTreeFor s (duals ps) = All (λ (p : Pair). p.0 < s.rows) ps
IsTreeFor s (weights ps) = All (λ (p : Pair). p.0 < s.rows) ps

-- the nodes and pairs are those of such a tree, and the stated value is a fraction
pub record IsProofFor (s : Setting) (p : ProofValue) : Type 0 where
  pub tree : ProofTree
  pub nodes : nodes_of tree ≡ p.nodes
  pub pairs : pairs_of tree ≡ p.pairs
  pub fine : IsTreeFor s tree
  pub alone : IsAlone p.claim tree
  pub value : fits (claim_value p.claim) ≡ true
  pub few : length p.nodes ≤ 2 ^ 16

-- ---- linear programs

-- the setting is that of a linear program
pub record IsSettingOf (f : Linear) (s : Setting) : Type 0 where
  pub rows : s.rows ≡ row_count f
  pub variables : length s.kinds ≡ variable_count f
  pub whole : (j : ℕ) → j < length s.kinds
      → is_whole_kind (get_or s.kinds j Continuous) ≡ (variable_at f j).whole

-- the setting of a linear program as data
abbrev pub program_setting : LinearValue → Setting
program_setting l = record { rows = length l.bodies; kinds = l.kinds }
