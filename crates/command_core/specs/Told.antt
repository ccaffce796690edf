-- The lines that tell a refusal.
use Rattle.std.specs.Prelude.{◌≡◌, ℕ, nat_lt, List, [], ◌++◌, codes, if◌then◌else◌}
use Rattle.std.proofs.Common.{◌∙◌, sym}
use Rattle.std.proofs.Props.{props}
use Rattle.std.proofs.lemmas.List.{append_cancel_left, append_cancel_right}
use mathlib.Core.HLevel.{is_prop→PathP}
use Rattle.std.specs.Fmt.{decimal}
use Rattle.text_base.specs.declared.fault.TextFault.{TextFault}
use Rattle.exact_numbers.specs.Rational.{ℚ}
use Rattle.exact_numbers.specs.Written.{frac_text}

-- a whole number, or the numerator, a slash and the denominator, in lowest terms
abbrev pub number_text : ℚ → List ℕ
number_text x = frac_text x.top x.bottom

-- what tells that the input is refused: a text that begins so and ends a line
abbrev pub IsRefusalLine : List ℕ → Type 0
IsRefusalLine line = (text : List ℕ) × (line ≡ codes "refused " ++ text ++ codes "\n")

-- there is one such text
pub IsRefusalLine-prop : (line : List ℕ) → IsProp (IsRefusalLine line)
IsRefusalLine-prop line h k =
    let same : h.0 ≡ k.0 = append_cancel_left (codes "refused ") h.0 k.0
    (append_cancel_right _ _ (codes "\n") (sym h.1 ∙ k.1)) in
    λ i. (
      same i,
      is_prop→PathP (λ j. line ≡ codes "refused " ++ same j ++ codes "\n")
          (λ j. hlevel props) h.1 k.1 i,
    )

-- The file of a fault, by its number among the files of the words; the first file is not named.
abbrev pub file_text : ℕ → List ℕ
file_text file = if nat_lt 1 file then codes "file " ++ decimal file ++ codes " " else []

-- how a refusal begins: the file, at what, and its number
abbrev pub refused_at : ℕ → List ℕ → ℕ → List ℕ
refused_at file what number =
    codes "refused " ++ file_text file ++ what ++ codes " " ++ decimal number ++ codes ": "

abbrev pub refusal : ℕ → List ℕ → ℕ → List ℕ → List ℕ
refusal file what number text = refused_at file what number ++ text ++ codes "\n"

-- the line of a fault of a text, which is this file of its command, by the words of its reason
abbrev pub fault_line : {R : Type 0} → (R → List ℕ) → ℕ → TextFault R → List ℕ
fault_line why file f = refusal file (codes "line") f.line (why f.reason)

-- a fault of this kind, and the line that tells it
pub record TellsFault {F : Type 0} (has : F → Type 0) (line_of : F → List ℕ)
    (line : List ℕ) : Type 0 where
  pub fault : F
  pub first : has fault
  pub told : line ≡ line_of fault
