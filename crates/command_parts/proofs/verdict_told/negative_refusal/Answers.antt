use Rattle.std.proofs.Common.{◌≡◌, ◌∙◌, ◌++◌, List, ap, append_assoc, codes, refl, sym, ℕ}
use Rattle.command_core.specs.Told.{IsRefusalLine}
use Rattle.command_core.proofs.RefusalLines.{line_so, more}
use Rattle.command_parts.proofs.verdict_told.negative_refusal.Goals as goal

-- a number between these words
between : (number tail rest line : List ℕ) → tail ≡ codes ": no such objective\n" → rest ≡ number ++ tail → line ≡ codes "refused objective " ++ rest → IsRefusalLine line
between number tail rest line e f g =
    line_so (codes "refused objective " ++ number) (codes ": no such objective") line (more _ number (codes "objective ", refl))
    (g ∙ ap (λ (x : List ℕ). codes "refused objective " ++ x) (f ∙ ap (λ (x : List ℕ). number ++ x) e) ∙ sym (append_assoc (codes "refused objective ") number (codes ": no such objective\n")))

pub invariant_of-result : goal.invariant_of-result
invariant_of-result c = record { refuses = between _ _ _ _ c.fixed-line.ensures c.put_signed.ensures.text c.put_word.ensures }
