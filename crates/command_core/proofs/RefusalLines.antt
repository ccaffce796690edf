-- Each line that tells a refusal begins with `refused `, and ends its line.
use Rattle.std.proofs.Common.{◌≡◌, ◌∙◌, ℕ, List, true, false, ◌++◌, append_assoc, arith, ap, codes, refl, sym, subst}
use Rattle.std.specs.Fmt.{decimal}
use Rattle.command_core.specs.InsideAnswer.{status_of, told_by}
use Rattle.command_core.specs.Told.{IsRefusalLine, file_text, refused_at}
use Rattle.command_core.specs.declared.answer.Answer.{Answer}
use Rattle.command_core.specs.declared.answer.Answer.TheVariants.{Done, Refused}

-- it begins so
abbrev pub Begins : List ℕ → Type 0
Begins front = (text : List ℕ) × (front ≡ codes "refused " ++ text)

pub more : (front text : List ℕ) → Begins front → Begins (front ++ text)
more front text h = (h.0 ++ text, ap (λ (x : List ℕ). x ++ text) h.1 ∙ append_assoc (codes "refused ") h.0 text)

pub ended : (front : List ℕ) → Begins front → IsRefusalLine (front ++ codes "\n")
ended front h = (h.0, ap (λ (x : List ℕ). x ++ codes "\n") h.1)

-- a line of such a front, a text and its end
pub line_so : (front text line : List ℕ) → Begins front → line ≡ front ++ (text ++ codes "\n") → IsRefusalLine line
line_so front text line h e = subst IsRefusalLine (sym (e ∙ sym (append_assoc front text (codes "\n")))) (ended _ (more front text h))

pub at_begins : (file : ℕ) (what : List ℕ) (number : ℕ) → Begins (refused_at file what number)
at_begins file what number =
    more _ (codes ": ") (more _ (decimal number) (more _ (codes " ") (more _ what (file_text file, refl))))

-- with status 2 such a line is told
pub refusal_told : (answer : Answer) → status_of answer ≡ 2 → IsRefusalLine (told_by answer)
refusal_told (Refused refusal) e = refusal.refuses
refusal_told (Done true) e = absurd (omega (arith, e))
refusal_told (Done false) e = absurd (omega (arith, e))
refusal_told other e = absurd (omega (arith, e))
