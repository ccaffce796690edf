-- A line, as the grammar takes it: the free grammar takes what stands for it.
use Rattle.std.proofs.Common.{◌≡◌, ◌∙◌, ℕ, ◌+◌, List, [], ◌∷◌, ◌++◌, length, map, refl, sym, ap, subst, OnOk, IfErr, Some, None, true, false}
use Rattle.std.specs.Prelude.{Result, Ok, Err, take}
use Rattle.std.proofs.lemmas.List.{length-map, map-append}
use Rattle.text_base.specs.Stopped.{IfFault}
use Rattle.text_base.specs.declared.stop.Stop.{Stop}
use Rattle.text_base.specs.declared.stop.Stop.TheVariants.{Fault, Memory}
use Rattle.mps_reader.specs.declared.fault.MpsReason.{MpsReason}
use Rattle.mps_reader.specs.Tests.{Standing}
use Rattle.mps_reader.specs.Grammar.{standing, line_reason, mps_rules}
use Rattle.fixed_mps.specs.Fields.{free, is_as_it_is, cut_text}
use Rattle.fixed_mps.specs.Grammar.{fixed_rules}
use Rattle.fixed_mps.proofs.BlankEnd.{judged-blank, standing-blank}

-- the free grammar takes one line as the free form of the other
pub record StandsFor (given line : List ℕ) : Type 0 where
  same : (lines : List (List ℕ)) → standing (lines ++ given ∷ []) ≡ standing (lines ++ free line ∷ [])
  judged : (s : Standing) → line_reason s given ≡ line_reason s (free line)

stands : (given line : List ℕ) → given ≡ free line → StandsFor given line
stands given line e = record {
  same = λ lines. ap (λ (t : List ℕ). standing (lines ++ t ∷ [])) e;
  judged = λ s. ap (line_reason s) e;
}

pub same_line : (line : List ℕ) → is_as_it_is line ≡ true → StandsFor line line
unfolding free
same_line line e = stands line line (rw e refl)

cut_line : (line : List ℕ) → is_as_it_is line ≡ false → cut_text (take 61 line) ≡ free line
unfolding free
cut_line line e = rw e refl

with_space : (text line : List ℕ) → text ≡ free line → StandsFor (text ++ 32 ∷ []) line
with_space text line e =
    let it = stands text line e in
    record {
      same = λ lines. standing-blank lines text ∙ it.same lines;
      judged = λ s. judged-blank s text ∙ it.judged s;
    }

pub data_line : (line text : List ℕ) → is_as_it_is line ≡ false → text ≡ cut_text (take 61 line) ++ 32 ∷ [] → StandsFor text line
data_line line text e is = subst (λ (t : List ℕ). StandsFor t line) (sym is) (with_space (cut_text (take 61 line)) line (cut_line line e))

count : (n : ℕ) (lines : List (List ℕ)) → n ≡ length lines + 1 → n ≡ length (map free lines) + 1
count n lines e = e ∙ ap (λ (k : ℕ). k + 1) (sym (length-map lines free))

more : (lines : List (List ℕ)) (line : List ℕ) → map free lines ++ free line ∷ [] ≡ map free (lines ++ line ∷ [])
more lines line = sym (map-append free lines (line ∷ []))

pub line_taken : (held old new : Standing) (line text : List ℕ) (n : ℕ) (r : Result (Unit {0}) (Stop MpsReason)) → held ≡ old → StandsFor text line
    → OnOk r ((lines : List (List ℕ)) → n ≡ length lines + 1 → held ≡ standing lines → new ≡ standing (lines ++ text ∷ []))
    → OnOk r ((lines : List (List ℕ)) → n ≡ length lines + 1 → old ≡ standing (map free lines) → new ≡ standing (map free (lines ++ line ∷ [])))
line_taken held old new line text n (Ok u) same for h = λ lines place took. h (map free lines) (count n lines place) (same ∙ took) ∙ for.same (map free lines) ∙ ap standing (more lines line)
line_taken held old new line text n (Err stop) same for h = tt

pub line_fine : (held old : Standing) (line text : List ℕ) (n : ℕ) (r : Result (Unit {0}) (Stop MpsReason)) → held ≡ old → StandsFor text line
    → OnOk r ((lines : List (List ℕ)) → n ≡ length lines + 1 → held ≡ standing lines → mps_rules.at_line lines text ≡ None)
    → OnOk r ((lines : List (List ℕ)) → n ≡ length lines + 1 → old ≡ standing (map free lines) → fixed_rules.at_line lines line ≡ None)
line_fine held old line text n (Ok u) same for h = λ lines place took. sym (for.judged (standing (map free lines))) ∙ h (map free lines) (count n lines place) (same ∙ took)
line_fine held old line text n (Err stop) same for h = tt

pub line_fault : (held old : Standing) (line text : List ℕ) (n : ℕ) (r : Result (Unit {0}) (Stop MpsReason)) → held ≡ old → StandsFor text line
    → IfErr r (λ stop. IfFault stop (λ reason. (lines : List (List ℕ)) → n ≡ length lines + 1 → held ≡ standing lines → mps_rules.at_line lines text ≡ Some reason))
    → IfErr r (λ stop. IfFault stop (λ reason. (lines : List (List ℕ)) → n ≡ length lines + 1 → old ≡ standing (map free lines) → fixed_rules.at_line lines line ≡ Some reason))
line_fault held old line text n (Ok u) same for h = tt
line_fault held old line text n (Err (Fault reason)) same for h = λ lines place took. sym (for.judged (standing (map free lines))) ∙ h (map free lines) (count n lines place) (same ∙ took)
line_fault held old line text n (Err Memory) same for h = tt
