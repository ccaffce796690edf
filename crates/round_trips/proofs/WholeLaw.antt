-- What is written of a file that can be written is a text that says the file.
use Rattle.std.proofs.Common.{◌≡◌, ◌∙◌, ℕ, zero, suc, true, false, List, [], ◌∷◌, length, map, refl, ap, ap₂, arith, nat_lt, Some, None, ◌≤◌, ◌++◌, sym, subst, All}
use Rattle.std.specs.Prelude.{is_some, Result, Ok, Err}
use Rattle.std.specs.List.{list_all, AllByRecursion}
use Rattle.std.proofs.lemmas.Bool.{eq-eqb, le-ltb}
use Rattle.text_base.specs.Judged.{first_reason, IsClean}
use Rattle.nl_header.specs.Head.{options_in, counts_in}
use Rattle.nl_model.specs.Draft.{those_given, file_of}
use Rattle.nl_model.specs.File.{Term, File}
use Rattle.nl_model.specs.declared.objective.Objective.{Objective}
use Rattle.nl_model.specs.Rules.{term_count}
use Rattle.nl_segments.specs.Grammar.{end_refusal, standing, counts_of, said, nl_rules}
use Rattle.nl_lines.specs.Saying.{draft_of, place_lines}
use Rattle.nl_lines.specs.Tests.{end_tests, are_column_counts}
use Rattle.round_trips.proofs.Reached.{in_body, IsReached, reached_end, body_reached}
use Rattle.round_trips.proofs.LineSections.{counts_of_columns, counts_right}
use Rattle.round_trips.proofs.BodyTaken.{BodySays, whole_draft, body_says}
use Rattle.round_trips.specs.Writable.{IsWritable, IsText}
use Rattle.std.proofs.lemmas.List.{length-map, map-append}
use Rattle.text_base.specs.Reading.{lines_of, last_of}
use Rattle.text_base.specs.WordLines.{WordLine, spaced}
use Rattle.written_texts.specs.Words.{IsWritten, IsWordLine}
use Rattle.nl_writer.specs.Written.{header_lines, body_lines, nl_lines, nl_text}
use Rattle.written_texts.proofs.WordLemmas.{are_words}
use Rattle.written_texts.proofs.LineLemmas.{lines-read, one-spaced}
use Rattle.round_trips.specs.InsideTaking.{IsTaken}
use Rattle.text_base.proofs.AllLemmas.{all_append}
use Rattle.round_trips.proofs.TakenLemmas.{taken_written}
use Rattle.text_base.specs.declared.stop.Stop.{Stop}
use Rattle.text_base.specs.declared.stop.Stop.TheVariants.{Fault, Memory}
use Rattle.text_base.proofs.JudgedLemmas.{one_outcome}
use Rattle.nl_lines.specs.declared.fault.NlFault.{NlFault}
use Rattle.nl_segments.specs.declared.nl_read.NlRead.{NlRead}
use Rattle.nl_segments.specs.Reader.{ReadsNl}
use Rattle.round_trips.specs.ReadBack.{ReadsBack}
use Rattle.round_trips.proofs.HeaderSaid.{HeaderSays, header_ready, header_says}

-- ---- nothing is missing at the end

all_some : (os : List Objective) → list_all is_some (map Some os) ≡ true
all_some [] = refl
all_some (x ∷ os) = all_some os

given_some : (os : List Objective) → those_given (map Some os) ≡ os
given_some [] = refl
given_some (x ∷ os) = ap (λ xs. x ∷ xs) (given_some os)

pub file_said : (f : File) → file_of (whole_draft f) ≡ f
file_said f = λ i. record f { objectives = given_some f.objectives i }

columns_right : (n : ℕ) (rows : List (List Term)) → are_column_counts rows 0 (counts_of_columns n rows) ≡ true
columns_right zero rows = refl
columns_right (suc m) rows = counts_right rows 0 m

not_less : (a b : ℕ) → a ≡ b → nat_lt a b ≡ false
not_less a b e = le-ltb a b (omega (arith, e))

tests_fine : (f : File) → IsWritable f → (b : BodySays f) → first_reason (end_tests f.counts (whole_draft f) b.pieces) ≡ None
unfolding end_tests
tests_fine f w b =
    rw (
      b.done,
      all_some f.objectives,
      not_less (length f.sides) f.counts.n_con w.file.side_count,
      not_less (length f.bounds) f.counts.n_var w.file.bound_count,
      eq-eqb (term_count f.terms) f.counts.nzc w.file.all_terms,
      b.columns,
      columns_right f.counts.n_var f.terms,
    ) refl

end_fine : (f : File) (header : List WordLine) → IsWritable f → HeaderSays f.options f.counts header → (b : BodySays f) → end_refusal (in_body header b.pieces) ≡ None
unfolding end_refusal
end_fine f header w h b =
    let all : first_reason (end_tests (counts_in header) (draft_of (options_in header) (counts_in header) b.pieces) b.pieces) ≡ None =
    ap₂ (λ o c. first_reason (end_tests c (draft_of o c b.pieces) b.pieces)) h.options_are h.counts_are ∙ ap (λ d. first_reason (end_tests f.counts d b.pieces)) b.said ∙ tests_fine f w b in
    rw (h.past b.pieces) all

-- ---- the text, where its header is read, its body is taken, and nothing is wrong at the end

-- no line is too long
abbrev AreShort : List WordLine → Type 0
AreShort lines = All (λ line. length (spaced line) ≤ 65536) lines

all_writable : (lines : List WordLine) → AllByRecursion IsWritten lines → AreShort lines → AllByRecursion IsWordLine lines
all_writable [] all short = tt
all_writable (line ∷ lines) all short =
    (one-spaced line (are_words line all.0.each) (short 0 line (omega arith)), all_writable lines all.1 (λ k d lt. short (suc k) d (omega (arith, lt))))

-- where the header has these words
text_says : (f : File) (header : List WordLine) → IsWritable f → HeaderSays f.options f.counts header → BodySays f → IsText f (nl_text f)
text_says f header w h b =
    let front = header_lines f.options f.counts in
    let text = nl_text f in
    let body = body_lines f in
    let both = lines-read (nl_lines f) (all_writable (nl_lines f) (all_append IsWritten front body h.written (taken_written b.taken)) w.room.lines) w.room.text in
    let taken = subst (λ o. IsTaken o (counts_in header) [] 11 body b.pieces) (sym h.options_are) (subst (λ c. IsTaken f.options c [] 11 body b.pieces) (sym h.counts_are) b.taken) in
    let whole = body_reached header [] (map spaced front) 11 body h.past (omega (arith, length-map front spaced)) taken h.reached in
    let lines : map spaced front ++ map spaced body ≡ lines_of text = sym (map-append spaced front body) ∙ sym both.0 in
    let here = subst (λ ls. IsReached ls (in_body header b.pieces)) lines whole in
    let clean = reached_end (lines_of text) (in_body header b.pieces) here (end_fine f header w h b) in
    let told : f ≡ file_of (said (standing (lines_of text))) =
    sym (ap file_of b.said ∙ file_said f) ∙ ap₂ (λ o c. file_of (draft_of o c b.pieces)) (sym h.options_are) (sym h.counts_are) ∙ ap (λ s. file_of (said s)) (sym here.here) in
    record {
      places = place_lines (counts_of (standing (lines_of text))) (standing (lines_of text)).pieces;
      read = record { clean = subst (λ l. IsClean nl_rules (lines_of text) l) (sym both.1) clean; said = record { file = told; places = refl } };
    }

-- ---- the laws

pub written_is_read : (f : File) → IsWritable f → IsText f (nl_text f)
written_is_read f w = text_says f (header_lines f.options f.counts) w (header_says f.options f.counts (header_ready f.options f.counts w.file.ruled w.limits.options)) (body_says f w)

-- a reader answers the file
pub reads_back : (f : File) → IsWritable f → (result : Result NlRead (Stop NlFault)) → ReadsNl (nl_text f) result → ReadsBack f result
reads_back f w (Ok r) h = let t = written_is_read f w in h.said.file ∙ sym t.read.said.file
reads_back f w (Err (Fault fault)) h =
    let t = written_is_read f w in
    let one = one_outcome nl_rules (lines_of (nl_text f)) (last_of (nl_text f)) in
    one.not_both t.read.clean fault.line fault.reason h.first
reads_back f w (Err Memory) h = tt
