-- An instance is summed up in one line, or its written text is refused with one line.
use Rattle.std.proofs.Common.{[], ◌≡◌, ◌∙◌, ℕ, suc, ◌+◌, ◌<◌, ◌≤◌, ◌^◌, Bool, List, ◌∷◌, map, length, get_or, drop}
use Rattle.std.proofs.Common.{Option, Some, None, cond, refl, sym, ap, ap₂, arith, inl, inr, true, false, if◌then◌else◌}
use Rattle.std.proofs.Common.{Result, Ok, Err, subst}
use Rattle.std.specs.List.{count_by, sum_by}
use Rattle.std.proofs.lemmas.List.Sums.{count_by-le-length, sum_by-cons, sum_by-drop_more, sum_by-le-sum_by}
use Rattle.exact_numbers.specs.declared.dec.Dec.{Dec}
use Rattle.exact_numbers.specs.Values.{dec_value, value_text}
use Rattle.scaled_program.specs.Program.{is_exported}
use Rattle.scaled_program.specs.ExportedProgram.{mps_of}
use Rattle.linear_program.specs.declared.form.Form.{Form}
use Rattle.linear_program.specs.Programs.{LinearValue, form_of, linear_value, rows_from}
use Rattle.linear_program.specs.Names.{row_name}
use Rattle.linear_program.specs.Intervals.{interval_of, is_sided}
use Rattle.mps_model.specs.Built.{entry_of}
use Rattle.mps_model.specs.Mps.{Column, Mps, column_with, with_values}
use Rattle.mps_model.specs.Valid.{entry_count}
use Rattle.linear_program.specs.declared.interval.Interval.{Interval}
use Rattle.exact_numbers.specs.Rational.{ℚ}
use Rattle.bridge_tool.specs.Make.{coefficient_count, exported_count, is_coefficient, of_column, IsInstanceSummedUp}
use Rattle.bridge_tool.specs.Make.{IsMade, IsSummedUp, LeavesInput, MakesAs, made_text, make_promise, summary_line}
use Rattle.bridge_tool.specs.Make.{summary_of}
use Rattle.std.specs.Global.{Vec}
use Rattle.nl_model.specs.FoldFaults.{has_objective}
use Rattle.nl_model.specs.LinearFile.{linear_of}
use Rattle.bridge_tool.specs.Instance.{instance}
use Rattle.bridge_tool.proofs.InstanceTexts.{said}
use Rattle.linear_fold.specs.FoldedFaults.{step_bound}
use Rattle.mps_model.specs.Text.{mps_text_by}
use Rattle.nl_model.specs.File.{File}
use Rattle.nl_segments.specs.Grammar.{NlValue}
use Rattle.nl_segments.specs.Reader.{IsNl}
use Rattle.row_scaling.specs.Exported.{scaled_as}
use Rattle.row_scaling.specs.Scaled.{ScaledValue}
use Rattle.text_base.specs.Desk.{Meaning, OnlyMessages}
use Rattle.text_base.specs.declared.stop.Stop.{Stop}
use Rattle.text_base.specs.declared.stop.Stop.TheVariants.{Fault as IsFault, Memory as IsMemory}
use Rattle.command_core.specs.InsideAnswer.{Ends, IsWorked, status_of}
use Rattle.bridge_tool.specs.Command.{Command, Make}
use Rattle.bridge_tool.specs.Commands.{Leaves}
use Rattle.command_core.specs.declared.refused.Refusal.{Refusal}
use Rattle.command_core.specs.Outcome.{Outcome, Refused, Done}
use Rattle.command_parts.specs.Refusal.{HasTextRefusal}
use Rattle.command_core.specs.SeveralFiles.{Comes}
use Rattle.command_parts.specs.Stages.{HasFolded, HasScaled, CannotBeExported, fold_steps}
use Rattle.command_core.specs.declared.answer.Answer.{Answer}
use Rattle.command_core.proofs.Ending.{HasComeTo, ends_status, memory_worked, refused_worked, wrote_worked}
use Rattle.command_parts.proofs.TextsRead.{nl_read, same_file}
use Rattle.command_parts.proofs.ExportStages.{exports_so, one_program, staged_so}
use Rattle.bridge_tool.proofs.Exporting.{an_export, one_text, staged_either}
use Rattle.command_core.proofs.Known.{OnlyInput-same}
use Rattle.command_core.proofs.SeveralFiles.{HasOne, IsPlain, done_so, of_yes, one_of_both, plain_known}

-- ---- coefficients

column_more : {A : Type 0} (g : A → ℕ) (cs : List A) (i total n : ℕ) (c : A) → i < length cs → c ≡ get_or cs i c → n ≡ g c
    → total + sum_by g (drop i cs) ≡ sum_by g cs → total + n + sum_by g (drop (i + 1) cs) ≡ sum_by g cs
column_more g cs i total n c lt is at so =
    let one : g c ≡ g (get_or cs i c) = ap g is in
    omega (arith, so, sum_by-drop_more g cs i c lt, at, one)

few_coefficients : (r : ℕ) (cs : List (Column Dec)) → sum_by (of_column r) cs ≤ entry_count cs
few_coefficients r cs = sum_by-le-sum_by (of_column r) (λ c. length c.entries) cs (λ c. count_by-le-length (is_coefficient r) c.entries)

sum_by-map : {A B : Type 0} (f : A → B) (g : B → ℕ) (h : A → ℕ) → ((a : A) → g (f a) ≡ h a) → (xs : List A) → sum_by g (map f xs) ≡ sum_by h xs
sum_by-map f g h same [] = refl
sum_by-map f g h same (x ∷ xs) = sum_by-cons g (f x) (map f xs) ∙ ap₂ (λ a b. a + b) (same x) (sum_by-map f g h same xs) ∙ sym (sum_by-cons h x xs)

count_by-map : {A B : Type 0} (p : B → Bool) (f : A → B) (xs : List A) → count_by p (map f xs) ≡ count_by (λ x. p (f x)) xs
count_by-map p f xs = sum_by-map f (λ y. cond (p y) 1 0) (λ x. cond (p (f x)) 1 0) (λ x. refl) xs

counted : (r n : ℕ) (c : Column Dec) (es : List (ℕ × Dec)) → map entry_of es ≡ c.entries → n ≡ count_by (λ t. is_coefficient r (entry_of t)) es → n ≡ of_column r c
counted r n c es entries is = is ∙ sym (count_by-map (is_coefficient r) entry_of es) ∙ ap (count_by (is_coefficient r)) entries

-- one column more
pub next_column : (r total n i : ℕ) (cs : List (Column Dec)) (c : Column Dec) (es : List (ℕ × Dec)) → i < length cs → c ≡ get_or cs i c → map entry_of es ≡ c.entries
    → n ≡ count_by (λ t. is_coefficient r (entry_of t)) es → total + sum_by (of_column r) (drop i cs) ≡ sum_by (of_column r) cs
    → total + n + sum_by (of_column r) (drop (i + 1) cs) ≡ sum_by (of_column r) cs
next_column r total n i cs c es lt at entries is so = column_more (of_column r) cs i total n c lt at (counted r n c es entries is) so

pub column_fits : (r total n i : ℕ) (cs : List (Column Dec)) (c : Column Dec) (es : List (ℕ × Dec)) → i < length cs → c ≡ get_or cs i c → map entry_of es ≡ c.entries
    → n ≡ count_by (λ t. is_coefficient r (entry_of t)) es → total + sum_by (of_column r) (drop i cs) ≡ sum_by (of_column r) cs → entry_count cs ≤ 2 ^ 24 → total + n < 2 ^ 64
column_fits r total n i cs c es lt at entries is so few =
    omega (arith, next_column r total n i cs c es lt at entries is so, few_coefficients r cs, few)

-- the same of other values
pub coefficients_same : (r : ℕ) (m : Mps Dec) (p : Mps ℚ) → with_values dec_value m ≡ p → coefficient_count r m ≡ coefficient_count r p
unfolding with_values
coefficients_same r m p same =
    sym (sum_by-map (column_with dec_value) (of_column r) (of_column r) (λ c. count_by-map (is_coefficient r) _ c.entries) m.columns) ∙ ap (coefficient_count r) same

-- ---- rows

rows_exported : (i : ℕ) (bodies : List Form) (sides : List Interval) → length sides ≡ length bodies → count_by is_exported (rows_from i bodies sides) ≡ count_by is_sided sides
rows_exported i [] [] same = refl
rows_exported i [] (s ∷ sides) same = absurd (omega (arith, same))
rows_exported i (b ∷ bodies) [] same = absurd (omega (arith, same))
rows_exported i (b ∷ bodies) (s ∷ sides) same =
    sum_by-cons (λ r. cond (is_exported r) 1 0) (record { name = row_name i; body = form_of b; side = interval_of s }) (rows_from (suc i) bodies sides)
    ∙ ap₂ (λ t n. cond t 1 0 + n) refl (rows_exported (suc i) bodies sides (omega (arith, same)))
    ∙ sym (sum_by-cons (λ s. cond (is_sided s) 1 0) s sides)

pub sides_count : (l : LinearValue) → length l.sides ≡ length l.bodies → exported_count (linear_value l) ≡ count_by is_sided l.sides
unfolding linear_value
sides_count l same = rows_exported 0 l.bodies l.sides same

-- ---- what a file comes to

module _ (nl : NlValue) where
  one_summary : (a b : List ℕ) → IsMade nl a → IsMade nl b → a ≡ b
  one_summary a b h k =
      let programs = one_program (linear_of nl.file 0) h.exported.program k.exported.program h.exported.exports k.exported.exports in
      let texts = one_text nl 0 h.mps k.mps h.exported k.exported in
      h.summary ∙ (λ i. summary_of nl.file (mps_of (programs i)) (texts i)) ∙ sym k.summary

  made_one : HasOne IsPlain (MakesAs nl)
  made_one = one_of_both (IsMade nl) (CannotBeExported nl 0) (staged_either nl 0 (IsMade nl) one_summary (λ bytes h. h.exported.staged) (λ s.
      let e = an_export nl 0 s in
      (summary_of nl.file (mps_of e.1.program) e.0, record { mps = e.0; exported = e.1; summary = refl })))

-- the summary of a program of decimals
pub of_program : (variables rows terms bytes : ℕ) (m : Mps Dec) (p : Mps ℚ) (text out : List ℕ)
    → with_values dec_value m ≡ p → terms ≡ coefficient_count rows m → text ≡ mps_text_by value_text p
    → bytes ≡ length text → out ≡ summary_line variables rows terms bytes → IsSummedUp variables rows p out
of_program variables rows terms bytes m p text out values counted written size line =
    line ∙ (λ i. summary_line variables rows ((counted ∙ coefficients_same rows m p values) i) ((size ∙ ap length written) i))

-- what was read, folded, scaled and summed up
pub summed_up : (nl : NlValue) (variables rows : ℕ) (l : LinearValue) (s : ScaledValue) (out : List ℕ) → HasFolded nl 0 l → HasScaled (linear_value l) s
    → variables ≡ nl.file.counts.n_var → rows ≡ exported_count (linear_value l) → IsSummedUp variables rows (mps_of (scaled_as s)) out → IsMade nl out
summed_up nl variables rows l s out folded scaled ev er is =
    let m : Mps ℚ = mps_of (scaled_as s) in
    let all : rows ≡ exported_count (linear_of nl.file 0) = er ∙ ap exported_count folded.linear in
    record {
      mps = mps_text_by value_text m;
      exported = record { program = scaled_as s; staged = staged_so nl 0 l folded s scaled; exports = exports_so nl 0 l folded s scaled; written = refl };
      summary = is ∙ (λ i. summary_line (ev i) (all i) (coefficient_count (all i) m) (length (mps_text_by value_text m)));
    }

-- ---- the instance

-- a text says one file, and the written text of an instance says the instance
instance_said : (seed size : ℕ) (nl : NlValue) → size ≤ 20000 → IsNl (made_text seed size) nl → nl.file ≡ instance seed size
instance_said seed size nl few read =
    let text = said seed size few in
    same_file (made_text seed size) nl (record { file = instance seed size; places = text.places }) read text.read

at_most : (b : Bool) (bound : ℕ) → (if b then bound else 0) ≤ bound
at_most true bound = omega arith
at_most false bound = omega arith

-- so its bound is that of the instance
pub steps_of_instance : (seed size : ℕ) (nl : NlValue) (old new : ℕ) → size ≤ 20000 → IsNl (made_text seed size) nl → new ≤ old + fold_steps nl 0 → new ≤ old + step_bound (instance seed size)
steps_of_instance seed size nl old new few read counts =
    let most = at_most (has_objective nl.file 0) (step_bound nl.file) in
    let le : new ≤ old + step_bound nl.file = omega (arith, most, counts) in
    subst (λ (f : File). new ≤ old + step_bound f) (instance_said seed size nl few read) le

instance_summed_up : (seed size : ℕ) → size ≤ 20000 → IsInstanceSummedUp seed size
instance_summed_up seed size few = record {
  said = said seed size few;
  summed = λ nl read. instance_said seed size nl few read;
}

-- ---- the command

module _ (seed size : ℕ) where
  abbrev text : List ℕ
  text = made_text seed size

  -- a text that is refused comes to its line alone
  only_refused : (line : List ℕ) → HasTextRefusal text line → (other : Outcome) → (make_promise seed size).comes other → other ≡ Refused line
  only_refused line r other (inl h) = h.1.1 ∙ ap Refused (nl_read.refused text h.0 line h.1.0 r)
  only_refused line r other (inr h) = absurd (nl_read.apart text h.0 line h.1.0 r)

  -- one that says a file comes to what that does
  only_said : (nl : NlValue) → IsNl text nl → (other : Outcome) → (make_promise seed size).comes other → other ≡ (made_one nl).outcome
  only_said nl is other (inl h) = absurd (nl_read.apart text nl h.0 is h.1.0)
  only_said nl is other (inr h) = (made_one nl).one other (subst (λ (v : NlValue). MakesAs v other) (nl_read.said text h.0 nl h.1.0 is) h.1.1)

  pub make_one : HasOne IsPlain (make_promise seed size).comes
  make_one = elim (nl_read.either text) [
    | inl said ↦
        let one = made_one said.0 in
        record { outcome = one.outcome; comes_to = inr (said.0, (said.1, one.comes_to)); is = one.is; one = only_said said.0 said.1 }
    | inr found ↦ record { outcome = Refused found.0; comes_to = inl (found.0, (found.1, refl)); is = tt; one = only_refused found.0 found.1 }
  ]

  -- the outcome of the written text
  come : (old : Meaning) (x : Outcome) → (make_promise seed size).comes x → HasComeTo (make_promise seed size) false old old x
  come old x is =
      record {
        knows = λ o h. inr (make_one.one o h ∙ sym (make_one.one x is));
        left = λ text none. absurd none;
        same = refl;
        rest = OnlyInput-same old;
      }

  holds_so : (holds : Bool) (bytes : List ℕ) → (make_promise seed size).comes (Done holds bytes) → holds ≡ true
  holds_so holds bytes (inl h) = let e = h.1.1 in absurd cc
  holds_so holds bytes (inr h) = done_so (IsMade h.0) (CannotBeExported h.0 0) holds bytes h.1.1

  pub make_worked : size ≤ 20000 → (old new : Meaning) (judged : Result (Bool × Vec ℕ) (Stop Refusal)) (answer : Answer) → Comes (make_promise seed size).comes judged → Ends judged old new answer
      → IsWorked (make_promise seed size) old new answer
  make_worked few old new (Ok t) answer comes ends =
      wrote_worked (make_promise seed size) false old old new t.0 t.1.items answer (come old (Done t.0 t.1.items) comes)
      (inl (holds_so t.0 t.1.items comes)) (of_yes t.0 (IsInstanceSummedUp seed size)
      (λ e. instance_summed_up seed size few)) ends
  make_worked few old new (Err (IsFault refusal)) answer comes ends =
      rw (ends.0, ends.1) (refused_worked (make_promise seed size) false old old refusal (come old (Refused refusal.line) comes))
  make_worked few old new (Err IsMemory) answer comes ends =
      rw (ends.0, ends.1) (memory_worked (make_promise seed size) false old old (λ o h. plain_known o (subst IsPlain (sym (make_one.one o h)) make_one.is)) refl (OnlyInput-same old))

-- ---- the input

left_so : (judged : Result (Bool × Vec ℕ) (Stop Refusal)) (old new : Meaning) (answer : Answer) → Ends judged old new answer → (new.left ≡ old.left) × (new.input_faults ≡ old.input_faults)
left_so (Ok t) old new answer (inl h) = (h.1.rest.left, h.1.rest.input_faults)
left_so (Ok t) old new answer (inr h) = (h.1.rest.left, h.1.rest.input_faults)
left_so (Err (IsFault refusal)) old new answer h = rw h.1 (refl, refl)
left_so (Err IsMemory) old new answer h = rw h.1 (refl, refl)

pub make_leaves : (old new : Meaning) (judged : Result (Bool × Vec ℕ) (Stop Refusal)) (answer : Answer) → Ends judged old new answer → LeavesInput old new (status_of answer)
make_leaves old new judged answer ends =
    let left = left_so judged old new answer ends in
    record { left = left.0; faults = left.1; known = (ends_status (λ v. v.items) judged old new answer ends).1 }

-- what is told changes nothing of it
pub leaves_told : (command : Option Command) (old mid new : Meaning) (status told : ℕ) → Leaves command old mid status → told ≡ status → OnlyMessages mid new → Leaves command old new told
leaves_told None old mid new status told h e rest = tt
leaves_told (Some (Make seed size)) old mid new status told h e rest =
    record { left = rest.left ∙ h.left; faults = rest.input_faults ∙ h.faults; known = λ four. h.known (sym e ∙ four) }
leaves_told (Some command) old mid new status told h e rest = tt
