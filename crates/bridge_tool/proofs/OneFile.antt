-- Commands of one file that write what it says, or what it is imported as; and what each comes to, by its text.
use Rattle.std.proofs.Common.{◌≡◌, inl, true, false, refl, ℕ, List, Bool, Option, Some, None, Result, Ok, Err, inr, ◌⊎◌, ◌↔◌, ◌+◌, ◌≤◌, take, sym, subst, arith}
use Rattle.std.specs.Prelude.{IfOk, option_map}
use Rattle.exact_numbers.specs.Values.{dec_value}
use Rattle.exact_numbers.specs.declared.dec.Dec.{Dec}
use Rattle.mps_model.specs.Mps.{Mps as Program}
use Rattle.mps_model.specs.Valid.{IsMps}
use Rattle.mps_reader.specs.Reader.{IsMpsText}
use Rattle.mps_reader.specs.Written.{mps_text}
use Rattle.mps_reader.proofs.RoundTrip.{written_again}
use Rattle.fixed_mps.specs.Reader.{IsFixedText}
use Rattle.bridge_tool.specs.OneFile.{IsMpsMeant, IsSolMeant, import_row, mps_row, nl_row, row_of, row_promise, row_told, sol_row}
use Rattle.bridge_tool.specs.declared.one_file.OneFile.{OneFile}
use Rattle.bridge_tool.specs.declared.one_file.OneFile.TheVariants.{Import, Mps, Nl, Sol}
use Rattle.bridge_tool.specs.declared.verify_mps.Layout.TheVariants.{Fixed, Free}
use Rattle.command_core.specs.Outcome.{Done, Outcome, Refused}
use Rattle.command_core.specs.Promise.{Promise}
use Rattle.command_core.proofs.SeveralFiles.{AreRead, same_one, IsLast, IsPlain, NoVerdict, at_rest, of_that, of_yes, one_met, only_ended, only_stopped, writes_last}
use Rattle.sol_files.specs.Reader.{IsSol}
use Rattle.sol_files.specs.Sol.{Sol as SolValue}
use Rattle.sol_files.specs.Written.{sol_text}
use Rattle.sol_files.proofs.KeptTexts.{read_keeps}
use Rattle.sol_files.proofs.RoundTrip.{is_read_back}
use Rattle.round_trips.specs.Writable.{IsText}
use Rattle.nl_segments.specs.Reader.{IsNl}
use Rattle.nl_writer.specs.Written.{nl_text}
use Rattle.command_parts.specs.Refusal.{HasTextRefusal, IsFixedRefused, IsMpsRefused, IsSolRefused}
use Rattle.command_parts.proofs.TextsRead.{fixed_read, mps_read, nl_read, sol_read}
use Rattle.std.specs.Global.{Vec}
use Rattle.mps_import.proofs.LawLemmas.{feasible_lem, objective_lem, sense_lem}
use Rattle.mps_program.specs.declared.mps_fault.MpsFault.{MpsFault}
use Rattle.mps_import.specs.Faults.{import_fault}
use Rattle.text_base.specs.declared.stop.Stop.{Stop}
use Rattle.bridge_tool.specs.Import.{MeansTheProgram, by_fault, import_outcome, CannotBeImported, IsImportedAs}
use Rattle.command_core.specs.SeveralFiles.{ByVerdict, Comes, Reached, Meets, ReadsFile, after_file, by_reached, ends, has_said, no_text, refused_with, writes}
use Rattle.command_core.specs.declared.refused.Refusal.{Refusal}
use Rattle.text_base.specs.Desk.{Meaning, Texts}
use Rattle.command_core.specs.InsideAnswer.{Ends, IsAtRest}
use Rattle.command_core.specs.declared.answer.Answer.{Answer}
use Rattle.bridge_tool.proofs.Programs.{text_read}
use Rattle.mps_import.specs.Import.{import_of}
use Rattle.bridge_tool.specs.ByText.{IsByText, IsWritingByText}
use Rattle.bridge_tool.specs.Export.{ExportsAs, IsExportMeant, IsExported, export_told}
use Rattle.command_parts.specs.ImportTold.{import_line}
use Rattle.command_parts.specs.Stages.{CannotBeExported, fold_steps}
use Rattle.command_core.specs.declared.transfer.TheConstants.{LIMIT}

-- ---- writing

-- a whole program is written as a text that is read as itself
pub mps_meant : (m : Program Dec) → IsMps dec_value m → IsMpsMeant m
mps_meant m valid = λ le. written_again m (record { valid = valid; room = le })

-- what was read keeps the rules of values, so that its written text is read as itself
pub sol_meant : (text : List ℕ) (sol : SolValue) → IsSol text sol → IsSolMeant sol
sol_meant text sol read = λ le. is_read_back sol (record { rules = read_keeps text sol read; text = le })

module _ (m : Program Dec) where
  plain : (o : Option MpsFault) → IsPlain (by_fault m o)
  plain None = tt
  plain (Some fault) = tt

  yes_by : (o : Option MpsFault) (holds : Bool) (bytes : List ℕ) → Done holds bytes ≡ by_fault m o → holds ≡ true
  yes_by None holds bytes e = cc
  yes_by (Some fault) holds bytes e = absurd cc

  clean_by : (o : Option MpsFault) (holds : Bool) (bytes : List ℕ) → Done holds bytes ≡ by_fault m o → o ≡ None
  clean_by None holds bytes e = refl
  clean_by (Some fault) holds bytes e = absurd cc

  -- what is written means what the program means
  import_meant : (holds : Bool) (bytes : List ℕ) → Done holds bytes ≡ import_outcome m → MeansTheProgram m
  import_meant holds bytes e =
      let clean = clean_by (import_fault m) holds bytes e in
      record { feasible = λ xs. feasible_lem m clean xs; objective = λ xs. objective_lem m xs; sense = sense_lem m }

pub meant_so : (m : Program Dec) (judged : Result (Bool × Vec ℕ) (Stop Refusal))
    → Comes (λ outcome. outcome ≡ import_outcome m) judged → IfOk judged
    (λ t. ByVerdict t.0 (MeansTheProgram m) (Unit {0}))
meant_so m (Ok t) h = of_yes t.0 (MeansTheProgram m) (λ e. import_meant m t.0 t.1.items h)
meant_so m (Err stop) h = tt

-- each command of one file
pub last_of : (of : OneFile) → IsLast false (row_of of).reads (row_of of).refuses (λ value outcome. outcome ≡ (row_of of).outcome value) (λ value old new. new ≡ old)
last_of Nl = writes_last nl_read (λ nl. nl_text nl.file)
last_of (Mps layout) = writes_last (text_read layout) mps_text
last_of Sol = writes_last (sol_read 1) sol_text
last_of Import = record {
  read = mps_read;
  one = λ m. same_one (import_outcome m) (plain m (import_fault m));
  idle = λ m n. refl;
  verdict = λ m holds bytes e. inl (yes_by m (import_fault m) holds bytes e);
}

-- what reading the file, and what its value comes to, show of it
module _ (of : OneFile) (file : List ℕ) {R : Type 0} (seen : R → (row_of of).Value) (old : Meaning) where
  pub stopped : (new : Meaning) (answer : Answer) → ReadsFile {R = R} seen (row_of of).reads (row_of of).refuses file
      old new (Err answer) → IsAtRest (row_promise old.texts (row_of of) file) old new answer
  stopped new answer read = at_rest (λ n. only_stopped (last_of of) (λ value bytes. (row_of of).means value) NoVerdict file seen n old new answer read)

  pub ended : (mid new : Meaning) (value : R) (judged : Result (Bool × Vec ℕ) (Stop Refusal)) (answer : Answer) → ReadsFile {R = R} seen (row_of of).reads (row_of of).refuses file old mid (Ok value)
      → Comes (λ outcome. outcome ≡ (row_of of).outcome (seen value)) judged
      → IfOk judged (λ t. ByVerdict t.0 ((row_of of).means (seen value)) (Unit {0})) → Ends judged mid new answer
      → IsAtRest (row_promise old.texts (row_of of) file) old new answer
  ended mid new value judged answer read comes means ends =
      at_rest (λ n. only_ended (last_of of) (λ value bytes. (row_of of).means value) NoVerdict file seen old mid value
      read n n new judged answer comes means ends (omega arith) refl)

done_same : (a b : List ℕ) → Done true a ≡ Done true b → a ≡ b
done_same a b e = cc

refused_same : (a b : List ℕ) → Refused a ≡ Refused b → a ≡ b
refused_same a b e = cc

-- any command of one file
module _ {V : Type 0} (reads : List ℕ → V → Type 0) (refuses : List ℕ → List ℕ → Type 0) (read : AreRead reads refuses)
    (comes : V → Outcome → Type 0) (counts : V → ℕ → ℕ → Type 0) (means : V → Type 0) (accepts denies : V → List ℕ → Type 0)
    (yes : (value : V) (bytes : List ℕ) → comes value (Done true bytes) ↔ accepts value bytes)
    (no : (value : V) (line : List ℕ) → comes value (Refused line) ↔ denies value line)
    (texts : Texts) (file text : List ℕ) (is : texts file ≡ Some text) where
  abbrev first : List ℕ
  first = take LIMIT text

  abbrev told : Promise
  told = after_file reads refuses texts file (λ value. ends texts file (comes value) (counts value) (means value))

  abbrev next : V → Promise
  next value = ends texts file (comes value) (counts value) (means value)

  abbrev Met : Reached V → Type 0
  Met = Meets reads refuses (Some first)

  -- what is met is what the first bytes are
  at_first : {P : Reached V → Type 0} → (r : Reached V) × (Meets reads refuses (option_map (take LIMIT) (texts file)) r × P r) → (r : Reached V) × (Met r × P r)
  at_first h = (h.0, (rw is at h.1.0, h.1.1))

  of_file : {P : Reached V → Type 0} (r : Reached V) → Met r → P r → (r : Reached V) × (Meets reads refuses (option_map (take LIMIT) (texts file)) r × P r)
  of_file r met p = (r, (rw is met, p))

  -- so it holds of this one
  at_this : (P : Reached V → Type 0) (r : Reached V) → Met r → (r : Reached V) × (Meets reads refuses (option_map (take LIMIT) (texts file)) r × P r) → P r
  at_this P r met h = of_that Met (one_met reads refuses read (Some first)) P r met (at_first h)

  done_at : (bytes : List ℕ) (r : Reached V) → Met r → (by_reached (texts file) next r).comes (Done true bytes) → (value : V) × (reads first value × accepts value bytes)
  done_at bytes no_text met e = absurd cc
  done_at bytes (refused_with line) met e = absurd cc
  done_at bytes (has_said value) met h = (value, (met, (yes value bytes).0 h))

  refused_at : (line : List ℕ) (r : Reached V) → Met r → (by_reached (texts file) next r).comes (Refused line) → refuses first line ⊎ ((value : V) × (reads first value × denies value line))
  refused_at line no_text met e = absurd cc
  refused_at line (refused_with other) met e = inl (subst (refuses first) (sym (refused_same line other e)) met)
  refused_at line (has_said value) met h = inr (value, (met, (no value line).0 h))

  pub by_text : IsByText reads refuses accepts denies counts means first told
  by_text = record {
    done = λ bytes. (
      λ h. let there = at_first h in done_at bytes there.0 there.1.0 there.1.1,
      λ h. of_file (has_said h.0) h.1.0 ((yes h.0 bytes).1 h.1.1),
    );
    refused = λ line. (
      λ h. let there = at_first h in refused_at line there.0 there.1.0 there.1.1,
      λ h. elim h [ inl r ↦ of_file (refused_with line) r refl | inr said ↦ of_file (has_said said.0) said.1.0 ((no said.0 line).1 said.1.1) ],
    );
    steps = λ old new h value said. at_this (λ r. (by_reached (texts file) next r).counts old new) (has_said value) said h;
    unread = λ old new h line r. at_this (λ r. (by_reached (texts file) next r).counts old new) (refused_with line) r h;
    means = λ bytes h value said. at_this (λ r. (by_reached (texts file) next r).means bytes) (has_said value) said h;
  }

-- a command that writes one text of each value
module _ {V : Type 0} (reads : List ℕ → V → Type 0) (refuses : List ℕ → List ℕ → Type 0) (read : AreRead reads refuses) (write : V → List ℕ) (means : V → Type 0)
    (texts : Texts) (file text : List ℕ) (is : texts file ≡ Some text) where
  writing_by_text : IsWritingByText reads refuses write means (take LIMIT text) (after_file reads refuses texts file (λ value. writes texts file (write value) (means value)))
  writing_by_text = by_text reads refuses read (λ value outcome. outcome ≡ Done true (write value)) (λ value old new. new ≡ old) means (λ value bytes. bytes ≡ write value) (λ value line. ⊥)
      (λ value bytes. (done_same bytes (write value), λ e. cc)) (λ value line. (λ e. absurd cc, λ e. absurd e)) texts file text is

pub export_by_text : (texts : Texts) (file text : List ℕ) (k : ℕ) → texts file ≡ Some text
    → IsByText IsNl HasTextRefusal (λ nl. IsExported nl k) (λ nl. CannotBeExported nl k)
    (λ nl old new. new ≤ old + fold_steps nl k) (λ nl. IsExportMeant nl k) (take LIMIT text)
    (export_told file k texts)
export_by_text texts file text k is = by_text IsNl HasTextRefusal nl_read (λ nl. ExportsAs nl k)
    (λ nl old new. new ≤ old + fold_steps nl k) (λ nl. IsExportMeant nl k) (λ nl. IsExported nl k)
    (λ nl. CannotBeExported nl k)
    (λ nl bytes. (λ h. h, λ h. h)) (λ nl line. (λ h. h, λ h. h)) texts file text is

module _ (texts : Texts) (file text : List ℕ) (is : texts file ≡ Some text) where
  pub nl_by_text : IsWritingByText IsNl HasTextRefusal (λ nl. nl_text nl.file) (λ nl. IsText nl.file (nl_text nl.file)) (take LIMIT text) (row_told nl_row file texts)
  nl_by_text = writing_by_text IsNl HasTextRefusal nl_read (λ nl. nl_text nl.file) (λ nl. IsText nl.file (nl_text nl.file)) texts file text is

  pub mps_by_text : IsWritingByText IsMpsText IsMpsRefused mps_text IsMpsMeant (take LIMIT text) (row_told (mps_row Free) file texts)
  mps_by_text = writing_by_text IsMpsText IsMpsRefused mps_read mps_text IsMpsMeant texts file text is

  pub fixed_by_text : IsWritingByText IsFixedText IsFixedRefused mps_text IsMpsMeant (take LIMIT text) (row_told (mps_row Fixed) file texts)
  fixed_by_text = writing_by_text IsFixedText IsFixedRefused fixed_read mps_text IsMpsMeant texts file text is

  pub sol_by_text : IsWritingByText IsSol (IsSolRefused 1) sol_text IsSolMeant (take LIMIT text) (row_told sol_row file texts)
  sol_by_text = writing_by_text IsSol (IsSolRefused 1) (sol_read 1) sol_text IsSolMeant texts file text is

-- ---- import

module _ (m : Program Dec) where
  imported_by : (o : Option MpsFault) (bytes : List ℕ) → Done true bytes ≡ by_fault m o ↔ ((o ≡ None) × (bytes ≡ nl_text (import_of m)))
  imported_by None bytes = (λ e. (refl, done_same bytes (nl_text (import_of m)) e), λ h. (let e = h.1 in cc))
  imported_by (Some fault) bytes = (λ e. absurd cc, λ h. (let e = h.0 in absurd cc))

  denied_by : (o : Option MpsFault) (line : List ℕ) → Refused line ≡ by_fault m o ↔ ((fault : MpsFault) × (o ≡ Some fault) × (line ≡ import_line fault))
  denied_by None line = (λ e. absurd cc, λ h. (let e = h.1 in absurd cc))
  denied_by (Some fault) line = (λ e. (fault, refl, refused_same line (import_line fault) e), λ h. (let e = h.1 in let told = h.2 in cc))

pub import_by_text : (texts : Texts) (file text : List ℕ) → texts file ≡ Some text
    → IsByText IsMpsText IsMpsRefused IsImportedAs CannotBeImported (λ m old new. new ≡ old) MeansTheProgram (take LIMIT text) (row_told import_row file texts)
import_by_text texts file text is = by_text IsMpsText IsMpsRefused mps_read (λ m outcome. outcome ≡ import_outcome m) (λ m old new. new ≡ old) MeansTheProgram
    IsImportedAs CannotBeImported
    (λ m bytes. imported_by m (import_fault m) bytes) (λ m line. denied_by m (import_fault m) line) texts file text is
