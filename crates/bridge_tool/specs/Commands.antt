-- What each command promises, and what words promise.
use Rattle.std.specs.Prelude.{◌≡◌, ℕ, List}
use Rattle.std.specs.declared.option.Option.{Option}
use Rattle.std.specs.declared.option.Option.TheVariants.{None, Some}
use Rattle.text_base.specs.Desk.{Texts, Meaning}
use Rattle.bridge_tool.specs.Command.{Command, Check, Export, Rewrite, command_of, Prove, Verify, Certified, Make, Return, NamedExport, NamedReturn}
use Rattle.bridge_tool.specs.Certified.{certified_promise}
use Rattle.bridge_tool.specs.Check.{check_promise}
use Rattle.bridge_tool.specs.Export.{export_promise}
use Rattle.bridge_tool.specs.Make.{LeavesInput, make_promise}
use Rattle.bridge_tool.specs.NamedExport.{named_promise}
use Rattle.bridge_tool.specs.OneFile.{row_of, row_promise}
use Rattle.command_core.specs.Outcome.{Outcome, BadWords}
use Rattle.command_core.specs.Promise.{Promise}
use Rattle.bridge_tool.specs.Prove.{prove_promise}
use Rattle.bridge_tool.specs.Return.{named_return_promise, return_promise}
use Rattle.bridge_tool.specs.Verify.{claim_row_of, verify_promise}

-- at a desk with these texts
abbrev pub promise_of : Option Texts → Command → Promise
promise_of texts (Export file objective) = export_promise texts file objective
promise_of texts (Rewrite of file) = row_promise texts (row_of of) file
promise_of texts (Check nl sol) = check_promise texts nl sol
promise_of texts (Prove nl proof) = prove_promise texts nl proof
promise_of texts (Verify of first certificate) =
    verify_promise texts (claim_row_of of) first certificate
promise_of texts (Certified nl certificate) = certified_promise texts nl certificate
promise_of texts (Return nl answer) = return_promise texts nl answer
promise_of texts (NamedExport file objective rows columns) =
    named_promise texts file objective rows columns
promise_of texts (NamedReturn nl answer rows columns) =
    named_return_promise texts nl answer rows columns
promise_of texts (Make seed size) = make_promise seed size

-- the words are in no row of the command table
abbrev pub bad_words : Promise
bad_words = record {
  comes = λ outcome. outcome ≡ BadWords;
  last = λ text. ⊥;
  counts = λ old new. new ≡ old;
  means = λ bytes. ⊥;
  denies = ⊥;
}

abbrev pub promise_by : Option Texts → Option Command → Promise
promise_by texts None = bad_words
promise_by texts (Some command) = promise_of texts command

-- what words promise at a desk with these texts
abbrev pub promise : Option Texts → List (List ℕ) → Promise
promise texts words = promise_by texts (command_of words)

-- what these words come to at a desk with these texts
abbrev pub ComesTo : Option Texts → List (List ℕ) → Outcome → Type 0
ComesTo texts words outcome = (promise texts words).comes outcome

-- a command that reads no file leaves the input as it was
abbrev pub Leaves : Option Command → Meaning → Meaning → ℕ → Type 0
Leaves None old new status = Unit {0}
Leaves (Some (Make seed size)) old new status = LeavesInput old new status
Leaves (Some command) old new status = Unit {0}
