use Rattle.std.proofs.Common.{◌≡◌, ℕ, List, Ok, Err, refl}
use Rattle.text_base.specs.declared.stop.Stop.{Stop}
use Rattle.text_base.specs.declared.stop.Stop.TheVariants.{Fault, Memory}
use Rattle.text_base.specs.declared.fault.TextFault.{TextFault}
use Rattle.text_base.specs.Reading.{Reads}
use Rattle.sol_files.specs.declared.fault.Refusal.{Refusal}
use Rattle.sol_files.specs.Grammar.{sol_rules, SaysSol}
use Rattle.sol_files.specs.Reader.{Reading, IsFed, ReadsSol}
use Rattle.sol_files.specs.Told.{told_stop}
use Rattle.sol_files.specs.Sol.{Sol}
use Rattle.sol_files.specs.Written.{sol_text}
use Rattle.sol_files.proofs.RoundTrip.{answers_back}
use Rattle.sol_files.proofs.reader.SolReader.finish.Goals as goal

reads_told : (text : List ℕ) (stop : Stop (TextFault Refusal)) → Reads sol_rules SaysSol text (Err stop) → ReadsSol text (Err (told_stop stop))
reads_told text (Fault found) h = (found, h, refl)
reads_told text Memory h = tt

-- the reader, and the same as a caller sees it
reads_err : (s r : Reading) (stop : Stop (TextFault Refusal)) → s ≡ r
    → ((text : List ℕ) → IsFed s text → Reads sol_rules SaysSol text (Err stop)) → (text : List ℕ) → IsFed r text
    → ReadsSol text (Err (told_stop stop))
reads_err s r stop e h = rw (← e) (λ text fed. reads_told text stop (h text fed))

reads_ok : (s r : Reading) (sol : Sol) → s ≡ r → ((text : List ℕ) → IsFed s text → Reads sol_rules SaysSol text (Ok sol)) → (text : List ℕ) → IsFed r text → ReadsSol text (Ok sol)
reads_ok s r sol e h = rw (← e) h

pub returns-in-Err-clause-reads : goal.returns-in-Err-clause-reads
returns-in-Err-clause-reads c = rw c.told_stop.ensures (reads_err _ _ c.in-Err.stop c.self.view_is c.in-Err.ensures.reads)

pub returns-in-Err-clause-again : goal.returns-in-Err-clause-again
returns-in-Err-clause-again c = rw c.told_stop.ensures (λ sol w fed. answers_back sol (Err (told_stop c.in-Err.stop)) w
    (reads_err _ _ c.in-Err.stop c.self.view_is c.in-Err.ensures.reads (sol_text sol) fed))

pub returns-in-Ok-clause-again : goal.returns-in-Ok-clause-again
returns-in-Ok-clause-again c = λ sol w fed. answers_back sol (Ok c.in-Ok.sol) w (reads_ok _ _ c.in-Ok.sol c.self.view_is c.in-Ok.ensures.reads (sol_text sol) fed)
