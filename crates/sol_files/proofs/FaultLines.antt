-- A first fault of a .sol text, as it is told, stands at one of the text's lines: one that is told
-- for the line before is not found at the first.
use Rattle.std.proofs.Common.{◌≡◌, ℕ, ◌<◌, Bool, false, List, [], ◌∷◌, Some, inl, inr, refl, arith}
use Rattle.std.specs.Prelude.{if◌then◌else◌}
use Rattle.text_base.specs.Judged.{Last, Open, Bad, End, HasFaultAt, first_fault_of, first_reason, last_reason}
use Rattle.text_base.specs.Reading.{IsLineOf, last_of, lines_of}
use Rattle.text_base.proofs.JudgedLemmas.{fault_at, fault_behind, fault_line, fault_place}
use Rattle.sol_files.specs.Grammar.{sol_rules}
use Rattle.sol_files.specs.Reader.{HasSolFault}
use Rattle.sol_files.specs.Standing.{standing}
use Rattle.sol_files.specs.Tests.{is_over, line_tests, line_tests_at, reason_of}
use Rattle.sol_files.specs.Told.{told_at}
use Rattle.sol_files.specs.declared.fault.Refusal.{Refusal}
use Rattle.sol_files.specs.declared.fault.Refusal.TheVariants.{Here, Late}
use Rattle.sol_files.specs.declared.fault.SolFault.{SolFault}
use Rattle.sol_files.specs.declared.fault.SolReason.{SolReason}
use Rattle.sol_files.proofs.StandingLemmas.{no_lines}

here_late : (over : Bool) (r : SolReason) → over ≡ false → Some (if over then Late else Here r) ≡ Some Late → ⊥
here_late over r e h = let g = rw e at h in absurd cc

none_late : (last : Last) → last_reason sol_rules last [] ≡ Some Late → ⊥
none_late Open e = absurd cc
none_late (Bad fault) e = here_late (is_over (standing [])) (reason_of fault) (rw no_lines refl) e
none_late End e = let h = rw no_lines at e in absurd cc

first_late : (line : List ℕ) → first_reason (line_tests (standing []) line) ≡ Some Late → ⊥
unfolding line_tests_at
first_late line e = let h = rw no_lines at e in absurd cc

-- a late fault is not at the first line
behind_first : (lines : List (List ℕ)) (last : Last) (line : ℕ) → first_fault_of sol_rules lines last ≡ Some (line, Late) → 1 < line
behind_first [] last line e = absurd (none_late last (fault_behind sol_rules last [] line Late e).1)
behind_first (next ∷ more) last line e =
    elim (fault_at sol_rules last next more [] line Late e) [
      | inl here ↦ absurd (first_late next here.1)
      | inr later ↦ (fault_place sol_rules last more (next ∷ []) line Late later).0
    ]

told_line : (text : List ℕ) (line : ℕ) (reason : Refusal) → HasFaultAt sol_rules (lines_of text) (last_of text) line reason → IsLineOf text (told_at line reason).line
told_line text line (Here reason) f = fault_line sol_rules (lines_of text) (last_of text) line (Here reason) f
told_line text line Late f =
    let within = fault_line sol_rules (lines_of text) (last_of text) line Late f in
    let behind = behind_first (lines_of text) (last_of text) line f.first in
    (omega arith, (let most = within.1 in omega arith))

pub sol_fault_line : (text : List ℕ) (fault : SolFault) → HasSolFault text fault → IsLineOf text fault.line
sol_fault_line text fault h = rw h.2 (told_line text h.0.line h.0.reason h.1)
