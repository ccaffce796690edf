-- Each text has one reading, and what a reader answers is a proof for its setting.
use Rattle.std.proofs.Common.{◌≡◌, ◌∙◌, ℕ, Bool, true, false, ◌&&◌, List, Result, Ok, Err, is_some, refl, sym, subst}
use Rattle.std.specs.Prelude.{IfOk}
use Rattle.std.proofs.lemmas.Bool.{not-false}
use Rattle.text_base.specs.declared.stop.Stop.{Stop}
use Rattle.text_base.specs.Reading.{Stands, lines_of, last_of}
use Rattle.text_base.specs.declared.fault.TextFault.{TextFault}
use Rattle.text_base.specs.Judged.{IsClean}
use Rattle.text_base.proofs.FirstReasons.{none_each}
use Rattle.certificates.specs.declared.proof.Claim.{Claim}
use Rattle.certificates.specs.declared.proof.ProofNode.{ProofNode}
use Rattle.certificates.specs.Proofs.{Pair, ProofValue}
use Rattle.branch_proof.specs.declared.fault.ProofReason.{ProofReason}
use Rattle.certificates.specs.Setting.{IsProofFor, Setting}
use Rattle.certificate_text.specs.TextRows.{rows_in}
use Rattle.branch_proof.specs.Standing.{IsSaid, ProofStanding, is_whole_proof, proof_standing}
use Rattle.branch_proof.specs.Tests.{proof_end_tests}
use Rattle.branch_proof.specs.Grammar.{SaysProof, proof_rules}
use Rattle.branch_proof.specs.Reader.{IsFed, IsProofText, Reading, ReadsProof}
use Rattle.branch_proof.proofs.TextTrees.{text_is_proof}
use Rattle.certificate_text.specs.Readings.{HasOneReading}
use Rattle.certificate_text.proofs.OneReadingLemmas.{one_reading as one_reading_of}
use Rattle.text_base.proofs.ReadingLemmas.{text_ends}
use Rattle.certificate_text.proofs.TestLemmas.{some_there}

first_of_whole : (a b c : Bool) → (a && b && c) ≡ true → a ≡ true
first_of_whole true b c h = refl
first_of_whole false b c h = h

parts : Claim → List ProofNode → List Pair → ProofValue
parts c ns ps = record { claim = c; nodes = ns; pairs = ps }

same_parts : (c d : Claim) (ns ms : List ProofNode) (ps qs : List Pair) → c ≡ d → ns ≡ ms → ps ≡ qs → parts c ns ps ≡ parts d ms qs
same_parts c d ns ms ps qs e f g = cc

one_said : (st : ProofStanding) (p q : ProofValue) → IsSaid st p → IsSaid st q → p ≡ q
unfolding parts
one_said st p q h g = same_parts p.claim q.claim p.nodes q.nodes p.pairs q.pairs (let a = h.claim in let b = g.claim in cc) (h.nodes ∙ sym g.nodes) (h.pairs ∙ sym g.pairs)

clean_said : (s : Setting) (text : List ℕ) → IsClean (proof_rules s) (lines_of text) (last_of text) → (p : ProofValue) × IsProofText s text p
unfolding proof_end_tests
clean_said s text clean =
    let st = proof_standing (rows_in (lines_of text)) in
    let tests = none_each (proof_end_tests st) (text_ends (proof_rules s) text clean) in
    let claim = some_there st.claim (first_of_whole (is_some st.claim) _ _ (not-false (is_whole_proof st) tests.1.0)) in
    (record { claim = claim.0; nodes = st.nodes; pairs = st.pairs }, record { clean = clean; said = record { claim = claim.1; nodes = refl; pairs = refl } })

pub one_reading : (s : Setting) (text : List ℕ) → HasOneReading (proof_rules s) SaysProof text
one_reading s text = one_reading_of (proof_rules s) SaysProof text (clean_said s text) (one_said (proof_standing (rows_in (lines_of text))))

-- what is read for a setting
pub proof_from : (s : Setting) (text : List ℕ) (t : Setting) → t ≡ s → (result : Result ProofValue (Stop (TextFault ProofReason))) → ReadsProof t text result → IfOk result (λ p. IsProofFor s p)
proof_from s text t same (Ok p) reads = text_is_proof s text p (subst (λ (u : Setting). IsProofText u text p) same reads)
proof_from s text t same (Err stop) reads = tt

-- the same for a reader
pub proof_read : (inside held : Reading) (result : Result ProofValue (Stop (TextFault ProofReason))) → inside ≡ held
    → ((text : List ℕ) → Stands inside.stopped (proof_rules inside.read.setting)
    (λ lines. inside.read.standing ≡ proof_standing (rows_in lines)) inside.lines text
    → ReadsProof inside.read.setting text result)
    → IfOk result (λ p. (s : Setting) (text : List ℕ) → IsFed s held text → IsProofFor s p)
proof_read inside held (Ok p) same reads = λ s text fed.
    let at : IsFed s inside text = subst (λ (r : Reading). IsFed s r text) (sym same) fed in
    text_is_proof s text p (subst (λ (t : Setting). ReadsProof t text (Ok p)) at.same (reads text at.stands))
proof_read inside held (Err stop) same reads = tt
