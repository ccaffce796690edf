-- A written value is read back.
use Rattle.std.proofs.Common.{◌≡◌, ◌∙◌, ℕ, ◌≤◌, ◌^◌, List, [], ◌∷◌, ◌++◌, length, map, None, inl, inr, refl, sym, ap, subst, arith, append_assoc}
use Rattle.std.specs.Prelude.{codes, Result, Ok, Err, MatchResult}
use Rattle.std.specs.Fmt.{decimal, signed_decimal}
use Rattle.text_base.specs.declared.stop.Stop.{Stop}
use Rattle.text_base.specs.declared.stop.Stop.TheVariants.{Fault, Memory}
use Rattle.text_base.specs.Judged.{first_reason}
use Rattle.text_base.proofs.ReadingLemmas.{written_lines}
use Rattle.sol_files.specs.declared.fault.SolFault.{SolFault}
use Rattle.sol_files.specs.Sol.{Sol}
use Rattle.sol_files.specs.Built.{IsEmptyOrFull}
use Rattle.sol_files.specs.Standing.{Standing}
use Rattle.sol_files.specs.Progress.{Progress, seen}
use Rattle.sol_files.specs.Tests.{end_tests}
use Rattle.sol_files.specs.Reader.{IsSol, ReadsSol}
use Rattle.sol_files.specs.Written.{objno_lines, sol_lines, sol_text, KeepsRules, IsWritable}
use Rattle.exact_numbers.specs.Values.{text_of}
use Rattle.sol_files.proofs.ReadingLemmas.{one_reading}
use Rattle.sol_files.proofs.StandingLemmas.{standing-read}
use Rattle.sol_files.proofs.Reached.{reached_options, reached_end}
use Rattle.sol_files.proofs.NumbersReached.{count_reached, options_reached, con_reached, dual_count_reached, var_reached, primal_count_reached, duals_reached, primals_reached, objno_reached}
use Rattle.sol_files.proofs.SuffixesReached.{IsSaid, suffixes_reached}

given_most : (full n : ℕ) → full ≤ 2 ^ 20 → IsEmptyOrFull full n → n ≤ 2 ^ 20
given_most full n le (inl e) = omega (arith, e)
given_most full n le (inr e) = omega (arith, e, le)

lines_said : (s : Sol) → KeepsRules s → IsSaid (sol_lines s) s
unfolding sol_lines
lines_said s h =
    let d = length s.duals in
    let p = length s.primals in
    let l0 = s.message ++ [] ∷ codes "Options" ∷ [] in
    let s0 = reached_options s.message h.message h.message_room in
    let l1 = l0 ++ decimal (length s.options) ∷ [] in
    let s1 = count_reached l0 _ (length s.options) h.option_room s0 in
    let l2 = l1 ++ map signed_decimal s.options in
    let s2 = options_reached l1 _ s.options h.options h.second s1 in
    let l3 = l2 ++ decimal s.n_con ∷ [] in
    let s3 = con_reached l2 _ s.n_con h.n_con s2 in
    let l4 = l3 ++ decimal d ∷ [] in
    let s4 = dual_count_reached l3 _ d (given_most s.n_con d h.n_con h.given.duals) h.given.duals s3 in
    let l5 = l4 ++ decimal s.n_var ∷ [] in
    let s5 = var_reached l4 _ d s.n_var h.n_var s4 in
    let l6 = l5 ++ decimal p ∷ [] in
    let s6 = primal_count_reached l5 _ d p (given_most s.n_var p h.n_var h.given.primals) h.given.primals s5 in
    let l7 = l6 ++ map text_of s.duals in
    let s7 = duals_reached l6 _ d p s.duals s6 in
    let l8 = l7 ++ map text_of s.primals in
    let s8 = primals_reached l7 _ d p s.primals s7 in
    let l9 = l8 ++ objno_lines s.objno in
    let s9 = objno_reached l8 _ d p s.objno refl h.objno s8 in
    let all = suffixes_reached l9 _ d p 0 0 0 s.suffixes h.suffixes h.n_var h.n_con (omega (arith, h.suffix_room)) (omega (arith, h.table_room)) (omega (arith, h.value_room)) s9 in
    subst (λ ls. IsSaid ls s) (simp append_assoc) all

end_fine : (s : Progress) (lines : List (List ℕ)) (said : Sol) (g : IsSaid lines said) → first_reason (end_tests (seen g.last)) ≡ None
end_fine s lines said g = rw g.tail refl

-- the text of a value that can be read again says this value
pub is_read_back : (s : Sol) → IsWritable s → IsSol (sol_text s) s
unfolding sol_text
is_read_back s h =
    let said = lines_said s h.rules in
    let read = written_lines (sol_lines s) said.reached.ones h.text in
    record {
      clean = rw (read.0, read.1) (reached_end (sol_lines s) said.last said.reached (end_fine said.last (sol_lines s) s said));
      said = rw read.0 (sym (ap (λ (x : Standing). x.sol) (standing-read (sol_lines s)) ∙ ap (λ (x : Progress). x.sol) said.reached.here ∙ said.sol));
    }

-- reading it answers nothing else, but for want of memory
pub answers_back : (s : Sol) (answer : Result Sol (Stop SolFault)) → IsWritable s → ReadsSol (sol_text s) answer → MatchResult answer (λ again. again ≡ s) (λ stop. stop ≡ Memory)
answers_back s (Ok again) h r = (one_reading (sol_text s)).one_value again s r (is_read_back s h)
answers_back s (Err (Fault fault)) h r = absurd ((one_reading (sol_text s)).not_both s fault (is_read_back s h) r)
answers_back s (Err Memory) h r = refl
