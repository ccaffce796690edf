-- What a .sol text, a proof text and a certificate show of an .nl text: one outcome, and what each verdict means.
use Rattle.std.proofs.Common.{◌≡◌, ◌∙◌, inl, inr, ℕ, ◌+◌, ◌≤◌, ◌==◌, ℤ, pos, negsuc, Bool, true, false, List, length}
use Rattle.std.proofs.Common.{if◌then◌else◌, Option, Some, None, Result, Ok, Err, refl, sym, ap, ap₂, subst, arith}
use Rattle.std.proofs.Common.{is_none}
use Rattle.std.specs.Prelude.{◌&&◌, nat_lt, option_map, IfOk}
use Rattle.std.specs.Global.{Vec}
use Rattle.std.proofs.lemmas.Bool.{eqb-true, ltb-false, and_parts}
use Rattle.certificates.specs.ProblemSays.{VerdictSays}
use Rattle.certificates.specs.Verdict.{Verdict, verdict, yes, gap, refused}
use Rattle.linear_program.specs.Linear.{row_count, variable_count, Linear}
use Rattle.text_base.specs.declared.stop.Stop.{Stop}
use Rattle.exact_checks.specs.Terms.{values_of}
use Rattle.certificate_check.specs.declared.fitting.FitFault.{FitFault}
use Rattle.certificate_check.specs.declared.fitting.FitFault.TheVariants.{OtherCounts, NoPrimal, NoDual}
use Rattle.problems.specs.FileProblem.{problem_of}
use Rattle.problems.proofs.Verdicts.{file_leaf, file_verdicts}
use Rattle.nl_model.specs.FoldFaults.{fold_fault, FoldFault as FileFault}
use Rattle.nl_model.specs.LinearFile.{linear_of, linear_row}
use Rattle.linear_program.proofs.Elements.{elements_length}
use Rattle.nl_model.proofs.Files.{count_lem}
use Rattle.linear_fold.specs.FoldedFaults.{first_fold_fault, named_fault}
use Rattle.linear_program.specs.Programs.{LinearValue, linear_value}
use Rattle.linear_fold.specs.declared.fold_fault.FoldFault.{FoldFault}
use Rattle.nl_model.specs.File.{File}
use Rattle.nl_model.specs.Rules.{IsFile}
use Rattle.nl_segments.specs.Grammar.{NlValue}
use Rattle.sol_files.specs.Built.{IsEmptyOrFull}
use Rattle.sol_files.specs.Reader.{IsSol}
use Rattle.sol_files.specs.Sol.{Sol}
use Rattle.bridge_tool.specs.Check.{IsCertified, IsNotCertified, by_fit, by_fold, by_number, by_verdict, check_outcome, most_steps, objective_number, shown, unfit}
use Rattle.command_core.specs.Outcome.{Done}
use Rattle.command_parts.specs.Refusal.{IsSolRefused, IsProofRefused}
use Rattle.command_core.specs.SeveralFiles.{ByVerdict, Comes}
use Rattle.command_parts.specs.Stages.{HasFolded, fold_steps}
use Rattle.command_parts.specs.VerdictTold.{is_yes, verdict_line}
use Rattle.command_core.proofs.SeveralFiles.{IsPlain, IsLast, verdict_last}
use Rattle.command_parts.proofs.TextsRead.{proof_read, sol_read}
use Rattle.command_core.specs.declared.refused.Refusal.{Refusal}
use Rattle.certificates.specs.Branch.{LeafFault, proof_fault}
use Rattle.branch_proof.specs.declared.verdict.ProofVerdict.{ProofVerdict}
use Rattle.branch_proof.specs.declared.verdict.ProofVerdict.TheVariants.{Yes}
use Rattle.problems.specs.Files.{IsProofIn}
use Rattle.branch_proof.specs.Leaves.{IsProved, IsVerdictOn, fault_of}
use Rattle.certificates.specs.Proofs.{IsProofOf, ProofTree, ProofValue, claim_value, tree_over}
use Rattle.certificates.specs.ProofReading.{tree_in}
use Rattle.bridge_tool.proofs.ProofClaims.{claim_true as proof_true}
use Rattle.problems.proofs.ProofFiles.{proof_of}
use Rattle.certificates.proofs.ProofReading.{tree_back}
use Rattle.branch_proof.specs.Reader.{IsProofText}
use Rattle.problems.specs.NlSetting.{setting_of as certificate_setting}
use Rattle.command_parts.specs.ProofTold.{leaf_line}
use Rattle.bridge_tool.specs.Prove.{IsLeftOpen, IsProvedOf, by_fold as by_proof_fold, by_leaf, claimed_objective, open_leaf, prove_outcome}

-- ---- one outcome

module _ (nl : NlValue) (s : Sol) where
  plain_check : (k : ℕ) (o : Option FoldFault) → IsPlain (by_fold nl s k o)
  plain_check k None = tt
  plain_check k (Some fault) = tt

  plain_number : (z : ℤ) → IsPlain (by_number nl s z)
  plain_number (pos k) = plain_check k (first_fold_fault nl.file k)
  plain_number (negsuc n) = tt

  plain_fit : (o : Option FitFault) → IsPlain (by_fit nl s o)
  plain_fit None = plain_number (objective_number s)
  plain_fit (Some fault) = tt

-- ---- a solution that fits

same_counts : (a b c : Bool) → (if a then (if b then Some NoPrimal else (if c then Some NoDual else None)) else Some OtherCounts) ≡ None → (a ≡ true) × (b ≡ false) × (c ≡ false)
same_counts true false false e = (refl, refl, refl)
same_counts true false true e = absurd cc
same_counts true true c e = absurd cc
same_counts false b c e = absurd cc

full : (n given : ℕ) → IsEmptyOrFull n given → nat_lt given n ≡ false → given ≡ n
full n given (inl empty) e = let le : n ≤ given = ltb-false given n e in omega (arith, le, empty)
full n given (inr is) e = is

module _ (nl : NlValue) (s : Sol) (fits : unfit nl s ≡ None) where
  tests : (((nl.file.counts.n_con == s.n_con) && (nl.file.counts.n_var == s.n_var)) ≡ true)
      × (nat_lt (length s.primals) nl.file.counts.n_var ≡ false) × (nat_lt (length s.duals) nl.file.counts.n_con ≡ false)
  tests = same_counts _ _ _ fits

  same : (nl.file.counts.n_con ≡ s.n_con) × (nl.file.counts.n_var ≡ s.n_var)
  same = let t = and_parts _ _ tests.0 in (eqb-true _ _ t.0, eqb-true _ _ t.1)

  pub all_primals : (k : ℕ) → IsEmptyOrFull s.n_var (length s.primals) → length s.primals ≡ variable_count (linear_of nl.file k)
  all_primals k given = full nl.file.counts.n_var (length s.primals) (subst (λ (n : ℕ). IsEmptyOrFull n (length s.primals)) (sym same.1) given) tests.1 ∙ sym (count_lem nl.file k)

  rows_counted : (k : ℕ) → row_count (linear_of nl.file k) ≡ nl.file.counts.n_con
  unfolding linear_of
  rows_counted k = elements_length (linear_row nl.file) 0 nl.file.counts.n_con

  pub all_duals : (k : ℕ) → IsEmptyOrFull s.n_con (length s.duals) → length s.duals ≡ row_count (linear_of nl.file k)
  all_duals k given = full nl.file.counts.n_con (length s.duals) (subst (λ (n : ℕ). IsEmptyOrFull n (length s.duals)) (sym same.0) given) tests.2 ∙ sym (rows_counted k)

-- ---- what a verdict means

no_fault : (f : File) (o : Option FileFault) → option_map (named_fault f) o ≡ None → o ≡ None
no_fault f None e = refl
no_fault f (Some x) e = absurd cc

done_verdict : (a b : Bool) (x y : List ℕ) → Done a x ≡ Done b y → a ≡ b
done_verdict a b x y e = cc

module _ (nl : NlValue) (s : Sol) (file : IsFile nl.file) where
  abbrev Says : Bool → Type 0
  Says held = ByVerdict held (IsCertified nl s) (IsNotCertified nl s)

  module _ (k : ℕ) (fits : unfit nl s ≡ None) (number : objective_number s ≡ pos k) (folds : first_fold_fault nl.file k ≡ None) where
    line_of : (v : Verdict) → shown nl s k ≡ v → check_outcome nl s ≡ by_verdict v
    line_of v is = ap (by_fit nl s) fits ∙ ap (by_number nl s) number ∙ ap (by_fold nl s k) folds ∙ ap by_verdict is

    told_says : (v : Verdict) → shown nl s k ≡ v → VerdictSays (problem_of nl.file k) (values_of s.primals) v
    told_says v is = subst (VerdictSays (problem_of nl.file k) (values_of s.primals)) is
        (file_verdicts nl.file k file (no_fault nl.file (fold_fault nl.file k) folds) (values_of s.primals)
        (values_of s.duals))

    by_told : (v : Verdict) → shown nl s k ≡ v → Says (is_yes v)
    by_told (yes x) is = record { number = k; value = x; objective = number; line = line_of (yes x) is; best = told_says (yes x) is }
    by_told (gap x b) is = record { number = k; told = gap x b; objective = number; line = line_of (gap x b) is; says = told_says (gap x b) is }
    by_told (refused cause) is = record { number = k; told = refused cause; objective = number; line = line_of (refused cause) is; says = told_says (refused cause) is }

  module _ (held : Bool) (bytes : List ℕ) where
    by_folding : (k : ℕ) (o : Option FoldFault) → unfit nl s ≡ None → objective_number s ≡ pos k → first_fold_fault nl.file k ≡ o → by_fold nl s k o ≡ Done held bytes → Says held
    by_folding k None fits number folds e = subst Says (done_verdict (is_yes (shown nl s k)) held (verdict_line (shown nl s k)) bytes e) (by_told k fits number folds (shown nl s k) refl)
    by_folding k (Some fault) fits number folds e = absurd cc

    by_objective : (z : ℤ) → unfit nl s ≡ None → objective_number s ≡ z → by_number nl s z ≡ Done held bytes → Says held
    by_objective (pos k) fits number e = by_folding k (first_fold_fault nl.file k) fits number refl e
    by_objective (negsuc n) fits number e = absurd cc

    by_fitting : (o : Option FitFault) → unfit nl s ≡ o → by_fit nl s o ≡ Done held bytes → Says held
    by_fitting None fits e = by_objective (objective_number s) fits refl e
    by_fitting (Some fault) fits e = absurd cc

    pub verdict_says : check_outcome nl s ≡ Done held bytes → Says held
    verdict_says e = by_fitting (unfit nl s) refl e

-- ---- what the code answers

module _ (nl : NlValue) (s : Sol) where
  -- a verdict means what it should
  pub meant_so : (r : Result (Bool × Vec ℕ) (Stop Refusal)) → IsFile nl.file → Comes (λ outcome. outcome ≡ check_outcome nl s) r → IfOk r (λ t. ByVerdict t.0 (IsCertified nl s) (IsNotCertified nl s))
  meant_so (Ok t) file h = verdict_says nl s file t.0 t.1.items (sym h)
  meant_so (Err stop) file h = tt

-- ---- the command

pub check_last : (nl : NlValue) → IsLast true IsSol (IsSolRefused 2) (λ s outcome. outcome ≡ check_outcome nl s) (λ s old new. new ≤ old + most_steps nl s)
check_last nl = verdict_last (sol_read 2) (check_outcome nl) (most_steps nl) (λ s. plain_fit nl s (unfit nl s))

-- ---- one outcome

module _ (nl : NlValue) (p : ProofValue) where
  plain_proof : (o : Option FoldFault) → IsPlain (by_proof_fold nl p o)
  plain_proof None = tt
  plain_proof (Some fault) = tt

pub prove_last : (nl : NlValue) → IsLast true (IsProofText (certificate_setting nl.file))
    (IsProofRefused (certificate_setting nl.file) 2) (λ p outcome. outcome ≡ prove_outcome nl p)
    (λ p old new. new ≤ old + fold_steps nl (claimed_objective p.claim))
prove_last nl =
    verdict_last (proof_read (certificate_setting nl.file) 2) (prove_outcome nl)
    (λ p. fold_steps nl (claimed_objective p.claim)) (λ p. plain_proof nl p
    (first_fold_fault nl.file (claimed_objective p.claim)))

-- ---- what the code answers

yes_of : (v : ProofVerdict) → is_none (fault_of v) ≡ true → v ≡ Yes
yes_of Yes e = refl
yes_of other e = absurd cc

module _ (nl : NlValue) (p : ProofValue) (given : IsProofIn nl.file p) where
  abbrev claimed : ℕ
  claimed = claimed_objective p.claim

  abbrev folded : Linear
  folded = linear_of nl.file claimed

  -- the proof is one of the folded program
  pub proof_so : (l : LinearValue) → HasFolded nl claimed l → IsProofOf (linear_value l) p
  proof_so l folds = subst (λ (g : Linear). IsProofOf g p) (sym folds.linear) (proof_of nl.file claimed p given)

  tree_so : (h : IsProofOf folded p) → h.tree ≡ tree_in p
  tree_so h = sym (tree_back p h.tree h.nodes h.pairs)

  leaf_so : (l : LinearValue) (v : ProofVerdict) → HasFolded nl claimed l → IsVerdictOn (linear_value l) p v → fault_of v ≡ open_leaf nl p
  leaf_so l v folds exact =
      let h = proof_of nl.file claimed p given in
      let on : IsVerdictOn folded p v = subst (λ (g : Linear). IsVerdictOn g p v) folds.linear exact in
      on h ∙ ap (λ (tree : ProofTree). proof_fault folded (claim_value p.claim) (tree_over (row_count folded) tree)) (tree_so h)

  -- the file folds, and the verdict is told
  pub proof_done : (l : LinearValue) (v : ProofVerdict) (held : Bool) (bytes : List ℕ) → HasFolded nl claimed l
      → IsVerdictOn (linear_value l) p v → held ≡ is_none (fault_of v) → bytes ≡ leaf_line (fault_of v)
      → Done held bytes ≡ prove_outcome nl p
  proof_done l v held bytes folds exact h b =
      ap₂ Done h b ∙ ap by_leaf (leaf_so l v folds exact) ∙ sym (ap (by_proof_fold nl p) (ap (option_map (named_fault nl.file)) folds.fine))

  -- a verdict means what it should
  proved_by : (o : Option LeafFault) (v : ProofVerdict) → fault_of v ≡ o → IsFile nl.file
      → fold_fault nl.file claimed ≡ None → IsProved folded p.claim v → open_leaf nl p ≡ o
      → prove_outcome nl p ≡ by_leaf o → ByVerdict (is_none o) (IsProvedOf nl p) (IsLeftOpen nl p)
  proved_by None v none file fine proved first line = proof_true nl.file claimed file fine p.claim (subst (λ (w : ProofVerdict). IsProved folded p.claim w) (yes_of v (ap is_none none)) proved)
  proved_by (Some fault) v some file fine proved first line =
      record {
        fault = fault;
        line = line;
        denies = file_leaf nl.file claimed file fine (claim_value p.claim)
            (tree_over (row_count folded) (tree_in p)) fault first;
      }

  pub proof_says : (l : LinearValue) (v : ProofVerdict) (held : Bool) (bytes : List ℕ) → IsFile nl.file
      → HasFolded nl claimed l → IsVerdictOn (linear_value l) p v → IsProved (linear_value l) p.claim v
      → held ≡ is_none (fault_of v) → bytes ≡ leaf_line (fault_of v) → ByVerdict held (IsProvedOf nl p) (IsLeftOpen nl p)
  proof_says l v held bytes file folds exact proved h b =
      let line : prove_outcome nl p ≡ by_leaf (fault_of v) = sym (proof_done l v (is_none (fault_of v)) (leaf_line (fault_of v)) folds exact refl refl) in
      let shown : IsProved folded p.claim v = subst (λ (g : Linear). IsProved g p.claim v) folds.linear proved in
      subst (λ (t : Bool). ByVerdict t (IsProvedOf nl p) (IsLeftOpen nl p)) (sym h) (proved_by (fault_of v) v refl file folds.fine shown (sym (leaf_so l v folds exact)) line)
