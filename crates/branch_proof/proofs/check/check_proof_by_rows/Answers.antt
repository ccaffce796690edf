use Rattle.std.proofs.Common.{◌∙◌, ap}
use Rattle.exact_numbers.specs.Values.{frac_value}
use Rattle.exact_checks.specs.Programs.{program_value}
use Rattle.certificate_judge.specs.Outcomes.{fault_found}
use Rattle.certificates.specs.Proofs.{claim_value}
use Rattle.branch_proof.proofs.Proved.{proved, same_parts, same_verdict}
use Rattle.branch_proof.proofs.check.check_proof_by_rows.Goals as goal

pub check_tree-found-requires-clause-tree : goal.check_tree-found-requires-clause-tree
check_tree-found-requires-clause-tree c =
    let t = same_parts (program_value c.args.program.now) c.requires.tree _ _ (c.in_ok-tree.ensures.tree c.requires)
    c.deref.result.now c.deref-2.result.now c.deref.ensures.value c.deref-2.ensures.value in
    (t.written, t.is_written)

pub returns-clause-exact : goal.returns-clause-exact
returns-clause-exact c = λ h.
    let t = same_parts (program_value c.args.program.now) h.tree _ _ (c.in_ok-tree.ensures.tree h) c.deref.result.now c.deref-2.result.now c.deref.ensures.value c.deref-2.ensures.value in
    same_verdict (program_value c.args.program.now) c.args.proof.now h c.deref.result.now c.deref-2.result.now t
    (frac_value c.stated_value-value.result) (fault_found c.in_ok-found.field-0) c.verdict_of-verdict.result
    c.verdict_of-verdict.ensures c.in_ok-found.ensures (c.stated_value-value.ensures ∙ ap claim_value c.claim.ensures)

pub returns-clause-proved : goal.returns-clause-proved
returns-clause-proved c = proved (program_value c.args.program.now) c.args.proof.now c.requires c.verdict_of-verdict.result (returns-clause-exact c c.requires)
