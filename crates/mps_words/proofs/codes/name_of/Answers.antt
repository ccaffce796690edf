use Rattle.std.proofs.Common.{◌≡◌, ◌≤◌, ◌⊎◌, ◌∙◌, ◌++◌, List, ℕ, drop, arith, rules, sym, ap, subst, IfOk, inl, inr}
use Rattle.mps_words.specs.InsideCodes.{last_bytes, name_of}
use Rattle.mps_words.proofs.CodeLemmas.{byte_written, all_written}
use Rattle.mps_words.proofs.codes.name_of.Goals as goal
use Rattle.mps_words.proofs.codes.name_of.Goals.{then-bytes-test+else-left-gt0, else-bytes-test}

pub bytes-preserved : goal.bytes-preserved
bytes-preserved c = record {
  within = omega arith;
  size = search rules;
  same = byte_written c.bytes.bytes c.bytes.place c.bytes.left (omega arith) (omega arith) (omega arith) ∙ c.bytes.invariant.same;
}

pub returns : goal.returns
unfolding name_of
returns c =
    let done : (c.bytes.place ≡ 0) ⊎ (c.bytes.left ≤ 0) = elim c.bytes-test.branch [ then-bytes-test+else-left-gt0 w ↦ inr (omega arith) | else-bytes-test w ↦ inl (omega arith) ] in
    let all : drop c.bytes.place c.bytes.bytes ≡ last_bytes 16 c.args.code =
    sym (ap (λ (bs : List ℕ). bs ++ drop c.bytes.place c.bytes.bytes) (all_written c.bytes.place c.bytes.left done))
    ∙ c.bytes.invariant.same in
    subst (λ (bs : List ℕ). IfOk c.from_slice.result (λ n. n.items ≡ bs)) (c.split_at.ensures.back ∙ all) c.from_slice.ensures.items
