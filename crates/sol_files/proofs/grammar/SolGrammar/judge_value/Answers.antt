use Rattle.std.proofs.Common.{ap, arith}
use Rattle.text_base.specs.Words.{texts}
use Rattle.sol_files.specs.Progress.{Progress, seen}
use Rattle.sol_files.specs.Tests.{value_tests}
use Rattle.sol_files.specs.InsideJudging.{marked_value_tests}
use Rattle.sol_files.proofs.ReadyLemmas.{value_awaited}
use Rattle.sol_files.proofs.JudgingLemmas.{judged, judged_ok, judged_err}
use Rattle.sol_files.proofs.grammar.SolGrammar.judge_value.Goals as goal

pub index_limit-limit-requires : goal.index_limit-limit-requires
index_limit-limit-requires c = (value_awaited _ _ _ _ c.self.view_is c.requires c.self.invariant).marked.some

pub wants_whole-whole_only-requires : goal.wants_whole-whole_only-requires
wants_whole-whole_only-requires c = (value_awaited _ _ _ _ c.self.view_is c.requires c.self.invariant).marked.some

pub judge_pair-requires : goal.judge_pair-requires
judge_pair-requires c = omega (arith, c.index_limit-limit.ensures, (value_awaited _ _ _ _ c.self.view_is c.requires c.self.invariant).marked.room)

pub returns-clause-fine : goal.returns-clause-fine
returns-clause-fine c =
    judged_ok c.judge_pair.result (marked_value_tests c.index_limit-limit.result c.wants_whole-whole_only.result
    c.self.inside.marks c.self.inside.value_count (texts c.args.words.now))
    (value_tests (seen c.args.self.now) (texts c.args.words.now))
    (judged (seen c.args.self.now) c.self.inside.marks c.index_limit-limit.result c.wants_whole-whole_only.result
    c.self.inside.value_count (texts c.args.words.now) (value_awaited _ _ _ _ c.self.view_is c.requires
    c.self.invariant).marked c.index_limit-limit.ensures c.wants_whole-whole_only.ensures
    (ap (λ (s : Progress). s.value_count) c.self.view_is))
    c.judge_pair.ensures.fine

pub returns-clause-fault : goal.returns-clause-fault
returns-clause-fault c =
    judged_err c.judge_pair.result (marked_value_tests c.index_limit-limit.result c.wants_whole-whole_only.result
    c.self.inside.marks c.self.inside.value_count (texts c.args.words.now))
    (value_tests (seen c.args.self.now) (texts c.args.words.now))
    (judged (seen c.args.self.now) c.self.inside.marks c.index_limit-limit.result c.wants_whole-whole_only.result
    c.self.inside.value_count (texts c.args.words.now) (value_awaited _ _ _ _ c.self.view_is c.requires
    c.self.invariant).marked c.index_limit-limit.ensures c.wants_whole-whole_only.ensures
    (ap (λ (s : Progress). s.value_count) c.self.view_is))
    c.judge_pair.ensures.fault
