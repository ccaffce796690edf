use Rattle.std.proofs.Common.{◌∙◌, inr}
use Rattle.nl_segments.specs.Reader.{value_of}
use Rattle.dual_return.specs.Return.{IsAnswered}
use Rattle.command_parts.specs.Stages.{CanBeExported}
use Rattle.bridge_tool.proofs.Returning.{answered, staged_by}
use Rattle.bridge_tool.proofs.returns.make.Goals as goal
use Rattle.bridge_tool.proofs.returns.make.Goals.{In_ok-scaled}

-- the answer is one for the file, whose program is scaled so
is_one : (g : _) (c : In_ok-scaled g) → IsAnswered c.counts-counts.result.now c.options_of-options.result c.in_ok-scaled.scaled c.args.given.now c.args.read.file
is_one g c =
    answered (value_of c.args.read) c.args.given.now c.objective-objective.result c.objective-objective.ensures
    c.counts-counts.result.now c.options_of-options.result c.in_ok-linear.linear c.in_ok-scaled.scaled
    (c.counts-counts.ensures.value ∙ c.header-header.ensures.counts) c.options_of-options.ensures c.requires.made c.in_ok-linear.ensures.folds c.in_ok-scaled.ensures

-- and it can be exported
can_be : (g : _) (c : In_ok-scaled g) → CanBeExported (value_of c.args.read) c.args.given.now.objective
can_be g c = staged_by (value_of c.args.read) c.args.given.now c.objective-objective.result
    c.objective-objective.ensures c.in_ok-linear.linear c.in_ok-scaled.scaled c.in_ok-linear.ensures.folds
    c.in_ok-scaled.ensures

pub solution_by_header-requires : goal.solution_by_header-requires
solution_by_header-requires g c = (c.args.read.file, is_one g (goal.at.solution_by_header-requires g c).In_ok-scaled)

pub returns-in-Ok-clause-makes : goal.returns-in-Ok-clause-makes
returns-in-Ok-clause-makes g c =
    let at = (goal.at.returns-in-Ok-clause-makes g c).In_ok-scaled in
    (can_be g at, c.in-Ok.ensures.sol c.args.read.file (is_one g at))

pub returns-in-Err-Fault-clause-makes : goal.returns-in-Err-Fault-clause-makes
returns-in-Err-Fault-clause-makes g c =
    let at = (goal.at.returns-in-Err-Fault-clause-makes g c).In_ok-scaled in
    let first = (rw c.in-Err-Fault.field-0-is at c.in-Err-Fault.ensures.fault) c.args.read.file (is_one g at) in
    inr (record { staged = can_be g at; first = record { fault = c.in-Err-Fault.fault; first = first; told = c.return_refusal.ensures } })
