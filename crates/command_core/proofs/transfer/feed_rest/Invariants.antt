use Rattle.std.proofs.Common.{◌-◌, ◌≡◌, ◌≤◌}
use Rattle.text_base.specs.Desk.{OnlyInput}
use Rattle.text_base.specs.Readers.{HasTaken, grammar_of}
use Rattle.command_core.specs.declared.transfer.TheConstants.{LIMIT}
use Rattle.command_core.proofs.Known.{IsFedSo}
use Rattle.command_core.proofs.transfer.feed_rest.Given as goal

abbrev pub invariant-reading : goal.invariant-reading
invariant-reading g l = record {
  within : l.taken ≤ LIMIT;
  feeds : IsFedSo (g.D.Desk.meaning l.initial.desk).left (g.D.Desk.meaning l.desk).left l.taken
      (HasTaken (g.G.Grammar.rules (g.G.Grammar.setting (grammar_of l.initial.reader))) g.G.Grammar.took l.initial.reader)
      (HasTaken (g.G.Grammar.rules (g.G.Grammar.setting (grammar_of l.reader))) g.G.Grammar.took l.reader);
  count : (g.D.Desk.meaning l.desk).input_faults ≡ (g.D.Desk.meaning l.initial.desk).input_faults;
  rest : OnlyInput (g.D.Desk.meaning l.initial.desk) (g.D.Desk.meaning l.desk);
  setting : g.G.Grammar.setting (grammar_of l.reader) ≡ g.G.Grammar.setting (grammar_of l.initial.reader);
}

abbrev pub decreases-reading : goal.decreases-reading
decreases-reading g l = LIMIT - l.taken
