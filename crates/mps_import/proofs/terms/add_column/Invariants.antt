use Rattle.std.proofs.Common.{◌≡◌, suc, map, drop}
use Rattle.mps_model.specs.Built.{entry_of}
use Rattle.mps_import.specs.InsideUses.{IsOnItsWay, entries_left}
use Rattle.mps_import.proofs.terms.add_column.Given as goal

abbrev pub invariant-entries : goal.invariant-entries
invariant-entries l = record {
  way : IsOnItsWay l.mps (entries_left l.mps l.p (map entry_of (drop l.entry-index l.entries)) (drop (suc l.p) l.order)) l.builder;
  only : l.builder ≡ record l.initial.builder { terms = l.builder.terms; slopes = l.builder.slopes };
}
