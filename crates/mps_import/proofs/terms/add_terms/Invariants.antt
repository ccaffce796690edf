use Rattle.std.proofs.Common.{◌≡◌, drop}
use Rattle.mps_import.specs.InsideUses.{IsOnItsWay, terms_left}
use Rattle.mps_import.proofs.terms.add_terms.Given as goal

abbrev pub invariant-variables : goal.invariant-variables
invariant-variables l = record {
  way : IsOnItsWay l.mps (terms_left l.mps l.p (drop l.p l.order)) l.builder;
  only : l.builder ≡ record l.initial.builder { terms = l.builder.terms; slopes = l.builder.slopes };
}
