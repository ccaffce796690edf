use Rattle.std.proofs.Common.{◌∙◌, arith, length}
use Rattle.mps_import.specs.InsideUses.{is_constraint_use, is_objective_use}
use Rattle.mps_import.proofs.PartLemmas.{count_step}
use Rattle.mps_program.proofs.PartLemmas.{entry_within}
use Rattle.mps_import.proofs.terms.with_entries.Goals as goal

pub use_at-what-requires : goal.use_at-what-requires
use_at-what-requires c = entry_within c.args.entries.now c.entries.entry-index c.entry-item.result (omega arith) c.entry-item.is (length c.args.uses.now) c.requires.within

pub returns-then-count-gt-MOST_TERMS : goal.returns-then-count-gt-MOST_TERMS
returns-then-count-gt-MOST_TERMS c = omega (
  arith,
  count_step c.args.entries.now c.entries.entry-index
      c.entry-item.result (omega arith) c.entry-item.is is_constraint_use c.args.uses.now c.use_at-what.result
      c.is_zero-zero.result c.entries.count.constraints c.with_entry-count.result.constraints
      (entry_within c.args.entries.now c.entries.entry-index c.entry-item.result (omega arith) c.entry-item.is
      (length c.args.uses.now) c.requires.within) c.use_at-what.ensures c.is_zero-zero.ensures
      c.with_entry-count.ensures.constraints,
  count_step c.args.entries.now c.entries.entry-index c.entry-item.result
      (omega arith) c.entry-item.is is_objective_use c.args.uses.now c.use_at-what.result c.is_zero-zero.result
      c.entries.count.objective c.with_entry-count.result.objective
      (entry_within c.args.entries.now c.entries.entry-index c.entry-item.result (omega arith) c.entry-item.is
      (length c.args.uses.now) c.requires.within) c.use_at-what.ensures c.is_zero-zero.ensures
      c.with_entry-count.ensures.objective,
  c.entries.invariant.constraints,
  c.entries.invariant.objective,
  c.if-count-gt-MOST_TERMS.true,
)

pub entries-preserved : goal.entries-preserved
entries-preserved c = record {
  constraints = count_step c.args.entries.now c.entries.entry-index c.entry-item.result
      (omega arith) c.entry-item.is is_constraint_use c.args.uses.now c.use_at-what.result c.is_zero-zero.result
      c.entries.count.constraints c.with_entry-count.result.constraints
      (entry_within c.args.entries.now c.entries.entry-index c.entry-item.result (omega arith) c.entry-item.is
      (length c.args.uses.now) c.requires.within) c.use_at-what.ensures c.is_zero-zero.ensures
      c.with_entry-count.ensures.constraints ∙ c.entries.invariant.constraints;
  objective =
      count_step c.args.entries.now c.entries.entry-index c.entry-item.result (omega arith) c.entry-item.is
      is_objective_use c.args.uses.now c.use_at-what.result c.is_zero-zero.result c.entries.count.objective
      c.with_entry-count.result.objective (entry_within c.args.entries.now c.entries.entry-index c.entry-item.result
      (omega arith) c.entry-item.is (length c.args.uses.now) c.requires.within) c.use_at-what.ensures
      c.is_zero-zero.ensures c.with_entry-count.ensures.objective ∙ c.entries.invariant.objective;
  few =
      omega (arith, c.if-count-gt-MOST_TERMS.false);
}
