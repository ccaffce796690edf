use Rattle.std.proofs.Common.{ℕ, ◌+◌, ◌<◌, ◌≤◌, ◌∙◌, sym, ap, ap₂, subst, List, ◌++◌, map, length, get_or, All}
use Rattle.linear_program.specs.Intervals.{no_sides, IsOrdered}
use Rattle.linear_program.specs.declared.interval.Interval.{Interval as Sides}
use Rattle.mps_import.proofs.FileLemmas.{room_for_sides, sides_ordered, room_for_bounds, bounds_ordered, order_within, bounded_is, all_given, all_counts, file_is}
use Rattle.mps_import.proofs.PartLemmas.{clean_large}
use Rattle.mps_import.proofs.build.file_of.Goals as goal

pub add_sides-requires-clause-few : goal.add_sides-requires-clause-few
add_sides-requires-clause-few c = subst (λ ss. length c.in_ok-builder.builder.sides + length ss
    ≤ c.in_ok-builder.builder.counts.n_con) (sym c.deref.ensures.value)
    (room_for_sides c.args.mps.now c.args.parts.now c.requires c.in_ok-builder.builder c.in_ok-builder.builder
    c.in_ok-builder.builder c.in_ok-builder.builder c.in_ok-builder.ensures)

pub add_sides-requires-clause-ordered : goal.add_sides-requires-clause-ordered
add_sides-requires-clause-ordered c = subst (All IsOrdered) (sym c.deref.ensures.value) (sides_ordered c.args.mps.now c.args.parts.now c.requires)

pub add_bounds-requires-clause-few : goal.add_bounds-requires-clause-few
add_bounds-requires-clause-few c = subst (λ (os : List ℕ). length c.add_sides.new.builder.bounds + length os
    ≤ c.add_sides.new.builder.counts.n_var) (sym c.deref-3.ensures.value)
    (room_for_bounds c.args.mps.now c.args.parts.now c.requires c.in_ok-builder.builder c.add_sides.new.builder
    c.add_sides.new.builder c.add_sides.new.builder c.in_ok-builder.ensures
    (c.in_ok-add_sides.ensures ∙ ap (λ ss. record c.in_ok-builder.builder
    { sides = c.in_ok-builder.builder.sides ++ ss }) c.deref.ensures.value))

pub add_bounds-requires-clause-within : goal.add_bounds-requires-clause-within
add_bounds-requires-clause-within c = subst (λ (bs : List Sides). All (λ j. j < length bs) c.deref-3.result.now)
    (sym c.deref-2.ensures.value) (subst (All (λ j. j < length c.args.parts.now.bounds.items))
    (sym c.deref-3.ensures.value) (order_within c.args.mps.now c.args.parts.now c.requires))

pub add_bounds-requires-clause-ordered : goal.add_bounds-requires-clause-ordered
add_bounds-requires-clause-ordered c = subst (All IsOrdered) (sym c.deref-2.ensures.value) (bounds_ordered c.args.mps.now c.args.parts.now c.requires)

pub add_terms-requires-clause-order : goal.add_terms-requires-clause-order
add_terms-requires-clause-order c = c.deref-4.ensures.value ∙ c.requires.order

pub add_terms-requires-clause-uses : goal.add_terms-requires-clause-uses
add_terms-requires-clause-uses c = c.deref-5.ensures.value ∙ c.requires.uses

pub add_terms-requires-clause-clean : goal.add_terms-requires-clause-clean
add_terms-requires-clause-clean c = clean_large c.args.mps.now c.requires.clean

pub add_terms-requires-clause-counts : goal.add_terms-requires-clause-counts
add_terms-requires-clause-counts c = (bounded_is c.args.mps.now c.args.parts.now c.requires c.in_ok-builder.builder
    c.add_sides.new.builder c.add_bounds.new.builder c.add_bounds.new.builder c.in_ok-builder.ensures
    (c.in_ok-add_sides.ensures ∙ ap (λ ss. record c.in_ok-builder.builder
    { sides = c.in_ok-builder.builder.sides ++ ss }) c.deref.ensures.value)
    (c.in_ok-add_bounds.ensures ∙ ap₂ (λ bs os. record c.add_sides.new.builder
    { bounds = c.add_sides.new.builder.bounds ++ map (λ j. get_or bs j no_sides) os }) c.deref-2.ensures.value
    c.deref-3.ensures.value)).0

pub add_terms-requires-clause-terms : goal.add_terms-requires-clause-terms
add_terms-requires-clause-terms c = (bounded_is c.args.mps.now c.args.parts.now c.requires c.in_ok-builder.builder
    c.add_sides.new.builder c.add_bounds.new.builder c.add_bounds.new.builder c.in_ok-builder.ensures
    (c.in_ok-add_sides.ensures ∙ ap (λ ss. record c.in_ok-builder.builder
    { sides = c.in_ok-builder.builder.sides ++ ss }) c.deref.ensures.value)
    (c.in_ok-add_bounds.ensures ∙ ap₂ (λ bs os. record c.add_sides.new.builder
    { bounds = c.add_sides.new.builder.bounds ++ map (λ j. get_or bs j no_sides) os }) c.deref-2.ensures.value
    c.deref-3.ensures.value)).1

pub add_terms-requires-clause-slopes : goal.add_terms-requires-clause-slopes
add_terms-requires-clause-slopes c = (bounded_is c.args.mps.now c.args.parts.now c.requires c.in_ok-builder.builder
    c.add_sides.new.builder c.add_bounds.new.builder c.add_bounds.new.builder c.in_ok-builder.ensures
    (c.in_ok-add_sides.ensures ∙ ap (λ ss. record c.in_ok-builder.builder
    { sides = c.in_ok-builder.builder.sides ++ ss }) c.deref.ensures.value)
    (c.in_ok-add_bounds.ensures ∙ ap₂ (λ bs os. record c.add_sides.new.builder
    { bounds = c.add_sides.new.builder.bounds ++ map (λ j. get_or bs j no_sides) os }) c.deref-2.ensures.value
    c.deref-3.ensures.value)).2

pub finish-requires-clause-objectives : goal.finish-requires-clause-objectives
finish-requires-clause-objectives c = all_given c.args.mps.now c.args.parts.now c.requires c.in_ok-builder.builder
    c.add_sides.new.builder c.add_bounds.new.builder c.add_terms.new.builder c.in_ok-builder.ensures
    (c.in_ok-add_sides.ensures ∙ ap (λ ss. record c.in_ok-builder.builder { sides = c.in_ok-builder.builder.sides ++ ss })
    c.deref.ensures.value) (c.in_ok-add_bounds.ensures ∙ ap₂
    (λ bs os. record c.add_sides.new.builder {
      bounds = c.add_sides.new.builder.bounds
          ++ map (λ j. get_or bs j no_sides) os;
    }) c.deref-2.ensures.value c.deref-3.ensures.value)
    c.in_ok-add_terms.ensures

pub finish-requires-clause-sides : goal.finish-requires-clause-sides
finish-requires-clause-sides c = (all_counts c.args.mps.now c.args.parts.now c.requires c.in_ok-builder.builder
    c.add_sides.new.builder c.add_bounds.new.builder c.add_terms.new.builder c.in_ok-builder.ensures
    (c.in_ok-add_sides.ensures ∙ ap (λ ss. record c.in_ok-builder.builder
    { sides = c.in_ok-builder.builder.sides ++ ss }) c.deref.ensures.value)
    (c.in_ok-add_bounds.ensures ∙ ap₂ (λ bs os. record c.add_sides.new.builder
    { bounds = c.add_sides.new.builder.bounds ++ map (λ j. get_or bs j no_sides) os }) c.deref-2.ensures.value
    c.deref-3.ensures.value) c.in_ok-add_terms.ensures).0

pub finish-requires-clause-bounds : goal.finish-requires-clause-bounds
finish-requires-clause-bounds c = (all_counts c.args.mps.now c.args.parts.now c.requires c.in_ok-builder.builder
    c.add_sides.new.builder c.add_bounds.new.builder c.add_terms.new.builder c.in_ok-builder.ensures
    (c.in_ok-add_sides.ensures ∙ ap (λ ss. record c.in_ok-builder.builder
    { sides = c.in_ok-builder.builder.sides ++ ss }) c.deref.ensures.value)
    (c.in_ok-add_bounds.ensures ∙ ap₂ (λ bs os. record c.add_sides.new.builder
    { bounds = c.add_sides.new.builder.bounds ++ map (λ j. get_or bs j no_sides) os }) c.deref-2.ensures.value
    c.deref-3.ensures.value) c.in_ok-add_terms.ensures).1

pub finish-requires-clause-terms : goal.finish-requires-clause-terms
finish-requires-clause-terms c = (all_counts c.args.mps.now c.args.parts.now c.requires c.in_ok-builder.builder
    c.add_sides.new.builder c.add_bounds.new.builder c.add_terms.new.builder c.in_ok-builder.ensures
    (c.in_ok-add_sides.ensures ∙ ap (λ ss. record c.in_ok-builder.builder
    { sides = c.in_ok-builder.builder.sides ++ ss }) c.deref.ensures.value)
    (c.in_ok-add_bounds.ensures ∙ ap₂ (λ bs os. record c.add_sides.new.builder
    { bounds = c.add_sides.new.builder.bounds ++ map (λ j. get_or bs j no_sides) os }) c.deref-2.ensures.value
    c.deref-3.ensures.value) c.in_ok-add_terms.ensures).2

pub returns : goal.returns
returns c = c.finish.ensures ∙ file_is c.args.mps.now c.args.parts.now c.requires c.in_ok-builder.builder
    c.add_sides.new.builder c.add_bounds.new.builder c.add_terms.new.builder c.in_ok-builder.ensures
    (c.in_ok-add_sides.ensures ∙ ap (λ ss. record c.in_ok-builder.builder { sides = c.in_ok-builder.builder.sides ++ ss })
    c.deref.ensures.value) (c.in_ok-add_bounds.ensures ∙ ap₂
    (λ bs os. record c.add_sides.new.builder {
      bounds = c.add_sides.new.builder.bounds
          ++ map (λ j. get_or bs j no_sides) os;
    }) c.deref-2.ensures.value c.deref-3.ensures.value)
    c.in_ok-add_terms.ensures
