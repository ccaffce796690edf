use Rattle.std.proofs.Common.{◌≡◌, ◌∙◌, ap, sym, subst, arith, length, replicate}
use Rattle.std.proofs.lemmas.List.{length-replicate}
use Rattle.linear_program.specs.Places.{AreZeros}
use Rattle.linear_program.proofs.HeldPlaces.{empty_zeros}
use Rattle.linear_program.proofs.PlaceLemmas.{no_marks}
use Rattle.linear_program.proofs.marked_places.MarkedPlaces.new.Goals as goal

pub invariant_of-result : goal.invariant_of-result
invariant_of-result c =
    let n = c.args.count in
    let z = c.args.zero in
    let is : c.in_ok-places.places.items ≡ replicate n z = c.in_ok-places.ensures.items_if_clones_equal (λ y h. h) in
    no_marks c.in_ok-places.places.items c.new.result.items
    (let h = ap length is ∙ length-replicate n z in let f = c.ranges.count.fits in omega arith) c.new.ensures.items
    (subst AreZeros (sym is) (empty_zeros n z c.requires))
