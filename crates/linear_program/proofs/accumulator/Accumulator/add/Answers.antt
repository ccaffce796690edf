use Rattle.std.proofs.Common.{◌≡◌, ◌∙◌, ◌<◌, ◌==◌, ◌∷◌, [], ap, refl, sym, subst, arith, length}
use Rattle.exact_numbers.specs.Values.{frac_value}
use Rattle.exact_numbers.specs.Fits.{sum_fits}
use Rattle.exact_numbers.specs.Rational.{◌+ℚ◌, ◌*ℚ◌}
use Rattle.linear_program.specs.Lines.{one_if}
use Rattle.linear_program.specs.Places.{AreListed, all_places, place_in, put_all}
use Rattle.linear_program.proofs.CoefLemmas.{below_append, nothing_added}
use Rattle.linear_program.proofs.HeldPlaces.{all_zeros}
use Rattle.linear_program.proofs.PutLemmas.{put_length, listed_fits, listed_adds, zero_fits}
use Rattle.linear_program.proofs.accumulator.Accumulator.add.Goals as goal

pub returns-then-is_zero-clause-adds : goal.returns-then-is_zero-clause-adds
returns-then-is_zero-clause-adds c =
    let zero = c.is_zero.ensures.0 c.if-is_zero.true in
    (zero_fits c.args.self.now c.args.variable (frac_value c.args.factor) c.requires zero, nothing_added (place_in c.args.self.now) c.args.variable (frac_value c.args.factor) zero)

pub invariant_of-self-2 : goal.invariant_of-self-2
invariant_of-self-2 c =
    let w = c.self.inside in
    let ps = all_places w.count w.empty w.places in
    let v = c.args.variable in
    let within : v < length ps = let long = ap length c.self.view_is in (let same = put_length w.listed ps in (let h = c.requires in omega arith)) in
    subst (AreListed w.count w.empty w.places) (sym c.in-Ok.ensures.more)
    (record {
      below = below_append (length ps) w.listed ((v, c.args.factor) ∷ []) c.self.invariant.below (within, tt);
      zeros = λ some. c.if-not-comes_last.ensures.zeros refl;
      absent = c.self.invariant.absent;
    })

pub returns-clause-adds : goal.returns-clause-adds
returns-clause-adds c =
    let w = c.self.inside in
    let ts = w.listed in
    let ps = all_places w.count w.empty w.places in
    let v = c.args.variable in
    let f = c.args.factor in
    let view : put_all ts ps ≡ c.args.self.now = c.self.view_is in
    let within : v < length ps = let long = ap length view in (let same = put_length ts ps in (let h = c.requires in omega arith)) in
    let last = c.if-not-comes_last.ensures.last refl in
    let zeros = all_zeros w.count w.empty c.self.invariant.absent w.places (c.if-not-comes_last.ensures.zeros refl) in (
      ap (λ l. sum_fits (place_in l v) (frac_value f)) (sym view) ∙ listed_fits ps ts v f within last zeros,
      λ i. ap (λ l. place_in (put_all l ps) i) c.in-Ok.ensures.more ∙ listed_adds ps ts v f within last zeros i
          ∙ ap (λ l. place_in l i +ℚ frac_value f *ℚ one_if (i == v)) view,
    )

pub returns-clause-count : goal.returns-clause-count
returns-clause-count c =
    let w = c.self.inside in
    let ps = all_places w.count w.empty w.places in
    put_length c.push.new.self ps ∙ sym (put_length w.listed ps) ∙ ap length c.self.view_is
