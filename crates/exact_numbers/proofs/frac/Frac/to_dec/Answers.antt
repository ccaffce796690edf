use Rattle.std.proofs.Common.{rules, arith, ◌≡◌, pos, neg_ℤ, ◌-◌, ◌-ℤ◌, ◌*◌, ◌^◌, ◌≤◌, ◌∙◌, ap, SFits, to_z, of_z, to_z-of_z, unsigned_abs, subst, le-mul_of_pos_right, int_lt, w32}
use Rattle.std.proofs.Math.Nat.{one-le-pow}
use Rattle.std.proofs.Common.{lit<}
use Rattle.std.specs.Int.{w128}
use Rattle.std.proofs.lemmas.Int.{ints}
use Rattle.exact_numbers.specs.Decimal.{signed}
use Rattle.exact_numbers.proofs.Fractions.{frac_fits}
use Rattle.exact_numbers.proofs.OfDec.{cofactor_of}
use Rattle.exact_numbers.proofs.ToDec.{finite, places_of, no_dec_above, same_at}
use Rattle.exact_numbers.specs.Values.{frac_value, IsDecOf}
use Rattle.exact_numbers.specs.Rational.{decimal_value}
use Rattle.exact_numbers.proofs.Signs.{frac_whole}
use Rattle.exact_numbers.proofs.Values.{own_value}
use Rattle.exact_numbers.proofs.Bridge.{not_dec, same_dec_value, match_dec}
use Rattle.exact_numbers.proofs.frac.Frac.to_dec.Goals as goal

pub returns-then-self-eq1 : goal.returns-then-self-eq1
returns-then-self-eq1 c =
    let fm : SFits w128 c.args.self.num = frac_fits _ _ c.args.self.spelled in
    subst (IsDecOf c.new.result) (ap (λ n. decimal_value n (pos 0)) (to_z-of_z fm) ∙ frac_whole c.args.self c.if-self-eq1.true) c.new.ensures

pub returns-then-fives-ne1 : goal.returns-then-fives-ne1
returns-then-fives-ne1 c = not_dec _ _ (own_value (frac_value c.args.self)) (λ fits.
    let w = cofactor_of c.args.self.den _ _ _ _ c.args.self.spelled.above c.args.self.spelled.small
    c.cancel-twos.ensures.within c.cancel-fives.ensures.within c.cancel-twos.ensures.whole
    c.cancel-fives.ensures.whole c.cancel-twos.ensures.shortest c.cancel-fives.ensures.shortest in
    c.if-fives-ne1.true (finite c.args.self.num c.args.self.den c.cancel-fives.result.rest c.args.self.spelled w.0 fits))

pub returns-in_default : goal.returns-in_default
returns-in_default c = not_dec _ _ (own_value (frac_value c.args.self)) (λ fits.
    let q = places_of c.args.self.den _ _ _ _ c.max-places.result c.cancel-twos.ensures.whole c.cancel-fives.ensures.whole c.if-fives-ne1.false c.max-places.ensures in
    let size : c.unsigned_abs.result ≡ unsigned_abs c.args.self.num = (let fm : SFits w128 c.args.self.num = frac_fits _ _ c.args.self.spelled in search rules) in
    let i = 127 - c.cancel-twos.result.left in
    let j = 127 - c.cancel-fives.result.left in
    let p = c.max-places.result in
    let n = unsigned_abs c.args.self.num in
    let wide : 2 ^ 127 ≤ n * 2 ^ (p - i) * 5 ^ (p - j) = omega (arith, c.in_default.ensures, ap (λ x. x * 2 ^ (p - i)) size, le-mul_of_pos_right (n * 2 ^ (p - i)) (one-le-pow (p - j) 5 (lit< tt))) in
    no_dec_above c.args.self.num c.args.self.den i j p c.args.self.spelled q wide fits)

pub returns-in_default-grown_by : goal.returns-in_default-grown_by
returns-in_default-grown_by c = not_dec _ _ (own_value (frac_value c.args.self)) (λ fits.
    let q = places_of c.args.self.den _ _ _ _ c.max-places.result c.cancel-twos.ensures.whole c.cancel-fives.ensures.whole c.if-fives-ne1.false c.max-places.ensures in
    let size : c.unsigned_abs.result ≡ unsigned_abs c.args.self.num = (let fm : SFits w128 c.args.self.num = frac_fits _ _ c.args.self.spelled in search rules) in
    let i = 127 - c.cancel-twos.result.left in
    let j = 127 - c.cancel-fives.result.left in
    let p = c.max-places.result in
    let start = c.in-Some.ensures.1 ∙ ap (λ x. x * 2 ^ (p - i)) size in
    let wide : 2 ^ 127 ≤ unsigned_abs c.args.self.num * 2 ^ (p - i) * 5 ^ (p - j) = omega (arith, c.in_default-grown_by.ensures, ap (λ x. x * 5 ^ (p - j)) start) in
    no_dec_above c.args.self.num c.args.self.den i j p c.args.self.spelled q wide fits)

pub returns : goal.returns
returns c =
    let q = places_of c.args.self.den _ _ _ _ c.max-places.result c.cancel-twos.ensures.whole c.cancel-fives.ensures.whole c.if-fives-ne1.false c.max-places.ensures in
    let fm : SFits w128 c.args.self.num = frac_fits _ _ c.args.self.spelled in
    let size : c.unsigned_abs.result ≡ unsigned_abs c.args.self.num = search rules in
    let i = 127 - c.cancel-twos.result.left in
    let j = 127 - c.cancel-fives.result.left in
    let p = c.max-places.result in
    let start = c.in-Some.ensures.1 ∙ ap (λ x. x * 2 ^ (p - i)) size in
    let made = c.in-Some-grown_by.ensures.1 ∙ ap (λ x. x * 5 ^ (p - j)) start in
    let m = to_z w128 (of_z w128 c.with_sign.result) in
    let e = to_z w32 (of_z w32 (pos 0 -ℤ to_z w32 p)) in
    let plain : e ≡ neg_ℤ (pos p) = omega (arith, ints, c.max-places.ensures) in
    let s = int_lt c.args.self.num (pos 0) in
    let sign : m ≡ signed s (unsigned_abs c.args.self.num * 2 ^ (p - i) * 5 ^ (p - j)) =
    to_z-of_z {w = w128} (record { sfits = c.with_sign.type_inv }) ∙ c.with_sign.ensures ∙ ap (λ x. signed (int_lt x (pos 0)) c.in-Some-grown_by.size) (to_z-of_z fm) ∙ ap (signed s) made in
    match_dec c.new-2.result _ _ (same_dec_value m e _ _ (own_value (frac_value c.args.self)) (same_at c.args.self.num c.args.self.den i j p c.args.self.spelled q m e sign plain)) c.new-2.ensures
