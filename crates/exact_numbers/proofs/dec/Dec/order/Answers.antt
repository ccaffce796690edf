use Rattle.std.proofs.Common.{arith, rules, pos, ◌≡◌, ◌*ℤ◌, ◌<ℤ◌, ◌≤ℤ◌, ◌^◌, ◌∙◌, ◌*◌, unsigned_abs, ap, sym, int_cmp, to_z, of_z, to_z-of_z}
use mir.Syntax.{w16}
use Rattle.std.proofs.lemmas.Int.{ints, unsigned_abs-mul}
use Rattle.std.proofs.lemmas.Grind.{common_steps}
use borrow.Author.Differences.{up}
use Rattle.exact_numbers.proofs.Pairs.{scaled}
use Rattle.exact_numbers.proofs.Tens.{ten-pos}
use Rattle.exact_numbers.proofs.Decimals.{abs_is}
use Rattle.exact_numbers.proofs.Orders.{order_below, order_across, order_back, below_times, above_times}
use Rattle.exact_numbers.proofs.Bridge.{order_is, decimal_is}
use Rattle.exact_numbers.proofs.dec.Dec.order.Goals as goal

pub returns-then-n-lt0 : goal.returns-then-n-lt0
returns-then-n-lt0 c =
    let x = scaled c.args.self.m c.args.self.e in
    let y = scaled c.args.other.m c.args.other.e in
    let size : c.args.self.m <ℤ pos 0 = search rules in
    let other_size : c.args.other.m <ℤ pos 0 = search rules in
    let a : c.unsigned_abs-then-n-lt0.result * 10 ^ up c.args.self.e ≡ unsigned_abs x.top =
    ap (λ n. n * 10 ^ up c.args.self.e) (search rules) ∙ sym
    (unsigned_abs-mul c.args.self.m (pos (10 ^ up c.args.self.e))) in
    let b : c.unsigned_abs.result * 10 ^ up c.args.other.e ≡ unsigned_abs y.top =
    ap (λ n. n * 10 ^ up c.args.other.e) (search rules) ∙ sym
    (unsigned_abs-mul c.args.other.m (pos (10 ^ up c.args.other.e))) in
    let e : to_z w16 (of_z w16 c.e-then-n-lt0.result) ≡ c.args.self.e = to_z-of_z {w = w16} (record { sfits = c.e-then-n-lt0.type_inv }) ∙ c.e-then-n-lt0.ensures in
    let f : to_z w16 (of_z w16 c.e.result) ≡ c.args.other.e = to_z-of_z {w = w16} (record { sfits = c.e.type_inv }) ∙ c.e.ensures in
    (simp (e, f) at c.order_of_scaled.ensures)
    ∙ order_below x.top y.top _ _ x.bottom y.bottom a b (below_times _ _ size (ten-pos (up c.args.self.e))) (below_times _ _ other_size (ten-pos (up c.args.other.e)))
    ∙ order_is _ _ x y (decimal_is c.args.self.m c.args.self.e) (decimal_is c.args.other.m c.args.other.e)

pub returns-else-n-lt0 : goal.returns-else-n-lt0
returns-else-n-lt0 c =
    let x = scaled c.args.self.m c.args.self.e in
    let y = scaled c.args.other.m c.args.other.e in
    let size = c.args.self.spelled.mantissa in
    let other_size = c.args.other.spelled.mantissa in
    let parts = abs_is c.args.self.m in
    let other_parts = abs_is c.args.other.m in
    let low : c.args.self.m <ℤ pos 0 = omega (arith, ints) in
    let high : pos 0 ≤ℤ c.args.other.m = omega (arith, ints) in
    order_across x.top y.top x.bottom y.bottom (ten-pos _) (ten-pos _) (below_times _ _ low (ten-pos (up c.args.self.e))) (above_times _ (10 ^ up c.args.other.e) high)
    ∙ order_is _ _ x y (decimal_is c.args.self.m c.args.self.e) (decimal_is c.args.other.m c.args.other.e)

pub returns-then-n-lt0-2 : goal.returns-then-n-lt0-2
returns-then-n-lt0-2 c =
    let x = scaled c.args.self.m c.args.self.e in
    let y = scaled c.args.other.m c.args.other.e in
    let size = c.args.self.spelled.mantissa in
    let other_size = c.args.other.spelled.mantissa in
    let parts = abs_is c.args.self.m in
    let other_parts = abs_is c.args.other.m in
    let low : c.args.other.m <ℤ pos 0 = omega (arith, ints) in
    let high : pos 0 ≤ℤ c.args.self.m = omega (arith, ints) in
    order_back x.top y.top x.bottom y.bottom (ten-pos _) (ten-pos _) (below_times _ _ low (ten-pos (up c.args.other.e))) (above_times _ (10 ^ up c.args.self.e) high)
    ∙ order_is _ _ x y (decimal_is c.args.self.m c.args.self.e) (decimal_is c.args.other.m c.args.other.e)

pub returns-else-n-lt0-2 : goal.returns-else-n-lt0-2
returns-else-n-lt0-2 c =
    let x = scaled c.args.self.m c.args.self.e in
    let y = scaled c.args.other.m c.args.other.e in
    let plain : c.order_of_scaled-else-n-lt0-2.result ≡ int_cmp (x.top *ℤ pos y.bottom) (y.top *ℤ pos x.bottom) = grind (arith, common_steps) in
    plain ∙ order_is _ _ x y (decimal_is c.args.self.m c.args.self.e) (decimal_is c.args.other.m c.args.other.e)
