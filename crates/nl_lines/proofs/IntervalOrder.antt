-- An interval that is not empty has its sides in order.
use Rattle.std.proofs.Common.{refl, ◌≡◌, true, false, ℤ, ◌<ℤ◌, ◌≤ℤ◌, ap, arith, Option, Some, None, int_cmp, Ordering, Less, Equal, Greater}
use Rattle.std.specs.Ordering.{MatchOrdering, is_lt}
use Rattle.std.specs.Cmp.{int_ranks}
use Rattle.std.proofs.lemmas.Int.{ints}
use Rattle.exact_numbers.specs.Rational.{ℚ, ◌≤ℚ◌}
use Rattle.exact_numbers.specs.declared.dec.Dec.{Dec}
use Rattle.exact_numbers.specs.Values.{dec_value}
use Rattle.linear_program.specs.declared.interval.Interval.{Interval}
use Rattle.linear_program.specs.Intervals.{AreOrdered, IsOrdered}
use Rattle.nl_lines.specs.Tests.{is_empty, is_value_below}

not_less : (x y : ℤ) → is_lt (int_cmp x y) ≡ false → y ≤ℤ x
not_less x y f = by (int_cmp x y) refl (int_ranks x y)
  where
    by : (o : Ordering) → int_cmp x y ≡ o → MatchOrdering o (x <ℤ y) (x ≡ y) (y <ℤ x) → y ≤ℤ x
    by Less e h = absurd (let t : is_lt (int_cmp x y) ≡ true = ap is_lt e in cc)
    by Equal e h = omega (arith, ints)
    by Greater e h = omega (arith, ints)

in_order : (x y : ℚ) → is_value_below y x ≡ false → x ≤ℚ y
in_order x y f = record { crosswise = not_less _ _ f }

pub ordered : (i : Interval) → is_empty i ≡ false → IsOrdered i
ordered i f = by i.lo i.hi refl refl
  where
    by : (lo hi : Option Dec) → i.lo ≡ lo → i.hi ≡ hi → AreOrdered i.lo i.hi
    by None hi e g = rw e tt
    by (Some l) None e g = rw (e, g) tt
    by (Some l) (Some u) e g = rw (e, g) (in_order (dec_value l) (dec_value u) (rw (e, g) at f))
