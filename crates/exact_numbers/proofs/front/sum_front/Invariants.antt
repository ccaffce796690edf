use Rattle.std.proofs.Common.{◌≡◌, ◌≤◌, ◌+◌, ◌-◌, ◌*◌, ◌^◌, length, take}
use Rattle.std.specs.Str.Parse.{AllDigits, digits_value_after}
use Rattle.exact_numbers.proofs.front.sum_front.Given as goal

-- the digits so far are summed
abbrev pub invariant-digits : goal.invariant-digits
invariant-digits l = record {
  within : l.len ≤ length l.text;
  few : l.len ≤ l.most;
  small : (l.number + 1) * 10 ^ (l.most - l.len) ≤ 10 ^ 18;
  digits : AllDigits 10 (take l.len l.text);
  number : l.number ≡ digits_value_after 10 l.start (take l.len l.text);
}

abbrev pub decreases-digits : goal.decreases-digits
decreases-digits l = length l.text - l.len
