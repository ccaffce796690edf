-- Tests for 0, and first choices.
use Rattle.std.proofs.Common.{◌≡◌, refl, Option, Some, None}
use Rattle.std.specs.Option.{option_or}
pub use Rattle.exact_numbers.proofs.RationalLaws.{is_zero-true, is_zero-false}

pub option_or-none : {T : Type 0} (f g : Option T) → option_or f g ≡ None → (f ≡ None) × (g ≡ None)
option_or-none {T} None g e = (refl, e)
option_or-none {T} (Some x) g e = cc
