-- Whole numbers of 32 bits, and the next ones, are numbers at which a tree may be cut.
use Rattle.std.proofs.Common.{arith, ℤ, pos, negsuc, ◌+ℤ◌}
use Rattle.std.proofs.lemmas.Int.{ints}
use Rattle.exact_numbers.proofs.Bridge.{whole_fits}
use Rattle.certificates.specs.Certificates.{IsCutNumber}
use mir.Syntax.{w32}
use mir.Val.{SFits}

pub cut_number : (t : ℤ) → SFits w32 t → IsCutNumber t
cut_number (pos n) h = (whole_fits (pos n) (omega (arith, h.sfits)), whole_fits (pos n +ℤ pos 1) (omega (arith, h.sfits, ints)))
cut_number (negsuc n) h = (whole_fits (negsuc n) (omega (arith, h.sfits)), whole_fits (negsuc n +ℤ pos 1) (omega (arith, h.sfits, ints)))
