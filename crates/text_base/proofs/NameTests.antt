-- A text that passed the test of names is a name.
use Rattle.std.proofs.Common.{◌≡◌, ℕ, true, not, ◌&&◌, ◌==◌, List, length, arith}
use Rattle.std.specs.Prelude.{nat_le}
use Rattle.std.proofs.lemmas.Bool.{and_parts, leb-true}
use Rattle.std.proofs.lemmas.Bool.Decides.{nat_tests}
use Rattle.text_base.specs.Names.{IsName, is_name, has_name_bytes}

pub tested_name : (text : List ℕ) → is_name text ≡ true → IsName text
tested_name text e =
    let parts = and_parts (not (length text == 0) && nat_le (length text) 255) (has_name_bytes text) e in
    let sizes = and_parts (not (length text == 0)) (nat_le (length text) 255) parts.0 in
    record { some = grind (arith, nat_tests, sizes.0); most = leb-true (length text) 255 sizes.1; each = parts.1 }
