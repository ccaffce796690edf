use Rattle.std.proofs.Common.{ℕ, ap, arith, length}
use Rattle.exact_numbers.specs.InsidePadded.{length_back}
use Rattle.exact_numbers.proofs.PaddedLemmas.{padded-push}
use Rattle.exact_numbers.proofs.num_text.NumText.push.Goals as goal

pub invariant_of-self : goal.invariant_of-self
invariant_of-self c =
    let same = ap (length {A = ℕ}) c.self.view_is in
    let used = length_back c.self.inside.bytes c.self.inside.len c.self.invariant in
    padded-push c.self.inside.bytes c.self.inside.len c.args.b c.self.invariant (omega (arith, same, used, c.requires))
