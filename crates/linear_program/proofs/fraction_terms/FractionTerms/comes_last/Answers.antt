use Rattle.std.proofs.Common.{◌≡◌, ◌∙◌, ◌<◌, ◌-◌, sym, subst, arith, length, get_or}
use Rattle.std.proofs.lemmas.Bool.{lt-ltb, ltb-true}
use Rattle.linear_program.specs.Coefs.{AreAscending, AreBelow}
use Rattle.linear_program.proofs.CoefLemmas.{below_last, last_below}
use Rattle.linear_program.proofs.fraction_terms.FractionTerms.comes_last.Goals as goal

pub returns-in-Some : goal.returns-in-Some
returns-in-Some c =
    let seen = c.deref.ensures.value ∙ c.self.view_is in
    let last = c.in-Some.last.now in
    let v = c.args.variable in
    let ts = c.deref.result.now in
    let many : 0 < length ts = ltb-true 0 (length ts) (sym c.in-Some.ensures.item.0) in
    let ascending : AreAscending 0 ts = subst (AreAscending 0) (sym c.deref.ensures.value) c.self.invariant in
    let at : last ≡ get_or ts (length ts - 1) last = c.in-Some.ensures.item.1 in (
      λ less. subst (AreBelow v) seen (below_last last v 0 ts (length ts - 1) ascending (omega arith) at (ltb-true last.0 v less)),
      λ below. lt-ltb last.0 v (last_below last v ts (length ts - 1) (subst (AreBelow v) (sym seen) below) (omega arith) at),
    )
