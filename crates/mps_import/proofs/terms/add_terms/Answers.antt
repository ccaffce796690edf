use Rattle.std.proofs.Common.{ℕ, ◌≤◌, ◌∙◌, sym, ap₂, subst, refl, arith, List, length}
use Rattle.mps_import.specs.InsideUses.{IsOnItsWay, terms_left}
use Rattle.mps_import.proofs.TermLemmas.{way_begun, way_ended_terms, way_ended_slopes}
use Rattle.mps_import.proofs.terms.add_terms.Goals as goal

pub variables-init : goal.variables-init
variables-init c = record {
  way = subst (λ (js : List ℕ). IsOnItsWay c.args.mps.now (terms_left c.args.mps.now 0 js)
      c.args.builder.now) (sym c.requires.order) (way_begun c.args.mps.now c.args.builder.now c.requires.counts
      c.requires.terms c.requires.slopes);
  only = refl;
}

pub returns : goal.returns
returns c =
    let m = c.args.mps.now in
    let d = c.variables.builder in
    let end : length c.args.order.now ≤ c.variables.p = omega arith in
    c.variables.invariant.only ∙ ap₂ (λ ts ss. record c.args.builder.now { terms = ts; slopes = ss })
    (way_ended_terms m c.variables.p c.args.order.now d end c.variables.invariant.way)
    (way_ended_slopes m c.variables.p c.args.order.now d end c.variables.invariant.way)
