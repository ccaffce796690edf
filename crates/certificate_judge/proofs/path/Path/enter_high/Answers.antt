use Rattle.std.proofs.Common.{◌∙◌, ap, ap₂, length, refl, slice_set}
use Rattle.std.specs.Vec.{with_items}
use Rattle.exact_numbers.specs.Rational.{whole}
use Rattle.certificate_judge.proofs.WholeDecimals.{next_is}
use Rattle.certificates.specs.Parts.{bound, raised}
use Rattle.exact_checks.specs.Lists.{bounds_in}
use Rattle.certificate_judge.specs.InsidePaths.{sides_of, to_second}
use Rattle.certificate_judge.specs.declared.path.Step.TheVariants.{AtLeast}
use Rattle.certificate_judge.proofs.PathLemmas.{put_back_lo, stepped, written}
use Rattle.certificate_judge.proofs.path.Path.enter_high.Goals as goal

pub returns-clause-at : goal.returns-clause-at
returns-clause-at c base turns h =
    let count = c.raise-before.ensures.count ∙ ap length c.deref_mut.ensures.value in
    let side = (written c.args.self.now.lo c.raise-before.new.lo count) in
    stepped base turns (to_second (bound c.args.j c.args.t)) (AtLeast c.args.j c.raise-before.result) c.args.self.now
    (record {
      lo = with_items c.args.self.now.lo c.raise-before.new.lo;
      hi = c.args.self.now.hi;
      added =
          c.args.self.now.added;
      lemmas = c.args.self.now.lemmas;
      steps = c.push.new.self;
    })
    c.in_ok-push.ensures.items (
      ap (λ u. bounds_in u c.args.self.now.hi.items) side ∙ c.raise-before.ensures.bounds c.args.self.now.hi.items
          ∙ ap₂ (λ u v. raised (bounds_in u c.args.self.now.hi.items) c.args.j v) c.deref_mut.ensures.value
          (c.whole_dec.ensures ∙ ap whole (next_is c.next-least.result c.args.t (record { sfits = c.next-least.type_inv })
          c.ranges.t c.next-least.ensures)),
      put_back_lo (sides_of c.args.self.now)
          (sides_of (record {
            lo = with_items c.args.self.now.lo c.raise-before.new.lo;
            hi = c.args.self.now.hi;
            added =
                c.args.self.now.added;
            lemmas = c.args.self.now.lemmas;
            steps = c.push.new.self;
          })) c.args.j
          c.raise-before.result (ap (λ u. slice_set u c.args.j c.raise-before.result) side ∙ c.raise-before.ensures.back
          ∙ c.deref_mut.ensures.value) refl refl refl,
    )
    h
