use Rattle.std.proofs.Common.{◌∙◌, ap, refl}
use Rattle.exact_numbers.specs.Rational.{whole}
use Rattle.certificate_judge.proofs.WholeDecimals.{next_is}
use Rattle.certificates.specs.Parts.{at_least, plane}
use Rattle.certificate_judge.specs.InsidePaths.{sides_of, to_second}
use Rattle.certificate_judge.specs.declared.path.Step.TheVariants.{Over}
use Rattle.certificate_judge.proofs.PathLemmas.{one_row, path_row, stepped}
use Rattle.certificate_judge.proofs.path.Path.enter_over.Goals as goal

pub returns-clause-path : goal.returns-clause-path
returns-clause-path c n t p =
    path_row n c.args.self.now (record {
      lo = c.args.self.now.lo;
      hi = c.args.self.now.hi;
      added = c.push.new.self;
      lemmas = c.args.self.now.lemmas;
      steps = c.push-2.new.self;
    }) Over
    (record { body = c.args.body; side = c.side_over-side.result }) p tt t refl refl c.in_ok-push.ensures.items refl
    c.in_ok-push-2.ensures.items

pub returns-clause-at : goal.returns-clause-at
returns-clause-at c base turns form e h =
    stepped base turns (to_second (plane form c.args.t)) Over c.args.self.now
    (record {
      lo = c.args.self.now.lo;
      hi = c.args.self.now.hi;
      added = c.push.new.self;
      lemmas =
          c.args.self.now.lemmas;
      steps = c.push-2.new.self;
    })
    c.in_ok-push-2.ensures.items (
      (record { body = c.args.body; side = c.side_over-side.result }),
      record {
        body = e;
        side = c.side_over-side.ensures ∙ ap (λ z. at_least (whole z))
            (next_is c.next.result c.args.t (record { sfits = c.next.type_inv }) c.ranges.t c.next.ensures);
      },
      one_row (sides_of c.args.self.now) (sides_of (record {
        lo = c.args.self.now.lo;
        hi = c.args.self.now.hi;
        added =
            c.push.new.self;
        lemmas = c.args.self.now.lemmas;
        steps = c.push-2.new.self;
      }))
          (record { body = c.args.body; side = c.side_over-side.result }) refl refl c.in_ok-push.ensures.items refl,
    )
    h
