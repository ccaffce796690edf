use Rattle.std.proofs.Common.{refl}
use Rattle.certificates.specs.Parts.{lemma}
use Rattle.certificate_judge.specs.InsidePaths.{sides_of, to_second}
use Rattle.certificate_judge.specs.declared.path.Step.TheVariants.{Over}
use Rattle.certificate_judge.proofs.PathLemmas.{one_row, path_row, stepped}
use Rattle.certificate_judge.proofs.path.Path.enter_rest.Goals as goal

pub returns-clause-path : goal.returns-clause-path
returns-clause-path c n w p =
    path_row n c.args.self.now (record { lo = c.args.self.now.lo; hi = c.args.self.now.hi; added = c.push.new.self; lemmas = c.args.self.now.lemmas; steps = c.push-2.new.self })
    Over c.lemma_row.result p tt (c.lemma_row.ensures.terms n w) refl refl c.in_ok-push.ensures.items refl c.in_ok-push-2.ensures.items

pub returns-clause-at : goal.returns-clause-at
returns-clause-at c base turns form t is h =
    stepped base turns (to_second (lemma form t)) Over c.args.self.now
    (record {
      lo = c.args.self.now.lo;
      hi = c.args.self.now.hi;
      added = c.push.new.self;
      lemmas =
          c.args.self.now.lemmas;
      steps = c.push-2.new.self;
    })
    c.in_ok-push-2.ensures.items (
      c.lemma_row.result,
      c.lemma_row.ensures.row form t is,
      one_row (sides_of c.args.self.now) (sides_of (record {
        lo = c.args.self.now.lo;
        hi = c.args.self.now.hi;
        added =
            c.push.new.self;
        lemmas = c.args.self.now.lemmas;
        steps = c.push-2.new.self;
      })) c.lemma_row.result refl refl
          c.in_ok-push.ensures.items refl,
    )
    h
