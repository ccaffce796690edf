use Rattle.std.proofs.Common.{refl}
use Rattle.certificates.specs.Parts.{lemma}
use Rattle.certificate_judge.specs.InsidePaths.{sides_of, to_first}
use Rattle.certificate_judge.specs.declared.path.Step.TheVariants.{Showing}
use Rattle.certificate_judge.proofs.PathLemmas.{one_lemma, stepped}
use Rattle.certificate_judge.proofs.path.Path.enter_proof.Goals as goal

pub returns-clause-at : goal.returns-clause-at
returns-clause-at c base turns form t is h =
    stepped base turns (to_first (lemma form t)) Showing c.args.self.now
    (record {
      lo = c.args.self.now.lo;
      hi = c.args.self.now.hi;
      added = c.args.self.now.added;
      lemmas =
          c.push.new.self;
      steps = c.push-2.new.self;
    })
    c.in_ok-push-2.ensures.items (
      c.args.shown,
      is,
      one_lemma (sides_of c.args.self.now)
          (sides_of (record {
            lo = c.args.self.now.lo;
            hi = c.args.self.now.hi;
            added = c.args.self.now.added;
            lemmas =
                c.push.new.self;
            steps = c.push-2.new.self;
          })) c.args.shown refl refl refl c.in_ok-push.ensures.items,
    )
    h
