use Rattle.std.proofs.Common.{◌≡◌, ◌∙◌, ◌++◌, ◌∷◌, [], ap, refl, to_z-of_z}
use mir.Syntax.{w128}
use mir.Val.{to_z, of_z}
use Rattle.exact_numbers.specs.Rational.{whole}
use Rattle.certificates.specs.Parts.{at_most, plane}
use Rattle.certificate_judge.specs.InsidePaths.{sides_of, to_first}
use Rattle.certificate_judge.specs.declared.path.Step.TheVariants.{Under}
use Rattle.certificate_judge.proofs.PathLemmas.{one_row, path_row, stepped}
use Rattle.certificate_judge.proofs.path.Path.enter_under.Goals as goal

pub returns-clause-path : goal.returns-clause-path
returns-clause-path c n t p =
    let back : to_z w128 (of_z w128 c.args.t) ≡ c.args.t = to_z-of_z c.ranges.t in
    path_row n c.args.self.now (record {
      lo = c.args.self.now.lo;
      hi = c.args.self.now.hi;
      added = c.push.new.self;
      lemmas = c.args.self.now.lemmas;
      steps = c.push-2.new.self;
    }) (Under c.args.t)
    (record { body = c.args.body; side = c.side_under-side.result }) p c.requires.number t refl refl
    c.in_ok-push.ensures.items refl (c.in_ok-push-2.ensures.items
    ∙ ap (λ z. c.args.self.now.steps.items ++ Under z ∷ []) back)

pub returns-clause-at : goal.returns-clause-at
returns-clause-at c base turns form e h =
    let back : to_z w128 (of_z w128 c.args.t) ≡ c.args.t = to_z-of_z c.ranges.t in
    stepped base turns (to_first (plane form c.args.t)) (Under c.args.t) c.args.self.now
    (record {
      lo = c.args.self.now.lo;
      hi = c.args.self.now.hi;
      added = c.push.new.self;
      lemmas =
          c.args.self.now.lemmas;
      steps = c.push-2.new.self;
    })
    (c.in_ok-push-2.ensures.items ∙ ap (λ z. c.args.self.now.steps.items ++ Under z ∷ []) back) (
      refl,
      (
        record { body = c.args.body; side = c.side_under-side.result },
        record { body = e; side = c.side_under-side.ensures ∙ ap (λ z. at_most (whole z)) back },
        one_row (sides_of c.args.self.now) (sides_of (record {
          lo = c.args.self.now.lo;
          hi = c.args.self.now.hi;
          added = c.push.new.self;
          lemmas =
              c.args.self.now.lemmas;
          steps = c.push-2.new.self;
        }))
            (record { body = c.args.body; side = c.side_under-side.result }) refl refl c.in_ok-push.ensures.items refl,
      ),
    )
    h
