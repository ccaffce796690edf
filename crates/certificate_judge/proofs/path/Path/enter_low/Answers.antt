use Rattle.std.proofs.Common.{◌≡◌, ◌∙◌, ◌++◌, ◌∷◌, [], ap, ap₂, length, refl, slice_set, to_z-of_z}
use mir.Syntax.{w128}
use mir.Val.{to_z, of_z}
use Rattle.std.specs.Vec.{with_items}
use Rattle.exact_numbers.specs.Rational.{whole}
use Rattle.certificates.specs.Parts.{bound, capped}
use Rattle.exact_checks.specs.Lists.{bounds_in}
use Rattle.certificate_judge.specs.InsidePaths.{sides_of, to_first}
use Rattle.certificate_judge.specs.declared.path.Step.TheVariants.{AtMost}
use Rattle.certificate_judge.proofs.PathLemmas.{path_down, put_back_hi, stepped, written}
use Rattle.certificate_judge.proofs.path.Path.enter_low.Goals as goal

pub returns-clause-path : goal.returns-clause-path
returns-clause-path c n j p =
    let count = c.cap-before.ensures.count ∙ ap length c.deref_mut.ensures.value in
    let side = (written c.args.self.now.hi c.cap-before.new.hi count) in
    let back : to_z w128 (of_z w128 c.args.t) ≡ c.args.t = to_z-of_z c.ranges.t in
    path_down n c.args.self.now (record {
      lo = c.args.self.now.lo;
      hi =
          with_items c.args.self.now.hi c.cap-before.new.hi;
      added = c.args.self.now.added;
      lemmas =
          c.args.self.now.lemmas;
      steps = c.push.new.self;
    })
    (AtMost c.args.j c.args.t c.cap-before.result) p (j, c.requires.number) refl (ap length side ∙ count) refl refl
    (c.in_ok-push.ensures.items ∙ ap (λ z. c.args.self.now.steps.items ++ AtMost c.args.j z c.cap-before.result ∷ [])
    back)

pub returns-clause-at : goal.returns-clause-at
returns-clause-at c base turns h =
    let count = c.cap-before.ensures.count ∙ ap length c.deref_mut.ensures.value in
    let side = (written c.args.self.now.hi c.cap-before.new.hi count) in
    let back : to_z w128 (of_z w128 c.args.t) ≡ c.args.t = to_z-of_z c.ranges.t in
    stepped base turns (to_first (bound c.args.j c.args.t)) (AtMost c.args.j c.args.t c.cap-before.result)
    c.args.self.now (record {
      lo = c.args.self.now.lo;
      hi = with_items c.args.self.now.hi c.cap-before.new.hi;
      added =
          c.args.self.now.added;
      lemmas = c.args.self.now.lemmas;
      steps = c.push.new.self;
    })
    (c.in_ok-push.ensures.items ∙ ap (λ z. c.args.self.now.steps.items ++ AtMost c.args.j z c.cap-before.result ∷ []) back) (
      refl,
      refl,
      ap (bounds_in c.args.self.now.lo.items) side ∙ c.cap-before.ensures.bounds c.args.self.now.lo.items
          ∙ ap₂ (λ u v. capped (bounds_in c.args.self.now.lo.items u) c.args.j v) c.deref_mut.ensures.value
          (c.whole_dec.ensures ∙ ap whole back),
      put_back_hi (sides_of c.args.self.now)
          (sides_of (record {
            lo = c.args.self.now.lo;
            hi = with_items c.args.self.now.hi c.cap-before.new.hi;
            added =
                c.args.self.now.added;
            lemmas = c.args.self.now.lemmas;
            steps = c.push.new.self;
          })) c.args.j
          c.cap-before.result refl (ap (λ u. slice_set u c.args.j c.cap-before.result) side ∙ c.cap-before.ensures.back
          ∙ c.deref_mut.ensures.value) refl refl,
    )
    h
