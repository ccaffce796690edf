use Rattle.std.proofs.Common.{◌≡◌, ◌∙◌, ◌++◌, ◌∷◌, [], ap, arith, refl, subst, sym, to_z-of_z, List}
use mir.Syntax.{w128}
use mir.Val.{to_z, of_z}
use Rattle.std.specs.Vec.{with_item}
use Rattle.certificates.specs.Parts.{Part}
use Rattle.certificate_judge.specs.InsidePaths.{HasLeft, IsAt, Turn}
use Rattle.certificates.specs.Certificates.{IsCutNumber}
use Rattle.exact_checks.specs.Built.{AreWithin}
use Rattle.certificate_judge.specs.declared.path.Path.{Path}
use Rattle.certificate_judge.specs.declared.path.Step.TheVariants.{AtMost, Over, Showing, Under}
use Rattle.certificate_judge.proofs.PathLemmas.{last_within, leaves_last, leaves_over, leaves_plane, leaves_proof}
use Rattle.certificate_judge.proofs.PathLemmas.{leaves_split, match_none, no_items, no_lemma_shown, no_plane_under}
use Rattle.certificate_judge.proofs.PathLemmas.{no_row_over, not_started, path_off, path_shown, within_last}
use Rattle.certificate_judge.proofs.WholeDecimals.{whole_fits}
use Rattle.certificate_judge.proofs.path.Path.leave.Goals as goal

pub returns-in_err-j-clause-at : goal.returns-in_err-j-clause-at
returns-in_err-j-clause-at c =
    let new : Path = record { lo = c.args.self.now.lo; hi = c.args.self.now.hi; added = c.args.self.now.added; lemmas = c.args.self.now.lemmas; steps = c.pop.new.self } in
    let none = c.in_err-j.ensures.cases in
    match_none c.from_residual.result ((base : Part) (turns : List Turn) → IsAt base turns c.args.self.now
    → (turns ≡ []) × IsAt base [] new) (λ left. (base : Part) (turns : List Turn) → IsAt base turns c.args.self.now
    → HasLeft left base turns new) c.from_residual.ensures
    (λ base turns h. not_started base turns c.args.self.now new
    (no_items c.args.self.now.steps.items (omega (arith, none.0, c.args.self.now.steps.ok.0)))
    (no_items c.pop.new.self.items (omega (arith, none.1, c.pop.new.self.ok.0))) refl refl refl refl h)

pub returns-in-AtMost-clause-at : goal.returns-in-AtMost-clause-at
returns-in-AtMost-clause-at c base turns h =
    let back : to_z w128 (of_z w128 c.in-AtMost.t) ≡ c.in-AtMost.t =
    to_z-of_z (whole_fits c.in-AtMost.t (last_within c.requires.path.0 c.args.self.now
    (record {
      lo = c.args.self.now.lo;
      hi = with_item c.args.self.now.hi c.in-AtMost.j c.in-AtMost.before;
      added =
          c.args.self.now.added;
      lemmas = c.args.self.now.lemmas;
      steps = c.pop.new.self;
    })
    (AtMost c.in-AtMost.j c.in-AtMost.t c.in-AtMost.before) c.requires.path.1
    (c.in_ok-j.ensures.items ∙ ap (λ s. c.pop.new.self.items ++ s ∷ []) c.in-AtMost.is)).1.0) in
    leaves_split base turns c.args.self.now (record {
      lo = c.args.self.now.lo;
      hi =
          with_item c.args.self.now.hi c.in-AtMost.j c.in-AtMost.before;
      added = c.args.self.now.added;
      lemmas =
          c.args.self.now.lemmas;
      steps = c.pop.new.self;
    }) c.in-AtMost.j c.in-AtMost.t
    (to_z w128 (of_z w128 c.in-AtMost.t)) c.in-AtMost.before
    (c.in_ok-j.ensures.items ∙ ap (λ s. c.pop.new.self.items ++ s ∷ []) c.in-AtMost.is) back refl refl refl refl h

pub returns-in-AtLeast-clause-at : goal.returns-in-AtLeast-clause-at
returns-in-AtLeast-clause-at c base turns h = leaves_last base turns c.args.self.now
    (record {
      lo = with_item c.args.self.now.lo c.in-AtLeast.j c.in-AtLeast.before;
      hi = c.args.self.now.hi;
      added =
          c.args.self.now.added;
      lemmas = c.args.self.now.lemmas;
      steps = c.pop.new.self;
    }) c.in-AtLeast.j
    c.in-AtLeast.before (c.in_ok-j.ensures.items ∙ ap (λ s. c.pop.new.self.items ++ s ∷ []) c.in-AtLeast.is) refl refl
    refl refl h

pub returns-in-Some-clause-path : goal.returns-in-Some-clause-path
returns-in-Some-clause-path c n p = path_off n c.args.self.now
    (record {
      lo = c.args.self.now.lo;
      hi = c.args.self.now.hi;
      added = c.pop-in-Under.new.self;
      lemmas =
          c.args.self.now.lemmas;
      steps = c.pop.new.self;
    }) (Under c.in-Under.t) c.in-Some.row p refl refl
    c.in-Some.ensures.items refl (c.in_ok-j.ensures.items ∙ ap (λ s. c.pop.new.self.items ++ s ∷ []) c.in-Under.is)

pub returns-in-Some-clause-at : goal.returns-in-Some-clause-at
returns-in-Some-clause-at c base turns h =
    let back : to_z w128 (of_z w128 c.in-Under.t) ≡ c.in-Under.t =
    to_z-of_z (whole_fits c.in-Under.t (last_within c.requires.path.0 c.args.self.now
    (record {
      lo = c.args.self.now.lo;
      hi = c.args.self.now.hi;
      added = c.pop-in-Under.new.self;
      lemmas =
          c.args.self.now.lemmas;
      steps = c.pop.new.self;
    }) (Under c.in-Under.t) c.requires.path.1
    (c.in_ok-j.ensures.items ∙ ap (λ s. c.pop.new.self.items ++ s ∷ []) c.in-Under.is)).0) in
    leaves_plane base turns c.args.self.now (record {
      lo = c.args.self.now.lo;
      hi = c.args.self.now.hi;
      added =
          c.pop-in-Under.new.self;
      lemmas = c.args.self.now.lemmas;
      steps = c.pop.new.self;
    }) c.in-Under.t
    (to_z w128 (of_z w128 c.in-Under.t)) c.in-Some.row (c.in_ok-j.ensures.items
    ∙ ap (λ s. c.pop.new.self.items ++ s ∷ []) c.in-Under.is) back refl refl c.in-Some.ensures.items refl h

pub returns-in-None-clause-at : goal.returns-in-None-clause-at
returns-in-None-clause-at c base turns h = absurd (no_plane_under base turns c.args.self.now
    (record {
      lo = c.args.self.now.lo;
      hi = c.args.self.now.hi;
      added = c.pop-in-Under.new.self;
      lemmas =
          c.args.self.now.lemmas;
      steps = c.pop.new.self;
    }) c.in-Under.t
    (c.in_ok-j.ensures.items ∙ ap (λ s. c.pop.new.self.items ++ s ∷ []) c.in-Under.is)
    (let none = c.in-None.ensures.cases.0 in omega (arith, c.args.self.now.added.ok.0)) h)

pub returns-in-Some-clause-left : goal.returns-in-Some-clause-left
returns-in-Some-clause-left c n p =
    let cut = last_within n c.args.self.now (record {
      lo = c.args.self.now.lo;
      hi = c.args.self.now.hi;
      added =
          c.pop-in-Under.new.self;
      lemmas = c.args.self.now.lemmas;
      steps = c.pop.new.self;
    }) (Under c.in-Under.t) p
    (c.in_ok-j.ensures.items ∙ ap (λ s. c.pop.new.self.items ++ s ∷ []) c.in-Under.is) in
    let back : to_z w128 (of_z w128 c.in-Under.t) ≡ c.in-Under.t = to_z-of_z (whole_fits c.in-Under.t cut.0) in
    (subst IsCutNumber (sym back) cut, within_last n c.pop-in-Under.new.self.items c.in-Some.row (subst (AreWithin n) c.in-Some.ensures.items p.added))

pub returns-in-Some-pop-clause-path : goal.returns-in-Some-pop-clause-path
returns-in-Some-pop-clause-path c n p = path_shown n c.args.self.now
    (record {
      lo = c.args.self.now.lo;
      hi = c.args.self.now.hi;
      added = c.args.self.now.added;
      lemmas =
          c.pop-in-Showing.new.self;
      steps = c.pop.new.self;
    }) Showing c.in-Some-pop.shown p refl refl refl
    c.in-Some-pop.ensures.items (c.in_ok-j.ensures.items ∙ ap (λ s. c.pop.new.self.items ++ s ∷ []) c.in-Showing.is)

pub returns-in-Some-pop-clause-at : goal.returns-in-Some-pop-clause-at
returns-in-Some-pop-clause-at c base turns h = leaves_proof base turns c.args.self.now
    (record {
      lo = c.args.self.now.lo;
      hi = c.args.self.now.hi;
      added = c.args.self.now.added;
      lemmas =
          c.pop-in-Showing.new.self;
      steps = c.pop.new.self;
    }) c.in-Some-pop.shown
    (c.in_ok-j.ensures.items ∙ ap (λ s. c.pop.new.self.items ++ s ∷ []) c.in-Showing.is) refl refl refl
    c.in-Some-pop.ensures.items h

pub returns-in-None-pop-clause-at : goal.returns-in-None-pop-clause-at
returns-in-None-pop-clause-at c base turns h = absurd (no_lemma_shown base turns c.args.self.now
    (record {
      lo = c.args.self.now.lo;
      hi = c.args.self.now.hi;
      added = c.args.self.now.added;
      lemmas =
          c.pop-in-Showing.new.self;
      steps = c.pop.new.self;
    })
    (c.in_ok-j.ensures.items ∙ ap (λ s. c.pop.new.self.items ++ s ∷ []) c.in-Showing.is)
    (let none = c.in-None-pop.ensures.cases.0 in omega (arith, c.args.self.now.lemmas.ok.0)) h)

pub returns-in-Some-pop-2-clause-path : goal.returns-in-Some-pop-2-clause-path
returns-in-Some-pop-2-clause-path c n p = path_off n c.args.self.now
    (record {
      lo = c.args.self.now.lo;
      hi = c.args.self.now.hi;
      added = c.pop-in-Over.new.self;
      lemmas =
          c.args.self.now.lemmas;
      steps = c.pop.new.self;
    }) Over c.in-Some-pop-2._row p refl refl
    c.in-Some-pop-2.ensures.items refl (c.in_ok-j.ensures.items ∙ ap (λ s. c.pop.new.self.items ++ s ∷ []) c.in-Over.is)

pub returns-in-Some-pop-2-clause-at : goal.returns-in-Some-pop-2-clause-at
returns-in-Some-pop-2-clause-at c base turns h = leaves_over base turns c.args.self.now
    (record {
      lo = c.args.self.now.lo;
      hi = c.args.self.now.hi;
      added = c.pop-in-Over.new.self;
      lemmas =
          c.args.self.now.lemmas;
      steps = c.pop.new.self;
    }) c.in-Some-pop-2._row
    (c.in_ok-j.ensures.items ∙ ap (λ s. c.pop.new.self.items ++ s ∷ []) c.in-Over.is) refl refl
    c.in-Some-pop-2.ensures.items refl h

pub returns-in-None-pop-2-clause-at : goal.returns-in-None-pop-2-clause-at
returns-in-None-pop-2-clause-at c base turns h = absurd (no_row_over base turns c.args.self.now
    (record {
      lo = c.args.self.now.lo;
      hi = c.args.self.now.hi;
      added = c.pop-in-Over.new.self;
      lemmas =
          c.args.self.now.lemmas;
      steps = c.pop.new.self;
    }) (c.in_ok-j.ensures.items
    ∙ ap (λ s. c.pop.new.self.items ++ s ∷ []) c.in-Over.is)
    (let none = c.in-None-pop-2.ensures.cases.0 in omega (arith, c.args.self.now.added.ok.0)) h)
