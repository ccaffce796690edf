use Rattle.std.proofs.Common.{◌≡◌, ◌∙◌, sym, subst, ap, All}
use Rattle.std.specs.Prelude.{IsSome}
use Rattle.nl_model.specs.Draft.{Draft, file_of}
use Rattle.nl_model.specs.Rules.{term_count}
use Rattle.nl_segments.specs.Held.{body_of}
use Rattle.nl_segments.proofs.EndLemmas.{finished, is_ready, missing}
use Rattle.nl_segments.proofs.body.BodyReader.finish.Goals as goal

pub finish-requires-clause-objectives : goal.finish-requires-clause-objectives
finish-requires-clause-objectives c =
    subst (λ (d : Draft). All IsSome d.objectives) (sym c.into_parts-builder.ensures.builder) (is_ready (body_of c.args.self) c.in-Ok.ensures.draft c.in-Ok.ensures.judged.0).objectives

pub finish-requires-clause-terms : goal.finish-requires-clause-terms
finish-requires-clause-terms c =
    subst (λ (d : Draft). term_count d.terms ≡ d.counts.nzc) (sym c.into_parts-builder.ensures.builder) (is_ready (body_of c.args.self) c.in-Ok.ensures.draft c.in-Ok.ensures.judged.0).terms

pub returns-in-Ok : goal.returns-in-Ok
returns-in-Ok c = λ s held.
    let all = finished (body_of c.args.self) c.in-Ok.ensures.draft c.in-Ok.ensures.judged.0 c.finish.result (c.finish.ensures ∙ ap file_of c.into_parts-builder.ensures.builder) s held in
    (all.0, all.1, c.into_parts-builder.ensures.places ∙ all.2)

pub returns-in-Err : goal.returns-in-Err
returns-in-Err c = missing (body_of c.args.self) c.in-Err.ensures.draft c.in-Err.reason c.in-Err.ensures.judged
