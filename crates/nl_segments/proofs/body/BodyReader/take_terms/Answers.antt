use Rattle.std.proofs.Common.{◌∙◌, ap, refl, subst, sym, ◌+◌}
use Rattle.nl_segments.specs.Held.{body_of}
use Rattle.nl_segments.specs.InsidePlaceSteps.{with_term_run}
use Rattle.nl_segments.specs.InsideTermRuns.{TakesLines}
use Rattle.nl_segments.proofs.body.BodyReader.take_terms.Goals as goal

pub returns : goal.returns
returns c =
    let b = body_of c.args.self.now in
    let front = c.give_terms-front.result in
    let h = c.in-Some.ensures in
    subst (TakesLines b c.args.piece.now c.args.number front)
    (λ i. record b {
      draft = c.give_terms-front.new.builder;
      current = sym (rw h.awaits.current at c.pass_lines.ensures.current) i;
      name = sym (rw h.awaits.current at c.pass_lines.ensures.name) i;
      linear = b.linear + front.lines;
      uses = c.give_terms-front.new.uses.items;
      places = sym (c.add_terms.ensures ∙ ap (λ x. with_term_run b.places c.args.number front.lines x) (sym h.awaits.same_head)) i;
    })
    (c.give_terms-front.ensures.takes b h.current c.args.number (record { draft = refl; uses_are = refl; awaits = h.awaits }))
