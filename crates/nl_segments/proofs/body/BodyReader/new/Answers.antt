use Rattle.std.proofs.Common.{◌∙◌, ◌≤◌, None, refl, sym, ap, length, replicate, false, subst}
use Rattle.std.proofs.lemmas.List.{length-replicate}
use Rattle.nl_model.specs.declared.header_counts.Counts.{Counts}
use Rattle.nl_lines.specs.Saying.{empty_lines}
use Rattle.nl_lines.specs.SeenSegments.{no_segments}
use Rattle.nl_segments.specs.Held.{Body}
use Rattle.nl_lines.specs.Tests.{index_limit}
use Rattle.nl_segments.proofs.HeadLaw.{IsMade, start_held}
use Rattle.nl_segments.proofs.body.BodyReader.new.Goals as goal
use Rattle.nl_segments.proofs.body.BodyReader.new.Goals.{After-new-5}

abbrev made : After-new-5 → Body
made c =
    record {
      draft = c.in_ok-builder.builder;
      current = None;
      name = None;
      marks = c.in_ok-marks.marks;
      seen = c.in_ok-seen.seen;
      nodes = 0;
      linear = 0;
      values = 0;
      suffixes = 0;
      columns = c.new-5.result.items;
      uses = c.in_ok-uses.uses.items;
      places = c.in_ok-places.places;
    }

is_new : (c : After-new-5) → IsMade c.args.header.options c.args.header.counts (made c)
is_new c =
    record {
      draft = c.in_ok-builder.ensures;
      current = refl;
      room = λ head. subst (λ n. index_limit c.args.header.counts head ≤ n)
          (sym (ap length c.in_ok-marks.ensures ∙ length-replicate c.most_indices.result false))
          (subst (λ k. index_limit k head ≤ c.most_indices.result) c.counts.ensures.value (c.most_indices.ensures head));
      seen = c.in_ok-seen.ensures ∙ ap no_segments c.counts.ensures.value;
      nodes = refl;
      linear = refl;
      values = refl;
      suffixes = refl;
      columns = c.new-5.ensures.items;
      uses = c.in_ok-uses.ensures ∙ ap (λ (k : Counts). replicate k.n_var 0) c.counts.ensures.value;
      places = c.in_ok-places.ensures ∙ ap empty_lines c.counts.ensures.value;
    }

pub returns : goal.returns
returns c = λ rows h. start_held rows c.args.header.options c.args.header.counts (made c) h (is_new c)
