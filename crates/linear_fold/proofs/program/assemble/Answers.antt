use Rattle.std.proofs.Common.{◌∙◌, ap}
use Rattle.linear_program.specs.Programs.{LinearValue, linear_value}
use Rattle.linear_fold.proofs.BodyLemmas.{is_linear, is_program}
use Rattle.linear_fold.proofs.program.assemble.Goals as goal

pub of_parts-requires : goal.of_parts-requires
of_parts-requires c =
    is_linear c.args.file.now c.requires.file c.args.objective c.args.bodies.items c.args.form c.requires.forms
    c.is_maximised-maximise.result c.in_ok-sides.sides.items c.in_ok-bounds.bounds.items c.in_ok-kinds.kinds.items
    c.is_maximised-maximise.ensures c.in_ok-sides.ensures c.in_ok-bounds.ensures c.in_ok-kinds.ensures
    c.requires.counts

pub returns : goal.returns
returns c =
    record {
      linear = ap linear_value c.of_parts.ensures ∙ is_program c.args.file.now c.requires.file c.args.objective
          c.args.bodies.items c.args.form c.requires.forms c.is_maximised-maximise.result c.in_ok-sides.sides.items
          c.in_ok-bounds.bounds.items c.in_ok-kinds.kinds.items c.is_maximised-maximise.ensures c.in_ok-sides.ensures
          c.in_ok-bounds.ensures c.in_ok-kinds.ensures;
      number = ap (λ (l : LinearValue). l.number) c.of_parts.ensures;
      sides = ap (λ (l : LinearValue). l.sides) c.of_parts.ensures ∙ c.in_ok-sides.ensures;
      bounds = ap (λ (l : LinearValue). l.bounds) c.of_parts.ensures ∙ c.in_ok-bounds.ensures;
      kinds = ap (λ (l : LinearValue). l.kinds) c.of_parts.ensures ∙ c.in_ok-kinds.ensures;
    }
