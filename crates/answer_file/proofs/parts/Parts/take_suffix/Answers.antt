use Rattle.std.proofs.Common.{◌∙◌, sym, ap, ap₂}
use Rattle.std.proofs.lemmas.List.{length-map}
use Rattle.answer_file.proofs.PartLemmas.{suffix-taken}
use Rattle.exact_numbers.specs.Numbers.{dec_of}
use Rattle.answer_file.specs.Names.{object_target}
use Rattle.answer_file.specs.contracts.parts.Parts.{the_view}
use Rattle.answer_file.proofs.parts.Parts.take_suffix.Goals as goal

pub returns : goal.returns
returns c =
    suffix-taken c.args.scope.now (the_view c.self.inside) c.args.self.now _ c.word_at-name.result.now c.in-Some.kind
    c.object_target-target.result c.dec_of.result c.take_object.result c.take_object.new.table
    c.self.view_is
    (length-map c.args.words.now (λ w. w.now) ∙ c.if-words-ne5.false)
    c.word_at-name.ensures
    (sym c.is_name.ensures ∙ c.if-not-is_name.false)
    (sym c.in-Some.ensures)
    (c.object_target-target.ensures ∙ ap₂ (object_target c.args.scope.now) c.objects_of-objects.ensures c.word_at.ensures)
    (c.dec_of.ensures ∙ ap dec_of c.word_at-2.ensures)
    c.take_object.ensures
