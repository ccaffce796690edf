use Rattle.std.proofs.Common.{◌≡◌, ◌<◌, length, Some, slice_get, sym, ap, subst, arith, refl, ◌∙◌}
use Rattle.std.proofs.lemmas.Option.{slice_get_read}
use Rattle.nl_model.proofs.Drafts.{given_length, given_at, none_empty}
use Rattle.nl_model.proofs.file.NlFile.given.Goals as goal

pub index-requires : goal.index-requires
index-requires c =
    let k = subst (λ f. c.args.k < f.counts.n_obj) (sym c.self.view_is) c.requires in
    let same = given_length c.self.inside.objectives.items c.self.invariant.all_given in
    omega (arith, k, same, c.self.invariant.file.objectives.count, c.self.inside.objectives.ok.0)

pub unreachable-requires : goal.unreachable-requires
unreachable-requires c =
    let k = subst (λ f. c.args.k < f.counts.n_obj) (sym c.self.view_is) c.requires in
    let same = given_length c.self.inside.objectives.items c.self.invariant.all_given in
    let inside : c.args.k < length c.self.inside.objectives.items = omega (arith, k, same, c.self.invariant.file.objectives.count) in
    none_empty c.self.inside.objectives.items c.args.k c.index.result.now c.self.invariant.all_given inside c.index.ensures c.in-None.is

pub returns : goal.returns
returns c =
    let k = subst (λ f. c.args.k < f.counts.n_obj) (sym c.self.view_is) c.requires in
    let same = given_length c.self.inside.objectives.items c.self.invariant.all_given in
    let inside : c.args.k < length c.self.inside.objectives.items = omega (arith, k, same, c.self.invariant.file.objectives.count) in
    let read = slice_get_read c.self.inside.objectives.items (length c.self.inside.objectives.items) c.args.k c.index.result.now refl inside c.index.ensures in
    subst (λ f. slice_get f.objectives c.args.k ≡ Some c.in-Some.objective) c.self.view_is
    (given_at c.self.inside.objectives.items c.args.k c.in-Some.objective c.self.invariant.all_given (read ∙ ap Some c.in-Some.is))
