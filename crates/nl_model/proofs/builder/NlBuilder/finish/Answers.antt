use Rattle.std.proofs.Common.{◌≡◌, length, All, IsSome, sym, subst}
use Rattle.nl_model.specs.Rules.{term_count}
use Rattle.nl_model.specs.InsideBuilt.{draft_of}
use Rattle.nl_model.proofs.Drafts.{file_of_draft}
use Rattle.nl_model.proofs.builder.NlBuilder.finish.Goals as goal

pub invariant_of-result : goal.invariant_of-result
invariant_of-result c =
    let is = sym c.self.view_is in
    let all = subst (λ d. All IsSome d.objectives) is c.requires.objectives in
    record {
      file = file_of_draft (draft_of c.self.inside) c.self.invariant.draft all
          (subst (λ d. length d.sides ≡ d.counts.n_con) is c.requires.sides)
          (subst (λ d. length d.bounds ≡ d.counts.n_var) is c.requires.bounds)
          (subst (λ d. term_count d.terms ≡ d.counts.nzc) is c.requires.terms);
      all_given = all;
    }
