use Rattle.std.proofs.Common.{◌≡◌, false, sym, subst}
use Rattle.nl_model.specs.Rules.{AreTermsBelow, has_suffix, object_count}
use Rattle.nl_model.specs.InsideBuilt.{draft_of}
use Rattle.nl_model.proofs.Guesses.{suffixes-push, kept-suffix}
use Rattle.nl_model.proofs.builder.NlBuilder.suffix.Goals as goal

pub invariant_of-self-2 : goal.invariant_of-self-2
invariant_of-self-2 c =
    let is = sym c.self.view_is in
    let d = draft_of c.self.inside in
    kept-suffix d c.self.inside.defined.items c.self.inside.term_count c.push.new.self.items c.self.invariant
    (suffixes-push d.counts d.suffixes c.args.suffix c.push.new.self.items c.self.invariant.draft.suffixes
    (record {
      below = subst (λ d. AreTermsBelow (object_count d.counts c.args.suffix.kind) c.args.suffix.values) is c.requires.objects;
      apart = c.requires.apart;
    })
    (subst (λ d. has_suffix d.suffixes c.args.suffix.kind c.args.suffix.name ≡ false) is c.requires.fresh)
    c.in_ok-push.ensures.items)
