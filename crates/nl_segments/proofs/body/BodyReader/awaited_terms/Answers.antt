use Rattle.std.proofs.Common.{◌∙◌, ◌<◌, arith, sym}
use Rattle.std.proofs.lemmas.Bool.Decides.{nat_tests}
use Rattle.nl_segments.specs.Held.{body_of}
use Rattle.nl_segments.proofs.PairLines.{has_owner}
use Rattle.nl_segments.proofs.StandingLemmas.{given_at_once}
use Rattle.nl_segments.proofs.body.BodyReader.awaited_terms.Goals as goal

pub terms_follow-requires : goal.terms_follow-requires
terms_follow-requires c = has_owner c.requires.0 (body_of c.args.self.now) c.in-Some.current c.head-head.result c.requires.1 c.in-Some.is c.head-head.ensures

pub returns : goal.returns
returns c =
    let next = sym c.terms_follow.ensures ∙ c.if-not-terms_follow.false in
    let given = given_at_once c.args.self.now.places c.head-head.result c.args.line next in
    let some : 0 < c.min-most.result = grind (arith, nat_tests, c.if-most-eq0.false) in
    record {
      current = c.in-Some.current;
      awaits = record {
        current = c.in-Some.is;
        same_head = sym c.head-head.ensures;
        linear = given.0;
        given = given.1;
        some = some;
        left = omega (arith, c.min-most.ensures, c.left.ensures);
        few = omega (arith, c.min-most.ensures, c.requires.1.few_terms);
      };
      held = c.requires;
      owner = has_owner c.requires.0 (body_of c.args.self.now) c.in-Some.current c.head-head.result c.requires.1 c.in-Some.is c.head-head.ensures;
      next = next;
    }
