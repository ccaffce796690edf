use Rattle.std.proofs.Common.{◌≡◌, ◌∙◌, ◌++◌, ◌∷◌, [], length, ap, rules}
use Rattle.text_base.proofs.CutLines.{pushed}
use Rattle.text_base.proofs.text_lines.TextLines.push.Goals as goal

pub invariant_of-self-2 : goal.invariant_of-self-2
invariant_of-self-2 c =
    let len : c.len.result ≡ length c.extend_from_slice.new.self.items = search rules in
    let ends : c.push.new.self.items ≡ c.self.inside.ends.items ++ length c.extend_from_slice.new.self.items ∷ [] = search (rules, len) in
    (pushed _ c.self.inside.ends.items c.args.line.now _ _ c.self.invariant c.in_ok-extend_from_slice.ensures.items ends).ends_are

pub returns-clause-ok : goal.returns-clause-ok
returns-clause-ok c =
    let len : c.len.result ≡ length c.extend_from_slice.new.self.items = search rules in
    let ends : c.push.new.self.items ≡ c.self.inside.ends.items ++ length c.extend_from_slice.new.self.items ∷ [] = search (rules, len) in
    (pushed _ c.self.inside.ends.items c.args.line.now _ _ c.self.invariant c.in_ok-extend_from_slice.ensures.items ends).lines ∙ ap (λ ls. ls ++ c.args.line.now ∷ []) c.self.view_is
