use Rattle.std.proofs.Common.{◌≡◌, ◌<◌, ◌+◌, ◌∷◌, ap, arith, drop, length, subst, sym}
use Rattle.std.proofs.lemmas.List.{length-map}
use Rattle.linear_program.specs.Decimals.{fraction_term, fraction_terms}
use Rattle.linear_program.specs.Forms.{source_from}
use Rattle.linear_program.proofs.Merging.{term_drop}
use Rattle.linear_program.proofs.form_terms.FormTermsIterator.next.Goals as goal

pub returns-else-self-items-clause-goes : goal.returns-else-self-items-clause-goes
returns-else-self-items-clause-goes c =
    let ds = c.in-Decimals.terms.now in
    let i = c.args.self.now.next in
    let within : i < length (fraction_terms ds) = let h = c.if-self-items.false in let l = ap length c.items.ensures.items in let m = length-map ds fraction_term in omega (arith, c.items.result) in
    let at : drop i (fraction_terms ds) ≡ c.at-term.result ∷ drop (i + 1) (fraction_terms ds) = term_drop (fraction_terms ds) i c.at-term.result within c.at-term.ensures in
    let shorter : length (source_from c.args.self.now.source (i + 1)) < length (source_from c.args.self.now.source i) =
    subst (λ s. length (source_from s (i + 1)) < length (source_from s i)) (sym c.in-Decimals.is) (let l = ap length at in omega arith) in
    record { on = λ f. (tt, tt, shorter); keeps = tt; rests = λ f. tt }
