use Rattle.std.proofs.Common.{◌∙◌, ap, subst}
use Rattle.certificates.specs.Reading.{given_in}
use Rattle.certified_solution.specs.Solution.{AreDecimalsOf, code_of, point_values}
use Rattle.certified_solution.proofs.One.{built, built_given}
use Rattle.certified_solution.proofs.solution.certified_solution.Goals as goal

pub finish-requires : goal.finish-requires
finish-requires c =
    let a = c.args.certificate.now in
    let found = subst (λ o. AreDecimalsOf o (point_values c.args.n_var a.claim (given_in a))) c.in-Some.is c.in_ok-primals.ensures in
    built_given c.args.options c.args.n_con c.args.n_var c.args.line.now a.claim (given_in a) c.set_objno.new.sol
    (built c.args.options c.args.n_con c.args.n_var c.args.line.now a.claim (given_in a) c.args.objective c.code_of-code.result _ _
    c.new-sol.result c.say.new.self c.add_duals.new.sol c.add_primals.new.sol c.set_objno.new.sol
    c.new-sol.ensures c.in_ok-say.ensures.ok c.in_ok-add_duals.ensures c.in_ok-add_primals.ensures c.set_objno.ensures
    c.requires.objective (c.code_of-code.ensures.code ∙ ap code_of c.claim.ensures) c.in_ok-duals.ensures found.1)
