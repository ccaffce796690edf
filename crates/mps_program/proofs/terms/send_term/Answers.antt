use Rattle.std.proofs.Common.{◌∙◌, ◌++◌, [], ap, get_or}
use Rattle.std.specs.List.{filter_map}
use Rattle.mps_program.specs.Terms.{term_of}
use Rattle.mps_program.proofs.TermLemmas.{term_sent}
use Rattle.mps_program.proofs.terms.send_term.Goals as goal

pub returns-clause-terms : goal.returns-clause-terms
returns-clause-terms c = λ i rest after lt.
    ap (λ all. get_or all i [] ++ (filter_map (term_of i c.args.column) rest ++ after)) c.in_ok-push.ensures
    ∙ term_sent c.args.terms.now c.args.entry.0 c.args.column c.args.entry.1 c.requires.row c.requires.some i rest after lt
