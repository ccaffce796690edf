use Rattle.nl_model.proofs.Headers.{counts_of_header}
use Rattle.nl_model.proofs.header.Header.counts.Goals as goal

pub returns-clause-facts : goal.returns-clause-facts
returns-clause-facts c = counts_of_header c.args.self.now.options c.args.self.now.counts c.args.self.now.ruled
