use Rattle.std.proofs.Common.{subst}
use Rattle.nl_lines.specs.Leaves.{IsLeafRow}
use Rattle.nl_lines.proofs.LeafLemmas.{number_decided, variable_decided, opcode_decided}
use Rattle.nl_lines.proofs.leaf_row.read_leaf_row.Goals as goal

pub returns-in-Number : goal.returns-in-Number
returns-in-Number c = λ words p. number_decided c.args.builder.now.counts c.args.builder.now words c.in-Number.number
    c.read_number.result (subst (IsLeafRow words) c.in-Number.is p) c.read_number.ensures

pub returns-in-Variable : goal.returns-in-Variable
returns-in-Variable c = λ words p. variable_decided c.args.builder.now.counts c.args.builder.now words
    c.in-Variable.index c.read_variable.result (subst (IsLeafRow words) c.in-Variable.is p) c.read_variable.ensures

pub returns-in-Opcode : goal.returns-in-Opcode
returns-in-Opcode c = λ words p. opcode_decided c.args.builder.now.counts c.args.builder.now words c.in-Opcode.opcode
    c.read_opcode.result (subst (IsLeafRow words) c.in-Opcode.is p) c.read_opcode.ensures
