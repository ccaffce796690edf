use Rattle.nl_model.proofs.Opcodes.{class_of-opcode, opcode_of-known}
use Rattle.nl_model.proofs.laws.classes_have_one_opcode.Goals as goal

pub returns-clause-class : goal.returns-clause-class
returns-clause-class c = class_of-opcode

pub returns-clause-opcode : goal.returns-clause-opcode
returns-clause-opcode c = opcode_of-known
