use Rattle.text_base.proofs.Entries.{found_named}
use Rattle.text_base.proofs.memory.find.Goals as goal

pub returns : goal.returns
returns c = found_named c.args.texts.now c.args.name.now c.place_of.result c.place_of.ensures
