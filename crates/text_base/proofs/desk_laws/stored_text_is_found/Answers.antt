use Rattle.text_base.proofs.Entries.{text_named-with, text_named-others}
use Rattle.text_base.proofs.desk_laws.stored_text_is_found.Goals as goal

pub returns-clause-named : goal.returns-clause-named
returns-clause-named c texts name text = text_named-with texts name text

pub returns-clause-others : goal.returns-clause-others
returns-clause-others c texts name text other differs = text_named-others texts name text other differs
