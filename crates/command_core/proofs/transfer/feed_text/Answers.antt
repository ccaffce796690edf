use Rattle.command_core.proofs.Known.{whole_fed}
use Rattle.command_core.proofs.transfer.feed_text.Goals as goal

pub returns-clause-text : goal.returns-clause-text
returns-clause-text g c = whole_fed _ _ _ _ _ _ _ _ _ _ c.in_ok-start.ensures.text c.in_ok-feed_rest.ensures.text
