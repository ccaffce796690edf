use Rattle.exact_numbers.proofs.Plain.{front_words}
use Rattle.exact_numbers.proofs.front.front_dec.Goals as goal

pub returns : goal.returns
returns c = front_words c.args.text.now c.front_number.result c.front_number.ensures
