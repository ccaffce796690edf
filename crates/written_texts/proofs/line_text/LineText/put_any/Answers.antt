use Rattle.std.proofs.Common.{arith, ap, length}
use Rattle.written_texts.proofs.Lengths.{text-length}
use Rattle.written_texts.proofs.line_text.LineText.put_any.Goals as goal

pub put_word-requires : goal.put_word-requires
put_word-requires g c = omega (arith, c.requires, text-length c.args.value, ap length c.bytes.ensures, ap length c.write_to.ensures)
