use Rattle.std.proofs.Common.{◌<◌, ◌^◌, ap, arith, length, length-append, ℕ}
use Rattle.std.proofs.lemmas.Fmt.{length-decimal-le}
use Rattle.std.proofs.lemmas.List.{length-replicate}
use Rattle.exact_numbers.specs.Written.{zeros}
use Rattle.written_texts.proofs.line_text.LineText.put_zeros.Goals as goal

pub put_number-requires : goal.put_number-requires
put_number-requires g c =
    let small : c.args.number < 2 ^ 64 = omega (arith, c.ranges.number.fits) in
    omega (
      arith,
      c.requires.few,
      c.requires.room,
      c.loop.auto.counter-end,
      ap length c.loop.invariant,
      length-append (zeros c.loop.counter) c.args.self.now,
      length-replicate {A = ℕ} c.loop.counter 48,
      length-decimal-le 20 c.args.number (omega arith) (omega arith) small,
    )
