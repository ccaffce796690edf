use Rattle.std.proofs.Common.{◌<◌, arith, get_or}
use Rattle.mps_words.proofs.CodeLemmas.{are_bytes, code_fits}
use Rattle.mps_words.proofs.codes.short_key.Goals as goal

pub overflow_mul-code : goal.overflow_mul-code
overflow_mul-code c = omega (arith, code_fits c.bytes.code 0 c.bytes.byte-index c.bytes.invariant.small (omega arith) (omega (arith, c.bytes-test.true, c.requires)))

pub overflow_add-code : goal.overflow_add-code
overflow_add-code c =
    let byte : get_or c.args.name.now c.bytes.byte-index 0 < 256 = are_bytes c.args.name.now c.type_inv.name c.bytes.byte-index 0 c.bytes-test.true in
    omega (arith, code_fits c.bytes.code (get_or c.args.name.now c.bytes.byte-index 0) c.bytes.byte-index c.bytes.invariant.small byte (omega (arith, c.bytes-test.true, c.requires)))
