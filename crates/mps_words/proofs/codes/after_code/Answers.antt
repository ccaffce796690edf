use Rattle.std.proofs.Common.{◌≡◌, ◌∙◌, ◌++◌, List, ℕ, arith, sym, ap, take, get_or, ◌<◌}
use Rattle.mps_words.specs.InsideCodes.{bytes_code, name_of}
use Rattle.mps_words.proofs.CodeLemmas.{code_fits, are_bytes, after_found}
use Rattle.mps_words.proofs.codes.after_code.Goals as goal

pub overflow_mul-found : goal.overflow_mul-found
overflow_mul-found c = omega (arith, code_fits c.bytes.found 0 c.bytes.passed c.bytes.invariant.small (omega arith) (omega arith))

pub overflow_add-found : goal.overflow_add-found
overflow_add-found c =
    let byte : get_or c.args.text.now c.bytes.passed 0 < 256 = are_bytes c.args.text.now c.type_inv.text c.bytes.passed 0 (omega arith) in
    omega (arith, code_fits c.bytes.found (get_or c.args.text.now c.bytes.passed 0) c.bytes.passed c.bytes.invariant.small byte (omega arith))

pub returns : goal.returns
returns c =
    let code : c.args.code ≡ bytes_code (take c.bytes.passed c.args.text.now) = omega (arith, c.if-found-code.false, c.bytes.invariant.found) in
    after_found c.args.text.now c.bytes.passed c.args.code (are_bytes c.args.text.now c.type_inv.text) (omega arith) c.bytes.invariant.few c.bytes.invariant.within code
    ∙ ap (λ (rest : List ℕ). name_of c.args.code ++ rest) (sym c.split_at.ensures.back)
