-- One byte more in a room whose other bytes are 0.
use Rattle.std.proofs.Common.{◌≡◌, ◌∙◌, ℕ, ◌+◌, ◌-◌, ◌<◌, List, drop, replicate, set, sym, ap, arith}
use Rattle.std.proofs.lemmas.List.{drop-replicate, drop-set-lt, length-set, drop-drop}
use Rattle.exact_numbers.specs.InsidePadded.{IsPadded}

pub padded-push : (bytes : List ℕ) (len b : ℕ) → IsPadded bytes len → len < 96 → IsPadded (set bytes len b) (len + 1)
padded-push bytes len b h lt = record {
  room = length-set bytes len b ∙ h.room;
  within = omega (arith, lt);
  unused =
      let rest : 96 - len - 1 ≡ 96 - (len + 1) = omega arith in
      drop-set-lt (len + 1) bytes len b (omega arith) ∙ sym (drop-drop 1 len bytes) ∙ ap (drop 1) h.unused
      ∙ drop-replicate 1 (96 - len) 0 ∙ ap (λ n. replicate n 0) rest;
}
