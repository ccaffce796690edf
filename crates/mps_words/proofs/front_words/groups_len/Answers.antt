use Rattle.std.proofs.Common.{◌≡◌, ◌∙◌, ℕ, List, refl, ap, subst, arith, drop, take, drop-drop, true}
use Rattle.std.proofs.lemmas.Grind.{common_steps}
use Rattle.text_base.specs.Names.{has_name_bytes}
use Rattle.mps_words.proofs.FrontWords.{more_bytes}
use Rattle.mps_words.proofs.front_words.groups_len.Goals as goal

pub groups-preserved : goal.groups-preserved
groups-preserved c = record {
  within = grind (arith, common_steps, c.groups.invariant.left, c.groups-test.ensures.long refl);
  left = c.split_at.ensures.back ∙ ap (drop 8) c.groups.invariant.left ∙ drop-drop 8 c.groups.passed c.args.bytes.now;
  each = more_bytes c.args.bytes.now c.groups.passed 8 c.groups.invariant.each
      (subst (λ (rest : List ℕ). has_name_bytes (take 8 rest) ≡ true) c.groups.invariant.left
      (c.groups-test.ensures.each refl));
}
