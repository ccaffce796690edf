use Rattle.std.proofs.Common.{◌∙◌, ap₂, [], ◌∷◌, ◌++◌, length, map}
use Rattle.std.specs.Prelude.{codes}
use Rattle.std.specs.Fmt.{decimal, signed_decimal}
use Rattle.sol_files.specs.Written.{sol_text, sol_lines}
use Rattle.text_base.specs.Cut.{ended_lines}
use Rattle.sol_files.proofs.WriteLemmas.{seven_parts}
use Rattle.sol_files.proofs.write.write_sol.Goals as goal

pub returns : goal.returns
unfolding sol_text sol_lines
returns c =
    seven_parts c.args.sol.now.message (([] ∷ codes "Options" ∷ decimal (length c.args.sol.now.options) ∷ []) ++ map signed_decimal c.args.sol.now.options) _ _ _ _ _ _ _ _ _ _ _ _
    (c.in_ok-put_lines.ensures ∙ ap₂ (λ o ls. o ++ ended_lines ls) c.new-out.ensures.items c.message.ensures)
    (rw c.options.ensures at c.in_ok-put_all_options.ensures)
    c.in_ok-put_sizes.ensures
    (rw (c.items.ensures ∙ c.duals.ensures.value) at c.in_ok-put_decs.ensures)
    (rw (c.items-2.ensures ∙ c.primals.ensures.value) at c.in_ok-put_decs-2.ensures)
    (rw c.objno.ensures at c.in_ok-put_objno.ensures)
    (rw c.suffixes.ensures at c.in_ok-put_suffixes.ensures)
