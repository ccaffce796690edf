use Rattle.std.proofs.Common.{◌≡◌, subst}
use Rattle.std.specs.Prelude.{IfOk}
use Rattle.std.specs.List.{flat_map}
use Rattle.row_scaling.proofs.LineLemmas.{text_is}
use Rattle.row_scaling.proofs.written.with_columns.Goals as goal

pub returns : goal.returns
returns c = λ s first last heads columns.
    subst (λ t. IfOk c.followed_by.result (λ v. flat_map (λ p. p.items) v.items ≡ t))
    (text_is s c.args.first c.put_columns.new.out c.args.last first last
    (c.in_ok-put_columns.ensures s heads columns)) c.followed_by.ensures
