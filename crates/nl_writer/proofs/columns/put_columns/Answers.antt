use Rattle.std.proofs.Common.{◌≡◌, ◌-◌, ◌≤◌, arith, ap, ap₂, rules, ◌^◌, length, take}
use Rattle.std.proofs.lemmas.List.{length-take}
use Rattle.nl_writer.proofs.ColumnSums.{columns_written, no_columns}
use Rattle.nl_writer.proofs.columns.put_columns.Goals as goal

pub put_sums-requires : goal.put_sums-requires
put_sums-requires c =
    let uses = c.in_ok-uses.uses.items in
    let same : c.deref.result.now ≡ uses = c.deref.ensures.value in
    let most : length uses ≤ 2 ^ 20 = c.in_ok-uses.ensures.few in
    omega (arith, length-take (c.len-count.result - 1) c.deref.result.now, ap length same, most)

pub returns : goal.returns
returns c =
    let uses = c.in_ok-uses.uses.items in
    let file = c.args.file.now in
    let has = c.in_ok-uses.ensures.uses in
    let size : c.len-count.result ≡ file.counts.n_var = omega (arith, ap length c.deref.ensures.value, c.deref.ensures.len, has.count, c.len-count.ensures) in
    let front : take (c.len-count.result - 1) c.deref.result.now ≡ take (file.counts.n_var - 1) uses = ap₂ (λ k xs. take (k - 1) xs) size c.deref.ensures.value in
    columns_written file.counts.n_var file.terms uses (take (c.len-count.result - 1) c.deref.result.now)
    c.args.out.now.items c.put_lettered.new.out.items c.put_end.new.out.items c.put_sums.new.out.items
    has (omega (arith, size)) front (search rules) c.in_ok-put_end.ensures c.in_ok-put_sums.ensures

pub returns-then-count-eq0 : goal.returns-then-count-eq0
returns-then-count-eq0 c =
    let has = c.in_ok-uses.ensures.uses in
    let size : c.len-count.result ≡ c.args.file.now.counts.n_var = omega (arith, c.len-count.ensures, c.in_ok-uses.uses.ok.0, has.count) in
    no_columns c.args.file.now.counts.n_var c.args.file.now.terms c.args.out.now.items (omega (arith, size))
