use Rattle.std.proofs.Common.{◌∙◌}
use Rattle.nl_header.proofs.ReaderLemmas.{line_words, line_short, line_rules, short_at}
use Rattle.nl_header.proofs.rules.judge_line.Goals as goal

pub returns-in-Err : goal.returns-in-Err
returns-in-Err c = line_words _ _ _ _ c.in-Err.ensures

pub returns-then-is_short : goal.returns-then-is_short
returns-then-is_short c =
    line_short _ _ _ c.in_default.ensures
    (short_at _ _ _ _ c.args.text.now _ c.is_short.ensures c.header_table-table.ensures (c.words.ensures ∙ c.requires) c.if-is_short.true)

pub returns-in-Err-judge_rules : goal.returns-in-Err-judge_rules
returns-in-Err-judge_rules c =
    line_rules _ _ _ _ c.in_default.ensures
    (short_at _ _ _ _ c.args.text.now _ c.is_short.ensures c.header_table-table.ensures (c.words.ensures ∙ c.requires) c.if-is_short.false) c.in-Err-judge_rules.ensures

pub returns : goal.returns
returns c =
    line_rules _ _ _ _ c.in_default.ensures
    (short_at _ _ _ _ c.args.text.now _ c.is_short.ensures c.header_table-table.ensures (c.words.ensures ∙ c.requires) c.if-is_short.false) c.in_default-judge_rules.ensures
