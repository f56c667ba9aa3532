use Rattle.std.proofs.Common.{◌≡◌, length, rules, sym, ap, ◌∙◌, subst}
use Rattle.records.proofs.Making.{made_tidy, made_table}
use Rattle.records.proofs.records.Records.make.Goals as goal
use Rattle.records.specs.Lists.{list_count, list_table, Tidy}

pub invariant_of-result : goal.invariant_of-result
invariant_of-result c =
    let n = c.map_or-count.result in
    let made : n ≡ list_count (length c.args.records.now) c.args.count = search rules in
    record { ok = subst (λ rs. Tidy rs n) (sym c.clear.ensures) (made_tidy c.args.records.now c.args.count n made) }

pub returns-clause-table : goal.returns-clause-table
returns-clause-table c =
    let n = c.map_or-count.result in
    let made : n ≡ list_count (length c.args.records.now) c.args.count = search rules in
    ap (λ rs. list_table rs n) c.clear.ensures ∙ made_table c.args.records.now c.args.count n made
