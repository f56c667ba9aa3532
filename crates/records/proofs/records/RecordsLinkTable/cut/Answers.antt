use Rattle.std.proofs.Common.{◌≡◌, length, None, Err, subst, rules}
use Rattle.records.proofs.Calls.{cut_tidy, cut_granted, cut_not_kept}
use Rattle.records.proofs.records.RecordsLinkTable.cut.Goals as goal
use Rattle.faults.specs.declared.fault.Fault.TheVariants.{Table}
use Rattle.faults.specs.declared.refusal.Refusal.TheVariants.{NotKept}
use Rattle.records.specs.Lists.{list_table, found, held_at}
use Rattle.tables.specs.Tables.{Cut}
use Rattle.tables.proofs.Pairs.{pair_checked}

pub returns-in_err-place-clause-table : goal.returns-in_err-place-clause-table
returns-in_err-place-clause-table c =
    let self = c.args.self.now in
    let t = list_table self.records.now self.count in
    let p = pair_checked self.count c.args.from c.args.to (search rules) in
    let none : None ≡ found (held_at self.records.now c.args.from c.args.to) (length self.records.now) = search rules in
    let refused : Err (Table NotKept 0) ≡ c.from_residual-in_err-place.result = search rules in
    subst (λ r. Cut c.args.from c.args.to t r t) refused (cut_not_kept self.records.now self.count c.args.from c.args.to self.ok p.0 p.1 p.2 none)

pub invariant_of-self : goal.invariant_of-self
invariant_of-self c =
    let self = c.args.self.now in
    let p = pair_checked self.count c.args.from c.args.to (search rules) in
    record { ok = cut_tidy self.records.now self.count c.args.from c.args.to self.ok p.0 p.1 p.2 c.in_ok-place.place (search rules) }

pub returns-clause-table : goal.returns-clause-table
returns-clause-table c =
    let self = c.args.self.now in
    let p = pair_checked self.count c.args.from c.args.to (search rules) in
    cut_granted self.records.now self.count c.args.from c.args.to self.ok p.0 p.1 p.2 c.in_ok-place.place (search rules)
