use Rattle.std.proofs.Common.{◌≡◌, length, None, Err, subst, rules, arith}
use Rattle.records.proofs.Calls.{put_tidy, put_granted, put_full}
use Rattle.records.proofs.records.RecordsLinkTable.put.Goals as goal
use Rattle.faults.specs.declared.fault.Fault.TheVariants.{Table}
use Rattle.faults.specs.declared.refusal.Refusal.TheVariants.{Full}
use Rattle.records.specs.Lists.{list_table, found, place_of}
use Rattle.tables.specs.Tables.{Put}
use Rattle.tables.proofs.Pairs.{pair_checked}

pub returns-in_err-place-clause-table : goal.returns-in_err-place-clause-table
returns-in_err-place-clause-table c =
    let self = c.args.self.now in
    let t = list_table self.records.now self.count in
    let p = pair_checked self.count c.args.from c.args.to (search rules) in
    let none : None ≡ found (place_of self.records.now c.args.from c.args.to) (length self.records.now) = search rules in
    let refused : Err (Table Full 0) ≡ c.from_residual-in_err-place.result = search rules in
    subst (λ r. Put c.args.from c.args.to c.args.number t r t) refused (put_full self.records.now self.count c.args.from c.args.to self.ok p.0 p.1 p.2 c.args.number none (omega arith) (omega arith))

pub invariant_of-self : goal.invariant_of-self
invariant_of-self c =
    let self = c.args.self.now in
    let p = pair_checked self.count c.args.from c.args.to (search rules) in
    record { ok = put_tidy self.records.now self.count c.args.from c.args.to self.ok p.0 p.1 p.2 c.args.number c.in_ok-place.place (search rules) }

pub returns-clause-table : goal.returns-clause-table
returns-clause-table c =
    let self = c.args.self.now in
    let p = pair_checked self.count c.args.from c.args.to (search rules) in
    put_granted self.records.now self.count c.args.from c.args.to self.ok p.0 p.1 p.2 c.args.number c.in_ok-place.place (search rules) (omega arith) (omega arith)
