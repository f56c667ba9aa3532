use Rattle.std.proofs.Common.{ℕ, codes, ap, subst, arith, length, length-append}
use Rattle.reports.specs.Reports.{line}
use Rattle.reports.specs.Texts.{Adds}
use Rattle.reports.proofs.EntryLaws.{to_bound, sets_bound, entry_bound, entry_added}
use Rattle.reports.proofs.lines.Text.add_entry.Goals as goal

pub add_line-requires : goal.add_line-requires
add_line-requires c = omega (arith, to_bound c.args.d (omega arith))

pub add_line-requires-2 : goal.add_line-requires-2
add_line-requires-2 c = omega (arith, to_bound c.args.d (omega arith), length-append {A = ℕ}, ap length c.hop_value.ensures.value)

pub add_line-requires-3 : goal.add_line-requires-3
add_line-requires-3 c =
    let sets = sets_bound c.args.page.now c.args.d c.hops_to-valid.result c.hops_to-valid.ensures in
    omega (arith, to_bound c.args.d (omega arith), length-append {A = ℕ}, ap length c.hop_value.ensures.value)

pub add_line-requires-4 : goal.add_line-requires-4
add_line-requires-4 c =
    let sets = sets_bound c.args.page.now c.args.d c.hops_to-valid.result c.hops_to-valid.ensures in
    omega (arith, to_bound c.args.d (omega arith), length-append {A = ℕ}, ap length c.hop_value.ensures.value)

pub returns : goal.returns
returns c =
    let hops = c.hops_to-valid in
    let hop = c.hop_value.ensures in
    let bound = entry_bound c.args.page.now c.args.d hops.result hops.ensures (omega arith) hop.bound in
    record {
      text = entry_added c.args.page.now c.args.d hops.result hops.ensures c.args.self.now c.add_line.new.self c.add_line-2.new.self c.add_line-3.new.self c.add_line-4.new.self (omega (arith, bound))
          c.add_line.ensures (subst (λ v. Adds c.add_line.new.self c.add_line-2.new.self (line (codes "tree") v)) hop.value c.add_line-2.ensures) c.add_line-3.ensures c.add_line-4.ensures;
      bound = bound;
    }
