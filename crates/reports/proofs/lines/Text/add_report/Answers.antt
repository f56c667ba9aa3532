use Rattle.std.proofs.Common.{◌≡◌, subst, arith}
use Rattle.reports.proofs.ReportLaws.{Grown, root_bound, grown_none, grown_root, grown_entry, report_added, report_bound}
use Rattle.reports.proofs.lines.Text.add_report.Goals as goal
use Rattle.reports.proofs.lines.Text.add_report.Goals.{then-d-root, else-d-root}

pub add_line-requires : goal.add_line-requires
add_line-requires c = omega (arith, root_bound c.args.root (omega arith))

pub loop-d-init : goal.loop-d-init
loop-d-init c = grown_none c.add_line.new.self c.args.root c.args.page.now

pub add_entry-requires : goal.add_entry-requires
add_entry-requires c =
    (omega arith, omega (arith, root_bound c.args.root (omega arith), c.loop-d.invariant.bound))

pub loop-d-preserved : goal.loop-d-preserved
loop-d-preserved c =
    let first = root_bound c.args.root (omega arith) in
    let start = c.add_line.new.self in
    let root = c.args.root in
    let page = c.args.page.now in
    let d = c.loop-d.d in
    elim c.if-d-root.branch [
      | then-d-root w ↦ rw w.self-is (grown_entry start root page c.loop-d.self w.add_entry.new.self d (omega arith) c.loop-d.invariant w.if-d-root.true w.add_entry.ensures.text w.add_entry.ensures.bound)
      | else-d-root w ↦ rw w.self-is (grown_root start root page c.loop-d.self d c.loop-d.invariant w.if-d-root.false)
    ]

pub returns : goal.returns
returns c =
    let page = c.args.page.now in
    let count = c.args.count in
    let root = c.args.root in
    let all : c.loop-d.d ≡ count = omega arith in
    let grown = subst (Grown c.add_line.new.self c.loop-d.self root page) all c.loop-d.invariant in
    record {
      text = report_added count root page c.args.self.now c.add_line.new.self c.loop-d.self (omega (arith, root_bound root (omega arith))) c.add_line.ensures grown;
      bound = report_bound count root page c.add_line.new.self c.loop-d.self (omega arith) c.requires.0 grown;
    }
