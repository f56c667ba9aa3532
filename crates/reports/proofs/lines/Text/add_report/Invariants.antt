use Rattle.reports.proofs.ReportLaws.{Grown}
use Rattle.reports.proofs.lines.Text.add_report.Given as goal

abbrev pub invariant-loop-d : goal.invariant-loop-d
invariant-loop-d l = Grown l.initial.self l.self l.root l.page l.d
