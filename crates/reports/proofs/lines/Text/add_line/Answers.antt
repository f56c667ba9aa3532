use Rattle.reports.specs.Reports.{value_text}
use Rattle.reports.proofs.LineLaws.{line_added}
use Rattle.reports.proofs.lines.Text.add_line.Goals as goal

pub returns : goal.returns
returns c =
    line_added c.args.self.now c.add.new.self c.add-2.new.self c.add_value.new.self c.add-3.new.self c.args.key.now (value_text c.args.value) c.requires c.add.ensures c.add-2.ensures c.add_value.ensures c.add-3.ensures
