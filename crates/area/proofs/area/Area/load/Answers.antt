use Rattle.tables.specs.Meaning.{means}
use Rattle.area.proofs.Files.{reads_files}
use Rattle.area.proofs.area.Area.load.Goals as goal

pub returns-in_err-load_count-clause-exact : goal.returns-in_err-load_count-clause-exact
returns-in_err-load_count-clause-exact g c = reads_files g.C.Cost.costs g.C.Cost.title (means g.T.LinkTable c.args.self.now.table.below) c.args.text.now

pub returns-in_err-load_rule-clause-exact : goal.returns-in_err-load_rule-clause-exact
returns-in_err-load_rule-clause-exact g c = reads_files g.C.Cost.costs g.C.Cost.title (means g.T.LinkTable c.args.self.now.table.below) c.args.text.now

pub returns-clause-exact : goal.returns-clause-exact
returns-clause-exact g c = reads_files g.C.Cost.costs g.C.Cost.title (means g.T.LinkTable c.args.self.now.table.below) c.args.text.now
