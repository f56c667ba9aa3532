use Rattle.std.proofs.Common.{◌∙◌}
use Rattle.records.proofs.Rooms.{placed_held, placed_free}
use Rattle.records.proofs.records.Records.place.Goals as goal

pub returns-in-Some : goal.returns-in-Some
returns-in-Some c = placed_held c.args.self.now.records.now c.args.from c.args.to c.in-Some.held c.in-Some.ensures

pub returns-in-None : goal.returns-in-None
returns-in-None c = c.free.ensures ∙ placed_free c.args.self.now.records.now c.args.from c.args.to c.in-None.ensures
