use Rattle.std.proofs.Common.{◌∙◌, arith, rules}
use Rattle.tables.specs.Meaning.{means}
use Rattle.area.proofs.Settles.{settled}
use Rattle.area.proofs.area.Area.settle.Goals as goal

pub returns-clause-area : goal.returns-clause-area
returns-clause-area g c =
    let made = c.settle-page.ensures in
    let square = c.new-square.result in
    let is = c.new-square.ensures in
    settled g.C.Cost.costs g.met.C.Cost.lawful (means g.T.LinkTable c.args.self.now.table.below) square.count square.places.now
    (is.count ∙ c.count-count.ensures.value) (is.places ∙ c.read_links-links.ensures) (omega (arith, is.count, c.count-count.ensures.bound))
    c.args.root c.args.best.now c.args.rest.now c.args.waiting.now (search rules)
    c.args.self.now.pages c.settle-page.result c.settle-page.new.best c.settle-page.new.rest c.settle-page.new.waiting c.enter.new.self
    made.page made.answers made.best made.rest c.enter.ensures
