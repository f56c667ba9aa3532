use Rattle.std.proofs.Common.{rules}
use Rattle.pagetable.specs.Walks.{trail_on}
use Rattle.area.proofs.Walking.{arrives_there, arrives_not}
use Rattle.area.proofs.area.Area.walk.Goals as goal

pub returns-then-trail-hops-clause-answer : goal.returns-then-trail-hops-clause-answer
returns-then-trail-hops-clause-answer g c =
    let come = arrives_there c.args.from c.args.to (trail_on c.args.self.now.pages c.count-count.result c.args.to c.args.picks.now c.args.from) c.args.trail.now
    c.walk-hops.new.trail c.walk-hops.result c.walk-hops.ensures.hops c.walk-hops.ensures.memory c.if-trail-hops.true in
    search rules

pub returns-else-trail-hops-clause-answer : goal.returns-else-trail-hops-clause-answer
returns-else-trail-hops-clause-answer g c =
    let come = arrives_not c.args.from c.args.to (trail_on c.args.self.now.pages c.count-count.result c.args.to c.args.picks.now c.args.from) c.args.trail.now
    c.walk-hops.new.trail c.walk-hops.result c.walk-hops.ensures.hops c.walk-hops.ensures.memory c.if-trail-hops.false in
    search rules
