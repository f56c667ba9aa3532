use Rattle.std.proofs.Common.{sym, ◌∙◌}
use Rattle.records.proofs.Calls.{links_held, links_not_held}
use Rattle.records.proofs.records.RecordsLinkTable.number.Goals as goal

pub returns-in_err-place : goal.returns-in_err-place
returns-in_err-place c =
    c.from_residual.ensures ∙ sym (links_not_held c.args.self.now.records.now c.args.self.now.count c.args.from c.args.to c.if-self-eq0.false c.in_err-place.ensures)

pub returns : goal.returns
returns c = sym (links_held c.args.self.now.records.now c.args.self.now.count c.args.from c.args.to c.if-self-eq0.false c.in_ok-place.place c.in_ok-place.ensures)
