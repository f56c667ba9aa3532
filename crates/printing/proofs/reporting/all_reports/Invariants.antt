use Rattle.std.proofs.Common.{◌≡◌}
use Rattle.area.specs.Meaning.{area_of}
use Rattle.routes.specs.Lists.{gather}
use Rattle.printing.specs.Roots.{root_text, Wide}
use Rattle.printing.proofs.reporting.all_reports.Given as goal

-- the reports of the routers so far, of the same table
abbrev pub invariant-loop-root : goal.invariant-loop-root
invariant-loop-root g l = record {
  text : l.text.items ≡ gather l.root (root_text g.C.Cost.costs (area_of g.T.LinkTable l.initial.area).table);
  table : (area_of g.T.LinkTable l.area).table ≡ (area_of g.T.LinkTable l.initial.area).table;
  pages : Wide (area_of g.T.LinkTable l.area).pages;
}
