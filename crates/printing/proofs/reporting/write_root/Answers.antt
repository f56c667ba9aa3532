use Rattle.std.proofs.Common.{◌≡◌, length, take, is_ok, ap, ◌∙◌, sym, subst, arith}
use Rattle.area.specs.Meaning.{area_of}
use Rattle.area.specs.Networks.{standing_on}
use Rattle.page_settling.specs.Settled.{page_kept}
use Rattle.pagetable.specs.Pages.{entered}
use Rattle.printing.specs.Rooms.{Room}
use Rattle.printing.specs.Roots.{root_text, Wide}
use Rattle.printing.proofs.RootLaws.{settle_ok, settled_pages, entered_wide, report_ok, report_fits, report_front}
use Rattle.printing.proofs.reporting.write_root.Goals as goal
use Rattle.printing.proofs.reporting.write_root.Given.{Over}
use Rattle.printing.proofs.reporting.write_root.Goals.{After-settle, After-report}

-- the memories as they are handed on have room
handed : (g : Over) (c : After-settle g) → Room (length c.deref_mut.result.now) (length c.deref_mut-2.result.now) (length c.deref_mut-3.result.now)
handed g c =
    let room = c.args.rooms.now.room in
    record {
      costs = omega (arith, room.costs, c.deref_mut.ensures.len);
      rows = omega (arith, room.rows, c.deref_mut-2.ensures.len);
      entries = omega (arith, room.entries, c.deref_mut-3.ensures.len);
    }

pub unwrap-requires : goal.unwrap-requires
unwrap-requires g c =
    settle_ok g.C.Cost.costs (area_of g.T.LinkTable c.args.area.now) c.args.root (g.T.LinkTable.laws c.args.area.now.table.below) c.requires.inside c.requires.pages
    _ _ _ _ _ _ _ _ (handed g (goal.at.unwrap-requires g c).After-settle) c.settle.ensures.area

-- the page is entered
page_entered : (g : Over) (c : After-report g) → c.settle.new.self.pages ≡ entered c.args.root (page_kept (standing_on g.C.Cost.costs (area_of g.T.LinkTable c.args.area.now).table) c.args.root) c.args.area.now.pages
page_entered g c =
    settled_pages g.C.Cost.costs (area_of g.T.LinkTable c.args.area.now) c.args.root (g.T.LinkTable.laws c.args.area.now.table.below) c.requires.inside c.requires.pages
    _ _ _ _ _ _ _ _ (handed g (goal.at.After-report g c).After-settle) c.settle.ensures.area

pub unwrap-requires-2 : goal.unwrap-requires-2
unwrap-requires-2 g c =
    ap is_ok (report_ok g.C.Cost.costs (area_of g.T.LinkTable c.args.area.now) c.args.root (g.T.LinkTable.laws c.args.area.now.table.below) c.requires.inside c.requires.pages
    (area_of g.T.LinkTable c.settle.new.self) c.settle.ensures.area.table (page_entered g (goal.at.unwrap-requires-2 g c).After-report) c.args.out.now c.requires.bytes c.report.result c.report.ensures.answer)

pub returns : goal.returns
returns g c =
    let k = g.C.Cost.costs in
    let a = area_of g.T.LinkTable c.args.area.now in
    let b = area_of g.T.LinkTable c.settle.new.self in
    let root = c.args.root in
    let laws = g.T.LinkTable.laws c.args.area.now.table.below in
    let old = c.args.out.now in
    let settle = c.settle.ensures.area in
    let report = c.report.ensures in
    let pages = page_entered g (goal.at.returns g c).After-report in
    let told = report_ok k a root laws c.requires.inside c.requires.pages b settle.table pages old c.requires.bytes c.report.result report.answer in
    let many : c.unwrap-2.result ≡ length (root_text k a.table root) = cc (c.unwrap-2.ensures, told) in
    let short = report_fits k a root laws c.requires.inside c.requires.pages b settle.table pages old c.requires.bytes report.fits in
    record {
      fits = omega (arith, many, short);
      report = ap (λ n. take n c.report.new.out) many ∙ report_front k a root laws c.requires.inside c.requires.pages b settle.table pages old c.requires.bytes c.report.new.out report.memory;
      table = settle.table;
      pages = subst Wide (sym pages) (entered_wide root (page_kept (standing_on k a.table) root) a.pages c.requires.pages);
    }
