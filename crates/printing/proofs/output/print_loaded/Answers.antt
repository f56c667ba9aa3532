use Rattle.std.proofs.Common.{Ok, sym, refl, ap, ◌∙◌, subst}
use Rattle.std.proofs.lemmas.Result.{IfOk-weaker}
use Rattle.area.specs.Areas as areas
use Rattle.area.specs.Meaning.{area_of}
use Rattle.tables.specs.Meaning.{means}
use Rattle.printing.specs.Roots.{Wide}
use Rattle.printing.proofs.LoadLaws.{blank_wide, loaded_wide, reports_told}
use Rattle.printing.proofs.output.print_loaded.Goals as goal

pub all_reports-requires : goal.all_reports-requires
all_reports-requires g c =
    let opened = ap (λ (a : areas.Area). a.pages) c.open-area.ensures.area in
    loaded_wide _ (area_of g.T.LinkTable c.open-area.result) _ (area_of g.T.LinkTable c.load.new.self) c.load.ensures.area (subst Wide (sym opened) blank_wide)

pub returns-in-Ok : goal.returns-in-Ok
returns-in-Ok g c =
    let a = c.open-area.result in
    let b = c.load.new.self in
    let told = reports_told g.C.Cost.costs g.C.Cost.title (means g.T.LinkTable c.args.table).count c.args.input.now
    (area_of g.T.LinkTable a) (ap (means g.T.LinkTable) c.open-area.ensures.table ∙ c.requires)
    (Ok tt) (area_of g.T.LinkTable b) c.in-Ok.ensures.area (g.T.LinkTable.laws b.table.below) refl in
    IfOk-weaker c.all_reports.result _ _ (λ bytes e. e ∙ told) c.all_reports.ensures
