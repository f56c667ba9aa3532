use Rattle.std.proofs.Common.{◌≡◌, ◌++◌, take, refl, ap, ◌∙◌, subst, add-one, arith}
use Rattle.area.specs.Meaning.{area_of}
use Rattle.routes.specs.Lists.{gather}
use Rattle.printing.specs.Output.{reports_text}
use Rattle.printing.specs.Roots.{root_text}
use Rattle.printing.proofs.reporting.all_reports.Goals as goal

pub loop-root-init : goal.loop-root-init
unfolding gather
loop-root-init g c = record { text = c.new-text.ensures.items; table = refl; pages = c.requires }

pub loop-root-preserved : goal.loop-root-preserved
unfolding gather
loop-root-preserved g c =
    let inv = c.loop-root.invariant in
    let written = c.write_root-len.ensures in
    let report = subst (λ t. take c.write_root-len.result c.write_root-len.new.out ≡ root_text g.C.Cost.costs t c.loop-root.root) inv.table written.report in
    record {
      text = rw add-one (c.in_ok-extend_from_slice.ensures.items ∙ (λ i. inv.text i ++ report i));
      table = written.table ∙ inv.table;
      pages = written.pages;
    }

pub returns : goal.returns
unfolding reports_text
returns g c =
    let t = (area_of g.T.LinkTable c.args.area.now).table in
    let end : c.loop-root.root ≡ t.count = omega (arith, c.count-root-end.ensures.value) in
    c.loop-root.invariant.text ∙ ap (λ n. gather n (root_text g.C.Cost.costs t)) end
