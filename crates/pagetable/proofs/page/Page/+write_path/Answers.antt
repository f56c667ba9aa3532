use Rattle.std.proofs.Common.{◌-◌, ◌<◌, length, sym, ap, ◌∙◌, arith}
use Rattle.memory.specs.Writes.{laid}
use Rattle.pagetable.proofs.PathLaws.{path_ahead, path_few, ahead_spent, ahead_top, ahead_on, Wrote, wrote_nothing, wrote_last}
use Rattle.pagetable.proofs.page.Page.+write_path.Goals as goal
use Rattle.pagetable.proofs.page.Page.+write_path.Goals.{in-Some, in_default-2, in_default}

pub bounds-out-at : goal.bounds-out-at
bounds-out-at t c =
    elim c.match-father_of.branch [
      | in-Some w ↦ omega (arith, w.at-is, w.write_path-at.ensures.many, path_few c.args.self.now.father (c.args.left - 1) w.in-Some.father, w.if-left-gt0.true, c.match-father_of.auto.out)
      | in_default-2 w ↦ omega (arith, w.at-is, c.match-father_of.auto.out)
      | in_default w ↦ omega (arith, w.at-is, c.match-father_of.auto.out)
    ]

pub returns : goal.returns
returns t c =
    let fathers = c.args.self.now.father in
    let left = c.args.left in
    let at = c.match-father_of.at in
    let ahead : Wrote c.args.out.now c.match-father_of.out (path_ahead fathers left c.args.router) at = elim c.match-father_of.branch [
      | in-Some w ↦
          let e = sym (ahead_on fathers left c.args.router w.in-Some.father w.if-left-gt0.true (sym w.in-Some.ensures)) in
          record { many_is = w.at-is ∙ w.write_path-at.ensures.many ∙ ap length e; memory_is = w.out-is ∙ w.write_path-at.ensures.memory ∙ ap (laid c.args.out.now 0) e }
      | in_default-2 w ↦ wrote_nothing _ _ _ at w.at-is w.out-is (ahead_spent fathers left c.args.router w.if-left-gt0.false)
      | in_default w ↦ wrote_nothing _ _ _ at w.at-is w.out-is (ahead_top fathers left c.args.router (sym w.in_default.ensures))
    ] in
    let room : at < length c.args.out.now = omega (arith, bounds-out-at t c, c.match-father_of.auto.out) in
    let w = wrote_last _ _ fathers left c.args.router at ahead room in
    record { many = w.many_is; memory = w.memory_is }
