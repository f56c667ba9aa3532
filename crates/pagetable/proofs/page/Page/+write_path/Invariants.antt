use Rattle.pagetable.proofs.page.Page.+write_path.Given as goal

abbrev pub decreases-write_path : goal.decreases-write_path
decreases-write_path l = l.left
