use Rattle.std.proofs.Common.{◌≡◌, ◌<◌, get_or, None, sym, ap, ◌∙◌, subst, subst₂}
use Rattle.pagetable.specs.declared.page.Page.{Page}
use Rattle.squares.specs.Found.{Searched}
use Rattle.squares.specs.Meaning.{network_of}
use Rattle.page_settling.specs.Settled.{page_kept, rest_memory, Answers}
use Rattle.page_settling.proofs.Rests.{page_is, answers, father_small, hop_small, searched_again}
use Rattle.page_settling.proofs.settle.Goals as goal

pub tree_of-tree-requires : goal.tree_of-tree-requires
tree_of-tree-requires g c =
    let N = network_of g.C.Cost.costs g.L.LinkCosts c.args.links.now in
    let sound = g.met.L.LinkCosts.sound c.args.links.now in
    record { left = searched_again N sound c.args.root c.args.best.now c.search-found.new.best c.search-found.result c.search-found.ensures }

pub hop_sets-sets-requires : goal.hop_sets-sets-requires
hop_sets-sets-requires g c =
    let N = network_of g.C.Cost.costs g.L.LinkCosts c.args.links.now in
    let sound = g.met.L.LinkCosts.sound c.args.links.now in
    let made = c.tree_of-tree.ensures in
    let best = c.search-found.new.best in
    record {
      inside = (subst (λ r. r < N.count) (sym made.root) c.requires.ready.inside, c.requires.rows);
      left = subst₂ (λ r f. Searched N r best best f) (sym made.root) (sym made.found)
          (searched_again N sound c.args.root c.args.best.now best c.search-found.result c.search-found.ensures);
      tree = made.tree;
      hops = made.hops;
    }

pub narrowed-father-requires : goal.narrowed-father-requires
narrowed-father-requires g c =
    let N = network_of g.C.Cost.costs g.L.LinkCosts c.args.links.now in
    let sound = g.met.L.LinkCosts.sound c.args.links.now in
    λ k x e. father_small N sound c.tree_of-tree.result.root k x (ap (λ t. get_or t k None) (sym c.tree_of-tree.ensures.tree.father) ∙ e)

pub narrowed-hop-requires : goal.narrowed-hop-requires
narrowed-hop-requires g c =
    let N = network_of g.C.Cost.costs g.L.LinkCosts c.args.links.now in
    let sound = g.met.L.LinkCosts.sound c.args.links.now in
    λ k x e. hop_small N sound c.tree_of-tree.result.root k x (ap (λ t. get_or t k None) (sym c.tree_of-tree.ensures.hops) ∙ e)

pub returns : goal.returns
returns g c =
    let N = network_of g.C.Cost.costs g.L.LinkCosts c.args.links.now in
    let sound = g.met.L.LinkCosts.sound c.args.links.now in
    let tree = c.tree_of-tree.result in
    let sets = c.hop_sets-sets.result in
    let made : Page = record { father = c.narrowed-father.result; hop = c.narrowed-hop.result; candidates = sets.candidates; valid = sets.valid } in
    let is : made ≡ page_kept N c.args.root = page_is N sound tree.root made (c.narrowed-father.ensures ∙ c.tree_of-tree.ensures.tree.father)
    (c.narrowed-hop.ensures ∙ c.tree_of-tree.ensures.hops) c.hop_sets-sets.ensures.candidates c.hop_sets-sets.ensures.valid ∙ ap (page_kept N) c.tree_of-tree.ensures.root in
    record {
      page = is;
      answers = subst (Answers N c.args.root) (sym is) (answers N sound c.args.root);
      best = c.search-found.ensures.memory;
      rest = c.hop_sets-sets.ensures.rest ∙ ap (λ r. rest_memory N r c.args.rest.now) c.tree_of-tree.ensures.root;
    }
