use Rattle.std.proofs.Common.{◌+◌, ◌*◌, ◌≤◌, ◌++◌, length, drop, Some, sym, refl, ap, ◌∙◌, subst, mul-le-mul_left, arith, rules}
use Rattle.std.proofs.lemmas.List.{get_or_append_left, length-take-le}
use Rattle.std.proofs.lemmas.Slice.{drop-append-drop}
use Rattle.waiting.specs.Waiting.{memory}
use Rattle.squares.specs.Known.{costs_in, with_offer}
use Rattle.search.specs.Steps.{Step}
use Rattle.search.proofs.Loops.{all_made, running_first, router_inside, running_skip, next_short, few_marked, next_room, running_turn, turn_less, running_end}
use Rattle.search.proofs.search.Goals as goal

pub offer-known-requires : goal.offer-known-requires
offer-known-requires g c =
    let sound = g.met.L.LinkCosts.sound c.args.links.now in
    let n = g.L.LinkCosts.routers c.args.links.now in
    let room : n * n ≤ length (memory c.new-list.result) = subst (λ x. n * n ≤ length x) (sym c.new-list.ensures.memory) c.requires.room in
    record {
      places = (omega (arith, c.requires.inside, c.requires.places), omega (arith, c.requires.inside, sound.few));
      room = omega (arith, room, c.new-list.ensures.len, c.requires.inside, mul-le-mul_left {m = 1} {n = n} n (omega (arith, c.requires.inside)));
    }

pub loop-entry-init : goal.loop-entry-init
loop-entry-init g c =
    let sound = g.met.L.LinkCosts.sound c.args.links.now in
    let rule = g.C.Cost.costs in
    let n = g.L.LinkCosts.routers c.args.links.now in
    let root = c.args.root in
    let made = c.new-list.ensures in
    let room : n * n ≤ length (memory c.new-list.result) = subst (λ x. n * n ≤ length x) (sym made.memory) c.requires.room in
    let zeros = c.fill_with.new.self in
    let cleared_len = c.fill_with.ensures.len ∙ length-take-le c.count.result c.args.best.now (omega (arith, c.count.ensures, c.requires.places)) in
    let rest = drop c.count.result c.args.best.now in
    let cleared = zeros ++ rest in
    let list = c.new-list.result in
    let step = subst (λ z. Step rule (with_offer rule (costs_in rule cleared 0) root (Some z)) (root + 1) 1 cleared 0 list c.offer-known.new.best c.offer-known.result c.offer-known.new.list) c.zero.ensures c.offer-known.ensures in (
      running_first sound c.requires.inside _ refl (ap length c.new.ensures) (λ d l. get_or_append_left zeros rest rule.zero d (omega (arith, l, c.count.ensures, cleared_len))
          ∙ all_made _ rule.zero (λ f x f' k. search rules) zeros _ _ c.fill_with.ensures.ran.1 d) made.len room step,
      refl,
    )

pub mark-requires : goal.mark-requires
mark-requires g c =
    let sound = g.met.L.LinkCosts.sound c.args.links.now in
    let inside = router_inside sound c.requires.inside c.loop-entry.invariant.0 c.in-Some.ensures.answer in (
      omega (arith, inside, sound.few),
      few_marked sound c.requires.inside c.loop-entry.invariant.0 c.in-Some.ensures.answer
          (sym c.if-not-has.ensures),
    )

pub relax-known-requires : goal.relax-known-requires
relax-known-requires g c =
    let sound = g.met.L.LinkCosts.sound c.args.links.now in
    let new = sym c.if-not-has.ensures in
    record {
      inside = (
        router_inside sound c.requires.inside c.loop-entry.invariant.0 c.in-Some.ensures.answer,
        omega (arith, c.requires.places),
      );
      short = next_short sound c.requires.inside c.loop-entry.invariant.0 c.in-Some.ensures.answer new;
      room = next_room sound c.requires.inside c.loop-entry.invariant.0 c.in-Some.ensures.answer new c.mark.ensures;
    }

pub loop-entry-smaller-then-not-has : goal.loop-entry-smaller-then-not-has
loop-entry-smaller-then-not-has g c =
    let sound = g.met.L.LinkCosts.sound c.args.links.now in
    let next = c.relax-known in
    turn_less sound c.requires.inside c.loop-entry.invariant.0 c.in-Some.ensures.answer
    (sym c.if-not-has.ensures) c.mark.ensures next.ensures

pub loop-entry-preserved-then-not-has : goal.loop-entry-preserved-then-not-has
loop-entry-preserved-then-not-has g c =
    let sound = g.met.L.LinkCosts.sound c.args.links.now in
    let next = c.relax-known in (
      running_turn sound c.requires.inside c.loop-entry.invariant.0 c.in-Some.ensures.answer
          (sym c.if-not-has.ensures) c.mark.ensures next.ensures,
      next.ensures.past (g.L.LinkCosts.routers c.args.links.now) (omega arith) ∙ c.loop-entry.invariant.1,
    )

pub loop-entry-preserved : goal.loop-entry-preserved
loop-entry-preserved g c = (
  running_skip (g.met.L.LinkCosts.sound c.args.links.now) c.requires.inside c.loop-entry.invariant.0 c.in-Some.ensures.answer
      (sym c.if-not-has.ensures),
  c.loop-entry.invariant.1,
)

pub returns : goal.returns
returns g c =
    let sound = g.met.L.LinkCosts.sound c.args.links.now in
    let n = g.L.LinkCosts.routers c.args.links.now in
    let cleared_len = c.fill_with.ensures.len ∙ length-take-le c.count.result c.args.best.now (omega (arith, c.count.ensures, c.requires.places)) in
    running_end sound c.requires.inside c.loop-entry.invariant.0
    c.in_default.ensures.answer.none c.args.best.now (omega (arith, c.requires.places))
    (c.loop-entry.invariant.1 ∙ c.offer-known.ensures.past n (omega (arith, c.requires.inside))
    ∙ drop-append-drop c.count.result c.args.best.now c.fill_with.new.self n (omega (arith, c.count.ensures)) cleared_len)
