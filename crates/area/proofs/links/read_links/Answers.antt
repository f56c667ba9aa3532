use Rattle.std.proofs.Common.{◌≡◌, ℕ, ◌*◌, ◌/◌, ◌%◌, ◌≤◌, ltb, length, take, replicate, sym, refl, ap, ◌∙◌, arith}
use Rattle.std.proofs.lemmas.List.{length-take-le}
use Rattle.std.proofs.lemmas.Bool.{cond-true, cond-false, lt-ltb, le-ltb}
use Rattle.tables.specs.Meaning.{means}
use Rattle.settling.proofs.Fills.{filled_first, filled_write, filled_front}
use Rattle.area.specs.Networks.{number_shown}
use Rattle.area.proofs.Numbers.{zeros, square_few}
use Rattle.area.proofs.links.read_links.Goals as goal

cut : (n : ℕ) → n ≤ 32 → length (take (n * n) (replicate {A = ℕ} 1024 0)) ≡ n * n
cut n few = length-take-le (n * n) (replicate {A = ℕ} 1024 0) (square_few n few)

pub loop-place-init : goal.loop-place-init
loop-place-init g c = filled_first _ _ _

pub loop-place-preserved : goal.loop-place-preserved
loop-place-preserved g c =
    let t = means g.T.LinkTable c.args.table.now in
    let n = c.count-count.result in
    let is = c.count-count.ensures.value in
    let at = c.loop-place.place in
    filled_write c.loop-place.invariant _ c.shown_number.result refl c.loop-place-test.true
    (c.shown_number.ensures ∙ ap (λ m. number_shown t (at / m) (at % m)) is
    ∙ sym (cond-true (ltb at (t.count * t.count)) _ 0 (ap (λ m. ltb at (m * m)) (sym is) ∙ lt-ltb at (n * n) (omega (arith, cut n c.count-count.ensures.bound)))))

pub returns : goal.returns
returns g c =
    let t = means g.T.LinkTable c.args.table.now in
    let n = c.count-count.result in
    let is = c.count-count.ensures.value in
    let few = square_few n c.count-count.ensures.bound in
    filled_front (n * n) 1024 (replicate {A = ℕ} 1024 0) c.loop-place.invariant few refl (omega (arith, cut n c.count-count.ensures.bound))
    (λ k l. zeros 1024 k ∙ sym (cond-false (ltb k (t.count * t.count)) _ 0 (ap (λ m. ltb k (m * m)) (sym is) ∙ le-ltb k (n * n) l)))
