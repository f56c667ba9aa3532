use Rattle.std.proofs.Common.{◌≡◌, ◌+◌, ◌-◌, ◌++◌, length, take, drop, sym, ap, ◌∙◌, arith}
use Rattle.std.proofs.lemmas.List.{drop-drop}
use Rattle.memory.proofs.WriteLaws.{write_fits}
use Rattle.memory.proofs.write.Goals as goal

pub returns : goal.returns
returns g c =
    let old = c.args.out.now in
    let at = c.args.at in
    let items = c.args.items.now in
    let n : at + length items - at ≡ length items = omega arith in
    let e = c.copy_from_slice.ensures.after in
    let w = write_fits old at items (sym c.if-not-has_room.ensures) in
    record {
      answer = w.0;
      memory = (λ i. take at old ++ (e i ++ drop (n i) (drop at old))) ∙ ap (λ t. take at old ++ (items ++ t)) (drop-drop (length items) at old) ∙ w.1;
    }
