use Rattle.std.proofs.Common.{ap, ◌∙◌, sym, Ok, Err, codes, take, arith}
use Rattle.std.proofs.lemmas.List.{take_rest}
use Rattle.linkfile.specs.Lines.{end, apart}
use Rattle.linkfile.proofs.LineLaws.{front_is, not_behind}
use Rattle.linkfile.proofs.keys.take_apart.Goals as goal

pub returns-in-101-clause-answer : goal.returns-in-101-clause-answer
returns-in-101-clause-answer c =
    let body = c.args.body.now in
    let is = front_is (codes "end=") 0 body (omega arith) (omega arith, (omega arith, (omega arith, (omega arith, tt)))) in
    (λ i. Ok (record { kind = end; key = take 3 (is i); value = take_rest body 4 i; line = c.args.line })) ∙ sym (ap (λ b. apart b c.args.line) is)

-- none of the six patterns matches
pub returns-clause-answer : goal.returns-clause-answer
returns-clause-answer c =
    let body = c.args.body.now in
    rw (
      not_behind (codes "routers=") body (λ l f. grind arith),
      not_behind (codes "rule=") body (λ l f. grind arith),
      not_behind (codes "from=") body (λ l f. grind arith),
      not_behind (codes "to=") body (λ l f. grind arith),
      not_behind (codes "weight=") body (λ l f. grind arith),
      not_behind (codes "end=") body (λ l f. grind arith),
    ) (ap Err c.bad_line.ensures)
