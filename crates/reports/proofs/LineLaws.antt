-- A text that grows part by part: its lines are a key, `=`, a value, and byte 10.
use Rattle.std.proofs.Common.{◌≡◌, ℕ, ◌+◌, List, [], ◌∷◌, ◌++◌, length, sym, refl, ◌∙◌, subst, append_assoc, add-zero, arith, length-append}
use Rattle.memory.proofs.WriteLaws.{holds_more, laid_none}
use Rattle.reports.specs.declared.lines.Text.{Text}
use Rattle.reports.specs.Reports.{line}
use Rattle.reports.specs.Texts.{Fits, Adds}

-- a line is its key, `=`, its value, and byte 10
line_parts : (key value : List ℕ) → key ++ 61 ∷ [] ++ value ++ 10 ∷ [] ≡ line key value
line_parts key value = simp append_assoc

pub length_line : (key value : List ℕ) → length (line key value) ≡ length key + length value + 2
length_line key value = simp length-append (omega arith)

pub adds_none : (text : Text) → Adds text text []
adds_none text = record { same_memory = refl; same_length = refl; place = sym (add-zero text.at); stands = sym (laid_none text.out.now text.at) }

-- one part behind another
pub adds_more : (old mid new : Text) (bytes more : List ℕ) → Fits old bytes → Adds old mid bytes → Adds mid new more → Adds old new (bytes ++ more)
adds_more old mid new bytes more room a b =
    let h = holds_more old.out.now mid.out.now new.out.now old.at mid.at new.at bytes more (record { ends = a.place; holds = a.stands }) (omega (arith, a.place)) b.place b.stands in
    record { same_memory = b.same_memory ∙ a.same_memory; same_length = b.same_length ∙ a.same_length; place = h.ends; stands = h.holds }

-- four parts, one behind the other
pub adds_four : (old a b c new : Text) (p q r s : List ℕ) → Fits old (p ++ q ++ r ++ s) → Adds old a p → Adds a b q → Adds b c r → Adds c new s → Adds old new (p ++ q ++ r ++ s)
adds_four old a b c new p q r s room first second third fourth =
    let all = length-append (p ++ q ++ r) s in
    let front = length-append (p ++ q) r in
    let two = adds_more old a b p q (omega (arith, length-append p q)) first second in
    let three = adds_more old b c (p ++ q) r (omega arith) two third in
    adds_more old c new (p ++ q ++ r) s (omega arith) three fourth

-- a line is added by its four parts
pub line_added : (old a b c new : Text) (key value : List ℕ) → Fits old (line key value) → Adds old a key → Adds a b (61 ∷ []) → Adds b c value → Adds c new (10 ∷ []) → Adds old new (line key value)
line_added old a b c new key value room first second third fourth =
    subst (Adds old new) (line_parts key value) (adds_four old a b c new key (61 ∷ []) value (10 ∷ []) (subst (Fits old) (sym (line_parts key value)) room) first second third fourth)
