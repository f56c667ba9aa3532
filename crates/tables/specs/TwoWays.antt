-- The two-way check over a table.
use Rattle.std.specs.Prelude.{false}
use Rattle.std.proofs.Common.{sym, ap}
use Rattle.std.proofs.lemmas.Bool.{true≢false}
use Rattle.tables.specs.Links.{two_way, both}
use Rattle.tables.specs.Tables.{Table, Lawful}

-- it keeps what is kept below, and shows a pair where both directions are shown below
abbrev pub two_way_table : Table → Table
two_way_table t =
    record {
      kept = t.kept;
      shown = two_way t.shown;
      count = t.count;
      greatest = t.greatest;
      limit = t.limit;
      plain = false;
    }

pub two_way_lawful : (t : Table) → Lawful t → Lawful (two_way_table t)
two_way_lawful t l =
    record {
      counted = l.counted;
      numbered = l.numbered;
      limited = l.limited;
      keeps = l.keeps;
      shows = λ a b e. ap (λ o. both o (t.shown b a)) (l.shows a b e);
      plainly = λ e. absurd (true≢false (sym e));
    }
