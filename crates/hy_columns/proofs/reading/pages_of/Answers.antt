use Rattle.std.proofs.Common.{length, ap, sym, subst, arith}
use Rattle.std.specs.Prelude.{All, ◌≡◌}
use Rattle.hy_rows.specs.Spelling.{HasSlots}
use Rattle.hy_columns.proofs.reading.pages_of.Goals as goal

pub returns-clause-slots : goal.returns-clause-slots
returns-clause-slots g c =
    subst (HasSlots g.row.N c.args.segment.row_bytes) (sym c.segment.ensures.pages)
    (c.segment.ensures.known.tables.tables.slots c.args.segment.number c.args.segment.row_bytes c.requires.table)

pub returns-clause-sized : goal.returns-clause-sized
returns-clause-sized g c =
    subst (All (λ page. length page ≡ g.row.N)) (sym c.segment.ensures.pages) (c.segment.ensures.known.sized c.args.segment.number)

-- there are no more pages than frames
pub returns-clause-few : goal.returns-clause-few
returns-clause-few g c =
    omega (arith, ap length c.segment.ensures.pages, c.segment.ensures.known.tables.few c.args.segment.number)
