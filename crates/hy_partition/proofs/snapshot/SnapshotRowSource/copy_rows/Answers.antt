use Rattle.std.proofs.Common.{rules, ◌≡◌, ℕ, List, length, IfOk, sym, ap, subst, ◌∙◌, arith}
use Rattle.hy_rows.specs.Spelling.{HasSlots, rows_of, list_at}
use Rattle.hy_partition.proofs.snapshot.SnapshotRowSource.copy_rows.Goals as goal

pub scan_pages-requires : goal.scan_pages-requires
scan_pages-requires g c =
    let pages : c.segment.result.now ≡ list_at c.args.self.now.bytes g.R.Row.SEGMENT = c.segment.ensures.pages ∙ ap (list_at c.args.self.now.bytes) c.SEGMENT.ensures in
    let P : List (List ℕ) → Type 0 = HasSlots g.row.N g.R.Row.BYTES in (
      search rules,
      (
        subst P (sym pages) (c.segment.ensures.whole.tables.slots g.R.Row.SEGMENT g.R.Row.BYTES g.met.R.Row.is_table),
        (
          omega (arith, ap length pages, c.segment.ensures.whole.few g.R.Row.SEGMENT),
          (c.segment.ensures.whole.size.smallest, c.segment.ensures.whole.size.largest),
        ),
      ),
    )

pub returns : goal.returns
returns g c =
    let pages : c.segment.result.now ≡ list_at c.args.self.now.bytes g.R.Row.SEGMENT = c.segment.ensures.pages ∙ ap (list_at c.args.self.now.bytes) c.SEGMENT.ensures in
    let P : List g.row.R.Denot → Type 0 = λ rows. IfOk c.scan_pages.result (λ found. found.items ≡ rows) in
    subst P
    (ap (rows_of g.row.N g.R.Row.BYTES g.R.Row.row_of_bytes) pages ∙ sym (g.met.R.Row.spelled g.row.N c.args.self.now.bytes))
    c.scan_pages.ensures
