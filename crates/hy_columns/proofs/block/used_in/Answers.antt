use Rattle.std.proofs.Common.{length, sym, ap, ◌∙◌, arith}
use Rattle.hy_rows.specs.Spelling.{used_slots}
use Rattle.hy_columns.proofs.TableLaws.{count-items, length-slots, length-used, segment-is_table}
use Rattle.hy_columns.proofs.block.used_in.Goals as goal

pub pages_of-requires : goal.pages_of-requires
pages_of-requires g c =
    let found = sym c.in-Some.ensures in (
      omega arith,
      (
        omega arith,
        (
          omega (arith, c.requires, length-slots g.row.N c.args.scan.now c.args.table c.in-Some.segment found),
          segment-is_table c.args.table c.in-Some.segment found,
        ),
      ),
    )

pub returns-in-Some : goal.returns-in-Some
returns-in-Some g c =
    let found = sym c.in-Some.ensures in
    c.used_on.ensures ∙ ap used_slots c.pages_of.ensures.pages
    ∙ sym (length-used g.row.N c.args.scan.now c.args.table c.in-Some.segment found c.args.place
    (omega (arith, c.requires, length-slots g.row.N c.args.scan.now c.args.table c.in-Some.segment found)))

pub returns-in-None : goal.returns-in-None
returns-in-None g c =
    ap length c.items.ensures
    ∙ sym (count-items g.row.N c.args.scan.now c.args.table (sym c.in-None.ensures) c.args.place c.requires)
