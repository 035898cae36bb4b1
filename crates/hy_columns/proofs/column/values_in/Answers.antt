use Rattle.std.proofs.Common.{List, map, sym, ap, ◌∙◌, arith}
use Rattle.hy_query.specs.declared.column.Column.{Column}
use Rattle.hy_rows.specs.Rows.{item_values}
use Rattle.hy_rows.specs.declared.item.Item.{Item}
use Rattle.hy_columns.specs.Columns.{column_at}
use Rattle.hy_columns.specs.inside.Items.{items_in}
use Rattle.hy_columns.proofs.FieldLaws.{field-read_of}
use Rattle.hy_columns.proofs.ResultLaws.{values-same}
use Rattle.hy_columns.proofs.TableLaws.{column-in, field-fits, item-blocks, parts-of, segment-is_table}
use Rattle.hy_columns.proofs.column.values_in.Goals as goal

pub page_values-requires : goal.page_values-requires
page_values-requires g c =
    let column : Column = c.args.column.now in
    let field = c.field_at-field.result in
    let found = sym c.in-Some.ensures in (
      omega arith,
      (
        segment-is_table column.table c.in-Some.segment found,
        (
          field-fits column.table c.in-Some.segment column.place field found c.field_at-field.ensures,
          (
            field-read_of column.table column.place field c.field_at-field.ensures,
            parts-of g.row.N c.args.scan.now column.table c.in-Some.segment found c.args.blocks.now c.requires.blocks,
          ),
        ),
      ),
    )

pub returns-in-Some : goal.returns-in-Some
returns-in-Some g c =
    let column : Column = c.args.column.now in
    values-same c.page_values.result
    (sym (column-in g.row.N c.args.scan.now column.table c.in-Some.segment (sym c.in-Some.ensures) column.place c.field_at-field.result c.field_at-field.ensures c.args.blocks.now c.requires.blocks))
    c.page_values.ensures

pub returns-in-None : goal.returns-in-None
returns-in-None g c =
    values-same c.item_values.result
    (ap (λ (items : List Item). column_at c.args.column.now.place (map item_values (items_in items c.args.blocks.now))) c.items.ensures
    ∙ sym (ap (column_at c.args.column.now.place)
    (item-blocks g.row.N c.args.scan.now c.args.column.now.table (sym c.in-None.ensures) c.args.blocks.now c.requires.blocks)))
    c.item_values.ensures
