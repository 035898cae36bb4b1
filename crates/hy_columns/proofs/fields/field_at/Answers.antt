use Rattle.std.proofs.Common.{◌^◌, ◌<◌, ℕ, subst, sym, ◌∙◌}
use Rattle.hy_columns.proofs.FieldLaws.{domain-written, offset-few, offset-written}
use Rattle.hy_columns.proofs.fields.field_at.Goals as goal

pub row_width-requires : goal.row_width-requires
row_width-requires c =
    subst (λ (width : ℕ). width < 2 ^ 32)
    (sym (offset-written c.args.table c.columns-columns.result.now c.args.place c.columns-columns.ensures))
    (offset-few c.args.table c.args.place)

-- the column at the place begins where those before it end
pub returns : goal.returns
returns c = record {
  domain = domain-written c.args.table c.columns-columns.result.now c.args.place _ c.columns-columns.ensures c.requires;
  offset = c.row_width.ensures
      ∙ offset-written c.args.table c.columns-columns.result.now c.args.place c.columns-columns.ensures;
}
