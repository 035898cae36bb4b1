use Rattle.std.proofs.Common.{ap, true, ◌∙◌}
use Rattle.hy_rows.specs.Catalogue.{columns_of}
use Rattle.hy_rows.specs.declared.record.RangeTest.{RangeTest}
use Rattle.hy_rows.proofs.RangeLaws.{holds-after_all, taken}
use Rattle.hy_rows.proofs.record.Record.is_in_range.Goals as goal

-- the values were tested one after another
pub returns : goal.returns
returns g c =
    let row = c.args.self.now in
    ap (λ (test : RangeTest). test.holds) (taken c.put.result c.put.ensures)
    ∙ holds-after_all (columns_of g.Self.Record.TABLE) (g.Self.Record.values_of row) (record { holds = true })
    (g.met.Self.Record.has_all row)
