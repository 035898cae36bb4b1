use Rattle.std.proofs.Common.{ℕ, ◌-◌, length, subst}
use Rattle.hy_rows.specs.Ranges.{IsBetween}
use Rattle.hy_rows.specs.Tables.{Tables}
use Rattle.hy_layout.specs.Layout.{IsStockAt, KeepsPlaces, LayoutState, own_rows}
use Rattle.hy_layout.proofs.LoadLaws.{stock-kept}
use Rattle.hy_layout.proofs.layout.Layout.know_places.Goals as goal

pub returns-clause-stock : goal.returns-clause-stock
returns-clause-stock c =
    subst (λ (now : LayoutState). (tables : Tables) (item : ℕ) → KeepsPlaces (own_rows now) tables
    → IsBetween 1 (length now.load.items) item → IsStockAt now.warehouse item tables.stock (item - 1)) c.self.view_is
    (λ tables item keeps is_item.
    stock-kept c.self.inside.warehouse c.self.inside.load c.sound.ensures c.self.invariant.is_one tables.stock
    keeps.stock item is_item)
