use Rattle.std.proofs.Common.{◌≡◌, ◌≢◌, ◌≤◌, ℕ, ◌-◌, Some, false, sym, subst, arith}
use Rattle.std.specs.Prelude.{MatchOption}
use Rattle.std.specs.Slice.{IsItemAt}
use Rattle.std.specs.List.{find, list_any}
use Rattle.hy_schema.specs.Related.{is_item}
use Rattle.hy_layout.specs.Layout.{LayoutState}
use Rattle.hy_layout.proofs.LoadLaws.{item-found, item-none}
use Rattle.hy_layout.proofs.PartLaws.{get-gives}
use Rattle.hy_layout.proofs.layout.Layout.item.Goals as goal

nonzero : (n : ℕ) → n ≢ 0 → 1 ≤ n
nonzero n differs = omega arith

pub returns-then-number-eq0-clause-item : goal.returns-then-number-eq0-clause-item
returns-then-number-eq0-clause-item c =
    subst (λ (now : LayoutState). list_any (is_item c.args.number) now.load.items ≡ false) c.self.view_is
    (subst (λ number. list_any (is_item number) c.self.inside.load.items ≡ false) (sym c.if-number-eq0.true)
    (item-none c.self.inside.load.items c.sound.ensures.items.each))

pub returns-clause-item : goal.returns-clause-item
returns-clause-item c =
    subst (λ (now : LayoutState). MatchOption c.get.result (list_any (is_item c.args.number) now.load.items ≡ false)
    (λ item. find (is_item c.args.number) now.load.items ≡ Some item.now)) c.self.view_is
    (item-found c.self.inside.load.items c.sound.ensures.items.each c.args.number c.get.result (nonzero c.args.number c.if-number-eq0.false)
    (get-gives c.self.inside.load.items (c.args.number - 1) c.get.result
    (subst (λ items. IsItemAt items (c.args.number - 1) c.get.result) c.list-items.ensures c.get.ensures.lookup)))
