use Rattle.std.proofs.Common.{◌≡◌, None, subst}
use Rattle.std.specs.Prelude.{MatchOption}
use Rattle.hy_rows.specs.Tables.{Tables}
use Rattle.hy_commands.specs.Customers.{customer_meant}
use Rattle.hy_commands.specs.declared.command.Who.TheVariants as who
use Rattle.hy_layout.specs.Layout.{IsMeantAt, KeepsPlaces, LayoutState, own_rows}
use Rattle.hy_layout.specs.inside.Places.{IsNoPlace, IsPlaceOf}
use Rattle.hy_layout.proofs.MeantLaws.{laid-number}
use Rattle.hy_layout.proofs.layout.Layout.place_of_number.Goals as goal

pub returns : goal.returns
returns c =
    subst (λ (now : LayoutState). (tables : Tables) → KeepsPlaces (own_rows now) tables → MatchOption c.place_of.result
    (customer_meant now.warehouse c.args.district (who.Number c.args.number) tables.customers ≡ None)
    (IsMeantAt now.warehouse c.args.district (who.Number c.args.number) tables.customers)) c.self.view_is
    (λ tables keeps.
    laid-number c.self.inside.load c.self.inside.warehouse c.self.inside.starts.items c.self.inside.names.items
    c.self.invariant tables keeps c.args.district c.args.number c.place_of.result
    (subst (λ starts. MatchOption c.place_of.result (IsNoPlace starts c.args.district c.args.number)
    (IsPlaceOf starts c.args.district c.args.number)) c.deref.ensures.value c.place_of.ensures))
