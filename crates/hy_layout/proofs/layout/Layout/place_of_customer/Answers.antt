use Rattle.std.proofs.Common.{◌≡◌, ℕ, ◌+◌, ◌-◌, ◌/◌, List, length, filter, Option, None, Some, sym, ap, subst}
use Rattle.std.specs.Prelude.{MatchOption, slice_get}
use Rattle.hy_rows.specs.Tables.{Tables}
use Rattle.hy_commands.specs.Customers.{customer_meant}
use Rattle.hy_commands.specs.inside.Named.{who_of}
use Rattle.hy_commands.specs.declared.command.Who.{Who}
use Rattle.hy_commands.specs.declared.command.Who.TheVariants as who
use Rattle.hy_layout.specs.declared.names.NamedCustomer.{NamedCustomer}
use Rattle.hy_layout.specs.Layout.{IsMeantAt, KeepsPlaces, LayoutState, own_rows}
use Rattle.hy_layout.specs.inside.Places.{IsNoPlace, IsPlaceOf, is_called}
use Rattle.hy_layout.proofs.MeantLaws.{laid-none, laid-number, laid-some}
use Rattle.hy_layout.proofs.layout.Layout.place_of_customer.Goals as goal

pub returns-in-Number : goal.returns-in-Number
returns-in-Number c =
    subst (λ (now : LayoutState). (tables : Tables) → KeepsPlaces (own_rows now) tables → MatchOption c.place_of.result
    (customer_meant now.warehouse c.args.customer.district (who_of c.args.customer.who) tables.customers ≡ None)
    (IsMeantAt now.warehouse c.args.customer.district (who_of c.args.customer.who) tables.customers)) c.self.view_is
    (λ tables keeps.
    subst (λ (who : Who). MatchOption c.place_of.result
    (customer_meant c.self.inside.warehouse c.args.customer.district who tables.customers ≡ None)
    (IsMeantAt c.self.inside.warehouse c.args.customer.district who tables.customers)) (sym (ap who_of c.in-Number.is))
    (laid-number c.self.inside.load c.self.inside.warehouse c.self.inside.starts.items c.self.inside.names.items
    c.self.invariant tables keeps c.args.customer.district c.in-Number.number c.place_of.result
    (subst (λ starts. MatchOption c.place_of.result (IsNoPlace starts c.args.customer.district c.in-Number.number)
    (IsPlaceOf starts c.args.customer.district c.in-Number.number)) c.deref.ensures.value c.place_of.ensures)))

-- the place in the middle
abbrev middle : List NamedCustomer → ℕ
middle customers = (length customers + 1) / 2 - 1

pub returns-in_err-named-in-Last : goal.returns-in_err-named-in-Last
returns-in_err-named-in-Last c =
    subst (λ (now : LayoutState). (tables : Tables) → KeepsPlaces (own_rows now) tables
    → MatchOption c.from_residual.result
    (customer_meant now.warehouse c.args.customer.district (who_of c.args.customer.who) tables.customers ≡ None)
    (IsMeantAt now.warehouse c.args.customer.district (who_of c.args.customer.who) tables.customers)) c.self.view_is
    (λ tables keeps.
    subst (λ (who : Who). MatchOption c.from_residual.result
    (customer_meant c.self.inside.warehouse c.args.customer.district who tables.customers ≡ None)
    (IsMeantAt c.self.inside.warehouse c.args.customer.district who tables.customers)) (sym (ap who_of c.in-Last.is))
    (subst (λ (place : Option ℕ). MatchOption place
    (customer_meant c.self.inside.warehouse c.args.customer.district (who.Last c.in-Last.name.now) tables.customers ≡ None)
    (IsMeantAt c.self.inside.warehouse c.args.customer.district (who.Last c.in-Last.name.now) tables.customers))
    (sym c.from_residual.ensures)
    (laid-none c.self.inside.load c.self.inside.warehouse c.self.inside.starts.items c.self.inside.names.items
    c.self.invariant tables keeps c.args.customer.district c.in-Last.name.now
    (subst (λ name. slice_get (filter (is_called c.args.customer.district name) c.self.inside.names.items)
    (middle (filter (is_called c.args.customer.district name) c.self.inside.names.items)) ≡ None) c.as_bytes.ensures
    (subst (λ names. slice_get (filter (is_called c.args.customer.district c.as_bytes.result.now) names)
    (middle (filter (is_called c.args.customer.district c.as_bytes.result.now) names)) ≡ None) c.deref-in-Last.ensures.value
    c.in_err-named-in-Last.ensures)))))

pub returns-in_ok-named-in-Last : goal.returns-in_ok-named-in-Last
returns-in_ok-named-in-Last c =
    subst (λ (now : LayoutState). (tables : Tables) → KeepsPlaces (own_rows now) tables
    → MatchOption c.place_of-in-Last.result
    (customer_meant now.warehouse c.args.customer.district (who_of c.args.customer.who) tables.customers ≡ None)
    (IsMeantAt now.warehouse c.args.customer.district (who_of c.args.customer.who) tables.customers)) c.self.view_is
    (λ tables keeps.
    subst (λ (who : Who). MatchOption c.place_of-in-Last.result
    (customer_meant c.self.inside.warehouse c.args.customer.district who tables.customers ≡ None)
    (IsMeantAt c.self.inside.warehouse c.args.customer.district who tables.customers)) (sym (ap who_of c.in-Last.is))
    (laid-some c.self.inside.load c.self.inside.warehouse c.self.inside.starts.items c.self.inside.names.items
    c.self.invariant tables keeps c.args.customer.district c.in-Last.name.now c.in_ok-named-in-Last.named.now
    (subst (λ name. slice_get (filter (is_called c.args.customer.district name) c.self.inside.names.items)
    (middle (filter (is_called c.args.customer.district name) c.self.inside.names.items))
    ≡ Some c.in_ok-named-in-Last.named.now) c.as_bytes.ensures
    (subst (λ names. slice_get (filter (is_called c.args.customer.district c.as_bytes.result.now) names)
    (middle (filter (is_called c.args.customer.district c.as_bytes.result.now) names))
    ≡ Some c.in_ok-named-in-Last.named.now) c.deref-in-Last.ensures.value
    c.in_ok-named-in-Last.ensures))
    c.place_of-in-Last.result
    (subst (λ number. MatchOption c.place_of-in-Last.result (IsNoPlace c.self.inside.starts.items c.args.customer.district number)
    (IsPlaceOf c.self.inside.starts.items c.args.customer.district number)) c.from.ensures
    (subst (λ starts. MatchOption c.place_of-in-Last.result (IsNoPlace starts c.args.customer.district c.from.result)
    (IsPlaceOf starts c.args.customer.district c.from.result)) c.deref-in-Last-2.ensures.value c.place_of-in-Last.ensures))))
