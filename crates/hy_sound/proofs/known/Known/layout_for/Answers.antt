-- The layout at the customer's place is that of the customer's warehouse.
use Rattle.std.proofs.Common.{◌≡◌, ◌-◌, ◌<◌, ◌≤◌, length, sym, subst, rules}
use Rattle.std.specs.Prelude.{slice_index_or}
use Rattle.hy_commands.specs.Commands.{customer_home_of}
use Rattle.hy_sound.proofs.KnownLaws.{first-home, layout-is, made-layouts, rows-home, within-layouts}
use Rattle.hy_sound.proofs.known.Known.layout_for.Goals as goal

pub overflow_sub-home : goal.overflow_sub-home
overflow_sub-home c =
    subst (λ n. 1 ≤ n) (sym c.customer_home-home.ensures) (first-home c.args.self.now c.args.command.now c.requires)

pub index-requires : goal.index-requires
index-requires c =
    let are = made-layouts (λ layouts. layouts.items) c.self.inside.load.now c.args.self.now c.self.inside.layouts c.in-Some.layouts
    c.self.view_is c.in-Some.is c.self.invariant.1 in
    let within : c.customer_home-home.result - 1 < length c.in-Some.layouts.items =
    subst (λ n. n - 1 < length c.in-Some.layouts.items) (sym c.customer_home-home.ensures)
    (within-layouts c.args.self.now c.args.command.now c.requires c.in-Some.layouts.items are) in
    search (rules, within)

pub returns-in-Some-clause-layout : goal.returns-in-Some-clause-layout
returns-in-Some-clause-layout c =
    let are = made-layouts (λ layouts. layouts.items) c.self.inside.load.now c.args.self.now c.self.inside.layouts c.in-Some.layouts
    c.self.view_is c.in-Some.is c.self.invariant.1 in
    let here : c.index.result.now
    ≡ slice_index_or c.in-Some.layouts.items (customer_home_of c.args.command.now - 1) c.index.result.now =
    subst (λ n. c.index.result.now ≡ slice_index_or c.in-Some.layouts.items (n - 1) c.index.result.now)
    c.customer_home-home.ensures c.index.ensures in
    layout-is c.args.self.now c.args.command.now c.requires c.in-Some.layouts.items are c.index.result.now here

pub returns-in-Some-clause-rows : goal.returns-in-Some-clause-rows
returns-in-Some-clause-rows c =
    let are = made-layouts (λ layouts. layouts.items) c.self.inside.load.now c.args.self.now c.self.inside.layouts c.in-Some.layouts
    c.self.view_is c.in-Some.is c.self.invariant.1 in
    let here : c.index.result.now
    ≡ slice_index_or c.in-Some.layouts.items (customer_home_of c.args.command.now - 1) c.index.result.now =
    subst (λ n. c.index.result.now ≡ slice_index_or c.in-Some.layouts.items (n - 1) c.index.result.now)
    c.customer_home-home.ensures c.index.ensures in
    rows-home c.args.self.now c.args.command.now c.requires c.in-Some.layouts.items are c.index.result.now here
