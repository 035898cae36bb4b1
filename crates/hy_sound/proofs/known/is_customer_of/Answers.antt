-- The customer is there where a place is found.
use Rattle.std.proofs.Common.{◌∙◌}
use Rattle.hy_commands.specs.inside.Named.{name_of}
use Rattle.hy_layout.specs.Layout.{own_rows}
use Rattle.hy_sound.proofs.KnownLaws.{known-customer, known-nobody}
use Rattle.hy_sound.proofs.known.is_customer_of.Goals as goal

pub returns-in-Some : goal.returns-in-Some
returns-in-Some c =
    let rows = own_rows c.args.layout.now in
    c.is_some.ensures
    ∙ known-customer c.args.command.now (name_of c.in-Some.customer) c.args.layout.now.warehouse rows
    c.place_of_customer.result c.in-Some.ensures c.requires
    (c.place_of_customer.ensures rows c.know_places.ensures.loaded)

pub returns-in-None : goal.returns-in-None
returns-in-None c = known-nobody c.args.command.now (own_rows c.args.layout.now) c.in-None.ensures
