use Rattle.std.proofs.Common.{None, get_or, sym, ap, ◌∙◌, subst}
use Rattle.std.specs.Prelude.{IsSome}
use Rattle.std.specs.Option.{option_map}
use Rattle.std.proofs.lemmas.Bool.{false≢true}
use Rattle.hy_store.proofs.SlotLaws.{row-all, there-all}
use Rattle.hy_store.specs.Writes.{stored_in}
use Rattle.hy_store.proofs.rows.row_bytes_at.Goals as goal

pub unreachable-requires : goal.unreachable-requires
unreachable-requires g c =
    let rows = g.R.Row.rows_in (stored_in g.row.N c.args.space.now).tables in
    false≢true (subst IsSome (sym (ap (λ slots. get_or slots c.args.place None) c.know_rows.ensures.slots)
    ∙ sym c.bytes.ensures.row ∙ ap (option_map (λ bytes. g.R.Row.row_of_bytes bytes.now)) c.in-None.is)
    (there-all rows c.args.place c.requires.there))

pub returns-clause-row : goal.returns-clause-row
returns-clause-row g c =
    let rows = g.R.Row.rows_in (stored_in g.row.N c.args.space.now).tables in
    row-all rows c.args.place (g.R.Row.row_of_bytes c.in-Some.bytes.now)
    (sym (ap (λ slots. get_or slots c.args.place None) c.know_rows.ensures.slots)
    ∙ sym c.bytes.ensures.row ∙ ap (option_map (λ bytes. g.R.Row.row_of_bytes bytes.now)) c.in-Some.is)
