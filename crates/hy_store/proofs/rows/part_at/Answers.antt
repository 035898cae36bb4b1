use Rattle.std.proofs.Common.{◌≡◌, None, Some, Option, get_or, map, sym, ap, ◌∙◌, refl, subst}
use Rattle.std.specs.Prelude.{IsSome, slice_get}
use Rattle.std.specs.Option.{option_map}
use Rattle.std.proofs.lemmas.Bool.{false≢true}
use Rattle.hy_store.proofs.SlotLaws.{row-get, there-all}
use Rattle.hy_store.specs.Writes.{stored_in}
use Rattle.hy_store.proofs.rows.part_at.Goals as goal

some_mapped : {T U : Type 0} (f : T → U) (item : Option T) → IsSome item → IsSome (option_map f item)
some_mapped f None some = some
some_mapped f (Some item) some = refl

pub unreachable-requires : goal.unreachable-requires
unreachable-requires g c =
    let rows = g.R.Row.rows_in (stored_in g.row.N c.args.space.now).tables in
    false≢true (subst IsSome (ap (λ slots. option_map g.P.Part.part_of (get_or slots c.args.place None)) (sym c.know_rows.ensures.slots) ∙ sym c.part.ensures ∙ c.in-None.is)
    (some_mapped g.P.Part.part_of (get_or (map Some rows) c.args.place None) (there-all rows c.args.place c.requires.there)))

pub returns : goal.returns
returns g c =
    let rows = g.R.Row.rows_in (stored_in g.row.N c.args.space.now).tables in
    ap (option_map g.P.Part.part_of) (sym (row-get rows c.args.place) ∙ ap (λ slots. get_or slots c.args.place None) (sym c.know_rows.ensures.slots))
    ∙ sym c.part.ensures ∙ c.in-Some.is
