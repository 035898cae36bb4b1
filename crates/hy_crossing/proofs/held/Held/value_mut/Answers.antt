use Rattle.std.proofs.Common.{◌≡◌, ◌∙◌, ◌<◌, length, Option, Some, slice_index_or, slice_set, List, refl, sym, ap, subst, arith}
use Rattle.hy_crossing.specs.inside.HeldPlaces.{values_in}
use Rattle.hy_crossing.proofs.HeldLaws.{length-values, some-at, value-is, set-taken, set-values}
use Rattle.hy_crossing.proofs.held.Held.value_mut.Goals as goal

pub unwrap-requires : goal.unwrap-requires
unwrap-requires g c =
    let items = c.self.inside.places.items in
    let within : c.args.place < length items = omega (
      arith,
      length-values items c.self.invariant,
      ap length c.self.view_is,
      c.requires,
    ) in c.get_mut.ensures.variant.1 within

pub unwrap-requires-2 : goal.unwrap-requires-2
unwrap-requires-2 g c =
    let items = c.self.inside.places.items in
    let within : c.args.place < length (values_in items) = omega (arith, ap length c.self.view_is, c.requires) in
    let here = rw c.unwrap.ensures at c.get_mut.ensures.value in
    rw c.as_mut.ensures.variant (some-at items c.args.place c.unwrap.result.now c.self.invariant within here)

pub invariant_of-self-lent : goal.invariant_of-self-lent
invariant_of-self-lent g c = λ w. set-taken c.self.inside.places.items c.args.place w c.self.invariant

pub returns : goal.returns
returns g c =
    let items = c.self.inside.places.items in
    let place = c.args.place in
    let value = c.unwrap-2.result.now in
    let here = rw c.unwrap.ensures at c.get_mut.ensures.value in
    let same : Some value ≡ c.unwrap.result.now = rw c.unwrap-2.ensures at c.as_mut.ensures.value in
    let is : Some value ≡ slice_index_or items place (Some value) = subst
    (λ (x : Option g.row.G.Denot). x ≡ slice_index_or items place x) (sym same) here in (
      (refl {a = c.unwrap-2.result.ghost_name}, λ w. set-values items place w c.self.invariant ∙ ap (λ (values : List g.row.G.Denot). slice_set values place w) c.self.view_is),
      record {
        writes_back = tt;
        value = value-is items place value c.self.invariant is ∙ ap (λ (values : List g.row.G.Denot). slice_index_or values place value) c.self.view_is;
      },
    )
