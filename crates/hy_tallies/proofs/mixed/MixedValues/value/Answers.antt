use Rattle.std.proofs.Common.{◌≡◌, ◌<◌, Some, true, arith, nat_lt, length, slice_get, refl, ap, sym, ◌∙◌}
use Rattle.std.proofs.lemmas.Bool.Decides.{nat_tests}
use Rattle.std.proofs.lemmas.Option.{slice_get_read}
use Rattle.hy_tallies.proofs.OwnedLaws.{kept-at}
use Rattle.hy_tallies.proofs.mixed.MixedValues.value.Goals as goal

pub value_with-requires : goal.value_with-requires
value_with-requires c =
    let values = c.deref.result.now in
    let test : nat_lt c.args.place (length values) ≡ true = sym c.in-Some.ensures.lookup.0 in
    let within : c.args.place < length values = grind (arith, nat_tests, test) in
    let found : slice_get values c.args.place ≡ Some c.in-Some.kept.now =
    slice_get_read values (length values) c.args.place c.in-Some.kept.now refl within c.in-Some.ensures.lookup.1 in
    kept-at c.self.inside.texts c.self.inside.values.items c.args.place c.in-Some.kept.now c.self.invariant
    (ap (λ list. slice_get list c.args.place) (sym c.deref.ensures.value) ∙ found)
