use Rattle.std.proofs.Common.{◌≡◌, ◌∙◌, Some, rules, slice_get, sym}
use Rattle.std.proofs.lemmas.Bool.{false≢true}
use Rattle.std.proofs.lemmas.Slice.Eq.{bytes_eq-Decides}
use Rattle.hy_session.proofs.of_crossing.PlaceLaws.{get-at}
use Rattle.hy_script.proofs.NameLaws.{name_here, none_at_all, none_more}
use Rattle.hy_script.proofs.named.place_of_name.Goals as goal

pub returns-then-eq : goal.returns-then-eq
returns-then-eq g c =
    let there : slice_get c.args.snapshots.now c.loop-place.place ≡ Some c.index-snapshots-place.result =
    get-at c.args.snapshots.now c.loop-place.place c.index-snapshots-place.result c.loop-place-test.true
    (search rules) in
    let same = (bytes_eq-Decides c.name.result.now c.as_bytes.result.now).0 (sym c.if-eq.ensures) in
    name_here c.args.snapshots.now c.args.name.now c.loop-place.place c.index-snapshots-place.result there
    (sym c.name.ensures ∙ same ∙ c.as_bytes.ensures)

pub loop-place-preserved : goal.loop-place-preserved
loop-place-preserved g c =
    let there : slice_get c.args.snapshots.now c.loop-place.place ≡ Some c.index-snapshots-place.result =
    get-at c.args.snapshots.now c.loop-place.place c.index-snapshots-place.result c.loop-place-test.true
    (search rules) in
    none_more c.args.snapshots.now c.args.name.now c.loop-place.place c.index-snapshots-place.result there
    (λ same. false≢true (c.if-eq.ensures
    ∙ (bytes_eq-Decides c.name.result.now c.as_bytes.result.now).1
    (c.name.ensures ∙ same ∙ sym c.as_bytes.ensures))) c.loop-place.invariant

pub returns : goal.returns
returns g c =
    none_at_all c.args.snapshots.now c.args.name.now c.loop-place.place c.loop-place-test.false c.loop-place.invariant
