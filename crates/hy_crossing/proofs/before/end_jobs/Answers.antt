use Rattle.std.proofs.Common.{◌+◌, ◌<◌, ◌≤◌, List, length, slice_index_or, inl, inr, refl, sym, subst, arith}
use Rattle.hy_partition.specs.Jobs.{Log}
use Rattle.hy_partition.specs.Partition.{PartitionState}
use Rattle.hy_crossing.specs.Crossings.{EndsIfNamed}
use Rattle.hy_crossing.specs.Lists.{IsLedUpTo}
use Rattle.hy_crossing.proofs.NamedWalkLaws.{behind, is-within, led-next, led-rest}
use Rattle.hy_crossing.proofs.TurnLaws.{led-end, led-more}
use Rattle.hy_crossing.proofs.before.end_jobs.Goals as goal

pub part-requires : goal.part-requires
part-requires g c =
    let within = is-within c.args.command.now c.len.result c.places_before-places.result.now
    c.places_before-places.ensures c.loop-place.place-index c.loop-place-test.true in
    omega (arith, within, c.len.ensures, c.loop-place.invariant.count)

pub loop-place-preserved : goal.loop-place-preserved
loop-place-preserved g c =
    let command = c.args.command.now in
    let places = c.places_before-places.result.now in
    let place = slice_index_or places c.loop-place.place-index 0 in
    let olds = g.P.Parts.states c.args.parts.now in
    let news = g.P.Parts.states c.loop-place.parts in
    let start : Log = c.args.journal.now.list.log in
    let now : Log = c.loop-place.journal.list.log in
    let next : Log = c.finish_running.new.journal.list.log in
    let there : c.len.result ≤ length olds = omega (arith, c.len.ensures) in
    let at = led-next command c.len.result places c.places_before-places.ensures c.loop-place.place-index
    (EndsIfNamed command) start now olds news (λ number unnamed row. inr (unnamed, (refl, refl))) there
    c.loop-place-test.true c.loop-place.invariant in
    let within : place < length news = omega (arith, at.within, there, at.holds.count) in
    behind places c.loop-place.place-index (λ place. IsLedUpTo (EndsIfNamed command) place start next olds
    (g.P.Parts.states (g.P.Parts.put c.loop-place.parts (slice_index_or places c.loop-place.place-index 0) c.finish_running.new.self)))
    (subst (λ (rows : List PartitionState). IsLedUpTo (EndsIfNamed command) (place + 1) start next olds rows)
    (sym (g.P.Parts.states_put c.loop-place.parts place _ within))
    (led-more (EndsIfNamed command) place start now olds news at.holds within next c.part.result.now c.finish_running.new.self
    (sym c.part.ensures.value) (inl (at.named, c.finish_running.ensures))))

pub returns : goal.returns
returns g c =
    let command = c.args.command.now in
    let olds = g.P.Parts.states c.args.parts.now in
    let news = g.P.Parts.states c.loop-place.parts in
    let start : Log = c.args.journal.now.list.log in
    let now : Log = c.loop-place.journal.list.log in
    led-end (EndsIfNamed command) c.len.result start now olds news
    (led-rest command c.len.result c.places_before-places.result.now c.places_before-places.ensures
    c.loop-place.place-index (EndsIfNamed command) start now olds news (λ number unnamed row. inr (unnamed, (refl, refl)))
    (omega (arith, c.len.ensures)) c.loop-place.auto.place-index-end c.loop-place-test.false c.loop-place.invariant)
    (omega (arith, c.len.ensures))
