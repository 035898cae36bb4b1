use Rattle.std.proofs.Common.{◌≡◌, Some, length, refl}
use Rattle.std.specs.Prelude.{slice_get}
use Rattle.std.proofs.lemmas.Option.{slice_get_read}
use Rattle.hy_crossing.specs.Lists.{ChangesAt}
use Rattle.hy_forks.specs.inside.Places.{ForksFromExactly}
use Rattle.hy_forks.proofs.PlaceLaws.{some-is}
use Rattle.hy_forks.proofs.forks_from.fork_here.Goals as goal

pub returns-in-Ok-clause-forks : goal.returns-in-Ok-clause-forks
returns-in-Ok-clause-forks g c =
    let place = c.args.place in
    let all = c.args.all.now in
    let from = c.part.result.now in
    let new = c.fork_from.new.self in
    let there : slice_get all place ≡ Some from =
    slice_get_read all (length all) place from refl c.requires.one c.part.ensures in
    some-is (λ from. ChangesAt (ForksFromExactly g.K.World.passes from c.in-Ok.snapshot) place
    (g.P.Parts.states c.args.parts.now) (g.P.Parts.states (g.P.Parts.put c.args.parts.now place new)))
    (slice_get all place) from there (
      c.part-part.result.now,
      new,
      c.part-part.ensures.value,
      g.P.Parts.states_put c.args.parts.now place new c.requires.there,
      record { exact = c.headline.ensures.frame_counts_are_exact.counts; forks = c.in-Ok.ensures.forks },
    )
