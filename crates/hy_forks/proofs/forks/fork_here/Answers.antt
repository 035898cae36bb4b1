use Rattle.std.proofs.Common.{[]}
use Rattle.hy_crossing.specs.Lists.{ChangesAt}
use Rattle.hy_crossing.specs.of_partition.Steps.{Forks}
use Rattle.hy_forks.specs.inside.Places.{ForksExactly, RefusesFork}
use Rattle.hy_forks.proofs.ResultLaws.{ok-map, refuses-fork}
use Rattle.hy_forks.proofs.forks.fork_here.Goals as goal

pub returns-clause-forks : goal.returns-clause-forks
returns-clause-forks g c =
    let place = c.args.place in
    let log = c.args.journal.now.list.log in
    let rows = g.P.Parts.states c.args.parts.now in
    let p = c.part-part.result.now in
    let new = c.fork_untold.new.self in
    let kit = g.K.World.passes in
    ok-map (Forks g.row.N kit log [] p new)
    (λ snapshot. ChangesAt (ForksExactly g.row.N kit log [] snapshot) place rows
    (g.P.Parts.states (g.P.Parts.put c.args.parts.now place new))) c.fork_untold.result (λ snapshot forks. (
      p,
      new,
      c.part-part.ensures.value,
      g.P.Parts.states_put c.args.parts.now place new c.requires.there,
      record { exact = c.headline.ensures.frame_counts_are_exact.counts; forks = forks },
    )) c.fork_untold.ensures.forks

pub returns-clause-refused : goal.returns-clause-refused
returns-clause-refused g c =
    let place = c.args.place in
    let rows = g.P.Parts.states c.args.parts.now in
    let p = c.part-part.result.now in
    let new = c.fork_untold.new.self in
    refuses-fork (λ why. ChangesAt (RefusesFork why) place rows
    (g.P.Parts.states (g.P.Parts.put c.args.parts.now place new))) c.fork_untold.result p new c.fork_untold.ensures.no_frame
    c.fork_untold.ensures.refused c.fork_untold.ensures.err (λ why refuses. (
      p,
      new,
      c.part-part.ensures.value,
      g.P.Parts.states_put c.args.parts.now place new c.requires.there,
      refuses,
    ))
