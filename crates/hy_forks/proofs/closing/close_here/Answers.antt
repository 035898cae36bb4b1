use Rattle.hy_forks.proofs.closing.close_here.Goals as goal

pub returns : goal.returns
returns g c =
    let rows = g.P.Parts.states c.args.parts.now in
    let p = c.part-part.result.now in (
      p,
      c.close.new.self,
      c.part-part.ensures.value,
      g.P.Parts.states_put c.args.parts.now c.args.place c.close.new.self c.requires.there,
      record { exact = c.headline.ensures.frame_counts_are_exact.counts; closes = c.in-Ok.ensures.closes },
    )
