use Rattle.std.proofs.Common.{◌≡◌, ◌-◌, ◌<◌, length, inl, inr, refl, sym, ap, ◌∙◌, subst, arith}
use Rattle.hy_rows.proofs.BetweenLaws.{bounds}
use Rattle.hy_schema.specs.declared.refusal.Refusal.TheVariants as refusals
use Rattle.hy_commands.specs.declared.command.Command.{Command}
use Rattle.hy_commands.specs.declared.edition.Edition.{Edition}
use Rattle.hy_partition.specs.Partition.{PartState, layout_of}
use Rattle.hy_partition.specs.Parts.{DoesPart, HasNoPart, HasPart, IsWhyUndone, reply_now}
use Rattle.hy_partition.specs.Unsettled.{with_part_done}
use Rattle.hy_crossing.specs.Crossings.{CanDoIfNamed, FailsHere, MayRunIfNamed}
use Rattle.hy_crossing.specs.Lists.{ChangesAt}
use Rattle.hy_crossing.specs.Unsettled.{DoesAt}
use Rattle.hy_crossing.proofs.DoingLaws.{as-before, err-both, err-given, untouched}
use Rattle.hy_crossing.proofs.InformLaws.{may-now}
use Rattle.hy_crossing.proofs.PlaceLaws.{holds-at}
use Rattle.hy_crossing.proofs.UnsettledLaws.{done-here, on_ok-both}
use Rattle.hy_crossing.proofs.doing.do_here.Goals as goal

-- what is asked for
abbrev asked : Edition → Command → PartState
asked edition command = record { edition = edition; command = command }

pub returns-in_err-copy-clause-refused : goal.returns-in_err-copy-clause-refused
returns-in_err-copy-clause-refused g c =
    let number = c.args.number in
    let command = c.args.command.now in
    let rows = g.P.Parts.states c.args.parts.now in
    let p = c.part-part.result.now in
    let ends = bounds 1 (length rows) number c.requires.there in
    let within : number - 1 < length rows = omega (arith, ends.0, ends.1) in
    let named = c.requires.named in
    let can = holds-at (CanDoIfNamed command number) rows (number - 1) p within c.part-part.ensures.value c.requires.can named in
    err-given (λ why. ChangesAt (FailsHere command why number) (number - 1) rows
    (g.P.Parts.states (g.P.Parts.put c.args.parts.now (number - 1) p))) c.from_residual.result refusals.NoMemory
    c.from_residual.ensures.1 (
      p,
      p,
      c.part-part.ensures.value,
      g.P.Parts.states_put c.args.parts.now (number - 1) p within,
      (named, untouched g.row.N p c.headline.ensures can.idle, inr refl),
    )

pub do_part-requires : goal.do_part-requires
do_part-requires g c =
    let number = c.args.number in
    let command = c.args.command.now in
    let rows = g.P.Parts.states c.args.parts.now in
    let p = c.part-part.result.now in
    let ends = bounds 1 (length rows) number c.requires.there in
    let within : number - 1 < length rows = omega (arith, ends.0, ends.1) in
    let named = c.requires.named in
    let can = holds-at (CanDoIfNamed command number) rows (number - 1) p within c.part-part.ensures.value c.requires.can named in (
      omega arith,
      (
        can.idle,
        (
          subst (λ (command : Command). HasPart (layout_of p) command) (sym c.in_ok-copy.ensures) can.has_part,
          (
            can.few,
            (
              may-now c.args.edition command number p
                  (holds-at (MayRunIfNamed c.args.edition command number) rows (number - 1) p within
                  c.part-part.ensures.value c.requires.edition) named,
              (c.requires.same ∙ ap (asked c.args.edition) (sym c.in_ok-copy.ensures), c.requires.countable),
            ),
          ),
        ),
      ),
    )

pub returns-clause-done : goal.returns-clause-done
returns-clause-done g c =
    let number = c.args.number in
    let edition = c.args.edition in
    let command = c.args.command.now in
    let copy = c.in_ok-copy.copy in
    let rows = g.P.Parts.states c.args.parts.now in
    let news = g.P.Parts.states (g.P.Parts.put c.args.parts.now (number - 1) c.do_part.new.self) in
    let p = c.part-part.result.now in
    let new = c.do_part.new.self in
    let now = c.args.unsettled.now in
    let ends = bounds 1 (length rows) number c.requires.there in
    let within : number - 1 < length rows = omega (arith, ends.0, ends.1) in
    let named = c.requires.named in
    on_ok-both (DoesPart edition copy p new (reply_now p edition copy))
    (c.do_part.new.unsettled ≡ with_part_done now (reply_now p edition copy))
    (DoesAt edition command number now c.do_part.new.unsettled rows news) c.do_part.result c.do_part.ensures.done
    c.do_part.ensures.counted (λ does counted. record {
      reply = reply_now p edition command;
      changes = (
        p,
        new,
        c.part-part.ensures.value,
        g.P.Parts.states_put c.args.parts.now (number - 1) new within,
        inl (
          named,
          subst (λ (command : Command). DoesPart edition command p new (reply_now p edition command))
              c.in_ok-copy.ensures does,
        ),
      );
      counted = done-here command number now c.do_part.new.unsettled (reply_now p edition command) named
          (subst (λ (command : Command). c.do_part.new.unsettled ≡ with_part_done now (reply_now p edition command))
          c.in_ok-copy.ensures counted);
    })

pub returns-clause-refused : goal.returns-clause-refused
returns-clause-refused g c =
    let number = c.args.number in
    let command = c.args.command.now in
    let rows = g.P.Parts.states c.args.parts.now in
    let p = c.part-part.result.now in
    let new = c.do_part.new.self in
    let ends = bounds 1 (length rows) number c.requires.there in
    let within : number - 1 < length rows = omega (arith, ends.0, ends.1) in
    let named = c.requires.named in
    let can = holds-at (CanDoIfNamed command number) rows (number - 1) p within c.part-part.ensures.value c.requires.can named in
    err-both (HasNoPart p new) (IsWhyUndone p.space new.space)
    (λ why. ChangesAt (FailsHere command why number) (number - 1) rows
    (g.P.Parts.states (g.P.Parts.put c.args.parts.now (number - 1) new))) c.do_part.result c.do_part.ensures.undone
    c.do_part.ensures.refused (λ why none reason. (
      p,
      new,
      c.part-part.ensures.value,
      g.P.Parts.states_put c.args.parts.now (number - 1) new within,
      (named, as-before g.row.N p c.headline.ensures can.idle new none, reason),
    ))
