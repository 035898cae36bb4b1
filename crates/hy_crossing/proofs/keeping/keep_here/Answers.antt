use Rattle.std.proofs.Common.{◌≡◌, ◌-◌, ◌<◌, ◌==◌, ◌++◌, ◌∷◌, [], ℕ, Some, not, filter, List, length, inl, sym, ap, ◌∙◌, subst, arith}
use Rattle.hy_rows.proofs.BetweenLaws.{bounds}
use Rattle.hy_commands.specs.declared.command.Commit.TheVariants as commits
use Rattle.hy_partition.specs.Partition.{PartState, projection_of}
use Rattle.hy_partition.specs.Parts.{KeepsPart, share_of_part}
use Rattle.hy_partition.specs.Unsettled.{with_part_kept}
use Rattle.hy_crossing.specs.Crossings.{IsPartition, IsReadyIfNamed}
use Rattle.hy_crossing.proofs.CountLaws.{one-here}
use Rattle.hy_crossing.proofs.PlaceLaws.{holds-at}
use Rattle.hy_crossing.proofs.UnsettledLaws.{kept-here}
use Rattle.hy_crossing.proofs.keeping.keep_here.Goals as goal

pub keep_part-requires : goal.keep_part-requires
keep_part-requires g c =
    let number = c.args.number in
    let edition = c.args.edition in
    let command = c.args.command.now in
    let crossing = c.args.crossing in
    let log = c.args.list.now.log in
    let rows = g.P.Parts.states c.args.parts.now in
    let p = c.part-part.result.now in
    let ends = bounds 1 (length rows) number c.requires.there in
    let within : number - 1 < length rows = omega (arith, ends.0, ends.1) in
    let named = c.requires.named in
    let ready = holds-at (IsReadyIfNamed edition command crossing log number) rows (number - 1) p within
    c.part-part.ensures.value c.requires.ready named in (
      omega arith,
      (
        ready.0 ∙ ap Some (sym c.requires.same),
        (
          omega (arith, c.requires.counted, one-here command number named),
          subst (λ (part : PartState). projection_of p.warehouse log
              ≡ p.kept ++ commits.Cross part.edition crossing part.command ∷ []) (sym c.requires.same) ready.1,
        ),
      ),
    )

pub returns-clause-kept : goal.returns-clause-kept
returns-clause-kept g c =
    let number = c.args.number in
    let edition = c.args.edition in
    let command = c.args.command.now in
    let crossing = c.args.crossing in
    let log = c.args.list.now.log in
    let rows = g.P.Parts.states c.args.parts.now in
    let p = c.part-part.result.now in
    let new = c.keep_part.new.self in
    let ends = bounds 1 (length rows) number c.requires.there in
    let within : number - 1 < length rows = omega (arith, ends.0, ends.1) in
    let named = c.requires.named in
    record {
      share = share_of_part p.warehouse command;
      changes = (
        p,
        new,
        c.part-part.ensures.value,
        g.P.Parts.states_put c.args.parts.now (number - 1) new within,
        inl (
          named,
          subst (λ (part : PartState). KeepsPart part.edition part.command crossing log p new
              (share_of_part p.warehouse part.command)) c.requires.same c.keep_part.ensures.kept,
        ),
      );
      settled = kept-here command number c.args.unsettled.now c.keep_part.new.unsettled (share_of_part p.warehouse command)
          named (subst (λ (part : PartState). c.keep_part.new.unsettled
          ≡ with_part_kept c.args.unsettled.now (share_of_part p.warehouse part.command)) c.requires.same
          c.keep_part.ensures.settled);
    }

pub returns-clause-behind : goal.returns-clause-behind
returns-clause-behind g c =
    let number = c.args.number in
    let rows = g.P.Parts.states c.args.parts.now in
    let behind : List ℕ = c.args.list.now.behind in
    let p = c.part-part.result.now in
    let ends = bounds 1 (length rows) number c.requires.there in
    let within : number - 1 < length rows = omega (arith, ends.0, ends.1) in
    let is = holds-at (IsPartition g.K.Loaded.load number) rows (number - 1) p within c.part-part.ensures.value c.requires.is in
    c.keep_part.ensures.behind ∙ ap (λ n. filter (λ w. not (w == n)) behind) is.1
