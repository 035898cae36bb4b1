use Rattle.std.proofs.Common.{◌≡◌, ◌+◌, ◌-◌, ◌<◌, ◌==◌, ℕ, suc, not, List, length, filter, slice_index_or, refl, sym, ap, ◌∙◌, subst, arith}
use Rattle.std.specs.Prelude.{Option, IfSome, slice_get}
use Rattle.std.specs.Option.{option_or}
use Rattle.hy_rows.proofs.BetweenLaws.{IsBetween-bounds, bounds}
use Rattle.hy_commands.specs.Commands.{home_of, warehouses_of}
use Rattle.hy_partition.specs.Jobs.{Log, share_of}
use Rattle.hy_partition.specs.Partition.{PartitionState}
use Rattle.hy_partition.specs.Unsettled.{UnsettledState, part_of}
use Rattle.hy_crossing.specs.Crossings.{IsPartition, IsReadyIfNamed, KeepsPartIfNamed}
use Rattle.hy_crossing.specs.Unsettled.{KeepsAt}
use Rattle.hy_crossing.proofs.BehindLaws.{told-all, told-more, told-none}
use Rattle.hy_crossing.proofs.KeepLaws.{home-there, keep-step, share-early, share-late}
use Rattle.hy_crossing.proofs.NamedWalkLaws.{behind}
use Rattle.hy_crossing.proofs.StillLaws.{AreKeptBefore, keeping-end, keeping-next}
use Rattle.hy_crossing.proofs.TurnLaws.{done-end, done-get, done-start}
use Rattle.hy_crossing.proofs.UnsettledLaws.{all-kept, enough-unkept, unkept-more, unkept-start}
use Rattle.hy_crossing.proofs.keeping.keep_parts.Goals as goal

pub loop-place-init : goal.loop-place-init
loop-place-init g c =
    let command = c.args.command.now in
    let olds = g.P.Parts.states c.args.parts.now in
    let ends = bounds 1 (length olds) (home_of command) (home-there command (length olds) c.requires.there) in (
      refl,
      record {
        kept = done-start (KeepsPartIfNamed c.args.edition command c.args.crossing c.args.list.now.log) olds;
        early = λ early. ap (λ (u : UnsettledState). u.share) c.requires.counted;
        late = λ late. absurd (omega (arith, late, ends.0));
        untold = c.requires.behind ∙ sym (told-none (length olds) (warehouses_of command) c.requires.there);
        unkept = unkept-start c.args.edition command (length olds) c.args.unsettled.now c.requires.counted;
      },
    )

pub keep_here-requires-clause-is : goal.keep_here-requires-clause-is
keep_here-requires-clause-is g c =
    let places = c.places_before-places.result.now in
    let place = slice_index_or places c.loop-place.place-index 0 in
    let at = keeping-next c.args.edition c.args.command.now c.args.crossing c.args.list.now.log c.args.unsettled.now
    (g.P.Parts.states c.args.parts.now) (g.P.Parts.states c.loop-place.parts) c.loop-place.unsettled
    c.loop-place.list.behind c.len.result places c.places_before-places.ensures c.loop-place.place-index c.len.ensures
    c.loop-place-test.true c.loop-place.invariant.1 in
    let olds = g.P.Parts.states c.args.parts.now in
    let news = g.P.Parts.states c.loop-place.parts in
    let back : place ≡ place + 1 - 1 = omega arith in
    let next : suc place ≡ place + 1 = omega arith in
    let same = done-get (KeepsPartIfNamed c.args.edition c.args.command.now c.args.crossing c.args.list.now.log) place olds news
    at.holds.kept in
    subst (λ n. IfSome (slice_get news n) (IsPartition g.K.Loaded.load (place + 1))) back
    (subst (λ n. IfSome (slice_get news place) (IsPartition g.K.Loaded.load n)) next
    (subst (λ (row : Option PartitionState). IfSome row (IsPartition g.K.Loaded.load (suc place))) (sym same)
    (c.requires.parts.each place)))

pub keep_here-requires-clause-ready : goal.keep_here-requires-clause-ready
keep_here-requires-clause-ready g c =
    let places = c.places_before-places.result.now in
    let place = slice_index_or places c.loop-place.place-index 0 in
    let at = keeping-next c.args.edition c.args.command.now c.args.crossing c.args.list.now.log c.args.unsettled.now
    (g.P.Parts.states c.args.parts.now) (g.P.Parts.states c.loop-place.parts) c.loop-place.unsettled
    c.loop-place.list.behind c.len.result places c.places_before-places.ensures c.loop-place.place-index c.len.ensures
    c.loop-place-test.true c.loop-place.invariant.1 in
    let command = c.args.command.now in
    let crossing = c.args.crossing in
    let log = c.args.list.now.log in
    let olds = g.P.Parts.states c.args.parts.now in
    let news = g.P.Parts.states c.loop-place.parts in
    let back : place ≡ place + 1 - 1 = omega arith in
    let next : suc place ≡ place + 1 = omega arith in
    let same = done-get (KeepsPartIfNamed c.args.edition command crossing log) place olds news at.holds.kept in
    subst (λ (log : Log). IfSome (slice_get news (place + 1 - 1)) (IsReadyIfNamed c.args.edition command crossing log (place + 1)))
    (sym c.loop-place.invariant.0)
    (subst (λ n. IfSome (slice_get news n) (IsReadyIfNamed c.args.edition command crossing log (place + 1))) back
    (subst (λ n. IfSome (slice_get news place) (IsReadyIfNamed c.args.edition command crossing log n)) next
    (subst (λ (row : Option PartitionState). IfSome row (IsReadyIfNamed c.args.edition command crossing log (suc place))) (sym same)
    (c.requires.ready place))))

pub keep_here-requires-clause-same : goal.keep_here-requires-clause-same
keep_here-requires-clause-same g c =
    let places = c.places_before-places.result.now in
    let place = slice_index_or places c.loop-place.place-index 0 in
    let at = keeping-next c.args.edition c.args.command.now c.args.crossing c.args.list.now.log c.args.unsettled.now
    (g.P.Parts.states c.args.parts.now) (g.P.Parts.states c.loop-place.parts) c.loop-place.unsettled
    c.loop-place.list.behind c.len.result places c.places_before-places.ensures c.loop-place.place-index c.len.ensures
    c.loop-place-test.true c.loop-place.invariant.1 in
    ap part_of at.holds.unkept.is

pub overflow_add-place : goal.overflow_add-place
overflow_add-place g c =
    let places = c.places_before-places.result.now in
    let place = slice_index_or places c.loop-place.place-index 0 in
    let at = keeping-next c.args.edition c.args.command.now c.args.crossing c.args.list.now.log c.args.unsettled.now
    (g.P.Parts.states c.args.parts.now) (g.P.Parts.states c.loop-place.parts) c.loop-place.unsettled
    c.loop-place.list.behind c.len.result places c.places_before-places.ensures c.loop-place.place-index c.len.ensures
    c.loop-place-test.true c.loop-place.invariant.1 in
    omega (arith, at.within, c.len.ensures, c.requires.few)

pub keep_here-requires-clause-there : goal.keep_here-requires-clause-there
keep_here-requires-clause-there g c =
    let places = c.places_before-places.result.now in
    let place = slice_index_or places c.loop-place.place-index 0 in
    let at = keeping-next c.args.edition c.args.command.now c.args.crossing c.args.list.now.log c.args.unsettled.now
    (g.P.Parts.states c.args.parts.now) (g.P.Parts.states c.loop-place.parts) c.loop-place.unsettled
    c.loop-place.list.behind c.len.result places c.places_before-places.ensures c.loop-place.place-index c.len.ensures
    c.loop-place-test.true c.loop-place.invariant.1 in
    let number : ℕ = place + 1 in
    let rows : ℕ = length (g.P.Parts.states c.loop-place.parts) in
    IsBetween-bounds 1 rows number (omega arith) (omega (arith, at.within, c.len.ensures, at.holds.kept.count))

pub keep_here-requires-clause-named : goal.keep_here-requires-clause-named
keep_here-requires-clause-named g c =
    let places = c.places_before-places.result.now in
    let place = slice_index_or places c.loop-place.place-index 0 in
    let at = keeping-next c.args.edition c.args.command.now c.args.crossing c.args.list.now.log c.args.unsettled.now
    (g.P.Parts.states c.args.parts.now) (g.P.Parts.states c.loop-place.parts) c.loop-place.unsettled
    c.loop-place.list.behind c.len.result places c.places_before-places.ensures c.loop-place.place-index c.len.ensures
    c.loop-place-test.true c.loop-place.invariant.1 in
    at.named

pub keep_here-requires-clause-counted : goal.keep_here-requires-clause-counted
keep_here-requires-clause-counted g c =
    let places = c.places_before-places.result.now in
    let place = slice_index_or places c.loop-place.place-index 0 in
    let at = keeping-next c.args.edition c.args.command.now c.args.crossing c.args.list.now.log c.args.unsettled.now
    (g.P.Parts.states c.args.parts.now) (g.P.Parts.states c.loop-place.parts) c.loop-place.unsettled
    c.loop-place.list.behind c.len.result places c.places_before-places.ensures c.loop-place.place-index c.len.ensures
    c.loop-place-test.true c.loop-place.invariant.1 in
    let olds = g.P.Parts.states c.args.parts.now in
    enough-unkept c.args.edition c.args.command.now place (length olds) c.args.unsettled.now c.loop-place.unsettled
    at.holds.unkept (omega (arith, at.within, c.len.ensures))

pub loop-place-preserved : goal.loop-place-preserved
loop-place-preserved g c =
    let places = c.places_before-places.result.now in
    let place = slice_index_or places c.loop-place.place-index 0 in
    let at = keeping-next c.args.edition c.args.command.now c.args.crossing c.args.list.now.log c.args.unsettled.now
    (g.P.Parts.states c.args.parts.now) (g.P.Parts.states c.loop-place.parts) c.loop-place.unsettled
    c.loop-place.list.behind c.len.result places c.places_before-places.ensures c.loop-place.place-index c.len.ensures
    c.loop-place-test.true c.loop-place.invariant.1 in
    let edition = c.args.edition in
    let command = c.args.command.now in
    let crossing = c.args.crossing in
    let log = c.args.list.now.log in
    let olds = g.P.Parts.states c.args.parts.now in
    let middles = g.P.Parts.states c.loop-place.parts in
    let news = g.P.Parts.states c.keep_here.new.parts in
    let now = c.loop-place.unsettled in
    let done = at.holds.kept in
    let within : place < length olds = omega (arith, at.within, c.len.ensures) in
    let keeps = subst (λ (log : Log).
    KeepsAt edition command crossing log (place + 1) now c.keep_here.new.unsettled middles news) c.loop-place.invariant.0
    c.keep_here.ensures.kept in
    let shared : c.keep_here.new.unsettled.share ≡ option_or keeps.share now.share =
    ap (λ (u : UnsettledState). u.share) keeps.settled in (
      c.keep_here.ensures.log ∙ c.loop-place.invariant.0,
      behind places c.loop-place.place-index (AreKeptBefore edition command crossing log c.args.unsettled.now olds news
          c.keep_here.new.unsettled c.keep_here.new.list.behind) record {
            kept = keep-step edition command crossing log place olds middles done within keeps.share news keeps.changes;
            early = λ before. shared ∙ share-early edition command crossing log place olds middles done within keeps.share
                news keeps.changes g.K.Loaded.load c.requires.parts now.share at.holds.early before;
            late = λ passed. shared ∙ share-late edition command crossing log place olds middles done within keeps.share
                news keeps.changes g.K.Loaded.load c.requires.parts now.share at.holds.early at.holds.late passed;
            untold = c.keep_here.ensures.behind
                ∙ ap (λ (ws : List ℕ). filter (λ w. not (w == place + 1)) ws) at.holds.untold
                ∙ told-more place (warehouses_of command);
            unkept = unkept-more edition command place (length olds) c.args.unsettled.now now at.holds.unkept within
                c.keep_here.new.unsettled keeps.share keeps.settled;
          },
    )

pub returns-clause-kept : goal.returns-clause-kept
returns-clause-kept g c =
    let ended = keeping-end c.args.edition c.args.command.now c.args.crossing c.args.list.now.log c.args.unsettled.now
    (g.P.Parts.states c.args.parts.now) (g.P.Parts.states c.loop-place.parts) c.loop-place.unsettled
    c.loop-place.list.behind c.len.result c.places_before-places.result.now c.places_before-places.ensures
    c.loop-place.place-index c.len.ensures c.loop-place.auto.place-index-end c.loop-place-test.false
    c.loop-place.invariant.1 in
    done-end (KeepsPartIfNamed c.args.edition c.args.command.now c.args.crossing c.args.list.now.log) c.len.result
    (g.P.Parts.states c.args.parts.now) (g.P.Parts.states c.loop-place.parts) ended.kept (omega (arith, c.len.ensures))

pub returns-clause-settled : goal.returns-clause-settled
returns-clause-settled g c =
    let command = c.args.command.now in
    let olds = g.P.Parts.states c.args.parts.now in
    let ends = bounds 1 (length olds) (home_of command) (home-there command (length olds) c.requires.there) in
    let ended = keeping-end c.args.edition c.args.command.now c.args.crossing c.args.list.now.log c.args.unsettled.now
    (g.P.Parts.states c.args.parts.now) (g.P.Parts.states c.loop-place.parts) c.loop-place.unsettled
    c.loop-place.list.behind c.len.result c.places_before-places.result.now c.places_before-places.ensures
    c.loop-place.place-index c.len.ensures c.loop-place.auto.place-index-end c.loop-place-test.false
    c.loop-place.invariant.1 in
    all-kept c.args.edition command c.len.result (length olds) c.args.unsettled.now c.loop-place.unsettled
    (share_of (home_of command) command) ended.unkept c.len.ensures (ended.late (omega (arith, ends.1, c.len.ensures)))

pub returns-clause-told : goal.returns-clause-told
returns-clause-told g c =
    let olds = g.P.Parts.states c.args.parts.now in
    let ended = keeping-end c.args.edition c.args.command.now c.args.crossing c.args.list.now.log c.args.unsettled.now
    (g.P.Parts.states c.args.parts.now) (g.P.Parts.states c.loop-place.parts) c.loop-place.unsettled
    c.loop-place.list.behind c.len.result c.places_before-places.result.now c.places_before-places.ensures
    c.loop-place.place-index c.len.ensures c.loop-place.auto.place-index-end c.loop-place-test.false
    c.loop-place.invariant.1 in
    ended.untold
    ∙ told-all (length olds) c.len.result (warehouses_of c.args.command.now) c.requires.there (omega (arith, c.len.ensures))
