use Rattle.std.proofs.Common.{◌≡◌, ◌∙◌, ◌+◌, ◌<◌, ◌++◌, ◌∷◌, [], List, length, arith, ap, refl, subst, sym}
use Rattle.std.specs.Prelude.{IsSomeAnd, slice_get}
use Rattle.std.proofs.lemmas.List.{length_push}
use mathlib.Core.List.{IsPrefix}
use Rattle.hy_passes.proofs.Beginnings.{begins_itself, begins_through}
use Rattle.hy_crossing.specs.of_partition.Snapshots.{SnapshotState}
use Rattle.hy_crossing.specs.Lists.{ChangesAt, Pairwise}
use Rattle.hy_crossing.specs.Pairs.{Before}
use Rattle.hy_forks.specs.inside.Places.{ClosesExactly, ClosesExactlyHere, From, IsOf}
use Rattle.hy_forks.proofs.CloseLaws.{closed-end, closed-more, closed-start, of-here, within_middles}
use Rattle.hy_forks.proofs.PlaceLaws.{get-begin}
use Rattle.hy_forks.proofs.closing.close_each.Goals as goal

pub loop-init : goal.loop-init
loop-init g c =
    let all = c.args.snapshots.items in (
      omega (arith, c.len-end.ensures, c.args.snapshots.ok.0),
      begins_itself all,
      closed-start g.K.World.passes all (g.P.Parts.states c.args.parts.now) c.requires,
    )

pub close_here-requires : goal.close_here-requires
close_here-requires g c =
    let all = c.args.snapshots.items in
    let olds = g.P.Parts.states c.args.parts.now in
    let middles = g.P.Parts.states c.loop.parts in
    let left = c.take_last-snapshot.new.self.items in
    let snapshot = c.take_last-snapshot.result in
    let counted : c.len.result ≡ length left = omega (arith, c.len.ensures, c.take_last-snapshot.new.self.ok.0) in
    let begins = subst (λ (list : List SnapshotState). IsPrefix list all) c.take_last-snapshot.ensures.items
    c.loop.invariant.1 in
    let there = get-begin left all snapshot begins in
    let more : length c.loop.snapshots.items ≡ length left + 1 =
    ap length c.take_last-snapshot.ensures.items ∙ length_push left snapshot in
    let closed = subst
    (λ m. Pairwise (From (m + 1) (Before (length all + 1) (ClosesExactlyHere all))) 1 olds middles) more
    c.loop.invariant.2 in (
      omega arith,
      (
        subst (λ m. m < length middles) (sym counted)
            (within_middles g.K.World.passes all olds c.requires (length left) snapshot there middles closed),
        subst (λ m. IsSomeAnd (slice_get middles m) (IsOf g.K.World.passes snapshot)) (sym counted)
            (of-here g.K.World.passes all olds c.requires (length left) snapshot there middles closed),
      ),
    )

pub loop-preserved : goal.loop-preserved
loop-preserved g c =
    let all = c.args.snapshots.items in
    let olds = g.P.Parts.states c.args.parts.now in
    let middles = g.P.Parts.states c.loop.parts in
    let news = g.P.Parts.states c.close_here.new.parts in
    let left = c.take_last-snapshot.new.self.items in
    let snapshot = c.take_last-snapshot.result in
    let counted : c.len.result ≡ length left = omega (arith, c.len.ensures, c.take_last-snapshot.new.self.ok.0) in
    let begins = subst (λ (list : List SnapshotState). IsPrefix list all) c.take_last-snapshot.ensures.items
    c.loop.invariant.1 in
    let there = get-begin left all snapshot begins in
    let more : length c.loop.snapshots.items ≡ length left + 1 =
    ap length c.take_last-snapshot.ensures.items ∙ length_push left snapshot in
    let closed = subst
    (λ m. Pairwise (From (m + 1) (Before (length all + 1) (ClosesExactlyHere all))) 1 olds middles) more
    c.loop.invariant.2 in (
      omega (arith, c.loop.invariant.0, more),
      begins_through left (left ++ snapshot ∷ []) all (snapshot ∷ [], refl) begins,
      closed-more g.K.World.passes all olds c.requires (length left) snapshot there middles closed news
          (subst (λ m. ChangesAt (ClosesExactly snapshot) m middles news) counted c.close_here.ensures),
    )

pub returns : goal.returns
returns g c =
    let all = c.args.snapshots.items in
    let olds = g.P.Parts.states c.args.parts.now in
    let news = g.P.Parts.states c.loop.parts in
    let none : length c.loop.snapshots.items ≡ 0 = omega (arith, c.loop.invariant.0, c.loop-test.false) in
    closed-end g.K.World.passes all olds c.requires news
    (subst (λ m. Pairwise (From (m + 1) (Before (length all + 1) (ClosesExactlyHere all))) 1 olds news) none
    c.loop.invariant.2)
