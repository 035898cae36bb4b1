use Rattle.std.proofs.Common.{◌≡◌, ◌∙◌, ◌+◌, ◌<◌, ℕ, suc, List, IfSome, length, slice_get, slice_set, ap, arith, lit<, refl, subst, sym}
use Rattle.hy_ledger.specs.Books.{BalanceState}
use Rattle.hy_ledger.specs.declared.totals.Totals.{Totals}
use Rattle.hy_crossing.specs.of_partition.Jobs.{Log}
use Rattle.hy_crossing.specs.of_partition.Partition.{PartitionState, projection_of}
use Rattle.hy_crossing.specs.Crossings.{IsPartition}
use Rattle.hy_crossing.proofs.FullLaws.{set-same}
use Rattle.hy_crossing.proofs.PlaceLaws.{holds-at}
use Rattle.hy_forks.specs.Accounts.{HaveBooks}
use Rattle.hy_forks.proofs.BookLaws.{books-next, books-none}
use Rattle.hy_forks.proofs.gathering.audit_all.Goals as goal

pub loop-place-init : goal.loop-place-init
loop-place-init g c = (
  refl,
  c.requires.first.0,
  refl,
  λ log have. subst (λ (b : Totals). HaveBooks g.K.Loaded.load log 0 b) (sym c.requires.first.1) (books-none g.K.Loaded.load log),
  c.len-place-end.ensures,
)

pub audit-requires : goal.audit-requires
audit-requires g c =
    let lists = g.K.Loaded.load in
    let rows = g.P.Parts.states c.loop-place.parts in
    let place = c.loop-place.place in
    let p = c.part.result.now in
    let same = c.loop-place.invariant.0 in
    let within : place < length rows = omega (arith, c.loop-place-test.true, c.loop-place.invariant.4, ap length same) in
    let each = subst (λ (it : List PartitionState). IfSome (slice_get it place) (IsPartition lists (suc place))) (sym same)
    (c.requires.parts.each place) in
    let here = holds-at (IsPartition lists (suc place)) rows place p within c.part.ensures.value each in
    (lit< tt, here.1 ∙ omega (arith, c.loop-place.invariant.1))

pub loop-place-preserved : goal.loop-place-preserved
loop-place-preserved g c =
    let lists = g.K.Loaded.load in
    let rows = g.P.Parts.states c.loop-place.parts in
    let place = c.loop-place.place in
    let p = c.part.result.now in
    let same = c.loop-place.invariant.0 in
    let balance = c.audit.ensures.balance in
    let within : place < length rows = omega (arith, c.loop-place-test.true, c.loop-place.invariant.4, ap length same) in
    let each = subst (λ (it : List PartitionState). IfSome (slice_get it place) (IsPartition lists (suc place))) (sym same)
    (c.requires.parts.each place) in
    let here = holds-at (IsPartition lists (suc place)) rows place p within c.part.ensures.value each in (
      g.P.Parts.states_put c.loop-place.parts place c.audit.new.part within
          ∙ ap (slice_set rows place) c.audit.ensures.same ∙ set-same rows place p c.part.ensures.value ∙ same,
      ap (λ (b : BalanceState). b.audited) balance ∙ ap (λ (n : ℕ). n + 1) c.loop-place.invariant.1,
      ap (λ (b : BalanceState). b.shares) balance ∙ c.loop-place.invariant.2,
      λ (log : Log) have.
          let kept_at = subst (λ (it : List PartitionState). IfSome (slice_get it place) (λ q. q.kept ≡ projection_of (suc place) log)) (sym same) (have place) in
          let kept = holds-at (λ q. q.kept ≡ projection_of (suc place) log) rows place p within c.part.ensures.value kept_at in
          subst (λ (b : Totals). HaveBooks lists log (place + 1) b) (sym (ap (λ (b : BalanceState). b.books) balance))
          (books-next lists log place c.loop-place.balance.books p here kept c.audit.ensures.book (c.loop-place.invariant.3 log have)),
      c.loop-place.invariant.4,
    )
