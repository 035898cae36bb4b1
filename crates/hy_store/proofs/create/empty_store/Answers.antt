use Rattle.std.proofs.Common.{◌≡◌, ◌+◌, ◌-◌, [], ◌∷◌, length, map, replicate, refl, ap, ◌∙◌, arith}
use Rattle.std.proofs.lemmas.List.{length-map}
use Rattle.hy_frames.specs.FrameTable.{page_of}
use Rattle.hy_space.specs.Space.{owner_bytes, table_bytes, with_new_page}
use Rattle.hy_store.specs.Stored.{all_segments}
use Rattle.hy_store.proofs.EmptyLaws.{filled-all, filled-more, length-filled, pages-zero, store-zero, stored-zero, zero_segments}
use Rattle.hy_store.proofs.create.empty_store.Goals as goal
use Rattle.hy_store.proofs.create.empty_store.Goals.{After-loop-segment}
use Rattle.hy_store.proofs.create.empty_store.Given as given

pub loop-segment-init : goal.loop-segment-init
loop-segment-init g c = record {
  within = omega arith;
  bytes = ap (table_bytes c.in_ok-space.space.frames) c.in_ok-space.ensures.owner;
  children = c.in_ok-space.ensures.children;
  max = c.in_ok-space.ensures.max;
  free = omega (arith, c.in_ok-space.ensures.unused, c.in_ok-space.ensures.max);
}

pub grow-requires : goal.grow-requires
grow-requires g c =
    let space = c.loop-segment.space in
    let count : length (owner_bytes space) ≡ all_segments = ap length c.loop-segment.invariant.bytes ∙ length-filled g.row.N c.loop-segment.segment (all_segments - c.loop-segment.segment)
    ∙ (let all : c.loop-segment.segment + (all_segments - c.loop-segment.segment) ≡ all_segments = omega (arith, c.loop-segment.invariant.within) in all) in
    (omega arith, omega (arith, count, length-map space.owner (map (page_of space.frames)), c.loop-segment-test.true))

-- one segment more has its page
pub loop-segment-preserved : goal.loop-segment-preserved
loop-segment-preserved g c =
    let k = c.loop-segment.segment in
    record {
      within = omega (arith, c.loop-segment-test.true);
      bytes = c.in_ok-grow.ensures.grows.bytes ∙ ap (λ bytes. with_new_page bytes k (replicate g.row.N 0)) c.loop-segment.invariant.bytes
          ∙ filled-more g.row.N k (all_segments - k) (all_segments - (k + 1)) (k + 1) (omega (arith, c.loop-segment-test.true)) refl;
      children = c.in_ok-grow.ensures.grows.children.tables ∙ c.loop-segment.invariant.children;
      max = c.in_ok-grow.ensures.grows.limit ∙ c.loop-segment.invariant.max;
      free = omega (arith, c.in_ok-grow.ensures.grows.free, c.loop-segment.invariant.free);
    }

-- each segment has its page of zeros
after : (g : given.Over) (c : After-loop-segment g) → owner_bytes c.loop-segment.space ≡ zero_segments g.row.N c.requires.size.smallest
after g c =
    let done : c.loop-segment.segment ≡ all_segments = omega (arith, c.loop-segment.invariant.within, c.loop-segment-test.false) in
    c.loop-segment.invariant.bytes ∙ filled-all g.row.N c.loop-segment.segment (all_segments - c.loop-segment.segment) (omega (arith, done))
    ∙ ap (λ k. replicate k (replicate g.row.N 0 ∷ [])) done

pub returns-clause-store : goal.returns-clause-store
returns-clause-store g c = store-zero g.row.N c.requires.size.smallest c.loop-segment.space (after g c)

pub returns-clause-empty : goal.returns-clause-empty
returns-clause-empty g c = stored-zero g.row.N c.requires.size.smallest c.loop-segment.space (after g c)

pub returns-clause-pages : goal.returns-clause-pages
returns-clause-pages g c = pages-zero g.row.N c.requires.size.smallest c.loop-segment.space (after g c)
