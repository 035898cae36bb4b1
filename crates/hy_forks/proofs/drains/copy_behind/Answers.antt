use Rattle.std.proofs.Common.{◌≡◌, ◌+◌, ◌<◌, ℕ, suc, true, List, [], ◌∷◌, ◌++◌, drop, length, map, take, Global, Vec, sym, ap, ap₂, ◌∙◌, subst, arith}
use Rattle.std.specs.Prelude.{slice_index_or}
use Rattle.std.proofs.lemmas.List.{length-map, length-take-le, map-append}
use Rattle.hy_crossing.specs.of_partition.Jobs.{Log}
use Rattle.hy_commands.specs.declared.command.Commit.{Commit}
use Rattle.hy_crossing.specs.of_partition.Partition.{PartitionState, projection_of}
use Rattle.hy_crossing.specs.Crossings.{IsPartition}
use Rattle.hy_crossing.proofs.FullLaws.{set-same}
use Rattle.hy_commands.proofs.LineLaws.{take-next}
use Rattle.hy_crossing.proofs.PlaceLaws.{get-at, holds-at}
use Rattle.hy_forks.specs.Drains.{kept_behind}
use Rattle.hy_forks.specs.inside.Copies.{are_drained, is_drained}
use Rattle.hy_forks.proofs.LoggedLaws.{drained-batch, drained-pushed}
use Rattle.hy_forks.proofs.drains.copy_behind.Goals as goal

pub returns-in_err-copy_part-clause-same : goal.returns-in_err-copy_part-clause-same
returns-in_err-copy_part-clause-same g c =
    let place = c.loop-place.place in
    let news = g.P.Parts.states c.loop-place.parts in
    let p = c.part.result.now in
    let same = c.loop-place.invariant.3 in
    let within : place < length news = omega (arith, c.loop-place-test.true, c.loop-place.invariant.4, ap length same) in
    g.P.Parts.states_put c.loop-place.parts place p within ∙ set-same news place p c.part.ensures.value ∙ same

pub push_reserved-requires : goal.push_reserved-requires
push_reserved-requires g c =
    let olds = g.P.Parts.states c.args.parts.now in
    let items_of : Vec Commit Global → List Commit = λ commits. commits.items in
    let count : length c.loop-place.copies.items ≡ length (take c.loop-place.place olds) =
    sym (length-map c.loop-place.copies.items items_of) ∙ ap length c.loop-place.invariant.0
    ∙ length-map (take c.loop-place.place olds) (kept_behind c.args.cursor.now) in
    omega (
      arith,
      count,
      length-take-le c.loop-place.place olds
          (omega (arith, c.loop-place-test.true, c.loop-place.invariant.4)),
      c.loop-place-test.true,
      c.loop-place.invariant.2,
      c.loop-place.invariant.4,
    )

pub loop-place-preserved : goal.loop-place-preserved
loop-place-preserved g c =
    let place = c.loop-place.place in
    let olds = g.P.Parts.states c.args.parts.now in
    let news = g.P.Parts.states c.loop-place.parts in
    let p : PartitionState = c.part.result.now in
    let one = c.in_ok-copy_part.field-0 in
    let cursor : Log = c.args.cursor.now in
    let items_of : Vec Commit Global → List Commit = λ commits. commits.items in
    let same : news ≡ olds = c.loop-place.invariant.3 in
    let within : place < length olds = omega (arith, c.loop-place-test.true, c.loop-place.invariant.4) in
    let within_news : place < length news = omega (arith, within, ap length same) in
    let here : p ≡ slice_index_or olds place p =
    c.part.ensures.value ∙ ap (λ (rows : List PartitionState). slice_index_or rows place p) same in
    let lists = g.K.Loaded.load in
    let is = holds-at (IsPartition lists (suc place)) olds place p within here (c.requires.parts.each place) in
    let number : p.warehouse ≡ suc place = is.1 in
    let count : length (map items_of c.loop-place.copies.items) ≡ length (take place olds) =
    ap length c.loop-place.invariant.0 ∙ length-map (take place olds) (kept_behind cursor) in
    let next : p.warehouse ≡ 1 + length (map items_of c.loop-place.copies.items) =
    omega (arith, number, count, length-take-le place olds (omega (arith, within))) in
    let drained : is_drained lists (1 + length (map items_of c.loop-place.copies.items)) one.items ≡ true =
    subst (λ w. is_drained lists w one.items ≡ true) next
    (subst (λ l. is_drained l p.warehouse one.items ≡ true) is.0 c.in_ok-copy_part.ensures.drained) in
    let passed : c.passed-passed.result ≡ length (projection_of p.warehouse cursor) =
    c.passed-passed.ensures.passed ∙ ap (λ (w : ℕ). length (projection_of w cursor)) (omega (arith, number)) in
    let items : one.items ≡ kept_behind cursor p =
    c.in_ok-copy_part.ensures.copies ∙ ap (λ (n : ℕ). drop n p.kept) passed in
    let push = c.push_reserved.ensures in (
      ap (map items_of) push.items ∙ map-append items_of c.loop-place.copies.items (one ∷ [])
          ∙ ap₂ (λ (before : List (List Commit)) (last : List Commit). before ++ last ∷ []) c.loop-place.invariant.0 items
          ∙ sym (map-append (kept_behind cursor) (take place olds) (p ∷ []))
          ∙ ap (map (kept_behind cursor)) (sym (take-next olds place p (get-at olds place p within here))),
      subst (λ (rows : List (List Commit)). are_drained lists 1 rows ≡ true)
          (sym (ap (map items_of) push.items ∙ map-append items_of c.loop-place.copies.items (one ∷ [])))
          (drained-pushed lists 1 (map items_of c.loop-place.copies.items) one.items c.loop-place.invariant.1 drained),
      omega (arith, push.capacity, c.loop-place.invariant.2),
      g.P.Parts.states_put c.loop-place.parts place p within_news ∙ set-same news place p c.part.ensures.value ∙ same,
      c.loop-place.invariant.4,
    )

pub new-requires : goal.new-requires
new-requires g c =
    let olds = g.P.Parts.states c.args.parts.now in
    let items_of : Vec Commit Global → List Commit = λ commits. commits.items in
    let rows = map items_of c.loop-place.copies.items in
    let all : length (take c.loop-place.place olds) ≡ length olds =
    omega (
      arith,
      length-take-le c.loop-place.place olds (omega (arith, c.loop-place.invariant.4)),
      c.loop-place-test.false,
      c.loop-place.invariant.4,
    ) in
    let count : length rows ≡ length g.K.Loaded.load.tables.warehouses =
    ap length c.loop-place.invariant.0 ∙ length-map (take c.loop-place.place olds) (kept_behind c.args.cursor.now)
    ∙ all ∙ c.requires.parts.count in
    drained-batch g.K.Loaded.load (c.know_load.ensures.load c.requires.some) rows count c.loop-place.invariant.1
