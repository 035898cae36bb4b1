use Rattle.std.proofs.Common.{◌≡◌, ℕ, List, [], Option, ap, sym, ◌∙◌, subst, arith}
use Rattle.std.specs.Prelude.{length}
use Rattle.std.proofs.lemmas.Bool.Decides.{nat_tests}
use Rattle.hy_worlds.specs.Origins.{replayed_of}
use Rattle.hy_passes.specs.Worlds.{SeatState}
use Rattle.hy_commands.specs.declared.command.Commit.{Commit}
use Rattle.hy_ledger.specs.Books.{new_book}
use Rattle.hy_rows.specs.Ranges.{IsBetween}
use Rattle.hy_partition.specs.Partition.{PartitionState}
use Rattle.hy_partition.specs.Steps.{Begins}
use Rattle.hy_partition.specs.inside.Soundness.{IsSound, IsTied}
use Rattle.hy_partition.proofs.MadeLaws.{begins-made, made, sound-made, tied-made}
use Rattle.hy_partition.proofs.partition.Partition.new.Goals as goal

pub invariant_of-result : goal.invariant_of-result
invariant_of-result g c =
    let between : IsBetween 1 (length c.args.load.now.tables.warehouses) c.args.warehouse =
    grind (arith, nat_tests, c.requires.first, c.requires.last) in
    let laid = c.in-Ok.ensures.laid in
    let list_of : c.new.result.warehouse ≡ c.args.warehouse =
    c.new.ensures.0 ∙ ap (λ (s : SeatState Commit). s.warehouse) (c.part-list.ensures.list ∙ c.requires.seat) in
    let number : c.args.seat.warehouse ≡ c.args.warehouse = ap (λ (s : SeatState Commit). s.warehouse) c.requires.seat in
    let desk = c.part-list.ensures.desk ∙ ap (λ number. record { warehouse = number; out = [] }) number in
    let book = c.part-list.ensures.book ∙ ap new_book number in
    let p : PartitionState = made g.row.N c.args.load.now c.args.warehouse c.args.max_frames c.args.max_kept c.replayed-replayed.result c.in-Ok.executor
    c.in-Ok.space c.in-Ok.undo laid c.new.result c.part-list.result.1 c.part-list.result.2 list_of c.new.ensures.1 desk book in
    subst (λ (snapshots : List (Option ℕ)). IsSound g.row.N c.new.result.room c.in-Ok.executor (record p { snapshots = snapshots })
    × IsTied g.K.Loaded.load g.K.World.passes c.new.result c.part-list.result.1 (record p { snapshots = snapshots }))
    (sym c.new-in-Ok.ensures.items) (
      sound-made g.row.N c.args.load.now c.args.warehouse c.args.max_frames c.args.max_kept c.replayed-replayed.result c.in-Ok.executor
          c.in-Ok.space c.in-Ok.undo laid c.new.result c.part-list.result.1 c.part-list.result.2 list_of c.new.ensures.1 desk book
          c.new.result.room c.requires.kept between,
      tied-made g.row.N c.args.load.now c.args.warehouse c.args.max_frames c.args.max_kept c.replayed-replayed.result c.in-Ok.executor
          c.in-Ok.space c.in-Ok.undo laid c.new.result c.part-list.result.1 c.part-list.result.2 list_of c.new.ensures.1 desk book
          g.K.Loaded.load g.K.World.passes c.requires.load
          (c.replayed-replayed.ensures ∙ ap (replayed_of g.K.World.passes)
          (ap (λ (s : SeatState Commit). s.warehouse) (c.part-list.ensures.list ∙ c.requires.seat))),
    )

pub returns-in-Ok-clause-begins : goal.returns-in-Ok-clause-begins
returns-in-Ok-clause-begins g c =
    let laid = c.in-Ok.ensures.laid in
    let list_of : c.new.result.warehouse ≡ c.args.warehouse =
    c.new.ensures.0 ∙ ap (λ (s : SeatState Commit). s.warehouse) (c.part-list.ensures.list ∙ c.requires.seat) in
    let number : c.args.seat.warehouse ≡ c.args.warehouse = ap (λ (s : SeatState Commit). s.warehouse) c.requires.seat in
    let desk = c.part-list.ensures.desk ∙ ap (λ number. record { warehouse = number; out = [] }) number in
    let book = c.part-list.ensures.book ∙ ap new_book number in
    let p : PartitionState = made g.row.N c.args.load.now c.args.warehouse c.args.max_frames c.args.max_kept c.replayed-replayed.result c.in-Ok.executor
    c.in-Ok.space c.in-Ok.undo laid c.new.result c.part-list.result.1 c.part-list.result.2 list_of c.new.ensures.1 desk book in
    subst (λ (snapshots : List (Option ℕ)). Begins c.args.load.now c.args.warehouse c.args.max_frames c.args.max_kept
    (record p { snapshots = snapshots })) (sym c.new-in-Ok.ensures.items)
    (begins-made g.row.N c.args.load.now c.args.warehouse c.args.max_frames c.args.max_kept c.replayed-replayed.result c.in-Ok.executor
    c.in-Ok.space c.in-Ok.undo laid c.new.result c.part-list.result.1 c.part-list.result.2 list_of c.new.ensures.1 desk book)
