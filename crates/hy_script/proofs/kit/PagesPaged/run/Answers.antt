use Rattle.std.proofs.Common.{◌≡◌, ◌∙◌, ◌+◌, ap, length, lit<, map, sym}
use Rattle.std.specs.List.{range_with_len}
use Rattle.hy_passes.specs.Worlds.{new_client, new_partition}
use Rattle.hy_session.proofs.of_partition.SeatLaws.{length-numbered}
use Rattle.hy_script.proofs.kit.PagesPaged.run.Goals as goal

pub new-requires : goal.new-requires
new-requires g c =
    let count = length c.args.load.now.tables.warehouses in
    let partitions : g.K.World.passes.partitions ≡ count =
    ap (λ kit. kit.partitions) (sym c.requires.kit) ∙ c.requires.partitions in
    let clients : g.K.World.passes.clients ≡ count + 1 = ap (λ kit. kit.clients) (sym c.requires.kit) ∙ c.requires.clients in
    let seats = c.in-Ok.ensures.seats ∙ ap (λ n. map new_partition (range_with_len 1 n)) partitions in
    let passes = ap length c.in-Ok.ensures.clients ∙ length-numbered new_client 0 g.K.World.passes.clients ∙ clients in (
      lit< tt,
      (
        c.requires.size,
        (
          c.requires.some_frames,
          (
            c.requires.frames,
            (
              c.requires.some_kept,
              (
                c.requires.kept,
                (c.requires.load, (c.in-Ok.ensures.journal, (seats, passes))),
              ),
            ),
          ),
        ),
      ),
    )
