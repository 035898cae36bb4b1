use Rattle.std.proofs.Common.{rules, ◌≡◌, ap, arith, length, sym, ◌∙◌}
use Rattle.std.specs.Prelude.{vec_len}
use Rattle.hy_commands.specs.declared.command.Commit.{Commit}
use Rattle.hy_passes.specs.Worlds.{new_client, new_partition}
use Rattle.hy_partition.proofs.SeatLaws.{length-numbered, only_seat}
use Rattle.hy_bench.proofs.payment_rounds.opened.Goals as goal

-- one client
pub take_last-pass-requires : goal.take_last-pass-requires
take_last-pass-requires g c =
    let clients : g.K.World.passes.clients ≡ 1 = ap (λ kit. kit.clients) (sym c.requires.kit) ∙ c.requires.clients in
    let all : length c.in_ok-_passes.clients.items ≡ 1 = ap length c.in_ok-_passes.ensures.clients
    ∙ length-numbered (new_client {C = Commit}) 0 g.K.World.passes.clients ∙ clients in
    let count : vec_len c.in_ok-_passes.clients ≡ 1 = search (rules, all) in
    omega (arith, count)

-- one partition
pub take_last-seat-requires : goal.take_last-seat-requires
take_last-seat-requires g c =
    let partitions : g.K.World.passes.partitions ≡ 1 = ap (λ kit. kit.partitions) (sym c.requires.kit) ∙ c.requires.partitions in
    let all : length c.in_ok-_passes.seats.items ≡ 1 = ap length c.in_ok-_passes.ensures.seats
    ∙ length-numbered (new_partition {C = Commit}) 1 g.K.World.passes.partitions ∙ partitions in
    let count : vec_len c.in_ok-_passes.seats ≡ 1 = search (rules, all) in
    omega (arith, count)

pub on_pages-requires : goal.on_pages-requires
on_pages-requires g c =
    let partitions : g.K.World.passes.partitions ≡ 1 = ap (λ kit. kit.partitions) (sym c.requires.kit) ∙ c.requires.partitions in
    record {
      load = c.requires.load;
      warehouse = c.requires.warehouse;
      seat = only_seat g.K.World.passes.partitions c.take_last-seat.new.self.items c.take_last-seat.result partitions
          (sym c.take_last-seat.ensures.items ∙ c.in_ok-_passes.ensures.seats);
    }
