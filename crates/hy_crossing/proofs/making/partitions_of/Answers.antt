use Rattle.std.proofs.Common.{◌≡◌, ◌∙◌, ◌+◌, ℕ, suc, ◌∷◌, [], ap, arith, length, rules, sym, vec_len}
use Rattle.std.specs.Vec.Iter.{into_iter_items, into_iter_len}
use Rattle.hy_partition.specs.Partition.{PartitionState}
use Rattle.hy_partition.specs.Steps.{Begins}
use Rattle.hy_crossing.proofs.SeatLaws.{each-push, later_seats, length-push, length-seats, next_seat, seats_from}
use Rattle.hy_crossing.proofs.making.partitions_of.Goals as goal

pub loop-seat-init : goal.loop-seat-init
loop-seat-init g c =
    let gives = c.into_iter-seat-iterator.ensures.into_iter_gives in
    let count = length c.args.load.now.tables.warehouses in
    let all : length c.args.seats.items ≡ count = ap length c.requires.seats ∙ length-seats 1 count in
    let seats : vec_len c.args.seats ≡ count = search (rules, all) in
    let none : c.in_ok-made.made.items ≡ [] = c.in_ok-made.ensures.items in
    rw (none, gives.1 ∙ seats) (record {
      seats = gives.0 ∙ c.requires.seats;
      count = omega arith;
      room = omega (arith, c.in_ok-made.ensures.capacity, c.len.ensures, seats);
      begin = λ place. tt;
    })

pub loop-seat-preserved : goal.loop-seat-preserved
loop-seat-preserved g c =
    let made = c.loop-seat.made.items in
    let left = into_iter_len c.next.new.self in
    let before = into_iter_len c.loop-seat.seat-iterator in
    let rest = into_iter_items c.next.new.self in
    let invariant = c.loop-seat.invariant in
    let counted : left + 1 ≡ before = c.in-Some.ensures.steps.1 in
    let are : c.in-Some.seat ∷ rest ≡ seats_from (length made + 1) before =
    sym c.in-Some.ensures.steps.0 ∙ invariant.seats in
    let more : length c.push_reserved.new.self.items ≡ length made + 1 =
    ap length c.push_reserved.ensures.items ∙ length-push made c.in-Ok.part in
    let number : c.warehouse-number.result ≡ suc (length made) =
    c.warehouse-number.ensures.warehouse
    ∙ ap (λ seat. seat.warehouse) (next_seat (length made + 1) left before c.in-Some.seat rest counted are)
    ∙ omega arith in
    let begins : Begins c.args.load.now (suc (length made)) c.args.max_frames c.args.max_kept c.in-Ok.part =
    rw number at c.in-Ok.ensures.begins in
    record {
      seats = rw more (later_seats (length made + 1) left before c.in-Some.seat rest counted are);
      count = omega (arith, more, counted, invariant.count);
      room = omega (arith, more, counted, c.push_reserved.ensures.capacity, invariant.room);
      begin = rw c.push_reserved.ensures.items (each-push
          (λ (place : ℕ) (p : PartitionState).
          Begins c.args.load.now (suc place) c.args.max_frames c.args.max_kept p)
          made c.in-Ok.part invariant.begin begins);
    }
