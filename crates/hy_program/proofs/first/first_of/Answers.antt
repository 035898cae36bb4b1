use Rattle.std.proofs.Common.{rules, ◌≡◌, ℤ, Result, Err, IfErr, inl, inr, ap, arith, length, sym, subst, ◌∙◌}
use Rattle.std.specs.Prelude.{vec_len}
use Rattle.std.proofs.lemmas.Result.{IfErr-weaker, IfOk-weaker}
use Rattle.hy_schema.specs.declared.refusal.Refusal.{Refusal}
use Rattle.hy_commands.specs.declared.command.Commit.{Commit}
use Rattle.hy_commands.specs.declared.command.Payment.{Payment}
use Rattle.hy_passes.specs.Worlds.{new_client, new_partition}
use Rattle.hy_rows.specs.Tables.{Lists}
use Rattle.hy_program.specs.First.{IsFirstRefusal, IsPaid, IsPayRefusal}
use Rattle.hy_recovery.specs.of_partition.Steps.{Begins}
use Rattle.hy_recovery.proofs.of_partition.SeatLaws.{length-numbered, only_seat}
use Rattle.hy_program.proofs.FirstLaws.{err_is, first_refusal, ytd_after}
use Rattle.hy_program.proofs.first.first_of.Goals as goal

-- one client
pub take_last-pass-requires : goal.take_last-pass-requires
take_last-pass-requires g c =
    let clients : g.K.World.passes.clients ≡ 1 = ap (λ kit. kit.clients) (sym c.requires.kit) ∙ c.requires.clients in
    let all : length c.in_ok-_passes.clients.items ≡ 1 = ap length c.in_ok-_passes.ensures.clients
    ∙ length-numbered (new_client {C = Commit}) 0 g.K.World.passes.clients ∙ clients in
    let count : vec_len c.in_ok-_passes.clients ≡ 1 = search (rules, all) in
    omega (arith, count)

-- one partition
pub take_last-seat-requires : goal.take_last-seat-requires
take_last-seat-requires g c =
    let partitions : g.K.World.passes.partitions ≡ 1 = ap (λ kit. kit.partitions) (sym c.requires.kit) ∙ c.requires.partitions in
    let all : length c.in_ok-_passes.seats.items ≡ 1 = ap length c.in_ok-_passes.ensures.seats
    ∙ length-numbered (new_partition {C = Commit}) 1 g.K.World.passes.partitions ∙ partitions in
    let count : vec_len c.in_ok-_passes.seats ≡ 1 = search (rules, all) in
    omega (arith, count)

pub begun-requires : goal.begun-requires
begun-requires g c =
    let partitions : g.K.World.passes.partitions ≡ 1 = ap (λ kit. kit.partitions) (sym c.requires.kit) ∙ c.requires.partitions in
    record {
      load = c.requires.load;
      warehouse = rw (c.requires.generated) (omega arith);
      seat = only_seat g.K.World.passes.partitions c.take_last-seat.new.self.items c.take_last-seat.result partitions
          (sym c.take_last-seat.ensures.items ∙ c.in_ok-_passes.ensures.seats);
    }

-- what refuses the payment refuses `first`
pub returns-in_err-pass-clause-refused : goal.returns-in_err-pass-clause-refused
returns-in_err-pass-clause-refused g c =
    let partition = c.in_ok-partition.partition in
    let refusal = c.in_err-pass.field-0.0 in
    let begins =
    subst (λ (load : Lists). Begins load 1 100_000 1_000_000 partition)
    c.requires.generated c.in_ok-partition.ensures.begins in
    let why =
    subst (λ (payment : Payment). IsPayRefusal partition payment refusal)
    c.payment.ensures c.in_err-pass.ensures.refused in
    let is : c.from_residual-in_err-pass.result ≡ Err refusal =
    err_is c.from_residual-in_err-pass.result refusal c.from_residual-in_err-pass.ensures.1 in
    subst (λ (r : Result ℤ Refusal). IfErr r (IsFirstRefusal c.args.amount)) (sym is)
    (first_refusal c.args.amount partition refusal begins why)

-- what the snapshot shows is W_YTD after the payment
pub returns-clause-ytd : goal.returns-clause-ytd
returns-clause-ytd g c =
    let partition = c.in_ok-partition.partition in
    let begins =
    subst (λ (load : Lists). Begins load 1 100_000 1_000_000 partition)
    c.requires.generated c.in_ok-partition.ensures.begins in
    let paid =
    subst (λ (payment : Payment). IsPaid payment partition c.pay.new.partition)
    c.payment.ensures c.in_ok-pass.ensures.paid in
    IfOk-weaker c.ytd_now.result _ _ (λ ytd is. ytd_after c.args.amount partition c.pay.new.partition ytd begins paid is) c.ytd_now.ensures.ytd

-- a snapshot is refused for want of memory
pub returns-clause-refused : goal.returns-clause-refused
returns-clause-refused g c = IfErr-weaker c.ytd_now.result _ _ (λ refusal memory. inr (inl memory)) c.ytd_now.ensures.refused
