use Rattle.std.proofs.Common.{rules, ◌≡◌, ◌∙◌, List, Err, IfOk, true, ap, arith, length, subst, sym}
use Rattle.std.specs.Prelude.{vec_len}
use Rattle.std.proofs.lemmas.Bool.{false≢true}
use Rattle.hy_rows.specs.Tables.{Lists}
use Rattle.hy_commands.specs.declared.command.Commit.{Commit}
use Rattle.hy_commands.specs.Parts.{database_of}
use Rattle.hy_passes.specs.Worlds.{new_client}
use Rattle.hy_query.specs.Meaning.{answer_of}
use Rattle.hy_recovery.specs.of_partition.Jobs.{Log}
use Rattle.hy_recovery.specs.of_partition.Snapshots.{SnapshotState}
use Rattle.hy_recovery.proofs.of_partition.SeatLaws.{length-numbered}
use Rattle.hy_recovery.specs.of_crossing.Crossings.{database_behind}
use Rattle.hy_recovery.specs.of_forks.Forks.{SpellsDatabase, are_from}
use Rattle.hy_storm.specs.of_session.Snapshots.{lists_of_all}
use Rattle.hy_storm.specs.of_session.Texts.{answer_text}
use Rattle.hy_program.specs.Query.{by_warehouse}
use Rattle.hy_program.proofs.QueryLaws.{refused-by, some-warehouses}
use Rattle.hy_program.proofs.query.answer_in.Goals as goal

-- one client
pub take_last-pass-requires : goal.take_last-pass-requires
take_last-pass-requires g c =
    let clients : g.K.World.passes.clients ≡ 1 = ap (λ kit. kit.clients) (sym c.requires.kit) ∙ c.requires.clients in
    let all : length c.in_ok-_passes.clients.items ≡ 1 = ap length c.in_ok-_passes.ensures.clients
    ∙ length-numbered (new_client {C = Commit}) 0 g.K.World.passes.clients ∙ clients in
    let count : vec_len c.in_ok-_passes.clients ≡ 1 = search (rules, all) in
    omega (arith, count)

-- nothing was written in the new partitions
pub returns-in_err-fork_all-clause-refused : goal.returns-in_err-fork_all-clause-refused
returns-in_err-fork_all-clause-refused g c =
    let is : c.from_residual-in_err-fork_all.result ≡ Err c.in_err-fork_all.field-0.0 = search rules in
    refused-by c.args.load.now 100_000 1_000_000 c.in_ok-partitions.partitions c.from_residual-in_err-fork_all.result
    c.in_err-fork_all.field-0.0 c.in_ok-partitions.ensures.begin c.in_err-fork_all.ensures.refused is

-- the snapshots are those of these partitions
pub unreachable-requires : goal.unreachable-requires
unreachable-requires g c =
    false≢true (c.in-Err.ensures.mine.1
    (subst (λ (it : List SnapshotState). are_from g.K.World.passes it c.fork_all.new.self ≡ true) (sym c.new-session.ensures)
    c.in_ok-fork_all.ensures.mine))

-- nothing is in the serial list yet, so that they spell the load
pub returns-clause-answer : goal.returns-clause-answer
returns-clause-answer g c =
    let taken = c.in_ok-fork_all.field-0 in
    let load : SpellsDatabase 4_096 (database_of g.K.Loaded.load) taken =
    subst (λ (log : Log). SpellsDatabase 4_096 (database_behind g.K.Loaded.load log) taken)
    c.in_ok-_passes.ensures.journal c.in_ok-fork_all.ensures.database in
    let spells : SpellsDatabase 4_096 (database_of c.args.load.now) c.new-session.result =
    subst (λ (it : List SnapshotState). SpellsDatabase 4_096 (database_of c.args.load.now) it) (sym c.new-session.ensures)
    (subst (λ (lists : Lists). SpellsDatabase 4_096 (database_of lists) taken) (sym c.requires.load) load) in
    let rows : lists_of_all 4_096 c.new-session.result ≡ by_warehouse c.args.load.now =
    c.shows.ensures (database_of c.args.load.now) (some-warehouses c.args.load.now c.sound.ensures) spells in
    subst (λ (lists : Lists). IfOk c.answered-answer.result (λ printed. printed.items
    ≡ answer_text (answer_of c.args.query.now lists))) rows c.answered-answer.ensures.answer
