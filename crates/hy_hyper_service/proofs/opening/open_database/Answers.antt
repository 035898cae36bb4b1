-- What was recovered is ready to serve.
use Rattle.std.proofs.Common.{◌≡◌, [], ap, arith, length, refl, subst, sym, ◌∙◌}
use Rattle.hy_rows.specs.Tables.{Lists}
use Rattle.hy_forks.proofs.of_crossing.InformLaws.{pairs-count}
use Rattle.hy_forks.specs.Drains.{TellsHere}
use Rattle.hy_forks.specs.Histories.{IsOneHistory}
use Rattle.hy_forks.specs.of_partition.Jobs.{Log}
use Rattle.hy_script.specs.Databases.{DatabaseState}
use Rattle.hy_hyper_service.specs.Opening.{IsOpened}
use Rattle.hy_hyper_service.proofs.OpenLaws.{recovered-rest}
use Rattle.hy_hyper_service.proofs.opening.open_database.Goals as goal

pub over-requires : goal.over-requires
over-requires g c =
    let made = c.in_ok-partitions.ensures in
    let told = c.in_ok-cursor.ensures.told in
    let count = pairs-count (TellsHere c.in_ok-partitions.journal.list.log) 1 c.in_ok-partitions.partitions
    c.end_of.new.self told in (
      omega arith,
      (
        omega arith,
        (
          omega arith,
          (
            recovered-rest c.args.load.now c.args.max_frames c.args.max_kept c.args.batches.now
                c.in_ok-partitions.journal.list.log c.in_ok-partitions.partitions c.end_of.new.self made.recovered told,
            omega (arith, count, made.recovered.count, c.requires.passes, c.take_last.ensures.len),
          ),
        ),
      ),
    )

pub returns-clause-opened : goal.returns-clause-opened
returns-clause-opened g c =
    let lists = c.args.load.now in
    let frames = c.args.max_frames in
    let most = c.args.max_kept in
    let batches = c.args.batches.now in
    let made = c.in_ok-partitions.ensures in
    let log : Log = c.in_ok-partitions.journal.list.log in
    let parts = c.in_ok-partitions.partitions in
    let kit = c.requires.partitions ∙ ap (λ (lists : Lists). length lists.tables.warehouses) (sym c.requires.load) in
    let history = subst (λ count. IsOneHistory count log parts) kit made.history in
    let same = c.recovered_say_the_same.ensures lists frames most batches log parts c.sound.ensures made.recovered history
    made.goes_on in
    let later : Log = c.end_of.new.journal.list.log in
    let is : later ≡ log = c.in_ok-cursor.ensures.log in
    subst (λ (database : DatabaseState). IsOpened lists frames most batches database c.in_ok-cursor.cursor)
    (sym c.in_ok-database.ensures.over)
    (subst (λ (later : Log). IsOpened lists frames most batches
    (record { parts = c.end_of.new.self; snapshots = []; log = later }) c.in_ok-cursor.cursor) (sym is)
    (record {
      recovered = parts;
      are = made.recovered;
      told = c.in_ok-cursor.ensures.told;
      snapshots = refl;
      same = same;
      seen_is = c.in_ok-cursor.ensures.end;
    }))
