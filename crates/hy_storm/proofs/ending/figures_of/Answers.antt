use Rattle.std.proofs.Common.{rules, ◌∙◌, ℕ, pos, ap, subst, sym}
use Rattle.std.proofs.lemmas.Int.{to_z-of_z}
use mir.Syntax.{w128}
use Rattle.hy_commands.specs.Commands.{number_of, warehouses_of_commit}
use Rattle.hy_passes.specs.SerialList.{IsSerial}
use Rattle.hy_session.specs.of_partition.Jobs.{Log}
use Rattle.hy_session.specs.of_forks.Accounts.{HaveKept}
use Rattle.hy_storm.proofs.ending.figures_of.Goals as goal

pub returns-clause-figures : goal.returns-clause-figures
returns-clause-figures g c =
    let lists = g.K.Loaded.load in
    let log : Log = c.args.journal.list.log in
    let kept : HaveKept log c.find_history.new.self =
    subst (λ (l : Log). HaveKept l c.find_history.new.self) c.in_ok-broken.ensures.log
    c.find_history.ensures.history.kept in
    let have = c.gather-sums.ensures.books log kept in
    let covered = c.gather-sums.ensures.covered in
    let grown = to_z-of_z w128 c.from.result (search rules) ∙ c.from.ensures in
    record {
      serial = subst (λ (n : ℕ). IsSerial warehouses_of_commit number_of n log) c.requires.partitions
          (subst (λ (l : Log). IsSerial warehouses_of_commit number_of g.K.World.passes.partitions l) c.in_ok-broken.ensures.log
          c.find_history.ensures.history.serial);
      kept = have.0;
      growth = grown ∙ have.1;
      no_more = covered.commits;
      settled = λ same. ap pos (covered.settled same) ∙ sym grown;
      consistent = c.in_ok-broken.ensures.consistent;
      holds = c.in_ok-broken.ensures.none;
    }
