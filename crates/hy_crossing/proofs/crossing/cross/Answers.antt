use Rattle.std.proofs.Common.{◌≡◌, List, Some, inr, sym, ap, ◌∙◌, subst}
use Rattle.hy_commands.specs.declared.command.Command.{Command}
use Rattle.hy_partition.specs.Partition.{PartitionState}
use Rattle.hy_crossing.specs.Crossings.{AllMayRun, Informs, RefusesAll, loaded_refusal}
use Rattle.hy_crossing.specs.Named.{places_of}
use Rattle.hy_crossing.proofs.InformLaws.{all-idle, still-partitions}
use Rattle.hy_crossing.proofs.WholeLaws.{refuses-first}
use Rattle.hy_crossing.proofs.crossing.cross.Goals as goal

pub new-command-requires : goal.new-command-requires
new-command-requires g c = c.of-places.ensures ∙ ap places_of (c.command.ensures ∙ sym c.command-2.ensures)

pub do_all-requires-clause-named : goal.do_all-requires-clause-named
do_all-requires-clause-named g c = c.of-places.ensures ∙ ap places_of c.command.ensures

pub prepare-requires-clause-parts : goal.prepare-requires-clause-parts
prepare-requires-clause-parts g c =
    still-partitions g.K.Loaded.load c.new-command.result c.inform.new.journal.list.log
    (g.P.Parts.states c.inform.new.parts) c.inform.ensures.informed

pub prepare-requires-clause-idle : goal.prepare-requires-clause-idle
prepare-requires-clause-idle g c =
    all-idle g.K.Loaded.load c.new-command.result c.inform.new.journal.list.log (g.P.Parts.states c.inform.new.parts)
    c.inform.ensures.informed

pub do_all-requires-clause-edition : goal.do_all-requires-clause-edition
do_all-requires-clause-edition g c =
    let olds = g.P.Parts.states c.args.parts.now in
    let middles = g.P.Parts.states c.inform.new.parts in
    subst (λ (rows : List PartitionState). AllMayRun c.args.job.edition c.args.job.command rows) (sym c.in-Ok.ensures.same)
    (subst (λ (command : Command). AllMayRun c.args.job.edition command middles) (c.new-command.ensures ∙ c.command-2.ensures)
    (c.inform.ensures.editions c.args.job.edition
    (subst (λ (command : Command). AllMayRun c.args.job.edition command olds) (sym (c.new-command.ensures ∙ c.command-2.ensures))
    c.requires.edition)))

pub returns-in-Err-clause-crosses : goal.returns-in-Err-clause-crosses
returns-in-Err-clause-crosses g c =
    let log = c.inform.new.journal.list.log in
    let olds = g.P.Parts.states c.args.parts.now in
    let middles = g.P.Parts.states c.inform.new.parts in
    let lists = g.K.Loaded.load in record {
      log = log;
      middle = middles;
      informs = subst (λ (command : Command). Informs command c.args.journal.now.list.log log olds middles)
          (c.new-command.ensures ∙ c.command-2.ensures) c.inform.ensures.informs;
      does = inr (subst (λ (news : List PartitionState). RefusesAll lists c.args.job log log middles news c.refuse.result)
          (sym c.in-Err.ensures.same)
          (refuses-first lists c.args.job log middles c.refuse.result c.in-Err.refusal
          (subst (λ (command : Command). loaded_refusal lists command middles ≡ Some c.in-Err.refusal)
          (c.new-command.ensures ∙ c.command-2.ensures) c.in-Err.ensures.refused)
          c.refuse.ensures));
    }
