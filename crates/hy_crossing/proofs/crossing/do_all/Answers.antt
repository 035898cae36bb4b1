use Rattle.std.proofs.Common.{◌≡◌, true, List, length, sym, ap, ◌∙◌, subst, inl, inr, arith}
use Rattle.std.specs.List.{list_all}
use Rattle.hy_rows.specs.Ranges.{IsBetween, is_between}
use Rattle.hy_commands.specs.declared.command.Command.{Command}
use Rattle.hy_commands.specs.declared.edition.Edition.{Edition}
use Rattle.hy_commands.specs.Commands.{customer_home_of, warehouses_of}
use Rattle.hy_commands.specs.Parts.{with_number}
use Rattle.hy_partition.specs.Jobs.{JobState, refused_answer}
use Rattle.hy_partition.specs.Partition.{PartitionState}
use Rattle.hy_partition.specs.Unsettled.{UnsettledState}
use Rattle.hy_crossing.specs.Crossings.{AllMayRun, AreKnown, CanDoParts, DoesIfNamed, IsWhyNotDone, LeavesIfNamed}
use Rattle.hy_crossing.specs.Lists.{Pairwise}
use Rattle.hy_crossing.specs.Named.{places_of}
use Rattle.hy_crossing.specs.Unsettled.{AreAllDone}
use Rattle.hy_crossing.proofs.InformLaws.{pairs-count}
use Rattle.hy_crossing.proofs.NumberedLaws.{same-places}
use Rattle.hy_crossing.proofs.UnsettledLaws.{all-counted, all-replied}
use Rattle.hy_crossing.proofs.WholeLaws.{accepts-all, can-all, done-all, may-all, named-all, no-part-whole, partitions-here, partitions-whole, refuses-late, several-all, there-all}
use Rattle.hy_crossing.proofs.crossing.do_all.Goals as goal

-- what was done by the numbered command, in the partitions as they stood before they were looked at
does-numbered : (edition : Edition) (numbered named : Command) (olds rows news : List PartitionState) → named ≡ numbered
    → olds ≡ rows → Pairwise (DoesIfNamed edition named) 1 olds news → Pairwise (DoesIfNamed edition numbered) 1 rows news
does-numbered edition numbered named olds rows news is same does =
    subst (λ (command : Command). Pairwise (DoesIfNamed edition command) 1 rows news) is
    (subst (λ (before : List PartitionState). Pairwise (DoesIfNamed edition named) 1 before news) same does)

all-numbered : (edition : Edition) (numbered named : Command) (olds rows : List PartitionState)
    (unsettled : UnsettledState) → named ≡ numbered → olds ≡ rows → AreAllDone edition named olds unsettled
    → AreAllDone edition numbered rows unsettled
all-numbered edition numbered named olds rows unsettled is same all =
    subst (λ (command : Command). AreAllDone edition command rows unsettled) is
    (subst (λ (before : List PartitionState). AreAllDone edition named before unsettled) same all)

leaves-numbered : (numbered named : Command) (olds rows news : List PartitionState) → named ≡ numbered → olds ≡ rows
    → Pairwise (LeavesIfNamed named) 1 olds news → Pairwise (LeavesIfNamed numbered) 1 rows news
leaves-numbered numbered named olds rows news is same leaves =
    subst (λ (command : Command). Pairwise (LeavesIfNamed command) 1 rows news) is
    (subst (λ (before : List PartitionState). Pairwise (LeavesIfNamed named) 1 before news) same leaves)

pub new-requires : goal.new-requires
new-requires g c = c.requires.named ∙ ap places_of (sym c.command.ensures)

pub new-requires-2 : goal.new-requires-2
new-requires-2 g c =
    c.requires.named ∙ sym (same-places c.args.job.command c.with_number-numbered.result c.args.number
    (c.with_number-numbered.ensures ∙ ap (with_number c.args.number) c.open-command.ensures.0))

pub do_parts-requires-clause-can : goal.do_parts-requires-clause-can
do_parts-requires-clause-can g c =
    let rows = g.P.Parts.states c.args.parts.now in
    let log = c.args.journal.now.list.log in
    let numbered = c.new-2.result in
    let is : numbered ≡ with_number c.args.number c.args.job.command =
    c.new-2.ensures ∙ c.with_number-numbered.ensures ∙ ap (with_number c.args.number) c.open-command.ensures.0 in
    let known : AreKnown c.args.job.command g.K.World.passes.partitions rows =
    subst (λ (command : Command). AreKnown command g.K.World.passes.partitions rows)
    (c.new.ensures ∙ c.command.ensures) c.know_named.ensures.known in
    subst (λ (rows : List PartitionState). CanDoParts numbered rows) (sym c.know_named.ensures.same)
    (can-all g.K.Loaded.load c.args.job log rows c.requires.informed c.requires.accepted g.K.World.passes.partitions known
    c.args.number c.requires.payer numbered is c.requires.several)

pub do_parts-requires-clause-edition : goal.do_parts-requires-clause-edition
do_parts-requires-clause-edition g c =
    let rows = g.P.Parts.states c.args.parts.now in
    let log = c.args.journal.now.list.log in
    let numbered = c.new-2.result in
    let is : numbered ≡ with_number c.args.number c.args.job.command =
    c.new-2.ensures ∙ c.with_number-numbered.ensures ∙ ap (with_number c.args.number) c.open-command.ensures.0 in
    let known : AreKnown c.args.job.command g.K.World.passes.partitions rows =
    subst (λ (command : Command). AreKnown command g.K.World.passes.partitions rows)
    (c.new.ensures ∙ c.command.ensures) c.know_named.ensures.known in
    subst (λ (rows : List PartitionState). AllMayRun c.edition-edition.result numbered rows)
    (sym c.know_named.ensures.same)
    (may-all g.K.Loaded.load c.args.job log rows c.requires.informed c.requires.accepted g.K.World.passes.partitions known
    c.args.number c.requires.payer numbered is c.edition-edition.result
    (subst (λ (edition : Edition). AllMayRun edition c.args.job.command rows) (sym c.edition-edition.ensures)
    c.requires.edition))

pub do_parts-requires-clause-there : goal.do_parts-requires-clause-there
do_parts-requires-clause-there g c =
    let rows = g.P.Parts.states c.args.parts.now in
    let log = c.args.journal.now.list.log in
    let numbered = c.new-2.result in
    let is : numbered ≡ with_number c.args.number c.args.job.command =
    c.new-2.ensures ∙ c.with_number-numbered.ensures ∙ ap (with_number c.args.number) c.open-command.ensures.0 in
    let known : AreKnown c.args.job.command g.K.World.passes.partitions rows =
    subst (λ (command : Command). AreKnown command g.K.World.passes.partitions rows)
    (c.new.ensures ∙ c.command.ensures) c.know_named.ensures.known in
    subst (λ (rows : List PartitionState). IsBetween 1 (length rows) (customer_home_of numbered))
    (sym c.know_named.ensures.same)
    (there-all g.K.Loaded.load c.args.job log rows c.requires.informed c.requires.accepted g.K.World.passes.partitions known
    c.args.number c.requires.payer numbered is)

pub keep_all-requires-clause-parts : goal.keep_all-requires-clause-parts
keep_all-requires-clause-parts g c =
    let rows = g.P.Parts.states c.args.parts.now in
    let log = c.args.journal.now.list.log in
    let numbered = c.with_number-numbered.result in
    let is : numbered ≡ with_number c.args.number c.args.job.command =
    c.with_number-numbered.ensures ∙ ap (with_number c.args.number) c.open-command.ensures.0 in
    let known : AreKnown c.args.job.command g.K.World.passes.partitions rows =
    subst (λ (command : Command). AreKnown command g.K.World.passes.partitions rows)
    (c.new.ensures ∙ c.command.ensures) c.know_named.ensures.known in
    let does : Pairwise (DoesIfNamed c.edition-edition.result numbered) 1 rows (g.P.Parts.states c.do_parts.new.parts) =
    does-numbered c.edition-edition.result numbered c.new-2.result (g.P.Parts.states c.know_named.new.parts) rows
    (g.P.Parts.states c.do_parts.new.parts) c.new-2.ensures c.know_named.ensures.same c.in-Ok.ensures.done in
    partitions-here g.K.Loaded.load c.args.job log rows c.requires.informed c.requires.accepted g.K.World.passes.partitions known
    c.args.number c.requires.payer numbered is c.edition-edition.result (g.P.Parts.states c.do_parts.new.parts) does c.requires.several

pub keep_all-requires-clause-few : goal.keep_all-requires-clause-few
keep_all-requires-clause-few g c =
    let olds = g.P.Parts.states c.know_named.new.parts in
    let news = g.P.Parts.states c.do_parts.new.parts in
    let count = pairs-count (DoesIfNamed c.edition-edition.result c.new-2.result) 1 olds news c.in-Ok.ensures.done in
    omega (arith, count, ap length c.know_named.ensures.same, c.requires.few)

pub keep_all-requires-clause-named : goal.keep_all-requires-clause-named
keep_all-requires-clause-named g c =
    c.requires.named ∙ sym (same-places c.args.job.command c.with_number-numbered.result c.args.number
    (c.with_number-numbered.ensures ∙ ap (with_number c.args.number) c.open-command.ensures.0))

pub keep_all-requires-clause-there : goal.keep_all-requires-clause-there
keep_all-requires-clause-there g c =
    let rows = g.P.Parts.states c.args.parts.now in
    let log = c.args.journal.now.list.log in
    let numbered = c.with_number-numbered.result in
    let is : numbered ≡ with_number c.args.number c.args.job.command =
    c.with_number-numbered.ensures ∙ ap (with_number c.args.number) c.open-command.ensures.0 in
    let known : AreKnown c.args.job.command g.K.World.passes.partitions rows =
    subst (λ (command : Command). AreKnown command g.K.World.passes.partitions rows)
    (c.new.ensures ∙ c.command.ensures) c.know_named.ensures.known in
    let does : Pairwise (DoesIfNamed c.edition-edition.result numbered) 1 rows (g.P.Parts.states c.do_parts.new.parts) =
    does-numbered c.edition-edition.result numbered c.new-2.result (g.P.Parts.states c.know_named.new.parts) rows
    (g.P.Parts.states c.do_parts.new.parts) c.new-2.ensures c.know_named.ensures.same c.in-Ok.ensures.done in
    subst (λ n. list_all (is_between 1 n) (warehouses_of numbered) ≡ true)
    (sym (pairs-count (DoesIfNamed c.edition-edition.result numbered) 1 rows (g.P.Parts.states c.do_parts.new.parts) does))
    (named-all g.K.Loaded.load c.args.job log rows c.requires.informed c.requires.accepted g.K.World.passes.partitions known
    c.args.number c.requires.payer numbered is)

pub keep_all-requires-clause-several : goal.keep_all-requires-clause-several
keep_all-requires-clause-several g c =
    let rows = g.P.Parts.states c.args.parts.now in
    let log = c.args.journal.now.list.log in
    let numbered = c.with_number-numbered.result in
    let is : numbered ≡ with_number c.args.number c.args.job.command =
    c.with_number-numbered.ensures ∙ ap (with_number c.args.number) c.open-command.ensures.0 in
    let known : AreKnown c.args.job.command g.K.World.passes.partitions rows =
    subst (λ (command : Command). AreKnown command g.K.World.passes.partitions rows)
    (c.new.ensures ∙ c.command.ensures) c.know_named.ensures.known in
    several-all g.K.Loaded.load c.args.job log rows c.requires.informed c.requires.accepted g.K.World.passes.partitions known
    c.args.number c.requires.payer numbered is c.requires.several

pub keep_all-requires-clause-done : goal.keep_all-requires-clause-done
keep_all-requires-clause-done g c =
    let rows = g.P.Parts.states c.args.parts.now in
    let log = c.args.journal.now.list.log in
    let numbered = c.with_number-numbered.result in
    let is : numbered ≡ with_number c.args.number c.args.job.command =
    c.with_number-numbered.ensures ∙ ap (with_number c.args.number) c.open-command.ensures.0 in
    let known : AreKnown c.args.job.command g.K.World.passes.partitions rows =
    subst (λ (command : Command). AreKnown command g.K.World.passes.partitions rows)
    (c.new.ensures ∙ c.command.ensures) c.know_named.ensures.known in
    let does : Pairwise (DoesIfNamed c.edition-edition.result numbered) 1 rows (g.P.Parts.states c.do_parts.new.parts) =
    does-numbered c.edition-edition.result numbered c.new-2.result (g.P.Parts.states c.know_named.new.parts) rows
    (g.P.Parts.states c.do_parts.new.parts) c.new-2.ensures c.know_named.ensures.same c.in-Ok.ensures.done in
    done-all g.K.Loaded.load c.args.job log rows c.requires.informed c.requires.accepted g.K.World.passes.partitions known
    c.args.number c.requires.payer numbered is c.edition-edition.result (g.P.Parts.states c.do_parts.new.parts) does c.requires.several

pub keep_all-requires-clause-counted : goal.keep_all-requires-clause-counted
keep_all-requires-clause-counted g c =
    let rows = g.P.Parts.states c.args.parts.now in
    let numbered = c.with_number-numbered.result in
    let all : AreAllDone c.edition-edition.result numbered rows c.in-Ok.unsettled =
    all-numbered c.edition-edition.result numbered c.new-2.result (g.P.Parts.states c.know_named.new.parts) rows
    c.in-Ok.unsettled c.new-2.ensures c.know_named.ensures.same c.in-Ok.ensures.all in
    let does : Pairwise (DoesIfNamed c.edition-edition.result numbered) 1 rows (g.P.Parts.states c.do_parts.new.parts) =
    does-numbered c.edition-edition.result numbered c.new-2.result (g.P.Parts.states c.know_named.new.parts) rows
    (g.P.Parts.states c.do_parts.new.parts) c.new-2.ensures c.know_named.ensures.same c.in-Ok.ensures.done in
    all-counted c.edition-edition.result numbered rows (g.P.Parts.states c.do_parts.new.parts) c.in-Ok.unsettled all
    (pairs-count (DoesIfNamed c.edition-edition.result numbered) 1 rows (g.P.Parts.states c.do_parts.new.parts) does)

pub keep_all-requires-clause-replied : goal.keep_all-requires-clause-replied
keep_all-requires-clause-replied g c =
    let rows = g.P.Parts.states c.args.parts.now in
    let numbered = c.with_number-numbered.result in
    let all : AreAllDone c.edition-edition.result numbered rows c.in-Ok.unsettled =
    all-numbered c.edition-edition.result numbered c.new-2.result (g.P.Parts.states c.know_named.new.parts) rows
    c.in-Ok.unsettled c.new-2.ensures c.know_named.ensures.same c.in-Ok.ensures.all in
    all-replied c.edition-edition.result numbered rows c.in-Ok.unsettled all

pub returns-in-Ok-clause-does : goal.returns-in-Ok-clause-does
returns-in-Ok-clause-does g c =
    let rows = g.P.Parts.states c.args.parts.now in
    let log = c.args.journal.now.list.log in
    let numbered = c.with_number-numbered.result in
    let is : numbered ≡ with_number c.args.number c.args.job.command =
    c.with_number-numbered.ensures ∙ ap (with_number c.args.number) c.open-command.ensures.0 in
    let known : AreKnown c.args.job.command g.K.World.passes.partitions rows =
    subst (λ (command : Command). AreKnown command g.K.World.passes.partitions rows)
    (c.new.ensures ∙ c.command.ensures) c.know_named.ensures.known in
    let does : Pairwise (DoesIfNamed c.edition-edition.result numbered) 1 rows (g.P.Parts.states c.do_parts.new.parts) =
    does-numbered c.edition-edition.result numbered c.new-2.result (g.P.Parts.states c.know_named.new.parts) rows
    (g.P.Parts.states c.do_parts.new.parts) c.new-2.ensures c.know_named.ensures.same c.in-Ok.ensures.done in
    inl (accepts-all g.K.Loaded.load c.args.job log rows c.requires.informed c.requires.accepted g.K.World.passes.partitions known
    c.args.number c.requires.payer numbered is c.edition-edition.result (g.P.Parts.states c.do_parts.new.parts)
    (g.P.Parts.states c.keep_all.new.parts) c.keep_all.new.journal.list.log c.in-Ok.unsettled c.keep_all.result
    c.open-command.result.1 c.edition-edition.ensures c.open-command.ensures.1 does c.keep_all.ensures.kept
    (all-numbered c.edition-edition.result numbered c.new-2.result (g.P.Parts.states c.know_named.new.parts) rows
    c.in-Ok.unsettled c.new-2.ensures c.know_named.ensures.same c.in-Ok.ensures.all)
    c.keep_all.ensures.client c.keep_all.ensures.log c.keep_all.ensures.answer)

pub returns-in-Ok-clause-parts : goal.returns-in-Ok-clause-parts
returns-in-Ok-clause-parts g c =
    let rows = g.P.Parts.states c.args.parts.now in
    let log = c.args.journal.now.list.log in
    let numbered = c.with_number-numbered.result in
    let is : numbered ≡ with_number c.args.number c.args.job.command =
    c.with_number-numbered.ensures ∙ ap (with_number c.args.number) c.open-command.ensures.0 in
    let known : AreKnown c.args.job.command g.K.World.passes.partitions rows =
    subst (λ (command : Command). AreKnown command g.K.World.passes.partitions rows)
    (c.new.ensures ∙ c.command.ensures) c.know_named.ensures.known in
    let does : Pairwise (DoesIfNamed c.edition-edition.result numbered) 1 rows (g.P.Parts.states c.do_parts.new.parts) =
    does-numbered c.edition-edition.result numbered c.new-2.result (g.P.Parts.states c.know_named.new.parts) rows
    (g.P.Parts.states c.do_parts.new.parts) c.new-2.ensures c.know_named.ensures.same c.in-Ok.ensures.done in
    partitions-whole g.K.Loaded.load c.args.job log c.keep_all.new.journal.list.log rows (g.P.Parts.states c.keep_all.new.parts)
    c.keep_all.result c.requires.informed
    (inl (accepts-all g.K.Loaded.load c.args.job log rows c.requires.informed c.requires.accepted g.K.World.passes.partitions known
    c.args.number c.requires.payer numbered is c.edition-edition.result (g.P.Parts.states c.do_parts.new.parts)
    (g.P.Parts.states c.keep_all.new.parts) c.keep_all.new.journal.list.log c.in-Ok.unsettled c.keep_all.result
    c.open-command.result.1 c.edition-edition.ensures c.open-command.ensures.1 does c.keep_all.ensures.kept
    (all-numbered c.edition-edition.result numbered c.new-2.result (g.P.Parts.states c.know_named.new.parts) rows
    c.in-Ok.unsettled c.new-2.ensures c.know_named.ensures.same c.in-Ok.ensures.all)
    c.keep_all.ensures.client c.keep_all.ensures.log c.keep_all.ensures.answer))

pub returns-in-Ok-clause-whole : goal.returns-in-Ok-clause-whole
returns-in-Ok-clause-whole g c =
    let rows = g.P.Parts.states c.args.parts.now in
    let log = c.args.journal.now.list.log in
    let numbered = c.with_number-numbered.result in
    let is : numbered ≡ with_number c.args.number c.args.job.command =
    c.with_number-numbered.ensures ∙ ap (with_number c.args.number) c.open-command.ensures.0 in
    let known : AreKnown c.args.job.command g.K.World.passes.partitions rows =
    subst (λ (command : Command). AreKnown command g.K.World.passes.partitions rows)
    (c.new.ensures ∙ c.command.ensures) c.know_named.ensures.known in
    let does : Pairwise (DoesIfNamed c.edition-edition.result numbered) 1 rows (g.P.Parts.states c.do_parts.new.parts) =
    does-numbered c.edition-edition.result numbered c.new-2.result (g.P.Parts.states c.know_named.new.parts) rows
    (g.P.Parts.states c.do_parts.new.parts) c.new-2.ensures c.know_named.ensures.same c.in-Ok.ensures.done in
    no-part-whole g.K.Loaded.load c.args.job log c.keep_all.new.journal.list.log rows (g.P.Parts.states c.keep_all.new.parts)
    c.keep_all.result c.requires.informed
    (inl (accepts-all g.K.Loaded.load c.args.job log rows c.requires.informed c.requires.accepted g.K.World.passes.partitions known
    c.args.number c.requires.payer numbered is c.edition-edition.result (g.P.Parts.states c.do_parts.new.parts)
    (g.P.Parts.states c.keep_all.new.parts) c.keep_all.new.journal.list.log c.in-Ok.unsettled c.keep_all.result
    c.open-command.result.1 c.edition-edition.ensures c.open-command.ensures.1 does c.keep_all.ensures.kept
    (all-numbered c.edition-edition.result numbered c.new-2.result (g.P.Parts.states c.know_named.new.parts) rows
    c.in-Ok.unsettled c.new-2.ensures c.know_named.ensures.same c.in-Ok.ensures.all)
    c.keep_all.ensures.client c.keep_all.ensures.log c.keep_all.ensures.answer))

pub returns-in-Err-clause-does : goal.returns-in-Err-clause-does
returns-in-Err-clause-does g c =
    let rows = g.P.Parts.states c.args.parts.now in
    let log = c.args.journal.now.list.log in
    let numbered = c.with_number-numbered.result in
    let is : numbered ≡ with_number c.args.number c.args.job.command =
    c.with_number-numbered.ensures ∙ ap (with_number c.args.number) c.open-command.ensures.0 in
    let known : AreKnown c.args.job.command g.K.World.passes.partitions rows =
    subst (λ (command : Command). AreKnown command g.K.World.passes.partitions rows)
    (c.new.ensures ∙ c.command.ensures) c.know_named.ensures.known in
    inr (refuses-late g.K.Loaded.load c.args.job log rows c.requires.informed c.requires.accepted g.K.World.passes.partitions known
    c.args.number c.requires.payer numbered is (g.P.Parts.states c.do_parts.new.parts)
    c.refuse.result c.open-command.result.1 c.in-Err.refusal c.open-command.ensures.1
    (leaves-numbered numbered c.new-2.result (g.P.Parts.states c.know_named.new.parts) rows
    (g.P.Parts.states c.do_parts.new.parts) c.new-2.ensures c.know_named.ensures.same c.in-Err.ensures.left)
    (subst (λ (olds : List PartitionState). IsWhyNotDone olds (g.P.Parts.states c.do_parts.new.parts) c.in-Err.refusal)
    c.know_named.ensures.same c.in-Err.ensures.refused)
    (c.refuse.ensures ∙ ap (λ (job : JobState). refused_answer job.pass c.in-Err.refusal) c.new-in-Err.ensures))

pub returns-in-Err-clause-parts : goal.returns-in-Err-clause-parts
returns-in-Err-clause-parts g c =
    let rows = g.P.Parts.states c.args.parts.now in
    let log = c.args.journal.now.list.log in
    let numbered = c.with_number-numbered.result in
    let is : numbered ≡ with_number c.args.number c.args.job.command =
    c.with_number-numbered.ensures ∙ ap (with_number c.args.number) c.open-command.ensures.0 in
    let known : AreKnown c.args.job.command g.K.World.passes.partitions rows =
    subst (λ (command : Command). AreKnown command g.K.World.passes.partitions rows)
    (c.new.ensures ∙ c.command.ensures) c.know_named.ensures.known in
    partitions-whole g.K.Loaded.load c.args.job log log rows (g.P.Parts.states c.do_parts.new.parts) c.refuse.result
    c.requires.informed
    (inr (refuses-late g.K.Loaded.load c.args.job log rows c.requires.informed c.requires.accepted g.K.World.passes.partitions known
    c.args.number c.requires.payer numbered is (g.P.Parts.states c.do_parts.new.parts)
    c.refuse.result c.open-command.result.1 c.in-Err.refusal c.open-command.ensures.1
    (leaves-numbered numbered c.new-2.result (g.P.Parts.states c.know_named.new.parts) rows
    (g.P.Parts.states c.do_parts.new.parts) c.new-2.ensures c.know_named.ensures.same c.in-Err.ensures.left)
    (subst (λ (olds : List PartitionState). IsWhyNotDone olds (g.P.Parts.states c.do_parts.new.parts) c.in-Err.refusal)
    c.know_named.ensures.same c.in-Err.ensures.refused)
    (c.refuse.ensures ∙ ap (λ (job : JobState). refused_answer job.pass c.in-Err.refusal) c.new-in-Err.ensures)))

pub returns-in-Err-clause-whole : goal.returns-in-Err-clause-whole
returns-in-Err-clause-whole g c =
    let rows = g.P.Parts.states c.args.parts.now in
    let log = c.args.journal.now.list.log in
    let numbered = c.with_number-numbered.result in
    let is : numbered ≡ with_number c.args.number c.args.job.command =
    c.with_number-numbered.ensures ∙ ap (with_number c.args.number) c.open-command.ensures.0 in
    let known : AreKnown c.args.job.command g.K.World.passes.partitions rows =
    subst (λ (command : Command). AreKnown command g.K.World.passes.partitions rows)
    (c.new.ensures ∙ c.command.ensures) c.know_named.ensures.known in
    no-part-whole g.K.Loaded.load c.args.job log log rows (g.P.Parts.states c.do_parts.new.parts) c.refuse.result
    c.requires.informed
    (inr (refuses-late g.K.Loaded.load c.args.job log rows c.requires.informed c.requires.accepted g.K.World.passes.partitions known
    c.args.number c.requires.payer numbered is (g.P.Parts.states c.do_parts.new.parts)
    c.refuse.result c.open-command.result.1 c.in-Err.refusal c.open-command.ensures.1
    (leaves-numbered numbered c.new-2.result (g.P.Parts.states c.know_named.new.parts) rows
    (g.P.Parts.states c.do_parts.new.parts) c.new-2.ensures c.know_named.ensures.same c.in-Err.ensures.left)
    (subst (λ (olds : List PartitionState). IsWhyNotDone olds (g.P.Parts.states c.do_parts.new.parts) c.in-Err.refusal)
    c.know_named.ensures.same c.in-Err.ensures.refused)
    (c.refuse.ensures ∙ ap (λ (job : JobState). refused_answer job.pass c.in-Err.refusal) c.new-in-Err.ensures)))
