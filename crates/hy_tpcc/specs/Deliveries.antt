-- A delivery on its way: the orders that its slices have delivered are noted.
use Rattle.std.specs.Prelude.{◌≡◌, ℕ, ◌+◌, List, Option}
use Rattle.hy_rows.specs.Tables.{Tables}
use Rattle.hy_commands.specs.declared.command.Command.TheVariants as commands
use Rattle.hy_commands.specs.declared.command.Delivery.{Delivery}
use Rattle.hy_commands.specs.declared.edition.Edition.{Edition}
use Rattle.hy_commands.specs.declared.reply.Reply.{Reply}
use Rattle.hy_commands.specs.Deliveries.{oldest}
use Rattle.hy_layout.specs.Layout.{LayoutState}
use Rattle.hy_writers.specs.of_store.Stored.{Stored}
use Rattle.hy_tpcc.specs.Executor.{AnswersSlice, ExecutorState, HasDone, IsUnderWay, RunsSlice}

-- an executor that has noted a place and some orders
abbrev pub noting : LayoutState → ℕ → List ℕ → ExecutorState
noting layout place delivered = record { layout = layout; place = place; delivered = delivered }

-- in one edition or the other, an executor has done so many slices of a delivery
abbrev pub RunsDelivery : ExecutorState → Delivery → ℕ → Stored → Type 0
RunsDelivery executor delivery done s =
    (edition : Edition) × (before : Tables) × IsUnderWay executor edition (commands.Delivery delivery) done before s

-- whatever the edition, one slice more is done, and what it has delivered is noted
abbrev pub DeliversNext : ExecutorState → ExecutorState → Delivery → ℕ → Stored → Stored → Type 0
DeliversNext executor next delivery done old new =
    (edition : Edition) → RunsSlice executor next edition (commands.Delivery delivery) done old new

-- the answer of the slice behind so many
abbrev pub AnswersDelivery : ExecutorState → Delivery → ℕ → Stored → Option Reply → Type 0
AnswersDelivery executor delivery done s reply =
    (edition : Edition) → AnswersSlice executor edition (commands.Delivery delivery) done s reply

-- the number of the order that the slice behind so many delivers, or 0
abbrev pub IsNextDelivered : LayoutState → Delivery → ℕ → ℕ → Stored → ℕ → Type 0
IsNextDelivered layout delivery place done s number = (edition : Edition) (before : Tables)
    → HasDone layout edition (commands.Delivery delivery) place done before s
    → number ≡ oldest layout.warehouse (done + 1) before
