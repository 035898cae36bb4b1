-- A payment on its way, in an edition.
use Rattle.std.specs.Prelude.{◌≡◌, ℕ, ◌+◌, Option}
use Rattle.hy_rows.specs.Tables.{Tables}
use Rattle.hy_commands.specs.declared.command.Command.TheVariants as commands
use Rattle.hy_commands.specs.declared.command.Payment.{Payment}
use Rattle.hy_commands.specs.declared.edition.Edition.{Edition}
use Rattle.hy_commands.specs.declared.reply.Reply.{Reply}
use Rattle.hy_layout.specs.Layout.{LayoutState}
use Rattle.hy_writers.specs.of_store.Stored.{Stored}
use Rattle.hy_tpcc.specs.Executor.{HasDone, answer_of}

-- so many of its slices are done, and it began with some rows
abbrev pub IsPartlyPaid : LayoutState → Edition → Payment → ℕ → ℕ → Stored → Type 0
IsPartlyPaid layout edition payment place done s =
    (before : Tables) × HasDone layout edition (commands.Payment payment) place done before s

-- whatever rows it began with, one slice more is done
abbrev pub PaysNext : LayoutState → Edition → Payment → ℕ → ℕ → Stored → Stored → Type 0
PaysNext layout edition payment place done old new = (before : Tables)
    → HasDone layout edition (commands.Payment payment) place done before old
    → HasDone layout edition (commands.Payment payment) place (done + 1) before new

-- and this is the answer of the slice behind so many
abbrev pub AnswersPayment : LayoutState → Edition → Payment → ℕ → ℕ → Stored → Option Reply → Type 0
AnswersPayment layout edition payment place done s reply = (before : Tables)
    → HasDone layout edition (commands.Payment payment) place done before s
    → reply ≡ answer_of layout edition (commands.Payment payment) done before
