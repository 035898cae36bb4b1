-- What is printed for some events; the checker computes each row.
use Rattle.std.specs.Prelude.{◌≡◌, [], ◌∷◌, ℕ, None, Some, codes, false, refl, true}
use Rattle.std.specs.Fmt.{digits}
use Rattle.hy_schema.specs.declared.refusal.Refusal.TheVariants as refusals
use Rattle.hy_commands.specs.declared.command.Command.{Command}
use Rattle.hy_commands.specs.declared.command.Command.TheVariants as commands
use Rattle.hy_commands.specs.declared.command.Who.TheVariants as who
use Rattle.hy_commands.specs.declared.reply.Reply.TheVariants as replies
use Rattle.hy_frames.specs.FrameTable.{empty_frame}
use Rattle.hy_session.specs.of_partition.declared.job.Progress.TheVariants as progress
use Rattle.hy_script.specs.Answers.{closed_text, count_text, progress_text, refused_text, snapshot_text, waiting_text}
use Rattle.hy_script.specs.Steps.{is_crossing, limit_for}

-- ---- texts

refused_of_an_unknown_warehouse : refused_text refusals.NoSuchWarehouse ≡ codes "refused E4 NoSuchWarehouse\n"
refused_of_an_unknown_warehouse = refl

frames_that_are_free : count_text (codes "free") 130 ≡ codes "free 130\n"
unfolding digits
frames_that_are_free = refl

steps : progress_text progress.More ≡ codes "more\n"
steps = refl

last_step : progress_text progress.Finished ≡ codes "finished\n"
last_step = refl

no_reply : waiting_text None ≡ codes "none\n"
no_reply = refl

reply_that_waits : waiting_text (Some (replies.StockLevel 2)) ≡ codes "low 2\n"
unfolding digits
reply_that_waits = refl

closed : closed_text (codes "A") ≡ codes "closed A\n"
closed = refl

snapshot_of_nothing : snapshot_text (codes "A") [] ≡ codes "snapshot A commits\n"
snapshot_of_nothing = refl

-- ---- commands over several warehouses

-- warehouse 1 takes a payment of a customer of a warehouse
abbrev payment_in : ℕ → ℕ → Command
payment_in warehouse amount = commands.Payment (record {
  warehouse = 1;
  district = 1;
  customer_warehouse = warehouse;
  customer_district = 1;
  who = who.Number 1;
  amount = amount;
  at = 3;
})

abbrev pub payment_of : ℕ → Command
payment_of warehouse = payment_in warehouse 100

-- and one of a cent too little
abbrev pub small_payment_of : ℕ → Command
small_payment_of warehouse = payment_in warehouse 99

payment_of_its_own_customer : is_crossing (payment_of 1) ≡ false
payment_of_its_own_customer = refl

payment_of_another_customer : is_crossing (payment_of 2) ≡ true
payment_of_another_customer = refl

-- ---- limits

-- one frame of three that may be used is in use, so that five more are six
limit_of_five_more : limit_for (record { max = 3; frames = record empty_frame { count = 2 } ∷ empty_frame ∷ [] }) 5 ≡ 6
limit_of_five_more = refl
