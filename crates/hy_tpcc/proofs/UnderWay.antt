-- A command on its way, arm by arm.
use Rattle.std.proofs.Common.{◌≡◌, ℕ, ◌<◌, ◌+◌, List, ◌∷◌, [], ◌++◌, length, Option, Some, refl, sym, ap, subst, ◌∙◌, arith}
use Rattle.std.specs.Prelude.{Result, Ok, Err, IfOk, OnOk}
use Rattle.std.proofs.lemmas.List.FromFn.{length-map-range_with_len, map-range_with_len_more}
use Rattle.hy_rows.specs.Tables.{Tables}
use Rattle.hy_frames.specs.declared.errors.Shortage.{Shortage}
use Rattle.hy_commands.specs.declared.command.Command.{Command}
use Rattle.hy_commands.specs.declared.command.Command.TheVariants as commands
use Rattle.hy_commands.specs.declared.command.Delivery.{Delivery}
use Rattle.hy_commands.specs.declared.edition.Edition.{Edition}
use Rattle.hy_commands.specs.declared.reply.Reply.{Reply}
use Rattle.hy_commands.specs.declared.reply.Reply.TheVariants as replies
use Rattle.hy_commands.specs.Deliveries.{oldest}
use Rattle.hy_commands.specs.Commands.{slice_count}
use Rattle.hy_writers.specs.of_store.Stored.{Stored}
use Rattle.hy_tpcc.proofs.SliceLaws.{delivery-begun}
use Rattle.hy_tpcc.specs.Executor.{ExecutorState, HasDone, IsUnderWay, NotesDelivered, answer_of, delivered_before}
use Rattle.hy_tpcc.specs.Shortages.{with_refusal}

pub if_ok-then : {Value Refused : Type 0} (result : Result Value Refused) {P Q : Value → Type 0}
    → ((value : Value) → P value → Q value) → IfOk result P → IfOk result Q
if_ok-then (Ok value) then ok = then value ok
if_ok-then (Err refused) then ok = ok

pub on_ok-refused : {Value : Type 0} (answer : Result Value Shortage) (P : Type 0) → OnOk answer P → OnOk (with_refusal answer) P
on_ok-refused (Ok value) P ok = ok
on_ok-refused (Err shortage) P ok = ok

pub if_ok-refused : {Value : Type 0} (answer : Result Value Shortage) (P : Value → Type 0) → IfOk answer P → IfOk (with_refusal answer) P
if_ok-refused (Ok value) P ok = ok
if_ok-refused (Err shortage) P ok = ok

-- a command of which nothing is noted
pub slice-done : (executor : ExecutorState) (edition : Edition) (command one : Command) (done : ℕ) (s s1 : Stored) → command ≡ one
    → ((w d : ℕ) (b : Tables) (l : List ℕ) → NotesDelivered w one d b l)
    → ((before : Tables) → HasDone executor.layout edition one executor.place done before s
    → HasDone executor.layout edition one executor.place (done + 1) before s1)
    → (before : Tables) → IsUnderWay executor edition command done before s → IsUnderWay executor edition command (done + 1) before s1
slice-done executor edition command one done s s1 is unnoted step =
    subst (λ (c : Command). (before : Tables) → IsUnderWay executor edition c done before s → IsUnderWay executor edition c (done + 1) before s1)
    (sym is)
    (λ before now. record {
      alone = now.alone;
      slices = step before now.slices;
      delivered = unnoted executor.layout.warehouse (done + 1) before executor.delivered;
    })

pub slice-answers : (executor : ExecutorState) (edition : Edition) (command one : Command) (done : ℕ) (s : Stored) (reply : Option Reply)
    → command ≡ one
    → ((before : Tables) → HasDone executor.layout edition one executor.place done before s
    → reply ≡ answer_of executor.layout edition one done before)
    → (before : Tables) → IsUnderWay executor edition command done before s
    → reply ≡ answer_of executor.layout edition command done before
slice-answers executor edition command one done s reply is answers =
    subst (λ (c : Command). (before : Tables) → IsUnderWay executor edition c done before s
    → reply ≡ answer_of executor.layout edition c done before) (sym is)
    (λ before now. answers before now.slices)

-- a command of one slice
pub only-slice : (executor : ExecutorState) (edition : Edition) (command one : Command) (done : ℕ) (s : Stored) → command ≡ one
    → slice_count one ≡ 1 → done < slice_count command
    → (before : Tables) → IsUnderWay executor edition command done before s
    → HasDone executor.layout edition one executor.place 0 before s
only-slice executor edition command one done s is single next before now =
    let count : slice_count command ≡ 1 = ap slice_count is ∙ single in
    let first : done ≡ 0 = omega (arith, next, count) in
    subst (λ (n : ℕ). HasDone executor.layout edition one executor.place n before s) first
    (subst (λ (c : Command). HasDone executor.layout edition c executor.place done before s) is now.slices)

pub only-answers : (executor : ExecutorState) (edition : Edition) (command one : Command) (done : ℕ) (s : Stored) (reply : Option Reply)
    → command ≡ one → slice_count one ≡ 1 → done < slice_count command
    → ((before : Tables) → HasDone executor.layout edition one executor.place 0 before s
    → reply ≡ answer_of executor.layout edition one 0 before)
    → (before : Tables) → IsUnderWay executor edition command done before s
    → reply ≡ answer_of executor.layout edition command done before
only-answers executor edition command one done s reply is single next answers before now =
    let count : slice_count command ≡ 1 = ap slice_count is ∙ single in
    let first : done ≡ 0 = omega (arith, next, count) in
    answers before (only-slice executor edition command one done s is single next before now)
    ∙ subst (λ (c : Command). answer_of executor.layout edition one 0 before ≡ answer_of executor.layout edition c done before) (sym is)
    (subst (λ (n : ℕ). answer_of executor.layout edition one 0 before ≡ answer_of executor.layout edition one n before) (sym first) refl)

-- ---- a delivery

pub noted-length : (warehouse done : ℕ) (before : Tables) (delivered : List ℕ)
    → delivered ≡ delivered_before warehouse before done → length delivered ≡ done
noted-length warehouse done before delivered is =
    ap length is ∙ length-map-range_with_len (λ district. oldest warehouse district before) 1 done

pub noted-more : (warehouse done number : ℕ) (before : Tables) (delivered : List ℕ)
    → delivered ≡ delivered_before warehouse before done → number ≡ oldest warehouse (done + 1) before
    → delivered ++ number ∷ [] ≡ delivered_before warehouse before (done + 1)
noted-more warehouse done number before delivered is one =
    ap (λ (items : List ℕ). items ++ number ∷ []) is
    ∙ ap (λ (n : ℕ). delivered_before warehouse before done ++ n ∷ []) one
    ∙ sym (map-range_with_len_more (λ district. oldest warehouse district before) 1 done (done + 1) (omega arith))

pub delivery-answers : (executor : ExecutorState) (edition : Edition) (delivery : Delivery) (done : ℕ) (before : Tables) (s : Stored)
    (orders : List ℕ) → done ≡ 9 → HasDone executor.layout edition (commands.Delivery delivery) executor.place done before s
    → orders ≡ delivered_before executor.layout.warehouse before (done + 1)
    → Some (replies.Delivery orders) ≡ answer_of executor.layout edition (commands.Delivery delivery) done before
delivery-answers executor edition delivery done before s orders last now is =
    let home = (delivery-begun executor.layout.warehouse delivery before now.begun.begun).home in
    subst (λ (n : ℕ). Some (replies.Delivery orders) ≡ answer_of executor.layout edition (commands.Delivery delivery) n before)
    (sym last)
    (ap (λ (all : List ℕ). Some (replies.Delivery all))
    (is
    ∙ ap (λ (n : ℕ). delivered_before executor.layout.warehouse before (n + 1)) last
    ∙ ap (λ (w : ℕ). delivered_before w before 10) (sym home)))
