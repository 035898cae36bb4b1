-- Why the payment of `first` isn't done.
use Rattle.std.proofs.Common.{◌≡◌, ◌⊎◌, inl, inr, ℕ, ℤ, Bool, true, false, List, [], ◌∷◌, ◌++◌, length, IsErrAnd, Result, Ok, Err, Option, Some, None, ◌||◌, ◌&&◌, ◌==◌, cond, is_some, refl, sym, ap, ◌∙◌}
use Rattle.std.specs.Prelude.{not}
use Rattle.std.specs.Option.{option_or}
use Rattle.hy_rows.specs.Tables.{of_warehouse}
use Rattle.hy_schema.specs.declared.refusal.Refusal.{Refusal}
use Rattle.hy_schema.specs.declared.refusal.Refusal.TheVariants as refusals
use Rattle.hy_tables.specs.Generated.{generated_lists}
use Rattle.hy_commands.specs.declared.command.Command.{Command}
use Rattle.hy_commands.specs.declared.command.Commit.{Commit}
use Rattle.hy_commands.specs.declared.command.Commit.TheVariants as commits
use Rattle.hy_commands.specs.declared.edition.Edition.TheVariants as editions
use Rattle.hy_commands.specs.Commands.{is_reader}
use Rattle.hy_commands.specs.Replay.{replay}
use Rattle.hy_commands.specs.Transactions.{act, begin_refusal_of, refusal_of}
use Rattle.hy_recovery.specs.of_partition.Jobs.{RunningJob}
use Rattle.hy_recovery.specs.of_partition.Partition.{PartState, PartitionState, Terms, refusal_now, rows_now}
use Rattle.hy_recovery.specs.of_partition.Steps.{Begins, begin_refusal, is_busy, is_full}
use Rattle.hy_program.specs.First.{IsFirstRefusal, IsPaid, IsPayRefusal, IsYtdAfter, first_command, first_payment, ytds_of}
use Rattle.hy_program.specs.Generated.{generated, generated_items}

and-false : (b : Bool) → (b && false) ≡ false
and-false true = refl
and-false false = refl

or_first : (first later : Option Refusal) (refusal : Refusal) → first ≡ Some refusal → option_or first later ≡ Some refusal
or_first first later refusal is = ap (λ one. option_or one later) is

or_none : (refusal : Option Refusal) → option_or refusal None ≡ refusal
or_none None = refl
or_none (Some refusal) = refl

-- how many frames and commits the program's partition may have
abbrev pub HasBegun : PartitionState → Type 0
HasBegun p = Begins (generated_lists 1 3 1) 1 100_000 1_000_000 p

-- the rows that the partition has begun with
rows-begun : (p : PartitionState) → HasBegun p → rows_now p ≡ of_warehouse 1 (generated 3)
rows-begun p b =
    ap (λ (t : Terms). replay t.load t.warehouse (of_warehouse t.warehouse t.load.tables) p.kept) b.terms
    ∙ ap (replay (generated_lists 1 3 1) 1 (of_warehouse 1 (generated 3))) b.kept

-- what the warehouse refuses
refusal-begun : (p : PartitionState) (command : Command) → HasBegun p
    → refusal_now p command ≡ refusal_of (generated_items 3) 1 command (generated 3)
refusal-begun p command b =
    ap (λ (t : Terms). refusal_of t.load.items t.warehouse command (rows_now p)) b.terms
    ∙ ap (refusal_of (generated_items 3) 1 command) (rows-begun p b)

-- a partition that has just begun doesn't begin only what the warehouse refuses
begin-begun : (p : PartitionState) (command : Command) (refusal : Refusal) → HasBegun p
    → begin_refusal p command ≡ Some refusal → refusal_of (generated_items 3) 1 command (generated 3) ≡ Some refusal
begin-begun p command refusal b is =
    let busy : is_busy p ≡ false =
    ap (λ (r : Option RunningJob). is_some r || is_some p.part || is_some p.finished) b.running
    ∙ ap (λ (part : Option PartState). is_some part || is_some p.finished) b.part ∙ ap is_some b.finished in
    let full : is_full p ≡ false =
    ap (λ (kept : List Commit). length kept == p.max_kept) b.kept ∙ ap (λ (t : Terms). 0 == t.max_kept) b.terms in
    let why = ap (λ (b : Bool). cond b (Some refusals.Busy) (option_or (begin_refusal_of p.warehouse command (rows_now p))
    (cond (not (is_reader command) && is_full p) (Some refusals.HistoryFull) None))) busy in
    let less = ap (λ (b : Bool). option_or (begin_refusal_of p.warehouse command (rows_now p))
    (cond (not (is_reader command) && b) (Some refusals.HistoryFull) None)) full in
    let none = ap (λ (b : Bool). option_or (begin_refusal_of p.warehouse command (rows_now p)) (cond b (Some refusals.HistoryFull) None))
    (and-false (not (is_reader command))) in
    let begins : begin_refusal_of p.warehouse command (rows_now p) ≡ Some refusal =
    sym (or_none (begin_refusal_of p.warehouse command (rows_now p))) ∙ sym none ∙ sym less ∙ sym why ∙ is in
    sym (refusal-begun p command b) ∙ or_first (begin_refusal_of p.warehouse command (rows_now p)) _ refusal begins

-- the rows after the payment, from those of the partition
pub ytd_after : (amount : ℕ) (p new : PartitionState) (ytd : ℤ) → HasBegun p → IsPaid (first_payment amount) p new → ytds_of (rows_now new) ≡ ytd ∷ [] → IsYtdAfter amount ytd
ytd_after amount p new ytd b paid is =
    let command : Command = first_command amount in
    let kept = paid.kept ∙ ap (λ (kept : List Commit). kept ++ commits.Local editions.Second command ∷ []) b.kept in
    let rows : rows_now new ≡ (act (generated_items 3) 1 editions.Second command (of_warehouse 1 (generated 3))).tables =
    ap (λ (t : Terms). replay t.load t.warehouse (of_warehouse t.warehouse t.load.tables) new.kept) (paid.terms ∙ b.terms)
    ∙ ap (replay (generated_lists 1 3 1) 1 (of_warehouse 1 (generated 3))) kept in
    (sym (refusal-begun p command b) ∙ paid.accepted, sym (ap ytds_of rows) ∙ is)

pub first_refusal : (amount : ℕ) (p : PartitionState) (refusal : Refusal) → HasBegun p → IsPayRefusal p (first_payment amount) refusal → IsFirstRefusal amount refusal
first_refusal amount p refusal begins why = elim why [
  | inl refused ↦ inl (begin-begun p (first_command amount) refusal begins refused)
  | inr others ↦ elim others [
    | inl refused ↦ inl (sym (refusal-begun p (first_command amount) begins) ∙ refused)
    | inr short ↦ inr short
  ]
]

-- an error of which it is said that it is this one
pub err_is : {T E : Type 0} (answer : Result T E) (value : E) → IsErrAnd answer (λ error. error ≡ value)
    → answer ≡ Err value
err_is (Ok x) value is = absurd (is)
err_is (Err error) value is = ap Err is

-- of two cases the one that is left
pub other_case : {One Other : Type 0} → One ⊎ Other → (One → ⊥) → Other
other_case either not_one = elim either [
  | inl one ↦ absurd (not_one one)
  | inr other ↦ other
]
