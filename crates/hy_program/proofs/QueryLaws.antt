-- What the answer over new partitions rests on.
use Rattle.std.proofs.Common.{◌≡◌, ◌<◌, ◌≤◌, ℕ, suc, List, [], ◌∷◌, IfErr, IfOk, IfSome, inl, inr, length, slice_get, Option, None, Some, Result, Ok, Err, arith, subst, sym}
use Rattle.std.specs.Prelude.{MatchResult}
use Rattle.hy_rows.specs.Tables.{Lists, of_warehouse}
use Rattle.hy_schema.specs.Loads.{IsLoad}
use Rattle.hy_schema.specs.declared.refusal.Refusal.{Refusal}
use Rattle.hy_schema.specs.declared.refusal.Refusal.TheVariants as refusals
use Rattle.hy_frames.specs.FrameTable.{free_of}
use Rattle.hy_undo.specs.UndoLog.{UndoLog, empty_log}
use Rattle.hy_undo.specs.Touched.{touched}
use Rattle.hy_commands.specs.Parts.{database_of}
use Rattle.hy_recovery.specs.of_partition.Partition.{PartitionState}
use Rattle.hy_recovery.specs.of_partition.Steps.{Begins}
use Rattle.hy_recovery.proofs.of_partition.SeatLaws.{length-numbered}
use Rattle.hy_recovery.specs.of_crossing.Making.{AllBegin}
use Rattle.hy_recovery.specs.of_forks.Forks.{IsWhyUnforked, SomeLacks}
use Rattle.hy_query.specs.Language.{query_of}
use Rattle.hy_query.specs.Queries.{QueryState}
use Rattle.hy_program.specs.Query.{IsWhyUnanswered, IsWhyUnasked, WhyUnasked}

-- nothing was written in these partitions
abbrev Rest : List PartitionState → Type 0
Rest parts = (place : ℕ) → IfSome (slice_get parts place) (λ p. p.undo ≡ empty_log p.space)

-- a fork of them lacks no frame
none-lacks : (parts : List PartitionState) → Rest parts → SomeLacks parts → ⊥
none-lacks [] rests lacks = lacks
none-lacks (p ∷ parts) rests (inl lacks) =
    let here : free_of p.space.frames < 0 =
    subst (λ (undo : UndoLog). free_of p.space.frames < touched undo) (rests 0) lacks in
    absurd (omega (arith, here))
none-lacks (p ∷ parts) rests (inr later) = none-lacks parts (λ place. rests (suc place)) later

-- so it is refused for want of memory alone
refused-new : (lists : Lists) (frames commits : ℕ) (parts : List PartitionState) (why : Refusal)
    → AllBegin lists frames commits parts → IsWhyUnforked parts why → why ≡ refusals.NoMemory
refused-new lists frames commits parts why begin (inl lacking) = absurd (none-lacks parts rests lacking.1)
  where
    at : (place : ℕ) (found : Option PartitionState) → IfSome found (Begins lists (suc place) frames commits)
        → IfSome found (λ p. p.undo ≡ empty_log p.space)
    at place None begins = tt
    at place (Some p) begins = begins.undo

    rests : Rest parts
    rests place = at place (slice_get parts place) (begin.each place)
refused-new lists frames commits parts why begin (inr memory) = memory

pub refused-by : {X : Type 0} (lists : Lists) (frames commits : ℕ) (parts : List PartitionState) (result : Result X Refusal)
    (why : Refusal) → AllBegin lists frames commits parts → IsWhyUnforked parts why → result ≡ Err why
    → IfErr result (IsWhyUnanswered lists)
refused-by {X = X} lists frames commits parts result why begin unforked is =
    subst (λ (r : Result X Refusal). IfErr r (IsWhyUnanswered lists)) (sym is)
    (inr (refused-new lists frames commits parts why begin unforked))

-- a load has a warehouse
pub some-warehouses : (lists : Lists) → IsLoad lists → 1 ≤ length (database_of lists).warehouses
some-warehouses lists sound =
    let some : 1 ≤ length lists.tables.warehouses = omega (arith, sound.warehouses.whole) in
    subst (λ (count : ℕ). 1 ≤ count)
    (sym (length-numbered (λ number. of_warehouse number lists.tables) 1 (length lists.tables.warehouses))) some

-- why a text is not read as a query is why it has no answer
unasked : (lists : Lists) (said : Result QueryState ℕ) (why : Refusal)
    → MatchResult said (λ query. why ≡ refusals.NoMemory) (λ place. why ≡ refusals.BadQuery place) → WhyUnasked lists said why
unasked lists (Ok query) why is = inr is
unasked lists (Err place) why is = is

pub unread-by : {X : Type 0} (lists : Lists) (text : List ℕ) (result : Result X Refusal) (why : Refusal)
    → MatchResult (query_of text) (λ query. why ≡ refusals.NoMemory) (λ place. why ≡ refusals.BadQuery place)
    → result ≡ Err why → IfErr result (IsWhyUnasked lists text)
unread-by {X = X} lists text result why refused is =
    subst (λ (r : Result X Refusal). IfErr r (IsWhyUnasked lists text)) (sym is)
    (unasked lists (query_of text) why refused)

-- what holds of a value leads to what holds of a result that has it
pub if_ok : {T E : Type 0} {P Q : T → Type 0} (r : Result T E) → IfOk r P → ((value : T) → P value → Q value) → IfOk r Q
if_ok (Ok value) is leads = leads value is
if_ok (Err error) is leads = tt
