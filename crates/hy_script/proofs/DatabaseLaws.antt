-- Partitions with their terminals, one at each place.
use Rattle.std.proofs.Common.{◌≡◌, ◌∙◌, ◌<◌, ℕ, zero, suc, List, [], ◌∷◌, Option, Result, All, IfSome, OnOk, length, slice_get, slice_index_or, slice_set, ap, arith, refl, subst, sym}
use Rattle.std.proofs.lemmas.List.Elements.{All-cons, All-head, All-nil, All-tail}
use Rattle.hy_rows.specs.Tables.{Lists}
use Rattle.hy_session.specs.of_partition.Partition.{PartitionState}
use Rattle.hy_session.specs.of_partition.Steps.{Begins}
use Rattle.hy_session.specs.of_crossing.Lists.{ChangesAt, Pairwise}
use Rattle.hy_session.specs.of_crossing.Making.{AllBegin}
use Rattle.hy_session.proofs.of_crossing.PlaceLaws.{get-at}
use Rattle.hy_script.specs.declared.answer.Request.{Request}
use Rattle.hy_script.specs.declared.terminal.Terminal.{Terminal}
use Rattle.hy_script.specs.Databases.{DatabaseState, IsAtRest, with_part}
use Rattle.hy_script.specs.Printed.{IsAsked, IsGranted}
use Rattle.hy_script.specs.inside.Invariants.{AreServed, IsReady, IsServed, IsServedAt}
use Rattle.hy_script.proofs.CrossedLaws.{Keeps}
use Rattle.hy_script.proofs.ResultLaws.{on_ok}
use Rattle.hy_script.proofs.ServedLaws.{held-some, served-kept}

module _ {K : Type 0} where
  pub served-count : (parts : List PartitionState) (terminals : List (Terminal K)) → AreServed parts terminals
      → length terminals ≡ length parts
  served-count [] [] served = refl
  served-count [] (terminal ∷ terminals) served = absurd served
  served-count (p ∷ parts) [] served = absurd served
  served-count (p ∷ parts) (terminal ∷ terminals) served = ap suc (served-count parts terminals served.1)

  pub served-at : (parts : List PartitionState) (terminals : List (Terminal K)) (place : ℕ) (terminal : Terminal K)
      → AreServed parts terminals → place < length parts → terminal ≡ slice_index_or terminals place terminal
      → IsServedAt parts place terminal
  served-at [] terminals place terminal served within is = absurd (omega (arith, within))
  served-at (x ∷ parts) [] place terminal served within is = absurd served
  served-at (x ∷ parts) (t ∷ terminals) zero terminal served within is = rw is (served.0)
  served-at (x ∷ parts) (t ∷ terminals) (suc place) terminal served within is =
      served-at parts terminals place terminal served.1 (omega (arith, within)) is

  -- another partition and another terminal at a place
  pub served-set : (parts : List PartitionState) (terminals : List (Terminal K)) (place : ℕ) (p : PartitionState)
      (terminal : Terminal K) → AreServed parts terminals → IsServed p terminal
      → AreServed (slice_set parts place p) (slice_set terminals place terminal)
  served-set [] [] place p terminal served one = tt
  served-set [] (t ∷ terminals) place p terminal served one = absurd served
  served-set (x ∷ parts) [] place p terminal served one = absurd served
  served-set (x ∷ parts) (t ∷ terminals) zero p terminal served one = (one, served.1)
  served-set (x ∷ parts) (t ∷ terminals) (suc place) p terminal served one =
      (served.0, served-set parts terminals place p terminal served.1 one)

  -- where no step takes a pass away
  pub served-pairs : (number : ℕ) (olds news : List PartitionState) (terminals : List (Terminal K))
      → Pairwise Keeps number olds news → AreServed olds terminals → AreServed news terminals
  served-pairs number [] [] terminals keeps served = served
  served-pairs number [] (new ∷ news) terminals keeps served = absurd keeps
  served-pairs number (old ∷ olds) [] terminals keeps served = absurd keeps
  served-pairs number (old ∷ olds) (new ∷ news) [] keeps served = absurd served
  served-pairs number (old ∷ olds) (new ∷ news) (terminal ∷ terminals) keeps served = (
    served-kept old new terminal served.0 keeps.0,
    served-pairs (suc number) olds news terminals keeps.1 served.1,
  )

-- ---- partitions at rest

-- one of them, with a terminal that has the pass
served-start : {K : Type 0} (frames : ℕ) (p : PartitionState) (terminal : Terminal K) → IsAtRest frames p
    → IsReady frames terminal → IsServed p terminal
served-start frames p terminal rest ready = record {
  max_frames = rest.max_frames ∙ sym ready.max_frames;
  one_pass = rw (rest.running, rest.finished) (held-some terminal.pass ready.pass);
}

-- and each of them
pub served-rest : {K : Type 0} (frames : ℕ) (parts : List PartitionState) (terminals : List (Terminal K))
    → All (IsAtRest frames) parts → length terminals ≡ length parts → All (IsReady frames) terminals
    → AreServed parts terminals
served-rest frames [] [] rest count ready = tt
served-rest frames [] (terminal ∷ terminals) rest count ready = absurd (omega (arith, count))
served-rest frames (p ∷ parts) [] rest count ready = absurd (omega (arith, count))
served-rest frames (p ∷ parts) (terminal ∷ terminals) rest count ready = (
  served-start frames p terminal (All-head (IsAtRest frames) p parts rest)
      (All-head (IsReady frames) terminal terminals ready),
  served-rest frames parts terminals (All-tail (IsAtRest frames) p parts rest) (omega (arith, count))
      (All-tail (IsReady frames) terminal terminals ready),
)

-- those of a load are at rest
rest-begun : (lists : Lists) (frames commits : ℕ) (number : ℕ → ℕ) (parts : List PartitionState)
    → ((place : ℕ) → IfSome (slice_get parts place) (Begins lists (number place) frames commits))
    → All (IsAtRest frames) parts
rest-begun lists frames commits number [] begins = All-nil (IsAtRest frames)
rest-begun lists frames commits number (p ∷ parts) begins =
    All-cons (IsAtRest frames) p parts
    (record { running = (begins 0).running; finished = (begins 0).finished; max_frames = (begins 0).max_frames })
    (rest-begun lists frames commits (λ place. number (suc place)) parts (λ place. begins (suc place)))

pub rest-all : (lists : Lists) (frames commits : ℕ) (parts : List PartitionState) → AllBegin lists frames commits parts
    → All (IsAtRest frames) parts
rest-all lists frames commits parts begin = rest-begun lists frames commits suc parts begin.each

-- ---- what was asked of the partition at a place was asked of that of its number

module _ {A E : Type 0} (result : Result A E) (number place : ℕ) (request : Request) (old new : DatabaseState)
    (before after : Option (List ℕ)) (Also : PartitionState → PartitionState → Type 0) where
  pub asked : number ≡ suc place → place < length old.parts
      → new ≡ record old { parts = new.parts; log = new.log }
      → ChangesAt (λ p q. OnOk result (IsGranted request old.log new.log p q before after) × Also p q) place old.parts
      new.parts → OnOk result (IsAsked number request old new before after)
  asked is within writes changes = on_ok result changes.4.0 (λ granted.
      let here = get-at old.parts place changes.0 within changes.2 in
      let put : new ≡ record (with_part old (suc place) changes.1) { log = new.log } =
      writes ∙ ap (λ (parts : List PartitionState). record old { parts = parts; log = new.log }) changes.3 in
      subst (λ n. IsAsked n request old new before after) (sym is)
      (granted.0, rw here (changes.1, granted.1, put), granted.2))
