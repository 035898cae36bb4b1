-- Calls on one partition, and on each, as events of the whole.
use Rattle.std.proofs.Common.{◌≡◌, ℕ, zero, suc, ◌+◌, ◌-◌, ◌<◌, true, inl, inr, List, [], ◌∷◌, length, Option, Some, None, refl, sym, ap, ◌∙◌, subst, arith}
use Rattle.std.specs.Prelude.{⊤, IfSome, IsSome, IsSomeAnd, MatchOption, is_some, map, slice_get, slice_index_or, slice_set}
use Rattle.std.specs.Option.{option_map, unwrap_or}
use Rattle.hy_worlds.specs.Origins.{Origin}
use Rattle.hy_rows.specs.Tables.{Lists}
use Rattle.hy_commands.specs.declared.command.Commit.{Commit}
use Rattle.hy_space.specs.Space.{child_bytes}
use Rattle.hy_forks.specs.of_partition.Jobs.{Log}
use Rattle.hy_forks.specs.of_partition.Partition.{PartitionState, commits_of, terms_of}
use Rattle.hy_forks.specs.of_partition.Parts.{KeepsBeside}
use Rattle.hy_forks.specs.of_partition.Schedules as one
use Rattle.hy_forks.specs.of_partition.Schedules.{Does, DoesStep, Event, IsTaken, IsWorldOf, Leads, Taken, Underway, World, begins, closes, enters, forks, forks_from, fresh_world, rows_of, steps, takes, underway, with_known, with_open}
use Rattle.hy_forks.specs.of_partition.Snapshots.{SnapshotState}
use Rattle.hy_forks.specs.of_partition.Steps.{Begins, Closes, Forks, ForksFrom, KeepsJob}
use Rattle.hy_forks.specs.of_crossing.Lists.{Pairwise}
use Rattle.hy_forks.specs.Drains.{TellsHere}
use Rattle.hy_forks.specs.Forks.{ClosesHere, ForksAll, ForksAllFrom, ForksFromHere, ForksHere, IsUnforked}
use Rattle.hy_schedules.specs.Schedules.{ArePlacesOf, DoesAll, EventOfAll, IsPlaceOf, IsWholeOf, LeadsAll, Place, Whole, at, children_of, closes_all, drains, each_changed, forks_all, forks_all_from, fresh_place, fresh_whole, is_local, looks, place_at, with_drained, with_places, with_snapshot, with_snapshot_from, without_snapshot, world_at}

-- ---- the places of partitions

places-get : (n : ℕ) (log : Log) (whole : Whole) (number : ℕ) (parts : List PartitionState) (places : List Place)
    (place : ℕ) (p : PartitionState) → ArePlacesOf n log whole number parts places → place < length parts
    → p ≡ slice_index_or parts place p
    → (before : Place) × (slice_get places place ≡ Some before) × IsPlaceOf n log whole (number + place) p before
places-get n log whole number [] [] place p are within here = absurd (omega (arith, within))
places-get n log whole number (first ∷ parts) (row ∷ places) zero p are within here =
    let same : number ≡ number + 0 = omega arith in (
      row,
      refl,
      subst (λ k. IsPlaceOf n log whole k p row) same
          (subst (λ (one : PartitionState). IsPlaceOf n log whole number one row) (sym here) are.0),
    )
places-get n log whole number (first ∷ parts) (row ∷ places) (suc place) p are within here =
    let later = places-get n log whole (suc number) parts places place p are.1 (omega (arith, within)) here in
    let next : suc number + place ≡ number + suc place = omega arith in
    (later.0, later.1, subst (λ k. IsPlaceOf n log whole k p later.0) next later.2)
places-get n log whole number [] (row ∷ places) place p are within here = absurd are
places-get n log whole number (first ∷ parts) [] place p are within here = absurd are

-- a place that stays is that of its partition still, whatever the serial list has more
pub place-carried : (n : ℕ) (log after : Log) (whole next : Whole) (number : ℕ) (p : PartitionState) (place : Place)
    → next.load ≡ whole.load → next.log ≡ after → IsPlaceOf n log whole number p place
    → IsPlaceOf n after next number p place
place-carried n log after whole next number p place load log_is is = record {
  load = load ∙ is.load;
  warehouse = is.warehouse;
  log_is = log_is;
  kept = is.kept;
  running = is.running;
  waits = is.waits;
  snapshots = is.snapshots;
}

pub places-carried : (n : ℕ) (log after : Log) (whole next : Whole) → next.load ≡ whole.load → next.log ≡ after
    → (number : ℕ) (parts : List PartitionState) (places : List Place) → ArePlacesOf n log whole number parts places
    → ArePlacesOf n after next number parts places
places-carried n log after whole next load log_is number [] [] are = tt
places-carried n log after whole next load log_is number (p ∷ parts) (place ∷ places) are = (
  place-carried n log after whole next number p place load log_is are.0,
  places-carried n log after whole next load log_is (suc number) parts places are.1,
)
places-carried n log after whole next load log_is number [] (place ∷ places) are = absurd are
places-carried n log after whole next load log_is number (p ∷ parts) [] are = absurd are

-- one of them was replaced
places-set : (n : ℕ) (log after : Log) (whole next : Whole) → next.load ≡ whole.load → next.log ≡ after
    → (number place : ℕ) (parts : List PartitionState) (places : List Place) (q : PartitionState) (later : Place)
    → IsPlaceOf n after next (number + place) q later → ArePlacesOf n log whole number parts places
    → ArePlacesOf n after next number (slice_set parts place q) (slice_set places place later)
places-set n log after whole next load log_is number place [] [] q later is are = tt
places-set n log after whole next load log_is number zero (p ∷ parts) (row ∷ places) q later is are =
    let same : number + 0 ≡ number = omega arith in (
      subst (λ k. IsPlaceOf n after next k q later) same is,
      places-carried n log after whole next load log_is (suc number) parts places are.1,
    )
places-set n log after whole next load log_is number (suc place) (p ∷ parts) (row ∷ places) q later is are =
    let step : number + suc place ≡ suc number + place = omega arith in (
      place-carried n log after whole next number p row load log_is are.0,
      places-set n log after whole next load log_is (suc number) place parts places q later
          (subst (λ k. IsPlaceOf n after next k q later) step is) are.1,
    )
places-set n log after whole next load log_is number place [] (row ∷ places) q later is are = absurd are
places-set n log after whole next load log_is number place (p ∷ parts) [] q later is are = absurd are

-- each of them changed
module _ (n : ℕ) (log after : Log) (whole next : Whole) (change : ℕ → Place → Place)
    (relation : ℕ → PartitionState → PartitionState → Type 0) where
  pub places-changed : ((number : ℕ) (p q : PartitionState) (place : Place) → relation number p q
      → IsPlaceOf n log whole number p place → IsPlaceOf n after next number q (change number place))
      → (number : ℕ) (parts news : List PartitionState) (places : List Place) → Pairwise relation number parts news
      → ArePlacesOf n log whole number parts places
      → ArePlacesOf n after next number news (each_changed change number places)
  places-changed leads number [] [] [] pairs are = tt
  places-changed leads number (p ∷ parts) (q ∷ news) (place ∷ places) pairs are =
      (leads number p q place pairs.0 are.0, places-changed leads (suc number) parts news places pairs.1 are.1)
  places-changed leads number [] (q ∷ news) places pairs are = absurd pairs
  places-changed leads number (p ∷ parts) [] places pairs are = absurd pairs
  places-changed leads number [] [] (place ∷ places) pairs are = absurd are
  places-changed leads number (p ∷ parts) (q ∷ news) [] pairs are = absurd are

each-same : (number : ℕ) (places : List Place) → each_changed (λ number place. place) number places ≡ places
each-same number [] = refl
each-same number (place ∷ places) = ap (λ (l : List Place). place ∷ l) (each-same (suc number) places)

-- each changed, and its place stays
pub places-same : (n : ℕ) (log after : Log) (whole next : Whole)
    (relation : ℕ → PartitionState → PartitionState → Type 0)
    → ((number : ℕ) (p q : PartitionState) (place : Place) → relation number p q
    → IsPlaceOf n log whole number p place → IsPlaceOf n after next number q place)
    → (number : ℕ) (parts news : List PartitionState) (places : List Place) → Pairwise relation number parts news
    → ArePlacesOf n log whole number parts places → ArePlacesOf n after next number news places
places-same n log after whole next relation leads number parts news places pairs are =
    subst (λ (l : List Place). ArePlacesOf n after next number news l) (each-same number places)
    (places-changed n log after whole next (λ number place. place) relation leads number parts news places pairs are)

-- what holds of each place
pub places-hold : (n : ℕ) (log : Log) (whole : Whole) (relation : ℕ → PartitionState → PartitionState → Type 0)
    (Holds : ℕ → Place → Type 0)
    → ((number : ℕ) (p q : PartitionState) (place : Place) → relation number p q
    → IsPlaceOf n log whole number p place → Holds number place)
    → (number : ℕ) (parts news : List PartitionState) (places : List Place) → Pairwise relation number parts news
    → ArePlacesOf n log whole number parts places → (place : ℕ)
    → IfSome (slice_get places place) (Holds (number + place))
places-hold n log whole relation Holds leads number [] [] [] pairs are place = tt
places-hold n log whole relation Holds leads number (p ∷ parts) (q ∷ news) (row ∷ places) pairs are zero =
    let same : number ≡ number + 0 = omega arith in
    subst (λ k. Holds k row) same (leads number p q row pairs.0 are.0)
places-hold n log whole relation Holds leads number (p ∷ parts) (q ∷ news) (row ∷ places) pairs are (suc place) =
    let next : suc number + place ≡ number + suc place = omega arith in
    subst (λ k. IfSome (slice_get places place) (Holds k)) next
    (places-hold n log whole relation Holds leads (suc number) parts news places pairs.1 are.1 place)
places-hold n log whole relation Holds leads number [] (q ∷ news) places pairs are place = absurd pairs
places-hold n log whole relation Holds leads number (p ∷ parts) [] places pairs are place = absurd pairs
places-hold n log whole relation Holds leads number [] [] (row ∷ places) pairs are place = absurd are
places-hold n log whole relation Holds leads number (p ∷ parts) (q ∷ news) [] pairs are place = absurd are

-- ---- partitions of which the model sees the same

-- what runs, the answer that waits and the snapshots stay
pub record IsBeside (p q : PartitionState) : Type 0 where
  pub terms : terms_of q ≡ terms_of p
  pub running : q.running ≡ p.running
  pub finished : q.finished ≡ p.finished
  pub commits : (child : ℕ) → commits_of q child ≡ commits_of p child
  pub bytes : (child : ℕ) → child_bytes q.space child ≡ child_bytes p.space child

pub beside-keeps : (p q : PartitionState) → KeepsBeside p q → IsBeside p q
beside-keeps p q keeps = record {
  terms = keeps.terms;
  running = keeps.running;
  finished = keeps.finished;
  commits = λ child. ap (λ (all : List (Option ℕ)). slice_index_or all child None) keeps.snapshots;
  bytes = keeps.children.bytes;
}

beside-job : (p q : PartitionState) → KeepsJob p q → ((child : ℕ) → commits_of q child ≡ commits_of p child)
    → ((child : ℕ) → child_bytes q.space child ≡ child_bytes p.space child) → IsBeside p q
beside-job p q job commits bytes = record {
  terms = job.terms;
  running = job.running;
  finished = job.finished;
  commits = commits;
  bytes = bytes;
}

-- a partition that was told a serial list
pub beside-told : (p : PartitionState) (log : Log) → IsBeside p (record p { seen = log })
beside-told p log = record {
  terms = refl;
  running = refl;
  finished = refl;
  commits = λ child. refl;
  bytes = λ child. refl;
}

pub taken-same : (n : ℕ) (p q : PartitionState) (child : ℕ) (taken : Option Taken)
    → commits_of q child ≡ commits_of p child → child_bytes q.space child ≡ child_bytes p.space child
    → IsTaken n (commits_of p child) (child_bytes p.space child) taken
    → IsTaken n (commits_of q child) (child_bytes q.space child) taken
taken-same n p q child taken commits bytes is =
    subst (λ (count : Option ℕ). IsTaken n count (child_bytes q.space child) taken) (sym commits)
    (subst (λ (seen : Option (List (List (List ℕ)))). IsTaken n (commits_of p child) seen taken) (sym bytes) is)

pub place-beside : (n : ℕ) (log after : Log) (whole next : Whole) (number : ℕ) (p q : PartitionState)
    (place : Place) (kept : List Commit) (drained : ℕ) → IsBeside p q → next.load ≡ whole.load → next.log ≡ after
    → kept ≡ q.kept → IsPlaceOf n log whole number p place
    → IsPlaceOf n after next number q (record place { kept = kept; drained = drained })
place-beside n log after whole next number p q place kept drained beside load log_is kept_is is = record {
  load = load ∙ is.load ∙ sym (ap (λ t. t.load) beside.terms);
  warehouse = is.warehouse ∙ sym (ap (λ t. t.warehouse) beside.terms);
  log_is = log_is;
  kept = kept_is;
  running = is.running ∙ sym (ap (option_map underway) beside.running);
  waits = is.waits ∙ sym (ap is_some beside.finished);
  snapshots = λ child.
      taken-same n p q child (place.open_at child) (beside.commits child) (beside.bytes child) (is.snapshots child);
}

-- nothing that the model sees changed
pub place-stays : (n : ℕ) (log : Log) (whole : Whole) (number : ℕ) (p q : PartitionState) (place : Place)
    → IsBeside p q → q.kept ≡ p.kept → IsPlaceOf n log whole number p place → IsPlaceOf n log whole number q place
place-stays n log whole number p q place beside kept is =
    place-beside n log log whole whole number p q place place.kept place.drained beside refl is.log_is
    (is.kept ∙ sym kept) is

-- ---- calls on one partition

-- an event of one warehouse leaves the load and the number
terms-step : (old new : World) (job : Underway) → DoesStep old new job
    → (new.load ≡ old.load) × (new.warehouse ≡ old.warehouse)
terms-step old new job does = elim does [
  | inl more ↦ (ap (λ (w : World). w.load) more.1, ap (λ (w : World). w.warehouse) more.1)
  | inr ended ↦ elim ended [
    | inl last ↦ (ap (λ (w : World). w.load) last.2, ap (λ (w : World). w.warehouse) last.2)
    | inr refused ↦ (ap (λ (w : World). w.load) refused, ap (λ (w : World). w.warehouse) refused)
  ]
]

terms-event : (event : Event) (old new : World) → Does event old new
    → (new.load ≡ old.load) × (new.warehouse ≡ old.warehouse)
terms-event (begins client command) old new does =
    (ap (λ (w : World). w.load) does.3, ap (λ (w : World). w.warehouse) does.3)
terms-event steps old new does = by old.running does
  where
    by : (running : Option Underway) → MatchOption running ⊥ (DoesStep old new)
        → (new.load ≡ old.load) × (new.warehouse ≡ old.warehouse)
    by None never = absurd never
    by (Some job) does = terms-step old new job does
terms-event takes old new does = (ap (λ (w : World). w.load) does.1, ap (λ (w : World). w.warehouse) does.1)
terms-event (forks client number) old new does =
    (ap (λ (w : World). w.load) does.1, ap (λ (w : World). w.warehouse) does.1)
terms-event (forks_from from number) old new does =
    (ap (λ (w : World). w.load) does.2, ap (λ (w : World). w.warehouse) does.2)
terms-event (closes number) old new does =
    (ap (λ (w : World). w.load) does.1, ap (λ (w : World). w.warehouse) does.1)
terms-event (one.looks client) old new does = (ap (λ (w : World). w.load) does, ap (λ (w : World). w.warehouse) does)
terms-event (enters entry) old new does =
    (ap (λ (w : World). w.load) does.2, ap (λ (w : World). w.warehouse) does.2)

-- a world as a place, and the whole with that place
abbrev pub place_of : World → ℕ → Place
place_of world drained = record {
  kept = world.kept;
  drained = drained;
  running = world.running;
  waits = world.waits;
  open_at = world.open_at;
}

-- an event that leads somewhere, and leaves clients who know what fits
abbrev pub LeadsFitting : ((ℕ → ℕ) → Type 0) → ℕ → Event → World → Log → PartitionState → Type 0
LeadsFitting Fits n event world log p =
    (next : World) × Does event world next × IsWorldOf n log p next × Fits next.known

abbrev pub LeadsAllFitting : ((ℕ → ℕ) → Type 0) → ℕ → EventOfAll → Whole → Log → List PartitionState → Type 0
LeadsAllFitting Fits n event whole log parts =
    (next : Whole) × DoesAll event whole next × IsWholeOf n log parts next × Fits next.known

module _ (n place : ℕ) (log after : Log) (parts : List PartitionState) (whole : Whole)
    (is : IsWholeOf n log parts whole) (within : place < length parts) where
  -- what leads from the world of a partition to the one of a partition leads from whole to whole, and what fits the clients
  -- of the one world fits those of the whole
  pub leads-fitting : (Fits : (ℕ → ℕ) → Type 0) (event : Event) (p q : PartitionState) (news : List PartitionState)
      → is_local event ≡ true → p ≡ slice_index_or parts place p → news ≡ slice_set parts place q
      → ((before : Place) → IsWorldOf n log p (world_at whole (suc place) before)
      → LeadsFitting Fits n event (world_at whole (suc place) before) after q)
      → LeadsAllFitting Fits n (at (suc place) event) whole after news
  leads-fitting Fits event p q news is_here here news_is leads =
      let found = places-get n log whole 1 parts whole.places place p is.1 within here in
      let first : 1 + place ≡ suc place = omega arith in
      let before : Place = found.0 in
      let at_place : IsPlaceOf n log whole (suc place) p before =
      subst (λ k. IsPlaceOf n log whole k p before) first found.2 in
      let led = leads before at_place in
      let world : World = led.0 in
      let terms = terms-event event (world_at whole (suc place) before) world led.1 in
      let later : Place = place_of world before.drained in
      let next : Whole = record {
        load = world.load;
        log = world.log;
        known = world.known;
        places = slice_set whole.places place later;
      } in
      let there : IsPlaceOf n after next (suc place) q later =
      subst (λ k. IsWorldOf n after q (record world { warehouse = k })) terms.1 led.2 in (
        next,
        (
          is_here,
          record {
            before = before;
            after = later;
            there = found.1;
            change = subst (λ k. Does event (world_at whole (suc place) before) (record world { warehouse = k }))
                terms.1 led.1;
            drained = refl;
            places = refl;
          },
        ),
        (
          led.2.log_is,
          subst (λ (l : List PartitionState). ArePlacesOf n after next 1 l next.places) (sym news_is)
              (places-set n log after whole next terms.0 led.2.log_is 1 place parts whole.places q later
              (subst (λ k. IsPlaceOf n after next k q later) (sym first) there) is.1),
        ),
        led.3,
      )

  pub leads-at : (event : Event) (p q : PartitionState) (news : List PartitionState) → is_local event ≡ true
      → p ≡ slice_index_or parts place p → news ≡ slice_set parts place q
      → ((before : Place) → IsWorldOf n log p (world_at whole (suc place) before)
      → Leads n event (world_at whole (suc place) before) after q)
      → LeadsAll n (at (suc place) event) whole after news
  leads-at event p q news is_here here news_is leads =
      let led = leads-fitting (λ known. ⊤) event p q news is_here here news_is (λ before is.
      let one = leads before is in (one.0, one.1, one.2, tt)) in
      (led.0, led.1, led.2)

  -- where nothing changes that the model sees, the whole stays
  pub stays-at : (p q : PartitionState) (news : List PartitionState) → p ≡ slice_index_or parts place p
      → news ≡ slice_set parts place q → KeepsJob p q → ((child : ℕ) → commits_of q child ≡ commits_of p child)
      → ((child : ℕ) → child_bytes q.space child ≡ child_bytes p.space child) → IsWholeOf n log news whole
  stays-at p q news here news_is job commits bytes =
      let found = places-get n log whole 1 parts whole.places place p is.1 within here in
      let beside = beside-job p q job commits bytes in
      let there = place-stays n log whole (1 + place) p q found.0 beside job.kept found.2 in (
        is.0,
        subst (λ (l : List PartitionState). ArePlacesOf n log whole 1 l whole.places) (sym news_is)
            (subst (λ (l : List Place). ArePlacesOf n log whole 1 (slice_set parts place q) l)
            (set-same whole.places place found.0 found.1)
            (places-set n log log whole whole refl is.0 1 place parts whole.places q found.0 there is.1)),
      )
    where
      set-same : (places : List Place) (place : ℕ) (row : Place) → slice_get places place ≡ Some row
          → slice_set places place row ≡ places
      set-same [] place row there = refl
      set-same (first ∷ places) zero row there = ap (λ (one : Place). one ∷ places) (cc)
      set-same (first ∷ places) (suc place) row there =
          ap (λ (l : List Place). first ∷ l) (set-same places place row there)

-- ---- calls on each

fresh-places : (n : ℕ) (lists : Lists) (frames commits : ℕ)
    → ((number : ℕ) (p : PartitionState) → Begins lists number frames commits p
    → IsWorldOf n [] p (fresh_world lists number))
    → {Row : Type 0} (rows : List Row) (number : ℕ) (parts : List PartitionState) → length parts ≡ length rows
    → ((place : ℕ) → IfSome (slice_get parts place) (Begins lists (number + place) frames commits))
    → ArePlacesOf n [] (fresh_whole lists) number parts (map (λ row. fresh_place) rows)
fresh-places n lists frames commits is [] number [] count each = tt
fresh-places n lists frames commits is (row ∷ rows) number (p ∷ parts) count each =
    let same : number + 0 ≡ number = omega arith in
    let begins = subst (λ k. Begins lists k frames commits p) same (each 0) in (
      is number p begins,
      fresh-places n lists frames commits is rows (suc number) parts (omega (arith, count)) (λ place.
          let next : number + suc place ≡ suc number + place = omega arith in
          subst (λ k. IfSome (slice_get parts place) (Begins lists k frames commits)) next (each (suc place))),
    )
fresh-places n lists frames commits is [] number (p ∷ parts) count each = absurd (omega (arith, count))
fresh-places n lists frames commits is (row ∷ rows) number [] count each = absurd (omega (arith, count))

pub is-fresh : (n : ℕ) (lists : Lists) (frames commits : ℕ) (parts : List PartitionState)
    → ((number : ℕ) (p : PartitionState) → Begins lists number frames commits p
    → IsWorldOf n [] p (fresh_world lists number))
    → length parts ≡ length lists.tables.warehouses
    → ((place : ℕ) → IfSome (slice_get parts place) (Begins lists (suc place) frames commits))
    → IsWholeOf n [] parts (fresh_whole lists)
is-fresh n lists frames commits parts is count each = (
  refl,
  fresh-places n lists frames commits is lists.tables.warehouses 1 parts count (λ place.
      let first : suc place ≡ 1 + place = omega arith in
      subst (λ k. IfSome (slice_get parts place) (Begins lists k frames commits)) first (each place)),
)

-- the snapshot at the place of a number has the number that the model gives it there
pub snapshot-here : (snapshots : List SnapshotState) (number : ℕ) (Holds : SnapshotState → Type 0)
    → IsSomeAnd (slice_get snapshots (number - 1)) Holds
    → (snapshot : SnapshotState) × (children_of snapshots number ≡ snapshot.child) × Holds snapshot
snapshot-here snapshots number Holds here =
    elim (slice_get snapshots (number - 1)) as (λ found. IsSomeAnd found Holds
    → (snapshot : SnapshotState)
    × (unwrap_or (option_map (λ (s : SnapshotState). s.child) found) 0 ≡ snapshot.child) × Holds snapshot) [
      | None ↦ λ never. absurd never
      | Some snapshot ↦ λ holds. (snapshot, refl, holds)
    ] here

module _ (n : ℕ) (log : Log) (parts news : List PartitionState) (whole : Whole) (is : IsWholeOf n log parts whole) where
  pub stays-unforked : Pairwise (λ number. IsUnforked log) 1 parts news → IsWholeOf n log news whole
  stays-unforked pairs = (
    is.0,
    places-same n log log whole whole (λ number. IsUnforked log) (λ number p q place same was.
        place-stays n log whole number p q place (beside-job p q same.job same.snapshots same.bytes) same.job.kept was)
        1 parts news whole.places pairs is.1,
  )

  pub stays-told : Pairwise (TellsHere log) 1 parts news → IsWholeOf n log news whole
  stays-told pairs = (
    is.0,
    places-same n log log whole whole (TellsHere log) (λ number p q place told was.
        subst (λ (now : PartitionState). IsPlaceOf n log whole number now place) (sym told.0)
        (place-stays n log whole number p (record p { seen = log }) place (beside-told p log) refl was))
        1 parts news whole.places pairs is.1,
  )

  pub leads-drain : Pairwise (TellsHere log) 1 parts news → LeadsAll n drains whole log news
  leads-drain pairs = (
    with_places with_drained whole,
    refl,
    (
      is.0,
      places-changed n log log whole (with_places with_drained whole) with_drained (TellsHere log)
          (λ number p q place told was.
          subst (λ (now : PartitionState).
          IsPlaceOf n log (with_places with_drained whole) number now (with_drained number place)) (sym told.0)
          (place-beside n log log whole (with_places with_drained whole) number p (record p { seen = log }) place
          place.kept (length place.kept) (beside-told p log) refl is.0 was.kept was)) 1 parts news whole.places pairs is.1,
    ),
  )

  pub leads-look : (client : ℕ) → LeadsAll n (looks client) whole log parts
  leads-look client = (
    record whole { known = with_known whole.known client whole.log },
    refl,
    (
      is.0,
      places-carried n log log whole (record whole { known = with_known whole.known client whole.log })
          refl is.0 1 parts whole.places is.1,
    ),
  )

  -- a fork of each
  module _ (kit : Origin) (known : Log) (client : ℕ) (snapshots : List SnapshotState)
      (leads : (p q : PartitionState) (world : World) (snapshot : SnapshotState) → IsWorldOf n log p world
      → Forks n kit log known p q snapshot → Leads n (forks client snapshot.child) world log q)
      (forked : ForksAll n kit log known parts news snapshots) where
    abbrev next : Whole
    next = record (with_places (with_snapshot whole (children_of snapshots)) whole) {
      known = with_known whole.known client whole.log;
    }

    free-here : (number : ℕ) (p q : PartitionState) (place : Place) → ForksHere n kit log known snapshots number p q
        → IsPlaceOf n log whole number p place → place.open_at (children_of snapshots number) ≡ None
    free-here number p q place here was =
        let found = snapshot-here snapshots number (λ snapshot. Forks n kit log known p q snapshot) here in
        let led = leads p q (world_at whole number place) found.0 was found.2 in
        ap place.open_at found.1 ∙ led.1.0

    place-forked : (number : ℕ) (p q : PartitionState) (place : Place) → ForksHere n kit log known snapshots number p q
        → IsPlaceOf n log whole number p place
        → IsPlaceOf n log next number q (with_snapshot whole (children_of snapshots) number place)
    place-forked number p q place here was =
        let found = snapshot-here snapshots number (λ snapshot. Forks n kit log known p q snapshot) here in
        let led = leads p q (world_at whole number place) found.0 was found.2 in
        let taken : Taken = record { commits = length place.kept; rows = rows_of (world_at whole number place) } in
        let world : IsWorldOf n log q (record (world_at whole number place) {
          known = with_known whole.known client whole.log;
          open_at = with_open place.open_at found.0.child (Some taken);
        }) = subst (λ (w : World). IsWorldOf n log q w) led.1.1 led.2 in
        subst (λ k. IsWorldOf n log q (record (world_at whole number place) {
          known = with_known whole.known client whole.log;
          open_at = with_open place.open_at k (Some taken);
        })) (sym found.1) world

    pub leads-fork_all : LeadsAll n (forks_all client (children_of snapshots)) whole log news
    leads-fork_all = (
      next,
      (free, refl),
      (
        is.0,
        places-changed n log log whole next (with_snapshot whole (children_of snapshots))
            (ForksHere n kit log known snapshots) place-forked 1 parts news whole.places forked.each is.1,
      ),
    )
      where
        free : (number : ℕ)
            → IfSome (place_at whole.places number) (λ place. place.open_at (children_of snapshots number) ≡ None)
        free zero = tt
        free (suc place) =
            let first : 1 + place ≡ suc place = omega arith in
            subst (λ k. IfSome (slice_get whole.places place) (λ row. row.open_at (children_of snapshots k) ≡ None))
            first
            (places-hold n log whole (ForksHere n kit log known snapshots)
            (λ number row. row.open_at (children_of snapshots number) ≡ None) free-here 1 parts news whole.places
            forked.each is.1 place)

  -- a fork of what a snapshot of each sees
  module _ (kit : Origin) (all snapshots : List SnapshotState)
      (leads : (p q : PartitionState) (world : World) (from snapshot : SnapshotState) → IsWorldOf n log p world
      → ForksFrom kit from p q snapshot → Leads n (forks_from from.child snapshot.child) world log q)
      (forked : ForksAllFrom kit all parts news snapshots) where
    abbrev again_whole : Whole
    again_whole = with_places (with_snapshot_from (children_of all) (children_of snapshots)) whole

    -- the snapshot that is open, and the one that is taken
    record Both (number : ℕ) (p q : PartitionState) : Type 0 where
      from : SnapshotState
      from_is : children_of all number ≡ from.child
      snapshot : SnapshotState
      snapshot_is : children_of snapshots number ≡ snapshot.child
      forks : ForksFrom kit from p q snapshot

    both-here : (number : ℕ) (p q : PartitionState) → ForksFromHere kit all snapshots number p q → Both number p q
    both-here number p q here =
        let found = snapshot-here snapshots number (λ snapshot. IsSomeAnd (slice_get all (number - 1)) (λ from.
        ForksFrom kit from p q snapshot)) here in
        let other = snapshot-here all number (λ from. ForksFrom kit from p q found.0) found.2 in
        record { from = other.0; from_is = other.1; snapshot = found.0; snapshot_is = found.1; forks = other.2 }

    may-here : (number : ℕ) (p q : PartitionState) (place : Place) → ForksFromHere kit all snapshots number p q
        → IsPlaceOf n log whole number p place
        → IsSome (place.open_at (children_of all number)) × (place.open_at (children_of snapshots number) ≡ None)
    may-here number p q place here was =
        let both = both-here number p q here in
        let led = leads p q (world_at whole number place) both.from both.snapshot was both.forks in (
          subst (λ k. IsSome (place.open_at k)) (sym both.from_is) led.1.0,
          ap place.open_at both.snapshot_is ∙ led.1.1,
        )

    place-again : (number : ℕ) (p q : PartitionState) (place : Place) → ForksFromHere kit all snapshots number p q
        → IsPlaceOf n log whole number p place
        → IsPlaceOf n log again_whole number q (with_snapshot_from (children_of all) (children_of snapshots) number place)
    place-again number p q place here was =
        let both = both-here number p q here in
        let led = leads p q (world_at whole number place) both.from both.snapshot was both.forks in
        let world : IsWorldOf n log q (record (world_at whole number place) {
          open_at = with_open place.open_at both.snapshot.child (place.open_at both.from.child);
        }) = subst (λ (w : World). IsWorldOf n log q w) led.1.2 led.2 in
        subst (λ k. IsWorldOf n log q (record (world_at whole number place) {
          open_at = with_open place.open_at (children_of snapshots number) (place.open_at k);
        })) (sym both.from_is) (subst (λ k. IsWorldOf n log q (record (world_at whole number place) {
          open_at = with_open place.open_at k (place.open_at both.from.child);
        })) (sym both.snapshot_is) world)

    pub leads-fork_all_from : LeadsAll n (forks_all_from (children_of all) (children_of snapshots)) whole log news
    leads-fork_all_from = (
      again_whole,
      (may, refl),
      (
        is.0,
        places-changed n log log whole again_whole (with_snapshot_from (children_of all) (children_of snapshots))
            (ForksFromHere kit all snapshots) place-again 1 parts news whole.places forked.each is.1,
      ),
    )
      where
        may : (number : ℕ) → IfSome (place_at whole.places number) (λ place.
            IsSome (place.open_at (children_of all number)) × (place.open_at (children_of snapshots number) ≡ None))
        may zero = tt
        may (suc place) =
            let first : 1 + place ≡ suc place = omega arith in
            subst (λ k. IfSome (slice_get whole.places place) (λ row.
            IsSome (row.open_at (children_of all k)) × (row.open_at (children_of snapshots k) ≡ None))) first
            (places-hold n log whole (ForksFromHere kit all snapshots)
            (λ number row. IsSome (row.open_at (children_of all number))
            × (row.open_at (children_of snapshots number) ≡ None)) may-here 1 parts news whole.places forked.each is.1
            place)

  -- a close of each
  module _ (snapshots : List SnapshotState)
      (leads : (p q : PartitionState) (world : World) (child : ℕ) → IsWorldOf n log p world → Closes p q child
      → Leads n (closes child) world log q)
      (closed : Pairwise (ClosesHere snapshots) 1 parts news) where
    abbrev closed_whole : Whole
    closed_whole = with_places (without_snapshot (children_of snapshots)) whole

    open-here : (number : ℕ) (p q : PartitionState) (place : Place) → ClosesHere snapshots number p q
        → IsPlaceOf n log whole number p place → IsSome (place.open_at (children_of snapshots number))
    open-here number p q place here was =
        let found = snapshot-here snapshots number (λ snapshot. Closes p q snapshot.child) here in
        let led = leads p q (world_at whole number place) found.0.child was found.2 in
        subst (λ k. IsSome (place.open_at k)) (sym found.1) led.1.0

    place-closed : (number : ℕ) (p q : PartitionState) (place : Place) → ClosesHere snapshots number p q
        → IsPlaceOf n log whole number p place
        → IsPlaceOf n log closed_whole number q (without_snapshot (children_of snapshots) number place)
    place-closed number p q place here was =
        let found = snapshot-here snapshots number (λ snapshot. Closes p q snapshot.child) here in
        let led = leads p q (world_at whole number place) found.0.child was found.2 in
        let world : IsWorldOf n log q (record (world_at whole number place) {
          open_at = with_open place.open_at found.0.child None;
        }) = subst (λ (w : World). IsWorldOf n log q w) led.1.1 led.2 in
        subst (λ k. IsWorldOf n log q (record (world_at whole number place) {
          open_at = with_open place.open_at k None;
        })) (sym found.1) world

    pub leads-close_all : LeadsAll n (closes_all (children_of snapshots)) whole log news
    leads-close_all = (
      closed_whole,
      (are_open, refl),
      (
        is.0,
        places-changed n log log whole closed_whole (without_snapshot (children_of snapshots))
            (ClosesHere snapshots) place-closed 1 parts news whole.places closed is.1,
      ),
    )
      where
        are_open : (number : ℕ)
            → IfSome (place_at whole.places number) (λ place. IsSome (place.open_at (children_of snapshots number)))
        are_open zero = tt
        are_open (suc place) =
            let first : 1 + place ≡ suc place = omega arith in
            subst (λ k. IfSome (slice_get whole.places place) (λ row. IsSome (row.open_at (children_of snapshots k))))
            first
            (places-hold n log whole (ClosesHere snapshots)
            (λ number row. IsSome (row.open_at (children_of snapshots number))) open-here 1 parts news whole.places
            closed is.1 place)
