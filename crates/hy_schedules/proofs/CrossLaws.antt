-- A command over several warehouses as one event of the whole.
use Rattle.std.proofs.Common.{◌≡◌, ℕ, suc, ◌+◌, ◌<◌, ◌==◌, ◌⊎◌, Bool, true, false, cond, nat_lt, inl, inr, List, [], ◌∷◌, ◌++◌, filter, length, Option, Some, None, refl, sym, ap, ◌∙◌, subst, arith, append_assoc, length-append}
use Rattle.std.specs.Prelude.{⊤, MatchOption, is_some, slice_get, slice_index_or, slice_set}
use Rattle.std.specs.List.{list_any, range_with_len}
use Rattle.std.specs.Option.{option_map}
use Rattle.std.proofs.lemmas.Option.{same_Some}
use Rattle.std.specs.List.Sorted.{IsPermutation}
use Rattle.std.proofs.lemmas.List.Sorted.{IsPermutation-append_comm, IsPermutation-append_left, IsPermutation-middle, IsPermutation-sym, IsPermutation-trans}
use Rattle.hy_passes.specs.SerialList.{names}
use Rattle.hy_passes.specs.declared.entry.Entry.{Entry}
use Rattle.hy_rows.specs.Tables.{Lists}
use Rattle.hy_schema.specs.Loads.{IsLoad}
use Rattle.hy_schema.specs.declared.refusal.Refusal.{Refusal}
use Rattle.hy_schema.specs.declared.refusal.Refusal.TheVariants as refusals
use Rattle.hy_commands.specs.declared.command.Command.{Command}
use Rattle.hy_commands.specs.declared.edition.Edition.{Edition}
use Rattle.hy_commands.specs.declared.edition.Edition.TheVariants as editions
use Rattle.hy_commands.specs.declared.command.Commit.{Commit}
use Rattle.hy_commands.specs.Commands.{kept_of, warehouses_of, warehouses_of_commit}
use Rattle.hy_commands.specs.Parts.{refusal_in}
use Rattle.hy_commands.specs.Transactions.{refusal_of}
use Rattle.hy_database.specs.Database.{customer_rows, kept_in}
use Rattle.hy_database.proofs.PartLaws.{by_number-warehouses}
use Rattle.hy_space.specs.Space.{child_bytes}
use Rattle.hy_forks.specs.of_partition.Jobs.{DoneState, JobState, Log, RunningJob, accepted_answer, entered_by, refused_answer}
use Rattle.hy_forks.specs.of_partition.Partition.{PartitionState, commits_of, outcome_now}
use Rattle.hy_forks.specs.of_partition.Schedules.{IsTaken, IsWorldOf, Taken, Underway, World, entered, rows_of, underway, with_accepted, with_known, with_refused}
use Rattle.hy_forks.specs.of_partition.Steps.{Accepts, Ends as EndsWith, KeepsRest, Refuses}
use Rattle.hy_forks.specs.of_crossing.Crossings.{AcceptsAll, ArePartitions, Crosses, EndsIfNamed, EndsJob, KeepsIfNamed, LeavesIfNamed, IfNamed, RefusesAll, TellsIfNamed, TellsNamed, crossing_entry, database_behind, entry_of, is_named, with_full}
use Rattle.hy_forks.specs.of_crossing.Lists.{InTurn}
use Rattle.hy_schedules.specs.Clients.{KnowsClients, LeadsKnowing, passes_in, passes_of}
use Rattle.hy_schedules.specs.Looking.{CrossesLooking, LookInTurn, LooksOnce, Moment, looked}
use Rattle.hy_schedules.specs.Schedules.{ArePlacesOf, ChangesPlace, Ends, DoesAll, EndsIn, EventOfAll, IsPlaceOf, IsWholeOf, LeadsAll, LooksAmid, Place, Whole, crosses, entry_behind, no_looks, place_at, refusal_behind, with_all_known, with_commit, with_entry, with_looks, with_place, world_at}
use Rattle.hy_schedules.proofs.ClientLaws.{Moves, Pass, first-behind, knows-permuted, knows-told, moves-alone, moves-answered, moves-both, moves-same, moves-then, moves-told, passes-beside, passes-pairs, second-behind, swapped}
use Rattle.hy_schedules.proofs.CallLaws.{beside-keeps, beside-told, place-beside, place-carried, place-stays, place_of, places-carried, places-changed, places-same, taken-same}

-- ---- what runs in one warehouse ends

-- no job changes what the snapshots of a partition are
pub still-taken : (n : ℕ) (p q : PartitionState) (child : ℕ) (taken : Option Taken) → KeepsRest p q
    → IsTaken n (commits_of p child) (child_bytes p.space child) taken
    → IsTaken n (commits_of q child) (child_bytes q.space child) taken
still-taken n p q child taken rest is =
    taken-same n p q child taken (ap (λ (all : List (Option ℕ)). slice_index_or all child None) rest.snapshots)
    (rest.children.bytes child) is

-- and its client knows what the answer's pass has seen
pub record Ended (n : ℕ) (after : Log) (p q : PartitionState) (old new : World) : Type 0 where
  pub ends : Ends old new
  pub load : new.load ≡ old.load
  pub warehouse : new.warehouse ≡ old.warehouse
  pub is : IsWorldOf n after q new
  pub moves : Moves old.known new.known (passes_of p) (passes_of q)

-- why a job was refused, and the answer to it
why-refused : (job : RunningJob) (before after : Option Log) (p q : PartitionState) → Refuses job before after p q
    → (why : Refusal) × EndsWith p q (refused_answer job.pass why)
why-refused job before after p q refuses = elim refuses.refused.reason [
  | inl item ↦ (refusals.NoSuchItem, item.2)
  | inr other ↦ elim other [
    | inl frame ↦ (refusals.NoFrame, frame.2)
    | inr memory ↦ (refusals.NoMemory, memory.1)
  ]
]

module _ (n : ℕ) (log after : Log) (p q : PartitionState) (world : World) (is : IsWorldOf n log p world) where
  module _ (job : RunningJob) (running : p.running ≡ Some job) where
    -- it was accepted or refused, as a job that runs
    ends-as : (new : World)
        → ((refusal_of world.load.items world.warehouse job.command (rows_of world) ≡ None)
        × (new ≡ with_accepted world (underway job))) ⊎ (new ≡ with_refused world)
        → Ends world new
    ends-as new ended_so =
        subst (λ (r : Option Underway). MatchOption r (new ≡ world) (λ job.
        ((refusal_of world.load.items world.warehouse job.command (rows_of world) ≡ None)
        × (new ≡ with_accepted world job)) ⊎ (new ≡ with_refused world)))
        (sym (is.running ∙ ap (option_map underway) running)) ended_so

    pub accepted-is : Accepts job (Some log) (Some after) p q
        → refusal_of world.load.items world.warehouse job.command (rows_of world) ≡ None
    accepted-is accepts = rw (is.load, is.warehouse, is.kept) accepts.does.accepted

    pub ended-accepted : Accepts job (Some log) (Some after) p q
        → Ended n after p q world (with_accepted world (underway job))
    ended-accepted accepts =
        let does = accepts.does in
        let serial : log ≡ accepts.log = same_Some log accepts.log accepts.before_is in
        let grown : after ≡ world.log ++ entered (underway job) =
        same_Some after (accepts.log ++ entered_by job.edition job.command job.pass) accepts.after_is
        ∙ ap (λ log. log ++ entered_by job.edition job.command job.pass) (sym (is.log_is ∙ serial)) in
        let kept : q.kept ≡ world.kept ++ kept_of job.edition job.command =
        does.kept ∙ ap (λ kept. kept ++ kept_of job.edition job.command) (sym is.kept) in
        let seen : accepts.log ++ entered_by job.edition job.command job.pass ≡ world.log ++ entered (underway job) =
        ap (λ log. log ++ entered_by job.edition job.command job.pass) (sym (is.log_is ∙ serial)) in
        let answer : DoneState =
        accepted_answer job p.warehouse (outcome_now p job.edition job.command).reply
        (accepts.log ++ entered_by job.edition job.command job.pass) in
        record {
          ends = ends-as (with_accepted world (underway job)) (inl (accepted-is accepts, refl));
          load = refl;
          warehouse = refl;
          is = record {
            load = is.load ∙ sym (ap (λ t. t.load) does.ends.rest.terms);
            warehouse = is.warehouse ∙ sym (ap (λ t. t.warehouse) does.ends.rest.terms);
            log_is = sym grown;
            kept = sym kept;
            running = sym (ap (option_map underway) does.ends.running);
            waits = sym (ap is_some does.ends.finished);
            snapshots = λ child. still-taken n p q child (world.open_at child) does.ends.rest (is.snapshots child);
          };
          moves = moves-answered world.known
              (with_known world.known job.pass.client (world.log ++ entered (underway job))) p q job answer running
              does.ends.running does.ends.finished
              (moves-told world.known job.pass answer.pass (world.log ++ entered (underway job)) refl seen);
        }

    pub ended-refused : Refuses job (Some log) (Some after) p q → Ended n after p q world (with_refused world)
    ended-refused refuses =
        let why = why-refused job (Some log) (Some after) p q refuses in
        let ends = why.1 in
        record {
          ends = ends-as (with_refused world) (inr refl);
          load = refl;
          warehouse = refl;
          is = record {
            load = is.load ∙ sym (ap (λ t. t.load) ends.rest.terms);
            warehouse = is.warehouse ∙ sym (ap (λ t. t.warehouse) ends.rest.terms);
            log_is = is.log_is ∙ sym (same_Some after log refuses.log);
            kept = is.kept ∙ sym refuses.refused.nothing.kept;
            running = sym (ap (option_map underway) ends.running);
            waits = sym (ap is_some ends.finished);
            snapshots = λ child. still-taken n p q child (world.open_at child) ends.rest (is.snapshots child);
          };
          moves = moves-answered world.known world.known p q job (refused_answer job.pass why.0) running ends.running
              ends.finished (moves-same world.known (job.pass ∷ []) (job.pass ∷ []) refl);
        }

  ended-job : EndsJob log after p q → (new : World) × Ended n after p q world new
  ended-job ends = by p.running refl ends
    where
      by : (running : Option RunningJob) → p.running ≡ running
          → MatchOption running ((q ≡ p) × (after ≡ log)) (λ job.
          Accepts job (Some log) (Some after) p q ⊎ Refuses job (Some log) (Some after) p q)
          → (new : World) × Ended n after p q world new
      by None none same = (
        world,
        record {
          ends = subst (λ (r : Option Underway). MatchOption r (world ≡ world) (λ job.
              ((refusal_of world.load.items world.warehouse job.command (rows_of world) ≡ None)
              × (world ≡ with_accepted world job)) ⊎ (world ≡ with_refused world)))
              (sym (is.running ∙ ap (option_map underway) none)) refl;
          load = refl;
          warehouse = refl;
          is = subst (λ (list : Log). IsWorldOf n list q world) (sym same.1)
              (subst (λ (now : PartitionState). IsWorldOf n log now world) (sym same.0) is);
          moves = moves-same world.known (passes_of p) (passes_of q) (ap passes_of same.0);
        },
      )
      by (Some job) some ends = elim ends [
        | inl accepts ↦ (with_accepted world (underway job), ended-accepted job some accepts)
        | inr refuses ↦ (with_refused world, ended-refused job some refuses)
      ]

-- ---- and in all that a command names

place-behind : (front : List Place) (place : Place) (rest : List Place)
    → slice_get (front ++ place ∷ rest) (length front) ≡ Some place
place-behind [] place rest = refl
place-behind (first ∷ front) place rest = place-behind front place rest

set-behind : (front : List Place) (place later : Place) (rest : List Place)
    → slice_set (front ++ place ∷ rest) (length front) later ≡ front ++ later ∷ rest
set-behind [] place later rest = refl
set-behind (first ∷ front) place later rest = ap (λ (l : List Place). first ∷ l) (set-behind front place later rest)

-- the warehouses from a number on that a command names, so many
abbrev numbers_from : Command → ℕ → ℕ → List ℕ
numbers_from command number count = filter (is_named command) (range_with_len number count)

module _ (command : Command) (amid : LooksAmid) (number count : ℕ) (whole mid next : Whole)
    (ends : EndsIn amid (numbers_from command (suc number) count) mid next) where
  behind : EndsIn amid (numbers_from command (number + 1) count) mid next
  behind =
      let same : suc number ≡ number + 1 = omega arith in
      subst (λ k. EndsIn amid (numbers_from command k count) mid next) same ends

  ends-named : is_named command number ≡ true
      → ChangesPlace Ends number (with_looks (amid.before_end number) whole) mid
      → EndsIn amid (numbers_from command number (suc count)) whole next
  ends-named named changes =
      subst (λ b. EndsIn amid (cond b (number ∷ numbers_from command (number + 1) count)
      (numbers_from command (number + 1) count)) whole next) (sym named) (mid, changes, behind)

  ends-unnamed : is_named command number ≡ false → whole ≡ mid
      → EndsIn amid (numbers_from command number (suc count)) whole next
  ends-unnamed unnamed same =
      subst (λ b. EndsIn amid (cond b (number ∷ numbers_from command (number + 1) count)
      (numbers_from command (number + 1) count)) whole next) (sym unnamed)
      (subst (λ (w : Whole). EndsIn amid (numbers_from command (number + 1) count) w next) (sym same) behind)

-- ---- looks

-- what looks make of the passes that clients hold
abbrev Looking : Type 1
Looking = List ℕ → Log → List Pass → List Pass → Type 0

-- they tell those clients, and nobody else
abbrev AreTelling : Looking → Type 0
AreTelling L = (clients : List ℕ) (log : Log) (known : ℕ → ℕ) (held now : List Pass) → L clients log held now
    → Moves known (with_all_known known clients log) held now

tells-in_turn : (clients : List ℕ) (log : Log) (known : ℕ → ℕ) (held now : List Pass) → LookInTurn clients log held now
    → Moves known (with_all_known known clients log) held now
tells-in_turn [] log known held now same = moves-same known held now same
tells-in_turn (client ∷ clients) log known held now turn =
    moves-then known (with_known known client log) (with_all_known (with_known known client log) clients log) held
    turn.0 now once (tells-in_turn clients log (with_known known client log) turn.0 now turn.2)
  where
    one : LooksOnce client log held turn.0
    one = turn.1

    once : Moves known (with_known known client log) held turn.0
    once = λ others knows.
        subst (λ (l : List Pass). KnowsClients (with_known known client log) (l ++ others)) (sym one.now_are)
        (subst (λ (l : List Pass). KnowsClients (with_known known client log) l)
        (sym (append_assoc one.front (looked one.pass log ∷ one.rest) others))
        (subst (λ k. KnowsClients (with_known known k log) (one.front ++ looked one.pass log ∷ (one.rest ++ others)))
        one.client_is
        (knows-told known one.front one.front one.pass (looked one.pass log) (one.rest ++ others) log refl refl refl
        (subst (λ (l : List Pass). KnowsClients known l) (append_assoc one.front (one.pass ∷ one.rest) others)
        (subst (λ (l : List Pass). KnowsClients known (l ++ others)) one.held_are knows)))))

-- a step in the midst of looks, and all steps
abbrev EndsAmid : Looking → Command → LooksAmid → ℕ → Moment → Moment → PartitionState → PartitionState → Type 0
EndsAmid L command amid number before after old new =
    IfNamed command number
    (EndsJob before.log after.log old new × L (amid.before_end number) before.log before.held after.held)
    ((new ≡ old) × (after ≡ before))

record CrossesAmid (L : Looking) (lists : Lists) (job : JobState) (amid : LooksAmid) (before after : Moment)
    (old new : List PartitionState) (answer : DoneState) : Type 0 where
  last : Moment
  ended : List PartitionState
  middle : List PartitionState
  ready : List Pass
  ends : InTurn (EndsAmid L job.command amid) 1 before last old ended
  tells : TellsNamed job.command last.log ended middle
  looks_before : L amid.before_commit last.log last.held ready
  does : AcceptsAll lists job last.log after.log middle new answer
      ⊎ RefusesAll lists job last.log after.log middle new answer
  looks_behind : L amid.behind after.log ready after.held

-- a call alone, where the looks that are to fall within it leave what is held
module _ (L : Looking) (amid : LooksAmid) (held : List Pass) where
  abbrev at : Log → Moment
  at log = record { log = log; held = held }

  quiet-ends : (command : Command) → ((number : ℕ) (log : Log) → L (amid.before_end number) log held held)
      → (number : ℕ) (before after : Log) (olds news : List PartitionState)
      → InTurn (EndsIfNamed command) number before after olds news
      → InTurn (EndsAmid L command amid) number (at before) (at after) olds news
  quiet-ends command stays number before after [] [] turn = ap at turn
  quiet-ends command stays number before after (p ∷ olds) (q ∷ news) turn = (
    at turn.0,
    elim turn.1 [
      | inl named ↦ inl (named.0, (named.1, stays number before))
      | inr unnamed ↦ inr (unnamed.0, (unnamed.1.0, ap at unnamed.1.1))
    ],
    quiet-ends command stays (suc number) turn.0 after olds news turn.2,
  )
  quiet-ends command stays number before after [] (q ∷ news) turn = absurd turn
  quiet-ends command stays number before after (p ∷ olds) [] turn = absurd turn

-- passes that clients hold move first, then those in one partition, and then those in the others with what is held
moves-more : (known seen later last : ℕ → ℕ) (p q olds news held mid now : List Pass) → Moves known seen held mid
    → Moves seen later p q → Moves later last (olds ++ mid) (news ++ now)
    → Moves known last ((p ++ olds) ++ held) ((q ++ news) ++ now)
moves-more known seen later last p q olds news held mid now first second third = λ others knows.
    let began : KnowsClients known ((held ++ p) ++ (olds ++ others)) =
    knows-permuted known (((p ++ olds) ++ held) ++ others) ((held ++ p) ++ (olds ++ others))
    (IsPermutation-trans (((p ++ olds) ++ held) ++ others) ((p ++ held) ++ (olds ++ others))
    ((held ++ p) ++ (olds ++ others)) (second-behind p olds held others) (turned p held (olds ++ others))) knows in
    let both : KnowsClients later ((mid ++ q) ++ (olds ++ others)) =
    moves-both known seen later held mid p q first second (olds ++ others) began in
    let ready : KnowsClients later ((olds ++ mid) ++ (q ++ others)) =
    knows-permuted later ((mid ++ q) ++ (olds ++ others)) ((olds ++ mid) ++ (q ++ others))
    (IsPermutation-trans ((mid ++ q) ++ (olds ++ others)) ((q ++ mid) ++ (olds ++ others))
    ((olds ++ mid) ++ (q ++ others)) (turned mid q (olds ++ others))
    (IsPermutation-trans ((q ++ mid) ++ (olds ++ others)) (((q ++ olds) ++ mid) ++ others)
    ((olds ++ mid) ++ (q ++ others))
    (IsPermutation-sym (((q ++ olds) ++ mid) ++ others) ((q ++ mid) ++ (olds ++ others))
    (second-behind q olds mid others)) (first-behind q olds mid others))) both in
    knows-permuted last ((news ++ now) ++ (q ++ others)) (((q ++ news) ++ now) ++ others)
    (IsPermutation-sym (((q ++ news) ++ now) ++ others) ((news ++ now) ++ (q ++ others))
    (first-behind q news now others)) (third (q ++ others) ready)
  where
    turned : (a b c : List Pass) → IsPermutation ((a ++ b) ++ c) ((b ++ a) ++ c)
    turned a b c = IsPermutation-append_left c (a ++ b) (b ++ a) (IsPermutation-append_comm a b)

-- the whole behind the places that were passed, once what ran in those from a number on has ended
record EndedFrom (L : Looking) (n : ℕ) (command : Command) (amid : LooksAmid) (number count : ℕ) (before after : Moment)
    (olds news : List PartitionState) (front : List Place) (whole : Whole) : Type 0 where
  next : Whole
  later : List Place
  places : next.places ≡ front ++ later
  ends : EndsIn amid (numbers_from command number count) whole next
  load : next.load ≡ whole.load
  log_is : next.log ≡ after.log
  are : ArePlacesOf n after.log next number news later
  moves : AreTelling L → (now : List Pass) → L amid.before_commit after.log after.held now
      → Moves whole.known next.known (passes_in olds ++ before.held) (passes_in news ++ now)

-- one warehouse more
ended-more : (L : Looking) (n : ℕ) (command : Command) (amid : LooksAmid) (number count : ℕ) (before middle after : Moment)
    (p q : PartitionState) (olds news : List PartitionState) (front : List Place) (later : Place) (whole mid : Whole)
    (seen : ℕ → ℕ) → mid.load ≡ whole.load → (AreTelling L → Moves whole.known seen before.held middle.held)
    → Moves seen mid.known (passes_of p) (passes_of q) → IsPlaceOf n middle.log mid number q later
    → ((next : Whole) → EndsIn amid (numbers_from command (suc number) count) mid next
    → EndsIn amid (numbers_from command number (suc count)) whole next)
    → EndedFrom L n command amid (suc number) count middle after olds news (front ++ later ∷ []) mid
    → EndedFrom L n command amid number (suc count) before after (p ∷ olds) (q ∷ news) front whole
ended-more L n command amid number count before middle after p q olds news front later whole mid seen load first
    second is ends rest = record {
      next = rest.next;
      later = later ∷ rest.later;
      places = rest.places ∙ append_assoc front (later ∷ []) rest.later;
      ends = ends rest.next rest.ends;
      load = rest.load ∙ load;
      log_is = rest.log_is;
      are = (
        place-carried n middle.log after.log mid rest.next number q later rest.load rest.log_is is,
        rest.are,
      );
      moves = λ telling now looked.
          moves-more whole.known seen mid.known rest.next.known (passes_of p) (passes_of q) (passes_in olds)
          (passes_in news) before.held middle.held now (first telling) second (rest.moves telling now looked);
    }

-- the whole once one warehouse has ended what ran there
module _ (n number : ℕ) (before middle : Log) (p q : PartitionState) (front rest : List Place) (place : Place)
    (whole : Whole) (here : number ≡ suc (length front)) (places : whole.places ≡ front ++ place ∷ rest)
    (is : IsPlaceOf n before whole number p place) (ends : EndsJob before middle p q) where
  ended : (new : World) × Ended n middle p q (world_at whole number place) new
  ended = ended-job n before middle p q (world_at whole number place) is ends

  abbrev later_place : Place
  later_place = place_of ended.0 place.drained

  abbrev mid_whole : Whole
  mid_whole = record {
    load = ended.0.load;
    log = ended.0.log;
    known = ended.0.known;
    places = front ++ later_place ∷ rest;
  }

  mid-changes : ChangesPlace Ends number whole mid_whole
  mid-changes = record {
    before = place;
    after = later_place;
    there = there;
    change = subst (λ k. Ends (world_at whole number place) (record ended.0 { warehouse = k })) ended.1.warehouse
        ended.1.ends;
    drained = refl;
    places = set;
  }
    where
      there : place_at whole.places number ≡ Some place
      there =
          subst (λ k. place_at whole.places k ≡ Some place) (sym here)
          (ap (λ (l : List Place). slice_get l (length front)) places ∙ place-behind front place rest)

      set : front ++ later_place ∷ rest ≡ with_place whole.places number later_place
      set =
          subst (λ k. front ++ later_place ∷ rest ≡ with_place whole.places k later_place) (sym here)
          (sym (ap (λ (l : List Place). slice_set l (length front) later_place) places
          ∙ set-behind front place later_place rest))

  mid-is : IsPlaceOf n middle mid_whole number q later_place
  mid-is = subst (λ k. IsWorldOf n middle q (record ended.0 { warehouse = k })) ended.1.warehouse ended.1.is

ended-turn : (L : Looking) (n : ℕ) (command : Command) (amid : LooksAmid) (number : ℕ) (before after : Moment)
    (olds news : List PartitionState) (front rest : List Place) (whole : Whole) → number ≡ suc (length front)
    → whole.places ≡ front ++ rest → whole.log ≡ before.log → ArePlacesOf n before.log whole number olds rest
    → InTurn (EndsAmid L command amid) number before after olds news
    → EndedFrom L n command amid number (length rest) before after olds news front whole
ended-turn L n command amid number before after [] [] front [] whole here places log_is are turn = record {
  next = with_looks amid.before_commit whole;
  later = [];
  places = places;
  ends = refl;
  load = refl;
  log_is = same;
  are = tt;
  moves = λ telling now looked.
      subst (λ (held : List Pass).
      Moves whole.known (with_all_known whole.known amid.before_commit whole.log) held now)
      (ap (λ (m : Moment). m.held) turn)
      (telling amid.before_commit whole.log whole.known after.held now
      (subst (λ (log : Log). L amid.before_commit log after.held now) (sym same) looked));
}
  where
    same : whole.log ≡ after.log
    same = log_is ∙ sym (ap (λ (m : Moment). m.log) turn)
ended-turn L n command amid number before after (p ∷ olds) (q ∷ news) front (place ∷ rest) whole here places log_is are turn =
    elim turn.1 [
      | inl named ↦
          let clients : List ℕ = amid.before_end number in
          let seen : Whole = with_looks clients whole in
          let middle : Moment = turn.0 in
          let is : IsPlaceOf n before.log seen number p place =
          place-carried n before.log before.log whole seen number p place refl log_is are.0 in
          let mid : Whole =
          mid_whole n number before.log middle.log p q front rest place seen here places is named.1.0 in
          let later : Place =
          later_place n number before.log middle.log p q front rest place seen here places is named.1.0 in
          let led = ended n number before.log middle.log p q front rest place seen here places is named.1.0 in
          ended-more L n command amid number (length rest) before middle after p q olds news front later whole mid
          (with_all_known whole.known clients whole.log) led.1.load
          (λ telling. telling clients whole.log whole.known before.held middle.held
          (subst (λ (log : Log). L clients log before.held middle.held) (sym log_is) named.1.1)) led.1.moves
          (mid-is n number before.log middle.log p q front rest place seen here places is named.1.0)
          (λ next ends. ends-named command amid number (length rest) whole mid next ends named.0
          (mid-changes n number before.log middle.log p q front rest place seen here places is named.1.0))
          (ended-turn L n command amid (suc number) middle after olds news (front ++ later ∷ []) rest mid
          (ap suc (here ∙ sym (longer front later))) (sym (append_assoc front (later ∷ []) rest)) led.1.is.log_is
          (places-carried n before.log middle.log whole mid led.1.load led.1.is.log_is (suc number) olds rest are.1)
          turn.2)
      | inr unnamed ↦
          ended-more L n command amid number (length rest) before before after p q olds news front place whole whole
          whole.known refl (λ telling. moves-same whole.known before.held before.held refl)
          (moves-same whole.known (passes_of p) (passes_of q) (ap passes_of unnamed.1.0))
          (subst (λ (now : PartitionState). IsPlaceOf n before.log whole number now place) (sym unnamed.1.0) are.0)
          (λ next ends. ends-unnamed command amid number (length rest) whole whole next ends unnamed.0 refl)
          (ended-turn L n command amid (suc number) before after olds news (front ++ place ∷ []) rest whole
          (ap suc (here ∙ sym (longer front place))) (places ∙ sym (append_assoc front (place ∷ []) rest)) log_is
          are.1
          (subst (λ (m : Moment). InTurn (EndsAmid L command amid) (suc number) m after olds news) unnamed.1.1
          turn.2))
    ]
  where
    longer : (front : List Place) (place : Place) → length (front ++ place ∷ []) ≡ suc (length front)
    longer front place = omega (arith, length-append front (place ∷ []))
ended-turn L n command amid number before after [] (q ∷ news) front rest whole here places log_is are turn = absurd turn
ended-turn L n command amid number before after (p ∷ olds) [] front rest whole here places log_is are turn = absurd turn
ended-turn L n command amid number before after [] [] front (place ∷ rest) whole here places log_is are turn = absurd are
ended-turn L n command amid number before after (p ∷ olds) (q ∷ news) front [] whole here places log_is are turn = absurd are

-- ---- the command

-- an event that leads somewhere, with what becomes of all passes: those in the partitions, and those that clients hold
abbrev LeadsMoving : Looking → ℕ → EventOfAll → Whole → Log → List PartitionState → List Pass
    → List PartitionState → List Pass → Type 0
LeadsMoving L n event whole after parts held news now =
    (next : Whole) × DoesAll event whole next × IsWholeOf n after news next
    × (AreTelling L → Moves whole.known next.known (passes_in parts ++ held) (passes_in news ++ now))

-- nothing refuses a command that is accepted, whether a kept list is full or not
pub unrefused : (full : Bool) (refusal : Option Refusal) → with_full full refusal ≡ None → refusal ≡ None
unrefused full None none = refl
unrefused full (Some refusals.NoSuchItem) none = absurd (cc)
unrefused full (Some other) none = absurd (cc)

-- the load of a whole is that of its partitions
load-is : (n : ℕ) (log : Log) (lists : Lists) (whole : Whole) (parts : List PartitionState) (places : List Place)
    → ArePlacesOf n log whole 1 parts places → ArePartitions lists parts → 0 < length parts → whole.load ≡ lists
load-is n log lists whole [] [] places are some = absurd (omega (arith, some))
load-is n log lists whole (p ∷ parts) (place ∷ places) is are some = is.0.load ∙ (are.each 0).0
load-is n log lists whole [] (place ∷ places) is are some = absurd is
load-is n log lists whole (p ∷ parts) [] is are some = absurd is

module _ (L : Looking) (n : ℕ) (lists : Lists) (job : JobState) (amid : LooksAmid) (before after : Moment)
    (parts news : List PartitionState) (answer : DoneState) (whole : Whole) (is : IsWholeOf n before.log parts whole)
    (is_load : IsLoad lists) (are : ArePartitions lists parts)
    (several : nat_lt 1 (length (warehouses_of job.command)) ≡ true)
    (known : whole.known job.pass.client ≡ length job.pass.seen) (new : job.edition ≡ editions.Second)
    (does : CrossesAmid L lists job amid before after parts news answer) where
  abbrev last_log : Log
  last_log = does.last.log

  from : EndedFrom L n job.command amid 1 (length whole.places) before does.last parts does.ended [] whole
  from = ended-turn L n job.command amid 1 before does.last parts does.ended [] whole.places whole refl refl is.0 is.1
      does.ends

  abbrev ended_whole : Whole
  ended_whole = from.next

  load : ended_whole.load ≡ lists
  load =
      from.load
      ∙ load-is n before.log lists whole parts whole.places is.1 are (omega (arith, are.count, is_load.warehouses.whole))

  -- partitions that were told stay as the model sees them
  informed : ArePlacesOf n last_log ended_whole 1 does.middle ended_whole.places
  informed =
      places-same n last_log last_log ended_whole ended_whole (TellsIfNamed job.command last_log) told 1
      does.ended does.middle ended_whole.places does.tells
      (subst (λ (l : List Place). ArePlacesOf n last_log ended_whole 1 does.ended l) (sym from.places)
      from.are)
    where
      told : (number : ℕ) (p q : PartitionState) (place : Place) → TellsIfNamed job.command last_log number p q
          → IsPlaceOf n last_log ended_whole number p place → IsPlaceOf n last_log ended_whole number q place
      told number p q place tells was = elim tells [
        | inl named ↦
            subst (λ (now : PartitionState). IsPlaceOf n last_log ended_whole number now place) (sym named.1.0)
            (place-stays n last_log ended_whole number p (record p { seen = last_log }) place
            (beside-told p last_log) refl was)
        | inr unnamed ↦
            subst (λ (now : PartitionState). IsPlaceOf n last_log ended_whole number now place) (sym unnamed.1) was
      ]

  -- they have the passes that they had
  passes-informed : passes_in does.middle ≡ passes_in does.ended
  passes-informed =
      passes-pairs (TellsIfNamed job.command last_log) same 1 does.ended does.middle does.tells
    where
      same : (number : ℕ) (p q : PartitionState) → TellsIfNamed job.command last_log number p q
          → passes_of q ≡ passes_of p
      same number p q tells = elim tells [
        | inl named ↦ ap passes_of named.1.0
        | inr unnamed ↦ ap passes_of unnamed.1
      ]

  -- the whole that the call leaves behind one in which all is done
  abbrev left_whole : Whole → Whole
  left_whole done = with_looks amid.behind done

  left-is : (done : Whole) → IsWholeOf n after.log news done → IsWholeOf n after.log news (left_whole done)
  left-is done are = (
    are.0,
    places-carried n after.log after.log done (left_whole done) refl are.0 1 news done.places are.1,
  )

  -- what becomes of all passes, where those in the partitions stay as they were when all jobs had ended
  moves-crossing : (done : Whole) → done.log ≡ after.log → passes_in news ≡ passes_in does.middle
      → Moves ended_whole.known done.known (job.pass ∷ []) (answer.pass ∷ []) → AreTelling L
      → Moves whole.known (left_whole done).known (passes_in parts ++ job.pass ∷ before.held)
      (passes_in news ++ answer.pass ∷ after.held)
  moves-crossing done log_is same moves telling = λ others knows.
      let began : KnowsClients whole.known ((passes_in parts ++ before.held) ++ (job.pass ∷ others)) =
      knows-permuted whole.known ((passes_in parts ++ job.pass ∷ before.held) ++ others)
      ((passes_in parts ++ before.held) ++ (job.pass ∷ others))
      (IsPermutation-sym ((passes_in parts ++ before.held) ++ (job.pass ∷ others))
      ((passes_in parts ++ job.pass ∷ before.held) ++ others)
      (one-between (passes_in parts) before.held job.pass others)) knows in
      let ended : KnowsClients ended_whole.known ((passes_in does.ended ++ does.ready) ++ (job.pass ∷ others)) =
      from.moves telling does.ready does.looks_before (job.pass ∷ others) began in
      let crossed : KnowsClients done.known (answer.pass ∷ ((passes_in does.ended ++ does.ready) ++ others)) =
      moves ((passes_in does.ended ++ does.ready) ++ others)
      (knows-permuted ended_whole.known ((passes_in does.ended ++ does.ready) ++ (job.pass ∷ others))
      (job.pass ∷ ((passes_in does.ended ++ does.ready) ++ others))
      (IsPermutation-middle (passes_in does.ended ++ does.ready) job.pass others) ended) in
      let front : List Pass = answer.pass ∷ passes_in does.ended in
      let turned : KnowsClients done.known (does.ready ++ (front ++ others)) =
      knows-permuted done.known (answer.pass ∷ ((passes_in does.ended ++ does.ready) ++ others))
      (does.ready ++ (front ++ others)) (turned-out front does.ready others) crossed in
      let behind : KnowsClients (left_whole done).known (after.held ++ (front ++ others)) =
      telling amid.behind done.log done.known does.ready after.held
      (subst (λ (log : Log). L amid.behind log does.ready after.held) (sym log_is) does.looks_behind)
      (front ++ others) turned in
      subst (λ (l : List Pass). KnowsClients (left_whole done).known ((l ++ answer.pass ∷ after.held) ++ others))
      (sym (same ∙ passes-informed))
      (knows-permuted (left_whole done).known (after.held ++ (front ++ others))
      ((passes_in does.ended ++ answer.pass ∷ after.held) ++ others)
      (IsPermutation-trans (after.held ++ (front ++ others)) ((front ++ after.held) ++ others)
      ((passes_in does.ended ++ answer.pass ∷ after.held) ++ others)
      (IsPermutation-sym ((front ++ after.held) ++ others) (after.held ++ (front ++ others))
      (turned-out front after.held others))
      (IsPermutation-append_left others (front ++ after.held) (passes_in does.ended ++ answer.pass ∷ after.held)
      (IsPermutation-sym (passes_in does.ended ++ answer.pass ∷ after.held) (front ++ after.held)
      (IsPermutation-middle (passes_in does.ended) answer.pass after.held)))) behind)
    where
      turned-out : (a b c : List Pass) → IsPermutation ((a ++ b) ++ c) (b ++ (a ++ c))
      turned-out a b c =
          subst (λ (l : List Pass). IsPermutation l (b ++ (a ++ c))) (sym (append_assoc a b c)) (swapped a b c)

      one-between : (a b : List Pass) (pass : Pass) (c : List Pass)
          → IsPermutation ((a ++ b) ++ (pass ∷ c)) ((a ++ pass ∷ b) ++ c)
      one-between a b pass c =
          IsPermutation-trans ((a ++ b) ++ (pass ∷ c)) (pass ∷ ((a ++ b) ++ c)) ((a ++ pass ∷ b) ++ c)
          (IsPermutation-middle (a ++ b) pass c)
          (IsPermutation-append_left c (pass ∷ (a ++ b)) (a ++ pass ∷ b)
          (IsPermutation-sym (a ++ pass ∷ b) (pass ∷ (a ++ b)) (IsPermutation-middle a pass b)))

  -- refused, no part of it is left
  crosses-refused : RefusesAll lists job last_log after.log does.middle news answer
      → LeadsMoving L n (crosses job.pass.client job.command amid) whole after.log parts (job.pass ∷ before.held) news
      (answer.pass ∷ after.held)
  crosses-refused refuses = (
    left_whole ended_whole,
    record {
      several = several;
      ended = ended_whole;
      ends = from.ends;
      done = ended_whole;
      does = inl refl;
      looked = refl;
    },
    left-is ended_whole (
      from.log_is ∙ sym refuses.log_is,
      places-same n last_log after.log ended_whole ended_whole (LeavesIfNamed job.command) left 1 does.middle news
          ended_whole.places refuses.parts informed,
    ),
    moves-crossing ended_whole (from.log_is ∙ sym refuses.log_is)
        (passes-pairs (LeavesIfNamed job.command) stays 1 does.middle news refuses.parts)
        (moves-same ended_whole.known (job.pass ∷ []) (answer.pass ∷ [])
        (ap (λ (one : DoneState). one.pass ∷ []) refuses.answer_is)),
  )
    where
      stays : (number : ℕ) (p q : PartitionState) → LeavesIfNamed job.command number p q → passes_of q ≡ passes_of p
      stays number p q leaves = elim leaves [
        | inl named ↦ elim named.1 [
          | inl same ↦ ap passes_of same
          | inr before ↦ passes-beside p q before.beside.running before.beside.finished
        ]
        | inr unnamed ↦ ap passes_of unnamed.1
      ]

      left : (number : ℕ) (p q : PartitionState) (place : Place) → LeavesIfNamed job.command number p q
          → IsPlaceOf n last_log ended_whole number p place → IsPlaceOf n after.log ended_whole number q place
      left number p q place leaves was =
          let later = place-carried n last_log after.log ended_whole ended_whole number p place refl
          (from.log_is ∙ sym refuses.log_is) was in
          let same : q ≡ p → IsPlaceOf n after.log ended_whole number q place = λ same.
          subst (λ (now : PartitionState). IsPlaceOf n after.log ended_whole number now place) (sym same) later in
          elim leaves [
            | inl named ↦ elim named.1 [
              | inl stays ↦ same stays
              | inr before ↦ place-stays n after.log ended_whole number p q place (beside-keeps p q before.beside)
                  before.nothing.kept later
            ]
            | inr unnamed ↦ same unnamed.1
          ]

  -- accepted, it enters all lists that it names
  crosses-accepted : AcceptsAll lists job last_log after.log does.middle news answer
      → LeadsMoving L n (crosses job.pass.client job.command amid) whole after.log parts (job.pass ∷ before.held) news
      (answer.pass ∷ after.held)
  crosses-accepted accepts = (
    left_whole next,
    record {
      several = several;
      ended = ended_whole;
      ends = from.ends;
      done = next;
      does = inr (accepted, refl);
      looked = refl;
    },
    left-is next (
      log_is,
      places-changed n last_log after.log ended_whole next (with_commit entry.commit)
          (KeepsIfNamed job.command (entry_of lists job last_log).commit after.log) kept 1 does.middle news
          ended_whole.places accepts.parts informed,
    ),
    moves-crossing next log_is
        (passes-pairs (KeepsIfNamed job.command (entry_of lists job last_log).commit after.log) stays 1 does.middle news
        accepts.parts)
        (moves-told ended_whole.known job.pass answer.pass next.log
        (ap (λ (one : DoneState). one.pass.client) accepts.answer_is)
        (ap (λ (one : DoneState). one.pass.seen) accepts.answer_is ∙ sym log_is)),
  )
    where
      stays : (number : ℕ) (p q : PartitionState)
          → KeepsIfNamed job.command (entry_of lists job last_log).commit after.log number p q → passes_of q ≡ passes_of p
      stays number p q keeps = elim keeps [
        | inl named ↦ passes-beside p q named.1.beside.running named.1.beside.finished
        | inr unnamed ↦ ap passes_of unnamed.1
      ]

      entry : Entry Commit
      entry = entry_behind ended_whole job.command (whole.known job.pass.client)

      next : Whole
      next = with_entry ended_whole job.pass.client entry

      accepted : refusal_behind ended_whole job.command ≡ None
      accepted =
          ap (λ (l : Lists). refusal_in (database_behind l ended_whole.log) job.command) load
          ∙ ap (λ (list : Log). refusal_in (database_behind lists list) job.command) from.log_is
          ∙ unrefused _ (refusal_in (database_behind lists last_log) job.command) accepts.accepted

      entry_is : entry_of lists job last_log ≡ entry
      entry_is =
          sym (ap (λ (l : Lists). crossing_entry editions.Second (kept_in (database_behind l ended_whole.log) job.command)
          (whole.known job.pass.client) ended_whole.log) load
          ∙ ap (λ (list : Log). crossing_entry editions.Second (kept_in (database_behind lists list) job.command)
          (whole.known job.pass.client) list) from.log_is
          ∙ ap (λ stamp. crossing_entry editions.Second (kept_in (database_behind lists last_log) job.command) stamp last_log)
          known
          ∙ ap (λ (edition : Edition). crossing_entry edition (kept_in (database_behind lists last_log) job.command)
          (length job.pass.seen) last_log) (sym new))

      log_is : next.log ≡ after.log
      log_is =
          ap (λ (list : Log). list ++ entry ∷ []) from.log_is
          ∙ ap (λ (one : Entry Commit). last_log ++ one ∷ []) (sym entry_is)
          ∙ sym accepts.log_is

      named_is : (number : ℕ) → names warehouses_of_commit number entry.commit ≡ is_named job.command number
      named_is number =
          ap (λ named. list_any (λ one. one == number) named)
          (by_number-warehouses job.command
          (customer_rows job.command (database_behind ended_whole.load ended_whole.log)))

      kept : (number : ℕ) (p q : PartitionState) (place : Place)
          → KeepsIfNamed job.command (entry_of lists job last_log).commit after.log number p q
          → IsPlaceOf n last_log ended_whole number p place
          → IsPlaceOf n after.log next number q (with_commit entry.commit number place)
      kept number p q place keeps was = elim keeps [
        | inl named ↦
            subst (λ b.
            IsPlaceOf n after.log next number q (cond b (record place { kept = place.kept ++ entry.commit ∷ [] }) place))
            (sym (named_is number ∙ named.0))
            (place-beside n last_log after.log ended_whole next number p q place (place.kept ++ entry.commit ∷ [])
            place.drained (beside-keeps p q named.1.beside) refl log_is
            (ap (λ list. list ++ entry.commit ∷ []) was.kept
            ∙ ap (λ (one : Entry Commit). p.kept ++ one.commit ∷ []) (sym entry_is) ∙ sym named.1.kept) was)
        | inr unnamed ↦
            subst (λ b.
            IsPlaceOf n after.log next number q (cond b (record place { kept = place.kept ++ entry.commit ∷ [] }) place))
            (sym (named_is number ∙ unnamed.0))
            (subst (λ (now : PartitionState). IsPlaceOf n after.log next number now place) (sym unnamed.1)
            (place-carried n last_log after.log ended_whole next number p place refl log_is was))
      ]

  moves-amid : LeadsMoving L n (crosses job.pass.client job.command amid) whole after.log parts
      (job.pass ∷ before.held) news (answer.pass ∷ after.held)
  moves-amid = elim does.does [
    | inl accepts ↦ crosses-accepted accepts
    | inr refuses ↦ crosses-refused refuses
  ]

-- a call, and whatever looks fell within it
module _ (n : ℕ) (lists : Lists) (job : JobState) (amid : LooksAmid) (parts news : List PartitionState)
    (answer : DoneState) (whole : Whole) (is_load : IsLoad lists) (are : ArePartitions lists parts)
    (several : nat_lt 1 (length (warehouses_of job.command)) ≡ true)
    (known : whole.known job.pass.client ≡ length job.pass.seen) (new : job.edition ≡ editions.Second) where
  -- by any clients
  pub leads-cross : (log after : Log) → IsWholeOf n log parts whole → Crosses lists job log after parts news answer
      → LeadsAll n (crosses job.pass.client job.command amid) whole after news
  leads-cross log after is does =
      let any : Looking = λ clients log held now. ⊤ in
      let led = moves-amid any n lists job amid (record { log = log; held = [] }) (record { log = after; held = [] })
      parts news answer whole is is_load are several known new (record {
        last = record { log = does.log; held = [] };
        ended = does.informs.ended;
        middle = does.middle;
        ready = [];
        ends = quiet-ends any amid [] job.command (λ number log. tt) 1 log does.log parts does.informs.ended
            does.informs.ends;
        tells = does.informs.tells;
        looks_before = tt;
        does = does.does;
        looks_behind = tt;
      }) in
      (led.0, led.1, led.2)

  -- by those whose passes are held
  pub knows-cross : (before after : Moment) → IsWholeOf n before.log parts whole
      → KnowsClients whole.known (passes_in parts ++ job.pass ∷ before.held)
      → CrossesLooking lists job amid before after parts news answer
      → LeadsKnowing n (crosses job.pass.client job.command amid) whole after.log news (answer.pass ∷ after.held)
  knows-cross before after is knows does =
      let led = moves-amid LookInTurn n lists job amid before after parts news answer whole is is_load are several known
      new (record {
        last = does.last;
        ended = does.ended;
        middle = does.middle;
        ready = does.ready;
        ends = does.ends;
        tells = does.tells;
        looks_before = does.looks_before;
        does = does.does;
        looks_behind = does.looks_behind;
      }) in (
        led.0,
        led.1,
        led.2,
        moves-alone whole.known led.0.known (passes_in parts ++ job.pass ∷ before.held)
            (passes_in news ++ answer.pass ∷ after.held) (led.3 tells-in_turn) knows,
      )

-- a call alone is one within which nobody looks
pub crosses-alone : (lists : Lists) (job : JobState) (log after : Log) (held : List Pass)
    (parts news : List PartitionState) (answer : DoneState) → Crosses lists job log after parts news answer
    → CrossesLooking lists job no_looks (record { log = log; held = held }) (record { log = after; held = held }) parts
    news answer
crosses-alone lists job log after held parts news answer does = record {
  last = record { log = does.log; held = held };
  ended = does.informs.ended;
  middle = does.middle;
  ready = held;
  ends = quiet-ends LookInTurn no_looks held job.command (λ number log. refl) 1 log does.log parts does.informs.ended
      does.informs.ends;
  tells = does.informs.tells;
  looks_before = refl;
  does = does.does;
  looks_behind = refl;
}
