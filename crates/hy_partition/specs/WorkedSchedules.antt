-- A schedule on the small warehouse of `hy_commands`: a snapshot, a command that only reads, and a payment between
-- whose slices another snapshot is taken.
use Rattle.std.specs.Prelude.{◌≡◌, ℕ, zero, suc, false, Option, Some, None, List, [], ◌∷◌, ◌++◌, length, refl}
use Rattle.std.proofs.Common.{inl, inr, ap, arith}
use Rattle.hy_rows.specs.Tables.{Lists, no_rows}
use Rattle.hy_commands.specs.declared.command.Command.{Command}
use Rattle.hy_commands.specs.declared.command.Commit.{Commit}
use Rattle.hy_commands.specs.declared.command.Commit.TheVariants as commits
use Rattle.hy_commands.specs.declared.command.Who.TheVariants as who
use Rattle.hy_commands.specs.declared.edition.Edition.TheVariants as editions
use Rattle.hy_commands.specs.WorkedSample.{items, payment, sample, status}
use Rattle.std.specs.Option.{option_map}
use Rattle.hy_passes.specs.declared.entry.Entry.{Entry}
use Rattle.hy_partition.specs.Partition.{commits_of, rows_now}
use Rattle.hy_space.specs.Space.{child_bytes}
use Rattle.hy_partition.specs.Schedules.{Does, Event, IsTaken, IsWorldOf, Runs, Taken, Underway, World, begins, closes, forks, forks_from, fresh_world, rows_of, steps, takes, underway, with_accepted, with_known, with_open}
use Rattle.hy_partition.specs.WorkedRows.{small}

abbrev lists : Lists
lists = record { items = items; tables = sample }

-- a payment of 25.00
abbrev pay : Command
pay = payment (who.Number 1) 2_500

-- so many slices of a command are done, by the second edition, of client 5, who had looked at nothing
abbrev job : Command → ℕ → Underway
job command slices =
    record { edition = editions.Second; command = command; slices = slices; client = 5; stamp = 0 }

-- a snapshot with what is kept, under a number, which client 6 takes
abbrev opened : World → ℕ → World
opened world number = record world {
  known = with_known world.known 6 world.log;
  open_at = with_open world.open_at number (Some (record { commits = length world.kept; rows = rows_of world }));
}

abbrev closed : World → ℕ → World
closed world number = record world { open_at = with_open world.open_at number None }

-- the worlds between the events
abbrev first : World
first = opened (fresh_world lists 1) 0

abbrev reading : World
reading = record first { running = Some (job (status 1) 0) }

-- a command that only reads leaves nothing
abbrev read : World
read = with_accepted reading (job (status 1) 0)

abbrev idle : World
idle = record read { waits = false }

abbrev paying : World
paying = record idle { running = Some (job pay 0) }

abbrev half : World
half = record idle { running = Some (job pay 1) }

abbrev paid : World
paid = with_accepted (opened half 1) (job pay 1)

abbrev last : World
last = closed (record paid { waits = false }) 0

abbrev events : List Event
events =
    forks 6 0 ∷ begins 5 (status 1) ∷ steps ∷ takes ∷ begins 5 pay ∷ steps ∷ forks 6 1
    ∷ steps ∷ takes ∷ closes 0 ∷ []

runs : Runs events (fresh_world lists 1) last
runs = (first, inr (refl, refl), begun)
  where
    after : Runs (takes ∷ closes 0 ∷ []) paid last
    after = (record paid { waits = false }, inr (refl, refl), (last, inr (refl, refl), refl))

    between : Runs (forks 6 1 ∷ steps ∷ takes ∷ closes 0 ∷ []) half last
    between = (opened half 1, inr (refl, refl), (paid, inr (inr (inl (refl, refl, refl))), after))

    second : Runs (begins 5 pay ∷ steps ∷ forks 6 1 ∷ steps ∷ takes ∷ closes 0 ∷ []) idle last
    second = (paying, inr (refl, refl, refl, refl), (half, inr (inl (refl, refl)), between))

    begun : Runs
        (begins 5 (status 1) ∷ steps ∷ takes ∷ begins 5 pay ∷ steps ∷ forks 6 1 ∷ steps
        ∷ takes ∷ closes 0 ∷ []) first last
    begun = (
      reading,
      inr (refl, refl, refl, refl),
      (read, inr (inr (inl (refl, refl, refl))), (idle, inr (refl, refl), second)),
    )

-- the payment entered the serial list, and its client knows that; who took the snapshots knows what was there then
entered_at_last : last.log ≡ record { commit = commits.Local editions.Second pay; stamp = 0 } ∷ []
entered_at_last = refl

known_at_last : (last.known 5 ≡ 1) × (last.known 6 ≡ 0)
known_at_last = (refl, refl)

-- a command of the first edition is kept as a commit of the first edition
abbrev by_first : Underway
by_first = record (job pay 1) { edition = editions.First }

kept_by_first : (with_accepted idle by_first).kept ≡ commits.Local editions.First pay ∷ []
kept_by_first = refl

entered_by_first : (with_accepted idle by_first).log
    ≡ record { commit = commits.Local editions.First pay; stamp = 0 } ∷ []
entered_by_first = refl

-- another warehouse's commit enters, and a client looks: it knows both then
elsewhere : Entry Commit
elsewhere = record { commit = commits.Local editions.Second (status 2); stamp = 1 }

abbrev seen_elsewhere : World
seen_elsewhere = record last { log = last.log ++ elsewhere ∷ []; known = with_known last.known 6 (last.log ++ elsewhere ∷ []) }

looked : seen_elsewhere.known 6 ≡ 2
looked = refl

-- one commit is kept; the snapshot that was taken between the slices has the loaded rows, and the first one is gone
kept_at_last : last.kept ≡ commits.Local editions.Second pay ∷ []
kept_at_last = refl

taken_between : last.open_at 1 ≡ Some (record { commits = 0; rows = sample })
taken_between = refl

gone : last.open_at 0 ≡ None
gone = refl

-- what the first snapshot sees is opened behind the payment: it has the loaded rows when that one is gone, and nobody looked
abbrev again : World
again = record paid { open_at = with_open paid.open_at 2 (Some (record { commits = 0; rows = sample })) }

forked_from_first : Does (forks_from 0 2) paid again
forked_from_first = (refl, refl, refl)

outlives : ((closed again 0).open_at 2 ≡ Some (record { commits = 0; rows = sample })) × ((closed again 0).open_at 0 ≡ None)
outlives = (refl, refl)

nobody_told : again.known 6 ≡ paid.known 6
nobody_told = refl

-- what isn't open can't be forked from, and an open number isn't taken again
not_from_closed : (new : World) → Does (forks_from 3 2) paid new → ⊥
not_from_closed new does = let never = does.0 in absurd (cc)

not_over_open : (new : World) → Does (forks_from 0 1) paid new → ⊥
not_over_open new does = let never = does.1 in absurd (cc)

-- it hasn't the rows of the moment
not_the_moment : Does (forks_from 0 2) paid (opened paid 2) → ⊥
not_the_moment does =
    let at : Some (record { commits = 1; rows = rows_of paid }) ≡ Some (record { commits = 0; rows = sample }) =
    ap (λ (w : World). w.open_at 2) does.2 in
    let same : record { commits = 1; rows = rows_of paid } ≡ record { commits = 0; rows = sample } = cc in
    let commits = ap (λ (t : Taken). t.commits) same in absurd (omega (arith, commits))

-- a call that is refused changes nothing
refused : Runs (steps ∷ takes ∷ []) first first
refused = (first, inl refl, (first, inl refl, refl))

-- the first slice of a payment keeps nothing
not_kept : Does steps paying (with_accepted paying (job pay 0)) → ⊥
not_kept (inl more) = let same = ap (λ (w : World). w.waits) more.1 in absurd (cc)
not_kept (inr (inl ended)) = let never = ended.0 in absurd (cc)
not_kept (inr (inr ended)) =
    let kept = ap (λ (w : World). length w.kept) ended in absurd (omega (arith, kept))

-- one of the first edition isn't kept as one of the second
not_kept_as_second : Does steps (record idle { running = Some by_first }) (with_accepted idle (job pay 1)) → ⊥
not_kept_as_second (inl more) = let never = more.0 in absurd (cc)
not_kept_as_second (inr (inl ended)) =
    let kept : commits.Local editions.Second pay ∷ [] ≡ commits.Local editions.First pay ∷ [] =
    ap (λ (w : World). w.kept) ended.2 in absurd (cc)
not_kept_as_second (inr (inr ended)) =
    let kept = ap (λ (w : World). length w.kept) ended in absurd (omega (arith, kept))

-- a second command doesn't begin before the answer to the first is taken
not_begun : Does (begins 5 pay) read (record read { running = Some (job pay 0) }) → ⊥
not_begun does = let waits = does.1 in absurd (cc)

-- a snapshot doesn't have other rows than those of all that is kept
not_taken : Does (forks 6 1) half (record half {
  known = with_known half.known 6 half.log;
  open_at = with_open half.open_at 1 (Some (record { commits = 0; rows = no_rows }));
}) → ⊥
not_taken does =
    let at : Some (record { commits = 0; rows = no_rows }) ≡ Some (record { commits = 0; rows = sample }) =
    ap (λ (w : World). w.open_at 1) does.1 in
    let same : record { commits = 0; rows = no_rows } ≡ record { commits = 0; rows = sample } = cc in
    let rows = ap (λ (t : Taken). length t.rows.warehouses) same in absurd (omega (arith, rows))

-- the world of the small partition in the middle of a payment, with its snapshot under number 0
abbrev under_zero : ℕ → Option Taken
under_zero zero = Some (record { commits = 0; rows = rows_now small })
under_zero (suc number) = None

abbrev small_world : World
small_world = record (fresh_world small.load 1) { running = option_map underway small.running; open_at = under_zero }

small_is : IsWorldOf 64 [] small small_world
small_is = record {
  load = refl;
  warehouse = refl;
  log_is = refl;
  kept = refl;
  running = refl;
  waits = refl;
  snapshots = snapshots;
}
  where
    snapshots : (number : ℕ) → IsTaken 64 (commits_of small number) (child_bytes small.space number) (small_world.open_at number)
    snapshots zero = refl
    snapshots (suc number) = refl
