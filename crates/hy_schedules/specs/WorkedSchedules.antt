-- A schedule on two small warehouses: a purchase over both ends a payment that was half done in one of them; a snapshot
-- of both is taken, what is kept is drained, another purchase is refused, a client looks, and the snapshot is closed.
-- The purchase again while other clients look, and events that don't happen.
use Rattle.std.specs.Prelude.{◌≡◌, ◌⊎◌, ℕ, zero, suc, pos, ◌+◌, ◌==◌, if◌then◌else◌, Bool, true, false, Option, Some, None, List, [], ◌∷◌, IfSome, IsSome, fold, is_some, length, map, slice_get, slice_set, take, refl}
use Rattle.std.proofs.Common.{inl, inr, ap, sym, ◌∙◌, subst, arith}
use Rattle.std.proofs.lemmas.Option.{MatchOption-at_none, same_Some}
use Rattle.std.specs.Option.{option_map, unwrap_or}
use Rattle.hy_passes.specs.declared.entry.Entry.{Entry}
use Rattle.hy_rows.specs.declared.customer.Customer.{Customer}
use Rattle.hy_rows.specs.declared.district.District.{District}
use Rattle.hy_rows.specs.declared.stock.Stock.{Stock}
use Rattle.hy_rows.specs.declared.warehouse.Warehouse.{Warehouse}
use Rattle.hy_rows.specs.Tables.{Lists, Tables, no_rows}
use Rattle.hy_schema.specs.declared.refusal.Refusal.TheVariants as refusals
use Rattle.hy_commands.specs.declared.command.Command.{Command}
use Rattle.hy_commands.specs.declared.command.Command.TheVariants as commands
use Rattle.hy_commands.specs.declared.command.Commit.{Commit}
use Rattle.hy_commands.specs.declared.command.Commit.TheVariants as commits
use Rattle.hy_commands.specs.declared.command.PurchaseLine.{PurchaseLine}
use Rattle.hy_commands.specs.declared.command.Who.TheVariants as who
use Rattle.hy_commands.specs.declared.edition.Edition.TheVariants as editions
use Rattle.hy_commands.specs.Commands.{number_of}
use Rattle.hy_commands.specs.WorkedSample.{customers, district, each, items, stock, up_to, warehouse}
use Rattle.hy_forks.specs.of_partition.Schedules as one
use Rattle.hy_forks.specs.of_partition.Schedules.{Taken, Underway, World, begins, steps, takes, with_accepted, with_known}
use Rattle.hy_schedules.specs.Schedules.{ChangesPlace, DoesAll, Ends, EventOfAll, LooksAmid, Place, RunsAll, Whole, at, closes_all, crosses, drains, entry_behind, forks_all, forks_all_from, fresh_place, fresh_whole, kept_at, looks, no_looks, place_at, refusal_behind, rested_whole, with_drained, with_entry, with_looks, with_place, with_places, with_snapshot, with_snapshot_from, without_snapshot, world_at}

-- ---- two warehouses with a district each, where a load has ten

abbrev customers_in : ℕ → List Customer
customers_in number = map {A = Customer} {B = Customer} (λ row. record row { warehouse = number }) (customers 1)

abbrev stock_in : ℕ → ℕ → Stock
stock_in number item = record (stock item) { warehouse = number }

abbrev pub lists : Lists
lists = record {
  items = items;
  tables = record no_rows {
    warehouses = map {A = ℕ} {B = Warehouse} (λ number. record warehouse { id = number }) (up_to 2);
    districts = map {A = ℕ} {B = District} (λ number. record (district 1) { warehouse = number }) (up_to 2);
    customers = each customers_in (up_to 2);
    stock = each (λ number. map (stock_in number) (up_to 5)) (up_to 2);
  };
}

-- ---- commands

-- 25.00 in warehouse 1, of a customer there
abbrev pub pay : Command
pay = commands.Payment record {
  warehouse = 1;
  district = 1;
  customer_warehouse = 1;
  customer_district = 1;
  who = who.Number 2;
  amount = 2_500;
  at = 7;
}

abbrev line : ℕ → ℕ → PurchaseLine
line item supplier = record { item = item; supply_warehouse = supplier; quantity = 5 }

-- a purchase in warehouse 2, of which warehouse 1 supplies the first item
abbrev purchase : List PurchaseLine → Command
purchase lines =
    commands.NewOrder record { warehouse = 2; district = 1; customer = 1; at = 8; lines = line 1 1 ∷ lines }

abbrev pub order : Command
order = purchase (line 2 2 ∷ line 3 2 ∷ line 4 2 ∷ line 5 2 ∷ [])

-- the same, but for the last item, which isn't there
abbrev pub missing : Command
missing = purchase (line 2 2 ∷ line 3 2 ∷ line 4 2 ∷ line 21 2 ∷ [])

-- ---- the wholes between the events

abbrev job : ℕ → Underway
job slices = record { edition = editions.Second; command = pay; slices = slices; client = 5; stamp = 0 }

abbrev pub start : Whole
start = fresh_whole lists

abbrev pub paying : ℕ → Whole
paying slices = record start { places = record fresh_place { running = Some (job slices) } ∷ fresh_place ∷ [] }

-- the payment is accepted, and its answer waits
abbrev pub paid : Whole
paid = record start {
  log = record { commit = commits.Local editions.Second pay; stamp = 0 } ∷ [];
  known = with_known start.known 5 (record { commit = commits.Local editions.Second pay; stamp = 0 } ∷ []);
  places = record fresh_place { kept = commits.Local editions.Second pay ∷ []; waits = true } ∷ fresh_place ∷ [];
}

abbrev pub bought : Whole
bought = with_entry paid 6 (entry_behind paid order 0)

-- client 7 has a snapshot, under number 5 in warehouse 1 and 6 in warehouse 2
abbrev children : ℕ → ℕ
children number = number + 4

abbrev pub forked : Whole
forked = record (with_places (with_snapshot bought children) bought) { known = with_known bought.known 7 bought.log }

abbrev pub drained : Whole
drained = with_places with_drained forked

abbrev pub place_in : Whole → ℕ → Place
place_in whole number = unwrap_or (place_at whole.places number) fresh_place

abbrev looked : Whole
looked = record drained { known = with_known drained.known 5 drained.log }

abbrev pub last : Whole
last = with_places (without_snapshot children) looked

abbrev events : List EventOfAll
events =
    at 1 (begins 5 pay) ∷ at 1 steps ∷ crosses 6 order no_looks ∷ forks_all 7 children ∷ drains ∷ crosses 6 missing no_looks ∷ looks 5
    ∷ closes_all children ∷ []

-- ---- each event happens

begun : DoesAll (at 1 (begins 5 pay)) start (paying 0)
begun = (
  refl,
  record {
    before = fresh_place;
    after = record fresh_place { running = Some (job 0) };
    there = refl;
    change = (refl, refl, refl, refl);
    drained = refl;
    places = refl;
  },
)

half_done : DoesAll (at 1 steps) (paying 0) (paying 1)
half_done = (
  refl,
  record {
    before = record fresh_place { running = Some (job 0) };
    after = record fresh_place { running = Some (job 1) };
    there = refl;
    change = inl (refl, refl);
    drained = refl;
    places = refl;
  },
)

-- the payment, of which a slice was left, is accepted before the purchase is
crossed : DoesAll (crosses 6 order no_looks) (paying 1) bought
crossed = record {
  several = refl;
  ended = paid;
  ends = (paid, first, (paid, second, refl));
  done = bought;
  does = inr (refl, refl);
  looked = refl;
}
  where
    first : ChangesPlace Ends 1 (paying 1) paid
    first = record {
      before = record fresh_place { running = Some (job 1) };
      after = record fresh_place { kept = commits.Local editions.Second pay ∷ []; waits = true };
      there = refl;
      change = inl (refl, refl);
      drained = refl;
      places = refl;
    }

    second : ChangesPlace Ends 2 paid paid
    second = record {
      before = fresh_place;
      after = fresh_place;
      there = refl;
      change = refl;
      drained = refl;
      places = refl;
    }

-- so it is where others look meanwhile: client 8 before the payment ends, client 9 twice between that and the purchase, and
-- client 7 behind it
abbrev pub looks_amid : LooksAmid
looks_amid = record {
  before_end = λ number. if number == 1 then 8 ∷ [] else 9 ∷ [];
  before_commit = 9 ∷ [];
  behind = 7 ∷ [];
}

abbrev paid_amid : Whole
paid_amid = record paid { known = with_known (with_known start.known 8 []) 5 paid.log }

abbrev looked_between : Whole
looked_between = with_looks (9 ∷ 9 ∷ []) paid_amid

abbrev bought_between : Whole
bought_between = with_entry looked_between 6 (entry_behind looked_between order 0)

abbrev pub bought_amid : Whole
bought_amid = with_looks (7 ∷ []) bought_between

crossed_amid : DoesAll (crosses 6 order looks_amid) (paying 1) bought_amid
crossed_amid = record {
  several = refl;
  ended = looked_between;
  ends = (paid_amid, first, (with_looks (9 ∷ []) paid_amid, second, refl));
  done = bought_between;
  does = inr (refl, refl);
  looked = refl;
}
  where
    first : ChangesPlace Ends 1 (with_looks (8 ∷ []) (paying 1)) paid_amid
    first = record {
      before = record fresh_place { running = Some (job 1) };
      after = record fresh_place { kept = commits.Local editions.Second pay ∷ []; waits = true };
      there = refl;
      change = inl (refl, refl);
      drained = refl;
      places = refl;
    }

    second : ChangesPlace Ends 2 (with_looks (9 ∷ []) paid_amid) (with_looks (9 ∷ []) paid_amid)
    second = record {
      before = fresh_place;
      after = fresh_place;
      there = refl;
      change = refl;
      drained = refl;
      places = refl;
    }

-- client 9 knows the payment, and not the purchase; client 8 knows nothing, and client 7 both. All else is as where nobody
-- looks
known_amid : (bought_amid.known 9 ≡ 1) × (bought_amid.known 8 ≡ 0) × (bought_amid.known 7 ≡ 2)
    × (bought_amid.known 6 ≡ 2) × (bought_amid.known 5 ≡ 1)
known_amid = (refl, refl, refl, refl, refl)

same_amid : record bought_amid { known = bought.known } ≡ bought
same_amid = refl

taken : DoesAll (forks_all 7 children) bought forked
taken = (free, refl)
  where
    free : (number : ℕ) → IfSome (place_at bought.places number) (λ place. place.open_at (children number) ≡ None)
    free zero = tt
    free (suc zero) = refl
    free (suc (suc zero)) = refl
    free (suc (suc (suc number))) = tt

-- nothing runs, and nothing enters
refused : DoesAll (crosses 6 missing no_looks) drained drained
refused = record {
  several = refl;
  ended = drained;
  ends = (drained, stays_1, (drained, stays_2, refl));
  done = drained;
  does = inl refl;
  looked = refl;
}
  where
    stays_1 : ChangesPlace Ends 1 drained drained
    stays_1 = record {
      before = place_in drained 1;
      after = place_in drained 1;
      there = refl;
      change = refl;
      drained = refl;
      places = refl;
    }

    stays_2 : ChangesPlace Ends 2 drained drained
    stays_2 = record {
      before = place_in drained 2;
      after = place_in drained 2;
      there = refl;
      change = refl;
      drained = refl;
      places = refl;
    }

closed : DoesAll (closes_all children) looked last
closed = (are_open, refl)
  where
    are_open : (number : ℕ) → IfSome (place_at looked.places number) (λ place. IsSome (place.open_at (children number)))
    are_open zero = tt
    are_open (suc zero) = refl
    are_open (suc (suc zero)) = refl
    are_open (suc (suc (suc number))) = tt

runs : RunsAll events start last
runs = (paying 0, inr begun, (paying 1, inr half_done, (bought, inr crossed, (forked, inr taken, afterwards))))
  where
    afterwards : RunsAll (drains ∷ crosses 6 missing no_looks ∷ looks 5 ∷ closes_all children ∷ []) forked last
    afterwards = (drained, inr refl, (drained, inr refused, (looked, inr refl, (last, inr closed, refl))))

-- ---- what is seen

-- the payment stands before the purchase, which has the first number; both clients had looked at nothing
entered_at_last : last.log
    ≡ record { commit = commits.Local editions.Second pay; stamp = 0 } ∷ record { commit = commits.Cross editions.Second 1 order; stamp = 0 } ∷ []
entered_at_last = refl

kept_at_last : (kept_at last.places 1 ≡ commits.Local editions.Second pay ∷ commits.Cross editions.Second 1 order ∷ [])
    × (kept_at last.places 2 ≡ commits.Cross editions.Second 1 order ∷ [])
kept_at_last = (refl, refl)

-- a database at rest behind the same serial list has kept as much, all of it drained; behind an empty one it is fresh
rested_at_last : rested_whole lists last.log last.known
    ≡ record {
      load = lists;
      log = last.log;
      known = last.known;
      places =
          record fresh_place {
            kept = commits.Local editions.Second pay ∷ commits.Cross editions.Second 1 order ∷ [];
            drained = 2;
          }
          ∷ record fresh_place { kept = commits.Cross editions.Second 1 order ∷ []; drained = 1 } ∷ [];
    }
rested_at_last = refl

rested_at_first : rested_whole lists [] (λ client. 0) ≡ fresh_whole lists
rested_at_first = refl

known_before : (drained.known 5 ≡ 1) × (drained.known 6 ≡ 2) × (drained.known 7 ≡ 2) × (drained.known 8 ≡ 0)
known_before = (refl, refl, refl, refl)

known_at_last : last.known 5 ≡ 2
known_at_last = refl

drained_at_last : ((place_in last 1).drained ≡ 2) × ((place_in last 2).drained ≡ 1)
drained_at_last = (refl, refl)

-- the snapshots have both: warehouse 1 has the 25.00 and has supplied five of item 1, which were 18; the order is one
-- of warehouse 2
abbrev rows_in : ℕ → Tables
rows_in number =
    unwrap_or (option_map (λ snapshot. snapshot.rows) ((place_in forked number).open_at (children number))) no_rows

snapshot_here : (map (λ (row : Warehouse). row.ytd) (rows_in 1).warehouses ≡ pos 32_500 ∷ [])
    × (map (λ (row : Stock). row.quantity) (take 2 (rows_in 1).stock) ≡ 13 ∷ 25 ∷ [])
    × (length (rows_in 1).orders ≡ 0)
snapshot_here = (refl, refl, refl)

snapshot_there : (map (λ (row : Stock). row.quantity) (take 2 (rows_in 2).stock) ≡ 18 ∷ 20 ∷ [])
    × (length (rows_in 2).orders ≡ 1)
snapshot_there = (refl, refl)

gone_at_last : ((place_in last 1).open_at 5 ≡ None) × ((place_in last 2).open_at 6 ≡ None)
gone_at_last = (refl, refl)

-- a snapshot was taken behind the payment, and the purchase came after it; what that snapshot sees is opened under other
-- numbers: it has the payment, and not the purchase
abbrev between : Whole
between = with_places (with_snapshot paid children) paid

abbrev later : Whole
later = with_entry between 6 (entry_behind between order 0)

abbrev others : ℕ → ℕ
others number = number + 8

abbrev again : Whole
again = with_places (with_snapshot_from children others) later

taken_from : DoesAll (forks_all_from children others) later again
taken_from = (are_open, refl)
  where
    are_open : (number : ℕ) → IfSome (place_at later.places number) (λ place.
        IsSome (place.open_at (children number)) × (place.open_at (others number) ≡ None))
    are_open zero = tt
    are_open (suc zero) = (refl, refl)
    are_open (suc (suc zero)) = (refl, refl)
    are_open (suc (suc (suc number))) = tt

abbrev commits_under : Whole → ℕ → ℕ → Option ℕ
commits_under whole number under = option_map (λ taken. taken.commits) ((place_in whole number).open_at under)

has_the_payment : (commits_under again 1 (others 1) ≡ Some 1) × (commits_under again 2 (others 2) ≡ Some 0)
    × (length (kept_at again.places 1) ≡ 2)
has_the_payment = (refl, refl, refl)

-- it outlives the other one
abbrev alone : Whole
alone = with_places (without_snapshot children) again

outlives : (commits_under alone 1 (others 1) ≡ Some 1) × (commits_under alone 1 (children 1) ≡ None)
outlives = (refl, refl)

-- why the other purchase is refused
refused_for : refusal_behind drained missing ≡ Some refusals.NoSuchItem
refused_for = refl

-- ---- events that don't happen

-- in a warehouse that isn't there
not_there : (new : Whole) → DoesAll (at 3 takes) paid new → ⊥
not_there new does = let there = does.1.there in absurd (cc)

-- a look isn't an event of one warehouse
not_local : (new : Whole) → DoesAll (at 1 (one.looks 5)) paid new → ⊥
not_local new does = let here = does.0 in absurd (cc)

-- a command that names one warehouse isn't one over several
not_several : (new : Whole) → DoesAll (crosses 5 pay no_looks) start new → ⊥
not_several new does = let several = does.several in absurd (cc)

-- a drain of one warehouse alone
not_drained : DoesAll drains forked (record drained { places = place_in drained 1 ∷ place_in forked 2 ∷ [] }) → ⊥
not_drained does = let counts = ap (λ (w : Whole). (place_in w 2).drained) does in absurd (omega (arith, counts))

-- a snapshot of what isn't open in one of the warehouses
not_from_closed : (new : Whole) → DoesAll (forks_all_from others (λ number. number + 12)) later new → ⊥
not_from_closed new does = let never = (does.0 1).0 in absurd (cc)

-- a snapshot that has the purchase in one of its warehouses and not in the other
not_taken : DoesAll (forks_all 7 children) bought (record forked {
  places = place_in forked 1
      ∷ record (place_in forked 2) { open_at = (with_snapshot paid children 2 (place_in paid 2)).open_at } ∷ [];
}) → ⊥
not_taken does =
    let seen = ap commits_in does.1 in absurd (omega (arith, seen))
  where
    commits_in : Whole → ℕ
    commits_in whole = unwrap_or (option_map (λ snapshot. snapshot.commits) ((place_in whole 2).open_at 6)) 0

-- where nothing runs in a warehouse, nothing ends there
idle_stays : (number : ℕ) (old new : Whole) (place : Place) → place_at old.places number ≡ Some place
    → place.running ≡ None → ChangesPlace Ends number old new → new ≡ old
idle_stays number old new place there idle changes =
    ap (λ (w : World). record { load = w.load; log = w.log; known = w.known; places = new.places }) world_is
    ∙ ap (λ (places : List Place). record old { places = places })
    (changes.places ∙ ap (with_place old.places number) after_is ∙ replaced number old.places there)
  where
    before_is : place ≡ changes.before
    before_is = same_Some place changes.before (sym there ∙ changes.there)

    world_is : world_at new number changes.after ≡ world_at old number place
    world_is =
        MatchOption-at_none _ _ idle
        (subst (λ (row : Place). Ends (world_at old number row) (world_at new number changes.after)) (sym before_is)
        changes.change)

    after_is : changes.after ≡ place
    after_is =
        ap (λ (w : World). record {
          kept = w.kept;
          drained = changes.after.drained;
          running = w.running;
          waits = w.waits;
          open_at = w.open_at;
        }) world_is
        ∙ ap (λ drained. record place { drained = drained })
        (changes.drained ∙ sym (ap (λ (row : Place). row.drained) before_is))

    set_same : (places : List Place) (before : ℕ) → slice_get places before ≡ Some place
        → slice_set places before place ≡ places
    set_same [] before there = refl
    set_same (row ∷ places) zero there = ap (λ (one : Place). one ∷ places) (sym (same_Some row place there))
    set_same (row ∷ places) (suc before) there = ap (λ (l : List Place). row ∷ l) (set_same places before there)

    replaced : (number : ℕ) (places : List Place) → place_at places number ≡ Some place
        → with_place places number place ≡ places
    replaced zero places there = refl
    replaced (suc before) places there = set_same places before there

-- so a purchase that begins there enters behind the serial list of that moment, whoever looks meanwhile
abbrev seen_amid : LooksAmid → Whole
seen_amid amid =
    with_looks amid.before_commit (with_looks (amid.before_end 2) (with_looks (amid.before_end 1) paid))

entered_only : (amid : LooksAmid) (new : Whole) → DoesAll (crosses 6 order amid) paid new
    → (new ≡ with_looks amid.behind (seen_amid amid))
    ⊎ (new ≡ with_looks amid.behind (with_entry (seen_amid amid) 6 (entry_behind (seen_amid amid) order 0)))
entered_only amid new does = elim does.does [
  | inl refused ↦ inl (does.looked ∙ ap (λ (w : Whole). with_looks amid.behind w) (refused ∙ ended))
  | inr accepts ↦
      inr (does.looked ∙ ap (λ (w : Whole). with_looks amid.behind w) (accepts.1
      ∙ ap (λ (w : Whole). with_entry w 6 (entry_behind w order 0)) ended))
]
  where
    first : does.ends.0 ≡ with_looks (amid.before_end 1) paid
    first =
        idle_stays 1 (with_looks (amid.before_end 1) paid) does.ends.0 (place_in paid 1) refl refl does.ends.1

    second : does.ends.2.0 ≡ with_looks (amid.before_end 2) (with_looks (amid.before_end 1) paid)
    second =
        idle_stays 2 (with_looks (amid.before_end 2) does.ends.0) does.ends.2.0 (place_in paid 2)
        (ap (λ (w : Whole). place_at w.places 2) first) refl does.ends.2.1
        ∙ ap (λ (w : Whole). with_looks (amid.before_end 2) w) first

    ended : does.ended ≡ seen_amid amid
    ended = does.ends.2.2 ∙ ap (λ (w : Whole). with_looks amid.before_commit w) second

-- a look before the purchase enters that knows it already, and one that has forgotten the payment
abbrev look_late : LooksAmid
look_late = record no_looks { before_commit = 9 ∷ [] }

known_late : (new : Whole) → DoesAll (crosses 6 order look_late) paid new → new.known 9 ≡ 1
known_late new does = elim (entered_only look_late new does) [
  | inl same ↦ ap (λ (w : Whole). w.known 9) same
  | inr same ↦ ap (λ (w : Whole). w.known 9) same
]

not_ahead : (new : Whole) → DoesAll (crosses 6 order look_late) paid new → new.known 9 ≡ 2 → ⊥
not_ahead new does ahead = absurd (omega (arith, known_late new does, ahead))

not_forgotten : (new : Whole) → DoesAll (crosses 6 order look_late) paid new → new.known 9 ≡ 0 → ⊥
not_forgotten new does behind = absurd (omega (arith, known_late new does, behind))

-- and one behind it that doesn't know it: all know what was there before
look_behind : (new : Whole) → DoesAll (crosses 6 order (record no_looks { behind = 9 ∷ [] })) paid new
    → new.known 9 ≡ length new.log
look_behind new does = elim (entered_only (record no_looks { behind = 9 ∷ [] }) new does) [
  | inl same ↦ ap (λ (w : Whole). w.known 9) same ∙ sym (ap (λ (w : Whole). length w.log) same)
  | inr same ↦ ap (λ (w : Whole). w.known 9) same ∙ sym (ap (λ (w : Whole). length w.log) same)
]

-- a purchase that one of its warehouses doesn't keep
not_kept : DoesAll (crosses 6 order no_looks) paid (record bought { places = place_in paid 1 ∷ place_in bought 2 ∷ [] }) → ⊥
not_kept does = elim (entered_only no_looks _ does) [
  | inl same ↦ let entered : 2 ≡ 1 = ap (λ (w : Whole). length w.log) same in absurd (omega (arith, entered))
  | inr same ↦ let kept : 1 ≡ 2 = ap (λ (w : Whole). length (kept_at w.places 1)) same in absurd (omega (arith, kept))
]

-- one that has the number 2, where it is the first over several warehouses
not_numbered : DoesAll (crosses 6 order no_looks) paid
    (with_entry paid 6 (record { commit = commits.Cross editions.Second 2 order; stamp = 0 })) → ⊥
not_numbered does = elim (entered_only no_looks _ does) [
  | inl same ↦ let entered : 2 ≡ 1 = ap (λ (w : Whole). length w.log) same in absurd (omega (arith, entered))
  | inr same ↦ let numbers : 2 ≡ 1 = ap numbers_in same in absurd (omega (arith, numbers))
]
  where
    numbers_in : Whole → ℕ
    numbers_in whole = fold (λ total (entry : Entry Commit). total + unwrap_or (number_of entry.commit) 0) 0 whole.log

-- one before which the payment, of which a slice is left, didn't end
not_before : DoesAll (crosses 6 order no_looks) (paying 1) (with_entry (paying 1) 6 (entry_behind (paying 1) order 0)) → ⊥
not_before does = elim does.does [
  | inl same ↦ let runs = ap runs_in (does.looked ∙ same) ∙ ap runs_in ended ∙ idle in absurd (cc)
  | inr same ↦
      let runs = ap runs_in (does.looked ∙ same.1) ∙ ap (λ (w : Whole). runs_in (with_entry w 6 (entry_behind w order 0))) ended
      ∙ idle in
      absurd (cc)
]
  where
    runs_in : Whole → Bool
    runs_in whole = is_some (place_in whole 1).running

    changes : ChangesPlace Ends 1 (paying 1) does.ends.0
    changes = does.ends.1

    mid : Whole
    mid = record does.ends.0 { places = changes.after ∷ fresh_place ∷ [] }

    ended : does.ended ≡ mid
    ended =
        does.ends.2.2
        ∙ idle_stays 2 does.ends.0 does.ends.2.0 fresh_place (ap (λ (l : List Place). place_at l 2) changes.places) refl
        does.ends.2.1
        ∙ ap (λ (l : List Place). record does.ends.0 { places = l }) changes.places

    end : Ends (world_at (paying 1) 1 (place_in (paying 1) 1)) (world_at does.ends.0 1 changes.after)
    end =
        subst (λ (row : Place). Ends (world_at (paying 1) 1 row) (world_at does.ends.0 1 changes.after))
        (sym (same_Some (place_in (paying 1) 1) changes.before changes.there)) changes.change

    idle : is_some changes.after.running ≡ false
    idle = elim end [
      | inl accepted ↦ ap (λ (w : World). is_some w.running) accepted.1
      | inr refused ↦ ap (λ (w : World). is_some w.running) refused
    ]
