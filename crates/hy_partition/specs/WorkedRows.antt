-- What the calls do at their edges, and a small partition in the middle of a payment, which the checker computes.
use Rattle.std.specs.Prelude.{◌≡◌, ℕ, suc, pos, negsuc, Bool, true, false, Some, None, List, [], ◌∷◌, ◌++◌, ◌+◌, ◌-◌, ◌&&◌, nat_lt, codes, count_by, length, map, replicate, refl}
use Rattle.std.specs.List.{list_all, range_with_len}
use Rattle.hy_rows.specs.Catalogue.{segments}
use Rattle.std.proofs.Common.{zero, ◌<◌, ◌≤◌, ◌==◌, inl, inr, ap, ap₂, sym, ◌∙◌, subst, arith, lit<, lit≤}
use Rattle.std.proofs.lemmas.Bool.{and_parts, cases_lt, eqb-true}
use Rattle.std.proofs.lemmas.Bool.Decides.{nat_tests}
use Rattle.std.proofs.lemmas.List.{get_or_past, get_or-replicate}
use Rattle.std.proofs.lemmas.List.Elements.{All-nil, All-cons}
use Rattle.std.proofs.lemmas.List.Sums.{sum_by-cons}
use Rattle.hy_page.specs.Bytes.{overwritten}
use Rattle.hy_frames.specs.FrameTable.{Frame, count_of, empty_frame}
use Rattle.hy_rows.specs.declared.history.History.{History}
use Rattle.hy_rows.specs.declared.warehouse.Warehouse.{Warehouse}
use Rattle.hy_rows.specs.Rows.{history_bytes, warehouse_bytes}
use Rattle.hy_rows.specs.Spelling.{HasSlots, IsTable, Spells, list_at, tables_of}
use Rattle.hy_rows.specs.Tables.{no_rows}
use Rattle.hy_rows.specs.inside.Places.{segment_there}
use Rattle.hy_schema.specs.declared.refusal.Refusal.TheVariants as refusals
use Rattle.hy_commands.specs.declared.command.Command.{Command}
use Rattle.hy_commands.specs.declared.command.Commit.{Commit}
use Rattle.hy_commands.specs.declared.command.Commit.TheVariants as commits
use Rattle.hy_commands.specs.declared.command.Who.TheVariants as who
use Rattle.hy_commands.specs.declared.edition.Edition.TheVariants as editions
use Rattle.hy_commands.specs.declared.reply.Reply.TheVariants as replies
use Rattle.hy_commands.specs.Commands.{kept_of}
use Rattle.hy_commands.specs.Invariant.{MeetsOwnConditions}
use Rattle.hy_commands.specs.WorkedSample.{five_of_each, items, level, payment, sample, status}
use Rattle.hy_slices.specs.Slices.{after_slices}
use Rattle.hy_space.specs.Space.{CountsAreExact, NoFrameTwice, maps, owner_bytes, child_bytes, times}
use Rattle.hy_undo.specs.UndoLog.{undone, page_counts}
use Rattle.hy_undo.specs.Touched.{touched}
use Rattle.hy_ledger.specs.Books.{new_book}
use Rattle.hy_passes.specs.Worlds.{PassState, new_client}
use Rattle.hy_partition.specs.Accounts.{with_command}
use Rattle.hy_partition.specs.Jobs.{RunningJob, begun, entered_by, is_last, refused_answer, share_of}
use Rattle.hy_partition.specs.Partition.{PartitionState, is_new, may_run, outcome_now, own_commits, replays, rows_now}
use Rattle.hy_partition.specs.Headline.{Headline, SpellsBeginning}
use Rattle.hy_partition.specs.Steps.{begin_refusal}

-- so many slices of a command are done, by the second edition, of a client who has seen nothing
abbrev job : Command → ℕ → RunningJob
job command slices =
    record { edition = editions.Second; command = command; slices = slices; pass = new_client 0 }

-- ---- which command begins

-- the warehouse of `hy_commands` after some commits, of which so many may be kept; its pages don't matter here
abbrev with_kept : List Commit → ℕ → PartitionState
with_kept kept max_kept = record {
  load = record { items = items; tables = sample };
  warehouse = 1;
  max_kept = max_kept;
  replayed = 0;
  seen = map (λ commit. record { commit = commit; stamp = 0 }) kept;
  kept = kept;
  book = new_book 1;
  running = None;
  part = None;
  undo = record { counts = []; images = [] };
  finished = None;
  space = record { owner = []; children = []; frames = record { max = 1; frames = [] } };
  snapshots = [];
}

abbrev pay : Command
pay = payment (who.Number 1) 2_500

abbrev full : PartitionState
full = with_kept (commits.Local editions.Second pay ∷ []) 1

-- a command that only reads begins on a full list, and another one doesn't
reader_on_a_full_list : begin_refusal full (status 1) ≡ None
reader_on_a_full_list = refl

level_on_a_full_list : begin_refusal full level ≡ None
level_on_a_full_list = refl

payment_on_a_full_list : begin_refusal full pay ≡ Some refusals.HistoryFull
payment_on_a_full_list = refl

payment_with_room : begin_refusal (with_kept (commits.Local editions.Second pay ∷ []) 2) pay ≡ None
payment_with_room = refl

-- what the warehouse refuses comes before that, and a job, a part or an answer that is there comes first
other_customer_on_a_full_list : begin_refusal full (payment (who.Number 9) 2_500) ≡ Some refusals.NoSuchCustomer
other_customer_on_a_full_list = refl

busy_with_a_job : begin_refusal (record full { running = Some (job (status 1) 0) }) (status 1)
    ≡ Some refusals.Busy
busy_with_a_job = refl

busy_with_a_part : begin_refusal
    (record full { part = Some (record { edition = editions.Second; command = pay }) }) (status 1)
    ≡ Some refusals.Busy
busy_with_a_part = refl

busy_with_an_answer : begin_refusal
    (record full { finished = Some (refused_answer (new_client 0) refusals.NoMemory) }) (status 1)
    ≡ Some refusals.Busy
busy_with_an_answer = refl

-- a job runs by its own edition
begun_by_first_edition : begun (record { edition = editions.First; command = pay; pass = new_client 0 })
    ≡ record (job pay 0) { edition = editions.First }
begun_by_first_edition = refl

-- by the first edition a command runs only while a log is replayed
by_which_it_may : map (may_run false) (editions.First ∷ editions.Second ∷ []) ≡ false ∷ true ∷ []
by_which_it_may = refl

by_which_it_replays : map (may_run true) (editions.First ∷ editions.Second ∷ []) ≡ true ∷ true ∷ []
by_which_it_replays = refl

-- ---- what is kept and answered

-- of three commits of which one comes from a log two don't; the log is replayed until that one is kept
abbrev thrice : PartitionState
thrice = record (with_kept
    (commits.Local editions.First pay ∷ commits.Local editions.Second pay ∷ commits.Cross editions.Second 1 pay ∷ []) 5) {
      replayed = 1;
    }

own_commits_of_thrice : own_commits thrice
    ≡ commits.Local editions.Second pay ∷ commits.Cross editions.Second 1 pay ∷ []
own_commits_of_thrice = refl

replays_until_kept : map (λ kept. replays (record thrice { kept = kept }))
    ([] ∷ (commits.Local editions.First pay ∷ []) ∷ thrice.kept ∷ []) ≡ true ∷ false ∷ false ∷ []
replays_until_kept = refl

new_of_thrice : map is_new thrice.kept ≡ false ∷ true ∷ true ∷ []
new_of_thrice = refl

old_crossing : is_new (commits.Cross editions.First 1 pay) ≡ false
old_crossing = refl

-- a command that only reads adds nothing
kept_of_reader : full.kept ++ kept_of editions.Second (status 1) ≡ full.kept
kept_of_reader = refl

kept_of_payment : full.kept ++ kept_of editions.Second pay
    ≡ commits.Local editions.Second pay ∷ commits.Local editions.Second pay ∷ []
kept_of_payment = refl

-- a command is kept with its edition
kept_of_first_edition : full.kept ++ kept_of editions.First pay
    ≡ commits.Local editions.Second pay ∷ commits.Local editions.First pay ∷ []
kept_of_first_edition = refl

-- the reply is that behind all that is kept: -10.00 and two payments of 25.00
second_reply : (outcome_now full editions.Second pay).reply ≡ replies.Payment 1 (negsuc 5_999)
second_reply = refl

-- ---- stamps, shares and accounts

-- a client who has seen two commits
abbrev knowing : PassState Commit
knowing = record {
  client = 3;
  seen =
      record { commit = commits.Local editions.Second pay; stamp = 0 }
      ∷ record { commit = commits.Local editions.Second pay; stamp = 1 } ∷ [];
  looks = 1;
}

-- a payment enters with the number of commits that its client knew when it began; a command that only reads doesn't
payment_is_stamped : entered_by editions.Second pay knowing
    ≡ record { commit = commits.Local editions.Second pay; stamp = 2 } ∷ []
payment_is_stamped = refl

first_edition_enters : entered_by editions.First pay knowing
    ≡ record { commit = commits.Local editions.First pay; stamp = 2 } ∷ []
first_edition_enters = refl

reader_enters_nothing : entered_by editions.Second (status 1) knowing ≡ []
reader_enters_nothing = refl

-- a payment's share has its cents, a purchase's none, and a command that only reads has no share
share_of_payment : share_of 4 pay ≡ Some (record { warehouse = 4; cents = 2_500 })
share_of_payment = refl

share_of_purchase : share_of 4 (five_of_each 1) ≡ Some (record { warehouse = 4; cents = 0 })
share_of_purchase = refl

no_share_of_reader : share_of 4 level ≡ None
no_share_of_reader = refl

-- the book counts it, and a refused or read command leaves it
book_of_payment : with_command (new_book 4) pay ≡ record { warehouse = 4; commits = 1; cents = 2_500 }
book_of_payment = refl

book_of_reader : with_command (new_book 4) level ≡ new_book 4
book_of_reader = refl

-- a purchase of five lines has six slices, and a command that only reads has one
last_of_five_lines : is_last (job (five_of_each 1) 5) ≡ true
last_of_five_lines = refl

not_last_of_five_lines : is_last (job (five_of_each 1) 4) ≡ false
not_last_of_five_lines = refl

last_of_reader : is_last (job (status 1) 0) ≡ true
last_of_reader = refl

-- ---- a small partition: one warehouse without districts, on pages of 64 bytes. The first slice of a payment of 1.00 is
-- done: W_YTD is written, and HISTORY has a row on a page more. A snapshot that was taken before has the old pages

abbrev half_paid : Command
half_paid = payment (who.Number 1) 100

-- the warehouse before and after the slice, and the new row of HISTORY
abbrev pub before : Warehouse
before = record { id = 1; name = codes "W1"; tax = 500; ytd = pos 0 }

abbrev pub after : Warehouse
after = record before { ytd = pos 100 }

abbrev new_row : History
new_row = record {
  customer = 0;
  customer_district = 1;
  customer_warehouse = 1;
  district = 2;
  warehouse = 1;
  date = 7;
  amount = pos 100;
  information = codes "W1    ";
}

-- a page with a row, a page that counts one slot, and a page of a table without rows
abbrev pub page_of_row : List ℕ → List ℕ
page_of_row row = 1 ∷ row ++ replicate (63 - length row) 0

abbrev pub page_of_count : List ℕ
page_of_count = 1 ∷ replicate 63 0

abbrev pub page_of_zeros : List ℕ
page_of_zeros = replicate 64 0

-- the frame numbers of the live pages, and of the snapshot's: of WAREHOUSE two pages, of HISTORY, segment 3, one and then
-- two, and of each other table one
abbrev pub behind_history : List (List ℕ)
behind_history = map (λ frame. frame ∷ []) (range_with_len 8 (segments - 4))

abbrev pub live_table : List (List ℕ)
live_table = (0 ∷ 2 ∷ []) ∷ (6 ∷ []) ∷ (7 ∷ []) ∷ (4 ∷ 5 ∷ []) ∷ behind_history

abbrev pub snapshot_table : List (List ℕ)
snapshot_table = (0 ∷ 1 ∷ []) ∷ (6 ∷ []) ∷ (7 ∷ []) ∷ (3 ∷ []) ∷ behind_history

-- frames 1 and 3 are the snapshot's, frames 2, 4 and 5 the owner's alone; the others have two users
abbrev pub small : PartitionState
small = record {
  load = record { items = []; tables = record no_rows { warehouses = before ∷ [] } };
  warehouse = 1;
  max_kept = 5;
  replayed = 0;
  seen = [];
  kept = [];
  book = new_book 1;
  running = Some (job half_paid 1);
  part = None;
  undo = record {
    counts = 2 ∷ replicate (segments - 1) 1;
    images =
        record { segment = 0; page = 1; offset = 1; bytes = warehouse_bytes before }
        ∷ record { segment = 3; page = 0; offset = 0; bytes = replicate 8 0 } ∷ [];
  };
  finished = None;
  space = record {
    owner = live_table;
    children = Some snapshot_table ∷ [];
    frames = record {
      max = 20;
      frames =
          record { count = 2; bytes = page_of_count; lent = true }
          ∷ record { count = 1; bytes = page_of_row (warehouse_bytes before); lent = true }
          ∷ record { count = 1; bytes = page_of_row (warehouse_bytes after); lent = false }
          ∷ record { count = 1; bytes = page_of_zeros; lent = true }
          ∷ record { count = 1; bytes = page_of_count; lent = false }
          ∷ record { count = 1; bytes = page_of_row (history_bytes new_row); lent = false }
          ∷ replicate (segments - 2) (record { count = 2; bytes = page_of_zeros; lent = true });
    };
  };
  snapshots = Some 0 ∷ [];
}

-- a few bytes of a page overwritten
pub small-overwritten : overwritten (1 ∷ 2 ∷ 3 ∷ 4 ∷ 5 ∷ []) 1 (8 ∷ 9 ∷ []) ≡ 1 ∷ 8 ∷ 9 ∷ 4 ∷ 5 ∷ []
small-overwritten = refl

-- the slice wrote its row over the old one
pub small-written : overwritten (page_of_row (warehouse_bytes before)) 1 (warehouse_bytes after)
    ≡ page_of_row (warehouse_bytes after)
small-written = refl

-- the live pages spell the rows after the slice
pub small-live : tables_of 64 (owner_bytes small.space) ≡ after_slices [] 1 editions.Second half_paid 1 (rows_now small)
small-live = refl

-- the owner maps frame 2 and not frame 1
pub small-maps_2 : maps 2 small.space.owner ≡ true
small-maps_2 = refl

pub small-maps_1 : maps 1 small.space.owner ≡ false
small-maps_1 = refl

-- undoing gives what the snapshot has
pub small-undone : Some (undone (owner_bytes small.space) small.undo) ≡ child_bytes small.space 0
small-undone = refl

-- the job has touched two pages, and has a page more
pub small-touched : touched small.undo ≡ 2
small-touched = refl

pub small-counts : page_counts small.space ≡ 2 ∷ 1 ∷ 1 ∷ 2 ∷ replicate (segments - 4) 1
small-counts = refl

-- the consistency conditions hold of the rows that are kept
pub small-conditions : MeetsOwnConditions (rows_now small)
small-conditions = record {
  condition_1 = refl;
  condition_2 = refl;
  condition_3 = refl;
  condition_4 = refl;
  condition_5 = refl;
  condition_6 = refl;
  condition_7 = refl;
  condition_8 = refl;
  condition_9 = refl;
  condition_12 = refl;
}

-- the payment's next slice is its last
pub small-is_last : is_last (job half_paid 1) ≡ true
small-is_last = refl

-- how many frames there are
abbrev frame_count : ℕ
frame_count = length small.space.frames.frames

-- a test of the first numbers, and what it says of each
abbrev all_first : (ℕ → Bool) → ℕ → Bool
all_first test zero = true
all_first test (suc count) = test 0 && all_first (λ k. test (suc k)) count

passes : (test : ℕ → Bool) (count k : ℕ) → all_first test count ≡ true → k < count → test k ≡ true
passes test zero k all there = absurd (omega arith)
passes test (suc count) zero all there = (and_parts _ _ all).0
passes test (suc count) (suc k) all there = passes (λ k. test (suc k)) count k (and_parts _ _ all).1 (omega arith)

-- a frame behind the last stands in no table
count_behind : (n f : ℕ) (frames : List ℕ) → list_all (λ frame. nat_lt frame n) frames ≡ true → n ≤ f
    → count_by (λ frame. frame == f) frames ≡ 0
count_behind n f [] all behind = refl
count_behind n f (frame ∷ frames) all behind =
    let parts = and_parts (nat_lt frame n) (list_all (λ frame. nat_lt frame n) frames) all in
    let differs : (frame == f) ≡ false = grind (arith, nat_tests, parts.0, behind) in
    rw differs (count_behind n f frames parts.1 behind)

times_behind : (n f : ℕ) (table : List (List ℕ))
    → list_all (λ segment. list_all (λ frame. nat_lt frame n) segment) table ≡ true → n ≤ f → times f table ≡ 0
times_behind n f [] all behind = refl
times_behind n f (segment ∷ table) all behind =
    let Below : List ℕ → Bool = λ frames. list_all (λ frame. nat_lt frame n) frames in
    let parts = and_parts (Below segment) (list_all Below table) all in
    sum_by-cons (λ frames. count_by (λ frame. frame == f) frames) segment table
    ∙ ap₂ ◌+◌ (count_behind n f segment parts.0 behind) (times_behind n f table parts.1 behind)

none_of : (f : ℕ) → frame_count ≤ f → (times f live_table ≡ 0) × (times f snapshot_table ≡ 0)
none_of f behind =
    (times_behind frame_count f live_table refl behind, times_behind frame_count f snapshot_table refl behind)

counts : CountsAreExact small.space
counts f = elim (cases_lt f frame_count) [
  | inl there ↦ eqb-true _ _ (passes
      (λ f. count_of small.space.frames f == count_by (maps f)
      (live_table ∷ snapshot_table ∷ [])) frame_count f refl there)
  | inr behind ↦
      let none = none_of f behind in
      ap (λ (frame : Frame). frame.count) (get_or_past small.space.frames.frames f empty_frame behind) ∙ sym
      (rw (none.0, none.1) refl)
]

once : NoFrameTwice small.space
once f =
    let Once : List (List ℕ) → Type 0 = λ table. times f table ≤ 1 in
    let each : Once live_table × Once snapshot_table = elim (cases_lt f frame_count) [
      | inl there ↦
          let live : nat_lt (times f live_table) 2 ≡ true =
          passes (λ f. nat_lt (times f live_table) 2) frame_count f refl there in
          let shared : nat_lt (times f snapshot_table) 2 ≡ true =
          passes (λ f. nat_lt (times f snapshot_table) 2) frame_count f refl there in
          (grind (arith, nat_tests, live), grind (arith, nat_tests, shared))
      | inr behind ↦ let none = none_of f behind in (omega (arith, none.0), omega (arith, none.1))
    ] in
    All-cons Once live_table (snapshot_table ∷ []) each.0 (All-cons Once snapshot_table [] each.1 (All-nil Once))

width_is : {one other : ℕ} → Some one ≡ Some other → one ≡ other
width_is same = cc

-- the pages of the snapshot spell the warehouse before the payment
abbrev pub pages_before : List (List (List ℕ))
pages_before = (page_of_count ∷ page_of_row (warehouse_bytes before) ∷ []) ∷ replicate (segments - 1) (page_of_zeros ∷ [])

spelled : Spells 64 pages_before (rows_now small)
spelled = record { whole = record { all_segments = lit≤ tt; slots = slots }; rows = refl }
  where
    slots : (segment row_bytes : ℕ) → IsTable segment row_bytes → HasSlots 64 row_bytes (list_at pages_before segment)
    slots zero row_bytes table = subst (λ width. HasSlots 64 width (list_at pages_before 0)) (width_is table)
        (record { first = lit< tt; slots = lit≤ tt })
    slots (suc segment) row_bytes table =
        let there : segment < segments - 1 = omega (arith, segment_there (suc segment) row_bytes table) in
        subst (HasSlots 64 row_bytes) (sym (get_or-replicate (segments - 1) segment (page_of_zeros ∷ []) [] there))
        (record { first = lit< tt; slots = omega arith })

-- the headline holds of it
pub small-headline : Headline 64 small
small-headline = record {
  frame_counts_are_exact = record { counts = counts; once = once };
  open_snapshots_spell_a_beginning = snapshots;
  live_pages_undone_spell_all = spelled;
  nothing_to_undo_where_nothing_runs = λ idle. absurd (cc);
  replay_meets_the_conditions = small-conditions;
  kept_is_the_projection = refl;
}
  where
    snapshots : (child : ℕ) → SpellsBeginning 64 small child
    snapshots zero = (lit≤ tt, spelled)
    snapshots (suc child) = refl
