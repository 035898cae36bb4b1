-- A payment over two warehouses, which the checker computes: its part in a small partition of its home, which is kept or
-- undone, what the customer's warehouse has of it, and what the words for these calls leave no room for.
use Rattle.std.specs.Prelude.{◌≡◌, ℕ, ◌-◌, suc, pos, negsuc, true, false, Option, Some, None, List, [], ◌∷◌, codes, map, replicate, refl}
use Rattle.std.specs.Fmt.{digits}
use Rattle.std.proofs.Common.{zero, inl, inr, sym, ◌∙◌}
use Rattle.std.proofs.lemmas.List.{append_cancel_left}
use Rattle.hy_frames.specs.FrameTable.{Frame, empty_frame, free_of}
use Rattle.hy_rows.specs.Catalogue.{segments}
use Rattle.hy_rows.specs.declared.customer.Customer.{Customer}
use Rattle.hy_rows.specs.declared.history.History.{History}
use Rattle.hy_rows.specs.Rows.{history_bytes, warehouse_bytes}
use Rattle.hy_rows.specs.Spelling.{tables_of}
use Rattle.hy_rows.specs.Tables.{Lists, Tables, no_rows}
use Rattle.hy_schema.specs.declared.refusal.Refusal.TheVariants as refusals
use Rattle.hy_commands.specs.declared.command.Command.{Command}
use Rattle.hy_commands.specs.declared.command.Command.TheVariants as commands
use Rattle.hy_commands.specs.declared.command.Commit.TheVariants as commits
use Rattle.hy_commands.specs.declared.command.Who.TheVariants as who
use Rattle.hy_commands.specs.declared.edition.Edition.{Edition}
use Rattle.hy_commands.specs.declared.edition.Edition.TheVariants as editions
use Rattle.hy_commands.specs.declared.reply.Reply.TheVariants as replies
use Rattle.hy_commands.specs.WorkedSample.{bought, customer}
use Rattle.hy_space.specs.Space.{SpaceState, child_bytes, owner_bytes}
use Rattle.hy_undo.specs.UndoLog.{undone, empty_log}
use Rattle.hy_undo.specs.Touched.{touched}
use Rattle.hy_ledger.specs.Books.{new_book}
use Rattle.hy_ledger.specs.declared.view.ShareState.{ShareState}
use Rattle.hy_tpcc.specs.Parts.{HasPart, reply_of_part}
use Rattle.hy_partition.specs.Jobs.{Log}
use Rattle.hy_partition.specs.Partition.{PartitionState, layout_of, projection_of, rows_now}
use Rattle.hy_partition.specs.Parts.{DoesPart, HasNoPart, IsWhyUndone, KeepsPart, rows_with_part, share_of_part, with_part_entered}
use Rattle.hy_partition.specs.WorkedRows.{after, before, behind_history, live_table, page_of_count, page_of_row, page_of_zeros, small, snapshot_table}

-- ---- a payment of 1.00 at warehouse 1, for customer 3 of district 4 of warehouse 2

abbrev paid_there : Command
paid_there = commands.Payment record {
  warehouse = 1;
  district = 2;
  customer_warehouse = 2;
  customer_district = 4;
  who = who.Number 3;
  amount = 100;
  at = 7;
}

-- a purchase at warehouse 1, of which warehouse 2 supplies a line
abbrev supplied_there : Command
supplied_there = commands.NewOrder record {
  warehouse = 1;
  district = 2;
  customer = 3;
  at = 6;
  lines =
      record { item = 1; supply_warehouse = 2; quantity = 5 }
      ∷ bought 2 5 ∷ bought 3 5 ∷ bought 4 5 ∷ bought 5 5 ∷ [];
}

-- ---- what the home alone enters

home_enters_a_payment : with_part_entered 1 (record { warehouse = 1; commits = 8; cents = 70 }) paid_there
    ≡ record { warehouse = 1; commits = 9; cents = 170 }
home_enters_a_payment = refl

customers_home_enters_nothing : with_part_entered 2 (record { warehouse = 2; commits = 8; cents = 70 }) paid_there
    ≡ record { warehouse = 2; commits = 8; cents = 70 }
customers_home_enters_nothing = refl

home_enters_a_purchase : with_part_entered 1 (record { warehouse = 1; commits = 8; cents = 70 }) supplied_there
    ≡ record { warehouse = 1; commits = 9; cents = 70 }
home_enters_a_purchase = refl

supplier_enters_nothing : with_part_entered 2 (record { warehouse = 2; commits = 8; cents = 70 }) supplied_there
    ≡ record { warehouse = 2; commits = 8; cents = 70 }
supplier_enters_nothing = refl

share_of_the_home : share_of_part 1 paid_there ≡ Some (record { warehouse = 1; cents = 100 })
share_of_the_home = refl

no_share_of_the_customers_home : share_of_part 2 paid_there ≡ None
no_share_of_the_customers_home = refl

share_of_a_purchase : share_of_part 1 supplied_there ≡ Some (record { warehouse = 1; cents = 0 })
share_of_a_purchase = refl

no_share_of_the_supplier : share_of_part 2 supplied_there ≡ None
no_share_of_the_supplier = refl

-- ---- the home: a small partition on pages of 64 bytes, with a snapshot of all its pages, where nothing runs

-- a load of two warehouses, of which the second has the customer
abbrev payer : Customer
payer = record (customer 4 3 (codes "TWO") (codes "A")) { warehouse = 2 }

abbrev load : Lists
load = record {
  items = [];
  tables = record no_rows {
    warehouses = before ∷ record before { id = 2; name = codes "W2" } ∷ [];
    customers = payer ∷ [];
  };
}

-- a frame with a page of the owner and the snapshot, and one with a page of one of them
abbrev in_both : List ℕ → Frame
in_both bytes = record { count = 2; bytes = bytes; lent = true }

abbrev in_one : List ℕ → Frame
in_one bytes = record { count = 1; bytes = bytes; lent = false }

abbrev in_snapshot : List ℕ → Frame
in_snapshot bytes = record { count = 1; bytes = bytes; lent = true }

-- the pages of the owner, those of the snapshot, and the frames
abbrev pages_on : List (List ℕ) → List Frame → SpaceState
pages_on owner frames = record {
  owner = owner;
  children = Some snapshot_table ∷ [];
  frames = record { max = 20; frames = frames };
}

abbrev row_before : List ℕ
row_before = page_of_row (warehouse_bytes before)

abbrev resting_pages : SpaceState
resting_pages = pages_on snapshot_table
    (in_both page_of_count ∷ in_both row_before ∷ empty_frame ∷ in_both page_of_zeros ∷ empty_frame ∷ empty_frame
    ∷ replicate (segments - 2) (in_both page_of_zeros))

abbrev resting : PartitionState
resting = record small {
  load = load;
  running = None;
  undo = empty_log resting_pages;
  space = resting_pages;
}

-- ---- the part is done: W_YTD is written, and HISTORY has a row on a page more. Frames 2 and 4 have copies of the pages
-- that it wrote, and frame 5 has the new one

abbrev paid_row : History
paid_row = record {
  customer = 3;
  customer_district = 4;
  customer_warehouse = 2;
  district = 2;
  warehouse = 1;
  date = 7;
  amount = pos 100;
  information = codes "W1    ";
}

abbrev done_pages : SpaceState
done_pages = pages_on live_table
    (in_both page_of_count ∷ in_snapshot row_before ∷ in_one (page_of_row (warehouse_bytes after))
    ∷ in_snapshot page_of_zeros ∷ in_one page_of_count ∷ in_one (page_of_row (history_bytes paid_row))
    ∷ replicate (segments - 2) (in_both page_of_zeros))

abbrev done : PartitionState
done = record resting {
  part = Some (record { edition = editions.Second; command = paid_there });
  undo = record {
    counts = 2 ∷ replicate (segments - 1) 1;
    images =
        record { segment = 0; page = 1; offset = 1; bytes = warehouse_bytes before }
        ∷ record { segment = 3; page = 0; offset = 0; bytes = replicate 8 0 } ∷ [];
  };
  space = done_pages;
}

-- the database doesn't refuse the payment, which names this warehouse and another one
resting_has_part : HasPart (layout_of resting) paid_there
resting_has_part = record { accepted = refl; numbered = refl; named = refl; crossing = refl }

-- the cents and the row are there, and no customer
rows_of_the_home : rows_with_part resting editions.Second paid_there
    ≡ record no_rows { warehouses = after ∷ []; history = paid_row ∷ [] }
rows_of_the_home = refl

done_spells : tables_of 64 (owner_bytes done.space) ≡ rows_with_part resting editions.Second paid_there
done_spells = refl

-- the part has touched two pages, and undoing gives what the snapshot has
done_touched : touched done.undo ≡ 2
done_touched = refl

done_undone : Some (undone (owner_bytes done.space) done.undo) ≡ child_bytes done.space 0
done_undone = refl

-- the customer isn't one of here, so that another warehouse answers
part_is_done : DoesPart editions.Second paid_there resting done None
part_is_done = record {
  part = refl;
  bytes = refl;
  reply_is = refl;
  nothing = record { seen = refl; kept = refl; book = refl };
  beside = record {
    terms = refl;
    running = refl;
    finished = refl;
    snapshots = refl;
    children = record { tables = refl; bytes = bytes };
    max_frames = refl;
  };
}
  where
    bytes : (child : ℕ) → child_bytes done.space child ≡ child_bytes resting.space child
    bytes zero = refl
    bytes (suc child) = refl

-- ---- it is kept, as the first commit of several warehouses

abbrev log : Log
log = record { commit = commits.Cross editions.Second 1 paid_there; stamp = 0 } ∷ []

abbrev kept : PartitionState
kept = record done {
  part = None;
  undo = empty_log done_pages;
  seen = log;
  kept = commits.Cross editions.Second 1 paid_there ∷ [];
  book = record { warehouse = 1; commits = 1; cents = 100 };
}

part_is_kept : KeepsPart editions.Second paid_there 1 log done kept (Some (record { warehouse = 1; cents = 100 }))
part_is_kept = record {
  part = refl;
  undo = refl;
  space = refl;
  seen = refl;
  kept = refl;
  book = refl;
  share_is = refl;
  beside = record {
    terms = refl;
    running = refl;
    finished = refl;
    snapshots = refl;
    children = record { tables = refl; bytes = λ child. refl };
    max_frames = refl;
  };
}

kept_is_projected : kept.kept ≡ projection_of 1 log
kept_is_projected = refl

-- the replay of what is kept has the rows of the part
kept_spells : tables_of 64 (owner_bytes kept.space) ≡ rows_now kept
kept_spells = refl

-- ---- or it is undone: the pages have their bytes again, and frames 2 and 4 stay the owner's own

abbrev undone_pages : SpaceState
undone_pages = pages_on
    ((0 ∷ 2 ∷ []) ∷ (6 ∷ []) ∷ (7 ∷ []) ∷ (4 ∷ []) ∷ behind_history)
    (in_both page_of_count ∷ in_snapshot row_before ∷ in_one row_before ∷ in_snapshot page_of_zeros
    ∷ in_one page_of_zeros ∷ empty_frame ∷ replicate (segments - 2) (in_both page_of_zeros))

abbrev without_part : PartitionState
without_part = record resting { undo = empty_log undone_pages; space = undone_pages }

part_is_undone : HasNoPart done without_part
part_is_undone = record {
  part = refl;
  undo = refl;
  bytes = refl;
  nothing = record { seen = refl; kept = refl; book = refl };
  beside = record {
    terms = refl;
    running = refl;
    finished = refl;
    snapshots = refl;
    children = record { tables = refl; bytes = bytes };
    max_frames = refl;
  };
}
  where
    bytes : (child : ℕ) → child_bytes without_part.space child ≡ child_bytes done.space child
    bytes zero = refl
    bytes (suc child) = refl

undone_spells : tables_of 64 (owner_bytes without_part.space) ≡ rows_now resting
undone_spells = refl

-- two frames fewer are free than before the part was begun, and one more than while it was done
free_frames : map (λ (p : PartitionState). free_of p.space.frames) (resting ∷ done ∷ without_part ∷ [])
    ≡ (19 - segments) ∷ (16 - segments) ∷ (17 - segments) ∷ []
free_frames = refl

-- ---- the customer's warehouse, whose pages don't matter here

abbrev there : PartitionState
there = record resting { warehouse = 2; book = new_book 2 }

there_has_part : HasPart (layout_of there) paid_there
there_has_part = record { accepted = refl; numbered = refl; named = refl; crossing = refl }

-- the customer has paid, and nothing else changes
rows_there : rows_with_part there editions.Second paid_there ≡ record (rows_now there) {
  customers = record payer { balance = negsuc 1_099; ytd_payment = pos 1_100; payment_count = 2 } ∷ [];
}
rows_there = refl

reply_there : reply_of_part (layout_of there) editions.Second paid_there (rows_now there)
    ≡ Some (replies.Payment 3 (negsuc 1_099))
reply_there = refl

-- ---- the same, where the customer's credit is bad: the part notes the payment in C_DATA, but in the first edition

abbrev load_of_bad_credit : Lists
load_of_bad_credit = record {
  items = [];
  tables = record no_rows {
    warehouses = before ∷ record before { id = 2; name = codes "W2" } ∷ [];
    customers = record payer { credit = codes "BC"; information = codes "old" } ∷ [];
  };
}

abbrev bad_credit_there : PartitionState
bad_credit_there = record there { load = load_of_bad_credit }

abbrev notes_of : Tables → List (List ℕ)
notes_of tables = map (λ (row : Customer). row.information) tables.customers

noted_there : notes_of (rows_with_part bad_credit_there editions.Second paid_there) ≡ codes "3 4 2 2 1 100;old" ∷ []
unfolding digits
noted_there = refl

not_noted_by_first_edition : notes_of (rows_with_part bad_credit_there editions.First paid_there) ≡ codes "old" ∷ []
unfolding digits
not_noted_by_first_edition = refl

-- what is kept replays by its own edition
replayed_there : map (λ edition. notes_of (rows_now (record bad_credit_there {
  kept = commits.Cross edition 1 paid_there ∷ [];
}))) (editions.First ∷ editions.Second ∷ []) ≡ (codes "old" ∷ []) ∷ (codes "3 4 2 2 1 100;old" ∷ []) ∷ []
unfolding digits
replayed_there = refl

-- ---- what isn't so

-- a part is kept with one edition
one_edition : (one other : Edition) (log : Log) (old new : PartitionState) (share : Option ShareState)
    → KeepsPart one paid_there 1 log old new share → KeepsPart other paid_there 1 log old new share → one ≡ other
one_edition one other log old new share first second =
    let both : commits.Cross one 1 paid_there ∷ [] ≡ commits.Cross other 1 paid_there ∷ [] =
    append_cancel_left old.kept _ _ (sym first.kept ∙ second.kept) in same both
  where
    same : commits.Cross one 1 paid_there ∷ [] ≡ commits.Cross other 1 paid_there ∷ [] → one ≡ other
    same both = cc

-- a part is kept under one number
one_number : (number other : ℕ) (log : Log) (old new : PartitionState) (share : Option ShareState)
    → KeepsPart editions.Second paid_there number log old new share
    → KeepsPart editions.Second paid_there other log old new share → number ≡ other
one_number number other log old new share one two =
    let both : commits.Cross editions.Second number paid_there ∷ [] ≡ commits.Cross editions.Second other paid_there ∷ [] =
    append_cancel_left old.kept _ _ (sym one.kept ∙ two.kept) in same both
  where
    same : commits.Cross editions.Second number paid_there ∷ [] ≡ commits.Cross editions.Second other paid_there ∷ []
        → number ≡ other
    same both = cc

-- a warehouse that isn't the home gives no share
no_share_there : (number : ℕ) (known : Log) (new : PartitionState) (share : ShareState)
    → KeepsPart editions.Second paid_there number known there new (Some share) → ⊥
no_share_there number known new share keeps = let none : Some share ≡ None = keeps.share_is in absurd (cc)

-- no part is refused because an item isn't there, nor because the list of commits is full
no_missing_item : (old new : SpaceState) → IsWhyUndone old new refusals.NoSuchItem → ⊥
no_missing_item old new why = elim why [
  | inl frame ↦ let same : refusals.NoSuchItem ≡ refusals.NoFrame = frame.0 in absurd (cc)
  | inr memory ↦ absurd (cc)
]

no_full_list : (old new : SpaceState) → IsWhyUndone old new refusals.HistoryFull → ⊥
no_full_list old new why = elim why [
  | inl frame ↦ let same : refusals.HistoryFull ≡ refusals.NoFrame = frame.0 in absurd (cc)
  | inr memory ↦ absurd (cc)
]
