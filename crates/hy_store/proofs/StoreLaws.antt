-- What a store's bytes say where the pages of one segment changed.
use Rattle.std.proofs.Common.{◌≡◌, ◌≢◌, ℕ, ◌<◌, ◌≤◌, List, length, map, set, Option, Some, inl, inr, refl, sym, ap, ◌∙◌, subst, arith, lit≤}
use Rattle.std.proofs.lemmas.Bool.{cases_eq}
use Rattle.std.proofs.lemmas.List.{length-map}
use Rattle.hy_frames.specs.FrameTable.{page_of}
use Rattle.hy_rows.specs.declared.new_order.NewOrder.{NewOrder}
use Rattle.hy_rows.specs.Rows.{new_order_of}
use Rattle.hy_rows.specs.Spelling.{HasSlots, HasTables, IsTable, list_at, live_rows, rows_of, slots_of, tables_of}
use Rattle.hy_store.specs.Stored.{new_order_segment}
use Rattle.hy_rows.specs.Catalogue.{segments}
use Rattle.hy_rows.specs.Tables.{Tables}
use Rattle.hy_rows.specs.inside.Places.{by_places, segment_there}
use Rattle.hy_space.specs.Space.{SpaceState, owner_bytes}
use Rattle.hy_undo.specs.UndoLog.{UndoLog}
use Rattle.hy_relation.specs.Relation.{ChangesSegment}
use Rattle.hy_relation.proofs.TablesLaws.{has_tables-changed, tables_respelled}
use Rattle.hy_index.specs.declared.key.Entry.{Entry}
use Rattle.hy_index.specs.of_nodes.Writes.{WritesSegment, pages_of}
use Rattle.hy_index.specs.Writes.{IsIndex, entries}
use Rattle.hy_store.specs.Keys.{IsCustomerKey, IsLineKey, IsOrderKey, IsWaitingKey, customer_key_bytes, customer_key_of, line_key_bytes, line_key_of, order_key_bytes, order_key_of, waiting_key_bytes, waiting_key_of}
use Rattle.hy_store.specs.Stored.{AreIndexes, HasAllRows, HasIndexSegments, HasStore, Stored, all_segments, last_order_index, line_index, order_index, stored, waiting_index}
use Rattle.hy_store.specs.Writes.{stored_in}
use Rattle.hy_store.specs.inside.Places.{only_place}
use Rattle.hy_store.proofs.SlotLaws.{has_all_rows, live_rows-all, slots-all_rows}

-- a segment determines how many bytes the rows of its table have
one_width : (segment one other : ℕ) → IsTable segment one → IsTable segment other → one ≡ other
one_width segment one other is_one is_other = some_same (sym is_one ∙ is_other)
  where
    some_same : {a b : ℕ} → Some a ≡ Some b → a ≡ b
    some_same same = cc

-- the segments of the indexes have the same pages
abbrev KeepsIndexes : List (List (List ℕ)) → List (List (List ℕ)) → Type 0
KeepsIndexes old new = (k : ℕ) → segments ≤ k → list_at new k ≡ list_at old k

module _ (n : ℕ) (old new : List (List (List ℕ))) (kept : KeepsIndexes old new) where
  indexes-kept : HasIndexSegments n old → HasIndexSegments n new
  indexes-kept indexes = record {
    orders = subst (λ (pages : List (List ℕ)). IsIndex n 5 order_key_bytes order_key_of IsOrderKey pages) (sym (kept order_index (lit≤ tt))) indexes.orders;
    last_orders = subst (λ (pages : List (List ℕ)). IsIndex n 3 customer_key_bytes customer_key_of IsCustomerKey pages) (sym (kept last_order_index (lit≤ tt))) indexes.last_orders;
    waiting = subst (λ (pages : List (List ℕ)). IsIndex n 5 waiting_key_bytes waiting_key_of IsWaitingKey pages) (sym (kept waiting_index (lit≤ tt))) indexes.waiting;
    lines = subst (λ (pages : List (List ℕ)). IsIndex n 6 line_key_bytes line_key_of IsLineKey pages) (sym (kept line_index (lit≤ tt))) indexes.lines;
  }

  -- what four segments say as indexes, beside rows
  abbrev says : Tables → List (Option NewOrder) → List (List ℕ) → List (List ℕ) → List (List ℕ) → List (List ℕ) → Stored
  says tables slots orders last_orders waiting lines = record {
    tables = tables;
    new_order_slots = slots;
    orders = entries n 5 order_key_of orders;
    last_orders = entries n 3 customer_key_of last_orders;
    waiting = entries n 5 waiting_key_of waiting;
    lines = entries n 6 line_key_of lines;
  }

  -- only the rows changed
  stored-kept : (tables : Tables) (slots : List (Option NewOrder)) → tables_of n new ≡ tables
      → slots_of n 6 new_order_of (list_at new new_order_segment) ≡ slots
      → stored n new ≡ record (stored n old) { tables = tables; new_order_slots = slots }
  stored-kept tables slots tables_are slots_are =
      let at : ℕ → List (List ℕ) = list_at new in
      let before : ℕ → List (List ℕ) = list_at old in
      let last : List (Option NewOrder) = slots_of n 6 new_order_of (at new_order_segment) in
      ap (λ t. says t last (at order_index) (at last_order_index) (at waiting_index) (at line_index)) tables_are
      ∙ ap (λ s. says tables s (at order_index) (at last_order_index) (at waiting_index) (at line_index)) slots_are
      ∙ ap (λ pages. says tables slots pages (at last_order_index) (at waiting_index) (at line_index)) (kept order_index (lit≤ tt))
      ∙ ap (λ pages. says tables slots (before order_index) pages (at waiting_index) (at line_index)) (kept last_order_index (lit≤ tt))
      ∙ ap (λ pages. says tables slots (before order_index) (before last_order_index) pages (at line_index)) (kept waiting_index (lit≤ tt))
      ∙ ap (λ pages. says tables slots (before order_index) (before last_order_index) (before waiting_index) pages) (kept line_index (lit≤ tt))

-- the segment of a table changed
module _ (n segment width : ℕ) (table : IsTable segment width) (old new : List (List (List ℕ))) (store : HasStore n old) (changes : ChangesSegment old new segment) (slots : HasSlots n width (list_at new segment)) where
  indexes-beside : KeepsIndexes old new
  indexes-beside k past = changes.others k (let below : segment < segments = segment_there segment width table in omega (arith, below, past))

  tables-kept : HasTables n new
  tables-kept = has_tables-changed n segment width old new table store.tables changes slots

  -- it is a store still
  pub store-changed : (segment ≢ new_order_segment → HasAllRows n width (list_at new segment)) → HasStore n new
  unfolding AreIndexes
  store-changed all = record {
    all = omega (arith, store.all, changes.segments);
    tables = tables-kept;
    keeps = λ s w is_table lasts. elim (cases_eq s segment) [
      | inl same ↦
          let widths : width ≡ w = one_width segment width w table (subst (λ (x : ℕ). IsTable x w) same is_table) in
          let here : HasAllRows n width (list_at new segment) = all (subst (λ (x : ℕ). x ≢ new_order_segment) same lasts) in
          subst (λ (x : ℕ). HasAllRows n w (list_at new x)) (sym same) (subst (λ (x : ℕ). HasAllRows n x (list_at new segment)) widths here)
      | inr differs ↦ subst (λ (pages : List (List ℕ)). HasAllRows n w pages) (sym (changes.others s differs)) (store.keeps s w is_table lasts)
    ];
    indexes = indexes-kept n old new indexes-beside store.indexes;
  }

-- a table that never loses a row
module _ {Row : Type 0} (n segment width : ℕ) (row_of : List ℕ → Row) (rows_in : Tables → List Row) (with_rows : Tables → List Row → Tables)
    (table : IsTable segment width) (lasts : segment ≢ new_order_segment)
    (spelled : (n : ℕ) (bytes : List (List (List ℕ))) → rows_in (tables_of n bytes) ≡ rows_of n width row_of (list_at bytes segment))
    (respelled : (n : ℕ) (bytes : List (List (List ℕ))) (pages : List (List ℕ)) → segments ≤ length bytes → tables_of n (set bytes segment pages) ≡ with_rows (tables_of n bytes) (rows_of n width row_of pages)) where
  -- its slots
  pub slots-lasting : (bytes : List (List (List ℕ))) → HasStore n bytes → slots_of n width row_of (list_at bytes segment) ≡ map Some (rows_in (tables_of n bytes))
  slots-lasting bytes store =
      slots-all_rows n width row_of (list_at bytes segment) (store.keeps segment width table lasts)
      ∙ ap (map Some) (sym (spelled n bytes))

  -- it has other rows
  module _ (old new : List (List (List ℕ))) (store : HasStore n old) (changes : ChangesSegment old new segment) (slots : HasSlots n width (list_at new segment))
      (rows : List Row) (all : slots_of n width row_of (list_at new segment) ≡ map Some rows) where
    pub store-lasting : HasStore n new
    store-lasting = store-changed n segment width table old new store changes slots (λ kept. has_all_rows n width row_of (list_at new segment) rows all)

    pub stored-lasting : stored n new ≡ record (stored n old) { tables = with_rows (tables_of n old) rows }
    stored-lasting =
        stored-kept n old new (indexes-beside n segment width table old new store changes slots)
        (with_rows (tables_of n old) rows) (slots_of n 6 new_order_of (list_at old new_order_segment))
        (tables_respelled n segment width row_of with_rows respelled old new store.tables.all_segments store-lasting.tables.all_segments (segment_there segment width table) changes
        ∙ ap (with_rows (tables_of n old)) (ap live_rows all ∙ live_rows-all rows))
        (ap (λ (pages : List (List ℕ)). slots_of n 6 new_order_of pages) (changes.others new_order_segment (λ same. lasts (sym same))))

-- NEW-ORDER has other slots
module _ (n : ℕ) (old new : List (List (List ℕ))) (store : HasStore n old) (changes : ChangesSegment old new new_order_segment) (slots : HasSlots n 6 (list_at new new_order_segment)) where
  pub store-new_orders : HasStore n new
  store-new_orders = store-changed n new_order_segment 6 refl old new store changes slots (λ kept. absurd (kept refl))

  pub stored-new_orders : (now : List (Option NewOrder)) → slots_of n 6 new_order_of (list_at new new_order_segment) ≡ now
      → stored n new ≡ record (stored n old) { tables = record (tables_of n old) { new_orders = live_rows now }; new_order_slots = now }
  stored-new_orders now are =
      stored-kept n old new (indexes-beside n new_order_segment 6 refl old new store changes slots) _ now
      (tables_respelled n new_order_segment 6 new_order_of (λ tables rows. record tables { new_orders = rows })
      (λ n bytes pages whole. by_places (λ all. tables_of n (set all 4 pages) ≡ record (tables_of n all) { new_orders = rows_of n 6 new_order_of pages }) bytes whole refl)
      old new store.tables.all_segments store-new_orders.tables.all_segments (lit≤ tt) changes
      ∙ ap (λ last. record (tables_of n old) { new_orders = live_rows last }) are)
      are

-- an index was written into
module _ {Key : Type 0} (n segment width : ℕ) (bytes_of_key : Key → List ℕ) (key_of_bytes : List ℕ → Key) (IsKey : Key → Type 0) (with_entries : Stored → List (Entry Key) → Stored)
    (behind : segments ≤ segment) (within : segment < all_segments)
    (indexed_again : (n : ℕ) (bytes : List (List (List ℕ))) (pages : List (List ℕ)) → all_segments ≤ length bytes → HasIndexSegments n bytes → IsIndex n width bytes_of_key key_of_bytes IsKey pages → HasIndexSegments n (set bytes segment pages))
    (said_again : (n : ℕ) (bytes : List (List (List ℕ))) (pages : List (List ℕ)) → all_segments ≤ length bytes → stored n (set bytes segment pages) ≡ with_entries (stored n bytes) (entries n width key_of_bytes pages))
    (old new : SpaceState) (before after : UndoLog) (place : ℕ) (at : place ≡ segment) (store : HasStore n (owner_bytes old)) (writes : WritesSegment n place old new before after) where
  lengths : length (owner_bytes new) ≡ length (owner_bytes old)
  lengths = length-map new.owner (map (page_of new.frames)) ∙ writes.segments ∙ sym (length-map old.owner (map (page_of old.frames)))

  others : (other : ℕ) → other ≢ segment → list_at (owner_bytes new) other ≡ list_at (owner_bytes old) other
  others = subst (λ (s : ℕ). (other : ℕ) → other ≢ s → pages_of new other ≡ pages_of old other) at writes.others

  same : owner_bytes new ≡ set (owner_bytes old) segment (list_at (owner_bytes new) segment)
  same = only_place (owner_bytes old) (owner_bytes new) segment (omega (arith, within, store.all)) lengths others

  beside : (s w : ℕ) → IsTable s w → list_at (owner_bytes new) s ≡ list_at (owner_bytes old) s
  beside s w table = others s (let below : s < segments = segment_there s w table in omega (arith, below, behind))

  pub store-indexed : IsIndex n width bytes_of_key key_of_bytes IsKey (pages_of new place) → HasStore n (owner_bytes new)
  unfolding AreIndexes
  store-indexed is_index = record {
    all = omega (arith, store.all, lengths);
    tables = record {
      all_segments = omega (arith, store.tables.all_segments, lengths);
      slots = λ s w table. subst (λ (pages : List (List ℕ)). HasSlots n w pages) (sym (beside s w table)) (store.tables.slots s w table);
    };
    keeps = λ s w table lasts. subst (λ (pages : List (List ℕ)). HasAllRows n w pages) (sym (beside s w table)) (store.keeps s w table lasts);
    indexes = subst (λ (bytes : List (List (List ℕ))). HasIndexSegments n bytes) (sym same)
        (indexed_again n (owner_bytes old) (list_at (owner_bytes new) segment) store.all store.indexes
        (subst (λ (s : ℕ). IsIndex n width bytes_of_key key_of_bytes IsKey (pages_of new s)) at is_index));
  }

  pub stored-indexed : (now : List (Entry Key)) → entries n width key_of_bytes (pages_of new place) ≡ now → stored_in n new ≡ with_entries (stored_in n old) now
  stored-indexed now are =
      ap (λ (bytes : List (List (List ℕ))). stored n bytes) same
      ∙ said_again n (owner_bytes old) (list_at (owner_bytes new) segment) store.all
      ∙ ap (with_entries (stored_in n old)) (subst (λ (s : ℕ). entries n width key_of_bytes (pages_of new s) ≡ now) at are)
