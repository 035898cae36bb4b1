-- What the snapshots of all warehouses have to scan has their rows.
use Rattle.std.proofs.Common.{◌≡◌, ◌∙◌, ◌<◌, ℕ, zero, suc, ◌+◌, ◌≤◌, List, [], ◌∷◌, ◌++◌, length, map, slice_index_or, take, ap, ap₂, arith, refl, subst, sym}
use Rattle.std.proofs.lemmas.List.{map-append, take_all, take_more}
use Rattle.hy_rows.specs.Spelling.{HasSlots, IsTable, list_at, tables_of}
use Rattle.hy_rows.specs.Tables.{Tables, all_of}
use Rattle.hy_rows.specs.declared.item.Item.{Item}
use Rattle.hy_forks.specs.Snapshots.{IsWhole, SnapshotState}
use Rattle.hy_answers.specs.Scans.{AreTables, ScanState, lists_in_scan}
use Rattle.hy_session.specs.Snapshots.{items_of, lists_of_all}

-- the pages of a warehouse's tables, among those of all its segments
abbrev table_pages : List (List (List ℕ)) → List (List (List ℕ))
table_pages bytes =
    list_at bytes 0 ∷ list_at bytes 1 ∷ list_at bytes 2 ∷ list_at bytes 3 ∷ list_at bytes 4 ∷ list_at bytes 5
    ∷ list_at bytes 6 ∷ list_at bytes 7 ∷ []

module _ (n : ℕ) (bytes : List (List (List ℕ))) (whole : IsWhole n bytes) where
  few-pages : (segment : ℕ) → length (list_at (table_pages bytes) segment) ≤ 10000000
  few-pages zero = whole.few 0
  few-pages (suc zero) = whole.few 1
  few-pages (suc (suc zero)) = whole.few 2
  few-pages (suc (suc (suc zero))) = whole.few 3
  few-pages (suc (suc (suc (suc zero)))) = whole.few 4
  few-pages (suc (suc (suc (suc (suc zero))))) = whole.few 5
  few-pages (suc (suc (suc (suc (suc (suc zero)))))) = whole.few 6
  few-pages (suc (suc (suc (suc (suc (suc (suc zero))))))) = whole.few 7
  few-pages (suc (suc (suc (suc (suc (suc (suc (suc segment)))))))) = omega arith

  has-slots : (segment row_bytes : ℕ) → IsTable segment row_bytes → HasSlots n row_bytes (list_at (table_pages bytes) segment)
  has-slots zero row_bytes is = whole.tables.slots 0 row_bytes is
  has-slots (suc zero) row_bytes is = whole.tables.slots 1 row_bytes is
  has-slots (suc (suc zero)) row_bytes is = whole.tables.slots 2 row_bytes is
  has-slots (suc (suc (suc zero))) row_bytes is = whole.tables.slots 3 row_bytes is
  has-slots (suc (suc (suc (suc zero)))) row_bytes is = whole.tables.slots 4 row_bytes is
  has-slots (suc (suc (suc (suc (suc zero))))) row_bytes is = whole.tables.slots 5 row_bytes is
  has-slots (suc (suc (suc (suc (suc (suc zero)))))) row_bytes is = whole.tables.slots 6 row_bytes is
  has-slots (suc (suc (suc (suc (suc (suc (suc zero))))))) row_bytes is = whole.tables.slots 7 row_bytes is
  has-slots (suc (suc (suc (suc (suc (suc (suc (suc segment)))))))) row_bytes is = absurd (cc)

  are-tables : AreTables n (table_pages bytes)
  are-tables = record {
    size = whole.size;
    few = few-pages;
    tables = record { all_segments = omega arith; slots = has-slots };
  }

-- pages that are these, each read by a call of its own
module _ (n : ℕ) (bytes : List (List (List ℕ))) (first second third fourth fifth sixth seventh eighth : List (List ℕ))
    (one : first ≡ list_at bytes 0) (two : second ≡ list_at bytes 1) (three : third ≡ list_at bytes 2)
    (four : fourth ≡ list_at bytes 3) (five : fifth ≡ list_at bytes 4) (six : sixth ≡ list_at bytes 5)
    (seven : seventh ≡ list_at bytes 6) (eight : eighth ≡ list_at bytes 7) where
  same-pages : first ∷ second ∷ third ∷ fourth ∷ fifth ∷ sixth ∷ seventh ∷ eighth ∷ [] ≡ table_pages bytes
  same-pages = rw (one, two, three, four, five, six, seven, eight) refl

  pub pages-are : IsWhole n bytes → AreTables n (first ∷ second ∷ third ∷ fourth ∷ fifth ∷ sixth ∷ seventh ∷ eighth ∷ [])
  pages-are whole = subst (AreTables n) (sym same-pages) (are-tables n bytes whole)

  pub tables-are : tables_of n (first ∷ second ∷ third ∷ fourth ∷ fifth ∷ sixth ∷ seventh ∷ eighth ∷ []) ≡ tables_of n bytes
  tables-are = ap (tables_of n) same-pages

-- the rows of each snapshot
abbrev pub tables_in : ℕ → List SnapshotState → List Tables
tables_in n snapshots = map (λ snapshot. tables_of n snapshot.bytes) snapshots

-- the pages of a snapshot more
pub tables-more : (n place : ℕ) (all : List SnapshotState) (snapshot : SnapshotState) (old new : List (List (List (List ℕ))))
    → (pages : List (List (List ℕ))) → place < length all → snapshot ≡ slice_index_or all place snapshot
    → new ≡ old ++ pages ∷ [] → tables_of n pages ≡ tables_of n snapshot.bytes
    → map (tables_of n) old ≡ tables_in n (take place all) → map (tables_of n) new ≡ tables_in n (take (place + 1) all)
tables-more n place all snapshot old new pages within here is_new same before =
    ap (map (tables_of n)) is_new ∙ map-append (tables_of n) old (pages ∷ [])
    ∙ ap₂ (λ (front : List Tables) (last : Tables). front ++ last ∷ []) before (same ∙ ap (λ (s : SnapshotState). tables_of n s.bytes) here)
    ∙ sym (map-append (λ (s : SnapshotState). tables_of n s.bytes) (take place all) (slice_index_or all place snapshot ∷ []))
    ∙ ap (tables_in n) (sym (take_more all place snapshot within))

-- and then they are all
pub lists-are : (n place : ℕ) (all : List SnapshotState) (scan : ScanState) → length all ≤ place
    → map (tables_of n) scan.pages ≡ tables_in n (take place all) → scan.items ≡ items_of all
    → lists_in_scan n scan ≡ lists_of_all n all
lists-are n place all scan past tables items =
    ap₂ (λ (items : List Item) (all : List Tables). record { items = items; tables = all_of all }) items
    (tables ∙ ap (tables_in n) (take_all place all past))
