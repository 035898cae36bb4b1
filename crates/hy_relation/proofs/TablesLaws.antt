-- Where only the segment of one table changes, only its rows do.
use Rattle.std.proofs.Common.{◌≡◌, ◌≢◌, ℕ, zero, suc, ◌<◌, ◌≤◌, List, ◌∷◌, Some, length, set, inl, inr, refl, sym, subst, ap, ◌∙◌, ap₂, arith, lit≤}
use Rattle.std.proofs.lemmas.Bool.{cases_eq}
use Rattle.hy_rows.specs.Spelling.{HasSlots, HasTables, IsTable, list_at, rows_of, tables_of}
use Rattle.hy_rows.specs.Catalogue.{segments}
use Rattle.hy_rows.specs.Tables.{Tables}
use Rattle.hy_rows.specs.inside.Places.{by_places, items}
use Rattle.hy_relation.specs.Relation.{ChangesSegment}

-- a segment determines how many bytes the rows of its table have
one_width : (segment one other : ℕ) → IsTable segment one → IsTable segment other → one ≡ other
one_width segment one other is_one is_other = some_same (sym is_one ∙ is_other)
  where
    some_same : {a b : ℕ} → Some a ≡ Some b → a ≡ b
    some_same same = cc

-- the tables are there still
pub has_tables-changed : (n segment width : ℕ) (old new : List (List (List ℕ))) → IsTable segment width → HasTables n old → ChangesSegment old new segment → HasSlots n width (list_at new segment) → HasTables n new
has_tables-changed n segment width old new table tables changes here = record {
  all_segments = subst (λ (count : ℕ). segments ≤ count) (sym changes.segments) tables.all_segments;
  slots = λ s w is_table. elim (cases_eq s segment) [
    | inl same ↦
        let widths : width ≡ w = one_width segment width w table (subst (λ (x : ℕ). IsTable x w) same is_table) in
        subst (λ (x : ℕ). HasSlots n w (list_at new x)) (sym same) (subst (λ (x : ℕ). HasSlots n x (list_at new segment)) widths here)
    | inr differs ↦ subst (λ (pages : List (List ℕ)). HasSlots n w pages) (sym (changes.others s differs)) (tables.slots s w is_table)
  ];
}

-- sequences that are the same, item by item
same_items : {Item : Type 0} (old new : ℕ → Item) (count : ℕ) → ((place : ℕ) → new place ≡ old place)
    → items new count ≡ items old count
same_items old new zero each = refl
same_items old new (suc count) each =
    ap₂ (λ first rest. first ∷ rest) (each 0)
    (same_items (λ place. old (suc place)) (λ place. new (suc place)) count (λ place. each (suc place)))

-- sequences that differ at no place but one
only_item : {Item : Type 0} (old new : ℕ → Item) (count place : ℕ) → place < count
    → ((other : ℕ) → other ≢ place → new other ≡ old other) → items new count ≡ set (items old count) place (new place)
only_item old new zero place within others = absurd (omega (arith, within))
only_item old new (suc count) zero within others =
    ap (λ rest. new 0 ∷ rest)
    (same_items (λ place. old (suc place)) (λ place. new (suc place)) count (λ other. others (suc other) (omega arith)))
only_item old new (suc count) (suc place) within others =
    ap₂ (λ first rest. first ∷ rest) (others 0 (omega arith))
    (only_item (λ other. old (suc other)) (λ other. new (suc other)) count place (omega (arith, within))
    (λ other differs. others (suc other) (omega arith)))

-- a page table says what its tables' segments say
in_tables : (n : ℕ) (bytes : List (List (List ℕ))) → segments ≤ length bytes
    → tables_of n bytes ≡ tables_of n (items (list_at bytes) segments)
in_tables n bytes whole = by_places (λ all. tables_of n all ≡ tables_of n (items (list_at all) segments)) bytes whole refl

-- the rows of a table in a segment, whose rows may have others
module _ {Row : Type 0} (n segment width : ℕ) (row_of : List ℕ → Row) (with_rows : Tables → List Row → Tables)
    (respelled : (n : ℕ) (bytes : List (List (List ℕ))) (pages : List (List ℕ)) → segments ≤ length bytes → tables_of n (set bytes segment pages) ≡ with_rows (tables_of n bytes) (rows_of n width row_of pages)) where
  pub tables_respelled : (old new : List (List (List ℕ))) → segments ≤ length old → segments ≤ length new → segment < segments → ChangesSegment old new segment
      → tables_of n new ≡ with_rows (tables_of n old) (rows_of n width row_of (list_at new segment))
  tables_respelled old new whole still within changes =
      in_tables n new still
      ∙ ap (tables_of n) (only_item (list_at old) (list_at new) segments segment within changes.others)
      ∙ respelled n (items (list_at old) segments) (list_at new segment) (lit≤ tt)
      ∙ ap (λ tables. with_rows tables (rows_of n width row_of (list_at new segment))) (sym (in_tables n old whole))
