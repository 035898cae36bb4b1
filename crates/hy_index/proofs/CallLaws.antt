-- What a call on the tree of an index leaves, in the words of the index.
use Rattle.std.proofs.Common.{◌≡◌, ℕ, ◌+◌, ◌<◌, ◌≤◌, Bool, Option, None, Some, List, length, map, refl, sym, ap, ◌∙◌, subst, arith}
use Rattle.std.specs.Prelude.{IsSome, find}
use Rattle.std.specs.Option.{option_map}
use Rattle.std.specs.List.{AllByRecursion}
use Rattle.std.proofs.lemmas.List.{length-map}
use Rattle.hy_space.specs.Space.{SpaceState, page_count}
use Rattle.hy_trees.specs.Nodes.{Item, capacity}
use Rattle.hy_trees.specs.Trees.{height_of, is_less_bytes}
use Rattle.hy_trees.specs.Searches.{between, first_from, is_at, with_item, without}
use Rattle.hy_joins.specs.of_nodes.declared.pages.Tree.{Tree}
use Rattle.hy_joins.specs.of_nodes.Nodes.{node_of}
use Rattle.hy_joins.specs.of_nodes.Pages.{nodes_in}
use Rattle.hy_joins.specs.of_nodes.Ways.{HasFewFree, HasTree, KeepsPages, entries_in}
use Rattle.hy_joins.specs.of_nodes.Writes.{pages_of}
use Rattle.hy_joins.proofs.of_nodes.SpaceLaws.{length-pages_of}
use Rattle.hy_index.specs.declared.key.Entry.{Entry}
use Rattle.hy_index.specs.Index.{between as entries_between, first_from as first_entry_from, found, with_entry, without as without_entry}
use Rattle.hy_index.specs.Writes.{FillsPages, IsIndex, IsSpelled, KeepsPagesFor, entries, entry_of}
use Rattle.hy_index.specs.Searches.{found_in}
use Rattle.hy_index.proofs.FoundLaws.{found-entries}
use Rattle.hy_index.proofs.MapLaws.{between-entries, first_from-entries, spelled-with, spelled-without, with-entries, without-entries}

-- a fact on two things holds of what is the same
pub carry : {A B : Type 0} (P : A → B → Type 0) {a other : A} {b more : B} → a ≡ other → b ≡ more → P a b → P other more
carry P {a = a} {other = other} {b = b} {more = more} same alike is = subst (P other) alike (subst (λ x. P x b) same is)

none-number : (found : Option Item) → option_map (λ item. item.number) found ≡ None → found ≡ None
none-number None is = refl
none-number (Some item) is = absurd (cc)

some-number : (found : Option Item) → IsSome (option_map (λ item. item.number) found) → IsSome found
some-number None is = is
some-number (Some item) is = refl

module _ {Key : Type 0} (n kw segment : ℕ) (bytes_of_key : Key → List ℕ) (key_of_bytes : List ℕ → Key) (IsKey : Key → Type 0) (is_less : Key → Key → Bool)
    (ordered : (one other : Key) → IsKey one → IsKey other → is_less one other ≡ is_less_bytes (bytes_of_key one) (bytes_of_key other))
    (reads_back : (key : Key) → IsKey key → key_of_bytes (bytes_of_key key) ≡ key)
    (old : SpaceState) (index : IsIndex n kw bytes_of_key key_of_bytes IsKey (pages_of old segment)) (tree : Tree) (is_tree : tree ≡ record { segment = segment; key_bytes = kw }) where
  abbrev here : Tree
  here = record { segment = segment; key_bytes = kw }

  abbrev all : List (Entry Key)
  all = entries n kw key_of_bytes (pages_of old segment)

  entries-are : (space : SpaceState) → entries n kw key_of_bytes (pages_of space segment) ≡ map (entry_of key_of_bytes) (entries_in space here)
  unfolding entries
  entries-are space = refl

  length-all : length all ≡ length (entries_in old here)
  length-all = ap length (entries-are old) ∙ length-map (entries_in old here) (entry_of key_of_bytes)

  -- the numbers of pages
  pub keeps-pages : (new : SpaceState) → KeepsPages n tree old new → KeepsPagesFor n kw (length all) (pages_of old segment) (pages_of new segment)
  keeps-pages new keeps most many pages =
      let keeps_here = subst (λ (t : Tree). KeepsPages n t old new) is_tree keeps in
      let old_size = length-map (pages_of old segment) (node_of kw) in
      let new_size = length-map (pages_of new segment) (node_of kw) in
      let now = keeps_here most (omega (arith, many, length-all)) (omega (arith, pages, old_size)) in
      omega (arith, now, new_size)

  pub same-pages : (new : SpaceState) → segment < length old.owner → length new.owner ≡ length old.owner → page_count new tree.segment ≡ page_count old tree.segment → length (pages_of new segment) ≤ length (pages_of old segment)
  same-pages new there owners same =
      let same_here = subst (λ (t : Tree). page_count new t.segment ≡ page_count old t.segment) is_tree same in
      omega (arith, same_here, length-pages_of old segment there, length-pages_of new segment (omega (arith, there, owners)))

  pub fills : capacity n tree.key_bytes ≤ length (entries_in old tree) → HasFewFree tree old (height_of (nodes_in old tree) + 3) → FillsPages n kw (length all) (pages_of old segment)
  fills many few =
      let many_here = subst (λ (t : Tree). capacity n t.key_bytes ≤ length (entries_in old t)) is_tree many in
      let few_here = subst (λ (t : Tree). HasFewFree t old (height_of (nodes_in old t) + 3)) is_tree few in
      record { entries = omega (arith, many_here, length-all); few = few_here }

  pub between-index : (low high : Key) → IsKey low → IsKey high → (low_bytes high_bytes : List ℕ) → low_bytes ≡ bytes_of_key low → high_bytes ≡ bytes_of_key high
      → map (entry_of key_of_bytes) (between low_bytes high_bytes (entries_in old tree)) ≡ entries_between is_less low high all
  between-index low high is_low is_high low_bytes high_bytes low_is high_is =
      ap (λ (t : Tree). map (entry_of key_of_bytes) (between low_bytes high_bytes (entries_in old t))) is_tree
      ∙ ap (λ (b : List ℕ). map (entry_of key_of_bytes) (between b high_bytes (entries_in old here))) low_is
      ∙ ap (λ (b : List ℕ). map (entry_of key_of_bytes) (between (bytes_of_key low) b (entries_in old here))) high_is
      ∙ between-entries bytes_of_key key_of_bytes IsKey is_less ordered reads_back low high is_low is_high (entries_in old here) index.keys
      ∙ ap (entries_between is_less low high) (sym (entries-are old))

  module _ (key : Key) (is_key : IsKey key) (bytes : List ℕ) (is_bytes : bytes ≡ bytes_of_key key) where
    found-is : option_map (λ item. item.number) (find (is_at bytes) (entries_in old tree)) ≡ found is_less key all
    found-is =
        ap (λ (t : Tree). found_in bytes (entries_in old t)) is_tree
        ∙ ap (λ (b : List ℕ). found_in b (entries_in old here)) is_bytes
        ∙ found-entries bytes_of_key key_of_bytes IsKey is_less ordered key is_key (entries_in old here) index.keys
        ∙ ap (found is_less key) (sym (entries-are old))

    pub none-below : found is_less key all ≡ None → find (is_at bytes) (entries_in old tree) ≡ None
    none-below none = none-number (find (is_at bytes) (entries_in old tree)) (found-is ∙ none)

    pub none-above : find (is_at bytes) (entries_in old tree) ≡ None → found is_less key all ≡ None
    none-above none = sym found-is ∙ ap (option_map (λ item. item.number)) none

    pub some-below : IsSome (found is_less key all) → IsSome (find (is_at bytes) (entries_in old tree))
    some-below is = some-number (find (is_at bytes) (entries_in old tree)) (subst IsSome (sym found-is) is)

    pub first-index : option_map (entry_of key_of_bytes) (first_from bytes (entries_in old tree)) ≡ first_entry_from is_less key all
    first-index =
        ap (λ (t : Tree). option_map (entry_of key_of_bytes) (first_from bytes (entries_in old t))) is_tree
        ∙ ap (λ (b : List ℕ). option_map (entry_of key_of_bytes) (first_from b (entries_in old here))) is_bytes
        ∙ first_from-entries bytes_of_key key_of_bytes IsKey is_less ordered reads_back key is_key (entries_in old here) index.keys
        ∙ ap (first_entry_from is_less key) (sym (entries-are old))

    pub put-index : (slot : ℕ) (new : SpaceState) → HasTree n new tree × (entries_in new tree ≡ with_item bytes slot (entries_in old tree))
        → IsIndex n kw bytes_of_key key_of_bytes IsKey (pages_of new segment) × (entries n kw key_of_bytes (pages_of new segment) ≡ with_entry is_less key slot all)
    put-index slot new done =
        let now = carry (λ (t : Tree) (b : List ℕ). HasTree n new t × (entries_in new t ≡ with_item b slot (entries_in old t))) is_tree is_bytes done in (
          record {
            tree = now.0;
            keys = subst (AllByRecursion (λ (item : Item). IsSpelled bytes_of_key key_of_bytes IsKey item.key)) (sym now.1) (spelled-with bytes_of_key key_of_bytes IsKey is_less ordered reads_back key is_key slot (entries_in old here) index.keys);
          },
          entries-are new ∙ ap (map (entry_of key_of_bytes)) now.1
              ∙ with-entries bytes_of_key key_of_bytes IsKey is_less ordered reads_back key is_key slot (entries_in old here) index.keys
              ∙ ap (with_entry is_less key slot) (sym (entries-are old)),
        )

    pub taken-index : (new : SpaceState) → HasTree n new tree × (entries_in new tree ≡ without bytes (entries_in old tree))
        → IsIndex n kw bytes_of_key key_of_bytes IsKey (pages_of new segment) × (entries n kw key_of_bytes (pages_of new segment) ≡ without_entry is_less key all)
    taken-index new done =
        let now = carry (λ (t : Tree) (b : List ℕ). HasTree n new t × (entries_in new t ≡ without b (entries_in old t))) is_tree is_bytes done in (
          record {
            tree = now.0;
            keys = subst (AllByRecursion (λ (item : Item). IsSpelled bytes_of_key key_of_bytes IsKey item.key)) (sym now.1) (spelled-without bytes_of_key key_of_bytes IsKey is_less ordered reads_back key is_key (entries_in old here) index.keys);
          },
          entries-are new ∙ ap (map (entry_of key_of_bytes)) now.1
              ∙ without-entries bytes_of_key key_of_bytes IsKey is_less ordered reads_back key is_key (entries_in old here) index.keys
              ∙ ap (without_entry is_less key) (sym (entries-are old)),
        )
