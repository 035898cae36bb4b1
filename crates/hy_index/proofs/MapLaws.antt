-- Entries as the items that spell them: what is found, and what a key more or less leaves.
use Rattle.std.proofs.Common.{◌≡◌, ℕ, Bool, true, false, not, ◌&&◌, cond, Option, Some, List, [], ◌∷◌, ◌++◌, map, filter, refl, sym, ap, ap₂, ◌∙◌, subst}
use Rattle.std.specs.Prelude.{find}
use Rattle.std.specs.Option.{option_map}
use Rattle.std.specs.List.{AllByRecursion}
use Rattle.std.proofs.lemmas.List.{map-append}
use Rattle.hy_trees.specs.Nodes.{Item}
use Rattle.hy_trees.specs.Trees.{is_less_bytes}
use Rattle.hy_trees.specs.Searches.{between, first_from, is_above, is_below, is_between, is_from, with_item, without}
use Rattle.hy_trees.proofs.RiseLaws.{AllByRecursion-append}
use Rattle.hy_index.specs.declared.key.Entry.{Entry}
use Rattle.hy_index.specs.Index.{between as entries_between, first_from as first_entry_from, is_above as is_entry_above, is_below as is_entry_below, is_between as is_entry_between, is_from as is_entry_from, with_entry, without as without_entry}
use Rattle.hy_index.specs.Writes.{IsSpelled, entry_of}

-- tests that agree pass the same
map-filter : {X Y : Type 0} (f : X → Y) (p : X → Bool) (q : Y → Bool) (P : X → Type 0) → ((x : X) → P x → q (f x) ≡ p x) → (xs : List X) → AllByRecursion P xs → map f (filter p xs) ≡ filter q (map f xs)
map-filter f p q P agree [] all = refl
map-filter f p q P agree (x ∷ xs) all =
    step (p x) (q (f x)) (sym (agree x all.0)) (filter p xs) (filter q (map f xs)) (map-filter f p q P agree xs all.1)
  where
    step : (b c : Bool) → b ≡ c → (ys : List _) (zs : List _) → map f ys ≡ zs → map f (cond b (x ∷ ys) ys) ≡ cond c (f x ∷ zs) zs
    step true true same ys zs is = ap (λ rest. f x ∷ rest) is
    step false false same ys zs is = is
    step true false same ys zs is = absurd (cc)
    step false true same ys zs is = absurd (cc)

map-find : {X Y : Type 0} (f : X → Y) (p : X → Bool) (q : Y → Bool) (P : X → Type 0) → ((x : X) → P x → q (f x) ≡ p x) → (xs : List X) → AllByRecursion P xs → option_map f (find p xs) ≡ find q (map f xs)
map-find f p q P agree [] all = refl
map-find f p q P agree (x ∷ xs) all =
    step (p x) (q (f x)) (sym (agree x all.0)) (find p xs) (find q (map f xs)) (map-find f p q P agree xs all.1)
  where
    step : (b c : Bool) → b ≡ c → (one : Option _) (other : Option _) → option_map f one ≡ other → option_map f (cond b (Some x) one) ≡ cond c (Some (f x)) other
    step true true same one other is = refl
    step false false same one other is = is
    step true false same one other is = absurd (cc)
    step false true same one other is = absurd (cc)

-- what holds of all holds of those that pass a test
all-filter : {X : Type 0} (P : X → Type 0) (p : X → Bool) (xs : List X) → AllByRecursion P xs → AllByRecursion P (filter p xs)
all-filter P p [] all = tt
all-filter P p (x ∷ xs) all = step (p x) (filter p xs) (all-filter P p xs all.1)
  where
    step : (b : Bool) (rest : List _) → AllByRecursion P rest → AllByRecursion P (cond b (x ∷ rest) rest)
    step true rest is = (all.0, is)
    step false rest is = is

module _ {Key : Type 0} (bytes_of_key : Key → List ℕ) (key_of_bytes : List ℕ → Key) (IsKey : Key → Type 0) (is_less : Key → Key → Bool)
    (ordered : (one other : Key) → IsKey one → IsKey other → is_less one other ≡ is_less_bytes (bytes_of_key one) (bytes_of_key other))
    (reads_back : (key : Key) → IsKey key → key_of_bytes (bytes_of_key key) ≡ key) where
  abbrev Spelled : Item → Type 0
  Spelled item = IsSpelled bytes_of_key key_of_bytes IsKey item.key

  abbrev pub entry : Item → Entry Key
  entry = entry_of key_of_bytes

  module _ (key : Key) (is_key : IsKey key) where
    below-is : (item : Item) → Spelled item → is_entry_below is_less key (entry item) ≡ is_below (bytes_of_key key) item
    below-is item spelled = ordered (key_of_bytes item.key) key spelled.is_key is_key ∙ ap (λ bytes. is_less_bytes bytes (bytes_of_key key)) spelled.same

    above-is : (item : Item) → Spelled item → is_entry_above is_less key (entry item) ≡ is_above (bytes_of_key key) item
    above-is item spelled = ordered key (key_of_bytes item.key) is_key spelled.is_key ∙ ap (is_less_bytes (bytes_of_key key)) spelled.same

    from-is : (item : Item) → Spelled item → is_entry_from is_less key (entry item) ≡ is_from (bytes_of_key key) item
    from-is item spelled = ap not (below-is item spelled)

    pub first_from-entries : (items : List Item) → AllByRecursion Spelled items → option_map entry (first_from (bytes_of_key key) items) ≡ first_entry_from is_less key (map entry items)
    first_from-entries items all = map-find entry (is_from (bytes_of_key key)) (is_entry_from is_less key) Spelled from-is items all

    pub without-entries : (items : List Item) → AllByRecursion Spelled items → map entry (without (bytes_of_key key) items) ≡ without_entry is_less key (map entry items)
    without-entries items all =
        map-append entry (filter (is_below (bytes_of_key key)) items) (filter (is_above (bytes_of_key key)) items)
        ∙ ap₂ ◌++◌ (map-filter entry (is_below (bytes_of_key key)) (is_entry_below is_less key) Spelled below-is items all) (map-filter entry (is_above (bytes_of_key key)) (is_entry_above is_less key) Spelled above-is items all)

    pub with-entries : (slot : ℕ) (items : List Item) → AllByRecursion Spelled items → map entry (with_item (bytes_of_key key) slot items) ≡ with_entry is_less key slot (map entry items)
    with-entries slot items all =
        map-append entry (filter (is_below (bytes_of_key key)) items) ((record { key = bytes_of_key key; number = slot }) ∷ filter (is_above (bytes_of_key key)) items)
        ∙ ap₂ ◌++◌ (map-filter entry (is_below (bytes_of_key key)) (is_entry_below is_less key) Spelled below-is items all)
        (ap₂ (λ (k : Key) (rest : List (Entry Key)). (record { key = k; slot = slot }) ∷ rest) (reads_back key is_key) (map-filter entry (is_above (bytes_of_key key)) (is_entry_above is_less key) Spelled above-is items all))

    spelled-key : IsSpelled bytes_of_key key_of_bytes IsKey (bytes_of_key key)
    spelled-key = record { is_key = subst IsKey (sym (reads_back key is_key)) is_key; same = ap bytes_of_key (reads_back key is_key) }

    pub spelled-with : (slot : ℕ) (items : List Item) → AllByRecursion Spelled items → AllByRecursion Spelled (with_item (bytes_of_key key) slot items)
    spelled-with slot items all = AllByRecursion-append Spelled (filter (is_below (bytes_of_key key)) items) ((record { key = bytes_of_key key; number = slot }) ∷ filter (is_above (bytes_of_key key)) items)
        (all-filter Spelled (is_below (bytes_of_key key)) items all) (spelled-key, all-filter Spelled (is_above (bytes_of_key key)) items all)

    pub spelled-without : (items : List Item) → AllByRecursion Spelled items → AllByRecursion Spelled (without (bytes_of_key key) items)
    spelled-without items all = AllByRecursion-append Spelled (filter (is_below (bytes_of_key key)) items) (filter (is_above (bytes_of_key key)) items)
        (all-filter Spelled (is_below (bytes_of_key key)) items all) (all-filter Spelled (is_above (bytes_of_key key)) items all)

  pub between-entries : (low high : Key) → IsKey low → IsKey high → (items : List Item) → AllByRecursion Spelled items → map entry (between (bytes_of_key low) (bytes_of_key high) items) ≡ entries_between is_less low high (map entry items)
  between-entries low high is_low is_high items all =
      map-filter entry (is_between (bytes_of_key low) (bytes_of_key high)) (is_entry_between is_less low high) Spelled
      (λ item spelled. ap₂ (λ (b : Bool) (c : Bool). b && c) (from-is low is_low item spelled) (below-is high is_high item spelled)) items all
