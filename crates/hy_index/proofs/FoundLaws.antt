-- What a search finds, and how far down it goes.
use Rattle.std.proofs.Common.{◌≡◌, ℕ, ◌<◌, ◌≤◌, Bool, true, false, not, ◌&&◌, cond, None, Some, Option, List, [], ◌∷◌, ◌++◌, map, refl, sym, ap, ap₂, ◌∙◌, arith, inl, inr}
use Rattle.std.specs.Prelude.{find}
use Rattle.std.specs.Option.{option_map, option_or}
use Rattle.std.specs.List.{AllByRecursion}
use Rattle.std.proofs.lemmas.Bool.{cases_eq, cases_lt, false≢true}
use Rattle.std.proofs.lemmas.List.Folds.{find-append}
use Rattle.hy_index.specs.declared.key.Entry.{Entry}
use Rattle.hy_index.specs.Index.{found, is_at as is_entry_at}
use Rattle.hy_trees.specs.Trees.{entries_under, is_less_bytes}
use Rattle.hy_index.specs.Writes.{IsSpelled, entry_of}
use Rattle.hy_trees.specs.Nodes.{Item, Node, node_at}
use Rattle.hy_joins.specs.of_nodes.Nodes.{item_at, item_count, items_of, key_at, number_at}
use Rattle.hy_joins.specs.of_nodes.Places.{AreRising, IsSought}
use Rattle.hy_trees.specs.Leaves.{AreAbove, AreBelow, Leads}
use Rattle.hy_trees.specs.Searches.{is_at}
use Rattle.hy_index.specs.Searches.{found_in}
use Rattle.hy_joins.proofs.of_nodes.PlaceLaws.{above-behind}
use Rattle.hy_joins.proofs.of_nodes.SequenceLaws.{find-first, find-none}

-- the key isn't among items before or behind it
none-before : (key : List ℕ) (items : List Item) → AreBelow key items → find (is_at key) items ≡ None
none-before key [] before = refl
none-before key (item ∷ items) before =
    ap (λ (b : Bool). cond (not b && not (is_less_bytes key item.key)) (Some item) (find (is_at key) items)) before.0
    ∙ none-before key items before.1

none-behind : (key : List ℕ) (items : List Item) → AreAbove key items → find (is_at key) items ≡ None
none-behind key [] behind = refl
none-behind key (item ∷ items) behind =
    ap (λ (b : Bool). cond (not (is_less_bytes item.key key) && not b) (Some item) (find (is_at key) items)) behind.0
    ∙ ap (λ (b : Bool). cond b (Some item) (find (is_at key) items)) (never (not (is_less_bytes item.key key)))
    ∙ none-behind key items behind.1
  where
    never : (b : Bool) → (b && false) ≡ false
    never true = refl
    never false = refl

-- the items of a page, by a search
found_in-page : (kw : ℕ) (page key : List ℕ) (place : ℕ) → IsSought kw page key place true → find (is_at key) (items_of kw page) ≡ Some (item_at kw page place)
found_in-page kw page key place sought =
    let there = sought.there refl in
    find-first (is_at key) (item_at kw page) (item_count page) place there.0
    (λ k before. ap (λ (b : Bool). not b && not (is_less_bytes key (key_at kw page k))) (sought.bound.before k before))
    (ap₂ (λ (b : Bool) (c : Bool). not b && not c) (sought.bound.behind place (omega arith) there.0) there.1)

absent_in-page : (kw : ℕ) (page key : List ℕ) (place : ℕ) → ((k : ℕ) → place ≤ k → k < item_count page → is_less_bytes key (key_at kw page k) ≡ true) → IsSought kw page key place false → find (is_at key) (items_of kw page) ≡ None
absent_in-page kw page key place behind sought =
    find-none (is_at key) (item_at kw page) (item_count page) (λ k within. elim (cases_lt k place) [
      | inl before ↦ ap (λ (b : Bool). not b && not (is_less_bytes key (key_at kw page k))) (sought.bound.before k before)
      | inr from ↦ ap (λ (b : Bool). not (is_less_bytes (key_at kw page k) key) && not b) (behind k from within) ∙ never (not (is_less_bytes (key_at kw page k) key))
    ])
  where
    never : (b : Bool) → (b && false) ≡ false
    never true = refl
    never false = refl

-- where a key isn't there, all items from its place on stand behind it
pub behind-absent : (kw : ℕ) (page key : List ℕ) (place : ℕ) → AreRising kw page (item_count page) → IsSought kw page key place false → (k : ℕ) → place ≤ k → k < item_count page → is_less_bytes key (key_at kw page k) ≡ true
behind-absent kw page key place rising sought k from within = elim (cases_eq k place) [
  | inl same ↦ ap (λ (at : ℕ). is_less_bytes key (key_at kw page at)) same ∙ sought.absent refl (omega (arith, same, within))
  | inr differs ↦ above-behind kw page key (item_count page) rising place k (omega (arith, from, differs)) within (sought.bound.behind place (omega arith) (omega (arith, from, within)))
]

-- what is found in the leaf is found in the whole tree
pub find-leads : (nodes : List Node) (fewest most height root_fewest : ℕ) (least key : List ℕ) (page : ℕ) (leads : Leads nodes fewest most height root_fewest least key 0 page) → find (is_at key) (entries_under nodes height 0) ≡ find (is_at key) (node_at nodes page).items
find-leads nodes fewest most height root_fewest least key page leads =
    let here = (node_at nodes page).items in
    ap (find (is_at key)) (leads.entries nodes (λ q there. refl))
    ∙ find-append (is_at key) leads.before (here ++ leads.behind)
    ∙ ap (λ (one : Option Item). option_or one (find (is_at key) (here ++ leads.behind))) (none-before key leads.before leads.are_before)
    ∙ find-append (is_at key) here leads.behind
    ∙ ap (λ (one : Option Item). option_or (find (is_at key) here) one) (none-behind key leads.behind leads.are_behind)
    ∙ or-none (find (is_at key) here)
  where
    or-none : (one : Option Item) → option_or one None ≡ one
    or-none None = refl
    or-none (Some x) = refl

-- a key that a search finds in its leaf, or doesn't, is found in the tree, or isn't
pub find-there : (nodes : List Node) (fewest most height root_fewest : ℕ) (least key : List ℕ) (page : ℕ) (leads : Leads nodes fewest most height root_fewest least key 0 page) (kw : ℕ) (whole : List ℕ) (place : ℕ) → (node_at nodes page).items ≡ items_of kw whole → IsSought kw whole key place true
    → find (is_at key) (entries_under nodes height 0) ≡ Some (item_at kw whole place)
find-there nodes fewest most height root_fewest least key page leads kw whole place is sought =
    find-leads nodes fewest most height root_fewest least key page leads ∙ ap (find (is_at key)) is ∙ found_in-page kw whole key place sought

pub find-absent : (nodes : List Node) (fewest most height root_fewest : ℕ) (least key : List ℕ) (page : ℕ) (leads : Leads nodes fewest most height root_fewest least key 0 page) (kw : ℕ) (whole : List ℕ) (place : ℕ) → (node_at nodes page).items ≡ items_of kw whole
    → ((k : ℕ) → place ≤ k → k < item_count whole → is_less_bytes key (key_at kw whole k) ≡ true) → IsSought kw whole key place false → find (is_at key) (entries_under nodes height 0) ≡ None
find-absent nodes fewest most height root_fewest least key page leads kw whole place is behind sought =
    find-leads nodes fewest most height root_fewest least key page leads ∙ ap (find (is_at key)) is ∙ absent_in-page kw whole key place behind sought

pub found-there : (nodes : List Node) (fewest most height root_fewest : ℕ) (least key : List ℕ) (page : ℕ) (leads : Leads nodes fewest most height root_fewest least key 0 page) (kw : ℕ) (whole : List ℕ) (place : ℕ) → (node_at nodes page).items ≡ items_of kw whole → IsSought kw whole key place true
    → Some (number_at kw whole place) ≡ found_in key (entries_under nodes height 0)
found-there nodes fewest most height root_fewest least key page leads kw whole place is sought =
    sym (ap (option_map (λ (item : Item). item.number)) (find-leads nodes fewest most height root_fewest least key page leads ∙ ap (find (is_at key)) is ∙ found_in-page kw whole key place sought))

pub found-absent : (nodes : List Node) (fewest most height root_fewest : ℕ) (least key : List ℕ) (page : ℕ) (leads : Leads nodes fewest most height root_fewest least key 0 page) (kw : ℕ) (whole : List ℕ) (place : ℕ) → (node_at nodes page).items ≡ items_of kw whole
    → ((k : ℕ) → place ≤ k → k < item_count whole → is_less_bytes key (key_at kw whole k) ≡ true) → IsSought kw whole key place false → None ≡ found_in key (entries_under nodes height 0)
found-absent nodes fewest most height root_fewest least key page leads kw whole place is behind sought =
    sym (ap (option_map (λ (item : Item). item.number)) (find-leads nodes fewest most height root_fewest least key page leads ∙ ap (find (is_at key)) is ∙ absent_in-page kw whole key place behind sought))

-- what is found among items is found among the entries that they say
module _ {Key : Type 0} (bytes_of_key : Key → List ℕ) (key_of_bytes : List ℕ → Key) (IsKey : Key → Type 0) (is_less : Key → Key → Bool)
    (ordered : (one other : Key) → IsKey one → IsKey other → is_less one other ≡ is_less_bytes (bytes_of_key one) (bytes_of_key other)) (key : Key) (is_key : IsKey key) where
  at-is : (item : Item) → IsSpelled bytes_of_key key_of_bytes IsKey item.key → is_entry_at is_less key (entry_of key_of_bytes item) ≡ is_at (bytes_of_key key) item
  at-is item spelled =
      ap₂ (λ (b : Bool) (c : Bool). not b && not c)
      (ordered (key_of_bytes item.key) key spelled.is_key is_key ∙ ap (λ bytes. is_less_bytes bytes (bytes_of_key key)) spelled.same)
      (ordered key (key_of_bytes item.key) is_key spelled.is_key ∙ ap (is_less_bytes (bytes_of_key key)) spelled.same)

  pub found-entries : (items : List Item) → AllByRecursion (λ item. IsSpelled bytes_of_key key_of_bytes IsKey item.key) items → found_in (bytes_of_key key) items ≡ found is_less key (map (entry_of key_of_bytes) items)
  found-entries [] all = refl
  found-entries (item ∷ items) all =
      step (is_at (bytes_of_key key) item) (is_entry_at is_less key (entry_of key_of_bytes item)) (sym (at-is item all.0)) (find (is_at (bytes_of_key key)) items) (find (is_entry_at is_less key) (map (entry_of key_of_bytes) items)) (found-entries items all.1)
    where
      step : (b c : Bool) → b ≡ c → (one : Option Item) (other : Option (Entry Key)) → option_map (λ i. i.number) one ≡ option_map (λ e. e.slot) other
          → option_map (λ i. i.number) (cond b (Some item) one) ≡ option_map (λ e. e.slot) (cond c (Some (entry_of key_of_bytes item)) other)
      step true true same one other rest = refl
      step false false same one other rest = rest
      step true false same one other rest = absurd (false≢true (sym same))
      step false true same one other rest = absurd (false≢true same)
