-- What a search for a key in one page answers.
use Rattle.std.specs.Prelude.{◌≡◌, ℕ, ◌<◌, ◌≤◌, Bool, true, false, List, length}
use Rattle.hy_trees.specs.Trees.{is_less_bytes}
use Rattle.hy_nodes.specs.Nodes.{item_count, item_offset, key_at}

-- the first p of so many places pass a test, and the others don't
pub record IsBound (test : ℕ → Bool) (count p : ℕ) : Type 0 where
  pub within : p ≤ count
  pub before : (k : ℕ) → k < p → test k ≡ true
  pub behind : (k : ℕ) → p ≤ k → k < count → test k ≡ false

-- the items of a page fit in it
abbrev pub HasItems : ℕ → List ℕ → Type 0
HasItems key_width page = item_offset key_width (item_count page) ≤ length page

-- the keys of so many items rise
abbrev pub AreRising : ℕ → List ℕ → ℕ → Type 0
AreRising key_width page count =
    (i j : ℕ) → i < j → j < count → is_less_bytes (key_at key_width page i) (key_at key_width page j) ≡ true

-- whether the key of an item stands before another
abbrev pub is_below_at : ℕ → List ℕ → List ℕ → ℕ → Bool
is_below_at key_width page key place = is_less_bytes (key_at key_width page place) key

-- how many items have a key below one, and whether the next one has that key
pub record IsSought (key_width : ℕ) (page key : List ℕ) (place : ℕ) (is_there : Bool) : Type 0 where
  pub bound : IsBound (is_below_at key_width page key) (item_count page) place
  pub there : is_there ≡ true
      → (place < item_count page) × (is_less_bytes key (key_at key_width page place) ≡ false)
  pub absent : is_there ≡ false → place < item_count page → is_less_bytes key (key_at key_width page place) ≡ true

-- a page has the child under which a key stands, if it is there: no item behind it has a key that isn't above this one,
-- and its own isn't above it, unless it is the first one
pub record IsChildPlace (key_width : ℕ) (page key : List ℕ) (place : ℕ) : Type 0 where
  pub within : place < item_count page
  pub from : 0 < place → is_less_bytes key (key_at key_width page place) ≡ false
  pub behind : (k : ℕ) → place < k → k < item_count page → is_less_bytes key (key_at key_width page k) ≡ true
