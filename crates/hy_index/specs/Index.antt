-- A finite map from keys to slots, as the list of its entries in the order of the keys.
use Rattle.std.specs.Prelude.{◌≡◌, ℕ, Bool, true, not, ◌&&◌, List, ◌∷◌, ◌++◌, filter, find, Option}
use Rattle.std.specs.List.{AllPairs}
use Rattle.std.specs.Option.{option_map}
use Rattle.hy_index.specs.declared.key.Entry.{Entry}

module _ {Key : Type 0} (is_less : Key → Key → Bool) where
  -- each key is less than all later ones, so that none is there twice
  abbrev pub IsInOrder : List (Entry Key) → Type 0
  IsInOrder entries = AllPairs (λ one other. is_less one.key other.key ≡ true) entries

  abbrev pub is_below : Key → Entry Key → Bool
  is_below key entry = is_less entry.key key

  abbrev pub is_above : Key → Entry Key → Bool
  is_above key entry = is_less key entry.key

  abbrev pub is_from : Key → Entry Key → Bool
  is_from key entry = not (is_below key entry)

  -- neither below nor above
  abbrev pub is_at : Key → Entry Key → Bool
  is_at key entry = is_from key entry && not (is_above key entry)

  abbrev pub is_between : Key → Key → Entry Key → Bool
  is_between low high entry = is_from low entry && is_below high entry

  -- the slot of a key, if the key is there
  abbrev pub found : Key → List (Entry Key) → Option ℕ
  found key entries = option_map (λ entry. entry.slot) (find (is_at key) entries)

  -- the first entry that isn't below the key
  abbrev pub first_from : Key → List (Entry Key) → Option (Entry Key)
  first_from key entries = find (is_from key) entries

  -- the entries from one key on that are below another
  abbrev pub between : Key → Key → List (Entry Key) → List (Entry Key)
  between low high entries = filter (is_between low high) entries

  -- a slot for a key, in the place of the one that the key had
  abbrev pub with_entry : Key → ℕ → List (Entry Key) → List (Entry Key)
  with_entry key slot entries =
      filter (is_below key) entries ++ (record { key = key; slot = slot }) ∷ filter (is_above key) entries

  -- no slot for a key
  abbrev pub without : Key → List (Entry Key) → List (Entry Key)
  without key entries = filter (is_below key) entries ++ filter (is_above key) entries
