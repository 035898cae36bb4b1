-- The one serial list of commits, and what each warehouse keeps of it.
use Rattle.std.specs.Prelude.{◌≡◌, ℕ, suc, Bool, true, false, nat_le, nat_lt, ◌&&◌, ◌==◌, if◌then◌else◌, List, [], ◌∷◌, map, filter, length, Option, Some, None, All}
use Rattle.std.specs.List.{filter_map, list_all, list_any, range_with_len}
use Rattle.hy_passes.specs.declared.entry.Entry.{Entry}

-- at most so many commits enter the list of one warehouse, and so many warehouses and clients can one kit have
abbrev pub max_commits : ℕ
max_commits = 4294967296

abbrev pub max_partitions : ℕ
max_partitions = 16

abbrev pub max_clients : ℕ
max_clients = 1024

-- whether each commit has at least as many commits before it as its stamp says, where so many stand before the first
abbrev pub respects_after : {C : Type 0} → ℕ → List (Entry C) → Bool
respects_after before [] = true
respects_after before (entry ∷ entries) = nat_le entry.stamp before && respects_after (suc before) entries

-- whether the serial list respects its stamps
abbrev pub respects_stamps : {C : Type 0} → List (Entry C) → Bool
respects_stamps log = respects_after 0 log

-- whether a number is there
abbrev pub is_number : Option ℕ → Bool
is_number (Some number) = true
is_number None = false

-- whether a list of warehouses has at least one, and none but those from 1 to the last
abbrev pub are_warehouses : ℕ → List ℕ → Bool
are_warehouses last named = nat_lt 0 (length named) && list_all (λ w. nat_le 1 w && nat_le w last) named

abbrev pub first_of : List ℕ → Option ℕ
first_of [] = None
first_of (number ∷ numbers) = Some number

module _ {C : Type 0} (warehouses : C → List ℕ) where
  -- whether a commit names the warehouse
  abbrev pub names : ℕ → C → Bool
  names warehouse commit = list_any (λ named. named == warehouse) (warehouses commit)

  -- the home of a commit: the first warehouse that it names
  abbrev pub home_of : C → Option ℕ
  home_of commit = first_of (warehouses commit)

  -- the projection of a list of commits on a warehouse: the commits that name it, in their order
  abbrev pub projection : ℕ → List C → List C
  projection warehouse commits = filter (names warehouse) commits

  -- what a warehouse keeps of the serial list
  abbrev pub kept_of : ℕ → List (Entry C) → List C
  kept_of warehouse log = projection warehouse (map (λ (e : Entry C). e.commit) log)

  -- whether a commit is crossing: it names several warehouses
  abbrev pub is_crossing : C → Bool
  is_crossing commit = nat_lt 1 (length (warehouses commit))

  module _ (number : C → Option ℕ) where
    -- the numbers of the crossing commits, in the order of the list
    abbrev pub numbers_of : List (Entry C) → List ℕ
    numbers_of log = filter_map (λ (e : Entry C). number e.commit) log

    -- the number that a commit gets behind these: the next one if it is crossing, and else none
    abbrev pub number_after : List (Entry C) → C → Option ℕ
    number_after log commit = if is_crossing commit then Some (suc (length (numbers_of log))) else None

    -- the serial list: each commit names warehouses of the kit, the crossing ones have the numbers 1, 2, 3 and so on, and
    -- the stamps are respected
    pub record IsSerial (partitions : ℕ) (log : List (Entry C)) : Type 0 where
      pub named : All (λ (e : Entry C). are_warehouses partitions (warehouses e.commit) ≡ true) log
      pub marked : All (λ (e : Entry C). is_number (number e.commit) ≡ is_crossing e.commit) log
      pub numbered : numbers_of log ≡ range_with_len 1 (length (numbers_of log))
      pub stamped : respects_stamps log ≡ true
