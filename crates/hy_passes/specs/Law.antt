-- What the seats know, and the rule that ties it to the word.
use Rattle.std.specs.Prelude.{ℕ, zero, suc, ◌+◌, ◌==◌, ◌≤◌, ◌≡◌, Bool, true, false, not, List, [], ◌∷◌, ◌++◌, filter, length, Option, Some, None}
use Rattle.std.specs.List.{list_any}
use mathlib.Core.List.{IsPrefix}
use mathlib.Core.Option.{some, none}
use lib.ListN.{get_elem?}
use Rattle.atomic_table.specs.Table.{Me}
use Rattle.hy_passes.specs.declared.entry.Entry.{Entry}
use Rattle.hy_passes.specs.declared.view.Knowledge.{Knowledge}
use Rattle.hy_passes.specs.declared.view.View.{View}
use Rattle.hy_passes.specs.SerialList.{kept_of}

-- whether the warehouse that a guest serves is this one
abbrev pub is_served : Option ℕ → ℕ → Bool
is_served (Some served) warehouse = warehouse == served
is_served None warehouse = false

-- whether a warehouse was told of all commits that name it
abbrev pub is_told : List ℕ → ℕ → Bool
is_told behind warehouse = not (list_any (λ named. named == warehouse) behind)

-- who has still to be told when the partitions of warehouses 1 to the last have been told, one after the other
abbrev pub after_telling : ℕ → List ℕ → List ℕ
after_telling zero behind = behind
after_telling (suc last) behind = filter (λ w. not (w == suc last)) (after_telling last behind)

module _ {C : Type 0} where
  -- who knows nothing
  abbrev pub nothing : Knowledge C
  nothing = record { seen = []; looks = 0; serves = None }

  abbrev pub beginner : View C
  beginner = record { mine = nothing; guest = nothing; behind = []; dealt = 0 }

  -- the journal before the first commit, when so many partitions have a seat
  abbrev pub dealer : ℕ → View C
  dealer dealt = record { mine = nothing; guest = nothing; behind = []; dealt = dealt }

  -- a seat that isn't the journal's
  abbrev pub holder : Knowledge C → View C
  holder k = record { mine = k; guest = nothing; behind = []; dealt = 0 }

  -- the journal, and the seat of the next partition
  abbrev pub after_dealing : View C → View C
  after_dealing v = record { mine = v.mine; guest = v.guest; behind = v.behind; dealt = suc v.dealt }

  abbrev pub new_seat : View C → View C
  new_seat v = holder record { seen = v.mine.seen; looks = 0; serves = Some (suc v.dealt) }

  -- the pass of a client
  abbrev pub new_pass : View C → View C
  new_pass v = holder record { seen = v.mine.seen; looks = 0; serves = None }

  -- the journal with a guest
  abbrev pub boarded : View C → View C → View C
  boarded v w = record { mine = v.mine; guest = w.mine; behind = v.behind; dealt = v.dealt }

  -- the journal when the guest has left, and the guest, who was told the whole list
  abbrev pub after_leaving : View C → View C
  after_leaving v =
      record { mine = v.mine; guest = nothing; behind = filter (λ w. not (is_served v.guest.serves w)) v.behind; dealt = v.dealt }

  abbrev pub leaving : View C → View C
  leaving v = holder record { seen = v.mine.seen; looks = v.guest.looks; serves = v.guest.serves }

  -- a look: the whole list is then known, its length was found, and the look was counted
  abbrev pub Looks : {S : Type 0} → Me S (View C) → ℕ → Me S (View C) → Type 0
  Looks {S} before found after =
      IsPrefix before.0.mine.seen after.0.mine.seen × (found ≡ length after.0.mine.seen)
      × (after.0.mine.looks ≡ before.0.mine.looks + 1) × (after.0.mine.serves ≡ before.0.mine.serves)
      × (after.1 ≡ before.1)

  module _ (warehouses : C → List ℕ) where
    -- the journal after a commit
    abbrev pub appended : Entry C → View C → View C
    appended entry v = record {
      mine = record { seen = v.mine.seen ++ entry ∷ []; looks = v.mine.looks; serves = v.mine.serves };
      guest = v.guest;
      behind = v.behind ++ warehouses entry.commit;
      dealt = v.dealt;
    }

    -- what the holder of a seat knows: a beginning of the list. Who serves a warehouse has its only seat, and knows all
    -- its commits, unless it has still to be told
    abbrev pub Fits : View C → (ℕ → ℕ) → ℕ → Knowledge C → Type 0
    Fits journal seat_of seat k =
        IsPrefix k.seen journal.mine.seen
        × ((w : ℕ) → k.serves ≡ Some w
        → (seat_of w ≡ seat) × (w ≤ journal.dealt)
        × (is_told journal.behind w ≡ true → kept_of warehouses w k.seen ≡ kept_of warehouses w journal.mine.seen))

    -- the rule: the first seat is the journal's, which knows the whole list, and the word is the list's length
    pub record IsKept (words : List ℕ) (views : List (View C)) : Type 0 where
      pub journal : View C
      pub seat_of : ℕ → ℕ
      pub first : get_elem? views 0 ≡ some journal
      pub word : words ≡ length journal.mine.seen ∷ []
      pub apart : journal.mine.serves ≡ None
      pub each : (seat : ℕ) (v : View C) → get_elem? views seat ≡ some v
          → Fits journal seat_of seat v.mine × Fits journal seat_of seat v.guest

    abbrev pub with_said : mathlib.Core.Option.Option (Entry C) → View C → View C
    with_said (some entry) v = appended entry v
    with_said none v = v

    module _ {S : Type 0} where
      -- what the guest knows begins the list, and has all commits of its warehouse, unless it has still to be told
      abbrev pub Meets : Me S (View C) → Me S (View C) → Type 0
      Meets before after =
          (after ≡ before) × IsPrefix before.0.guest.seen before.0.mine.seen
          × ((w : ℕ) → before.0.guest.serves ≡ Some w → is_told before.0.behind w ≡ true
          → kept_of warehouses w before.0.guest.seen ≡ kept_of warehouses w before.0.mine.seen)

      -- a commit enters the end
      abbrev pub Appends : mathlib.Core.Option.Option (Entry C) → Me S (View C) → Me S (View C) → Type 0
      Appends said before after = after ≡ (with_said said before.0, before.1)
