-- The memory of an engine.
use Rattle.std.proofs.Common.{◌≡◌, ℕ, List, [], ◌∷◌, ◌++◌, length, subst, sym}
use Rattle.hy_engine.specs.Engines.{HavePlaces}
use Rattle.hy_engine.specs.inside.Rooms.{RoomsState}

-- a queue more
pub places-more : (count places : ℕ) (queues : List ℕ) → HavePlaces count queues → places ≡ count
    → HavePlaces count (queues ++ places ∷ [])
places-more count places [] have is = (is, tt)
places-more count places (first ∷ queues) have is = (have.0, places-more count places queues have.1 is)

-- queues of jobs for so many warehouses, and of answers for so many clients
abbrev pub AreRooms : ℕ → ℕ → ℕ → RoomsState → Type 0
AreRooms warehouses clients capacity rooms =
    (length rooms.jobs ≡ warehouses) × (length rooms.answers ≡ clients) × HavePlaces capacity rooms.jobs
    × HavePlaces 1 rooms.answers

pub same-rooms : (rooms now : RoomsState) → rooms ≡ now → (warehouses clients capacity : ℕ)
    → (length now.jobs ≡ warehouses) × HavePlaces capacity now.jobs
    → (length now.answers ≡ clients) × HavePlaces 1 now.answers → AreRooms warehouses clients capacity rooms
same-rooms rooms now is warehouses clients capacity jobs answers =
    subst (AreRooms warehouses clients capacity) (sym is) (jobs.0, answers.0, jobs.1, answers.1)
