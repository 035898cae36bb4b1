-- Names of snapshots in databases that have kept the same.
use Rattle.std.proofs.Common.{◌≡◌, ◌⊎◌, ◌∙◌, ℕ, zero, suc, List, [], ◌∷◌, ◌++◌, length, remove, slice_get, inl, inr, refl, sym, ap, arith}
use Rattle.hy_events.specs.declared.event.Event.{Event}
use Rattle.hy_events.specs.declared.event.Event.TheVariants as events
use Rattle.hy_partition.specs.Snapshots.{SnapshotState}
use Rattle.hy_crossing.specs.Lists.{Pairwise}
use Rattle.hy_forks.proofs.PlaceLaws.{some-map}
use Rattle.hy_script.specs.Databases.{DatabaseState, HasName, IsNameAt, OpenSnapshot}
use Rattle.hy_script.specs.Answers.{Answers, AnswersCheck, AnswersQuery, AsksName, IsMisnamed}
use Rattle.hy_hyper_rounds.specs.Restarts.{AreNamedTheSame, HaveNamesOnce, HaveTheSame}

-- ---- the same names stand at the same places

module _ (n : ℕ) (name : List ℕ) where
  pairs-name : (number : ℕ) (ones others : List OpenSnapshot) → Pairwise (AreNamedTheSame n) number ones others
      → (place : ℕ) → IsNameAt ones name place → IsNameAt others name place
  pairs-name number [] [] pairs place is = is
  pairs-name number (one ∷ ones) (other ∷ others) pairs zero is = pairs.0.name ∙ is
  pairs-name number (one ∷ ones) (other ∷ others) pairs (suc place) is =
      pairs-name (suc number) ones others pairs.1 place is
  pairs-name number [] (other ∷ others) pairs place is = absurd pairs
  pairs-name number (one ∷ ones) [] pairs place is = absurd pairs

  pairs-name_back : (number : ℕ) (ones others : List OpenSnapshot) → Pairwise (AreNamedTheSame n) number ones others
      → (place : ℕ) → IsNameAt others name place → IsNameAt ones name place
  pairs-name_back number [] [] pairs place is = is
  pairs-name_back number (one ∷ ones) (other ∷ others) pairs zero is = sym pairs.0.name ∙ is
  pairs-name_back number (one ∷ ones) (other ∷ others) pairs (suc place) is =
      pairs-name_back (suc number) ones others pairs.1 place is
  pairs-name_back number [] (other ∷ others) pairs place is = absurd pairs
  pairs-name_back number (one ∷ ones) [] pairs place is = absurd pairs

module _ (n : ℕ) (one other : DatabaseState) (have : HaveTheSame n one other) where
  pub names-same : (name : List ℕ) (place : ℕ) → IsNameAt one.snapshots name place → IsNameAt other.snapshots name place
  names-same name = pairs-name n name 1 one.snapshots other.snapshots have.snapshots

  pub names-back : (name : List ℕ) (place : ℕ) → IsNameAt other.snapshots name place → IsNameAt one.snapshots name place
  names-back name = pairs-name_back n name 1 one.snapshots other.snapshots have.snapshots

  pub has-same : (name : List ℕ) → HasName one.snapshots name → HasName other.snapshots name
  has-same name has = (has.0, names-same name has.0 has.1)

  pub has-back : (name : List ℕ) → HasName other.snapshots name → HasName one.snapshots name
  has-back name has = (has.0, names-back name has.0 has.1)

  -- a name that stands in both stands at one place
  pub one-place : (name : List ℕ) (place its : ℕ) → IsNameAt one.snapshots name place → IsNameAt other.snapshots name its
      → its ≡ place
  one-place name place its is other_is = have.once name place its is (names-back name its other_is)

-- ---- of no name two are open where one comes, or goes

name-pushed : (snapshots : List OpenSnapshot) (last : OpenSnapshot) (name : List ℕ) (place : ℕ)
    → IsNameAt (snapshots ++ last ∷ []) name place
    → IsNameAt snapshots name place ⊎ ((place ≡ length snapshots) × (last.name ≡ name))
name-pushed [] last name zero is = inr (refl, is)
name-pushed [] last name (suc place) is = absurd is
name-pushed (first ∷ snapshots) last name zero is = inl is
name-pushed (first ∷ snapshots) last name (suc place) is = elim (name-pushed snapshots last name place is) [
  | inl before ↦ inl before
  | inr at ↦ inr (ap suc at.0, at.1)
]

pub once-pushed : (snapshots : List OpenSnapshot) (last : OpenSnapshot) → HaveNamesOnce snapshots
    → ¬ HasName snapshots last.name → HaveNamesOnce (snapshots ++ last ∷ [])
once-pushed snapshots last once free name place other is other_is =
    elim (name-pushed snapshots last name place is) [
      | inl before ↦ elim (name-pushed snapshots last name other other_is) [
        | inl other_before ↦ once name place other before other_before
        | inr other_at ↦ absurd (taken place before other_at.1)
      ]
      | inr at ↦ elim (name-pushed snapshots last name other other_is) [
        | inl other_before ↦ absurd (taken other other_before at.1)
        | inr other_at ↦ other_at.0 ∙ sym at.0
      ]
    ]
  where
    taken : (place : ℕ) → IsNameAt snapshots name place → last.name ≡ name → ⊥
    taken place is same =
        free (
          place,
          some-map (λ s. s.name ≡ name) (λ s. s.name ≡ last.name) (slice_get snapshots place)
              (λ s named. named ∙ sym same) is,
        )

-- where an element stood before the one at a place was removed
stood : ℕ → ℕ → ℕ
stood zero place = suc place
stood (suc gone) zero = zero
stood (suc gone) (suc place) = suc (stood gone place)

stood-once : (gone place other : ℕ) → stood gone other ≡ stood gone place → other ≡ place
unfolding stood
stood-once zero place other same = omega (arith, same)
stood-once (suc gone) zero zero same = refl
stood-once (suc gone) zero (suc other) same = absurd (omega (arith, same))
stood-once (suc gone) (suc place) zero same = absurd (omega (arith, same))
stood-once (suc gone) (suc place) (suc other) same = ap suc (stood-once gone place other (omega (arith, same)))

name-removed : (snapshots : List OpenSnapshot) (name : List ℕ) (gone place : ℕ)
    → IsNameAt (remove snapshots gone) name place → IsNameAt snapshots name (stood gone place)
unfolding stood
name-removed [] name zero place is = absurd is
name-removed [] name (suc gone) place is = absurd is
name-removed (first ∷ snapshots) name zero place is = is
name-removed (first ∷ snapshots) name (suc gone) zero is = is
name-removed (first ∷ snapshots) name (suc gone) (suc place) is = name-removed snapshots name gone place is

pub once-removed : (snapshots : List OpenSnapshot) (gone : ℕ) → HaveNamesOnce snapshots
    → HaveNamesOnce (remove snapshots gone)
once-removed snapshots gone once name place other is other_is =
    stood-once gone place other (once name (stood gone place) (stood gone other) (name-removed snapshots name gone place is)
    (name-removed snapshots name gone other other_is))

-- ---- events that name a snapshot

module _ (n : ℕ) where
  -- an event names a snapshot that isn't open, or opens one of an open name, in both of two databases or in neither
  pub misnamed-alike : (event : Event) (one other : DatabaseState) → HaveTheSame n one other → IsMisnamed one event
      → IsMisnamed other event
  misnamed-alike (events.Run command) one other have is = is
  misnamed-alike (events.Begin command) one other have is = is
  misnamed-alike (events.Step number) one other have is = is
  misnamed-alike (events.Done number) one other have is = is
  misnamed-alike (events.Touched number) one other have is = is
  misnamed-alike (events.Free number) one other have is = is
  misnamed-alike (events.Shared number) one other have is = is
  misnamed-alike (events.Limit number more) one other have is = is
  misnamed-alike (events.Fork name) one other have is = has-same n one other have name is
  misnamed-alike (events.ForkFrom name from) one other have is = elim is [
    | inl taken ↦ inl (has-same n one other have name taken)
    | inr none ↦ inr (λ has. none (has-back n one other have from has))
  ]
  misnamed-alike (events.Close name) one other have is = λ has. is (has-back n one other have name has)
  misnamed-alike (events.Query name asked) one other have is = λ has. is (has-back n one other have name has)
  misnamed-alike (events.Check name) one other have is = λ has. is (has-back n one other have name has)

  pub misnamed-back : (event : Event) (one other : DatabaseState) → HaveTheSame n one other → IsMisnamed other event
      → IsMisnamed one event
  misnamed-back (events.Run command) one other have is = is
  misnamed-back (events.Begin command) one other have is = is
  misnamed-back (events.Step number) one other have is = is
  misnamed-back (events.Done number) one other have is = is
  misnamed-back (events.Touched number) one other have is = is
  misnamed-back (events.Free number) one other have is = is
  misnamed-back (events.Shared number) one other have is = is
  misnamed-back (events.Limit number more) one other have is = is
  misnamed-back (events.Fork name) one other have is = has-back n one other have name is
  misnamed-back (events.ForkFrom name from) one other have is = elim is [
    | inl taken ↦ inl (has-back n one other have name taken)
    | inr none ↦ inr (λ has. none (has-same n one other have from has))
  ]
  misnamed-back (events.Close name) one other have is = λ has. is (has-same n one other have name has)
  misnamed-back (events.Query name asked) one other have is = λ has. is (has-same n one other have name has)
  misnamed-back (events.Check name) one other have is = λ has. is (has-same n one other have name has)

-- the snapshot that was asked has the name
asked-name : (name : List ℕ) (prints : List SnapshotState → List ℕ → Type 0) (old new : DatabaseState) (text : List ℕ)
    → AsksName name prints old new text → HasName old.snapshots name
asked-name name prints old new text asks = (
  asks.place,
  some-map (λ s. (s.name ≡ name) × prints s.parts text) (λ s. s.name ≡ name)
      (slice_get old.snapshots asks.place) (λ s holds. holds.0) asks.there,
)

-- no such event is answered
pub named-answered : (n : ℕ) (event : Event) (old new : DatabaseState) (text : List ℕ) → Answers n event old new text
    → IsMisnamed old event → ⊥
named-answered n (events.Run command) old new text answers is = is
named-answered n (events.Begin command) old new text answers is = is
named-answered n (events.Step number) old new text answers is = is
named-answered n (events.Done number) old new text answers is = is
named-answered n (events.Touched number) old new text answers is = is
named-answered n (events.Free number) old new text answers is = is
named-answered n (events.Shared number) old new text answers is = is
named-answered n (events.Limit number more) old new text answers is = is
named-answered n (events.Fork name) old new text answers is = answers.0 is
named-answered n (events.ForkFrom name from) old new text answers is = elim is [
  | inl taken ↦ answers.0 taken
  | inr none ↦ elim answers.1 [
    | inl opens ↦ none (opens.place, opens.there)
    | inr unopened ↦ none unopened.there
  ]
]
named-answered n (events.Close name) old new text answers is = is (answers.place, answers.there)
named-answered n (events.Query name asked) old new text answers is =
    is (asked-name name (AnswersQuery n asked) old new text answers)
named-answered n (events.Check name) old new text answers is =
    is (asked-name name (AnswersCheck n) old new text answers)
