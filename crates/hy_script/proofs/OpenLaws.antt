-- A snapshot that was opened, and what was printed of it.
use Rattle.std.proofs.Common.{◌≡◌, ◌⊎◌, ℕ, false, List, [], ◌∷◌, ◌++◌, Option, None, Some, is_some, inl, refl, subst}
use Rattle.std.specs.Prelude.{MatchOption}
use Rattle.std.proofs.lemmas.Bool.{true≢false}
use Rattle.std.specs.Io.KnownBytes.{Appends}
use Rattle.hy_script.specs.Answers.{OpensName, OpensNameFrom, OpensNone, OpensNoneFrom, snapshot_text}
use Rattle.hy_script.specs.Databases.{DatabaseState, HasName, IsNameAt, OpenSnapshot}
use Rattle.hy_script.specs.Steps.{Opens, OpensFrom}

-- no place was found for a name
pub unnamed : (snapshots : List OpenSnapshot) (name : List ℕ) (found : Option ℕ) → is_some found ≡ false
    → MatchOption found (¬ HasName snapshots name) (IsNameAt snapshots name) → ¬ HasName snapshots name
unnamed snapshots name None none named = named
unnamed snapshots name (Some place) none named = absurd (true≢false none)

-- what is written of the last snapshot
abbrev WritesLast : DatabaseState → List ℕ → Option (List ℕ) → Option (List ℕ) → Type 0
WritesLast database bytes before after =
    (others : List OpenSnapshot) (opened : OpenSnapshot) → database.snapshots ≡ others ++ opened ∷ []
    → Appends before after (snapshot_text bytes opened.parts)

module _ (name bytes : List ℕ) (old new : DatabaseState) (before after : Option (List ℕ))
    (free : ¬ HasName old.snapshots name) (same : bytes ≡ name) (written : WritesLast new bytes before after)
    (log : new.log ≡ old.log) where
  pub opened-name : (n : ℕ) → Opens n name old new
      → (text : List ℕ) × ((¬ HasName old.snapshots name) × (OpensName n name old new text ⊎ OpensNone old new text))
      × Appends before after text
  opened-name n opens = (
    snapshot_text name opens.parts,
    (free, inl (record { opens = opens; log = log; prints = refl })),
    subst (λ (printed : List ℕ). Appends before after (snapshot_text printed opens.parts)) same
        (written old.snapshots (record { name = name; parts = opens.parts }) opens.snapshots),
  )

  pub opened-name_from : (from : List ℕ) (place : ℕ) → IsNameAt old.snapshots from place → OpensFrom place name old new
      → (text : List ℕ) × ((¬ HasName old.snapshots name)
      × (OpensNameFrom name from old new text ⊎ OpensNoneFrom from old new text)) × Appends before after text
  opened-name_from from place there opens = (
    snapshot_text name opens.parts,
    (free, inl (record { place = place; there = there; opens = opens; log = log; prints = refl })),
    subst (λ (printed : List ℕ). Appends before after (snapshot_text printed opens.parts)) same
        (written old.snapshots (record { name = name; parts = opens.parts }) opens.snapshots),
  )
