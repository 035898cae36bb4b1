-- What answers a query, by what its text says.
use Rattle.std.proofs.Common.{◌≡◌, ◌⊎◌, ℕ, List, Option, None, Some, Result, Ok, Err, ap, inl, inr, refl, subst, sym}
use Rattle.std.specs.Prelude.{IsOk, IsOkAnd, IsSomeAnd, MatchResult, slice_get}
use Rattle.std.specs.Io.KnownBytes.{Appends}
use Rattle.hy_schema.specs.declared.refusal.Refusal.{Refusal}
use Rattle.hy_schema.specs.declared.refusal.Refusal.TheVariants as refusals
use Rattle.hy_session.specs.of_partition.Snapshots.{SnapshotState}
use Rattle.hy_session.specs.Snapshots.{lists_of_all}
use Rattle.hy_session.specs.Texts.{answer_text}
use Rattle.hy_query.specs.Meaning.{answer_of}
use Rattle.hy_query.specs.Queries.{QueryState}
use Rattle.hy_script.specs.Answers.{AsksName, query_text, refused_text}
use Rattle.hy_script.specs.Databases.{DatabaseState, IsNameAt, OpenSnapshot}
use Rattle.hy_script.specs.Printed.{IsWritten}

module _ (n : ℕ) (snapshots : List SnapshotState) where
  abbrev Answered : Result QueryState ℕ → List ℕ → Type 0
  Answered said text = (text ≡ query_text n snapshots said) ⊎ (IsOk said × (text ≡ refused_text refusals.NoMemory))

  -- there is an answer
  pub asked-answer : (said : Result QueryState ℕ) (text : List ℕ)
      → IsOkAnd said (λ query. text ≡ answer_text (answer_of query (lists_of_all n snapshots))) → Answered said text
  asked-answer (Ok query) text is = inl is
  asked-answer (Err place) text is = absurd is

  -- there is none
  pub asked-refused : (said : Result QueryState ℕ) (why : Refusal)
      → MatchResult said (λ query. why ≡ refusals.NoMemory) (λ place. why ≡ refusals.BadQuery place)
      → Answered said (refused_text why)
  asked-refused (Ok query) why is = inr (refl, ap refused_text is)
  asked-refused (Err place) why is = inl (ap refused_text is)

-- the snapshot of a name was asked
pub asked-name : (name : List ℕ) (Prints : List SnapshotState → List ℕ → Type 0) (old : DatabaseState) (place : ℕ)
    (before after : Option (List ℕ)) → IsNameAt old.snapshots name place
    → IsSomeAnd (slice_get old.snapshots place) (λ snapshot. IsWritten (Prints snapshot.parts) before after)
    → (text : List ℕ) × AsksName name Prints old old text × Appends before after text
asked-name name Prints old place before after there written = at (slice_get old.snapshots place) refl there written
  where
    at : (found : Option OpenSnapshot) → slice_get old.snapshots place ≡ found
        → IsSomeAnd found (λ snapshot. snapshot.name ≡ name)
        → IsSomeAnd found (λ snapshot. IsWritten (Prints snapshot.parts) before after)
        → (text : List ℕ) × AsksName name Prints old old text × Appends before after text
    at None is named prints = absurd named
    at (Some snapshot) is named prints = (
      prints.0,
      record {
        place = place;
        there = subst (λ (it : Option OpenSnapshot). IsSomeAnd it (λ snapshot. (snapshot.name ≡ name)
            × Prints snapshot.parts prints.0)) (sym is) (named, prints.1);
        same = refl;
      },
      prints.2,
    )
