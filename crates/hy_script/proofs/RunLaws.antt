-- What the lines so far have printed, and what is still to come.
use Rattle.std.proofs.Common.{◌≡◌, ◌∙◌, ◌++◌, ℕ, List, [], ◌∷◌, Option, None, Some, append-nil, append_assoc, inl, inr, refl, subst, sym}
use Rattle.std.specs.Io.KnownBytes.{Appends, Keeps}
use Rattle.hy_events.proofs.WriterLaws.{appends-then}
use Rattle.hy_script.specs.Databases.{DatabaseState}
use Rattle.hy_script.specs.Printed.{ArePrinted, IsLineAnswered}
use Rattle.hy_script.specs.Scripts.{IsBad, Prints}

pub appends-kept : (before middle after : Option (List ℕ)) (text : List ℕ) → Appends before middle text
    → Keeps middle after → Appends before after text
appends-kept None middle after text appends keeps = tt
appends-kept (Some bytes) None after text appends keeps = absurd appends
appends-kept (Some bytes) (Some more) None text appends keeps = absurd keeps
appends-kept (Some bytes) (Some more) (Some all) text appends keeps = keeps ∙ appends

module _ (n : ℕ) (all : List (ℕ × List ℕ)) (first : DatabaseState) (before : Option (List ℕ)) where
  -- what the lines that are left print from here stands behind what was printed, and that is what all of them print
  pub record SoFar (left : List (ℕ × List ℕ)) (now : DatabaseState) (after : Option (List ℕ)) : Type 0 where
    pub printed : List ℕ
    pub goes_on : (rest : List ℕ) (bad : Option ℕ) → Prints n left now rest bad → Prints n all first (printed ++ rest) bad
    pub appends : Appends before after printed

  pub so_far-more : (line : ℕ × List ℕ) (later : List (ℕ × List ℕ)) (now next : DatabaseState)
      (after more : Option (List ℕ)) → SoFar (line ∷ later) now after → IsLineAnswered n line.1 now next after more
      → SoFar later next more
  so_far-more line later now next after more so_far answered = record {
    printed = so_far.printed ++ answered.0;
    goes_on = λ rest bad prints. subst (λ text. Prints n all first text bad)
        (sym (append_assoc so_far.printed answered.0 rest))
        (so_far.goes_on (answered.0 ++ rest) bad (inr (next, answered.0, rest, answered.1, refl, prints)));
    appends = appends-then before after more so_far.printed answered.0 so_far.appends answered.2;
  }

  -- what is handed on stays
  pub so_far-kept : (left : List (ℕ × List ℕ)) (now : DatabaseState) (middle after : Option (List ℕ))
      → SoFar left now middle → Keeps middle after → SoFar left now after
  so_far-kept left now middle after so_far keeps = record {
    printed = so_far.printed;
    goes_on = so_far.goes_on;
    appends = appends-kept before middle after so_far.printed so_far.appends keeps;
  }

  pub so_far-end : (now : DatabaseState) (after : Option (List ℕ)) → SoFar [] now after
      → ArePrinted n all first before after None
  so_far-end now after so_far = (
    so_far.printed,
    subst (λ text. Prints n all first text None) (append-nil so_far.printed) (so_far.goes_on [] None (refl, refl)),
    so_far.appends,
  )

  pub so_far-bad : (line : ℕ × List ℕ) (later : List (ℕ × List ℕ)) (now : DatabaseState) (after more : Option (List ℕ))
      → SoFar (line ∷ later) now after → IsBad now line.1 → more ≡ after
      → ArePrinted n all first before more (Some line.0)
  so_far-bad line later now after more so_far bad unprinted = (
    so_far.printed,
    subst (λ text. Prints n all first text (Some line.0)) (append-nil so_far.printed)
        (so_far.goes_on [] (Some line.0) (inl (bad, refl, refl))),
    subst (λ held. Appends before held so_far.printed) (sym unprinted) so_far.appends,
  )
