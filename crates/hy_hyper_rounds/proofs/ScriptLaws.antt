-- What is served is what a script prints.
use Rattle.std.proofs.Common.{◌≡◌, ◌∙◌, ◌++◌, ℕ, List, [], ◌∷◌, None, Some, refl, sym, ap, append_assoc, inl, inr}
use Rattle.hy_script.specs.Databases.{DatabaseState}
use Rattle.hy_hyper_input.specs.Received.{Said}
use Rattle.hy_hyper_answers.specs.declared.answers.Style.{Style}
use Rattle.hy_hyper_answers.specs.declared.answers.Style.TheVariants as styles
use Rattle.hy_hyper_answers.specs.Served.{number_of, printed, Serves}
use Rattle.hy_hyper_rounds.specs.Rounds.{IsOfScript, styled}

module _ (page_size : ℕ) where
  pub serves-plainly : (style : Style) (said : List Said) (old new : DatabaseState) (text : List ℕ)
      → Serves page_size style said old new text
      → (answers : List (List ℕ)) × (text ≡ styled style said answers)
      × Serves page_size styles.Plain said old new (styled styles.Plain said answers)
  serves-plainly style [] old new text serves = ([], serves.1, (serves.0, refl))
  serves-plainly style (one ∷ later) old new text serves =
      let rest = serves-plainly style later serves.0 new serves.2 serves.5 in (
        serves.1 ∷ rest.0,
        serves.4 ∙ ap (λ behind. printed style (number_of one) serves.1 ++ behind) rest.1,
        (serves.0, serves.1, styled styles.Plain later rest.0, serves.3, refl, rest.2),
      )

  pub serves-script : (said : List Said) (old new : DatabaseState) (text : List ℕ)
      → Serves page_size styles.Plain said old new text → IsOfScript page_size said old text
  serves-script [] old new text serves = record {
    printed = [];
    bad = None;
    prints = (refl, refl);
    rest = [];
    front = serves.1;
    whole = λ lines none. refl;
  }
  serves-script (Said.too_long number ∷ later) old new text serves = record {
    printed = [];
    bad = None;
    prints = (refl, refl);
    rest = text;
    front = refl;
    whole = λ lines none. absurd lines;
  }
  serves-script (Said.a_line number line ∷ later) old new text serves = elim serves.3 [
    | inl answered ↦
        let rest : IsOfScript page_size later serves.0 serves.2 =
        serves-script later serves.0 new serves.2 serves.5 in record {
          printed = serves.1 ++ rest.printed;
          bad = rest.bad;
          prints = inr (serves.0, serves.1, rest.printed, answered, refl, rest.prints);
          rest = rest.rest;
          front = serves.4 ∙ ap (λ front. serves.1 ++ front) rest.front
              ∙ sym (append_assoc serves.1 rest.printed rest.rest);
          whole = rest.whole;
        }
    | inr bad ↦ record {
      printed = [];
      bad = Some number;
      prints = inl (bad.0, refl, refl);
      rest = text;
      front = refl;
      whole = λ lines none. absurd (cc);
    }
  ]
