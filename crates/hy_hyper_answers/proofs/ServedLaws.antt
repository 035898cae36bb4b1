-- How the answers to what an input says follow one another.
use Rattle.std.proofs.Common.{ℕ, Result, Ok, Err, List, [], ◌∷◌, ◌++◌, refl, sym, ap, subst, ◌∙◌, append_assoc}
use Rattle.std.proofs.lemmas.List.{append-nil}
use Rattle.std.specs.Prelude.{OnOk}
use Rattle.hy_script.specs.Databases.{DatabaseState}
use Rattle.hy_hyper_input.specs.Received.{Said}
use Rattle.hy_hyper_answers.specs.declared.answers.Style.{Style}
use Rattle.hy_hyper_answers.specs.Served.{AnswersSaid, Serves, number_of, printed}

pub ok-then : {Value Refused : Type 0} (result : Result Value Refused) {P Q : Type 0} → (P → Q) → OnOk result P → OnOk result Q
ok-then (Ok value) then ok = then ok
ok-then (Err refused) then ok = ok

-- one more is answered behind others
pub serves-more : (page_size : ℕ) (style : Style) (all : List Said) (one : Said) (old middle new : DatabaseState)
    (text answer : List ℕ) → Serves page_size style all old middle text → AnswersSaid page_size one middle new answer
    → Serves page_size style (all ++ one ∷ []) old new (text ++ printed style (number_of one) answer)
serves-more page_size style [] one old middle new text answer serves answers = (
  new,
  answer,
  [],
  subst (λ database. AnswersSaid page_size one database new answer) serves.0 answers,
  ap (λ front. front ++ printed style (number_of one) answer) serves.1
      ∙ sym (append-nil (printed style (number_of one) answer)),
  (refl, refl),
)
serves-more page_size style (first ∷ later) one old middle new text answer serves answers =
    let behind = printed style (number_of one) answer in (
      serves.0,
      serves.1,
      serves.2 ++ behind,
      serves.3,
      ap (λ front. front ++ behind) serves.4
          ∙ append_assoc (printed style (number_of first) serves.1) serves.2 behind,
      serves-more page_size style later one serves.0 middle new serves.2 answer serves.5 answers,
    )
