-- The laws of keys that are there: a set of the keys of rows, one row more.
use Rattle.std.proofs.Common.{◌≡◌, ◌↔◌, IsTrue, not, Bool, true, false, cond, ◌||◌, List, [], ◌∷◌, ◌++◌, refl, sym, ap, ◌∙◌}
use Rattle.std.specs.Bool.{IsFalse}
use Rattle.std.specs.List.{list_any}
use Rattle.std.proofs.lemmas.List.Folds.{list_any-append}
use Rattle.indexmap.specs.IndexSet.{IndexSet, IsEmpty, Updates}
use Rattle.hy_loads.specs.There.{HasKeys}

-- no keys are those of no rows
pub HasKeys-none : {Key Row Hasher : Type 0} (same : Key → Key → Bool) (is_with : Key → Row → Bool)
    (keys : IndexSet Key Hasher) → IsEmpty keys → HasKeys same is_with keys []
HasKeys-none same is_with keys empty key = ap (list_any (same key)) empty

-- a set with the key of one row more
pub HasKeys-one_more : {Key Row Hasher : Type 0} (same : Key → Key → Bool) (is_with : Key → Row → Bool)
    (old new : IndexSet Key Hasher) (rows : List Row) (row : Row) (own : Key)
    → ((key : Key) → is_with key row ≡ same own key) → HasKeys same is_with old rows → Updates same old new own true
    → HasKeys same is_with new (rows ++ row ∷ [])
HasKeys-one_more same is_with old new rows row own own_key has updates key =
    updates.0 key
    ∙ ap (cond (same own key) true) (has key)
    ∙ either (same own key) (list_any (is_with key) rows)
    ∙ ap (λ b. list_any (is_with key) rows || (b || false)) (sym (own_key key))
    ∙ sym (list_any-append (is_with key) rows (row ∷ []))
  where
    either : (is_own there : Bool) → cond is_own true there ≡ (there || (is_own || false))
    either true true = refl
    either true false = refl
    either false true = refl
    either false false = refl

-- a key that a set takes anew is the key of no row before, where all else is right
pub decides-new : {Right Rest : Type 0} (is_new there : Bool) → Rest → (Rest → IsFalse there → Right)
    → (Right → IsFalse there) → is_new ≡ not there → IsTrue is_new ↔ Right
decides-new true false rest makes new is = (λ _. makes rest refl, λ _. refl)
decides-new false true rest makes new is = (λ taken. absurd (cc), λ right. absurd (not_both (new right)))
  where
    not_both : true ≡ false → ⊥
    not_both same = absurd (cc)
decides-new true true rest makes new is = absurd (cc)
decides-new false false rest makes new is = absurd (cc)
