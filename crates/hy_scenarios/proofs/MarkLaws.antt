-- Laws on the steps of a scenario.
use Rattle.std.proofs.Common.{rules, arith, ◌≡◌, ◌∙◌, ◌+◌, ◌-◌, ◌<◌, ◌≤◌, ◌++◌, ℕ, zero, suc, Bool, true, false, cond, List, [], ◌∷◌, Option, None, Some, Bor, ap, sym, refl, subst, append_assoc, drop, drop-cons, get_or, length, map, option_map, take, add-one, not, nat_eq}
use Rattle.std.proofs.Math.Seq.{take-suc}
use Rattle.std.proofs.lemmas.Grind.{common_steps}
use Rattle.std.proofs.lemmas.List.{take_all}
use Rattle.std.specs.List.{filter_map, starts_with}
use Rattle.hy_cli.specs.CommandLine.{texts_of}
use Rattle.hy_events.specs.Lines.{numbered}
use Rattle.hy_scenarios.specs.Changes.{replaced}
use Rattle.hy_scenarios.specs.Marks.{body_of, is_head, step_in}

-- numbers of lines don't matter
pub filter_map-numbered : (first : ℕ) (lines : List (List ℕ))
    → filter_map (λ line. step_in line.1) (numbered first lines) ≡ filter_map step_in lines
filter_map-numbered first [] = refl
filter_map-numbered first (line ∷ later) =
    let more = filter_map-numbered (suc first) later in search (rules, more)

texts-append : (some others : List (Bor (List ℕ))) → texts_of (some ++ others) ≡ texts_of some ++ texts_of others
texts-append [] others = refl
texts-append (text ∷ some) others = ap (λ rest. text.now ∷ rest) (texts-append some others)

-- a step that begins no block belongs to the body
pub body-more : (steps : List (Bor (List ℕ))) (place : ℕ) (step : Bor (List ℕ)) → place < length steps
    → is_head (get_or steps place step).now ≡ false
    → texts_of (take place steps) ++ body_of (texts_of (drop place steps)) ≡ body_of (texts_of steps)
    → texts_of (take (place + 1) steps) ++ body_of (texts_of (drop (place + 1) steps)) ≡ body_of (texts_of steps)
body-more steps place step within other so_far =
    let taken : take (suc place) steps ≡ take place steps ++ get_or steps place step ∷ [] = take-suc steps place step within in
    let dropped : drop place steps ≡ get_or steps place step ∷ drop (suc place) steps = drop-cons steps place step within in
    let texts = texts-append (take place steps) (get_or steps place step ∷ []) in
    rw (add-one place, taken, texts, append_assoc (texts_of (take place steps)) ((get_or steps place step).now ∷ []) (body_of (texts_of (drop (suc place) steps))))
    (rw (dropped, other) at so_far)

replaced-here : (old new text : List ℕ) → 0 < length text → starts_with nat_eq text old ≡ true
    → replaced old new text ≡ Some (new ++ drop (length old) text)
replaced-here old new [] some here = absurd (omega (arith, some))
replaced-here old new (byte ∷ rest) some here = rw here refl

replaced-not : (old new text : List ℕ) (byte : ℕ) → starts_with nat_eq (byte ∷ text) old ≡ false
    → replaced old new (byte ∷ text) ≡ option_map (λ rest. byte ∷ rest) (replaced old new text)
replaced-not old new text byte not_here = rw not_here refl

-- the first place where the old text stands
pub replaced-at : (old new text : List ℕ) (place : ℕ) → place < length text
    → starts_with nat_eq (drop place text) old ≡ true
    → option_map (λ rest. take place text ++ rest) (replaced old new (drop place text)) ≡ replaced old new text
    → Some ((take place text ++ new) ++ drop (length old) (drop place text)) ≡ replaced old new text
replaced-at old new text place within here so_far =
    let some : 0 < length (drop place text) = grind (arith, common_steps, within) in
    rw (append_assoc (take place text) new (drop (length old) (drop place text)))
    (rw (replaced-here old new (drop place text) some here) at so_far)

map-map : (front : List ℕ) (byte : ℕ) (found : Option (List ℕ))
    → option_map (λ rest. front ++ rest) (option_map (λ rest. byte ∷ rest) found)
    ≡ option_map (λ rest. (front ++ byte ∷ []) ++ rest) found
map-map front byte None = refl
map-map front byte (Some rest) = ap Some (sym (append_assoc front (byte ∷ []) rest))

pub replaced-later : (old new text : List ℕ) (place : ℕ) → place < length text
    → starts_with nat_eq (drop place text) old ≡ false
    → option_map (λ rest. take place text ++ rest) (replaced old new (drop place text)) ≡ replaced old new text
    → option_map (λ rest. take (place + 1) text ++ rest) (replaced old new (drop (place + 1) text)) ≡ replaced old new text
replaced-later old new text place within not_here so_far =
    let taken : take (suc place) text ≡ take place text ++ get_or text place 0 ∷ [] = take-suc text place 0 within in
    let dropped : drop place text ≡ get_or text place 0 ∷ drop (suc place) text = drop-cons text place 0 within in
    let not_now = rw dropped at not_here in
    rw (
      add-one place,
      taken,
      sym (map-map (take place text) (get_or text place 0) (replaced old new (drop (suc place) text))),
      sym (replaced-not old new (drop (suc place) text) (get_or text place 0) not_now),
    )
    (rw dropped at so_far)

-- what is left behind a place
pub rest-is : {A : Type 0} (items : List A) (place : ℕ) → place ≤ length items
    → take (length items - place) (drop place items) ≡ drop place items
rest-is items place within =
    take_all (length items - place) (drop place items) (grind (arith, common_steps))
