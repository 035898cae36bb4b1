-- A fact on the rows of a command's arguments holds where the parser takes the words, if each use of an argument that passes keeps it: no step
-- of the parser's walk over the words changes the rows in another way.
use Rattle.std.proofs.Common.{◌≡◌, ℕ, zero, suc, Bool, true, false, ◌&&◌, cond, List, [], ◌∷◌, length, drop, Option, Some, None, is_some, refl, sym, ap, subst}
use Rattle.std.specs.Prelude.{⊤, encode_utf8, find, fold, slice_get}
use Rattle.std.specs.Option.{option_map_or}
use Rattle.std.specs.Str.{bytes_eq, chars}
use Rattle.clap.specs.Lexer.{long_of, short_of}
use Rattle.clap.specs.Kinds.{Kinds, or_else}
use Rattle.clap.specs.Faults.{bundle_fault, bundle_step_fault, flag_word_fault, flags_fault, level_fault, long_fault, option_fault, other_fault, positional_fault, react_fault, settle_fault, short_fault, step_fault, stray_fault, turn_fault, use_fault, walk_fault, word_fault}
use Rattle.clap.specs.Simple.{Shape}
use Rattle.clap.specs.declared.error.kind.ErrorKind.TheVariants as kind
use Rattle.clap.specs.Walk.{Held, Names, Outcome, Row, Rule, Step, Text, Waiting, Walk, after_flag, after_step, arg_by_id, arg_by_index, arg_by_long, arg_by_short, attached_value, bundle, bundle_met, bundle_step, default_rows, done, flag_met, has_row, is_pending, long_met, long_or_other, nothing_held, option_met, option_word, plain, plain_word, reacted, reading_by, rows_after, settled, settled_rows, short_met, short_or_plain, subcommand_met, subcommand_or_other, takes_several, takes_values, to_positional, used, used_by_id, walk, walk_from, walked, walked_from, with_default, without, word_met}
use Rattle.clap.specs.Walk.{idle, option, positional, next, trailing, subcommand, value, waits, refused}

-- both steps passed
pub either : (first second : Kinds) → or_else first second ≡ [] → (first ≡ []) × (second ≡ [])
either [] second none = (refl, none)
either (kind ∷ kinds) second none = absurd (cc)

-- ---- one use of an argument

-- a use that passes keeps the fact
abbrev pub Keeps : (List Row → Type 0) → Rule → Type 0
Keeps Rows a = (again : Bool) (values : List Text) (rows : List Row) → use_fault again a values rows ≡ [] → Rows rows → Rows (used a values rows)

-- so does the default of one that wasn't used
abbrev pub KeepsDefault : (List Row → Type 0) → Rule → Type 0
KeepsDefault Rows a = (rows : List Row) → Rows rows → Rows (with_default rows a)

-- it does where there is no default
pub default-none : (Rows : List Row → Type 0) (a : Rule) → a.defaults ≡ [] → KeepsDefault Rows a
default-none Rows a without rows had = subst Rows (sym same) had
  where
    at : (has : Bool) → cond has rows (default_rows a.id (reading_by a) a.defaults rows) ≡ rows
    at true = refl
    at false = ap (λ values. default_rows a.id (reading_by a) values rows) without

    same : with_default rows a ≡ rows
    same = at (has_row a.id rows)

-- each of the arguments keeps it
abbrev pub Each : (List Row → Type 0) → List Rule → Type 0
Each Rows [] = ⊤
Each Rows (a ∷ rest) = (Keeps Rows a × KeepsDefault Rows a) × Each Rows rest

abbrev KeepsFound : (List Row → Type 0) → Option Rule → Type 0
KeepsFound Rows None = ⊤
KeepsFound Rows (Some a) = Keeps Rows a

found : (Rows : List Row → Type 0) (p : Rule → Bool) (rules : List Rule) → Each Rows rules → KeepsFound Rows (find p rules)
found Rows p [] each = tt
found Rows p (a ∷ rest) each = at (p a) (found Rows p rest each.1)
  where
    at : (here : Bool) → KeepsFound Rows (find p rest) → KeepsFound Rows (cond here (Some a) (find p rest))
    at true further = each.0.0
    at false further = further

-- ---- the walk over the words

module _ (Rows : List Row → Type 0) (s : Shape) (each : Each Rows s.rules) where
  abbrev again : Bool
  again = s.args_override_self

  used-found : (o : Option Rule) → KeepsFound Rows o → (values : List Text) (rows : List Row) → option_map_or (λ a. use_fault again a values rows) o [] ≡ [] → Rows rows
      → Rows (used_by_id o values rows)
  used-found None keeps values rows none had = had
  used-found (Some a) keeps values rows none had = keeps again values rows none had

  settled-keeps : (h : Held) → settle_fault s.rules again h ≡ [] → Rows h.rows → Rows (settled s.rules h).rows
  settled-keeps h none had = at h.pending none
    where
      at : (pending : Option (Text × List Text)) → option_map_or (λ p. option_map_or (λ a. use_fault again a p.1 h.rows) (arg_by_id s.rules p.0) []) pending [] ≡ []
          → Rows (settled_rows s.rules pending h.rows)
      at None none = had
      at (Some p) none = used-found (arg_by_id s.rules p.0) (found Rows _ s.rules each) p.1 h.rows none had

  reacted-keeps : (a : Rule) (values : List Text) (h : Held) → Keeps Rows a → react_fault s.rules again a values h ≡ [] → Rows h.rows → Rows (reacted s.rules a values h).rows
  reacted-keeps a values h keeps none had =
      let parts = either (settle_fault s.rules again h) _ none in
      keeps again values (settled s.rules h).rows parts.1 (settled-keeps h parts.0 had)

  option-keeps : (a : Rule) (v : Option Text) (h : Held) → Keeps Rows a → option_fault s.rules again a v h ≡ [] → Rows h.rows → Rows (option_met s.rules a v h).0.rows
  option-keeps a None h keeps none had = settled-keeps h none had
  option-keeps a (Some v) h keeps none had = reacted-keeps a (v ∷ []) h keeps none had

  long-keeps : (o : Option Rule) (v : Option Text) (h : Held) → KeepsFound Rows o → long_fault s.rules again o v h ≡ [] → Rows h.rows → Rows (long_met s.rules o v h).0.rows
  long-keeps None v h keeps none had = had
  long-keeps (Some a) v h keeps none had = at (takes_values a) v none
    where
      at : (takes : Bool) (v : Option Text)
          → cond takes (option_fault s.rules again a v h) (cond (is_some v) (kind.TooManyValues ∷ []) (react_fault s.rules again a [] h)) ≡ []
          → Rows (cond takes (option_met s.rules a v h) (flag_met s.rules a v h)).0.rows
      at true v none = option-keeps a v h keeps none had
      at false None none = reacted-keeps a [] h keeps none had
      at false (Some v) none = had

  short-keeps : (o : Option Rule) (rest : Text) (h : Held) (fault : Held → Kinds) (met : Held → Held × Outcome) → KeepsFound Rows o
      → ((h : Held) → fault h ≡ [] → Rows h.rows → Rows (met h).0.rows)
      → short_fault s.rules again o rest h fault ≡ [] → Rows h.rows → Rows (short_met s.rules o rest h met).0.rows
  short-keeps None rest h fault met keeps after none had = had
  short-keeps (Some a) rest h fault met keeps after none had = at (takes_values a) none
    where
      at : (takes : Bool)
          → cond takes (option_fault s.rules again a (attached_value rest) h) (or_else (react_fault s.rules again a [] h) (fault (reacted s.rules a [] h))) ≡ []
          → Rows (cond takes (option_met s.rules a (attached_value rest) h) (met (reacted s.rules a [] h))).0.rows
      at true none = option-keeps a (attached_value rest) h keeps none had
      at false none =
          let parts = either (react_fault s.rules again a [] h) _ none in
          after (reacted s.rules a [] h) parts.1 (reacted-keeps a [] h keeps parts.0 had)

  bundle-keeps : (k : ℕ) (flags : Text) (skip : ℕ) (so_far : Outcome) (h : Held) → flags_fault s.rules again k flags skip h ≡ [] → Rows h.rows
      → Rows (bundle_met s.rules k flags skip so_far h).0.rows
  unfolding flags_fault bundle_met
  bundle-keeps zero flags skip so_far h none had = had
  bundle-keeps (suc k) flags skip so_far h none had = at (slice_get (chars flags) 0) skip none (bundle-keeps k)
    where
      at : (o : Option ℕ) (skip : ℕ) → bundle_step_fault s.rules again o flags skip h (flags_fault s.rules again k) ≡ []
          → ((flags : Text) (skip : ℕ) (so_far : Outcome) (h : Held) → flags_fault s.rules again k flags skip h ≡ [] → Rows h.rows
          → Rows (bundle_met s.rules k flags skip so_far h).0.rows)
          → Rows (bundle_step s.rules o flags skip so_far h (bundle_met s.rules k)).0.rows
      at None skip none further = had
      at (Some x) zero none further =
          short-keeps (arg_by_short s.rules x) (drop (length (encode_utf8 x)) flags) h _ _ (found Rows _ s.rules each)
          (λ h none had. further (drop (length (encode_utf8 x)) flags) 0 done h none had) none had
      at (Some x) (suc skip) none further = further (drop (length (encode_utf8 x)) flags) skip so_far h none had

  plain-keeps : (waiting : Waiting) (word : Text) (h : Held) → Rows h.rows → Rows (plain_word s.rules waiting word h).0.rows
  plain-keeps idle word h had = had
  plain-keeps positional word h had = had
  plain-keeps (option id) word h had = at (arg_by_id s.rules id)
    where
      at : (o : Option Rule) → Rows (option_word o id word h).0.rows
      at None = had
      at (Some a) = had

  after-keeps : (waiting : Waiting) (word : Text) (h : Held) (outcome : Outcome) → Rows h.rows → Rows (after_flag s.rules waiting word h outcome).0.rows
  after-keeps waiting word h done had = had
  after-keeps waiting word h (waits id) had = had
  after-keeps waiting word h plain had = plain-keeps waiting word h had
  after-keeps waiting word h refused had = plain-keeps waiting word h had

  flag-keeps : (waiting : Waiting) (word : Text) (o : Option (Text × Option Text)) (h : Held) → flag_word_fault s.rules again o word h ≡ [] → Rows h.rows
      → Rows (long_or_other s.rules waiting word o h).0.rows
  flag-keeps waiting word (Some p) h none had =
      after-keeps waiting word (long_met s.rules (arg_by_long s.rules p.0) p.1 h).0 (long_met s.rules (arg_by_long s.rules p.0) p.1 h).1
      (long-keeps (arg_by_long s.rules p.0) p.1 h (found Rows _ s.rules each) none had)
  flag-keeps waiting word None h none had = at (short_of word) none
    where
      at : (o : Option Text) → option_map_or (λ flags. bundle_fault s.rules again flags h) o [] ≡ [] → Rows (short_or_plain s.rules waiting word o h).0.rows
      at None none = plain-keeps waiting word h had
      at (Some flags) none =
          after-keeps waiting word (bundle s.rules flags h).0 (bundle s.rules flags h).1
          (bundle-keeps (length flags) flags h.skip plain (record h { skip = 0 }) none had)

  other-keeps : (o : Option Text) (waiting : Waiting) (position : ℕ) (word : Text) (h : Held) → other_fault s o word h ≡ [] → Rows h.rows
      → Rows (subcommand_or_other s.rules o waiting position word h).0.rows
  other-keeps (Some name) waiting position word h none had = had
  other-keeps None waiting position word h none had = at (bytes_eq word (45 ∷ 45 ∷ [])) none
    where
      at : (ends : Bool) → cond ends [] (flag_word_fault s.rules again (long_of word) word h) ≡ []
          → Rows (cond ends (h, trailing position) (long_or_other s.rules waiting word (long_of word) h)).0.rows
      at true none = had
      at false none = flag-keeps waiting word (long_of word) h none had

  met-keeps : (names : Names) (is_trailing : Bool) (waiting : Waiting) (position : ℕ) (word : Text) (h : Held)
      → word_fault s names is_trailing waiting word h ≡ [] → Rows h.rows → Rows (word_met s.rules names is_trailing waiting position word h).0.rows
  met-keeps names true waiting position word h none had = had
  met-keeps names false waiting position word h none had = other-keeps (subcommand_met names waiting word) waiting position word h none had

  step-keeps : (w : Walk) (word : Text) (h : Held) (step : Step) → step_fault s w.position h step ≡ [] → Rows h.rows → Rows (after_step s.rules word w h step).held.rows
  step-keeps w word h (next waiting) none had = had
  step-keeps w word h (trailing position) none had = had
  step-keeps w word h (subcommand name) none had = had
  step-keeps w word h value none had = at (arg_by_index s.rules w.position) none
    where
      put : (a : Rule) (more : Bool) → cond more [] (settle_fault s.rules again h) ≡ [] → Rows (cond more h (settled s.rules h)).rows
      put a true none = had
      put a false none = settled-keeps h none had

      at : (o : Option Rule) → option_map_or (λ a. positional_fault s.rules again a h) o (stray_fault s) ≡ [] → Rows (to_positional s.rules o word w h).held.rows
      at None none = had
      at (Some a) none = put a (is_pending a h.pending && takes_several a) none

  walked-keeps : (names : Names) (w : Walk) (word : Text) → turn_fault s names w word ≡ [] → Rows w.held.rows → Rows (walked s.rules names w word).held.rows
  unfolding walked
  walked-keeps names w word none had = at w.stopped none
    where
      at : (stopped : Option (Text × List Text))
          → cond (is_some stopped) [] (or_else (word_fault s names w.is_trailing w.waiting word w.held)
          (step_fault s w.position (word_met s.rules names w.is_trailing w.waiting w.position word w.held).0 (word_met s.rules names w.is_trailing w.waiting w.position word w.held).1)) ≡ []
          → Rows (walked_from s.rules names stopped w word).held.rows
      at (Some p) none = had
      at None none =
          let parts = either (word_fault s names w.is_trailing w.waiting word w.held) _ none in
          step-keeps w word (word_met s.rules names w.is_trailing w.waiting w.position word w.held).0 (word_met s.rules names w.is_trailing w.waiting w.position word w.held).1 parts.1
          (met-keeps names w.is_trailing w.waiting w.position word w.held parts.0 had)

  walk-keeps : (names : Names) (w : Walk) (words : List Text) → walk_fault s names w words ≡ [] → Rows w.held.rows → Rows (fold (walked s.rules names) w words).held.rows
  unfolding walk_fault
  walk-keeps names w [] none had = had
  walk-keeps names w (word ∷ rest) none had =
      let parts = either (turn_fault s names w word) _ none in
      walk-keeps names (walked s.rules names w word) rest parts.1 (walked-keeps names w word parts.0 had)

  defaults-keep : (rules : List Rule) (rows : List Row) → Each Rows rules → Rows rows → Rows (fold with_default rows rules)
  defaults-keep [] rows each had = had
  defaults-keep (a ∷ rest) rows each had = defaults-keep rest (with_default rows a) each.1 (each.0.1 rows had)

  -- the rows of a command that takes the words
  pub rows_taken : (words : List Text) → Rows [] → level_fault s [] nothing_held words false [] ≡ [] → Rows (rows_after s.rules [] words)
  rows_taken words nothing none =
      let end = (walk s.rules [] nothing_held words).held in
      let first = either (walk_fault s [] (walk_from nothing_held) words) _ none in
      let last = either (settle_fault s.rules again end) _ first.1 in
      defaults-keep s.rules (settled s.rules end).rows each
      (settled-keeps end last.0 (walk-keeps [] (walk_from nothing_held) words first.0 nothing))
