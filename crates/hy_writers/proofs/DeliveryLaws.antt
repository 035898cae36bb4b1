-- A delivery, line by line and write by write.
use Rattle.std.proofs.Common.{◌≡◌, ℕ, zero, suc, ◌+◌, ◌<◌, ◌≤◌, ℤ, pos, ◌+ℤ◌, true, false, cond, List, [], ◌∷◌, ◌++◌, length, map, drop, refl, sym, ap, ap₂, subst, ◌∙◌, arith}
use Rattle.std.specs.Prelude.{slice_set, slice_index_or, All, option_to_list}
use Rattle.std.proofs.Math.Seq.{drop-cons}
use Rattle.std.proofs.lemmas.List.{length-set}
use Rattle.std.proofs.lemmas.Int.{ints}
use Rattle.std.proofs.lemmas.List.Elements.{All-head, All-set, All-tail}
use Rattle.std.proofs.lemmas.Option.{slice_get-get_or}
use Rattle.hy_rows.specs.declared.order.Order.{Order}
use Rattle.hy_rows.specs.Limits.{max_lines}
use Rattle.hy_rows.specs.Rows.{order_line_of}
use Rattle.hy_schema.specs.Conditions.{column_sum}
use Rattle.hy_schema.specs.Related.{is_line_of, lines_of}
use Rattle.hy_indexes.specs.of_index.Index.{IsInOrder, between}
use Rattle.hy_commands.specs.OrderStatus.{is_lesser_line}
use Rattle.hy_commands.specs.Sorting.{inserted, sorted, with_all_changed}
use Rattle.hy_indexes.specs.of_store.Keys.{is_lesser_line as is_lesser_key}
use Rattle.hy_indexes.proofs.IndexLaws.{between-in}
use Rattle.hy_indexes.proofs.KeyOrders.{order-of_lines}
use Rattle.hy_commands.specs.Growth.{IsLineAmount}
use Rattle.hy_rows.specs.declared.order_line.OrderLine.{OrderLine}
use Rattle.hy_indexes.specs.of_index.declared.key.Entry.{Entry}
use Rattle.hy_commands.specs.Deliveries.{delivered_line, order_cents}
use Rattle.hy_indexes.specs.of_store.declared.keys.LineKey.{LineKey}
use Rattle.hy_indexes.specs.of_store.Stored.{Stored}
use Rattle.hy_writers.proofs.FindLaws.{within-at}
use Rattle.hy_writers.proofs.LineLaws.{walked-cents, walked-rows}
use Rattle.hy_writers.proofs.OrderLinesLaws.{behind_lines, first_line, line_places, lines-sorted, listed-lines}
use Rattle.hy_writers.proofs.SumLaws.{column_sum-sorted}
use Rattle.hy_writers.proofs.WaitingLaws.{all-in}
use Rattle.hy_writers.proofs.WritesLaws.{all-at}
use Rattle.hy_writers.specs.Deliveries.{DeliversLine, HasLinesOf, Walked, lines_at, places_of, walk_over, walked, walked_line, with_lines}

-- ---- a line more

pub lines-again : (old mid new : Stored) (rows : List OrderLine) → mid ≡ with_lines old mid.tables.order_lines
    → new ≡ with_lines mid rows → new ≡ with_lines old new.tables.order_lines
lines-again old mid new rows before is =
    let lines : new.tables.order_lines ≡ rows = ap (λ (s : Stored). s.tables.order_lines) is in
    is ∙ ap (λ (s : Stored). with_lines s rows) before ∙ ap (with_lines old) (sym lines)

-- what a delivered line makes of the lines
pub delivered-rows : (moment place : ℕ) (old new : Stored) (row : OrderLine) → DeliversLine moment place row old new
    → new.tables.order_lines ≡ slice_set old.tables.order_lines place (delivered_line moment row)
delivered-rows moment place old new row delivers = ap (λ (s : Stored). s.tables.order_lines) delivers.rows

pub walk-on : (moment index : ℕ) (entries : List (Entry LineKey)) (d : Entry LineKey) (old new : Stored)
    (row : OrderLine) (cents sum : ℤ) (whole : Walked) → index < length entries
    → DeliversLine moment (slice_index_or entries index d).slot row old new → sum ≡ cents +ℤ row.amount
    → walked moment (places_of (drop index entries))
    (record { rows = old.tables.order_lines; cents = cents }) ≡ whole
    → walked moment (places_of (drop (index + 1) entries))
    (record { rows = new.tables.order_lines; cents = sum }) ≡ whole
walk-on moment index entries d old new row cents sum whole within delivers is_sum before =
    let slots : Entry LineKey → ℕ = λ (entry : Entry LineKey). entry.slot in
    let entry : Entry LineKey = slice_index_or entries index d in
    let next : suc index ≡ index + 1 = omega arith in
    let rest : drop index entries ≡ entry ∷ drop (index + 1) entries =
    drop-cons entries index d within ∙ ap (λ k. entry ∷ drop k entries) next in
    ap₂ (λ (rows : List OrderLine) (c : ℤ). walked moment (map slots (drop (index + 1) entries)) (record { rows = rows; cents = c }))
    (delivered-rows moment entry.slot old new row delivers) is_sum
    ∙ ap (λ found. walked moment (map slots (drop (index + 1) entries))
    (walked_line moment entry.slot (record { rows = old.tables.order_lines; cents = cents }) found)) (sym delivers.here)
    ∙ ap (λ some. walked moment (map slots some) (record { rows = old.tables.order_lines; cents = cents })) (sym rest)
    ∙ before

pub many-lines : (moment place : ℕ) (old new : Stored) (row : OrderLine) → DeliversLine moment place row old new
    → length new.tables.order_lines ≡ length old.tables.order_lines
many-lines moment place old new row delivers =
    ap length (delivered-rows moment place old new row delivers)
    ∙ length-set old.tables.order_lines place (delivered_line moment row)

pub amounts-kept : (moment place : ℕ) (old new : Stored) (row : OrderLine) → DeliversLine moment place row old new
    → All (λ (row : OrderLine). IsLineAmount row.amount) old.tables.order_lines
    → All (λ (row : OrderLine). IsLineAmount row.amount) new.tables.order_lines
amounts-kept moment place old new row delivers all =
    subst (All (λ (row : OrderLine). IsLineAmount row.amount)) (sym (delivered-rows moment place old new row delivers))
    (All-set (λ (row : OrderLine). IsLineAmount row.amount) old.tables.order_lines place (delivered_line moment row)
    (all-at (λ (row : OrderLine). IsLineAmount row.amount) old.tables.order_lines place row all delivers.here) all)

pub walk-end : (moment index : ℕ) (entries : List (Entry LineKey)) (now : Stored) (cents : ℤ) (whole : Walked)
    → length entries ≤ index → walked moment (places_of (drop index entries))
    (record { rows = now.tables.order_lines; cents = cents }) ≡ whole → now.tables.order_lines ≡ whole.rows
walk-end moment index entries now cents whole past is =
    let slots : Entry LineKey → ℕ = λ (entry : Entry LineKey). entry.slot in
    let none : drop index entries ≡ [] = drop-past index entries past in
    ap (λ (w : Walked). w.rows)
    (ap (λ some. walked moment (map slots some) (record { rows = now.tables.order_lines; cents = cents })) (sym none) ∙ is)
  where
    drop-past : (index : ℕ) (entries : List (Entry LineKey)) → length entries ≤ index → drop index entries ≡ []
    drop-past zero [] past = refl
    drop-past zero (entry ∷ entries) past = absurd (omega (arith, past))
    drop-past (suc index) [] past = refl
    drop-past (suc index) (entry ∷ entries) past = drop-past index entries (omega (arith, past))

-- ---- the lines of an order

module _ (moment : ℕ) (order : Order) (s : Stored) (in_order : IsInOrder is_lesser_key s.lines)
    (lines : HasLinesOf order.warehouse order s) where
  abbrev own_places : List ℕ
  own_places = line_places order s.lines

  sorted-lines : sorted is_lesser_line (lines_of order s.tables.order_lines) ≡ lines_at s.tables.order_lines own_places
  sorted-lines = lines-sorted order.warehouse order s.tables.order_lines s.lines lines.own lines.home in_order lines.index lines.unique

  pub walk-rows : (walk_over moment own_places s).rows
      ≡ with_all_changed (is_line_of order) (delivered_line moment) s.tables.order_lines
  walk-rows = walked-rows moment own_places (record { rows = s.tables.order_lines; cents = pos 0 }) (is_line_of order)
      (listed-lines order.warehouse order s.tables.order_lines s.lines lines.own lines.home in_order lines.index)

  pub walk-cents : (walk_over moment own_places s).cents ≡ order_cents order s.tables.order_lines
  walk-cents =
      let walked_sum = walked-cents moment own_places (record { rows = s.tables.order_lines; cents = pos 0 }) in
      let same = ap (column_sum (λ (row : OrderLine). row.amount)) sorted-lines in
      let sum = column_sum-sorted is_lesser_line (λ (row : OrderLine). row.amount) (lines_of order s.tables.order_lines) in
      omega (arith, ints, walked_sum, same, sum)

  own : List (Entry LineKey)
  own = between is_lesser_key (first_line order) (behind_lines order) s.lines

  pub entries-there : All (λ (entry : Entry LineKey). entry.slot < length s.tables.order_lines)
      (between is_lesser_key (first_line order) (behind_lines order) s.lines)
  entries-there = all-in (λ (entry : Entry LineKey). entry.slot < length s.tables.order_lines)
      (between is_lesser_key (first_line order) (behind_lines order) s.lines)
      (λ entry there.
      let kept = between-in is_lesser_key order-of_lines (first_line order) (behind_lines order) s.lines entry there in
      let row = lines.index.there entry kept.0 in
      within-at s.tables.order_lines entry.slot row.0 row.1)

  pub entries-few : length (between is_lesser_key (first_line order) (behind_lines order) s.lines) ≤ max_lines
  entries-few =
      let many = length-lines_at (between is_lesser_key (first_line order) (behind_lines order) s.lines) entries-there in
      let same = ap length sorted-lines in
      let sorting = length-sorted (lines_of order s.tables.order_lines) in
      let few = lines.few in
      omega (arith, many, same, sorting, few)
    where
      length-lines_at : (entries : List (Entry LineKey))
          → All (λ (entry : Entry LineKey). entry.slot < length s.tables.order_lines) entries
          → length (lines_at s.tables.order_lines (map (λ (entry : Entry LineKey). entry.slot) entries)) ≡ length entries
      length-lines_at [] all = refl
      length-lines_at (entry ∷ entries) all =
          let within = All-head (λ (entry : Entry LineKey). entry.slot < length s.tables.order_lines) entry entries all in
          let rest = length-lines_at entries (All-tail (λ (entry : Entry LineKey). entry.slot < length s.tables.order_lines) entry entries all) in
          subst (λ found. length (option_to_list found ++ lines_at s.tables.order_lines (map (λ (entry : Entry LineKey). entry.slot) entries)) ≡ suc (length entries))
          (sym (slice_get-get_or s.tables.order_lines entry.slot (order_line_of []) within)) (ap suc rest)

      length-inserted : (new : OrderLine) (rows : List OrderLine) → length (inserted is_lesser_line new rows) ≡ suc (length rows)
      length-inserted new [] = refl
      length-inserted new (row ∷ rows) =
          elim (is_lesser_line new row) as (λ b. length (cond b (new ∷ row ∷ rows) (row ∷ inserted is_lesser_line new rows)) ≡ suc (suc (length rows))) [
            | true ↦ refl
            | false ↦ ap suc (length-inserted new rows)
          ]

      length-sorted : (rows : List OrderLine) → length (sorted is_lesser_line rows) ≡ length rows
      length-sorted [] = refl
      length-sorted (row ∷ rows) = length-inserted row (sorted is_lesser_line rows) ∙ ap suc (length-sorted rows)
