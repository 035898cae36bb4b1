-- Slots that are cut into blocks.
use Rattle.std.proofs.Common.{◌≡◌, ℕ, ◌+◌, ◌<◌, ◌≤◌, Option, List, [], ◌∷◌, ◌++◌, append_assoc, length, take, drop, sym, subst, ap, ap₂, ◌∙◌, arith}
use Rattle.std.specs.Prelude.{All}
use Rattle.std.specs.List.{flat_map}
use Rattle.std.specs.Option.{option_to_list}
use Rattle.std.proofs.Math.Seq.{take-add}
use Rattle.std.proofs.lemmas.List.{append-nil, take_all, take_more}
use Rattle.std.proofs.lemmas.List.Concat.{flat_map-append}
use Rattle.std.proofs.lemmas.List.Elements.{All-push}
use Rattle.hy_query.specs.Rows.{Row}
use Rattle.hy_rows.specs.Spelling.{list_at, live_rows}
use Rattle.hy_columns.specs.Blocks.{IsAmong, rows_among}
use Rattle.hy_columns.specs.declared.block.Block.{Block}
use Rattle.hy_columns.specs.inside.Cuts.{Adds, Slots}

module _ (slots : Slots) (warehouse : ℕ) (old : List Block) where
  -- no block has no slot
  pub adds-none : Adds slots warehouse 0 old old
  adds-none = record { rows = sym (append-nil (flat_map (rows_among slots) old)); each = λ are. are }

  -- a block more, which begins where those before it end
  pub adds-more : (now new : List Block) (first count : ℕ)
      → new ≡ now ++ record { warehouse = warehouse; first = first; slots = count } ∷ []
      → warehouse < length slots → first + count ≤ length (list_at slots warehouse)
      → Adds slots warehouse first old now → Adds slots warehouse (first + count) old new
  adds-more now new first count is_new there within adds =
      let here : List (Option Row) = list_at slots warehouse in
      let before : List Row = flat_map (rows_among slots) old in
      let block : Block = record { warehouse = warehouse; first = first; slots = count } in
      let among : IsAmong slots block = record { there = there; within = within } in
      record {
        rows = ap (flat_map (rows_among slots)) is_new
            ∙ flat_map-append (rows_among slots) now (block ∷ [])
            ∙ ap₂ (λ (front behind : List Row). front ++ behind) adds.rows (append-nil (live_rows (take count (drop first here))))
            ∙ append_assoc before (live_rows (take first here)) (live_rows (take count (drop first here)))
            ∙ ap (λ (rows : List Row). before ++ rows) (sym (flat_map-append option_to_list (take first here) (take count (drop first here))))
            ∙ ap (λ (slots : List (Option Row)). before ++ live_rows slots) (sym (take-add first count here));
        each = λ are. subst (All (IsAmong slots)) (sym is_new) (All-push (IsAmong slots) now block (adds.each are) among);
      }

-- the rows in the slots of the warehouses so far, and then those of the next one
pub rows-cut : (slots : Slots) (place used : ℕ) (old new : List Block) → place < length slots → used ≡ length (list_at slots place)
    → Adds slots place used old new → flat_map (rows_among slots) old ≡ flat_map live_rows (take place slots)
    → flat_map (rows_among slots) new ≡ flat_map live_rows (take (place + 1) slots)
rows-cut slots place used old new there all adds before =
    let here : List (Option Row) = list_at slots place in
    adds.rows
    ∙ ap₂ (λ (front : List Row) (behind : List (Option Row)). front ++ live_rows behind) before (take_all used here (omega (arith, all)))
    ∙ ap (λ (rows : List Row). flat_map live_rows (take place slots) ++ rows) (sym (append-nil (live_rows here)))
    ∙ sym (flat_map-append live_rows (take place slots) (here ∷ []))
    ∙ ap (flat_map live_rows) (sym (take_more slots place [] there))
