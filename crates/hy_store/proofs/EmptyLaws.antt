-- A store without rows.
use Rattle.std.proofs.Common.{◌≡◌, ℕ, ◌+◌, ◌<◌, ◌≤◌, zero, suc, List, [], ◌∷◌, ◌++◌, length, replicate, Option, refl, sym, ap, ap₂, ◌∙◌, subst, arith, length-append, lit≤}
use Rattle.std.proofs.lemmas.List.{append-nil, get_or-replicate, length-replicate}
use Rattle.std.proofs.lemmas.Option.{slice_get_within}
use Rattle.hy_page.proofs.ByteLaws.{field_of_zeros}
use Rattle.hy_rows.specs.declared.new_order.NewOrder.{NewOrder}
use Rattle.hy_rows.specs.Rows.{new_order_of}
use Rattle.hy_rows.specs.Spelling.{IsTable, list_at, slots_end, slots_of, tables_of, used_slots}
use Rattle.hy_store.specs.Stored.{new_order_segment}
use Rattle.hy_rows.specs.Catalogue.{row_widths, segments}
use Rattle.hy_rows.specs.Tables.{Tables, no_rows}
use Rattle.hy_rows.specs.inside.Places.{segment_there}
use Rattle.hy_space.specs.Space.{SpaceState, owner_bytes, with_new_page}
use Rattle.hy_index.specs.declared.key.Entry.{Entry}
use Rattle.hy_index.proofs.IndexLaws.{empty-entries, empty-index}
use Rattle.hy_store.specs.declared.keys.CustomerKey.{CustomerKey}
use Rattle.hy_store.specs.declared.keys.LineKey.{LineKey}
use Rattle.hy_store.specs.declared.keys.OrderKey.{OrderKey}
use Rattle.hy_store.specs.declared.keys.WaitingKey.{WaitingKey}
use Rattle.hy_store.specs.Keys.{IsCustomerKey, IsLineKey, IsOrderKey, IsWaitingKey, customer_key_bytes, customer_key_of, line_key_bytes, line_key_of, order_key_bytes, order_key_of, waiting_key_bytes, waiting_key_of}
use Rattle.hy_store.specs.Pages.{HasPagesUpTo, IsIndexAt, key_widths}
use Rattle.hy_store.specs.Stored.{AreIndexes, HasStore, Stored, all_segments, last_order_index, line_index, nothing_stored, order_index, waiting_index}
use Rattle.hy_store.specs.Writes.{stored_in}

-- so many segments with one page of zeros, and others without a page
abbrev pub filled : ℕ → ℕ → ℕ → List (List (List ℕ))
filled n count left = replicate count (replicate n 0 ∷ []) ++ replicate left []

filled-next : (n count rest : ℕ) → with_new_page (filled n count (suc rest)) count (replicate n 0) ≡ filled n (suc count) rest
filled-next n zero rest = refl
filled-next n (suc count) rest = ap (λ others. (replicate n 0 ∷ []) ∷ others) (filled-next n count rest)

pub filled-more : (n count left rest next : ℕ) → left ≡ rest + 1 → next ≡ count + 1 → with_new_page (filled n count left) count (replicate n 0) ≡ filled n next rest
filled-more n count left rest next some step =
    let one_more : left ≡ suc rest = omega (arith, some) in
    let one_next : suc count ≡ next = omega (arith, step) in
    ap (λ l. with_new_page (filled n count l) count (replicate n 0)) one_more ∙ filled-next n count rest ∙ ap (λ k. filled n k rest) one_next

pub length-filled : (n count left : ℕ) → length (filled n count left) ≡ count + left
length-filled n count left = length-append (replicate count (replicate n 0 ∷ [])) (replicate left []) ∙ ap₂ ◌+◌ (length-replicate count (replicate n 0 ∷ [])) (length-replicate left [])

pub filled-all : (n count left : ℕ) → left ≡ 0 → filled n count left ≡ replicate count (replicate n 0 ∷ [])
filled-all n count left none = ap (filled n count) none ∙ append-nil (replicate count (replicate n 0 ∷ []))

module _ (n : ℕ) (smallest : 256 ≤ n) where
  -- a segment with a page of zeros, and so many as a store has
  abbrev pub zero_segment : List (List ℕ)
  zero_segment = replicate n 0 ∷ []

  abbrev pub zero_segments : List (List (List ℕ))
  zero_segments = replicate all_segments zero_segment

  none_used : used_slots zero_segment ≡ 0
  none_used = field_of_zeros n 0 8 (omega arith)

  zero-at : (segment : ℕ) → segment < all_segments → list_at zero_segments segment ≡ zero_segment
  zero-at segment within = get_or-replicate all_segments segment zero_segment [] within

  tables_of-zero : tables_of n zero_segments ≡ no_rows
  tables_of-zero = rw none_used refl

  slots_of-zero : slots_of n 6 new_order_of (list_at zero_segments new_order_segment) ≡ []
  slots_of-zero = rw none_used refl

  module _ (space : SpaceState) (zeros : owner_bytes space ≡ zero_segments) where
    pages : (segment : ℕ) → segment < all_segments → list_at (owner_bytes space) segment ≡ zero_segment
    pages segment within = ap (λ (bytes : List (List (List ℕ))). list_at bytes segment) zeros ∙ zero-at segment within

    unused : (segment : ℕ) → segment < all_segments → used_slots (list_at (owner_bytes space) segment) ≡ 0
    unused segment within = ap used_slots (pages segment within) ∙ none_used

    below : (segment width : ℕ) → IsTable segment width → segment < all_segments
    below segment width table = let first : segment < segments = segment_there segment width table in omega (arith, first)

    pub store-zero : HasStore n (owner_bytes space)
    unfolding AreIndexes
    store-zero = record {
      all = subst (λ (bytes : List (List (List ℕ))). all_segments ≤ length bytes) (sym zeros) (lit≤ tt);
      tables = record {
        all_segments = subst (λ (bytes : List (List (List ℕ))). segments ≤ length bytes) (sym zeros) (lit≤ tt);
        slots = λ segment width table.
            let within = below segment width table in
            record {
              first = omega (arith, ap length (pages segment within));
              slots = omega (arith, ap (slots_end n width) (unused segment within));
            };
      };
      keeps = λ segment width table lasts k used. absurd (omega (arith, used, unused segment (below segment width table)));
      indexes = record {
        orders = empty-index n 5 order_key_bytes order_key_of IsOrderKey (list_at (owner_bytes space) order_index) (omega arith) (pages order_index (lit≤ tt));
        last_orders = empty-index n 3 customer_key_bytes customer_key_of IsCustomerKey (list_at (owner_bytes space) last_order_index) (omega arith) (pages last_order_index (lit≤ tt));
        waiting = empty-index n 5 waiting_key_bytes waiting_key_of IsWaitingKey (list_at (owner_bytes space) waiting_index) (omega arith) (pages waiting_index (lit≤ tt));
        lines = empty-index n 6 line_key_bytes line_key_of IsLineKey (list_at (owner_bytes space) line_index) (omega arith) (pages line_index (lit≤ tt));
      };
    }

    abbrev says : Tables → List (Option NewOrder) → List (Entry OrderKey) → List (Entry CustomerKey) → List (Entry WaitingKey) → List (Entry LineKey) → Stored
    says tables slots orders last_orders waiting lines = record {
      tables = tables;
      new_order_slots = slots;
      orders = orders;
      last_orders = last_orders;
      waiting = waiting;
      lines = lines;
    }

    pub stored-zero : stored_in n space ≡ nothing_stored
    stored-zero =
        let now : Stored = stored_in n space in
        ap (λ tables. says tables now.new_order_slots now.orders now.last_orders now.waiting now.lines) (ap (tables_of n) zeros ∙ tables_of-zero)
        ∙ ap (λ slots. says no_rows slots now.orders now.last_orders now.waiting now.lines) (ap (λ (bytes : List (List (List ℕ))). slots_of n 6 new_order_of (list_at bytes new_order_segment)) zeros ∙ slots_of-zero)
        ∙ ap (λ entries. says no_rows [] entries now.last_orders now.waiting now.lines) (empty-entries n 5 order_key_bytes order_key_of IsOrderKey (list_at (owner_bytes space) order_index) (omega arith) (pages order_index (lit≤ tt)))
        ∙ ap (λ entries. says no_rows [] [] entries now.waiting now.lines) (empty-entries n 3 customer_key_bytes customer_key_of IsCustomerKey (list_at (owner_bytes space) last_order_index) (omega arith) (pages last_order_index (lit≤ tt)))
        ∙ ap (λ entries. says no_rows [] [] [] entries now.lines) (empty-entries n 5 waiting_key_bytes waiting_key_of IsWaitingKey (list_at (owner_bytes space) waiting_index) (omega arith) (pages waiting_index (lit≤ tt)))
        ∙ ap (λ entries. says no_rows [] [] [] [] entries) (empty-entries n 6 line_key_bytes line_key_of IsLineKey (list_at (owner_bytes space) line_index) (omega arith) (pages line_index (lit≤ tt)))

    index_there : (segment width : ℕ) → IsIndexAt segment width → segment < all_segments
    index_there segment width index = slice_get_within (row_widths ++ key_widths) segment width index.width

    pub pages-zero : (most : ℕ → ℕ) → HasPagesUpTo n most (owner_bytes space)
    pages-zero most = record {
      all = ap length zeros;
      slots = λ segment width table. omega (arith, unused segment (below segment width table));
      few = λ segment width table. omega (arith, ap length (pages segment (below segment width table)));
      indexes = λ segment width index. omega (arith, ap length (pages segment (index_there segment width index)));
    }
