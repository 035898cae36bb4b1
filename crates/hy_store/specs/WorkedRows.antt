-- What the checker computes: keys in their order and as bytes, and what the bytes of some pages say.
use Rattle.std.specs.Prelude.{◌≡◌, ℕ, zero, suc, true, false, None, Some, List, [], ◌∷◌, ◌++◌, replicate, slice_set}
use Rattle.std.proofs.Common.{refl, arith}
use Rattle.std.proofs.lemmas.Bool.{false≢true}
use Rattle.hy_rows.specs.declared.new_order.NewOrder.{NewOrder}
use Rattle.hy_rows.specs.Tables.{no_rows}
use Rattle.hy_index.specs.Writes.{entries}
use Rattle.hy_store.specs.declared.keys.CustomerKey.{CustomerKey}
use Rattle.hy_store.specs.declared.keys.LineKey.{LineKey}
use Rattle.hy_store.specs.declared.keys.OrderKey.{OrderKey}
use Rattle.hy_store.specs.declared.keys.WaitingKey.{WaitingKey}
use Rattle.hy_store.specs.Keys.{customer_key_bytes, customer_key_of, is_lesser_customer, is_lesser_line, is_lesser_order, is_lesser_waiting, line_key_bytes, line_key_of, order_key_bytes, order_key_of, waiting_key_bytes, waiting_key_of}
use Rattle.hy_store.specs.Stored.{HasAllRows, all_segments, new_order_segment, nothing_stored, stored, waiting_index}

-- ---- keys

abbrev order : ℕ → ℕ → OrderKey
order number district = record { order = number; district = district }

abbrev customer : ℕ → ℕ → CustomerKey
customer district number = record { district = district; customer = number }

abbrev waiting : ℕ → ℕ → WaitingKey
waiting district number = record { district = district; order = number }

abbrev line : ℕ → ℕ → ℕ → LineKey
line number district place = record { order = number; district = district; number = place }

-- orders stand by their number, and those of one number by their district
order_first : is_lesser_order (order 2 9) (order 3 1) ≡ true
order_first = refl

then_district : is_lesser_order (order 3 1) (order 3 2) ≡ true
then_district = refl

not_itself : is_lesser_order (order 3 1) (order 3 1) ≡ false
not_itself = refl

-- undelivered orders stand by their district, and within one by their number
district_first : is_lesser_waiting (waiting 1 3) (waiting 2 2) ≡ true
district_first = refl

oldest_first : is_lesser_waiting (waiting 1 255) (waiting 1 256) ≡ true
oldest_first = refl

-- so do customers
customer_of_earlier_district : is_lesser_customer (customer 1 3000) (customer 2 1) ≡ true
customer_of_earlier_district = refl

earlier_customer : is_lesser_customer (customer 2 1) (customer 2 256) ≡ true
earlier_customer = refl

-- lines stand by their order, its district and their number
line_of_earlier_order : is_lesser_line (line 2 9 15) (line 3 1 1) ≡ true
line_of_earlier_order = refl

line_of_earlier_district : is_lesser_line (line 3 1 15) (line 3 2 1) ≡ true
line_of_earlier_district = refl

earlier_line : is_lesser_line (line 3 2 1) (line 3 2 4) ≡ true
earlier_line = refl

-- as bytes
bytes_of_order : order_key_bytes (order 258 3) ≡ 0 ∷ 0 ∷ 1 ∷ 2 ∷ 3 ∷ []
bytes_of_order = refl

order_of_bytes : order_key_of (0 ∷ 0 ∷ 1 ∷ 2 ∷ 3 ∷ []) ≡ order 258 3
order_of_bytes = refl

bytes_of_customer : customer_key_bytes (customer 3 258) ≡ 3 ∷ 1 ∷ 2 ∷ []
bytes_of_customer = refl

customer_of_bytes : customer_key_of (3 ∷ 1 ∷ 2 ∷ []) ≡ customer 3 258
customer_of_bytes = refl

bytes_of_waiting : waiting_key_bytes (waiting 3 258) ≡ 3 ∷ 0 ∷ 0 ∷ 1 ∷ 2 ∷ []
bytes_of_waiting = refl

waiting_of_bytes : waiting_key_of (3 ∷ 0 ∷ 0 ∷ 1 ∷ 2 ∷ []) ≡ waiting 3 258
waiting_of_bytes = refl

bytes_of_line : line_key_bytes (line 258 3 4) ≡ 0 ∷ 0 ∷ 1 ∷ 2 ∷ 3 ∷ 4 ∷ []
bytes_of_line = refl

line_of_bytes : line_key_of (0 ∷ 0 ∷ 1 ∷ 2 ∷ 3 ∷ 4 ∷ []) ≡ line 258 3 4
line_of_bytes = refl

-- ---- pages of 44 bytes

-- two are used
abbrev two : List ℕ
two = 2 ∷ 0 ∷ 0 ∷ 0 ∷ 0 ∷ 0 ∷ 0 ∷ 0 ∷ []

abbrev one : List ℕ
one = 1 ∷ 0 ∷ 0 ∷ 0 ∷ 0 ∷ 0 ∷ 0 ∷ 0 ∷ []

-- two slots of NEW-ORDER: the row of the first was erased
abbrev new_orders : List (List ℕ)
new_orders = two ∷ (0 ∷ 5 ∷ 0 ∷ 0 ∷ 0 ∷ 3 ∷ 1 ∷ 1 ∷ 6 ∷ 0 ∷ 0 ∷ 0 ∷ 3 ∷ 1 ∷ []) ∷ []

-- a tree of one page: an entry for order 6 of district 3, with slot 1
abbrev undelivered : List (List ℕ)
undelivered = (one ++ 3 ∷ 0 ∷ 0 ∷ 0 ∷ 6 ∷ 1 ∷ 0 ∷ 0 ∷ 0 ∷ 0 ∷ 0 ∷ 0 ∷ 0 ∷ []) ∷ []

abbrev sixth : NewOrder
sixth = record { order = 6; district = 3; warehouse = 1 }

-- a row of NEW-ORDER in its second slot, and its entry
abbrev some_pages : List (List (List ℕ))
some_pages = slice_set (slice_set (replicate all_segments []) new_order_segment new_orders) waiting_index undelivered

pages_say : stored 44 some_pages ≡ record nothing_stored {
  tables = record no_rows { new_orders = sixth ∷ [] };
  new_order_slots = None ∷ Some sixth ∷ [];
  waiting = (record { key = waiting 3 6; slot = 1 }) ∷ [];
}
unfolding entries
pages_say = refl

-- without a page they say nothing
no_pages : stored 44 [] ≡ nothing_stored
unfolding entries
no_pages = refl

-- a table that never loses a row doesn't have such a slot
one_erased : HasAllRows 44 6 new_orders → ⊥
one_erased all = false≢true (all 0 (omega arith))

none_erased : HasAllRows 44 6 (one ∷ (1 ∷ 6 ∷ 0 ∷ 0 ∷ 0 ∷ 3 ∷ 1 ∷ []) ∷ [])
none_erased zero used = refl
none_erased (suc k) used = absurd (omega (arith, used))
