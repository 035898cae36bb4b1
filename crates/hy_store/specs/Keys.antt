-- The keys of the indexes: the columns in their order, and as bytes.
use Rattle.std.specs.Prelude.{ℕ, ◌<◌, ◌^◌, ◌++◌, Bool, List}
use Rattle.std.specs.Ordering.{is_lt, nat_cmp, ordering_then}
use Rattle.hy_page.specs.Bytes.{bytes_at}
use Rattle.hy_index.specs.KeyBytes.{high_bytes_of, high_number_of}
use Rattle.hy_store.specs.declared.keys.CustomerKey.{CustomerKey}
use Rattle.hy_store.specs.declared.keys.LineKey.{LineKey}
use Rattle.hy_store.specs.declared.keys.OrderKey.{OrderKey}
use Rattle.hy_store.specs.declared.keys.WaitingKey.{WaitingKey}

-- ---- (O_ID, O_D_ID)

abbrev pub order_key_bytes : OrderKey → List ℕ
order_key_bytes key = high_bytes_of 4 key.order ++ high_bytes_of 1 key.district

abbrev pub order_key_of : List ℕ → OrderKey
order_key_of bytes = record {
  order = high_number_of (bytes_at bytes 0 4);
  district = high_number_of (bytes_at bytes 4 1);
}

abbrev pub IsOrderKey : OrderKey → Type 0
IsOrderKey key = (key.order < 256 ^ 4) × (key.district < 256)

abbrev pub is_lesser_order : OrderKey → OrderKey → Bool
is_lesser_order one other =
    is_lt (ordering_then (nat_cmp one.order other.order) (nat_cmp one.district other.district))

-- ---- (C_D_ID, C_ID)

abbrev pub customer_key_bytes : CustomerKey → List ℕ
customer_key_bytes key = high_bytes_of 1 key.district ++ high_bytes_of 2 key.customer

abbrev pub customer_key_of : List ℕ → CustomerKey
customer_key_of bytes = record {
  district = high_number_of (bytes_at bytes 0 1);
  customer = high_number_of (bytes_at bytes 1 2);
}

abbrev pub IsCustomerKey : CustomerKey → Type 0
IsCustomerKey key = (key.district < 256) × (key.customer < 256 ^ 2)

abbrev pub is_lesser_customer : CustomerKey → CustomerKey → Bool
is_lesser_customer one other =
    is_lt (ordering_then (nat_cmp one.district other.district) (nat_cmp one.customer other.customer))

-- ---- (NO_D_ID, NO_O_ID)

abbrev pub waiting_key_bytes : WaitingKey → List ℕ
waiting_key_bytes key = high_bytes_of 1 key.district ++ high_bytes_of 4 key.order

abbrev pub waiting_key_of : List ℕ → WaitingKey
waiting_key_of bytes = record {
  district = high_number_of (bytes_at bytes 0 1);
  order = high_number_of (bytes_at bytes 1 4);
}

abbrev pub IsWaitingKey : WaitingKey → Type 0
IsWaitingKey key = (key.district < 256) × (key.order < 256 ^ 4)

abbrev pub is_lesser_waiting : WaitingKey → WaitingKey → Bool
is_lesser_waiting one other =
    is_lt (ordering_then (nat_cmp one.district other.district) (nat_cmp one.order other.order))

-- ---- (OL_O_ID, OL_D_ID, OL_NUMBER)

abbrev pub line_key_bytes : LineKey → List ℕ
line_key_bytes key = high_bytes_of 4 key.order ++ (high_bytes_of 1 key.district ++ high_bytes_of 1 key.number)

abbrev pub line_key_of : List ℕ → LineKey
line_key_of bytes = record {
  order = high_number_of (bytes_at bytes 0 4);
  district = high_number_of (bytes_at bytes 4 1);
  number = high_number_of (bytes_at bytes 5 1);
}

abbrev pub IsLineKey : LineKey → Type 0
IsLineKey key = (key.order < 256 ^ 4) × (key.district < 256) × (key.number < 256)

abbrev pub is_lesser_line : LineKey → LineKey → Bool
is_lesser_line one other =
    is_lt (ordering_then (nat_cmp one.order other.order)
    (ordering_then (nat_cmp one.district other.district) (nat_cmp one.number other.number)))
