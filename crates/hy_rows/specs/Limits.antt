-- The limits of values, each once.
use Rattle.std.specs.Prelude.{ℕ}

-- W_ID goes from 1 up to this
abbrev pub max_warehouses : ℕ
max_warehouses = 16

-- D_ID goes from 1 up to this (TPC-C clause 1.2.1)
abbrev pub districts_per_warehouse : ℕ
districts_per_warehouse = 10

-- C_ID goes from 1 up to this (TPC-C clause 1.2.1)
abbrev pub max_customers : ℕ
max_customers = 3_000

-- the greatest number of an order
abbrev pub max_order : ℕ
max_order = 1_000_000_000

-- the greatest amount in cents that a loaded row may have
abbrev pub max_cents : ℕ
max_cents = 1_000_000_000_000_000

-- the greatest number that a loaded row may count: payments and deliveries of a customer, sales and orders of a stock
abbrev pub max_count : ℕ
max_count = 1_000_000_000_000_000

-- the whole, in ten-thousandths
abbrev pub max_rate : ℕ
max_rate = 10_000

-- what is paid at once, in cents (TPC-C clause 2.5.1.3)
abbrev pub min_payment : ℕ
min_payment = 100

abbrev pub max_payment : ℕ
max_payment = 500_000

-- the last moment
abbrev pub max_moment : ℕ
max_moment = 1_000_000_000_000_000

-- O_CARRIER_ID goes from 1 up to this (TPC-C clause 2.7.1.2)
abbrev pub max_carriers : ℕ
max_carriers = 10

-- the least and the greatest number of lines of an order (TPC-C clause 2.4.1.3)
abbrev pub min_lines : ℕ
min_lines = 5

abbrev pub max_lines : ℕ
max_lines = 15

-- the greatest quantity of an order line (TPC-C clause 2.4.1.5)
abbrev pub max_quantity : ℕ
max_quantity = 10

-- the greatest amount of an order line in cents
abbrev pub max_line_cents : ℕ
max_line_cents = 10_000_000

-- the greatest quantity of an item that a loaded row has in stock
abbrev pub max_stock : ℕ
max_stock = 9_999

-- I_ID goes from 1 up to this (TPC-C clause 1.2.1)
abbrev pub max_items : ℕ
max_items = 100_000

-- I_IM_ID goes from 1 up to this (TPC-C clause 4.3.3.1)
abbrev pub max_images : ℕ
max_images = 10_000

-- the greatest price of an item in cents
abbrev pub max_price : ℕ
max_price = 1_000_000
