-- What a command has passed that a warehouse begins, or of which it does its part.
use Rattle.std.specs.Prelude.{◌≡◌, ◌<◌, ◌^◌, ℕ, length, All}
use Rattle.hy_rows.specs.Limits.{districts_per_warehouse, max_carriers, max_lines, max_moment, max_payment, max_quantity, min_lines, min_payment}
use Rattle.hy_rows.specs.Ranges.{IsBetween}
use Rattle.hy_commands.specs.declared.command.Delivery.{Delivery}
use Rattle.hy_commands.specs.declared.command.Payment.{Payment}
use Rattle.hy_commands.specs.declared.command.Purchase.{Purchase}
use Rattle.hy_commands.specs.declared.command.PurchaseLine.{PurchaseLine}

abbrev pub IsDistrict : ℕ → Type 0
IsDistrict number = IsBetween 1 districts_per_warehouse number

-- a payment that a warehouse takes in: the number of the customer's warehouse fits its column
pub record IsHomePayment (warehouse : ℕ) (payment : Payment) : Type 0 where
  pub home : payment.warehouse ≡ warehouse
  pub district : IsDistrict payment.district
  pub customer_warehouse : payment.customer_warehouse < 2 ^ 8
  pub customer_district : IsDistrict payment.customer_district
  pub amount : IsBetween min_payment max_payment payment.amount
  pub moment : IsBetween 1 max_moment payment.at

-- a payment by a customer of a warehouse
pub record IsCustomerPayment (warehouse : ℕ) (payment : Payment) : Type 0 where
  pub customer_home : payment.customer_warehouse ≡ warehouse
  pub amount : IsBetween min_payment max_payment payment.amount

-- a line of a purchase: the number of the warehouse that supplies it fits its column
pub record IsBegunLine (line : PurchaseLine) : Type 0 where
  pub supplier : line.supply_warehouse < 2 ^ 8
  pub quantity : IsBetween 1 max_quantity line.quantity

pub record IsBegunPurchase (warehouse : ℕ) (order : Purchase) : Type 0 where
  pub home : order.warehouse ≡ warehouse
  pub district : IsDistrict order.district
  pub moment : IsBetween 1 max_moment order.at
  pub count : IsBetween min_lines max_lines (length order.lines)
  pub lines : All IsBegunLine order.lines

pub record IsBegunDelivery (warehouse : ℕ) (delivery : Delivery) : Type 0 where
  pub home : delivery.warehouse ≡ warehouse
  pub carrier : IsBetween 1 max_carriers delivery.carrier
  pub moment : IsBetween 1 max_moment delivery.at
