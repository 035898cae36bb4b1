-- The customer who pays is the same by number, since no two customers of a warehouse have one key; and so is the reply.
use Rattle.std.proofs.Common.{◌≡◌, ◌≢◌, ℕ, ◌==◌, ◌&&◌, true, cond, List, [], ◌∷◌, filter, map, Option, Some, None, is_some, unwrap_or, refl, ap, ◌∙◌}
use Rattle.std.specs.Prelude.{All}
use Rattle.std.specs.List.{find}
use Rattle.std.proofs.lemmas.Bool.{and_from, and_parts, eq-eqb, false_from_ne_true}
use Rattle.std.proofs.lemmas.List.Elements.{All-cons, All-nil}
use Rattle.hy_rows.specs.Finding.{is_customer}
use Rattle.hy_rows.specs.Rows.{customer_of}
use Rattle.hy_rows.specs.Tables.{Tables}
use Rattle.hy_rows.specs.declared.customer.Customer.{Customer}
use Rattle.hy_rows.specs.declared.item.Item.{Item}
use Rattle.hy_schema.specs.Keys.{AreUnique, customer_key}
use Rattle.hy_schema.proofs.ChangedLists.{All-passing_also}
use Rattle.hy_commands.specs.declared.command.Command.{Command}
use Rattle.hy_commands.specs.declared.command.Who.{Who}
use Rattle.hy_commands.specs.declared.command.Who.TheVariants as who
use Rattle.hy_commands.specs.declared.reply.Reply.TheVariants as replies
use Rattle.hy_commands.specs.declared.edition.Edition.{Edition}
use Rattle.hy_commands.specs.inside.Kinds.{by_payment}
use Rattle.hy_commands.specs.Customers.{customer_meant, is_earlier, is_named}
use Rattle.hy_commands.specs.Parts.{by_number}
use Rattle.hy_commands.specs.Payments.{customer_paid}
use Rattle.hy_commands.specs.Sorting.{sorted}
use Rattle.hy_commands.specs.Transactions.{accepted, has_customer}
use Rattle.hy_commands.proofs.ListLaws.{All-of_both, unique-head, unique-tail}
use Rattle.hy_commands.proofs.OnceLaws.{All-keys, tells-three}
use Rattle.hy_database.proofs.PartLaws.{All-some, All-sorted, number-chosen, same-numbered, some-value}

module _ (warehouse district : ℕ) where
  -- a customer of the district is found by number
  abbrev Found : List Customer → Customer → Type 0
  Found rows row =
      is_customer warehouse district row.id row ≡ true → find (is_customer warehouse district row.id) rows ≡ Some row

  later-found : (first : Customer) (rows : List Customer) (row : Customer) → customer_key first ≢ customer_key row
      → Found rows row → Found (first ∷ rows) row
  later-found first rows row apart found passes =
      let itself = tells-three row.warehouse row.district row.id warehouse district row.id passes in
      ap (λ b. cond b (Some first) (find (is_customer warehouse district row.id) rows))
      (false_from_ne_true (is_customer warehouse district row.id first) (λ also.
      let other = tells-three first.warehouse first.district first.id warehouse district row.id also in
      apart (rw (other.0, other.1, other.2, itself.0, itself.1) refl)))
      ∙ found passes

  own-found : (rows : List Customer) → AreUnique (map customer_key rows) → All (Found rows) rows
  own-found [] unique = All-nil (Found [])
  own-found (first ∷ rows) unique =
      All-cons (Found (first ∷ rows)) first rows
      (λ passes. ap (λ b. cond b (Some first) (find (is_customer warehouse district first.id) rows)) passes)
      (All-of_both (λ row. customer_key first ≢ customer_key row) (Found rows) (Found (first ∷ rows)) rows
      (later-found first rows)
      (All-keys (λ key. customer_key first ≢ key) customer_key rows
      (unique-head (customer_key first) (map customer_key rows) unique))
      (own-found rows (unique-tail (customer_key first) (map customer_key rows) unique)))

  module _ (rows : List Customer) (unique : AreUnique (map customer_key rows)) where
    abbrev chosen : Who → Customer
    chosen meant = unwrap_or (customer_meant warehouse district meant rows) (customer_of [])

    abbrev IsFound : Customer → Type 0
    IsFound row = find (is_customer warehouse district row.id) rows ≡ Some row

    value-is : (found : Option Customer) → is_some found ≡ true → Some (unwrap_or found (customer_of [])) ≡ found
    value-is None is = absurd (cc)
    value-is (Some row) is = refl

    pub same-payer : (meant : Who) → is_some (customer_meant warehouse district meant rows) ≡ true
        → customer_meant warehouse district (who.Number (chosen meant).id) rows
        ≡ customer_meant warehouse district meant rows
    same-payer (who.Number number) is =
        ap (λ n. find (is_customer warehouse district n) rows) (number-chosen warehouse district rows number is)
    same-payer (who.Last name) is =
        let known = All-passing_also (is_named warehouse district name) (Found rows) IsFound rows
        (λ row found passes. found (itself row passes)) (own-found rows unique) in
        let called : List Customer = filter (is_named warehouse district name) rows in
        let there = All-sorted IsFound is_earlier called known in
        some-value IsFound (customer_of []) (customer_meant warehouse district (who.Last name) rows)
        (All-some IsFound (sorted is_earlier called) _ there) is
        ∙ value-is (customer_meant warehouse district (who.Last name) rows) is
      where
        itself : (row : Customer) → is_named warehouse district name row ≡ true
            → is_customer warehouse district row.id row ≡ true
        itself row passes =
            let key = (and_parts _ _ passes).0 in
            and_from ((row.warehouse == warehouse) && (row.district == district)) (row.id == row.id) key
            (eq-eqb row.id row.id refl)

-- the reply to a command is that to the command with the payer's number
pub same-reply : (items : List Item) (number : ℕ) (edition : Edition) (command : Command) (tables : Tables)
    → AreUnique (map customer_key tables.customers) → has_customer command tables ≡ true
    → (accepted items number edition (by_number tables command) tables).reply
    ≡ (accepted items number edition command tables).reply
same-reply items number edition command tables unique =
    by_payment (λ command. has_customer command tables ≡ true
    → (accepted items number edition (by_number tables command) tables).reply
    ≡ (accepted items number edition command tables).reply)
    (λ payment known. ap (λ (found : Option Customer).
    let row : Customer = unwrap_or found (customer_of []) in
    replies.Payment row.id (customer_paid edition payment row).balance)
    (same-payer payment.customer_warehouse payment.customer_district tables.customers unique payment.who known))
    (λ command nobody known. ap (λ command. (accepted items number edition command tables).reply)
    (same-numbered command nobody tables))
    command
