-- What payments note in C_DATA, with values from hand calculation; the checker computes them.
use Rattle.std.specs.Prelude.{◌≡◌, ℕ, false, true, List, [], ◌∷◌, ◌++◌, codes, fold, map, refl, replicate}
use Rattle.std.specs.Fmt.{digits}
use Rattle.hy_rows.specs.declared.customer.Customer.{Customer}
use Rattle.hy_rows.specs.Tables.{Tables, of_warehouse}
use Rattle.hy_commands.specs.declared.command.Command.TheVariants as commands
use Rattle.hy_commands.specs.declared.command.Commit.TheVariants as commits
use Rattle.hy_commands.specs.declared.command.Payment.{Payment}
use Rattle.hy_commands.specs.declared.command.Who.TheVariants as who
use Rattle.hy_commands.specs.declared.edition.Edition.{Edition}
use Rattle.hy_commands.specs.declared.edition.Edition.TheVariants as editions
use Rattle.hy_commands.specs.Commands.{edition_of, kept_of}
use Rattle.hy_commands.specs.Parts.{part}
use Rattle.hy_commands.specs.Payments.{customer_paid, has_bad_credit, information_after, noted, payment_note}
use Rattle.hy_commands.specs.Replay.{committed}
use Rattle.hy_commands.specs.Transactions.{act}
use Rattle.hy_commands.specs.WorkedParts.{load}
use Rattle.hy_commands.specs.WorkedSample.{customer, items, payment, sample}

-- a payment of 100 cents at district 5 of warehouse 1 for customer 3 of district 4 of warehouse 2
abbrev crossing : Payment
crossing = record {
  warehouse = 1;
  district = 5;
  customer_warehouse = 2;
  customer_district = 4;
  who = who.Number 3;
  amount = 100;
  at = 7;
}

abbrev payer : Customer
payer = record (customer 4 3 (codes "TWO") (codes "A")) { warehouse = 2; credit = codes "BC"; information = codes "old" }

-- the customer's three numbers, the district and the warehouse of the payment, and the cents
note_of_crossing : payment_note crossing payer ≡ codes "3 4 2 5 1 100;"
unfolding digits
note_of_crossing = refl

-- decimal, whatever the numbers have of digits
note_of_long_numbers : payment_note (record crossing { district = 10; warehouse = 16; amount = 500_000 })
    (record payer { id = 3_000; district = 9; warehouse = 15 })
    ≡ codes "3000 9 15 10 16 500000;"
unfolding digits
note_of_long_numbers = refl

-- bad credit is noted before what stood there, good credit isn't, and the first edition notes nothing
second_of_bad_credit : information_after editions.Second crossing payer ≡ codes "3 4 2 5 1 100;old"
unfolding digits
second_of_bad_credit = refl

second_of_good_credit : information_after editions.Second crossing (record payer { credit = codes "GC" })
    ≡ codes "old"
unfolding digits
second_of_good_credit = refl

first_of_bad_credit : information_after editions.First crossing payer ≡ codes "old"
unfolding digits
first_of_bad_credit = refl

bad_is_BC : map (λ letters. has_bad_credit (record payer { credit = letters }))
    (codes "BC" ∷ codes "GC" ∷ codes "B" ∷ codes "BCD" ∷ codes "bc" ∷ [] ∷ [])
    ≡ true ∷ false ∷ false ∷ false ∷ false ∷ false ∷ []
unfolding digits
bad_is_BC = refl

-- nothing else of a customer has an edition
other_columns : record (customer_paid editions.First crossing payer) { information = [] }
    ≡ record (customer_paid editions.Second crossing payer) { information = [] }
unfolding digits
other_columns = refl

-- the text is cut at 500 characters, and what stood there longest goes
all_fits : noted (codes "12;") (replicate 496 120 ++ codes "y") ≡ codes "12;" ++ replicate 496 120 ++ codes "y"
unfolding digits
all_fits = refl

last_goes : noted (codes "12;") (replicate 497 120 ++ codes "y") ≡ codes "12;" ++ replicate 497 120
unfolding digits
last_goes = refl

three_go : noted (codes "12;") (replicate 497 120 ++ codes "abc") ≡ codes "12;" ++ replicate 497 120
unfolding digits
three_go = refl

-- 34 payments of 100 cents by customer 10: 33 notes of 15 characters are whole, and five characters of one are left
abbrev tenth : Customer
tenth = record (customer 1 10 (codes "TEN") (codes "J")) { credit = codes "BC" }

abbrev at_home : Payment
at_home = record { warehouse = 1; district = 1; customer_warehouse = 1; customer_district = 1; who = who.Number 10; amount = 100; at = 1 }

abbrev paid_often : ℕ → Customer
paid_often times = fold (λ row (time : ℕ). customer_paid editions.Second at_home row) tenth (replicate times 0)

paid_once : (paid_often 1).information ≡ codes "10 1 1 1 1 100;"
unfolding digits
paid_once = refl

paid_34_times : (paid_often 34).information
    ≡ fold (λ text (time : ℕ). codes "10 1 1 1 1 100;" ++ text) (codes "10 1 ") (replicate 33 0)
unfolding digits
paid_34_times = refl

-- ---- in a warehouse

abbrev with_bad_credit : Tables
with_bad_credit = record sample { customers = record tenth { id = 1 } ∷ customer 1 2 (codes "TWO") (codes "B") ∷ [] }

abbrev notes_of : Tables → List (List ℕ)
notes_of tables = map (λ (row : Customer). row.information) tables.customers

-- paid in district 2
abbrev acted : Edition → Tables
acted edition = (act items 1 edition (payment (who.Number 1) 100) with_bad_credit).tables

noted_by_act : notes_of (acted editions.Second) ≡ codes "1 1 1 2 1 100;" ∷ [] ∷ []
unfolding digits
noted_by_act = refl

not_noted_by_act : notes_of (acted editions.First) ≡ [] ∷ [] ∷ []
unfolding digits
not_noted_by_act = refl

-- by last name as by number
noted_by_name : notes_of (act items 1 editions.Second (payment (who.Last (codes "TEN")) 100) with_bad_credit).tables
    ≡ codes "1 1 1 2 1 100;" ∷ [] ∷ []
unfolding digits
noted_by_name = refl

-- a commit replays by its own edition
by_its_edition : map (λ edition. notes_of (committed (record { items = items; tables = sample }) 1 with_bad_credit
    (commits.Local edition (payment (who.Number 1) 100)))) (editions.First ∷ editions.Second ∷ [])
    ≡ ([] ∷ [] ∷ []) ∷ (codes "1 1 1 2 1 100;" ∷ [] ∷ []) ∷ []
unfolding digits
by_its_edition = refl

-- a payment over two warehouses: the customer's part notes it, and the home's doesn't
abbrev in_warehouse_2 : Tables
in_warehouse_2 = record (of_warehouse 2 load.tables) { customers = payer ∷ [] }

abbrev noted_there : Edition → List (List ℕ)
noted_there edition = notes_of (part items 2 edition (commands.Payment crossing) in_warehouse_2)

noted_in_the_part : map noted_there (editions.First ∷ editions.Second ∷ [])
    ≡ (codes "old" ∷ []) ∷ (codes "3 4 2 5 1 100;old" ∷ []) ∷ []
unfolding digits
noted_in_the_part = refl

not_noted_at_home :
    (part items 1 editions.Second (commands.Payment crossing) (of_warehouse 1 load.tables)).customers
    ≡ (of_warehouse 1 load.tables).customers
unfolding digits
not_noted_at_home = refl

noted_when_committed : map (λ edition. notes_of (committed load 2 in_warehouse_2
    (commits.Cross edition 1 (commands.Payment crossing)))) (editions.First ∷ editions.Second ∷ [])
    ≡ (codes "old" ∷ []) ∷ (codes "3 4 2 5 1 100;old" ∷ []) ∷ []
unfolding digits
noted_when_committed = refl

-- ---- editions of commits

editions_of_commits : map edition_of (commits.Local editions.First (commands.Payment crossing)
    ∷ commits.Cross editions.Second 7 (commands.Payment crossing) ∷ [])
    ≡ editions.First ∷ editions.Second ∷ []
unfolding digits
editions_of_commits = refl

kept_by_its_edition : kept_of editions.First (payment (who.Number 1) 100)
    ≡ commits.Local editions.First (payment (who.Number 1) 100) ∷ []
unfolding digits
kept_by_its_edition = refl
