-- Batches with their bytes, by hand.
use Rattle.std.specs.Prelude.{◌≡◌, ℕ, true, false, List, [], ◌∷◌, ◌++◌, replicate, take, refl}
use Rattle.hy_commands.specs.declared.command.Command.{Command}
use Rattle.hy_commands.specs.declared.command.Command.TheVariants as commands
use Rattle.hy_commands.specs.declared.command.Commit.{Commit}
use Rattle.hy_commands.specs.declared.command.Commit.TheVariants as commits
use Rattle.hy_commands.specs.declared.command.PurchaseLine.{PurchaseLine}
use Rattle.hy_commands.specs.declared.command.Who.{Who}
use Rattle.hy_commands.specs.declared.command.Who.TheVariants as who
use Rattle.hy_commands.specs.declared.edition.Edition.{Edition}
use Rattle.hy_commands.specs.declared.edition.Edition.TheVariants as editions
use Rattle.hy_batches.specs.Batches.{Batch}
use Rattle.hy_batches.specs.Encoding.{batch_bytes, commit_bytes, number_bytes}
use Rattle.hy_batches.specs.Grammar.{are_batches, is_allowed, is_batch, is_commit, last_edition}
use Rattle.hy_batches.specs.Logs.{is_beginning, is_end}

-- ---- a payment of 1.00 in warehouse 1, by customer 1 of its district 1

abbrev pub paid_by : Edition → ℕ → Commit
paid_by edition amount =
    commits.Local edition (commands.Payment (record {
      warehouse = 1;
      district = 1;
      customer_warehouse = 1;
      customer_district = 1;
      who = who.Number 1;
      amount = amount;
      at = 1;
    }))

abbrev pub paid : ℕ → Commit
paid amount = paid_by editions.First amount

-- one batch of two warehouses, of each edition
abbrev pub batch_by : Edition → List (List Commit) → Batch
batch_by edition lists = record { edition = edition; lists = lists }

abbrev pub sample_by : Edition → Batch
sample_by edition = batch_by edition ((paid_by edition 100 ∷ []) ∷ [] ∷ [])

abbrev pub sample : Batch
sample = sample_by editions.First

-- its bytes behind the length, without the last
abbrev pub sample_content : List ℕ
sample_content =
    2 ∷ 1 ∷ 0 ∷ 0 ∷ 0 ∷ 0 ∷ 2 ∷ 1 ∷ 1 ∷ 1 ∷ 1 ∷ 0 ∷ 1 ∷ 0 ∷ 100 ∷ 0 ∷ 0 ∷ 0 ∷ 1 ∷ 0 ∷ 0 ∷ 0 ∷ 0 ∷ 0 ∷ 0 ∷ 0 ∷ 0 ∷ 0 ∷ 0 ∷ 0 ∷ []

-- bytes with a length, a content and a last byte
abbrev pub framed : ℕ → List ℕ → ℕ → List ℕ
framed size content last = 72 ∷ 89 ∷ 66 ∷ 49 ∷ size ∷ replicate 7 0 ++ content ++ last ∷ []

-- the same behind the mark of the second edition
abbrev pub framed_second : ℕ → List ℕ → ℕ → List ℕ
framed_second size content last = 72 ∷ 89 ∷ 66 ∷ 50 ∷ size ∷ replicate 7 0 ++ content ++ last ∷ []

sample_is : batch_bytes sample ≡ framed 30 sample_content 69
unfolding number_bytes
sample_is = refl

sample_is_batch : is_batch sample ≡ true
sample_is_batch = refl

-- the editions differ by the mark alone
second_is : batch_bytes (sample_by editions.Second) ≡ framed_second 30 sample_content 69
unfolding number_bytes
second_is = refl

second_is_batch : is_batch (sample_by editions.Second) ≡ true
second_is_batch = refl

-- a commit of the other edition makes it none
second_in_first : is_batch (batch_by editions.First ((paid_by editions.Second 100 ∷ []) ∷ [] ∷ [])) ≡ false
second_in_first = refl

first_in_second : is_batch (batch_by editions.Second ((paid_by editions.First 100 ∷ []) ∷ [] ∷ [])) ≡ false
first_in_second = refl

both_in_one : is_batch (batch_by editions.Second ((paid_by editions.Second 100 ∷ paid_by editions.First 100 ∷ []) ∷ [] ∷ [])) ≡ false
both_in_one = refl

-- 99 cents are no payment
less_is_none : is_batch (batch_by editions.First ((paid 99 ∷ []) ∷ [] ∷ [])) ≡ false
less_is_none = refl

-- a batch without commits, and none without warehouses
empty_is_batch : is_batch (batch_by editions.First ([] ∷ [])) ≡ true
empty_is_batch = refl

empty_second_is_batch : is_batch (batch_by editions.Second ([] ∷ [])) ≡ true
empty_second_is_batch = refl

none_is_no_batch : is_batch (batch_by editions.First []) ≡ false
none_is_no_batch = refl

-- one without commits has its edition in its bytes
abbrev pub empty_content : List ℕ
empty_content = 1 ∷ 0 ∷ 0 ∷ 0 ∷ 0 ∷ []

empty_is : batch_bytes (batch_by editions.First ([] ∷ [])) ≡ framed 5 empty_content 69
unfolding number_bytes
empty_is = refl

empty_second_is : batch_bytes (batch_by editions.Second ([] ∷ [])) ≡ framed_second 5 empty_content 69
unfolding number_bytes
empty_second_is = refl

-- 16 warehouses, and no more
sixteen_are_batch : is_batch (batch_by editions.First (replicate 16 [])) ≡ true
sixteen_are_batch = refl

seventeen_are_none : is_batch (batch_by editions.First (replicate 17 [])) ≡ false
seventeen_are_none = refl

-- an edition never falls
first_then_first : are_batches (sample_by editions.First ∷ sample_by editions.First ∷ []) ≡ true
first_then_first = refl

first_then_second : are_batches (sample_by editions.First ∷ sample_by editions.Second ∷ []) ≡ true
first_then_second = refl

second_then_second : are_batches (sample_by editions.Second ∷ sample_by editions.Second ∷ []) ≡ true
second_then_second = refl

second_then_first : are_batches (sample_by editions.Second ∷ sample_by editions.First ∷ []) ≡ false
second_then_first = refl

first_at_the_end : are_batches (sample_by editions.First ∷ sample_by editions.Second ∷ sample_by editions.First ∷ []) ≡ false
first_at_the_end = refl

-- also where it has no commits
empty_first_behind_second : are_batches (sample_by editions.Second ∷ batch_by editions.First ([] ∷ []) ∷ []) ≡ false
empty_first_behind_second = refl

-- what decides is the last batch, or what stands before them all
last_of_both : last_edition editions.First (sample_by editions.First ∷ sample_by editions.Second ∷ []) ≡ editions.Second
last_of_both = refl

last_of_none : last_edition editions.First [] ≡ editions.First
last_of_none = refl

-- it stands in the list of its own warehouse
other_list : is_commit editions.First 2 (paid 100) ≡ false
other_list = refl

-- and in a batch of its own edition
own_edition : is_commit editions.Second 1 (paid_by editions.Second 100) ≡ true
own_edition = refl

other_edition : is_commit editions.Second 1 (paid_by editions.First 100) ≡ false
other_edition = refl

-- ---- the ends of logs

whole_goes_on : is_end (framed 30 sample_content 69) ≡ false
whole_goes_on = refl

-- a length one too great makes it the begin of a batch, and one too small does not
too_long : is_beginning (framed 31 sample_content 69) ≡ true
too_long = refl

too_short : is_end (framed 29 sample_content 69) ≡ false
too_short = refl

three_bytes : is_beginning (72 ∷ 89 ∷ 66 ∷ []) ≡ true
three_bytes = refl

two_wrong_bytes : is_end (72 ∷ 88 ∷ []) ≡ false
two_wrong_bytes = refl

nothing_left : is_end [] ≡ true
nothing_left = refl

nothing_is_no_begin : is_beginning [] ≡ false
nothing_is_no_begin = refl

-- the mark of each edition begins a batch, and no other one does
first_mark : is_beginning (72 ∷ 89 ∷ 66 ∷ 49 ∷ []) ≡ true
first_mark = refl

second_mark : is_beginning (72 ∷ 89 ∷ 66 ∷ 50 ∷ []) ≡ true
second_mark = refl

third_mark : is_end (72 ∷ 89 ∷ 66 ∷ 51 ∷ []) ≡ false
third_mark = refl

mark_before_the_first : is_end (72 ∷ 89 ∷ 66 ∷ 48 ∷ []) ≡ false
mark_before_the_first = refl

-- a batch of either edition that was cut is an end, whatever stands before it
cut_first : is_end (take 20 (framed 30 sample_content 69)) ≡ true
cut_first = refl

cut_second : is_end (take 20 (framed_second 30 sample_content 69)) ≡ true
cut_second = refl

whole_second_goes_on : is_end (framed_second 30 sample_content 69) ≡ false
whole_second_goes_on = refl

second_too_long : is_beginning (framed_second 31 sample_content 69) ≡ true
second_too_long = refl

-- the greatest length that can be said
greatest_length : is_beginning (72 ∷ 89 ∷ 66 ∷ 49 ∷ replicate 8 255 ++ replicate 20 0) ≡ true
greatest_length = refl

greatest_second_length : is_beginning (72 ∷ 89 ∷ 66 ∷ 50 ∷ replicate 8 255 ++ replicate 20 0) ≡ true
greatest_second_length = refl

-- ---- commits of several warehouses

-- a payment in warehouse 1 for a customer of warehouse 2
abbrev pub paid_elsewhere : Who → Command
paid_elsewhere who =
    commands.Payment (record {
      warehouse = 1;
      district = 3;
      customer_warehouse = 2;
      customer_district = 4;
      who = who;
      amount = 500_000;
      at = 1_000_000_000_000_000;
    })

crossing_bytes : commit_bytes (commits.Cross editions.First 258 (paid_elsewhere (who.Number 3_000)))
    ≡ 1 ∷ 2 ∷ 1 ∷ 0 ∷ 0 ∷ 0 ∷ 0 ∷ 0 ∷ 0 ∷ 2 ∷ 1 ∷ 3 ∷ 2 ∷ 4 ∷ 0 ∷ 184 ∷ 11 ∷ 32 ∷ 161 ∷ 7 ∷ 0 ∷ 0 ∷ 128 ∷ 198 ∷ 164 ∷ 126 ∷ 141 ∷ 3 ∷ 0 ∷ []
unfolding number_bytes
crossing_bytes = refl

-- the bytes of a commit don't tell its edition
crossing_second_bytes : commit_bytes (commits.Cross editions.Second 258 (paid_elsewhere (who.Number 3_000)))
    ≡ commit_bytes (commits.Cross editions.First 258 (paid_elsewhere (who.Number 3_000)))
crossing_second_bytes = refl

-- in both lists, and in no other; with a number from 1; by number; and not as one of a single warehouse
crossing_in_1 : is_commit editions.First 1 (commits.Cross editions.First 1 (paid_elsewhere (who.Number 3_000))) ≡ true
crossing_in_1 = refl

crossing_in_2 : is_commit editions.First 2 (commits.Cross editions.First 1 (paid_elsewhere (who.Number 3_000))) ≡ true
crossing_in_2 = refl

crossing_of_the_other_edition : is_commit editions.First 1 (commits.Cross editions.Second 1 (paid_elsewhere (who.Number 3_000))) ≡ false
crossing_of_the_other_edition = refl

crossing_in_3 : is_commit editions.First 3 (commits.Cross editions.First 1 (paid_elsewhere (who.Number 3_000))) ≡ false
crossing_in_3 = refl

crossing_without_number : is_commit editions.First 1 (commits.Cross editions.First 0 (paid_elsewhere (who.Number 3_000))) ≡ false
crossing_without_number = refl

crossing_by_name : is_commit editions.First 1 (commits.Cross editions.First 1 (paid_elsewhere (who.Last (66 ∷ 65 ∷ 82 ∷ [])))) ≡ false
crossing_by_name = refl

crossing_as_local : is_commit editions.First 1 (commits.Local editions.First (paid_elsewhere (who.Number 3_000))) ≡ false
crossing_as_local = refl

local_as_crossing : is_allowed 1 (commits.Cross editions.First 1 (commands.Delivery (record { warehouse = 1; carrier = 1; at = 1 }))) ≡ false
local_as_crossing = refl

-- ---- values

-- customer 65,536 has no two bytes, and a reader none at all
wide_customer : is_commit editions.First 1 (commits.Cross editions.First 1 (paid_elsewhere (who.Number 65_536))) ≡ false
wide_customer = refl

reader : is_commit editions.First 1 (commits.Local editions.First (commands.StockLevel (record { warehouse = 1; district = 1; threshold = 10 }))) ≡ false
reader = refl

-- a line of item 5, of which warehouse 2 supplies 10
abbrev pub line : ℕ → ℕ → PurchaseLine
line item quantity = record { item = item; supply_warehouse = 1; quantity = quantity }

abbrev pub ordered : List PurchaseLine → Commit
ordered lines =
    commits.Local editions.First (commands.NewOrder (record { warehouse = 1; district = 2; customer = 3; at = 4; lines = lines }))

purchase_bytes : commit_bytes (ordered (line 100_000 10 ∷ line 1 1 ∷ []))
    ≡ 0 ∷ 1 ∷ 1 ∷ 2 ∷ 3 ∷ 0 ∷ 4 ∷ 0 ∷ 0 ∷ 0 ∷ 0 ∷ 0 ∷ 0 ∷ 0 ∷ 2 ∷ 160 ∷ 134 ∷ 1 ∷ 0 ∷ 1 ∷ 10 ∷ 1 ∷ 0 ∷ 0 ∷ 0 ∷ 1 ∷ 1 ∷ []
unfolding number_bytes
purchase_bytes = refl

four_lines : is_commit editions.First 1 (ordered (replicate 4 (line 1 1))) ≡ false
four_lines = refl

fifteen_lines : is_commit editions.First 1 (ordered (replicate 15 (line 1 1))) ≡ true
fifteen_lines = refl

eleven_at_once : is_commit editions.First 1 (ordered (line 1 11 ∷ replicate 4 (line 1 1))) ≡ false
eleven_at_once = refl
