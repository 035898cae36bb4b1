-- What lines of a script say; the checker computes each row. The values differ from place to place, so that an exchange
-- would show.
use Rattle.std.specs.Prelude.{◌≡◌, ◌++◌, [], ◌∷◌, None, Some, codes, map, replicate, refl}
use Rattle.std.specs.Fmt.{digits}
use Rattle.hy_commands.specs.declared.command.Command.TheVariants as commands
use Rattle.hy_commands.specs.declared.command.Who.TheVariants as who
use Rattle.hy_events.specs.declared.event.Event.TheVariants as events
use Rattle.hy_events.specs.Events.{event_of}
use Rattle.hy_events.specs.Lines.{lines, numbered}
use Rattle.hy_decimal.specs.Numbers.{number_of as number_in}
use Rattle.hy_events.specs.Words.{number_of, words}

-- ---- words and numbers

abbrev words_of_a_line : words (codes "step 7") ≡ codes "step" ∷ codes "7" ∷ []
words_of_a_line = refl

abbrev words_around_spaces : words (codes " a  b ") ≡ [] ∷ codes "a" ∷ [] ∷ codes "b" ∷ [] ∷ []
words_around_spaces = refl

numbers : map number_of (codes "0" ∷ codes "10" ∷ codes "18446744073709551615" ∷ [])
    ≡ Some 0 ∷ Some 10 ∷ Some 18_446_744_073_709_551_615 ∷ []
unfolding number_in digits
numbers = refl

-- nothing, a leading zero, signs, another byte, and 2^64
no_numbers : map number_of
    ([] ∷ codes "01" ∷ codes "00" ∷ codes "+5" ∷ codes "-1" ∷ codes "5a" ∷ codes "18446744073709551616" ∷ [])
    ≡ replicate 7 None
unfolding number_in digits
no_numbers = refl

-- ---- commands

new_order : event_of (codes "neworder 1 2 3 4 5:6:7 8:9:10")
    ≡ Some (events.Run (commands.NewOrder (record {
      warehouse = 1;
      district = 2;
      customer = 3;
      at = 4;
      lines =
          record { item = 5; supply_warehouse = 6; quantity = 7 }
          ∷ record { item = 8; supply_warehouse = 9; quantity = 10 } ∷ [];
    })))
unfolding number_in digits
new_order = refl

payment_by_number : event_of (codes "payment 1 2 3 4 5 600 7")
    ≡ Some (events.Run (commands.Payment (record {
      warehouse = 1;
      district = 2;
      customer_warehouse = 3;
      customer_district = 4;
      who = who.Number 5;
      amount = 600;
      at = 7;
    })))
unfolding number_in digits
payment_by_number = refl

payment_by_name : event_of (codes "payment 1 2 3 4 =BARBARBAR 600 7")
    ≡ Some (events.Run (commands.Payment (record {
      warehouse = 1;
      district = 2;
      customer_warehouse = 3;
      customer_district = 4;
      who = who.Last (codes "BARBARBAR");
      amount = 600;
      at = 7;
    })))
unfolding number_in digits
payment_by_name = refl

order_status : event_of (codes "orderstatus 1 2 3")
    ≡ Some (events.Run (commands.OrderStatus (record { warehouse = 1; district = 2; who = who.Number 3 })))
unfolding number_in digits
order_status = refl

-- a name may be empty, and may have any byte but a space
odd_names : map event_of (codes "orderstatus 1 2 =" ∷ (codes "orderstatus 1 2 ==01" ++ 255 ∷ []) ∷ [])
    ≡ Some (events.Run (commands.OrderStatus (record { warehouse = 1; district = 2; who = who.Last [] })))
    ∷ Some (events.Run (commands.OrderStatus (record {
      warehouse = 1;
      district = 2;
      who = who.Last (codes "=01" ++ 255 ∷ []);
    }))) ∷ []
unfolding number_in digits
odd_names = refl

delivery : event_of (codes "delivery 1 2 3")
    ≡ Some (events.Run (commands.Delivery (record { warehouse = 1; carrier = 2; at = 3 })))
unfolding number_in digits
delivery = refl

stock_level : event_of (codes "stocklevel 1 2 15")
    ≡ Some (events.Run (commands.StockLevel (record { warehouse = 1; district = 2; threshold = 15 })))
unfolding number_in digits
stock_level = refl

begun : event_of (codes "begin delivery 1 2 3")
    ≡ Some (events.Begin (commands.Delivery (record { warehouse = 1; carrier = 2; at = 3 })))
unfolding number_in digits
begun = refl

-- ---- other events

numbered_events : map event_of
    (codes "step 1" ∷ codes "done 2" ∷ codes "touched 3" ∷ codes "free 4" ∷ codes "shared 5" ∷ codes "limit 6 7" ∷ [])
    ≡ Some (events.Step 1) ∷ Some (events.Done 2) ∷ Some (events.Touched 3) ∷ Some (events.Free 4)
    ∷ Some (events.Shared 5) ∷ Some (events.Limit 6 7) ∷ []
unfolding number_in digits
numbered_events = refl

abbrev named_events : map event_of (codes "fork a" ∷ codes "fork from" ∷ codes "close x=1" ∷ [])
    ≡ Some (events.Fork (codes "a")) ∷ Some (events.Fork (codes "from")) ∷ Some (events.Close (codes "x=1")) ∷ []
named_events = refl

-- a fork of a snapshot that is open; each of its names is any word
forks_from : map event_of
    (codes "fork b from a" ∷ codes "fork from from from" ∷ codes "fork a from a" ∷ [])
    ≡ Some (events.ForkFrom (codes "b") (codes "a")) ∷ Some (events.ForkFrom (codes "from") (codes "from"))
    ∷ Some (events.ForkFrom (codes "a") (codes "a")) ∷ []
forks_from = refl

no_forks : map event_of
    (codes "fork a from" ∷ codes "fork a from " ∷ codes "fork  from a" ∷ codes "fork a of b" ∷ codes "fork a from b c"
    ∷ codes "fork a From b" ∷ codes "fork a b" ∷ []) ≡ replicate 7 None
no_forks = refl

-- the text of a query is all that stands behind the name's space, with its spaces; it may be empty, and the name may be any
abbrev query_events : map event_of
    (codes "query a from item select i_id" ∷ codes "query from  x " ∷ codes "query a " ∷ codes "check query" ∷ [])
    ≡ Some (events.Query (codes "a") (codes "from item select i_id")) ∷ Some (events.Query (codes "from") (codes " x "))
    ∷ Some (events.Query (codes "a") []) ∷ Some (events.Check (codes "query")) ∷ []
query_events = refl

-- no text, no name
abbrev no_queries : map event_of (codes "query" ∷ codes "query " ∷ codes "query a" ∷ codes "query  x" ∷ codes "check"
    ∷ codes "check a b" ∷ []) ≡ replicate 6 None
no_queries = refl

-- ---- what is no event

-- a space too many, or another than a space
spaces : map event_of
    (codes " " ∷ codes " step 1" ∷ codes "step 1 " ∷ codes "step  1" ∷ codes "step\t1" ∷ codes "step 1\r" ∷ [])
    ≡ replicate 6 None
unfolding number_in digits
spaces = refl

-- a word too few
short_lines : map event_of
    (codes "step" ∷ codes "begin" ∷ codes "fork" ∷ codes "limit 1" ∷ codes "delivery 1 2" ∷ codes "stocklevel 1 2"
    ∷ codes "orderstatus 1 2" ∷ codes "payment 1 2 3 4 5 600" ∷ codes "neworder 1 2 3 4" ∷ [])
    ≡ replicate 9 None
unfolding number_in digits
short_lines = refl

-- a word too many
long_lines : map event_of
    (codes "step 1 2" ∷ codes "begin begin step 1" ∷ codes "fork a b" ∷ codes "close a b" ∷ codes "limit 1 2 3"
    ∷ codes "delivery 1 2 3 4" ∷ codes "stocklevel 1 2 15 4" ∷ codes "orderstatus 1 2 3 4"
    ∷ codes "payment 1 2 3 4 5 600 7 8" ∷ codes "neworder 1 2 3 4 5:6:7 8" ∷ [])
    ≡ replicate 10 None
unfolding number_in digits
long_lines = refl

-- an unknown word, capitals, what can't be begun, an empty name, a number that is none
odd_lines : map event_of
    (codes "stop 1" ∷ codes "Step 1" ∷ codes "begin step 1" ∷ codes "fork " ∷ codes "step 01"
    ∷ codes "step 18446744073709551616" ∷ codes "orderstatus 1 2 BAR" ∷ codes "neworder 1 2 3 4 5:6"
    ∷ codes "neworder 1 2 3 4 5:6:7:8" ∷ codes "neworder 1 2 3 4 5::7" ∷ [])
    ≡ replicate 10 None
unfolding number_in digits
odd_lines = refl

-- ---- lines of a file

abbrev lines_of_a_file : numbered 1 (lines (codes "a\n\nb c\n")) ≡ (1, codes "a") ∷ (2, []) ∷ (3, codes "b c") ∷ []
lines_of_a_file = refl

abbrev last_line_without_end : numbered 1 (lines (codes "a\r\n\nb")) ≡ (1, codes "a\r") ∷ (2, []) ∷ (3, codes "b") ∷ []
last_line_without_end = refl

abbrev no_lines : lines [] ≡ []
no_lines = refl

abbrev one_empty_line : lines (codes "\n") ≡ [] ∷ []
one_empty_line = refl
