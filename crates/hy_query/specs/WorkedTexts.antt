-- What texts say as queries; the checker computes each row.
use Rattle.std.specs.Prelude.{◌≡◌, ◌++◌, ℕ, List, [], ◌∷◌, map, replicate, pos, negsuc, true, false, None, Some, option_and_then, Result, Ok, Err, codes, refl}
use Rattle.std.specs.Fmt.{digits}
use Rattle.hy_decimal.specs.Numbers.{number_of}
use Rattle.hy_rows.specs.Catalogue.{all_tables, definition_of}
use Rattle.hy_rows.specs.declared.catalogue.Table.TheVariants as tables
use Rattle.hy_query.specs.declared.query.Comparison.TheVariants as comparisons
use Rattle.hy_query.specs.declared.query.Operand.TheVariants as operands
use Rattle.hy_query.specs.declared.query.SelectItem.TheVariants as items
use Rattle.hy_rows.specs.declared.value.Value.TheVariants as values
use Rattle.hy_query.specs.declared.column.Kind.TheVariants.{Text, Whole}
use Rattle.hy_query.specs.Columns.{column_among, kind_of, table_named}
use Rattle.hy_query.specs.Language.{query_of, text_of, whole_of}
use Rattle.hy_query.specs.Queries.{QueryState, no_query}
use Rattle.hy_query.specs.Tokens.{Token, tokens}

-- ---- tokens

abbrev words_of : List ℕ → List (List ℕ)
words_of text = map (λ (token : Token). token.word) (tokens text)

abbrev places_of : List ℕ → List ℕ
places_of text = map (λ (token : Token). token.place) (tokens text)

-- spaces are needed between words alone
abbrev signs_need_no_spaces : words_of (codes "a<=5,b <>c>=<d")
    ≡ codes "a" ∷ codes "<=" ∷ codes "5" ∷ codes "," ∷ codes "b" ∷ codes "<>" ∷ codes "c" ∷ codes ">=" ∷ codes "<" ∷
    codes "d" ∷ []
signs_need_no_spaces = refl

abbrev places_are_those_of_bytes : places_of (codes "  a  , bc ") ≡ 2 ∷ 5 ∷ 7 ∷ []
places_are_those_of_bytes = refl

-- a text in quotes has spaces, commas and signs
abbrev texts_hold_anything : words_of (codes "'a, b' ='' ,'<'") ≡ codes "'a, b'" ∷ codes "=" ∷ codes "''" ∷
    codes "," ∷ codes "'<'" ∷ []
texts_hold_anything = refl

-- what stands right behind one belongs to it, and so does the rest where it isn't closed; a quote in a word is part of it
abbrev texts_that_are_none : words_of (codes "'a''b' 'c'd e'f 'g h") ≡ codes "'a''b'" ∷ codes "'c'd" ∷ codes "e'f" ∷
    codes "'g h" ∷ []
texts_that_are_none = refl

abbrev texts : map text_of (codes "'a b'" ∷ codes "''" ∷ codes "'a''b'" ∷ codes "'c'd" ∷ codes "'g h" ∷ codes "'" ∷
    codes "e" ∷ [] ∷ [])
    ≡ Some (codes "a b") ∷ Some [] ∷ None ∷ None ∷ None ∷ None ∷ None ∷ None ∷ []
texts = refl

-- ---- numbers

numbers : map whole_of (codes "0" ∷ codes "5" ∷ codes "-5" ∷ codes "9223372036854775807" ∷
    codes "-9223372036854775808" ∷ [])
    ≡ Some (pos 0) ∷ Some (pos 5) ∷ Some (negsuc 4) ∷ Some (pos 9_223_372_036_854_775_807) ∷
    Some (negsuc 9_223_372_036_854_775_807) ∷ []
unfolding number_of digits
numbers = refl

no_numbers : map whole_of (codes "+5" ∷ codes "01" ∷ codes "-0" ∷ codes "9223372036854775808" ∷
    codes "-9223372036854775809" ∷ codes "-" ∷ codes "5a" ∷ [] ∷ [])
    ≡ None ∷ None ∷ None ∷ None ∷ None ∷ None ∷ None ∷ None ∷ []
unfolding number_of digits
no_numbers = refl

-- ---- names

-- each table is named by its word, in small letters
abbrev tables_by_word : map table_named (map (λ table. (definition_of table).word) all_tables ++ codes "WAREHOUSE" ∷
    codes "Item" ∷ codes "new-order" ∷ codes "order" ∷ [])
    ≡ map Some all_tables ++ None ∷ None ∷ None ∷ None ∷ []
tables_by_word = refl

-- a column of each table, by its name in small letters
abbrev columns_by_name : map (column_among all_tables) (codes "w_ytd" ∷ codes "d_next_o_id" ∷ codes "c_ytd_payment" ∷
    codes "h_data" ∷ codes "no_w_id" ∷ codes "o_entry_d" ∷ codes "ol_supply_w_id" ∷ codes "s_i_id" ∷ codes "i_im_id" ∷
    [])
    ≡ Some (record { table = tables.Warehouse; place = 3 })
    ∷ Some (record { table = tables.District; place = 5 })
    ∷ Some (record { table = tables.Customer; place = 9 })
    ∷ Some (record { table = tables.History; place = 7 })
    ∷ Some (record { table = tables.NewOrder; place = 2 })
    ∷ Some (record { table = tables.Order; place = 4 })
    ∷ Some (record { table = tables.OrderLine; place = 5 })
    ∷ Some (record { table = tables.Stock; place = 0 })
    ∷ Some (record { table = tables.Item; place = 1 }) ∷ []
columns_by_name = refl

-- and by no name with a capital letter, nor by a part of one
abbrev no_columns : map (column_among all_tables) (codes "W_YTD" ∷ codes "D_NEXT_O_ID" ∷ codes "C_ID" ∷
    codes "H_DATA" ∷ codes "NO_W_ID" ∷ codes "O_ENTRY_D" ∷ codes "ol_supply_W_id" ∷ codes "S_i_id" ∷
    codes "i_im_iD" ∷ codes "c_i" ∷ codes "c_idd" ∷ [] ∷ [])
    ≡ replicate 12 None
no_columns = refl

-- what their values are
abbrev kinds_by_name : map (λ word. option_and_then kind_of (column_among all_tables word)) (codes "w_id" ∷
    codes "w_name" ∷ codes "c_balance" ∷ codes "c_credit" ∷ codes "s_ytd" ∷ [])
    ≡ Some Whole ∷ Some Text ∷ Some Whole ∷ Some Text ∷ Some Whole ∷ []
kinds_by_name = refl

-- ---- queries

a_whole_query : query_of (codes "from customer, district where c_w_id = d_w_id and c_balance < -5 and c_last <> 'A B' group c_last, c_credit select c_last, count, sum c_balance, min d_name, max c_first order 2 desc, 1")
    ≡ Ok (record {
      tables = tables.Customer ∷ tables.District ∷ [];
      conditions =
          record {
            left = record { table = tables.Customer; place = 2 };
            comparison = comparisons.Equal;
            right = operands.Column (record { table = tables.District; place = 1 });
          }
          ∷ record {
            left = record { table = tables.Customer; place = 8 };
            comparison = comparisons.Less;
            right = operands.Value (values.Whole (negsuc 4));
          }
          ∷ record {
            left = record { table = tables.Customer; place = 5 };
            comparison = comparisons.NotEqual;
            right = operands.Value (values.Text (codes "A B"));
          } ∷ [];
      groups = record { table = tables.Customer; place = 5 } ∷ record { table = tables.Customer; place = 6 } ∷ [];
      items =
          items.Column (record { table = tables.Customer; place = 5 })
          ∷ items.Count
          ∷ items.Sum (record { table = tables.Customer; place = 8 })
          ∷ items.Min (record { table = tables.District; place = 2 })
          ∷ items.Max (record { table = tables.Customer; place = 3 }) ∷ [];
      keys = record { place = 2; descending = true } ∷ record { place = 1; descending = false } ∷ [];
    })
unfolding number_of digits
a_whole_query = refl

-- the shortest
abbrev a_short_query : query_of (codes "from item select i_id") ≡ Ok (record no_query {
  tables = tables.Item ∷ [];
  items = items.Column (record { table = tables.Item; place = 0 }) ∷ [];
})
a_short_query = refl

-- ---- faults

abbrev faults_of : List (List ℕ) → List (Result QueryState ℕ)
faults_of texts = map query_of texts

-- a text that ends too early, spaces at its end among it
abbrev texts_end_too_early : faults_of ([] ∷ codes "  " ∷ codes "from" ∷ codes "from item" ∷ codes "from item " ∷
    codes "from item where i_id" ∷ codes "from item select sum" ∷ codes "from item select i_id," ∷
    codes "from item select i_id order" ∷ [])
    ≡ Err 0 ∷ Err 2 ∷ Err 4 ∷ Err 9 ∷ Err 10 ∷ Err 20 ∷ Err 20 ∷ Err 22 ∷ Err 27 ∷ []
texts_end_too_early = refl

-- words that can't stand there, capital letters, and tables that aren't there, that are named twice, and a fifth one
abbrev words_stand_elsewhere : faults_of (codes "select" ∷ codes "From item" ∷ codes "from order select o_id" ∷
    codes "from item item" ∷ codes "from item, item select i_id" ∷ codes "from item select i_id i_id" ∷
    codes "from item,stock,orders,history,customer select i_id" ∷ [])
    ≡ Err 0 ∷ Err 0 ∷ Err 5 ∷ Err 10 ∷ Err 11 ∷ Err 22 ∷ Err 30 ∷ []
words_stand_elsewhere = refl

-- columns of no table, of a table that isn't named, and of another kind
columns_are_wrong : faults_of (codes "from item select x" ∷ codes "from item select s_i_id" ∷
    codes "from item where i_name = 5 select i_id" ∷ codes "from item where i_id = '5' select i_id" ∷
    codes "from item where i_id = i_name select i_id" ∷ codes "from item where i_id = 01 select i_id" ∷
    codes "from item where i_id = 'x select i_id" ∷ codes "from item select sum i_name" ∷ [])
    ≡ Err 17 ∷ Err 17 ∷ Err 25 ∷ Err 23 ∷ Err 23 ∷ Err 23 ∷ Err 23 ∷ Err 21 ∷ []
unfolding number_of digits
columns_are_wrong = refl

-- columns among aggregates, and aggregates among columns; with groups, columns by which rows aren't grouped
abbrev items_are_mixed : faults_of (codes "from item select count, i_id" ∷ codes "from item select i_id, count" ∷
    codes "from item select i_id, sum i_name" ∷ codes "from item group i_id select i_id, count, i_name" ∷ [])
    ≡ Err 24 ∷ Err 23 ∷ Err 23 ∷ Err 41 ∷ []
items_are_mixed = refl

-- keys are places of items, from 1, one behind each comma
keys_are_wrong : faults_of (codes "from item select i_id order 2" ∷ codes "from item select i_id order 0" ∷
    codes "from item select i_id order 01" ∷ codes "from item select i_id order 1 1" ∷
    codes "from item select i_id order 1 desc desc" ∷ codes "from item select i_id order 1, 2" ∷ [])
    ≡ Err 28 ∷ Err 28 ∷ Err 28 ∷ Err 30 ∷ Err 35 ∷ Err 31 ∷ []
unfolding number_of digits
keys_are_wrong = refl
