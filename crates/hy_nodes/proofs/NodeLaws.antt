-- What a page says after a write.
use Rattle.std.proofs.Common.{◌≡◌, ◌≢◌, ℕ, zero, suc, ◌+◌, ◌-◌, ◌*◌, ◌/◌, ◌%◌, ◌^◌, ◌<◌, ◌≤◌, List, [], ◌∷◌, ◌++◌, length, take, drop, replicate, slice_index_or, slice_set, refl, sym, ap, ap₂, ◌∙◌, arith, inl, inr, append_assoc, get_or-set_same, set-set, length-drop, length-append}
use Rattle.std.proofs.Math.Nat.{mul-le-mul_right, mul-le-mul_left, div-div-eq-div-mul}
use Rattle.std.proofs.lemmas.Bool.{cases_lt}
use Rattle.std.proofs.lemmas.List.{length-take-le, get_or-map, map-append, map-set, take_at, drop_at, drop-drop, take-append-le, drop-append-le, drop-take, take-take, take_all, set-append_left}
use Rattle.std.proofs.Math.Seq.{set-append_seam}
use Rattle.std.proofs.Math.ListN.{drop_of_length-le}
use Rattle.std.specs.Int.{w32, to_le_bytes}
use Rattle.hy_page.specs.Bytes.{number_of, bytes_of, bytes_at, overwritten}
use Rattle.hy_page.proofs.ByteLaws.{length-bytes_at, field_of_zeros, field_written, bytes_at-overwritten_before, bytes_at-overwritten_behind, bytes_at-overwritten_same}
use Rattle.hy_undo.proofs.PutBackLaws.{length-overwritten}
use Rattle.hy_trees.specs.Nodes.{Item, Node, item_width, no_item, no_node, node_at, with_height, with_items, with_key, with_next, with_number, with_tail}
use Rattle.hy_nodes.specs.Nodes.{first_items, height_field, item_at, item_count, item_from, item_offset, items_of, list_at, next_field, node_of, nodes_of, number_at}
use Rattle.hy_nodes.specs.Pages.{items_in, with_bytes}
use Rattle.hy_nodes.proofs.SequenceLaws.{first_items-joined, first_items-same, first_items-split, get_or-first_items, length-first_items}
use Rattle.hy_nodes.proofs.PlaceLaws.{item_offset-before, item_offset-between}

-- where bytes were written, a part of them stands
pub bytes_at-overwritten_inside : (bytes : List ℕ) (offset : ℕ) (others : List ℕ) (from count : ℕ) → offset ≤ length bytes → from + count ≤ length others → bytes_at (overwritten bytes offset others) (offset + from) count ≡ bytes_at others from count
bytes_at-overwritten_inside bytes offset others from count within inside =
    let rest = drop (offset + length others) bytes in
    let front : length (take offset bytes) ≡ offset = length-take-le offset bytes within in
    ap (take count) (sym (drop-drop from offset (overwritten bytes offset others)))
    ∙ ap (λ all. take count (drop from (drop offset all))) (append_assoc (take offset bytes) others rest)
    ∙ ap (λ all. take count (drop from all)) (drop_at (take offset bytes) (others ++ rest) offset front)
    ∙ ap (take count) (drop-append-le from others rest (omega arith))
    ∙ take-append-le count (drop from others) rest (omega (arith, length-drop from others))

-- the first of some first items
pub take-first_items : {X : Type 0} (item : ℕ → X) (place count : ℕ) → place ≤ count → take place (first_items item count) ≡ first_items item place
take-first_items item place count within =
    ap (λ n. take place (first_items item n)) (let all : count ≡ place + (count - place) = omega (arith, within) in all)
    ∙ ap (take place) (first_items-split item place (count - place))
    ∙ take_at (first_items item place) (first_items (λ k. item (place + k)) (count - place)) place (length-first_items item place)

-- the others
pub drop-first_items : {X : Type 0} (item : ℕ → X) (place count : ℕ) → place ≤ count → drop place (first_items item count) ≡ first_items (λ k. item (place + k)) (count - place)
drop-first_items item place count within =
    ap (λ n. drop place (first_items item n)) (let all : count ≡ place + (count - place) = omega (arith, within) in all)
    ∙ ap (drop place) (first_items-split item place (count - place))
    ∙ drop_at (first_items item place) (first_items (λ k. item (place + k)) (count - place)) place (length-first_items item place)

-- a part of a part
bytes_at-part : (bytes : List ℕ) (offset size from count : ℕ) → from + count ≤ size → bytes_at (bytes_at bytes offset size) from count ≡ bytes_at bytes (offset + from) count
bytes_at-part bytes offset size from count within =
    sym (drop-take from count (take size (drop offset bytes)))
    ∙ ap (drop from) (take-take (from + count) size (drop offset bytes) within)
    ∙ drop-take from count (drop offset bytes)
    ∙ ap (take count) (drop-drop from offset bytes)

-- a part of the first of two lists, and of the second
bytes_at-left : (one other : List ℕ) (from count : ℕ) → from + count ≤ length one → bytes_at (one ++ other) from count ≡ bytes_at one from count
bytes_at-left one other from count within =
    ap (take count) (drop-append-le from one other (omega arith))
    ∙ take-append-le count (drop from one) other (omega (arith, length-drop from one))

bytes_at-right : (one other : List ℕ) (from count : ℕ) → bytes_at (one ++ other) (length one + from) count ≡ bytes_at other from count
bytes_at-right one other from count =
    ap (take count) (sym (drop-drop from (length one) (one ++ other)) ∙ ap (drop from) (drop_at one other (length one) refl))

-- so many items fit in a page that they are few
few_items : (kw count n : ℕ) → n ≤ 65536 → item_offset kw count ≤ n → count < 65536
few_items kw count n largest fits =
    let some : count * 1 ≤ count * item_width kw = mul-le-mul_left count (omega arith) in
    omega (arith, some, fits, largest)

-- what the pages of a segment say, page by page
pub node_at-nodes : (kw : ℕ) (pages : List (List ℕ)) (page : ℕ) → page < length pages → node_at (nodes_of kw pages) page ≡ node_of kw (list_at pages page)
node_at-nodes kw pages page there = get_or-map (node_of kw) pages page [] no_node there

pub nodes-set : (kw : ℕ) (pages : List (List ℕ)) (page : ℕ) (bytes : List ℕ) → nodes_of kw (slice_set pages page bytes) ≡ slice_set (nodes_of kw pages) page (node_of kw bytes)
nodes-set kw pages page bytes = map-set (node_of kw) pages page bytes

node_is : (kw : ℕ) (page : List ℕ) (items : List Item) (height next : ℕ) → items_of kw page ≡ items → height_field page ≡ height → next_field page ≡ next → node_of kw page ≡ (record { items = items; height = height; next = next })
node_is kw page items height next is_items is_height is_next =
    ap (λ (all : List Item). record { items = all; height = height_field page; next = next_field page }) is_items
    ∙ ap₂ (λ (h : ℕ) (x : ℕ). record { items = items; height = h; next = x }) is_height is_next

-- an item whose bytes stay
item_from-same : (kw : ℕ) (one other : List ℕ) (from place : ℕ) → bytes_at one from kw ≡ bytes_at other place kw → bytes_at one (from + kw) 8 ≡ bytes_at other (place + kw) 8 → item_from kw one from ≡ item_from kw other place
item_from-same kw one other from place keys numbers = ap₂ (λ (key : List ℕ) (bytes : List ℕ). record { key = key; number = number_of bytes }) keys numbers

-- two places of items
next_offset : (kw place : ℕ) → item_offset kw (place + 1) ≡ item_offset kw place + kw + 8
next_offset kw place = omega arith

-- some items behind others
place_behind : (kw place j : ℕ) → item_offset kw (place + j) ≡ item_offset kw place + j * item_width kw
place_behind kw place j = omega arith

-- items from a place on, and then the number of items
module _ (kw : ℕ) (page bytes : List ℕ) (place count : ℕ) (before : place ≤ item_count page) (fits : item_offset kw (place + count) ≤ length page) (size : length bytes ≡ count * item_width kw) (few : place + count < 65536) where
  abbrev mid : List ℕ
  mid = overwritten page (item_offset kw place) bytes

  abbrev end : List ℕ
  end = overwritten (overwritten page (item_offset kw place) bytes) 0 (bytes_of 2 (place + count))

  within : item_offset kw place + length bytes ≤ length page
  within = omega (arith, fits, size, place_behind kw place count)

  mid_size : length mid ≡ length page
  mid_size = length-overwritten page (item_offset kw place) bytes within

  behind_header : (from size : ℕ) → 2 ≤ from → bytes_at end from size ≡ bytes_at mid from size
  behind_header from size some = bytes_at-overwritten_behind mid 0 (bytes_of 2 (place + count)) from size (omega (arith, mid_size, fits)) some

  before_items : (from size : ℕ) → 2 ≤ from → from + size ≤ item_offset kw place → bytes_at end from size ≡ bytes_at page from size
  before_items from size some front = behind_header from size some ∙ bytes_at-overwritten_before page (item_offset kw place) bytes from size (omega (arith, within)) front

  kept : (k : ℕ) → k < place → item_at kw end k ≡ item_at kw page k
  kept k below =
      let earlier = item_offset-before kw (k + 1) place (omega (arith, below)) in
      let next = next_offset kw k in
      item_from-same kw end page (item_offset kw k) (item_offset kw k)
      (before_items (item_offset kw k) kw (omega arith) (omega (arith, earlier, next)))
      (before_items (item_offset kw k + kw) 8 (omega arith) (omega (arith, earlier, next)))

  new : (j : ℕ) → j < count → item_at kw end (place + j) ≡ item_from kw bytes (j * item_width kw)
  new j below =
      let ends : (j + 1) * item_width kw ≤ count * item_width kw = mul-le-mul_right (item_width kw) (omega (arith, below)) in
      let here = place_behind kw place j in
      ap (item_from kw end) here
      ∙ item_from-same kw end bytes (item_offset kw place + j * item_width kw) (j * item_width kw)
      (behind_header (item_offset kw place + j * item_width kw) kw (omega arith) ∙ bytes_at-overwritten_inside page (item_offset kw place) bytes (j * item_width kw) kw (omega (arith, within)) (omega (arith, ends, size)))
      (behind_header (item_offset kw place + j * item_width kw + kw) 8 (omega arith)
      ∙ ap (λ from. bytes_at mid from 8) (let same : item_offset kw place + j * item_width kw + kw ≡ item_offset kw place + (j * item_width kw + kw) = omega arith in same)
      ∙ bytes_at-overwritten_inside page (item_offset kw place) bytes (j * item_width kw + kw) 8 (omega (arith, within)) (omega (arith, ends, size)))

  counted : item_count end ≡ place + count
  counted = field_written mid 0 2 (place + count) (omega (arith, mid_size, fits)) few

  pub node-tail : node_of kw end ≡ with_tail (node_of kw page) place (items_in kw bytes count)
  node-tail =
      node_is kw end _ _ _
      (first_items-joined (item_at kw end) (item_at kw page) (λ j. item_from kw bytes (j * item_width kw)) place count (item_count end) counted kept new
      ∙ ap (λ front. front ++ items_in kw bytes count) (sym (take-first_items (item_at kw page) place (item_count page) before)))
      (ap number_of (before_items 2 2 (omega arith) (omega arith)))
      (ap number_of (before_items 4 4 (omega arith) (omega arith)))

-- fewer items
module _ (kw : ℕ) (page : List ℕ) (count : ℕ) (header : 8 ≤ length page) (before : count ≤ item_count page) (few : count < 65536) where
  behind_count : (from size : ℕ) → 2 ≤ from → bytes_at (overwritten page 0 (bytes_of 2 count)) from size ≡ bytes_at page from size
  behind_count from size some = bytes_at-overwritten_behind page 0 (bytes_of 2 count) from size (omega (arith, header)) some

  pub node-fewer : node_of kw (overwritten page 0 (bytes_of 2 count)) ≡ with_tail (node_of kw page) count []
  node-fewer =
      let same : (k : ℕ) → item_at kw (overwritten page 0 (bytes_of 2 count)) k ≡ item_at kw page k = λ k.
      item_from-same kw _ page (item_offset kw k) (item_offset kw k) (behind_count (item_offset kw k) kw (omega arith)) (behind_count (item_offset kw k + kw) 8 (omega arith)) in
      node_is kw (overwritten page 0 (bytes_of 2 count)) _ _ _
      (first_items-joined (item_at kw (overwritten page 0 (bytes_of 2 count))) (item_at kw page) (item_at kw page) count 0 (item_count (overwritten page 0 (bytes_of 2 count))) (field_written page 0 2 count (omega (arith, header)) few ∙ (let all : count ≡ count + 0 = omega arith in all)) (λ k below. same k) (λ k below. absurd (omega (arith, below)))
      ∙ ap (λ front. front ++ []) (sym (take-first_items (item_at kw page) count (item_count page) before)))
      (ap number_of (behind_count 2 2 (omega arith)))
      (ap number_of (behind_count 4 4 (omega arith)))

-- what a page says of the number of its items
pub count-node : (kw : ℕ) (pages : List (List ℕ)) (page : ℕ) → page < length pages → length (node_at (nodes_of kw pages) page).items ≡ item_count (list_at pages page)
count-node kw pages page there =
    ap (λ (node : Node). length node.items) (node_at-nodes kw pages page there)
    ∙ length-first_items (item_at kw (list_at pages page)) (item_count (list_at pages page))

-- bytes were written into one page
nodes-written : (kw : ℕ) (pages : List (List ℕ)) (page : ℕ) (bytes : List ℕ) (node : Node) → node_of kw bytes ≡ node → nodes_of kw (slice_set pages page bytes) ≡ slice_set (nodes_of kw pages) page node
nodes-written kw pages page bytes node says = nodes-set kw pages page bytes ∙ ap (slice_set (nodes_of kw pages) page) says

-- twice
twice_written : (pages between new : List (List ℕ)) (page offset : ℕ) (bytes : List ℕ) (offset' : ℕ) (bytes' : List ℕ) → page < length pages → between ≡ with_bytes pages page offset bytes → new ≡ with_bytes between page offset' bytes'
    → new ≡ slice_set pages page (overwritten (overwritten (list_at pages page) offset bytes) offset' bytes')
twice_written pages between new page offset bytes offset' bytes' there first second =
    second
    ∙ ap (λ (all : List (List ℕ)). with_bytes all page offset' bytes') first
    ∙ ap (λ (one : List ℕ). slice_set (slice_set pages page (overwritten (list_at pages page) offset bytes)) page (overwritten one offset' bytes')) (get_or-set_same pages page (overwritten (list_at pages page) offset bytes) [] there)
    ∙ set-set pages page (overwritten (list_at pages page) offset bytes) (overwritten (overwritten (list_at pages page) offset bytes) offset' bytes')

pub nodes-tail : (n kw : ℕ) (pages mid new : List (List ℕ)) (page place count : ℕ) (bytes : List ℕ) → page < length pages → length (list_at pages page) ≡ n → n ≤ 65536 → place ≤ item_count (list_at pages page)
    → item_offset kw (place + count) ≤ n → length bytes ≡ count * item_width kw → mid ≡ with_bytes pages page (item_offset kw place) bytes → new ≡ with_bytes mid page 0 (bytes_of 2 (place + count))
    → nodes_of kw new ≡ slice_set (nodes_of kw pages) page (with_tail (node_at (nodes_of kw pages) page) place (items_in kw bytes count))
nodes-tail n kw pages mid new page place count bytes there full largest before fits size first second =
    ap (nodes_of kw) (twice_written pages mid new page (item_offset kw place) bytes 0 (bytes_of 2 (place + count)) there first second)
    ∙ nodes-written kw pages page (overwritten (overwritten (list_at pages page) (item_offset kw place) bytes) 0 (bytes_of 2 (place + count))) (with_tail (node_at (nodes_of kw pages) page) place (items_in kw bytes count))
    (node-tail kw (list_at pages page) bytes place count before (omega (arith, fits, full)) size (few_items kw (place + count) n largest fits)
    ∙ ap (λ (node : Node). with_tail node place (items_in kw bytes count)) (sym (node_at-nodes kw pages page there)))

pub nodes-fewer : (n kw : ℕ) (pages new : List (List ℕ)) (page count : ℕ) → page < length pages → length (list_at pages page) ≡ n → 8 ≤ n → n ≤ 65536 → count ≤ item_count (list_at pages page) → item_offset kw count ≤ n
    → new ≡ with_bytes pages page 0 (bytes_of 2 count) → nodes_of kw new ≡ slice_set (nodes_of kw pages) page (with_tail (node_at (nodes_of kw pages) page) count [])
nodes-fewer n kw pages new page count there full header largest before fits written =
    ap (nodes_of kw) written
    ∙ nodes-written kw pages page (overwritten (list_at pages page) 0 (bytes_of 2 count)) (with_tail (node_at (nodes_of kw pages) page) count [])
    (node-fewer kw (list_at pages page) count (omega (arith, full, header)) before (few_items kw count n largest fits)
    ∙ ap (λ (node : Node). with_tail node count []) (sym (node_at-nodes kw pages page there)))

-- items in two lists of bytes, one behind the other
pub items_in-joined : (kw : ℕ) (first behind : List ℕ) (count more : ℕ) → length first ≡ count * item_width kw → length behind ≡ more * item_width kw → items_in kw (first ++ behind) (count + more) ≡ items_in kw first count ++ items_in kw behind more
items_in-joined kw first behind count more first_size behind_size =
    first_items-joined (λ k. item_from kw (first ++ behind) (k * item_width kw)) (λ k. item_from kw first (k * item_width kw)) (λ k. item_from kw behind (k * item_width kw)) count more (count + more) refl
    (λ k below.
    let ends : (k + 1) * item_width kw ≤ count * item_width kw = mul-le-mul_right (item_width kw) (omega (arith, below)) in
    item_from-same kw (first ++ behind) first (k * item_width kw) (k * item_width kw)
    (bytes_at-left first behind (k * item_width kw) kw (omega (arith, ends, first_size)))
    (bytes_at-left first behind (k * item_width kw + kw) 8 (omega (arith, ends, first_size))))
    (λ k below.
    let here : (count + k) * item_width kw ≡ length first + k * item_width kw = omega (arith, first_size) in
    ap (item_from kw (first ++ behind)) here
    ∙ item_from-same kw (first ++ behind) behind (length first + k * item_width kw) (k * item_width kw)
    (bytes_at-right first behind (k * item_width kw) kw)
    (ap (λ from. bytes_at (first ++ behind) from 8) (let same : length first + k * item_width kw + kw ≡ length first + (k * item_width kw + kw) = omega arith in same)
    ∙ bytes_at-right first behind (k * item_width kw + kw) 8))

-- some items of a page
pub items_in-page : (kw : ℕ) (page : List ℕ) (start end : ℕ) → start ≤ end → end ≤ item_count page → items_in kw (bytes_at page (item_offset kw start) ((end - start) * item_width kw)) (end - start) ≡ take (end - start) (drop start (items_of kw page))
items_in-page kw page start end ordered within =
    let count = item_count page in
    let size = (end - start) * item_width kw in
    first_items-same (λ k. item_from kw (bytes_at page (item_offset kw start) size) (k * item_width kw)) (λ k. item_at kw page (start + k)) (end - start)
    (λ k below.
    let ends : (k + 1) * item_width kw ≤ size = mul-le-mul_right (item_width kw) (omega (arith, below)) in
    let here : item_offset kw start + k * item_width kw ≡ item_offset kw (start + k) = omega arith in
    item_from-same kw (bytes_at page (item_offset kw start) size) page (k * item_width kw) (item_offset kw (start + k))
    (bytes_at-part page (item_offset kw start) size (k * item_width kw) kw (omega (arith, ends)) ∙ ap (λ from. bytes_at page from kw) here)
    (bytes_at-part page (item_offset kw start) size (k * item_width kw + kw) 8 (omega (arith, ends))
    ∙ ap (λ from. bytes_at page from 8) (let there : item_offset kw start + (k * item_width kw + kw) ≡ item_offset kw (start + k) + kw = omega arith in there)))
    ∙ sym (take-first_items (λ k. item_at kw page (start + k)) (end - start) (count - start) (omega (arith, within)))
    ∙ ap (take (end - start)) (sym (drop-first_items (item_at kw page) start count (omega (arith, ordered, within))))

-- those from one on
pub items_in-behind : (kw : ℕ) (page : List ℕ) (start : ℕ) → start ≤ item_count page → items_in kw (bytes_at page (item_offset kw start) ((item_count page - start) * item_width kw)) (item_count page - start) ≡ drop start (items_of kw page)
items_in-behind kw page start within =
    items_in-page kw page start (item_count page) within (omega arith)
    ∙ take_all (item_count page - start) (drop start (items_of kw page)) (omega (arith, length-drop start (items_of kw page), length-first_items (item_at kw page) (item_count page)))

-- a sequence with another item at a place
pub first_items-set : {X : Type 0} (item other : ℕ → X) (count place : ℕ) (x : X) → place < count → other place ≡ x → ((k : ℕ) → k < count → k ≢ place → other k ≡ item k) → first_items other count ≡ slice_set (first_items item count) place x
first_items-set item other zero place x within here same = absurd (omega (arith, within))
first_items-set item other (suc count) place x within here same = elim (cases_lt place count) [
  | inl early ↦
      ap₂ (λ front last. front ++ last ∷ []) (first_items-set item other count place x early here (λ k below. same k (omega (arith, below)))) (same count (omega arith) (λ is. absurd (omega (arith, is, early))))
      ∙ sym (set-append_left (first_items item count) (item count ∷ []) place x (omega (arith, early, length-first_items item count)))
  | inr late ↦
      let at : place ≡ count = omega (arith, late, within) in
      ap₂ (λ front end. front ++ end ∷ []) (first_items-same other item count (λ k below. same k (omega (arith, below)) (λ is. absurd (omega (arith, is, at, below))))) (ap other (sym at) ∙ here)
      ∙ sym (set-append_seam (first_items item count) (item count) [] x)
      ∙ ap (λ i. slice_set (first_items item count ++ item count ∷ []) i x) (let end : length (first_items item count) ≡ place = omega (arith, at, length-first_items item count) in end)
]

-- bytes within one item
module _ (kw : ℕ) (page bytes : List ℕ) (place from : ℕ) (there : place < item_count page) (full : item_offset kw (item_count page) ≤ length page) (inside : from + length bytes ≤ item_width kw) where
  abbrev changed : List ℕ
  changed = overwritten page (item_offset kw place + from) bytes

  item_end : item_offset kw place + item_width kw ≤ length page
  item_end =
      let later = item_offset-before kw (place + 1) (item_count page) (omega (arith, there)) in
      omega (arith, later, full, next_offset kw place)

  front_stays : (begin size : ℕ) → begin + size ≤ item_offset kw place + from → bytes_at changed begin size ≡ bytes_at page begin size
  front_stays begin size before = bytes_at-overwritten_before page (item_offset kw place + from) bytes begin size (omega (arith, item_end, inside)) before

  behind_stays : (begin size : ℕ) → item_offset kw place + from + length bytes ≤ begin → bytes_at changed begin size ≡ bytes_at page begin size
  behind_stays begin size behind = bytes_at-overwritten_behind page (item_offset kw place + from) bytes begin size (omega (arith, item_end, inside)) behind

  others_stay : (k : ℕ) → k ≢ place → item_at kw changed k ≡ item_at kw page k
  others_stay k differs = elim (cases_lt k place) [
    | inl before ↦
        let earlier = item_offset-before kw (k + 1) place (omega (arith, before)) in
        item_from-same kw changed page (item_offset kw k) (item_offset kw k)
        (front_stays (item_offset kw k) kw (omega (arith, earlier, next_offset kw k)))
        (front_stays (item_offset kw k + kw) 8 (omega (arith, earlier, next_offset kw k)))
    | inr from_here ↦
        let later = item_offset-before kw (place + 1) k (omega (arith, from_here, differs)) in
        item_from-same kw changed page (item_offset kw k) (item_offset kw k)
        (behind_stays (item_offset kw k) kw (omega (arith, later, next_offset kw place, inside)))
        (behind_stays (item_offset kw k + kw) 8 (omega (arith, later, next_offset kw place, inside)))
  ]

  pub node-item : (item : Item) → item_at kw changed place ≡ item → node_of kw changed ≡ with_items (node_of kw page) (slice_set (items_of kw page) place item)
  node-item item is =
      let counted : item_count changed ≡ item_count page = ap number_of (front_stays 0 2 (omega arith)) in
      node_is kw changed _ _ _
      (ap (first_items (item_at kw changed)) counted
      ∙ first_items-set (item_at kw page) (item_at kw changed) (item_count page) place item there is (λ k below differs. others_stay k differs))
      (ap number_of (front_stays 2 2 (omega arith)))
      (ap number_of (front_stays 4 4 (omega arith)))

-- an item of a page
item_here : (kw : ℕ) (page : List ℕ) (place : ℕ) → place < item_count page → slice_index_or (items_of kw page) place no_item ≡ item_at kw page place
item_here kw page place there = get_or-first_items (item_at kw page) (item_count page) place no_item there

node-number : (kw : ℕ) (page : List ℕ) (place number : ℕ) → place < item_count page → item_offset kw (item_count page) ≤ length page → number < 256 ^ 8 → node_of kw (overwritten page (item_offset kw place + kw) (bytes_of 8 number)) ≡ with_number (node_of kw page) place number
node-number kw page place number there full small =
    let end = item_end kw page (bytes_of 8 number) place kw there full (omega arith) in
    node-item kw page (bytes_of 8 number) place kw there full (omega arith) (record { key = (slice_index_or (items_of kw page) place no_item).key; number = number })
    (ap₂ (λ (key : List ℕ) (n : ℕ). record { key = key; number = n })
    (front_stays kw page (bytes_of 8 number) place kw there full (omega arith) (item_offset kw place) kw (omega arith) ∙ ap (λ (item : Item). item.key) (sym (item_here kw page place there)))
    (field_written page (item_offset kw place + kw) 8 number (omega (arith, end)) small))

node-key : (kw : ℕ) (page key : List ℕ) (place : ℕ) → place < item_count page → item_offset kw (item_count page) ≤ length page → length key ≡ kw → node_of kw (overwritten page (item_offset kw place) key) ≡ with_key (node_of kw page) place key
node-key kw page key place there full size =
    let end = item_end kw page key place 0 there full (omega (arith, size)) in
    let here : item_offset kw place + 0 ≡ item_offset kw place = omega arith in
    ap (λ offset. node_of kw (overwritten page offset key)) (sym here)
    ∙ node-item kw page key place 0 there full (omega (arith, size)) (record { key = key; number = (slice_index_or (items_of kw page) place no_item).number })
    (ap₂ (λ (one : List ℕ) (n : ℕ). record { key = one; number = n })
    (ap₂ (λ offset count. bytes_at (overwritten page (item_offset kw place + 0) key) offset count) (sym here) (sym size) ∙ bytes_at-overwritten_same page (item_offset kw place + 0) key (omega (arith, end, size)))
    (ap number_of (behind_stays kw page key place 0 there full (omega (arith, size)) (item_offset kw place + kw) 8 (omega (arith, size))) ∙ ap (λ (item : Item). item.number) (sym (item_here kw page place there))))

pub nodes-number : (kw : ℕ) (pages new : List (List ℕ)) (page place number : ℕ) → page < length pages → place < item_count (list_at pages page) → item_offset kw (item_count (list_at pages page)) ≤ length (list_at pages page) → number < 256 ^ 8
    → new ≡ with_bytes pages page (item_offset kw place + kw) (bytes_of 8 number) → nodes_of kw new ≡ slice_set (nodes_of kw pages) page (with_number (node_at (nodes_of kw pages) page) place number)
nodes-number kw pages new page place number there within full small written =
    ap (nodes_of kw) written
    ∙ nodes-written kw pages page (overwritten (list_at pages page) (item_offset kw place + kw) (bytes_of 8 number)) (with_number (node_at (nodes_of kw pages) page) place number)
    (node-number kw (list_at pages page) place number within full small ∙ ap (λ (node : Node). with_number node place number) (sym (node_at-nodes kw pages page there)))

pub nodes-key : (kw : ℕ) (pages new : List (List ℕ)) (page place : ℕ) (key : List ℕ) → page < length pages → place < item_count (list_at pages page) → item_offset kw (item_count (list_at pages page)) ≤ length (list_at pages page) → length key ≡ kw
    → new ≡ with_bytes pages page (item_offset kw place) key → nodes_of kw new ≡ slice_set (nodes_of kw pages) page (with_key (node_at (nodes_of kw pages) page) place key)
nodes-key kw pages new page place key there within full size written =
    ap (nodes_of kw) written
    ∙ nodes-written kw pages page (overwritten (list_at pages page) (item_offset kw place) key) (with_key (node_at (nodes_of kw pages) page) place key)
    (node-key kw (list_at pages page) key place within full size ∙ ap (λ (node : Node). with_key node place key) (sym (node_at-nodes kw pages page there)))

-- a field of the header
module _ (kw : ℕ) (page bytes : List ℕ) (offset : ℕ) (header : 8 ≤ length page) (behind : 2 ≤ offset) (within : offset + length bytes ≤ 8) where
  header_items : items_of kw (overwritten page offset bytes) ≡ items_of kw page
  header_items =
      let counted : item_count (overwritten page offset bytes) ≡ item_count page = ap number_of (bytes_at-overwritten_before page offset bytes 0 2 (omega (arith, within, header)) behind) in
      ap (first_items (item_at kw (overwritten page offset bytes))) counted
      ∙ first_items-same (item_at kw (overwritten page offset bytes)) (item_at kw page) (item_count page) (λ k below.
      item_from-same kw (overwritten page offset bytes) page (item_offset kw k) (item_offset kw k)
      (bytes_at-overwritten_behind page offset bytes (item_offset kw k) kw (omega (arith, within, header)) (omega (arith, within)))
      (bytes_at-overwritten_behind page offset bytes (item_offset kw k + kw) 8 (omega (arith, within, header)) (omega (arith, within))))

node-height : (kw : ℕ) (page : List ℕ) (height : ℕ) → 8 ≤ length page → height < 65536 → node_of kw (overwritten page 2 (bytes_of 2 height)) ≡ with_height (node_of kw page) height
node-height kw page height header small =
    node_is kw (overwritten page 2 (bytes_of 2 height)) _ _ _
    (header_items kw page (bytes_of 2 height) 2 header (omega arith) (omega arith))
    (field_written page 2 2 height (omega (arith, header)) small)
    (ap number_of (bytes_at-overwritten_behind page 2 (bytes_of 2 height) 4 4 (omega (arith, header)) (omega arith)))

node-next : (kw : ℕ) (page : List ℕ) (next : ℕ) → 8 ≤ length page → next < 2 ^ 32 → node_of kw (overwritten page 4 (bytes_of 4 next)) ≡ with_next (node_of kw page) next
node-next kw page next header small =
    node_is kw (overwritten page 4 (bytes_of 4 next)) _ _ _
    (header_items kw page (bytes_of 4 next) 4 header (omega arith) (omega arith))
    (ap number_of (bytes_at-overwritten_before page 4 (bytes_of 4 next) 2 2 (omega (arith, header)) (omega arith)))
    (field_written page 4 4 next (omega (arith, header)) small)

pub nodes-height : (kw : ℕ) (pages new : List (List ℕ)) (page height : ℕ) → page < length pages → 8 ≤ length (list_at pages page) → height < 65536
    → new ≡ with_bytes pages page 2 (bytes_of 2 height) → nodes_of kw new ≡ slice_set (nodes_of kw pages) page (with_height (node_at (nodes_of kw pages) page) height)
nodes-height kw pages new page height there header small written =
    ap (nodes_of kw) written
    ∙ nodes-written kw pages page (overwritten (list_at pages page) 2 (bytes_of 2 height)) (with_height (node_at (nodes_of kw pages) page) height)
    (node-height kw (list_at pages page) height header small ∙ ap (λ (node : Node). with_height node height) (sym (node_at-nodes kw pages page there)))

pub nodes-next : (kw : ℕ) (pages new : List (List ℕ)) (page next : ℕ) → page < length pages → 8 ≤ length (list_at pages page) → next < 2 ^ 32
    → new ≡ with_bytes pages page 4 (bytes_of 4 next) → nodes_of kw new ≡ slice_set (nodes_of kw pages) page (with_next (node_at (nodes_of kw pages) page) next)
nodes-next kw pages new page next there header small written =
    ap (nodes_of kw) written
    ∙ nodes-written kw pages page (overwritten (list_at pages page) 4 (bytes_of 4 next)) (with_next (node_at (nodes_of kw pages) page) next)
    (node-next kw (list_at pages page) next header small ∙ ap (λ (node : Node). with_next node next) (sym (node_at-nodes kw pages page there)))

-- the number of an item, of what the pages say
pub number-node : (kw : ℕ) (pages : List (List ℕ)) (page place : ℕ) → page < length pages → place < item_count (list_at pages page) → (slice_index_or (node_at (nodes_of kw pages) page).items place no_item).number ≡ number_at kw (list_at pages page) place
number-node kw pages page place there within =
    ap (λ (node : Node). (slice_index_or node.items place no_item).number) (node_at-nodes kw pages page there)
    ∙ ap (λ (item : Item). item.number) (item_here kw (list_at pages page) place within)

-- bytes of a page as items: a part, and those from one on
pub items_in-part : (kw : ℕ) (pages : List (List ℕ)) (page start end : ℕ) (whole part : List ℕ) → page < length pages → start ≤ end → end ≤ item_count (list_at pages page) → whole ≡ list_at pages page
    → part ≡ bytes_at whole (item_offset kw start) ((end - start) * item_width kw) → items_in kw part (end - start) ≡ take (end - start) (drop start (node_at (nodes_of kw pages) page).items)
items_in-part kw pages page start end whole part there ordered within is_whole is_part =
    ap (λ bytes. items_in kw bytes (end - start)) (is_part ∙ ap (λ bytes. bytes_at bytes (item_offset kw start) ((end - start) * item_width kw)) is_whole)
    ∙ items_in-page kw (list_at pages page) start end ordered within
    ∙ ap (λ (node : Node). take (end - start) (drop start node.items)) (sym (node_at-nodes kw pages page there))

pub items_in-rest : (kw : ℕ) (pages : List (List ℕ)) (page start count : ℕ) (whole part : List ℕ) → page < length pages → start ≤ item_count (list_at pages page) → whole ≡ list_at pages page → count ≡ item_count (list_at pages page)
    → part ≡ bytes_at whole (item_offset kw start) ((count - start) * item_width kw) → items_in kw part (count - start) ≡ drop start (node_at (nodes_of kw pages) page).items
items_in-rest kw pages page start count whole part there within is_whole is_count is_part =
    ap₂ (λ bytes n. items_in kw bytes (n - start)) (is_part ∙ ap₂ (λ bytes n. bytes_at bytes (item_offset kw start) ((n - start) * item_width kw)) is_whole is_count) is_count
    ∙ items_in-behind kw (list_at pages page) start within
    ∙ ap (λ (node : Node). drop start node.items) (sym (node_at-nodes kw pages page there))

-- the items behind a place, which move to where some that are put before them end
pub nodes-moved : (n kw : ℕ) (pages mid new : List (List ℕ)) (page place end more count : ℕ) (items : List ℕ) → page < length pages → length (list_at pages page) ≡ n → n ≤ 65536 → place ≤ end → end ≤ count → count ≡ item_count (list_at pages page)
    → item_offset kw count ≤ n → item_offset kw (place + (more + (count - end))) ≤ n → length items ≡ more * item_width kw
    → mid ≡ with_bytes pages page (item_offset kw place) (items ++ bytes_at (list_at pages page) (item_offset kw end) ((count - end) * item_width kw))
    → new ≡ with_bytes mid page 0 (bytes_of 2 (place + (more + (count - end))))
    → nodes_of kw new ≡ slice_set (nodes_of kw pages) page (with_tail (node_at (nodes_of kw pages) page) place (items_in kw items more ++ drop end (node_at (nodes_of kw pages) page).items))
nodes-moved n kw pages between after page place last more count items there full largest before inside number old_fits fits size first second =
    let here = list_at pages page in
    let rest = count - last in
    let behind = bytes_at here (item_offset kw last) (rest * item_width kw) in
    let ends = item_offset-between kw last count inside in
    let begins = item_offset-before kw last count inside in
    let behind_size : length behind ≡ rest * item_width kw = length-bytes_at here (item_offset kw last) (rest * item_width kw) (omega (arith, ends, begins, old_fits, full)) in
    let both : (more + rest) * item_width kw ≡ more * item_width kw + rest * item_width kw = omega arith in
    nodes-tail n kw pages between after page place (more + rest) (items ++ behind) there full largest (omega (arith, before, inside, number)) fits (omega (arith, length-append items behind, size, behind_size, both)) first second
    ∙ ap (λ (tail : List Item). slice_set (nodes_of kw pages) page (with_tail (node_at (nodes_of kw pages) page) place tail))
    (items_in-joined kw items behind more rest size behind_size
    ∙ ap (λ (tail : List Item). items_in kw items more ++ tail) (items_in-rest kw pages page last count here behind there (omega (arith, inside, number)) refl number refl))

-- none stand behind all
pub drop-all : (kw : ℕ) (pages : List (List ℕ)) (page end count : ℕ) → end ≡ count → count ≡ length (node_at (nodes_of kw pages) page).items → [] ≡ drop end (node_at (nodes_of kw pages) page).items
drop-all kw pages page end count is_end is_count = sym (drop_of_length-le (node_at (nodes_of kw pages) page).items (omega (arith, is_end, is_count)))

-- the four bytes of a number, as the standard library gives them
pub to_le_bytes-4 : (number : ℕ) → to_le_bytes w32 number ≡ bytes_of 4 number
to_le_bytes-4 number =
    let second = div-div-eq-div-mul number 256 256 in
    let third = div-div-eq-div-mul number (256 * 256) 256 in
    ap₂ (λ (a : ℕ) (b : ℕ). number % 256 ∷ number / 256 % 256 ∷ a % 256 ∷ b % 256 ∷ []) (sym second) (sym third ∙ ap (λ (n : ℕ). n / 256) (sym second))

-- a page of zeros says nothing
pub node-zeros : (kw n : ℕ) → 8 ≤ n → node_of kw (replicate n 0) ≡ no_node
node-zeros kw n header =
    node_is kw (replicate n 0) [] 0 0
    (ap (first_items (item_at kw (replicate n 0))) (field_of_zeros n 0 2 (omega (arith, header))))
    (field_of_zeros n 2 2 (omega (arith, header)))
    (field_of_zeros n 4 4 (omega (arith, header)))

pub nodes-grown : (kw n : ℕ) (pages : List (List ℕ)) → 8 ≤ n → nodes_of kw (pages ++ replicate n 0 ∷ []) ≡ nodes_of kw pages ++ no_node ∷ []
nodes-grown kw n pages header =
    map-append (node_of kw) pages (replicate n 0 ∷ []) ∙ ap (λ (node : Node). nodes_of kw pages ++ node ∷ []) (node-zeros kw n header)
