-- Reading EDN straight to bytes: if the parts of an array, a map, a tagged item or a string in chunks were appended in
-- turn, the encoding of the whole was appended. The head of an array or a map is put where a byte was left for it.
-- `read_array`, `read_map`, `read_chunks` and `read_tagged` return the item if they read its parts.
use Rattle.std.proofs.Common.{◌≡◌, ℕ, ◌+◌, List, [], ◌∷◌, ◌++◌, length, take, drop, true, false}
use Rattle.std.proofs.Common.{Option, Some, None, suc, refl, sym, ap, ap₂, ◌∙◌, append_assoc}
use Rattle.std.proofs.Common.{arith, append-nil, ◌^◌, ◌==◌, position, is_some}
use Rattle.std.proofs.lemmas.Bool.{lt-ltb}
use Rattle.cbor_grammar.specs.declared.width.IntegerWidth.TheVariants.{Unknown, Zero, Eight, Sixteen, ThirtyTwo}
use Rattle.cbor_grammar.specs.declared.width.IntegerWidth.TheVariants.{SixtyFour}
use Rattle.cbor_grammar.specs.Head.{opening}
use Rattle.cbor_grammar.specs.WellFormed.{FitsCount}
use Rattle.cbor_edn_grammar.specs.declared.close.Close.TheVariants.{Bracket, Brace, Parenthesis}
use Rattle.cbor_edn_grammar.specs.Address.{pair_of}
use Rattle.cbor_edn_grammar.specs.Blank.{skip_blank}
use Rattle.cbor_edn_grammar.specs.Lists.{read_length, read_members}
use Rattle.cbor_edn_grammar.specs.Items.{item_turn, pair_turn, chunk_turn, first_kind, fits_count, read_array}
use Rattle.cbor_edn_grammar.specs.Items.{read_map, read_chunks, read_tagged, quoted_item}
use Rattle.std.proofs.Math.Seq.{take-append_seam, drop-append-add}
use Rattle.std.proofs.lemmas.List.{length-append}
use Rattle.std.proofs.lemmas.Grind.{flat_map-append}
use Rattle.cbor_grammar.specs.declared.strings.StringKind.{StringKind}
use Rattle.cbor_grammar.specs.declared.width.IntegerWidth.{IntegerWidth}
use Rattle.cbor_grammar.specs.Item as spec
use Rattle.cbor_grammar.specs.Item.{Item, Chunk, atom, chunked_string, array, tagged, items_of, pairs_of, item_count}
use Rattle.cbor_grammar.specs.Item.{pair_count}
use Rattle.cbor_grammar.specs.StringKind.{major_of}
use Rattle.cbor_grammar.specs.Written.{encoded, encoded_head, encoded_open, encoded_close, encoded_chunk}
use Rattle.cbor_edn_grammar.specs.Reading.{Read, after_byte}
use Rattle.cbor_edn_reader.specs.Adds.{items_bytes, pairs_bytes, chunks_bytes}

-- ---- lists of members

pub items_join : (a b : List Item) → items_bytes (a ++ b) ≡ items_bytes a ++ items_bytes b
items_join [] b = refl
items_join (i ∷ a) b =
    ap (λ x. encoded i ++ x) (items_join a b) ∙ sym (append_assoc (encoded i) (items_bytes a) (items_bytes b))

pub pairs_join : (a b : List (Item × Item)) → pairs_bytes (a ++ b) ≡ pairs_bytes a ++ pairs_bytes b
pairs_join [] b = refl
pairs_join (p ∷ a) b =
    ap (λ x. encoded p.0 ++ (encoded p.1 ++ x)) (pairs_join a b)
    ∙ ap (λ x. encoded p.0 ++ x) (sym (append_assoc (encoded p.1) (pairs_bytes a) (pairs_bytes b)))
    ∙ sym (append_assoc (encoded p.0) (encoded p.1 ++ pairs_bytes a) (pairs_bytes b))

pub chunks_join : (kind : StringKind) (a b : List Chunk)
    → chunks_bytes kind (a ++ b) ≡ chunks_bytes kind a ++ chunks_bytes kind b
chunks_join kind a b = flat_map-append (encoded_chunk (major_of kind)) a b

pub items_counted : (is : List Item) → item_count (items_of is) ≡ length is
items_counted [] = refl
items_counted (i ∷ is) = ap suc (items_counted is)

pub pairs_counted : (ps : List (Item × Item)) → pair_count (pairs_of ps) ≡ length ps
pairs_counted [] = refl
pairs_counted (p ∷ ps) = ap suc (pairs_counted ps)

module _ {X : Type 0} (written : List X → List ℕ)
    (join : (a b : List X) → written (a ++ b) ≡ written a ++ written b) where
  -- one member more
  pub member_added : (old mid new : List ℕ) (front : List X) (x : X) → mid ≡ old ++ written front
      → new ≡ mid ++ written (x ∷ []) → new ≡ old ++ written (front ++ x ∷ [])
  member_added old mid new front x before is =
      is ∙ ap (λ b. b ++ written (x ∷ [])) before ∙ append_assoc old (written front) (written (x ∷ []))
      ∙ ap (λ b. old ++ b) (sym (join front (x ∷ [])))

pub counted_more : {X : Type 0} (n m : ℕ) (front : List X) (x : X) → n ≡ length front → m ≡ n + 1
    → m ≡ length (front ++ x ∷ [])
counted_more n m front x is more = omega (arith, is, more, length-append front (x ∷ []))

-- ---- a byte that was left for a head

pub gap_front : (old bytes mid : List ℕ) (place : ℕ) → place ≡ length old → mid ≡ (old ++ 0 ∷ []) ++ bytes
    → take place mid ≡ old
gap_front old bytes mid place at is =
    ap₂ take at (is ∙ append_assoc old (0 ∷ []) bytes) ∙ take-append_seam old (0 ∷ bytes)

pub gap_back : (old bytes mid : List ℕ) (place : ℕ) → place ≡ length old → mid ≡ (old ++ 0 ∷ []) ++ bytes
    → drop (place + 1) mid ≡ bytes
gap_back old bytes mid place at is =
    ap₂ drop (ap (λ n. n + 1) at) (is ∙ append_assoc old (0 ∷ []) bytes) ∙ drop-append-add old (0 ∷ bytes) 1

-- a container
pub array_written : (old gap mid opened new : List ℕ) (place count : ℕ) (width : Option IntegerWidth) (is : List Item)
    → place ≡ length old → gap ≡ old ++ 0 ∷ [] → mid ≡ gap ++ items_bytes is → count ≡ length is
    → opened ≡ take place mid ++ (encoded_open 4 count width ++ drop (place + 1) mid)
    → new ≡ opened ++ encoded_close width → new ≡ old ++ encoded (array (items_of is) width)
array_written old gap mid opened new place count width is at left members counted open_ close =
    let content : mid ≡ (old ++ 0 ∷ []) ++ items_bytes is = members ∙ ap (λ b. b ++ items_bytes is) left in
    let n : count ≡ item_count (items_of is) = counted ∙ sym (items_counted is) in
    let front = gap_front old (items_bytes is) mid place at content in
    let back = gap_back old (items_bytes is) mid place at content in
    let whole = rw (front, back, n) at open_ in
    rw whole at close ∙ append_assoc old (encoded_open 4 (item_count (items_of is)) width ++ items_bytes is)
    (encoded_close width)
    ∙ ap (λ b. old ++ b) (append_assoc (encoded_open 4 (item_count (items_of is)) width) (items_bytes is)
    (encoded_close width))

pub map_written : (old gap mid opened new : List ℕ) (place count : ℕ) (width : Option IntegerWidth)
    (ps : List (Item × Item)) → place ≡ length old → gap ≡ old ++ 0 ∷ [] → mid ≡ gap ++ pairs_bytes ps
    → count ≡ length ps
    → opened ≡ take place mid ++ (encoded_open 5 count width ++ drop (place + 1) mid)
    → new ≡ opened ++ encoded_close width → new ≡ old ++ encoded (spec.map (pairs_of ps) width)
map_written old gap mid opened new place count width ps at left members counted open_ close =
    let content : mid ≡ (old ++ 0 ∷ []) ++ pairs_bytes ps = members ∙ ap (λ b. b ++ pairs_bytes ps) left in
    let n : count ≡ pair_count (pairs_of ps) = counted ∙ sym (pairs_counted ps) in
    let front = gap_front old (pairs_bytes ps) mid place at content in
    let back = gap_back old (pairs_bytes ps) mid place at content in
    let whole = rw (front, back, n) at open_ in
    rw whole at close ∙ append_assoc old (encoded_open 5 (pair_count (pairs_of ps)) width ++ pairs_bytes ps)
    (encoded_close width)
    ∙ ap (λ b. old ++ b) (append_assoc (encoded_open 5 (pair_count (pairs_of ps)) width) (pairs_bytes ps)
    (encoded_close width))

-- ---- what the definition reads

pub fits_count_of : (width : Option IntegerWidth) (n : ℕ) → FitsCount width n → fits_count width n ≡ true
fits_count_of None n h = refl
fits_count_of (Some Unknown) n h = lt-ltb n (2 ^ 64) h
fits_count_of (Some Zero) n h = lt-ltb n 24 h
fits_count_of (Some Eight) n h = lt-ltb n (2 ^ 8) h
fits_count_of (Some Sixteen) n h = lt-ltb n (2 ^ 16) h
fits_count_of (Some ThirtyTwo) n h = lt-ltb n (2 ^ 32) h
fits_count_of (Some SixtyFour) n h = lt-ltb n (2 ^ 64) h

module _ (read : List ℕ → Read Item) where
  pub array_read : (text after rest : List ℕ) (width : Option IntegerWidth) (is : List Item)
      → read_length Bracket text ≡ Some (width, after)
      → read_members (item_turn read Bracket) Bracket after ≡ Some (is, rest) → fits_count width (length is) ≡ true
      → read_array read text ≡ Some (array (items_of is) width, rest)
  array_read text after rest width is a m fits = rw (a, m, fits) refl

  pub map_read : (text after rest : List ℕ) (width : Option IntegerWidth) (ps : List (Item × Item))
      → read_length Brace text ≡ Some (width, after)
      → read_members (pair_turn read) Brace after ≡ Some (ps, rest) → fits_count width (length ps) ≡ true
      → read_map read text ≡ Some (spec.map (pairs_of ps) width, rest)
  map_read text after rest width ps a m fits = rw (a, m, fits) refl

  pub chunks_read : (text after rest : List ℕ) (width : Option IntegerWidth) (kind : StringKind) (cs : List Chunk)
      → read_length Parenthesis text ≡ Some (width, after) → is_some width ≡ false
      → kind ≡ first_kind after
      → read_members (chunk_turn read kind) Parenthesis after ≡ Some (cs, rest)
      → read_chunks read text ≡ Some (atom (chunked_string kind cs), rest)
  chunks_read text after rest None kind cs a none same m = rw (a, ← same, m) refl
  chunks_read text after rest (Some w) kind cs a none same m = absurd cc

  pub tagged_read : (n : ℕ) (w : IntegerWidth) (text first mid second rest : List ℕ) (i : Item)
      → first ≡ skip_blank text → read first ≡ Some (i, mid) → second ≡ skip_blank mid
      → after_byte 41 second ≡ Some rest → read_tagged read n w text ≡ Some (tagged n w i, rest)
  tagged_read n w text first mid second rest i a b c d = rw (← a, b, ← c, d) refl

pub quoted_read : (item : List ℕ → Option Item) (text rest after : List ℕ) (n : ℕ) (i : Item) → rest ≡ text
    → Some n ≡ position (λ b. b == 39) rest → item (take n rest) ≡ Some i → after ≡ drop (n + 1) rest
    → quoted_item item text ≡ Some (i, after)
quoted_read item text rest after n i same at is back = rw (← same, ← at, is, back) refl

-- ---- what is written of them

pub tag_written : (old mid new : List ℕ) (n : ℕ) (w : IntegerWidth) (i : Item) → mid ≡ old ++ encoded_head 6 n w
    → new ≡ mid ++ encoded i → new ≡ old ++ encoded (tagged n w i)
tag_written old mid new n w i a b =
    b ∙ ap (λ x. x ++ encoded i) a ∙ append_assoc old (encoded_head 6 n w) (encoded i)

pub pair_written : (old one two new : List ℕ) (n : ℕ) (i : Item) → one ≡ old ++ encoded_head 4 2 Unknown
    → two ≡ one ++ encoded_head 0 n Unknown → new ≡ two ++ encoded i → new ≡ old ++ encoded (pair_of n i)
pair_written old one two new n i a b c =
    let count = encoded_head 4 2 Unknown in
    let bits = encoded_head 0 n Unknown in
    let ends : bits ++ encoded i ≡ (bits ++ (encoded i ++ [])) ++ [] =
    sym (append-nil (bits ++ (encoded i ++ [])) ∙ ap (λ x. bits ++ x) (append-nil (encoded i))) in
    c ∙ ap (λ x. x ++ encoded i) (b ∙ ap (λ x. x ++ bits) a ∙ append_assoc old count bits)
    ∙ append_assoc old (count ++ bits) (encoded i)
    ∙ ap (λ x. old ++ x) (append_assoc count bits (encoded i) ∙ ap (λ x. count ++ x) ends)

pub chunks_written : (old one two new : List ℕ) (major : ℕ) (kind : StringKind) (cs : List Chunk)
    → major ≡ major_of kind → one ≡ old ++ encoded_open major 0 None → two ≡ one ++ chunks_bytes kind cs
    → new ≡ two ++ encoded_close None → new ≡ old ++ encoded (atom (chunked_string kind cs))
chunks_written old one two new major kind cs same a b c =
    let open_ = opening (major_of kind) ∷ [] in
    let first : one ≡ old ++ open_ = a ∙ ap (λ m. old ++ encoded_open m 0 None) same in
    c ∙ ap (λ x. x ++ 255 ∷ []) (b ∙ ap (λ x. x ++ chunks_bytes kind cs) first
    ∙ append_assoc old open_ (chunks_bytes kind cs))
    ∙ append_assoc old (open_ ++ chunks_bytes kind cs) (255 ∷ [])
