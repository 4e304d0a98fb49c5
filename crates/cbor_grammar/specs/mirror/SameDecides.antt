-- The test of `specs/Same.antt` holds for two items if and only if they are equal. It is here because `==` needs a
-- proof that it is an equivalence.
use Rattle.std.proofs.Common.{◌≡◌, Bool, true, ◌&&◌, nat_eq, Some, None, refl, ap, subst}
use Rattle.std.specs.Bool.{Decides}
use Rattle.std.specs.Cmp.{IsEquivalence, decided}
use Rattle.std.specs.Cmp.Lexicographic.{pointwise, pointwise_decides, bytes_decides}
use Rattle.std.proofs.lemmas.Bool.{false≢true, and_parts, and_from}
use Rattle.std.proofs.lemmas.Bool.Decides.{Decides-eqb}
use Rattle.cbor_grammar.specs.declared.width.IntegerWidth.TheVariants.{Unknown, Zero, Eight, Sixteen, ThirtyTwo}
use Rattle.cbor_grammar.specs.declared.width.IntegerWidth.TheVariants.{SixtyFour}
use Rattle.cbor_grammar.specs.declared.width.FloatWidth.TheVariants as float_width
use Rattle.cbor_grammar.specs.Item as spec
use Rattle.cbor_grammar.specs.Item.{Chunk, Atom, integer, negative, string, chunked_string, float, simple, Item, atom}
use Rattle.cbor_grammar.specs.Item.{array, tagged, Items, no_items, item, Pairs, no_pairs, pair}
use Rattle.cbor_grammar.specs.declared.strings.StringKind.TheVariants.{Bytes, Text}
use Rattle.cbor_grammar.specs.Same.{same_width, same_float_width, same_count, same_chunk, same_atom, same_item}
use Rattle.cbor_grammar.specs.Same.{same_items, same_pairs}

-- a test that holds of equals alone, and one that holds of each beside itself
abbrev Tells : {X : Type 0} → (X → X → Bool) → Type 0
Tells {X} test = (x y : X) → test x y ≡ true → x ≡ y

abbrev Holds : {X : Type 0} → (X → X → Bool) → Type 0
Holds {X} test = (x : X) → test x x ≡ true

-- ---- numbers, widths and chunks

number_is : Tells nat_eq
number_is n m h = (Decides-eqb n m).0 h

width_is : Tells same_width
width_is Unknown Unknown h = refl
width_is Zero Zero h = refl
width_is Eight Eight h = refl
width_is Sixteen Sixteen h = refl
width_is ThirtyTwo ThirtyTwo h = refl
width_is SixtyFour SixtyFour h = refl
width_is v w h = absurd (false≢true h)

float_width_is : Tells same_float_width
float_width_is float_width.Unknown float_width.Unknown h = refl
float_width_is float_width.Sixteen float_width.Sixteen h = refl
float_width_is float_width.ThirtyTwo float_width.ThirtyTwo h = refl
float_width_is float_width.SixtyFour float_width.SixtyFour h = refl
float_width_is v w h = absurd (false≢true h)

count_is : Tells same_count
count_is None None h = refl
count_is (Some v) (Some w) h = ap Some (width_is v w h)
count_is v w h = absurd (false≢true h)

chunk_is : Tells same_chunk
chunk_is c d h =
    let p = and_parts (pointwise nat_eq c.bytes d.bytes) (same_width c.width d.width) h in
    λ k. record { bytes = (bytes_decides c.bytes d.bytes).0 p.0 k; width = width_is c.width d.width p.1 k }

number_itself : Holds nat_eq
number_itself n = (Decides-eqb n n).1 refl

width_itself : Holds same_width
width_itself Unknown = refl
width_itself _ = refl

float_width_itself : Holds same_float_width
float_width_itself float_width.Unknown = refl
float_width_itself _ = refl

count_itself : Holds same_count
count_itself None = refl
count_itself (Some w) = width_itself w

chunk_itself : Holds same_chunk
chunk_itself c = and_from _ _ ((bytes_decides c.bytes c.bytes).1 refl) (width_itself c.width)

chunk_decides : (c d : Chunk) → Decides (same_chunk c d) (c ≡ d)
chunk_decides c d = (chunk_is c d, λ e. subst (λ x. same_chunk c x ≡ true) e (chunk_itself c))

-- ---- items

atom_is : Tells same_atom
atom_is (integer n v) (integer m w) h =
    let p = and_parts (nat_eq n m) (same_width v w) h in
    λ k. integer (number_is n m p.0 k) (width_is v w p.1 k)
atom_is (negative n v) (negative m w) h =
    let p = and_parts (nat_eq n m) (same_width v w) h in
    λ k. negative (number_is n m p.0 k) (width_is v w p.1 k)
atom_is (string Bytes c) (string Bytes d) h = ap (string Bytes) (chunk_is c d h)
atom_is (string Text c) (string Text d) h = ap (string Text) (chunk_is c d h)
atom_is (chunked_string Bytes cs) (chunked_string Bytes ds) h =
    ap (chunked_string Bytes) ((pointwise_decides chunk_decides cs ds).0 h)
atom_is (chunked_string Text cs) (chunked_string Text ds) h =
    ap (chunked_string Text) ((pointwise_decides chunk_decides cs ds).0 h)
atom_is (float n v) (float m w) h =
    let p = and_parts (nat_eq n m) (same_float_width v w) h in
    λ k. float (number_is n m p.0 k) (float_width_is v w p.1 k)
atom_is (simple n) (simple m) h = ap simple (number_is n m h)
atom_is a b h = absurd (false≢true h)

mutual
  item_is : Tells same_item
  item_is (atom a) (atom b) h = ap atom (atom_is a b h)
  item_is (array is v) (array js w) h =
      let p = and_parts (same_items is js) (same_count v w) h in
      λ k. array (items_is is js p.0 k) (count_is v w p.1 k)
  item_is (spec.map ps v) (spec.map qs w) h =
      let p = and_parts (same_pairs ps qs) (same_count v w) h in
      λ k. spec.map (pairs_is ps qs p.0 k) (count_is v w p.1 k)
  item_is (tagged t v i) (tagged s w j) h =
      let p = and_parts (nat_eq t s && same_width v w) (same_item i j) h in
      let q = and_parts (nat_eq t s) (same_width v w) p.0 in
      λ k. tagged (number_is t s q.0 k) (width_is v w q.1 k) (item_is i j p.1 k)
  item_is i j h = absurd (false≢true h)

  items_is : Tells same_items
  items_is no_items no_items h = refl
  items_is (item i is) (item j js) h =
      let p = and_parts (same_item i j) (same_items is js) h in
      λ k. item (item_is i j p.0 k) (items_is is js p.1 k)
  items_is is js h = absurd (false≢true h)

  pairs_is : Tells same_pairs
  pairs_is no_pairs no_pairs h = refl
  pairs_is (pair l v ps) (pair m w qs) h =
      let p = and_parts (same_item l m && same_item v w) (same_pairs ps qs) h in
      let q = and_parts (same_item l m) (same_item v w) p.0 in
      λ k. pair (item_is l m q.0 k) (item_is v w q.1 k) (pairs_is ps qs p.1 k)
  pairs_is ps qs h = absurd (false≢true h)

atom_itself : Holds same_atom
atom_itself (integer n w) = and_from _ _ (number_itself n) (width_itself w)
atom_itself (negative n w) = and_from _ _ (number_itself n) (width_itself w)
atom_itself (string Bytes c) = chunk_itself c
atom_itself (string Text c) = chunk_itself c
atom_itself (chunked_string Bytes cs) = (pointwise_decides chunk_decides cs cs).1 refl
atom_itself (chunked_string Text cs) = (pointwise_decides chunk_decides cs cs).1 refl
atom_itself (float n w) = and_from _ _ (number_itself n) (float_width_itself w)
atom_itself (simple n) = number_itself n

mutual
  item_itself : Holds same_item
  item_itself (atom a) = atom_itself a
  item_itself (array is w) = and_from _ _ (items_itself is) (count_itself w)
  item_itself (spec.map ps w) = and_from _ _ (pairs_itself ps) (count_itself w)
  item_itself (tagged t w i) = and_from _ _ (and_from _ _ (number_itself t) (width_itself w)) (item_itself i)

  items_itself : Holds same_items
  items_itself no_items = refl
  items_itself (item i is) = and_from _ _ (item_itself i) (items_itself is)

  pairs_itself : Holds same_pairs
  pairs_itself no_pairs = refl
  pairs_itself (pair k v ps) = and_from _ _ (and_from _ _ (item_itself k) (item_itself v)) (pairs_itself ps)

pub same_decides : (i j : Item) → Decides (same_item i j) (i ≡ j)
same_decides i j = (item_is i j, λ e. subst (λ x. same_item i x ≡ true) e (item_itself i))

pub same_equivalence : IsEquivalence same_item
same_equivalence = decided same_item same_decides
