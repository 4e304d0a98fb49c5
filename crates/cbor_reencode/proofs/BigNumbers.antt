-- If a tag fits its width, its level is allowed and its item was written as the same item, `tagged_bytes` are the same
-- tag and item. A big number stays the same number: it becomes an integer if it fits, and otherwise loses its leading
-- zero bytes. `big_endian` is no smaller than the number that it starts with.
use Rattle.std.proofs.Common.{◌≡◌, ℕ, ◌+◌, ◌*◌, ◌^◌, ◌<◌, ◌≤◌, Bool, true, false, cond, ltb, eqb, List, [], ◌∷◌, ◌++◌}
use Rattle.std.proofs.Common.{length, Option, Some, None, Ok, inl, inr, refl, sym, ap, subst, ◌∙◌, arith}
use Rattle.std.proofs.lemmas.Bool.{ltb-true, eqb-true}
use Rattle.std.proofs.lemmas.List.{append-nil}
use Rattle.cbor_grammar.specs.declared.width.IntegerWidth.{IntegerWidth}
use Rattle.cbor_grammar.specs.declared.width.IntegerWidth.TheVariants as width
use Rattle.cbor_grammar.specs.declared.argument.Argument.TheVariants.{Number}
use Rattle.cbor_grammar.specs.declared.head.ItemHead.{ItemHead}
use Rattle.cbor_grammar.specs.declared.head.ItemHead.TheVariants as item_head
use Rattle.cbor_grammar.specs.declared.strings.StringKind.TheVariants.{Bytes, Text}
use Rattle.cbor_grammar.specs.Item as spec
use Rattle.cbor_grammar.specs.Item.{Chunk, Atom, integer, negative, string, chunked_string, float, simple, Item, atom}
use Rattle.cbor_grammar.specs.Item.{array, tagged}
use Rattle.cbor_grammar.specs.Head.{FitsStated, shortest}
use Rattle.cbor_grammar.specs.WellFormed.{deepest}
use Rattle.cbor_grammar.specs.Bytes.{strict, Spells}
use Rattle.cbor_grammar.specs.Written.{encoded_head}
use Rattle.cbor_grammar.specs.Reading.{read_head}
use Rattle.cbor_rules.specs.declared.rules.Rules.{Rules}
use Rattle.cbor_rules.specs.Same.{said, whole, IsSame}
use Rattle.cbor_rules.proofs.Again.{string_read}
use Rattle.cbor_rules.proofs.BigNumbers.{IsOther, bytes_or_not, other_read}
use Rattle.cbor_reencode.specs.Reduction.{big_endian, without_zeros, content_of, small_number, big_number, big_or}
use Rattle.cbor_reencode.specs.Reduction.{is_big, reduced_tag, reduced_item, IsSameNumbered}
use Rattle.cbor_reencode.specs.mirror.Chosen.{chosen_width}
use Rattle.cbor_reencode.specs.mirror.Numbers.{content_read, big_content, string_bytes, big_bytes, tag_bytes}
use Rattle.cbor_reencode.specs.mirror.Numbers.{tagged_bytes}
use Rattle.cbor_reencode.specs.mirror.Rewritten.{Written}
use Rattle.cbor_reencode.proofs.Atoms.{alone_written, content_written}
use Rattle.cbor_reencode.proofs.Choices.{chosen_fits, fits_number, shortest_fits, stated_head}
use Rattle.cbor_reencode.proofs.Kept.{same_item}

-- ---- bytes as a number

-- a zero byte in front is of no account
zeros_out : (c : List ℕ) → big_endian 0 (without_zeros c) ≡ big_endian 0 c
zeros_out [] = refl
zeros_out (d ∷ c) = by (eqb d 0) refl (zeros_out c)
  where
    by : (t : Bool) → eqb d 0 ≡ t → big_endian 0 (without_zeros c) ≡ big_endian 0 c
        → big_endian 0 (cond t (without_zeros c) (d ∷ c)) ≡ big_endian 0 (d ∷ c)
    by true is again =
        let zero : d ≡ 0 = eqb-true d 0 is in
        let same : 0 ≡ 256 * 0 + d = omega (arith, zero) in
        again ∙ ap (λ n. big_endian n c) same
    by false is again = refl

zeros_once : (c : List ℕ) → without_zeros (without_zeros c) ≡ without_zeros c
zeros_once [] = refl
zeros_once (d ∷ c) = by (eqb d 0) refl (zeros_once c)
  where
    by : (t : Bool) → eqb d 0 ≡ t → without_zeros (without_zeros c) ≡ without_zeros c
        → without_zeros (cond t (without_zeros c) (d ∷ c)) ≡ cond t (without_zeros c) (d ∷ c)
    by true is again = again
    by false is again = ap (λ (t : Bool). cond t (without_zeros c) (d ∷ c)) is

zeros_fewer : (c : List ℕ) → length (without_zeros c) ≤ length c
zeros_fewer [] = omega arith
zeros_fewer (d ∷ c) = by (eqb d 0) (zeros_fewer c)
  where
    by : (t : Bool) → length (without_zeros c) ≤ length c
        → length (cond t (without_zeros c) (d ∷ c)) ≤ length (d ∷ c)
    by true again = omega (arith, again)
    by false again = omega arith

-- the bytes before others only make the number larger
pub grows : (n : ℕ) (c : List ℕ) → n ≤ big_endian n c
grows n [] = omega arith
grows n (d ∷ c) = omega (arith, grows (256 * n + d) c)

pub grows_more : (n : ℕ) (c : List ℕ) → 0 < length c → 256 * n ≤ big_endian n c
grows_more n [] some = absurd (omega arith)
grows_more n (d ∷ c) some = omega (arith, grows (256 * n + d) c)

-- ---- the same content

abbrev said_content : Atom → Option (List ℕ)
said_content (string Bytes c) = Some c.bytes
said_content a = None

content_said : (t : Bool) (a : Atom) → content_of (atom a) ≡ said_content (said t a)
content_said t (integer n w) = refl
content_said t (negative n w) = refl
content_said t (string Bytes c) = refl
content_said t (string Text c) = refl
content_said t (chunked_string Bytes cs) = refl
content_said t (chunked_string Text cs) = refl
content_said true (float bits w) = refl
content_said false (float bits w) = refl
content_said t (simple n) = refl

same_content : (t : Bool) (i j : Item) → IsSame t i j → content_of i ≡ content_of j
same_content t (atom a) (atom b) h = content_said t a ∙ ap said_content h ∙ sym (content_said t b)
same_content t (array is w) (array js v) h = refl
same_content t (spec.map ps w) (spec.map qs v) h = refl
same_content t (tagged k w i) (tagged l v j) h = refl
same_content t (atom a) (array js v) h = absurd h
same_content t (atom a) (spec.map qs v) h = absurd h
same_content t (atom a) (tagged l v j) h = absurd h
same_content t (array is w) (atom b) h = absurd h
same_content t (array is w) (spec.map qs v) h = absurd h
same_content t (array is w) (tagged l v j) h = absurd h
same_content t (spec.map ps w) (atom b) h = absurd h
same_content t (spec.map ps w) (array js v) h = absurd h
same_content t (spec.map ps w) (tagged l v j) h = absurd h
same_content t (tagged k w i) (atom b) h = absurd h
same_content t (tagged k w i) (array js v) h = absurd h
same_content t (tagged k w i) (spec.map qs v) h = absurd h

-- items of one tag are the same if they are
same_tag : (rules : Rules) (tag : ℕ) (w v : IntegerWidth) (i j : Item) → IsSame rules.shortest_floats i j
    → IsSame rules.shortest_floats (reduced_tag rules tag w i) (reduced_tag rules tag v j)
same_tag rules tag w v i j h =
    subst (λ (p : Option (List ℕ)). IsSame rules.shortest_floats (reduced_tag rules tag w i)
    (cond (is_big rules tag) (big_or tag p (tagged tag v j)) (tagged tag v j)))
    (same_content rules.shortest_floats i j h)
    (by (is_big rules tag) (content_of i))
  where
    by : (s : Bool) (o : Option (List ℕ))
        → IsSame rules.shortest_floats (cond s (big_or tag o (tagged tag w i)) (tagged tag w i))
        (cond s (big_or tag o (tagged tag v j)) (tagged tag v j))
    by true (Some c) = same_item rules.shortest_floats (big_number tag c)
    by true None = (refl, h)
    by false o = (refl, h)

-- ---- the content that is read

other_content : (h : ItemHead) (r : List ℕ) → IsOther h → content_read (Ok (h, r)) ≡ None
other_content (item_head.String Bytes (Number n w)) r other = absurd other
other_content h r other = refl

record IsContent (rules : Rules) (tag : ℕ) (j : Item) (content : List ℕ) : Type 0 where
  pub big : is_big rules tag ≡ true
  pub chunk : Chunk
  pub is : j ≡ atom (string Bytes chunk)
  pub bytes : chunk.bytes ≡ content

content_is : (rules : Rules) (tag level : ℕ) (y content : List ℕ) (j : Item) → Spells strict level y j
    → big_content rules tag y ≡ Some content → IsContent rules tag j content
content_is rules tag level y content j h e = by (is_big rules tag) refl e
  where
    of_item : is_big rules tag ≡ true → content_read (read_head (y ++ [])) ≡ Some content
        → IsContent rules tag j content
    of_item on e =
        elim (bytes_or_not j) [
          | inl is ↦
              let s = subst (λ (k : Item). Spells strict level y k) is.1 h in
              let same : ◌≡◌ {A = Option (List ℕ)} (Some (is.0.bytes ++ [])) (Some content) =
              sym (ap content_read (string_read Bytes is.0 y [] s.1)) ∙ e in
              let bytes : is.0.bytes ++ [] ≡ content = cc in
              record { big = on; chunk = is.0; is = is.1; bytes = sym (append-nil is.0.bytes) ∙ bytes }
          | inr other ↦
              let none = other_read content_read other_content j level y [] h other in
              absurd cc
        ]

    by : (s : Bool) → is_big rules tag ≡ s → cond s (content_read (read_head y)) None ≡ Some content
        → IsContent rules tag j content
    by true on e = of_item on (ap (λ (x : List ℕ). content_read (read_head x)) (append-nil y) ∙ e)
    by false off e = absurd cc

-- ---- what is written

by_flag : (s : Bool) (x y : Item) → s ≡ true → cond s x y ≡ x
by_flag true x y on = refl
by_flag false x y on = absurd cc

-- an integer in its shortest width
small_spells : (u : Bool) (level n : ℕ) → level ≤ deepest → n < 2 ^ 64
    → Spells strict level (encoded_head (cond u 1 0) n (shortest n))
    (atom (cond u (negative n (shortest n)) (integer n (shortest n))))
small_spells true level n le lt = (le, alone_written 1 n (shortest n) (shortest_fits n lt))
small_spells false level n le lt = (le, alone_written 0 n (shortest n) (shortest_fits n lt))

small_same : (rules : Rules) (t : Bool) (u : Bool) (n : ℕ)
    → IsSame t (atom (cond u (negative n width.Unknown) (integer n width.Unknown)))
    (reduced_item rules (atom (cond u (negative n (shortest n)) (integer n (shortest n)))))
small_same rules t true n = refl
small_same rules t false n = refl

module _ (rules : Rules) (level tag : ℕ) (w : IntegerWidth) (i : Item) (le : level ≤ deepest)
    (fits : FitsStated w tag) where
  -- a tag before an item as it was encoded again
  plain_again : (y : List ℕ) (j : Item) → Spells strict (level + 1) y j → IsSameNumbered rules i j
      → Written rules level (tagged tag w i) (encoded_head 6 tag (chosen_width rules tag w) ++ y)
  plain_again y j spells same =
      let c = chosen_width rules tag w in
      let good = chosen_fits rules tag w fits in
      record {
        item = tagged tag c j;
        spells = (le, (good, y, ap (λ (x : List ℕ). x ++ y) (stated_head 6 tag c good), spells));
        same = same_tag rules tag w c (reduced_item rules i) (reduced_item rules j) same;
      }

  -- the number that both are
  number_is : (content : List ℕ) → is_big rules tag ≡ true → content_of (reduced_item rules i) ≡ Some content
      → reduced_item rules (tagged tag w i) ≡ big_number tag content
  number_is content on e =
      let red = reduced_item rules i in
      by_flag (is_big rules tag) (big_or tag (content_of red) (tagged tag w red)) (tagged tag w red) on
      ∙ ap (λ (o : Option (List ℕ)). big_or tag o (tagged tag w red)) e

  -- an integer
  small_again : (content : List ℕ) → is_big rules tag ≡ true → content_of (reduced_item rules i) ≡ Some content
      → ltb (big_endian 0 content) (2 ^ 64) ≡ true → Written rules level (tagged tag w i)
      (big_bytes rules tag w content)
  small_again content on e small =
      let n = big_endian 0 content in
      let u = eqb tag 3 in
      let lt : n < 2 ^ 64 = ltb-true n (2 ^ 64) small in
      let short : encoded_head (cond u 1 0) n (shortest n) ≡ big_bytes rules tag w content =
      ap (λ (t : Bool). cond t (encoded_head (cond u 1 0) n (shortest n))
      (encoded_head 6 tag (chosen_width rules tag w) ++ string_bytes (without_zeros content))) (sym small) in
      let number : atom (cond u (negative n width.Unknown) (integer n width.Unknown)) ≡ big_number tag content =
      ap (λ (t : Bool). cond t (atom (cond u (negative n width.Unknown) (integer n width.Unknown)))
      (tagged tag width.Unknown (atom (string Bytes (whole (without_zeros content)))))) (sym small) in
      record {
        item = atom (cond u (negative n (shortest n)) (integer n (shortest n)));
        spells = subst (λ (x : List ℕ). Spells strict level x
            (atom (cond u (negative n (shortest n)) (integer n (shortest n))))) short (small_spells u level n le lt);
        same = subst (λ (x : Item). IsSame rules.shortest_floats x
            (reduced_item rules (atom (cond u (negative n (shortest n)) (integer n (shortest n))))))
            (number ∙ sym (number_is content on e)) (small_same rules rules.shortest_floats u n);
      }

  -- a big number without zero bytes in front
  big_again : (content : List ℕ) → level + 1 ≤ deepest → length content < 2 ^ 64 → is_big rules tag ≡ true
      → content_of (reduced_item rules i) ≡ Some content → ltb (big_endian 0 content) (2 ^ 64) ≡ false
      → Written rules level (tagged tag w i) (big_bytes rules tag w content)
  big_again content deep short on e big =
      let z = without_zeros content in
      let n = big_endian 0 content in
      let c = chosen_width rules tag w in
      let good = chosen_fits rules tag w fits in
      let few : length z < 2 ^ 64 = omega (arith, zeros_fewer content, short) in
      let inner = shortest_fits (length z) few in
      let k : Chunk = record { bytes = z; width = shortest (length z) } in
      let y = string_bytes z in
      let same_number = zeros_out content in
      let is : encoded_head 6 tag c ++ y ≡ big_bytes rules tag w content =
      ap (λ (t : Bool). cond t (encoded_head (cond (eqb tag 3) 1 0) n (shortest n)) (encoded_head 6 tag c ++ y))
      (sym big) in
      let small : ltb (big_endian 0 z) (2 ^ 64) ≡ false = ap (λ m. ltb m (2 ^ 64)) same_number ∙ big in
      let as_it_is : (x : List ℕ) → ltb (big_endian 0 x) (2 ^ 64) ≡ false
      → big_number tag x ≡ tagged tag width.Unknown (atom (string Bytes (whole (without_zeros x)))) = λ x off.
      ap (λ (t : Bool). cond t (atom (small_number tag (big_endian 0 x)))
      (tagged tag width.Unknown (atom (string Bytes (whole (without_zeros x)))))) off in
      let form : Item = tagged tag width.Unknown (atom (string Bytes (whole z))) in
      let given : reduced_item rules (tagged tag w i) ≡ form = number_is content on e ∙ as_it_is content big in
      let written : reduced_item rules (tagged tag c (atom (string Bytes k))) ≡ form =
      by_flag (is_big rules tag) (big_number tag z) (tagged tag c (atom (string Bytes k))) on ∙ as_it_is z small
      ∙ ap (λ (x : List ℕ). tagged tag width.Unknown (atom (string Bytes (whole x)))) (zeros_once content) in
      record {
        item = tagged tag c (atom (string Bytes k));
        spells = subst (λ (x : List ℕ). Spells strict level x (tagged tag c (atom (string Bytes k)))) is (
          le,
          (
            good,
            y,
            ap (λ (x : List ℕ). x ++ y) (stated_head 6 tag c good),
            (deep, content_written Bytes z (shortest (length z)) inner tt),
          ),
        );
        same = subst (λ (x : Item). IsSame rules.shortest_floats x
            (reduced_item rules (tagged tag c (atom (string Bytes k))))) (sym given)
            (subst (λ (x : Item). IsSame rules.shortest_floats form x) (sym written)
            (same_item rules.shortest_floats form));
      }

  pub tag_again : (y : List ℕ) (j : Item) → Spells strict (level + 1) y j → IsSameNumbered rules i j
      → Written rules level (tagged tag w i) (tagged_bytes rules tag w y)
  tag_again y j spells same = by (big_content rules tag y) refl
    where
      of_content : (content : List ℕ) (t : Bool) → ltb (big_endian 0 content) (2 ^ 64) ≡ t
          → big_content rules tag y ≡ Some content → Written rules level (tagged tag w i)
          (big_bytes rules tag w content)
      of_content content t size e =
          let c = content_is rules tag (level + 1) y content j spells e in
          let s = subst (λ (k : Item). Spells strict (level + 1) y k) c.is spells in
          let read : content_of (reduced_item rules j) ≡ Some content =
          ap (λ (k : Item). content_of (reduced_item rules k)) c.is ∙ ap Some c.bytes in
          let given = same_content rules.shortest_floats (reduced_item rules i) (reduced_item rules j) same ∙ read in
          let sized : FitsStated c.chunk.width (length c.chunk.bytes) = s.1.1.0 in
          let short : length content < 2 ^ 64 =
          omega (arith, fits_number c.chunk.width (length c.chunk.bytes) sized, ap length c.bytes) in
          of_size content t size c.big given s.0 short
        where
          of_size : (content : List ℕ) (t : Bool) → ltb (big_endian 0 content) (2 ^ 64) ≡ t → is_big rules tag ≡ true
              → content_of (reduced_item rules i) ≡ Some content → level + 1 ≤ deepest → length content < 2 ^ 64
              → Written rules level (tagged tag w i) (big_bytes rules tag w content)
          of_size content true size on given deep short = small_again content on given size
          of_size content false size on given deep short = big_again content deep short on given size

      by : (o : Option (List ℕ)) → big_content rules tag y ≡ o
          → Written rules level (tagged tag w i) (tag_bytes rules tag w y (big_content rules tag y))
      by None e =
          subst (λ (o : Option (List ℕ)). Written rules level (tagged tag w i) (tag_bytes rules tag w y o)) (sym e)
          (plain_again y j spells same)
      by (Some content) e =
          subst (λ (o : Option (List ℕ)). Written rules level (tagged tag w i) (tag_bytes rules tag w y o)) (sym e)
          (of_content content (ltb (big_endian 0 content) (2 ^ 64)) refl e)
