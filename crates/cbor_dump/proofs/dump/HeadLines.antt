-- Unless a head is that of a simple value, the bytes that `read_head` took are `head_bytes` of the head, and there are
-- at most 24 of them. The bytes that `read_chunk` took are `encoded_head` of the length and width of the chunk, and
-- then its content.
use Rattle.std.proofs.Common.{◌≡◌, ◌≢◌, ℕ, ◌+◌, ◌-◌, ◌≤◌, List, [], ◌∷◌, ◌++◌, length, take, Ok, Some, refl, sym, ap}
use Rattle.std.proofs.Common.{◌∙◌, arith}
use Rattle.std.specs.Int.{w16, w32, w64, to_be_bytes}
use Rattle.std.proofs.lemmas.List.{take_at, length-append}
use Rattle.cbor_grammar.specs.declared.width.IntegerWidth.{IntegerWidth}
use Rattle.cbor_grammar.specs.declared.width.IntegerWidth.TheVariants as width
use Rattle.cbor_grammar.specs.declared.width.FloatWidth.TheVariants as float_width
use Rattle.cbor_grammar.specs.declared.head.ItemHead.{ItemHead}
use Rattle.cbor_grammar.specs.declared.argument.Argument.{Argument}
use Rattle.cbor_grammar.specs.declared.argument.Argument.TheVariants.{Number, Indefinite}
use Rattle.cbor_grammar.specs.Head.{FitsStated, head, stated, opening, HeadThen}
use Rattle.cbor_grammar.specs.Item.{Chunk}
use Rattle.cbor_grammar.specs.declared.head.ItemHead.TheVariants as item_head
use Rattle.cbor_grammar.specs.Reading.{read_head, read_chunk}
use Rattle.cbor_grammar.specs.declared.strings.StringKind.{StringKind}
use Rattle.cbor_grammar.specs.StringKind.{major_of}
use Rattle.cbor_grammar.specs.Written.{encoded_head}
use Rattle.cbor_dump.specs.mirror.Dumped.{argument_bytes, head_bytes, IsHead}
use Rattle.cbor_grammar.proofs.bytes.Chunks.{chunk_takes}
use Rattle.cbor_grammar.proofs.bytes.Heads.{IsBytes, ArgumentThen, HeadIs, head_takes}
use Rattle.cbor_dump.proofs.dump.Fits.{head_length, float_length}

-- a number that fits a stated width is written in that
stated_is : (w : IntegerWidth) (n : ℕ) → FitsStated w n → stated w n ≡ w
stated_is width.Unknown n fits = absurd fits
stated_is width.Zero n fits = refl
stated_is width.Eight n fits = refl
stated_is width.Sixteen n fits = refl
stated_is width.ThirtyTwo n fits = refl
stated_is width.SixtyFour n fits = refl

-- what is before the rest
front_is : (b x rest own : List ℕ) → b ≡ x ++ rest → own ≡ take (length b - length rest) b → own ≡ x
front_is b x rest own parts is =
    let few : length x ≡ length b - length rest = omega (arith, ap length parts, length-append x rest) in
    is ∙ ap (take (length b - length rest)) parts ∙ take_at x rest (length b - length rest) few

by_head : (major n : ℕ) (w : IntegerWidth) (b rest own : List ℕ) → HeadThen major n w b (λ r. r ≡ rest)
    → own ≡ take (length b - length rest) b → own ≡ encoded_head major n w
by_head major n w b rest own h is =
    front_is b (head major n w) rest own (h.2 ∙ ap (λ (x : List ℕ). head major n w ++ x) h.3) is
    ∙ ap (head major n) (sym (stated_is w n h.0))

by_argument : (major : ℕ) (a : Argument) (b rest own : List ℕ) → ArgumentThen major a b rest
    → own ≡ take (length b - length rest) b → own ≡ argument_bytes major a
by_argument major (Number n w) b rest own h is = by_head major n w b rest own h is
by_argument major Indefinite b rest own h is = front_is b (opening major ∷ []) rest own h is

own_bytes : (h : ItemHead) (b rest own : List ℕ) → HeadIs h b rest → own ≡ take (length b - length rest) b
    → IsHead h own
own_bytes (item_head.Integer n w) b rest own h is = by_head 0 n w b rest own h is
own_bytes (item_head.Negative n w) b rest own h is = by_head 1 n w b rest own h is
own_bytes (item_head.String kind a) b rest own h is = by_argument (major_of kind) a b rest own h is
own_bytes (item_head.Array a) b rest own h is = by_argument 4 a b rest own h is
own_bytes (item_head.Map a) b rest own h is = by_argument 5 a b rest own h is
own_bytes (item_head.Tag n w) b rest own h is = by_head 6 n w b rest own h is
own_bytes (item_head.Float bits float_width.Unknown) b rest own h is = absurd h
own_bytes (item_head.Float bits float_width.Sixteen) b rest own h is =
    front_is b (249 ∷ to_be_bytes w16 bits) rest own h.1 is
own_bytes (item_head.Float bits float_width.ThirtyTwo) b rest own h is =
    front_is b (250 ∷ to_be_bytes w32 bits) rest own h.1 is
own_bytes (item_head.Float bits float_width.SixtyFour) b rest own h is =
    front_is b (251 ∷ to_be_bytes w64 bits) rest own h.1 is
own_bytes (item_head.Simple n) b rest own h is = tt

pub head_shown : (h : ItemHead) (b rest own : List ℕ) → IsBytes b → read_head b ≡ Ok (h, rest)
    → own ≡ take (length b - length rest) b → IsHead h own
head_shown h b rest own fits e is = own_bytes h b rest own (head_takes b rest h fits e).0 is

-- a head has at most nine bytes
argument_length : (major : ℕ) (a : Argument) → length (argument_bytes major a) ≤ 9
argument_length major (Number n w) = head_length major n (stated w n)
argument_length major Indefinite = omega arith

few_of : (b x : List ℕ) → b ≡ x → length x ≤ 9 → length b ≤ 24
few_of b x is few = omega (arith, ap length is)

abbrev pub NoSimple : ItemHead → Type 0
NoSimple h = (n : ℕ) → h ≢ item_head.Simple n

pub head_few : (h : ItemHead) (b : List ℕ) → NoSimple h → IsHead h b → length b ≤ 24
head_few (item_head.Integer n w) b other is = few_of b _ is (head_length 0 n (stated w n))
head_few (item_head.Negative n w) b other is = few_of b _ is (head_length 1 n (stated w n))
head_few (item_head.String kind a) b other is = few_of b _ is (argument_length _ a)
head_few (item_head.Array a) b other is = few_of b _ is (argument_length 4 a)
head_few (item_head.Map a) b other is = few_of b _ is (argument_length 5 a)
head_few (item_head.Tag n w) b other is = few_of b _ is (head_length 6 n (stated w n))
head_few (item_head.Float bits w) b other is = few_of b _ is (float_length bits w)
head_few (item_head.Simple n) b other is = absurd (other n refl)

pub head_is : (h : ItemHead) (b : List ℕ) → NoSimple h → IsHead h b → b ≡ head_bytes h
head_is (item_head.Simple n) b other is = absurd (other n refl)
head_is (item_head.Integer n w) b other is = is
head_is (item_head.Negative n w) b other is = is
head_is (item_head.String kind a) b other is = is
head_is (item_head.Array a) b other is = is
head_is (item_head.Map a) b other is = is
head_is (item_head.Tag n w) b other is = is
head_is (item_head.Float bits w) b other is = is

-- ---- chunks

-- a chunk's head is what is before its content and the bytes after it
pub chunk_parts : (kind : StringKind) (b after : List ℕ) (c : Chunk) → IsBytes b
    → read_chunk kind b ≡ Ok (Some c, after)
    → b ≡ encoded_head (major_of kind) (length c.bytes) c.width ++ (c.bytes ++ after)
chunk_parts kind b after c fits e =
    let h = (chunk_takes kind b after c fits e).0.1 in
    h.2 ∙ ap (λ (x : List ℕ). head (major_of kind) (length c.bytes) c.width ++ x)
    (h.3.1 ∙ ap (λ (x : List ℕ). c.bytes ++ x) h.3.2)
    ∙ ap (λ w. head (major_of kind) (length c.bytes) w ++ (c.bytes ++ after)) (sym (stated_is c.width (length
    c.bytes) h.0))

pub chunk_fits : (kind : StringKind) (b after : List ℕ) (c : Chunk) → IsBytes b
    → read_chunk kind b ≡ Ok (Some c, after) → length c.bytes + length after ≤ length b
chunk_fits kind b after c fits e =
    let parts = chunk_parts kind b after c fits e in
    omega (
      arith,
      ap length parts,
      length-append (encoded_head (major_of kind) (length c.bytes) c.width) (c.bytes ++ after),
      length-append c.bytes after,
    )

pub chunk_head : (kind : StringKind) (b after own : List ℕ) (c : Chunk) (n : ℕ) → IsBytes b
    → read_chunk kind b ≡ Ok (Some c, after) → n ≡ length b - (length c.bytes + length after) → own ≡ take n b
    → own ≡ encoded_head (major_of kind) (length c.bytes) c.width
chunk_head kind b after own c n fits e less is =
    let sum = length-append c.bytes after in
    let same : n ≡ length b - length (c.bytes ++ after) = omega (arith, less, sum) in
    front_is b (encoded_head (major_of kind) (length c.bytes) c.width) (c.bytes ++ after) own
    (chunk_parts kind b after c fits e) (is ∙ ap (λ k. take k b) same)
