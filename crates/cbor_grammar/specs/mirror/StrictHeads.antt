-- For `strict.rt` of `cbor_bytes`. `StrictHeads`: bytes are heads in sequence, with the content of strings and with
-- breaks, and no head is of a simple value below 24 in a non-minimal encoding (such as `f8 00`). `NoLongSimple`: the
-- two bytes of such a value are nowhere in the bytes, at a head or not.
use Rattle.std.specs.Prelude.{◌≡◌, ◌≢◌, ℕ, ◌-◌, ◌/◌, ◌%◌, ◌^◌, ◌≤◌, ◌<◌, ◌⊎◌, List, [], ◌∷◌, drop, Ok}
use Rattle.cbor_grammar.specs.declared.argument.Argument.TheVariants.{Number}
use Rattle.cbor_grammar.specs.Head.{break_byte}
use Rattle.cbor_grammar.specs.declared.head.ItemHead.TheVariants as item_head
use Rattle.cbor_grammar.specs.declared.head.ItemHead.{ItemHead}
use Rattle.cbor_grammar.specs.Reading.{read_head}

-- the bytes begin with a simple value below 24 in a non-minimal encoding (`f8 00`)
abbrev pub LongSimple : List ℕ → Type 0
LongSimple (first ∷ (n ∷ b)) = (first ≡ 0xf8) × (n < 24)
LongSimple _ = ⊥

-- no two bytes that follow each other are such a value
abbrev pub NoLongSimple : List ℕ → Type 0
NoLongSimple b = (k : ℕ) → ¬ (LongSimple (drop k b))

-- of bytes that begin with that head: they do not begin with such a value
abbrev pub IsShort : ItemHead → List ℕ → Type 0
IsShort (item_head.Simple n) (first ∷ b) = first ≡ 0xf8 → 24 ≤ n
IsShort h b = Unit {0}

-- how many bytes of a number follow such info
abbrev pub IsNumberLen : ℕ → ℕ → Type 0
IsNumberLen info k = ((info < 24) × (k ≡ 0)) ⊎ ((24 ≤ info) × (info < 28) × (k ≡ 2 ^ (info - 24)))

-- a string begins with that byte
abbrev pub BeginsString : ℕ → Type 0
BeginsString first = (first / 32 ≡ 2) ⊎ (first / 32 ≡ 3)

-- how many bytes come between such a first byte and the next head, known from that byte alone
abbrev pub IsBodyLen : ℕ → ℕ → Type 0
IsBodyLen first k =
    (first ≢ 0xf8) × ((¬ (BeginsString first) × IsNumberLen (first % 32) k)
    ⊎ (BeginsString first × (first % 32 < 24) × (k ≡ first % 32)))

-- the bytes after a head, and after the content of a string of definite length
abbrev pub after_content : ItemHead → List ℕ → List ℕ
after_content (item_head.String kind (Number n w)) b = drop n b
after_content h b = b

-- The bytes are heads with the content of strings, and breaks.
pub data StrictHeads : List ℕ → Type 0 where
  no_head : StrictHeads []
  a_break : {b : List ℕ} → StrictHeads b → StrictHeads (break_byte ∷ b)
  a_head : {b rest : List ℕ} {h : ItemHead} → read_head b ≡ Ok (h, rest) → IsShort h b
      → StrictHeads (after_content h rest) → StrictHeads b
