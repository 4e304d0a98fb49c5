-- Which bytes are written as items and read back as the same bytes: no simple value below 32 in them takes two bytes
-- (f8 00 to f8 1f; `is_strict`).
use Rattle.std.specs.Prelude.{ℕ, zero, suc, List, [], ◌∷◌, length, drop, Option, Some, None, Ok, Err, Bool}
use Rattle.std.specs.Prelude.{true, false, ◌==◌, ◌&&◌, if◌then◌else◌, nat_lt, nat_le}
use Rattle.cbor_grammar.specs.declared.argument.Argument.TheVariants.{Number}
use Rattle.cbor_grammar.specs.declared.head.ItemHead.{ItemHead}
use Rattle.cbor_grammar.specs.declared.head.ItemHead.TheVariants as item_head
use Rattle.cbor_grammar.specs.Head.{break_byte}
use Rattle.cbor_grammar.specs.Reading.{Read, read_head}

-- the bytes after a string's content
abbrev pub after_length : ℕ → List ℕ → Option (List ℕ)
after_length n b = if nat_le n (length b) then Some (drop n b) else None

-- The bytes after this head, which was read and begins with that byte, and after the content of a string of definite
-- length; nothing after a simple value below 32 in two bytes.
abbrev pub after_strict : ℕ → ItemHead × List ℕ → Option (List ℕ)
after_strict first (item_head.String kind (Number n w), rest) = after_length n rest
after_strict first (item_head.Simple n, rest) = if (first == 0xf8) && nat_lt n 32 then None else Some rest
after_strict first (h, rest) = Some rest

abbrev pub after_read : ℕ → Read ItemHead → Option (List ℕ)
after_read first (Ok x) = after_strict first x
after_read first (Err e) = None

-- the bytes after the head or the break at the front
unfoldable pub after_head : List ℕ → Option (List ℕ)
after_head [] = None
after_head (b ∷ bs) = if b == break_byte then Some bs else after_read b (read_head (b ∷ bs))

abbrev pub go_on : (List ℕ → Bool) → Option (List ℕ) → Bool
go_on go (Some rest) = go rest
go_on go None = false

-- the bytes are this many heads at most, none of them of such a value
unfoldable pub are_heads : ℕ → List ℕ → Bool
are_heads n [] = true
are_heads zero (b ∷ bs) = false
are_heads (suc n) (b ∷ bs) = go_on (are_heads n) (after_head (b ∷ bs))

-- the bytes are heads with the content of strings, and breaks, none of them of such a value
abbrev pub is_strict : List ℕ → Bool
is_strict b = are_heads (length b) b
