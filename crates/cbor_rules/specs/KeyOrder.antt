-- The orders of the keys of a map that rules ask for. `key_cmp` compares the encodings of two keys (RFC 8949 sections
-- 4.2.1 and 4.2.3, CTAP 2.1 section 8).
use Rattle.std.specs.Prelude.{ℕ, ◌/◌, List, [], ◌∷◌, length}
use Rattle.std.specs.declared.cmp.Ordering.{Ordering}
use Rattle.std.specs.declared.cmp.Ordering.TheVariants.{Less}
use Rattle.std.specs.Cmp.Lexicographic.{slice_cmp}
use Rattle.std.specs.Ordering.{nat_cmp, ordering_then}
use Rattle.cbor_rules.specs.declared.rules.KeyOrder.{KeyOrder}
use Rattle.cbor_rules.specs.declared.rules.KeyOrder.TheVariants.{Any, Bytes, Length, MajorType}

-- the major type of the head at the front
abbrev pub major_type : List ℕ → ℕ
major_type [] = 0
major_type (first ∷ b) = first / 32

-- how two encoded keys compare: by their bytes, from the first on; a front of a key comes before it
abbrev pub key_cmp : KeyOrder → List ℕ → List ℕ → Ordering
key_cmp Any k l = Less
key_cmp Bytes k l = slice_cmp nat_cmp k l
key_cmp Length k l = ordering_then (nat_cmp (length k) (length l)) (slice_cmp nat_cmp k l)
key_cmp MajorType k l =
    ordering_then (nat_cmp (major_type k) (major_type l))
    (ordering_then (nat_cmp (length k) (length l)) (slice_cmp nat_cmp k l))
