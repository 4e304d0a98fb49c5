-- If bytes spell a container by the grammar (`MembersThen`), they begin with its head, and its members follow up to its
-- end (`opens`). `head_of` makes the head of an array, a map or a tag of the major types 4, 5 and 6.
use Rattle.std.proofs.Common.{◌≡◌, ℕ, List, ◌++◌, Option, Some, None, Ok, refl, ap}
use Rattle.cbor_grammar.specs.declared.width.IntegerWidth.{IntegerWidth}
use Rattle.cbor_grammar.specs.declared.argument.Argument.{Argument}
use Rattle.cbor_grammar.specs.declared.argument.Argument.TheVariants.{Number, Indefinite}
use Rattle.cbor_grammar.specs.declared.head.ItemHead.TheVariants as item_head
use Rattle.cbor_grammar.specs.Bytes.{MembersThen}
use Rattle.cbor_grammar.specs.Reading.{head_of}
use Rattle.cbor_grammar.proofs.bytes.Heads.{head_append, ArgumentThen}
use Rattle.cbor_rules.proofs.FoundParts.{close}

-- the argument of a count
abbrev pub counted : Option IntegerWidth → ℕ → Argument
counted (Some w) n = Number n w
counted None n = Indefinite

pub record Opens (major n : ℕ) (w : Option IntegerWidth) (x c : List ℕ)
    (Members : List ℕ → List ℕ → Type 0) : Type 0 where
  pub inner : List ℕ
  pub is : ArgumentThen major (counted w n) (x ++ c) (inner ++ c)
  pub spells : Members inner (close (counted w n))

pub opens : (major n : ℕ) (w : Option IntegerWidth) (x c : List ℕ) (Members : List ℕ → List ℕ → Type 0)
    → MembersThen major n w x Members → Opens major n w x c Members
opens major n (Some w) x c Members h = record {
  inner = h.1;
  is = head_append major n w x c (λ r. r ≡ h.1) (λ r. r ≡ h.1 ++ c) (h.0, h.1, h.2, refl)
      (λ r e. ap (λ (y : List ℕ). y ++ c) e);
  spells = h.3;
}
opens major n None x c Members h = record {
  inner = h.0;
  is = ap (λ (y : List ℕ). y ++ c) h.1;
  spells = h.2;
}

pub array_head : (a : Argument) → head_of 4 a ≡ Ok (item_head.Array a)
unfolding head_of
array_head a = refl

pub map_head : (a : Argument) → head_of 5 a ≡ Ok (item_head.Map a)
unfolding head_of
map_head a = refl

pub tag_head : (t : ℕ) (w : IntegerWidth) → head_of 6 (Number t w) ≡ Ok (item_head.Tag t w)
unfolding head_of
tag_head t w = refl
