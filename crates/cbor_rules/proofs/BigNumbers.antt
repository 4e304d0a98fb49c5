-- `tag_violation` of the bytes after a tag is `None` if and only if the item that they begin with keeps the rule for
-- big numbers (`KeepsTag`). A function of a head that is `None` at each head but that of a byte string of definite
-- length is `None` at every other item.
use Rattle.std.proofs.Common.{◌≡◌, ◌≢◌, ℕ, ◌+◌, ◌<◌, ◌⊎◌, Bool, true, false, cond, ◌&&◌, ◌||◌, ltb, eqb, List, []}
use Rattle.std.proofs.Common.{◌∷◌, ◌++◌, length, get_or, Option, Some, None, Ok, inl, inr, refl, sym, ap, subst, ◌∙◌}
use Rattle.std.proofs.Common.{arith}
use Rattle.std.proofs.Common.{true≢false}
use Rattle.std.proofs.lemmas.Bool.{ltb-false, le-ltb, ne_eqb, eq-eqb, cases_eq}
use Rattle.cbor_grammar.specs.declared.width.IntegerWidth.TheVariants.{Zero, Eight, Sixteen, ThirtyTwo, SixtyFour}
use Rattle.cbor_grammar.specs.declared.width.FloatWidth.TheVariants as float_width
use Rattle.cbor_grammar.specs.declared.argument.Argument.TheVariants.{Number, Indefinite}
use Rattle.cbor_grammar.specs.declared.head.ItemHead.{ItemHead}
use Rattle.cbor_grammar.specs.declared.head.ItemHead.TheVariants as item_head
use Rattle.cbor_grammar.specs.declared.strings.StringKind.TheVariants.{Bytes, Text}
use Rattle.cbor_grammar.specs.Item as spec
use Rattle.cbor_grammar.specs.Item.{Chunk, integer, negative, string, chunked_string, float, simple, Item, atom, array}
use Rattle.cbor_grammar.specs.Item.{tagged, item_count, pair_count}
use Rattle.cbor_grammar.specs.Bytes.{strict, SpellsSimple, Spells, SpellsItems, SpellsPairs}
use Rattle.cbor_grammar.specs.Reading.{Read, read_head, head_of}
use Rattle.cbor_grammar.proofs.bytes.Heads.{byte_of, head_append, head_again}
use Rattle.cbor_grammar.proofs.bytes.FoundAgain.{head_behind}
use Rattle.cbor_rules.specs.declared.rules.Rules.{Rules}
use Rattle.cbor_rules.specs.declared.kind.ViolationKind.{ViolationKind}
use Rattle.cbor_rules.specs.declared.kind.ViolationKind.TheVariants as kind
use Rattle.cbor_rules.specs.FirstViolation.{content_violation, big_violation, tag_violation}
use Rattle.cbor_rules.specs.Keeps.{IsBigContent, KeepsTag}
use Rattle.cbor_rules.proofs.Heads.{some_first}
use Rattle.cbor_rules.proofs.Opens.{counted, opens, array_head, map_head, tag_head}
use Rattle.cbor_rules.proofs.Again.{string_read}

-- ---- the content

content_found : (bytes rest : List ℕ) → content_violation (length bytes) (bytes ++ rest) ≡ None
    → (8 < length bytes) × (get_or bytes 0 0 ≢ 0)
content_found [] [] e = absurd cc
content_found [] (first ∷ rest) e = absurd cc
content_found (first ∷ bytes) rest e =
    let n = length (first ∷ bytes) in
    let long = some_first (ltb n 9) kind.SmallBigNumber (cond (eqb first 0) (Some kind.LeadingZero) None) e in
    let other = some_first (eqb first 0) kind.LeadingZero None long.1 in
    (ltb-false n 9 long.0, λ zero_first. true≢false (sym (eq-eqb first 0 zero_first) ∙ other.0))

content_again : (bytes rest : List ℕ) → 8 < length bytes → get_or bytes 0 0 ≢ 0
    → content_violation (length bytes) (bytes ++ rest) ≡ None
content_again [] rest long other = absurd (omega arith)
content_again (first ∷ bytes) rest long other =
    rw (le-ltb (length (first ∷ bytes)) 9 long, ne_eqb first 0 other) refl

-- ---- the tag

tag_on : (s : Bool) (t : ℕ) (x : Option ViolationKind) → cond (s && (eqb t 2 || eqb t 3)) x None ≡ None → s ≡ true
    → (t ≡ 2) ⊎ (t ≡ 3) → x ≡ None
tag_on s t x e on (inl is) = rw (on, is) at e
tag_on s t x e on (inr is) = rw (on, is) at e

tag_ways : (t : ℕ) → ((t ≡ 2) ⊎ (t ≡ 3)) ⊎ ((eqb t 2 || eqb t 3) ≡ false)
tag_ways t =
    elim (cases_eq t 2) [
      | inl is ↦ inl (inl is)
      | inr other ↦ elim (cases_eq t 3) [
        | inl is ↦ inl (inr is)
        | inr wrong ↦ inr (rw (ne_eqb t 2 other, ne_eqb t 3 wrong) refl)
      ]
    ]

tag_kept : (s : Bool) (t : ℕ) (x : Option ViolationKind) → (s ≡ true → (t ≡ 2) ⊎ (t ≡ 3) → x ≡ None)
    → cond (s && (eqb t 2 || eqb t 3)) x None ≡ None
tag_kept false t x keeps = refl
tag_kept true t x keeps =
    elim (tag_ways t) [
      | inl is ↦ (let none = keeps refl is in same (eqb t 2 || eqb t 3) none)
      | inr off ↦ rw off refl
    ]
  where
    same : (s : Bool) → x ≡ None → cond s x None ≡ None
    same true none = none
    same false none = refl

pub big_found : (rules : Rules) (t : ℕ) (i : Item) (level : ℕ) (x c : List ℕ) → Spells strict level x i
    → tag_violation rules t (x ++ c) ≡ None → KeepsTag rules t i
big_found rules t i level x c h e = λ on is.
    content i h (tag_on rules.big_numbers t (big_violation (read_head (x ++ c))) e on is)
  where
    content : (i : Item) → Spells strict level x i → big_violation (read_head (x ++ c)) ≡ None → IsBigContent i
    content (atom (string Bytes k)) h none =
        content_found k.bytes c (sym (ap big_violation (string_read Bytes k x c h.1)) ∙ none)
    content i h none = tt

-- The head of an item that is no byte string of definite length. The function sees no more of it.
abbrev pub IsOther : ItemHead → Type 0
IsOther (item_head.String Bytes (Number n w)) = ⊥
IsOther h = Unit {0}

abbrev pub IsNoBytes : Item → Type 0
IsNoBytes (atom (string Bytes c)) = ⊥
IsNoBytes i = Unit {0}

pub bytes_or_not : (i : Item) → ((c : Chunk) × (i ≡ atom (string Bytes c))) ⊎ IsNoBytes i
bytes_or_not (atom (string Bytes c)) = inl (c, refl)
bytes_or_not i = inr tt

pub other_read : {A : Type 0} (f : Read ItemHead → Option A)
    → ((h : ItemHead) (r : List ℕ) → IsOther h → f (Ok (h, r)) ≡ None)
    → (i : Item) (level : ℕ) (x c : List ℕ) → Spells strict level x i → IsNoBytes i → f (read_head (x ++ c)) ≡ None
unfolding head_of
other_read f none (atom (integer n w)) level x c h other =
    ap f (head_again 0 (Number n w) (item_head.Integer n w) (x ++ c) c (omega arith)
    (head_behind 0 n w x c h.1) refl) ∙ none (item_head.Integer n w) c tt
other_read f none (atom (negative n w)) level x c h other =
    ap f (head_again 1 (Number n w) (item_head.Negative n w) (x ++ c) c (omega arith)
    (head_behind 1 n w x c h.1) refl) ∙ none (item_head.Negative n w) c tt
other_read f none (atom (string Bytes k)) level x c h other = absurd other
other_read f none (atom (string Text k)) level x c h other = ap f (string_read Text k x c h.1) ∙ none _ _ tt
other_read f none (atom (chunked_string Bytes cs)) level x c h other =
    ap f (head_again 2 Indefinite (item_head.String Bytes Indefinite) (x ++ c) (h.1.0 ++ c) (omega arith)
    (ap (λ (y : List ℕ). y ++ c) h.1.1) refl) ∙ none _ _ tt
other_read f none (atom (chunked_string Text cs)) level x c h other =
    ap f (head_again 3 Indefinite (item_head.String Text Indefinite) (x ++ c) (h.1.0 ++ c) (omega arith)
    (ap (λ (y : List ℕ). y ++ c) h.1.1) refl) ∙ none _ _ tt
other_read f none (atom (float bits float_width.Unknown)) level x c h other = absurd h.1
other_read f none (atom (float bits float_width.Sixteen)) level x c h other =
    ap f (head_again 7 (Number bits Sixteen) (item_head.Float bits float_width.Sixteen) (x ++ c) c
    (omega arith) (h.1.0, c, ap (λ (y : List ℕ). y ++ c) h.1.1, refl) refl) ∙ none _ _ tt
other_read f none (atom (float bits float_width.ThirtyTwo)) level x c h other =
    ap f (head_again 7 (Number bits ThirtyTwo) (item_head.Float bits float_width.ThirtyTwo) (x ++ c) c
    (omega arith) (h.1.0, c, ap (λ (y : List ℕ). y ++ c) h.1.1, refl) refl) ∙ none _ _ tt
other_read f none (atom (float bits float_width.SixtyFour)) level x c h other =
    ap f (head_again 7 (Number bits SixtyFour) (item_head.Float bits float_width.SixtyFour) (x ++ c) c
    (omega arith) (h.1.0, c, ap (λ (y : List ℕ). y ++ c) h.1.1, refl) refl) ∙ none _ _ tt
other_read f none (atom (simple n)) level x c h other = simple_other h.1
  where
    simple_other : SpellsSimple strict x n → f (read_head (x ++ c)) ≡ None
    simple_other (inl s) =
        ap f (head_again 7 (Number n Zero) (item_head.Simple n) (x ++ c) c (omega arith)
        (s.0, c, ap (λ (y : List ℕ). y ++ c) s.1, refl) refl) ∙ none _ _ tt
    simple_other (inr s) =
        ap f (head_again 7 (Number n Eight) (item_head.Simple n) (x ++ c) c (omega arith) (
          s.1,
          c,
          ap (λ (y : List ℕ). y ++ c) s.2
              ∙ ap (λ (y : List ℕ). 0xf8 ∷ (y ++ c)) (sym (byte_of n s.1)),
          refl,
        ) refl) ∙ none _ _ tt
other_read f none (array is w) level x c h other =
    let a = counted w (item_count is) in
    let o = opens 4 (item_count is) w x c (λ rest end. SpellsItems strict (level + 1) rest is end) h.1 in
    ap f (head_again 4 a (item_head.Array a) (x ++ c) (o.inner ++ c) (omega arith) o.is (array_head a)) ∙ none _ _ tt
other_read f none (spec.map ps w) level x c h other =
    let a = counted w (pair_count ps) in
    let o = opens 5 (pair_count ps) w x c (λ rest end. SpellsPairs strict (level + 1) rest ps end) h.1 in
    ap f (head_again 5 a (item_head.Map a) (x ++ c) (o.inner ++ c) (omega arith) o.is (map_head a)) ∙ none _ _ tt
other_read f none (tagged t w i) level x c h other =
    let inner = h.1.1 in
    ap f (head_again 6 (Number t w) (item_head.Tag t w) (x ++ c) (inner ++ c) (omega arith)
    (head_append 6 t w x c (λ y. y ≡ inner) (λ y. y ≡ inner ++ c) (h.1.0, inner, h.1.2, refl)
    (λ y e. ap (λ (z : List ℕ). z ++ c) e)) (tag_head t w)) ∙ none _ _ tt

none_other : (h : ItemHead) (r : List ℕ) → IsOther h → big_violation (Ok (h, r)) ≡ None
none_other (item_head.String Bytes (Number n w)) r other = absurd other
none_other h r other = refl

big_kept : (i : Item) (level : ℕ) (x c : List ℕ) → Spells strict level x i → IsBigContent i
    → big_violation (read_head (x ++ c)) ≡ None
big_kept i level x c h big =
    elim (bytes_or_not i) [
      | inl is ↦
          let s = subst (λ (j : Item). Spells strict level x j) is.1 h in
          let g = subst IsBigContent is.1 big in
          ap big_violation (string_read Bytes is.0 x c s.1) ∙ content_again is.0.bytes c g.0 g.1
      | inr other ↦ other_read big_violation none_other i level x c h other
    ]

pub big_again : (rules : Rules) (t : ℕ) (i : Item) (level : ℕ) (x c : List ℕ) → Spells strict level x i
    → KeepsTag rules t i → tag_violation rules t (x ++ c) ≡ None
big_again rules t i level x c h keeps =
    tag_kept rules.big_numbers t (big_violation (read_head (x ++ c))) (λ on is. big_kept i level x c h (keeps on is))
