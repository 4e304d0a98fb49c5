-- What is written of a byte string is what would be written if the rule of `cbor_inside` decided what it is shown as.
use Rattle.std.proofs.Common.{◌≡◌, ◌+◌, ◌<◌, ◌≤◌, ℕ, List, [], ◌∷◌, length, Option, Some, None, Bool, true, ◌&&◌, nat_le}
use Rattle.std.proofs.Common.{refl, sym, ap, subst, arith}
use Rattle.std.specs.Prelude.{◌↔◌}
use Rattle.std.proofs.lemmas.Bool.Decides.{nat_tests}
use Rattle.cbor_grammar.specs.declared.layout.Content.{Content}
use Rattle.cbor_grammar.specs.declared.layout.Content.TheVariants as shown
use Rattle.cbor_grammar.specs.declared.strings.StringKind.TheVariants as kind
use Rattle.cbor_grammar.specs.Embedded.{embedded_at}
use Rattle.cbor_grammar.specs.Item.{Chunk, Item}
use Rattle.cbor_grammar.specs.WellFormed.{deepest, levels_left}
use Rattle.cbor_notation_writer.specs.Dialect.{Writer, EmbeddedText, ContentText}
use Rattle.cbor_inside.specs.Rule.{content_under, shown_as, if_item, item_if, is_found, is_item}
use Rattle.cbor_inside.proofs.Shown.{item_bytes}
use Rattle.cbor_edn_writer.specs.EdnLeaves.{edn_leaves}
use Rattle.cbor_edn_writer.specs.declared.print.place.EdnPlace.{EdnPlace}

module _ (write : Writer EdnPlace) (p : EdnPlace) (b : Chunk) (t : List ℕ) where
  -- bytes that are no item are written as bytes
  none_found : (bs : List ℕ) → 0 < length bs
      → EmbeddedText edn_leaves write p b bs None t ↔ edn_leaves.string p kind.Bytes b t
  none_found [] some = absurd (omega (arith, some))
  none_found (x ∷ bs) some = (λ h. h, λ h. h)

  by_found : (left : ℕ) (found : Option Item) → 0 < length b.bytes → found ≡ embedded_at left b.bytes
      → EmbeddedText edn_leaves write p b b.bytes found t
      ↔ ContentText edn_leaves left write (item_if (is_found found)) p b t
  by_found left (Some i) some is = (
    λ h. subst (λ o. EmbeddedText edn_leaves write p b b.bytes o t) is h,
    λ h. subst (λ o. EmbeddedText edn_leaves write p b b.bytes o t) (sym is) h,
  )
  by_found left None some is = none_found b.bytes some

  by_content : (level : ℕ) (c : Content) → level ≤ deepest → (c ≡ shown.Item → 0 < length b.bytes)
      → ContentText edn_leaves (levels_left (level + 1)) write c p b t
      ↔ ContentText edn_leaves (levels_left (level + 1)) write (if_item (is_item level b.bytes) c) p b t
  by_content level shown.Item low some =
      let left = levels_left (level + 1) in
      let found = embedded_at left b.bytes in
      let within : nat_le level deepest ≡ true = grind (arith, nat_tests, low) in
      let whole : is_found found ≡ is_item level b.bytes = sym (ap (λ x. x && is_found found) within) in
      subst (λ x. EmbeddedText edn_leaves write p b b.bytes found t ↔ ContentText edn_leaves left write (item_if x) p b t)
      whole (by_found left found (some refl) refl)
  by_content level shown.Bytes low some = (λ h. h, λ h. h)
  by_content level shown.Sequence low some = (λ h. h, λ h. h)

pub by_the_rule : (opened : Bool) (level : ℕ) (tag : Option ℕ) (write : Writer EdnPlace) (p : EdnPlace) (b : Chunk)
    (t : List ℕ) → level ≤ deepest
    → ContentText edn_leaves (levels_left (level + 1)) write (content_under opened level tag b.bytes) p b t
    ↔ ContentText edn_leaves (levels_left (level + 1)) write (shown_as opened level tag b.bytes) p b t
by_the_rule opened level tag write p b t low =
    by_content write p b t level (content_under opened level tag b.bytes) low (item_bytes opened level tag b.bytes)
