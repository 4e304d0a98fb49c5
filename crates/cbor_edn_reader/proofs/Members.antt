-- Reading a list in EDN, before its first member: if the list is closed at once, `read_members` returns no members and
-- the text after the list. Otherwise the loop of turns begins with no members read so far.
use Rattle.std.proofs.Common.{◌≡◌, ℕ, ◌<◌, List, [], length, Option, Some, None, Bool, sym, ap, ◌∙◌}
use Rattle.cbor_edn_grammar.specs.declared.close.Close.{Close}
use Rattle.cbor_edn_grammar.specs.Reading.{turns}
use Rattle.cbor_edn_grammar.specs.Blank.{skip_blank}
use Rattle.cbor_edn_grammar.specs.Lists.{after_close, members_or_close, read_members}
use Rattle.cbor_edn_grammar.proofs.Turns.{onto, turns_begin}

module _ {X : Type 0} (turn : List ℕ → Option (List X × Bool × List ℕ)) (close : Close) (text first : List ℕ)
    (front : List X) (none : front ≡ []) (blank : first ≡ skip_blank text) where
  pub members_closed : {rest : List ℕ} → after_close close first ≡ Some rest
      → read_members turn close text ≡ Some (front, rest)
  unfolding read_members
  members_closed {rest} e =
      ap (λ b. members_or_close turn b (after_close close b)) (sym blank)
      ∙ ap (members_or_close turn first) e ∙ ap (λ f. Some (f, rest)) (sym none)

  pub members_begin : after_close close first ≡ None
      → (n : ℕ) × (length first < n) × (onto front (turns turn n first) ≡ read_members turn close text)
  unfolding read_members
  members_begin e =
      let begun = turns_begin turn first front none in (
        begun.0,
        begun.1,
        begun.2 ∙ sym (ap (members_or_close turn first) e)
            ∙ ap (λ b. members_or_close turn b (after_close close b)) blank,
      )
