-- For lists of any members: if `read_members` returns members, the text that was read is a list of them by the grammar
-- (`Members`), and an error is one that the text allows (`Sound`). The reader of one member has to be `Sound`, and each
-- member has to stay one with a blank before it.
use Rattle.std.proofs.Common.{◌≡◌, ℕ, zero, suc, ◌+◌, ◌<◌, Bool, true, false, not, nat_lt, List, [], ◌∷◌, ◌++◌, length}
use Rattle.std.proofs.Common.{take, drop, Option, Some, None, Ok, refl, sym, ap, ◌∙◌, append_assoc, take-append-drop}
use Rattle.std.proofs.Common.{inl, inr, arith}
use Rattle.std.specs.List.{prefix_len}
use Rattle.std.proofs.lemmas.List.{length-take-le}
use borrow.Author.Tests.{ltb-true}
use Rattle.cbor_tokens.specs.Token.{Blank, nothing, whitespace, is_whitespace}
use Rattle.cbor_tokens.proofs.tokens.Blanks.{blank_left}
use Rattle.cbor_grammar.specs.Reading.{Read, ◌>>=◌}
use Rattle.cbor_grammar.specs.Notation.{IsBlank, IsSpace, Closes, Further, Members}
use Rattle.cbor_notation.specs.mirror.NotationReading.{skip_blank, after_byte, after_space, after_end, more_members}
use Rattle.cbor_notation.specs.mirror.NotationReading.{members_from, members_or_end, read_members}
use Rattle.std.proofs.lemmas.Bool.{cases_eq, eq-eqb, ne_eqb}
use Rattle.cbor_notation.proofs.notation.sound.Steps.{none_some, a_test, Sound, moved, weaker, sound_then, sound_map}
use Rattle.cbor_notation.proofs.notation.sound.Steps.{sound_option, after_byte_is}

-- what closes a list is in front of the rest
abbrev white : ℕ → Bool
white b = not (not (is_whitespace b))

white_front : (text : List ℕ) → Blank false (take (prefix_len white text) text)
white_front [] = nothing
white_front (b ∷ text) =
    elim (a_test (is_whitespace b)) [
      | inl this ↦
          let n = prefix_len white text in
          let e : 1 + n ≡ suc n = omega arith in
          rw (this, e) (whitespace this (white_front text))
      | inr other ↦ rw other nothing
    ]

after_space_is : (close : ℕ) (text rest : List ℕ) → after_space close text ≡ Some rest
    → (space : List ℕ) × (text ≡ space ++ close ∷ rest) × IsSpace space
after_space_is close text rest e =
    let n = prefix_len white text in
    elim (a_test (nat_lt n (length text))) [
      | inl this ↦
          let few : n < length text = ltb-true n (length text) this in
          elim (a_test (nat_lt 0 n)) [
            | inl some ↦
                let before : 0 < n = ltb-true 0 n some in
                let long : length (take n text) ≡ n = length-take-le n text (omega arith) in
                let behind : drop n text ≡ close ∷ rest =
                after_byte_is close (drop n text) rest (rw (this, some) at e) in (
                  take n text,
                  sym (take-append-drop n text) ∙ ap (λ (z : List ℕ). take n text ++ z) behind,
                  (omega arith, white_front text),
                )
            | inr none ↦ absurd (none_some rest (rw (this, none) at e))
          ]
      | inr none ↦ absurd (none_some rest (rw none at e))
    ]

pub end_is : (close : ℕ) (text rest : List ℕ) → after_end close text ≡ Some rest → (end : List ℕ) × (text ≡ end ++ rest)
    × Closes (close ∷ []) end
end_is close [] rest e = absurd (none_some rest e)
end_is close (b ∷ text) rest e =
    elim (cases_eq b 44) [
      | inl is ↦
          let s = after_space_is close text rest (rw (eq-eqb b 44 is) at e) in (
            44 ∷ (s.0 ++ close ∷ []),
            ap (λ (z : ℕ). z ∷ text) is ∙ ap (λ (z : List ℕ). 44 ∷ z) (s.1 ∙ sym (append_assoc s.0 (close ∷ []) rest)),
            inr (s.0, refl, s.2),
          )
      | inr other ↦ (close ∷ [], after_byte_is close (b ∷ text) rest (rw (ne_eqb b 44 other) at e), inl refl)
    ]

-- a member and those after it
abbrev pub FromFirst : {X : Type 0} → (List ℕ → X → Type 0) → List ℕ → List ℕ → List X → Type 0
FromFirst Member close text [] = ⊥
FromFirst Member close text (x ∷ xs) = (first rest : List ℕ) × (text ≡ first ++ rest) × Member first x
    × Further Member close rest xs

pub behind_comma : {X : Type 0} (Member : List ℕ → X → Type 0) (close rest : List ℕ) (xs : List X)
    → FromFirst Member close rest xs → Further Member close (44 ∷ rest) xs
behind_comma Member close rest [] h = absurd h
behind_comma Member close rest (x ∷ xs) h = (h.0, h.1, ap (λ (z : List ℕ). 44 ∷ z) h.2, h.3, h.4)

-- where a blank may be before a member, it may before the first
pub blank_first : {X : Type 0} (Member : List ℕ → X → Type 0) (close blank rest : List ℕ) (xs : List X) → IsBlank blank
    → ((before text : List ℕ) (x : X) → IsBlank before → Member text x → Member (before ++ text) x)
    → FromFirst Member close rest xs → Members Member close (blank ++ rest) xs
blank_first Member close blank rest [] is more h = absurd h
blank_first Member close blank rest (x ∷ xs) is more h = (
  blank ++ h.0,
  h.1,
  ap (λ (z : List ℕ). blank ++ z) h.2 ∙ sym (append_assoc blank h.0 h.1),
  more blank h.0 x is h.3,
  h.4,
)

module _ {X : Type 0} (levels : ℕ) (Member : List ℕ → X → Type 0) (close : ℕ) (read : List ℕ → Read X)
    (sound : (text : List ℕ) → Sound levels Member text (read text)) where
  more_sound : (n : ℕ) → ((text : List ℕ) → Sound levels (FromFirst Member (close ∷ [])) text
      (members_from read close n text)) → (text : List ℕ) (end : Option (List ℕ)) → after_end close text ≡ end
      → Sound levels (Further Member (close ∷ [])) text (more_members (members_from read close n) text end)
  more_sound n later text (Some rest) is = let e = end_is close text rest is in (e.0, e.1, e.2)
  more_sound n later text None is =
      sound_option levels (Further Member (close ∷ [])) text (after_byte 44 text) (members_from read close n)
      (λ rest after.
      moved levels (Further Member (close ∷ [])) text (44 ∷ []) rest (members_from read close n rest)
      (after_byte_is 44 text rest after)
      (weaker levels (FromFirst Member (close ∷ [])) (λ g xs. Further Member (close ∷ []) (44 ∷ g) xs) rest
      (members_from read close n rest) (λ g xs h. behind_comma Member (close ∷ []) g xs h) (later rest)))

  from_first : (n : ℕ) (text : List ℕ) → Sound levels (FromFirst Member (close ∷ [])) text
      (members_from read close n text)
  unfolding members_from
  from_first zero text = tt
  from_first (suc n) text =
      sound_then levels Member (FromFirst Member (close ∷ [])) text (read text)
      (λ x. more_members (members_from read close n) x.1 (after_end close x.1) >>= λ xs. Ok (x.0 ∷ xs.0, xs.1))
      (sound text)
      (λ x front rest is member.
      sound_map levels (Further Member (close ∷ [])) (λ g xs. FromFirst Member (close ∷ []) (front ++ g) xs) rest
      (more_members (members_from read close n) rest (after_end close rest)) (λ xs. x ∷ xs)
      (more_sound n (from_first n) rest (after_end close rest) refl)
      (λ g xs further. (front, g, refl, member, further)))

  or_end : ((before text : List ℕ) (x : X) → IsBlank before → Member text x → Member (before ++ text) x)
      → (blank : List ℕ) → IsBlank blank → (text : List ℕ) (end : Option (List ℕ)) → after_end close text ≡ end
      → Sound levels (λ g xs. Members Member (close ∷ []) (blank ++ g) xs) text (members_or_end read close text end)
  or_end more blank is text (Some rest) at = let e =
      end_is close text rest at in (e.0, e.1, (blank, e.0, refl, is, e.2))
  or_end more blank is text None at =
      weaker levels (FromFirst Member (close ∷ [])) (λ g xs. Members Member (close ∷ []) (blank ++ g) xs) text
      (members_from read close (suc (length text)) text)
      (λ g xs h. blank_first Member (close ∷ []) blank g xs is more h) (from_first (suc (length text)) text)

  pub members_sound : ((before text : List ℕ) (x : X) → IsBlank before → Member text x → Member (before ++ text) x)
      → (text : List ℕ) → Sound levels (Members Member (close ∷ [])) text (read_members read close text)
  unfolding read_members
  members_sound more text =
      let b = blank_left true text in
      moved levels (Members Member (close ∷ [])) text b.0 (skip_blank text) (read_members read close text) b.1
      (or_end more b.0 b.2 (skip_blank text) (after_end close (skip_blank text)) refl)
