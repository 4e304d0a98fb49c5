-- Texts that are put between brackets (`bracketed`), in any style, are by the grammar a list of members (`Listed`), if
-- the grammar reads each of these texts, with any blank in front, as its member (`Each`).
use Rattle.std.proofs.Common.{◌≡◌, ℕ, ◌+◌, List, [], ◌∷◌, ◌++◌, codes, Option, Some, None, inl, inr, refl, sym}
use Rattle.std.proofs.Common.{subst, ◌∙◌, append_assoc, arith}
use Rattle.std.specs.List.{flat_map}
use Rattle.cbor_tokens.specs.Token.{nothing}
use Rattle.cbor_tokens.proofs.tokens.Blanks.{Blank-append}
use Rattle.cbor_grammar.specs.declared.width.IntegerWidth.{IntegerWidth}
use Rattle.cbor_grammar.specs.declared.layout.ContainerStyle.{ContainerStyle}
use Rattle.cbor_grammar.specs.declared.layout.ContainerStyle.TheVariants as style
use Rattle.cbor_grammar.specs.Notation.{IsBlank, Further, Members, Listed, Opens}
use Rattle.cbor_grammar.specs.NotationText.{line, members, last_line, bracketed, opened}
use Rattle.cbor_grammar.specs.Normal.{normal_count}
use Rattle.cbor_notation_writer.proofs.normal.ReadTokens.{new_line, one_space}

-- each written text is read as its member, with any blank before it
abbrev pub Each : {X : Type 0} → (List ℕ → X → Type 0) → List (List ℕ) → List X → Type 0
Each Member [] [] = Unit {0}
Each Member [] (x ∷ xs) = ⊥
Each Member (m ∷ ms) [] = ⊥
Each Member (m ∷ ms) (x ∷ xs) = ((gap : List ℕ) → IsBlank gap → Member (gap ++ m) x) × Each Member ms xs

regroup : (a b c d : List ℕ) → ((codes "," ++ (a ++ b)) ++ c) ++ d ≡ codes "," ++ ((a ++ b) ++ (c ++ d))
regroup a b c d = simp append_assoc

line_apart : (lead gap m rest closing : List ℕ)
    → lead ++ (((gap ++ (m ++ codes ",")) ++ rest) ++ closing)
    ≡ (lead ++ (gap ++ m)) ++ (codes "," ++ (rest ++ closing))
line_apart lead gap m rest closing = simp append_assoc

one_apart : (lead m rest closing : List ℕ) → lead ++ ((m ++ rest) ++ closing) ≡ (lead ++ m) ++ (rest ++ closing)
one_apart lead m rest closing = simp append_assoc

module _ {X : Type 0} (Member : List ℕ → X → Type 0) (closing : List ℕ) where
  further : (gap : List ℕ) → IsBlank gap → (ms : List (List ℕ)) (xs : List X) → Each Member ms xs
      → Further Member closing (flat_map (λ m. codes "," ++ (gap ++ m)) ms ++ closing) xs
  further gap b [] [] h = inl refl
  further gap b [] (x ∷ xs) h = absurd h
  further gap b (m ∷ ms) [] h = absurd h
  further gap b (m ∷ ms) (x ∷ xs) h =
      let rest = flat_map (λ t. codes "," ++ (gap ++ t)) ms in
      (gap ++ m, rest ++ closing, regroup gap m rest closing, h.0 gap b, further gap b ms xs h.1)

  further_lines : (k : ℕ) (ms : List (List ℕ)) (xs : List X) → Each Member ms xs
      → Further Member closing (codes "," ++ (members (style.MultiLine k) ms ++ (line k ++ closing))) xs
  further_lines k [] [] h = inr (line k, refl, (omega arith, new_line k))
  further_lines k [] (x ∷ xs) h = absurd h
  further_lines k (m ∷ ms) [] h = absurd h
  further_lines k (m ∷ ms) (x ∷ xs) h =
      let rest = members (style.MultiLine k) ms in
      let apart = line_apart (codes ",") (line (k + 4)) m rest (line k ++ closing) in (
        line (k + 4) ++ m,
        codes "," ++ (rest ++ (line k ++ closing)),
        apart,
        h.0 (line (k + 4)) (new_line (k + 4)),
        further_lines k ms xs h.1,
      )

  none_read : (l : ContainerStyle) (lead : List ℕ) → IsBlank lead → IsBlank (last_line l)
      → Members Member closing (lead ++ (last_line l ++ closing)) []
  none_read l lead b last = (
    lead ++ last_line l,
    closing,
    sym (append_assoc lead (last_line l) closing),
    Blank-append b last,
    inl refl,
  )

  -- what is between the opening and the end of the closing bracket, after a blank
  pub members_read : (l : ContainerStyle) (lead : List ℕ) → IsBlank lead → (ms : List (List ℕ)) (xs : List X)
      → Each Member ms xs → Members Member closing (lead ++ (members l ms ++ (last_line l ++ closing))) xs
  members_read style.Compact lead b [] [] h = none_read style.Compact lead b nothing
  members_read (style.OneLine k) lead b [] [] h = none_read (style.OneLine k) lead b nothing
  members_read (style.MultiLine k) lead b [] [] h = none_read (style.MultiLine k) lead b (new_line k)
  members_read l lead b [] (x ∷ xs) h = absurd h
  members_read l lead b (m ∷ ms) [] h = absurd h
  members_read style.Compact lead b (m ∷ ms) (x ∷ xs) h =
      let rest = flat_map (λ t. codes "," ++ t) ms in
      (lead ++ m, rest ++ closing, one_apart lead m rest closing, h.0 lead b, further [] nothing ms xs h.1)
  members_read (style.OneLine k) lead b (m ∷ ms) (x ∷ xs) h =
      let rest = flat_map (λ t. codes ", " ++ t) ms in
      (lead ++ m, rest ++ closing, one_apart lead m rest closing, h.0 lead b, further (codes " ") one_space ms xs h.1)
  members_read (style.MultiLine k) lead b (m ∷ ms) (x ∷ xs) h =
      let rest = members (style.MultiLine k) ms in
      let read = h.0 (lead ++ line (k + 4)) (Blank-append b (new_line (k + 4))) in (
        lead ++ (line (k + 4) ++ m),
        codes "," ++ (rest ++ (line k ++ closing)),
        line_apart lead (line (k + 4)) m rest (line k ++ closing),
        subst (λ t. Member t x) (append_assoc lead (line (k + 4)) m) read,
        further_lines k ms xs h.1,
      )

-- ---- brackets

-- what an opening bracket is read as, and the blank after it
abbrev pub opening_of : List ℕ → Option IntegerWidth → List ℕ
opening_of bracket (Some w) = bracket
opening_of bracket None = bracket ++ codes "_"

abbrev pub lead_of : ContainerStyle → Option IntegerWidth → List ℕ
lead_of (style.OneLine k) None = codes " "
lead_of l w = []

pub lead_blank : (l : ContainerStyle) (w : Option IntegerWidth) → IsBlank (lead_of l w)
lead_blank style.Compact (Some w) = nothing
lead_blank style.Compact None = nothing
lead_blank (style.OneLine k) (Some w) = nothing
lead_blank (style.OneLine k) None = one_space
lead_blank (style.MultiLine k) (Some w) = nothing
lead_blank (style.MultiLine k) None = nothing

pub opened_is : (l : ContainerStyle) (bracket : List ℕ) (w : Option IntegerWidth) (rest : List ℕ)
    → opened l bracket w ++ rest ≡ opening_of bracket w ++ (lead_of l w ++ rest)
opened_is style.Compact bracket (Some w) rest = refl
opened_is style.Compact bracket None rest = refl
opened_is (style.OneLine k) bracket (Some w) rest = refl
opened_is (style.OneLine k) bracket None rest = append_assoc bracket (codes "_ ") rest
    ∙ sym (append_assoc bracket (codes "_") (codes " " ++ rest))
opened_is (style.MultiLine k) bracket (Some w) rest = refl
opened_is (style.MultiLine k) bracket None rest = refl

pub opens : (bracket : List ℕ) (w : Option IntegerWidth) → Opens bracket (normal_count w) (opening_of bracket w)
opens bracket (Some w) = (refl, refl)
opens bracket None = refl

pub listed : {X : Type 0} (Member : List ℕ → X → Type 0) (l : ContainerStyle) (bracket closing : List ℕ)
    (w : Option IntegerWidth) (ms : List (List ℕ)) (xs : List X) → Each Member ms xs
    → Listed Member (opening_of bracket w) closing (bracketed l (opened l bracket w) ms closing) xs
listed Member l bracket closing w ms xs h = (
  lead_of l w ++ (members l ms ++ (last_line l ++ closing)),
  opened_is l bracket w
      (members l ms ++ (last_line l ++ closing)),
  members_read Member closing l (lead_of l w) (lead_blank l w) ms xs h,
)
