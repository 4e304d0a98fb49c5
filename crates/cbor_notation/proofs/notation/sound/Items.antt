-- If `read_item` or `notation_of` returns an item, the text that was read is this item by the grammar (`Reads`). If it
-- returns an error, the text has what this error needs (`MayRefuse`), such as enough openings for `TooDeep`. The same
-- is shown of an item without the blanks before it (`read_core`).
use Rattle.std.proofs.Common.{◌≡◌, ℕ, zero, suc, ◌<◌, true, List, [], ◌∷◌, ◌++◌, length, Option, Some, None, Ok}
use Rattle.std.proofs.Common.{Err, refl, sym, ap, subst, ◌∙◌, append_assoc, append-nil, length-append, inl, inr, arith}
use Rattle.cbor_tokens.specs.Token.{Blank, nothing, whitespace, comment}
use Rattle.cbor_tokens.proofs.tokens.Blanks.{blank_left, Blank-append, at_whitespace}
use Rattle.cbor_notation.specs.declared.start.Start.{Start}
use Rattle.cbor_notation.specs.declared.start.Start.TheVariants as start
use Rattle.cbor_grammar.specs.declared.width.IntegerWidth.TheVariants.{Unknown}
use Rattle.cbor_grammar.specs.Item as spec
use Rattle.cbor_grammar.specs.Item.{Chunk, string, chunked_string, Item, atom, array, no_items, item, no_pairs, pair}
use Rattle.cbor_grammar.specs.Item.{items_of, pairs_of}
use Rattle.cbor_grammar.specs.declared.strings.StringKind.{StringKind}
use Rattle.cbor_grammar.specs.declared.strings.StringKind.TheVariants.{Bytes, Text}
use Rattle.cbor_grammar.specs.StringKind.{no_chunks}
use Rattle.cbor_grammar.specs.Reading.{Read, ◌>>=◌}
use Rattle.cbor_grammar.specs.Notation.{IsBlank, Blanked, Closes, Members, pairs_list, PairOf, StringOf, ShowsKind}
use Rattle.cbor_grammar.specs.Notation.{Core}
use Rattle.cbor_grammar.specs.Notation.{Reads}
use Rattle.cbor_notation.specs.mirror.NotationReading.{or_refused, skip_blank, after_byte, after_word, read_members}
use Rattle.cbor_notation.specs.mirror.NotationReading.{read_pair, length_of, read_array, read_map, first_start}
use Rattle.cbor_notation.specs.mirror.NotationReading.{start_of}
use Rattle.cbor_notation.specs.mirror.NotationReading.{read_chunk, chunks_of, kind_from, read_chunks, string_of}
use Rattle.cbor_notation.specs.mirror.NotationReading.{read_string_item, core_of, read_core, read_item, whole}
use Rattle.cbor_notation.specs.mirror.NotationReading.{notation_of}
use Rattle.cbor_notation.specs.mirror.NotationReading.{read_integer, read_negative, read_word, read_string}
use Rattle.cbor_grammar.specs.NotationRefused.{is_opening, IsAnswered}
use Rattle.cbor_notation.proofs.notation.sound.Steps.{Sound, moved, moved_in, weaker, weaker_here, sound_then}
use Rattle.cbor_notation.proofs.notation.sound.Steps.{sound_map}
use Rattle.cbor_notation.proofs.notation.sound.Steps.{sound_option, after_byte_is, after_word_is}
use Rattle.cbor_notation.proofs.notation.sound.Lists.{members_sound}
use Rattle.cbor_notation.proofs.notation.sound.Words.{integer_sound, negative_sound, word_sound}
use Rattle.cbor_notation.proofs.notation.sound.Strings.{list_of-items_of}
use Rattle.cbor_notation.proofs.notation.sound.Pieces.{StartIs, start_is, Trailed, string_sound, chunk_sound}
use Rattle.cbor_notation.proofs.notation.sound.Pieces.{blanked_more}

pub pairs_list-pairs_of : (ps : List (Item × Item)) → pairs_list (pairs_of ps) ≡ ps
pairs_list-pairs_of [] = refl
pairs_list-pairs_of (p ∷ ps) = ap (λ (qs : List (Item × Item)). p ∷ qs) (pairs_list-pairs_of ps)

-- a blank before members
pub members_blank : {X : Type 0} (Member : List ℕ → X → Type 0) (close blank text : List ℕ) (xs : List X)
    → ((before text : List ℕ) (x : X) → IsBlank before → Member text x → Member (before ++ text) x) → IsBlank blank
    → Members Member close text xs → Members Member close (blank ++ text) xs
members_blank Member close blank text [] more is h = (
  blank ++ h.0,
  h.1,
  ap (λ (z : List ℕ). blank ++ z) h.2 ∙ sym (append_assoc blank h.0 h.1),
  Blank-append is h.3,
  h.4,
)
members_blank Member close blank text (x ∷ xs) more is h = (
  blank ++ h.0,
  h.1,
  ap (λ (z : List ℕ). blank ++ z) h.2 ∙ sym (append_assoc blank h.0 h.1),
  more blank h.0 x is h.3,
  h.4,
)

-- a list without members does not begin with a quote
head_is : (a b : ℕ) (xs ys : List ℕ) → a ∷ xs ≡ b ∷ ys → a ≡ b
head_is a b xs ys e = cc

quote_closes : (end z : List ℕ) → Closes (41 ∷ []) end → end ≡ 34 ∷ z → ⊥
quote_closes end z (inl here) e = omega (arith, head_is 41 34 [] z (sym here ∙ e))
quote_closes end z (inr last) e = omega (arith, head_is 44 34 (last.0 ++ 41 ∷ []) z (sym last.1 ∙ e))

pub quote_blank : {blank : List ℕ} → Blank true blank → (end z : List ℕ) → Closes (41 ∷ []) end
    → blank ++ end ≡ 34 ∷ z → ⊥
quote_blank nothing end z closes e = quote_closes end z closes e
quote_blank (whitespace {byte = byte} {rest = rest} white more) end z closes e =
    at_whitespace (λ b. b ≡ 34 → ⊥) (λ is. omega arith) (λ is. omega arith) (λ is. omega arith) (λ is. omega arith) byte
    white (head_is byte 34 (rest ++ end) z e)
quote_blank (comment words rest allowed all more is) end z closes e =
    omega (arith, head_is 47 34 ((words ++ 47 ∷ rest) ++ end) z (sym (ap (λ (t : List ℕ). t ++ end) is) ∙ e))

closes_some : (end : List ℕ) → Closes (41 ∷ []) end → 0 < length end
closes_some end (inl is) = rw is (omega arith)
closes_some end (inr last) = rw last.1 (omega arith)

quote_empty : (front blank end rest z : List ℕ) → front ≡ blank ++ end → IsBlank blank → Closes (41 ∷ []) end
    → front ++ rest ≡ 34 ∷ z → ⊥
quote_empty [] blank end rest z is b closes e =
    omega (arith, closes_some end closes, ap length is, length-append blank end)
quote_empty (c ∷ front) blank end rest z is b closes e =
    let quote : c ≡ 34 = head_is c 34 (front ++ rest) z e in
    quote_blank b end front closes (sym is ∙ ap (λ (d : ℕ). d ∷ front) quote)

trailed : (Is : List ℕ → Type 0) (front : List ℕ) → Is front → Trailed Is front
trailed Is front h = (front, [], sym (append-nil front), h, nothing)

module _ (left : ℕ) (R : List ℕ → Item → Type 0) (read : List ℕ → Read Item) (sound : (text : List ℕ)
    → Sound left R text (read text)) (blank_more : (before text : List ℕ) (i : Item) → IsBlank before → R text i
    → R (before ++ text) i) where
  -- ---- arrays and maps

  array_made : (levels : ℕ) (text : List ℕ) (o : Option (List ℕ)) → after_byte 95 text ≡ o
      → (let opened = length_of text o in Sound left (λ g i. Core R (91 ∷ g) i) text
      (read_members read 93 opened.1 >>= λ is. Ok (array (items_of is.0) opened.0, is.1)))
  array_made levels text None e =
      sound_map left (Members R (93 ∷ [])) (λ g i. Core R (91 ∷ g) i) text (read_members read 93 text)
      (λ is. array (items_of is) (Some Unknown)) (members_sound left R 93 read sound blank_more text)
      (λ g is h. (91 ∷ [], (refl, refl), (g, refl, rw (list_of-items_of is) h)))
  array_made levels text (Some rest) e =
      moved left (λ g i. Core R (91 ∷ g) i) text (95 ∷ []) rest
      (read_members read 93 rest >>= λ is. Ok (array (items_of is.0) None, is.1)) (after_byte_is 95 text rest e)
      (sound_map left (Members R (93 ∷ [])) (λ g i. Core R (91 ∷ 95 ∷ g) i) rest (read_members read 93 rest)
      (λ is. array (items_of is) None) (members_sound left R 93 read sound blank_more rest)
      (λ g is h. (91 ∷ 95 ∷ [], refl, (g, refl, rw (list_of-items_of is) h))))

  array_sound : (text : List ℕ) → Sound left (λ g i. Core R (91 ∷ g) i) text (read_array read text)
  array_sound text = array_made left text (after_byte 95 text) refl

  pub pair_sound : (text : List ℕ) → Sound left (PairOf R) text (read_pair read text)
  pair_sound text =
      sound_then left R (PairOf R) text (read text)
      (λ k. or_refused (after_byte 58 k.1) >>= λ rest. read rest >>= λ v. Ok ((k.0, v.0), v.1)) (sound text)
      (λ k front rest at key.
      sound_option left (λ g p. PairOf R (front ++ g) p) rest (after_byte 58 rest)
      (λ inner. read inner >>= λ v. Ok ((k, v.0), v.1))
      (λ inner colon.
      moved left (λ g p. PairOf R (front ++ g) p) rest (58 ∷ []) inner (read inner >>= λ v. Ok ((k, v.0), v.1))
      (after_byte_is 58 rest inner colon)
      (sound_map left R (λ g p. PairOf R (front ++ 58 ∷ g) p) inner (read inner) (λ v. (k, v)) (sound inner)
      (λ g v value. (front, g, refl, key, value)))))

  pub pair_blank : (before text : List ℕ) (p : Item × Item) → IsBlank before → PairOf R text p
      → PairOf R (before ++ text) p
  pair_blank before text p is h = (
    before ++ h.0,
    h.1,
    ap (λ (z : List ℕ). before ++ z) h.2
        ∙ sym (append_assoc before h.0 (58 ∷ h.1)),
    blank_more before h.0 p.0 is h.3,
    h.4,
  )

  map_made : (text : List ℕ) (o : Option (List ℕ)) → after_byte 95 text ≡ o
      → (let opened = length_of text o in Sound left (λ g i. Core R (123 ∷ g) i) text
      (read_members (read_pair read) 125 opened.1 >>= λ ps. Ok (spec.map (pairs_of ps.0) opened.0, ps.1)))
  map_made text None e =
      sound_map left (Members (PairOf R) (125 ∷ [])) (λ g i. Core R (123 ∷ g) i) text
      (read_members (read_pair read) 125 text) (λ ps. spec.map (pairs_of ps) (Some Unknown))
      (members_sound left (PairOf R) 125 (read_pair read) pair_sound pair_blank text)
      (λ g ps h. (123 ∷ [], (refl, refl), (g, refl, rw (pairs_list-pairs_of ps) h)))
  map_made text (Some rest) e =
      moved left (λ g i. Core R (123 ∷ g) i) text (95 ∷ []) rest
      (read_members (read_pair read) 125 rest >>= λ ps. Ok (spec.map (pairs_of ps.0) None, ps.1))
      (after_byte_is 95 text rest e)
      (sound_map left (Members (PairOf R) (125 ∷ [])) (λ g i. Core R (123 ∷ 95 ∷ g) i) rest
      (read_members (read_pair read) 125 rest) (λ ps. spec.map (pairs_of ps) None)
      (members_sound left (PairOf R) 125 (read_pair read) pair_sound pair_blank rest)
      (λ g ps h. (123 ∷ 95 ∷ [], refl, (g, refl, rw (pairs_list-pairs_of ps) h))))

  map_sound : (text : List ℕ) → Sound left (λ g i. Core R (123 ∷ g) i) text (read_map read text)
  map_sound text = map_made text (after_byte 95 text) refl

  -- ---- indefinite strings

  abbrev Chunks : StringKind → List ℕ → Chunk → Type 0
  Chunks kind member c = Blanked (λ core. StringOf kind R core c) member

  chunk_blank : (kind : StringKind) (before text : List ℕ) (c : Chunk) → IsBlank before → Chunks kind text c
      → Chunks kind (before ++ text) c
  chunk_blank kind before text c is h = blanked_more (λ core. StringOf kind R core c) before text is h

  chunks_found : (kind : StringKind) (text : List ℕ)
      → Sound (suc left) (Members (Chunks kind) (41 ∷ [])) text (read_members (read_chunk read kind) 41 text)
  chunks_found kind text = members_sound (suc left) (Chunks kind) 41 (read_chunk read kind)
      (chunk_sound left R read sound blank_more kind) (chunk_blank kind) text

  first_quote : (first : List ℕ) → first_start first ≡ start.Quote → (z : List ℕ) × (first ≡ 34 ∷ z)
  first_quote [] e = absurd cc
  first_quote (b ∷ z) e = (z, ap (λ (c : ℕ). c ∷ z) (subst (λ (s : Start). StartIs s b) e (start_is b)))

  -- without a chunk it does not begin with a quote
  shows_kind : (first : List ℕ) (s : Start) → first_start first ≡ s → (front rest : List ℕ) (cs : List Chunk)
      → first ≡ front ++ rest → Members (Chunks (kind_from s)) (41 ∷ []) front cs → ShowsKind (kind_from s) cs
  shows_kind first s e front rest (c ∷ cs) at h = tt
  shows_kind first start.Quote e front rest [] at h =
      let q = first_quote first e in
      absurd (quote_empty front h.0 h.1 rest q.0 h.2 h.3 h.4 (sym at ∙ q.1))
  shows_kind first _ e front rest [] at h = refl

  chunks_after : (blank first : List ℕ) → IsBlank blank → (kind : StringKind) → ((front rest : List ℕ) (cs : List Chunk)
      → first ≡ front ++ rest → Members (Chunks kind) (41 ∷ []) front cs → ShowsKind kind cs)
      → Sound (suc left) (λ g i. Core R (40 ∷ 95 ∷ (blank ++ g)) i) first (chunks_of read kind first)
  chunks_after blank first is kind shows =
      sound_map (suc left) (λ g cs. ShowsKind kind cs × Members (Chunks kind) (41 ∷ []) g cs)
      (λ g i. Core R (40 ∷ 95 ∷ (blank ++ g)) i) first (read_members (read_chunk read kind) 41 first)
      (λ cs. atom (chunked_string kind cs))
      (weaker_here (suc left) (Members (Chunks kind) (41 ∷ []))
      (λ g cs. ShowsKind kind cs × Members (Chunks kind) (41 ∷ []) g cs) first
      (read_members (read_chunk read kind) 41 first) (λ g rest cs at h. (shows g rest cs at h, h))
      (chunks_found kind first))
      (λ g cs h. inr (
        h.0,
        (
          blank ++ g,
          refl,
          members_blank (Chunks kind) (41 ∷ []) blank g cs (chunk_blank kind) is h.1,
        ),
      ))

  chunks_sound : (text : List ℕ) → Sound (suc left) (λ g i. Core R (40 ∷ g) i) text (read_chunks read text)
  chunks_sound text =
      sound_option (suc left) (λ g i. Core R (40 ∷ g) i) text (after_byte 95 text)
      (λ opened. chunks_of read (kind_from (first_start (skip_blank opened))) (skip_blank opened))
      (λ opened e.
      let first = skip_blank opened in
      let kind = kind_from (first_start first) in
      let blank = blank_left true opened in
      moved (suc left) (λ g i. Core R (40 ∷ g) i) text (95 ∷ []) opened (chunks_of read kind first)
      (after_byte_is 95 text opened e)
      (moved (suc left) (λ g i. Core R (40 ∷ 95 ∷ g) i) opened blank.0 first (chunks_of read kind first) blank.1
      (chunks_after blank.0 first blank.2 kind (shows_kind first (first_start first) refl))))

  -- ---- strings

  abbrev CoreThen : List ℕ → Item → Type 0
  CoreThen front i = Trailed (λ core. Core R core i) front

  string_by : (kind : StringKind) (text : List ℕ) (o : Option (List ℕ)) → after_word (no_chunks kind) text ≡ o
      → Sound (suc left) CoreThen text (string_of read kind text o)
  string_by kind text (Some rest) e = (
    no_chunks kind,
    after_word_is (no_chunks kind) text rest e,
    trailed (λ core. Core R core (atom (chunked_string kind []))) (no_chunks kind) (inl (refl, refl)),
  )
  string_by kind text None e =
      sound_map (suc left) (λ g c. Trailed (λ core. StringOf kind R core c) g) CoreThen text
      (read_string read kind text) (λ c. atom (string kind c))
      (string_sound left R read sound blank_more kind text) (λ g c h. h)

  string_item_sound : (kind : StringKind) (text : List ℕ)
      → Sound (suc left) CoreThen text (read_string_item read kind text)
  string_item_sound kind text = string_by kind text (after_word (no_chunks kind) text) refl

  -- ---- cores

  alone : (text : List ℕ) (r : Read Item) → Sound (suc left) (Core R) text r → Sound (suc left) CoreThen text r
  alone text r s = weaker (suc left) (Core R) CoreThen text r (λ g i h. trailed (λ core. Core R core i) g h) s

  behind : (b c : ℕ) (text : List ℕ) (r : Read Item) → b ≡ c → Sound (suc left) (λ g i. Core R (c ∷ g) i) text r
      → Sound (suc left) CoreThen (b ∷ text) r
  behind b c text r is s =
      moved (suc left) CoreThen (b ∷ text) (b ∷ []) text r refl
      (weaker (suc left) (λ g i. Core R (c ∷ g) i) (λ g i. CoreThen (b ∷ g) i) text r
      (λ g i h. trailed (λ core. Core R core i) (b ∷ g) (subst (λ (d : ℕ). Core R (d ∷ g) i) (sym is) h)) s)

  within : (b c : ℕ) (text : List ℕ) (r : Read Item) → b ≡ c → is_opening c ≡ true
      → Sound left (λ g i. Core R (c ∷ g) i) text r → Sound (suc left) CoreThen (b ∷ text) r
  within b c text r is opens s =
      moved_in left CoreThen (b ∷ text) [] b text r refl (ap is_opening is ∙ opens)
      (weaker left (λ g i. Core R (c ∷ g) i) (λ g i. CoreThen (b ∷ g) i) text r
      (λ g i h. trailed (λ core. Core R core i) (b ∷ g) (subst (λ (d : ℕ). Core R (d ∷ g) i) (sym is) h)) s)

  core_by : (b : ℕ) (text : List ℕ) (s : Start) → StartIs s b
      → Sound (suc left) CoreThen (b ∷ text) (core_of read s (b ∷ text) text)
  core_by b text start.Quote is = string_item_sound Text (b ∷ text)
  core_by b text start.Apostrophe is = string_item_sound Bytes (b ∷ text)
  core_by b text start.Angle is = string_item_sound Bytes (b ∷ text)
  core_by b text start.LetterB is = string_item_sound Bytes (b ∷ text)
  core_by b text start.LetterH is = string_item_sound Bytes (b ∷ text)
  core_by b text start.Parenthesis is = behind b 40 text (read_chunks read text) is (chunks_sound text)
  core_by b text start.Minus is = behind b 45 text (read_negative text) is (negative_sound left R read sound text)
  core_by b text start.Digit is = alone (b ∷ text) (read_integer read (b ∷ text))
      (integer_sound left R read sound (b ∷ text))
  core_by b text start.Bracket is = within b 91 text (read_array read text) is refl (array_sound text)
  core_by b text start.Brace is = within b 123 text (read_map read text) is refl (map_sound text)
  core_by b text start.Other is = alone (b ∷ text) (read_word (b ∷ text)) (word_sound left R read sound (b ∷ text))

  pub core_sound : (text : List ℕ) → Sound (suc left) CoreThen text (read_core read text)
  unfolding read_core
  core_sound [] = tt
  core_sound (b ∷ text) = core_by b text (start_of b) (start_is b)

-- ---- items

reads_blank : (left : ℕ) (before text : List ℕ) (i : Item) → IsBlank before → Reads left text i
    → Reads left (before ++ text) i
unfolding Reads
reads_blank zero before text i is h = absurd h
reads_blank (suc left) before text i is h = blanked_more (λ core. Core (Reads left) core i) before text is h

-- what a text is read as with `left` levels left
pub item_sound : (left : ℕ) (text : List ℕ) → Sound left (Reads left) text (read_item left text)
unfolding read_item Reads
item_sound zero text = omega arith
item_sound (suc left) text =
    let blank = blank_left true text in
    let Then : List ℕ → Item → Type 0 = λ front i. Trailed (λ core. Core (Reads left) core i) front in
    moved (suc left) (λ g i. Blanked (λ core. Core (Reads left) core i) g) text blank.0 (skip_blank text)
    (read_core (read_item left) (skip_blank text) >>= λ i. Ok (i.0, skip_blank i.1)) blank.1
    (sound_then (suc left) Then (λ g i. Blanked (λ core. Core (Reads left) core i) (blank.0 ++ g)) (skip_blank text)
    (read_core (read_item left) (skip_blank text)) (λ i. Ok (i.0, skip_blank i.1))
    (core_sound left (Reads left) (read_item left) (item_sound left) (reads_blank left) (skip_blank text))
    (λ i front rest at core.
    let last = blank_left true rest in (
      last.0,
      last.1,
      (
        blank.0,
        core.0,
        core.1 ++ last.0,
        ap (λ (z : List ℕ). blank.0 ++ z) (ap (λ (z : List ℕ). z ++ last.0) core.2 ∙ append_assoc core.0 core.1 last.0),
        blank.2,
        core.3,
        Blank-append core.4 last.2,
      ),
    )))

answered : (limit : ℕ) (text : List ℕ) (r : Read Item) → Sound limit (Reads limit) text r
    → IsAnswered limit text (r >>= λ i. whole i.0 i.1)
answered limit text (Ok (i, [])) s = subst (λ (z : List ℕ). Reads limit z i) (sym (s.1 ∙ append-nil s.0)) s.2
answered limit text (Ok (i, b ∷ rest)) s = tt
answered limit text (Err e) s = s

-- what reading a whole text answers holds of it
pub notation_sound : (limit : ℕ) (text : List ℕ) → IsAnswered limit text (notation_of limit text)
notation_sound limit text = answered limit text (read_item limit text) (item_sound limit text)
