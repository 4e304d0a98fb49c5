-- If `read_string` or `read_chunk` returns a string, the text that was read is this string by the grammar (`StringOf`),
-- of one piece or more, with blanks after it or round a chunk. An error is one that the text allows (`Sound`). The same
-- is shown of one piece (`piece_of`), such as the items in `<<..>>` (`read_embedded`).
use Rattle.std.proofs.Common.{◌≡◌, ℕ, zero, suc, Bool, true, false, cond, ◌==◌, ◌&&◌, nat_le, List, [], ◌∷◌, ◌++◌}
use Rattle.std.proofs.Common.{length, Ok, Err, refl, sym, ap, subst, ◌∙◌, append_assoc, append-nil, ◌⊎◌, inl, inr}
use Rattle.std.proofs.Common.{arith}
use Rattle.std.specs.Str.{is_utf8}
use Rattle.std.proofs.lemmas.Bool.{cond_both, eqb-true}
use Rattle.std.proofs.lemmas.List.Sums.{sum_by-cons}
use Rattle.std.proofs.lemmas.Str.{IsUtf8-from_is_utf8}
use Rattle.cbor_tokens.specs.Token.{in_quotes}
use Rattle.cbor_tokens.specs.TokenReading.{unquoted}
use Rattle.cbor_tokens.proofs.tokens.Blanks.{blank_left, Blank-append}
use Rattle.cbor_tokens.proofs.tokens.Quoted.{in_quotes-unquoted}
use Rattle.cbor_grammar.specs.declared.error.Error.{Error}
use Rattle.cbor_grammar.specs.declared.error.Error.TheVariants as refusal
use Rattle.cbor_grammar.specs.declared.width.IntegerWidth.TheVariants.{Unknown}
use Rattle.cbor_notation.specs.declared.start.Start.{Start}
use Rattle.cbor_notation.specs.declared.start.Start.TheVariants as start
use Rattle.cbor_grammar.specs.Item.{Chunk, Item}
use Rattle.cbor_grammar.specs.Item.{items_of}
use Rattle.cbor_grammar.specs.declared.strings.StringKind.{StringKind}
use Rattle.cbor_grammar.specs.declared.strings.StringKind.TheVariants.{Bytes, Text}
use Rattle.cbor_grammar.specs.StringKind.{IsContent}
use Rattle.cbor_grammar.specs.Reading.{Read, ◌>>=◌}
use Rattle.cbor_grammar.specs.Written.{encoded_items}
use Rattle.cbor_grammar.specs.Notation.{IsBlank, Blanked, Members, QuotedBy, Notation, as_text, as_items, PieceOf}
use Rattle.cbor_grammar.specs.Notation.{Joined}
use Rattle.cbor_grammar.specs.Notation.{one, more, BeginsAs, StringOf}
use Rattle.cbor_notation.specs.mirror.NotationReading.{or_refused, skip_blank, after_byte, read_members, h_notation}
use Rattle.cbor_notation.specs.mirror.NotationReading.{b_notation, read_embedded, start_of, first_start, begins_piece}
use Rattle.cbor_notation.specs.mirror.NotationReading.{piece_of, read_piece, read_pieces, begins_string, takes_texts}
use Rattle.cbor_notation.specs.mirror.NotationReading.{checked, content_of, read_string, read_chunk}
use Rattle.cbor_grammar.specs.NotationRefused.{MayRefuse, HoldsByte}
use Rattle.cbor_notation.proofs.notation.sound.Steps.{a_test, Sound, moved, moved_in, weaker, sound_then, sound_map}
use Rattle.cbor_notation.proofs.notation.sound.Steps.{sound_check, sound_option, sound_refused, after_byte_is}
use Rattle.cbor_notation.proofs.notation.sound.Lists.{members_sound}
use Rattle.cbor_notation.proofs.notation.sound.Strings.{list_of-items_of, members_more, h_sound, b_sound}

-- ---- what begins with a byte

abbrev pub StartIs : Start → ℕ → Type 0
StartIs start.Quote b = b ≡ 34
StartIs start.Apostrophe b = b ≡ 39
StartIs start.Parenthesis b = b ≡ 40
StartIs start.Minus b = b ≡ 45
StartIs start.Digit b = Unit {0}
StartIs start.Angle b = b ≡ 60
StartIs start.Bracket b = b ≡ 91
StartIs start.LetterB b = b ≡ 98
StartIs start.LetterH b = b ≡ 104
StartIs start.Brace b = b ≡ 123
StartIs start.Other b = Unit {0}

pub start_is : (b : ℕ) → StartIs (start_of b) b
unfolding start_of
start_is b =
    is_or (b == 34) start.Quote _ (eqb-true b 34)
    (is_or (b == 39) start.Apostrophe _ (eqb-true b 39)
    (is_or (b == 40) start.Parenthesis _ (eqb-true b 40)
    (is_or (b == 45) start.Minus _ (eqb-true b 45)
    (is_or (nat_le 48 b && nat_le b 57) start.Digit _ (λ e. tt)
    (is_or (b == 60) start.Angle _ (eqb-true b 60)
    (is_or (b == 91) start.Bracket _ (eqb-true b 91)
    (is_or (b == 98) start.LetterB _ (eqb-true b 98)
    (is_or (b == 104) start.LetterH _ (eqb-true b 104)
    (is_or (b == 123) start.Brace _ (eqb-true b 123) tt)))))))))
  where
    is_or : (test : Bool) (s t : Start) → (test ≡ true → StartIs s b) → StartIs t b → StartIs (cond test s t) b
    is_or test s t this other = cond_both test s t (λ u. StartIs u b) this (λ e. other)

-- such a text, and a blank after it
abbrev pub Trailed : (List ℕ → Type 0) → List ℕ → Type 0
Trailed Is front = (core blank : List ℕ) × (front ≡ core ++ blank) × Is core × IsBlank blank

module _ (left : ℕ) (R : List ℕ → Item → Type 0) (read : List ℕ → Read Item) (sound : (text : List ℕ)
    → Sound left R text (read text)) (blank_more : (before text : List ℕ) (i : Item) → IsBlank before → R text i
    → R (before ++ text) i) where
  -- after the first `<`
  pub embedded_sound : (text : List ℕ)
      → Sound left (λ g bytes. Notation R (60 ∷ g) bytes) text (read_embedded read text)
  embedded_sound text =
      sound_option left (λ g bytes. Notation R (60 ∷ g) bytes) text (after_byte 60 text)
      (λ first. read_members read 62 first >>= λ is. or_refused (after_byte 62 is.1)
      >>= λ rest. Ok (encoded_items (items_of is.0), rest))
      (λ first opened.
      moved left (λ g bytes. Notation R (60 ∷ g) bytes) text (60 ∷ []) first
      (read_members read 62 first >>= λ is. or_refused (after_byte 62 is.1)
      >>= λ rest. Ok (encoded_items (items_of is.0), rest)) (after_byte_is 60 text first opened)
      (sound_then left (Members R (62 ∷ [])) (λ g bytes. Notation R (60 ∷ 60 ∷ g) bytes) first
      (read_members read 62 first) (λ is. or_refused (after_byte 62 is.1)
      >>= λ rest. Ok (encoded_items (items_of is.0), rest)) (members_sound left R 62 read sound blank_more first)
      (λ is front rest at members.
      sound_option left (λ g bytes. Notation R (60 ∷ 60 ∷ (front ++ g)) bytes) rest (after_byte 62 rest)
      (λ last. Ok (encoded_items (items_of is), last))
      (λ last closed. (
        62 ∷ [],
        after_byte_is 62 rest last closed,
        as_items (items_of is) (
          front ++ 62 ∷ [],
          refl,
          rw (list_of-items_of is) (members_more R (62 ∷ []) (62 ∷ []) front is members),
        ) refl,
      )))))

  -- a piece, which begins with the byte of its kind
  abbrev pub PieceFrom : StringKind → ℕ → List ℕ → List ℕ → Type 0
  PieceFrom kind b g bytes = PieceOf kind R g bytes × (tail : List ℕ) × (g ≡ b ∷ tail)

  in_kind : (kind : StringKind) (g bytes : List ℕ) → Notation R g bytes → PieceOf kind R g bytes
  in_kind Bytes g bytes h = h
  in_kind Text g bytes h = inr h

  quoted_piece : (kind : StringKind) (g bytes : List ℕ) → takes_texts kind ≡ true → QuotedBy 34 g bytes
      → PieceOf kind R g bytes
  quoted_piece Bytes g bytes texts h = absurd cc
  quoted_piece Text g bytes texts h = inl h

  pub piece_sound : (kind : StringKind) (b : ℕ) (text : List ℕ) (s : Start) → StartIs s b
      → begins_piece kind s ≡ true
      → Sound (suc left) (PieceFrom kind b) (b ∷ text) (piece_of read s text)
  piece_sound kind b text start.Quote is begins =
      sound_refused (suc left) (PieceFrom kind b) (b ∷ text) (unquoted 34 false text)
      (λ x e.
      let q = in_quotes-unquoted 34 text x e in (
        b ∷ (in_quotes 34 x.0 ++ 34 ∷ []),
        ap (λ (z : List ℕ). b ∷ z)
            (q ∙ sym (append_assoc (in_quotes 34 x.0) (34 ∷ []) x.1)),
        ((
          quoted_piece kind (b ∷ (in_quotes 34 x.0 ++ 34 ∷ [])) x.0 begins
              (ap (λ (z : ℕ). z ∷ (in_quotes 34 x.0 ++ 34 ∷ [])) is),
          in_quotes 34 x.0 ++ 34 ∷ [],
          refl,
        )),
      ))
  piece_sound kind b text start.Apostrophe is begins =
      sound_refused (suc left) (PieceFrom kind b) (b ∷ text) (unquoted 39 false text)
      (λ x e.
      let q = in_quotes-unquoted 39 text x e in (
        b ∷ (in_quotes 39 x.0 ++ 39 ∷ []),
        ap (λ (z : List ℕ). b ∷ z)
            (q ∙ sym (append_assoc (in_quotes 39 x.0) (39 ∷ []) x.1)),
        ((
          in_kind kind (b ∷ (in_quotes 39 x.0 ++ 39 ∷ [])) x.0
              (as_text (ap (λ (z : ℕ). z ∷ (in_quotes 39 x.0 ++ 39 ∷ [])) is)),
          in_quotes 39 x.0 ++ 39 ∷ [],
          refl,
        )),
      ))
  piece_sound kind b text start.Angle is begins =
      moved_in left (PieceFrom kind b) (b ∷ text) [] b text (read_embedded read text) refl (rw is refl)
      (weaker left (λ g bytes. Notation R (60 ∷ g) bytes) (λ g bytes. PieceFrom kind b (b ∷ g) bytes) text
      (read_embedded read text)
      (λ g bytes h. (in_kind kind (b ∷ g) bytes (subst (λ (z : ℕ). Notation R (z ∷ g) bytes) (sym is) h), g, refl))
      (embedded_sound text))
  piece_sound kind b text start.LetterB is begins =
      moved (suc left) (PieceFrom kind b) (b ∷ text) (b ∷ []) text (b_notation text) refl
      (weaker (suc left) (λ g bytes. Notation R (98 ∷ g) bytes) (λ g bytes. PieceFrom kind b (b ∷ g) bytes) text
      (b_notation text)
      (λ g bytes h. (in_kind kind (b ∷ g) bytes (subst (λ (z : ℕ). Notation R (z ∷ g) bytes) (sym is) h), g, refl))
      (b_sound R (suc left) text))
  piece_sound kind b text start.LetterH is begins =
      moved (suc left) (PieceFrom kind b) (b ∷ text) (b ∷ []) text (h_notation text) refl
      (weaker (suc left) (λ g bytes. Notation R (104 ∷ g) bytes) (λ g bytes. PieceFrom kind b (b ∷ g) bytes) text
      (h_notation text)
      (λ g bytes h. (in_kind kind (b ∷ g) bytes (subst (λ (z : ℕ). Notation R (z ∷ g) bytes) (sym is) h), g, refl))
      (h_sound R (suc left) text))
  piece_sound kind b text _ is begins = tt

  -- ---- pieces

  -- some pieces with blanks between them, and a blank; the first piece begins with this byte
  abbrev SomePieces : StringKind → ℕ → List ℕ → List ℕ → Type 0
  SomePieces kind b front content = (core blank tail : List ℕ) × (front ≡ core ++ blank)
      × Joined (PieceOf kind R) core content × IsBlank blank × (core ≡ b ∷ tail)

  abbrev Pieces : StringKind → List ℕ → List ℕ → Type 0
  Pieces kind front content = ((front ≡ []) × (content ≡ [])) ⊎ ((b : ℕ) × SomePieces kind b front content)

  joined_pieces : (kind : StringKind) (b : ℕ) (piece blank bytes g more_bytes : List ℕ) → PieceFrom kind b piece bytes
      → IsBlank blank → Pieces kind g more_bytes → SomePieces kind b (piece ++ (blank ++ g)) (bytes ++ more_bytes)
  joined_pieces kind b piece blank bytes g more_bytes p is (inl none) =
      (piece, blank, p.1, rw (none.0, append-nil blank) refl, rw (none.1, append-nil bytes) (one p.0), is, p.2)
  joined_pieces kind b piece blank bytes g more_bytes p is (inr next) =
      let core = next.1.0 in
      let after = next.1.1 in (
        piece ++ (blank ++ core),
        after,
        p.1 ++ (blank ++ core),
        ap (λ (z : List ℕ). piece ++ (blank ++ z)) next.1.3 ∙ simp append_assoc,
        more piece blank core bytes more_bytes refl refl p.0 is next.1.4,
        next.1.5,
        ap (λ (z : List ℕ). z ++ (blank ++ core)) p.2,
      )

  -- the pieces from here on, by whether one begins here
  abbrev by_test : StringKind → ℕ → ℕ → List ℕ → Bool → Read (List ℕ)
  by_test kind n b text true = piece_of read (start_of b) text
      >>= λ x. read_pieces read kind n (skip_blank x.1) >>= λ xs. Ok (x.0 ++ xs.0, xs.1)
  by_test kind n b text false = Ok ([], b ∷ text)

  pieces_by_test : (kind : StringKind) (n b : ℕ) (text : List ℕ) (t : Bool)
      → begins_piece kind (start_of b) ≡ t
      → read_pieces read kind (suc n) (b ∷ text) ≡ by_test kind n b text t
  unfolding read_pieces read_piece
  pieces_by_test kind n b text true is = rw (is, read_pieces) refl
  pieces_by_test kind n b text false is = rw (is, read_pieces) refl

  some_pieces : (kind : StringKind) (n b : ℕ) (text : List ℕ)
      → ((rest : List ℕ) → Sound (suc left) (Pieces kind) rest (read_pieces read kind n rest))
      → begins_piece kind (start_of b) ≡ true
      → Sound (suc left) (SomePieces kind b) (b ∷ text) (read_pieces read kind (suc n) (b ∷ text))
  some_pieces kind n b text later begins =
      subst (Sound (suc left) (SomePieces kind b) (b ∷ text)) (sym (pieces_by_test kind n b text true begins))
      (sound_then (suc left) (PieceFrom kind b) (SomePieces kind b) (b ∷ text) (piece_of read (start_of b) text)
      (λ x. read_pieces read kind n (skip_blank x.1) >>= λ xs. Ok (x.0 ++ xs.0, xs.1))
      (piece_sound kind b text (start_of b) (start_is b) begins)
      (λ bytes piece rest at p.
      let blank = blank_left true rest in
      moved (suc left) (λ g content. SomePieces kind b (piece ++ g) content) rest blank.0 (skip_blank rest)
      (read_pieces read kind n (skip_blank rest) >>= λ xs. Ok (bytes ++ xs.0, xs.1)) blank.1
      (sound_map (suc left) (Pieces kind) (λ g content. SomePieces kind b (piece ++ (blank.0 ++ g)) content)
      (skip_blank rest) (read_pieces read kind n (skip_blank rest)) (λ xs. bytes ++ xs)
      (later (skip_blank rest))
      (λ g content h. joined_pieces kind b piece blank.0 bytes g content p blank.2 h))))

  pieces_sound : (kind : StringKind) (n : ℕ) (text : List ℕ)
      → Sound (suc left) (Pieces kind) text (read_pieces read kind n text)
  unfolding read_pieces
  pieces_sound kind zero text = tt
  pieces_sound kind (suc n) [] = ([], refl, inl (refl, refl))
  pieces_sound kind (suc n) (b ∷ text) =
      elim (a_test (begins_piece kind (start_of b))) [
        | inl begins ↦ weaker (suc left) (SomePieces kind b) (Pieces kind) (b ∷ text)
            (read_pieces read kind (suc n) (b ∷ text)) (λ front content h. inr (b, h))
            (some_pieces kind n b text (pieces_sound kind n) begins)
        | inr other ↦
            subst (Sound (suc left) (Pieces kind) (b ∷ text)) (sym (pieces_by_test kind n b text false other))
            ([], refl, inl (refl, refl))
      ]

  -- ---- strings

  -- a text string begins with a quote
  quote_start : (s : Start) (b : ℕ) → StartIs s b → begins_string Text s ≡ true → b ≡ 34
  quote_start start.Quote b is h = is
  quote_start _ b is h = absurd cc

  piece_start : (s : Start) → begins_string Text s ≡ true → begins_piece Text s ≡ true
  piece_start start.Quote h = refl
  piece_start start.Apostrophe h = refl
  piece_start start.Parenthesis h = h
  piece_start start.Minus h = h
  piece_start start.Digit h = h
  piece_start start.Angle h = refl
  piece_start start.Bracket h = h
  piece_start start.LetterB h = refl
  piece_start start.LetterH h = refl
  piece_start _ h = h

  string_begins : (kind : StringKind) (b : ℕ) → begins_string kind (start_of b) ≡ true
      → begins_piece kind (start_of b) ≡ true
  string_begins Bytes b h = h
  string_begins Text b h = piece_start (start_of b) h

  begins_as : (kind : StringKind) (b : ℕ) (core tail : List ℕ) → begins_string kind (start_of b) ≡ true
      → core ≡ b ∷ tail → BeginsAs kind core
  begins_as Bytes b core tail begins is = tt
  begins_as Text b core tail begins is =
      (tail, is ∙ ap (λ (z : ℕ). z ∷ tail) (quote_start (start_of b) b (start_is b) begins))

  -- its content is UTF-8 in a text string, or it is refused so
  checked_is : (kind : StringKind) (content : List ℕ) (c : Chunk) → checked kind content ≡ Ok c
      → (c ≡ record { bytes = content; width = Unknown }) × IsContent kind content
  checked_is Bytes content c e = (cc, tt)
  checked_is Text content c e =
      elim (a_test (is_utf8 content)) [
        | inl this ↦
            let made : Chunk = record { bytes = content; width = Unknown } in
            let same : Ok made ≡ Ok c = rw this at e in
            (let is : c ≡ made = cc in is, IsUtf8-from_is_utf8 content this)
        | inr other ↦ absurd (cc (rw other at e))
      ]

  checked_ok : (kind : StringKind) (b : ℕ) (front content : List ℕ) (c : Chunk)
      → begins_string kind (start_of b) ≡ true
      → SomePieces kind b front content → checked kind content ≡ Ok c → Trailed (λ core. StringOf kind R core c) front
  checked_ok kind b front content c begins pieces e =
      let is = checked_is kind content c e in (
        pieces.0,
        pieces.1,
        pieces.3,
        subst (λ (d : Chunk). StringOf kind R pieces.0 d) (sym is.0)
            (refl, begins_as kind b pieces.0 pieces.2 begins pieces.6, pieces.4, is.1),
        pieces.5,
      )

  checked_odd : (kind : StringKind) (b : ℕ) (text content : List ℕ) (e : Error)
      → begins_string kind (start_of b) ≡ true
      → checked kind content ≡ Err e → MayRefuse (suc left) (b ∷ text) e
  checked_odd Bytes b text content e begins is = absurd cc
  checked_odd Text b text content e begins is =
      elim (a_test (is_utf8 content)) [
        | inl this ↦ absurd (cc (rw this at is))
        | inr other ↦
            let same : refusal.Utf8 ≡ e = cc (rw other at is) in
            let quote : b ≡ 34 = quote_start (start_of b) b (start_is b) begins in
            let held : HoldsByte 34 (34 ∷ text) = omega (arith, sum_by-cons (λ x. cond (x == 34) 1 0) 34 text) in
            subst (MayRefuse (suc left) (b ∷ text)) same (subst (λ (z : ℕ). HoldsByte 34 (z ∷ text)) (sym quote) held)
      ]

  of_test : (kind : StringKind) (text : List ℕ) (t : Bool) → begins_string kind (first_start text) ≡ t
      → Sound (suc left) (λ g c. Trailed (λ core. StringOf kind R core c) g) text
      (content_of read kind text t >>= λ x. checked kind x.0 >>= λ c. Ok (c, x.1))
  of_test kind text false is = tt
  of_test Bytes [] true is = absurd cc
  of_test Text [] true is = absurd cc
  of_test kind (b ∷ text) true is =
      sound_check (suc left) (SomePieces kind b) (λ g c. Trailed (λ core. StringOf kind R core c) g) (b ∷ text)
      (read_pieces read kind (suc (length (b ∷ text))) (b ∷ text)) (checked kind)
      (some_pieces kind (length (b ∷ text)) b text (pieces_sound kind (length (b ∷ text))) (string_begins kind b is))
      (λ front content c pieces ok. checked_ok kind b front content c is pieces ok)
      (λ front rest content e at pieces odd. checked_odd kind b text content e is odd)

  pub string_sound : (kind : StringKind) (text : List ℕ)
      → Sound (suc left) (λ g c. Trailed (λ core. StringOf kind R core c) g) text (read_string read kind text)
  unfolding read_string
  string_sound kind text = of_test kind text (begins_string kind (first_start text)) refl

  -- ---- chunks

  trailed_blanked : (blank g : List ℕ) (Is : List ℕ → Type 0) → IsBlank blank → Trailed Is g → Blanked Is (blank ++ g)
  trailed_blanked blank g Is is t = (blank, t.0, t.1, ap (λ (z : List ℕ). blank ++ z) t.2, is, t.3, t.4)

  pub chunk_sound : (kind : StringKind) (text : List ℕ)
      → Sound (suc left) (λ g c. Blanked (λ core. StringOf kind R core c) g) text (read_chunk read kind text)
  chunk_sound kind text =
      let blank = blank_left true text in
      moved (suc left) (λ g c. Blanked (λ core. StringOf kind R core c) g) text blank.0 (skip_blank text)
      (read_string read kind (skip_blank text)) blank.1
      (weaker (suc left) (λ g c. Trailed (λ core. StringOf kind R core c) g)
      (λ g c. Blanked (λ core. StringOf kind R core c) (blank.0 ++ g)) (skip_blank text)
      (read_string read kind (skip_blank text))
      (λ g c t. trailed_blanked blank.0 g (λ core. StringOf kind R core c) blank.2 t)
      (string_sound kind (skip_blank text)))

-- a blank before what may be after blanks
pub blanked_more : (Is : List ℕ → Type 0) (before text : List ℕ) → IsBlank before → Blanked Is text
    → Blanked Is (before ++ text)
blanked_more Is before text is h = (
  before ++ h.0,
  h.1,
  h.2,
  ap (λ (z : List ℕ). before ++ z) h.3 ∙ sym (append_assoc before h.0 (h.1 ++ h.2)),
  Blank-append is h.4,
  h.5,
  h.6,
)
