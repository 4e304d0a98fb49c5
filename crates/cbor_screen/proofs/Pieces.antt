-- Output that is appended piece by piece is the whole text in colours (`IsColored`), or with each token shown in its
-- way (`InTokens`). Without the colours it is the text again (`without_sgr`) if that has no ESC. A long token may be
-- cut (`IsElidedToken`; not in a text of at most `most` bytes) or lose its encoding indicator (`IsWidthlessToken`).
use Rattle.std.proofs.Common.{◌≡◌, ◌≢◌, ◌⊎◌, ℕ, ◌+◌, ◌<◌, ◌≤◌, List, [], ◌∷◌, ◌++◌, length, take, drop, get_or, false}
use Rattle.std.proofs.Common.{refl, sym, ap, ◌∙◌, subst, inl, inr, append_assoc, length-append, arith}
use Rattle.std.proofs.Common.{eqb, suc, zero, codes}
use Rattle.std.specs.Fmt.{decimal}
use Rattle.std.proofs.Math.Seq.{take-add, take-length}
use Rattle.std.proofs.lemmas.Bool.{ne_eqb}
use Rattle.std.proofs.lemmas.List.{append-nil, take-append-drop, length-take, length-drop, get_or-take, get_or-drop}
use Rattle.std.proofs.Common.{Option, None, Some, IfSome}
use Rattle.cbor_marks.specs.Lines.{Lacks}
use Rattle.cbor_marks.specs.declared.kind.Kind.{Kind}
use Rattle.cbor_marks.specs.declared.kind.Kind.TheVariants as kind
use Rattle.cbor_screen.specs.Colored.{Span, texts_of, colored, KeepLines, IsColored}
use Rattle.cbor_screen.specs.Colored.{in_color, in_color_of, start_of, end_of}
use Rattle.cbor_screen.specs.Elided.{Cut, IsElided, IsElidedToken}
use Rattle.cbor_screen.specs.Sgr.{outside_sgr, without_sgr}
use Rattle.cbor_screen.specs.Widthless.{IsIndicator, IsWidthlessToken}
use Rattle.cbor_screen.specs.Tokens.{Piece, tokens_of, shown_of, AreShown, InTokens}

-- what is appended after what was
pub joined : (old mid new x y : List ℕ) → mid ≡ old ++ x → new ≡ mid ++ y → new ≡ old ++ (x ++ y)
joined old mid new x y first next = next ∙ ap (λ t. t ++ y) first ∙ append_assoc old x y

-- ---- piece by piece

-- what remains is a piece, and what remains then
pub parted : (text done rest piece after : List ℕ) → text ≡ done ++ rest → rest ≡ piece ++ after
    → text ≡ (done ++ piece) ++ after
parted text done rest piece after all next =
    all ∙ ap (λ (t : List ℕ). done ++ t) next ∙ sym (append_assoc done piece after)

-- nothing remains
pub all_done : (text done rest : List ℕ) → text ≡ done ++ rest → rest ≡ [] → done ≡ text
all_done text done rest all none = sym (all ∙ ap (λ (t : List ℕ). done ++ t) none ∙ append-nil done)

pub shorter : (rest piece after : List ℕ) → rest ≡ piece ++ after → 0 < length piece → length after < length rest
shorter rest piece after next some = omega (arith, ap length next, length-append piece after)

-- ---- in colours

pub colored_none : IsColored [] []
colored_none = ([], refl, refl, tt)

pub colored_one : (k : Option Kind) (text : List ℕ) → IfSome k (λ _. Lacks 10 text)
    → IsColored text (in_color_of k text)
colored_one k text line =
    let span : Span = record { kind = k; text = text } in
    (span ∷ [], append-nil text, append-nil (in_color_of k text), (line, tt))

pub colored_plain : (text : List ℕ) → IsColored text text
colored_plain text = colored_one None text tt

-- what is true in any case is true of a token
pub any_kind : (k : Option Kind) (P : Type 0) → P → IfSome k (λ _. P)
any_kind None P h = tt
any_kind (Some k) P h = h

-- a part of a line has no line feed either
pub lacks_part : (line : List ℕ) (at n : ℕ) → Lacks 10 line → Lacks 10 (take n (drop at line))
lacks_part line at n h k below =
    let short : k < n = omega (arith, length-take n (drop at line)) in
    let within : at + k < length line = omega (arith, length-take n (drop at line), length-drop at line) in
    let same : get_or (take n (drop at line)) k 0 ≡ get_or line (at + k) 0 =
    get_or-take n (drop at line) k 0 short ∙ get_or-drop at line k 0 in
    λ is. h (at + k) within (sym same ∙ is)

texts-append : (a b : List Span) → texts_of (a ++ b) ≡ texts_of a ++ texts_of b
texts-append [] b = refl
texts-append (s ∷ a) b = ap (λ t. s.text ++ t) (texts-append a b) ∙ sym (append_assoc s.text (texts_of a) (texts_of b))

colored-append : (a b : List Span) → colored (a ++ b) ≡ colored a ++ colored b
colored-append [] b = refl
colored-append (s ∷ a) b =
    ap (λ t. in_color_of s.kind s.text ++ t) (colored-append a b)
    ∙ sym (append_assoc (in_color_of s.kind s.text) (colored a) (colored b))

keep-append : (a b : List Span) → KeepLines a → KeepLines b → KeepLines (a ++ b)
keep-append [] b h k = k
keep-append (s ∷ a) b (first, h) k = (first, keep-append a b h k)

pub colored_both : (a x b y : List ℕ) → IsColored a x → IsColored b y → IsColored (a ++ b) (x ++ y)
colored_both a x b y (s, s-text, s-shown, s-lines) (t, t-text, t-shown, t-lines) =
    (s ++ t, cc (texts-append s t), cc (colored-append s t), keep-append s t s-lines t-lines)

pub colored_more : (text : List ℕ) (at n : ℕ) (x y : List ℕ) → IsColored (take at text) x
    → IsColored (take n (drop at text)) y → IsColored (take (at + n) text) (x ++ y)
colored_more text at n x y before next =
    rw (take-add at n text) (colored_both (take at text) x (take n (drop at text)) y before next)

-- the first n, and then the next one
pub colored_next : (text : List ℕ) (n : ℕ) (x y : List ℕ) → IsColored (take n text) x
    → y ≡ take 1 (drop n text) → IsColored (take (n + 1) text) (x ++ y)
colored_next text n x y before is =
    colored_more text n 1 x y before (rw is (colored_plain (take 1 (drop n text))))

take_all : (text : List ℕ) (n : ℕ) → n ≡ length text → take n text ≡ text
take_all text n all = ap (λ m. take m text) all ∙ take-length text

-- all of it
pub colored_whole : (text : List ℕ) (n : ℕ) (x : List ℕ) → n ≡ length text → IsColored (take n text) x
    → IsColored text x
colored_whole text n x all h = subst (λ (t : List ℕ). IsColored t x) (take_all text n all) h

-- ---- without the sequences

pub lacks_first : (byte c : ℕ) (cs : List ℕ) → Lacks byte (c ∷ cs) → c ≢ byte
lacks_first byte c cs h = h 0 (omega arith)

pub lacks_rest : (byte c : ℕ) (cs : List ℕ) → Lacks byte (c ∷ cs) → Lacks byte cs
lacks_rest byte c cs h k below = h (suc k) (omega arith)

pub lacks_front : (byte : ℕ) (a b : List ℕ) → Lacks byte (a ++ b) → Lacks byte a
lacks_front byte [] b h k below = absurd (omega arith)
lacks_front byte (c ∷ a) b h zero below = h 0 (omega arith)
lacks_front byte (c ∷ a) b h (suc k) below = lacks_front byte a b (lacks_rest byte c (a ++ b) h) k (omega arith)

pub lacks_back : (byte : ℕ) (a b : List ℕ) → Lacks byte (a ++ b) → Lacks byte b
lacks_back byte [] b h = h
lacks_back byte (c ∷ a) b h = lacks_back byte a b (lacks_rest byte c (a ++ b) h)

-- a text without ESC stays as it is
plain_stays : (a b : List ℕ) → Lacks 27 a → outside_sgr false (a ++ b) ≡ a ++ outside_sgr false b
plain_stays [] b h = refl
plain_stays (c ∷ a) b h =
    let other : eqb c 27 ≡ false = ne_eqb c 27 (lacks_first 27 c a h) in
    rw other (ap (λ t. c ∷ t) (plain_stays a b (lacks_rest 27 c a h)))

end_goes : (k : Kind) (b : List ℕ) → outside_sgr false (end_of k ++ b) ≡ outside_sgr false b
end_goes kind.Key b = refl
end_goes kind.Text b = refl
end_goes kind.Bytes b = refl
end_goes kind.Number b = refl
end_goes kind.Tag b = refl
end_goes kind.Note b = refl
end_goes kind.Opening b = refl
end_goes kind.Closing b = refl
end_goes kind.Fault b = refl

start_goes : (k : Kind) (b : List ℕ) → outside_sgr false (start_of k ++ b) ≡ outside_sgr false b
start_goes kind.Key b = refl
start_goes kind.Text b = refl
start_goes kind.Bytes b = refl
start_goes kind.Number b = refl
start_goes kind.Tag b = refl
start_goes kind.Note b = refl
start_goes kind.Opening b = refl
start_goes kind.Closing b = refl
start_goes kind.Fault b = refl

token_stays : (k : Kind) (a b : List ℕ) → Lacks 27 a
    → outside_sgr false (in_color k a ++ b) ≡ a ++ outside_sgr false b
token_stays k a b h =
    let parts : in_color k a ++ b ≡ start_of k ++ (a ++ (end_of k ++ b)) =
    append_assoc (start_of k ++ a) (end_of k) b ∙ append_assoc (start_of k) a (end_of k ++ b) in
    ap (λ t. outside_sgr false t) parts ∙ start_goes k (a ++ (end_of k ++ b))
    ∙ plain_stays a (end_of k ++ b) h ∙ ap (λ t. a ++ t) (end_goes k b)

span_stays : (k : Option Kind) (a b : List ℕ) → Lacks 27 a
    → outside_sgr false (in_color_of k a ++ b) ≡ a ++ outside_sgr false b
span_stays None a b h = plain_stays a b h
span_stays (Some k) a b h = token_stays k a b h

spans_stay : (spans : List Span) → Lacks 27 (texts_of spans) → without_sgr (colored spans) ≡ texts_of spans
spans_stay [] h = refl
spans_stay (s ∷ spans) h =
    span_stays s.kind s.text (colored spans) (lacks_front 27 s.text (texts_of spans) h)
    ∙ ap (λ t. s.text ++ t) (spans_stay spans (lacks_back 27 s.text (texts_of spans) h))

pub colored_same : (text added : List ℕ) → IsColored text added → Lacks 27 text → without_sgr added ≡ text
colored_same text added (spans, is-text, is-shown, lines) h =
    ap without_sgr (sym is-shown) ∙ spans_stay spans (subst (Lacks 27) (sym is-text) h) ∙ is-text

-- ---- in tokens

tokens-append : (a b : List Piece) → tokens_of (a ++ b) ≡ tokens_of a ++ tokens_of b
tokens-append [] b = refl
tokens-append (p ∷ a) b =
    ap (λ t. p.token ++ t) (tokens-append a b) ∙ sym (append_assoc p.token (tokens_of a) (tokens_of b))

shown-append : (a b : List Piece) → shown_of (a ++ b) ≡ shown_of a ++ shown_of b
shown-append [] b = refl
shown-append (p ∷ a) b =
    ap (λ t. p.added ++ t) (shown-append a b) ∙ sym (append_assoc p.added (shown_of a) (shown_of b))

module _ (R : List ℕ → List ℕ → Type 0) where
  pub shown_none : InTokens R [] []
  shown_none = ([], refl, refl, tt)

  pub shown_one : (token added : List ℕ) → R token added → InTokens R token added
  shown_one token added h =
      let piece : Piece = record { token = token; added = added } in
      (piece ∷ [], append-nil token, append-nil added, (h, tt))

  are-append : (a b : List Piece) → AreShown R a → AreShown R b → AreShown R (a ++ b)
  are-append [] b h k = k
  are-append (p ∷ a) b (first, h) k = (first, are-append a b h k)

  pub shown_both : (a x b y : List ℕ) → InTokens R a x → InTokens R b y → InTokens R (a ++ b) (x ++ y)
  shown_both a x b y (s, s-tokens, s-shown, s-are) (t, t-tokens, t-shown, t-are) =
      (s ++ t, cc (tokens-append s t), cc (shown-append s t), are-append s t s-are t-are)

  pub shown_more : (text : List ℕ) (at n : ℕ) (x y : List ℕ) → InTokens R (take at text) x
      → InTokens R (take n (drop at text)) y → InTokens R (take (at + n) text) (x ++ y)
  shown_more text at n x y before next =
      rw (take-add at n text) (shown_both (take at text) x (take n (drop at text)) y before next)

  -- the first n, and then the next one, as it was
  pub shown_next : (text : List ℕ) (n : ℕ) (x y : List ℕ) → InTokens R (take n text) x
      → y ≡ take 1 (drop n text) → R (take 1 (drop n text)) (take 1 (drop n text))
      → InTokens R (take (n + 1) text) (x ++ y)
  shown_next text n x y before is kept =
      shown_more text n 1 x y before (rw is (shown_one (take 1 (drop n text)) (take 1 (drop n text)) kept))

  pub shown_whole : (text : List ℕ) (n : ℕ) (x : List ℕ) → n ≡ length text → InTokens R (take n text) x
      → InTokens R text x
  shown_whole text n x all h = subst (λ (t : List ℕ). InTokens R t x) (take_all text n all) h

-- ---- with long strings cut

cut_whole : (token : List ℕ) (from n : ℕ)
    → (take from token ++ take n (drop from token)) ++ drop (from + n) token ≡ token
cut_whole token from n =
    ap (λ t. t ++ drop (from + n) token) (sym (take-add from n token)) ∙ take-append-drop (from + n) token

-- a token of which a part is left out
pub elided_cut : (most : ℕ) (token : List ℕ) (from n bytes : ℕ) → most < bytes → most < length token
    → IsElidedToken most token (take from token ++ codes "..." ++ drop (from + n) token ++ codes " /"
    ++ decimal bytes ++ codes " bytes/")
elided_cut most token from n bytes more long =
    let cut : Cut = record {
      front = take from token;
      gone = take n (drop from token);
      rest = drop (from + n) token;
      bytes = bytes;
    } in
    inr (cut, sym (cut_whole token from n), refl, more, long)

pub grouped : (old a b c d e f : List ℕ)
    → old ++ a ++ b ++ c ++ d ++ e ++ f ≡ old ++ (a ++ b ++ c ++ d ++ e ++ f)
grouped old a b c d e f = simp append_assoc

-- no token of a short text is cut
short_same : (most : ℕ) (pieces : List Piece) → AreShown (IsElidedToken most) pieces
    → length (tokens_of pieces) ≤ most → shown_of pieces ≡ tokens_of pieces
short_same most [] h short = refl
short_same most (p ∷ pieces) (inl same, h) short =
    let rest : length (tokens_of pieces) ≤ most = omega (arith, length-append p.token (tokens_of pieces)) in
    ap (λ t. t ++ shown_of pieces) same ∙ ap (λ t. p.token ++ t) (short_same most pieces h rest)
short_same most (p ∷ pieces) (inr cut, h) short =
    absurd (omega (arith, cut.4, length-append p.token (tokens_of pieces)))

pub elided_short : (most : ℕ) (text added : List ℕ) → IsElided most text added → length text ≤ most → added ≡ text
elided_short most text added (pieces, is-tokens, is-shown, are) short =
    let fits : length (tokens_of pieces) ≤ most = omega (arith, ap length is-tokens) in
    sym is-shown ∙ short_same most pieces are fits ∙ is-tokens

-- ---- without widths

-- a token without the indicator at its end, or all of it
pub widthless_end : (piece : List ℕ) (n : ℕ) → (n ≡ length piece) ⊎ IsIndicator (drop n piece)
    → IsWidthlessToken piece (take n piece)
widthless_end piece n (inl all) = inl (take_all piece n all)
widthless_end piece n (inr indicator) = inr (drop n piece, indicator, inl (sym (take-append-drop n piece)))

-- what opens an array without its indicator, and the blank behind that
pub widthless_count : (piece : List ℕ) (n : ℕ) → n < length piece → (n ≡ length piece) ⊎ IsIndicator (drop n piece)
    → IsWidthlessToken (piece ++ codes " ") (take n piece)
widthless_count piece n less (inl all) = absurd (omega (arith, all))
widthless_count piece n less (inr indicator) =
    inr (
      drop n piece,
      indicator,
      inr (ap (λ (t : List ℕ). t ++ codes " ") (sym (take-append-drop n piece))
          ∙ append_assoc (take n piece) (drop n piece) (codes " ")),
    )

-- the same, and what remains of the text behind it
pub widthless_opening : (piece rest after : List ℕ) (n : ℕ) → n < length piece
    → (n ≡ length piece) ⊎ IsIndicator (drop n piece) → (after ≡ rest) ⊎ (rest ≡ codes " " ++ after)
    → (token : List ℕ) × (piece ++ rest ≡ token ++ after) × IsWidthlessToken token (take n piece)
widthless_opening piece rest after n less ends (inl same) =
    (piece, ap (λ (t : List ℕ). piece ++ t) (sym same), widthless_end piece n ends)
widthless_opening piece rest after n less ends (inr blank) = (
  piece ++ codes " ",
  ap (λ (t : List ℕ). piece ++ t) blank ∙ sym (append_assoc piece (codes " ") after),
  widthless_count piece n less ends,
)
