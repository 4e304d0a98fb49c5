-- For loops that write notation piece by piece: after one more byte the escaped text so far is right (`in_quotes`), and
-- after one more member the text so far and `members_left` still make the same text. A text without bytes to escape is
-- written as it is, and chunks, if there are any, are between `(` and `)`.
use Rattle.std.proofs.Common.{◌≡◌, ℕ, ◌+◌, ◌<◌, ◌≤◌, Bool, true, false, eqb, List, [], ◌∷◌, ◌++◌, length, map, codes}
use Rattle.std.proofs.Common.{None, get_or, take, drop, refl, sym, ap, ◌∙◌, append_assoc, arith}
use Rattle.std.specs.List.{flat_map, list_any}
use Rattle.std.proofs.lemmas.List.{length-take, take_more, drop_more, drop-append-le, drop_at, append-nil}
use Rattle.std.proofs.lemmas.Fmt.{decimal_digit}
use Rattle.std.proofs.lemmas.Grind.{flat_map-append}
use Rattle.std.proofs.lemmas.Bool.Decides.{nat_tests}
use Rattle.cbor_tokens.specs.Ascii.{quote}
use Rattle.cbor_tokens.specs.Token.{is_special, escaped_byte, in_quotes}
use Rattle.cbor_grammar.specs.NotationText.{members, bracketed, opened, chunks_listed}
use Rattle.cbor_grammar.specs.declared.layout.ContainerStyle.TheVariants as style
use Rattle.cbor_grammar.specs.declared.layout.ContainerStyle.{ContainerStyle}
use Rattle.cbor_grammar.specs.declared.layout.ContainerStyle.TheVariants.{OneLine, MultiLine}
use Rattle.cbor_tokens.proofs.texts.Appending.{appending_steps}
use Rattle.cbor_grammar.proofs.text.DigitCounts.{power_below}
use Rattle.cbor_notation_writer.specs.mirror.LayoutView.{before_member, after_member}

-- a byte that is escaped is a character
pub escaped_ascii : (b : ℕ) → is_special quote b ≡ true → b < 128
escaped_ascii b h = grind (arith, nat_tests)

-- ---- escaped text: `out` is what is written, and the bytes from `done` to `place` are still to be written

bytes_more : (s : List ℕ) (done place : ℕ) → done ≤ place → place < length s
    → drop done (take (place + 1) s) ≡ drop done (take place s) ++ get_or s place 0 ∷ []
bytes_more s done place order here =
    ap (drop done) (take_more s place 0 here)
    ∙ drop-append-le done (take place s) (get_or s place 0 ∷ []) (omega (arith, length-take place s))

escaped_more : (s : List ℕ) (place : ℕ) → place < length s
    → in_quotes quote (take (place + 1) s) ≡ in_quotes quote (take place s) ++ escaped_byte quote (get_or s place 0)
escaped_more s place here = ap (in_quotes quote) (take_more s place 0 here) ∙ simp (flat_map-append, append-nil)

pub plain_more : (s : List ℕ) (done place : ℕ) (out old : List ℕ) → done ≤ place → place < length s
    → is_special quote (get_or s place 0) ≡ false
    → out ++ drop done (take place s) ≡ old ++ in_quotes quote (take place s)
    → out ++ drop done (take (place + 1) s) ≡ old ++ in_quotes quote (take (place + 1) s)
plain_more s done place out old order here plain h =
    let b : escaped_byte quote (get_or s place 0) ≡ get_or s place 0 ∷ [] = rw plain refl in
    rw (bytes_more s done place order here, escaped_more s place here, b)
    (sym (append_assoc out (drop done (take place s)) (get_or s place 0 ∷ []))
    ∙ ap (λ x. x ++ get_or s place 0 ∷ []) h
    ∙ append_assoc old (in_quotes quote (take place s)) (get_or s place 0 ∷ []))

pub special_more : (s : List ℕ) (done place : ℕ) (out old plain out' : List ℕ) → done ≤ place → place < length s
    → is_special quote (get_or s place 0) ≡ true
    → plain ≡ drop done (take place s) → out' ≡ (out ++ plain) ++ 92 ∷ []
    → out ++ drop done (take place s) ≡ old ++ in_quotes quote (take place s)
    → out' ++ drop place (take (place + 1) s) ≡ old ++ in_quotes quote (take (place + 1) s)
special_more s done place out old plain out' order here special is written h =
    let b : escaped_byte quote (get_or s place 0) ≡ 92 ∷ get_or s place 0 ∷ [] = rw special refl in
    let last : drop place (take (place + 1) s) ≡ get_or s place 0 ∷ [] = ap (drop place) (take_more s place 0 here)
    ∙ drop_at (take place s) (get_or s place 0 ∷ []) place (omega (arith, length-take place s)) in
    rw (last, escaped_more s place here, b, written, is) (ap (λ x. (x ++ 92 ∷ []) ++ get_or s place 0 ∷ []) h
    ∙ simp append_assoc)

-- a text without such bytes is written as it is
pub plain_text : (s : List ℕ) → list_any (is_special quote) s ≡ false → in_quotes quote s ≡ s
plain_text [] h = refl
plain_text (b ∷ bs) h =
    let here : is_special quote b ≡ false = grind arith in
    let there : list_any (is_special quote) bs ≡ false = grind arith in
    let first : escaped_byte quote b ≡ b ∷ [] = rw here refl in
    ap (λ x. x ++ in_quotes quote bs) first ∙ ap (λ x. b ∷ x) (plain_text bs there)

pub ruleset escaped_steps = (plain_text, appending_steps)

-- ---- decimal digits

pub ruleset digit_laws = (decimal_digit, power_below)

pub ruleset decimal_steps = (decimal_digit, appending_steps)

-- ---- members

-- what is left of a list begins with the item at hand
pub drop_here : {X : Type 0} (xs : List X) (i : ℕ) (x : X) → i < length xs → x ≡ get_or xs i x
    → drop i xs ≡ x ∷ drop (i + 1) xs
drop_here xs i x here is = drop_more xs i x here ∙ ap (λ y. y ∷ drop (i + 1) xs) (sym is)

-- what is still to be written of the members: the first of all has no comma before it
unfoldable pub members_left : ContainerStyle → Bool → List (List ℕ) → List ℕ
members_left l first [] = []
members_left l first (m ∷ ms) = before_member l first ++ (m ++ (after_member l ++ members_left l false ms))

further_left : (separator : List ℕ) (l : ContainerStyle) → before_member l false ≡ separator → after_member l ≡ []
    → (ms : List (List ℕ)) → members_left l false ms ≡ flat_map (λ x. separator ++ x) ms
unfolding members_left
further_left separator l p q [] = refl
further_left separator l p q (m ∷ ms) =
    rw (p, q, further_left separator l p q ms) (sym (append_assoc separator m (flat_map (λ x. separator ++ x) ms)))

lines_left : (indent : ℕ) (first : Bool) (ms : List (List ℕ))
    → members_left (MultiLine indent) first ms ≡ members (MultiLine indent) ms
unfolding members_left
lines_left indent first [] = refl
lines_left indent first (m ∷ ms) = rw (lines_left indent false ms) (simp append_assoc)

-- before the first member they are all still to be written
pub members_all : (l : ContainerStyle) (ms : List (List ℕ)) → members_left l true ms ≡ members l ms
unfolding members_left
members_all style.Compact [] = refl
members_all style.Compact (m ∷ ms) = ap (λ r. m ++ r) (further_left (codes ",") style.Compact refl refl ms)
members_all (OneLine indent) [] = refl
members_all (OneLine indent) (m ∷ ms) = ap (λ r. m ++ r) (further_left (codes ", ") (OneLine indent) refl refl ms)
members_all (MultiLine indent) ms = lines_left indent true ms

-- a member more is written
pub member_more : (l : ContainerStyle) (first : Bool) (m : List ℕ) (ms : List (List ℕ))
    (out started written ended whole : List ℕ) → started ≡ out ++ before_member l first → written ≡ started ++ m
    → ended ≡ written ++ after_member l
    → out ++ members_left l first (m ∷ ms) ≡ whole → ended ++ members_left l false ms ≡ whole
unfolding members_left
member_more l first m ms out started written ended whole p q r h =
    ap (λ x. x ++ members_left l false ms) (r ∙ ap (λ x. x ++ after_member l) (q ∙ ap (λ x. x ++ m) p))
    ∙ simp append_assoc h

-- all members are written
pub members_end : (l : ContainerStyle) (first : Bool) (out old : List ℕ) (ms : List (List ℕ))
    → out ++ members_left l first [] ≡ old ++ members_left l true ms → out ≡ old ++ members l ms
unfolding members_left
members_end l first out old ms h = sym (append-nil out) ∙ h ∙ ap (λ r. old ++ r) (members_all l ms)

-- the chunks of a string that has some
pub chunks_written : {X : Type 0} (l : ContainerStyle) (empty : List ℕ) (f : X → List ℕ) (xs : List X)
    → eqb (length xs) 0 ≡ false
    → chunks_listed l empty (map f xs) ≡ bracketed l (opened l (codes "(") None) (map f xs) (codes ")")
chunks_written l empty f [] some = absurd cc
chunks_written l empty f (x ∷ xs) some = refl
