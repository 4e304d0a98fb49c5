-- Spaces, line ends and notes that EDN is written with are passed by `skip_blank` when the text is read, and a note may
-- come before what follows an item (`Follows`). A text with the notes of its place around it is read back
-- (`ReadsNoted`) if the text without them is.
use Rattle.std.proofs.Common.{◌≡◌, ◌⊎◌, inl, inr, ℕ, zero, suc, ◌≤◌, List, [], ◌∷◌, ◌++◌, length, codes, replicate}
use Rattle.std.proofs.Common.{Bool, true, false, Option, Some, None, ◌==◌, ◌&&◌, ◌||◌, if◌then◌else◌, not}
use Rattle.std.proofs.Common.{refl, sym, ap, subst, ◌∙◌, append_assoc, append-nil, arith}
use Rattle.std.proofs.lemmas.Bool.{or_parts}
use Rattle.std.proofs.lemmas.Bool.Decides.{nat_tests}
use Rattle.std.specs.Borrow.{Bor}
use Rattle.std.specs.List.{list_any}
use Rattle.cbor_tokens.specs.Ascii.{space}
use Rattle.cbor_tokens.specs.Token.{is_whitespace}
use Rattle.cbor_grammar.specs.NotationText.{line}
use Rattle.cbor_edn_grammar.specs.Blank.{after_line, after_slash, after_star, after_comment, after_space, or_here}
use Rattle.cbor_edn_grammar.specs.Blank.{after_spaces}
use Rattle.cbor_edn_grammar.specs.Blank.{skip_blank}
use Rattle.cbor_notes.specs.declared.note.Note.{Note}
use Rattle.cbor_edn_writer.specs.declared.print.place.EdnPlace.{EdnPlace}
use Rattle.cbor_edn_writer.specs.EdnLeaves.{ends_note, begins_note, comment_before}
use Rattle.cbor_edn_writer.specs.EdnLeaves.{text_before, text_after, note_before, note_after, Beside, After}
use Rattle.cbor_edn_grammar.specs.Strings.{is_sign_of, joins}
use Rattle.cbor_grammar.specs.Item.{Item}
use Rattle.cbor_edn_writer.proofs.back.Reads.{ends_item, is_ended, Follows, begins_item, IsBegun, ReadsAs, AreNotes}
use Rattle.cbor_edn_writer.proofs.back.Reads.{IsStarted, ReadsNoted}
use Rattle.cbor_edn_writer.proofs.Comments.{IsNote, AnyNote, by_note, comment_after_note}
use Rattle.cbor_edn_grammar.proofs.Words.{skip_none}

-- ---- a blank, however its end is looked for

-- where a text is left, it is so long at most
abbrev Within : ℕ → Option (List ℕ) → Type 0
Within n None = Unit {0}
Within n (Some rest) = length rest ≤ n

within_if : (test : Bool) (n : ℕ) (a b : Option (List ℕ)) → Within n a → Within n b
    → Within n (if test then a else b)
within_if true n a b first second = first
within_if false n a b first second = second

within_more : (n m : ℕ) (a : Option (List ℕ)) → n ≤ m → Within n a → Within m a
within_more n m None le h = tt
within_more n m (Some rest) le h = let short : length rest ≤ n = h in omega arith

line_within : (text : List ℕ) → length (after_line text) ≤ length text
line_within [] = omega arith
line_within (b ∷ text) = either (b == 10) (line_within text)
  where
    either : (test : Bool) → length (after_line text) ≤ length text
        → length (if test then text else after_line text) ≤ suc (length text)
    either true short = omega arith
    either false short = omega arith

slash_within : (text : List ℕ) → Within (length text) (after_slash text)
slash_within [] = tt
slash_within (b ∷ text) =
    within_if (b == 47) (suc (length text)) (Some text) (after_slash text) (omega arith)
    (within_more (length text) (suc (length text)) (after_slash text) (omega arith) (slash_within text))

star_within : (star : Bool) (text : List ℕ) → Within (length text) (after_star star text)
star_within star [] = tt
star_within star (b ∷ text) =
    within_if (star && (b == 47)) (suc (length text)) (Some text) (after_star (b == 42) text) (omega arith)
    (within_more (length text) (suc (length text)) (after_star (b == 42) text) (omega arith)
    (star_within (b == 42) text))

comment_within : (text : List ℕ) → Within (length text) (after_comment text)
comment_within [] = tt
comment_within (b ∷ text) =
    within_if (b == 47) (suc (length text)) (Some (after_line text)) _ (let short = line_within text in omega arith)
    (within_if (b == 42) (suc (length text)) (after_star false text) (after_slash text)
    (within_more (length text) (suc (length text)) (after_star false text) (omega arith) (star_within false text))
    (within_more (length text) (suc (length text)) (after_slash text) (omega arith) (slash_within text)))

space_within : (slashes : Bool) (b : ℕ) (text : List ℕ) → Within (length text) (after_space slashes (b ∷ text))
space_within slashes b text =
    within_if (is_whitespace b) (length text) (Some text) _ (omega arith)
    (within_if (b == 35) (length text) (Some (after_line text)) _ (line_within text)
    (within_if (slashes && (b == 47)) (length text) (after_comment text) None (comment_within text) tt))

-- the bound is of no account where the text is no longer
same_blank : (slashes : Bool) (n m : ℕ) (text : List ℕ) → length text ≤ n → length text ≤ m
    → after_spaces slashes n text ≡ after_spaces slashes m text
unfolding after_spaces
same_blank slashes zero zero text le more = refl
same_blank slashes zero (suc m) [] le more = refl
same_blank slashes zero (suc m) (b ∷ text) le more = absurd (omega arith)
same_blank slashes (suc n) zero [] le more = refl
same_blank slashes (suc n) zero (b ∷ text) le more = absurd (omega arith)
same_blank slashes (suc n) (suc m) [] le more = refl
same_blank slashes (suc n) (suc m) (b ∷ text) le more =
    either (after_space slashes (b ∷ text)) (space_within slashes b text)
    (λ rest short. same_blank slashes n m rest (omega arith) (omega arith))
  where
    either : (found : Option (List ℕ)) → Within (length text) found
        → ((rest : List ℕ) → length rest ≤ length text → after_spaces slashes n rest ≡ after_spaces slashes m rest)
        → or_here (after_spaces slashes n) (b ∷ text) found ≡ or_here (after_spaces slashes m) (b ∷ text) found
    either None short same = refl
    either (Some rest) short same = same rest short

pub skip_step : (text rest : List ℕ) → after_space true text ≡ Some rest → skip_blank text ≡ skip_blank rest
unfolding after_spaces
skip_step [] rest found = absurd cc
skip_step (b ∷ text) rest found =
    let short : length rest ≤ length text = subst (Within (length text)) found (space_within true b text) in
    ap (or_here (after_spaces true (length text)) (b ∷ text)) found
    ∙ same_blank true (length text) (length rest) rest short (omega arith)

-- ---- spaces and line ends

pub skip_space : (rest : List ℕ) → skip_blank (32 ∷ rest) ≡ skip_blank rest
skip_space rest = skip_step (32 ∷ rest) rest refl

pub skip_feed : (rest : List ℕ) → skip_blank (10 ∷ rest) ≡ skip_blank rest
skip_feed rest = skip_step (10 ∷ rest) rest refl

skip_spaces : (n : ℕ) (rest : List ℕ) → skip_blank (replicate n space ++ rest) ≡ skip_blank rest
skip_spaces zero rest = refl
skip_spaces (suc n) rest = skip_space (replicate n space ++ rest) ∙ skip_spaces n rest

pub skip_line : (indent : ℕ) (rest : List ℕ) → skip_blank (line indent ++ rest) ≡ skip_blank rest
skip_line indent rest = skip_feed (replicate indent space ++ rest) ∙ skip_spaces indent rest

-- ---- notes

no_slash : (b : ℕ) → ends_note b ≡ false → (b == 47) ≡ false
no_slash b h = grind (arith, nat_tests, h)

slash_found : (note rest : List ℕ) → IsNote note → after_slash (note ++ (47 ∷ rest)) ≡ Some rest
slash_found [] rest h = refl
slash_found (b ∷ note) rest h =
    let parts = or_parts (ends_note b) (list_any ends_note note) h in
    ap (λ t. if t then Some (note ++ (47 ∷ rest)) else after_slash (note ++ (47 ∷ rest))) (no_slash b parts.0)
    ∙ slash_found note rest parts.1

note_found : (note rest : List ℕ) → IsNote note → begins_note note ≡ true
    → after_comment (note ++ (47 ∷ rest)) ≡ Some rest
note_found [] rest h begins = absurd cc
note_found (b ∷ note) rest h begins =
    let parts = or_parts (ends_note b) (list_any ends_note note) h in
    let slash = no_slash b parts.0 in
    let star : (b == 42) ≡ false = opposite (b == 42) begins in
    ap (λ t. if t then Some (after_line (note ++ (47 ∷ rest)))
    else if b == 42 then after_star false (note ++ (47 ∷ rest)) else after_slash (note ++ (47 ∷ rest))) slash
    ∙ ap (λ t. if t then after_star false (note ++ (47 ∷ rest)) else after_slash (note ++ (47 ∷ rest))) star
    ∙ slash_found note rest parts.1
  where
    opposite : (test : Bool) → not test ≡ true → test ≡ false
    opposite true h = absurd cc
    opposite false h = refl

-- a note between slashes, as it stands before a rest
between_slashes : (note rest : List ℕ)
    → (codes " /" ++ (note ++ codes "/")) ++ rest ≡ 32 ∷ (47 ∷ (note ++ (47 ∷ rest)))
between_slashes note rest = ap (λ t. 32 ∷ (47 ∷ t)) (append_assoc note (codes "/") rest)

pub skip_note : (note rest : List ℕ) → AnyNote note → skip_blank (note ++ rest) ≡ skip_blank rest
skip_note note rest (inl none) = ap (λ t. skip_blank (t ++ rest)) none
skip_note note rest (inr some) =
    ap (λ t. skip_blank (t ++ rest)) some.2
    ∙ ap skip_blank (between_slashes some.0 rest)
    ∙ skip_space (47 ∷ (some.0 ++ (47 ∷ rest)))
    ∙ skip_step (47 ∷ (some.0 ++ (47 ∷ rest))) rest (note_found some.0 rest some.1 some.3)

-- ---- what follows an item

-- a piece is joined, or the text goes on as it stands
abbrev pub joined_if : Bool → List ℕ → List ℕ → Bool × List ℕ
joined_if test rest text = if test then (true, skip_blank rest) else (false, text)

-- whether a piece is joined is seen after the blanks
joins_alike : (a b text : List ℕ) → (joins a text).0 ≡ (joins b text).0
joins_alike a b [] = refl
joins_alike a b (c ∷ rest) = either ((c == 43) && not (is_sign_of rest))
  where
    either : (test : Bool) → (joined_if test rest a).0 ≡ (joined_if test rest b).0
    either true = refl
    either false = refl

pub note_follows : (note rest : List ℕ) → AnyNote note → Follows rest → Follows (note ++ rest)
note_follows note rest any h = record {
  ended = first any;
  alone = ap (λ t. (joins (note ++ rest) t).0) (skip_note note rest any)
      ∙ joins_alike (note ++ rest) rest (skip_blank rest) ∙ h.alone;
}
  where
    first : AnyNote note → is_ended (note ++ rest) ≡ true
    first (inl none) = subst (λ t. is_ended (t ++ rest) ≡ true) (sym none) h.ended
    first (inr some) = subst (λ t. is_ended (t ++ rest) ≡ true) (sym some.2) refl

-- a comma, a colon or what closes a list
pub stop_follows : (b : ℕ) (rest : List ℕ) → ends_item b ≡ true → after_space true (b ∷ rest) ≡ None → (b == 43) ≡ false
    → Follows (b ∷ rest)
stop_follows b rest ends still sign = record {
  ended = ends;
  alone = ap (λ t. (joins (b ∷ rest) t).0) (skip_none (b ∷ rest) still)
      ∙ ap (λ t. (joined_if (t && not (is_sign_of rest)) rest (b ∷ rest)).0) sign;
}

-- nothing is left
pub end_follows : Follows []
unfolding after_spaces
end_follows = record { ended = refl; alone = refl }

-- ---- an item's first byte

-- an item begins with none of the other bytes
pub begun_not : (b k : ℕ) → begins_item b ≡ true → begins_item k ≡ false → (b == k) ≡ false
begun_not b k begins not_k = either (b == k) refl
  where
    either : (test : Bool) → (b == k) ≡ test → test ≡ false
    either false e = refl
    either true e =
        let same : b ≡ k = grind (arith, nat_tests, e) in
        absurd (let wrong = sym begins ∙ ap begins_item same ∙ not_k in cc)

begun_still : (b : ℕ) (text : List ℕ) → begins_item b ≡ true → after_space true (b ∷ text) ≡ None
begun_still b text h =
    let s = begun_not b 32 h refl in
    let t = begun_not b 9 h refl in
    let f = begun_not b 10 h refl in
    let r = begun_not b 13 h refl in
    let c = begun_not b 35 h refl in
    let d = begun_not b 47 h refl in
    rw (s, t, f, r, c, d) refl

pub skip_begun : (m rest : List ℕ) → IsBegun m → skip_blank (m ++ rest) ≡ m ++ rest
skip_begun [] rest h = absurd h
skip_begun (b ∷ m) rest h = skip_none (b ∷ (m ++ rest)) (begun_still b (m ++ rest) h)

pub begun_append : (a b : List ℕ) → IsBegun a → IsBegun (a ++ b)
begun_append [] b h = absurd h
begun_append (c ∷ a) b h = h

-- ---- notes of an item's own

pub skip_notes : (notes rest : List ℕ) → AreNotes notes → skip_blank (notes ++ rest) ≡ skip_blank rest
skip_notes notes rest (a, b, first, second, is) =
    ap (λ t. skip_blank (t ++ rest)) is ∙ ap skip_blank (append_assoc a b rest)
    ∙ skip_note a (b ++ rest) first ∙ skip_note b rest second

pub notes_follow : (notes rest : List ℕ) → AreNotes notes → Follows rest → Follows (notes ++ rest)
notes_follow notes rest (a, b, first, second, is) h =
    subst Follows (sym (ap (λ t. t ++ rest) is ∙ append_assoc a b rest))
    (note_follows a (b ++ rest) first (note_follows b rest second h))

pub no_notes : AreNotes []
no_notes = ([], [], inl refl, inl refl, refl)

-- blanks are passed, and what is before the item is one
abbrev pub IsBefore : List ℕ → Type 0
IsBefore t = (t ≡ []) ⊎ (((rest : List ℕ) → skip_blank (t ++ rest) ≡ skip_blank rest) × IsStarted t)

comment_before_passed : (note : List ℕ) → IsBefore (comment_before note)
comment_before_passed note =
    by_note IsBefore note (codes "/" ++ (note ++ codes "/ ")) (inl refl)
    (λ is begins. inr ((λ rest. passed rest is begins), refl))
  where
    passed : (rest : List ℕ) → IsNote note → begins_note note ≡ true
        → skip_blank ((codes "/" ++ (note ++ codes "/ ")) ++ rest) ≡ skip_blank rest
    passed rest is begins =
        ap (λ t. skip_blank (47 ∷ t)) (append_assoc note (codes "/ ") rest)
        ∙ skip_step (47 ∷ (note ++ (47 ∷ (32 ∷ rest)))) (32 ∷ rest) (note_found note (32 ∷ rest) is begins)
        ∙ skip_space rest

before_passed : (p : EdnPlace) → IsBefore (note_before p)
before_passed p = either p.style.notes
  where
    of : (found : Option (Bor Note)) → IsBefore (text_before found)
    of None = inl refl
    of (Some n) = comment_before_passed n.now.before.now

    either : (test : Bool) → IsBefore (if test then text_before p.found else [])
    either false = inl refl
    either true = of p.found

pub after_note : (p : EdnPlace) → AnyNote (note_after p)
after_note p = either p.style.notes
  where
    of : (found : Option (Bor Note)) → AnyNote (text_after found)
    of None = inl refl
    of (Some n) = comment_after_note n.now.after.now

    either : (test : Bool) → AnyNote (if test then text_after p.found else [])
    either false = inl refl
    either true = of p.found

pub begun_started : (m : List ℕ) → IsBegun m → IsStarted m
begun_started [] h = absurd h
begun_started (b ∷ m) h = ap (λ t. t || (b == 47)) h

pub started_append : (a b : List ℕ) → IsStarted a → IsStarted (a ++ b)
started_append [] b h = absurd h
started_append (c ∷ a) b h = h

module _ (left : ℕ) (i : Item) (before m after t : List ℕ) (r : ReadsAs left i m) (is : t ≡ before ++ (m ++ after))
  where
    -- the text of an item and a note after it, as it stands before a rest
    noted_parts : (rest : List ℕ) → t ++ rest ≡ before ++ (r.core ++ ((r.note ++ after) ++ rest))
    noted_parts rest =
        ap (λ x. x ++ rest) is ∙ append_assoc before (m ++ after) rest
        ∙ ap (λ x. before ++ x) (append_assoc m after rest ∙ ap (λ x. x ++ (after ++ rest)) r.parts
        ∙ append_assoc r.core r.note (after ++ rest) ∙ ap (λ x. r.core ++ x) (sym (append_assoc r.note after rest)))

    skip_before : (rest : List ℕ) → IsBefore before → skip_blank (t ++ rest) ≡ r.core ++ ((r.note ++ after) ++ rest)
    skip_before rest h =
        ap skip_blank (noted_parts rest) ∙ passed h ∙ skip_begun r.core ((r.note ++ after) ++ rest) r.begun
      where
        passed : IsBefore before → skip_blank (before ++ (r.core ++ ((r.note ++ after) ++ rest)))
            ≡ skip_blank (r.core ++ ((r.note ++ after) ++ rest))
        passed (inl none) = ap (λ b. skip_blank (b ++ (r.core ++ ((r.note ++ after) ++ rest)))) none
        passed (inr some) = some.0 (r.core ++ ((r.note ++ after) ++ rest))

    noted_started : IsBefore before → IsStarted t
    noted_started (inl none) =
        subst IsStarted (sym (is ∙ ap (λ b. b ++ (m ++ after)) none ∙ ap (λ x. x ++ after) r.parts
        ∙ append_assoc r.core r.note after))
        (started_append r.core (r.note ++ after) (begun_started r.core r.begun))
    noted_started (inr some) = subst IsStarted (sym is) (started_append before (m ++ after) some.1)

    reads_noted : IsBefore before → AnyNote after → ReadsNoted left i t
    reads_noted h note = record {
      item = r.item;
      before = before;
      core = r.core;
      notes = r.note ++ after;
      parts = is ∙ ap (λ x. before ++ x) (ap (λ x. x ++ after) r.parts ∙ append_assoc r.core r.note after);
      are_notes = (r.note, after, r.is_note, note, refl);
      started = noted_started h;
      skips = λ rest. skip_before rest h;
      begun = r.begun;
      read = r.read;
      same = r.same;
    }

-- a text between the notes of the place is read as without them
pub beside_reads : (left : ℕ) (p : EdnPlace) (i : Item) (texts : List ℕ → Type 0) (t : List ℕ)
    → ((core : List ℕ) → texts core → ReadsAs left i core) → Beside p texts t → ReadsNoted left i t
beside_reads left p i texts t reads (inl is_core) =
    reads_noted left i [] t [] t (reads t is_core) (sym (append-nil t)) (inl refl) (inl refl)
beside_reads left p i texts t reads (inr (core, is_core, is)) =
    reads_noted left i (note_before p) core (note_after p) t (reads core is_core) is (before_passed p) (after_note p)

pub after_reads : (left : ℕ) (p : EdnPlace) (i : Item) (texts : List ℕ → Type 0) (t : List ℕ)
    → ((core : List ℕ) → texts core → ReadsAs left i core) → After p texts t → ReadsNoted left i t
after_reads left p i texts t reads (inl is_core) =
    reads_noted left i [] t [] t (reads t is_core) (sym (append-nil t)) (inl refl) (inl refl)
after_reads left p i texts t reads (inr (core, is_core, is)) =
    reads_noted left i (note_before p) core [] t (reads core is_core)
    (is ∙ ap (λ x. note_before p ++ x) (sym (append-nil core))) (before_passed p) (inl refl)
