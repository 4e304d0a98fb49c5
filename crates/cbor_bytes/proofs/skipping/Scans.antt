-- For `skip/due.rt`: if the bytes end within the content of a string, skipping waits for the rest of the content
-- (`Due::Content`) and holds back at most 8 bytes. In a text that is already not UTF-8, skipping waits for the end of
-- the content (`Due::BadText`), where the fault shows. A head that is cut has at most 8 bytes.
use Rattle.std.proofs.Common.{◌≡◌, ℕ, zero, suc, ◌+◌, ◌-◌, ◌^◌, ◌<◌, ◌≤◌, Bool, true, false, if◌then◌else◌, ◌%◌}
use Rattle.std.proofs.Common.{List, [], ◌∷◌, ◌++◌, length, get_or, take, drop, Ok, Err, ◌⊎◌, inl, inr, refl}
use Rattle.std.proofs.Common.{sym, ap, subst, ◌∙◌, arith, ltb}
use Rattle.std.specs.Prelude.{IsUtf8}
use Rattle.std.specs.Str.{is_utf8, IsValidUpTo}
use Rattle.std.specs.Char.{len_utf8}
use lib.Utf8.{encode, encodes}
use Rattle.std.proofs.Math.Seq.{drop-append-add}
use Rattle.std.proofs.lemmas.Bool.{cases_Bool, cases_lt, lt-ltb, le-ltb}
use Rattle.std.proofs.lemmas.List.{append-nil, length-append, length-drop, length-take, take-append-drop, take_at}
use Rattle.std.proofs.lemmas.List.{drop_at}
use Rattle.std.proofs.lemmas.List.{take-append-le, drop_more, drop_all}
use Rattle.std.proofs.lemmas.Str.{IsUtf8-append, IsUtf8-drop, IsUtf8-take, IsUtf8-from_is_utf8, is_utf8-from_IsUtf8}
use Rattle.std.proofs.lemmas.Str.{IsCharBoundary-from_take, IsCharBoundary-past_char, len_utf8_bounds}
use Rattle.cbor_bytes.specs.declared.skip.due.Due.{Due}
use Rattle.cbor_grammar.specs.declared.width.IntegerWidth.{IntegerWidth}
use Rattle.cbor_grammar.specs.declared.width.IntegerWidth.TheVariants.{Zero}
use Rattle.cbor_grammar.specs.declared.strings.StringKind.{StringKind}
use Rattle.cbor_grammar.specs.declared.strings.StringKind.TheVariants.{Bytes, Text}
use Rattle.cbor_grammar.specs.StringKind.{IsContent}
use Rattle.cbor_grammar.specs.declared.error.Error.TheVariants as refusal
use Rattle.cbor_bytes.specs.declared.skip.Stop.TheVariants as stops
use Rattle.cbor_bytes.specs.declared.skip.due.Due.TheVariants as due
use Rattle.cbor_bytes.specs.declared.skip.due.Pause.{Pause}
use Rattle.cbor_bytes.specs.declared.skip.due.Pause.TheVariants as pause
use Rattle.cbor_grammar.specs.Reading.{Read, ◌>>=◌, read_head, read_argument, length_of, read_chunk_length}
use Rattle.cbor_grammar.specs.declared.argument.Argument.{Argument}
use Rattle.cbor_grammar.specs.declared.argument.Argument.TheVariants.{Number, Indefinite}
use Rattle.cbor_grammar.specs.mirror.Counting.{read_item_head}
use Rattle.cbor_bytes.specs.mirror.Skipping.{Skip, rest_of, Goes, FailsAt, skip_content, skip_chunks, stop_of}
use Rattle.cbor_bytes.specs.mirror.Scanning.{WholeChars, then_chunks, skip_bad, skip_due, Waits, Pauses}
use Rattle.cbor_grammar.proofs.bytes.Heads.{IsBytes}
use Rattle.cbor_grammar.proofs.bytes.StringRefusals.{bad_content, content_refuses}
use Rattle.cbor_grammar.proofs.bytes.HeadRefusals.{InfoRefusal, cut_info, bad_info, info_refused}
use Rattle.cbor_grammar.proofs.bytes.HeadRefusals.{HeadRefusal, no_head, short_head, bad_head, head_refused}
use Rattle.cbor_grammar.specs.Refused.{CutHead, cut_head}
use Rattle.cbor_bytes.proofs.skipping.Skips.{goes_at, goes_then, shows_then, content_cut, content_goes, stops_within}
use Rattle.cbor_bytes.proofs.skipping.Skips.{more_keeps, length_ways}

-- ---- contents

content_ok : (kind : StringKind) (n : ℕ) (w : IntegerWidth) (b : List ℕ) → n ≤ length b → IsContent kind (take n b)
    → skip_content kind n w b ≡ Ok (drop n b)
content_ok kind n w b long holds = goes_at (content_goes kind n w b long holds)

content_no_text : (n : ℕ) (w : IntegerWidth) (b : List ℕ) → n ≤ length b → ¬ (IsUtf8 (take n b))
    → skip_content Text n w b ≡ Err refusal.Utf8
content_no_text n w b long bad = ap rest_of (content_refuses Text n w b refusal.Utf8
    (bad_content (take n b) (drop n b) (sym (take-append-drop n b)) (omega (arith, length-take n b)) bad))

text_ways : (x : List ℕ) → IsUtf8 x ⊎ ¬ (IsUtf8 x)
text_ways x =
    elim (cases_Bool (is_utf8 x)) [
      | inl t ↦ inl (IsUtf8-from_is_utf8 x t)
      | inr f ↦ inr (λ u. let t = is_utf8-from_IsUtf8 x u in cc)
    ]

-- the width of a length makes no difference
pub content_width : (kind : StringKind) (n : ℕ) (w v : IntegerWidth) (b : List ℕ)
    → skip_content kind n w b ≡ skip_content kind n v b
content_width kind n w v b =
    elim (cases_lt (length b) n) [
      | inl short ↦ content_cut kind n w b short ∙ sym (content_cut kind n v b short)
      | inr long ↦ same kind long
    ]
  where
    same : (kind : StringKind) → n ≤ length b → skip_content kind n w b ≡ skip_content kind n v b
    same Bytes long = content_ok Bytes n w b long tt ∙ sym (content_ok Bytes n v b long tt)
    same Text long =
        elim (text_ways (take n b)) [
          | inl text ↦ content_ok Text n w b long text ∙ sym (content_ok Text n v b long text)
          | inr bad ↦ content_no_text n w b long bad ∙ sym (content_no_text n v b long bad)
        ]

-- a content that is cut is longer than the bytes
pub content_longer : (kind : StringKind) (n : ℕ) (w : IntegerWidth) (b : List ℕ)
    → skip_content kind n w b ≡ Err refusal.CutShort → length b < n
content_longer kind n w b e =
    elim (cases_lt (length b) n) [
      | inl short ↦ short
      | inr long ↦ absurd (no kind long e)
    ]
  where
    no : (kind : StringKind) → n ≤ length b → skip_content kind n w b ≡ Err refusal.CutShort → ⊥
    no Bytes long e = let ok = content_ok Bytes n w b long tt in cc
    no Text long e =
        elim (text_ways (take n b)) [
          | inl text ↦ let ok = content_ok Text n w b long text in cc
          | inr bad ↦ let wrong = content_no_text n w b long bad in cc
        ]

-- ---- after some of the bytes

drop_over : (x c : List ℕ) (n : ℕ) → length x ≤ n → drop n (x ++ c) ≡ drop (n - length x) c
drop_over x c n le =
    let sum : length x + (n - length x) ≡ n = omega arith in
    ap (λ (k : ℕ). drop k (x ++ c)) (sym sum) ∙ drop-append-add x c (n - length x)

take_over : (x c : List ℕ) (n k : ℕ) → length x + k ≡ n → take n (x ++ c) ≡ x ++ take k c
take_over [] c n k is = ap (λ (m : ℕ). take m c) (let e : n ≡ k = omega arith in e)
take_over (b ∷ x) c zero k is = absurd (omega arith)
take_over (b ∷ x) c (suc n) k is = ap (λ (z : List ℕ). b ∷ z) (take_over x c n k (omega arith))

pub utf8_behind : (x y : List ℕ) → IsUtf8 x → IsUtf8 (x ++ y) → IsUtf8 y
utf8_behind x y front whole =
    let at = IsCharBoundary-from_take (x ++ y) (length x) whole (omega (arith, length-append x y))
    (subst IsUtf8 (sym (take_at x y (length x) refl)) front) in
    subst IsUtf8 (drop_at x y (length x) refl) (IsUtf8-drop (x ++ y) (length x) whole at)

module _ (n : ℕ) (w : IntegerWidth) (x c : List ℕ) (le : length x ≤ n) where
  taken : take n (x ++ c) ≡ x ++ take (n - length x) c
  taken = take_over x c n (n - length x) (omega arith)

  dropped : drop n (x ++ c) ≡ drop (n - length x) c
  dropped = drop_over x c n le

  bytes_over : skip_content Bytes n w (x ++ c) ≡ skip_content Bytes (n - length x) w c
  bytes_over =
      elim (cases_lt (length c) (n - length x)) [
        | inl short ↦ content_cut Bytes n w (x ++ c) (omega (arith, length-append x c))
            ∙ sym (content_cut Bytes (n - length x) w c short)
        | inr long ↦ content_ok Bytes n w (x ++ c) (omega (arith, length-append x c)) tt
            ∙ ap (λ (z : List ℕ). Ok z) dropped ∙ sym (content_ok Bytes (n - length x) w c long tt)
      ]

  text_over : IsUtf8 x → skip_content Text n w (x ++ c) ≡ skip_content Text (n - length x) w c
  text_over front =
      elim (cases_lt (length c) (n - length x)) [
        | inl short ↦ content_cut Text n w (x ++ c) (omega (arith, length-append x c))
            ∙ sym (content_cut Text (n - length x) w c short)
        | inr long ↦ elim (text_ways (take (n - length x) c)) [
          | inl text ↦ content_ok Text n w (x ++ c) (omega (arith, length-append x c))
              (subst IsUtf8 (sym taken) (IsUtf8-append x (take (n - length x) c) front text))
              ∙ ap (λ (z : List ℕ). Ok z) dropped ∙ sym (content_ok Text (n - length x) w c long text)
          | inr bad ↦
              content_no_text n w (x ++ c) (omega (arith, length-append x c))
              (λ u. bad (utf8_behind x (take (n - length x) c) front (subst IsUtf8 taken u)))
              ∙ sym (content_no_text (n - length x) w c long bad)
        ]
      ]

  -- after a front that no text begins with
  bad_over : ((y : List ℕ) → ¬ (IsUtf8 (x ++ y))) → (more : ℕ) → length x + suc more ≡ n
      → skip_content Text n w (x ++ c) ≡ skip_bad more c
  bad_over bad more is =
      elim (cases_lt more (length c)) [
        | inl long ↦ content_no_text n w (x ++ c) (omega (arith, length-append x c))
            (λ u. bad (take (n - length x) c) (subst IsUtf8 taken u)) ∙ sym (rw (lt-ltb more (length c) long) refl)
        | inr short ↦ content_cut Text n w (x ++ c) (omega (arith, length-append x c))
            ∙ sym (rw (le-ltb more (length c) short) refl)
      ]

content_over : (kind : StringKind) (n : ℕ) (w : IntegerWidth) (x c : List ℕ) → length x ≤ n → IsContent kind x
    → skip_content kind n w (x ++ c) ≡ skip_content kind (n - length x) w c
content_over Bytes n w x c le holds = bytes_over n w x c le
content_over Text n w x c le holds = text_over n w x c le holds

-- the first character of a text
first_char : (z : List ℕ) → 1 ≤ length z → IsUtf8 z
    → (c : ℕ) × (rest : List ℕ) × (z ≡ encode c ++ rest)
first_char z some ([], u) = absurd (omega (arith, ap length u.1))
first_char z some (c ∷ cs, u) = (c, encodes cs, sym u.1)

-- Where four bytes follow the longest front that is UTF-8, no text begins so.
no_text_begins : (x : List ℕ) (n : ℕ) → WholeChars x n → n + 4 ≤ length x → (y : List ℕ) → ¬ (IsUtf8 (x ++ y))
no_text_begins x n whole four y u =
    let z : List ℕ = drop n (x ++ y) in
    let front : IsUtf8 (take n (x ++ y)) = subst IsUtf8 (sym (take-append-le n x y whole.within)) whole.front in
    let at = IsCharBoundary-from_take (x ++ y) n u (omega (arith, length-append x y)) front in
    let behind : IsUtf8 z = IsUtf8-drop (x ++ y) n u at in
    let first = first_char z (omega (arith, length-drop n (x ++ y), length-append x y)) behind in
    let next = IsCharBoundary-past_char (x ++ y) first.1 n first.0 (omega (arith, length-append x y)) behind first.2 in
    let bounds = len_utf8_bounds first.0 in
    let more : IsUtf8 (take (n + len_utf8 first.0) (x ++ y)) = IsUtf8-take (x ++ y) (n + len_utf8 first.0) u next in
    whole.longest (n + len_utf8 first.0) (omega (arith, bounds)) (omega (arith, bounds))
    (subst IsUtf8 (take-append-le (n + len_utf8 first.0) x y (omega (arith, bounds))) more)

-- ---- what is due

then_cut : (chunked : Bool) (kind : StringKind) → then_chunks chunked kind (Err refusal.CutShort) ≡ Err refusal.CutShort
then_cut true kind = refl
then_cut false kind = refl

then_bad : (chunked : Bool) (kind : StringKind) (more : ℕ) (b : List ℕ)
    → then_chunks chunked kind (skip_bad more b) ≡ skip_bad more b
then_bad false kind more b = refl
then_bad true kind more b = go (ltb more (length b))
  where
    go : (t : Bool) → ((if t then Err refusal.Utf8 else Err refusal.CutShort) >>= skip_chunks kind)
        ≡ (if t then Err refusal.Utf8 else Err refusal.CutShort)
    go true = refl
    go false = refl

-- the rest of a content
pub content_waits : (kind : StringKind) (left n : ℕ) (chunked : Bool) (b : List ℕ) → n ≤ length b
    → IsContent kind (take n b) → length b < left → length b ≤ n + 8
    → Waits (λ c. then_chunks chunked kind (skip_content kind left Zero c))
    (skip_due (due.Content kind (left - n) chunked)) b (drop n b)
content_waits kind left n chunked b within holds short few =
    let k = kind in
    let count : length (take n b) ≡ n = omega (arith, length-take n b) in
    record {
      goes = record {
        over = take n b;
        parts = sym (take-append-drop n b);
        along = λ c. ap (then_chunks chunked k) (content_over k left Zero (take n b) c (omega arith) holds
            ∙ ap (λ (m : ℕ). skip_content k (left - m) Zero c) count);
      };
      cut = ap (then_chunks chunked k) (content_cut k (left - n) Zero (drop n b) (omega (arith, length-drop n b)))
          ∙ then_cut chunked k;
      few = omega (arith, length-drop n b);
    }

pub bad_waits : (left n more : ℕ) (chunked : Bool) (b : List ℕ) → WholeChars b n → n + 4 ≤ length b
    → length b + suc more ≡ left
    → Waits (λ c. then_chunks chunked Text (skip_content Text left Zero c)) (skip_due (due.BadText more)) b []
bad_waits left n more chunked b whole four is = record {
  goes = record {
    over = b;
    parts = sym (append-nil b);
    along = λ c. ap (then_chunks chunked Text) (bad_over left Zero b c (omega arith)
        (no_text_begins b n whole four) more is) ∙ then_bad chunked Text more c;
  };
  cut = rw (le-ltb more 0 (omega arith)) refl;
  few = omega arith;
}

pub bad_text_waits : (more : ℕ) (b : List ℕ) → length b ≤ more
    → Waits (skip_bad more) (skip_due (due.BadText (more - length b))) b []
bad_text_waits more b le = record {
  goes = record {
    over = b;
    parts = sym (append-nil b);
    along = λ c.
        elim (cases_lt more (length (b ++ c))) [
          | inl long ↦
              let also : more - length b < length c = omega (arith, length-append b c) in
              rw (lt-ltb more (length (b ++ c)) long, lt-ltb (more - length b) (length c) also) refl
          | inr short ↦
              let also : length c ≤ more - length b = omega (arith, length-append b c) in
              rw (le-ltb more (length (b ++ c)) short, le-ltb (more - length b) (length c) also) refl
        ];
  };
  cut = rw (le-ltb (more - length b) 0 (omega arith)) refl;
  few = omega arith;
}

pub bad_text_shows : (more : ℕ) (b : List ℕ) → more < length b
    → FailsAt (skip_bad more) b refusal.Utf8 (length b - more - 1)
bad_text_shows more b lt =
    let count : length (take more b) ≡ more = omega (arith, length-take more b) in
    record {
      before = take more b;
      last = get_or b more 0;
      behind = drop (more + 1) b;
      parts = sym (take-append-drop more b) ∙ ap (λ (z : List ℕ). take more b ++ z) (drop_more b more 0 lt);
      count = length-drop (more + 1) b ∙ omega arith;
      cut = rw (le-ltb more (length (take more b)) (omega arith)) refl;
      fails = rw (lt-ltb more (length (take more b ++ get_or b more 0 ∷ []))
          (omega (arith, length-append (take more b) (get_or b more 0 ∷ [])))) refl;
      other = λ e. absurd cc;
    }

-- ---- steps

-- another way to say where it goes on
pub goes_to : {f g h : List ℕ → Skip} {b r : List ℕ} → Goes f g b r → ((c : List ℕ) → g c ≡ h c) → Goes f h b r
goes_to x same = record { over = x.over; parts = x.parts; along = λ c. x.along c ∙ same c }

pub waits_then : {f g h : List ℕ → Skip} {b r s : List ℕ} → Goes f g b r → Waits g h r s → Waits f h b s
waits_then x y = record { goes = goes_then x y.goes; cut = y.cut; few = y.few }

pub pauses_then : (to : Due → List ℕ → Skip) (f g : List ℕ → Skip) (b r : List ℕ) (p : Pause) → Goes f g b r
    → Pauses to g r p → Pauses to f b p
pauses_then to f g b r (pause.Cut d rest) x y = waits_then x y
pauses_then to f g b r (pause.Fault e after) x y = shows_then x y

-- ---- few bytes

cut_few : {b : List ℕ} → CutHead b → length b ≤ 8
cut_few (cut_head {first = first} {rest = rest} k small is short) = at k small short
  where
    at : (k : ℕ) → k ≤ 3 → length rest < 2 ^ k → length (first ∷ rest) ≤ 8
    at zero small short = omega arith
    at (suc zero) small short = omega arith
    at (suc (suc zero)) small short = omega arith
    at (suc (suc (suc zero))) small short = omega arith
    at (suc (suc (suc (suc k)))) small short = absurd (omega arith)

refused_few : {b : List ℕ} {e : refusal.the_data} → HeadRefusal b e → e ≡ refusal.CutShort → length b ≤ 8
refused_few no_head is = omega arith
refused_few (short_head h) is = cut_few h
refused_few (bad_head h) is = absurd cc

pub head_few : (b : List ℕ) → IsBytes b → read_head b ≡ Err refusal.CutShort → length b ≤ 8
head_few b fits e = refused_few (head_refused b refusal.CutShort fits e) refl

pub item_head_few : (left : ℕ) (b : List ℕ) → IsBytes b → read_item_head left b ≡ Err refusal.CutShort → length b ≤ 8
item_head_few zero [] fits e = omega arith
item_head_few zero (first ∷ b) fits e = absurd cc
item_head_few (suc left) b fits e = head_few b fits e

info_few : {bits : ℕ} {b : List ℕ} {e : refusal.the_data} → InfoRefusal bits b e → e ≡ refusal.CutShort
    → length b < 8
info_few (cut_info {b = b} k small is short) e = at k small short
  where
    at : (k : ℕ) → k ≤ 3 → length b < 2 ^ k → length b < 8
    at zero small short = omega arith
    at (suc zero) small short = omega arith
    at (suc (suc zero)) small short = omega arith
    at (suc (suc (suc zero))) small short = omega arith
    at (suc (suc (suc (suc k)))) small short = absurd (omega arith)
info_few (bad_info least most) e = absurd cc

pub length_few : (major : ℕ) (b : List ℕ) → read_chunk_length major b ≡ Err refusal.CutShort → length b ≤ 8
length_few major [] e = omega arith
length_few major (first ∷ b) e =
    elim (length_ways major first) [
      | inl way ↦ absurd (let wrong = sym (way b) ∙ e in cc)
      | inr ways ↦ elim ways [
        | inl way ↦ of_argument (read_argument (first % 32) b) refl (sym (way b) ∙ e)
        | inr way ↦ absurd (let wrong = sym (way b) ∙ e in cc)
      ]
    ]
  where
    of_argument : (r : Read Argument) → read_argument (first % 32) b ≡ r
        → (r >>= λ a. length_of a.0 a.1) ≡ Err refusal.CutShort → length (first ∷ b) ≤ 8
    of_argument (Ok (Number n w, c)) is h = absurd cc
    of_argument (Ok (Indefinite, c)) is h = absurd cc
    of_argument (Err d) is h =
        let same : d ≡ refusal.CutShort = cc in
        let short = info_few (info_refused (first % 32) b d (omega arith) is) same in
        omega (arith, short)

-- a stop that is a cut
pub stop_few : (e : refusal.the_data) (after : ℕ) → stop_of e after ≡ stops.Cut → e ≡ refusal.CutShort
stop_few refusal.CutShort after is = refl
stop_few e after is = absurd cc

pub whole_chars_are : (b : List ℕ) (n : ℕ) → IsValidUpTo b n → WholeChars b n
whole_chars_are b n v = record {
  within = omega (arith, v.short);
  front = v.front;
  longest = λ m lt le. v.longest m lt;
}

pub bytes_wait : (kind : StringKind) (left : ℕ) (chunked : Bool) (b : List ℕ) → kind ≡ Bytes → length b < left
    → Waits (λ c. then_chunks chunked kind (skip_content kind left Zero c))
    (skip_due (due.Content kind (left - length b) chunked)) b []
bytes_wait Bytes left chunked b is short =
    let none : drop (length b) b ≡ [] = drop_all (length b) b (omega arith) in
    subst (λ (r : List ℕ). Waits (λ c. then_chunks chunked Bytes (skip_content Bytes left Zero c))
    (skip_due (due.Content Bytes (left - length b) chunked)) b r) none
    (content_waits Bytes left (length b) chunked b (omega arith) tt short (omega arith))
bytes_wait Text left chunked b is short = absurd cc

pub chunked_shows : (chunked : Bool) (kind : StringKind) (left : ℕ) (b : List ℕ) (e : refusal.the_data) (after : ℕ)
    → FailsAt (skip_content kind left Zero) b e after
    → FailsAt (λ c. then_chunks chunked kind (skip_content kind left Zero c)) b e after
chunked_shows false kind left b e after s = s
chunked_shows true kind left b e after s = stops_within (skip_content kind left Zero) b (stops.Fault e after)
    (λ r. r >>= skip_chunks kind) (more_keeps kind) s
