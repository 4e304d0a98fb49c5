-- For `src/hex_text/place.rt` of `cbor_bytes`: a walk over hex with comments finds the bytes that `uncommented` keeps,
-- in order and each at its place (`Keeps`, `Walked`, `IsKeptAt`). If the number of kept bytes is even, the fault of the
-- text (`IsHexFault`) is at the first that is no digit; if it is odd and all of them are digits, the fault is at the
-- last.
use Rattle.std.proofs.Common.{◌≡◌, ◌≢◌, ℕ, zero, suc, ◌+◌, ◌-◌, ◌%◌, ◌<◌, ◌≤◌, inl, inr, List, [], ◌∷◌, ◌++◌, length}
use Rattle.std.proofs.Common.{take, drop, get_or, Bool, true, false, refl, sym, ap, subst, ◌∙◌, ◌==◌, ◌||◌, not, arith}
use Rattle.std.proofs.Common.{append_assoc, cond}
use Rattle.std.specs.List.{AllPass, position_or_len, after_first}
use Rattle.std.specs.Char.{is_ascii_hexdigit}
use Rattle.std.proofs.lemmas.Bool.Decides.{nat_tests}
use Rattle.hex.specs.Hex.{is_hex_digit}
use Rattle.std.specs.Str.Lines.{strip_carriage_return}
use Rattle.std.proofs.lemmas.Bool.{ne_eqb, eq-eqb, eqb-true, cases_lt, or_cases, or_left, or_right}
use Rattle.std.proofs.lemmas.List.{length-append, append-nil, drop_all, length-take-le, take-append-drop, take_all}
use Rattle.std.proofs.lemmas.List.{length-drop, drop_more, take_at}
use Rattle.std.proofs.lemmas.List.Elements.{filter-append}
use Rattle.std.proofs.lemmas.List.Sums.{fails_before_first, passes_at_first, position_or_len_is}
use Rattle.cbor_tokens.specs.Uncommented.{unspaced, uncommented}
use Rattle.cbor_grammar.specs.declared.error.Error.TheVariants as refusal
use Rattle.cbor_grammar.specs.HexText.{IsKeptAt, IsKeptByte, IsHexFault}
use Rattle.cbor_grammar.specs.mirror.HexPlaces.{Replaces, Keeps}
use Rattle.cbor_grammar.proofs.hex.Lines.{cut_whole, cut_feed, cut_comment}

-- ---- the first byte of a text

-- neither a `#` nor a line feed
abbrev Plain : ℕ → Type 0
Plain b = (b ≢ 35) × (b ≢ 10)

abbrev ends_run : ℕ → Bool
ends_run b = b == 35 || b == 10

abbrev feed : ℕ → Bool
feed b = b == 10

plain_is : (b : ℕ) → ends_run b ≡ false → Plain b
plain_is b fails = (
  λ e. let yes = or_left (b == 35) (b == 10) (eq-eqb b 35 e) in absurd cc,
  λ e. let yes = or_right (b == 35) (b == 10) (eq-eqb b 10 e) in absurd cc,
)

-- with a byte before it
plain_more : (b : ℕ) (c : List ℕ) (n : ℕ) → Plain b → ((k : ℕ) → k < n → Plain (get_or c k 0)) → (k : ℕ) → k < suc n
    → Plain (get_or (b ∷ c) k 0)
plain_more b c n is more zero lt = is
plain_more b c n is more (suc k) lt = more k (omega arith)

first_unspaced : (b : ℕ) (c : List ℕ) → unspaced (b ∷ c) ≡ unspaced (b ∷ []) ++ unspaced c
first_unspaced b c = filter-append (λ (x : ℕ). not (x == 32)) (b ∷ []) c

cond_cons : (t : Bool) (b : ℕ) (x y : List ℕ) → cond t (b ∷ x) (b ∷ y) ≡ b ∷ cond t x y
cond_cons true b x y = refl
cond_cons false b x y = refl

-- a line with a byte before it, where that is no carriage return that ends the line
first_stripped : (b : ℕ) (line : List ℕ) → (b ≡ 13 → line ≢ [])
    → strip_carriage_return (b ∷ line) ≡ b ∷ strip_carriage_return line
first_stripped b [] other = rw (ne_eqb b 13 (λ is. other is refl)) refl
first_stripped b (x ∷ line) other =
    let last : length (b ∷ x ∷ line) - 1 ≡ suc (length (x ∷ line) - 1) = omega arith in
    rw last (cond_cons (get_or (x ∷ line) (length (x ∷ line) - 1) 0 == 13) b (take (length (x ∷ line) - 1) (x ∷ line))
    (x ∷ line))

at_comment : (b : ℕ) (c : List ℕ) (n : ℕ) → n < length c → ((k : ℕ) → k < n → Plain (get_or c k 0))
    → get_or c n 0 ≡ 35 → Plain b → uncommented (b ∷ c) ≡ unspaced (b ∷ []) ++ uncommented c
at_comment b c n lt before is plain =
    let behind : List ℕ = uncommented (after_first feed (drop n c)) in
    cut_comment (b ∷ c) (suc n) (omega arith) (plain_more b c n plain before) is
    ∙ ap (λ (z : List ℕ). z ++ behind) (first_unspaced b (take n c))
    ∙ append_assoc (unspaced (b ∷ [])) (unspaced (take n c)) behind
    ∙ ap (λ (z : List ℕ). unspaced (b ∷ []) ++ z) (sym (cut_comment c n lt before is))

at_feed : (b : ℕ) (c : List ℕ) (n : ℕ) → n < length c → ((k : ℕ) → k < n → Plain (get_or c k 0))
    → get_or c n 0 ≡ 10 → Plain b → (b ≡ 13 → get_or c 0 0 ≢ 10)
    → uncommented (b ∷ c) ≡ unspaced (b ∷ []) ++ uncommented c
at_feed b c n lt before is plain no_return =
    let behind : List ℕ = uncommented (drop (n + 1) c) in
    let next : suc n + 1 ≡ suc (n + 1) = omega arith in
    let no_end : b ≡ 13 → take n c ≢ [] = λ return nothing.
    let none : n ≡ 0 = omega (arith, length-take-le n c (omega arith), ap length nothing) in
    no_return return (subst (λ (k : ℕ). get_or c k 0 ≡ 10) none is) in
    cut_feed (b ∷ c) (suc n) (omega arith) (plain_more b c n plain before) is
    ∙ ap (λ (k : ℕ). unspaced (strip_carriage_return (b ∷ take n c)) ++ uncommented (drop k (b ∷ c))) next
    ∙ ap (λ (z : List ℕ). unspaced z ++ behind) (first_stripped b (take n c) no_end)
    ∙ ap (λ (z : List ℕ). z ++ behind) (first_unspaced b (strip_carriage_return (take n c)))
    ∙ append_assoc (unspaced (b ∷ [])) (unspaced (strip_carriage_return (take n c))) behind
    ∙ ap (λ (z : List ℕ). unspaced (b ∷ []) ++ z) (sym (cut_feed c n lt before is))

-- A byte that is no `#` and no line feed, and no carriage return before one.
first_byte : (b : ℕ) (c : List ℕ) → Plain b → (b ≡ 13 → get_or c 0 0 ≢ 10)
    → uncommented (b ∷ c) ≡ unspaced (b ∷ []) ++ uncommented c
first_byte b c plain no_return =
    let n = position_or_len ends_run c in
    let before : (k : ℕ) → k < n → Plain (get_or c k 0) = λ k lt.
    plain_is (get_or c k 0) (fails_before_first ends_run c k 0 lt) in
    elim (cases_lt n (length c)) [
      | inl inside ↦
          elim (or_cases (get_or c n 0 == 35) (get_or c n 0 == 10) (passes_at_first ends_run c 0 inside)) [
            | inl hash ↦ at_comment b c n inside before (eqb-true (get_or c n 0) 35 hash) plain
            | inr line ↦ at_feed b c n inside before (eqb-true (get_or c n 0) 10 line) plain no_return
          ]
      | inr all ↦
          let none : (k : ℕ) → k < length c → Plain (get_or c k 0) = λ k lt. before k (omega arith) in
          cut_whole (b ∷ c) (plain_more b c (length c) plain none) ∙ first_unspaced b c
          ∙ ap (λ (z : List ℕ). unspaced (b ∷ []) ++ z) (sym (cut_whole c none))
    ]

-- ---- steps

replaces_here : (rest : List ℕ) → Replaces rest rest
replaces_here rest = record { feed = λ e. e; none = λ e. e }

replaces_behind : (over c rest : List ℕ) → Replaces c rest → Replaces (over ++ c) (over ++ rest)
replaces_behind [] c rest h = h
replaces_behind (x ∷ over) c rest h = record { feed = λ e. e; none = λ e. absurd cc }

replaces_none : (rest : List ℕ) → Replaces [] rest
replaces_none rest = record { feed = λ e. absurd cc; none = λ e. refl }

pub keeps_here : (text : List ℕ) → Keeps text text []
keeps_here text = record { over = []; parts = refl; along = λ c h. refl }

pub keeps_then : (text mid rest xs ys : List ℕ) → Keeps text mid xs → Keeps mid rest ys → Keeps text rest (xs ++ ys)
keeps_then text mid rest xs ys a b = record {
  over = a.over ++ b.over;
  parts = a.parts ∙ ap (λ (z : List ℕ). a.over ++ z) b.parts ∙ sym (append_assoc a.over b.over rest);
  along = λ c h.
      let behind : Replaces (b.over ++ c) mid =
      subst (Replaces (b.over ++ c)) (sym b.parts) (replaces_behind b.over c rest h) in
      ap uncommented (append_assoc a.over b.over c) ∙ a.along (b.over ++ c) behind
      ∙ ap (λ (z : List ℕ). xs ++ z) (b.along c h) ∙ sym (append_assoc xs ys (uncommented c));
}

pub still_none : (text mid rest : List ℕ) → Keeps text mid [] → Keeps mid rest [] → Keeps text rest []
still_none text mid rest a b = keeps_then text mid rest [] [] a b

pub ruleset kept_steps = (keeps_here, still_none)

-- a space, a line feed and a carriage return before one
space_goes : (rest : List ℕ) → Keeps (32 ∷ rest) rest []
space_goes rest = record {
  over = 32 ∷ [];
  parts = refl;
  along = λ c h. first_byte 32 c ((λ e. absurd cc), (λ e. absurd cc)) (λ e. absurd cc);
}

feed_goes : (rest : List ℕ) → Keeps (10 ∷ rest) rest []
feed_goes rest = record {
  over = 10 ∷ [];
  parts = refl;
  along = λ c h. cut_feed (10 ∷ c) 0 (omega arith) (λ k lt. absurd (omega arith)) refl;
}

return_goes : (rest : List ℕ) → Keeps (13 ∷ 10 ∷ rest) rest []
return_goes rest = record {
  over = 13 ∷ 10 ∷ [];
  parts = refl;
  along = λ c h. cut_feed (13 ∷ 10 ∷ c) 1 (omega arith) (before c) refl;
}
  where
    before : (c : List ℕ) (k : ℕ) → k < 1 → Plain (get_or (13 ∷ 10 ∷ c) k 0)
    before c zero lt = ((λ e. absurd cc), (λ e. absurd cc))
    before c (suc k) lt = absurd (omega arith)

-- a comment
no_feed : (t : List ℕ) (n : ℕ) → ((k : ℕ) → k < n → feed (get_or t k 0) ≡ false) → (k : ℕ) → k < suc n
    → feed (get_or (35 ∷ t) k 0) ≡ false
no_feed t n more zero lt = refl
no_feed t n more (suc k) lt = more k (omega arith)

-- what is before a line feed, and what is behind it
comment_ends : (u c : List ℕ) → ((k : ℕ) → k < length u → feed (get_or (u ++ 10 ∷ c) k 0) ≡ false)
    → uncommented (35 ∷ (u ++ 10 ∷ c)) ≡ uncommented c
comment_ends u c none =
    let whole : List ℕ = 35 ∷ (u ++ 10 ∷ c) in
    let at : position_or_len feed whole ≡ suc (length u) =
    position_or_len_is feed whole (suc (length u)) 0 (omega (arith, length-append u (10 ∷ c)))
    (no_feed (u ++ 10 ∷ c) (length u) none) (λ lt. ap feed (here u c)) in
    let next : suc (length u) + 1 ≡ suc (suc (length u)) = omega arith in
    cut_comment whole 0 (omega arith) (λ k lt. absurd (omega arith)) refl
    ∙ ap (λ (k : ℕ). uncommented (drop (k + 1) whole)) at
    ∙ ap (λ (k : ℕ). uncommented (drop k whole)) next
    ∙ ap uncommented (behind u c)
  where
    here : (u c : List ℕ) → get_or (u ++ 10 ∷ c) (length u) 0 ≡ 10
    here [] c = refl
    here (x ∷ u) c = here u c

    behind : (u c : List ℕ) → drop (suc (length u)) (u ++ 10 ∷ c) ≡ c
    behind [] c = refl
    behind (x ∷ u) c = behind u c

get_or_front : (u c d : List ℕ) (k : ℕ) → k < length u → get_or (u ++ c) k 0 ≡ get_or (u ++ d) k 0
get_or_front [] c d k lt = absurd (omega arith)
get_or_front (x ∷ u) c d zero lt = refl
get_or_front (x ∷ u) c d (suc k) lt = get_or_front u c d k (omega arith)

comment_goes : (t : List ℕ) → Keeps (35 ∷ t) (after_first feed t) []
comment_goes t =
    let n = position_or_len feed t in
    elim (cases_lt n (length t)) [
      | inl inside ↦
          let is : get_or t n 0 ≡ 10 = eqb-true (get_or t n 0) 10 (passes_at_first feed t 0 inside) in
          let u : List ℕ = take n t in
          let rest : List ℕ = drop (n + 1) t in
          let parts : t ≡ u ++ 10 ∷ rest = sym (take-append-drop n t)
          ∙ ap (λ (z : List ℕ). u ++ z) (drop_more t n 0 inside ∙ ap (λ (x : ℕ). x ∷ rest) is) in
          let count : length u ≡ n = length-take-le n t (omega arith) in
          record {
            over = 35 ∷ (u ++ 10 ∷ []);
            parts = ap (λ (z : List ℕ). 35 ∷ z) (parts ∙ sym (append_assoc u (10 ∷ []) rest));
            along = λ c h.
                let none : (k : ℕ) → k < length u → feed (get_or (u ++ 10 ∷ c) k 0) ≡ false = λ k lt.
                ap feed (get_or_front u (10 ∷ c) (10 ∷ rest) k lt ∙ ap (λ (z : List ℕ). get_or z k 0) (sym parts))
                ∙ fails_before_first feed t k 0 (omega arith) in
                ap (λ (z : List ℕ). uncommented (35 ∷ z)) (append_assoc u (10 ∷ []) c) ∙ comment_ends u c none;
          }
      | inr all ↦
          let nothing : after_first feed t ≡ [] = drop_all (n + 1) t (omega arith) in
          subst (λ (z : List ℕ). Keeps (35 ∷ t) z []) (sym nothing) (record {
            over = 35 ∷ t;
            parts = sym (append-nil (35 ∷ t));
            along = λ c h.
                let at : position_or_len feed (35 ∷ t) ≡ length (35 ∷ t) =
                position_or_len_is feed (35 ∷ t) (length (35 ∷ t)) 0 (omega arith)
                (no_feed t (length t) (λ k lt. fails_before_first feed t k 0 (omega arith)))
                (λ lt. absurd (omega arith)) in
                let gone : after_first feed (35 ∷ t) ≡ [] = drop_all (position_or_len feed (35 ∷ t) + 1) (35 ∷ t)
                (omega (arith, at)) in
                ap (λ (z : List ℕ). uncommented ((35 ∷ t) ++ z)) (h.none refl)
                ∙ ap uncommented (append-nil (35 ∷ t))
                ∙ cut_comment (35 ∷ t) 0 (omega arith) (λ k lt. absurd (omega arith)) refl
                ∙ ap uncommented gone ∙ sym (ap uncommented (h.none refl));
          })
    ]

-- a byte that is kept
kept_goes : (b : ℕ) (rest : List ℕ) → Plain b → b ≢ 32 → (b ≡ 13 → get_or rest 0 0 ≢ 10)
    → Keeps (b ∷ rest) rest (b ∷ [])
kept_goes b rest plain other no_return = record {
  over = b ∷ [];
  parts = refl;
  along = λ c h. first_byte b c plain (λ is e. no_return is (h.feed e))
      ∙ ap (λ (z : List ℕ). z ++ uncommented c) (same b other);
}
  where
    same : (b : ℕ) → b ≢ 32 → unspaced (b ∷ []) ≡ b ∷ []
    same b other = rw (ne_eqb b 32 other) refl

-- ---- the same at the front of a text, as the code takes it apart

-- the bytes after the first ones
abbrev pub behind : ℕ → List ℕ → List ℕ
behind n text = take (length text - n) (drop n text)

pub behind_is : (n : ℕ) (text : List ℕ) → behind n text ≡ drop n text
behind_is n text = take_all (length text - n) (drop n text) (omega (arith, length-drop n text))

one_is : (text : List ℕ) → 1 ≤ length text → text ≡ get_or text 0 0 ∷ drop 1 text
one_is [] some = absurd (omega arith)
one_is (x ∷ text) some = refl

-- a step from a front that is known
keeps_from : (text front rest bytes : List ℕ) → text ≡ front → Keeps front rest bytes → Keeps text rest bytes
keeps_from text front rest bytes is k = subst (λ (z : List ℕ). Keeps z rest bytes) (sym is) k

module _ (text : List ℕ) where
  pub space_here : 1 ≤ length text → get_or text 0 0 ≡ 32 → Keeps text (behind 1 text) []
  space_here some is = keeps_from text (32 ∷ behind 1 text) (behind 1 text) []
      (one_is text some ∙ ap (λ (x : ℕ). x ∷ drop 1 text) is ∙ ap (λ (z : List ℕ). 32 ∷ z) (sym (behind_is 1 text)))
      (space_goes (behind 1 text))

  pub feed_here : 1 ≤ length text → get_or text 0 0 ≡ 10 → Keeps text (behind 1 text) []
  feed_here some is = keeps_from text (10 ∷ behind 1 text) (behind 1 text) []
      (one_is text some ∙ ap (λ (x : ℕ). x ∷ drop 1 text) is ∙ ap (λ (z : List ℕ). 10 ∷ z) (sym (behind_is 1 text)))
      (feed_goes (behind 1 text))

  pub return_here : (after : List ℕ) → 1 ≤ length text → get_or text 0 0 ≡ 13 → behind 1 text ≡ 10 ∷ after
      → Keeps text after []
  return_here after some is next = keeps_from text (13 ∷ 10 ∷ after) after []
      (one_is text some ∙ ap (λ (x : ℕ). x ∷ drop 1 text) is
      ∙ ap (λ (z : List ℕ). 13 ∷ z) (sym (behind_is 1 text) ∙ next)) (return_goes after)

  pub comment_here : (rest : List ℕ) → 1 ≤ length text → get_or text 0 0 ≡ 35
      → rest ≡ after_first feed (behind 1 text) → Keeps text rest []
  comment_here rest some is after = subst (λ (z : List ℕ). Keeps text z []) (sym after)
      (keeps_from text (35 ∷ behind 1 text) (after_first feed (behind 1 text)) []
      (one_is text some ∙ ap (λ (x : ℕ). x ∷ drop 1 text) is ∙ ap (λ (z : List ℕ). 35 ∷ z) (sym (behind_is 1 text)))
      (comment_goes (behind 1 text)))

  pub kept_here : 1 ≤ length text → get_or text 0 0 ≢ 32 → get_or text 0 0 ≢ 10 → get_or text 0 0 ≢ 35
      → (get_or text 0 0 ≡ 13 → get_or (behind 1 text) 0 0 ≢ 10)
      → Keeps text (drop 1 text) (get_or text 0 0 ∷ [])
  kept_here some space line hash no_return =
      keeps_from text (get_or text 0 0 ∷ drop 1 text) (drop 1 text) (get_or text 0 0 ∷ []) (one_is text some)
      (kept_goes (get_or text 0 0) (drop 1 text) (hash, line) space
      (subst (λ (z : List ℕ). get_or text 0 0 ≡ 13 → get_or z 0 0 ≢ 10) (behind_is 1 text) no_return))

-- ---- walks

-- From the text to its rest some bytes are kept, and a fact holds for them. The rest begins with the next kept byte.
pub record Walked (Fact : List ℕ → Type 0) (text rest : List ℕ) : Type 0 where
  pub bytes : List ℕ
  pub fact : Fact bytes
  pub keeps : Keeps text rest bytes
  pub next : 0 < length rest → Keeps rest (drop 1 rest) (get_or rest 0 0 ∷ [])

pub walk_starts : (Fact : List ℕ → Type 0) (text rest : List ℕ) → Fact [] → Keeps text rest []
    → (0 < length rest → Keeps rest (drop 1 rest) (get_or rest 0 0 ∷ [])) → Walked Fact text rest
walk_starts Fact text rest fact keeps next = record { bytes = []; fact = fact; keeps = keeps; next = next }

pub walk_steps : (Fact More : List ℕ → Type 0) (text rest to : List ℕ)
    → ((bytes : List ℕ) → Fact bytes → More (bytes ++ get_or rest 0 0 ∷ [])) → Walked Fact text rest → 0 < length rest
    → Keeps (behind 1 rest) to [] → (0 < length to → Keeps to (drop 1 to) (get_or to 0 0 ∷ [])) → Walked More text to
walk_steps Fact More text rest to more w some keeps next =
    let one : List ℕ = get_or rest 0 0 ∷ [] in
    let on : Keeps (drop 1 rest) to [] = subst (λ (z : List ℕ). Keeps z to []) (behind_is 1 rest) keeps in
    record {
      bytes = w.bytes ++ one;
      fact = more w.bytes w.fact;
      keeps = keeps_then text rest to w.bytes one w.keeps
          (subst (Keeps rest to) (append-nil one) (keeps_then rest (drop 1 rest) to one [] (w.next some) on));
      next = next;
    }

-- at the end of the text all is kept that is kept
pub walk_ends : (Fact : List ℕ → Type 0) (text rest : List ℕ) → length rest ≡ 0 → Walked Fact text rest
    → Fact (uncommented text)
walk_ends Fact text [] none w = subst Fact (sym (ap uncommented w.keeps.parts
    ∙ w.keeps.along [] (replaces_here []) ∙ append-nil w.bytes)) w.fact
walk_ends Fact text (x ∷ rest) none w = absurd (omega arith)

-- the bytes before the rest
front_kept : (text rest bytes : List ℕ) → Keeps text rest bytes
    → uncommented (take (length text - length rest) text) ≡ bytes
front_kept text rest bytes k =
    let count : length k.over ≡ length text - length rest =
    omega (arith, ap length k.parts, length-append k.over rest) in
    ap (λ (z : List ℕ). uncommented (take (length text - length rest) z)) k.parts
    ∙ ap uncommented (take_at k.over rest (length text - length rest) count ∙ sym (append-nil k.over))
    ∙ k.along [] (replaces_none rest) ∙ append-nil bytes

pub walk_front : (Fact : List ℕ → Type 0) (text rest : List ℕ) → Walked Fact text rest
    → Fact (uncommented (take (length text - length rest) text))
walk_front Fact text rest w = subst Fact (sym (front_kept text rest w.bytes w.keeps)) w.fact

-- the place of the rest
byte_there : (over rest : List ℕ) (n : ℕ) → length over ≡ n → get_or (over ++ rest) n 0 ≡ get_or rest 0 0
byte_there [] rest n is = ap (λ (k : ℕ). get_or rest k 0) (sym is)
byte_there (x ∷ over) rest zero is = absurd (omega arith)
byte_there (x ∷ over) rest (suc n) is = byte_there over rest n (omega arith)

rest_there : (over rest : List ℕ) (n : ℕ) → length over ≡ n → drop (n + 1) (over ++ rest) ≡ drop 1 rest
rest_there [] rest n is = ap (λ (k : ℕ). drop (k + 1) rest) (sym is)
rest_there (x ∷ over) rest zero is = absurd (omega arith)
rest_there (x ∷ over) rest (suc n) is =
    let next : suc n + 1 ≡ suc (n + 1) = omega arith in
    ap (λ (k : ℕ). drop k (x ∷ over ++ rest)) next ∙ rest_there over rest n (omega arith)

pub walk_byte : (Fact : List ℕ → Type 0) (text rest : List ℕ) → Walked Fact text rest
    → get_or text (length text - length rest) 0 ≡ get_or rest 0 0
walk_byte Fact text rest w =
    let k = w.keeps in
    let count : length k.over ≡ length text - length rest =
    omega (arith, ap length k.parts, length-append k.over rest) in
    ap (λ (z : List ℕ). get_or z (length text - length rest) 0) k.parts ∙ byte_there k.over rest _ count

pub walk_place : (Fact : List ℕ → Type 0) (text rest : List ℕ) → Walked Fact text rest → 0 < length rest
    → IsKeptAt text (length text - length rest)
walk_place Fact text rest w some =
    let k = w.keeps in
    let place : ℕ = length text - length rest in
    let whole : length text ≡ length k.over + length rest = ap length k.parts ∙ length-append k.over rest in
    let count : length k.over ≡ place = omega arith in
    let n = w.next some in
    let after : drop (place + 1) text ≡ drop 1 rest =
    ap (drop (place + 1)) k.parts ∙ rest_there k.over rest place count in
    let all : uncommented text ≡ w.bytes ++ uncommented rest =
    ap uncommented k.parts ∙ k.along rest (replaces_here rest) in
    let mine : uncommented rest ≡ get_or rest 0 0 ∷ uncommented (drop 1 rest) =
    ap uncommented n.parts ∙ n.along (drop 1 rest) (replaces_here (drop 1 rest)) in
    record {
      within = omega arith;
      kept = all ∙ ap (λ (z : List ℕ). w.bytes ++ z) mine
          ∙ ap (λ (z : List ℕ). z ++ get_or rest 0 0 ∷ uncommented (drop 1 rest)) (sym (front_kept text rest w.bytes k))
          ∙ ap (λ (x : ℕ). uncommented (take place text) ++ x ∷ uncommented (drop 1 rest))
          (sym (walk_byte Fact text rest w))
          ∙ ap (λ (z : List ℕ). uncommented (take place text) ++ get_or text place 0 ∷ uncommented z) (sym after);
    }

-- ---- counts, and digits

pub kept_shorter : (text rest bytes : List ℕ) → Keeps text rest bytes → length rest ≤ length text
kept_shorter text rest bytes k = omega (arith, ap length k.parts, length-append k.over rest)

pub steps_shorter : (rest to : List ℕ) → 1 ≤ length rest → Keeps (behind 1 rest) to [] → length to < length rest
steps_shorter rest to some k =
    omega (arith, kept_shorter (behind 1 rest) to [] k, ap length (behind_is 1 rest), length-drop 1 rest)

-- more bytes are kept than are kept before a place
pub place_count : (text : List ℕ) (place : ℕ) → IsKeptAt text place
    → length (uncommented (take place text)) < length (uncommented text)
place_count text place k = omega (
  arith,
  ap length k.kept,
  length-append (uncommented (take place text))
      (get_or text place 0 ∷ uncommented (drop (place + 1) text)),
)

pub same_digits : (b : ℕ) → is_ascii_hexdigit b ≡ is_hex_digit b
same_digits b = grind (arith, nat_tests)

pub none_pass : (p : ℕ → Bool) → AllPass p []
none_pass p = λ k d lt. absurd (omega arith)

pub one_passes : (p : ℕ → Bool) (b : ℕ) → p b ≡ true → AllPass p (b ∷ [])
one_passes p b is zero d lt = is
one_passes p b is (suc k) d lt = absurd (omega arith)

-- where a byte is kept that is no digit, not all are digits
pub bad_not_all : (text : List ℕ) (place : ℕ) → IsKeptAt text place → is_hex_digit (get_or text place 0) ≡ false
    → ¬ (AllPass is_hex_digit (uncommented text))
bad_not_all text place k bad all =
    let front : List ℕ = uncommented (take place text) in
    let rest : List ℕ = get_or text place 0 ∷ uncommented (drop (place + 1) text) in
    let here : get_or (uncommented text) (length front) 0 ≡ get_or text place 0 =
    ap (λ (z : List ℕ). get_or z (length front) 0) k.kept ∙ byte_there front rest (length front) refl in
    let inside : length front < length (uncommented text) = place_count text place k in
    let yes = all (length front) 0 inside in
    let no : is_hex_digit (get_or (uncommented text) (length front) 0) ≡ false = ap is_hex_digit here ∙ bad in
    absurd cc

-- nothing is kept after the last byte
pub last_kept : (text : List ℕ) (n place : ℕ) → IsKeptByte text n place → length (uncommented text) ≡ n + 1
    → uncommented (drop (place + 1) text) ≡ []
last_kept text n place k count =
    nothing (uncommented (drop (place + 1) text)) (omega (
      arith,
      ap length k.here.kept,
      k.before,
      length-append (uncommented (take place text)) (get_or text place 0 ∷ uncommented (drop (place + 1) text)),
    ))
  where
    nothing : (x : List ℕ) → length x ≡ 0 → x ≡ []
    nothing [] none = refl
    nothing (b ∷ x) none = absurd (omega arith)

-- of digits, those before a place are digits
pub all_before : (text : List ℕ) (place : ℕ) → IsKeptAt text place → AllPass is_hex_digit (uncommented text)
    → AllPass is_hex_digit (uncommented (take place text))
all_before text place k all = λ i d lt.
    let front : List ℕ = uncommented (take place text) in
    let rest : List ℕ = get_or text place 0 ∷ uncommented (drop (place + 1) text) in
    let inside : length front < length (uncommented text) = place_count text place k in
    let yes = all i d (omega arith) in
    ap is_hex_digit (there front rest i d lt ∙ ap (λ (z : List ℕ). get_or z i d) (sym k.kept)) ∙ yes
  where
    there : (x y : List ℕ) (i d : ℕ) → i < length x → get_or x i d ≡ get_or (x ++ y) i d
    there [] y i d lt = absurd (omega arith)
    there (b ∷ x) y zero d lt = refl
    there (b ∷ x) y (suc i) d lt = there x y i d (omega arith)

-- ---- faults

pub bad_digit : (text : List ℕ) (place : ℕ) → length (uncommented text) % 2 ≡ 0 → IsKeptAt text place
    → is_hex_digit (get_or text place 0) ≡ false → AllPass is_hex_digit (uncommented (take place text))
    → IsHexFault text refusal.BadHex place
bad_digit text place even kept bad before = record {
  digits = inr refl;
  refused = (even, bad_not_all text place kept bad);
  kept = kept;
  before = before;
  here = inl bad;
}

pub odd_digits : (text : List ℕ) (n place : ℕ) → length (uncommented text) ≡ n + 1 → (n + 1) % 2 ≡ 1
    → AllPass is_hex_digit (uncommented text) → IsKeptByte text n place → IsHexFault text refusal.OddHex place
odd_digits text n place count odd all kept = record {
  digits = inl refl;
  refused = ap (λ (k : ℕ). k % 2) count ∙ odd;
  kept = kept.here;
  before = all_before text place kept.here all;
  here = inr (last_kept text n place kept count);
}
