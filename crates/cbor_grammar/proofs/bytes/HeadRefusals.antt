-- If `read_head` returns an error, the bytes are truncated in the head and the error is `CutShort`, or no item can have
-- the head and the error is `Head`. For `CutHead` and `BadHead` it always returns this error. The errors of
-- `read_argument` are those of `InfoRefusal`, and no others.
use Rattle.std.proofs.Common.{◌≡◌, ℕ, ◌+◌, ◌/◌, ◌%◌, ◌^◌, ◌<◌, ◌≤◌, ltb, eqb, List, [], ◌∷◌, length, Result}
use Rattle.std.proofs.Common.{Ok, Err, ◌⊎◌, inl, inr, refl, sym, ap, subst, ◌∙◌, arith}
use Rattle.std.specs.Int.{Width, byte_len, from_be_bytes}
use Rattle.std.specs.Prelude.{take, drop}
use Rattle.std.proofs.lemmas.Bool.{ltb-true, lt-ltb, eqb-false, ne_eqb}
use Rattle.cbor_grammar.specs.declared.width.IntegerWidth.{IntegerWidth}
use Rattle.cbor_grammar.specs.declared.error.Error.{Error}
use Rattle.cbor_grammar.specs.declared.error.Error.TheVariants as refusal
use Rattle.cbor_grammar.specs.declared.argument.Argument.{Argument}
use Rattle.cbor_grammar.specs.declared.argument.Argument.TheVariants.{Number, Indefinite}
use Rattle.cbor_grammar.specs.Refused.{CutHead, cut_head, BadHead, no_info, no_length}
use Rattle.cbor_grammar.specs.Reading.{◌>>=◌, read_number, read_wide, read_argument, numbered, head_of, read_head}
use Rattle.cbor_grammar.proofs.bytes.Heads.{IsBytes, IsBytes-rest, bind_err, branch, info_way, in_byte, in_bytes}
use Rattle.cbor_grammar.proofs.bytes.Heads.{no_number, no_meaning, info_takes}

-- a step's refusal is the refusal
pub err_is : {A : Type 0} (x : Result A Error) (d e : Error) → x ≡ Err d → x ≡ Err e → d ≡ e
err_is x d e p q = cc

-- ---- five bits of info

-- the number after the info is truncated, or the info means nothing
pub data InfoRefusal : ℕ → List ℕ → Error → Type 0 where
  cut_info : {bits : ℕ} {b : List ℕ} (k : ℕ) → k ≤ 3 → bits ≡ 24 + k → length b < 2 ^ k
      → InfoRefusal bits b refusal.CutShort
  bad_info : {bits : ℕ} {b : List ℕ} → 28 ≤ bits → bits ≤ 30 → InfoRefusal bits b refusal.Head

wide_refused : (w : Width) (width : IntegerWidth) (b : List ℕ) (e : Error) → read_wide w width b ≡ Err e
    → (length b < byte_len w) × (refusal.CutShort ≡ e)
unfolding read_wide
wide_refused w width b e h =
    elim (bind_err (read_number w b) (λ n. Ok (Number n.0 width, n.1)) e h) [
      | inl short ↦ elim (branch (ltb (length b) (byte_len w)) (Err refusal.CutShort)
          (Ok (from_be_bytes w (take (byte_len w) b), drop (byte_len w) b)) (Err e) short) [
            | inl t ↦ (ltb-true _ _ t.0, cc)
            | inr t ↦ absurd cc
          ]
      | inr read ↦ absurd cc
    ]

wide_cut : (w : Width) (width : IntegerWidth) (b : List ℕ) → length b < byte_len w
    → read_wide w width b ≡ Err refusal.CutShort
unfolding read_wide
wide_cut w width b short = rw (lt-ltb (length b) (byte_len w) short) refl

cut_width : (w : Width) (width : IntegerWidth) (bits k : ℕ) (b : List ℕ) (e : Error) → k ≤ 3 → bits ≡ 24 + k
    → byte_len w ≡ 2 ^ k → read_wide w width b ≡ Err e → InfoRefusal bits b e
cut_width w width bits k b e small is len h =
    let c = wide_refused w width b e h in
    subst (λ (d : Error). InfoRefusal bits b d) c.1 (cut_info k small is (rw (← len) c.0))

pub info_refused : (bits : ℕ) (b : List ℕ) (e : Error) → bits < 32 → read_argument bits b ≡ Err e
    → InfoRefusal bits b e
info_refused bits b e small h =
    elim (info_way bits b) [
      | in_byte lt reads ↦ absurd (let wrong = sym reads ∙ h in cc)
      | in_bytes k w width info reads ↦ cut_width w width bits k b e info.few info.is info.len (sym reads ∙ h)
      | no_number is reads ↦ absurd (let wrong = sym reads ∙ h in cc)
      | no_meaning least other reads ↦
          let is : refusal.Head ≡ e = err_is (read_argument bits b) refusal.Head e reads h in
          let no31 : bits ≡ 31 → ⊥ = other in
          subst (λ (d : Error). InfoRefusal bits b d) is (bad_info least (grind arith))
    ]

pub info_refuses : (bits : ℕ) (b : List ℕ) (e : Error) → InfoRefusal bits b e → read_argument bits b ≡ Err e
info_refuses bits b e (cut_info k small is short) =
    elim (info_way bits b) [
      | in_byte lt reads ↦ absurd (omega arith)
      | in_bytes j w width info reads ↦
          let same : k ≡ j = omega (arith, info.is) in
          reads ∙ wide_cut w width b (rw info.len (subst (λ (n : ℕ). length b < 2 ^ n) same short))
      | no_number opens reads ↦ absurd (omega arith)
      | no_meaning least other reads ↦ absurd (omega arith)
    ]
info_refuses bits b e (bad_info least most) =
    elim (info_way bits b) [
      | in_byte lt reads ↦ absurd (omega arith)
      | in_bytes k w width info reads ↦ absurd (omega (arith, info.few, info.is))
      | no_number is reads ↦ absurd (omega arith)
      | no_meaning low other reads ↦ reads
    ]

-- info 31 asks for no bytes
pub info_opens : (bits : ℕ) (b : List ℕ) → bits ≡ 31 → read_argument bits b ≡ Ok (Indefinite, b)
unfolding read_argument
info_opens bits b is = rw is refl

-- ---- a head

-- no byte is there, or the head's number is truncated, or no item can have the head
pub data HeadRefusal : List ℕ → Error → Type 0 where
  no_head : HeadRefusal [] refusal.CutShort
  short_head : {b : List ℕ} → CutHead b → HeadRefusal b refusal.CutShort
  bad_head : {b : List ℕ} → BadHead b → HeadRefusal b refusal.Head

-- where a major type has no head with this argument
numbered_refused : (major : ℕ) (a : Argument) (e : Error) → numbered major a ≡ Err e
    → (a ≡ Indefinite) × (refusal.Head ≡ e)
numbered_refused major (Number n w) e h =
    elim (branch (eqb major 0) _ _ (Err e) h) [
      | inl t ↦ absurd cc
      | inr t0 ↦ elim (branch (eqb major 1) _ _ (Err e) t0.1) [
        | inl t ↦ absurd cc
        | inr t1 ↦ elim (branch (eqb major 6) _ _ (Err e) t1.1) [
          | inl t ↦ absurd cc
          | inr t2 ↦ absurd cc
        ]
      ]
    ]
numbered_refused major Indefinite e h = (refl, cc)

head_of_refused : (major : ℕ) (a : Argument) (e : Error) → head_of major a ≡ Err e
    → (a ≡ Indefinite) × ((major ≤ 1) ⊎ (6 ≤ major)) × (refusal.Head ≡ e)
unfolding head_of
head_of_refused major a e h =
    elim (branch (eqb major 2) _ _ (Err e) h) [
      | inl t ↦ absurd cc
      | inr t0 ↦ elim (branch (eqb major 3) _ _ (Err e) t0.1) [
        | inl t ↦ absurd cc
        | inr t1 ↦ elim (branch (eqb major 4) _ _ (Err e) t1.1) [
          | inl t ↦ absurd cc
          | inr t2 ↦ elim (branch (eqb major 5) _ _ (Err e) t2.1) [
            | inl t ↦ absurd cc
            | inr t3 ↦
                let not2 : major ≡ 2 → ⊥ = eqb-false _ _ t0.0 in
                let not3 : major ≡ 3 → ⊥ = eqb-false _ _ t1.0 in
                let not4 : major ≡ 4 → ⊥ = eqb-false _ _ t2.0 in
                let not5 : major ≡ 5 → ⊥ = eqb-false _ _ t3.0 in
                let only = numbered_refused major a e t3.1 in
                (only.0, grind arith, only.1)
          ]
        ]
      ]
    ]

head_of_refuses : (major : ℕ) → (major ≤ 1) ⊎ (6 ≤ major) → head_of major Indefinite ≡ Err refusal.Head
unfolding head_of
head_of_refuses major outside =
    let not2 : major ≡ 2 → ⊥ = λ is. grind arith in
    let not3 : major ≡ 3 → ⊥ = λ is. grind arith in
    let not4 : major ≡ 4 → ⊥ = λ is. grind arith in
    let not5 : major ≡ 5 → ⊥ = λ is. grind arith in
    rw (ne_eqb major 2 not2, ne_eqb major 3 not3, ne_eqb major 4 not4, ne_eqb major 5 not5) refl

info_head : (first : ℕ) (b : List ℕ) (e : Error) → InfoRefusal (first % 32) b e → HeadRefusal (first ∷ b) e
info_head first b e (cut_info k small is short) = short_head (cut_head k small is short)
info_head first b e (bad_info least most) = bad_head (no_info least most)

unread : (first : ℕ) (b rest : List ℕ) (a : Argument) (e : Error) → IsBytes b
    → read_argument (first % 32) b ≡ Ok (a, rest) → head_of (first / 32) a ≡ Err e → HeadRefusal (first ∷ b) e
unread first b rest a e fits read h =
    let u = head_of_refused (first / 32) a e h in
    let none : read_argument (first % 32) b ≡ Ok (Indefinite, rest) =
    read ∙ ap (λ (x : Argument). Ok (x, rest)) u.0 in
    let t = info_takes (first % 32) b rest Indefinite fits none in
    subst (λ (d : Error). HeadRefusal (first ∷ b) d) u.2 (bad_head (no_length t.0 u.1))

pub head_refused : (b : List ℕ) (e : Error) → IsBytes b → read_head b ≡ Err e → HeadRefusal b e
unfolding read_head
head_refused [] e fits h = let is : refusal.CutShort ≡ e = cc in subst (λ (d : Error). HeadRefusal [] d) is no_head
head_refused (first ∷ b) e fits h =
    elim (bind_err (read_argument (first % 32) b) (λ i. head_of (first / 32) i.0 >>= λ h. Ok (h, i.1)) e h) [
      | inl refused ↦ info_head first b e (info_refused (first % 32) b e (omega arith) refused)
      | inr read ↦ elim (bind_err (head_of (first / 32) read.0.0) (λ h. Ok (h, read.0.1)) e read.2) [
        | inl refused ↦ unread first b read.0.1 read.0.0 e (IsBytes-rest first b fits) read.1 refused
        | inr made ↦ absurd cc
      ]
    ]

pub head_cut : (b : List ℕ) → CutHead b → read_head b ≡ Err refusal.CutShort
unfolding read_head
head_cut b (cut_head {first = first} {rest = rest} k small is short) =
    rw (info_refuses (first % 32) rest refusal.CutShort (cut_info k small is short)) refl

pub head_bad : (b : List ℕ) → BadHead b → read_head b ≡ Err refusal.Head
unfolding read_head
head_bad b (no_info {first = first} {rest = rest} least most) =
    rw (info_refuses (first % 32) rest refusal.Head (bad_info least most)) refl
head_bad b (no_length {first = first} {rest = rest} is major) =
    rw (info_opens (first % 32) rest is, head_of_refuses (first / 32) major) refl
