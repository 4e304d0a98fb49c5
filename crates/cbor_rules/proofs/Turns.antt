-- One turn of `kept_chunks`, `kept_parts` or `violation_from`: if it ends the reading, its result is that of all turns;
-- otherwise, if it read a byte, the turns that are left give the result of all. One level of `kept_item`: it has the
-- violation of the head, or else the result of `kept_body`; with no level left, the item is too deep.
use Rattle.std.proofs.Common.{◌≡◌, ◌-◌, ◌<◌, ◌≤◌, ℕ, zero, suc, List, [], ◌∷◌, length, Option, Some, None, Ok, Err}
use Rattle.std.proofs.Common.{refl, sym, ap, subst, ◌∙◌, arith}
use Rattle.cbor_grammar.specs.WellFormed.{deepest}
use Rattle.cbor_grammar.specs.Reading.{no_level_left}
use Rattle.cbor_grammar.specs.declared.head.ItemHead.{ItemHead}
use Rattle.cbor_grammar.specs.declared.strings.StringKind.{StringKind}
use Rattle.cbor_rules.specs.declared.rules.Rules.{Rules}
use Rattle.cbor_rules.specs.declared.kind.Violation.{Violation}
use Rattle.cbor_rules.specs.declared.kind.ViolationKind.TheVariants as kind
use Rattle.cbor_rules.specs.declared.check.Chunk.{Chunk}
use Rattle.cbor_rules.specs.declared.check.Chunk.TheVariants as chunk
use Rattle.cbor_rules.specs.FirstViolation.{Kept, kept_then, kept_chunk, chunks_after, kept_chunks, Open, after_end}
use Rattle.cbor_rules.specs.FirstViolation.{after_part, ended_or, kept_parts, kept_item, violation_or, violation_from}
use Rattle.cbor_rules.specs.FirstViolation.{violation_at, kept_head, kept_body, opened}

-- ---- chunks

module _ (rules : Rules) (total : ℕ) (kind : StringKind) (b : List ℕ) (whole : Kept (List ℕ)) where
  chunks_turn : (n : ℕ) (read : Kept (Chunk × List ℕ)) → length b < n → kept_chunks n rules total kind b ≡ whole
      → kept_chunk rules total kind b ≡ read
      → (m : ℕ) × (length b ≤ m) × (kept_then read (λ c. chunks_after (kept_chunks m rules total kind) c.0 c.1) ≡ whole)
  unfolding kept_chunks
  chunks_turn zero read lt all e = absurd (omega arith)
  chunks_turn (suc m) read lt all e = (
    m,
    omega arith,
    ap (λ r. kept_then r (λ c. chunks_after (kept_chunks m rules total kind) c.0 c.1)) (sym e) ∙ all,
  )

  pub chunks_stop : (n : ℕ) (violation : Violation) → length b < n → kept_chunks n rules total kind b ≡ whole
      → kept_chunk rules total kind b ≡ Err violation → whole ≡ Err violation
  chunks_stop n violation lt all e = sym (chunks_turn n (Err violation) lt all e).2

  pub chunks_end : (n : ℕ) (after : List ℕ) → length b < n → kept_chunks n rules total kind b ≡ whole
      → kept_chunk rules total kind b ≡ Ok (chunk.Break, after) → whole ≡ Ok after
  chunks_end n after lt all e = sym (chunks_turn n (Ok (chunk.Break, after)) lt all e).2

  pub chunks_go : (n : ℕ) (after : List ℕ) → length b < n → kept_chunks n rules total kind b ≡ whole
      → kept_chunk rules total kind b ≡ Ok (chunk.Content, after) → length after < length b
      → (m : ℕ) × (length after < m) × (kept_chunks m rules total kind after ≡ whole)
  chunks_go n after lt all e shorter =
      let t = chunks_turn n (Ok (chunk.Content, after)) lt all e in (t.0, omega (arith, t.1), t.2)

-- ---- parts

module _ (rules : Rules) (total : ℕ) (read : List ℕ → Kept (List ℕ)) (o : Open) (b : List ℕ)
    (whole : Kept (List ℕ)) where
  abbrev part_then : ℕ → Kept (List ℕ) → Kept (List ℕ)
  part_then m part =
      kept_then part (λ rest. kept_then (after_part rules total o b rest) (λ p. kept_parts m rules total read p rest))

  parts_turn : (n : ℕ) (end : Option (List ℕ)) → length b < n → kept_parts n rules total read o b ≡ whole
      → after_end o b ≡ end → (m : ℕ) × (length b ≤ m) × (ended_or end (part_then m (read b)) ≡ whole)
  unfolding kept_parts
  parts_turn zero end lt all e = absurd (omega arith)
  parts_turn (suc m) end lt all e =
      (m, omega arith, ap (λ x. ended_or x (part_then m (read b))) (sym e) ∙ all)

  pub parts_end : (n : ℕ) (after : List ℕ) → length b < n → kept_parts n rules total read o b ≡ whole
      → after_end o b ≡ Some after → whole ≡ Ok after
  parts_end n after lt all e = sym (parts_turn n (Some after) lt all e).2

  pub parts_stop : (n : ℕ) (violation : Violation) → length b < n → kept_parts n rules total read o b ≡ whole
      → after_end o b ≡ None → read b ≡ Err violation → whole ≡ Err violation
  parts_stop n violation lt all e part =
      let t = parts_turn n None lt all e in sym (ap (part_then t.0) (sym part) ∙ t.2)

  pub parts_refuse : (n : ℕ) (rest : List ℕ) (violation : Violation) → length b < n
      → kept_parts n rules total read o b ≡ whole → after_end o b ≡ None → read b ≡ Ok rest
      → after_part rules total o b rest ≡ Err violation → whole ≡ Err violation
  parts_refuse n rest violation lt all e part next =
      let t = parts_turn n None lt all e in
      sym (ap (λ p. kept_then p (λ p. kept_parts t.0 rules total read p rest)) (sym next)
      ∙ ap (part_then t.0) (sym part) ∙ t.2)

  pub parts_go : (n : ℕ) (rest : List ℕ) (p : Open) → length b < n
      → kept_parts n rules total read o b ≡ whole → after_end o b ≡ None → read b ≡ Ok rest
      → after_part rules total o b rest ≡ Ok p → length rest < length b
      → (m : ℕ) × (length rest < m) × (kept_parts m rules total read p rest ≡ whole)
  parts_go n rest p lt all e part next shorter =
      let t = parts_turn n None lt all e in (
        t.0,
        omega (arith, t.1),
        ap (λ p. kept_then p (λ p. kept_parts t.0 rules total read p rest)) (sym next)
            ∙ ap (part_then t.0) (sym part) ∙ t.2,
      )

-- ---- items

items_turn : (n : ℕ) (rules : Rules) (total : ℕ) (b : List ℕ) (whole : Option Violation) (read : Kept (List ℕ))
    → 0 < length b → length b ≤ n → violation_from n rules total b ≡ whole → kept_item deepest rules total b ≡ read
    → (m : ℕ) × (length b ≤ suc m) × (violation_or read (violation_from m rules total) ≡ whole)
unfolding violation_from
items_turn n rules total [] whole read lt le all e = absurd (omega arith)
items_turn zero rules total (first ∷ b) whole read lt le all e = absurd (omega arith)
items_turn (suc m) rules total (first ∷ b) whole read lt le all e =
    (m, le, ap (λ r. violation_or r (violation_from m rules total)) (sym e) ∙ all)

pub items_stop : (n : ℕ) (rules : Rules) (total : ℕ) (b : List ℕ) (whole : Option Violation) (violation : Violation)
    → 0 < length b → length b ≤ n → violation_from n rules total b ≡ whole
    → kept_item deepest rules total b ≡ Err violation → whole ≡ Some violation
items_stop n rules total b whole violation lt le all e = sym
    (items_turn n rules total b whole (Err violation) lt le all e).2

pub items_go : (n : ℕ) (rules : Rules) (total : ℕ) (b : List ℕ) (whole : Option Violation) (rest : List ℕ)
    → 0 < length b → length b ≤ n → violation_from n rules total b ≡ whole
    → kept_item deepest rules total b ≡ Ok rest → length rest < length b
    → (m : ℕ) × (length rest ≤ m) × (violation_from m rules total rest ≡ whole)
items_go n rules total b whole rest lt le all e shorter =
    let t = items_turn n rules total b whole (Ok rest) lt le all e in (t.0, omega (arith, t.1), t.2)

-- nothing is left
pub items_end : (n : ℕ) (rules : Rules) (total : ℕ) (b : List ℕ) (whole : Option Violation) → length b ≡ 0
    → violation_from n rules total b ≡ whole → whole ≡ None
unfolding violation_from
items_end zero rules total b whole none all = sym all
items_end (suc m) rules total [] whole none all = sym all
items_end (suc m) rules total (first ∷ b) whole none all = absurd (omega arith)

-- ---- one item

abbrev body_then : ℕ → Rules → ℕ → List ℕ → Kept (ItemHead × List ℕ) → Kept (List ℕ)
body_then left rules total b head =
    kept_then head (λ h. kept_body rules total b (kept_item left rules total) (opened h.0) h.0 h.1)

item_turn : (left : ℕ) (rules : Rules) (total : ℕ) (b : List ℕ) (head : Kept (ItemHead × List ℕ)) → 0 < left
    → kept_head rules total (deepest - (left - 1)) b ≡ head
    → kept_item left rules total b ≡ body_then (left - 1) rules total b head
unfolding kept_item
item_turn zero rules total b head lt e = absurd (omega arith)
item_turn (suc m) rules total b head lt e =
    let same : m ≡ suc m - 1 = omega arith in
    subst (λ (k : ℕ). kept_item (suc m) rules total b
    ≡ body_then k rules total b (kept_head rules total (deepest - k) b))
    same refl
    ∙ ap (λ h. body_then (suc m - 1) rules total b h) e

-- no level is left for it
pub item_too_deep : (left : ℕ) (rules : Rules) (total : ℕ) (b : List ℕ) → left ≡ 0
    → kept_item left rules total b ≡ Err (violation_at total b (kind.NoItem (no_level_left b)))
unfolding kept_item
item_too_deep left rules total b none = rw none refl

pub item_stop : (left : ℕ) (rules : Rules) (total : ℕ) (b : List ℕ) (violation : Violation) → 0 < left
    → kept_head rules total (deepest - (left - 1)) b ≡ Err violation → kept_item left rules total b ≡ Err violation
item_stop left rules total b violation lt e = item_turn left rules total b (Err violation) lt e

pub item_body : (left : ℕ) (rules : Rules) (total : ℕ) (b : List ℕ) (h : ItemHead) (rest : List ℕ) (o : Option Open)
    → 0 < left → kept_head rules total (deepest - (left - 1)) b ≡ Ok (h, rest) → o ≡ opened h
    → kept_item left rules total b ≡ kept_body rules total b (kept_item (left - 1) rules total) o h rest
item_body left rules total b h rest o lt e is =
    item_turn left rules total b (Ok (h, rest)) lt e
    ∙ ap (λ x. kept_body rules total b (kept_item (left - 1) rules total) x h rest) (sym is)
