-- For `Check`: if a content or a key has a violation, the reading around it (`kept_chunk`, `kept_atom`, `after_part`)
-- has the same violation; after a key without one comes its value. The violation that `Stop::found` returns is that of
-- the whole, and its place is within the bytes.
use Rattle.std.proofs.Common.{◌≡◌, ◌≤◌, ℕ, List, Option, Some, None, Result, Ok, Err, sym, ap, subst, ◌∙◌}
use Rattle.std.specs.Prelude.{IfOk, IfSome}
use Rattle.std.specs.declared.alloc.Global.{Global}
use Rattle.cbor_grammar.specs.declared.width.IntegerWidth.{IntegerWidth}
use Rattle.cbor_grammar.specs.declared.strings.StringKind.{StringKind}
use Rattle.cbor_grammar.specs.StringKind.{major_of}
use Rattle.cbor_grammar.specs.Reading.{read_chunk_length}
use Rattle.cbor_rules.specs.declared.rules.Rules.{Rules}
use Rattle.cbor_rules.specs.declared.kind.Violation.{Violation}
use Rattle.cbor_rules.specs.declared.check.Chunk.TheVariants as code
use Rattle.cbor_rules.specs.declared.check.Stop.{Stop}
use Rattle.cbor_rules.specs.declared.check.Stop.TheVariants as stop
use Rattle.cbor_rules.specs.FirstViolation.{Kept, kept_then, at, unless, number_violation, chunk_content, kept_content}
use Rattle.cbor_rules.specs.declared.kind.ViolationKind.{ViolationKind}
use Rattle.cbor_rules.specs.FirstViolation.{kept_chunk, KeyAt, Places, Open, pairs, value, violation_at, place_of}
use Rattle.cbor_rules.specs.FirstViolation.{front}
use Rattle.cbor_rules.specs.FirstViolation.{after_part}
use Rattle.cbor_rules.specs.FirstViolation.{key_violation, with_key, kept_atom}
use Rattle.cbor_grammar.specs.declared.argument.Argument.{Argument}
use Rattle.cbor_grammar.specs.declared.argument.Argument.TheVariants.{Number}
use Rattle.cbor_grammar.specs.declared.head.ItemHead.{ItemHead}
use Rattle.cbor_grammar.specs.declared.head.ItemHead.TheVariants as item_head
use Rattle.cbor_grammar.specs.Reading.{one_less}
use Rattle.cbor_rules.proofs.Heads.{kept_is}
use Rattle.cbor_rules.specs.mirror.Opened.{Gives, StopFits, kept_found, kept_key}

pub stops : {X Y : Type 0} (k : Kept X) (l : Kept Y) (s : Stop) → ((b : Violation) → k ≡ Err b → l ≡ Err b)
    → Gives k (Err s) → Gives l (Err s)
stops k l (stop.Violation b) whole h = whole b h
stops k l stop.OutOfMemory whole h = tt

pub content_stops : (rules : Rules) (total : ℕ) (kind : StringKind) (b r : List ℕ) (n : ℕ) (w : IntegerWidth)
    (s : Stop) → read_chunk_length (major_of kind) b ≡ Ok (Some (n, w), r) → number_violation rules n w ≡ None
    → Gives (kept_content rules total b kind n w r) (Err s) → Gives (kept_chunk rules total kind b) (Err s)
content_stops rules total kind b r n w s len none h =
    stops (kept_content rules total b kind n w r) (kept_chunk rules total kind b) s
    (λ d e. ap (λ q. kept_then (at total b q) (λ c. chunk_content rules total kind b c.0 c.1)) len
    ∙ ap (λ k. kept_then (unless total b k r)
    (λ r. kept_then (kept_content rules total b kind n w r) (λ after. Ok (code.Content, after)))) none
    ∙ ap (λ q. kept_then q (λ after. Ok (code.Content, after))) e) h

-- what stops the content of a string stops the string
pub string_stops : (rules : Rules) (total : ℕ) (b : List ℕ) (h : ItemHead) (kind : StringKind) (n : ℕ)
    (w : IntegerWidth) (r : List ℕ) (s : Stop) → h ≡ item_head.String kind (Number n w)
    → Gives (kept_content rules total b kind n w r) (Err s) → Gives (kept_atom rules total b h r) (Err s)
string_stops rules total b h kind n w r s is gives =
    subst (λ h. Gives (kept_atom rules total b h r) (Err s)) (sym is) gives

-- what is read of one is read of what equals it
pub gives_as : {X : Type 0} {k l : Kept X} (r : Result X Stop) → l ≡ k → Gives k r → Gives l r
gives_as r e h = subst (λ x. Gives x r) (sym e) h

-- ---- keys

found_stop : (total : ℕ) (b : List ℕ) (found : Option ViolationKind) (seen : Places) (x : Open) (d : Violation)
    → kept_found (place_of total b) found seen ≡ Err d → unless total b found x ≡ Err d
found_stop total b None seen x d e = absurd cc
found_stop total b (Some k) seen x d e = (let same : violation_at total b k ≡ d = cc in ap (λ z. Err z) same)

found_go : (total : ℕ) (b : List ℕ) (found : Option ViolationKind) (seen more : Places) (f : Places → Open)
    → kept_found (place_of total b) found seen ≡ Ok more → unless total b found (f seen) ≡ Ok (f more)
found_go total b None seen more f e = ap (λ z. Ok (f z)) (kept_is seen more e)
found_go total b (Some k) seen more f e = absurd cc

module _ (rules : Rules) (total : ℕ) (last : Option KeyAt) (seen : Places) (left : Argument) (b rest : List ℕ)
    (place : ℕ) (key : List ℕ) where
  pub key_stops : (d : Violation) → place ≡ place_of total b → key ≡ front b rest
      → kept_key rules last seen (record { place = place; bytes = key }) ≡ Err d
      → after_part rules total (pairs last seen left) b rest ≡ Err d
  key_stops d at is e =
      let k : KeyAt = record { place = place_of total b; bytes = front b rest } in
      found_stop total b (key_violation rules last seen (front b rest)) (with_key rules k seen)
      (value k (with_key rules k seen) (one_less left)) d (rw (at, is) at e)

  pub key_goes : (more : Places) → place ≡ place_of total b → key ≡ front b rest
      → kept_key rules last seen (record { place = place; bytes = key }) ≡ Ok more
      → after_part rules total (pairs last seen left) b rest
      ≡ Ok (value (record { place = place; bytes = key }) more (one_less left))
  key_goes more at is e =
      let k : KeyAt = record { place = place_of total b; bytes = front b rest } in
      rw (at, is) (found_go total b (key_violation rules last seen (front b rest)) (with_key rules k seen) more
      (λ s. value k s (one_less left)) (rw (at, is) at e))

-- ---- the first violation

pub found_first : {E : Type 0} (s : Stop) (result : Result (Option Violation) E) (k : Kept (List ℕ))
    (whole : Option Violation) → ((d : Violation) → k ≡ Err d → whole ≡ Some d) → Gives k (Err s)
    → IfOk result (λ found. (d : Violation) × (found ≡ Some d) × (s ≡ stop.Violation d))
    → IfOk result (λ found. found ≡ whole)
found_first s (Ok found) k whole stops gives h =
    h.1 ∙ sym (stops h.0 (subst (λ x. Gives k (Err x)) h.2 gives))
found_first s (Err e) k whole stops gives h = tt

pub found_within : {E : Type 0} (alloc : Option Global) (total n : ℕ) (s : Stop) (result : Result (Option Violation) E)
    → total ≡ n → StopFits alloc total s
    → IfOk result (λ found. (d : Violation) × (found ≡ Some d) × (s ≡ stop.Violation d))
    → IfOk result (λ found. IfSome found (λ d. d.place ≤ n))
found_within alloc total n s (Ok found) same fits h =
    let le : h.0.place ≤ total = subst (λ x. StopFits alloc total x) h.2 fits in
    rw h.1 (subst (λ (m : ℕ). h.0.place ≤ m) same le)
found_within alloc total n s (Err e) same fits h = tt
