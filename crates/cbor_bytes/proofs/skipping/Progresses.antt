-- For `skip/progress.rt`: before the first byte, a scan waits for one whole item. If the held bytes and the next byte
-- (or, if none is held, the rest of the bytes) end the item, have a fault or leave the scan waiting, the same is true
-- of all bytes so far. An end or a fault is within the bytes.
use Rattle.std.proofs.Common.{◌≡◌, ℕ, ◌+◌, ◌-◌, ◌<◌, ◌≤◌, List, [], ◌∷◌, ◌++◌, length, get_or, take, drop}
use Rattle.std.proofs.Common.{Some, refl, sym, ap, subst, ◌∙◌}
use Rattle.std.proofs.Common.{append_assoc, arith}
use Rattle.std.proofs.lemmas.List.{append-nil, length-append, length-take, take_all}
use Rattle.cbor_grammar.specs.declared.error.Error.{Error}
use Rattle.cbor_bytes.specs.declared.skip.Stop.{Stop}
use Rattle.cbor_bytes.specs.declared.skip.Stop.TheVariants as stops
use Rattle.cbor_bytes.specs.declared.skip.due.Due.TheVariants as due
use Rattle.cbor_bytes.specs.declared.skip.progress.Progress.{Progress}
use Rattle.cbor_bytes.specs.declared.skip.to_come.ToCome.{ToCome}
use Rattle.cbor_grammar.specs.Item.{no_items}
use Rattle.cbor_grammar.specs.Reading.{items_in}
use Rattle.cbor_grammar.specs.WellFormed.{deepest}
use Rattle.cbor_bytes.specs.mirror.Skipping.{Skip, here, Goes, FailsAt, skip_item, frame_of, argument_of}
use Rattle.cbor_bytes.specs.mirror.Scanning.{skip_from, Waits}
use Rattle.cbor_bytes.specs.mirror.Scanned.{EndsBefore, StopsAt}
use Rattle.cbor_bytes.proofs.skipping.Skips.{goes_at, goes_then, shows_then, no_item}
use Rattle.cbor_bytes.proofs.skipping.SkippedParts.{first_goes}
use Rattle.cbor_bytes.proofs.skipping.Scans.{waits_then}
use Rattle.cbor_bytes.proofs.skipping.ScannedParts.{goes_more, shows_more}

-- before the first byte
pub first_waits : (outer : List ToCome) (top : ToCome) (held : List ℕ) → outer ≡ []
    → frame_of top ≡ items_in no_items (argument_of (Some 1)) → held ≡ []
    → Waits (skip_item deepest) (skip_from outer top due.Part) [] held
first_waits outer top held none is empty =
    subst (λ (h : List ℕ). Waits (skip_item deepest) (skip_from outer top due.Part) [] h) (sym empty)
    (subst (λ (o : List ToCome). Waits (skip_item deepest) (skip_from o top due.Part) [] []) (sym none) (record {
      goes = first_goes [] top is;
      cut = sym (goes_at (first_goes [] top is)) ∙ no_item deepest;
      few = omega arith;
    }))

-- no more bytes follow than there are
pub ends_within : {f : List ℕ → Skip} (b : List ℕ) (after : ℕ) → EndsBefore f b after → after ≤ length b
ends_within b after e = omega (arith, ap length e.1.parts, length-append e.1.over e.0, e.2)

-- the first byte, and the bytes after it
abbrev pub behind_first : List ℕ → List ℕ
behind_first b = take (length b - 1) (drop 1 b)

first_is : (b : List ℕ) → 1 ≤ length b → b ≡ get_or b 0 0 ∷ behind_first b
first_is [] some = absurd (omega arith)
first_is (first ∷ b) some = ap (λ (x : List ℕ). first ∷ x) (sym (take_all (length (first ∷ b) - 1) b (omega arith)))

empty_is : (b : List ℕ) → length b < 1 → b ≡ []
empty_is [] none = refl
empty_is (first ∷ b) none = absurd (omega arith)

pub behind_within : (b : List ℕ) → length (behind_first b) ≤ length b
behind_within b = omega (arith, length-take (length b - 1) (drop 1 b))

pub shows_within : {f : List ℕ → Skip} (b : List ℕ) (e : Error) (after : ℕ) → FailsAt f b e after → after ≤ length b
shows_within b e after s = omega (arith, ap length s.parts, length-append s.before (s.last ∷ s.behind), s.count)

-- the bytes seen so far and the rest are all
module _ (F G : List ℕ → Skip) (seen held rest all : List ℕ) (w : Waits F G seen held)
    (parts : seen ++ rest ≡ all) where
  -- no byte is left
  pub all_waits : length rest < 1 → Waits F G all held
  all_waits none = subst (λ (z : List ℕ). Waits F G z held)
      (sym (append-nil seen) ∙ ap (λ (z : List ℕ). seen ++ z) (sym (empty_is rest none)) ∙ parts) w

  -- the next byte is seen with those that are held
  module _ (some : 1 ≤ length rest) (b : List ℕ) (is : b ≡ held ++ get_or rest 0 0 ∷ []) where
    one : List ℕ
    one = get_or rest 0 0 ∷ []

    next_parts : (seen ++ one) ++ behind_first rest ≡ all
    unfolding one
    next_parts = append_assoc seen one (behind_first rest)
        ∙ ap (λ (z : List ℕ). seen ++ z) (sym (first_is rest some)) ∙ parts

    next_goes : Goes F G (seen ++ one) b
    unfolding one
    next_goes = subst (Goes F G (seen ++ one)) (sym is) (goes_more one w.goes)

    pub byte_ends : (over : ℕ) → EndsBefore G b over → EndsBefore F all (over + length (behind_first rest))
    byte_ends over e = (
      e.0 ++ behind_first rest,
      subst (λ (z : List ℕ). Goes F here z (e.0 ++ behind_first rest)) next_parts
          (goes_more (behind_first rest) (goes_then next_goes e.1)),
      length-append e.0 (behind_first rest) ∙ ap (λ (n : ℕ). n + length (behind_first rest)) e.2,
    )

    pub byte_shows : (error : Error) (after : ℕ) → FailsAt G b error after
        → FailsAt F all error (after + length (behind_first rest))
    byte_shows error after s = subst (λ (z : List ℕ). FailsAt F z error (after + length (behind_first rest))) next_parts
        (shows_more (behind_first rest) (shows_then next_goes s))

    pub byte_waits : (H : List ℕ → Skip) (left : List ℕ) → Waits G H b left
        → (z : List ℕ) × (z ++ behind_first rest ≡ all) × Waits F H z left
    byte_waits H left v = (seen ++ one, next_parts, waits_then next_goes v)

  -- nothing is held
  rest_goes : length held < 1 → Goes F G all rest
  rest_goes none = subst (λ (z : List ℕ). Goes F G z rest) parts
      (subst (λ (h : List ℕ). Goes F G (seen ++ rest) (h ++ rest)) (empty_is held none) (goes_more rest w.goes))

  pub rest_ends : length held < 1 → (after : ℕ) → EndsBefore G rest after → EndsBefore F all after
  rest_ends none after e = (e.0, goes_then (rest_goes none) e.1, e.2)

  pub rest_stops : length held < 1 → (p : Progress) (stop : Stop) → StopsAt p G rest stop → StopsAt p F all stop
  rest_stops none p stops.Cut v = waits_then (rest_goes none) v
  rest_stops none p (stops.Fault e after) s = shows_then (rest_goes none) s
