-- For `Containers::after_part` in `skip/containers.rt`: if a string in an open container pauses (it is incomplete or
-- has a fault), skipping over all that is open (`skip_open`) pauses there, with one part less to come after the string.
-- If the head of the next part is cut, skipping waits for the head. Also, steps and faults stay if more bytes follow.
use Rattle.std.proofs.Common.{◌≡◌, ℕ, ◌+◌, ◌-◌, ◌<◌, ◌≤◌, List, ◌∷◌, ◌++◌, length, None, Ok, Err, refl, ap, ◌∙◌}
use Rattle.std.proofs.Common.{append_assoc, arith}
use Rattle.std.proofs.lemmas.List.{length-append}
use Rattle.cbor_grammar.specs.declared.error.Error.{Error}
use Rattle.cbor_grammar.specs.declared.error.Error.TheVariants as refusal
use Rattle.cbor_bytes.specs.declared.skip.Stop.TheVariants as stops
use Rattle.cbor_bytes.specs.declared.skip.due.Due.TheVariants as due
use Rattle.cbor_bytes.specs.declared.skip.due.Pause.{Pause}
use Rattle.cbor_bytes.specs.declared.skip.due.Pause.TheVariants as pause
use Rattle.cbor_bytes.specs.declared.skip.to_come.ToCome.{ToCome}
use Rattle.cbor_grammar.specs.WellFormed.{deepest}
use Rattle.cbor_grammar.specs.Reading.{◌>>=◌, after_end}
use Rattle.cbor_bytes.specs.mirror.Skipping.{Skip, Goes, FailsAt, skip_item, frame_of, closing, skip_open}
use Rattle.cbor_bytes.specs.mirror.Scanning.{skip_due, skip_from, Waits, Pauses}
use Rattle.cbor_bytes.proofs.skipping.Skips.{goes_then, goes_within, goes_here, shows_then, stops_within}
use Rattle.cbor_bytes.proofs.skipping.SkippedParts.{wanted, wanted_err, next_same, part_goes, part_stops, Next}

module _ (outer : List ToCome) (top next : ToCome) where
  -- a part that goes on so, with one part less to come after it
  pub string_goes : (f : List ℕ → Skip) (b rest : List ℕ) → None ≡ after_end (frame_of top) b → Next top next
      → length rest < length b → Goes (skip_item (deepest - length outer)) f b rest
      → Goes (skip_open outer top) (λ c. f c >>= skip_open outer next) b rest
  string_goes f b rest none is lt goes =
      goes_then (part_goes outer top f b rest none lt goes) (goes_here rest (λ c. on (f c)))
    where
      on : (r : Skip) → wanted outer top r ≡ (r >>= skip_open outer next)
      on (Ok c) = ap (closing deepest outer) (next_same (deepest - length outer) top next c is)
      on (Err e) = wanted_err outer top e

  pub string_pauses : (f : List ℕ → Skip) (b r : List ℕ) (p : Pause) → None ≡ after_end (frame_of top) b
      → Next top next → length r < length b → Goes (skip_item (deepest - length outer)) f b r → Pauses skip_due f r p
      → Pauses (skip_from outer next) (skip_open outer top) b p
  string_pauses f b r (pause.Cut d rest) none is lt head w =
      let shorter : length rest.now < length b =
      omega (arith, ap length w.goes.parts, length-append w.goes.over rest.now) in
      record {
        goes = string_goes (skip_due d) b rest.now none is shorter (goes_then head w.goes);
        cut = ap (λ (s : Skip). s >>= skip_open outer next) w.cut;
        few = w.few;
      }
  string_pauses f b r (pause.Fault e after) none is lt head s =
      part_stops outer top b (stops.Fault e after) none (shows_then head s)

-- before the head of a part
pub part_waits : (outer : List ToCome) (top : ToCome) (b : List ℕ) → None ≡ after_end (frame_of top) b
    → skip_item (deepest - length outer) b ≡ Err refusal.CutShort → length b ≤ 8
    → Waits (skip_open outer top) (skip_from outer top due.Part) b b
part_waits outer top b none cut few =
    record { goes = goes_here b (λ c. refl); cut = part_stops outer top b stops.Cut none cut; few = few }

-- what is due of a string, and what is open round it
pub pauses_open : (outer : List ToCome) (top : ToCome) (f : List ℕ → Skip) (b : List ℕ) (p : Pause)
    → Pauses skip_due f b p → Pauses (skip_from outer top) (λ c. f c >>= skip_open outer top) b p
pauses_open outer top f b (pause.Cut d rest) w = record {
  goes = goes_within (λ (s : Skip). s >>= skip_open outer top) w.goes;
  cut = ap (λ (s : Skip). s >>= skip_open outer top) w.cut;
  few = w.few;
}
pauses_open outer top f b (pause.Fault e after) s =
    stops_within f b (stops.Fault e after) (λ (r : Skip). r >>= skip_open outer top) (λ e. refl) s

-- ---- more bytes

pub goes_more : {f g : List ℕ → Skip} {b r : List ℕ} (p : List ℕ) → Goes f g b r → Goes f g (b ++ p) (r ++ p)
goes_more {r = r} p x = record {
  over = x.over;
  parts = ap (λ (z : List ℕ). z ++ p) x.parts ∙ append_assoc x.over r p;
  along = x.along;
}

pub shows_more : {f : List ℕ → Skip} {b : List ℕ} {e : Error} {after : ℕ} (p : List ℕ) → FailsAt f b e after
    → FailsAt f (b ++ p) e (after + length p)
shows_more p s = record {
  before = s.before;
  last = s.last;
  behind = s.behind ++ p;
  parts = ap (λ (z : List ℕ). z ++ p) s.parts ∙ append_assoc s.before (s.last ∷ s.behind) p;
  count = length-append s.behind p ∙ ap (λ (n : ℕ). n + length p) s.count;
  cut = s.cut;
  fails = s.fails;
  other = s.other;
}
