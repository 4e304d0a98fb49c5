-- The count is the number of kept bytes.
use Rattle.std.proofs.Common.{◌≡◌, ◌+◌, List, ℕ, [], ◌∷◌, length, get_or, arith, refl, sym}
use Rattle.std.proofs.lemmas.List.{length-append}
use Rattle.cbor_grammar.proofs.hex.Kept.{walk_starts, walk_steps, walk_ends, kept_shorter, steps_shorter}
use Rattle.cbor_bytes.proofs.hex_text.place.kept_count.Goals as goal

pub kept-init : goal.kept-init
kept-init c = record {
  walked = walk_starts (λ (bytes : List ℕ). length bytes ≡ 0) c.args.text.now c.at_kept-rest.result.now refl
      c.at_kept-rest.ensures.over c.at_kept-rest.ensures.kept;
  fits = omega (arith, kept_shorter c.args.text.now c.at_kept-rest.result.now [] c.at_kept-rest.ensures.over);
}

pub kept-preserved : goal.kept-preserved
kept-preserved c =
    let rest = c.kept.rest.now in
    let to = c.at_kept-rest-in-len1-up.result.now in
    let e = c.at_kept-rest-in-len1-up.ensures in
    record {
      walked = walk_steps (λ (bytes : List ℕ). length bytes ≡ c.kept.count)
          (λ (bytes : List ℕ). length bytes ≡ c.kept.count + 1) c.args.text.now rest to
          (λ bytes is. omega (arith, length-append bytes (get_or rest 0 0 ∷ []))) c.kept.invariant.walked
          c.in-len1-up.len_at_least e.over e.kept;
      fits = omega (arith, steps_shorter rest to c.in-len1-up.len_at_least e.over);
    }

pub kept-smaller : goal.kept-smaller
kept-smaller c = steps_shorter c.kept.rest.now c.at_kept-rest-in-len1-up.result.now c.in-len1-up.len_at_least
    c.at_kept-rest-in-len1-up.ensures.over

pub returns : goal.returns
returns c = sym (walk_ends (λ (bytes : List ℕ). length bytes ≡ c.kept.count) c.args.text.now c.kept.rest.now
    (omega arith) c.kept.invariant.walked)
