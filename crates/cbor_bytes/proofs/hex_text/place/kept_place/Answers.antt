-- The place is that of the kept byte with this number, if there are as many.
use Rattle.std.proofs.Common.{◌≡◌, ◌+◌, ◌-◌, List, ℕ, [], ◌∷◌, length, get_or, arith, refl}
use Rattle.std.proofs.lemmas.List.{length-append}
use Rattle.cbor_grammar.proofs.hex.Kept.{walk_starts, walk_steps, walk_ends, walk_place, walk_front, kept_shorter}
use Rattle.cbor_grammar.proofs.hex.Kept.{steps_shorter, place_count}
use Rattle.cbor_bytes.proofs.hex_text.place.kept_place.Goals as goal

pub kept-init : goal.kept-init
kept-init c = record {
  walked = walk_starts (λ (bytes : List ℕ). length bytes ≡ 0) c.args.text.now c.at_kept-rest.result.now refl
      c.at_kept-rest.ensures.over c.at_kept-rest.ensures.kept;
  fits = omega (arith, kept_shorter c.args.text.now c.at_kept-rest.result.now [] c.at_kept-rest.ensures.over);
  within = omega arith;
}

pub kept-preserved : goal.kept-preserved
kept-preserved c =
    let rest = c.kept.rest.now in
    let to = c.at_kept-rest-in-len1-up.result.now in
    let e = c.at_kept-rest-in-len1-up.ensures in
    record {
      walked = walk_steps (λ (bytes : List ℕ). length bytes ≡ c.kept.before)
          (λ (bytes : List ℕ). length bytes ≡ c.kept.before + 1) c.args.text.now rest to
          (λ bytes is. omega (arith, length-append bytes (get_or rest 0 0 ∷ []))) c.kept.invariant.walked
          c.in-len1-up.len_at_least e.over e.kept;
      fits = omega (arith, steps_shorter rest to c.in-len1-up.len_at_least e.over);
      within = omega arith;
    }

pub kept-smaller : goal.kept-smaller
kept-smaller c = steps_shorter c.kept.rest.now c.at_kept-rest-in-len1-up.result.now c.in-len1-up.len_at_least
    c.at_kept-rest-in-len1-up.ensures.over

pub returns-then-before-n-clause-some : goal.returns-then-before-n-clause-some
returns-then-before-n-clause-some c =
    let counts = λ (bytes : List ℕ). length bytes ≡ c.kept.before in
    let walked = c.kept.invariant.walked in
    let before : length (_) ≡ c.kept.before = walk_front counts c.args.text.now c.kept.rest.now walked in
    record {
      here = walk_place counts c.args.text.now c.kept.rest.now walked c.in-len1-up.len_at_least;
      before = omega arith;
    }

pub returns-then-before-n-clause-none : goal.returns-then-before-n-clause-none
returns-then-before-n-clause-none c =
    let counts = λ (bytes : List ℕ). length bytes ≡ c.kept.before in
    let walked = c.kept.invariant.walked in
    let more = place_count c.args.text.now (length c.args.text.now - length c.kept.rest.now)
    (walk_place counts c.args.text.now c.kept.rest.now walked c.in-len1-up.len_at_least) in
    let before = walk_front counts c.args.text.now c.kept.rest.now walked in
    ((λ e. absurd cc), (λ le. absurd (omega (arith, more, before))))

pub returns-clause-none : goal.returns-clause-none
returns-clause-none c =
    let all = walk_ends (λ (bytes : List ℕ). length bytes ≡ c.kept.before) c.args.text.now c.kept.rest.now
    (omega arith) c.kept.invariant.walked in
    ((λ e. omega (arith, all)), (λ le. refl))
