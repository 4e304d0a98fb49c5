-- The place is that of a kept byte that is no digit, and those kept before are digits.
use Rattle.std.proofs.Common.{◌≡◌, true, ℕ, [], ◌∷◌, get_or, arith}
use Rattle.std.proofs.Common.{sym, ap, ◌∙◌}
use Rattle.std.specs.List.{AllPass}
use Rattle.std.proofs.lemmas.List.Elements.{All-append}
use Rattle.hex.specs.Hex.{is_hex_digit}
use Rattle.cbor_grammar.proofs.hex.Kept.{walk_starts, walk_steps, walk_ends, walk_place, walk_front, walk_byte}
use Rattle.cbor_grammar.proofs.hex.Kept.{steps_shorter, same_digits, one_passes, none_pass}
use Rattle.cbor_bytes.proofs.hex_text.place.bad_place.Goals as goal

pub kept-init : goal.kept-init
kept-init c = walk_starts (AllPass is_hex_digit) c.args.text.now c.at_kept-rest.result.now (none_pass is_hex_digit)
    c.at_kept-rest.ensures.over c.at_kept-rest.ensures.kept

pub kept-preserved : goal.kept-preserved
kept-preserved c =
    let rest = c.kept.rest.now in
    let digit : is_hex_digit (get_or rest 0 0) ≡ true = sym (same_digits (get_or rest 0 0))
    ∙ sym c.is_ascii_hexdigit.ensures.value ∙ c.if-not-is_ascii_hexdigit.false in
    walk_steps (AllPass is_hex_digit) (AllPass is_hex_digit) c.args.text.now rest
    c.at_kept-rest-in-len1-up.result.now
    (λ bytes all. All-append (λ (x : ℕ). is_hex_digit x ≡ true) bytes (get_or rest 0 0 ∷ []) all
    (one_passes is_hex_digit (get_or rest 0 0) digit)) c.kept.invariant c.in-len1-up.len_at_least
    c.at_kept-rest-in-len1-up.ensures.over c.at_kept-rest-in-len1-up.ensures.kept

pub kept-smaller : goal.kept-smaller
kept-smaller c = steps_shorter c.kept.rest.now c.at_kept-rest-in-len1-up.result.now c.in-len1-up.len_at_least
    c.at_kept-rest-in-len1-up.ensures.over

pub returns-then-not-is_ascii_hexdigit-clause-kept : goal.returns-then-not-is_ascii_hexdigit-clause-kept
returns-then-not-is_ascii_hexdigit-clause-kept c = walk_place (AllPass is_hex_digit) c.args.text.now c.kept.rest.now
    c.kept.invariant c.in-len1-up.len_at_least

pub returns-then-not-is_ascii_hexdigit-clause-before : goal.returns-then-not-is_ascii_hexdigit-clause-before
returns-then-not-is_ascii_hexdigit-clause-before c = walk_front (AllPass is_hex_digit) c.args.text.now c.kept.rest.now
    c.kept.invariant

pub returns-then-not-is_ascii_hexdigit-clause-bad : goal.returns-then-not-is_ascii_hexdigit-clause-bad
returns-then-not-is_ascii_hexdigit-clause-bad c =
    ap is_hex_digit (walk_byte (AllPass is_hex_digit) c.args.text.now c.kept.rest.now c.kept.invariant)
    ∙ sym (same_digits (get_or c.kept.rest.now 0 0)) ∙ sym c.is_ascii_hexdigit.ensures.value
    ∙ c.if-not-is_ascii_hexdigit.true

pub returns-clause-none : goal.returns-clause-none
returns-clause-none c = λ e. walk_ends (AllPass is_hex_digit) c.args.text.now c.kept.rest.now (omega arith)
    c.kept.invariant
