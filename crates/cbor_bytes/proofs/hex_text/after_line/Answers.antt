-- What follows is what is after the first line feed, or nothing.
use Rattle.std.proofs.Common.{ℕ, ◌+◌, ◌==◌, drop, length, sym, ap, ◌∙◌, arith}
use Rattle.std.specs.List.{position_or_len}
use Rattle.std.proofs.lemmas.List.{drop_all, take_rest}
use Rattle.cbor_bytes.proofs.hex.Search.{found_at, found_none}
use Rattle.cbor_bytes.proofs.hex_text.after_line.Goals as goal

pub returns-in-Some : goal.returns-in-Some
returns-in-Some c =
    take_rest c.args.text.now (c.in-Some.end + 1)
    ∙ ap (λ (k : ℕ). drop (k + 1) c.args.text.now)
    (sym (found_at (λ b. b == 10) c.args.text.now c.in-Some.end c.in-Some.ensures))

pub returns-in-None : goal.returns-in-None
returns-in-None c =
    let whole = found_none (λ (b : ℕ). b == 10) c.args.text.now c.in-None.ensures in
    take_rest c.args.text.now (length c.args.text.now)
    ∙ drop_all (length c.args.text.now) c.args.text.now (omega arith)
    ∙ sym (drop_all (position_or_len (λ (b : ℕ). b == 10) c.args.text.now + 1) c.args.text.now (omega (arith, whole)))
