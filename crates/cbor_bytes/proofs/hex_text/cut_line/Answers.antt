-- What is kept of a text is what is kept of its first line and of the lines after it.
use Rattle.std.proofs.Common.{ℕ, ◌+◌, ◌++◌, List, take, length, sym, ap, ◌∙◌, arith, append-nil}
use Rattle.std.proofs.lemmas.List.{drop_all, take_rest}
use Rattle.cbor_tokens.specs.Uncommented.{unspaced, uncommented}
use Rattle.cbor_grammar.proofs.hex.Lines.{cut_whole, cut_feed, cut_comment}
use Rattle.cbor_bytes.proofs.hex.Search.{neither_at, neither_before, either_here}
use Rattle.cbor_bytes.proofs.hex_text.cut_line.Goals as goal

pub returns-in-None-clause-kept : goal.returns-in-None-clause-kept
returns-in-None-clause-kept c =
    let nothing = take_rest c.args.text.now (length c.args.text.now)
    ∙ drop_all (length c.args.text.now) c.args.text.now (omega arith) in
    rw nothing (cut_whole c.args.text.now (neither_at c.args.text.now c.in-None.ensures)
    ∙ sym (append-nil (unspaced c.args.text.now)))

pub returns-in-Some-clause-kept : goal.returns-in-Some-clause-kept
returns-in-Some-clause-kept c =
    let found = c.in-Some.ensures in
    let behind = c.after_line.ensures in
    let rest = take_rest c.args.text.now c.in-Some.end in
    cut_comment c.args.text.now c.in-Some.end (omega (arith, found.0.high))
    (neither_before c.args.text.now c.in-Some.end found) c.if-text-end-eq35.true
    ∙ ap (λ (after : List ℕ). unspaced (take c.in-Some.end c.args.text.now) ++ uncommented after)
    (sym (rw rest at behind))

pub returns-in-Some-2-clause-kept : goal.returns-in-Some-2-clause-kept
returns-in-Some-2-clause-kept c =
    let found = c.in-Some.ensures in
    let line = c.without_return.ensures in
    let rest = take_rest c.args.text.now (c.in-Some.end + 1) in
    rw (rest, line) (cut_feed c.args.text.now c.in-Some.end (omega (arith, found.0.high))
    (neither_before c.args.text.now c.in-Some.end found)
    (either_here c.args.text.now c.in-Some.end found c.if-text-end-eq35.false))
