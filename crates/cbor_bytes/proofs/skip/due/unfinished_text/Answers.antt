-- Of a text that is cut the rest is due: from its last whole character on, or all if it is not UTF-8.
use Rattle.std.proofs.Common.{◌-◌, length, arith}
use Rattle.std.proofs.lemmas.List.{take_rest, length-drop}
use Rattle.cbor_grammar.specs.declared.strings.StringKind.TheVariants.{Text}
use Rattle.cbor_bytes.proofs.skipping.Scans.{content_waits, bad_waits}
use Rattle.cbor_bytes.proofs.skip.due.unfinished_text.Goals as goal

pub returns-then-rest-lt4 : goal.returns-then-rest-lt4
returns-then-rest-lt4 c =
    let b = c.args.bytes.now in
    let n = c.whole_chars-whole.result in
    rw (take_rest b n) (content_waits Text c.args.left n c.args.chunked b c.whole_chars-whole.ensures.within
    c.whole_chars-whole.ensures.front (omega arith) (omega (arith, length-drop n b)))

pub returns-else-rest-lt4 : goal.returns-else-rest-lt4
returns-else-rest-lt4 c =
    let b = c.args.bytes.now in
    let n = c.whole_chars-whole.result in
    bad_waits c.args.left n (c.args.left - length b - 1) c.args.chunked b c.whole_chars-whole.ensures
    (omega (arith, length-drop n b)) (omega arith)
