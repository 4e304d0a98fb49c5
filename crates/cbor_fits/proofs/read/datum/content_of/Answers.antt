-- Each turn appends the content of a chunk.
use Rattle.std.proofs.Common.{◌+◌, ◌++◌, map, drop, ap, sym, ◌∙◌, arith}
use Rattle.std.proofs.lemmas.List.{append_assoc, append-nil, at_drop_all}
use Rattle.cbor_fits.specs.Decoded.{content_of}
use Rattle.cbor_fits.proofs.InOrder.{at_item}
use Rattle.cbor_fits.proofs.read.datum.content_of.Goals as goal

pub chunks-init : goal.chunks-init
chunks-init g c =
    let chunk = g.S.DefiniteString.chunk in
    ap (λ l. l ++ content_of (map chunk c.args.chunks.now)) c.new-content.ensures.items

pub chunks-preserved : goal.chunks-preserved
chunks-preserved g c =
    let chunk = g.S.DefiniteString.chunk in
    let done = c.chunks.content.items in
    let part = (chunk c.chunk-item.result).bytes in
    let left = content_of (map chunk (drop (c.chunks.chunk-index + 1) c.args.chunks.now)) in
    let added = c.in_ok-extend_from_slice.ensures.items
    ∙ ap (λ p. done ++ p) (c.as_bytes.ensures.bytes ∙ c.content.ensures.bytes) in
    ap (λ l. l ++ left) added ∙ (append_assoc done part left
    ∙ (ap (λ l. done ++ l) (sym (at_item (λ cs. content_of (map chunk cs)) c.args.chunks.now c.chunks.chunk-index
    c.chunk-item.result (omega arith) c.chunk-item.is)) ∙ c.chunks.invariant))

pub returns : goal.returns
returns g c =
    let chunk = g.S.DefiniteString.chunk in
    let done = c.chunks.content.items in
    sym (append-nil done) ∙ (ap (λ l. done ++ l) (sym (at_drop_all (λ cs. content_of (map chunk cs)) c.args.chunks.now
    c.chunks.chunk-index (omega arith))) ∙ c.chunks.invariant)
