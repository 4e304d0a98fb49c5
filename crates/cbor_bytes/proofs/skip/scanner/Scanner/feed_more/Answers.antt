-- After more bytes the scanner has scanned all that were fed.
use Rattle.std.proofs.Common.{◌≡◌, ℕ, List, ◌++◌, length, sym, subst, ◌∙◌, arith}
use Rattle.std.proofs.lemmas.List.{length-append}
use Rattle.cbor_bytes.specs.Scanning.{IsAnswer}
use Rattle.cbor_grammar.proofs.bytes.Heads.{IsBytes}
use Rattle.cbor_bytes.proofs.skipping.ScanAnswers.{bytes_append, scanned_more}
use Rattle.cbor_bytes.proofs.skip.scanner.Scanner.feed_more.Goals as goal

pub returns-clause-scanned : goal.returns-clause-scanned
returns-clause-scanned c = λ fed h lt.
    let s = c.args.self.now in
    let b = c.args.bytes.now in
    let all : List ℕ = fed ++ b in
    let p = c.after_more-scanned.new.progress in
    let count : ℕ = c.saturating_add-self.result in
    let kept = subst (IsAnswer s.fed s.progress fed) c.requires h.answer in
    let fits : IsBytes all = bytes_append fed b h.bytes (λ i. omega (arith, c.type_inv.bytes i)) in
    let whole : count ≡ length all =
    c.saturating_add-self.ensures ∙ omega (arith, kept.0, length-append fed b) in
    let scanned = scanned_more count p all c.after_more-scanned.result fits whole
    (c.after_more-scanned.ensures.whole fed kept.1) (c.after_more-scanned.ensures.stops fed kept.1) in
    record {
      bytes = fits;
      answer = subst (IsAnswer count p all) (sym c.answer_of-self.ensures) scanned;
    }
