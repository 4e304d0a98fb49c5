-- The answer is how all bytes that were fed begin, and an item or a fault stays.
use Rattle.std.proofs.Common.{ℕ, List, ◌++◌, sym, subst, ◌∙◌, arith}
use Rattle.cbor_bytes.specs.Extent.{IsExtent}
use Rattle.cbor_bytes.specs.Scanning.{HasScanned}
use Rattle.cbor_bytes.proofs.skipping.ScanAnswers.{answered_more, bytes_append, extent_once, scanned_extent}
use Rattle.cbor_bytes.proofs.skip.scanner.Scanner.feed.Goals as goal

pub returns-in-Cut-clause-answer : goal.returns-in-Cut-clause-answer
returns-in-Cut-clause-answer c = λ fed h lt.
    subst (IsExtent (fed ++ c.args.bytes.now)) c.feed_more.ensures.answer
    (scanned_extent c.feed_more.new.self (fed ++ c.args.bytes.now) (c.feed_more.ensures.scanned fed h lt))

pub returns-in-Cut-clause-only : goal.returns-in-Cut-clause-only
returns-in-Cut-clause-only c = λ fed answer h lt is.
    let all : List ℕ = fed ++ c.args.bytes.now in
    let scanned = c.feed_more.ensures.scanned fed h lt in
    sym c.feed_more.ensures.answer ∙ extent_once all c.feed_more.new.self.answer answer scanned.bytes
    (scanned_extent c.feed_more.new.self all scanned) is

pub returns-in-Cut-clause-stays : goal.returns-in-Cut-clause-stays
returns-in-Cut-clause-stays c = λ fed answer h is other.
    absurd (other (extent_once fed answer c.args.self.now.answer h.bytes is (scanned_extent c.args.self.now fed h)
    ∙ c.in-Cut.is))

pub returns-in_default : goal.returns-in_default
returns-in_default c =
    let s = c.args.self.now in
    let b = c.args.bytes.now in
    let more : (fed : List ℕ) → HasScanned s fed → HasScanned s (fed ++ b) = λ fed h. record {
      bytes = bytes_append fed b h.bytes (λ i. omega (arith, c.type_inv.bytes i));
      answer = answered_more s.fed s.progress fed b s.answer c.in_default.not-Cut h.answer;
    } in
    record {
      scanned = λ fed h lt. more fed h;
      answer = λ fed h lt. scanned_extent s (fed ++ b) (more fed h);
      only = λ fed answer h lt is. extent_once (fed ++ b) s.answer answer (more fed h).bytes
          (scanned_extent s (fed ++ b) (more fed h)) is;
      stays = λ fed answer h is other. extent_once fed s.answer answer h.bytes (scanned_extent s fed h) is;
    }
