use Rattle.std.proofs.Common.{◌≡◌, ℕ, List, refl, sym, ap, ◌∙◌, arith}
use Rattle.cbor_notes.specs.Layout.{width_of}
use Rattle.cbor_dump.specs.Dump.{lines_at_level, top}
use Rattle.cbor_grammar.specs.Item.{Item}
use Rattle.cbor_grammar.proofs.bytes.Heads.{ok_is}
use Rattle.cbor_dump.proofs.dump.Fronts.{whole_dump}
use Rattle.cbor_bytes.proofs.reading.Levels.{level_read, same_read}
use Rattle.cbor_dump.proofs.walk.dump.Goals as goal

pub returns-clause-dumped : goal.returns-clause-dumped
returns-clause-dumped c =
    let level = c.args.level in
    let b = c.args.bytes.now in
    let m = c.in_ok-width.ensures.width in
    let d = c.in_ok-rest.ensures.dumped in
    let rest = c.in_ok-rest.rest.now in
    let read = same_read c.top.result.level level b rest d.item c.top.ensures.level d.reads in
    let both = ok_is (m.0, c.in_ok-width.field-0-1.now) (d.item, rest) (sym m.1 ∙ read) in
    let same : m.0 ≡ d.item = ap (λ (x : Item × List ℕ). x.0) both in
    let whole : c.in_ok-width.width ≡ width_of (lines_at_level level top 0 m.0) = omega (arith, m.2) in
    let wide = c.new.ensures.width ∙ whole ∙ ap (λ j. width_of (lines_at_level level top 0 j)) same in (
      d.item,
      read,
      whole_dump c.top.result level d.item _ c.dump_front.new.walk c.top.ensures.level c.top.ensures.context
          (level_read level b rest d.item read) refl c.new.ensures.out c.new.ensures.prefix wide d.wrote,
    )
