use Rattle.std.proofs.Common.{◌≡◌, ◌++◌, ◌<◌, [], length, append-nil, sym, arith}
use Rattle.std.proofs.lemmas.Bool.Decides.{nat_tests}
use Rattle.std.proofs.lemmas.Result.{on_ok_weaker}
use Rattle.std.specs.Prelude.{codes}
use Rattle.std.specs.String.{string_bytes}
use Rattle.cbor_edn_writer.specs.Elements.{MoreElements}
use Rattle.cbor_edn_writer.proofs.writing.Elements.{size_is, one_fits, rest_whole, no_more, others, one_more, appended}
use Rattle.cbor_edn_writer.proofs.writing.Elements.{two_pieces, three_pieces}
use Rattle.cbor_edn_writer.proofs.print.elements.+push_more.Goals as goal

pub returns-then-is_empty : goal.returns-then-is_empty
returns-then-is_empty t c =
    let none : length c.args.bytes.now ≡ 0 = grind (arith, nat_tests) in
    ([], no_more c.args.of.tag c.args.left c.args.bytes.now none, sym (append-nil (string_bytes c.args.text.now)))

pub returns-then-left-eq0 : goal.returns-then-left-eq0
returns-then-left-eq0 t c =
    let old = string_bytes c.args.text.now in
    let mid = string_bytes c.push_str.new.self in
    let new = string_bytes c.push_str-then-left-eq0.new.self in
    let some : 0 < length c.args.bytes.now = grind (arith, nat_tests) in
    let is : MoreElements c.args.of.tag c.args.left c.args.bytes.now (codes ", ..") =
    rw c.if-left-eq0.true (others c.args.of.tag c.args.bytes.now some) in
    on_ok_weaker c.push_str-then-left-eq0.result
    (λ e. (codes ", ..", is, two_pieces old mid new (codes ", ") (codes "..") c.in_ok-push_str.ensures.bytes e))
    (appended c.push_str-then-left-eq0.result mid new (codes "..") c.push_str-then-left-eq0.ensures.bytes)

pub split_at-requires : goal.split_at-requires
split_at-requires t c =
    let some : 0 < length c.args.bytes.now = grind (arith, nat_tests) in
    one_fits (length c.args.bytes.now) c.args.of.size c.requires.whole some

pub push_more-requires : goal.push_more-requires
push_more-requires t c =
    let size = size_is c.args.of.tag c.args.of.size c.requires.shown in (
      omega arith,
      (
        c.requires.shown,
        rest_whole (length c.args.bytes.now) c.args.of.size (length c.split_at.result.1.now) c.requires.whole
            c.split_at.ensures.back_len,
      ),
    )

pub returns : goal.returns
returns t c =
    let old = string_bytes c.args.text.now in
    let mid = string_bytes c.push_str.new.self in
    let later = string_bytes c.push_element.new.text in
    let new = string_bytes c.push_more.new.text in
    let some : 0 < length c.args.bytes.now = grind (arith, nat_tests) in
    let element = c.in_ok-push_element.ensures in
    let ensured = c.split_at.ensures in
    on_ok_weaker c.push_more.result
    (λ m. (
      codes ", " ++ (element.0 ++ m.0),
      one_more c.args.of.tag c.args.of.size c.args.left c.args.bytes.now c.split_at.result.0.now
          c.split_at.result.1.now element.0 m.0 c.requires.shown (omega arith) some ensured.front ensured.back
          element.1 m.1,
      three_pieces old mid later new (codes ", ") element.0 m.0 c.in_ok-push_str.ensures.bytes element.2 m.2,
    ))
    c.push_more.ensures
