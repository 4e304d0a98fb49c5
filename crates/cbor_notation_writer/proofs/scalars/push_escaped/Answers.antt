-- What is appended is the text with its quotes and backslashes escaped, also where it has none.
use Rattle.std.proofs.Common.{◌≡◌, ◌<◌, ◌+◌, ◌-◌, [], ◌∷◌, ◌++◌, length, get_or, take, drop, refl, sym, ap, ◌∙◌, arith}
use Rattle.std.proofs.lemmas.List.{drop-take}
use Rattle.cbor_tokens.specs.Ascii.{quote}
use Rattle.cbor_tokens.specs.Token.{in_quotes, is_special}
use Rattle.std.proofs.lemmas.Str.{IsCharBoundary-start, IsCharBoundary-before_ascii}
use Rattle.std.specs.String.{string_bytes}
use Rattle.cbor_tokens.proofs.texts.Appending.{begins_same, begins_still, appends_of, appends_as}
use Rattle.cbor_notation_writer.proofs.text.Scalars.{escaped_ascii, plain_text, plain_more, special_more}
use Rattle.cbor_notation_writer.proofs.scalars.push_escaped.Goals as goal
use Rattle.cbor_notation_writer.proofs.scalars.push_escaped.Goals.{then-is_escaped+in_ok-push_str+in_ok-push}
use Rattle.cbor_notation_writer.proofs.scalars.push_escaped.Goals.{else-is_escaped}

pub bytes-init : goal.bytes-init
bytes-init c = record {
  written = refl;
  begins = begins_same (string_bytes c.args.out.now);
  order =
      omega arith;
  boundary = IsCharBoundary-start c.args.content.now c.utf8.content;
}

pub bytes-preserved : goal.bytes-preserved
bytes-preserved c =
    let s = c.args.content.now in
    let i = c.bytes.invariant in
    let value = c.as_bytes-byte-items.ensures.value in
    let here : c.bytes.place < length s = omega (arith, c.as_bytes-byte-items.ensures.len) in
    let test : is_special quote (get_or s c.bytes.place 0) ≡ c.is_escaped.result =
    ap (λ x. is_special quote (get_or x c.bytes.place 0)) (sym value) ∙ sym c.is_escaped.ensures in
    elim c.if-is_escaped.branch [
      | then-is_escaped+in_ok-push_str+in_ok-push w ↦
          let special = test ∙ w.if-is_escaped.true in
          let end : c.bytes.done + (c.bytes.place - c.bytes.done) ≡ c.bytes.place = omega arith in
          let plain : w.range.result.now ≡ drop c.bytes.done (take c.bytes.place s) = w.range.ensures.value
          ∙ sym (drop-take c.bytes.done (c.bytes.place - c.bytes.done) s)
          ∙ ap (λ n. drop c.bytes.done (take n s)) end in
          let written = w.in_ok-push.ensures.bytes
          ∙ ap (λ x. string_bytes w.push_str-then-is_escaped.new.self ++ x)
          (w.in_ok-push.ensures.ascii (omega arith)) ∙ ap (λ x. x ++ 92 ∷ []) w.in_ok-push_str.ensures.bytes in
          rw (w.out-is, w.done-is) (record {
            written = special_more s c.bytes.done c.bytes.place (string_bytes c.bytes.out) (string_bytes c.args.out.now)
                w.range.result.now (string_bytes w.push.new.self) i.order here special plain written i.written;
            begins = begins_still (string_bytes c.args.out.now) (string_bytes w.push_str-then-is_escaped.new.self) _
                (string_bytes w.push.new.self)
                (begins_still (string_bytes c.args.out.now) (string_bytes c.bytes.out) _
                (string_bytes w.push_str-then-is_escaped.new.self) i.begins w.in_ok-push_str.ensures.bytes)
                w.in_ok-push.ensures.bytes;
            order = omega arith;
            boundary = IsCharBoundary-before_ascii s c.bytes.place here
                (escaped_ascii (get_or s c.bytes.place 0) special);
          })
      | else-is_escaped w ↦
          rw (w.out-is, w.done-is) (record {
            written = plain_more s c.bytes.done c.bytes.place (string_bytes c.bytes.out) (string_bytes c.args.out.now)
                i.order here (test ∙ w.if-is_escaped.false) i.written;
            begins = i.begins;
            order = omega arith;
            boundary = i.boundary;
          })
    ]

pub returns-then-not-has_escaped : goal.returns-then-not-has_escaped
returns-then-not-has_escaped c =
    let out = string_bytes c.args.out.now in
    let content = c.args.content.now in
    let plain = plain_text content (sym c.has_escaped.ensures ∙ c.if-not-has_escaped.true) in
    appends_as c.push_str.result out (string_bytes c.push_str.new.self) content (in_quotes quote content)
    (λ e. e ∙ ap (λ x. out ++ x) (sym plain))
    (appends_of c.push_str.result out (string_bytes c.push_str.new.self) content c.push_str.ensures.bytes)
