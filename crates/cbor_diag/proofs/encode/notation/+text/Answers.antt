-- What is appended for an item, its members or a tag is its text in notation.
use Rattle.std.proofs.Common.{◌≡◌, ◌+◌, ℕ, List, ◌++◌, map, drop, ap, sym, subst, ◌∙◌, append_assoc, arith}
use Rattle.std.proofs.lemmas.List.{drop_all}
use Rattle.std.specs.String.{string_bytes}
use Rattle.cbor_tokens.specs.Appends.{Appends}
use Rattle.cbor_grammar.specs.Item as spec
use Rattle.cbor_grammar.specs.Item.{Items, atom, array, integer, negative, string, chunked_string, float, simple}
use Rattle.cbor_diag.specs.View.{view, items_view, pairs_view}
use Rattle.cbor_grammar.specs.Strings.{byte_chunk, text_chunk}
use Rattle.cbor_notation_writer.specs.declared.context.NotationContext.{NotationContext}
use Rattle.cbor_grammar.specs.Context.{Context}
use Rattle.cbor_grammar.specs.declared.strings.StringKind.TheVariants.{Bytes, Text}
use Rattle.cbor_notation_writer.specs.mirror.LayoutView.{context_view, item_text, content_there, chunks_there}
use Rattle.cbor_grammar.specs.NotationText.{text, inside, members, members_layout, colon, item_texts, pair_texts}
use Rattle.cbor_grammar.specs.NotationText.{array_text, map_text, below}
use Rattle.cbor_grammar.specs.NotationText.{text_at_level}
use Rattle.cbor_grammar.specs.WellFormed.{WellFormedItems, WellFormedPairs}
use Rattle.cbor_tokens.proofs.texts.Appending.{begins_two, begins_after_member, appends_last}
use Rattle.cbor_diag.proofs.shared.Views.{view-Integer, view-Negative, view-ByteString, view-TextString}
use Rattle.cbor_diag.proofs.shared.Views.{view-IndefiniteByteString, view-IndefiniteTextString, view-Float, view-Simple}
use Rattle.cbor_notation_writer.proofs.text.Scalars.{members_left, drop_here, member_more, members_end}
use Rattle.cbor_grammar.proofs.text.Parts.{write_below, shown, bracketed_written, opened_again, tag_shown}
use Rattle.cbor_diag.proofs.text.MemberParts.{items_rest, pairs_rest}
use Rattle.cbor_diag.proofs.encode.notation.+text.Goals as goal

regroup : (out key between value : List ℕ) → ((out ++ key) ++ between) ++ value ≡ out ++ (key ++ (between ++ value))
regroup out key between value = simp append_assoc

-- an item right below is written by its context, which is this one
writes_inner : (inner : NotationContext) (level : ℕ) (c : Context) → inner.level ≡ level → context_view inner ≡ c
    → item_text inner ≡ text_at_level level c
writes_inner inner level c p q = ap (λ n. text_at_level n (context_view inner)) p ∙ ap (text_at_level level) q

pub push_item-returns-in-Integer : goal.push_item-returns-in-Integer
push_item-returns-in-Integer t c =
    let seen = ap view c.in-Integer.is ∙ view-Integer c.in-Integer.value c.in-Integer.bitwidth in
    shown c.push_number.result c.args.context.now.level (context_view c.args.context.now) (view c.args.item.now)
    (atom (integer c.in-Integer.value c.in-Integer.bitwidth))
    (string_bytes c.args.out.now) (string_bytes c.push_number.new.out) c.requires.well_formed seen c.push_number.ensures

pub push_item-returns-in-Negative : goal.push_item-returns-in-Negative
push_item-returns-in-Negative t c =
    let seen = ap view c.in-Negative.is ∙ view-Negative c.in-Negative.value c.in-Negative.bitwidth in
    shown c.push_negative.result c.args.context.now.level (context_view c.args.context.now) (view c.args.item.now)
    (atom (negative c.in-Negative.value c.in-Negative.bitwidth))
    (string_bytes c.args.out.now) (string_bytes c.push_negative.new.out) c.requires.well_formed seen
    c.push_negative.ensures

pub push_item-returns-in-Float : goal.push_item-returns-in-Float
push_item-returns-in-Float t c =
    let seen = ap view c.in-Float.is ∙ view-Float c.in-Float.bits c.in-Float.bitwidth in
    shown c.push_float.result c.args.context.now.level (context_view c.args.context.now) (view c.args.item.now)
    (atom (float c.in-Float.bits c.in-Float.bitwidth))
    (string_bytes c.args.out.now) (string_bytes c.push_float.new.out) c.requires.well_formed seen c.push_float.ensures

pub push_item-returns-in-Simple : goal.push_item-returns-in-Simple
push_item-returns-in-Simple t c =
    let seen = ap view c.in-Simple.is ∙ view-Simple c.in-Simple.simple in
    shown c.push_simple.result c.args.context.now.level (context_view c.args.context.now) (view c.args.item.now)
    (atom (simple c.in-Simple.simple.0))
    (string_bytes c.args.out.now) (string_bytes c.push_simple.new.out) c.requires.well_formed seen c.push_simple.ensures

pub push_item-returns-in-ByteString : goal.push_item-returns-in-ByteString
push_item-returns-in-ByteString t c =
    let seen = ap view c.in-ByteString.is ∙ view-ByteString c.in-ByteString.string in
    let old = string_bytes c.args.out.now in
    let new = string_bytes c.push_content.new.out in
    let context = c.args.context.now in
    shown c.push_content.result context.level (context_view context) (view c.args.item.now)
    (atom (string Bytes (byte_chunk c.in-ByteString.string))) old new c.requires.well_formed seen
    (subst
    (λ (b : List ℕ). Appends c.push_content.result old new (content_there context context.content b))
    c.deref.ensures.value c.push_content.ensures)

pub push_item-returns-in-TextString : goal.push_item-returns-in-TextString
push_item-returns-in-TextString t c =
    let seen = ap view c.in-TextString.is ∙ view-TextString c.in-TextString.string in
    let old = string_bytes c.args.out.now in
    let new = string_bytes c.push_text.new.out in
    let context = c.args.context.now in
    shown c.push_text.result context.level (context_view context) (view c.args.item.now)
    (atom (string Text (text_chunk c.in-TextString.string))) old new c.requires.well_formed seen
    (subst (λ (b : List ℕ). Appends c.push_text.result old new (text b)) c.as_str.ensures.value c.push_text.ensures)

pub push_item-returns-in-IndefiniteByteString : goal.push_item-returns-in-IndefiniteByteString
push_item-returns-in-IndefiniteByteString t c =
    let seen = ap view c.in-IndefiniteByteString.is ∙ view-IndefiniteByteString c.in-IndefiniteByteString.chunks in
    let old = string_bytes c.args.out.now in
    let new = string_bytes c.push_chunks.new.out in
    shown c.push_chunks.result c.args.context.now.level (context_view c.args.context.now) (view c.args.item.now)
    (atom (chunked_string Bytes (map byte_chunk c.in-IndefiniteByteString.chunks.items))) old new
    c.requires.well_formed seen
    (subst (λ vs. Appends c.push_chunks.result old new (chunks_there c.args.context.now Bytes (map byte_chunk vs)))
    c.deref-in-IndefiniteByteString.ensures.value c.push_chunks.ensures)

pub push_item-returns-in-IndefiniteTextString : goal.push_item-returns-in-IndefiniteTextString
push_item-returns-in-IndefiniteTextString t c =
    let seen = ap view c.in-IndefiniteTextString.is ∙ view-IndefiniteTextString c.in-IndefiniteTextString.chunks in
    let old = string_bytes c.args.out.now in
    let new = string_bytes c.push_chunks-in-IndefiniteTextString.new.out in
    shown c.push_chunks-in-IndefiniteTextString.result c.args.context.now.level (context_view c.args.context.now)
    (view c.args.item.now) (atom (chunked_string Text (map text_chunk c.in-IndefiniteTextString.chunks.items))) old new
    c.requires.well_formed seen
    (subst (λ vs. Appends c.push_chunks-in-IndefiniteTextString.result old new
    (chunks_there c.args.context.now Text (map text_chunk vs)))
    c.deref-in-IndefiniteTextString.ensures.value c.push_chunks-in-IndefiniteTextString.ensures)

pub push_array-returns : goal.push_array-returns
push_array-returns t c =
    let old = string_bytes c.args.out.now in
    let written = string_bytes c.push_items.new.out in
    let new = string_bytes c.push_closing.new.out in
    let context = context_view c.args.context.now in
    let level = c.args.context.now.level in
    let l = c.array_style-style.result in
    let members = items_view c.args.items.now.items in
    let begun = begins_two old (string_bytes c.push_opening.new.out) _ _ written c.in_ok-push_opening.ensures
    c.in_ok-push_items.ensures in
    appends_last c.push_closing.result old written new _ _ begun
    (λ e. opened_again level context (array members c.args.width) old new c.requires.level
    (bracketed_written l _ _ _ old (string_bytes c.push_opening.new.out) written new c.in_ok-push_opening.ensures
    c.in_ok-push_items.ensures e
    ∙ ap (λ k. old ++ array_text (write_below level) context k members c.args.width) c.array_style-style.ensures))
    c.push_closing.ensures

pub push_map-returns : goal.push_map-returns
push_map-returns t c =
    let old = string_bytes c.args.out.now in
    let written = string_bytes c.push_pairs.new.out in
    let new = string_bytes c.push_closing.new.out in
    let context = context_view c.args.context.now in
    let level = c.args.context.now.level in
    let l = c.map_style-style.result in
    let members = pairs_view c.args.pairs.now.items in
    let begun = begins_two old (string_bytes c.push_opening.new.out) _ _ written c.in_ok-push_opening.ensures
    c.in_ok-push_pairs.ensures in
    appends_last c.push_closing.result old written new _ _ begun
    (λ e. opened_again level context (spec.map members c.args.width) old new c.requires.level
    (bracketed_written l _ _ _ old (string_bytes c.push_opening.new.out) written new c.in_ok-push_opening.ensures
    c.in_ok-push_pairs.ensures e
    ∙ ap (λ k. old ++ map_text (write_below level) context k members c.args.width) c.map_style-style.ensures))
    c.push_closing.ensures

pub push_tagged-returns : goal.push_tagged-returns
push_tagged-returns t c =
    let level = c.args.context.now.level in
    let context = context_view c.args.context.now in
    let opening = c.in_ok-push.ensures.bytes
    ∙ ap (λ x. string_bytes c.push_number.new.out ++ x) (c.in_ok-push.ensures.ascii (omega arith)) in
    let closing = c.in_ok-push-2.ensures.bytes
    ∙ ap (λ x. string_bytes c.push_item.new.out ++ x) (c.in_ok-push-2.ensures.ascii (omega arith)) in
    let writes = writes_inner c.below.result (level + 1) (below c.args.head.0.0 context) c.below.ensures.level
    c.below.ensures.context in
    let item = c.in_ok-push_item.ensures ∙ ap (λ f. string_bytes c.push.new.self ++ f (view c.args.value.now)) writes in
    tag_shown level context (view c.args.value.now) c.args.head.0.0 c.args.head.1 (string_bytes c.args.out.now)
    (string_bytes c.push_number.new.out)
    (string_bytes c.push.new.self) (string_bytes c.push_item.new.out) (string_bytes c.push-2.new.self)
    c.requires.well_formed.0
    c.in_ok-push_number.ensures opening item closing

pub push_items-items-preserved : goal.push_items-items-preserved
push_items-items-preserved t c =
    let all = c.deref-item-items.result.now in
    let i = c.items.item-index in
    let v = c.item-item.result in
    let l = c.args.style in
    let write = item_text c.inside-inner.result in
    let rest = item_texts write (items_view (drop (i + 1) all)) in
    let left = ap (λ ms. string_bytes c.items.out ++ members_left l c.items.first ms)
    (sym (items_rest write all i v c.items-test.true c.item-item.is)) ∙ c.items.invariant.written in
    let well = subst (λ vs. WellFormedItems c.inside-inner.result.level (items_view vs))
    (drop_here all i v c.items-test.true c.item-item.is) c.items.invariant.well in
    let begun = begins_after_member (string_bytes c.args.out.now) (string_bytes c.items.out)
    (string_bytes c.push_start.new.out)
    (string_bytes c.push_item.new.out) (string_bytes c.push_end.new.out) _ _ _ c.items.invariant.begins
    c.in_ok-push_start.ensures c.in_ok-push_item.ensures c.in_ok-push_end.ensures in
    record {
      written = member_more l c.items.first (write (view v)) rest (string_bytes c.items.out)
          (string_bytes c.push_start.new.out) (string_bytes c.push_item.new.out) (string_bytes c.push_end.new.out) _
          c.in_ok-push_start.ensures c.in_ok-push_item.ensures c.in_ok-push_end.ensures left;
      well = well.1;
      begins = begun;
    }

pub push_items-returns : goal.push_items-returns
push_items-returns t c =
    let l = c.args.style in
    let context = c.args.context.now in
    let write = item_text c.inside-inner.result in
    let none = ap (λ vs. string_bytes c.items.out ++ members_left l c.items.first (item_texts write (items_view vs)))
    (sym (drop_all c.items.item-index c.deref-item-items.result.now c.items-test.false)) ∙ c.items.invariant.written in
    let writes =
    writes_inner c.inside-inner.result (context.level + 1) (inside (members_layout l) (context_view context))
    c.inside-inner.ensures.level
    (c.inside-inner.ensures.context ∙ ap (λ x. inside x (context_view context)) c.members_layout.ensures) in
    members_end l c.items.first (string_bytes c.items.out) _ _ none
    ∙ ap (λ vs. string_bytes c.args.out.now ++ members l (item_texts write (items_view vs)))
    c.deref-item-items.ensures.value
    ∙ ap (λ f. string_bytes c.args.out.now ++ members l (item_texts f (items_view c.args.items.now.items))) writes

pub push_pairs-pairs-preserved : goal.push_pairs-pairs-preserved
push_pairs-pairs-preserved t c =
    let all = c.deref-key-items.result.now in
    let i = c.pairs.key-index in
    let v = c.pairs-item.result in
    let l = c.args.style in
    let write = item_text c.inside-inner.result in
    let rest = pair_texts write (colon l) (pairs_view (drop (i + 1) all)) in
    let pair = c.in_ok-push_item-2.ensures
    ∙ ap (λ x. x ++ write (view v.1))
    (c.in_ok-push_colon.ensures ∙ ap (λ x. x ++ colon l) c.in_ok-push_item.ensures)
    ∙ regroup (string_bytes c.push_start.new.out) (write (view v.0)) (colon l) (write (view v.1)) in
    let left = ap (λ ms. string_bytes c.pairs.out ++ members_left l c.pairs.first ms)
    (sym (pairs_rest write (colon l) all i v c.pairs-test.true c.pairs-item.is)) ∙ c.pairs.invariant.written in
    let well = subst (λ vs. WellFormedPairs c.inside-inner.result.level (pairs_view vs))
    (drop_here all i v c.pairs-test.true c.pairs-item.is) c.pairs.invariant.well in
    let begun = begins_after_member (string_bytes c.args.out.now) (string_bytes c.pairs.out)
    (string_bytes c.push_start.new.out)
    (string_bytes c.push_item-in-pairs.new.out) (string_bytes c.push_end.new.out) _ _ _ c.pairs.invariant.begins
    c.in_ok-push_start.ensures pair c.in_ok-push_end.ensures in
    record {
      written = member_more l c.pairs.first (write (view v.0) ++ (colon l ++ write (view v.1))) rest
          (string_bytes c.pairs.out) (string_bytes c.push_start.new.out) (string_bytes c.push_item-in-pairs.new.out)
          (string_bytes c.push_end.new.out) _ c.in_ok-push_start.ensures pair c.in_ok-push_end.ensures left;
      well = well.2;
      begins = begun;
    }

pub push_pairs-returns : goal.push_pairs-returns
push_pairs-returns t c =
    let l = c.args.style in
    let context = c.args.context.now in
    let write = item_text c.inside-inner.result in
    let none =
    ap (λ vs. string_bytes c.pairs.out ++ members_left l c.pairs.first (pair_texts write (colon l) (pairs_view vs)))
    (sym (drop_all c.pairs.key-index c.deref-key-items.result.now c.pairs-test.false)) ∙ c.pairs.invariant.written in
    let writes =
    writes_inner c.inside-inner.result (context.level + 1) (inside (members_layout l) (context_view context))
    c.inside-inner.ensures.level
    (c.inside-inner.ensures.context ∙ ap (λ x. inside x (context_view context)) c.members_layout.ensures) in
    members_end l c.pairs.first (string_bytes c.pairs.out) _ _ none
    ∙ ap (λ vs. string_bytes c.args.out.now ++ members l (pair_texts write (colon l) (pairs_view vs)))
    c.deref-key-items.ensures.value
    ∙ ap
    (λ f. string_bytes c.args.out.now ++ members l (pair_texts f (colon l) (pairs_view c.args.pairs.now.items)))
    writes
