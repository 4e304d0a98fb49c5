-- A string is written as its length says.
use Rattle.std.proofs.Common.{◌≡◌, ℕ, List, [], ◌∷◌, ◌++◌, length, sym, ap, subst, ◌∙◌, arith, Ok}
use Rattle.cbor_grammar.specs.declared.width.IntegerWidth.{IntegerWidth}
use Rattle.cbor_grammar.specs.declared.argument.Argument.{Argument}
use Rattle.cbor_grammar.specs.declared.head.ItemHead.TheVariants as item_head
use Rattle.cbor_grammar.specs.declared.strings.StringKind.{StringKind}
use Rattle.cbor_grammar.specs.StringKind.{major_of}
use Rattle.cbor_grammar.specs.Head.{FitsStated, shortest, opening}
use Rattle.cbor_grammar.specs.Reading.{read_head}
use Rattle.cbor_grammar.specs.Written.{encoded_head}
use Rattle.cbor_grammar.proofs.bytes.Heads.{head_takes, IsBytes, ArgumentThen}
use Rattle.cbor_reencode.specs.mirror.Rewritten.{Joined}
use Rattle.cbor_reencode.proofs.Atoms.{string_again, joined_again, chunked_again}
use Rattle.cbor_reencode.proofs.encoder.Encoder.push_string.Goals as goal

-- the head of a string of such a size
head_at : (kind : StringKind) (size a : Argument) (b rest : List ℕ) → IsBytes b
    → read_head b ≡ Ok (item_head.String kind size, rest) → size ≡ a → ArgumentThen (major_of kind) a b rest
head_at kind size a b rest fits read is =
    subst (λ (x : Argument). ArgumentThen (major_of kind) x b rest) is
    (head_takes b rest (item_head.String kind size) fits read).0

pub width-requires : goal.width-requires
width-requires c =
    (head_at c.args.kind c.args.size _ c.args.bytes.now c.args.rest.now (λ i. omega (arith, c.type_inv.bytes i))
    c.requires c.in-Number.is).0

pub returns-in_ok-push_content-in-Number-clause-writes : goal.returns-in_ok-push_content-in-Number-clause-writes
returns-in_ok-push_content-in-Number-clause-writes c =
    let kind = c.args.kind in
    let r = c.args.rest.now in
    let h = head_at kind c.args.size _ c.args.bytes.now r (λ i. omega (arith, c.type_inv.bytes i)) c.requires
    c.in-Number.is in
    let t = c.in_ok-content-in-Number in
    let content = t.content.now in
    let is = c.in_ok-push_content-in-Number.ensures ∙ ap (λ (w : IntegerWidth). c.args.out.now.items
    ++ (encoded_head (major_of kind) (length content) w ++ content)) c.width.ensures.is in
    string_again c.args.self.rules kind c.in-Number.count c.in-Number.width c.args.bytes.now r content t.after.now
    c.args.out.now.items c.push_content.new.out.items h t.ensures.parts t.ensures.size t.ensures.holds is

pub returns-in_ok-push_content-in-Indefinite-clause-writes :
    goal.returns-in_ok-push_content-in-Indefinite-clause-writes
returns-in_ok-push_content-in-Indefinite-clause-writes c =
    let h = head_at c.args.kind c.args.size _ c.args.bytes.now c.args.rest.now
    (λ i. omega (arith, c.type_inv.bytes i)) c.requires c.in-Indefinite.is in
    let after = c.in_ok-after-in-Indefinite.after.now in
    let content = c.deref.result.now in
    let len : c.len.result ≡ length content = omega (arith, c.len.ensures, c.deref.ensures.len) in
    let joined : Joined c.args.kind c.args.rest.now after [] content =
    subst (λ (x : List ℕ). Joined c.args.kind c.args.rest.now after [] x) (sym c.deref.ensures.value)
    (subst (λ (x : List ℕ). Joined c.args.kind c.args.rest.now after x c.push_joined.new.content.items)
    c.new-content.ensures.items c.in_ok-after-in-Indefinite.ensures.joins) in
    let width = c.shortest-width.ensures.same ∙ ap shortest len in
    let fits : FitsStated (shortest (length content)) (length content) =
    subst (λ k. FitsStated (shortest k) k) len
    (subst (λ (w : IntegerWidth). FitsStated w c.len.result) c.shortest-width.ensures.same
    c.shortest-width.ensures.fits)
    in
    let is = c.in_ok-push_content-in-Indefinite.ensures ∙ ap (λ (w : IntegerWidth). c.args.out.now.items
    ++ (encoded_head (major_of c.args.kind) (length content) w ++ content)) width in
    joined_again c.args.self.rules c.args.kind c.args.bytes.now c.args.rest.now after content c.args.out.now.items
    c.push_content-in-Indefinite.new.out.items h joined fits is

pub returns-in_ok-push_close-in-Indefinite-2-clause-writes :
    goal.returns-in_ok-push_close-in-Indefinite-2-clause-writes
returns-in_ok-push_close-in-Indefinite-2-clause-writes c =
    let h = head_at c.args.kind c.args.size _ c.args.bytes.now c.args.rest.now
    (λ i. omega (arith, c.type_inv.bytes i)) c.requires c.in-Indefinite-2.is in
    let opened = c.in_ok-push_open-in-Indefinite-2.ensures
    ∙ ap (λ m. c.args.out.now.items ++ (opening m ∷ [])) c.major.ensures in
    chunked_again c.args.self.rules c.args.kind c.args.bytes.now c.args.rest.now c.in_ok-after-in-Indefinite-2.after.now
    c.args.out.now.items c.push_open.new.out.items c.push_chunks.new.out.items c.push_close.new.out.items h
    c.if-self.false opened c.in_ok-after-in-Indefinite-2.ensures.writes c.in_ok-push_close-in-Indefinite-2.ensures
