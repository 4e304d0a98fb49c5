-- An item without parts is written as its head says.
use Rattle.std.proofs.Common.{◌≡◌, ℕ, List, subst, arith, Ok}
use Rattle.cbor_grammar.specs.declared.width.FloatWidth.{FloatWidth}
use Rattle.cbor_grammar.specs.declared.width.FloatWidth.TheVariants as float_width
use Rattle.cbor_grammar.specs.declared.head.ItemHead.{ItemHead}
use Rattle.cbor_grammar.specs.declared.head.ItemHead.TheVariants as item_head
use Rattle.cbor_grammar.specs.WellFormed.{FitsFloat}
use Rattle.cbor_grammar.specs.Reading.{read_head}
use Rattle.cbor_grammar.proofs.bytes.Heads.{head_takes, IsBytes, HeadIs}
use Rattle.cbor_floats.specs.declared.float.EncodedFloat.{EncodedFloat}
use Rattle.cbor_reencode.specs.mirror.Numbers.{IsNumber}
use Rattle.cbor_reencode.proofs.Atoms.{integer_again, negative_again, simple_again, number_again}
use Rattle.cbor_reencode.proofs.encoder.Encoder.push_atom.Goals as goal
use Rattle.cbor_reencode.proofs.encoder.Encoder.push_atom.Goals.{in-Integer+in_ok-push_number-in-Integer}
use Rattle.cbor_reencode.proofs.encoder.Encoder.push_atom.Goals.{in-Negative+in_ok-push_number-in-Negative}
use Rattle.cbor_reencode.proofs.encoder.Encoder.push_atom.Goals.{in-Float+in_ok-push_reduced-in-Float}
use Rattle.cbor_reencode.proofs.encoder.Encoder.push_atom.Goals.{in-Simple+in_ok-push_strict-in-Simple}

head_at : (h k : ItemHead) (b rest : List ℕ) → IsBytes b → read_head b ≡ Ok (h, rest) → h ≡ k → HeadIs k b rest
head_at h k b rest fits read is = subst (λ (x : ItemHead). HeadIs x b rest) is (head_takes b rest h fits read).0

float_fits : (bits : ℕ) (w : FloatWidth) (b rest : List ℕ) → HeadIs (item_head.Float bits w) b rest → FitsFloat w bits
float_fits bits float_width.Unknown b rest h = absurd h
float_fits bits float_width.Sixteen b rest h = h.0
float_fits bits float_width.ThirtyTwo b rest h = h.0
float_fits bits float_width.SixtyFour b rest h = h.0

pub push_number-requires : goal.push_number-requires
push_number-requires c =
    (head_at c.args.head _ c.args.bytes.now c.args.rest.now (λ i. omega (arith, c.type_inv.bytes i)) c.requires.read
    c.in-Integer.is).0

pub push_number-requires-in-Negative : goal.push_number-requires-in-Negative
push_number-requires-in-Negative c =
    (head_at c.args.head _ c.args.bytes.now c.args.rest.now (λ i. omega (arith, c.type_inv.bytes i)) c.requires.read
    c.in-Negative.is).0

pub float_of-requires : goal.float_of-requires
float_of-requires c =
    float_fits c.in-Float.bits c.in-Float.width c.args.bytes.now c.args.rest.now
    (head_at c.args.head _ c.args.bytes.now c.args.rest.now (λ i. omega (arith, c.type_inv.bytes i)) c.requires.read
    c.in-Float.is)

pub returns-clause-writes : goal.returns-clause-writes
returns-clause-writes c =
    let rules = c.args.self.rules in
    let b = c.args.bytes.now in
    let rest = c.args.rest.now in
    let old = c.args.out.now.items in
    let fits : IsBytes b = λ i. omega (arith, c.type_inv.bytes i) in
    elim c.match-head.branch [
      | in-Integer+in_ok-push_number-in-Integer w ↦
          let h = head_at c.args.head _ b rest fits c.requires.read w.in-Integer.is in
          let new = w.push_number.new.out.items in
          rw w.out-is (integer_again rules w.in-Integer.number w.in-Integer.width b rest old new h
          w.in_ok-push_number-in-Integer.ensures)
      | in-Negative+in_ok-push_number-in-Negative w ↦ rw w.out-is (negative_again rules w.in-Negative.number
          w.in-Negative.width b rest old w.push_number-in-Negative.new.out.items
          (head_at c.args.head _ b rest fits c.requires.read w.in-Negative.is)
          w.in_ok-push_number-in-Negative.ensures)
      | in-Float+in_ok-push_reduced-in-Float w ↦
          let is = subst (λ (f : EncodedFloat). IsNumber rules f w.reduced.result) w.float_of.ensures.is
          w.reduced.ensures
          in
          rw w.out-is (number_again rules w.in-Float.bits w.in-Float.width w.reduced.result b rest old
          w.push_reduced.new.out.items (head_at c.args.head _ b rest fits c.requires.read w.in-Float.is) is
          w.in_ok-push_reduced-in-Float.ensures)
      | in-Simple+in_ok-push_strict-in-Simple w ↦
          let e = w.in_ok-push_strict-in-Simple.ensures in
          rw w.out-is (simple_again rules w.in-Simple.value b rest old w.push_strict.new.out.items
          (head_at c.args.head _ b rest fits c.requires.read w.in-Simple.is) e.strict e.writes)
    ]
