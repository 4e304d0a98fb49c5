-- An `End` that is right by `StopsSo` is right by `EndsSo`, too, and is not `Full`. If bytes begin with an item,
-- dropping that item passes one item (`OneThen`) and leaves fewer bytes; a call that passed no item before passes at
-- most one (`OneAtMost`).
use Rattle.std.proofs.Common.{◌≡◌, ℕ, ◌<◌, List, length, take, drop, inl, inr, refl, sym, ap, subst}
use Rattle.std.proofs.Common.{arith, length-append, take-append-drop}
use Rattle.cbor_grammar.specs.Item.{Item}
use Rattle.cbor_grammar.specs.Facts.{BeginsWithItem}
use Rattle.cbor_paths.specs.declared.end.End.{End}
use Rattle.cbor_paths.specs.declared.end.End.TheVariants as end
use Rattle.cbor_paths.specs.Sequence.{OneThen, OneAtMost}
use Rattle.cbor_paths.specs.Ends.{EndsSo, StopsSo}
use Rattle.cbor_paths.proofs.Fronts.{front_length}

-- ---- ends

pub ends_so : (rest : List ℕ) (e : End) → StopsSo rest e → EndsSo rest e
ends_so rest end.Full h = absurd h
ends_so rest end.Done h = h
ends_so rest end.Cut h = h
ends_so rest (end.Fault error shown) h = h
ends_so rest end.Remaining h = h
ends_so rest (end.TwoByteSimple at) h = h
ends_so rest (end.Lost len) h = h
ends_so rest end.Memory h = h

pub not_full : (rest : List ℕ) (e : End) → StopsSo rest e → e ≡ end.Full → ⊥
not_full rest e h is = subst (StopsSo rest) is h

-- ---- one item

pub one_then : (b : List ℕ) (n : ℕ) → (i : Item) × BeginsWithItem b i n → OneThen b (drop n b)
one_then b n h = (h.0, take n b, sym (take-append-drop n b), h.1.2)

-- bytes that were scanned before their first item was passed
pub passes_one : (old scanned new : List ℕ) (n : ℕ) → scanned ≡ old → (i : Item) × BeginsWithItem scanned i n
    → new ≡ drop n scanned → OneThen old new
passes_one old scanned new n same begins next =
    subst (λ (x : List ℕ). OneThen x new) same
    (subst (λ (x : List ℕ). OneThen scanned x) (sym next) (one_then scanned n begins))

pub one_shorter : (b rest : List ℕ) → OneThen b rest → length rest < length b
one_shorter b rest h =
    omega (arith, ap length h.2, length-append h.1 rest, front_length h.1 h.0 h.3)

pub one_if_first : (b : List ℕ) (used n : ℕ) → used ≡ 0 → (i : Item) × BeginsWithItem (drop used b) i n
    → OneAtMost b (drop n (drop used b))
one_if_first b used n none h =
    let P : ℕ → Type 0 = λ k. ((i : Item) × BeginsWithItem (drop k b) i n) → OneAtMost b (drop n (drop k b)) in
    let first : P 0 = λ begins. inr (one_then b n begins) in
    subst P (sym none) first h

pub none_if_first : (b : List ℕ) (used : ℕ) → used ≡ 0 → OneAtMost b (drop used b)
none_if_first b used none = subst (λ (k : ℕ). OneAtMost b (drop k b)) (sym none) (inl refl)
