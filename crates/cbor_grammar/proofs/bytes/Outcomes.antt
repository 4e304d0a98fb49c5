-- For calls that read an input: if `read_item` returns an item, this is the `Outcome` of the input, and an error other
-- than `CutShort` is its fault, unless memory ran out. An input that is not one whole item has only one error
-- (`IsRefused`), and an input that is one has none. If a head holds content, memory may be needed (`MayWantMemory`).
use Rattle.std.proofs.Common.{◌≡◌, ◌≢◌, ℕ, ◌+◌, ◌-◌, ◌*◌, ◌/◌, ◌%◌, ◌<◌, ◌≤◌, List, [], ◌∷◌, length, take, Ok}
use Rattle.std.proofs.Common.{refl}
use Rattle.std.proofs.Common.{ap}
use Rattle.std.proofs.Common.{◌∙◌, arith, inl, inr}
use Rattle.std.proofs.lemmas.List.{append-nil, length-append, take_at}
use Rattle.cbor_grammar.specs.declared.error.Error.{Error}
use Rattle.cbor_grammar.specs.declared.error.Error.TheVariants as refusal
use Rattle.cbor_grammar.specs.declared.width.IntegerWidth.{IntegerWidth}
use Rattle.cbor_grammar.specs.declared.width.IntegerWidth.TheVariants.{Unknown, Zero, Eight, Sixteen, ThirtyTwo}
use Rattle.cbor_grammar.specs.declared.width.IntegerWidth.TheVariants.{SixtyFour}
use Rattle.cbor_grammar.specs.declared.argument.Argument.{Argument}
use Rattle.cbor_grammar.specs.declared.argument.Argument.TheVariants.{Number, Indefinite}
use Rattle.cbor_grammar.specs.declared.head.ItemHead.TheVariants as item_head
use Rattle.cbor_grammar.specs.declared.head.ItemHead.{ItemHead}
use Rattle.cbor_grammar.specs.declared.strings.StringKind.TheVariants.{Bytes, Text}
use Rattle.cbor_grammar.specs.Item.{Item}
use Rattle.cbor_grammar.specs.Head.{HeadThen}
use Rattle.cbor_grammar.specs.Bytes.{any, Spells}
use Rattle.cbor_grammar.specs.Refused.{Fault, too_deep, bad_head, bad_text, bad_chunk_head, bad_chunk_text, bad_part}
use Rattle.cbor_grammar.specs.Answer.{spelled, IsOutcome, IsRefused, UnlessMemory}
use Rattle.cbor_grammar.specs.Answer.{MayWantMemory}
use Rattle.cbor_grammar.specs.Reading.{Fails, read_head, read_item}
use Rattle.cbor_grammar.specs.mirror.Counting.{HoldsContent}
use Rattle.cbor_grammar.proofs.bytes.Heads.{IsBytes, ArgumentThen, HeadIs, head_takes}
use Rattle.cbor_grammar.proofs.bytes.CutShort.{cut_takes}
use Rattle.cbor_grammar.proofs.bytes.Found.{item_takes}
use Rattle.cbor_grammar.proofs.bytes.Faults.{fault_takes}
use Rattle.std.proofs.Common.{sym, ◌⊎◌}
use Rattle.std.proofs.lemmas.List.{take_all}
use Rattle.cbor_grammar.specs.Answer.{Outcome, cut, fault, OneOutcome}

-- ---- where memory may be needed

number_opens : (major n : ℕ) (w : IntegerWidth) (b rest : List ℕ) → 2 ≤ major → major ≤ 6
    → HeadThen major n w b (λ r. r ≡ rest) → MayWantMemory b
number_opens major n Unknown b rest low high h = absurd h.0
number_opens major n Zero b rest low high h =
    let fits : n < 24 = h.0 in
    rw h.2 (omega arith, omega arith, inl (omega arith))
number_opens major n Eight b rest low high h = rw h.2 (omega arith, omega arith, inl (omega arith))
number_opens major n Sixteen b rest low high h = rw h.2 (omega arith, omega arith, inl (omega arith))
number_opens major n ThirtyTwo b rest low high h = rw h.2 (omega arith, omega arith, inl (omega arith))
number_opens major n SixtyFour b rest low high h = rw h.2 (omega arith, omega arith, inl (omega arith))

argument_opens : (major : ℕ) (a : Argument) (b rest : List ℕ) → 2 ≤ major → major ≤ 5 → ArgumentThen major a b rest
    → MayWantMemory b
argument_opens major (Number n w) b rest low high h = number_opens major n w b rest low (omega arith) h
argument_opens major Indefinite b rest low high h =
    let info : (32 * major + 31) % 32 ≡ 31 = omega arith in
    let high_bits : (32 * major + 31) / 32 ≡ major = omega arith in
    rw h (omega (arith, high_bits), omega (arith, high_bits), inr (info, omega (arith, high_bits)))

head_opens : (b rest : List ℕ) (h : ItemHead) → HeadIs h b rest → HoldsContent h → MayWantMemory b
head_opens b rest (item_head.String Bytes a) is holds = argument_opens 2 a b rest (omega arith) (omega arith) is
head_opens b rest (item_head.String Text a) is holds = argument_opens 3 a b rest (omega arith) (omega arith) is
head_opens b rest (item_head.Array a) is holds = argument_opens 4 a b rest (omega arith) (omega arith) is
head_opens b rest (item_head.Map a) is holds = argument_opens 5 a b rest (omega arith) (omega arith) is
head_opens b rest (item_head.Tag n w) is holds = number_opens 6 n w b rest (omega arith) (omega arith) is
head_opens b rest h is holds = absurd holds

-- memory is needed only after a head that holds content
pub memory_opens : (b rest : List ℕ) (h : ItemHead) → IsBytes b → read_head b ≡ Ok (h, rest) → HoldsContent h
    → MayWantMemory b
memory_opens b rest h fits e holds = head_opens b rest h (head_takes b rest h fits e).0 holds

-- ---- what the front of an input is

pub found_outcome : (level left : ℕ) (b : List ℕ) (i : Item) (rest : List ℕ) → level + left ≡ 129 → IsBytes b
    → read_item left b ≡ Ok (i, rest) → IsOutcome level b (spelled i (length b - length rest))
found_outcome level left b i rest levels fits e =
    let t = item_takes level left b i rest levels fits e in
    let counted : length b - length rest ≡ length t.front =
    omega (arith, length-append t.front rest, ap length t.parts) in
    let front : take (length b - length rest) b ≡ t.front = ap (λ n. take n b) counted
    ∙ ap (take (length t.front)) t.parts ∙ take_at t.front rest (length t.front) refl in
    (omega arith, rw front t.spells)

pub refusal_outcome : (level left : ℕ) (b : List ℕ) (e : Error) → level + left ≡ 129 → IsBytes b → e ≢ refusal.CutShort
    → Fails e (read_item left b) → UnlessMemory (Fault level b) e
refusal_outcome level left b refusal.Memory levels fits other h = tt
refusal_outcome level left b e levels fits other h = fault_takes level left b e levels fits other h

-- ---- what the whole of an input is

-- the kinds of fault
abbrev pub IsKind : Error → Type 0
IsKind refusal.Head = Unit {0}
IsKind refusal.Utf8 = Unit {0}
IsKind refusal.TooDeep = Unit {0}
IsKind _ = ⊥

pub fault_kind : {level : ℕ} {b : List ℕ} {e : Error} → Fault level b e → IsKind e
fault_kind (too_deep at) = tt
fault_kind (bad_head le h) = tt
fault_kind (bad_text le h) = tt
fault_kind (bad_chunk_head kind rest le i h) = tt
fault_kind (bad_chunk_text rest le i h) = tt
fault_kind (bad_part next rest le i h f) = fault_kind f

-- a fault of the front is a refusal of the whole
pub fault_refusal : (level : ℕ) (b : List ℕ) (e : Error) → Fault level b e → IsRefused level b e
fault_refusal level b refusal.Head h = h
fault_refusal level b refusal.Utf8 h = h
fault_refusal level b refusal.TooDeep h = h
fault_refusal level b e h = absurd (fault_kind h)

-- a refusal of the front is one of the whole
pub front_refusal : (level : ℕ) (b : List ℕ) (e : Error) → UnlessMemory (Fault level b) e
    → UnlessMemory (IsRefused level b) e
front_refusal level b refusal.Memory h = tt
front_refusal level b e h = fault_refusal level b e h

-- an item that takes all of the input is the one that the input is
pub whole_found : (level left : ℕ) (b : List ℕ) (i : Item) (rest : List ℕ) → level + left ≡ 129 → IsBytes b
    → read_item left b ≡ Ok (i, rest) → length rest ≡ 0 → Spells any level b i
whole_found level left b i [] levels fits e none =
    let t = item_takes level left b i [] levels fits e in
    rw (t.parts ∙ append-nil t.front) t.spells
whole_found level left b i (r ∷ rest) levels fits e none =
    let no : ⊥ = omega (arith, none) in
    absurd no

-- bytes remain after an item that does not
pub more_found : (level left : ℕ) (b : List ℕ) (i : Item) (rest : List ℕ) → level + left ≡ 129 → IsBytes b
    → read_item left b ≡ Ok (i, rest) → 0 < length rest → IsRefused level b refusal.Remaining
more_found level left b i rest levels fits e some =
    let t = item_takes level left b i rest levels fits e in (
      i,
      length b - length rest,
      omega (arith, length-append t.front rest, ap length t.parts),
      (found_outcome level left b i rest levels fits e).1,
    )

-- what reading refuses is why the input is not one whole item
pub whole_refusal : (level left : ℕ) (b : List ℕ) (e : Error) → level + left ≡ 129 → IsBytes b
    → Fails e (read_item left b) → UnlessMemory (IsRefused level b) e
whole_refusal level left b refusal.CutShort levels fits h = cut_takes level left b levels fits h
whole_refusal level left b e levels fits h =
    front_refusal level b e (refusal_outcome level left b e levels fits (λ is. cc) h)

pub unless_memory : (Means : Error → Type 0) (e : Error) → UnlessMemory Means e → e ≢ refusal.Memory → Means e
unless_memory Means refusal.Memory h no_memory = absurd (no_memory refl)
unless_memory Means _ h no_memory = h

pub same : (b : List ℕ) (o p : Outcome) → OneOutcome 1 b → IsOutcome 1 b o → IsOutcome 1 b p → p ≡ o
same b o p one h k = one.only p k ∙ sym (one.only o h)

-- the refusal of a whole input, by what its front is
abbrev pub refusal_for : Outcome → Error
refusal_for (spelled i n) = refusal.Remaining
refusal_for cut = refusal.CutShort
refusal_for (fault e) = e

-- what the front of a refused input is, and that it is no whole item
front_of : (level : ℕ) (b : List ℕ) (e : Error) → IsRefused level b e
    → (o : Outcome) × IsOutcome level b o × (refusal_for o ≡ e) × ((i : Item) → o ≢ spelled i (length b))
front_of level b refusal.CutShort h = (cut, h, refl, λ i e. absurd cc)
front_of level b refusal.Head h = (fault refusal.Head, h, refl, λ i e. absurd cc)
front_of level b refusal.Utf8 h = (fault refusal.Utf8, h, refl, λ i e. absurd cc)
front_of level b refusal.TooDeep h = (fault refusal.TooDeep, h, refl, λ i e. absurd cc)
front_of level b refusal.Remaining h = (
  spelled h.0 h.1,
  (omega (arith, h.2), h.3),
  refl,
  λ i e. let same_count : h.1
      ≡ length b = cc in omega (arith, h.2),
)
front_of level b refusal.Memory h = absurd h
front_of level b refusal.OddHex h = absurd h
front_of level b refusal.BadHex h = absurd h
front_of level b refusal.Notation h = absurd h
front_of level b refusal.PastWidth h = absurd h

pub whole_outcome : (level : ℕ) (b : List ℕ) (i : Item) → Spells any level b i
    → IsOutcome level b (spelled i (length b))
whole_outcome level b i s = (omega arith, rw (take_all (length b) b (omega arith)) s)

pub no_refused_item : (level : ℕ) (b : List ℕ) (i : Item) (e : Error) → OneOutcome level b → Spells any level b i
    → IsRefused level b e → ⊥
no_refused_item level b i e one s h =
    let f = front_of level b e h in
    f.3 i (one.only f.0 f.1 ∙ sym (one.only (spelled i (length b)) (whole_outcome level b i s)))

pub one_refusal : (level : ℕ) (b : List ℕ) (e f : Error) → OneOutcome level b → IsRefused level b e
    → IsRefused level b f
    → e ≡ f
one_refusal level b e f one h k =
    let x = front_of level b e h in
    let y = front_of level b f k in
    sym x.2 ∙ ap refusal_for (one.only x.0 x.1 ∙ sym (one.only y.0 y.1)) ∙ y.2

-- out of memory, or another refusal
pub memory_or : (e : Error) → (e ≡ refusal.Memory) ⊎ (e ≢ refusal.Memory)
memory_or refusal.Memory = inl refl
memory_or _ = inr (λ e. absurd cc)
