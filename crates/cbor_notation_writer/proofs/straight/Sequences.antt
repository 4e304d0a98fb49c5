-- For `push_sequence` and `push_embedded`: if a byte string is written as the items in it, or as the one item that it
-- is, what was written is one of its texts (`ContentThere`). Items that are read one by one are those of `sequence_at`
-- (`SoFar`), and reading the first of them decides `embedded_at`.
use Rattle.std.proofs.Common.{◌≡◌, ◌≢◌, ℕ, zero, suc, ◌+◌, ◌<◌, ◌≤◌, List, [], ◌∷◌, ◌++◌, length, Option, Some}
use Rattle.std.proofs.Common.{None, Result, Ok, Err, refl, sym, ap, subst, ◌∙◌, append_assoc, arith}
use Rattle.std.specs.Io.{StartsWith}
use Rattle.cbor_grammar.specs.declared.error.Error.{Error}
use Rattle.cbor_grammar.specs.declared.error.Error.TheVariants as refusal
use Rattle.cbor_grammar.specs.declared.layout.ContainerStyle.{ContainerStyle}
use Rattle.cbor_grammar.specs.Embedded.{before, if_whole, embedded_at, sequence_of, sequence_at}
use Rattle.cbor_grammar.specs.Estimate.{estimated_items}
use Rattle.cbor_grammar.specs.Item.{Chunk, Item, Items, no_items, item}
use Rattle.cbor_grammar.specs.declared.layout.Content.TheVariants as shown
use Rattle.cbor_grammar.specs.NotationText.{members_layout}
use Rattle.cbor_grammar.specs.declared.layout.ContainerStyle.TheVariants.{Compact}
use Rattle.cbor_grammar.specs.Reading.{Fails, joined, read_item}
use Rattle.cbor_grammar.specs.WellFormed.{levels_left}
use Rattle.cbor_notation_writer.specs.Dialect.{Leaves, Writer, ItemsText, SequenceText, Between, embedding, OneText}
use Rattle.cbor_notation_writer.specs.Dialect.{EmbeddedText, Wrote}
use Rattle.cbor_notation_writer.specs.mirror.Straight.{TextsBelow, ContentThere}
use Rattle.cbor_grammar.proofs.bytes.FoundAgain.{joined-none, joined_one}
use Rattle.cbor_grammar.proofs.bytes.Shorter.{item_shorter}
use Rattle.cbor_tokens.proofs.texts.Appending.{begins_same, begins_still, begins_two, begins_through}
use Rattle.cbor_notation_writer.proofs.straight.Wrote.{wrote_begins, wrote_last}
use Rattle.cbor_notation_writer.proofs.straight.Texts.{ItemsWritten, items_written}

-- an error that is not memory is the one that reading gives
fails_so : {X : Type 0} (e : Error) (read : Result X Error) → e ≢ refusal.Memory → Fails e read → read ≡ Err e
fails_so refusal.Memory read other h = absurd (other refl)
fails_so e read other h = h

-- items before a sequence
abbrev onto : Items → Items × List ℕ → Items × List ℕ
onto is s = (joined is s.0, s.1)

-- the items so far and those of the rest are the whole sequence
pub record SoFar (left : ℕ) (is : Items) (b : List ℕ) (whole : Items × List ℕ) : Type 0 where
  pub steps : ℕ
  pub enough : length b ≤ steps
  pub same : onto is (sequence_of (read_item left) steps b) ≡ whole

pub sequence_begun : (left : ℕ) (b : List ℕ) → SoFar left no_items b (sequence_at left b)
sequence_begun left b = record { steps = length b; enough = omega arith; same = refl }

one_read : (left steps : ℕ) (is : Items) (i : Item) (b rest : List ℕ) (whole : Items × List ℕ)
    → read_item left b ≡ Ok (i, rest) → length b ≤ steps → onto is (sequence_of (read_item left) steps b) ≡ whole
    → SoFar left (joined is (item i no_items)) rest whole
unfolding sequence_of
one_read left zero is i b rest whole e enough h = absurd (omega (arith, item_shorter left b i rest e))
one_read left (suc m) is i b rest whole e enough h =
    let s : Items × List ℕ = sequence_of (read_item left) m rest in
    let here : onto is (before i s) ≡ whole = rw e at h in
    record {
      steps = m;
      enough = omega (arith, item_shorter left b i rest e);
      same = ap (λ js. (js, s.1)) (joined_one is i s.0) ∙ here;
    }

pub sequence_more : (left : ℕ) (is : Items) (i : Item) (b rest : List ℕ) (whole : Items × List ℕ)
    → read_item left b ≡ Ok (i, rest) → SoFar left is b whole → SoFar left (joined is (item i no_items)) rest whole
sequence_more left is i b rest whole e s = one_read left s.steps is i b rest whole e s.enough s.same

none_read : (left steps : ℕ) (is : Items) (b : List ℕ) (e : Error) (whole : Items × List ℕ)
    → read_item left b ≡ Err e → onto is (sequence_of (read_item left) steps b) ≡ whole → (is, b) ≡ whole
unfolding sequence_of
none_read left zero is b e whole ends h = ap (λ js. (js, b)) (sym (joined-none is)) ∙ h
none_read left (suc n) is b e whole ends h =
    let here : onto is (no_items, b) ≡ whole = rw ends at h in
    ap (λ js. (js, b)) (sym (joined-none is)) ∙ here

pub sequence_ends : (left : ℕ) (is : Items) (b : List ℕ) (e : Error) (whole : Items × List ℕ) → e ≢ refusal.Memory
    → Fails e (read_item left b) → SoFar left is b whole → (is, b) ≡ whole
sequence_ends left is b e whole other h s =
    none_read left s.steps is b e whole (fails_so e (read_item left b) other h) s.same

-- what was written of an item that can't be read is after the items before it
pub begun_after : (old begun out started new : List ℕ) (a m between : List ℕ) → begun ≡ old ++ a → out ≡ begun ++ m
    → started ≡ out ++ between → StartsWith new started → StartsWith new old
begun_after old begun out started new a m between p q r h =
    begins_through old started new h (begins_still old out between started (begins_two old begun a m out p q) r)

pub begun_member : (out started new between : List ℕ) → started ≡ out ++ between → StartsWith new started
    → StartsWith new out
begun_member out started new between r h =
    begins_through out started new h (begins_still out out between started (begins_same out) r)

pub sequence_written : {P : Type 0} (d : Leaves P) (p first now : P) (l : ContainerStyle) (b : Chunk) (is : Items)
    (rest old out mid new : List ℕ) (held : ℕ)
    → l ≡ d.style p (4 + estimated_items is)
    → (is, rest) ≡ sequence_at (levels_left (d.level p + 1)) b.bytes
    → ItemsWritten d (TextsBelow d p) p first (embedding b) l old out is now held
    → first ≡ d.inside (embedding b) (members_layout l) p
    → (e : List ℕ) × d.closing p (embedding b) l e × (mid ≡ out ++ e)
    → (r : List ℕ) × d.rest p (embedding b) rest r × (new ≡ mid ++ r)
    → (t : List ℕ) × ContentThere d shown.Sequence p b t × (new ≡ old ++ t)
sequence_written d p first now l b is rest old out mid new held same whole w inside_it ends after =
    let listed = items_written d (TextsBelow d p) p first now (embedding b) l old out mid is held w inside_it ends in
    let styled = subst (λ x. ItemsText d (TextsBelow d p) p (embedding b) x is listed.0) same listed.1 in
    let text : SequenceText d (TextsBelow d p) p b (is, rest) (listed.0 ++ after.0) =
    (listed.0, after.0, styled, after.1, refl) in (
      listed.0 ++ after.0,
      subst (λ s. SequenceText d (TextsBelow d p) p b s (listed.0 ++ after.0)) whole text,
      after.2 ∙ ap (λ x. x ++ after.0) listed.2 ∙ append_assoc old listed.0 after.0,
    )

-- the style of a sequence there
pub sequence_style : {P : Type 0} (d : Leaves P) (p : P) (r : ContainerStyle) (b : List ℕ) (is : Items) (rest : List ℕ)
    → r ≡ d.style p (4 + estimated_items (sequence_at (levels_left (d.level p + 1)) b).0)
    → (is, rest) ≡ sequence_at (levels_left (d.level p + 1)) b → r ≡ d.style p (4 + estimated_items is)
sequence_style d p r b is rest styled whole =
    styled ∙ ap (λ (s : Items × List ℕ). d.style p (4 + estimated_items s.0)) (sym whole)

-- ---- one item

pub whole_item : (left : ℕ) (b rest : List ℕ) (i : Item) → read_item left b ≡ Ok (i, rest) → length rest ≡ 0
    → embedded_at left b ≡ Some i
whole_item left b [] i e none = ap if_whole e
whole_item left b (x ∷ xs) i e none = absurd cc

pub part_item : (left : ℕ) (b rest : List ℕ) (i : Item) → read_item left b ≡ Ok (i, rest) → 0 < length rest
    → embedded_at left b ≡ None
part_item left b [] i e some = absurd (omega (arith, some))
part_item left b (x ∷ xs) i e some = ap if_whole e

pub no_item : (left : ℕ) (b : List ℕ) (e : Error) → e ≢ refusal.Memory → Fails e (read_item left b)
    → embedded_at left b ≡ None
no_item left b e other h = ap if_whole (fails_so e (read_item left b) other h)

pub nothing_embedded : {P : Type 0} (d : Leaves P) (write : Writer P) (p : P) (c : Chunk) (b : List ℕ)
    (e : Option Item) (t : List ℕ) → length b ≡ 0 → Between d p (embedding c) Compact [] t
    → EmbeddedText d write p c b e t
nothing_embedded d write p c [] e t none h = h
nothing_embedded d write p c (x ∷ xs) e t none h = absurd cc

-- the text of what the bytes are, where there are some
pub one_embedded : {P : Type 0} (d : Leaves P) (write : Writer P) (p : P) (c : Chunk) (b : List ℕ) (e f : Option Item)
    (t : List ℕ) → 0 < length b → e ≡ f → OneText d write p c f t → EmbeddedText d write p c b e t
one_embedded d write p c [] e f t some is h = absurd (omega (arith, some))
one_embedded d write p c (x ∷ xs) e f t some is h = subst (λ o. OneText d write p c o t) (sym is) h

pub nothing_written : {T E P : Type 0} (r : Result T E) (d : Leaves P) (p : P) (c : Chunk) (old mid new : List ℕ)
    → length c.bytes ≡ 0 → (o : List ℕ) × d.opening p (embedding c) Compact o × (mid ≡ old ++ o)
    → Wrote r mid new (d.closing p (embedding c) Compact) → Wrote r old new (ContentThere d shown.Item p c)
nothing_written r d p c old mid new none o h =
    wrote_last r old mid new (d.closing p (embedding c) Compact) (ContentThere d shown.Item p c)
    (wrote_begins old mid (d.opening p (embedding c) Compact) o)
    (λ t e is. (
      o.0 ++ t,
      nothing_embedded d (TextsBelow d p) p c c.bytes _ (o.0 ++ t) none (o.0, t, o.1, e, refl),
      is ∙ ap (λ x. x ++ t) o.2 ∙ append_assoc old o.0 t,
    )) h

pub embedded_written : {T E P : Type 0} (r : Result T E) (d : Leaves P) (p inner : P) (c : Chunk) (i : Item)
    (m old mid out new : List ℕ) → 0 < length c.bytes → embedded_at (levels_left (d.level p + 1)) c.bytes ≡ Some i
    → (o : List ℕ) × d.opening p (embedding c) Compact o × (mid ≡ old ++ o)
    → inner ≡ d.inside (embedding c) (d.layout p) p → TextsBelow d p inner i m → out ≡ mid ++ m
    → Wrote r out new (d.closing p (embedding c) Compact) → Wrote r old new (ContentThere d shown.Item p c)
embedded_written r d p inner c i m old mid out new some is o there text so h =
    let write = TextsBelow d p in
    let here : write (d.inside (embedding c) (d.layout p) p) i m = subst (λ x. write x i m) there text in
    let regroup = λ (t : List ℕ). append_assoc (old ++ o.0) m t ∙ append_assoc old o.0 (m ++ t) in
    wrote_last r old out new (d.closing p (embedding c) Compact) (ContentThere d shown.Item p c)
    (begins_two old mid o.0 m out o.2 so)
    (λ t e last. (
      o.0 ++ (m ++ t),
      one_embedded d write p c c.bytes _ (Some i) (o.0 ++ (m ++ t)) some is
          (m, here, (o.0, t, o.1, e, refl)),
      last ∙ ap (λ x. x ++ t) (so ∙ ap (λ x. x ++ m) o.2) ∙ regroup t,
    )) h
