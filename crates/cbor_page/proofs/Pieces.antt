-- Pieces of markup one after the other are markup of their joined text and bytes (`IsMarkup`). For `Source`: each piece
-- that is written keeps `Writes`, and once all is written, the output is markup of all text and all bytes. For lines of
-- items: `ShowsTo` goes on item by item, up to all bytes.
use Rattle.std.specs.Prelude.{flat_map}
use Rattle.std.proofs.Common.{◌≡◌, ◌-◌, ◌+◌, ◌≤◌, ℕ, List, [], ◌∷◌, ◌++◌, length, take, drop, refl, sym, ap, ◌∙◌, subst}
use Rattle.std.proofs.Common.{arith}
use Rattle.std.proofs.Common.{append_assoc}
use Rattle.std.proofs.Math.Seq.{take-add, take-length}
use Rattle.std.proofs.lemmas.Grind.{flat_map-append}
use Rattle.std.proofs.lemmas.List.{append-nil, drop-drop, length-drop, take-append-drop}
use Rattle.cbor_page.specs.declared.mark.Mark.{Mark}
use Rattle.cbor_page.specs.declared.source.Source.{Source}
use Rattle.cbor_page.specs.declared.source.Done.{Done}
use Rattle.cbor_page.specs.Markup.{Piece, fixed, other, notation, encoding, written_as, text_in, bytes_in, IsMarkup}
use Rattle.cbor_page.specs.Markup.{mark_text, escaped, spaced}
use Rattle.cbor_page.specs.Written.{IsAll, IsWithin, part, ShowsTo, Writes}

-- ---- markup

pub markup_none : IsMarkup [] [] []
markup_none = ([], refl, refl, refl)

pub markup_one : (p : Piece) → IsMarkup (text_in p) (bytes_in p) (written_as p)
markup_one p = (p ∷ [], append-nil (text_in p), append-nil (bytes_in p), append-nil (written_as p))

pub markup_both : (t u b c x y : List ℕ) → IsMarkup t b x → IsMarkup u c y → IsMarkup (t ++ u) (b ++ c) (x ++ y)
markup_both t u b c x y (p, p-text, p-bytes, p-out) (q, q-text, q-bytes, q-out) = (
  p ++ q,
  flat_map-append text_in p q ∙ cc (p-text, q-text),
  flat_map-append bytes_in p q ∙ cc (p-bytes, q-bytes),
  flat_map-append written_as p q ∙ cc (p-out, q-out),
)

-- ---- parts of a list

pub part_none : (l : List ℕ) (a : ℕ) → part l a a ≡ []
part_none l a =
    let none : a - a ≡ 0 = omega arith in
    ap (λ (n : ℕ). take n (drop a l)) none

pub part_joins : (l : List ℕ) (a b c : ℕ) → a ≤ b → b ≤ c → part l a b ++ part l b c ≡ part l a c
part_joins l a b c ab bc =
    let at : a + (b - a) ≡ b = omega (arith, ab) in
    let gone : drop (b - a) (drop a l) ≡ drop b l = drop-drop (b - a) a l ∙ ap (λ (n : ℕ). drop n l) at in
    let all : c - a ≡ (b - a) + (c - b) = omega (arith, ab, bc) in
    sym (ap (λ (n : ℕ). take n (drop a l)) all ∙ take-add (b - a) (c - b) (drop a l)
    ∙ ap (λ (x : List ℕ). take (b - a) (drop a l) ++ take (c - b) x) gone)

pub part_all : (l : List ℕ) (a b : ℕ) → a ≡ 0 → b ≡ length l → part l a b ≡ l
part_all l a b none all =
    let same : b - a ≡ length l = omega (arith, none, all) in
    ap (λ (n : ℕ). take n (drop a l)) same ∙ ap (λ (n : ℕ). take (length l) (drop n l)) none ∙ take-length l

-- ---- what is written

module _ (s : Source) where
  pub writes_none : (d : Done) (old : List ℕ) → IsWithin s d → Writes s d d old old
  writes_none d old within = record {
    text_goes_on = omega arith;
    bytes_go_on = omega arith;
    within = within;
    added = [];
    new_is = sym (append-nil old);
    markup = rw (part_none s.text.now d.text) (rw (part_none s.bytes.now d.bytes) markup_none);
  }

  pub writes_then : (a b c : Done) (old mid new : List ℕ) → Writes s a b old mid → Writes s b c mid new
      → Writes s a c old new
  writes_then a b c old mid new first next = record {
    text_goes_on = omega (arith, first.text_goes_on, next.text_goes_on);
    bytes_go_on = omega (arith, first.bytes_go_on, next.bytes_go_on);
    within = next.within;
    added = first.added ++ next.added;
    new_is = next.new_is ∙ ap (λ x. x ++ next.added) first.new_is ∙ append_assoc old first.added next.added;
    markup =
        rw (sym (part_joins s.text.now a.text b.text c.text first.text_goes_on next.text_goes_on))
        (rw (sym (part_joins s.bytes.now a.bytes b.bytes c.bytes first.bytes_go_on next.bytes_go_on))
        (markup_both _ _ _ _ first.added next.added first.markup next.markup));
  }

  -- a constant, or other data
  writes_beside : (p : Piece) (d : Done) (old new : List ℕ) → IsWithin s d → text_in p ≡ [] → bytes_in p ≡ []
      → new ≡ old ++ written_as p → Writes s d d old new
  writes_beside p d old new within no_text no_bytes is = record {
    text_goes_on = omega arith;
    bytes_go_on = omega arith;
    within = within;
    added = written_as p;
    new_is = is;
    markup =
        rw (part_none s.text.now d.text) (rw (part_none s.bytes.now d.bytes)
        (subst (λ (t : List ℕ). IsMarkup t [] (written_as p)) no_text
        (subst (λ (b : List ℕ). IsMarkup (text_in p) b (written_as p)) no_bytes (markup_one p))));
  }

  pub writes_fixed : (m : Mark) (d : Done) (old new : List ℕ) → IsWithin s d → new ≡ old ++ mark_text m
      → Writes s d d old new
  writes_fixed m d old new within is = writes_beside (fixed m) d old new within refl refl is

  pub writes_other : (x : List ℕ) (d : Done) (old new : List ℕ) → IsWithin s d → new ≡ old ++ escaped x
      → Writes s d d old new
  writes_other x d old new within is = writes_beside (other x) d old new within refl refl is

  pub writes_text : (d after : Done) (old new : List ℕ) → IsWithin s after → d.text ≤ after.text
      → d.bytes ≡ after.bytes → new ≡ old ++ escaped (part s.text.now d.text after.text) → Writes s d after old new
  writes_text d after old new within more same is = record {
    text_goes_on = more;
    bytes_go_on = omega (arith, same);
    within = within;
    added = escaped (part s.text.now d.text after.text);
    new_is = is;
    markup =
        rw same (rw (part_none s.bytes.now after.bytes)
        (markup_one (notation (part s.text.now d.text after.text))));
  }

  pub writes_bytes : (d after : Done) (old new : List ℕ) → IsWithin s after → d.bytes ≤ after.bytes
      → d.text ≡ after.text → new ≡ old ++ spaced (part s.bytes.now d.bytes after.bytes) → Writes s d after old new
  writes_bytes d after old new within more same is = record {
    text_goes_on = omega (arith, same);
    bytes_go_on = more;
    within = within;
    added = spaced (part s.bytes.now d.bytes after.bytes);
    new_is = is;
    markup =
        rw same (rw (part_none s.text.now after.text)
        (markup_one (encoding (part s.bytes.now d.bytes after.bytes))));
  }

  -- all of it, from the beginning
  pub all_written : (d after : Done) (old new : List ℕ) → d.text ≡ 0 → d.bytes ≡ 0 → IsAll s after
      → Writes s d after old new
      → (added : List ℕ) × (new ≡ old ++ added) × IsMarkup s.text.now s.bytes.now added
  all_written d after old new no_text no_bytes all w =
      let text = part_all s.text.now d.text after.text no_text all.0 in
      let bytes = part_all s.bytes.now d.bytes after.bytes no_bytes all.1 in (
        w.added,
        w.new_is,
        subst (λ (t : List ℕ). IsMarkup t s.bytes.now w.added) text
            (subst (λ (b : List ℕ). IsMarkup (part s.text.now d.text after.text) b w.added) bytes w.markup),
      )

-- ---- lines of data

pub shows_none : (b : List ℕ) (a : ℕ) (old : List ℕ) → a ≤ length b → ShowsTo b a a old old
shows_none b a old within = record {
  goes_on = omega arith;
  within = within;
  text = [];
  added = [];
  new_is = sym (append-nil old);
  markup = rw (part_none b a) markup_none;
}

pub shows_then : (b : List ℕ) (a m z : ℕ) (old mid new : List ℕ) → ShowsTo b a m old mid → ShowsTo b m z mid new
    → ShowsTo b a z old new
shows_then b a m z old mid new first next = record {
  goes_on = omega (arith, first.goes_on, next.goes_on);
  within = next.within;
  text = first.text ++ next.text;
  added = first.added ++ next.added;
  new_is = next.new_is ∙ ap (λ x. x ++ next.added) first.new_is ∙ append_assoc old first.added next.added;
  markup =
      rw (sym (part_joins b a m z first.goes_on next.goes_on))
      (markup_both _ _ _ _ first.added next.added first.markup next.markup);
}

-- the items at the front of what is left
pub shows_front : (b : List ℕ) (a n : ℕ) (old new text added : List ℕ) → a ≤ length b → n ≤ length (drop a b)
    → new ≡ old ++ added → IsMarkup text (take n (drop a b)) added → ShowsTo b a (a + n) old new
shows_front b a n old new text added within fits is markup =
    let same : (a + n) - a ≡ n = omega arith in record {
      goes_on = omega arith;
      within = omega (arith, length-drop a b, fits);
      text = text;
      added = added;
      new_is = is;
      markup = rw same markup;
    }

-- and then what is left
pub shows_rest : (b : List ℕ) (a : ℕ) (old mid new text added : List ℕ) → ShowsTo b 0 a old mid
    → new ≡ mid ++ added → IsMarkup text (drop a b) added
    → (text added : List ℕ) × (new ≡ old ++ added) × IsMarkup text b added
shows_rest b a old mid new text added first is markup =
    let same : a - 0 ≡ a = omega arith in
    let joins : part b 0 a ++ drop a b ≡ b =
    ap (λ (n : ℕ). take n b ++ drop a b) same ∙ take-append-drop a b in (
      first.text ++ text,
      first.added ++ added,
      is ∙ ap (λ (x : List ℕ). x ++ added) first.new_is ∙ append_assoc old first.added added,
      subst (λ (x : List ℕ). IsMarkup (first.text ++ text) x (first.added ++ added)) joins
          (markup_both _ _ _ _ first.added added first.markup markup),
    )

-- and if nothing is left
pub shows_all : (b : List ℕ) (a : ℕ) (old new : List ℕ) → a ≡ length b → ShowsTo b 0 a old new
    → (text added : List ℕ) × (new ≡ old ++ added) × IsMarkup text b added
shows_all b a old new all first = (
  first.text,
  first.added,
  first.new_is,
  subst (λ (x : List ℕ). IsMarkup first.text x first.added) (part_all b 0 a refl all) first.markup,
)

-- what is there, and what is wrong
pub wrong_after : (old mid new t b : List ℕ) → ((added : List ℕ) × (mid ≡ old ++ added) × IsMarkup t b added)
    → ((added : List ℕ) × (new ≡ mid ++ added) × IsMarkup [] [] added)
    → (text added : List ℕ) × (new ≡ old ++ added) × IsMarkup text b added
wrong_after old mid new t b first next = (
  t,
  first.0 ++ next.0,
  next.1 ∙ ap (λ (x : List ℕ). x ++ next.0) first.1 ∙ append_assoc old first.0 next.0,
  subst (λ (x : List ℕ). IsMarkup t x (first.0 ++ next.0)) (append-nil b)
      (subst (λ (x : List ℕ). IsMarkup x (b ++ []) (first.0 ++ next.0)) (append-nil t)
      (markup_both t [] b [] first.0 next.0 first.2 next.2)),
)
