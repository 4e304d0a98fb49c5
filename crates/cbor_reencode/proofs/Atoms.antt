-- If an integer, a simple value, a float or a string is written with the widths that the rules choose, it is the same
-- item (`RewrittenAtom`). A float may become another form of the same number (`IsNumber`); a simple value must not be
-- below 32 in two bytes. Chunks are written one by one, if the rules allow that, or joined to one string.
use Rattle.std.proofs.Common.{◌≡◌, ℕ, Bool, true, false, List, [], ◌∷◌, ◌++◌, length, take}
use Rattle.std.proofs.Common.{drop, None, refl, sym, ap, subst, ◌∙◌, append_assoc, arith}
use Rattle.std.proofs.lemmas.List.{append-nil, take-append-drop}
use Rattle.std.proofs.lemmas.Str.{IsUtf8-append, IsUtf8-nil}
use Rattle.cbor_grammar.specs.declared.width.IntegerWidth.{IntegerWidth}
use Rattle.cbor_grammar.specs.declared.width.IntegerWidth.TheVariants.{Unknown}
use Rattle.cbor_grammar.specs.declared.width.FloatWidth.{FloatWidth}
use Rattle.cbor_grammar.specs.declared.width.FloatWidth.TheVariants as float_width
use Rattle.cbor_grammar.specs.declared.strings.StringKind.{StringKind}
use Rattle.cbor_grammar.specs.declared.strings.StringKind.TheVariants.{Bytes, Text}
use Rattle.cbor_grammar.specs.declared.head.ItemHead.TheVariants as item_head
use Rattle.cbor_grammar.specs.StringKind.{major_of, IsContent}
use Rattle.cbor_grammar.specs.Item.{Chunk, Atom, integer, negative, string, chunked_string, float, simple, atom}
use Rattle.cbor_grammar.specs.Head.{opening, break_byte, head, HeadThen, FitsStated, shortest}
use Rattle.cbor_grammar.specs.Bytes.{strict, SpellsFloat, SpellsChunks, SpellsAtom}
use Rattle.cbor_grammar.specs.Written.{encoded_head, encoded_float, encoded_simple}
use Rattle.cbor_grammar.proofs.bytes.Heads.{HeadIs}
use Rattle.cbor_grammar.proofs.bytes.Chunks.{chunk_with, chunk_parts, chunks_front}
use Rattle.cbor_grammar.proofs.bytes.Strict.{strict_only}
use Rattle.cbor_floats.specs.Preferred.{widened, FitsWidth}
use Rattle.cbor_floats.specs.Value.{bits_of}
use Rattle.cbor_floats.specs.declared.float.EncodedFloat.{EncodedFloat}
use Rattle.cbor_floats.specs.declared.float.EncodedFloat.TheVariants.{Half, Single, Double}
use Rattle.cbor_rules.specs.declared.rules.Rules.{Rules}
use Rattle.cbor_rules.specs.declared.rules.TheConstants.Rules.{CORE}
use Rattle.cbor_rules.specs.FirstViolation.{simple_violation, two_byte_violation, violation_or_else}
use Rattle.cbor_rules.specs.Keeps.{float_of}
use Rattle.cbor_rules.specs.Same.{said, said_float}
use Rattle.cbor_reencode.specs.declared.numbers.Reduced.{Reduced}
use Rattle.cbor_reencode.specs.declared.numbers.Reduced.TheVariants as code
use Rattle.cbor_reencode.specs.Reduction.{reduced_atom}
use Rattle.cbor_reencode.specs.mirror.Numbers.{float_atom, atom_of, FitsNumber, number_bytes, IsNumber}
use Rattle.cbor_rules.proofs.Heads.{simple_found}
use Rattle.cbor_reencode.specs.mirror.Chosen.{chosen_width, float_width_of}
use Rattle.cbor_reencode.specs.mirror.Rewritten.{ContentAt, ChunkAt, contents, Joined, RewrittenChunks}
use Rattle.cbor_reencode.specs.mirror.Rewritten.{RewrittenAtom}
use Rattle.cbor_reencode.proofs.Choices.{chosen_fits, shortest_fits, stated_head}

-- ---- chunks

pub joined_end : (kind : StringKind) (b rest old : List ℕ) → b ≡ break_byte ∷ rest → Joined kind b rest old old
joined_end kind b rest old is = record { chunks = []; spells = is; added = sym (append-nil old) }

pub joined_more : (kind : StringKind) (b piece : List ℕ) (w : IntegerWidth) (r after old mid new : List ℕ)
    → ChunkAt kind b piece w r → mid ≡ old ++ piece → Joined kind r after mid new → Joined kind b after old new
joined_more kind b piece w r after old mid new is e j =
    let c : Chunk = record { bytes = piece; width = w } in
    record {
      chunks = c ∷ j.chunks;
      spells = chunk_with kind b r c (λ x. SpellsChunks kind x j.chunks (break_byte ∷ after)) is j.spells;
      added = j.added ∙ ap (λ (x : List ℕ). x ++ contents j.chunks) e ∙ append_assoc old piece (contents j.chunks);
    }

pub chunks_end : (rules : Rules) (kind : StringKind) (b rest old : List ℕ) → b ≡ break_byte ∷ rest
    → RewrittenChunks rules kind b rest old old
chunks_end rules kind b rest old is = record {
  chunks = [];
  spells = is;
  bytes = [];
  added = sym (append-nil old);
  written = [];
  written_spells = λ end. refl;
  same = refl;
}

pub chunks_more : (rules : Rules) (kind : StringKind) (b piece : List ℕ) (w : IntegerWidth)
    (r after old mid new : List ℕ) → ChunkAt kind b piece w r
    → mid ≡ old ++ (encoded_head (major_of kind) (length piece) (chosen_width rules (length piece) w) ++ piece)
    → RewrittenChunks rules kind r after mid new → RewrittenChunks rules kind b after old new
chunks_more rules kind b piece w r after old mid new is e j =
    let c : Chunk = record { bytes = piece; width = w } in
    let v : IntegerWidth = chosen_width rules (length piece) w in
    let d : Chunk = record { bytes = piece; width = v } in
    let fits : FitsStated v (length piece) = chosen_fits rules (length piece) w is.1.0 in
    let h : List ℕ = encoded_head (major_of kind) (length piece) v in
    let parts : (end : List ℕ) → ((h ++ piece) ++ j.bytes) ++ end
    ≡ head (major_of kind) (length piece) v ++ (piece ++ (j.bytes ++ end)) = λ end.
    append_assoc (h ++ piece) j.bytes end ∙ append_assoc h piece (j.bytes ++ end)
    ∙ ap (λ (x : List ℕ). x ++ (piece ++ (j.bytes ++ end))) (stated_head (major_of kind) (length piece) v fits) in
    record {
      chunks = c ∷ j.chunks;
      spells = chunk_with kind b r c (λ x. SpellsChunks kind x j.chunks (break_byte ∷ after)) is j.spells;
      bytes = (h ++ piece) ++ j.bytes;
      added = j.added ∙ ap (λ (x : List ℕ). x ++ j.bytes) e ∙ append_assoc old (h ++ piece) j.bytes;
      written = d ∷ j.written;
      written_spells = λ end.
          (is.0, (fits, piece ++ (j.bytes ++ end), parts end, (j.bytes ++ end, refl, j.written_spells end)));
      same = ap (λ (x : List ℕ). piece ++ x) j.same;
    }

-- the contents of chunks, one after the other, are what a string of their kind may have
chunks_content : (kind : StringKind) (b end : List ℕ) (cs : List Chunk) → SpellsChunks kind b cs end
    → IsContent kind (contents cs)
chunks_content Bytes b end cs h = tt
chunks_content Text b end [] h = IsUtf8-nil
chunks_content Text b end (c ∷ cs) h =
    let p = chunk_parts Text b c (λ r. SpellsChunks Text r cs end) h in
    IsUtf8-append c.bytes (contents cs) h.0 (chunks_content Text p.rest end cs p.holds)

-- ---- numbers

front_parts : (b h r rest : List ℕ) → b ≡ h ++ r → r ≡ rest → b ≡ h ++ rest
front_parts b h r rest e f = e ∙ ap (λ (x : List ℕ). h ++ x) f

alone : (major n : ℕ) (w : IntegerWidth) → FitsStated w n → HeadThen major n w (head major n w) (λ r. r ≡ [])
alone major n w fits = (fits, [], sym (append-nil (head major n w)), refl)

pub alone_written : (major n : ℕ) (w : IntegerWidth) → FitsStated w n
    → HeadThen major n w (encoded_head major n w) (λ r. r ≡ [])
alone_written major n w fits = (fits, [], stated_head major n w fits ∙ sym (append-nil (head major n w)), refl)

pub integer_again : (rules : Rules) (n : ℕ) (w : IntegerWidth) (b rest old new : List ℕ)
    → HeadThen 0 n w b (λ r. r ≡ rest) → new ≡ old ++ encoded_head 0 n (chosen_width rules n w)
    → RewrittenAtom rules b rest old new
integer_again rules n w b rest old new h e =
    let v : IntegerWidth = chosen_width rules n w in
    record {
      atom = integer n w;
      front = head 0 n w;
      parts = front_parts b (head 0 n w) h.1 rest h.2 h.3;
      spells = alone 0 n w h.0;
      bytes = encoded_head 0 n v;
      added = e;
      written = integer n v;
      written_spells = alone_written 0 n v (chosen_fits rules n w h.0);
      same = refl;
    }

pub negative_again : (rules : Rules) (n : ℕ) (w : IntegerWidth) (b rest old new : List ℕ)
    → HeadThen 1 n w b (λ r. r ≡ rest) → new ≡ old ++ encoded_head 1 n (chosen_width rules n w)
    → RewrittenAtom rules b rest old new
negative_again rules n w b rest old new h e =
    let v : IntegerWidth = chosen_width rules n w in
    record {
      atom = negative n w;
      front = head 1 n w;
      parts = front_parts b (head 1 n w) h.1 rest h.2 h.3;
      spells = alone 1 n w h.0;
      bytes = encoded_head 1 n v;
      added = e;
      written = negative n v;
      written_spells = alone_written 1 n v (chosen_fits rules n w h.0);
      same = refl;
    }

pub simple_again : (rules : Rules) (n : ℕ) (b rest old new : List ℕ) → HeadIs (item_head.Simple n) b rest
    → two_byte_violation b ≡ None → new ≡ old ++ encoded_simple n → RewrittenAtom rules b rest old new
simple_again rules n b rest old new h none e =
    let found = simple_found CORE n h.0 rest h.2 (subst (λ x. simple_violation CORE n x ≡ None) h.1
    (ap (λ k. violation_or_else k None) none)) in
    let is : h.0 ≡ encoded_simple n = strict_only 1 h.0 (atom (simple n)) (omega arith, found.0) in
    record {
      atom = simple n;
      front = h.0;
      parts = h.1;
      spells = found.0;
      bytes = h.0;
      added = e ∙ ap (λ (x : List ℕ). old ++ x) (sym is);
      written = simple n;
      written_spells = found.0;
      same = refl;
    }

-- ---- floats

-- a float that bytes spell, with the bytes after it
record FloatAt (b rest : List ℕ) (bits : ℕ) (w : FloatWidth) : Type 0 where
  pub front : List ℕ
  pub parts : b ≡ front ++ rest
  pub spells : SpellsFloat front bits w
  pub bits_are : bits_of (float_of bits w) ≡ bits
  pub width_is : float_width_of (float_of bits w) ≡ w

float_at : (b rest : List ℕ) (bits : ℕ) (w : FloatWidth) → HeadIs (item_head.Float bits w) b rest
    → FloatAt b rest bits w
float_at b rest bits float_width.Unknown h = absurd h
float_at b rest bits float_width.Sixteen h =
    record { front = _; parts = h.1; spells = (h.0, refl); bits_are = refl; width_is = refl }
float_at b rest bits float_width.ThirtyTwo h =
    record { front = _; parts = h.1; spells = (h.0, refl); bits_are = refl; width_is = refl }
float_at b rest bits float_width.SixtyFour h =
    record { front = _; parts = h.1; spells = (h.0, refl); bits_are = refl; width_is = refl }

float_spelled : (f : EncodedFloat) → FitsWidth f
    → SpellsFloat (encoded_float (bits_of f) (float_width_of f)) (bits_of f) (float_width_of f)
float_spelled (Half bits) fits = (fits, refl)
float_spelled (Single bits) fits = (fits, refl)
float_spelled (Double bits) fits = (fits, refl)

float_is : (f : EncodedFloat) → float_of (bits_of f) (float_width_of f) ≡ f
float_is (Half bits) = refl
float_is (Single bits) = refl
float_is (Double bits) = refl

pub said_again : (t : Bool) (bits : ℕ) (w : FloatWidth) (f : EncodedFloat) → bits_of (float_of bits w) ≡ bits
    → float_width_of (float_of bits w) ≡ w → widened f ≡ widened (float_of bits w)
    → (¬ (t ≡ true) → f ≡ float_of bits w) → said_float t bits w ≡ said_float t (bits_of f) (float_width_of f)
said_again true bits w f bits_are width_is same kept =
    ap (λ n. float n float_width.SixtyFour) (sym same ∙ ap widened (sym (float_is f)))
said_again false bits w f bits_are width_is same kept =
    let is : f ≡ float_of bits w = kept (λ e. absurd cc) in
    ap (λ n. float n w) (sym bits_are ∙ ap bits_of (sym is))
    ∙ ap (λ (v : FloatWidth). float (bits_of f) v) (sym width_is ∙ ap float_width_of (sym is))

-- what is written for a float
pub number_again : (rules : Rules) (bits : ℕ) (w : FloatWidth) (n : Reduced) (b rest old new : List ℕ)
    → HeadIs (item_head.Float bits w) b rest → IsNumber rules (float_of bits w) n → new ≡ old ++ number_bytes n
    → RewrittenAtom rules b rest old new
number_again rules bits w n b rest old new h is e =
    let a = float_at b rest bits w h in
    let same : float_atom (float_of bits w) ≡ float bits w =
    ap (λ k. float k (float_width_of (float_of bits w))) a.bits_are
    ∙ ap (λ (v : FloatWidth). float bits v) a.width_is in
    record {
      atom = float bits w;
      front = a.front;
      parts = a.parts;
      spells = a.spells;
      bytes = number_bytes n;
      added = e;
      written = atom_of n;
      written_spells = number_spelled n is.fits;
      same = ap (λ (x : Atom). said rules.shortest_floats (reduced_atom rules x)) (sym same) ∙ is.same;
    }
  where
    number_spelled : (n : Reduced) → FitsNumber n → SpellsAtom strict (number_bytes n) (atom_of n)
    number_spelled (code.Unsigned m) lt = alone_written 0 m (shortest m) (shortest_fits m lt)
    number_spelled (code.Negative m) lt = alone_written 1 m (shortest m) (shortest_fits m lt)
    number_spelled (code.Float f) fits = float_spelled f fits

-- ---- strings

-- a content of this many bytes
pub content_at : (kind : StringKind) (n : ℕ) (b content rest : List ℕ) → content ≡ take n b → rest ≡ drop n b
    → length content ≡ n → IsContent kind content → ContentAt kind n b content rest
content_at kind n b content rest front back size holds = record {
  parts = sym (take-append-drop n b) ∙ ap (λ (x : List ℕ). x ++ drop n b) (sym front)
      ∙ ap (λ (x : List ℕ). content ++ x) (sym back);
  size = size;
  holds = holds;
}

-- a content after a head that has its length
pub content_written : (kind : StringKind) (content : List ℕ) (v : IntegerWidth) → FitsStated v (length content)
    → IsContent kind content
    → ChunkAt kind (encoded_head (major_of kind) (length content) v ++ content) content v []
content_written kind content v fits is = (
  is,
  (
    fits,
    content,
    ap (λ (x : List ℕ). x ++ content) (stated_head (major_of kind) (length content) v fits),
    ([], sym (append-nil content), refl),
  ),
)

pub string_again : (rules : Rules) (kind : StringKind) (n : ℕ) (w : IntegerWidth) (b r content rest old new : List ℕ)
    → HeadThen (major_of kind) n w b (λ x. x ≡ r) → r ≡ content ++ rest → length content ≡ n → IsContent kind content
    → new ≡ old ++ (encoded_head (major_of kind) (length content) (chosen_width rules n w) ++ content)
    → RewrittenAtom rules b rest old new
string_again rules kind n w b r content rest old new h parts len is e =
    let m = major_of kind in
    let v : IntegerWidth = chosen_width rules (length content) w in
    let fits : FitsStated w (length content) = subst (λ k. FitsStated w k) (sym len) h.0 in
    let same_head : head m n w ≡ head m (length content) w = ap (λ k. head m k w) (sym len) in
    let c : Chunk = record { bytes = content; width = w } in
    let d : Chunk = record { bytes = content; width = v } in
    record {
      atom = string kind c;
      front = head m n w ++ content;
      parts = front_parts b (head m n w) h.1 r h.2 h.3 ∙ ap (λ (x : List ℕ). head m n w ++ x) parts
          ∙ sym (append_assoc (head m n w) content rest);
      spells = (
        is,
        (
          fits,
          content,
          ap (λ (x : List ℕ). x ++ content) same_head,
          ([], sym (append-nil content), refl),
        ),
      );
      bytes = encoded_head m (length content) v ++ content;
      added = e ∙ ap (λ k. old ++ (encoded_head m (length content) (chosen_width rules k w) ++ content)) (sym len);
      written = string kind d;
      written_spells = content_written kind content v (chosen_fits rules (length content) w fits) is;
      same = refl;
    }

pub joined_again : (rules : Rules) (kind : StringKind) (b r rest content old new : List ℕ)
    → b ≡ opening (major_of kind) ∷ r → Joined kind r rest [] content
    → FitsStated (shortest (length content)) (length content)
    → new ≡ old ++ (encoded_head (major_of kind) (length content) (shortest (length content)) ++ content)
    → RewrittenAtom rules b rest old new
joined_again rules kind b r rest content old new is j few e =
    let f = chunks_front kind j.chunks r (break_byte ∷ []) rest j.spells in
    let holds : IsContent kind content =
    subst (λ (x : List ℕ). IsContent kind x) (sym j.added)
    (chunks_content kind r (break_byte ∷ rest) j.chunks j.spells) in
    let d : Chunk = record { bytes = content; width = shortest (length content) } in
    record {
      atom = chunked_string kind j.chunks;
      front = opening (major_of kind) ∷ f.0;
      parts = is ∙ ap (λ (x : List ℕ). opening (major_of kind) ∷ x) f.1;
      spells = (f.0, refl, f.2);
      bytes = encoded_head (major_of kind) (length content) (shortest (length content)) ++ content;
      added = e;
      written = string kind d;
      written_spells = content_written kind content (shortest (length content))
          few holds;
      same = ap (λ (x : List ℕ). string kind (record { bytes = x; width = Unknown })) (sym j.added);
    }

pub chunked_again : (rules : Rules) (kind : StringKind) (b r rest old start mid new : List ℕ)
    → b ≡ opening (major_of kind) ∷ r → rules.definite_lengths ≡ false
    → start ≡ old ++ opening (major_of kind) ∷ [] → RewrittenChunks rules kind r rest start mid
    → new ≡ mid ++ break_byte ∷ [] → RewrittenAtom rules b rest old new
chunked_again rules kind b r rest old start mid new is off s j e =
    let f = chunks_front kind j.chunks r (break_byte ∷ []) rest j.spells in
    let o = opening (major_of kind) in
    record {
      atom = chunked_string kind j.chunks;
      front = o ∷ f.0;
      parts = is ∙ ap (λ (x : List ℕ). o ∷ x) f.1;
      spells = (f.0, refl, f.2);
      bytes = o ∷ (j.bytes ++ break_byte ∷ []);
      added = e ∙ ap (λ (x : List ℕ). x ++ break_byte ∷ []) (j.added ∙ ap (λ (x : List ℕ). x ++ j.bytes) s)
          ∙ ap (λ (x : List ℕ). x ++ break_byte ∷ []) (append_assoc old (o ∷ []) j.bytes)
          ∙ append_assoc old (o ∷ j.bytes) (break_byte ∷ []);
      written = chunked_string kind j.written;
      written_spells = (j.bytes ++ break_byte ∷ [], refl, j.written_spells (break_byte ∷ []));
      same = ap (λ (x : List ℕ). string kind (record { bytes = x; width = Unknown })) j.same;
    }
