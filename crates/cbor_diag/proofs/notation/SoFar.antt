-- The loops that read a list (`ListSoFar`) and the pieces of a string (`PiecesSoFar`) in notation: what a loop holds,
-- followed by what reading gives for the text that is left, is what reading gives for the whole text. This holds at the
-- start and after each turn, and gives the result when the loop ends or fails.
use Rattle.std.proofs.Common.{◌≡◌, ℕ, suc, ◌<◌, ◌≤◌, List, [], ◌∷◌, ◌++◌, length, true, false, Some, None, Ok, Err}
use Rattle.std.proofs.Common.{sym, ap, subst, ◌∙◌, arith}
use Rattle.cbor_grammar.specs.declared.error.Error.{Error}
use Rattle.cbor_grammar.specs.declared.error.Error.TheVariants as refusal
use Rattle.cbor_grammar.specs.declared.strings.StringKind.{StringKind}
use Rattle.cbor_grammar.specs.Reading.{Read, Fails}
use Rattle.cbor_notation.specs.mirror.NotationReading.{or_refused, after_byte, after_end, skip_blank, first_start}
use Rattle.cbor_notation.specs.mirror.NotationReading.{members_from, read_members, read_item, begins_piece, read_piece}
use Rattle.cbor_notation.specs.mirror.NotationReading.{read_pieces, read_pair, read_chunk}
use Rattle.cbor_diag.proofs.notation.ChunkLoops.{onto}
use Rattle.cbor_diag.proofs.notation.Loops.{members_begin, member_fails, member_last, no_comma}
use Rattle.cbor_diag.proofs.notation.Loops.{member_more}
use Rattle.cbor_diag.proofs.notation.Cores.{pieces_begin, pieces_end, piece_fails, piece_more}

-- ---- the members of a list

pub record ListSoFar {X : Type 0} (read : List ℕ → Read X) (close : ℕ) (held : List X) (text whole : List ℕ)
    : Type 0 where
  pub bound : ℕ
  pub enough : length text < bound
  pub so_far : onto (λ xs. held ++ xs) (members_from read close bound text)
      ≡ members_from read close (suc (length whole)) whole
  pub room : length text ≤ length whole

pub list_begins : {X : Type 0} (read : List ℕ → Read X) (close : ℕ) (text : List ℕ) {held : List X} → held ≡ []
    → ListSoFar read close held text text
list_begins read close text {held} none =
    let begun = members_begin read close text held none in
    record { bound = begun.0; enough = begun.1; so_far = begun.2; room = omega arith }

module _ {X : Type 0} {read : List ℕ → Read X} {close : ℕ} {held : List X} {text whole : List ℕ}
    (l : ListSoFar read close held text whole) where
  pub list_fails : (e : Error) → Fails e (read text) → Fails e (members_from read close (suc (length whole)) whole)
  list_fails e h = member_fails read close held l.bound text _ l.enough l.so_far e h

  module _ {x : X} {after : List ℕ} (found : read text ≡ Ok (x, after)) where
    pub list_ends : {end : List ℕ} {new : List X} → after_end close after ≡ Some end → new ≡ held ++ x ∷ []
        → members_from read close (suc (length whole)) whole ≡ Ok (new, end)
    list_ends {end} {new} ended pushed =
        member_last read close held l.bound text _ l.enough l.so_far found ended
        ∙ ap (λ (xs : List X). Ok (xs, end)) (sym pushed)

    pub comma_fails : (e : Error) → (after_end close after ≡ None) × (e ≡ refusal.Notation)
        × (or_refused (after_byte 44 after) ≡ Err refusal.Notation)
        → Fails e (members_from read close (suc (length whole)) whole)
    comma_fails e none = no_comma read close held l.bound text _ l.enough l.so_far e found none

    pub list_goes_on : {next : List ℕ} {new : List X}
        → (after_end close after ≡ None) × (or_refused (after_byte 44 after) ≡ Ok next)
        → length after ≤ length text → length next < length after → new ≡ held ++ x ∷ []
        → ListSoFar read close new next whole
    list_goes_on {next} {new} comma shorter less pushed =
        let more = member_more read close held l.bound text _ l.enough l.so_far found comma.0 comma.1 shorter less in
        record {
          bound = more.0;
          enough = more.1;
          so_far = subst (λ (xs : List X). onto (λ ys. xs ++ ys) (members_from read close more.0 next)
              ≡ members_from read close (suc (length whole)) whole) (sym pushed) more.2;
          room = omega (arith, less, shorter, l.room);
        }

-- ---- the pieces of a string

pub record PiecesSoFar (left : ℕ) (kind : StringKind) (held text whole : List ℕ) : Type 0 where
  pub bound : ℕ
  pub enough : length text < bound
  pub so_far : onto (λ xs. held ++ xs) (read_pieces (read_item left) kind bound text)
      ≡ read_pieces (read_item left) kind (suc (length whole)) whole
  pub room : length text ≤ length whole

pub pieces_begun : (left : ℕ) (kind : StringKind) (text : List ℕ) {held : List ℕ} → held ≡ []
    → PiecesSoFar left kind held text text
pieces_begun left kind text {held} none =
    let begun = pieces_begin (read_item left) kind text held none in
    record { bound = begun.0; enough = begun.1; so_far = begun.2; room = omega arith }

module _ {left : ℕ} {kind : StringKind} {held text whole : List ℕ} (l : PiecesSoFar left kind held text whole) where
  pub pieces_ended : begins_piece kind (first_start text) ≡ false
      → read_pieces (read_item left) kind (suc (length whole)) whole ≡ Ok (held, text)
  pieces_ended = pieces_end (read_item left) kind held l.bound text _ l.enough l.so_far

  module _ (begins : begins_piece kind (first_start text) ≡ true) where
    pub pieces_fail : (e : Error) → Fails e (read_piece (read_item left) text)
        → Fails e (read_pieces (read_item left) kind (suc (length whole)) whole)
    pieces_fail e h = piece_fails (read_item left) kind held l.bound text _ l.enough l.so_far e begins h

    pub pieces_go_on : {piece after rest new : List ℕ} → read_piece (read_item left) text ≡ Ok (piece, after)
        → rest ≡ skip_blank after → length after < length text → length rest ≤ length after → new ≡ held ++ piece
        → PiecesSoFar left kind new rest whole
    pieces_go_on {piece} {after} {rest} {new} found blank less shorter added =
        let more = piece_more (read_item left) kind held l.bound text _ l.enough l.so_far begins found blank less
        shorter in
        record {
          bound = more.0;
          enough = more.1;
          so_far = subst (λ (xs : List ℕ). onto (λ ys. xs ++ ys) (read_pieces (read_item left) kind more.0 rest)
              ≡ read_pieces (read_item left) kind (suc (length whole)) whole) (sym added) more.2;
          room = omega (arith, less, shorter, l.room);
        }
