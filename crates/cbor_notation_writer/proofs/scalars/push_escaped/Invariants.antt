-- What is written and the bytes not yet copied are the escaped text so far.
use Rattle.std.proofs.Common.{◌≡◌, ◌≤◌, ◌++◌, take, drop}
use Rattle.std.specs.Io.{StartsWith}
use Rattle.std.specs.Str.{IsCharBoundary}
use Rattle.std.specs.String.{string_bytes}
use Rattle.cbor_tokens.specs.Ascii.{quote}
use Rattle.cbor_tokens.specs.Token.{in_quotes}
use Rattle.cbor_notation_writer.proofs.scalars.push_escaped.Given as goal

-- what is written, and the bytes from `done` on, are the escaped bytes so far
abbrev pub invariant-bytes : goal.invariant-bytes
invariant-bytes l = record {
  written : string_bytes l.out ++ drop l.done (take l.place l.content) ≡ string_bytes l.fn.out
      ++ in_quotes quote (take l.place l.content);
  begins : StartsWith (string_bytes l.out) (string_bytes l.fn.out);
  order : l.done ≤ l.place;
  boundary : IsCharBoundary l.content l.done;
}
