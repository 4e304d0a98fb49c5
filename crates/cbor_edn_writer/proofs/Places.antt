-- If an `EdnPlace` gets what is known of its line, and perhaps a note (`LaidOut`), its level and its layout stay the
-- same.
use Rattle.std.proofs.Common.{◌≡◌, ap, inl, inr}
use Rattle.cbor_edn_writer.specs.declared.print.place.EdnPlace.{EdnPlace}
use Rattle.cbor_edn_writer.specs.EdnLeaves.{LaidOut}

pub same_level : (p q : EdnPlace) → LaidOut p q → q.level ≡ p.level
same_level p q (line, inl e) = ap (λ (x : EdnPlace). x.level) e
same_level p q (line, inr (start, at)) = ap (λ (x : EdnPlace). x.level) at.3

pub same_layout : (p q : EdnPlace) → LaidOut p q → q.layout ≡ p.layout
same_layout p q (line, inl e) = ap (λ (x : EdnPlace). x.layout) e
same_layout p q (line, inr (start, at)) = ap (λ (x : EdnPlace). x.layout) at.3
