-- An element less is left each time.
use Rattle.cbor_edn_writer.proofs.print.elements.+push_more.Given as goal

abbrev pub decreases-push_more : goal.decreases-push_more
decreases-push_more l = l.left
