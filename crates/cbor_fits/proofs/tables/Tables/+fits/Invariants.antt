-- Each call for what is inside has less depth left than the one that makes it. A loop over what is left comes to the
-- answer for all.
use Rattle.std.proofs.Common.{◌≡◌, ℕ, ◌+◌, ◌-◌, ◌*◌, drop, pos, map, if◌then◌else◌, Bool, ◌||◌, Some}
use Rattle.cbor_fits.specs.Value.{integer}
use Rattle.cbor_fits.specs.View.{view}
use Rattle.cbor_fits.specs.Tables.{rules_of}
use Rattle.cbor_fits.specs.Rests.{rest_view, pair_view_of}
use Rattle.cbor_fits.specs.Kept.{Holds}
use Rattle.cbor_fits.specs.Splits.{split_view}
use Rattle.cbor_fits.specs.Fits.{matcher, any_of, any_from, all_bits, all_bits_of, in_turn, first_of, repeated, occurs}
use Rattle.cbor_fits.specs.Fits.{split, no_split, refuses, cuts, size, size_count}
use Rattle.cbor_fits.proofs.tables.Tables.+fits.Given as goal

abbrev pub decreases-fits : goal.decreases-fits
decreases-fits l = l.depth * 9

abbrev pub decreases-takes : goal.decreases-takes
decreases-takes l = l.depth * 9

abbrev pub decreases-takes_itself : goal.decreases-takes_itself
decreases-takes_itself l = l.inner * 9 + 7

abbrev pub decreases-fits_anew : goal.decreases-fits_anew
decreases-fits_anew l = l.inner * 9 + 8

abbrev pub decreases-fits_itself : goal.decreases-fits_itself
decreases-fits_itself l = l.inner * 9 + 7

abbrev pub decreases-fits_one_of : goal.decreases-fits_one_of
decreases-fits_one_of l = l.inner * 9 + 6

abbrev pub decreases-fits_array : goal.decreases-fits_array
decreases-fits_array l = l.inner * 9 + 6

abbrev pub decreases-fits_map : goal.decreases-fits_map
decreases-fits_map l = l.inner * 9 + 6

abbrev pub decreases-fits_tag : goal.decreases-fits_tag
decreases-fits_tag l = l.inner * 9 + 6

abbrev pub decreases-fits_any_tag : goal.decreases-fits_any_tag
decreases-fits_any_tag l = l.inner * 9 + 6

abbrev pub decreases-fits_simple : goal.decreases-fits_simple
decreases-fits_simple l = l.inner * 9 + 6

abbrev pub decreases-fits_not : goal.decreases-fits_not
decreases-fits_not l = l.inner * 9 + 6

abbrev pub decreases-fits_size : goal.decreases-fits_size
decreases-fits_size l = l.inner * 9 + 6

abbrev pub decreases-fits_bits : goal.decreases-fits_bits
decreases-fits_bits l = l.inner * 9 + 6

abbrev pub decreases-fits_inside : goal.decreases-fits_inside
decreases-fits_inside l = l.inner * 9 + 6

abbrev pub decreases-fits_sequence : goal.decreases-fits_sequence
decreases-fits_sequence l = l.inner * 9 + 6

abbrev pub decreases-take_entry : goal.decreases-take_entry
decreases-take_entry l = l.inner * 9 + 6

abbrev pub decreases-fits_bits_of_bytes : goal.decreases-fits_bits_of_bytes
decreases-fits_bits_of_bytes l = l.inner * 9 + 5

abbrev pub decreases-take_member : goal.decreases-take_member
decreases-take_member l = l.inner * 9 + 5

abbrev pub decreases-take_in_turn : goal.decreases-take_in_turn
decreases-take_in_turn l = l.inner * 9 + 5

abbrev pub decreases-take_first_of : goal.decreases-take_first_of
decreases-take_first_of l = l.inner * 9 + 5

abbrev pub decreases-take_repeated : goal.decreases-take_repeated
decreases-take_repeated l = l.inner * 9 + 5

abbrev pub decreases-take_pairs : goal.decreases-take_pairs
decreases-take_pairs l = l.inner * 9 + 5

abbrev pub decreases-has_size_from : goal.decreases-has_size_from
decreases-has_size_from l = l.depth * 9 + 5

abbrev pub decreases-one_has_size_from : goal.decreases-one_has_size_from
decreases-one_has_size_from l = l.inner * 9 + 6

abbrev pub decreases-finds_size_from : goal.decreases-finds_size_from
decreases-finds_size_from l = l.inner * 9 + 4

abbrev pub decreases-fits_set_bits : goal.decreases-fits_set_bits
decreases-fits_set_bits l = l.inner * 9 + 4

abbrev pub decreases-fits_number : goal.decreases-fits_number
decreases-fits_number l = l.inner * 9 + 3

-- the types that are left decide
abbrev pub invariant-fits_one_of-types : goal.invariant-fits_one_of-types
invariant-fits_one_of-types l =
    let fits = λ (t : ℕ). (matcher (rules_of l.self) l.inner).fits t (view l.datum) in
    record {
      right : any_of fits (drop l.index-index l.index-items) ≡ any_of fits ((rules_of l.self).list l.fn.list);
      kept : Holds (rules_of l.self) l.work;
    }

-- the sizes that are left decide
abbrev pub invariant-finds_size_from-sizes : goal.invariant-finds_size_from-sizes
invariant-finds_size_from-sizes l =
    let fits = λ (k : ℕ). (matcher (rules_of l.self) l.inner).fits l.sizes (integer (pos k)) in
    record {
      right : any_from fits (size_count - l.size) l.size ≡ any_from fits (size_count - l.first) l.first;
      kept : Holds (rules_of l.self) l.work;
    }

-- with an answer for the types that are left there is one for all
abbrev pub invariant-one_has_size_from-types : goal.invariant-one_has_size_from-types
invariant-one_has_size_from-types l =
    let fits = λ (t k : ℕ). (matcher (rules_of l.self) l.inner).fits t (integer (pos k)) in
    let count = size_count - l.first in
    record {
      right : (b : Bool) → any_from (λ k. any_of (λ t. fits t k) (drop l.index-index l.index-items)) count l.first ≡ Some b
          → any_from (λ k. any_of (λ t. fits t k) ((rules_of l.self).list l.fn.list)) count l.first ≡ Some (l.found || b);
      kept : Holds (rules_of l.self) l.work;
    }

abbrev pub invariant-fits_bits_of_bytes-bytes : goal.invariant-fits_bits_of_bytes-bytes
invariant-fits_bits_of_bytes-bytes l =
    let fits = λ (k : ℕ). (matcher (rules_of l.self) l.inner).fits l.bits (integer (pos k)) in
    record {
      right : all_bits_of fits l.first (drop l.byte-index l.content) ≡ all_bits_of fits 0 l.content;
      kept : Holds (rules_of l.self) l.work;
    }

abbrev pub invariant-fits_set_bits-bits : goal.invariant-fits_set_bits-bits
invariant-fits_set_bits-bits l =
    let fits = λ (k : ℕ). (matcher (rules_of l.self) l.inner).fits l.bits (integer (pos k)) in
    record {
      right : all_bits fits (l.set.count - l.bit) (l.set.first + l.bit) l.number ≡
          all_bits fits l.set.count l.set.first l.set.number;
      kept : Holds (rules_of l.self) l.work;
    }

abbrev pub invariant-take_in_turn-parts : goal.invariant-take_in_turn-parts
invariant-take_in_turn-parts l =
    let takes = (matcher (rules_of l.self) l.inner).takes in
    record {
      right : in_turn takes (drop l.index-index l.index-items) (rest_view l.left)
          ≡ in_turn takes ((rules_of l.self).list l.fn.list) (rest_view l.rest);
      kept : Holds (rules_of l.self) l.work;
    }

abbrev pub invariant-take_first_of-groups : goal.invariant-take_first_of-groups
invariant-take_first_of-groups l =
    let takes = λ (g : ℕ). (matcher (rules_of l.self) l.inner).takes g (rest_view l.rest) in
    record {
      right : first_of takes (drop l.index-index l.index-items) (if l.cuts then cuts else refuses)
          ≡ first_of takes ((rules_of l.self).list l.fn.list) refuses;
      kept : Holds (rules_of l.self) l.work;
    }

abbrev pub invariant-take_repeated-turns : goal.invariant-take_repeated-turns
invariant-take_repeated-turns l =
    let takes = (matcher (rules_of l.self) l.inner).takes l.index in
    record {
      right : repeated takes (size (rest_view l.rest) + 1 - l.turn) l.least l.most (rest_view l.left)
          ≡ occurs takes l.fn.occurrence (rest_view l.rest);
      kept : Holds (rules_of l.self) l.work;
    }

abbrev pub invariant-take_pairs-pairs : goal.invariant-take_pairs-pairs
invariant-take_pairs-pairs l =
    let m = matcher (rules_of l.self) l.inner in
    record {
      right : split (m.fits l.entry.key) (m.fits l.entry.value) (map pair_view_of (drop l.pair-index l.pairs))
          (split_view l.split)
          ≡ split (m.fits l.entry.key) (m.fits l.entry.value) (map pair_view_of l.pairs) (no_split l.entry.occurrence);
      kept : Holds (rules_of l.self) l.work;
    }
