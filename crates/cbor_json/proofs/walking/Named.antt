-- For the loop of `push_object` in `walk.rt`: after each pair, the output is the old text, the map's opening and the
-- pairs so far, and the names of their keys are known (`NamedWritten`). With the closing, it is a text of the map with
-- these names (`NamedText`), if no two of them are equal.
use Rattle.std.proofs.Common.{◌≡◌, ℕ, ◌+◌, List, [], ◌∷◌, ◌++◌, eqb, Bool, codes, refl, sym, ap, subst, ◌∙◌}
use Rattle.std.proofs.Common.{arith, append_assoc, append-nil}
use Rattle.std.proofs.Math.Dec.{eqb-suc-zero}
use Rattle.json.specs.Strict.{AreDistinct}
use Rattle.cbor_grammar.specs.declared.argument.Argument.{Argument}
use Rattle.cbor_grammar.specs.declared.layout.ContainerStyle.{ContainerStyle}
use Rattle.cbor_grammar.specs.Item.{Item, Pairs, no_pairs, pair, pair_count}
use Rattle.cbor_grammar.specs.NotationText.{members_layout}
use Rattle.cbor_grammar.specs.Reading.{joined_pairs}
use Rattle.cbor_notation_writer.specs.declared.parts.Container.TheVariants.{Map}
use Rattle.cbor_notation_writer.specs.Dialect.{Writer, listed}
use Rattle.cbor_notation_writer.proofs.straight.Texts.{past_pairs, is_none, listed_more}
use Rattle.cbor_json.specs.JsonLeaves.{json_leaves, opening_at, closing_at, before_member}
use Rattle.cbor_json.specs.declared.print.place.JsonPlace.{JsonPlace}
use Rattle.cbor_json.specs.mirror.Walking.{NamedPair, NamedPairs, NamedText}

abbrev starts : Argument → Bool → List ℕ
starts count first = before_member (Map count) first

module _ (write : Writer JsonPlace) where
  past_more : (p : JsonPlace) (ps : Pairs) (k v : Item) → past_pairs json_leaves p (joined_pairs ps (pair k v no_pairs))
      ≡ json_leaves.next (json_leaves.value k (past_pairs json_leaves p ps))
  past_more p no_pairs k v = refl
  past_more p (pair j u ps) k v = past_more (json_leaves.next (json_leaves.value j p)) ps k v

  named_more : (p : JsonPlace) (ps : Pairs) (k v : Item) (ns ms : List (List ℕ)) (n m : List ℕ)
      → NamedPairs write p ps ns ms → NamedPair write (past_pairs json_leaves p ps) k v n m
      → NamedPairs write p (joined_pairs ps (pair k v no_pairs)) (ns ++ n ∷ []) (ms ++ m ∷ [])
  named_more p no_pairs k v [] [] n m each one = (one, tt)
  named_more p no_pairs k v [] (x ∷ ms) n m each one = absurd each
  named_more p no_pairs k v (y ∷ ns) ms n m each one = absurd each
  named_more p (pair j u ps) k v [] ms n m each one = absurd each
  named_more p (pair j u ps) k v (y ∷ ns) [] n m each one = absurd each
  named_more p (pair j u ps) k v (y ∷ ns) (x ∷ ms) n m each one =
      (each.0, named_more (json_leaves.next (json_leaves.value j p)) ps k v ns ms n m each.1 one)

  first_named : (p : JsonPlace) (ps : Pairs) (ns ms : List (List ℕ)) (held : ℕ) → NamedPairs write p ps ns ms
      → pair_count ps ≡ held → eqb held 0 ≡ is_none ms
  first_named p no_pairs [] [] held each is = ap (λ n. eqb n 0) (sym is)
  first_named p no_pairs [] (m ∷ ms) held each is = absurd each
  first_named p no_pairs (n ∷ ns) ms held each is = absurd each
  first_named p (pair k v more) [] ms held each is = absurd each
  first_named p (pair k v more) (n ∷ ns) [] held each is = absurd each
  first_named p (pair k v more) (n ∷ ns) (m ∷ ms) held each is =
      ap (λ n. eqb n 0) (sym is) ∙ eqb-suc-zero (pair_count more)

  -- These pairs are written after the opening of their map, and these are their names.
  pub record NamedWritten (p first : JsonPlace) (count : Argument) (old out : List ℕ) (ps : Pairs) (now : JsonPlace)
      (held : ℕ) (ns : List (List ℕ)) : Type 0 where
    pub opening : List ℕ
    pub texts : List (List ℕ)
    pub opens : opening ≡ opening_at p.role (Map count)
    pub each : NamedPairs write first ps ns texts
    pub place : now ≡ past_pairs json_leaves first ps
    pub text : out ≡ (old ++ opening) ++ listed (starts count) [] texts
    pub many : pair_count ps ≡ held

  pub no_pairs_named : (p first now : JsonPlace) (count : Argument) (old out : List ℕ) → now ≡ first
      → (o : List ℕ) × (o ≡ opening_at p.role (Map count)) × (out ≡ old ++ o)
      → NamedWritten p first count old out no_pairs now 0 []
  no_pairs_named p first now count old out same o = record {
    opening = o.0;
    texts = [];
    opens = o.1;
    each = tt;
    place = same;
    text = o.2 ∙ sym (append-nil (old ++ o.0));
    many = refl;
  }

  count_one : (js : Pairs) (k v : Item) → pair_count (joined_pairs js (pair k v no_pairs)) ≡ pair_count js + 1
  count_one no_pairs k v = refl
  count_one (pair j u js) k v = omega (arith, count_one js k v)

  more_text : (count : Argument) (ms : List (List ℕ)) (begun out started key between written n b : List ℕ)
      (first : Bool) → first ≡ is_none ms → out ≡ begun ++ listed (starts count) [] ms
      → started ≡ out ++ starts count first → key ≡ started ++ n → between ≡ key ++ codes ": " → written ≡ between ++ b
      → written ≡ begun ++ listed (starts count) [] (ms ++ (n ++ (codes ": " ++ b)) ∷ [])
  more_text count ms begun out started key between written n b first is p q r s t =
      let before : List ℕ = listed (starts count) [] ms in
      let here : List ℕ = starts count (is_none ms) in
      let m : List ℕ = n ++ (codes ": " ++ b) in
      let begins : started ≡ (begun ++ before) ++ here =
      q ∙ ap (λ x. x ++ starts count first) p ∙ ap (λ f. (begun ++ before) ++ starts count f) is in
      let all : written ≡ ((((begun ++ before) ++ here) ++ n) ++ codes ": ") ++ b =
      t ∙ ap (λ x. x ++ b) (s ∙ ap (λ x. x ++ codes ": ") (r ∙ ap (λ x. x ++ n) begins)) in
      let joined : ((((begun ++ before) ++ here) ++ n) ++ codes ": ") ++ b ≡ begun ++ (before ++ (here ++ m)) =
      simp append_assoc in
      all ∙ joined ∙ ap (λ x. begun ++ (before ++ (here ++ x))) (sym (append-nil m))
      ∙ ap (λ x. begun ++ x) (sym (listed_more (starts count) [] ms m))

  pub one_pair_named : (p first now value next : JsonPlace) (count : Argument)
      (old out started key between written : List ℕ) (ps : Pairs) (k v : Item) (held : ℕ) (ns : List (List ℕ))
      (n b : List ℕ) → NamedWritten p first count old out ps now held ns → started ≡ out ++ starts count (eqb held 0)
      → write now k n → key ≡ started ++ n → between ≡ key ++ codes ": " → write value v b → written ≡ between ++ b
      → value ≡ json_leaves.value k now → next ≡ json_leaves.next value
      → NamedWritten p first count old written (joined_pairs ps (pair k v no_pairs)) next (held + 1) (ns ++ n ∷ [])
  one_pair_named p first now value next count old out started key between written ps k v held ns n b w q one r s two t
      keyed pass =
      let m : List ℕ = n ++ (codes ": " ++ b) in
      let pair_is : NamedPair write now k v n m = (b, one, subst (λ x. write x v b) keyed two, refl) in
      record {
        opening = w.opening;
        texts = w.texts ++ m ∷ [];
        opens = w.opens;
        each = named_more first ps k v ns w.texts n m w.each
            (subst (λ x. NamedPair write x k v n m) w.place pair_is);
        place = pass ∙ ap json_leaves.next (keyed ∙ ap (json_leaves.value k) w.place) ∙ sym (past_more first ps k v);
        text = more_text count w.texts (old ++ w.opening) out started key between written n b (eqb held 0)
            (first_named first ps ns w.texts held w.each w.many) w.text q r s t;
        many = omega (arith, count_one ps k v, w.many);
      }

  pub pairs_named : (p now : JsonPlace) (count : Argument) (l : ContainerStyle) (old out new : List ℕ) (ps : Pairs)
      (held : ℕ) (ns : List (List ℕ))
      → NamedWritten p (json_leaves.inside (Map count) (members_layout l) p) count old out ps now held ns
      → AreDistinct ns → (e : List ℕ) × (e ≡ closing_at p.role (Map count)) × (new ≡ out ++ e)
      → (t : List ℕ) × NamedText write p (Map count) l ps t × (new ≡ old ++ t)
  pairs_named p now count l old out new ps held ns w apart ends =
      let inner : List ℕ = listed (starts count) [] w.texts in
      let regroup : ((old ++ w.opening) ++ inner) ++ ends.0 ≡ old ++ (w.opening ++ (inner ++ ends.0)) =
      simp append_assoc in (
        w.opening ++ (inner ++ ends.0),
        (ns, w.texts, w.each, apart, (w.opening, ends.0, w.opens, ends.1, refl)),
        ends.2 ∙ ap (λ x. x ++ ends.0) w.text ∙ regroup,
      )
