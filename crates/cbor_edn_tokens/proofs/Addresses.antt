-- The definitions of addresses in EDN agree with std: `ipv4_bytes` and `ipv6_bytes` return the bytes of a text that is
-- an address in std's grammar, and nothing for another text. `ip_item` reads an address with a prefix length if a level
-- is left, and `tagged_ip` takes a level for its tag. `used_so_far` counts for the loop of `used`, which finds the last
-- byte that is not 0.
use Rattle.std.proofs.Common.{◌≡◌, ℕ, zero, suc, List, [], ◌∷◌, ◌++◌, length, Some, None, refl, sym, ap, subst}
use Rattle.std.proofs.Common.{◌+◌, ◌<◌, ◌==◌, if◌then◌else◌, take, drop, position}
use Rattle.std.proofs.Common.{◌∙◌, append-nil, lit≤, ne_eqb, arith}
use Rattle.std.specs.declared.net.ipv4_addr.Ipv4Addr.{Ipv4Addr}
use Rattle.std.specs.declared.net.ipv6_addr.Ipv6Addr.{Ipv6Addr}
use Rattle.std.specs.Net.Addr.{ipv4_octets, ipv6_octets, octets_of}
use Rattle.std.specs.Net.Grammar.{IsIpv4Text, IsIpv6Text}
use Rattle.std.specs.Net.Reader.{Read, whole_value, read_ipv4, read_ipv6}
use Rattle.std.proofs.NetLemmas.Ipv4.{read_ipv4_complete, read_ipv4_sound}
use Rattle.std.proofs.NetLemmas.Ipv6.{read_ipv6_complete, read_ipv6_sound, EndsGroups-nil}
use Rattle.cbor_edn_grammar.specs.Reading.{◌>>=◌}
use Rattle.cbor_grammar.specs.declared.width.IntegerWidth.TheVariants.{Unknown}
use Rattle.cbor_grammar.specs.Item.{tagged}
use Rattle.cbor_edn_grammar.specs.Address.{ipv4_bytes, ipv6_bytes, is_ipv6, prefix_item, parted_item, ip_item, ip_tag}
use Rattle.cbor_edn_grammar.specs.Address.{tagged_ip}

-- a reader that is not at the end of a text gives no value of all of it
whole_none : {A : Type 0} (text : List ℕ) (Spells : List ℕ → A → Type 0) (read : Read A)
    → ((x : A) (rest : List ℕ) → read ≡ Some (x, rest) → (front : List ℕ) × (text ≡ front ++ rest) × Spells front x)
    → ((x : A) → ¬ (Spells text x)) → whole_value read ≡ None
whole_none text Spells None sound none = refl
whole_none text Spells (Some (x, [])) sound none =
    let (front, split, spells) = sound x [] refl in
    absurd (none x (subst (λ t. Spells t x) (sym (split ∙ append-nil front)) spells))
whole_none text Spells (Some (x, b ∷ rest)) sound none = rw (ne_eqb (length (b ∷ rest)) 0 (omega arith)) refl

pub ipv4_yes : (text : List ℕ) (a : Ipv4Addr) → IsIpv4Text text a → ipv4_bytes text ≡ Some (ipv4_octets a)
unfolding ipv4_bytes
ipv4_yes text a h = ap whole_value (ap read_ipv4 (sym (append-nil text)) ∙ read_ipv4_complete text _ [] h (lit≤ tt))

pub ipv4_no : (text : List ℕ) → ((a : Ipv4Addr) → ¬ (IsIpv4Text text a)) → ipv4_bytes text ≡ None
unfolding ipv4_bytes
ipv4_no text none =
    whole_none text (λ t octets. IsIpv4Text t (record { octets = octets })) (read_ipv4 text)
    (λ octets rest e. read_ipv4_sound text octets rest e) (λ octets. none (record { octets = octets }))

pub ipv6_yes : (text : List ℕ) (a : Ipv6Addr) → IsIpv6Text text a → ipv6_bytes text ≡ Some (ipv6_octets a)
unfolding ipv6_bytes
ipv6_yes text a h =
    ap (λ r. whole_value r >>= λ segments. Some (octets_of segments))
    (ap read_ipv6 (sym (append-nil text)) ∙ read_ipv6_complete text _ [] h EndsGroups-nil)

pub ipv6_no : (text : List ℕ) → ((a : Ipv6Addr) → ¬ (IsIpv6Text text a)) → ipv6_bytes text ≡ None
unfolding ipv6_bytes
ipv6_no text none =
    ap (λ r. r >>= λ segments. Some (octets_of segments))
    (whole_none text (λ t segments. IsIpv6Text t (record { segments = segments })) (read_ipv6 text)
    (λ segments rest e. read_ipv6_sound text segments rest e) (λ segments. none (record { segments = segments })))

pub ruleset address_laws = (ipv4_yes, ipv4_no, ipv6_yes, ipv6_no)

-- ---- zeros at the end

-- how many bytes there are up to the last that is not 0, where this many were passed, and that last one was among them
-- at `found`, and there are `later` from there on
abbrev pub used_so_far : ℕ → ℕ → ℕ → ℕ
used_so_far found passed later = if later == 0 then found else passed + later

-- ---- the levels that an address takes

parted_left : (left : ℕ) (content : List ℕ) (n : ℕ) → 0 < left
    → parted_item left content (Some n) ≡ prefix_item (is_ipv6 content) (take n content) (drop (n + 1) content)
parted_left zero content n some = absurd (omega arith)
parted_left (suc left) content n some = refl

pub prefix_left : (left : ℕ) (content : List ℕ) (n : ℕ) → 0 < left → Some n ≡ position (λ b. b == 47) content
    → ip_item left content ≡ prefix_item (is_ipv6 content) (take n content) (drop (n + 1) content)
unfolding ip_item
prefix_left left content n some at = ap (parted_item left content) (sym at) ∙ parted_left left content n some

pub tagged_ip_none : (left : ℕ) (content : List ℕ) → left ≡ 0 → tagged_ip left content ≡ None
unfolding tagged_ip
tagged_ip_none zero content e = refl
tagged_ip_none (suc left) content e = absurd (omega arith)

pub tagged_ip_left : (left inner : ℕ) (content : List ℕ) → left ≡ suc inner
    → tagged_ip left content ≡ (ip_item inner content >>= λ i. Some (tagged (ip_tag content) Unknown i))
unfolding tagged_ip
tagged_ip_left zero inner content e = absurd (omega arith)
tagged_ip_left (suc left) inner content e =
    let same : left ≡ inner = omega arith in
    ap (λ n. ip_item n content >>= λ i. Some (tagged (ip_tag content) Unknown i)) same
