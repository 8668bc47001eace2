-- A split's state as one of its stores is called, or both.
use Rattle.std.proofs.Common.{◌≡◌, ℕ, ◌+◌, ◌-◌, ◌<◌, ◌≤◌, min, Bool, true, false, cond, eqb, ◌⊎◌, List, [], ◌∷◌, length, Some, None, Ok, Err, Option, Result, sym, refl, ap, ◌∙◌, subst, subst₂, inl, inr, arith, length-set, eqb-true, true≢false}
use lib.ListN.{length-replicate}
use Rattle.std.specs.Result.{is_ok, IsOkAnd, MatchResult}
use Rattle.std.proofs.lemmas.Bool.{cases_lt, and_parts, eq-eqb, ne_eqb}
use Rattle.store.specs.declared.name.Name.{Name}
use Rattle.store.specs.declared.denial.Handed.{Handed}
use Rattle.store.specs.declared.denial.Question.{Question}
use Rattle.store.specs.declared.denial.Question.TheVariants.{Alive}
use Rattle.store.specs.Meaning.{Meaning, with_packets, found, units, answer, alive_no, size_of, size_answer, make_no, make_after, discard_after, hand_answer, hand_after, write_after}
use Rattle.store.specs.Packets.{Packet, Packets, Entry, empty, insert, remove, lookup, used, used_in, new_packet, with_holder, with_byte}
use Rattle.store.proofs.Answered.{make_yes, make_granted, discard_alive, hand_alive, write_inside, write_outside}
use Rattle.store.proofs.Maps.{packets_equal, packets_from_lookups, lookup-empty, used-empty, used-new, used-same, used-drop}
use Rattle.split.specs.declared.split.Place.{Place}
use Rattle.split.specs.declared.split.Place.TheVariants.{Near, Far}
use Rattle.split.specs.Carry.{Moved}
use Rattle.split.specs.Places.{Lies, Placed}
use Rattle.split.specs.Splits.{merged, larger, split_meaning, unused, new_split, Fit, Stands}
use Rattle.split.proofs.Merging.{either, lookup-merged, used-merged, used_mono, used-member, Differs, inserted, removed, lacking, Lay, near, far, put, fits-put, cut, fits-cut}

-- ---- where a name's packet lies
size_known : (o : Option Packet) (z : ℕ) → Ok z ≡ answer (alive_no o) (size_of o) → (p : Packet) × (o ≡ Some p) × (length p.bytes ≡ z)
size_known None z e = cc
size_known (Some p) z e = (p, refl, (let w : length p.bytes ≡ z = cc in w))

size_denied : (o : Option Packet) (q : Question) → Err q ≡ answer (alive_no o) (size_of o) → (q ≡ Alive) × (o ≡ None)
size_denied None q e = ((let w : q ≡ Alive = cc in w), refl)
size_denied (Some p) q e = cc

module _ (a b : Meaning) (n : Name) (clean : Bool) where
  at-clean : clean ≡ true → found (split_meaning a b clean) n ≡ either (found a n) (found b n)
  at-clean e = ap (λ (t : Bool). found (split_meaning a b t) n) e ∙ lookup-merged n a.packets b.packets

  pub nowhere : clean ≡ false → found (split_meaning a b clean) n ≡ None
  nowhere e = ap (λ (t : Bool). found (split_meaning a b t) n) e ∙ lookup-empty n

  module _ (live : clean ≡ true) where
    pub lies-near : (size : ℕ) → Ok size ≡ size_answer a n → Placed a b clean n (Ok (Near size))
    lies-near size e =
        let z = size_known (found a n) size e in
        record { live = live; packet = z.0; there = z.1; sized = z.2; seen = z.1 ∙ sym (at-clean live ∙ ap (λ (o : Option Packet). either o (found b n)) z.1) }

    module _ {q : Question} (none : Err q ≡ size_answer a n) where
      gone : found a n ≡ None
      gone = (size_denied (found a n) q none).1

      beyond : found b n ≡ found (split_meaning a b clean) n
      beyond = sym (at-clean live ∙ ap (λ (o : Option Packet). either o (found b n)) gone)

      -- as the search goes on in the far store
      pub lies-beyond : (r : Result ℕ Question) → r ≡ size_answer b n → (place : Result Place Question) → MatchResult r (λ size. IsOkAnd place (λ p. p ≡ Far size)) (λ p. place ≡ Err p)
          → Placed a b clean n place
      lies-beyond (Ok size) e (Ok p) m =
          let z = size_known (found b n) size e in
          subst (λ (p : Place). Placed a b clean n (Ok p)) (sym m) (gone, record { live = live; packet = z.0; there = z.1; sized = z.2; seen = beyond })
      lies-beyond (Ok size) e (Err p) m = absurd m
      lies-beyond (Err p) e place m = let z = size_denied (found b n) p e in subst (Placed a b clean n) (sym m) (z.0, sym beyond ∙ z.1)

unplaced : (a b : Meaning) (n : Name) (clean : Bool) (r : Result Place Question) → is_ok r ≡ false → Placed a b clean n r → found (split_meaning a b clean) n ≡ None
unplaced a b n clean (Ok p) h t = absurd (true≢false h)
unplaced a b n clean (Err q) h t = t.1

-- ---- a split as it is made
module _ (a b : Meaning) (clean : Bool) {x y : ℕ} (e : x ≡ units a) (f : y ≡ units b) where
  pub clean_yes : x ≡ 0 → clean ≡ eqb y 0 → clean ≡ unused a b
  clean_yes h i = i ∙ ap (λ (z : ℕ). eqb z 0) f ∙ (rw (eq-eqb (units a) 0 (sym e ∙ h)))

  pub clean_no : (x ≡ 0 → ⊥) → clean ≡ eqb x 0 → clean ≡ unused a b
  clean_no h i = let z = ne_eqb (units a) 0 (λ w. h (e ∙ w)) in rw z (i ∙ ap (λ (v : ℕ). eqb v 0) e ∙ z)

used_none : (w : ℕ → ℕ) → ((k : ℕ) → 1 ≤ w k) → (m : Packets) → used w m ≡ 0 → m ≡ empty
unfolding used empty
used_none w h m e = packets_equal m empty (go m.entries e)
  where
    go : (es : List Entry) → used_in w es ≡ 0 → es ≡ []
    go [] z = refl
    go (x ∷ xs) z = let a = h (length x.packet.bytes) in absurd (omega arith)

module _ (a b : Meaning) (la : (i : ℕ) → 1 ≤ a.need i) (lb : (i : ℕ) → 1 ≤ b.need i) where
  both-empty : units a ≡ 0 → units b ≡ 0 → merged a.packets b.packets ≡ empty
  both-empty x y = packets_from_lookups _ _ λ q.
      lookup-merged q a.packets b.packets
      ∙ (λ i. either (lookup q (used_none a.need la a.packets x i)) (lookup q (used_none b.need lb b.packets y i)))
      ∙ ap (λ (o : Option Packet). either o (lookup q empty)) (lookup-empty q)

  none_in : (m : Packets) → m ≡ empty → {X : Type 0} (q : Name) (p : Packet) → lookup q m ≡ Some p → X
  none_in m z q p e = let w = sym (ap (lookup q) z ∙ lookup-empty q) ∙ e in cc

  new-fit : (k : ℕ) → units a ≡ 0 → units b ≡ 0 → Fit a b k 0
  new-fit k x y = record {
    apart = λ q p e. none_in a.packets (used_none a.need la a.packets x) q p e;
    near = λ q p e. none_in a.packets (used_none a.need la a.packets x) q p e;
    far = λ q p e. none_in b.packets (used_none b.need lb b.packets y) q p e;
    sum = sym (ap (used (larger a b)) (both-empty x y) ∙ used-empty (larger a b));
    within = omega arith;
  }

  module _ (clean : Bool) (e : clean ≡ unused a b) where
    pub new-meaning : split_meaning a b clean ≡ new_split a b
    new-meaning =
        λ i. record { packets = (ap (λ (t : Bool). cond t (merged a.packets b.packets) empty) e ∙ go (unused a b) refl) i; largest = min a.largest b.largest; capacity = cond (e i) (min a.capacity b.capacity) 0; need = larger a b }
      where
        go : (t : Bool) → unused a b ≡ t → cond t (merged a.packets b.packets) empty ≡ empty
        go false c = refl
        go true c = let z = and_parts (eqb (units a) 0) (eqb (units b) 0) c in both-empty (eqb-true (units a) 0 z.0) (eqb-true (units b) 0 z.1)

    pub new-stands : (k : ℕ) → Stands a b clean k 0
    new-stands k = record {
      least = λ i. let z = la i in omega arith;
      sum = sym (ap units new-meaning ∙ used-empty (larger a b));
      within = (let z = ap units new-meaning ∙ used-empty (larger a b) in omega arith);
      fit = λ c. (let z = and_parts (eqb (units a) 0) (eqb (units b) 0) (sym e ∙ c) in new-fit k (eqb-true (units a) 0 z.0) (eqb-true (units b) 0 z.1));
    }

-- ---- a change of the stores that keeps the split's state
pub record Next (a b : Meaning) (clean : Bool) (k v : ℕ) (goal : Meaning) : Type 0 where
  pub stands : Stands a b clean k v
  pub means : split_meaning a b clean ≡ goal

module _ {a b : Meaning} {clean : Bool} {k u : ℕ} (s : Stands a b clean k u) (live : clean ≡ true) where
  next : (x y : Packets) (v : ℕ) (goal : Bool → Meaning) → Fit (with_packets a x) (with_packets b y) k v
      → with_packets (split_meaning a b true) (merged x y) ≡ goal true → Next (with_packets a x) (with_packets b y) clean k v (goal clean)
  next x y v goal fit g =
      subst (λ (t : Bool). Next (with_packets a x) (with_packets b y) t k v (goal t)) (sym live)
      (record { stands = record { least = s.least; sum = fit.sum; within = (let z = fit.sum in let w = fit.within in omega arith); fit = λ _. fit }; means = g })

  module _ {n : Name} {near far : Option Packet} {x y : Packets} (l : Differs n near x a.packets) (r : Differs n far y b.packets) {p : Packet} (lay : Lay k p near far) where
    -- the packet of the name becomes one of the same size
    altered : (old : Packet) → lookup n (merged a.packets b.packets) ≡ Some old → length p.bytes ≡ length old.bytes → length old.bytes ≤ min a.largest b.largest
        → (goal : Bool → Meaning) → with_packets (split_meaning a b true) (insert n p (merged a.packets b.packets)) ≡ goal true
        → Next (with_packets a x) (with_packets b y) clean k u (goal clean)
    altered old e long small goal g =
        let fit = s.fit live in
        let j = put fit l r lay in
        let sum = fit.sum ∙ sym (ap (used (larger a b)) j ∙ used-same (larger a b) n p old (merged a.packets b.packets) e long) in
        next x y u goal (fits-put fit l r lay (omega arith) u sum fit.within) (ap (with_packets (split_meaning a b true)) j ∙ g)

    -- a packet that was not alive is made
    entered : lookup n (merged a.packets b.packets) ≡ None → length p.bytes ≤ min a.largest b.largest → (v : ℕ) → v ≡ u + larger a b (length p.bytes) → v ≤ min a.capacity b.capacity
        → (goal : Bool → Meaning) → with_packets (split_meaning a b true) (insert n p (merged a.packets b.packets)) ≡ goal true
        → Next (with_packets a x) (with_packets b y) clean k v (goal clean)
    entered e small v w within goal g =
        let fit = s.fit live in
        let j = put fit l r lay in
        let f = fit.sum in
        let c = used-new (larger a b) n p (merged a.packets b.packets) e in
        let q = ap (used (larger a b)) j in
        next x y v goal (fits-put fit l r lay small v (omega arith) within) (ap (with_packets (split_meaning a b true)) j ∙ g)

  -- the packet of the name is discarded
  dropped : {n : Name} {x y : Packets} → Differs n None x a.packets → Differs n None y b.packets → (old : Packet) → lookup n (merged a.packets b.packets) ≡ Some old → (v : ℕ) → v ≡ u - larger a b (length old.bytes)
      → (goal : Bool → Meaning) → with_packets (split_meaning a b true) (remove n (merged a.packets b.packets)) ≡ goal true
      → Next (with_packets a x) (with_packets b y) clean k v (goal clean)
  dropped {n} {x} {y} l r old e v w goal g =
      let fit = s.fit live in
      let j = cut fit l r in
      let d = used-drop (larger a b) n old (merged a.packets b.packets) e in
      let f = fit.sum in
      let q = ap (used (larger a b)) j in
      let c = fit.within in
      next x y v goal (fits-cut fit l r v (omega arith) (omega arith)) (ap (with_packets (split_meaning a b true)) j ∙ g)

-- ---- the packet of a name is known
-- wherever it lies
pub record Known (a b : Meaning) (n : Name) (packet : Packet) : Type 0 where
  pub there : lookup n (merged a.packets b.packets) ≡ Some packet
  pub small : length packet.bytes ≤ min a.largest b.largest

module _ {a b : Meaning} {clean : Bool} {k u : ℕ} (s : Stands a b clean k u) {n : Name} {size : ℕ} where
  known-near : (t : Lies a (split_meaning a b clean) clean n size) → Known a b n t.packet
  known-near t = record {
    there = lookup-merged n a.packets b.packets ∙ ap (λ (o : Option Packet). either o (found b n)) t.there;
    small = ((s.fit t.live).near n t.packet t.there).1;
  }

  known-far : found a n ≡ None → (t : Lies b (split_meaning a b clean) clean n size) → Known a b n t.packet
  known-far e t = record {
    there = lookup-merged n a.packets b.packets ∙ ap (λ (o : Option Packet). either o (found b n)) e ∙ t.there;
    small = ((s.fit t.live).far n t.packet t.there).1;
  }

  -- the units of a packet are among those in use
  counted : (live : clean ≡ true) {packet : Packet} → Known a b n packet → length packet.bytes ≡ size → larger a b size ≤ u
  counted live {packet} w z =
      let f = (s.fit live).sum in
      let d = used-member (larger a b) n packet (merged a.packets b.packets) w.there in
      let e = ap (larger a b) z in omega arith

module _ {a b a' b' : Meaning} {clean : Bool} {k u : ℕ} (s : Stands a b clean k u) (live : clean ≡ true) {n : Name} {x y : Packets} {near far : Option Packet}
    (l : Differs n near x a.packets) (r : Differs n far y b.packets) (e : a' ≡ with_packets a x) (f : b' ≡ with_packets b y) {old : Packet} (w : Known a b n old) where
  reached : {v : ℕ} {goal : Meaning} → Next (with_packets a x) (with_packets b y) clean k v goal → Next a' b' clean k v goal
  reached {v} {goal} t = subst₂ (λ (c d : Meaning). Next c d clean k v goal) (sym e) (sym f) t

  handed_on : {h : ℕ} → Lay k (with_holder h old) near far → Next a' b' clean k u (hand_after (split_meaning a b clean) n h)
  handed_on {h} lay =
      reached (altered s live l r lay old w.there refl w.small (λ t. hand_after (split_meaning a b t) n h) (hand_alive (split_meaning a b true) n old w.there h).1)

  written : (i v : ℕ) → i < length old.bytes → Lay k (with_byte i v old) near far → Next a' b' clean k u (write_after (split_meaning a b clean) n i v)
  written i v h lay =
      reached
      (altered s live l r lay old w.there (length-set old.bytes i v) w.small (λ t. write_after (split_meaning a b t) n i v) (write_inside (split_meaning a b true) n old w.there i v h).1)

  discarded : near ≡ None → far ≡ None → {v : ℕ} → v ≡ u - larger a b (length old.bytes) → Next a' b' clean k v (discard_after (split_meaning a b clean) n)
  discarded p q {v} m =
      reached
      (dropped s live (subst (λ (o : Option Packet). Differs n o x a.packets) p l) (subst (λ (o : Option Packet). Differs n o y b.packets) q r) old w.there v m (λ t. discard_after (split_meaning a b t) n)
      (discard_alive (split_meaning a b true) n old w.there).1)

-- ---- the packet lies near, or far
module _ {a b : Meaning} {clean : Bool} {k u : ℕ} (s : Stands a b clean k u) (n : Name) {size : ℕ} where
  -- an offset past the end changes nothing
  outside : {m : Meaning} (t : Lies m (split_meaning a b clean) clean n size) (i v : ℕ) → length t.packet.bytes ≤ i → Next a b clean k u (write_after (split_meaning a b clean) n i v)
  outside t i v h = record { stands = s; means = (write_outside (split_meaning a b clean) n t.packet (sym t.seen ∙ t.there) i v h).1 }

  module _ {place : Place} (is : place ≡ Near size) (placed : Placed a b clean n (Ok place)) where
    lies : Lies a (split_meaning a b clean) clean n size
    lies = subst (λ (p : Place). Placed a b clean n (Ok p)) is placed

    near-alone : Differs n None b.packets b.packets
    near-alone = lacking n b.packets ((s.fit lies.live).apart n lies.packet lies.there)

    pub near_hand : {a' : Meaning} {h : ℕ} → h ≤ k → a' ≡ hand_after a n h → Next a' b clean k u (hand_after (split_meaning a b clean) n h)
    near_hand {h = h} le e = handed_on s lies.live (inserted n (with_holder h lies.packet) a.packets) near-alone (e ∙ sym (hand_alive a n lies.packet lies.there h).1) refl (known-near s lies) (near le)

    pub near_write : {a' : Meaning} (i v : ℕ) → a' ≡ write_after a n i v → Next a' b clean k u (write_after (split_meaning a b clean) n i v)
    near_write {a'} i v e = go (cases_lt i (length lies.packet.bytes))
      where
        go : (i < length lies.packet.bytes) ⊎ (length lies.packet.bytes ≤ i) → Next a' b clean k u (write_after (split_meaning a b clean) n i v)
        go (inl h) =
            written s lies.live (inserted n (with_byte i v lies.packet) a.packets) near-alone (e ∙ sym (write_inside a n lies.packet lies.there i v h).1) refl (known-near s lies) i v h
            (near ((s.fit lies.live).near n lies.packet lies.there).0)
        go (inr h) = subst (λ (m : Meaning). Next m b clean k u (write_after (split_meaning a b clean) n i v)) ((write_outside a n lies.packet lies.there i v h).1 ∙ sym e) (outside lies i v h)

    pub near_counted : larger a b size ≤ u
    near_counted = counted s lies.live (known-near s lies) lies.sized

    pub near_discard : {a' : Meaning} {need : ℕ} → need ≡ larger a b size → a' ≡ discard_after a n → Next a' b clean k (u - need) (discard_after (split_meaning a b clean) n)
    near_discard {need = need} z e =
        discarded s lies.live (removed n a.packets) near-alone (e ∙ sym (discard_alive a n lies.packet lies.there).1) refl (known-near s lies) refl refl
        (ap (λ (i : ℕ). u - i) (z ∙ ap (larger a b) (sym lies.sized)))

    -- the far store would take it
    near-room : make_no b n size ≡ None
    near-room =
        let fit = s.fit lies.live in
        let p = fit.near n lies.packet lies.there in
        let z = lies.sized in
        let v = used-merged (larger a b) a.packets b.packets fit.apart in
        let w : larger a b size ≤ used (larger a b) a.packets = subst (λ (i : ℕ). larger a b i ≤ used (larger a b) a.packets) lies.sized (used-member (larger a b) n lies.packet a.packets lies.there) in
        let m = used_mono b.need (larger a b) (λ i. omega arith) b.packets in
        let sum = fit.sum in
        let within = fit.within in
        make_yes b n size (fit.apart n lies.packet lies.there) (omega arith) (omega arith)

    pub near_move : {a' b' : Meaning} {h : ℕ} {r : Result Handed Question} → k < h → Moved a a' b b' n size h r
        → (r ≡ hand_answer (split_meaning a b clean) n) × Next a' b' clean k u (hand_after (split_meaning a b clean) n h)
    near_move {h = h} lt m =
        let v = m lies.packet lies.there lies.sized near-room in (
          v.0 ∙ (hand_alive (split_meaning a b clean) n lies.packet (sym lies.seen ∙ lies.there) h).0,
          handed_on s lies.live (removed n a.packets) (inserted n (with_holder h lies.packet) b.packets) v.1 v.2 (known-near s lies) (far lt),
        )

  module _ {place : Place} (is : place ≡ Far size) (placed : Placed a b clean n (Ok place)) where
    placed-far : (found a n ≡ None) × Lies b (split_meaning a b clean) clean n size
    placed-far = subst (λ (p : Place). Placed a b clean n (Ok p)) is placed

    none : found a n ≡ None
    none = placed-far.0

    held : Lies b (split_meaning a b clean) clean n size
    held = placed-far.1

    far-alone : Differs n None a.packets a.packets
    far-alone = lacking n a.packets none

    pub far_hand : {b' : Meaning} {h : ℕ} → k < h → b' ≡ hand_after b n h → Next a b' clean k u (hand_after (split_meaning a b clean) n h)
    far_hand {h = h} lt e = handed_on s held.live far-alone (inserted n (with_holder h held.packet) b.packets) refl (e ∙ sym (hand_alive b n held.packet held.there h).1) (known-far s none held) (far lt)

    pub far_write : {b' : Meaning} (i v : ℕ) → b' ≡ write_after b n i v → Next a b' clean k u (write_after (split_meaning a b clean) n i v)
    far_write {b'} i v e = go (cases_lt i (length held.packet.bytes))
      where
        go : (i < length held.packet.bytes) ⊎ (length held.packet.bytes ≤ i) → Next a b' clean k u (write_after (split_meaning a b clean) n i v)
        go (inl h) =
            written s held.live far-alone (inserted n (with_byte i v held.packet) b.packets) refl (e ∙ sym (write_inside b n held.packet held.there i v h).1) (known-far s none held) i v h
            (far ((s.fit held.live).far n held.packet held.there).0)
        go (inr h) = subst (λ (m : Meaning). Next a m clean k u (write_after (split_meaning a b clean) n i v)) ((write_outside b n held.packet held.there i v h).1 ∙ sym e) (outside held i v h)

    pub far_counted : larger a b size ≤ u
    far_counted = counted s held.live (known-far s none held) held.sized

    pub far_discard : {b' : Meaning} {need : ℕ} → need ≡ larger a b size → b' ≡ discard_after b n → Next a b' clean k (u - need) (discard_after (split_meaning a b clean) n)
    far_discard {need = need} z e =
        discarded s held.live far-alone (removed n b.packets) refl (e ∙ sym (discard_alive b n held.packet held.there).1) (known-far s none held) refl refl
        (ap (λ (i : ℕ). u - i) (z ∙ ap (larger a b) (sym held.sized)))

    -- the near store would take it
    far-room : make_no a n size ≡ None
    far-room =
        let fit = s.fit held.live in
        let p = fit.far n held.packet held.there in
        let z = held.sized in
        let v = used-merged (larger a b) a.packets b.packets fit.apart in
        let w : larger a b size ≤ used (larger a b) b.packets = subst (λ (i : ℕ). larger a b i ≤ used (larger a b) b.packets) held.sized (used-member (larger a b) n held.packet b.packets held.there) in
        let m = used_mono a.need (larger a b) (λ i. omega arith) a.packets in
        let sum = fit.sum in
        let within = fit.within in
        make_yes a n size none (omega arith) (omega arith)

    pub far_move : {a' b' : Meaning} {h : ℕ} {r : Result Handed Question} → h ≤ k → Moved b b' a a' n size h r
        → (r ≡ hand_answer (split_meaning a b clean) n) × Next a' b' clean k u (hand_after (split_meaning a b clean) n h)
    far_move {h = h} le m =
        let v = m held.packet held.there held.sized far-room in (
          v.0 ∙ (hand_alive (split_meaning a b clean) n held.packet (sym held.seen ∙ held.there) h).0,
          handed_on s held.live (inserted n (with_holder h held.packet) a.packets) (removed n b.packets) v.2 v.1 (known-far s none held) (near le),
        )

-- ---- a new packet
module _ {a b : Meaning} {clean : Bool} {k u : ℕ} (s : Stands a b clean k u) (n : Name) (size : ℕ) (place : Result Place Question) (no : is_ok place ≡ false) (placed : Placed a b clean n place)
    {largest capacity need : ℕ} (l : largest ≡ min a.largest b.largest) (fits : size ≤ largest) (counts : need ≡ larger a b size) (whole : capacity ≡ (split_meaning a b clean).capacity) (enough : need ≤ capacity - u) where
  missing : found (split_meaning a b clean) n ≡ None
  missing = unplaced a b n clean place no placed

  small : size ≤ min a.largest b.largest
  small = omega arith

  room : larger a b size ≤ (split_meaning a b clean).capacity - u
  room = omega arith

  -- only a split that was made over empty stores has room
  fresh : clean ≡ true
  fresh = go clean refl room (s.least size)
    where
      go : (t : Bool) → clean ≡ t → larger a b size ≤ (split_meaning a b t).capacity - u → 1 ≤ larger a b size → clean ≡ true
      go true c r l = c
      go false c r l = absurd (omega arith)

  gone-there : lookup n (merged a.packets b.packets) ≡ None
  gone-there = subst (λ (t : Bool). found (split_meaning a b t) n ≡ None) fresh missing

  room-there : u + larger a b size ≤ min a.capacity b.capacity
  room-there = let r = room in let c = ap (λ (t : Bool). (split_meaning a b t).capacity) fresh in let w = (s.fit fresh).within in omega arith

  apart : (found a n ≡ None) × (found b n ≡ None)
  apart = go (found a n) refl
    where
      go : (o : Option Packet) → found a n ≡ o → (found a n ≡ None) × (found b n ≡ None)
      go None e = (e, ap (λ (o : Option Packet). either o (found b n)) (sym e) ∙ sym (lookup-merged n a.packets b.packets) ∙ gone-there)
      go (Some p) e = let w = sym gone-there ∙ lookup-merged n a.packets b.packets ∙ ap (λ (o : Option Packet). either o (found b n)) e in cc

  granted : make_no (split_meaning a b clean) n size ≡ None
  granted =
      let z = s.sum in
      let v = s.least size in
      let r = room in
      make_yes (split_meaning a b clean) n size missing small (omega arith)

  near-granted : make_no a n size ≡ None
  near-granted =
      let fit = s.fit fresh in
      let v = used-merged (larger a b) a.packets b.packets fit.apart in
      let m = used_mono a.need (larger a b) (λ i. omega arith) a.packets in
      let sum = fit.sum in
      let r = room-there in
      let w = small in
      make_yes a n size apart.0 (omega arith) (omega arith)

  far-granted : make_no b n size ≡ None
  far-granted =
      let fit = s.fit fresh in
      let v = used-merged (larger a b) a.packets b.packets fit.apart in
      let m = used_mono b.need (larger a b) (λ i. omega arith) b.packets in
      let sum = fit.sum in
      let r = room-there in
      let w = small in
      make_yes b n size apart.1 (omega arith) (omega arith)

  module _ {a' b' : Meaning} {x y : Packets} {near far : Option Packet} (p : Differs n near x a.packets) (q : Differs n far y b.packets) (e : a' ≡ with_packets a x) (f : b' ≡ with_packets b y) where
    made : Lay k (new_packet n size) near far → Next a' b' clean k (u + need) (make_after (split_meaning a b clean) n size)
    made lay =
        let w : length (new_packet n size).bytes ≡ size = length-replicate size 0 in
        let i : larger a b (length (new_packet n size).bytes) ≡ larger a b size = ap (larger a b) w in
        let j = room-there in
        let m = small in
        subst₂ (λ (c d : Meaning). Next c d clean k (u + need) (make_after (split_meaning a b clean) n size)) (sym e) (sym f)
        (entered s fresh p q lay gone-there (omega arith) (u + need) (omega arith) (omega arith) (λ t. make_after (split_meaning a b t) n size)
        (make_granted (split_meaning a b true) n size (subst (λ (t : Bool). make_no (split_meaning a b t) n size ≡ None) fresh granted)).1)

  pub near_make : {a' : Meaning} → n.maker ≤ k → a' ≡ make_after a n size → Next a' b clean k (u + need) (make_after (split_meaning a b clean) n size)
  near_make le e = made (inserted n (new_packet n size) a.packets) (lacking n b.packets apart.1) (e ∙ sym (make_granted a n size near-granted).1) refl (near le)

  pub far_make : {b' : Meaning} → k < n.maker → b' ≡ make_after b n size → Next a b' clean k (u + need) (make_after (split_meaning a b clean) n size)
  far_make lt e = made (lacking n a.packets apart.0) (inserted n (new_packet n size) b.packets) refl (e ∙ sym (make_granted b n size far-granted).1) (far lt)
