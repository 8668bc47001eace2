-- The merge of two maps, and as the packet of one name changes in them.
use Rattle.std.proofs.Common.{◌≡◌, ℕ, ◌+◌, ◌<◌, ◌≤◌, min, Bool, true, false, cond, ◌⊎◌, List, [], ◌∷◌, length, Some, None, Option, sym, refl, ap, ◌∙◌, subst, inl, inr, arith}
use Rattle.store.specs.declared.name.Name.{Name}
use Rattle.store.specs.Names.{same, same_refl}
use Rattle.store.specs.Meaning.{Meaning, with_packets}
use Rattle.store.specs.Packets.{Packet, Packets, Entry, insert, remove, lookup, lookup_in, used, used_in, Ascending}
use Rattle.store.proofs.Maps.{same_or, same_true, lookup-insert, lookup-remove, lookup_in-above, packets_from_lookups, used-new, used-drop}
use Rattle.split.specs.Splits.{merged_in, merged, larger, Fit}

abbrev pub either : Option Packet → Option Packet → Option Packet
either None o = o
either (Some p) o = Some p

lookup-merged_in : (q : Name) (es : List Entry) (m : Packets) → lookup q (merged_in es m) ≡ either (lookup_in q es) (lookup q m)
lookup-merged_in q [] m = refl
lookup-merged_in q (e ∷ es) m = lookup-insert q e.name e.packet (merged_in es m) ∙ go (same q e.name) (lookup-merged_in q es m)
  where
    go : (t : Bool) → lookup q (merged_in es m) ≡ either (lookup_in q es) (lookup q m)
        → cond t (Some e.packet) (lookup q (merged_in es m)) ≡ either (cond t (Some e.packet) (lookup_in q es)) (lookup q m)
    go true r = refl
    go false r = r

pub lookup-merged : (q : Name) (a b : Packets) → lookup q (merged a b) ≡ either (lookup q a) (lookup q b)
unfolding merged lookup
lookup-merged q a b = lookup-merged_in q a.entries b

-- ---- needs
used-merged_in : (w : ℕ → ℕ) (es : List Entry) (m : Packets) → Ascending es → ((q : Name) (p : Packet) → lookup_in q es ≡ Some p → lookup q m ≡ None)
    → used w (merged_in es m) ≡ used_in w es + used w m
used-merged_in w [] m s h = omega arith
used-merged_in w (e ∷ es) m s h =
    let here : lookup e.name m ≡ None = h e.name e.packet (rw (same_refl e.name)) in
    let none : lookup e.name (merged_in es m) ≡ None =
    lookup-merged_in e.name es m ∙ ap (λ (o : Option Packet). either o (lookup e.name m)) (lookup_in-above e.name es s.0) ∙ here in
    let u = used-new w e.name e.packet (merged_in es m) none in
    let v = used-merged_in w es m s.1 (λ q p k. rest q p k (same_or q e.name)) in
    omega arith
  where
    rest : (q : Name) (p : Packet) → lookup_in q es ≡ Some p → (q ≡ e.name) ⊎ (same q e.name ≡ false) → lookup q m ≡ None
    rest q p k (inl v) = h q e.packet (rw (same_true q e.name v))
    rest q p k (inr f) = h q p (rw f k)

pub used-merged : (w : ℕ → ℕ) (a b : Packets) → ((q : Name) (p : Packet) → lookup q a ≡ Some p → lookup q b ≡ None) → used w (merged a b) ≡ used w a + used w b
unfolding merged used lookup
used-merged w a b h = used-merged_in w a.entries b a.ascending h

used_in_mono : (w v : ℕ → ℕ) → ((k : ℕ) → w k ≤ v k) → (es : List Entry) → used_in w es ≤ used_in v es
used_in_mono w v h [] = omega arith
used_in_mono w v h (e ∷ es) = let a = h (length e.packet.bytes) in let b = used_in_mono w v h es in omega arith

pub used_mono : (w v : ℕ → ℕ) → ((k : ℕ) → w k ≤ v k) → (m : Packets) → used w m ≤ used v m
unfolding used
used_mono w v h m = used_in_mono w v h m.entries

pub used-member : (w : ℕ → ℕ) (n : Name) (p : Packet) (m : Packets) → lookup n m ≡ Some p → w (length p.bytes) ≤ used w m
used-member w n p m e = let d = used-drop w n p m e in omega arith

-- ---- maps by their look-ups
-- a map with another packet of one name, or with none
pub record Differs (n : Name) (o : Option Packet) (new old : Packets) : Type 0 where
  pub at : (q : Name) → lookup q new ≡ cond (same q n) o (lookup q old)

pub inserted : (n : Name) (p : Packet) (m : Packets) → Differs n (Some p) (insert n p m) m
inserted n p m = record { at = λ q. lookup-insert q n p m }

pub removed : (n : Name) (m : Packets) → Differs n None (remove n m) m
removed n m = record { at = λ q. lookup-remove q n m }

pub lacking : (n : Name) (m : Packets) → lookup n m ≡ None → Differs n None m m
lacking n m e = record { at = λ q. go q (same_or q n) }
  where
    go : (q : Name) → (q ≡ n) ⊎ (same q n ≡ false) → lookup q m ≡ cond (same q n) None (lookup q m)
    go q (inl w) = let t = same_true q n w in rw t (ap (λ (i : Name). lookup i m) w ∙ e)
    go q (inr f) = rw f

-- a packet lies in the one of the two maps that its holder says
pub data Lay (k : ℕ) (p : Packet) : Option Packet → Option Packet → Type 0 where
  near : p.holder ≤ k → Lay k p (Some p) None
  far : k < p.holder → Lay k p None (Some p)

only : {p q : Packet} → ◌≡◌ {A = Option Packet} (Some p) (Some q) → p ≡ q
only {p} {q} e = cc

module _ {k : ℕ} {p : Packet} where
  lay_either : {x y : Option Packet} → Lay k p x y → either x y ≡ Some p
  lay_either (near h) = refl
  lay_either (far h) = refl

  lay-apart : {x y : Option Packet} → Lay k p x y → (q : Packet) → x ≡ Some q → y ≡ None
  lay-apart (near h) q e = refl
  lay-apart (far h) q e = cc

  lay-near : {x y : Option Packet} → Lay k p x y → (m : ℕ) → length p.bytes ≤ m → (q : Packet) → x ≡ Some q → (q.holder ≤ k) × (length q.bytes ≤ m)
  lay-near (near h) m l q e = subst (λ (r : Packet). (r.holder ≤ k) × (length r.bytes ≤ m)) (only e) (h, l)
  lay-near (far h) m l q e = cc

  lay-far : {x y : Option Packet} → Lay k p x y → (m : ℕ) → length p.bytes ≤ m → (q : Packet) → y ≡ Some q → (k < q.holder) × (length q.bytes ≤ m)
  lay-far (near h) m l q e = cc
  lay-far (far h) m l q e = subst (λ (r : Packet). (k < r.holder) × (length r.bytes ≤ m)) (only e) (h, l)

-- ---- the packet of one name changes in both maps, and nothing else
module _ {a b : Meaning} {k u : ℕ} (fit : Fit a b k u) {n : Name} {x y : Packets} {near far : Option Packet} (l : Differs n near x a.packets) (r : Differs n far y b.packets) where
  joined : Differs n (either near far) (merged x y) (merged a.packets b.packets)
  joined = record { at = λ q. lookup-merged q x y ∙ simp (l.at q, r.at q) (go q (same q n)) }
    where
      go : (q : Name) (t : Bool) → either (cond t near (lookup q a.packets)) (cond t far (lookup q b.packets)) ≡ cond t (either near far) (lookup q (merged a.packets b.packets))
      go q true = refl
      go q false = sym (lookup-merged q a.packets b.packets)

  fits : ((p : Packet) → near ≡ Some p → far ≡ None)
      → ((p : Packet) → near ≡ Some p → (p.holder ≤ k) × (length p.bytes ≤ min a.largest b.largest))
      → ((p : Packet) → far ≡ Some p → (k < p.holder) × (length p.bytes ≤ min a.largest b.largest))
      → (v : ℕ) → v ≡ used (larger a b) (merged x y) → v ≤ min a.capacity b.capacity → Fit (with_packets a x) (with_packets b y) k v
  fits one in_near in-far v sum within = record {
    apart = λ q s e. apart q s e (same_or q n);
    near = λ q s e. nears q s e (same_or q n);
    far = λ q s e. fars q s e (same_or q n);
    sum = sum;
    within = within;
  }
    where
      apart : (q : Name) (s : Packet) → lookup q x ≡ Some s → (q ≡ n) ⊎ (same q n ≡ false) → lookup q y ≡ None
      apart q s e (inl w) = let t = same_true q n w in r.at q ∙ rw t (one s (rw t at (sym (l.at q) ∙ e)))
      apart q s e (inr f) = r.at q ∙ rw f (fit.apart q s (rw f at (sym (l.at q) ∙ e)))

      nears : (q : Name) (s : Packet) → lookup q x ≡ Some s → (q ≡ n) ⊎ (same q n ≡ false) → (s.holder ≤ k) × (length s.bytes ≤ min a.largest b.largest)
      nears q s e (inl w) = let t = same_true q n w in in_near s (rw t at (sym (l.at q) ∙ e))
      nears q s e (inr f) = fit.near q s (rw f at (sym (l.at q) ∙ e))

      fars : (q : Name) (s : Packet) → lookup q y ≡ Some s → (q ≡ n) ⊎ (same q n ≡ false) → (k < s.holder) × (length s.bytes ≤ min a.largest b.largest)
      fars q s e (inl w) = let t = same_true q n w in in-far s (rw t at (sym (r.at q) ∙ e))
      fars q s e (inr f) = fit.far q s (rw f at (sym (r.at q) ∙ e))

  -- it lies in one of them
  module _ {p : Packet} (lay : Lay k p near far) where
    pub put : merged x y ≡ insert n p (merged a.packets b.packets)
    put = packets_from_lookups _ _ λ q. joined.at q ∙ ap (λ (o : Option Packet). cond (same q n) o (lookup q (merged a.packets b.packets))) (lay_either lay) ∙ sym (lookup-insert q n p (merged a.packets b.packets))

    pub fits-put : length p.bytes ≤ min a.largest b.largest → (v : ℕ) → v ≡ used (larger a b) (merged x y) → v ≤ min a.capacity b.capacity → Fit (with_packets a x) (with_packets b y) k v
    fits-put small = fits (lay-apart lay) (lay-near lay _ small) (lay-far lay _ small)

-- it lies in neither
module _ {a b : Meaning} {k u : ℕ} (fit : Fit a b k u) {n : Name} {x y : Packets} (l : Differs n None x a.packets) (r : Differs n None y b.packets) where
  pub cut : merged x y ≡ remove n (merged a.packets b.packets)
  cut = packets_from_lookups _ _ λ q. (joined fit l r).at q ∙ sym (lookup-remove q n (merged a.packets b.packets))

  pub fits-cut : (v : ℕ) → v ≡ used (larger a b) (merged x y) → v ≤ min a.capacity b.capacity → Fit (with_packets a x) (with_packets b y) k v
  fits-cut = fits fit l r (λ s e. cc) (λ s e. cc) (λ s e. cc)
