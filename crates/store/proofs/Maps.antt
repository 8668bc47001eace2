-- The laws of the finite map of packets.
use Rattle.std.proofs.Common.{◌≡◌, ℕ, ◌+◌, Bool, true, false, cond, ◌⊎◌, List, [], ◌∷◌, length, Some, None, Option, sym, refl, ap, ◌∙◌, subst, inl, inr, true≢false, arith}
use mathlib.Core.HLevel.{×_prop, is_prop→PathP}
use mathlib.Core.Bool.{Bool-set}
use Rattle.store.specs.declared.name.Name.{Name}
use Rattle.store.specs.Names.{earlier, same, earlier_other, earlier-apart, same_equal, same_refl}
use Rattle.store.specs.Packets.{Packet, Entry, Packets, lookup_in, insert_in, remove_in, used_in, Above, Ascending, empty, lookup, insert, remove, used, alter, need_of, above_trans}

-- ---- names
pub same_or : (a b : Name) → (a ≡ b) ⊎ (same a b ≡ false)
same_or a b = go (same a b) refl
  where
    go : (t : Bool) → same a b ≡ t → (a ≡ b) ⊎ (same a b ≡ false)
    go true e = inl (same_equal a b e)
    go false e = inr e

pub same_not : (a b : Name) → same a b ≡ false → a ≡ b → ⊥
same_not a b h w = true≢false (sym (same_refl a) ∙ subst (λ (n : Name). same a n ≡ false) (sym w) h)

pub same_true : (a b : Name) → a ≡ b → same a b ≡ true
same_true a b w = subst (λ (n : Name). same a n ≡ true) w (same_refl a)

pub apart-same : (a b : Name) → (a ≡ b → ⊥) → same a b ≡ false
apart-same a b h = go (same_or a b)
  where
    go : (a ≡ b) ⊎ (same a b ≡ false) → same a b ≡ false
    go (inl w) = absurd (h w)
    go (inr e) = e

pub same_flip : (a b : Name) → same a b ≡ false → same b a ≡ false
same_flip a b h = apart-same b a (λ w. same_not a b h (sym w))

-- ---- look-ups in lists
two : (t : Bool) (x y : Packet) (z : Option Packet) → cond t (Some x) z ≡ cond t (Some x) (cond t (Some y) z)
two true x y z = refl
two false x y z = refl

module _ (q n : Name) (p : Packet) (e : Entry) (es : List Entry) where
  past : same n e.name ≡ false → lookup_in q (insert_in n p es) ≡ cond (same q n) (Some p) (lookup_in q es)
      → (q ≡ n) ⊎ (same q n ≡ false)
      → cond (same q e.name) (Some e.packet) (lookup_in q (insert_in n p es))
      ≡ cond (same q n) (Some p) (cond (same q e.name) (Some e.packet) (lookup_in q es))
  past k rest (inl w) =
      let s = same_true q n w in
      let r : same q e.name ≡ false = subst (λ (m : Name). same m e.name ≡ false) (sym w) k in
      simp (r, rest, s)
  past k rest (inr h) = simp (rest, h)

  at : (b c : Bool) → same n e.name ≡ c → lookup_in q (insert_in n p es) ≡ cond (same q n) (Some p) (lookup_in q es)
      → lookup_in q (cond b (record { name = n; packet = p } ∷ e ∷ es) (cond c (record { name = n; packet = p } ∷ es) (e ∷ insert_in n p es)))
      ≡ cond (same q n) (Some p) (cond (same q e.name) (Some e.packet) (lookup_in q es))
  at true c k rest = refl
  at false true k rest =
      subst
      (λ (m : Name). cond (same q n) (Some p) (lookup_in q es) ≡ cond (same q n) (Some p) (cond (same q m) (Some e.packet) (lookup_in q es)))
      (same_equal n e.name k)
      (two (same q n) p e.packet (lookup_in q es))
  at false false k rest = past k rest (same_or q n)

pub lookup_in-insert : (q n : Name) (p : Packet) (es : List Entry) → lookup_in q (insert_in n p es) ≡ cond (same q n) (Some p) (lookup_in q es)
lookup_in-insert q n p [] = refl
lookup_in-insert q n p (e ∷ es) = at q n p e es (earlier n e.name) (same n e.name) refl (lookup_in-insert q n p es)

-- a name below every entry is not among them
pub lookup_in-above : (n : Name) (es : List Entry) → Above n es → lookup_in n es ≡ None
lookup_in-above n [] a = refl
lookup_in-above n (e ∷ es) a = rw (earlier-apart n e.name a.0) (lookup_in-above n es a.1)

module _ (q n : Name) (e : Entry) (es : List Entry) where
  cut : (c : Bool) → same n e.name ≡ c → Above e.name es → lookup_in q (remove_in n es) ≡ cond (same q n) None (lookup_in q es)
      → (q ≡ n) ⊎ (same q n ≡ false)
      → lookup_in q (cond c es (e ∷ remove_in n es)) ≡ cond (same q n) None (cond (same q e.name) (Some e.packet) (lookup_in q es))
  cut true k a rest (inl w) =
      let s = same_true q n w in
      let g : lookup_in q es ≡ None = subst (λ (m : Name). lookup_in m es ≡ None) (sym (w ∙ same_equal n e.name k)) (lookup_in-above e.name es a) in
      simp (s, g)
  cut true k a rest (inr h) =
      let r : same q e.name ≡ false = subst (λ (m : Name). same q m ≡ false) (same_equal n e.name k) h in
      simp (h, r)
  cut false k a rest (inl w) =
      let s = same_true q n w in
      let r : same q e.name ≡ false = subst (λ (m : Name). same m e.name ≡ false) (sym w) k in
      simp (r, rest, s)
  cut false k a rest (inr h) = simp (rest, h)

pub lookup_in-remove : (q n : Name) (es : List Entry) → Ascending es → lookup_in q (remove_in n es) ≡ cond (same q n) None (lookup_in q es)
lookup_in-remove q n [] a = elim (same q n) as (λ t. ◌≡◌ {A = Option Packet} None (cond t None None)) [ true ↦ refl | false ↦ refl ]
lookup_in-remove q n (e ∷ es) a = cut q n e es (same n e.name) refl a.0 (lookup_in-remove q n es a.1) (same_or q n)

-- ---- equal look-ups give equal maps
pub above_prop : (n : Name) (es : List Entry) → IsProp (Above n es)
above_prop n [] x y = refl
above_prop n (e ∷ es) x y = ×_prop (Bool-set (earlier n e.name) true) (above_prop n es) x y

pub ascending_prop : (es : List Entry) → IsProp (Ascending es)
ascending_prop [] x y = refl
ascending_prop (e ∷ es) x y = ×_prop (above_prop e.name es) (ascending_prop es) x y

pub packets_equal : (a b : Packets) → a.entries ≡ b.entries → a ≡ b
packets_equal a b w = λ i. record { entries = w i; ascending = is_prop→PathP (λ j. Ascending (w j)) (λ j. ascending_prop (w j)) a.ascending b.ascending i }

first-there : (x : Entry) (xs : List Entry) → lookup_in x.name (x ∷ xs) ≡ Some x.packet
first-there x xs = rw (same_refl x.name)

module _ (x y : Entry) (xs ys : List Entry) (a : Ascending (x ∷ xs)) (b : Ascending (y ∷ ys)) (h : (q : Name) → lookup_in q (x ∷ xs) ≡ lookup_in q (y ∷ ys)) where
  heads : x.name ≡ y.name → x ≡ y
  heads w =
      let f = first-there x xs in
      let g : lookup_in x.name (y ∷ ys) ≡ Some y.packet = rw (same_true x.name y.name w) in
      let k = h x.name in
      let v : x.packet ≡ y.packet = cc in
      λ i. record { name = w i; packet = v i }

  tails : x.name ≡ y.name → (q : Name) → lookup_in q xs ≡ lookup_in q ys
  tails w q = go (same_or q x.name)
    where
      go : (q ≡ x.name) ⊎ (same q x.name ≡ false) → lookup_in q xs ≡ lookup_in q ys
      go (inl v) =
          let f : lookup_in q xs ≡ None = subst (λ (m : Name). lookup_in m xs ≡ None) (sym v) (lookup_in-above x.name xs a.0) in
          let g : lookup_in q ys ≡ None = subst (λ (m : Name). lookup_in m ys ≡ None) (sym (v ∙ w)) (lookup_in-above y.name ys b.0) in
          f ∙ sym g
      go (inr e) =
          let r : same q y.name ≡ false = subst (λ (m : Name). same q m ≡ false) w e in
          rw (e, r) at (h q)

  not_earlier : earlier x.name y.name ≡ true → ⊥
  not_earlier e =
      let w = sym (lookup_in-above x.name (y ∷ ys) (e, above_trans x.name y.name ys e b.0)) ∙ sym (h x.name) ∙ first-there x xs in cc

pub lists_equal : (xs ys : List Entry) → Ascending xs → Ascending ys → ((q : Name) → lookup_in q xs ≡ lookup_in q ys) → xs ≡ ys
lists_equal [] [] a b h = refl
lists_equal [] (y ∷ ys) a b h = let w = h y.name ∙ first-there y ys in cc
lists_equal (x ∷ xs) [] a b h = let w = sym (h x.name) ∙ first-there x xs in cc
lists_equal (x ∷ xs) (y ∷ ys) a b h =
    go (earlier x.name y.name) refl (same x.name y.name) refl (λ w. lists_equal xs ys a.1 b.1 (tails x y xs ys a b h w))
  where
    go : (s : Bool) → earlier x.name y.name ≡ s → (t : Bool) → same x.name y.name ≡ t → (x.name ≡ y.name → xs ≡ ys) → x ∷ xs ≡ y ∷ ys
    go true e t f rest = absurd (not_earlier x y xs ys a b h e)
    go false e true f rest =
        let w = same_equal x.name y.name f in
        let p = heads x y xs ys a b h w in
        let q = rest w in cc
    go false e false f rest = absurd (not_earlier y x ys xs b a (λ q. sym (h q)) (earlier_other x.name y.name e f))

-- ---- needs
pub used_in-insert : (need : ℕ → ℕ) (n : Name) (p : Packet) (es : List Entry) → Ascending es
    → used_in need (insert_in n p es) + need_of need (lookup_in n es) ≡ used_in need es + need (length p.bytes)
used_in-insert need n p [] a = omega arith
used_in-insert need n p (e ∷ es) a = go (earlier n e.name) refl (same n e.name) refl (used_in-insert need n p es a.1)
  where
    go : (s : Bool) → earlier n e.name ≡ s → (t : Bool) → same n e.name ≡ t
        → used_in need (insert_in n p es) + need_of need (lookup_in n es) ≡ used_in need es + need (length p.bytes)
        → used_in need (cond s (record { name = n; packet = p } ∷ e ∷ es) (cond t (record { name = n; packet = p } ∷ es) (e ∷ insert_in n p es)))
        + need_of need (cond t (Some e.packet) (lookup_in n es))
        ≡ need (length e.packet.bytes) + used_in need es + need (length p.bytes)
    go true h true k rest = absurd (true≢false (sym k ∙ earlier-apart n e.name h))
    go true h false k rest =
        let g = lookup_in-above n es (above_trans n e.name es h a.0) in
        rw g (omega arith)
    go false h true k rest = omega arith
    go false h false k rest = omega arith

pub used_in-remove : (need : ℕ → ℕ) (n : Name) (es : List Entry)
    → used_in need (remove_in n es) + need_of need (lookup_in n es) ≡ used_in need es
used_in-remove need n [] = omega arith
used_in-remove need n (e ∷ es) = go (same n e.name) (used_in-remove need n es)
  where
    go : (t : Bool) → used_in need (remove_in n es) + need_of need (lookup_in n es) ≡ used_in need es
        → used_in need (cond t es (e ∷ remove_in n es)) + need_of need (cond t (Some e.packet) (lookup_in n es)) ≡ need (length e.packet.bytes) + used_in need es
    go true rest = omega arith
    go false rest = omega arith

-- ---- the laws of the map
pub lookup-empty : (q : Name) → lookup q empty ≡ None
unfolding lookup empty
lookup-empty q = refl

pub lookup-insert : (q n : Name) (p : Packet) (m : Packets) → lookup q (insert n p m) ≡ cond (same q n) (Some p) (lookup q m)
unfolding lookup insert
lookup-insert q n p m = lookup_in-insert q n p m.entries

pub lookup-remove : (q n : Name) (m : Packets) → lookup q (remove n m) ≡ cond (same q n) None (lookup q m)
unfolding lookup remove
lookup-remove q n m = lookup_in-remove q n m.entries m.ascending

pub packets_from_lookups : (a b : Packets) → ((q : Name) → lookup q a ≡ lookup q b) → a ≡ b
unfolding lookup
packets_from_lookups a b h = packets_equal a b (lists_equal a.entries b.entries a.ascending b.ascending h)

pub used-empty : (need : ℕ → ℕ) → used need empty ≡ 0
unfolding used empty
used-empty need = refl

pub used-insert : (need : ℕ → ℕ) (n : Name) (p : Packet) (m : Packets) → used need (insert n p m) + need_of need (lookup n m) ≡ used need m + need (length p.bytes)
unfolding used insert lookup
used-insert need n p m = used_in-insert need n p m.entries m.ascending

pub used-remove : (need : ℕ → ℕ) (n : Name) (m : Packets) → used need (remove n m) + need_of need (lookup n m) ≡ used need m
unfolding used remove lookup
used-remove need n m = used_in-remove need n m.entries

-- ---- and what follows from them
pub lookup-insert-same : (n : Name) (p : Packet) (m : Packets) → lookup n (insert n p m) ≡ Some p
lookup-insert-same n p m = rw (lookup-insert n n p m, same_refl n)

pub lookup-insert_other : (q n : Name) (p : Packet) (m : Packets) → (q ≡ n → ⊥) → lookup q (insert n p m) ≡ lookup q m
lookup-insert_other q n p m h = rw (lookup-insert q n p m, apart-same q n h)

pub lookup-remove-same : (n : Name) (m : Packets) → lookup n (remove n m) ≡ None
lookup-remove-same n m = rw (lookup-remove n n m, same_refl n)

pub lookup-remove_other : (q n : Name) (m : Packets) → (q ≡ n → ⊥) → lookup q (remove n m) ≡ lookup q m
lookup-remove_other q n m h = rw (lookup-remove q n m, apart-same q n h)

pub insert-twice : (n : Name) (p r : Packet) (m : Packets) → insert n p (insert n r m) ≡ insert n p m
insert-twice n p r m = packets_from_lookups _ _ λ q. rw (lookup-insert q n p (insert n r m), lookup-insert q n r m, lookup-insert q n p m) (go (same q n) q)
  where
    go : (t : Bool) (q : Name) → cond t (Some p) (cond t (Some r) (lookup q m)) ≡ cond t (Some p) (lookup q m)
    go true q = refl
    go false q = refl

pub insert-known : (n : Name) (p : Packet) (m : Packets) → lookup n m ≡ Some p → insert n p m ≡ m
insert-known n p m h = packets_from_lookups _ _ λ q. rw (lookup-insert q n p m) (go q (same_or q n))
  where
    go : (q : Name) → (q ≡ n) ⊎ (same q n ≡ false) → cond (same q n) (Some p) (lookup q m) ≡ lookup q m
    go q (inl w) = let s = same_true q n w in rw s (sym h ∙ ap (λ (x : Name). lookup x m) (sym w))
    go q (inr e) = rw e

pub remove-insert : (n : Name) (p : Packet) (m : Packets) → lookup n m ≡ None → remove n (insert n p m) ≡ m
remove-insert n p m h = packets_from_lookups _ _ λ q. rw (lookup-remove q n (insert n p m), lookup-insert q n p m) (go q (same_or q n))
  where
    go : (q : Name) → (q ≡ n) ⊎ (same q n ≡ false) → cond (same q n) None (cond (same q n) (Some p) (lookup q m)) ≡ lookup q m
    go q (inl w) = let s = same_true q n w in rw s (sym h ∙ ap (λ (x : Name). lookup x m) (sym w))
    go q (inr e) = rw e

pub insert_swap : (a b : Name) (p r : Packet) (m : Packets) → (a ≡ b → ⊥) → insert a p (insert b r m) ≡ insert b r (insert a p m)
insert_swap a b p r m h =
    packets_from_lookups _ _ λ q. rw (lookup-insert q a p (insert b r m), lookup-insert q b r m, lookup-insert q b r (insert a p m), lookup-insert q a p m) (go q (same_or q a))
  where
    go : (q : Name) → (q ≡ a) ⊎ (same q a ≡ false)
        → cond (same q a) (Some p) (cond (same q b) (Some r) (lookup q m)) ≡ cond (same q b) (Some r) (cond (same q a) (Some p) (lookup q m))
    go q (inl w) =
        let s = same_true q a w in
        let d = apart-same q b (λ v. h (sym w ∙ v)) in rw (s, d)
    go q (inr e) = rw e

pub alter-alive : (f : Packet → Packet) (n : Name) (p : Packet) (m : Packets) → lookup n m ≡ Some p → alter f n m ≡ insert n (f p) m
alter-alive f n p m h = rw h

pub used-new : (need : ℕ → ℕ) (n : Name) (p : Packet) (m : Packets) → lookup n m ≡ None → used need (insert n p m) ≡ used need m + need (length p.bytes)
used-new need n p m h = let u = used-insert need n p m in let v = ap (need_of need) h in omega arith

-- another packet of the same size
pub used-same : (need : ℕ → ℕ) (n : Name) (p r : Packet) (m : Packets) → lookup n m ≡ Some r → length p.bytes ≡ length r.bytes
    → used need (insert n p m) ≡ used need m
used-same need n p r m h e = let u = used-insert need n p m in let v = ap (need_of need) h in let w = ap need e in omega arith

pub used-drop : (need : ℕ → ℕ) (n : Name) (p : Packet) (m : Packets) → lookup n m ≡ Some p → used need (remove n m) + need (length p.bytes) ≡ used need m
used-drop need n p m h = let u = used-remove need n m in let v = ap (need_of need) h in omega arith

pub remove_swap : (a b : Name) (p : Packet) (m : Packets) → (a ≡ b → ⊥) → remove a (insert b p m) ≡ insert b p (remove a m)
remove_swap a b p m h =
    packets_from_lookups _ _ λ q. rw (lookup-remove q a (insert b p m), lookup-insert q b p m, lookup-insert q b p (remove a m), lookup-remove q a m) (go q (same_or q a))
  where
    go : (q : Name) → (q ≡ a) ⊎ (same q a ≡ false)
        → cond (same q a) None (cond (same q b) (Some p) (lookup q m)) ≡ cond (same q b) (Some p) (cond (same q a) None (lookup q m))
    go q (inl w) =
        let s = same_true q a w in
        let d = apart-same q b (λ v. h (sym w ∙ v)) in rw (s, d)
    go q (inr e) = rw e
