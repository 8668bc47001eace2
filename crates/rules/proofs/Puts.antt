-- Laws of `put`.
use Rattle.std.proofs.Common.{◌≡◌, ℕ, ◌≤◌, false, ◌≢◌, ◌⊎◌, length, Some, None, Option, sym, refl, ◌∙◌, subst, inl, inr, arith}
use Rattle.store.specs.declared.name.Name.{Name}
use Rattle.store.specs.Names.{same}
use Rattle.store.specs.Packets.{Packet, Packets, lookup, used, need_of}
use Rattle.store.proofs.Maps.{same_or, same_not, lookup-insert-same, lookup-insert_other, lookup-remove-same, lookup-remove_other, packets_from_lookups, used-remove}
use Rattle.rules.specs.State.{put}

pub same? : (n m : Name) → Dec (n ≡ m)
same? n m = go (same_or n m)
  where
    go : (n ≡ m) ⊎ (same n m ≡ false) → Dec (n ≡ m)
    go (inl e) = yes e
    go (inr f) = no (same_not n m f)

pub lookup-same : (n : Name) (o : Option Packet) (ps : Packets) → lookup n (put n o ps) ≡ o
unfolding put
lookup-same n None ps = lookup-remove-same n ps
lookup-same n (Some p) ps = lookup-insert-same n p ps

pub lookup_other : (n m : Name) (o : Option Packet) (ps : Packets) → n ≢ m → lookup n (put m o ps) ≡ lookup n ps
unfolding put
lookup_other n m None ps h = lookup-remove_other n m ps h
lookup_other n m (Some p) ps h = lookup-insert_other n m p ps h

pub put_comm : (n m : Name) (a b : Option Packet) (ps : Packets) → n ≢ m → put m b (put n a ps) ≡ put n a (put m b ps)
put_comm n m a b ps h = packets_from_lookups (put m b (put n a ps)) (put n a (put m b ps)) (λ k. go k (same? k n) (same? k m))
  where
    go : (k : Name) → Dec (k ≡ n) → Dec (k ≡ m) → lookup k (put m b (put n a ps)) ≡ lookup k (put n a (put m b ps))
    go k (yes p) d =
        subst (λ (x : Name). lookup x (put m b (put n a ps)) ≡ lookup x (put n a (put m b ps))) (sym p)
        (lookup_other n m b (put n a ps) h ∙ lookup-same n a ps ∙ sym (lookup-same n a (put m b ps)))
    go k (no p) (yes q) =
        subst (λ (x : Name). lookup x (put m b (put n a ps)) ≡ lookup x (put n a (put m b ps))) (sym q)
        (lookup-same m b (put n a ps) ∙ sym (lookup-same m b ps) ∙ sym (lookup_other m n a (put m b ps) (λ e. h (sym e))))
    go k (no p) (no q) = lookup_other k m b (put n a ps) q ∙ lookup_other k n a ps p ∙ sym (lookup_other k n a (put m b ps) p ∙ lookup_other k m b ps q)

-- the last packet put stands
pub put-twice : (n : Name) (a b : Option Packet) (ps : Packets) → put n b (put n a ps) ≡ put n b ps
put-twice n a b ps = packets_from_lookups (put n b (put n a ps)) (put n b ps) (λ k. go k (same? k n))
  where
    go : (k : Name) → Dec (k ≡ n) → lookup k (put n b (put n a ps)) ≡ lookup k (put n b ps)
    go k (yes p) = subst (λ (x : Name). lookup x (put n b (put n a ps)) ≡ lookup x (put n b ps)) (sym p) (lookup-same n b (put n a ps) ∙ sym (lookup-same n b ps))
    go k (no p) = lookup_other k n b (put n a ps) p ∙ lookup_other k n a ps p ∙ sym (lookup_other k n b ps p)

-- with needs of at least 1, nothing used is nothing alive
pub none_used : (need : ℕ → ℕ) (ps : Packets) → ((k : ℕ) → 1 ≤ need k) → used need ps ≡ 0 → (n : Name) → lookup n ps ≡ None
none_used need ps h z n = go (lookup n ps) (let a = used-remove need n ps in omega arith)
  where
    go : (o : Option Packet) → need_of need o ≡ 0 → o ≡ None
    go None e = refl
    go (Some p) e = absurd (let k = h (length p.bytes) in omega arith)
