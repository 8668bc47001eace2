-- What a table means, as rows of it change.
use Rattle.std.proofs.Common.{◌≡◌, ℕ, zero, suc, ◌+◌, ◌<◌, ◌≤◌, Bool, true, false, cond, not, ◌&&◌, List, [], ◌∷◌, length, get_or, set, Some, None, Option, sym, refl, ap, ◌∙◌, subst, arith}
use Rattle.std.proofs.lemmas.Bool.{and_parts, not-true}
use Rattle.store.specs.declared.name.Name.{Name}
use Rattle.store.specs.Names.{same, same_equal}
use Rattle.store.specs.Packets.{Packet, lookup, insert, remove, used}
use Rattle.store.specs.Rows.{alike, next, position, Row, placed, gathered, lacks, fresh, distinct, need_in, total, row_at, with_packet}
use Rattle.store.proofs.Maps.{same_not, same_flip, lookup-empty, lookup-insert-same, lookup-insert_other, insert-twice, insert_swap, remove-insert, remove_swap, used-empty, used-new}

-- the first row of the name n is at i
abbrev pub Holds : Name → List Row → ℕ → Type 0
Holds n [] i = ⊥
Holds n (r ∷ rs) zero = r.named ≡ Some n
Holds n (r ∷ rs) (suc i) = (alike r.named (Some n) ≡ false) × Holds n rs i

-- the row at i is free
abbrev pub Free : List Row → ℕ → Type 0
Free [] i = ⊥
Free (r ∷ rs) zero = r.named ≡ None
Free (r ∷ rs) (suc i) = Free rs i

alike-some : (o : Option Name) (n : Name) → alike o (Some n) ≡ true → o ≡ Some n
alike-some None n h = cc
alike-some (Some m) n h = ap Some (same_equal m n h)

alike_none : (o : Option Name) → alike o None ≡ true → o ≡ None
alike_none None h = refl
alike_none (Some m) h = cc

-- what a place found says
some_next : (o : Option ℕ) (i : ℕ) → next o ≡ Some (suc i) → o ≡ Some i
some_next None i h = cc
some_next (Some k) i h = cc

next_zero : (o : Option ℕ) → next o ≡ Some 0 → ⊥
next_zero None h = cc
next_zero (Some k) h = let z : suc k ≡ 0 = cc in omega arith

pub none_next : (o : Option ℕ) → next o ≡ None → o ≡ None
none_next None h = refl
none_next (Some k) h = cc

pub holds_from : (n : Name) (rs : List Row) (i : ℕ) → position (λ r. r.named) (Some n) rs ≡ Some i → Holds n rs i
holds_from n [] i h = cc
holds_from n (r ∷ rs) i h = go (alike r.named (Some n)) refl i h (λ k e. holds_from n rs k e)
  where
    go : (t : Bool) → alike r.named (Some n) ≡ t → (i : ℕ) → cond t (Some 0) (next (position (λ r. r.named) (Some n) rs)) ≡ Some i
        → ((k : ℕ) → position (λ r. r.named) (Some n) rs ≡ Some k → Holds n rs k) → Holds n (r ∷ rs) i
    go true e zero h rest = alike-some r.named n e
    go true e (suc i) h rest = let z : 0 ≡ suc i = cc in absurd (omega arith)
    go false e zero h rest = absurd (next_zero _ h)
    go false e (suc i) h rest = (e, rest i (some_next _ i h))

pub free_from : (rs : List Row) (i : ℕ) → position (λ r. r.named) None rs ≡ Some i → Free rs i
free_from [] i h = cc
free_from (r ∷ rs) i h = go (alike r.named None) refl i h (λ k e. free_from rs k e)
  where
    go : (t : Bool) → alike r.named None ≡ t → (i : ℕ) → cond t (Some 0) (next (position (λ r. r.named) None rs)) ≡ Some i
        → ((k : ℕ) → position (λ r. r.named) None rs ≡ Some k → Free rs k) → Free (r ∷ rs) i
    go true e zero h rest = alike_none r.named e
    go true e (suc i) h rest = let z : 0 ≡ suc i = cc in absurd (omega arith)
    go false e zero h rest = absurd (next_zero _ h)
    go false e (suc i) h rest = rest i (some_next _ i h)

pub lacks_from : (n : Name) (rs : List Row) → position (λ r. r.named) (Some n) rs ≡ None → lacks n rs ≡ true
lacks_from n [] h = refl
lacks_from n (r ∷ rs) h = go (alike r.named (Some n)) h (λ e. lacks_from n rs e)
  where
    go : (t : Bool) → cond t (Some 0) (next (position (λ r. r.named) (Some n) rs)) ≡ None
        → (position (λ r. r.named) (Some n) rs ≡ None → lacks n rs ≡ true) → (not t && lacks n rs) ≡ true
    go true h rest = cc
    go false h rest = rest (none_next _ h)

-- ---- look-ups
alike-apart : (m n : Name) → same m n ≡ false → n ≡ m → ⊥
alike-apart m n h w = same_not m n h (sym w)

pub lookup_lacking : (n : Name) (rs : List Row) → lacks n rs ≡ true → lookup n (gathered rs) ≡ None
lookup_lacking n [] h = lookup-empty n
lookup_lacking n (r ∷ rs) h = let p = and_parts _ _ h in go r.named (not-true _ p.0) (lookup_lacking n rs p.1)
  where
    go : (o : Option Name) → alike o (Some n) ≡ false → lookup n (gathered rs) ≡ None → lookup n (placed o r.packet (gathered rs)) ≡ None
    go None e rest = rest
    go (Some m) e rest = lookup-insert_other n m r.packet (gathered rs) (alike-apart m n e) ∙ rest

pub lookup_holding : (n : Name) (rs : List Row) (i : ℕ) (d : Row) → Holds n rs i → lookup n (gathered rs) ≡ Some (get_or rs i d).packet
lookup_holding n [] i d h = absurd h
lookup_holding n (r ∷ rs) zero d h = rw h (lookup-insert-same n r.packet (gathered rs))
lookup_holding n (r ∷ rs) (suc i) d h = go r.named h.0 (lookup_holding n rs i d h.1)
  where
    go : (o : Option Name) → alike o (Some n) ≡ false → lookup n (gathered rs) ≡ Some (get_or rs i d).packet → lookup n (placed o r.packet (gathered rs)) ≡ Some (get_or rs i d).packet
    go None e rest = rest
    go (Some m) e rest = lookup-insert_other n m r.packet (gathered rs) (alike-apart m n e) ∙ rest

-- ---- a row of that name changes
pub gathered_replace : (n : Name) (p : Packet) (rs : List Row) (i : ℕ) → Holds n rs i
    → gathered (set rs i (record { named = Some n; packet = p })) ≡ insert n p (gathered rs)
gathered_replace n p [] i h = absurd h
gathered_replace n p (r ∷ rs) zero h = rw h (sym (insert-twice n p r.packet (gathered rs)))
gathered_replace n p (r ∷ rs) (suc i) h = go r.named h.0 (gathered_replace n p rs i h.1)
  where
    go : (o : Option Name) → alike o (Some n) ≡ false → gathered (set rs i (record { named = Some n; packet = p })) ≡ insert n p (gathered rs)
        → placed o r.packet (gathered (set rs i (record { named = Some n; packet = p }))) ≡ insert n p (placed o r.packet (gathered rs))
    go None e rest = rest
    go (Some m) e rest = ap (insert m r.packet) rest ∙ sym (insert_swap n m p r.packet (gathered rs) (alike-apart m n e))

-- a free row takes a new name
pub gathered-new : (n : Name) (p : Packet) (rs : List Row) (i : ℕ) → Free rs i → lacks n rs ≡ true
    → gathered (set rs i (record { named = Some n; packet = p })) ≡ insert n p (gathered rs)
gathered-new n p [] i h k = absurd h
gathered-new n p (r ∷ rs) zero h k = rw h
gathered-new n p (r ∷ rs) (suc i) h k = let q = and_parts _ _ k in go r.named (not-true _ q.0) (gathered-new n p rs i h q.1)
  where
    go : (o : Option Name) → alike o (Some n) ≡ false → gathered (set rs i (record { named = Some n; packet = p })) ≡ insert n p (gathered rs)
        → placed o r.packet (gathered (set rs i (record { named = Some n; packet = p }))) ≡ insert n p (placed o r.packet (gathered rs))
    go None e rest = rest
    go (Some m) e rest = ap (insert m r.packet) rest ∙ sym (insert_swap n m p r.packet (gathered rs) (alike-apart m n e))

-- a row loses its name
pub gathered-drop : (n : Name) (p : Packet) (rs : List Row) (i : ℕ) → Holds n rs i → distinct rs ≡ true
    → gathered (set rs i (record { named = None; packet = p })) ≡ remove n (gathered rs)
gathered-drop n p [] i h k = absurd h
gathered-drop n p (r ∷ rs) zero h k =
    let q = and_parts (fresh r.named rs) (distinct rs) k in
    let f : lacks n rs ≡ true = subst (λ (o : Option Name). fresh o rs ≡ true) h q.0 in
    rw h (sym (remove-insert n r.packet (gathered rs) (lookup_lacking n rs f)))
gathered-drop n p (r ∷ rs) (suc i) h k = go r.named h.0 (gathered-drop n p rs i h.1 (and_parts _ _ k).1)
  where
    go : (o : Option Name) → alike o (Some n) ≡ false → gathered (set rs i (record { named = None; packet = p })) ≡ remove n (gathered rs)
        → placed o r.packet (gathered (set rs i (record { named = None; packet = p }))) ≡ remove n (placed o r.packet (gathered rs))
    go None e rest = rest
    go (Some m) e rest = ap (insert m r.packet) rest ∙ sym (remove_swap n m r.packet (gathered rs) (alike-apart m n e))

-- ---- the sum of needs
pub used-total : (need : ℕ → ℕ) (rs : List Row) → distinct rs ≡ true → used need (gathered rs) ≡ total need rs
used-total need [] h = used-empty need
used-total need (r ∷ rs) h = let q = and_parts _ _ h in go r.named q.0 (used-total need rs q.1)
  where
    go : (o : Option Name) → fresh o rs ≡ true → used need (gathered rs) ≡ total need rs
        → used need (placed o r.packet (gathered rs)) ≡ need_in need r o + total need rs
    go None e rest = omega arith
    go (Some m) e rest = let u = used-new need m r.packet (gathered rs) (lookup_lacking m rs e) in omega arith

-- ---- names stay distinct
abbrev pub NamedAt : List Row → ℕ → Option Name → Type 0
NamedAt [] i o = ⊥
NamedAt (r ∷ rs) zero o = r.named ≡ o
NamedAt (r ∷ rs) (suc i) o = NamedAt rs i o

pub holds_named : (n : Name) (rs : List Row) (i : ℕ) → Holds n rs i → NamedAt rs i (Some n)
holds_named n [] i h = h
holds_named n (r ∷ rs) zero h = h
holds_named n (r ∷ rs) (suc i) h = holds_named n rs i h.1

pub free-named : (rs : List Row) (i : ℕ) → Free rs i → NamedAt rs i None
free-named [] i h = h
free-named (r ∷ rs) zero h = h
free-named (r ∷ rs) (suc i) h = free-named rs i h

lacks-same : (m : Name) (rs : List Row) (i : ℕ) (w : Row) → NamedAt rs i w.named → lacks m (set rs i w) ≡ lacks m rs
lacks-same m [] i w h = absurd h
lacks-same m (r ∷ rs) zero w h = rw h
lacks-same m (r ∷ rs) (suc i) w h = ap (λ (t : Bool). not (alike r.named (Some m)) && t) (lacks-same m rs i w h)

fresh-same : (o : Option Name) (rs : List Row) (i : ℕ) (w : Row) → NamedAt rs i w.named → fresh o (set rs i w) ≡ fresh o rs
fresh-same None rs i w h = refl
fresh-same (Some m) rs i w h = lacks-same m rs i w h

pub distinct-same : (rs : List Row) (i : ℕ) (w : Row) → NamedAt rs i w.named → distinct (set rs i w) ≡ distinct rs
distinct-same [] i w h = absurd h
distinct-same (r ∷ rs) zero w h = rw h
distinct-same (r ∷ rs) (suc i) w h = rw (fresh-same r.named rs i w h, distinct-same rs i w h)

and_from : (x y : Bool) → x ≡ true → y ≡ true → (x && y) ≡ true
and_from true y h k = k
and_from false y h k = cc

lacks-drop : (m : Name) (rs : List Row) (i : ℕ) (p : Packet) → lacks m rs ≡ true → lacks m (set rs i (record { named = None; packet = p })) ≡ true
lacks-drop m [] i p h = h
lacks-drop m (r ∷ rs) zero p h = (and_parts (not (alike r.named (Some m))) (lacks m rs) h).1
lacks-drop m (r ∷ rs) (suc i) p h =
    let q = and_parts (not (alike r.named (Some m))) (lacks m rs) h in and_from _ _ q.0 (lacks-drop m rs i p q.1)

fresh-drop : (o : Option Name) (rs : List Row) (i : ℕ) (p : Packet) → fresh o rs ≡ true → fresh o (set rs i (record { named = None; packet = p })) ≡ true
fresh-drop None rs i p h = refl
fresh-drop (Some m) rs i p h = lacks-drop m rs i p h

pub distinct-drop : (rs : List Row) (i : ℕ) (p : Packet) → distinct rs ≡ true → distinct (set rs i (record { named = None; packet = p })) ≡ true
distinct-drop [] i p h = h
distinct-drop (r ∷ rs) zero p h = (and_parts (fresh r.named rs) (distinct rs) h).1
distinct-drop (r ∷ rs) (suc i) p h =
    let q = and_parts (fresh r.named rs) (distinct rs) h in and_from _ _ (fresh-drop r.named rs i p q.0) (distinct-drop rs i p q.1)

lacks-new : (m n : Name) (rs : List Row) (i : ℕ) (p : Packet) → same n m ≡ false → lacks m rs ≡ true → lacks m (set rs i (record { named = Some n; packet = p })) ≡ true
lacks-new m n [] i p e h = h
lacks-new m n (r ∷ rs) zero p e h = rw e (and_parts (not (alike r.named (Some m))) (lacks m rs) h).1
lacks-new m n (r ∷ rs) (suc i) p e h =
    let q = and_parts (not (alike r.named (Some m))) (lacks m rs) h in and_from _ _ q.0 (lacks-new m n rs i p e q.1)

pub distinct-new : (n : Name) (rs : List Row) (i : ℕ) (p : Packet) → Free rs i → lacks n rs ≡ true → distinct rs ≡ true
    → distinct (set rs i (record { named = Some n; packet = p })) ≡ true
distinct-new n [] i p f l h = absurd f
distinct-new n (r ∷ rs) zero p f l h =
    and_from _ _ (and_parts (not (alike r.named (Some n))) (lacks n rs) l).1 (and_parts (fresh r.named rs) (distinct rs) h).1
distinct-new n (r ∷ rs) (suc i) p f l h =
    let q = and_parts (fresh r.named rs) (distinct rs) h in
    let v = and_parts (not (alike r.named (Some n))) (lacks n rs) l in
    and_from _ _ (go r.named (not-true _ v.0) q.0) (distinct-new n rs i p f v.1 q.1)
  where
    go : (o : Option Name) → alike o (Some n) ≡ false → fresh o rs ≡ true → fresh o (set rs i (record { named = Some n; packet = p })) ≡ true
    go None e k = refl
    go (Some m) e k = lacks-new m n rs i p (same_flip m n e) k

-- a free row is there exactly where not all rows are taken
pub total_full : (need : ℕ → ℕ) (rs : List Row) → ((k : ℕ) → need k ≡ 1) → position (λ r. r.named) None rs ≡ None → total need rs ≡ length rs
total_full need [] u h = refl
total_full need (r ∷ rs) u h = go r.named h (λ e. total_full need rs u e)
  where
    go : (o : Option Name) → cond (alike o None) (Some 0) (next (position (λ r. r.named) None rs)) ≡ None
        → (position (λ r. r.named) None rs ≡ None → total need rs ≡ length rs) → need_in need r o + total need rs ≡ suc (length rs)
    go None h rest = cc
    go (Some m) h rest = let a = rest (none_next _ h) in let b = u (length r.packet.bytes) in omega arith

pub total-within : (need : ℕ → ℕ) (rs : List Row) → ((k : ℕ) → need k ≡ 1) → total need rs ≤ length rs
total-within need [] u = omega arith
total-within need (r ∷ rs) u = go r.named (total-within need rs u)
  where
    go : (o : Option Name) → total need rs ≤ length rs → need_in need r o + total need rs ≤ suc (length rs)
    go None a = omega arith
    go (Some m) a = let b = u (length r.packet.bytes) in omega arith

pub total-free : (need : ℕ → ℕ) (rs : List Row) (i : ℕ) → ((k : ℕ) → need k ≡ 1) → Free rs i → total need rs + 1 ≤ length rs
total-free need [] i u f = absurd f
total-free need (r ∷ rs) zero u f = let a = total-within need rs u in rw f (omega arith)
total-free need (r ∷ rs) (suc i) u f = go r.named (total-free need rs i u f)
  where
    go : (o : Option Name) → total need rs + 1 ≤ length rs → need_in need r o + total need rs + 1 ≤ suc (length rs)
    go None a = omega arith
    go (Some m) a = let b = u (length r.packet.bytes) in omega arith

-- ---- a row found by its name
pub holds-within : (n : Name) (rs : List Row) (i : ℕ) → Holds n rs i → i < length rs
holds-within n [] i h = absurd h
holds-within n (r ∷ rs) zero h = omega arith
holds-within n (r ∷ rs) (suc i) h = let a = holds-within n rs i h.1 in omega arith

pub free-within : (rs : List Row) (i : ℕ) → Free rs i → i < length rs
free-within [] i h = absurd h
free-within (r ∷ rs) zero h = omega arith
free-within (r ∷ rs) (suc i) h = let a = free-within rs i h in omega arith

pub holds-name : (n : Name) (rs : List Row) (i : ℕ) → Holds n rs i → (row_at rs i).named ≡ Some n
holds-name n [] i h = absurd h
holds-name n (r ∷ rs) zero h = h
holds-name n (r ∷ rs) (suc i) h = holds-name n rs i h.1

-- another packet in a row leaves the names distinct
named-at : (rs : List Row) (i : ℕ) → i < length rs → NamedAt rs i (row_at rs i).named
named-at [] i h = absurd (omega arith)
named-at (r ∷ rs) zero h = refl
named-at (r ∷ rs) (suc i) h = named-at rs i (omega arith)

pub distinct-packet : (f : Packet → Packet) (rs new : List Row) (i : ℕ) → i < length rs → distinct rs ≡ true → new ≡ set rs i (with_packet f (row_at rs i)) → distinct new ≡ true
distinct-packet f rs new i h d w = ap distinct w ∙ distinct-same rs i (with_packet f (row_at rs i)) (named-at rs i h) ∙ d

-- another packet in the row of a name
pub replace_row : (n : Name) (p : Packet) (rs new : List Row) (i : ℕ) → Holds n rs i → new ≡ set rs i (record { named = (row_at rs i).named; packet = p }) → gathered new ≡ insert n p (gathered rs)
replace_row n p rs new i h e =
    let w : new ≡ set rs i (record { named = Some n; packet = p }) = e ∙ ap (λ (o : Option Name). set rs i (record { named = o; packet = p })) (holds-name n rs i h) in
    ap gathered w ∙ gathered_replace n p rs i h
