-- The order of names: by maker, then by count.
use Rattle.std.specs.Prelude.{◌≡◌, ◌<◌, Bool, true, false, cond, ◌==◌, nat_eq, nat_lt, refl}
use Rattle.std.proofs.Common.{sym, ◌∙◌, true≢false, arith, eqb-true, ltb-true, ltb-false, eq-eqb, ne_eqb, lt-ltb}
use Rattle.std.proofs.lemmas.Bool.{eqb-false}
use Rattle.store.specs.declared.name.Name.{Name}

unfoldable pub earlier : Name → Name → Bool
earlier a b = cond (a.maker == b.maker) (nat_lt a.count b.count) (nat_lt a.maker b.maker)

unfoldable pub same : Name → Name → Bool
same a b = cond (a.maker == b.maker) (a.count == b.count) false

-- The tests say what they should.
data Earlier (a b : Name) : Type 0 where
  by_maker : a.maker < b.maker → Earlier a b
  by_count : a.maker ≡ b.maker → a.count < b.count → Earlier a b

earlier_view : (a b : Name) → earlier a b ≡ true → Earlier a b
unfolding earlier
earlier_view a b = go (a.maker == b.maker) refl
  where
    go : (t : Bool) → (a.maker == b.maker) ≡ t → cond t (nat_lt a.count b.count) (nat_lt a.maker b.maker) ≡ true → Earlier a b
    go true m h = by_count (eqb-true _ _ m) (ltb-true _ _ h)
    go false m h = by_maker (ltb-true _ _ h)

earlier_from : {a b : Name} → Earlier a b → earlier a b ≡ true
unfolding earlier
earlier_from {a} {b} (by_maker h) =
    let m : nat_eq a.maker b.maker ≡ false = ne_eqb _ _ (omega arith) in rw m (lt-ltb _ _ h)
earlier_from {a} {b} (by_count m h) = rw (eq-eqb _ _ m) (lt-ltb _ _ h)

pub earlier_trans : (a b c : Name) → earlier a b ≡ true → earlier b c ≡ true → earlier a c ≡ true
earlier_trans a b c h k = earlier_from (go (earlier_view a b h) (earlier_view b c k))
  where
    go : Earlier a b → Earlier b c → Earlier a c
    go (by_maker p) (by_maker q) = by_maker (omega arith)
    go (by_maker p) (by_count q r) = by_maker (omega arith)
    go (by_count p s) (by_maker q) = by_maker (omega arith)
    go (by_count p s) (by_count q r) = by_count (p ∙ q) (omega arith)

pub same_equal : (a b : Name) → same a b ≡ true → a ≡ b
unfolding same
same_equal a b = go (a.maker == b.maker) refl
  where
    go : (t : Bool) → (a.maker == b.maker) ≡ t → cond t (a.count == b.count) false ≡ true → a ≡ b
    go true m h =
        let e = eqb-true a.maker b.maker m in
        let f = eqb-true a.count b.count h in
        λ i. record { maker = e i; count = f i }
    go false m h = absurd (true≢false (sym h))

pub same_refl : (a : Name) → same a a ≡ true
unfolding same
same_refl a = rw (eq-eqb a.maker a.maker refl) (eq-eqb _ _ refl)

pub earlier-apart : (a b : Name) → earlier a b ≡ true → same a b ≡ false
unfolding same
earlier-apart a b h = go (earlier_view a b h)
  where
    go : Earlier a b → same a b ≡ false
    go (by_maker p) = let m : nat_eq a.maker b.maker ≡ false = ne_eqb _ _ (omega arith) in rw m
    go (by_count p q) = rw (eq-eqb _ _ p) (ne_eqb _ _ (omega arith))

pub earlier_other : (a b : Name) → earlier a b ≡ false → same a b ≡ false → earlier b a ≡ true
unfolding same earlier
earlier_other a b = go (a.maker == b.maker) refl
  where
    go : (t : Bool) → (a.maker == b.maker) ≡ t → cond t (nat_lt a.count b.count) (nat_lt a.maker b.maker) ≡ false
        → cond t (a.count == b.count) false ≡ false → earlier b a ≡ true
    go true m h k =
        let p = ltb-false a.count b.count h in
        let q = eqb-false a.count b.count k in
        let r : b.count < a.count = omega arith in
        earlier_from (by_count (sym (eqb-true _ _ m)) r)
    go false m h k =
        let p = ltb-false a.maker b.maker h in
        let q = eqb-false a.maker b.maker m in
        let r : b.maker < a.maker = omega arith in
        earlier_from (by_maker r)
