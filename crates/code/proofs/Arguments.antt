-- The arguments of a call, as they are read one after the other.
use Rattle.std.proofs.Common.{◌≡◌, ℕ, suc, ◌+◌, ◌-◌, ◌<◌, List, [], ◌∷◌, ◌++◌, map, length, take, slice_set, Some, None, Option, Ok, Err, sym, refl, ap, ◌∙◌, subst, append_assoc, arith}
use Rattle.std.proofs.lemmas.List.{append-nil, map-append, take_all}
use Rattle.std.proofs.lemmas.Grind.{take-set_at}
use Rattle.std.proofs.lemmas.Result.{IfOk-at_ok}
use Rattle.reader.specs.declared.values.Value.{Value}
use Rattle.reader.specs.declared.values.Values.{Values}
use Rattle.reader.specs.declared.values.Operand.{Operand}
use Rattle.reader.specs.Fields.{Read, then, value_at, count_at, values_at}
use Rattle.reader.proofs.Results.{ok_same}
use Rattle.reader.proofs.Lists.{values-long}
use Rattle.code.specs.Sights.{found, valued, count_there, values_of, Argued}

-- what is found is read
pub found_read : {X : Type 0} (r : Read X) (x : X × ℕ) → Some x ≡ found r → r ≡ Ok x
found_read (Ok y) x h = cc
found_read (Err e) x h = cc

pub unfound_read : {X : Type 0} (r : Read X) (x : X × ℕ) → None ≡ found r → r ≡ Ok x → ⊥
unfound_read (Ok y) x h is = cc
unfound_read (Err e) x h is = cc

-- values that were read before others
abbrev pub onto : List Operand → Read (List Operand) → Read (List Operand)
onto vs (Ok x) = Ok (vs ++ x.0, x.1)
onto vs (Err e) = Err e

pub onto_none : (r : Read (List Operand)) → r ≡ onto [] r
onto_none (Ok x) = refl
onto_none (Err e) = refl

onto_more : (vs : List Operand) (a : Operand) (r : Read (List Operand)) → onto vs (onto (a ∷ []) r) ≡ onto (vs ++ a ∷ []) r
onto_more vs a (Ok x) = ap (λ us. Ok (us, x.1)) (sym (append_assoc vs (a ∷ []) x.0))
onto_more vs a (Err e) = refl

module _ (b : List ℕ) where
  -- the next value joins those that were read
  pub next_read : (n p : ℕ) (vs : List Operand) (v : Value) (next : ℕ) → Some (v, next) ≡ valued b p
      → onto vs (values_at b (length b) 255 (suc n) p) ≡ onto (vs ++ record { place = p; value = v } ∷ []) (values_at b (length b) 255 n next)
  next_read n p vs v next got =
      ap (onto vs) (first (value_at b (length b) 255 p) (found_read (value_at b (length b) 255 p) (v, next) got)) ∙ onto_more vs (record { place = p; value = v }) (values_at b (length b) 255 n next)
    where
      rest : Read (List Operand) → Read (List Operand)
      rest r = onto (record { place = p; value = v } ∷ []) r

      same : (r : Read (List Operand)) → then r (λ us. Ok (record { place = p; value = v } ∷ us.0, us.1)) ≡ rest r
      same (Ok us) = refl
      same (Err e) = refl

      first : (r : Read Value) → r ≡ Ok (v, next) → then r (λ x. then (values_at b (length b) 255 n x.1) (λ us. Ok (record { place = p; value = x.0 } ∷ us.0, us.1))) ≡ rest (values_at b (length b) 255 n next)
      first r is = ap (λ r. then r (λ x. then (values_at b (length b) 255 n x.1) (λ us. Ok (record { place = p; value = x.0 } ∷ us.0, us.1)))) is ∙ same (values_at b (length b) 255 n next)

  -- a list is not read where one of its values is not
  pub next_unread : (n p : ℕ) (vs : List Operand) (x : List Operand × ℕ) → None ≡ valued b p → onto vs (values_at b (length b) 255 (suc n) p) ≡ Ok x → ⊥
  next_unread n p vs x none h = go (value_at b (length b) 255 p) none h
    where
      go : (r : Read Value) → None ≡ found r → onto vs (then r (λ y. then (values_at b (length b) 255 n y.1) (λ us. Ok (record { place = p; value = y.0 } ∷ us.0, us.1)))) ≡ Ok x → ⊥
      go (Ok y) none h = cc
      go (Err e) none h = cc

-- the values of a list
abbrev pub values : List Operand → List Value
values vs = map (λ (a : Operand). a.value) vs

module _ (b : List ℕ) (l : Values) (n : ℕ) where
  -- i of n arguments were read, and stand first in a row of values; the next one stands at p
  pub record Reading (i p : ℕ) (taken : List Value) : Type 0 where
    pub read : List Operand
    pub reads : values_of b l ≡ onto read (values_at b (length b) 255 (n - i) p)
    pub stand : values read ≡ take i taken

  pub reading_none : (taken : List Value) → l.count ≡ n → Reading 0 l.place taken
  reading_none taken count =
      let all : l.count ≡ n - 0 = omega arith in
      record { read = []; reads = ap (λ (m : ℕ). values_at b (length b) 255 m l.place) all ∙ onto_none _; stand = refl }

  module _ (i p : ℕ) (taken : List Value) (r : Reading i p taken) (more : i < n) where
    left : values_of b l ≡ onto r.read (values_at b (length b) 255 (suc (n - (i + 1))) p)
    left = let m : n - i ≡ suc (n - (i + 1)) = omega arith in r.reads ∙ ap (λ (m : ℕ). onto r.read (values_at b (length b) 255 m p)) m

    pub reading_next : (v : Value) (next : ℕ) → Some (v, next) ≡ valued b p → length taken ≡ n → Reading (i + 1) next (slice_set taken i v)
    reading_next v next got long = record {
      read = r.read ++ record { place = p; value = v } ∷ [];
      reads = left ∙ next_read b (n - (i + 1)) p r.read v next got;
      stand = map-append (λ (a : Operand). a.value) r.read (record { place = p; value = v } ∷ []) ∙ ap (λ vs. vs ++ v ∷ []) r.stand ∙ sym (take-set_at taken i (i + 1) v refl (omega arith));
    }

    -- where one cannot be read, there are none
    pub unread : (q : Option (List Value × ℕ)) → None ≡ valued b p → q ≡ None → Argued b l n q
    unread q none is = subst (Argued b l n) (sym is) (λ vs stop k next h c long. next_unread b (n - (i + 1)) p r.read (vs, stop) none (sym left ∙ h))

  module _ (p : ℕ) (taken : List Value) (r : Reading n p taken) where
    all : values_of b l ≡ Ok (r.read, p)
    all =
        let z : n - n ≡ 0 = omega arith in
        r.reads ∙ ap (λ (m : ℕ). onto r.read (values_at b (length b) 255 m p)) z ∙ ap (λ (vs : List Operand). Ok (vs, p)) (append-nil r.read)

    pub uncounted : (q : Option (List Value × ℕ)) → None ≡ count_there b p → q ≡ None → Argued b l n q
    uncounted q none is = subst (Argued b l n) (sym is) λ vs stop k next h c long.
        let same = ok_same (r.read, p) (vs, stop) (sym all ∙ h) in
        unfound_read (count_at b (length b) 255 p) (k, next) none (ap (λ (x : List Operand × ℕ). count_at b (length b) 255 x.1) same ∙ c)

    pub argued : (k next : ℕ) → Some (k, next) ≡ count_there b p → length taken ≡ n → Argued b l n (Some (taken, next))
    argued k next got long =
        (r.read, p, k, all, found_read (count_at b (length b) 255 p) (k, next) got, r.stand ∙ take_all n taken (omega arith), long)

  -- another count
  pub other_count : (l.count ≡ n → ⊥) → Argued b l n None
  other_count other vs stop k next h c long = other (sym (IfOk-at_ok (λ x. length x.0 ≡ l.count) h (values-long b (length b) 255 l.count l.place)) ∙ long)
