-- Lists of values, given one after the other: what is left to give leads on to the whole, and the whole leads back to it.
use Rattle.std.proofs.Common.{◌≡◌, ℕ, suc, List, [], ◌∷◌, ◌++◌, length, Some, None, Ok, Err, refl, sym, ap, ◌∙◌, subst, append_assoc}
use Rattle.std.proofs.lemmas.List.{append-nil}
use Rattle.std.proofs.lemmas.Result.{IfOk-at_ok}
use Rattle.reader.specs.declared.types.Ty.{Ty}
use Rattle.reader.specs.declared.values.Value.{Value}
use Rattle.reader.specs.declared.values.Values.{Values}
use Rattle.reader.specs.declared.values.Operand.{Operand}
use Rattle.reader.specs.Fields.{Read, values_at}
use Rattle.reader.proofs.Lists.{values-long}
use Rattle.rules.specs.declared.held.Held.{Held}
use Rattle.rules.specs.Rules.{Give, Gives}
use Rattle.rules.specs.Rules.Gives.{no_more, one_more}
use Rattle.rules.proofs.Same.{give-same}
use Rattle.code.specs.Sights.{values_of, valued}
use Rattle.code.proofs.Arguments.{onto, onto_none, next_read, next_unread}

-- a list that can be read begins with the values that were read before
onto_read : (vs : List Operand) (r : Read (List Operand)) (x : List Operand × ℕ) → onto vs r ≡ Ok x → (more : List Operand) × (x.0 ≡ vs ++ more)
onto_read vs (Ok more) x h = (more.0, cc)
onto_read vs (Err e) x h = cc

-- what a list gives is what its first value gives, and then the rest
rest_given : {ws us : List Held} {a : Operand} {bs : List Operand} {σ : Ty} {σs : List Ty} {zs : List Held} (x : Held) (ws' : List Held)
    → Give ws a.value σ x ws' → Gives ws (a ∷ bs) (σ ∷ σs) zs us → (rs : List Held) × Gives ws' bs σs rs us
rest_given x ws' h (one_more {us = us} {as' = as'} {τs = τs} {xs = xs} k r) = (xs, subst (λ (v : List Held). Gives v as' τs xs us) (sym (give-same h k).1) r)

first_given : {ws us : List Held} {a : Operand} {bs : List Operand} {σ : Ty} {σs : List Ty} {zs : List Held} → Gives ws (a ∷ bs) (σ ∷ σs) zs us → (x : Held) × (vs : List Held) × Give ws a.value σ x vs
first_given (one_more k r) = (_, _, k)

gives_length : {vs us : List Held} {as' : List Operand} {τs : List Ty} {xs : List Held} → Gives vs as' τs xs us → length as' ≡ length τs
gives_length no_more = refl
gives_length (one_more h r) = ap suc (gives_length r)

-- the values of a list l, given at the types τs from the variables vs
module _ (b : List ℕ) (vs : List Held) (l : Values) (τs : List Ty) where
  -- there is no way to give them
  abbrev pub Never : Type 0
  Never = (as' : List Operand) (stop : ℕ) → values_of b l ≡ Ok (as', stop) → (ys us : List Held) → ¬ Gives vs as' τs ys us

  -- another number of values than of types
  pub counts_differ : ¬ (l.count ≡ length τs) → Never
  counts_differ differ as' stop h ys us r = differ (sym (IfOk-at_ok (λ x. length x.0 ≡ l.count) h (values-long b (length b) 255 l.count l.place)) ∙ gives_length r)

  -- the first ones gave xs: the variables are ws then, and those that stand at p are left to give at σs
  pub record Giving (ws : List Held) (p : ℕ) (σs : List Ty) (xs : List Held) : Type 0 where
    pub first : List Operand
    pub reads : values_of b l ≡ onto first (values_at b (length b) 255 (length σs) p)
    pub on : (cs : List Operand) (ys us : List Held) → Gives ws cs σs ys us → Gives vs (first ++ cs) τs (xs ++ ys) us
    pub back : (cs : List Operand) (ys us : List Held) → Gives vs (first ++ cs) τs ys us → (zs : List Held) × Gives ws cs σs zs us

  pub giving_all : l.count ≡ length τs → Giving vs l.place τs []
  giving_all long = record {
    first = [];
    reads = ap (λ n. values_at b (length b) 255 n l.place) long ∙ onto_none (values_at b (length b) 255 (length τs) l.place);
    on = λ cs ys us r. r;
    back = λ cs ys us r. (ys, r);
  }

  module _ (ws : List Held) (p : ℕ) (σ : Ty) (σs : List Ty) (xs : List Held) (g : Giving ws p (σ ∷ σs) xs) where
    -- the whole list, where the value that is given next can be read
    left : (v : Value) (next : ℕ) → Some (v, next) ≡ valued b p
        → values_of b l ≡ onto (g.first ++ record { place = p; value = v } ∷ []) (values_at b (length b) 255 (length σs) next)
    left v next got = g.reads ∙ next_read b (length σs) p g.first v next got

    pub giving_next : (v : Value) (next : ℕ) (x : Held) (ws' : List Held) → Some (v, next) ≡ valued b p → Give ws v σ x ws' → Giving ws' next σs (xs ++ x ∷ [])
    giving_next v next x ws' got gave =
        let a : Operand = record { place = p; value = v } in
        record {
          first = g.first ++ a ∷ [];
          reads = left v next got;
          on = λ cs ys us r. rw (append_assoc g.first (a ∷ []) cs, append_assoc xs (x ∷ []) ys) (g.on (a ∷ cs) (x ∷ ys) us (one_more gave r));
          back = λ cs ys us r. rest_given x ws' gave (g.back (a ∷ cs) ys us (rw append_assoc at r)).1;
        }

    -- where one value gives nothing, the list does not
    pub giving_none : (v : Value) (next : ℕ) → Some (v, next) ≡ valued b p → ((x : Held) (us : List Held) → ¬ Give ws v σ x us) → Never
    giving_none v next got never as' stop h ys us r =
        let a : Operand = record { place = p; value = v } in
        let (more, same) = onto_read (g.first ++ a ∷ []) (values_at b (length b) 255 (length σs) next) (as', stop) (sym (left v next got) ∙ h) in
        let k = subst (λ cs. Gives vs cs τs ys us) (same ∙ append_assoc g.first (a ∷ []) more) r in
        let (zs, rest) = g.back (a ∷ more) ys us k in
        let (x, ws', gave) = first_given {zs = zs} rest in
        never x ws' gave

    -- nor does it where one value cannot be read
    pub giving_unread : None ≡ valued b p → Never
    giving_unread none as' stop h ys us r = next_unread b (length σs) p g.first (as', stop) none (sym g.reads ∙ h)

  -- where no types are left, the values that were read are the whole list
  pub giving_done : (ws : List Held) (p : ℕ) (xs : List Held) → Giving ws p [] xs → (as' : List Operand) × (values_of b l ≡ Ok (as', p)) × Gives vs as' τs xs ws
  giving_done ws p xs g = (g.first ++ [], g.reads, subst (λ zs. Gives vs (g.first ++ []) τs zs ws) (append-nil xs) (g.on [] [] ws no_more))
