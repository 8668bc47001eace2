-- A list of values, given one after the other: what is left to give leads on to the whole.
use Rattle.std.proofs.Common.{◌≡◌, ℕ, ◌+◌, ◌<◌, List, [], ◌∷◌, length, get_or, drop, Ok, Err, Result, sym, ap, ◌∙◌}
use Rattle.std.proofs.lemmas.List.{drop_more}
use Rattle.reader.specs.declared.faults.Fault.{Fault}
use Rattle.reader.specs.declared.types.Ty.{Ty}
use Rattle.reader.specs.declared.values.Value.{Value}
use Rattle.reader.specs.declared.values.Operand.{Operand}
use Rattle.reader.specs.declared.values.Values.{Values}
use Rattle.reader.specs.declared.windows.Window.{Window}
use Rattle.reader.specs.Fields.{read_in, then, value_at, values_at}
use Rattle.reader.proofs.Results.{ok_same}
use Rattle.typing.specs.Signatures.{int}
use Rattle.typing.specs.Typing.{Ctx}
use Rattle.typing.specs.Marks.{give, gives, note}
use Rattle.checker.specs.Walks.{Holds}
use Rattle.checker.proofs.Reading.{never, first_of}

-- the type that is wanted next
pub wanted_next : (τs ρs : List Ty) (k : ℕ) → τs ≡ ρs → k < length τs → drop k ρs ≡ get_or τs k int ∷ drop (k + 1) ρs
wanted_next τs ρs k e l = ap (drop k) (sym e) ∙ drop_more τs k int l ∙ ap (λ more. get_or τs k int ∷ drop (k + 1) more) e

module _ (w : Window) where
  -- values of the types ρs are left at p, with the marks H after some that named variables: they decide the whole
  pub record Giving (H : Ctx) (named : List ℕ) (p : ℕ) (ρs : List Ty) (whole : Result Ctx Fault) : Type 0 where
    pub rest : List Operand
    pub stop : ℕ
    pub reads : read_in w values_at (length ρs) p ≡ Ok (rest, stop)
    pub leads : gives w.function H named rest ρs ≡ whole

  pub giving_all : (H : Ctx) (named : List ℕ) (l : Values) (ρs : List Ty) (vs : List Operand) → named ≡ [] → length ρs ≡ l.count → Holds w l vs
      → Giving H named l.place ρs (gives w.function H [] vs ρs)
  giving_all H named l ρs vs none long h =
      record { rest = vs; stop = h.stop; reads = ap (λ m. read_in w values_at m l.place) long ∙ h.reads; leads = ap (λ ns. gives w.function H ns vs ρs) none }

  module _ (H : Ctx) (named : List ℕ) (p : ℕ) (ρs : List Ty) (whole : Result Ctx Fault) (g : Giving H named p ρs whole) (ρ : Ty) (more : List Ty) (is : ρs ≡ ρ ∷ more) where
    -- what is answered for the first value decides
    first_decides : (value : Value) (next : ℕ) → Ok (value, next) ≡ read_in w value_at p
        → (rest : List Operand) × (read_in w values_at (length more) next ≡ Ok (rest, g.stop))
        × (then (give w.function H named (record { place = p; value = value }) ρ) (λ G. gives w.function G (note value named) rest more) ≡ whole)
    first_decides value next v =
        let o = first_of w (length ρs) (length more) p g.stop g.rest (ap length is) g.reads in
        let same = ok_same (o.value, o.next) (value, next) (sym o.here ∙ sym v) in (
          o.more,
          ap (λ (y : Value × ℕ). read_in w values_at (length more) y.1) (sym same) ∙ o.there,
          ap (λ (y : Value × ℕ). then (give w.function H named (record { place = p; value = y.0 }) ρ) (λ G. gives w.function G (note y.0 named) o.more more)) (sym same)
              ∙ (λ i. gives w.function H named (sym o.is i) (sym is i))
              ∙ g.leads,
        )

    pub giving_next : (value : Value) (next : ℕ) (G : Ctx) (named' : List ℕ) → Ok (value, next) ≡ read_in w value_at p
        → Ok G ≡ give w.function H named (record { place = p; value = value }) ρ → named' ≡ note value named → Giving G named' next more whole
    giving_next value next G named' v gave noted =
        let (rest, reads, leads) = first_decides value next v in
        record {
          rest = rest;
          stop = g.stop;
          reads = reads;
          leads = ap (λ ns. gives w.function G ns rest more) noted ∙ ap (λ r. then r (λ K. gives w.function K (note value named) rest more)) gave ∙ leads;
        }

    -- a fault of one value is the fault of all
    pub giving_fault : (value : Value) (next : ℕ) (x : Fault) → Ok (value, next) ≡ read_in w value_at p
        → Err x ≡ give w.function H named (record { place = p; value = value }) ρ → Err x ≡ whole
    giving_fault value next x v gave =
        let (rest, reads, leads) = first_decides value next v in
        ap (λ r. then r (λ K. gives w.function K (note value named) rest more)) gave ∙ leads

    -- a value that is left can be read
    pub giving_reads : (x : Fault) → Err x ≡ read_in w value_at p → ⊥
    giving_reads x r =
        let o = first_of w (length ρs) (length more) p g.stop g.rest (ap length is) g.reads in
        never x (o.value, o.next) (r ∙ o.here)

  pub giving_none : (H : Ctx) (named : List ℕ) (p : ℕ) (ρs : List Ty) (whole : Result Ctx Fault) → Giving H named p ρs whole → ρs ≡ [] → Ok H ≡ whole
  giving_none H named p ρs whole g none =
      let r = ok_same ([], p) (g.rest, g.stop) (ap (λ (τs : List Ty). read_in w values_at (length τs) p) (sym none) ∙ g.reads) in
      (λ i. gives w.function H named (r i).0 (sym none i)) ∙ g.leads
