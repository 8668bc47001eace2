-- The functions of a program, as they are copied one after the other.
use Rattle.std.proofs.Common.{◌≡◌, ℕ, zero, suc, ◌+◌, ◌<◌, List, [], ◌∷◌, ◌++◌, map, length, take, Some, None, Option, sym, refl, ap, ◌∙◌, add-one, arith}
use mathlib.Core.Option.{some}
use lib.ListN.{get_elem?}
use Rattle.std.specs.Prelude.{slice_get, IsSome}
use Rattle.std.proofs.lemmas.List.{map-append, length-map, length-take-le}
use Rattle.reader.specs.declared.headers.Header.{Header}
use Rattle.reader.specs.Syntax as tree
use Rattle.reader.specs.Syntax.{Program}
use Rattle.rows.specs.Rows.{items}
use Rattle.records.specs.declared.tables.Record.{Record}
use Rattle.records.specs.declared.tables.Table.{Table}
use Rattle.records.specs.Tables.{places, Stands, Recorded}
use Rattle.records.proofs.Tabling.{place_of, program-records}
use Rattle.checker.proofs.Each.{there}
use Rattle.checker.proofs.Places.{place_is}
use Rattle.code.specs.declared.functions.Function.{Function}
use Rattle.code.specs.Copies.{function_of, Listed}
use Rattle.code.proofs.Seeing.{body-seen}

-- what stands in the row of functions is what the program lists
pub listed : (b : List ℕ) (t q : ℕ) (fs : List Function) (i : ℕ)
    → Listed b (record { threads = t; queues = q; functions = map (function_of b) fs }) i (slice_get fs i)
listed b t q [] i = refl
listed b t q (f ∷ fs) zero = refl
listed b t q (f ∷ fs) (suc i) = listed b t q fs i

-- a record of a function, with its place, says what the function is
pub function_is : (b : List ℕ) (P : Program) (i p : ℕ) (r : Record) → Some p ≡ slice_get (places P.functions) i → Recorded b P i (Some r)
    → get_elem? P.functions i ≡ some (function_of b (record { place = p; depth = r.depth; params = r.params; results = r.results; body = r.body }))
function_is b P i p r at (F, found, says) =
    let body = body-seen b r.end i says.inside 0 r.body (F.body, r.end) says.body in
    let place = place_is P i p F at found in
    found
    ∙ (λ j. some (record { place = sym place j; depth = sym says.depth j; params = sym says.params j; results = sym says.results j; body = sym body j }))

pub no_place : (b : List ℕ) (P : Program) (i : ℕ) → None ≡ slice_get (places P.functions) i → Listed b P i None
no_place b P i h = place_of P.functions i None h

-- each number below the count is that of a function
pub is_there : (b : List ℕ) (P : Program) (i : ℕ) (o : Option Function) → i < length P.functions → Listed b P i o → IsSome o
is_there b P i (Some f) l h = refl
is_there b P i None l h = let x = there P.functions i l in absurd (let z : ◌≡◌ {A = ℕ} 0 1 = cc in omega arith)

take_more : (Fs : List tree.Function) (i : ℕ) (F : tree.Function) → get_elem? Fs i ≡ some F → take (i + 1) Fs ≡ take i Fs ++ F ∷ []
take_more Fs i F h = rw add-one (at Fs i h)
  where
    at : (Fs : List tree.Function) (i : ℕ) → get_elem? Fs i ≡ some F → take (suc i) Fs ≡ take i Fs ++ F ∷ []
    at [] i h = absurd (let z : ◌≡◌ {A = ℕ} 0 1 = cc in omega arith)
    at (G ∷ Gs) zero h = let e : G ≡ F = cc in ap (λ (K : tree.Function). K ∷ []) e
    at (G ∷ Gs) (suc i) h = ap (λ Ks. G ∷ Ks) (at Gs i h)

-- one function more is copied
pub copied_more : (b : List ℕ) (P : Program) (i : ℕ) (f : Function) (fs gs : List Function) → map (function_of b) fs ≡ take i P.functions
    → Listed b P i (Some f) → gs ≡ fs ++ f ∷ [] → map (function_of b) gs ≡ take (i + 1) P.functions
copied_more b P i f fs gs h at grown =
    ap (map (function_of b)) grown
    ∙ map-append (function_of b) fs (f ∷ [])
    ∙ ap (λ Fs. Fs ++ function_of b f ∷ []) h
    ∙ sym (take_more P.functions i (function_of b f) at)

-- of the program that a table stands for
module _ (t : Table) (P : Program) (s : Stands t P) where
  pub place-none : (i : ℕ) (o : Option ℕ) → o ≡ slice_get (items t.places) i → o ≡ None → Listed t.program.now P i None
  place-none i o h is = no_place t.program.now P i (sym is ∙ h ∙ ap (λ ps. slice_get ps i) s.standing)

  pub place-some : (i p : ℕ) (o : Option ℕ) → o ≡ slice_get (items t.places) i → o ≡ Some p → Some p ≡ slice_get (places P.functions) i
  place-some i p o h is = sym is ∙ h ∙ ap (λ ps. slice_get ps i) s.standing

  pub counted : t.header.functions ≡ length P.functions
  counted = ap (λ (h : Header). h.functions) s.counts

  pub room_for : (fs : List Function) (i : ℕ) → i < t.header.functions → map (function_of t.program.now) fs ≡ take i P.functions → length fs < 64
  room_for fs i l h =
      let many : length fs ≡ length (take i P.functions) = sym (length-map fs (function_of t.program.now)) ∙ ap length h in
      let few = length-take-le i P.functions (omega (arith, counted)) in
      let most = (program-records t.program.now P s.reads).most in
      omega (arith, counted)
