-- What is decided of a thread that stands at a node.
use Rattle.std.specs.Prelude.{slice_get, slice_set}
use Rattle.std.proofs.Common.{◌-◌, ◌≡◌, ◌≢◌, ℕ, zero, suc, ◌+◌, ◌<◌, ◌≤◌, Bool, true, false, List, [], ◌∷◌, ◌++◌, map, length, Some, None, Ok, Err, Option, IfSome, sym, refl, ap, ap₂, ◌∙◌, subst, arith}
use Rattle.std.proofs.lemmas.List.{append-nil, length-take-le}
use mathlib.Core.Option.{some, none, some-injective, none-ne-some}
use lib.ListN.{get_elem?, length-map}
use Rattle.reader.specs.declared.types.Ty.{Ty}
use Rattle.reader.specs.declared.values.Values.{Values}
use Rattle.reader.specs.declared.values.Operand.{Operand}
use Rattle.reader.specs.declared.operations.Operation.{Operation}
use Rattle.reader.specs.declared.operations.Operation.TheVariants as o
use Rattle.reader.specs.Fields.{Read, count_at}
use Rattle.reader.specs.Syntax.{Body, branch, call, Function, Program}
use Rattle.rows.specs.declared.row.Row.{Row}
use Rattle.rows.specs.Rows.{items}
use Rattle.rules.specs.declared.held.Held.{Held}
use Rattle.rules.specs.declared.held.Held.TheVariants.{Truth as truth, Nothing as nothing}
use Rattle.rules.specs.declared.outcomes.Cause.{Cause}
use Rattle.rules.specs.declared.outcomes.Outcome.{Outcome}
use Rattle.rules.specs.declared.outcomes.Outcome.TheVariants.{Ended, Stuck}
use Rattle.rules.specs.State as state
use Rattle.rules.specs.State.{frame, Thread, running, State, thread, Effect}
use Rattle.rules.specs.Rules.{Gives, Operates, Rule, delayed, Step}
use Rattle.rules.proofs.Typed.{type, operates-types}
use Rattle.rules.proofs.Steps.{Arguments, ended_by, waits_by, stuck_branch, stuck_return, stuck_without_arguments, stuck_operation, stuck_ninth}
use Rattle.typing.specs.Signatures.{Signature, ◌⇒◌, signature}
use Rattle.typing.specs.Typing.{Entry, has, Tail}
use Rattle.code.specs.declared.copies.Code.{Code}
use Rattle.code.specs.declared.functions.Function as copy
use Rattle.code.specs.Copies.{bytes_of, program_of, function_of}
use Rattle.code.specs.Sights.{sees, lost, ending, counted, calling}
use Rattle.frames.specs.declared.frame.Frame.{Frame}
use Rattle.frames.specs.declared.thread.Thread as row
use Rattle.frames.specs.declared.thread.Thread.TheVariants as row_of
use Rattle.frames.specs.declared.thread.Status.{Status}
use Rattle.frames.specs.declared.thread.Status.TheVariants as status
use Rattle.frames.specs.Giving.{GivenAll, holds, emptied, bound}
use Rattle.frames.specs.Threads.{frame_of, below_of, thread_of, gone_on, Stands}
use Rattle.frames.proofs.Stacks.{no_last, one_frame, one_below}
use Rattle.machine.specs.declared.moves.Draft.{Draft}
use Rattle.machine.specs.declared.moves.Change.{Change}
use Rattle.machine.specs.declared.moves.Change.TheVariants.{Go, Bind, Spend, Top, Enter, Leave, End}
use Rattle.machine.specs.declared.moves.Outside.{Outside}
use Rattle.machine.specs.declared.moves.Move.{Move}
use Rattle.machine.specs.States.{At, Fit}
use Rattle.machine.specs.Moves.{quiet_move, changed, effect_of, Takes, Roomy, Allowed, Decided, Operated, Returned}
use Rattle.machine.proofs.Offers.{truth_given, given-truth}

pub stuck_no_advance : Outcome.Stuck ≢ Outcome.Advanced
stuck_no_advance e = let z : ◌≡◌ {A = ℕ} 0 1 = cc in omega arith

pub waits-no_advance : {r : Cause} → Outcome.Waits r ≢ Outcome.Advanced
waits-no_advance e = let z : ◌≡◌ {A = ℕ} 0 1 = cc in omega arith

pub ended-no_advance : Outcome.Ended ≢ Outcome.Advanced
ended-no_advance e = let z : ◌≡◌ {A = ℕ} 0 1 = cc in omega arith

pub false_not_true : ◌≡◌ {A = Bool} false true → ⊥
false_not_true e = let z : ◌≡◌ {A = ℕ} 0 1 = cc in omega arith

-- a step that is no advance comes to a
abbrev pub Halts : State → (t : ℕ) → Outcome → Type 0
Halts s t a = (a ≢ Outcome.Advanced) × Step s t a s

pub stuck : (s : State) (t : ℕ) → Step s t Stuck s → Halts s t Stuck
stuck s t w = (stuck_no_advance, w)

-- where nothing can be read
pub stuck-lost : {c : Code} {s : State} {t : ℕ} {f : Frame} {fs : List state.Frame} → At c s t f lost fs → Halts s t Stuck
stuck-lost {s = s} {t = t} at = stuck s t (stuck_without_arguments s t at.standing (λ a. none-ne-some (a.params ⇒ a.results) a.callee))

module _ {c : Code} {s : State} {t : ℕ} {f : Frame} {node : Body} {fs : List state.Frame} (at : At c s t f node fs) where
  -- the thread as it stands
  abbrev here : Thread
  here = running (frame f.function node (items f.variables)) fs

  pub goes : (b : List ℕ) (d : Draft) (m : Move) → Rule s t here (changed b d m.change here) (effect_of s t m.outside) → Roomy m.change here → Allowed s t m.outside → Decided b s t d (Ok m)
  goes b d m w r a =
      (subst (λ (x : Thread). Rule s t x (changed b d m.change x) (effect_of s t m.outside)) (sym at.standing) w, subst (λ (x : Thread). Roomy m.change x) (sym at.standing) r, a)

  -- the same where no more than the frames change
  pub goes-quietly : (b : List ℕ) (d : Draft) (m : Move) (h : Change) → m ≡ quiet_move h → Rule s t here (changed b d h here) state.quiet → Roomy h here → Decided b s t d (Ok m)
  goes-quietly b d m h e w r = subst (λ (x : Move). Decided b s t d (Ok x)) (sym e) (goes b d (quiet_move h) w r tt)

-- a frame as it is said to be
top-same : (b : List ℕ) (fs : List state.Frame) (g : Frame) {f : ℕ} {node : Body} {vs : List Held} → g.function ≡ f → sees b g.place ≡ node → items g.variables ≡ vs
    → running (frame_of b g) fs ≡ running (frame f node vs) fs
top-same b fs g i n v = cc

running-below : {f g : state.Frame} {fs gs : List state.Frame} → running f fs ≡ running g gs → fs ≡ gs
running-below e = cc

none_below : {f g h : state.Frame} {fs : List state.Frame} → running f [] ≡ running g (h ∷ fs) → ⊥
none_below e = let z : ◌≡◌ {A = ℕ} 0 1 = cc in omega arith

-- the same frame, where nothing is bound
unbound : {f : ℕ} {node node' : Body} {vs : List Held} (fs : List state.Frame) → node ≡ node' → running (frame f node (vs ++ [])) fs ≡ running (frame f node' vs) fs
unbound {vs = vs} fs e = let n = append-nil vs in cc

few_variables : (f : Frame) → length (items f.variables) + 0 ≤ 16
few_variables f = let l = length-take-le f.variables.len f.variables.items (omega (arith, f.variables.fits, f.variables.whole)) in omega (arith, f.variables.fits)

-- An if.
module _ {c : Code} {s : State} {t p : ℕ} {f : Frame} {a : Operand} {e₁ e₂ : Body} {fs : List state.Frame} (at : At c s t f (branch p a e₁ e₂) fs) where
  -- no truth value is held
  pub stuck_if : ((k : Bool) → holds (items f.variables) a.value ≢ Some (truth k)) → Halts s t Stuck
  stuck_if n = stuck s t (stuck_branch s t at.standing (λ x w. let (k, h, same) = given-truth w in n k h))

  pub if_goes : (d : Draft) (m : Move) (first second place : ℕ) (k : Bool) → sees (bytes_of c) first ≡ e₁ → sees (bytes_of c) second ≡ e₂ → holds (items f.variables) a.value ≡ Some (truth k)
      → place ≡ elim k [ true ↦ first | false ↦ second ] → m ≡ quiet_move (Go place) → Decided (bytes_of c) s t d (Ok m)
  if_goes d m first second place true i j h q e =
      goes-quietly at (bytes_of c) d m (Go place) e
      (subst (λ (z : Thread). Rule s t (here at) z state.quiet) (sym (unbound fs (ap (sees (bytes_of c)) q ∙ i))) (Rule.if_true (truth_given (items f.variables) a.value h))) (few_variables f)
  if_goes d m first second place false i j h q e =
      goes-quietly at (bytes_of c) d m (Go place) e
      (subst (λ (z : Thread). Rule s t (here at) z state.quiet) (sym (unbound fs (ap (sees (bytes_of c)) q ∙ j))) (Rule.if_false (truth_given (items f.variables) a.value h))) (few_variables f)

-- A return.
gives-length : {vs ws : List Held} {as' : List Operand} {τs : List Ty} {xs : List Held} → Gives vs as' τs xs ws → length xs ≡ length τs
gives-length Gives.no_more = refl
gives-length (Gives.one_more h r) = ap suc (gives-length r)

module _ (c : Code) (s : State) (t p : ℕ) (f : Frame) (fs : List state.Frame) where
  -- its list cannot be read, or there is no way to give it
  pub stuck_ending : (r : Read (List Operand)) → At c s t f (ending p r) fs
      → ((as' : List Operand) (stop : ℕ) → r ≡ Ok (as', stop) → (F : Function) (xs ws : List Held) → get_elem? (program_of c).functions f.function ≡ some F → ¬ Gives (items f.variables) as' F.results xs ws)
      → Halts s t Stuck
  stuck_ending (Ok vs) at n =
      stuck s t (stuck_return s t at.standing (λ F xs ws i h. n vs.0 vs.1 refl F xs ws (subst (λ P. get_elem? P.functions f.function ≡ some F) at.program i) h))
  stuck_ending (Err e) at n = stuck-lost at

-- what is given at the results of a function, as its copy has them
pub returned : (c : Code) (f g : Frame) (F : copy.Function) (l : Values) (vs ws joined : Row Held 16) (r : Option ℕ) → get_elem? (program_of c).functions f.function ≡ some (function_of (bytes_of c) F)
    → items vs ≡ items f.variables → GivenAll (bytes_of c) vs l F.results g.variables r ws joined → Returned c f l g r (record { function = g.function; place = g.place; variables = joined })
returned c f g F l vs ws joined (Some stop) i same (as', xs, read, gives, join) =
    (function_of (bytes_of c) F, as', xs, items ws, i, read, subst (λ us. Gives us as' (items F.results) xs (items ws)) same gives, refl, refl, join)
returned c f g F l vs ws joined None i same never = λ G j room as' stop read xs us gives.
    let is : G ≡ function_of (bytes_of c) F = some-injective G (function_of (bytes_of c) F) (sym j ∙ i) in
    never (subst (λ (z : Function). length (items g.variables) + length z.results ≤ 16) is room) as' stop read xs us
    (subst (λ (z : Function). Gives (items vs) as' z.results xs us) is (subst (λ zs. Gives zs as' G.results xs us) (sym same) gives))

module _ (c : Code) (s : State) (t p : ℕ) (f : Frame) (F : Function) (i : get_elem? (program_of c).functions f.function ≡ some F) where
  -- the function that returns, in the program of the state
  returning : s.program ≡ program_of c → get_elem? s.program.functions f.function ≡ some F
  returning is = subst (λ P. get_elem? P.functions f.function ≡ some F) (sym is) i

  module _ (as' : List Operand) (stop : ℕ) (r : Read (List Operand)) (read : r ≡ Ok (as', stop)) {xs ws : List Held} (gs : Gives (items f.variables) as' F.results xs ws) where
    pub ends : (d : Draft) (m : Move) → At c s t f (ending p r) [] → m ≡ quiet_move End → Decided (bytes_of c) s t d (Ok m)
    ends d m at q =
        let now = subst (λ z. At c s t f (ending p z) []) read at in
        goes-quietly now (bytes_of c) d m End q (Rule.ends (returning at.program) gs) tt

    pub leaves : (d : Draft) (m : Move) (below : Frame) {fs : List state.Frame} → At c s t f (ending p r) (frame_of (bytes_of c) below ∷ fs)
        → d.top.function ≡ below.function → d.top.place ≡ below.place → items d.top.variables ≡ items below.variables ++ xs → m ≡ quiet_move Leave → Decided (bytes_of c) s t d (Ok m)
    leaves d m below {fs} at j n v q =
        let now = subst (λ z. At c s t f (ending p z) (frame_of (bytes_of c) below ∷ fs)) read at in
        goes-quietly now (bytes_of c) d m Leave q
        (subst (λ (z : Thread). Rule s t (here now) z state.quiet) (sym (top-same (bytes_of c) fs d.top j (ap (sees (bytes_of c)) n) v)) (Rule.returns (returning at.program) gs)) tt

  pub room_below : (below g : Frame) {node : Body} {fs : List state.Frame} → At c s t f node (frame_of (bytes_of c) below ∷ fs) → items g.variables ≡ items below.variables → length (items g.variables) + length F.results ≤ 16
  room_below below g {node} {fs} at e =
      let l : length (items g.variables) ≡ length (items below.variables) = ap length e in
      let h = at.fit.below f.function below.function node (sees (bytes_of c) below.place) (items f.variables) (items below.variables) fs F at.standing (returning at.program) in
      omega (arith, h, l)

-- where nothing stands below, there is room for the results of any function
pub few_results : (c : Code) (f : ℕ) (F : Function) → get_elem? (program_of c).functions f ≡ some F → length F.results ≤ 8
few_results c f F i = go (items c.functions) f i
  where
    go : (gs : List copy.Function) (f : ℕ) → get_elem? (map (function_of (bytes_of c)) gs) f ≡ some F → length F.results ≤ 8
    go [] f i = absurd (none-ne-some F i)
    go (G ∷ gs) zero i =
        let l = length-take-le G.results.len G.results.items (omega (arith, G.results.fits, G.results.whole)) in
        subst (λ (z : Function). length z.results ≤ 8) (some-injective (function_of (bytes_of c) G) F i) (omega (arith, G.results.fits))
    go (G ∷ gs) (suc f) i = go gs f i

-- a few types find room in a frame without variables
pub room_for_types : (gs : Row Held 16) (τs : Row Ty 8) → items gs ≡ [] → length (items gs) + length (items τs) ≤ 16
room_for_types gs τs e =
    let z : length (items gs) ≡ 0 = ap length e in
    let l = length-take-le τs.len τs.items (omega (arith, τs.fits, τs.whole)) in
    omega (arith, τs.fits)

-- A call.
module _ (c : Code) (s : State) (t p : ℕ) (op : Operation) (f : Frame) (fs : List state.Frame) where
  -- where its arguments are read and its results counted
  pub at_call : (r : Read (List Operand)) {as' : List Operand} {stop k next : ℕ} → At c s t f (calling (bytes_of c) p op r) fs → r ≡ Ok (as', stop) → count_at (bytes_of c) (length (bytes_of c)) 255 stop ≡ Ok (k, next)
      → At c s t f (call p op as' k (sees (bytes_of c) next)) fs
  at_call r {as'} at read count =
      subst (λ z. At c s t f (counted (bytes_of c) p op as' z) fs) count (subst (λ z. At c s t f (calling (bytes_of c) p op z) fs) read at)

  -- they cannot be read, or they are no arguments of it
  pub stuck_calling : (r : Read (List Operand)) → At c s t f (calling (bytes_of c) p op r) fs
      → ((as' : List Operand) (stop k next : ℕ) → r ≡ Ok (as', stop) → count_at (bytes_of c) (length (bytes_of c)) 255 stop ≡ Ok (k, next) → ¬ Arguments (program_of c) op as' (items f.variables))
      → Halts s t Stuck
  stuck_calling (Ok vs) at n = go (count_at (bytes_of c) (length (bytes_of c)) 255 vs.1) refl at
    where
      go : (q : Read ℕ) → count_at (bytes_of c) (length (bytes_of c)) 255 vs.1 ≡ q → At c s t f (counted (bytes_of c) p op vs.0 q) fs → Halts s t Stuck
      go (Ok k) e at = stuck s t (stuck_without_arguments s t at.standing (λ a. n vs.0 vs.1 k.0 k.1 refl e (subst (λ P. Arguments P op vs.0 (items f.variables)) at.program a)))
      go (Err x) e at = stuck-lost at
  stuck_calling (Err e) at n = stuck-lost at

pub none_called : {P : Program} {op : Operation} {as' : List Operand} {vs : List Held} → signature P op ≡ none → ¬ Arguments P op as' vs
none_called e a = none-ne-some (a.params ⇒ a.results) (sym e ∙ a.callee)

pub none_given : {P : Program} {op : Operation} {ρs σs : List Ty} {as' : List Operand} {vs : List Held} → signature P op ≡ some (ρs ⇒ σs) → ((xs us : List Held) → ¬ Gives vs as' ρs xs us)
    → ¬ Arguments P op as' vs
none_given {ρs = ρs} {σs = σs} {as' = as'} {vs = vs} e n a =
    n a.given a.left (subst (λ (z : Signature). Gives vs as' z.params a.given a.left) (some-injective (a.params ⇒ a.results) (ρs ⇒ σs) (sym a.callee ∙ e)) a.gives)

-- A call of a function of the program.
module _ {c : Code} {s : State} {t p g k : ℕ} {f : Frame} {as' : List Operand} {next : Body} {fs : List state.Frame} (at : At c s t f (call p (o.Function g) as' k next) fs) where
  module _ (F : copy.Function) (e : get_elem? (program_of c).functions g ≡ some (function_of (bytes_of c) F)) where
    there : get_elem? s.program.functions g ≡ some (function_of (bytes_of c) F)
    there = ap (λ P. get_elem? P.functions g) at.program ∙ e

    pub tail_enters : (d : Draft) (m : Move) {xs ws : List Held} → Gives (items f.variables) as' (items F.params) xs ws → Tail (length (items f.variables)) k next
        → frame_of (bytes_of c) d.top ≡ frame g (sees (bytes_of c) F.body) xs → m ≡ quiet_move Top → Decided (bytes_of c) s t d (Ok m)
    tail_enters d m w tl v q =
        goes-quietly at (bytes_of c) d m Top q
        (subst (λ (z : Thread). Rule s t (here at) z state.quiet) (sym (ap (λ z. running z fs) v)) (Rule.tail_calls there tl w)) tt

    pub enters : (d : Draft) (m : Move) {xs ws : List Held} → Gives (items f.variables) as' (items F.params) xs ws → ¬ Tail (length (items f.variables)) k next → length fs < 7
        → frame_of (bytes_of c) d.top ≡ frame g (sees (bytes_of c) F.body) xs → frame_of (bytes_of c) d.caller ≡ frame f.function next ws
        → m ≡ quiet_move Enter → Decided (bytes_of c) s t d (Ok m)
    enters d m w nt lt v v' q =
        goes-quietly at (bytes_of c) d m Enter q
        (subst (λ (z : Thread). Rule s t (here at) z state.quiet) (sym (ap₂ (λ x y. running x (y ∷ fs)) v v')) (Rule.calls there nt w lt)) lt

  pub stuck-deep : ¬ Tail (length (items f.variables)) k next → 7 ≤ length fs → Halts s t Stuck
  stuck-deep nt l = stuck s t (stuck_ninth s t at.standing nt l)

-- An operation of the language.
operates-length : {s : State} {t : ℕ} {op : Operation} {ρs σs : List Ty} {xs rs : List Held} {e : Effect} → Operates s t op xs e rs → signature s.program op ≡ some (ρs ⇒ σs) → length rs ≡ length σs
operates-length {σs = σs} {rs = rs} w h = sym (length-map {B = Entry} rs type) ∙ ap length (operates-types w h) ∙ length-map {B = Entry} σs has

-- what is bound joins variables of which one is emptied
emptied_then : (spent : Option ℕ) (vs rs : List Held) → IfSome spent (λ x. x < length vs) → emptied spent (vs ++ rs) ≡ emptied spent vs ++ rs
emptied_then None vs rs h = refl
emptied_then (Some x) vs rs h = go vs x h
  where
    go : (vs : List Held) (x : ℕ) → x < length vs → slice_set (vs ++ rs) x nothing ≡ slice_set vs x nothing ++ rs
    go [] x h = absurd (omega arith)
    go (v ∷ vs) zero h = refl
    go (v ∷ vs) (suc x) h = ap (λ ws. v ∷ ws) (go vs x (omega arith))

module _ {c : Code} {s : State} {t p k : ℕ} {op : Operation} {f : Frame} {as' : List Operand} {fs : List state.Frame} (next : ℕ) (at : At c s t f (call p op as' k (sees (bytes_of c) next)) fs)
    (nf : (g : ℕ) → op ≢ o.Function g) {ρs σs : List Ty} (sg : signature (program_of c) op ≡ some (ρs ⇒ σs)) where
  known : signature s.program op ≡ some (ρs ⇒ σs)
  known = ap (λ P. signature P op) at.program ∙ sg

  module _ {xs ws : List Held} (gs : Gives (items f.variables) as' ρs xs ws) where
    pub pauses : (a : Outcome) → Operated s t op xs (Err a) → Halts s t a
    pauses Outcome.Advanced w = absurd w
    pauses (Outcome.Waits r) w = (waits-no_advance, waits_by s t at.standing (delayed known gs w))
    pauses Outcome.Ended w = absurd w
    pauses Outcome.Stuck w = stuck s t (stuck_operation s t at.standing nf known gs w.0 w.1)

  -- a move whose change is that a variable is emptied, or none, and a value is bound, or none
  operates : (m : Move) (d : Draft) (spent : Option ℕ) {xs : List Held} (x : Outside × Option Held) → IfSome spent (λ y. y < length (items f.variables))
      → Gives (items f.variables) as' ρs xs (emptied spent (items f.variables)) → Operated s t op xs (Ok x)
      → changed (bytes_of c) d m.change (here at) ≡ gone_on (sees (bytes_of c) next) spent x.1 (here at) → (Takes x.1 (here at) → Roomy m.change (here at)) → m.outside ≡ x.0 → Decided (bytes_of c) s t d (Ok m)
  operates m d spent x inside gs w becomes roomy does =
      goes at (bytes_of c) d m
      (subst (λ (z : Outside). Rule s t (here at) (changed (bytes_of c) d m.change (here at)) (effect_of s t z)) (sym does)
      (subst (λ (z : Thread). Rule s t (here at) z (effect_of s t x.0)) (sym becomes)
      (subst (λ vs. Rule s t (here at) (running (frame f.function (sees (bytes_of c) next) vs) fs) (effect_of s t x.0)) (sym (emptied_then spent (items f.variables) (bound x.1) inside)) (Rule.operates known gs w.0))))
      (roomy (let h = at.fit.room f.function p k op as' (sees (bytes_of c) next) (items f.variables) fs ρs σs at.standing known in
      let l = operates-length w.0 known in
      omega (arith, h, l)))
      (subst (λ (z : Outside). Allowed s t z) (sym does) w.1)

  pub binds : (d : Draft) {xs : List Held} (x : Outside × Held) → Gives (items f.variables) as' ρs xs (items f.variables) → Operated s t op xs (Ok (x.0, Some x.1))
      → Decided (bytes_of c) s t d (Ok (record { change = Bind next x.1; outside = x.0 }))
  binds d x gs w = operates (record { change = Bind next x.1; outside = x.0 }) d None (x.0, Some x.1) tt gs w refl (λ r. r) refl

  pub spends : (d : Draft) (v : ℕ) {xs : List Held} (x : Outside) → v < length (items f.variables) → Gives (items f.variables) as' ρs xs (slice_set (items f.variables) v nothing) → Operated s t op xs (Ok (x, None))
      → Decided (bytes_of c) s t d (Ok (record { change = Spend next v; outside = x }))
  spends d v x inside gs w = operates (record { change = Spend next v; outside = x }) d (Some v) (x, None) inside gs w refl (λ r. r) refl

  pub goes_on : (d : Draft) {xs : List Held} (x : Outside) → Gives (items f.variables) as' ρs xs (items f.variables) → Operated s t op xs (Ok (x, None))
      → Decided (bytes_of c) s t d (Ok (record { change = Go next; outside = x }))
  goes_on d x gs w = operates (record { change = Go next; outside = x }) d None (x, None) tt gs w refl (λ r. r) refl

-- A thread as the memory has it.
pub decided-ended : (b : List ℕ) (s : State) (t : ℕ) (r : row.Thread) → thread_of b r ≡ state.thread s t → r ≡ row_of.Ended → Halts s t Ended
decided-ended b s t r e i = (ended-no_advance, ended_by s t (sym e ∙ ap (thread_of b) i))

pub at-node : (c : Code) (s : State) (t : ℕ) (r : row.Thread) (f : Frame) (below : Row Frame 7) {node : Body} → s.program ≡ program_of c → Fit s t → thread_of (bytes_of c) r ≡ state.thread s t
    → r ≡ row_of.Running f below → sees (bytes_of c) f.place ≡ node → At c s t f node (below_of (bytes_of c) below)
at-node c s t r f below p fit e i n = record {
  program = p;
  fit = fit;
  standing = sym e ∙ ap (thread_of (bytes_of c)) i ∙ ap (λ z. running (frame f.function z (items f.variables)) (below_of (bytes_of c) below)) n;
}

-- what stands below the top, by how the thread stands
pub alone : (b : List ℕ) (r : row.Thread) (f : Frame) (below : Row Frame 7) (k : Status) → r ≡ row_of.Running f below → Stands k (thread_of b r) → k ≡ status.Last → below_of b below ≡ []
alone b r f below k i w e =
    let (g, h) = subst (λ (z : Status). Stands z (thread_of b r)) e w in
    running-below (sym (ap (thread_of b) i) ∙ h)

pub over_caller : (b : List ℕ) (r : row.Thread) (f : Frame) (below : Row Frame 7) (h : Frame) → r ≡ row_of.Running f below → Some h ≡ slice_get (items below) (length (items below) - 1)
    → (fs : List state.Frame) × (below_of b below ≡ frame_of b h ∷ fs)
over_caller b r f below h i e =
    let (g, fs, w) = one_below b r f below i h e in
    (fs, running-below (sym (ap (thread_of b) i) ∙ w))

pub no_caller : (b : List ℕ) (r : row.Thread) (f : Frame) (below : Row Frame 7) (k : Status) → r ≡ row_of.Running f below → Stands k (thread_of b r) → k ≡ status.Nested
    → None ≡ slice_get (items below) (length (items below) - 1) → ⊥
no_caller b r f below k i w e n =
    let (g, h, fs, q) = subst (λ (z : Status). Stands z (thread_of b r)) e w in
    let (g', q') = one_frame b r f below i (no_last (items below) n) in
    none_below (sym q' ∙ q)

pub ended-by_status : (b : List ℕ) (s : State) (t : ℕ) (r : row.Thread) (k : Status) → thread_of b r ≡ state.thread s t → Stands k (thread_of b r) → k ≡ status.Ended → Halts s t Ended
ended-by_status b s t r k e w i = (ended-no_advance, ended_by s t (sym e ∙ subst (λ (z : Status). Stands z (thread_of b r)) i w))
