-- Every call keeps the invariant, which gives the promise.
use Rattle.std.proofs.Common.{◌≡◌, ℕ, zero, suc, ◌+◌, ◌<◌, ◌≤◌, ◌≢◌, ◌⊎◌, List, [], ◌∷◌, ◌++◌, map, length, get_or, replicate, Some, None, Ok, sym, refl, ap, ◌∙◌, subst, inl, inr, ⊎_elim, le_of_suc-le-suc, not-suc-le-zero, arith, length-set}
use mathlib.Core.Option.{some}
use native.Mathlib.Decide.{dec_le}
use lib.ListN.{get_elem?, length-replicate}
use Rattle.reader.specs.declared.types.Ty.{Ty}
use Rattle.reader.specs.Syntax.{Function, Program}
use Rattle.reader.specs.Programs.{reading}
use Rattle.reader.proofs.Results.{ok_same}
use Rattle.typing.specs.Typing.{has, Accepted, Every, every_end, every_more}
use Rattle.typing.specs.Layers.{verdict}
use Rattle.typing.proofs.Whole.{bytes_decided}
use Rattle.store.specs.declared.name.Name.{Name}
use Rattle.store.specs.Packets.{Packet, lookup, packet}
use Rattle.store.specs.Meaning.{Meaning, units}
use Rattle.rules.specs.State.{frame, Thread, ended, running, frames, State, thread, queue, made, packets, name, next_name, edited, pop, affected, popping}
use Rattle.rules.specs.Rules.{Cause, WaitsFor, Moves, advances, Step, moves, WouldAdvance}
use Rattle.rules.specs.Calls.{Machine, unloaded, loaded, Call, ready, Reply, to_ready, starts, initial, arriving, Does, finds, finds_none, Turn, Runs, Needy, Reached, by_call}
use Rattle.rules.specs.Promises.{is, occurs, queued, ReadyTells, Promised, RunsKeep, CallsKeep}
use Rattle.rules.proofs.Limits.{reading_small}
use Rattle.rules.proofs.Puts.{lookup_other, none_used}
use Rattle.rules.proofs.Counts.{held, held_by, alive, present, total-append, total-set, total_get_or, alive-put, weight}
use Rattle.rules.proofs.Frames.{Runnable, Sits, body-sits, Awaits, bottom, Placed, over, at_node}
use Rattle.rules.proofs.Lends.{Lent}
use Rattle.rules.proofs.Holders.{Holds, put_holds, made-fresh, made-limited}
use Rattle.rules.proofs.Invariant.{Sound, running-there, rule-runs, not_made, lined-length, step_kept}
use Rattle.rules.proofs.Owned.{owned-stands}
use Rattle.rules.proofs.Progress.{cause_no_rule, next, goes_on_stands}
use Rattle.rules.proofs.Swap.{swaps, settled}

-- Load.
pub runnable : (b : List ℕ) (P : Program) → verdict b ≡ Ok tt → reading b ≡ Ok P → Runnable P
runnable b P v r =
    let (Q, e, a) = (bytes_decided b).0 v in
    record { accepted = subst Accepted (ok_same Q P (sym e ∙ r)) a; small = reading_small b P r }

starts-length : (i k : ℕ) (fs : List Function) → k ≤ length fs → length (starts i k fs) ≡ k
starts-length i zero fs h = refl
starts-length i (suc k) [] h = absurd (not-suc-le-zero h)
starts-length i (suc k) (F ∷ fs) h = ap suc (starts-length (suc i) k fs (le_of_suc-le-suc h))

-- thread j of those that begin with function i
data Starts (i k : ℕ) (fs : List Function) (j : ℕ) : Type 0 where
  not_there : get_or (starts i k fs) j ended ≡ ended → Starts i k fs j
  at_body : (F : Function) → get_elem? fs j ≡ some F → j < k → get_or (starts i k fs) j ended ≡ running (frame (i + j) F.body []) [] → Starts i k fs j

starts-at : (i k : ℕ) (fs : List Function) (j : ℕ) → Starts i k fs j
starts-at i zero fs j = not_there refl
starts-at i (suc k) [] j = not_there refl
starts-at i (suc k) (F ∷ fs) zero = at_body F refl (omega arith) (ap (λ (m : ℕ). running (frame m F.body []) []) (let z : i ≡ i + 0 = omega arith in z))
starts-at i (suc k) (F ∷ fs) (suc j) = later (starts-at (suc i) k fs j)
  where
    later : Starts (suc i) k fs j → Starts i (suc k) (F ∷ fs) (suc j)
    later (not_there e) = not_there e
    later (at_body G e l h) = at_body G e (omega arith) (h ∙ ap (λ (m : ℕ). running (frame m G.body []) []) (let z : suc i + j ≡ i + suc j = omega arith in z))

starts-held : (n : Name) (i k : ℕ) (fs : List Function) → held_by n (starts i k fs) ≡ 0
starts-held n i zero fs = refl
starts-held n i (suc k) [] = refl
starts-held n i (suc k) (F ∷ fs) = let h = starts-held n (suc i) k fs in omega arith

no_queued : (n : Name) (k : ℕ) → queued n (replicate k []) ≡ 0
no_queued n zero = refl
no_queued n (suc k) = let h = no_queued n k in omega arith

no_counts : (k m : ℕ) → ◌≡◌ {A = ℕ} (get_or (replicate k 0) m 0) 0
no_counts zero m = refl
no_counts (suc k) zero = refl
no_counts (suc k) (suc m) = no_counts k m

pub load-sound : (P : Program) (l : ℕ) (m : Meaning) → Needy m → units m ≡ 0 → Runnable P → Sound (initial P l m)
load-sound P l m needy z run = record {
  runnable = run;
  peopled = long;
  makers = let a = length-replicate {A = ℕ} (1 + P.threads) 0 in let b = long in omega arith;
  lines = length-replicate (2 + P.queues) [];
  placed = λ i. placing i (starts-at 0 P.threads P.functions i);
  lent = λ i. lending i (starts-at 0 P.threads P.functions i);
  conserved = λ n. let a = starts-held n 0 P.threads P.functions in let b = no_queued n (2 + P.queues) in let c = none_alive n in omega arith;
  holds = λ i n h. absurd (let a = starts-held n 0 P.threads P.functions in let b = total_get_or (held n) (starts 0 P.threads P.functions) i ended refl in omega arith);
  fresh = λ k c h. absurd (let a = none_alive (name k c) in omega arith);
  limited = λ k. let a = no_counts (1 + P.threads) k in omega arith;
}
  where
    long : length (starts 0 P.threads P.functions) ≡ P.threads
    long = starts-length 0 P.threads P.functions run.small.enough

    none_alive : (n : Name) → alive n m.packets ≡ 0
    none_alive n = ap present (none_used m.need m.packets needy z n)

    placing : (i : ℕ) → Starts 0 P.threads P.functions i → Placed P (get_or (starts 0 P.threads P.functions) i ended)
    placing i (not_there e) = subst (Placed P) (sym e) over
    placing i (at_body F e lt h) =
        let (params, results) = run.accepted.threads i F e lt in
        let k : 0 + i ≡ i = omega arith in
        subst (Placed P) (sym (h ∙ ap (λ (j : ℕ). running (frame j F.body []) []) k))
        (at_node e (subst (λ (τs : List Ty). Sits P F (map has τs) F.body) params (body-sits run.accepted i F e)) (subst (λ (τs : List Ty). Awaits P τs F.depth []) (sym results) bottom))

    lending : (i : ℕ) → Starts 0 P.threads P.functions i → Lent (frames (get_or (starts 0 P.threads P.functions) i ended))
    lending i (not_there e) = subst (λ (r : Thread). Lent (frames r)) (sym e) tt
    lending i (at_body F e lt h) = subst (λ (r : Thread). Lent (frames r)) (sym h) ((λ n b. absurd (not-suc-le-zero b)), tt)

-- Arrive and collect.
pub arrive-kept : (s : State) (bs : List ℕ) → Sound s → made s 0 < s.limit → Sound (affected (arriving s bs) s)
arrive-kept s bs v lt = record {
  runnable = v.runnable;
  peopled = v.peopled;
  makers = length-set s.counts 0 (suc (made s 0)) ∙ v.makers;
  lines = lined-length s.queues (arriving s bs).edit ∙ v.lines;
  placed = v.placed;
  lent = v.lent;
  conserved = λ n.
      let a = total-set (occurs n) s.queues 0 [] (queue s 0 ++ (new ∷ [])) (let x = v.lines in omega arith) in let b = total-append (is n) (queue s 0) (new ∷ []) in
      let c = alive-put n new (Some (packet 0 bs)) (packets s) in let d = ap (weight n new) (not_made v 0) in let e = v.conserved n in omega arith;
  holds = λ i n h. subst (Holds (suc i)) (sym (lookup_other n new _ (packets s) (λ e.
      let a = total_get_or (held n) s.threads i ended refl in let b = v.conserved n in
      let c = ap present (not_made v 0) in let d = ap (λ (m : Name). alive m (packets s)) e in omega arith))) (v.holds i n h);
  fresh = made-fresh s.counts 0 _ (packets s) maker v.fresh;
  limited = made-limited s.counts 0 s.limit maker lt v.limited;
}
  where
    new : Name
    new = next_name s 0

    maker : 0 < length s.counts
    maker = let a = v.makers in omega arith

pub collect-kept : (s : State) (n : Name) (ns : List Name) (p : Packet) → Sound s → queue s 1 ≡ n ∷ ns → lookup n (packets s) ≡ Some p → Sound (affected (popping 1 n None) s)
collect-kept s n ns p v e l = record {
  runnable = v.runnable;
  peopled = v.peopled;
  makers = v.makers;
  lines = lined-length s.queues (popping 1 n None).edit ∙ v.lines;
  placed = v.placed;
  lent = v.lent;
  conserved = λ m.
      let a = total-set (occurs m) s.queues 1 [] (edited pop (queue s 1)) (let x = v.lines in omega arith) in let b = ap (occurs m) e in let g = ap (λ (x : List Name). occurs m (edited pop x)) e in
      let c = alive-put m n None (packets s) in let d = ap (weight m n) l in let f = v.conserved m in omega arith;
  holds = λ i m h. put_holds (suc i) m n None (packets s) tt (λ ne. v.holds i m h);
  fresh = λ m c h. v.fresh m c (let a = alive-put (name m c) n None (packets s) in omega arith);
  limited = v.limited;
}

-- Ready.
pub ended? : (r : Thread) → (r ≡ ended) ⊎ (r ≢ ended)
ended? ended = inl refl
ended? (running f fs) = inr (λ e. let z : ◌≡◌ {A = ℕ} 0 1 = cc in omega arith)

pub ended_stays : (s : State) (t : ℕ) → thread s t ≡ ended → ¬ WouldAdvance s t
ended_stays s t e (s', Step.moves (Moves.advances r)) = rule-runs r e

-- whether a thread would advance
pub advance? : (s : State) → Sound s → (t : ℕ) → WouldAdvance s t ⊎ (¬ WouldAdvance s t)
advance? s v t = ⊎_elim (λ e. inr (ended_stays s t e)) (λ ne. ⊎_elim (λ r. inl (_, moves (advances r.2))) (λ c. inr (λ w. waiting c.1 w)) (next s v t ne)) (ended? (thread s t))
  where
    waiting : {c : Cause} → WaitsFor s t (thread s t) c → ¬ WouldAdvance s t
    waiting c (s', Step.moves (Moves.advances r)) = cause_no_rule c r

pub beyond : (s : State) (t : ℕ) → length s.threads < t → ¬ WouldAdvance s t
beyond s zero h (s', Step.moves (Moves.advances r)) = rule-runs r refl
beyond s (suc i) h (s', Step.moves (Moves.advances r)) = let l = running-there s.threads i (rule-runs r) in omega arith

find : (s : State) → Sound s → (k : ℕ) → ((t : ℕ) × WouldAdvance s t) ⊎ ((t : ℕ) → t ≤ k → ¬ WouldAdvance s t)
find s v zero = ⊎_elim (λ w. inl (zero, w)) (λ n. inr (λ t l. subst (λ (u : ℕ). ¬ WouldAdvance s u) (let z : 0 ≡ t = omega arith in z) n)) (advance? s v zero)
find s v (suc k) = ⊎_elim (λ w. inl w) (λ f. ⊎_elim (λ w. inl (suc k, w)) (λ n. inr (λ t l. both f n t (dec_le t k) l)) (advance? s v (suc k))) (find s v k)
  where
    both : ((t : ℕ) → t ≤ k → ¬ WouldAdvance s t) → ¬ WouldAdvance s (suc k) → (t : ℕ) → Dec (t ≤ k) → t ≤ suc k → ¬ WouldAdvance s t
    both f n t (yes y) l = f t y
    both f n t (no y) l = subst (λ (u : ℕ). ¬ WouldAdvance s u) (let z : suc k ≡ t = omega arith in z) n

pub ready_tells : (s : State) → Sound s → ReadyTells s
ready_tells s v = record {
  answered = ⊎_elim (λ w. (_, finds w.1)) (λ n. (_, finds_none (λ t. none t (dec_le t (length s.threads)) n))) (find s v (length s.threads));
  some_thread = λ t d. some_thread d;
  none_exactly = ((λ d. none_exactly d), λ n. finds_none n);
  alters_nothing = λ r m d. unaltered d;
}
  where
    none : (t : ℕ) → Dec (t ≤ length s.threads) → ((t : ℕ) → t ≤ length s.threads → ¬ WouldAdvance s t) → ¬ WouldAdvance s t
    none t (yes y) n = n t y
    none t (no y) n = beyond s t (omega arith)

    some_thread : {t : ℕ} {m : Machine} → Does (loaded s) ready (to_ready (Ok (Some t))) m → WouldAdvance s t
    some_thread (Does.denies d e) = elim d [ ]
    some_thread (Does.finds w) = w

    none_exactly : {m : Machine} → Does (loaded s) ready (to_ready (Ok None)) m → (t : ℕ) → ¬ WouldAdvance s t
    none_exactly (Does.denies d e) = elim d [ ]
    none_exactly (Does.finds_none n) = n

    unaltered : {r : Reply} {m : Machine} → Does (loaded s) ready r m → m ≡ loaded s
    unaltered (Does.denies d e) = refl
    unaltered (Does.finds w) = refl
    unaltered (Does.finds_none n) = refl

-- The invariant of a machine.
abbrev pub Good : Machine → Type 0
Good (unloaded m) = Needy m
Good (loaded s) = Sound s

does-kept : {m m' : Machine} {c : Call} {r : Reply} → Does m c r m' → Good m → Good m'
does-kept (Does.denies d e) g = g
does-kept (Does.faults a b e) g = g
does-kept (Does.loads {m = m} {b = b} {l = l} {P = P} h z v r) g = load-sound P l m g z (runnable b P v r)
does-kept (Does.arrives {s} {bs} a b c d) g = arrive-kept s bs g c
does-kept (Does.steps {t = t} a b w) g = step_kept t g w
does-kept (Does.finds w) g = g
does-kept (Does.finds_none n) g = g
does-kept (Does.collects {s} {n = n} {ns = ns} {p = p} e l h) g = collect-kept s n ns p g e l

pub reached-good : {m : Machine} → Reached m → Good m
reached-good (Reached.at_first needy) = needy
reached-good (Reached.by_call r d) = does-kept d (reached-good r)

pub promised : (m : Machine) → Good m → Promised m
promised (unloaded m) g = tt
promised (loaded s) v = record {
  owned = owned-stands s v;
  progress = record { goes_on = goes_on_stands s v; settled = settled s v; ready_tells = ready_tells s v };
  swaps = swaps s v;
}

pub calls_keep : CallsKeep
calls_keep m m' c r h d = (by_call h d, promised m' (does-kept d (reached-good h)))

runs-good : {m : Machine} {xs : List Turn} → Good m → Runs m xs → Every (λ (x : Turn). Promised x.after) xs
runs-good g Runs.at_rest = every_end
runs-good g (Runs.goes_on {x = x} d r) = let k = does-kept d g in every_more (promised x.after k) (runs-good k r)

pub runs_keep : RunsKeep
runs_keep m needy xs r = runs-good needy r
