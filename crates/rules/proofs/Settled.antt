-- Every call is answered, and but for ready in one way.
use Rattle.std.proofs.Common.{◌≡◌, ℕ, ◌+◌, ◌<◌, ◌≤◌, ◌≢◌, List, [], ◌∷◌, length, Some, None, Ok, Err, Result, sym, refl, ap, ◌∙◌, subst, ⊎_elim, arith}
use native.Mathlib.Decide.{dec_lt, dec_le}
use Rattle.reader.specs.declared.faults.Fault.{Fault}
use Rattle.reader.specs.Programs.{reading}
use Rattle.reader.specs.Syntax.{Program}
use Rattle.reader.proofs.Results.{ok_same}
use Rattle.typing.specs.Layers.{verdict}
use Rattle.typing.specs.Typing.{Accepted}
use Rattle.typing.proofs.Whole.{bytes_decided}
use Rattle.store.specs.declared.name.Name.{Name}
use Rattle.store.specs.Packets.{Packet, lookup}
use Rattle.store.specs.Meaning.{Meaning, units}
use Rattle.rules.specs.State.{State, thread, queue, made, packets, affected, popping}
use Rattle.rules.specs.Rules.{Outcome, RoomFor, Step, moves, has_ended}
use Rattle.rules.specs.Calls.{Question, Machine, unloaded, loaded, Call, load, arrive, step, ready, collect, Reply, to_load, to_collect, initial, copied, denied, Denies, Does}
use Rattle.rules.specs.Calls.{arrive_first, step_first, ready_first, collect_first, loaded_already, no_names, in_use, no_thread, too_long, all_waiting, all_named, no_room, nothing_sent, too_small, denies, faults, loads, arrives, steps, finds, finds_none, collects}
use Rattle.rules.specs.Promises.{occurs, CallsAnswered, CallsSettled, LoadsAccepted}
use Rattle.rules.proofs.Counts.{present-some, total_get_or, is_same, some_same}
use Rattle.rules.proofs.Invariant.{Sound}
use Rattle.rules.proofs.Progress.{goes_on_stands}
use Rattle.rules.proofs.Swap.{settled}
use Rattle.rules.proofs.Calls.{runnable, ended?, ready_tells, Good, reached-good}

abbrev Answered : Machine → Call → Type 0
Answered m c = (r : Reply) × (m' : Machine) × Does m c r m'

-- Load.
load-answered : (m : Meaning) (b : List ℕ) (l : ℕ) → Answered (unloaded m) (load b l)
load-answered m b l = go (dec_le 1 l) (dec_lt 0 (units m)) (verdict b) refl
  where
    go : Dec (1 ≤ l) → Dec (0 < units m) → (v : Result (Unit {0}) Fault) → verdict b ≡ v → Answered (unloaded m) (load b l)
    go (no n) d v e = (_, _, denies (no_names (omega arith)) refl)
    go (yes y) (yes u) v e = (_, _, denies (in_use y u) refl)
    go (yes y) (no n) (Err f) e = (_, _, faults y (omega arith) e)
    go (yes y) (no n) (Ok tt) e = let (P, r, a) = (bytes_decided b).0 e in (_, _, loads y (omega arith) e r)

abbrev Granted : Meaning → List ℕ → ℕ → State → Type 0
Granted m b l s = (1 ≤ l) × (units m ≡ 0) × (P : Program) × (reading b ≡ Ok P) × Accepted P × (s ≡ initial P l m)

load-granted : {m : Meaning} {b : List ℕ} {l : ℕ} {s : State} → Does (unloaded m) (load b l) (to_load (Ok tt)) (loaded s) → Granted m b l s
load-granted {b = b} (loads {P = P} h z v r) = (h, z, P, r, (runnable b P v r).accepted, refl)

pub loads-accepted : LoadsAccepted
loads-accepted m b l s = (load-granted, back)
  where
    back : Granted m b l s → Does (unloaded m) (load b l) (to_load (Ok tt)) (loaded s)
    back (h, z, P, r, a, e) = subst (λ (x : State). Does (unloaded m) (load b l) (to_load (Ok tt)) (loaded x)) (sym e) (loads h z ((bytes_decided b).1 (P, r, a)) r)

-- Step.
step_exists : (s : State) → Sound s → (t : ℕ) → (a : Outcome) × (s' : State) × Step s t a s'
step_exists s v t = ⊎_elim (λ e. (_, _, moves (has_ended e))) (λ ne. (goes_on_stands s v t ne).answered) (ended? (thread s t))

step-answered : (s : State) → Sound s → (t : ℕ) → Answered (loaded s) (step t)
step-answered s v t = go (dec_le 1 t) (dec_le t s.program.threads)
  where
    go : Dec (1 ≤ t) → Dec (t ≤ s.program.threads) → Answered (loaded s) (step t)
    go (no n) d = (_, _, denies (no_thread (λ a b. n a)) refl)
    go (yes y) (no n) = (_, _, denies (no_thread (λ a b. n b)) refl)
    go (yes y) (yes z) = let w = step_exists s v t in (_, _, steps y z w.2)

-- Arrive.
arrive-answered : (s : State) (bs : List ℕ) → Answered (loaded s) (arrive bs)
arrive-answered s bs = go (dec_le (length bs) s.store.largest) (dec_lt (length (queue s 0)) 16) (dec_lt (made s 0) s.limit) (dec_le (units s.store + s.store.need (length bs)) s.store.capacity)
  where
    go : Dec (length bs ≤ s.store.largest) → Dec (length (queue s 0) < 16) → Dec (made s 0 < s.limit) → Dec (RoomFor s.store (length bs)) → Answered (loaded s) (arrive bs)
    go (no n) b c d = (_, _, denies (too_long (omega arith)) refl)
    go (yes a) (no n) c d = (_, _, denies (all_waiting a (omega arith)) refl)
    go (yes a) (yes b) (no n) d = (_, _, denies (all_named a b (omega arith)) refl)
    go (yes a) (yes b) (yes c) (no n) = (_, _, denies (no_room a b c n) refl)
    go (yes a) (yes b) (yes c) (yes d) = (_, _, arrives a b c d)

-- Collect.
collect-answered : (s : State) → Sound s → (buffer : List ℕ) → Answered (loaded s) (collect buffer)
collect-answered s v buffer = go (queue s 1) refl
  where
    fits : (n : Name) (ns : List Name) (p : Packet) → queue s 1 ≡ n ∷ ns → lookup n (packets s) ≡ Some p → Dec (length p.bytes ≤ length buffer) → Answered (loaded s) (collect buffer)
    fits n ns p e l (yes y) = (_, _, collects e l y)
    fits n ns p e l (no z) = (_, _, denies (too_small e l (omega arith)) refl)

    go : (ns : List Name) → queue s 1 ≡ ns → Answered (loaded s) (collect buffer)
    go [] e = (_, _, denies (nothing_sent e) refl)
    go (n ∷ ns) e =
        let b = v.conserved n in let c = total_get_or (occurs n) s.queues 1 [] refl in let d = ap (occurs n) e in let i = is_same n in
        let (p, l) = present-some (lookup n (packets s)) (omega arith) in
        fits n ns p e l (dec_le (length p.bytes) (length buffer))

answered : (m : Machine) (c : Call) → Good m → Answered m c
answered (unloaded m) (load b l) g = load-answered m b l
answered (unloaded m) (arrive bs) g = (_, _, denies arrive_first refl)
answered (unloaded m) (step t) g = (_, _, denies step_first refl)
answered (unloaded m) ready g = (_, _, denies ready_first refl)
answered (unloaded m) (collect buffer) g = (_, _, denies collect_first refl)
answered (loaded s) (load b l) g = (_, _, denies loaded_already refl)
answered (loaded s) (arrive bs) g = arrive-answered s bs
answered (loaded s) (step t) g = step-answered s g t
answered (loaded s) ready g = let a = (ready_tells s g).answered in (_, _, a.1)
answered (loaded s) (collect buffer) g = collect-answered s g buffer

pub calls-answered : CallsAnswered
calls-answered m c h = answered m c (reached-good h)

-- One question is answered no first.
one_denial : {m : Machine} {c : Call} {p q : Question} → Denies m c p → Denies m c q → p ≡ q
one_denial arrive_first arrive_first = refl
one_denial step_first step_first = refl
one_denial ready_first ready_first = refl
one_denial collect_first collect_first = refl
one_denial loaded_already loaded_already = refl
one_denial (no_names a) (no_names b) = refl
one_denial (no_names a) (in_use b c) = absurd (omega arith)
one_denial (in_use b c) (no_names a) = absurd (omega arith)
one_denial (in_use a b) (in_use c d) = refl
one_denial (no_thread a) (no_thread b) = refl
one_denial (too_long a) (too_long b) = refl
one_denial (too_long a) (all_waiting b c) = absurd (omega arith)
one_denial (too_long a) (all_named b c d) = absurd (omega arith)
one_denial (too_long a) (no_room b c d n) = absurd (omega arith)
one_denial (all_waiting a b) (too_long c) = absurd (omega arith)
one_denial (all_waiting a b) (all_waiting c d) = refl
one_denial (all_waiting a b) (all_named c d e) = absurd (omega arith)
one_denial (all_waiting a b) (no_room c d e n) = absurd (omega arith)
one_denial (all_named a b c) (too_long d) = absurd (omega arith)
one_denial (all_named a b c) (all_waiting d e) = absurd (omega arith)
one_denial (all_named a b c) (all_named d e f) = refl
one_denial (all_named a b c) (no_room d e f n) = absurd (omega arith)
one_denial (no_room a b c n) (too_long d) = absurd (omega arith)
one_denial (no_room a b c n) (all_waiting d e) = absurd (omega arith)
one_denial (no_room a b c n) (all_named d e f) = absurd (omega arith)
one_denial (no_room a b c n) (no_room d e f o) = refl
one_denial (nothing_sent a) (nothing_sent b) = refl
one_denial (nothing_sent a) (too_small b c d) = let z : ◌≡◌ {A = ℕ} 0 1 = cc in absurd (omega arith)
one_denial (too_small b c d) (nothing_sent a) = let z : ◌≡◌ {A = ℕ} 0 1 = cc in absurd (omega arith)
one_denial (too_small a b c) (too_small d e f) = refl

-- and none where a call is granted
load_undenied : {m : Meaning} {b : List ℕ} {l : ℕ} {q : Question} → 1 ≤ l → units m ≡ 0 → Denies (unloaded m) (load b l) q → ⊥
load_undenied h z (no_names a) = omega arith
load_undenied h z (in_use a u) = omega arith

arrive_undenied : {s : State} {bs : List ℕ} {q : Question} → length bs ≤ s.store.largest → length (queue s 0) < 16 → made s 0 < s.limit → RoomFor s.store (length bs) → Denies (loaded s) (arrive bs) q → ⊥
arrive_undenied a b c d (too_long e) = omega arith
arrive_undenied a b c d (all_waiting e f) = omega arith
arrive_undenied a b c d (all_named e f g) = omega arith
arrive_undenied a b c d (no_room e f g n) = n d

step_undenied : {s : State} {t : ℕ} {q : Question} → 1 ≤ t → t ≤ s.program.threads → Denies (loaded s) (step t) q → ⊥
step_undenied a b (no_thread n) = n a b

-- the oldest packet of `transmit`
same_front : (s : State) {n n' : Name} {ns ns' : List Name} {p p' : Packet} → queue s 1 ≡ n ∷ ns → lookup n (packets s) ≡ Some p → queue s 1 ≡ n' ∷ ns' → lookup n' (packets s) ≡ Some p' → (n ≡ n') × (p ≡ p')
same_front s {n} {n'} {p' = p'} e l e' l' =
    let m : n ≡ n' = cc in
    (m, some_same l (subst (λ (x : Name). lookup x (packets s) ≡ Some p') (sym m) l'))

collect_undenied : {s : State} {buffer : List ℕ} {n : Name} {ns : List Name} {p : Packet} {q : Question} → queue s 1 ≡ n ∷ ns → lookup n (packets s) ≡ Some p → length p.bytes ≤ length buffer
    → Denies (loaded s) (collect buffer) q → ⊥
collect_undenied e l h (nothing_sent a) = let z : ◌≡◌ {A = ℕ} 0 1 = cc in omega arith
collect_undenied {s} e l h (too_small e' l' k) = let f = (same_front s e l e' l').1 in let z = ap (λ (x : Packet). length x.bytes) f in omega arith

does-same : {m x y : Machine} {c : Call} {r q : Reply} → Good m → c ≢ ready → Does m c r x → Does m c q y → (r ≡ q) × (x ≡ y)
does-same g ne (denies {c = c} d e) (denies d' e') = (e ∙ ap (λ (k : Question). denied k c) (one_denial d d') ∙ sym e', refl)
does-same g ne (denies d e) (faults h z v) = absurd (load_undenied h z d)
does-same g ne (denies d e) (loads h z v r) = absurd (load_undenied h z d)
does-same g ne (denies d e) (arrives h i j k) = absurd (arrive_undenied h i j k d)
does-same g ne (denies d e) (steps h i w) = absurd (step_undenied h i d)
does-same g ne (denies d e) (finds w) = absurd (ne refl)
does-same g ne (denies d e) (finds_none n) = absurd (ne refl)
does-same g ne (denies d e) (collects h l k) = absurd (collect_undenied h l k d)
does-same g ne (faults h z v) (denies d e) = absurd (load_undenied h z d)
does-same g ne (faults h z v) (faults h' z' v') = (cc, refl)
does-same g ne (faults h z v) (loads h' z' v' r) = let z : ◌≡◌ {A = ℕ} 0 1 = cc in absurd (omega arith)
does-same g ne (loads h z v r) (denies d e) = absurd (load_undenied h z d)
does-same g ne (loads h z v r) (faults h' z' v') = let z : ◌≡◌ {A = ℕ} 0 1 = cc in absurd (omega arith)
does-same g ne (loads {m} {l = l} {P} h z v r) (loads {P = Q} h' z' v' r') = (refl, ap (λ (K : Program). loaded (initial K l m)) (ok_same P Q (sym r ∙ r')))
does-same g ne (arrives h i j k) (denies d e) = absurd (arrive_undenied h i j k d)
does-same g ne (arrives h i j k) (arrives h' i' j' k') = (refl, refl)
does-same g ne (steps h i w) (denies d e) = absurd (step_undenied h i d)
does-same g ne (steps {s} {t = t} h i w) (steps h' i' w') = let (a, x) = settled s g t _ _ _ _ w w' in (cc, ap loaded x)
does-same g ne (finds w) x = absurd (ne refl)
does-same g ne (finds_none n) x = absurd (ne refl)
does-same g ne (collects h l k) (denies d e) = absurd (collect_undenied h l k d)
does-same g ne (collects {s} {buffer} h l k) (collects h' l' k') =
    let (n, p) = same_front s h l h' l' in
    (ap (λ (x : Packet). to_collect (Ok (length x.bytes)) (copied x.bytes buffer)) p, ap (λ (x : Name). loaded (affected (popping 1 x None) s)) n)

pub calls-settled : CallsSettled
calls-settled m x y c r q h ne d e = does-same (reached-good h) ne d e
