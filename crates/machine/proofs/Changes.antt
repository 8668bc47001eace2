-- The state that a machine's memory stands for, after one of its rows changed.
use Rattle.std.proofs.Common.{◌≡◌, ℕ, zero, suc, ◌+◌, ◌-◌, ◌<◌, ◌≤◌, List, [], ◌∷◌, ◌++◌, length, map, take, get_or, slice_set, Some, None, Option, sym, refl, ap, ◌∙◌, subst, arith}
use Rattle.std.specs.Option.{IfSome, IfNone}
use Rattle.std.proofs.lemmas.List.{length-map, length-reverse, length-take-le, map-set, get_or-take}
use Rattle.store.specs.declared.name.Name.{Name}
use Rattle.store.specs.Packets.{Packet, new_packet, with_holder, with_byte}
use Rattle.store.specs.Meaning.{Meaning, with_packets, make_after, discard_after, hand_after, write_after}
use Rattle.rows.specs.declared.row.Row.{Row}
use Rattle.rows.specs.Rows.{items}
use Rattle.rules.specs.State as state
use Rattle.rules.specs.State.{State, ended, running, thread, queue, made, packets, name, next_name, Edit, push, pop, edited, Effect, pushing, popping, storing, making, lined, counted, stored, affected, with_thread, apply}
use Rattle.rules.proofs.Effects.{make_puts, discard_puts, hand_puts, write_puts}
use Rattle.code.specs.Copies.{bytes_of, program_of}
use Rattle.frames.specs.Threads.{frame_of, below_of, thread_of}
use Rattle.machine.specs.States.{state_of}
use Rattle.machine.specs.Moves.{changed, altered, effect_of, Roomy, Alive, Allowed}
use Rattle.machine.specs.declared.memory.Memory.{Memory}
use Rattle.frames.specs.declared.frame.Frame.{Frame}
use Rattle.frames.specs.declared.thread.Thread.{Thread}
use Rattle.frames.specs.declared.thread.Thread.TheVariants.{Ended, Running}
use Rattle.machine.specs.declared.moves.Draft.{Draft}
use Rattle.machine.specs.declared.moves.Change.{Change}
use Rattle.machine.specs.declared.moves.Change.TheVariants.{Go, Bind, Spend, Top, Enter, Leave, End}
use Rattle.machine.specs.declared.moves.Outside.{Outside}
use Rattle.machine.specs.declared.moves.Outside.TheVariants.{Make, Discard, Write, Take, Put}

-- ---- the first n of a list, each seen by f
take_set : {X : Type 0} (n : ℕ) (xs : List X) (i : ℕ) (x : X) → take n (slice_set xs i x) ≡ slice_set (take n xs) i x
take_set zero xs i x = refl
take_set (suc n) [] i x = refl
take_set (suc n) (y ∷ ys) zero x = refl
take_set (suc n) (y ∷ ys) (suc i) x = ap (λ zs. y ∷ zs) (take_set n ys i x)

seen_set : {X Y : Type 0} (f : X → Y) (n : ℕ) (xs : List X) (i : ℕ) (x : X) → map f (take n (slice_set xs i x)) ≡ slice_set (map f (take n xs)) i (f x)
seen_set f n xs i x = ap (map f) (take_set n xs i x) ∙ map-set f (take n xs) i x

seen_at : {X Y : Type 0} (f : X → Y) (n : ℕ) (xs : List X) (i : ℕ) (d : X) (e : Y) → i < n → n ≤ length xs → get_or (map f (take n xs)) i e ≡ f (get_or xs i d)
seen_at f zero xs i d e h k = absurd (omega arith)
seen_at f (suc n) [] i d e h k = absurd (omega arith)
seen_at f (suc n) (y ∷ ys) zero d e h k = refl
seen_at f (suc n) (y ∷ ys) (suc i) d e h k = seen_at f n ys i d e (omega arith) (omega arith)

-- ---- a thread changes
pub length_below : (b : List ℕ) (r : Row Frame 7) → length (below_of b r) ≡ length (items r)
length_below b r = length-reverse (map (frame_of b) (items r)) ∙ length-map (items r) (frame_of b)

leave_as_long : (g h : state.Frame) (xs ys : List state.Frame) → length xs ≡ length ys → Roomy Leave (running g xs) → Roomy Leave (running h ys)
leave_as_long g h [] ys e roomy = absurd roomy
leave_as_long g h (x ∷ xs) [] e roomy = absurd (omega arith)
leave_as_long g h (x ∷ xs) (y ∷ ys) e roomy = tt

-- there is room whatever the bytes of the program are
pub roomy_any : (c : Change) (r : Thread) (b b' : List ℕ) → Roomy c (thread_of b r) → Roomy c (thread_of b' r)
roomy_any c Ended b b' roomy = roomy
roomy_any (Go place) (Running top below) b b' roomy = roomy
roomy_any (Bind place x) (Running top below) b b' roomy = roomy
roomy_any (Spend place v) (Running top below) b b' roomy = roomy
roomy_any Top (Running top below) b b' roomy = tt
roomy_any Enter (Running top below) b b' roomy =
    let h = length_below b below in
    let k = length_below b' below in
    omega (arith, h, k, roomy)
roomy_any Leave (Running top below) b b' roomy =
    leave_as_long (frame_of b top) (frame_of b' top) (below_of b below) (below_of b' below) (length_below b below ∙ sym (length_below b' below)) roomy
roomy_any End (Running top below) b b' roomy = tt

-- nor what the store means
pub thread_any : (c : Memory) (m m' : Meaning) (t : ℕ) → thread (state_of c m) t ≡ thread (state_of c m') t
thread_any c m m' zero = refl
thread_any c m m' (suc t) = refl

module _ (c : Memory) (m : Meaning) where
  threads_there : (program_of c.code).threads ≤ length c.threads
  threads_there = let few = c.few_threads in let eight = c.eight_threads in omega arith

  -- thread t as it is found, i standing for its number
  pub thread_is : (t i : ℕ) (d : Thread) → 1 ≤ t → t ≤ (program_of c.code).threads → i ≡ t → thread (state_of c m) t ≡ thread_of (bytes_of c.code) (get_or c.threads (i - 1) d)
  thread_is zero i d h k e = absurd (omega arith)
  thread_is (suc t) i d h k e =
      let j : t ≡ i - 1 = omega arith in
      seen_at (thread_of (bytes_of c.code)) (program_of c.code).threads c.threads t d ended (omega arith) threads_there
      ∙ ap (λ (i : ℕ). thread_of (bytes_of c.code) (get_or c.threads i d)) j

  pub thread_changes : (t i : ℕ) (r : Thread) (new : state.Thread) → 1 ≤ t → i ≡ t → thread_of (bytes_of c.code) r ≡ new
      → record (state_of c m) { threads = map (thread_of (bytes_of c.code)) (take (program_of c.code).threads (slice_set c.threads (i - 1) r)) } ≡ with_thread t new (state_of c m)
  thread_changes zero i r new h e k = absurd (omega arith)
  thread_changes (suc t) i r new h e k =
      let j : i - 1 ≡ t = omega arith in
      ap (λ (ts : List state.Thread). record (state_of c m) { threads = ts })
      (seen_set (thread_of (bytes_of c.code)) (program_of c.code).threads c.threads (i - 1) r
      ∙ ap (λ (i : ℕ). slice_set (state_of c m).threads i (thread_of (bytes_of c.code) r)) j ∙ ap (slice_set (state_of c m).threads t) k)

-- ---- what is done outside
abbrev done : Memory → Meaning → (t : ℕ) → Outside → State
done c m t o = affected (effect_of (state_of c m) t o) (state_of c m)

affected_is : (e : Effect) (s : State) (qs : List (List Name)) (cs : List ℕ) (m : Meaning) → qs ≡ lined s.queues e.edit → cs ≡ counted s.counts e.count → m ≡ with_packets s.store (stored (packets s) e.puts)
    → record { program = s.program; threads = s.threads; queues = qs; counts = cs; limit = s.limit; store = m } ≡ affected e s
affected_is e s qs cs m h k l = cc

-- a queue as its row is after an edit
lined_is : (k : ℕ) (rows : List (Row Name 16)) (i q : ℕ) (d r : Row Name 16) (e : Edit) → i ≡ q → q < length (map items (take k rows)) → k ≤ length rows → items r ≡ edited e (items (get_or rows i d))
    → map items (take k (slice_set rows i r)) ≡ lined (map items (take k rows)) (Some (q, e))
lined_is k rows i q d r e same inside room new =
    let l : length (map items (take k rows)) ≡ k = length-map (take k rows) items ∙ length-take-le k rows room in
    let was : items (get_or rows i d) ≡ get_or (map items (take k rows)) q [] = ap (λ (i : ℕ). items (get_or rows i d)) same ∙ sym (seen_at items k rows q d [] (omega arith) room) in
    seen_set items k rows i r ∙ ap (λ (i : ℕ). slice_set (map items (take k rows)) i (items r)) same ∙ ap (slice_set (map items (take k rows)) q) (new ∙ ap (edited e) was)

popped : (r : Option Name) (was now : Row Name 16) → IfSome r (λ x. items was ≡ x ∷ items now) → IfNone r ((items was ≡ []) × (now ≡ was)) → items now ≡ edited pop (items was)
popped (Some x) was now some none = sym (ap (edited pop) some)
popped None was now some none = ap items none.1 ∙ none.0 ∙ sym (ap (edited pop) none.0)

not_past : (xs : List (List Name)) (q : ℕ) (n : Name) (ns : List Name) → get_or xs q [] ≡ n ∷ ns → q < length xs
not_past [] q n ns e = cc
not_past (x ∷ xs) zero n ns e = omega arith
not_past (x ∷ xs) (suc q) n ns e = let h = not_past xs q n ns e in omega arith

rows_there : (c : Memory) → 2 + (program_of c.code).queues ≤ length c.queues
rows_there c = let few = c.few_queues in let eight = c.eight_queues in omega arith

module _ (c : Memory) (m m' : Meaning) (t : ℕ) (o : Outside) (allowed : Allowed (state_of c m) t o) where
  pub discards : (n : Name) → o ≡ Discard n → m' ≡ discard_after m n → state_of c m' ≡ done c m t o
  discards n is after =
      let a : Alive (state_of c m) n = subst (Allowed (state_of c m) t) is allowed in
      affected_is (storing n None) (state_of c m) _ _ m' refl refl (after ∙ sym (discard_puts m n a.0 a.1).1)
      ∙ ap (done c m t) (sym is)

  pub writes : (n : Name) (i k : ℕ) → o ≡ Write n i k → m' ≡ write_after m n i k → state_of c m' ≡ done c m t o
  writes n i k is after =
      let a : Allowed (state_of c m) t (Write n i k) = subst (Allowed (state_of c m) t) is allowed in
      affected_is (storing n (Some (with_byte i k a.0))) (state_of c m) _ _ m' refl refl (after ∙ sym (write_puts m n a.0 a.1 i k a.2).1)
      ∙ ap (λ (x : Option Packet). affected (altered x (λ p. storing n (Some (with_byte i k p)))) (state_of c m)) (sym a.1)
      ∙ ap (done c m t) (sym is)

  module _ (i : ℕ) (d r : Row Name 16) where
    pub takes : (q : ℕ) (n : Name) (first : Option Name) → o ≡ Take q n → i ≡ q
        → IfSome first (λ x. items (get_or c.queues i d) ≡ x ∷ items r) → IfNone first ((items (get_or c.queues i d) ≡ []) × (r ≡ get_or c.queues i d))
        → m' ≡ hand_after m n t → record (state_of c m) { queues = map items (take (2 + (program_of c.code).queues) (slice_set c.queues i r)); store = m' } ≡ done c m t o
    takes q n first is at some none after =
        let a : Allowed (state_of c m) t (Take q n) = subst (Allowed (state_of c m) t) is allowed in
        affected_is (popping q n (Some (with_holder t a.0.0))) (state_of c m) _ _ m'
        (lined_is (2 + (program_of c.code).queues) c.queues i q d r pop at (not_past (state_of c m).queues q n a.1.0 a.1.1) (rows_there c) (popped first (get_or c.queues i d) r some none))
        refl (after ∙ sym (hand_puts m n a.0.0 a.0.1 t).1)
        ∙ ap (λ (x : Option Packet). affected (altered x (λ p. popping q n (Some (with_holder t p)))) (state_of c m)) (sym a.0.1)
        ∙ ap (done c m t) (sym is)

    pub puts : (q : ℕ) (n : Name) → o ≡ Put q n → i ≡ q → items r ≡ items (get_or c.queues i d) ++ n ∷ []
        → record (state_of c m) { queues = map items (take (2 + (program_of c.code).queues) (slice_set c.queues i r)) } ≡ done c m t o
    puts q n is at more =
        let a : Allowed (state_of c m) t (Put q n) = subst (Allowed (state_of c m) t) is allowed in
        affected_is (pushing q n) (state_of c m) _ _ m (lined_is (2 + (program_of c.code).queues) c.queues i q d r (push n) at a.0 (rows_there c) more) refl refl
        ∙ ap (done c m t) (sym is)

-- a maker makes its next packet
pub makes : (c : Memory) (m m' : Meaning) (t size i : ℕ) → Allowed (state_of c m) t (Make size) → t ≤ (program_of c.code).threads → i ≡ t
    → m' ≡ make_after m (name t (get_or c.counts i 0)) size
    → record (state_of c m) { counts = take (1 + (program_of c.code).threads) (slice_set c.counts i (get_or c.counts i 0 + 1)); store = m' } ≡ done c m t (Make size)
makes c m m' t size i a to at after =
    let count : get_or c.counts i 0 ≡ made (state_of c m) t =
    ap (λ (i : ℕ). get_or c.counts i 0) at ∙ sym (get_or-take (1 + (program_of c.code).threads) c.counts t 0 (omega arith))
    in
    let next : get_or c.counts i 0 + 1 ≡ suc (made (state_of c m) t) = omega (arith, count) in
    affected_is (making t (made (state_of c m) t) (new_packet (next_name (state_of c m) t) size)) (state_of c m) _ _ m' refl
    (take_set (1 + (program_of c.code).threads) c.counts i (get_or c.counts i 0 + 1) ∙ ap (λ (j : ℕ). slice_set (state_of c m).counts j (get_or c.counts i 0 + 1)) at
    ∙ ap (slice_set (state_of c m).counts t) next)
    (after ∙ ap (λ (k : ℕ). make_after m (name t k) size) count ∙ sym (make_puts m (next_name (state_of c m) t) size a.0 a.1 a.2).1)

-- ---- both
-- what is done outside leaves the threads
pub thread_affected : (e : Effect) (s : State) (t : ℕ) → thread (affected e s) t ≡ thread s t
thread_affected e s zero = refl
thread_affected e s (suc t) = refl

pub performs : (b b' : List ℕ) (d : Draft) (change : Change) (t : ℕ) (e : Effect) (before between after : State) → between ≡ affected e before → b' ≡ b
    → after ≡ with_thread t (changed b' d change (thread between t)) between → after ≡ apply t (changed b d change (thread before t)) e before
performs b b' d change t e before between after h k does =
    let same : thread between t ≡ thread before t = ap (λ (s : State). thread s t) h ∙ thread_affected e before t in
    does ∙ ap (λ (b : List ℕ). with_thread t (changed b d change (thread between t)) between) k
    ∙ ap (λ (r : state.Thread). with_thread t (changed b d change r) between) same ∙ ap (with_thread t (changed b d change (thread before t))) h
