use Rattle.std.proofs.Common.{◌≡◌, ◌≢◌, ℕ, ◌+◌, ◌≤◌, ◌<◌, refl, ap, subst, arith}
use native.Mathlib.Decide.{dec_lt}
use Rattle.rules.specs.State.{State}
use Rattle.rules.specs.declared.outcomes.Outcome.{Outcome}
use Rattle.rules.specs.declared.outcomes.Outcome.TheVariants.{Advanced}
use Rattle.rules.specs.Rules.{Step}
use Rattle.rules.proofs.Steps.{advanced_by}
use Rattle.machine.specs.States.{state_of}
use Rattle.machine.proofs.memory.Memory.ready.Goals as goal

-- one thread more
tried_more : (s : State) (n : ℕ) → ((t : ℕ) → 1 ≤ t → t < n → (a : Outcome) × (a ≢ Advanced) × Step s t a s) → (a : Outcome) → a ≢ Advanced → Step s n a s
    → (t : ℕ) → 1 ≤ t → t < n + 1 → (b : Outcome) × (b ≢ Advanced) × Step s t b s
tried_more s n h a ne w t f l = go (dec_lt t n)
  where
    go : Dec (t < n) → (b : Outcome) × (b ≢ Advanced) × Step s t b s
    go (yes k) = h t f k
    go (no k) = let e : n ≡ t = omega arith in (a, ne, subst (λ (u : ℕ). Step s u a s) e w)

pub loop-thread-init : goal.loop-thread-init
loop-thread-init g c = record { from = omega arith; tried = λ t f l. absurd (omega arith) }

pub decide-requires : goal.decide-requires
decide-requires g c = c.requires c.loop-thread.thread c.loop-thread.invariant.from (let h = c.loop-thread-test.true in let e = ap (λ x. x.threads) c.header-thread-end.ensures in omega arith)

pub returns-in-Ok-clause-some : goal.returns-in-Ok-clause-some
returns-in-Ok-clause-some g c =
    let s = state_of c.args.self.now (g.S.Store.meaning c.args.store.now) in
    (_, advanced_by s c.loop-thread.thread refl c.in-Ok.ensures.0)

pub loop-thread-preserved : goal.loop-thread-preserved
loop-thread-preserved g c =
    let s = state_of c.args.self.now (g.S.Store.meaning c.args.store.now) in
    let v = c.loop-thread.invariant in
    record { from = let h = v.from in omega arith; tried = tried_more s c.loop-thread.thread v.tried c.in_default.field-0 c.in_default.ensures.0 c.in_default.ensures.1 }

pub returns-clause-none : goal.returns-clause-none
returns-clause-none g c t f l =
    c.loop-thread.invariant.tried t f
    (let h = c.loop-thread-test.false in let e = ap (λ x. x.threads) c.header-thread-end.ensures in omega arith)
