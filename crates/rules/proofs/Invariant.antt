-- What every state that calls lead to has, and that a step keeps it.
use Rattle.std.proofs.Common.{◌≡◌, ℕ, zero, suc, ◌+◌, ◌<◌, ◌≢◌, ◌⊎◌, List, [], ◌∷◌, length, get_or, Some, None, Option, sym, refl, ap, ◌∙◌, subst, inl, inr, arith, length-set}
use Rattle.store.specs.declared.name.Name.{Name}
use Rattle.store.specs.Packets.{Packet, lookup}
use Rattle.rules.specs.State.{Frame, Thread, ended, running, frames, State, made, packets, next_name, Edit, Effect, lined, counted, stored, apply}
use Rattle.rules.specs.Rules.{Outcome, Rule, Moves, Step}
use Rattle.rules.specs.Promises.{queued}
use Rattle.rules.proofs.Counts.{held, held_by, alive, present, present-at-most, total-set, total_get_or, total_two}
use Rattle.rules.proofs.Frames.{Runnable, Placed, placed-kept}
use Rattle.rules.proofs.Lends.{Lent, lent-kept}
use Rattle.rules.proofs.Conserve.{Lined, rule-counted}
use Rattle.rules.proofs.Holders.{Holds, Fresh, Limited, set-each, rule-holds, rule_touches, rule-fresh, rule-limited}

pub record Sound (s : State) : Type 0 where
  pub runnable : Runnable s.program
  pub peopled : length s.threads ≡ s.program.threads
  pub makers : length s.counts ≡ suc (length s.threads)
  pub lines : Lined s
  pub placed : (i : ℕ) → Placed s.program (get_or s.threads i ended)
  pub lent : (i : ℕ) → Lent (frames (get_or s.threads i ended))
  -- each name stands as an owner in a thread or in a queue once if it is alive, and else nowhere
  pub conserved : (n : Name) → held_by n s.threads + queued n s.queues ≡ alive n (packets s)
  pub holds : (i : ℕ) (n : Name) → 0 < held n (get_or s.threads i ended) → Holds (suc i) (lookup n (packets s))
  pub fresh : Fresh s.counts (packets s)
  pub limited : Limited s.counts s.limit

-- a thread that runs is one of the program's
pub running-there : (rs : List Thread) (i : ℕ) → get_or rs i ended ≢ ended → i < length rs
running-there [] i h = absurd (h refl)
running-there (r ∷ rs) zero h = omega arith
running-there (r ∷ rs) (suc i) h = let k = running-there rs i h in omega arith

pub running-ended : {f : Frame} {fs : List Frame} → running f fs ≢ ended
running-ended e = let z : ◌≡◌ {A = ℕ} 0 1 = cc in omega arith

pub rule-runs : {s : State} {t : ℕ} {r r' : Thread} {e : Effect} → Rule s t r r' e → r ≢ ended
rule-runs (Rule.operates sg h op) = running-ended
rule-runs (Rule.calls fg nt h l) = running-ended
rule-runs (Rule.tail_calls fg tl h) = running-ended
rule-runs (Rule.returns qf h) = running-ended
rule-runs (Rule.ends qf h) = running-ended
rule-runs (Rule.if_true h) = running-ended
rule-runs (Rule.if_false h) = running-ended

-- the next packet of a maker is not alive
pub not_made : {s : State} → Sound s → (m : ℕ) → lookup (next_name s m) (packets s) ≡ None
not_made {s} v m = go (lookup (next_name s m) (packets s)) refl
  where
    go : (o : Option Packet) → lookup (next_name s m) (packets s) ≡ o → o ≡ None
    go None e = refl
    go (Some p) e = absurd (let a = ap present e in let b = v.fresh m (made s m) (omega arith) in omega arith)

counted-length : (cs : List ℕ) (o : Option (ℕ × ℕ)) → length (counted cs o) ≡ length cs
counted-length cs None = refl
counted-length cs (Some c) = length-set cs c.0 c.1

pub lined-length : (qs : List (List Name)) (o : Option (ℕ × Edit)) → length (lined qs o) ≡ length qs
lined-length qs None = refl
lined-length qs (Some e) = length-set qs e.0 _

rule-kept : {s : State} (j : ℕ) {r' : Thread} {e : Effect} → Sound s → Rule s (suc j) (get_or s.threads j ended) r' e → Sound (apply (suc j) r' e s)
rule-kept {s} j {r'} {e} v r = record {
  runnable = v.runnable;
  peopled = length-set s.threads j r' ∙ v.peopled;
  makers = counted-length s.counts e.count ∙ v.makers ∙ ap suc (sym (length-set s.threads j r'));
  lines = lined-length s.queues e.edit ∙ v.lines;
  placed = set-each (λ i x. Placed s.program x) s.threads j r' ended there (placed-kept v.runnable (v.placed j) r) (λ i ne. v.placed i);
  lent = set-each (λ i x. Lent (frames x)) s.threads j r' ended there (lent-kept (v.placed j) (v.lent j) r) (λ i ne. v.lent i);
  conserved = λ n. let a = rule-counted n v.lines (v.placed j) r in let b = total-set (held n) s.threads j ended r' there in let c = v.conserved n in omega arith;
  holds =
      set-each (λ i x. (n : Name) → 0 < held n x → Holds (suc i) (lookup n (stored (packets s) e.puts))) s.threads j r' ended there
      (λ n b. rule-holds (v.placed j) (v.lent j) r (v.holds j) n (rule-counted n v.lines (v.placed j) r) b)
      (λ i ne n b. others i ne n b (rule_touches (v.placed j) (v.lent j) r n));
  fresh = rule-fresh maker v.fresh r;
  limited = rule-limited maker v.limited r;
}
  where
    there : j < length s.threads
    there = running-there s.threads j (rule-runs r)

    maker : suc j < length s.counts
    maker = let a = v.makers in let b = there in omega arith

    others : (i : ℕ) → i ≢ j → (n : Name) → 0 < held n (get_or s.threads i ended)
        → (lookup n (stored (packets s) e.puts) ≡ lookup n (packets s)) ⊎ ((0 < held n (get_or s.threads j ended) + queued n s.queues) ⊎ (alive n (packets s) ≡ 0))
        → Holds (suc i) (lookup n (stored (packets s) e.puts))
    others i ne n b (inl p) = subst (Holds (suc i)) (sym p) (v.holds i n b)
    others i ne n b (inr (inl p)) =
        absurd (let a = total_two (held n) s.threads i j ended refl ne in let c = v.conserved n in let d = present-at-most (lookup n (packets s)) in omega arith)
    others i ne n b (inr (inr p)) = absurd (let a = total_get_or (held n) s.threads i ended refl in let c = v.conserved n in omega arith)

moves-kept : {s s' : State} {a : Outcome} (t : ℕ) → Sound s → Moves s t a s' → Sound s'
moves-kept zero v (Moves.advances r) = elim r [ ]
moves-kept (suc j) v (Moves.advances r) = rule-kept j v r
moves-kept t v (Moves.waits c) = v
moves-kept t v (Moves.has_ended e) = v

pub step_kept : {s s' : State} {a : Outcome} (t : ℕ) → Sound s → Step s t a s' → Sound s'
step_kept t v (Step.moves m) = moves-kept t v m
step_kept t v (Step.sticks n) = v
