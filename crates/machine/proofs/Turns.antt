-- A run of calls, turn after turn.
use Rattle.std.proofs.Common.{◌≡◌, ℕ, zero, suc, ◌+◌, ◌<◌, List, [], ◌∷◌, ◌++◌, length, map, take, drop, get_or, slice_set, sym, refl, ap, ap₂, ◌∙◌, subst, arith, length-set}
use Rattle.std.proofs.Math.Logic.{∥∥₁_elim}
use Rattle.std.proofs.Props.{props}
use Rattle.std.proofs.lemmas.List.{map-append, take_more, take_more_set, drop-set-lt}
use Rattle.store.specs.Meaning.{Meaning}
use Rattle.rules.specs.Calls.{Machine, unloaded, Does, Turn, Runs, at_rest, last, Needy}
use Rattle.rules.proofs.Steps.{runs_more, last_more}
use Rattle.rules.proofs.Calls.{reached-good, runs_keep}
use Rattle.machine.specs.declared.calls.Call.{Call}
use Rattle.machine.specs.declared.calls.Answer.{Answer}
use Rattle.machine.specs.Runs.{call_of, reply_of, made_of, Ran}
use Rattle.machine.proofs.Machines.{Led}

-- the first i calls are made, and k is the machine after them
pub record SoFar {N : ℕ} (m : Meaning) (calls : List (Call N)) (before now : List (Answer N)) (i : ℕ) (k : Machine) : Type 0 where
  pub turns : List Turn
  pub runs : Runs (unloaded m) turns
  pub made : map (λ (x : Turn). x.call) turns ≡ map call_of (take i calls)
  pub answered : map (λ (x : Turn). x.reply) turns ≡ map reply_of (take i now)
  pub later : drop i now ≡ drop i before
  pub long : length now ≡ length before
  pub leads : last (unloaded m) turns ≡ k
  pub needy : Needy m

drop-suc : {A : Type 0} (xs ys : List A) (i : ℕ) → length xs ≡ length ys → drop i xs ≡ drop i ys → drop (suc i) xs ≡ drop (suc i) ys
drop-suc [] [] i l e = refl
drop-suc [] (y ∷ ys) i l e = absurd (omega arith)
drop-suc (x ∷ xs) [] i l e = absurd (omega arith)
drop-suc (x ∷ xs) (y ∷ ys) zero l e = cc
drop-suc (x ∷ xs) (y ∷ ys) (suc i) l e = drop-suc xs ys i (omega arith) e

drop_more : {A : Type 0} (xs ys : List A) (i : ℕ) → length xs ≡ length ys → drop i xs ≡ drop i ys → drop (i + 1) xs ≡ drop (i + 1) ys
drop_more xs ys i l e = let h : suc i ≡ i + 1 = omega arith in subst (λ n. drop n xs ≡ drop n ys) h (drop-suc xs ys i l e)

-- none is made yet
pub none_so_far : {N : ℕ} (m : Meaning) (calls : List (Call N)) (before : List (Answer N)) (k : Machine) → Led k → k ≡ unloaded m → SoFar m calls before before 0 k
none_so_far m calls before k h e = record {
  turns = [];
  runs = at_rest;
  made = refl;
  answered = refl;
  later = refl;
  long = refl;
  leads = sym e;
  needy = ∥∥₁_elim (subst Led e h) (Prim.hlevel props) reached-good;
}

pub one_more : {N : ℕ} {m : Meaning} {calls : List (Call N)} {before now : List (Answer N)} {i : ℕ} {k : Machine} (s : SoFar m calls before now i k)
    (c : Call N) (a : Answer N) (k' : Machine) → c ≡ get_or calls i c → i < length calls → i < length now → Does k (call_of c) (reply_of a) k'
    → SoFar m calls before (slice_set now i a) (i + 1) k'
one_more {m = m} {calls = calls} {before = before} {now = now} {i = i} {k = k} s c a k' at there here d = record {
  turns = s.turns ++ x ∷ [];
  runs = runs_more s.runs (subst (λ (z : Machine). Does z (call_of c) (reply_of a) k') (sym s.leads) d);
  made = map-append (λ (y : Turn). y.call) s.turns (x ∷ [])
      ∙ ap₂ ◌++◌ s.made (ap (λ z. call_of z ∷ []) at)
      ∙ sym (map-append call_of (take i calls) (get_or calls i c ∷ []))
      ∙ ap (map call_of) (sym (take_more calls i c there));
  answered = map-append (λ (y : Turn). y.reply) s.turns (x ∷ [])
      ∙ ap (λ z. z ++ reply_of a ∷ []) s.answered
      ∙ sym (map-append reply_of (take i now) (a ∷ []))
      ∙ ap (map reply_of) (sym (take_more_set now i a here));
  later = drop-set-lt (i + 1) now i a (omega arith) ∙ drop_more now before i s.long s.later;
  long = length-set now i a ∙ s.long;
  leads = last_more (unloaded m) s.turns x;
  needy = s.needy;
}
  where
    x : Turn
    x = record { call = call_of c; reply = reply_of a; after = k' }

pub all_made : {N : ℕ} {m : Meaning} {calls : List (Call N)} {before now : List (Answer N)} {i : ℕ} {k : Machine} → SoFar m calls before now i k → i ≡ made_of calls before → Ran m calls before now k
all_made {m = m} {calls = calls} {before = before} {now = now} {k = k} s e = record {
  turns = s.turns;
  runs = s.runs;
  made = s.made ∙ ap (λ n. map call_of (take n calls)) e;
  answered = s.answered ∙ ap (λ n. map reply_of (take n now)) e;
  later = sym (ap (λ n. drop n now) e) ∙ s.later ∙ ap (λ n. drop n before) e;
  leads = s.leads;
  keeps = runs_keep m s.needy s.turns s.runs;
}
