-- What is decided at a call of an operation, from its arguments as they are read.
use Rattle.std.specs.Prelude.{IsErr, IsErrAnd}
use Rattle.std.proofs.Common.{◌≡◌, ℕ, Bool, true, false, List, [], ◌∷◌, length, get_or, Some, None, Ok, Err, Result, refl, sym, ap, ◌∙◌, subst, arith}
use mathlib.Core.Option.{some, none}
use Rattle.reader.specs.declared.types.Ty.{Ty}
use Rattle.reader.specs.declared.values.Value.{Value}
use Rattle.reader.specs.declared.values.Values.{Values}
use Rattle.reader.specs.declared.values.Operand.{Operand}
use Rattle.reader.specs.declared.operations.Operation.{Operation}
use Rattle.reader.proofs.Results.{ok_same}
use Rattle.rows.specs.Rows.{items}
use Rattle.typing.specs.Signatures.{Signature, ◌⇒◌, provided, signature}
use Rattle.rules.specs.declared.held.Held.{Held}
use Rattle.rules.specs.declared.outcomes.Outcome.{Outcome}
use Rattle.rules.specs.declared.outcomes.Outcome.TheVariants.{Stuck}
use Rattle.rules.specs.State as state
use Rattle.rules.specs.State.{State}
use Rattle.rules.specs.Rules.{Gives}
use Rattle.code.specs.declared.copies.Code.{Code}
use Rattle.code.specs.Copies.{bytes_of, program_of}
use Rattle.code.specs.Sights.{values_of, calling, Argued}
use Rattle.code.proofs.Arguments.{values}
use Rattle.frames.specs.declared.frame.Frame.{Frame}
use Rattle.machine.specs.declared.moves.Draft.{Draft}
use Rattle.machine.specs.declared.moves.Move.{Move}
use Rattle.machine.specs.States.{At}
use Rattle.machine.specs.Moves.{Decided}
use Rattle.machine.proofs.Decides.{Halts, stuck_calling, none_called, none_given}
use Rattle.machine.proofs.Offers.{gives-long}

-- an outcome is handed on
pub answered : (b : List ℕ) (s : State) (t : ℕ) (d : Draft) (e : Outcome) (r : Result Move Outcome) → IsErr r × IsErrAnd r (λ x. x ≡ e) → Halts s t e → Decided b s t d r
answered b s t d e (Ok m) h w = absurd (h.1)
answered b s t d e (Err x) h w = subst (Halts s t) (sym h.1) w

-- an operation of a table stands there, or does not
pub standing : (S : Signature) {r b : Bool} → r ≡ b → r ≡ true → provided b S ≡ some S
standing S e h = ap (λ (z : Bool). provided z S) (sym e ∙ h)

pub none_standing : (S : Signature) {r b : Bool} → r ≡ b → r ≡ false → provided b S ≡ none
none_standing S e h = ap (λ (z : Bool). provided z S) (sym e ∙ h)

-- the values of a row of none, one, two or three
pub no_value : (vs : List Value) → length vs ≡ 0 → vs ≡ []
no_value [] h = refl
no_value (a ∷ vs) h = absurd (omega arith)

pub one_value : (vs : List Value) (d : Value) → length vs ≡ 1 → vs ≡ get_or vs 0 d ∷ []
one_value [] d h = absurd (omega arith)
one_value (a ∷ []) d h = refl
one_value (a ∷ b ∷ vs) d h = absurd (omega arith)

pub two_values : (vs : List Value) (d : Value) → length vs ≡ 2 → vs ≡ get_or vs 0 d ∷ get_or vs 1 d ∷ []
two_values [] d h = absurd (omega arith)
two_values (a ∷ []) d h = absurd (omega arith)
two_values (a ∷ b ∷ []) d h = refl
two_values (a ∷ b ∷ c ∷ vs) d h = absurd (omega arith)

pub three_values : (vs : List Value) (d : Value) → length vs ≡ 3 → vs ≡ get_or vs 0 d ∷ get_or vs 1 d ∷ get_or vs 2 d ∷ []
three_values [] d h = absurd (omega arith)
three_values (a ∷ []) d h = absurd (omega arith)
three_values (a ∷ b ∷ []) d h = absurd (omega arith)
three_values (a ∷ b ∷ c ∷ []) d h = refl
three_values (a ∷ b ∷ c ∷ e ∷ vs) d h = absurd (omega arith)

-- the outcome by another name
pub halts : {s : State} {t : ℕ} {e : Outcome} → e ≡ Stuck → Halts s t Stuck → Halts s t e
halts {s} {t} is h = subst (Halts s t) (sym is) h

module _ (c : Code) (s : State) (t p : ℕ) (op : Operation) (f : Frame) (l : Values) (fs : List state.Frame) (at : At c s t f (calling (bytes_of c) p op (values_of (bytes_of c) l)) fs) where
  -- there is no such operation
  pub unknown : {e : Outcome} → e ≡ Stuck → signature (program_of c) op ≡ none → Halts s t e
  unknown is none_such = halts is (stuck_calling c s t p op f fs _ at (λ as' stop k next r q. none_called none_such))

  module _ {e : Outcome} (is : e ≡ Stuck) (ρs σs : List Ty) (sg : signature (program_of c) op ≡ some (ρs ⇒ σs)) where
    -- its arguments are not there
    pub unread : Argued (bytes_of c) l (length ρs) None → Halts s t e
    unread n = halts is (stuck_calling c s t p op f fs _ at (λ as' stop k next r q. none_given sg (λ xs us g. n as' stop k next r q (gives-long g))))

    -- they are there, but cannot be given
    pub ungiven : (n : ℕ) (vs : List Value) (next : ℕ) → Argued (bytes_of c) l n (Some (vs, next)) → ((as' : List Operand) → values as' ≡ vs → (us xs : List Held) → ¬ Gives (items f.variables) as' ρs xs us) → Halts s t e
    ungiven n vs next (as', stop, k, read, count, v, long) never =
        halts is (stuck_calling c s t p op f fs _ at (λ bs end j z r q. none_given sg (λ xs us g.
        let same = ap (λ (x : List Operand × ℕ). values x.0) (ok_same (as', stop) (bs, end) (sym read ∙ r)) in
        never bs (sym same ∙ v) us xs g)))
