-- Bytes copied one by one from a packet of one store to a packet of another.
use Rattle.std.proofs.Common.{◌≡◌, ℕ, zero, suc, ◌+◌, ◌<◌, List, [], ◌∷◌, ◌++◌, length, get_or, take, drop, set, replicate, Some, Ok, Result, sym, refl, ap, ◌∙◌, append-nil, arith, length-append, length-drop, length-take}
use lib.ListN.{length-replicate}
use Rattle.std.proofs.lemmas.List.{drop_all, take_all}
use Rattle.std.proofs.lemmas.Bool.{lt-ltb}
use Rattle.std.specs.Result.{result_unwrap_or}
use Rattle.store.specs.declared.name.Name.{Name}
use Rattle.store.specs.declared.denial.Question.{Question}
use Rattle.store.specs.Meaning.{Meaning, with_packets, found, write_after, read_answer, make_after}
use Rattle.store.specs.Packets.{Packet, insert, new_packet, with_byte, with_bytes, with_holder}
use Rattle.store.proofs.Answered.{write_inside, make_granted, hand_alive}
use Rattle.store.proofs.Maps.{insert-known, insert-twice, lookup-insert-same}
use Rattle.split.specs.Carry.{mixed, Carried, Copied}

mix_more : (i : ℕ) (ps qs : List ℕ) → i < length ps → i < length qs → set (take i ps ++ drop i qs) i (get_or ps i 0) ≡ take (suc i) ps ++ drop (suc i) qs
mix_more zero [] qs h k = absurd (omega arith)
mix_more zero (p ∷ ps) [] h k = absurd (omega arith)
mix_more zero (p ∷ ps) (q ∷ qs) h k = refl
mix_more (suc i) [] qs h k = absurd (omega arith)
mix_more (suc i) (p ∷ ps) [] h k = absurd (omega arith)
mix_more (suc i) (p ∷ ps) (q ∷ qs) h k = ap (λ (r : List ℕ). p ∷ r) (mix_more i ps qs (omega arith) (omega arith))

pub carried_none : (from old : Meaning) (n : Name) (size : ℕ) → Carried from old old n size 0
carried_none from old n size p q e f l k = ap (with_packets old) (sym (insert-known n q old.packets f))

pub carried_more : (from old mid new : Meaning) (n : Name) (size i b : ℕ) → Carried from old mid n size i → i < size
    → ((p : Packet) → found from n ≡ Some p → length p.bytes ≡ size → b ≡ get_or p.bytes i 0)
    → new ≡ write_after mid n i b → Carried from old new n size (i + 1)
carried_more from old mid new n size i b c lt byte after p q e f l k =
    let m = c p q e f l k in
    let x = mixed i p q in
    let h : found mid n ≡ Some x = ap (λ (w : Meaning). found w n) m ∙ lookup-insert-same n x old.packets in
    let s : i < length x.bytes = simp (length-append, length-take, length-drop) (omega arith) in
    let y : with_byte i b x ≡ mixed (i + 1) p q =
    ap (λ (v : ℕ). with_byte i v x) (byte p e l)
    ∙ ap (λ (bs : List ℕ). with_bytes bs q) (mix_more i p.bytes q.bytes (omega arith) (omega arith))
    ∙ ap (λ (j : ℕ). mixed j p q) (let w : suc i ≡ i + 1 = omega arith in w) in
    after
    ∙ sym (write_inside mid n x h i b s).1
    ∙ ap (λ (w : Meaning). with_packets w (insert n (with_byte i b x) w.packets)) m
    ∙ ap (with_packets old) (insert-twice n (with_byte i b x) x old.packets ∙ ap (λ (v : Packet). insert n v old.packets) y)

pub byte_read : (m : Meaning) (n : Name) (i : ℕ) (r : Result ℕ Question) (b : ℕ) → b ≡ result_unwrap_or r 0 → r ≡ read_answer m n i
    → (p : Packet) → found m n ≡ Some p → i < length p.bytes → b ≡ get_or p.bytes i 0
byte_read m n i r b e f p g h =
    let t = lt-ltb i (length p.bytes) h in
    let v : result_unwrap_or (read_answer m n i) 0 ≡ get_or p.bytes i 0 = simp (g, t) in
    e ∙ ap (λ r. result_unwrap_or r 0) f ∙ v

whole : (size : ℕ) (ps qs : List ℕ) → length ps ≡ size → length qs ≡ size → take size ps ++ drop size qs ≡ ps
whole size ps qs l k = ap (λ (r : List ℕ). take size ps ++ r) (drop_all size qs (omega arith)) ∙ append-nil (take size ps) ∙ take_all size ps (omega arith)

-- made there, filled, and then handed on
pub copied : (a b b1 b2 : Meaning) (n : Name) (size : ℕ) → b1 ≡ make_after b n size → Carried a b1 b2 n size size → Copied a b b2 n size (Ok tt)
copied a b b1 b2 n size made carried p there long ok =
    let q = new_packet n size in
    let x = mixed size p q in
    let e1 : b1 ≡ with_packets b (insert n q b.packets) = made ∙ sym (make_granted b n size ok).1 in
    let f : found b1 n ≡ Some q = ap (λ (w : Meaning). found w n) e1 ∙ lookup-insert-same n q b.packets in
    let e2 : b2 ≡ with_packets b (insert n x b.packets) =
    carried p q there f long (length-replicate size 0)
    ∙ ap (λ (w : Meaning). with_packets w (insert n x w.packets)) e1
    ∙ ap (with_packets b) (insert-twice n x q b.packets) in
    let l : found b2 n ≡ Some x = ap (λ (w : Meaning). found w n) e2 ∙ lookup-insert-same n x b.packets in
    let v : (h : ℕ) → with_holder h x ≡ with_holder h p = λ h. ap (λ (bs : List ℕ). with_holder h (with_bytes bs p)) (whole size p.bytes (replicate size 0) long (length-replicate size 0)) in (
      refl,
      sym (hand_alive b2 n x l 0).0,
      λ h.
          sym (hand_alive b2 n x l h).1
          ∙ ap (λ (w : Meaning). with_packets w (insert n (with_holder h x) w.packets)) e2
          ∙ ap (with_packets b) (insert-twice n (with_holder h x) x b.packets ∙ ap (λ (y : Packet). insert n y b.packets) (v h)),
    )
