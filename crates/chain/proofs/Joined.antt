-- The bytes of cells, one after another.
use Rattle.std.proofs.Common.{◌≡◌, ℕ, zero, suc, ◌+◌, ◌-◌, ◌*◌, ◌<◌, ◌≤◌, List, [], ◌∷◌, ◌++◌, length, get_or, drop, set, replicate, sym, refl, ap, ◌∙◌, arith, length-append, length-drop, length-take, get_or-drop, get_or-take}
use lib.Seq.{set-append_left}
use Rattle.std.proofs.lemmas.List.{replicate-append-replicate, set-append_right, get_or_append_left, get_or-append_right}
use Rattle.chain.specs.Cells.{step, nth_cell, cells, cell_bytes, joined, count, within}
use Rattle.store.proofs.Blocks.{block-set, others-set}
use Rattle.chain.proofs.Linked.{hit_same, hit_none, within-most, inside, count-nth, joined_same}

pub length_cell : (memory : List ℕ) (n c : ℕ) → length memory ≡ 32 * n → c < n → length (cell_bytes c memory) ≡ 32
length_cell memory n c shape h = simp (length-take, length-drop) (omega arith)

pub length-joined : (memory : List ℕ) (n : ℕ) → length memory ≡ 32 * n → (cs : List ℕ) → ((c : ℕ) → count c cs ≤ within c n) → length (joined memory cs) ≡ 32 * length cs
length-joined memory n shape [] w = refl
length-joined memory n shape (c ∷ cs) w =
    let s = hit_same c c refl in
    let a = length_cell memory n c shape (inside c n (count c (c ∷ cs)) (omega arith) (w c)) in
    let r = length-joined memory n shape cs (λ d. let v = w d in omega arith) in
    let e = length-append (cell_bytes c memory) (joined memory cs) in
    omega arith

pub joined-zeros : (memory : List ℕ) (cs : List ℕ) → ((c : ℕ) → 1 ≤ count c cs → cell_bytes c memory ≡ replicate 32 0) → joined memory cs ≡ replicate (32 * length cs) 0
joined-zeros memory [] z = refl
joined-zeros memory (c ∷ cs) z =
    let a = z c (let s = hit_same c c refl in omega arith) in
    let r = joined-zeros memory cs (λ d h. z d (omega arith)) in
    let w : 32 + 32 * length cs ≡ 32 * suc (length cs) = omega arith in
    ap (λ (l : List ℕ). l ++ joined memory cs) a ∙ ap (λ (l : List ℕ). replicate 32 0 ++ l) r ∙ replicate-append-replicate 32 (32 * length cs) 0 ∙ ap (λ (m : ℕ). replicate m 0) w

-- a byte of the q-th cell is set
pub joined-put : (memory : List ℕ) (n : ℕ) → length memory ≡ 32 * n → (links : List ℕ) (c k q r b : ℕ) → ((d : ℕ) → count d (cells links c k) ≤ within d n) → q < k → r < 32
    → joined (set memory (32 * nth_cell links c q + r) b) (cells links c k) ≡ set (joined memory (cells links c k)) (32 * q + r) b
joined-put memory n shape links c zero q r b w h lt = absurd (omega arith)
joined-put memory n shape links c (suc k) zero r b w h lt =
    let s = hit_same c c refl in
    let v = w c in
    let m = within-most c n in
    let a = block-set 32 c r b memory lt in
    let z : count c (cells links (step links c) k) ≡ 0 = omega arith in
    let rest = joined_same memory (set memory (32 * c + r) b) (cells links (step links c) k)
    (λ d g. others-set 32 c r b memory lt d (λ e. let u : count d (cells links (step links c) k) ≡ 0 = ap (λ (x : ℕ). count x (cells links (step links c) k)) e ∙ z in omega arith)) in
    let l = length_cell memory n c shape (inside c n (count c (cells links c (suc k))) (omega arith) v) in
    let i : 32 * 0 + r ≡ r = omega arith in
    (λ t. a t ++ rest t)
    ∙ sym (set-append_left (cell_bytes c memory) (joined memory (cells links (step links c) k)) r b (omega arith))
    ∙ ap (λ (x : ℕ). set (joined memory (cells links c (suc k))) x b) (sym i)
joined-put memory n shape links c (suc k) (suc q) r b w h lt =
    let p = nth_cell links (step links c) q in
    let v = w p in
    let m = within-most p n in
    let g = count-nth links (step links c) q k (omega arith) in
    let a = others-set 32 p r b memory lt c (hit_none p c (omega arith)) in
    let rest = joined-put memory n shape links (step links c) k q r b (λ d. let v = w d in omega arith) (omega arith) lt in
    let s = hit_same c c refl in
    let vc = w c in
    let l = length_cell memory n c shape (inside c n (count c (cells links c (suc k))) (omega arith) vc) in
    let i : 32 * suc q + r - 32 ≡ 32 * q + r = omega arith in
    (λ t. a t ++ rest t)
    ∙ ap (λ (x : ℕ). cell_bytes c memory ++ set (joined memory (cells links (step links c) k)) x b) (sym i)
    ∙ sym (set-append_right (cell_bytes c memory) (joined memory (cells links (step links c) k)) 32 (32 * suc q + r) b l (omega arith))

pub joined_get : (memory : List ℕ) (n : ℕ) → length memory ≡ 32 * n → (links : List ℕ) (c k q r : ℕ) → ((d : ℕ) → count d (cells links c k) ≤ within d n) → q < k → r < 32
    → get_or (joined memory (cells links c k)) (32 * q + r) 0 ≡ get_or memory (32 * nth_cell links c q + r) 0
joined_get memory n shape links c zero q r w h lt = absurd (omega arith)
joined_get memory n shape links c (suc k) zero r w h lt =
    let s = hit_same c c refl in
    let vc = w c in
    let l = length_cell memory n c shape (inside c n (count c (cells links c (suc k))) (omega arith) vc) in
    let i : 32 * 0 + r ≡ r = omega arith in
    ap (λ (x : ℕ). get_or (joined memory (cells links c (suc k))) x 0) i
    ∙ get_or_append_left (cell_bytes c memory) (joined memory (cells links (step links c) k)) 0 r (omega arith)
    ∙ get_or-take 32 (drop (32 * c) memory) r 0 lt ∙ get_or-drop (32 * c) memory r 0
joined_get memory n shape links c (suc k) (suc q) r w h lt =
    let s = hit_same c c refl in
    let vc = w c in
    let l = length_cell memory n c shape (inside c n (count c (cells links c (suc k))) (omega arith) vc) in
    let i : 32 * suc q + r - 32 ≡ 32 * q + r = omega arith in
    get_or-append_right (cell_bytes c memory) (joined memory (cells links (step links c) k)) 32 (32 * suc q + r) 0 l (omega arith)
    ∙ ap (λ (x : ℕ). get_or (joined memory (cells links (step links c) k)) x 0) i
    ∙ joined_get memory n shape links (step links c) k q r (λ d. let v = w d in omega arith) (omega arith) lt
