-- Zeros laid in one cell of a chain after another.
use Rattle.std.proofs.Common.{◌≡◌, ℕ, ◌+◌, ◌*◌, ◌<◌, ◌≤◌, ◌≢◌, ◌⊎◌, List, length, take, drop, replicate, sym, refl, ap, ◌∙◌, inl, inr, arith, take-take, rules}
use borrow.Rule.Slice.PartMut.{put_mid}
use lib.ListN.{length-replicate}
use Rattle.std.proofs.lemmas.List.{places}
use Rattle.std.proofs.lemmas.Slice.{overwrites}
use Rattle.std.proofs.lemmas.Bool.{cases_eq}
use Rattle.chain.specs.Cells.{nth_cell, cells, cell_bytes, hit, count, Wiped}
use Rattle.store.proofs.Blocks.{block-put, others_put}
use Rattle.chain.proofs.Linked.{hit_same, hit_other, count-append, cells_add, count-nth}

pub wiped_none : (links : List ℕ) (first : ℕ) (memory : List ℕ) → Wiped links first 0 memory memory
wiped_none links first memory = record { long = refl; zeros = λ c h. absurd (omega arith); others = λ c h. refl }

pub count_more : (links : List ℕ) (first k c : ℕ) → count c (cells links first (k + 1)) ≡ count c (cells links first k) + hit c (nth_cell links first k)
count_more links first k c =
    let d = ap (count c) (cells_add links first k 1 (k + 1) refl) ∙ count-append c (cells links first k) (cells links (nth_cell links first k) 1) in
    omega arith

-- the k-th cell is one of the first n
pub nth_inside : (links : List ℕ) (first k n size : ℕ) → k < n → ((c : ℕ) → 1 ≤ count c (cells links first n) → 32 * c + 32 ≤ size) → 32 * nth_cell links first k + 32 ≤ size
nth_inside links first k n size lt w = w (nth_cell links first k) (count-nth links first k n lt)

pub wiped_more : (links : List ℕ) (first k : ℕ) (memory changed ys : List ℕ) (m : ℕ) → Wiped links first k memory changed
    → m ≡ 32 → 32 * nth_cell links first k + 32 ≤ length memory → ys ≡ replicate 32 0
    → Wiped links first (k + 1) memory (put_mid (32 * nth_cell links first k) m changed ys)
wiped_more links first k memory changed ys m w em fits z =
    let d = nth_cell links first k in
    let l = w.long in
    let ly : length ys ≡ m = ap length z ∙ length-replicate {A = ℕ} 32 0 ∙ sym em in
    let f : 32 * d + m ≤ length changed = omega arith in
    let le : m ≤ 32 = omega arith in
    record {
      long = (let e : length (put_mid (32 * d) m changed ys) ≡ length changed = search (rules, overwrites, places) in e ∙ l);
      zeros = λ c h. zero_at c (count_more links first k c) h (cases_eq c d) ly f le;
      others = λ c h. (let s = count_more links first k c in
          let n : c ≢ d = (λ e. let t = hit_same c d e in omega arith) in
          others_put 32 d m changed ys le ly f c n ∙ w.others c (omega arith));
    }
  where
    zero_at : (c : ℕ) → count c (cells links first (k + 1)) ≡ count c (cells links first k) + hit c (nth_cell links first k) → 1 ≤ count c (cells links first (k + 1))
        → (c ≡ nth_cell links first k) ⊎ (c ≡ nth_cell links first k → ⊥) → length ys ≡ m → 32 * nth_cell links first k + m ≤ length changed → m ≤ 32
        → cell_bytes c (put_mid (32 * nth_cell links first k) m changed ys) ≡ replicate 32 0
    zero_at c s h (inl e) ly f le =
        let d = nth_cell links first k in
        ap (λ (x : ℕ). cell_bytes x (put_mid (32 * d) m changed ys)) e
        ∙ sym (take-take 32 32 (drop (32 * d) (put_mid (32 * d) m changed ys)) (omega arith))
        ∙ ap (λ (x : ℕ). take x (cell_bytes d (put_mid (32 * d) m changed ys))) (sym em)
        ∙ block-put 32 d m changed ys le ly f ∙ z
    zero_at c s h (inr n) ly f le =
        let t = hit_other c (nth_cell links first k) n in
        others_put 32 (nth_cell links first k) m changed ys le ly f c n ∙ w.zeros c (omega arith)
