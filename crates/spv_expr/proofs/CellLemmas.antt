-- The bits of cells and of rows of cells.
use Rattle.std.proofs.Common.{◌≡◌, ◌∙◌, ℕ, zero, suc, ◌+◌, ◌-◌, ◌/◌, ◌%◌, ◌^◌, ◌<◌, ◌≤◌, ◌==◌, Bool, true, List, [], ◌∷◌, ◌++◌, length, Option, Some, None, refl, ap, arith, inl, inr, ◌≢◌, ◌&&◌, nat_le, nat_lt, slice_get, slice_set, get_or-set_same, get_or-set_other, drop, replicate, take, map, get_or}
use Rattle.std.specs.Prelude.{if◌then◌else◌}
use Rattle.std.specs.Option.{option_map_or}
use Rattle.std.proofs.lemmas.Option.{slice_get-get_or}
use Rattle.std.proofs.lemmas.List.{append-nil, get_or-replicate, get_or_past, length-replicate, map-append, take_all, take_more}
use Rattle.std.proofs.Math.ListN.{drop_of_length-le}
use Rattle.std.proofs.lemmas.Nat.{shr-shr}
use Rattle.spv_base.specs.Bits.{bits_of, cell_bits}
use Rattle.spv_base.specs.Cell.{Cell, IsCell}
use Rattle.std.proofs.lemmas.Bool.{cases_eq, cases_lt}
use Rattle.spv_dbg.specs.declared.frames.Bit.{Bit}
use Rattle.spv_expr.specs.Bits as row
use Rattle.spv_expr.specs.Rests.{ArePut, bit_in}

-- ---- one cell

pub length_bits : (defined : Bool) (k n : ℕ) → length (bits_of defined k n) ≡ k
length_bits defined zero n = refl
length_bits defined (suc k) n = ap suc (length_bits defined k (n / 2))

pub bits_there : (defined : Bool) (k n j : ℕ) → j < k → slice_get (bits_of defined k n) j ≡ Some (if defined then Some (n / 2 ^ j % 2 == 1) else None)
bits_there defined zero n j lt = absurd (omega arith)
bits_there defined (suc k) n zero lt = let same : n / 1 ≡ n = omega arith in rw same refl
bits_there defined (suc k) n (suc j) lt =
    let e : n / 2 ^ 1 / 2 ^ j ≡ n / 2 ^ (1 + j) = shr-shr n 1 j in
    let same : 1 + j ≡ suc j = omega arith in
    bits_there defined k (n / 2) j (omega arith) ∙ ap (λ (x : ℕ). Some (if defined then Some (x % 2 == 1) else None)) (e ∙ ap (λ (i : ℕ). n / 2 ^ i) same)

pub cell_count : (c : Cell) → length (cell_bits c) ≡ (if c.width == 1 then 32 else c.width)
cell_count c = length_bits c.defined (if c.width == 1 then 32 else c.width) c.bits

pub count_small : (c : Cell) → IsCell c → length (cell_bits c) ≤ 64
count_small c is = let n : c.width ≤ 64 = is.narrow in rw cell_count (grind arith)

pub bit_shown : (c : Cell) (k : ℕ) → k < length (cell_bits c) → row.shown (cell_bits c) k ≡ row.bound (if c.defined then Some (c.bits / 2 ^ k % 2 == 1) else None)
bit_shown c k lt =
    let count : ℕ = if c.width == 1 then 32 else c.width in
    let below : k < count = rw (cell_count c) at lt in
    ap (λ (o : Option (Option Bool)). option_map_or row.bound o row.unbound) (bits_there c.defined count c.bits k below)

-- ---- bits one after the other

pub one_more : (bs : List (Option Bool)) (k : ℕ) → k < length bs → map row.bound (take (k + 1) bs) ≡ map row.bound (take k bs) ++ row.shown bs k ∷ []
one_more bs k lt =
    let there : slice_get bs k ≡ Some (get_or bs k None) = slice_get-get_or bs k None lt in
    rw (take_more bs k None lt, there) (map-append row.bound (take k bs) (get_or bs k None ∷ []))

-- ---- bits that are put, one after the other

pub put_more : (cells : List Cell) (from : ℕ) (old : List Bit) (at n : ℕ) (bits : List Bit) (bit : Bit) → at ≤ n → n < length bits → bit ≡ row.shown (row.bits_of cells) (from + (n - at))
    → ArePut cells from old at n bits → ArePut cells from old at (n + 1) (slice_set bits n bit)
put_more cells from old at n bits bit le lt is put k = elim (cases_eq k n) [
  | inl same ↦ rw (same, get_or-set_same bits n bit row.unbound lt, is) (grind arith)
  | inr other ↦ rw (get_or-set_other bits n k bit row.unbound other) (put k ∙ between (row.shown (row.bits_of cells) (from + (k - at))) (bit_in old k) at n k other)
]
  where
    between : (a b : Bit) (at n k : ℕ) → k ≢ n → (if nat_le at k && nat_lt k n then a else b) ≡ (if nat_le at k && nat_lt k (n + 1) then a else b)
    between a b at n k other = let same : nat_lt k n ≡ nat_lt k (n + 1) = grind arith in rw same refl

-- ---- lists of bits as a vector has them

pub slice_back : (new items : List Bit) (len : ℕ) → length new ≡ length items → len ≡ length items → take len (new ++ drop (length new) items) ≡ new
slice_back new items len same is =
    let none : drop (length new) items ≡ [] = drop_of_length-le items (omega arith) in
    rw (none, append-nil new) (take_all len new (omega arith))

pub unbound_all : (n k : ℕ) → bit_in (replicate n row.unbound) k ≡ row.unbound
unbound_all n k = elim (cases_lt k n) [
  | inl lt ↦ get_or-replicate n k row.unbound row.unbound lt
  | inr le ↦ get_or_past (replicate n row.unbound) k row.unbound (rw (length-replicate n row.unbound) le)
]

pub are_bits : (bit : ℕ → Bit) (first count : ℕ) (bits : List Bit) → length bits ≡ count → ((k : ℕ) → k < count → bit_in bits k ≡ bit (first + k)) → row.AreBits bit first count bits
are_bits bit first count bits long each = record {
  long = long;
  each = λ k lt. slice_get-get_or bits k row.unbound (omega arith) ∙ ap Some (each k lt);
}

-- all bits of a list are put
pub all_put : (cells : List Cell) (from : ℕ) (old : List Bit) (count : ℕ) (new : List Bit) → ArePut cells from old 0 count new → (k : ℕ) → k < count
    → bit_in new k ≡ row.shown (row.bits_of cells) (from + k)
all_put cells from old count new put k lt =
    let there : (nat_le 0 k && nat_lt k count) ≡ true = grind arith in
    let same : from + (k - 0) ≡ from + k = omega arith in
    put k ∙ rw (there, same) refl
