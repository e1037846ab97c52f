-- The entries of a schedule, by their places.
use Rattle.std.proofs.Common.{◌≡◌, ℕ, zero, suc, ◌+◌, ◌-◌, ◌*◌, ◌%◌, ◌<◌, ◌≤◌, ◌^◌, min, List, [], ◌∷◌, ◌++◌, length, take, get_or, ◌/◌, Some, refl, sym, ap, ◌∙◌, subst, arith, inl, inr, length-append, append_assoc, append-nil, zero-add}
use Rattle.std.specs.Prelude.{slice_get}
use Rattle.spv_setup.specs.declared.pieces.Piece.{Piece}
use Rattle.spv_setup.specs.Pieces.{piece_entries, pieces_entries, StartFrom, Exists, ArePieces, IsPieceAt}
use Rattle.std.specs.List.{repeat, range_with_len}
use Rattle.std.proofs.Math.Nat.{mod-eq_of_lt, add-mod_left, mod-one}
use Rattle.std.proofs.lemmas.Bool.{cases_lt}
use Rattle.std.proofs.lemmas.List.FromFn.{length-range_with_len, get_or-range_with_len}
use Rattle.std.proofs.lemmas.Option.{slice_get-get_or}

pub length_repeat : (r : ℕ) (xs : List ℕ) → length (repeat r xs) ≡ r * length xs
length_repeat zero xs = omega arith
length_repeat (suc r) xs = length-append xs (repeat r xs) ∙ (let h = length_repeat r xs in grind arith)

pub front_at : (xs ys : List ℕ) (m : ℕ) → m < length xs → slice_get (xs ++ ys) m ≡ slice_get xs m
front_at [] ys m h = absurd (omega arith)
front_at (x ∷ xs) ys zero h = refl
front_at (x ∷ xs) ys (suc m) h = front_at xs ys m (omega arith)

pub back_at : (xs ys : List ℕ) (m : ℕ) → slice_get (xs ++ ys) (length xs + m) ≡ slice_get ys m
back_at [] ys m = let e : 0 + m ≡ m = omega arith in ap (slice_get ys) e
back_at (x ∷ xs) ys m = let e : suc (length xs) + m ≡ suc (length xs + m) = omega arith in ap (slice_get (x ∷ (xs ++ ys))) e ∙ back_at xs ys m

-- the entry of repeated rounds
pub round_at : (r k m : ℕ) → m < r * k → slice_get (repeat r (range_with_len 0 k)) m ≡ Some (m % k)
round_at zero k m h = absurd (omega arith)
round_at (suc r) k m h =
    let xs = range_with_len 0 k in
    let n = length-range_with_len 0 k in
    elim (cases_lt m k) [
      | inl l ↦ (
          let within : m < length xs = omega arith in
          let start : 0 + m ≡ m % k = zero-add m ∙ sym (mod-eq_of_lt l) in
          front_at xs (repeat r xs) m within ∙ slice_get-get_or xs m 0 within ∙ ap Some (get_or-range_with_len 0 k m 0 l ∙ start))
      | inr l ↦ (
          let place : m ≡ length xs + (m - k) = omega arith in
          let rest : m - k < r * k = omega arith in
          let around : k + (m - k) ≡ m = omega arith in
          let turn : (m - k) % k ≡ m % k = sym (add-mod_left k (m - k)) ∙ ap (λ x. x % k) around in
          ap (slice_get (xs ++ repeat r xs)) place ∙ back_at xs (repeat r xs) (m - k) ∙ round_at r k (m - k) rest ∙ ap Some turn)
    ]

pub length_each : (r k : ℕ) → length (repeat r (range_with_len 0 k)) ≡ r * k
length_each r k = length_repeat r (range_with_len 0 k) ∙ ap (λ n. r * n) (length-range_with_len 0 k)

-- the entry of one invocation's turns
pub one_at : (r i m : ℕ) → m < length (repeat r (i ∷ [])) → slice_get (repeat r (i ∷ [])) m ≡ Some i
one_at zero i m h = absurd (omega arith)
one_at (suc r) i zero h = refl
one_at (suc r) i (suc m) h = one_at r i m (omega arith)

-- ---- pieces, one after another

pub entries_push : (k : ℕ) (ps : List Piece) (p : Piece) → pieces_entries k (ps ++ p ∷ []) ≡ pieces_entries k ps ++ piece_entries k p
entries_push k [] p = append-nil (piece_entries k p)
entries_push k (q ∷ ps) p = ap (λ l. piece_entries k q ++ l) (entries_push k ps p) ∙ sym (append_assoc (piece_entries k q) (pieces_entries k ps) (piece_entries k p))

pub starts_push : (k n : ℕ) (ps : List Piece) (p : Piece) → StartFrom k n ps → p.start ≡ n + length (pieces_entries k ps) → Exists k p.turn → StartFrom k n (ps ++ p ∷ [])
starts_push k n [] p h start exists = (omega (arith, start), exists, tt)
starts_push k n (q ∷ ps) p h start exists = (h.0, h.1, starts_push k (n + length (piece_entries k q)) ps p h.2 (omega (arith, start, length-append (piece_entries k q) (pieces_entries k ps))) exists)

-- where a piece stands
pub start_at : (k n : ℕ) (ps : List Piece) (i : ℕ) (p : Piece) → StartFrom k n ps → slice_get ps i ≡ Some p → (p.start ≡ n + length (pieces_entries k (take i ps))) × Exists k p.turn
start_at k n [] i p h e = absurd (none_at i p e)
  where
    none_at : (i : ℕ) (p : Piece) → slice_get [] i ≡ Some p → ⊥
    none_at zero p e = cc
    none_at (suc i) p e = cc
start_at k n (q ∷ ps) zero p h e = let same : q ≡ p = cc in subst (λ r. (r.start ≡ n + 0) × Exists k r.turn) same (omega (arith, h.0), h.1)
start_at k n (q ∷ ps) (suc i) p h e =
    let rest = start_at k (n + length (piece_entries k q)) ps i p h.2 e in
    (omega (arith, rest.0, length-append (piece_entries k q) (pieces_entries k (take i ps))), rest.1)

-- the entries of a piece are those of the schedule from its start on
pub piece_at : (k : ℕ) (ps : List Piece) (i : ℕ) (p : Piece) (m : ℕ) → slice_get ps i ≡ Some p → m < length (piece_entries k p)
    → slice_get (pieces_entries k ps) (length (pieces_entries k (take i ps)) + m) ≡ slice_get (piece_entries k p) m
piece_at k [] zero p m e h = absurd (cc)
piece_at k [] (suc i) p m e h = absurd (cc)
piece_at k (q ∷ ps) zero p m e h =
    let same : q ≡ p = cc in
    let zero_on : 0 + m ≡ m = omega arith in
    ap (slice_get (piece_entries k q ++ pieces_entries k ps)) zero_on ∙ front_at (piece_entries k q) (pieces_entries k ps) m (subst (λ r. m < length (piece_entries k r)) (sym same) h) ∙ ap (λ r. slice_get (piece_entries k r) m) same
piece_at k (q ∷ ps) (suc i) p m e h =
    let place : length (piece_entries k q ++ pieces_entries k (take i ps)) + m ≡ length (piece_entries k q) + (length (pieces_entries k (take i ps)) + m) = omega (arith, length-append (piece_entries k q) (pieces_entries k (take i ps))) in
    ap (slice_get (piece_entries k q ++ pieces_entries k ps)) place ∙ back_at (piece_entries k q) (pieces_entries k ps) (length (pieces_entries k (take i ps)) + m) ∙ piece_at k ps i p m e h

-- the entries up to behind a piece
pub after_piece : (k : ℕ) (ps : List Piece) (i : ℕ) (p : Piece) → slice_get ps i ≡ Some p → length (pieces_entries k (take (suc i) ps)) ≡ length (pieces_entries k (take i ps)) + length (piece_entries k p)
after_piece k [] zero p e = absurd (cc)
after_piece k [] (suc i) p e = absurd (cc)
after_piece k (q ∷ ps) zero p e = let same : q ≡ p = cc in omega (arith, ap (λ r. length (piece_entries k r)) same, length-append (piece_entries k q) [])
after_piece k (q ∷ ps) (suc i) p e = omega (arith, after_piece k ps i p e, length-append (piece_entries k q) (pieces_entries k (take (suc i) ps)), length-append (piece_entries k q) (pieces_entries k (take i ps)))

pub pieces_grow : (k len sum : ℕ) (ps new : List Piece) (p : Piece) → ArePieces k ps len → p.start ≡ len → Exists k p.turn → new ≡ ps ++ p ∷ [] → sum ≡ min (len + length (piece_entries k p)) (2 ^ 64 - 1) → sum ≤ 4194304 → ArePieces k new sum
pieces_grow k len sum ps new p h start exists is sum_is most =
    let start' : p.start ≡ 0 + length (pieces_entries k ps) = omega (arith, start, h.whole) in
    record {
      some = h.some;
      starts = subst (StartFrom k 0) (sym is) (starts_push k 0 ps p h.starts start' exists);
      whole = omega (arith, sum_is, most, h.whole, ap length (entries_push k ps p), length-append (pieces_entries k ps) (piece_entries k p), ap (λ l. length (pieces_entries k l)) is);
      most = most;
    }

pub is_piece : (k len n i : ℕ) (ps : List Piece) (p : Piece) → ArePieces k ps len → slice_get ps i ≡ Some p → length (pieces_entries k (take i ps)) ≤ n → n < length (pieces_entries k (take (suc i) ps)) → IsPieceAt k ps n p
is_piece k len n i ps p h e from to =
    let at = start_at k 0 ps i p h.starts e in
    let m = n - length (pieces_entries k (take i ps)) in
    let behind : m < length (piece_entries k p) = omega (arith, from, to, after_piece k ps i p e) in
    let here : n - p.start ≡ m = omega (arith, at.0) in
    let whole : length (pieces_entries k (take i ps)) + m ≡ n = omega (arith, from) in
    record {
      exists = at.1;
      from = omega (arith, at.0, from);
      to = omega (arith, here, behind);
      entry = ap (slice_get (pieces_entries k ps)) (sym whole) ∙ piece_at k ps i p m e behind ∙ ap (slice_get (piece_entries k p)) (sym here);
    }

pub piece_start : (k len i : ℕ) (ps : List Piece) (d : Piece) → ArePieces k ps len → i < length ps → (get_or ps i d).start ≡ length (pieces_entries k (take i ps))
piece_start k len i ps d h l = let at = start_at k 0 ps i (get_or ps i d) h.starts (slice_get-get_or ps i d l) in omega (arith, at.0)

pub list_grows : (k : ℕ) (ps new : List Piece) (p : Piece) (more : List ℕ) → new ≡ ps ++ p ∷ [] → piece_entries k p ≡ more → pieces_entries k new ≡ pieces_entries k ps ++ more
list_grows k ps new p more is e = ap (pieces_entries k) is ∙ entries_push k ps p ∙ ap (λ l. pieces_entries k ps ++ l) e

pub middle_at : (low high : ℕ) → 1 < high - low → (low < low + (high - low) / 2) × (low + (high - low) / 2 < high)
middle_at low high h = (grind arith, grind arith)

-- the turn of the one invocation
pub one_turn : (n : ℕ) → n % 1 ≡ 0
one_turn n = mod-one n
