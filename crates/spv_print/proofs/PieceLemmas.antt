-- The bits that are read for pieces, and the texts of pieces by bits that agree there.
use Rattle.std.proofs.Common.{◌≡◌, ◌∙◌, ℕ, zero, suc, ◌+◌, ◌*◌, ◌^◌, ◌<◌, ◌≤◌, Bool, true, false, ◌&&◌, List, [], ◌∷◌, ◌++◌, length, take, get_or, max, refl, sym, ap, arith}
use Rattle.std.proofs.lemmas.List.{take_more}
use Rattle.spv_alu.specs.Integers.{number_of_bits}
use Rattle.spv_alu.specs.Vectors.{all_below}
use Rattle.spv_dbg.specs.declared.frames.Bit.{Bit}
use Rattle.spv_dbg.specs.Tables.{Tables}
use Rattle.spv_print.specs.declared.leaves.Leaf.{Leaf}
use Rattle.spv_print.specs.declared.pieces.Piece.{Piece}
use Rattle.spv_print.specs.declared.pieces.Piece.TheVariants.{OpenList, CloseList, OpenStruct, CloseStruct, Separator, Rest, Name, Basic, Enum, Unavailable}
use Rattle.spv_print.specs.Leaves.{Bits, digit, is_bound, is_defined, is_shown, leaf_text, number, reading}
use Rattle.spv_print.specs.Pieces.{leaf_end, piece_end, piece_text, pieces_end, text_of}

-- ---- the ends of pieces

pub one_more : (ps : List Piece) (p : Piece) → pieces_end (ps ++ p ∷ []) ≡ max (pieces_end ps) (piece_end p)
one_more [] p = omega arith
one_more (q ∷ ps) p = omega (arith, one_more ps p)

pub end_within : (ps : List Piece) (i : ℕ) (p d : Piece) → i < length ps → get_or ps i d ≡ p → piece_end p ≤ pieces_end ps
end_within [] i p d lt is = absurd (omega (arith, lt))
end_within (q ∷ ps) zero p d lt is = rw (sym is) (omega arith)
end_within (q ∷ ps) (suc i) p d lt is = omega (arith, end_within ps i p d (omega (arith, lt)) is)

pub next_end : (ps : List Piece) (i end : ℕ) (d : Piece) → i < length ps → end ≡ pieces_end (take i ps) → max end (piece_end (get_or ps i d)) ≡ pieces_end (take (i + 1) ps)
next_end ps i end d lt e = rw (take_more ps i d lt, one_more (take i ps) (get_or ps i d), e) refl

-- ---- bits that agree

abbrev pub AgreeBelow : ℕ → Bits → Bits → Type 0
AgreeBelow end a b = (k : ℕ) → k < end → a k ≡ b k

same_tests : (n : ℕ) (f g : ℕ → Bool) → ((i : ℕ) → i < n → f i ≡ g i) → all_below n f ≡ all_below n g
unfolding all_below
same_tests zero f g e = refl
same_tests (suc n) f g e = ap (λ b. b && f n) (same_tests n f g (λ i lt. e i (omega (arith, lt)))) ∙ ap (λ b. all_below n g && b) (e n (omega arith))

same_numbers : (n : ℕ) (f g : ℕ → ℕ) → ((i : ℕ) → i < n → f i ≡ g i) → number_of_bits n f ≡ number_of_bits n g
unfolding number_of_bits
same_numbers zero f g e = refl
same_numbers (suc n) f g e = ap (λ m. m + f n * 2 ^ n) (same_numbers n f g (λ i lt. e i (omega (arith, lt)))) ∙ ap (λ m. number_of_bits n g + m * 2 ^ n) (e n (omega arith))

-- what the bits of a leaf tell, as far as they are read
same_reading : (a b : Bits) (leaf : Leaf) → AgreeBelow (leaf_end leaf) a b → reading a leaf ≡ reading b leaf
same_reading a b leaf agree = by (is_shown leaf) refl
  where
    by : (shown : Bool) → is_shown leaf ≡ shown → reading a leaf ≡ reading b leaf
    by false is = rw is refl
    by true is =
        let bit : (i : ℕ) → i < leaf.size → a (leaf.first + i) ≡ b (leaf.first + i) = λ i lt. agree (leaf.first + i) (rw is (omega (arith, lt))) in
        let bounds : is_bound a leaf ≡ is_bound b leaf = same_tests leaf.size _ _ (λ i lt. ap (λ (x : Bit). x.bound) (bit i lt)) in
        let defineds : is_defined a leaf ≡ is_defined b leaf = same_tests leaf.size _ _ (λ i lt. ap (λ (x : Bit). x.defined) (bit i lt)) in
        let numbers : number a leaf ≡ number b leaf = same_numbers leaf.size _ _ (λ i lt. ap digit (bit i lt)) in
        rw (bounds, defineds, numbers) refl

same_piece : (t : Tables) (a b : Bits) (p : Piece) → AgreeBelow (piece_end p) a b → piece_text t a p ≡ piece_text t b p
same_piece t a b OpenList agree = refl
same_piece t a b CloseList agree = refl
same_piece t a b OpenStruct agree = refl
same_piece t a b CloseStruct agree = refl
same_piece t a b Separator agree = refl
same_piece t a b Rest agree = refl
same_piece t a b (Name member) agree = refl
same_piece t a b (Basic leaf) agree = ap (leaf_text _) (same_reading a b leaf agree)
same_piece t a b (Enum leaf type) agree = ap (leaf_text _) (same_reading a b leaf agree)
same_piece t a b Unavailable agree = refl

pub same_text : (t : Tables) (a b : Bits) (ps : List Piece) → AgreeBelow (pieces_end ps) a b → text_of t a ps ≡ text_of t b ps
same_text t a b [] agree = refl
same_text t a b (p ∷ ps) agree =
    let first = same_piece t a b p (λ k lt. agree k (omega (arith, lt))) in
    let others = same_text t a b ps (λ k lt. agree k (omega (arith, lt))) in
    ap (λ x. x ++ text_of t a ps) first ∙ ap (λ x. piece_text t b p ++ x) others
