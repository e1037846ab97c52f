-- One more place of operations on lists of lanes, for loops that go up.
use Rattle.std.proofs.Common.{◌≡◌, ℕ, zero, suc, ◌+◌, ◌*◌, ◌<◌, ◌≤◌, List, [], ◌∷◌, ◌++◌, map, length, refl, ap, arith, take, get_or}
use Rattle.std.proofs.Math.Nat.{mul-le-mul_right}
use Rattle.std.specs.Simd.Lanes.{zip2}
use Rattle.spv_base.specs.Cell.{Cell}
use Rattle.spv_alu.specs.Lanes.{zip3}

pub map-more : (f : Cell → Cell) (xs : List Cell) (i : ℕ) (x : Cell) → i < length xs → x ≡ get_or xs i x → map f (take (suc i) xs) ≡ map f (take i xs) ++ (f x ∷ [])
map-more f [] i x h e = absurd (omega arith)
map-more f (a ∷ xs) zero x h e = rw e refl
map-more f (a ∷ xs) (suc i) x h e = let h' : i < length xs = omega arith in ap (λ (t : List Cell). f a ∷ t) (map-more f xs i x h' e)

pub zip2-more : (f : Cell → Cell → Cell) (xs ys : List Cell) (i : ℕ) (x y : Cell) → i < length xs → i < length ys → x ≡ get_or xs i x → y ≡ get_or ys i y
    → zip2 f (take (suc i) xs) (take (suc i) ys) ≡ zip2 f (take i xs) (take i ys) ++ (f x y ∷ [])
zip2-more f [] ys i x y h k e g = absurd (omega arith)
zip2-more f (a ∷ xs) [] i x y h k e g = absurd (omega arith)
zip2-more f (a ∷ xs) (b ∷ ys) zero x y h k e g = rw (e, g) refl
zip2-more f (a ∷ xs) (b ∷ ys) (suc i) x y h k e g =
    let h' : i < length xs = omega arith in
    let k' : i < length ys = omega arith in
    ap (λ (t : List Cell). f a b ∷ t) (zip2-more f xs ys i x y h' k' e g)

pub zip3-more : (f : Cell → Cell → Cell → Cell) (xs ys zs : List Cell) (i : ℕ) (x y z : Cell) → i < length xs → i < length ys → i < length zs
    → x ≡ get_or xs i x → y ≡ get_or ys i y → z ≡ get_or zs i z
    → zip3 f (take (suc i) xs) (take (suc i) ys) (take (suc i) zs) ≡ zip3 f (take i xs) (take i ys) (take i zs) ++ (f x y z ∷ [])
zip3-more f [] ys zs i x y z h k l e g j = absurd (omega arith)
zip3-more f (a ∷ xs) [] zs i x y z h k l e g j = absurd (omega arith)
zip3-more f (a ∷ xs) (b ∷ ys) [] i x y z h k l e g j = absurd (omega arith)
zip3-more f (a ∷ xs) (b ∷ ys) (c ∷ zs) zero x y z h k l e g j = rw (e, g, j) refl
zip3-more f (a ∷ xs) (b ∷ ys) (c ∷ zs) (suc i) x y z h k l e g j =
    let h' : i < length xs = omega arith in
    let k' : i < length ys = omega arith in
    let l' : i < length zs = omega arith in
    ap (λ (t : List Cell). f a b c ∷ t) (zip3-more f xs ys zs i x y z h' k' l' e g j)

-- a lane of some width lies within the bits of so many
pub lane_within : (count width index total : ℕ) → index < count → count * width ≤ total → index * width + width ≤ total
lane_within count width index total h k =
    let next : suc index ≤ count = omega arith in
    let up : suc index * width ≤ count * width = mul-le-mul_right width next in
    omega arith
