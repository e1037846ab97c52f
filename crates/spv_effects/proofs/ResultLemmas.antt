-- The results of operations on lanes are lanes of a width whose numbers fit it.
use Rattle.std.proofs.Common.{◌≡◌, ◌∙◌, ℕ, suc, ◌+◌, ◌*◌, ◌%◌, ◌^◌, ◌<◌, ◌≤◌, ◌==◌, ◌&&◌, nat_le, nat_lt, Bool, true, false, List, [], ◌∷◌, ◌++◌, map, length, length-append, ◌⊎◌, slice_set, refl, sym, ap, subst, arith, inl, inr}
use Rattle.std.specs.Prelude.{if◌then◌else◌}
use Rattle.std.proofs.Math.ListN.{length-map}
use Rattle.std.proofs.lemmas.Bool.{cases_lt}
use Rattle.std.proofs.lemmas.List.{get_or_past, length-replicate, length-set}
use Rattle.std.proofs.lemmas.List.Elements.{All-append, All-get_or, All-head, All-map, All-nil, All-cons, All-set, All-tail, All-weaker}
use Rattle.std.proofs.lemmas.List.FromFn.{length-map-range_with_len}
use Rattle.std.proofs.lemmas.Nat.{pow_pos}
use Rattle.std.proofs.lemmas.Nat.Bits.{bit_at-lt}
use Rattle.std.proofs.lemmas.Simd.{length-zip2}
use Rattle.std.specs.List.{All, range_with_len}
use Rattle.std.specs.Simd.Lanes.{zip2}
use Rattle.spv_base.specs.Cell.{IsCell, Cell, undefined_cell, HasWidth}
use Rattle.spv_alu.specs.Binary.{BinaryRow, BinaryWidths, binary_lane, binary_result, binary_row, binary_width}
use Rattle.spv_alu.specs.Binary as binary
use Rattle.spv_alu.specs.Extended.{extended_lanes}
use Rattle.spv_alu.specs.Fields.{field_defined, field_lane, field_result, field_row}
use Rattle.spv_alu.specs.Glsl.{GlslRow, clamp, glsl_lane, glsl_result, glsl_row, of_one, of_two}
use Rattle.spv_alu.specs.Integers.{number_of_bits}
use Rattle.spv_alu.specs.Results.{defined_if, integer, truth}
use Rattle.spv_alu.specs.Select.{select_of, selected, conditions}
use Rattle.spv_alu.specs.Unary.{UnaryRow, UnaryWidths, arithmetic, conversion, logical, unary_lane, unary_result, unary_row}
use Rattle.spv_alu.specs.Vectors.{bitcast_of, component_at, component_width, joined_bit, vector_lane, vector_row}
use Rattle.spv_alu.specs.declared.binary_op.BinaryOp.{BinaryOp}
use Rattle.spv_alu.specs.declared.extended_op.ExtendedOp.{ExtendedOp}
use Rattle.spv_alu.specs.declared.field_op.FieldOp.{FieldOp}
use Rattle.spv_alu.specs.declared.glsl_op.GlslOp.{GlslOp}
use Rattle.spv_alu.specs.declared.unary_op.UnaryOp.{UnaryOp}
use Rattle.spv_alu.specs.declared.vector_op.VectorOp.{VectorOp}
use Rattle.spv_alu.proofs.Exports.{number_of_bits_below, integer_has_width, truth_has_width, defined_has_width}
use Rattle.spv_effects.specs.BinaryOps.{MayMeet}
use Rattle.spv_effects.specs.Bitcasts.{MayCast}
use Rattle.spv_effects.specs.ExtendedOps.{MayExtend, high_lanes, low_lanes}
use Rattle.spv_effects.specs.Fields.{HaveFields}
use Rattle.spv_effects.specs.GlslOps.{MayJoin}
use Rattle.spv_effects.specs.Lanes.{AreScalars}
use Rattle.spv_effects.specs.Selects.{MaySelect}
use Rattle.spv_effects.specs.UnaryOps.{MayTurn}
use Rattle.spv_effects.specs.Vectors.{component, shuffled, with_component}
use Rattle.spv_alu.specs.Lanes.{zip3}

-- ---- one lane

pub undefined_fits : (w : ℕ) → w ≤ 64 → HasWidth w (undefined_cell w)
undefined_fits w h = (refl, record { narrow = h; fits = pow_pos w; zero = λ e. refl })

-- ---- unary operations

unary_fits : (row : UnaryRow) (v n w : ℕ) → UnaryWidths row v w → HasWidth w (unary_result row v n w)
unary_fits (conversion f) v n w h = integer_has_width w (f v n) h.1.1
unary_fits (arithmetic f) v n w h = integer_has_width w (f w n) (subst (λ (k : ℕ). k ≤ 64) (sym h.1) h.0.1)
unary_fits (logical f) v n w h = subst (λ (k : ℕ). HasWidth k (truth (f (n == 1)))) (sym h.1) (truth_has_width (f (n == 1)))

pub unary_scalars : (op : UnaryOp) (width n : ℕ) (cs : List Cell) → MayTurn op width cs n → AreScalars width n (map (λ c. unary_lane op c width) cs)
unary_scalars op width n cs m =
    let f : Cell → Cell = λ c. unary_lane op c width in
    let each : (c : Cell) → c.width ≡ m.from → HasWidth width (f c) =
    λ c e. defined_has_width c.defined width (unary_result (unary_row op) c.width c.bits width) (unary_fits (unary_row op) c.width c.bits width (subst (λ (k : ℕ). UnaryWidths (unary_row op) k width) (sym e) m.fits)) in
    record { count = length-map cs f ∙ m.operand.count; fit = All-map (HasWidth width) f cs (All-weaker (λ (c : Cell). c.width ≡ m.from) (λ (c : Cell). HasWidth width (f c)) each cs m.operand.widths) }

-- ---- two operands

zip2_fits : (P R Q : Cell → Type 0) (f : Cell → Cell → Cell) (cs ds : List Cell) → ((c d : Cell) → P c → R d → Q (f c d)) → All P cs → All R ds → All Q (zip2 f cs ds)
zip2_fits P R Q f [] ds each p r = All-nil Q
zip2_fits P R Q f (c ∷ cs) [] each p r = All-nil Q
zip2_fits P R Q f (c ∷ cs) (d ∷ ds) each p r =
    All-cons Q (f c d) (zip2 f cs ds) (each c d (All-head P c cs p) (All-head R d ds r)) (zip2_fits P R Q f cs ds each (All-tail P c cs p) (All-tail R d ds r))

binary_fits : (row : BinaryRow) (v w x y : ℕ) → BinaryWidths row v w → HasWidth (binary_width row v) (binary_result row v x y)
binary_fits (binary.arithmetic f) v w x y h = integer_has_width v _ h.0.1
binary_fits (binary.unsigned_division f) v w x y h = defined_has_width _ v _ (integer_has_width v _ h.0.1)
binary_fits (binary.signed_division f) v w x y h = defined_has_width _ v _ (integer_has_width v _ h.0.1)
binary_fits (binary.logical f) v w x y h = truth_has_width _
binary_fits (binary.unsigned_comparison f) v w x y h = truth_has_width _
binary_fits (binary.signed_comparison f) v w x y h = truth_has_width _
binary_fits (binary.shift f) v w x y h = defined_has_width _ v _ (integer_has_width v _ h.0.1)

pub binary_scalars : (op : BinaryOp) (n : ℕ) (cs ds : List Cell) (m : MayMeet op cs ds n) → AreScalars (binary_width (binary_row op) m.v) n (zip2 (binary_lane op) cs ds)
binary_scalars op n cs ds m =
    let row : BinaryRow = binary_row op in
    let w : ℕ = binary_width row m.v in
    let each : (c d : Cell) → c.width ≡ m.v → d.width ≡ m.w → HasWidth w (binary_lane op c d) =
    λ c d e g. defined_has_width (c.defined && d.defined) w (binary_result row c.width c.bits d.bits)
    (subst (λ (k : ℕ). HasWidth w (binary_result row k c.bits d.bits)) (sym e) (binary_fits row m.v m.w c.bits d.bits m.fits)) in
    record {
      count = length-zip2 (binary_lane op) cs ds (m.first.count ∙ sym m.second.count) ∙ m.first.count;
      fit = zip2_fits (λ (c : Cell). c.width ≡ m.v) (λ (d : Cell). d.width ≡ m.w) (HasWidth w) (binary_lane op) cs ds each m.first.widths m.second.widths;
    }

pub field_scalars : (op : FieldOp) (o k : Cell) (n : ℕ) (cs ds : List Cell) (m : HaveFields cs ds n) → AreScalars m.width n (zip2 (λ c d. field_lane op c d o k) cs ds)
field_scalars op o k n cs ds m =
    let f : Cell → Cell → Cell = λ c d. field_lane op c d o k in
    let each : (c d : Cell) → c.width ≡ m.width → Unit {0} → HasWidth m.width (f c d) =
    λ c d e u. subst (λ (w : ℕ). HasWidth w (f c d)) e
    (defined_has_width (field_defined op c.defined d.defined o.defined k.defined) c.width (field_result op c.width c.bits d.bits o.bits k.bits)
    (defined_has_width (nat_le (o.bits + k.bits) c.width) c.width (integer c.width (field_row op c.width c.bits d.bits o.bits k.bits))
    (integer_has_width c.width (field_row op c.width c.bits d.bits o.bits k.bits) (subst (λ (w : ℕ). w ≤ 64) (sym e) m.fits.1)))) in
    record {
      count = length-zip2 f cs ds (m.base.count ∙ sym m.insert) ∙ m.base.count;
      fit = zip2_fits (λ (c : Cell). c.width ≡ m.width) (λ (d : Cell). Unit {0}) (HasWidth m.width) f cs ds each m.base.widths (λ i d below. tt);
    }

pub low_scalars : (op : ExtendedOp) (n : ℕ) (cs ds : List Cell) (m : MayExtend cs ds n) → AreScalars m.width m.half (low_lanes op cs ds)
low_scalars op n cs ds m =
    let f : Cell → Cell → Cell = λ c d. (extended_lanes op c d).0 in
    let each : (c d : Cell) → c.width ≡ m.width → d.width ≡ m.width → HasWidth m.width (f c d) =
    λ c d e g. subst (λ (w : ℕ). HasWidth w (f c d)) e (defined_has_width _ c.width _ (integer_has_width c.width _ (subst (λ (w : ℕ). w ≤ 64) (sym e) m.fits.1))) in
    record {
      count = length-zip2 f cs ds (m.first.count ∙ sym m.second.count) ∙ m.first.count;
      fit = zip2_fits (λ (c : Cell). c.width ≡ m.width) (λ (d : Cell). d.width ≡ m.width) (HasWidth m.width) f cs ds each m.first.widths m.second.widths;
    }

pub high_scalars : (op : ExtendedOp) (n : ℕ) (cs ds : List Cell) (m : MayExtend cs ds n) → AreScalars m.width m.half (high_lanes op cs ds)
high_scalars op n cs ds m =
    let f : Cell → Cell → Cell = λ c d. (extended_lanes op c d).1 in
    let each : (c d : Cell) → c.width ≡ m.width → d.width ≡ m.width → HasWidth m.width (f c d) =
    λ c d e g. subst (λ (w : ℕ). HasWidth w (f c d)) e (defined_has_width _ c.width _ (integer_has_width c.width _ (subst (λ (w : ℕ). w ≤ 64) (sym e) m.fits.1))) in
    record {
      count = length-zip2 f cs ds (m.first.count ∙ sym m.second.count) ∙ m.first.count;
      fit = zip2_fits (λ (c : Cell). c.width ≡ m.width) (λ (d : Cell). d.width ≡ m.width) (HasWidth m.width) f cs ds each m.first.widths m.second.widths;
    }

-- ---- three operands

zip3_fits : (P R S Q : Cell → Type 0) (f : Cell → Cell → Cell → Cell) (cs ds es : List Cell) → ((c d e : Cell) → P c → R d → S e → Q (f c d e)) → All P cs → All R ds → All S es → All Q (zip3 f cs ds es)
zip3_fits P R S Q f [] ds es each p r s = All-nil Q
zip3_fits P R S Q f (c ∷ cs) [] es each p r s = All-nil Q
zip3_fits P R S Q f (c ∷ cs) (d ∷ ds) [] each p r s = All-nil Q
zip3_fits P R S Q f (c ∷ cs) (d ∷ ds) (e ∷ es) each p r s =
    All-cons Q (f c d e) (zip3 f cs ds es) (each c d e (All-head P c cs p) (All-head R d ds r) (All-head S e es s))
    (zip3_fits P R S Q f cs ds es each (All-tail P c cs p) (All-tail R d ds r) (All-tail S e es s))

pub length-zip3 : (f : Cell → Cell → Cell → Cell) (xs ys zs : List Cell) → length xs ≡ length ys → length xs ≡ length zs → length (zip3 f xs ys zs) ≡ length xs
length-zip3 f [] ys zs h g = refl
length-zip3 f (x ∷ xs) [] zs h g = absurd (omega arith)
length-zip3 f (x ∷ xs) (y ∷ ys) [] h g = absurd (omega arith)
length-zip3 f (x ∷ xs) (y ∷ ys) (z ∷ zs) h g =
    let e : length xs ≡ length ys = omega arith in
    let k : length xs ≡ length zs = omega arith in
    ap suc (length-zip3 f xs ys zs e k)

glsl_fits : (row : GlslRow) (w a b c : ℕ) → w ≤ 64 → HasWidth w (glsl_result row w a b c)
glsl_fits (of_one f) w a b c h = integer_has_width w _ h
glsl_fits (of_two f) w a b c h = integer_has_width w _ h
glsl_fits (clamp f) w a b c h = defined_has_width _ w _ (integer_has_width w _ h)

pub glsl_scalars : (op : GlslOp) (n : ℕ) (cs ds es : List Cell) (m : MayJoin cs ds es n) → AreScalars m.width n (zip3 (glsl_lane op) cs ds es)
glsl_scalars op n cs ds es m =
    let each : (c d e : Cell) → c.width ≡ m.width → d.width ≡ m.width → e.width ≡ m.width → HasWidth m.width (glsl_lane op c d e) =
    λ c d e g h k. subst (λ (w : ℕ). HasWidth w (glsl_lane op c d e)) g
    (defined_has_width _ c.width _ (glsl_fits (glsl_row op) c.width c.bits d.bits e.bits (subst (λ (w : ℕ). w ≤ 64) (sym g) m.fits.1))) in
    record {
      count = length-zip3 (glsl_lane op) cs ds es (m.first.count ∙ sym m.second.count) (m.first.count ∙ sym m.third.count) ∙ m.first.count;
      fit = zip3_fits (λ (c : Cell). c.width ≡ m.width) (λ (d : Cell). d.width ≡ m.width) (λ (e : Cell). e.width ≡ m.width) (HasWidth m.width) (glsl_lane op) cs ds es each m.first.widths m.second.widths m.third.widths;
    }

-- ---- bits and truths

bitcast_fits : (cs : List Cell) (w i : ℕ) → w ≤ 64 → HasWidth w (bitcast_of cs w i)
unfolding bitcast_of
bitcast_fits cs w i h =
    let bit : ℕ → ℕ = λ k. joined_bit cs (i * w + k) in
    let below : number_of_bits w bit < 2 ^ w = number_of_bits_below w bit (λ k. bit_at-lt (component_at cs (i * w + k)).bits ((i * w + k) % component_width cs)) in
    defined_has_width _ w _ (refl, record { narrow = h; fits = below; zero = λ e. absurd (cc) })

pub bitcast_scalars : (count width : ℕ) (cs : List Cell) → MayCast count width cs → AreScalars width count (map (bitcast_of cs width) (range_with_len 0 count))
bitcast_scalars count width cs m = record {
  count = length-map-range_with_len (bitcast_of cs width) 0 count;
  fit = All-map (HasWidth width) (bitcast_of cs width) (range_with_len 0 count) (λ k d below. bitcast_fits cs width _ m.to.1);
}

pub truth_scalars : (op : VectorOp) (cs : List Cell) → AreScalars 1 1 (vector_lane op cs ∷ [])
truth_scalars op cs = record { count = refl; fit = All-cons (HasWidth 1) (vector_lane op cs) [] (defined_has_width _ 1 _ (truth_has_width (vector_row op cs))) (All-nil (HasWidth 1)) }

-- ---- selections and components

select_fits : (w : ℕ) (c a b : Cell) → HasWidth w a → HasWidth w b → HasWidth w (select_of c a b)
select_fits w c a b h g = defined_has_width (c.defined && a.defined && b.defined) w (if c.bits == 1 then a else b) (chosen (c.bits == 1))
  where
    chosen : (t : Bool) → HasWidth w (if t then a else b)
    chosen true = h
    chosen false = g

conditions_count : (cs : List Cell) (n : ℕ) → (length cs ≡ 1) ⊎ (length cs ≡ n) → length (conditions cs n) ≡ n
conditions_count [] n h = elim h [ inl e ↦ absurd (omega arith) | inr e ↦ e ]
conditions_count (c ∷ []) n h = length-replicate n c
conditions_count (c ∷ (d ∷ cs)) n h = elim h [ inl e ↦ absurd (omega arith) | inr e ↦ e ]

pub selected_scalars : (w n : ℕ) (cs xs ys : List Cell) → MaySelect cs xs ys n → AreScalars w n xs → AreScalars w n ys → AreScalars w n (selected cs xs ys)
selected_scalars w n cs xs ys m a b =
    let any : Cell → Type 0 = λ (c : Cell). Unit {0} in
    let long : length (conditions cs (length xs)) ≡ n = ap (λ (k : ℕ). length (conditions cs k)) a.count ∙ conditions_count cs n m.governs in
    record {
      count = length-zip3 select_of (conditions cs (length xs)) xs ys (long ∙ sym a.count) (long ∙ sym b.count) ∙ long;
      fit = zip3_fits any (HasWidth w) (HasWidth w) (HasWidth w) select_of (conditions cs (length xs)) xs ys (λ c x y u h g. select_fits w c x y h g) (λ i d below. tt) a.fit b.fit;
    }

chosen_lane : (c x y : Cell) → y.width ≡ x.width → IsCell x → IsCell y → ((select_of c x y).width ≡ x.width) × IsCell (select_of c x y)
chosen_lane c x y e h g = select_fits x.width c x y (refl, h) (e, g)

selected_all : (cs xs ys : List Cell) → length cs ≡ length xs → map (λ (c : Cell). c.width) xs ≡ map (λ (c : Cell). c.width) ys → All IsCell xs → All IsCell ys
    → (map (λ (c : Cell). c.width) (zip3 select_of cs xs ys) ≡ map (λ (c : Cell). c.width) xs) × All IsCell (zip3 select_of cs xs ys)
selected_all [] [] ys h e p q = (refl, All-nil IsCell)
selected_all [] (x ∷ xs) ys h e p q = absurd (omega arith)
selected_all (c ∷ cs) [] ys h e p q = absurd (omega arith)
selected_all (c ∷ cs) (x ∷ xs) [] h e p q = cc
selected_all (c ∷ cs) (x ∷ xs) (y ∷ ys) h e p q =
    let same : y.width ≡ x.width = cc in
    let rest : map (λ (z : Cell). z.width) xs ≡ map (λ (z : Cell). z.width) ys = cc in
    let count : length cs ≡ length xs = omega arith in
    let one = chosen_lane c x y same (All-head IsCell x xs p) (All-head IsCell y ys q) in
    let more = selected_all cs xs ys count rest (All-tail IsCell x xs p) (All-tail IsCell y ys q) in
    (rw (one.0, more.0) refl, All-cons IsCell (select_of c x y) (zip3 select_of cs xs ys) one.1 more.1)

pub selected_widths : (cs xs ys : List Cell) (n : ℕ) → MaySelect cs xs ys n → All IsCell xs → All IsCell ys
    → (map (λ (c : Cell). c.width) (selected cs xs ys) ≡ map (λ (c : Cell). c.width) xs) × All IsCell (selected cs xs ys)
selected_widths cs xs ys n m p q =
    let long : length (conditions cs (length xs)) ≡ length xs = ap (λ (k : ℕ). length (conditions cs k)) m.objects.count ∙ conditions_count cs n m.governs ∙ sym m.objects.count in
    selected_all (conditions cs (length xs)) xs ys long m.objects.widths p q

-- the width of the components of a vector that has some
first_fits : (w n : ℕ) (cs : List Cell) → 0 < length cs → AreScalars w n cs → HasWidth w (undefined_cell (component_width cs))
first_fits w n cs h s =
    let first = All-get_or (HasWidth w) cs 0 (undefined_cell 0) h s.fit in
    subst (λ (k : ℕ). HasWidth k (undefined_cell (component_width cs))) first.0 (undefined_fits (component_width cs) first.1.narrow)

component_fits : (w n : ℕ) (cs : List Cell) (i : ℕ) → 0 < length cs → AreScalars w n cs → HasWidth w (component cs i)
component_fits w n cs i h s = elim (cases_lt i (length cs)) [
  | inl below ↦ All-get_or (HasWidth w) cs i (undefined_cell (component_width cs)) below s.fit
  | inr past ↦ subst (HasWidth w) (sym (get_or_past cs i (undefined_cell (component_width cs)) past)) (first_fits w n cs h s)
]

pub extracted_scalars : (w n : ℕ) (cs : List Cell) (index : Cell) → 0 < length cs → AreScalars w n cs → AreScalars w 1 (defined_if index.defined (component cs index.bits) ∷ [])
extracted_scalars w n cs index h s = record {
  count = refl;
  fit = All-cons (HasWidth w) (defined_if index.defined (component cs index.bits)) [] (defined_has_width index.defined w (component cs index.bits) (component_fits w n cs index.bits h s)) (All-nil (HasWidth w));
}

pub inserted_scalars : (w n : ℕ) (cs : List Cell) (c index : Cell) → HasWidth w c → AreScalars w n cs → AreScalars w n (with_component cs c index)
inserted_scalars w n cs c index h s = go (index.defined && nat_lt index.bits (length cs))
  where
    go : (t : Bool) → AreScalars w n (if t then slice_set cs index.bits c else map (λ (d : Cell). undefined_cell d.width) cs)
    go true = record { count = length-set cs index.bits c ∙ s.count; fit = All-set (HasWidth w) cs index.bits c h s.fit }
    go false =
        let each : (d : Cell) → HasWidth w d → HasWidth w (undefined_cell d.width) = λ d k. subst (λ (v : ℕ). HasWidth v (undefined_cell d.width)) k.0 (undefined_fits d.width k.1.narrow) in
        record {
          count = length-map cs (λ (d : Cell). undefined_cell d.width) ∙ s.count;
          fit = All-map (HasWidth w) (λ (d : Cell). undefined_cell d.width) cs (All-weaker (HasWidth w) (λ (d : Cell). HasWidth w (undefined_cell d.width)) each cs s.fit);
        }

pub shuffled_scalars : (w n m : ℕ) (cs ds : List Cell) (numbers : List ℕ) → 0 < length cs → AreScalars w n cs → AreScalars w m ds → AreScalars w (length numbers) (map (shuffled cs ds) numbers)
shuffled_scalars w n m cs ds numbers h s t =
    let both : AreScalars w (length cs + length ds) (cs ++ ds) = record { count = length-append cs ds; fit = All-append (HasWidth w) cs ds s.fit t.fit } in
    let long : 0 < length (cs ++ ds) = rw (length-append cs ds) (omega arith) in
    let each : (number : ℕ) → HasWidth w (shuffled cs ds number) = λ number. one (number == 4294967295) (component_fits w (length cs + length ds) (cs ++ ds) number long both) in
    record { count = length-map numbers (shuffled cs ds); fit = All-map (HasWidth w) (shuffled cs ds) numbers (λ k d below. each _) }
  where
    one : (test : Bool) {c : Cell} → HasWidth w c → HasWidth w (if test then undefined_cell (component_width cs) else c)
    one true g = first_fits w n cs h s
    one false g = g
