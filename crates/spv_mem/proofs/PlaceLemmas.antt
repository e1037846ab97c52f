-- Where the part that a path names lies in the row of a variable, by numbers of 64 bits.
use Rattle.std.proofs.Common.{◌≡◌, ◌∙◌, ◌⊎◌, ℕ, ◌+◌, ◌-◌, ◌<◌, ◌≤◌, ◌^◌, true, false, List, [], ◌++◌, append-nil, drop, length, Option, Some, None, inl, inr, refl, sym, ap, subst, arith}
use Rattle.std.specs.Option.{option_map, option_map_or}
use Rattle.std.proofs.Math.Seq.{drop-length, take-length}
use Rattle.std.proofs.Math.Logic.{∥∥₁_elim, ∥∥₁_map}
use Rattle.std.proofs.Props.{props}
use Rattle.std.specs.Coded.{codes}
use Rattle.spv_base.specs.Cell.{Cell}
use Rattle.spv_base.specs.Parts.{part_at}
use Rattle.spv_base.specs.contracts.values.Value.{the_row}
use Rattle.spv_base.specs.declared.values.Value.{Value}
use Rattle.spv_types.specs.Cells.{cells_of}
use Rattle.spv_base.specs.Saturation.{saturated}
use Rattle.spv_types.specs.Leaves.{leaf_of}
use Rattle.spv_types.specs.Rows.{HasRow, Lies, leaves, no_roots}
use Rattle.spv_types.specs.Shapes.{HasShape, reached_type}
use Rattle.spv_types.specs.Types.{Types}
use Rattle.spv_types.proofs.Exports.{shapes_count, lies_within, part_lies, shapes_keep}
use Rattle.spv_base.proofs.Exports.{unsaturated, some_at}
use Rattle.spv_values.specs.Places.{IsRowAt}
use Rattle.spv_mem.specs.Targets.{Fits, elements_in, is_counted, is_past}
use Rattle.spv_mem.proofs.PartLemmas.{Found, NotFound, names}

saturated_none : (o : Option ℕ) → None ≡ option_map saturated o → o ≡ None
saturated_none None h = refl
saturated_none (Some n) h = absurd cc

saturated_some : (o : Option ℕ) (k : ℕ) → Some k ≡ option_map saturated o → (n : ℕ) × (o ≡ Some n) × (k ≡ saturated n)
saturated_some None k h = absurd cc
saturated_some (Some n) k h = let e : k ≡ saturated n = cc in (n, refl, e)

-- what is not past the end of the array is there, or its path is not in the type
abbrev Known : Types → ℕ → List ℕ → Value → Type 0
Known ts id path v = NotFound ts id path v ⊎ Found ts id path v

known : (ts : Types) (id : ℕ) (path : List ℕ) (v : Value) → Fits ts id v → is_past ts (elements_in v) id path ≡ false → Known ts id path v
known ts id path v f low = (names ts no_roots f.sound path id v f.may f.shape).1 low

pub past_none : (ts : Types) (id : ℕ) (path : List ℕ) (v : Value) → ∥ Fits ts id v ∥₁ → is_past ts (elements_in v) id path ≡ true → part_at v path ≡ None
past_none ts id path v fits past = ∥∥₁_elim fits (hlevel (props, codes, the_row.coded)) (λ (f : Fits ts id v). (names ts no_roots f.sound path id v f.may f.shape).0 past)

pub leaf_none : (ts : Types) (id : ℕ) (path : List ℕ) (v : Value) → ∥ Fits ts id v ∥₁ → is_past ts (elements_in v) id path ≡ false → None ≡ option_map saturated (leaf_of ts id path) → part_at v path ≡ None
leaf_none ts id path v fits low h = ∥∥₁_elim fits (hlevel (props, codes, the_row.coded)) (λ (f : Fits ts id v). go (known ts id path v f low))
  where
    go : Known ts id path v → part_at v path ≡ None
    go k = elim k [
      | inl none ↦ none.1
      | inr found ↦ absurd (let e = found.leaf in let g = saturated_none (leaf_of ts id path) h in cc)
    ]

pub type_none : (ts : Types) (id : ℕ) (path : List ℕ) (v : Value) → ∥ Fits ts id v ∥₁ → is_past ts (elements_in v) id path ≡ false → None ≡ reached_type ts id path → part_at v path ≡ None
type_none ts id path v fits low h = ∥∥₁_elim fits (hlevel (props, codes, the_row.coded)) (λ (f : Fits ts id v). go (known ts id path v f low))
  where
    go : Known ts id path v → part_at v path ≡ None
    go k = elim k [
      | inl none ↦ none.1
      | inr found ↦ absurd (let e = found.typed in cc)
    ]

-- a part that is there lies behind the leaves before it
pub record LiesAt (ts : Types) (id : ℕ) (path : List ℕ) (v : Value) (start t : ℕ) : Type 0 where
  pub part : Value
  pub is : part_at v path ≡ Some part
  pub lies : Lies v path part start
  pub size : (is_counted ts t ≡ true) ⊎ (start + length (leaves part) ≡ length (leaves v))
  pub shape : HasShape ts no_roots t part

lies_at : (ts : Types) (id : ℕ) (path : List ℕ) (v : Value) (start t : ℕ) → Fits ts id v → is_past ts (elements_in v) id path ≡ false → length (leaves v) < 2 ^ 64
    → Some start ≡ option_map saturated (leaf_of ts id path) → Some t ≡ reached_type ts id path → LiesAt ts id path v start t
lies_at ts id path v start t f low short leaf typed = go (known ts id path v f low)
  where
    go : Known ts id path v → LiesAt ts id path v start t
    go k = elim k [
      | inl none ↦ absurd (let e = none.0 in let g = saturated_some (leaf_of ts id path) start leaf in let i = g.1 in cc)
      | inr found ↦
          let lies = part_lies ts no_roots f.sound path id found.before v found.part f.shape found.leaf found.is in
          let within : found.before + length (leaves found.part) ≤ length (leaves v) = lies_within v path found.part found.before lies in
          let g = saturated_some (leaf_of ts id path) start leaf in
          let whole : g.0 ≡ found.before = let a = g.1 in let b = found.leaf in cc in
          let small : found.before < 2 ^ 64 = omega (arith, within, short) in
          let same : found.before ≡ start = sym (g.2 ∙ ap saturated whole ∙ unsaturated found.before small) in
          let type : found.type ≡ t = let a = found.typed in cc in
          record {
            part = found.part;
            is = found.is;
            lies = subst (λ (n : ℕ). Lies v path found.part n) same lies;
            size = elim found.size [
              | inl c ↦ inl (subst (λ (k : ℕ). is_counted ts k ≡ true) type c)
              | inr s ↦ inr (subst (λ (n : ℕ). n + length (leaves found.part) ≡ length (leaves v)) same s)
            ];
            shape = (shapes_keep ts no_roots f.sound path id t v found.part found.part f.shape (sym typed) found.is).0;
          }
    ]

pub start_within : (ts : Types) (id : ℕ) (path : List ℕ) (v : Value) (start t : ℕ) → ∥ Fits ts id v ∥₁ → is_past ts (elements_in v) id path ≡ false → length (leaves v) < 2 ^ 64
    → Some start ≡ option_map saturated (leaf_of ts id path) → Some t ≡ reached_type ts id path → start ≤ length (leaves v)
start_within ts id path v start t fits low short leaf typed = ∥∥₁_elim fits (hlevel props) (λ (f : Fits ts id v).
    let l = lies_at ts id path v start t f low short leaf typed in
    let within = lies_within v path l.part start l.lies in
    omega (arith, within))

pub row_there : (ts : Types) (id : ℕ) (path : List ℕ) (v : Value) (start t : ℕ) → ∥ Fits ts id v ∥₁ → is_past ts (elements_in v) id path ≡ false → length (leaves v) < 2 ^ 64
    → Some start ≡ option_map saturated (leaf_of ts id path) → Some t ≡ reached_type ts id path → ∥ HasRow v path start (option_map_or saturated (cells_of ts t) (length (leaves v) - start)) ∥₁
row_there ts id path v start t fits low short leaf typed = ∥∥₁_map fits (λ (f : Fits ts id v).
    let l = lies_at ts id path v start t f low short leaf typed in
    record { part = l.part; is = l.is; lies = l.lies; long = long l (cells_of ts t) refl })
  where
    long : (l : LiesAt ts id path v start t) → (o : Option ℕ) → cells_of ts t ≡ o → length (leaves l.part) ≡ option_map_or saturated o (length (leaves v) - start)
    long l (Some n) e =
        let count : length (leaves l.part) ≡ n = shapes_count ts no_roots t l.part n l.shape e in
        let within = lies_within v path l.part start l.lies in
        let small : n < 2 ^ 64 = omega (arith, count, within, short) in
        count ∙ sym (unsaturated n small)
    long l None e = elim l.size [
      | inl c ↦ absurd (let n = some_at (cells_of ts t) c in let i = n.1 in cc)
      | inr s ↦ omega (arith, s)
    ]

-- the whole of a value lies in its row
pub whole_row : (v : Value) (path : List ℕ) (n : ℕ) → path ≡ [] → n ≡ length (leaves v) → IsRowAt v path 0 n
whole_row v path n none long = subst (λ (p : List ℕ). IsRowAt v p 0 n) (sym none) (subst (λ (k : ℕ). IsRowAt v [] 0 k) (sym long) (record {
  there = refl;
  within = omega arith;
  row = λ w is. take-length (leaves v) ∙ ap leaves (let e : v ≡ w = cc in e);
  written = λ u.
      let zero : length (leaves v) ≡ 0 + length (leaves v) = omega arith in
      sym (ap (λ (ls : List Cell). leaves u ++ ls) (drop-length (leaves v)) ∙ append-nil (leaves u)) ∙ ap (λ (k : ℕ). leaves u ++ drop k (leaves v)) zero;
}))
