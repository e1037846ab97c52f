-- The registers of a frame stand in the order of its plan.
use Rattle.std.proofs.Common.{◌≡◌, ◌∙◌, ℕ, suc, ◌==◌, Bool, true, List, [], ◌∷◌, Option, Some, length, refl, sym, ap, arith, slice_get, inl, inr}
use borrow.Author.Tests.{eqb-true}
use Rattle.std.specs.List.{zip}
use Rattle.spv_base.specs.Entries.{reads}
use Rattle.spv_base.specs.declared.values.PassedEvent.{PassedEvent}
use Rattle.spv_base.specs.declared.values.Pointer.{Pointer}
use Rattle.spv_base.specs.declared.values.Value.{Value}
use Rattle.spv_frame.specs.Registers.{Planned, ids, marks, number_of}
use Rattle.spv_frame.specs.Frames.{Fits, Held, cells_in, shown, trees}
use Rattle.spv_frame.proofs.RegisterLemmas.{marks_length, number_at}
use Rattle.std.proofs.lemmas.List.{length-map}

-- what is read under a key stands where the key does
pub read_is_get : {X : Type 0} (ks : List ℕ) (xs : List X) (n id : ℕ) (x : X) → number_of id ks ≡ Some n → reads id (zip ks xs) ≡ Some x
    → slice_get (zip ks xs) n ≡ Some (id, x)
read_is_get [] xs n id x h l = cc
read_is_get (k ∷ ks) [] n id x h l = cc
read_is_get {X} (k ∷ ks) (y ∷ xs) n id x h l =
    elim (number_at (k == id) id ks n h) [
      | inl here ↦ first here.0 (rw here.0 at l) here.1
      | inr there ↦ rw there.1.next (read_is_get ks xs there.1.before id x there.1.is (rw there.0 at l))
    ]
  where
    first : (k == id) ≡ true → Some y ≡ Some x → n ≡ 0 → slice_get (zip (k ∷ ks) (y ∷ xs)) n ≡ Some (id, x)
    first t e z = let same : k ≡ id = eqb-true k id t in let value : y ≡ x = cc in rw (z, same, value) refl

zip_long : {X : Type 0} (ks : List ℕ) (xs : List X) → length xs ≡ length ks → length (zip ks xs) ≡ length ks
zip_long [] [] h = refl
zip_long [] (x ∷ xs) h = refl
zip_long (k ∷ ks) [] h = cc
zip_long (k ∷ ks) (x ∷ xs) h = ap suc (zip_long ks xs (omega (arith, h)))

-- ---- frames

pub record Listed (h : Held) : Type 0 where
  pub values : length h.values ≡ length h.plan.values
  pub pointers : length h.pointers ≡ length h.plan.pointers

pub listed : (h : Held) (p : Planned) (pc : ℕ) (row : Value) (has : List Bool) (ps : List (Option Pointer)) (es : List PassedEvent)
    → shown p pc row has ps es ≡ h → Fits p row has ps → Listed h
listed h p pc row has ps es e fits =
    let cells : length (trees row) ≡ length p.values = sym (length-map (trees row) cells_in) ∙ ap length fits.1 ∙ length-map p.values (λ (r : ℕ × ℕ). r.1) in
    let keys : length (ids p.values) ≡ length p.values = length-map p.values (λ (r : ℕ × ℕ). r.0) in
    let long : length (marks (trees row) has) ≡ length (ids p.values) = marks_length (trees row) has (fits.2 ∙ sym cells) ∙ cells ∙ sym keys in
    let values : length (zip (ids p.values) (marks (trees row) has)) ≡ length p.values = zip_long (ids p.values) (marks (trees row) has) long ∙ keys in
    let pointers : length (zip p.pointers ps) ≡ length p.pointers = zip_long p.pointers ps fits.3 in
    record {
      values = sym (ap (λ (x : Held). length x.values) e) ∙ values ∙ ap (λ (x : Held). length x.plan.values) e;
      pointers = sym (ap (λ (x : Held). length x.pointers) e) ∙ pointers ∙ ap (λ (x : Held). length x.plan.pointers) e;
    }

-- what is read in the register with a number stands there
pub value_stands : (h : Held) (p : Planned) (pc : ℕ) (row : Value) (has : List Bool) (ps : List (Option Pointer)) (es : List PassedEvent) (n id : ℕ) (v : Option Value)
    → shown p pc row has ps es ≡ h → number_of id (ids h.plan.values) ≡ Some n → reads id h.values ≡ Some v → slice_get h.values n ≡ Some (id, v)
value_stands h p pc row has ps es n id v e named read =
    ap (λ (x : Held). slice_get x.values n) (sym e)
    ∙ read_is_get (ids p.values) (marks (trees row) has) n id v (ap (λ (x : Held). number_of id (ids x.plan.values)) e ∙ named) (ap (λ (x : Held). reads id x.values) e ∙ read)

pub pointer_stands : (h : Held) (p : Planned) (pc : ℕ) (row : Value) (has : List Bool) (ps : List (Option Pointer)) (es : List PassedEvent) (n id : ℕ) (q : Option Pointer)
    → shown p pc row has ps es ≡ h → number_of id h.plan.pointers ≡ Some n → reads id h.pointers ≡ Some q → slice_get h.pointers n ≡ Some (id, q)
pointer_stands h p pc row has ps es n id q e named read =
    ap (λ (x : Held). slice_get x.pointers n) (sym e)
    ∙ read_is_get p.pointers ps n id q (ap (λ (x : Held). number_of id x.plan.pointers) e ∙ named) (ap (λ (x : Held). reads id x.pointers) e ∙ read)
