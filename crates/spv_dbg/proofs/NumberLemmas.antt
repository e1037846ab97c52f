-- The numbers of debug instructions by their ids, and what is kept under these.
use Rattle.std.proofs.Common.{◌≡◌, ◌∙◌, ℕ, suc, ◌-◌, ◌<◌, ◌≤◌, ◌==◌, Bool, List, [], ◌∷◌, length, zip, slice_get, Option, Some, None, refl, sym, ap, add-one, arith}
use Rattle.std.specs.Prelude.{IfSome}
use Rattle.std.specs.List.{position, position_from, position_or_len}
use Rattle.std.specs.Option.{option_and_then}
use Rattle.std.proofs.lemmas.Grind.{common_steps}
use Rattle.std.proofs.lemmas.List.Folds.{find_at}
use Rattle.std.proofs.lemmas.Iterator.Adapters.{position_from-zero}
use Rattle.spv_base.proofs.Exports.{some_place}
use Rattle.spv_base.specs.Entries.{reads}
use Rattle.spv_index.specs.Places.{places_from}
use Rattle.spv_dbg.specs.declared.insts.DebugInst.{DebugInst}
use Rattle.spv_dbg.specs.Tables.{Tables, ids_of, number_in, with_id}

place_from : (k id : ℕ) (insts : List DebugInst) → reads id (places_from k (ids_of insts)) ≡ position_from (λ (d : DebugInst). d.id == id) k insts
place_from k id [] = refl
place_from k id (d ∷ ds) = rw (add-one k, place_from (suc k) id ds) refl

pub place_is : (id : ℕ) (insts : List DebugInst) → reads id (places_from 0 (ids_of insts)) ≡ position (λ (d : DebugInst). d.id == id) insts
place_is id insts = place_from 0 id insts ∙ sym (position_from-zero (λ (d : DebugInst). d.id == id) insts)

pub number_led : (id : ℕ) (items insts : List DebugInst) (places : List (ℕ × ℕ)) (place : Option ℕ) → items ≡ insts → places ≡ places_from 0 (ids_of items) → place ≡ reads id places
    → place ≡ position (λ (d : DebugInst). d.id == id) insts
number_led id items insts places place same are e = e ∙ ap (reads id) are ∙ place_is id items ∙ ap (λ (xs : List DebugInst). position (λ (d : DebugInst). d.id == id) xs) same

-- a number is one of an instruction
pub number_within : {T : Type 0} (passes : T → Bool) (xs : List T) (o : Option ℕ) → o ≡ position passes xs → IfSome o (λ n. n < length xs)
number_within passes xs None e = tt
number_within passes xs (Some n) e = grind arith

-- ---- what is kept under an id has its place

above : (k : ℕ) (keys : List ℕ) (key n : ℕ) → reads key (places_from k keys) ≡ Some n → k ≤ n
above k [] key n e = absurd (cc)
above k (x ∷ xs) key n e = grind (arith, above (suc k) xs key n)

leads : {T : Type 0} (k : ℕ) (keys : List ℕ) (xs : List T) (key n : ℕ) → reads key (places_from k keys) ≡ Some n → slice_get xs (n - k) ≡ reads key (zip keys xs)
leads k [] xs key n e = absurd (cc)
leads k (x ∷ keys) [] key n e = refl
leads k (x ∷ keys) (y ∷ ys) key n e = grind (arith, common_steps, above (suc k) keys key n, leads (suc k) keys ys key n)

misses : {T : Type 0} (k : ℕ) (keys : List ℕ) (xs : List T) (key : ℕ) → reads key (places_from k keys) ≡ None → reads key (zip keys xs) ≡ None
misses k [] xs key e = refl
misses k (x ∷ keys) [] key e = refl
misses k (x ∷ keys) (y ∷ ys) key e = grind (arith, misses (suc k) keys ys key)

pub kept_under : {T : Type 0} (keys : List ℕ) (xs : List T) (key : ℕ) (place : Option ℕ) → place ≡ reads key (places_from 0 keys) → option_and_then (slice_get xs) place ≡ reads key (zip keys xs)
kept_under keys xs key None e = sym (misses 0 keys xs key (sym e))
kept_under keys xs key (Some n) e = let z : n - 0 ≡ n = omega arith in rw z at (leads 0 keys xs key n (sym e))

pub marks_led : {T : Type 0} (slice items : List T) (keys : List ℕ) (key : ℕ) (places : List (ℕ × ℕ)) (place : Option ℕ) → slice ≡ items → places ≡ places_from 0 keys → place ≡ reads key places
    → option_and_then (slice_get slice) place ≡ reads key (zip keys items)
marks_led slice items keys key places place same are e = rw same (kept_under keys items key place (e ∙ ap (reads key) are))

-- the debug instruction with an id is the one with its number
pub numbered_there : (t : Tables) (id n : ℕ) → number_in t id ≡ Some n → slice_get t.insts n ≡ with_id t id
numbered_there t id n e =
    let has = λ (d : DebugInst). d.id == id in
    let place = some_place (position_or_len has t.insts) (length t.insts) n (sym e) in
    ap (slice_get t.insts) place.0 ∙ sym (find_at has t.insts)
