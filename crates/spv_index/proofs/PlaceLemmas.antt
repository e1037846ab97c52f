-- Items that are found by the places of their keys.
use Rattle.std.proofs.Common.{◌≡◌, ◌∙◌, ℕ, suc, ◌-◌, ◌≤◌, ◌==◌, List, [], ◌∷◌, map, Option, Some, None, slice_get, refl, sym, ap, arith}
use Rattle.std.specs.Prelude.{find}
use Rattle.std.specs.Option.{option_and_then, option_map}
use Rattle.std.proofs.lemmas.Grind.{common_steps}
use Rattle.spv_base.specs.Entries.{reads}
use Rattle.spv_index.specs.Places.{keys_of, places_from}

-- a place is one of an item, or behind it
pub place_above : (k : ℕ) (keys : List ℕ) (key n : ℕ) → reads key (places_from k keys) ≡ Some n → k ≤ n
place_above k [] key n e = absurd (cc)
place_above k (x ∷ xs) key n e = grind (arith, place_above (suc k) xs key n)

module _ {T : Type 0} (f : T → ℕ) where
  leads : (k : ℕ) (xs : List T) (key n : ℕ) → reads key (places_from k (map f xs)) ≡ Some n → slice_get xs (n - k) ≡ find (λ x. f x == key) xs
  leads k [] key n e = absurd (cc)
  leads k (x ∷ xs) key n e = grind (arith, common_steps, place_above (suc k) (map f xs) key n, leads (suc k) xs key n)

  misses : (k : ℕ) (xs : List T) (key : ℕ) → reads key (places_from k (map f xs)) ≡ None → find (λ x. f x == key) xs ≡ None
  misses k [] key e = refl
  misses k (x ∷ xs) key e = grind (arith, misses (suc k) xs key)

  pub led : (xs : List T) (key : ℕ) (place : Option ℕ) → place ≡ reads key (places_from 0 (map f xs)) → option_and_then (slice_get xs) place ≡ find (λ x. f x == key) xs
  led xs key None e = sym (misses 0 xs key (sym e))
  led xs key (Some n) e = let z : n - 0 ≡ n = omega arith in rw z at (leads 0 xs key n (sym e))

-- what is found among entries is what stands under the key
pub found_entry : {T : Type 0} (entries : List (ℕ × T)) (key : ℕ) → option_map (λ (e : ℕ × T). e.1) (find (λ (e : ℕ × T). e.0 == key) entries) ≡ reads key entries
found_entry [] key = refl
found_entry (e ∷ es) key = grind (arith, found_entry es key)

-- ---- kept items, as they are seen

pub item_led : {T : Type 0} (f : T → ℕ) (slice items seen : List T) (key : ℕ) (place : Option ℕ) (places : List (ℕ × ℕ)) → slice ≡ items → items ≡ seen
    → places ≡ places_from 0 (map f items) → place ≡ reads key places → option_and_then (slice_get slice) place ≡ find (λ x. f x == key) seen
item_led f slice items seen key place places e s p r = rw (e, ← s) (led f items key place (r ∙ ap (reads key) p))

pub entry_led : {T : Type 0} (slice entries seen : List (ℕ × T)) (key : ℕ) (place : Option ℕ) (places : List (ℕ × ℕ)) → slice ≡ entries → entries ≡ seen
    → places ≡ places_from 0 (keys_of entries) → place ≡ reads key places → option_map (λ (e : ℕ × T). e.1) (option_and_then (slice_get slice) place) ≡ reads key seen
entry_led {T} slice entries seen key place places e s p r =
    ap (option_map (λ (x : ℕ × T). x.1)) (item_led (λ (x : ℕ × T). x.0) slice entries seen key place places e s p r) ∙ found_entry seen key
