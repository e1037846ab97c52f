-- Where instructions stand, with one instruction more, and what is kept of it.
use Rattle.std.proofs.Common.{◌≡◌, ◌⊎◌, ◌∙◌, ℕ, ◌+◌, ◌==◌, true, false, List, [], ◌∷◌, ◌++◌, append_assoc, map, take, drop, refl, sym, ap, inl, inr}
use Rattle.std.specs.Prelude.{reverse}
use Rattle.std.proofs.lemmas.Bool.{cases_Bool}
use Rattle.spv_index.specs.Positions.{Stand}
use Rattle.spv_dbg.specs.Tables.{Tables}
use Rattle.spv_scopes.specs.declared.calls.Linked.{Linked}
use Rattle.spv_scopes.specs.Calls.{kept_at, seen, seen_at}
use Rattle.spv_scopes.specs.Spots.{Spot, Spots, entry_at, nowhere, spot_in, spots_from}
use Rattle.spv_scopes.proofs.CallLemmas.{none_of_none}
use Rattle.spv_scopes.proofs.ListLemmas.{back_next}

pub spots_more : (t : Tables) (ss : List Stand) (n : ℕ) (s : Stand) (old new whole : Spots) → drop n ss ≡ s ∷ drop (n + 1) ss → new ≡ old ++ entry_at t (reverse (take n ss)) s
    → old ++ spots_from t (reverse (take n ss)) (drop n ss) ≡ whole → new ++ spots_from t (reverse (take (n + 1) ss)) (drop (n + 1) ss) ≡ whole
spots_more t ss n s old new whole next is h =
    let back = back_next ss n s next in
    let g : old ++ (entry_at t (reverse (take n ss)) s ++ spots_from t (s ∷ reverse (take n ss)) (drop (n + 1) ss)) ≡ whole = ap (λ l. old ++ spots_from t (reverse (take n ss)) l) (sym next) ∙ h in
    ap (λ l. l ++ spots_from t (reverse (take (n + 1) ss)) (drop (n + 1) ss)) is
    ∙ ap (λ b. (old ++ entry_at t (reverse (take n ss)) s) ++ spots_from t b (drop (n + 1) ss)) back
    ∙ append_assoc old (entry_at t (reverse (take n ss)) s) (spots_from t (s ∷ reverse (take n ss)) (drop (n + 1) ss))
    ∙ g

-- what is kept, as it is seen
kept_seen : (calls : List Linked) (entries : List (ℕ × Linked)) (word : ℕ) → seen_at calls (kept_at entries word) ≡ spot_in (map (seen calls) entries) word
kept_seen calls [] word = ap (λ ps. let s : Spot = record { place = nowhere.place; calls = ps } in s) (none_of_none (reverse calls))
kept_seen calls (e ∷ es) word = by_word (kept_seen calls es word) (cases_Bool (e.0 == word))
  where
    by_word : seen_at calls (kept_at es word) ≡ spot_in (map (seen calls) es) word → ((e.0 == word) ≡ true) ⊎ ((e.0 == word) ≡ false) → seen_at calls (kept_at (e ∷ es) word) ≡ spot_in (map (seen calls) (e ∷ es)) word
    by_word h (inl y) = rw y refl
    by_word h (inr n) = rw n h

-- the same, where it has been looked up
pub spot_kept : (calls : List Linked) (entries : List (ℕ × Linked)) (spots : Spots) (word : ℕ) (k : Linked) → map (seen calls) entries ≡ spots → k ≡ kept_at entries word → seen_at calls k ≡ spot_in spots word
spot_kept calls entries spots word k view is = ap (seen_at calls) is ∙ kept_seen calls entries word ∙ ap (λ (l : Spots). spot_in l word) view
